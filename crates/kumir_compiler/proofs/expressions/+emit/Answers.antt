use Rattle.std.proofs.Common.{◌≡◌, ◌+◌, ◌++◌, ◌≤◌, ◌<◌, ◌-◌, suc, min, length, map, drop, sym, ap, ◌∙◌, arith}
use Rattle.kumir_tree.specs.Seen.{tree, trees}
use Rattle.kumir_tree.specs.Parts.{formal_of}
use Rattle.kumir_compiler.specs.Code.{tree_code, arguments_code, keeps}
use Rattle.kumir_compiler.specs.PendingCode.{code_of}
use Rattle.kumir_compiler.specs.CallsSeen.{keeps_in}
use Rattle.kumir_compiler.specs.SitesSeen.{site_of}
use Rattle.kumir_compiler.proofs.CodeInFront.{no_shorter}
use Rattle.kumir_compiler.proofs.ArgumentsInFront.{no_keeps_past, no_code_past, one_argument, one_keeps, own_kept}
use Rattle.kumir_compiler.proofs.expressions.+emit.Goals as goal

pub emit_sized-overflow_sub-result : goal.emit_sized-overflow_sub-result
emit_sized-overflow_sub-result t c =
    let n = no_shorter c.emit_tree.new.out c.args.out.now (tree_code (tree c.args.e.now) (site_of c.args.site.now) c.args.hidden) (c.in_ok-emit_tree.ensures {u = tt}) in
    omega (arith, c.count-before.ensures, c.count.ensures, n)

pub emit_sized-returns-clause-size : goal.emit_sized-returns-clause-size
emit_sized-returns-clause-size t c =
    let n = no_shorter c.emit_tree.new.out c.args.out.now (tree_code (tree c.args.e.now) (site_of c.args.site.now) c.args.hidden) (c.in_ok-emit_tree.ensures {u = tt}) in
    omega (arith, c.count-before.ensures, c.count.ensures, n)

pub emit_arguments-loop-at-init : goal.emit_arguments-loop-at-init
emit_arguments-loop-at-init t c =
    let n = c.min-at.result in
    let params = c.args.params.now in
    let all = c.args.all.now in
    let is = c.min-at.ensures in
    let le : min (length params) (length all) ≤ c.min-at.result = omega (arith, is) in
    let none_kept = no_keeps_past params all n le in
    let first = c.in_ok-kept.ensures {u = tt} in
    record {
      params = omega (arith, is);
      all = omega (arith, is);
      kept = omega (arith, none_kept, first);
      code = sym (ap (λ l. l ++ code_of c.args.out.now) (no_code_past params all n (site_of c.args.site.now) c.in_ok-kept.kept le));
    }

pub emit_arguments-returns : goal.emit_arguments-returns
emit_arguments-returns t c =
    let es = trees c.args.all.now in
    let ps = map formal_of c.args.params.now in
    let at_first : c.loop-at.at ≡ 0 = omega (arith, c.loop-at-test.false) in
    let kept = ap (λ n. c.loop-at.kept + keeps_in (trees (drop n c.args.all.now)) (map formal_of (drop n c.args.params.now))) (sym at_first) ∙ c.loop-at.invariant.kept in
    let same : c.loop-at.kept ≡ c.args.hidden = omega (arith, kept) in
    c.loop-at.invariant.code
    ∙ ap (λ n. arguments_code (trees (drop n c.args.all.now)) (map formal_of (drop n c.args.params.now)) (site_of c.args.site.now) c.loop-at.kept ++ code_of c.args.out.now) at_first
    ∙ ap (λ d. arguments_code es ps (site_of c.args.site.now) d ++ code_of c.args.out.now) same

pub emit_arguments-overflow_sub-kept : goal.emit_arguments-overflow_sub-kept
emit_arguments-overflow_sub-kept t c =
    let some = c.loop-at-test.true in
    let k = c.loop-at.at - 1 in
    let params = c.args.params.now in
    let all = c.args.all.now in
    let inv = c.loop-at.invariant in
    let e : c.loop-at.at ≡ suc (c.loop-at.at - 1) = omega (arith, some) in
    let lp : c.loop-at.at - 1 < length params = omega (arith, some, inv.params) in
    let la : c.loop-at.at - 1 < length all = omega (arith, some, inv.all) in
    own_kept params all c.loop-at.at k c.loop-at.kept c.args.hidden c.kept_by-kept.result c.index-params-at.result c.index-all-at.result e lp la c.index-params-at.is c.index-all-at.is inv.kept c.kept_by-kept.ensures

pub emit_arguments-loop-at-preserved : goal.emit_arguments-loop-at-preserved
emit_arguments-loop-at-preserved t c =
    let some = c.loop-at-test.true in
    let k = c.loop-at.at - 1 in
    let params = c.args.params.now in
    let all = c.args.all.now in
    let inv = c.loop-at.invariant in
    let p = c.index-params-at.result in
    let x = c.index-all-at.result in
    let e : c.loop-at.at ≡ suc (c.loop-at.at - 1) = omega (arith, some) in
    let lp : c.loop-at.at - 1 < length params = omega (arith, some, inv.params) in
    let la : c.loop-at.at - 1 < length all = omega (arith, some, inv.all) in
    let le = own_kept params all c.loop-at.at k c.loop-at.kept c.args.hidden c.kept_by-kept.result p x e lp la c.index-params-at.is c.index-all-at.is inv.kept c.kept_by-kept.ensures in
    let one = one_keeps params all k p x lp la c.index-params-at.is c.index-all-at.is in
    let behind = ap (λ n. keeps_in (trees (drop n all)) (map formal_of (drop n params))) e in
    let sum : (c.loop-at.kept - c.kept_by-kept.result) + keeps (formal_of p).bounds (formal_of p).mode (tree x) ≡ c.loop-at.kept = omega (arith, le, c.kept_by-kept.ensures) in
    record {
      params = omega (arith, inv.params);
      all = omega (arith, inv.all);
      kept = omega (arith, one, behind, inv.kept, le, c.kept_by-kept.ensures);
      code = one_argument params all k p x (site_of c.args.site.now) (c.loop-at.kept - c.kept_by-kept.result) c.loop-at.kept (code_of c.emit_argument.new.out) (code_of c.loop-at.out) (code_of c.args.out.now)
          lp la c.index-params-at.is c.index-all-at.is sum
          (inv.code ∙ ap (λ n. arguments_code (trees (drop n all)) (map formal_of (drop n params)) (site_of c.args.site.now) c.loop-at.kept ++ code_of c.args.out.now) e)
          (c.in_ok-emit_argument.ensures {u = tt});
    }
