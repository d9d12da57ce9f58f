use Rattle.std.proofs.Common.{◌≡◌, ◌∷◌, [], Some, sym, ap, ◌∙◌, subst}
use Rattle.std.proofs.lemmas.Result.{IfOk-weaker}
use Rattle.kumir_tree.specs.Seen.{tree, some_tree}
use Rattle.kumir_meaning.specs.Store.{Local}
use Rattle.stack_code.specs.declared.instruction.Instruction.TheVariants as instruction
use Rattle.kumir_compiler.specs.Sites.{on, slot}
use Rattle.kumir_compiler.specs.ExpressionCode.{tree_code}
use Rattle.kumir_compiler.specs.LoopCode.{turns_code}
use Rattle.kumir_compiler.specs.StatementCode.{stride_code}
use Rattle.kumir_compiler.specs.SitesSeen.{site_of, with_locals}
use Rattle.kumir_compiler.specs.BlocksPut.{BecomesLoop}
use Rattle.kumir_compiler.proofs.LoopsInFront.{in_front, range_in_front}
use Rattle.kumir_compiler.proofs.loops.end_count.Goals as goal

pub returns : goal.returns
returns c =
    let t = site_of c.args.site.now in
    let u = with_locals c.args.site.now c.args.start in
    let d = c.args.hidden in
    let counts = c.args.turns.now in
    let found = c.in_ok-variable.ensures {u = tt} in
    let begin = on t (instruction.Turns c.args.kept) in
    let own = subst (λ x. BecomesLoop t c.args.end (λ body. turns_code c.args.kept (Some x) body t) c.args.out.now c.end_turns.new.out) found (c.in_ok-end_turns.ensures {u = tt}) in
    let turns = in_front t c.args.end (λ body. turns_code c.args.kept (Some (slot t (Local counts.variable.now))) body t) (begin ∷ []) c.args.out.now c.end_turns.new.out c.put.new.out own (c.in_ok-put.ensures {u = tt}) in
    IfOk-weaker c.put_range.result _ _
    (λ _ put. range_in_front t c.args.end (λ body. begin ∷ turns_code c.args.kept (Some (slot t (Local counts.variable.now))) body t) (tree_code (tree counts.from.now) u d) (tree_code (tree counts.to.now) u d) (stride_code (some_tree counts.step.now) u d)
    c.args.out.now c.put.new.out c.put_range.new.out turns put) c.put_range.ensures
