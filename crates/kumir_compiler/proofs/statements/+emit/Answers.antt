use Rattle.std.proofs.Common.{◌≡◌, suc, ◌+◌, ◌-◌, ◌<◌, ◌∷◌, ◌++◌, length, Some, None, refl, sym, ap, ◌∙◌, subst, arith}
use Rattle.kumir_tree.specs.Seen.{tree, some_tree}
use Rattle.kumir_tree.specs.Program.{Declare, Times, While, Count, Forever, Until, Choose, Select}
use Rattle.kumir_tree.specs.Parts.{declares_of}
use Rattle.kumir_tree.specs.Blocks.{act_of, block_of, arms_of}
use Rattle.kumir_tree.specs.declared.statement.Case.{out-Case}
use Rattle.kumir_tree.proofs.Views.{act_declare, act_times, act_while, act_count, act_forever, act_until, act_choose, act_select}
use Rattle.kumir_meaning.specs.Program.{act_names}
use Rattle.kumir_meaning.specs.Store.{Local}
use Rattle.stack_code.specs.declared.instruction.Instruction.TheVariants as instruction
use Rattle.kumir_compiler.specs.Sites.{on, slot}
use Rattle.kumir_compiler.specs.ExpressionCode.{tree_code}
use Rattle.kumir_compiler.specs.LoopCode.{while_code, turns_code, forever_code}
use Rattle.kumir_compiler.specs.StatementCode.{stride_code, block_code}
use Rattle.kumir_compiler.specs.SitesSeen.{site_of, with_locals, EndsWith}
use Rattle.kumir_compiler.specs.BlocksPut.{IsAct, PutsBlock}
use Rattle.kumir_compiler.proofs.BlocksInFront.{goes_on}
use Rattle.kumir_compiler.proofs.LoopsInFront.{loop_acts, forever_ends, until_acts, closed_acts}
use Rattle.kumir_compiler.proofs.ChoicesInFront as choice
use Rattle.kumir_compiler.proofs.ChoicesInFront.{choose_acts, select_is, case_made}
use Rattle.kumir_compiler.proofs.statements.+emit.Goals as goal

-- ---- blocks
pub emit_block-loop-at-preserved : goal.emit_block-loop-at-preserved
emit_block-loop-at-preserved t c =
    let within = c.loop-at.invariant.within in
    let some = c.loop-at-test.true in
    let e : c.loop-at.at ≡ suc (c.loop-at.at - 1) = omega (arith, some) in
    let lt : c.loop-at.at - 1 < length c.args.block.now = omega (arith, some, within) in
    record {
      within = omega (arith, within);
      puts = λ room ends. goes_on c.args.site.now c.args.block.now c.loop-at.at (c.loop-at.at - 1) c.in_ok-locals.locals c.loop-at.locals c.args.hidden c.args.exit c.index-block-at.result c.args.out.now c.loop-at.out c.emit_statement.new.out
          e lt c.index-block-at.is room (c.loop-at.invariant.puts room ends) (c.in_ok-locals.ensures {u = tt});
    }

-- ---- what a statement does
pub emit_act-returns-in-Declare : goal.emit_act-returns-in-Declare
emit_act-returns-in-Declare t c =
    let is : act_of c.args.what.now ≡ Declare (declares_of c.in-Declare.declared) = ap act_of c.in-Declare.is ∙ act_declare c.in-Declare.declared in
    closed_acts c.put_declare.result c.args.site.now c.args.hidden c.args.exit (Declare (declares_of c.in-Declare.declared)) (act_of c.args.what.now) c.args.out.now c.put_declare.new.out is c.put_declare.ensures

pub emit_act-returns-in-Times : goal.emit_act-returns-in-Times
emit_act-returns-in-Times t c =
    let body = c.as_slice-in-Times in
    let is : act_of c.args.what.now ≡ Times (tree c.in-Times.e) (block_of body.result.now) = ap act_of c.in-Times.is ∙ act_times c.in-Times.e c.in-Times.body ∙ ap (λ b. Times (tree c.in-Times.e) (block_of b)) (sym body.ensures) in
    closed_acts c.emit_times.result c.args.site.now c.args.hidden c.args.exit (Times (tree c.in-Times.e) (block_of body.result.now)) (act_of c.args.what.now) c.args.out.now c.emit_times.new.out is c.emit_times.ensures

pub emit_act-returns-in-While : goal.emit_act-returns-in-While
emit_act-returns-in-While t c =
    let body = c.as_slice-in-While in
    let is : act_of c.args.what.now ≡ While (tree c.in-While.e) (block_of body.result.now) = ap act_of c.in-While.is ∙ act_while c.in-While.e c.in-While.body ∙ ap (λ b. While (tree c.in-While.e) (block_of b)) (sym body.ensures) in
    closed_acts c.emit_while.result c.args.site.now c.args.hidden c.args.exit (While (tree c.in-While.e) (block_of body.result.now)) (act_of c.args.what.now) c.args.out.now c.emit_while.new.out is c.emit_while.ensures

pub emit_act-returns-in-Count : goal.emit_act-returns-in-Count
emit_act-returns-in-Count t c =
    let body = c.as_slice-in-Count in
    let x = c.in-Count.variable in
    let from = c.in-Count.from in
    let to = c.in-Count.to in
    let step = c.in-Count.step in
    let is : act_of c.args.what.now ≡ Count x (tree from) (tree to) (some_tree step) (block_of body.result.now) =
    ap act_of c.in-Count.is ∙ act_count x from to step c.in-Count.body ∙ ap (λ b. Count x (tree from) (tree to) (some_tree step) (block_of b)) (sym body.ensures) in
    closed_acts c.emit_count.result c.args.site.now c.args.hidden c.args.exit (Count x (tree from) (tree to) (some_tree step) (block_of body.result.now)) (act_of c.args.what.now) c.args.out.now c.emit_count.new.out is c.emit_count.ensures

pub emit_act-returns-in-Forever : goal.emit_act-returns-in-Forever
emit_act-returns-in-Forever t c =
    let body = c.as_slice-in-Forever in
    let is : act_of c.args.what.now ≡ Forever (block_of body.result.now) = ap act_of c.in-Forever.is ∙ act_forever c.in-Forever.body ∙ ap (λ b. Forever (block_of b)) (sym body.ensures) in
    closed_acts c.emit_forever.result c.args.site.now c.args.hidden c.args.exit (Forever (block_of body.result.now)) (act_of c.args.what.now) c.args.out.now c.emit_forever.new.out is c.emit_forever.ensures

pub emit_act-returns-in-Until : goal.emit_act-returns-in-Until
emit_act-returns-in-Until t c =
    let body = c.as_slice-in-Until in
    let line = c.in-Until.line in
    let is : act_of c.args.what.now ≡ Until (block_of body.result.now) line (tree c.in-Until.e) =
    ap act_of c.in-Until.is ∙ act_until c.in-Until.body line c.in-Until.e ∙ ap (λ b. Until (block_of b) line (tree c.in-Until.e)) (sym body.ensures) in
    closed_acts c.emit_until.result c.args.site.now c.args.hidden c.args.exit (Until (block_of body.result.now) line (tree c.in-Until.e)) (act_of c.args.what.now) c.args.out.now c.emit_until.new.out is c.emit_until.ensures

pub emit_act-returns-in_ok-put_test-in-Choose : goal.emit_act-returns-in_ok-put_test-in-Choose
emit_act-returns-in_ok-put_test-in-Choose t c = λ room ends.
    let s = c.args.site.now in
    let over = c.in_ok-other-in-Choose.ensures {u = tt} in
    let e = tree c.in-Choose.e in
    let first = block_of c.as_slice-in-Choose-2.result.now in
    let second = block_of c.as_slice-in-Choose.result.now in
    let is : act_of c.args.what.now ≡ Choose e first second =
    ap act_of c.in-Choose.is ∙ act_choose c.in-Choose.e c.in-Choose.a c.in-Choose.b ∙ ap (λ x. Choose e (block_of x) (block_of c.in-Choose.b)) (sym c.as_slice-in-Choose-2.ensures) ∙ ap (λ x. Choose e first (block_of x)) (sym c.as_slice-in-Choose.ensures) in
    subst (λ a. IsAct s c.in_ok-start-in-Choose.start c.args.hidden c.args.exit a c.args.out.now c.put_test.new.out) (sym is)
    (choose_acts s c.in_ok-start-in-Choose.start c.in_ok-middle-in-Choose.middle c.args.hidden c.args.exit c.count-end.result c.in_ok-other-in-Choose.other e first second c.args.out.now c.emit_block.new.out c.put_over.new.out c.emit_block-in-Choose.new.out c.put_test.new.out
    room (subst (λ a. EndsWith s (act_names a)) is ends) c.count-end.ensures (c.in_ok-middle-in-Choose.ensures {u = tt}) over.code over.other (c.in_ok-start-in-Choose.ensures {u = tt}) (c.in_ok-put_test-in-Choose.ensures {u = tt}))

pub emit_act-returns-in_ok-middle-in-Select : goal.emit_act-returns-in_ok-middle-in-Select
emit_act-returns-in_ok-middle-in-Select t c =
    let arms = arms_of c.as_slice-in-Select-2.result.now in
    let last = block_of c.as_slice-in-Select.result.now in
    let is : act_of c.args.what.now ≡ Select arms last =
    ap act_of c.in-Select.is ∙ act_select c.in-Select.cases c.in-Select.b ∙ ap (λ x. Select (arms_of x) (block_of c.in-Select.b)) (sym c.as_slice-in-Select-2.ensures) ∙ ap (λ x. Select arms (block_of x)) (sym c.as_slice-in-Select.ensures) in
    select_is c.emit_cases.result c.args.site.now c.in_ok-middle-in-Select.middle c.args.hidden c.args.exit c.count-end-in-Select.result (act_of c.args.what.now) arms last c.args.out.now c.emit_block-in-Select.new.out _
    is c.count-end-in-Select.ensures (c.in_ok-middle-in-Select.ensures {u = tt}) c.emit_cases.ensures

-- ---- loops
pub emit_times-returns : goal.emit_times-returns
emit_times-returns t c =
    let s = c.args.site.now in
    let start = c.in_ok-start.start in
    let d = c.args.hidden in
    let e = tree c.args.e.now in
    let b = block_of c.args.body.now in
    let kept = c.in_ok-kept.kept in
    let test = tree_code e (with_locals s start) d in
    let first = c.in_ok-end.ensures {u = tt} in
    loop_acts s start d (d + 1) c.in_ok-end.end b (Times e b) (λ body. test ++ (on (site_of s) (instruction.Times kept) ∷ turns_code kept None body (site_of s))) c.args.out.now c.begin_back.new.out c.emit_block.new.out c.end_times.new.out
    first.end first.code (c.in_ok-start.ensures {u = tt}) (c.in_ok-end_times.ensures {u = tt}) refl
    (λ after. ap (λ x. test ++ (on (site_of s) (instruction.Times x) ∷ turns_code x None (block_code b (with_locals s start) (d + 1) 1) (site_of s))) (c.in_ok-kept.ensures {u = tt}))

pub emit_while-returns : goal.emit_while-returns
emit_while-returns t c =
    let s = c.args.site.now in
    let start = c.in_ok-start.start in
    let d = c.args.hidden in
    let e = tree c.args.e.now in
    let b = block_of c.args.body.now in
    let first = c.in_ok-end.ensures {u = tt} in
    loop_acts s start d d c.in_ok-end.end b (While e b) (λ body. while_code (tree_code e (with_locals s start) d) body (site_of s)) c.args.out.now c.begin_back.new.out c.emit_block.new.out c.end_while.new.out
    first.end first.code (c.in_ok-start.ensures {u = tt}) (c.in_ok-end_while.ensures {u = tt}) refl (λ after. refl)

pub emit_count-returns : goal.emit_count-returns
emit_count-returns t c =
    let s = c.args.site.now in
    let start = c.in_ok-start.start in
    let here = with_locals s start in
    let d = c.args.hidden in
    let turns = c.args.turns.now in
    let from = tree turns.from.now in
    let to = tree turns.to.now in
    let step = some_tree turns.step.now in
    let x = turns.variable.now in
    let b = block_of c.args.body.now in
    let kept = c.in_ok-kept.kept in
    let first = c.in_ok-end.ensures {u = tt} in
    loop_acts s start d (d + 1) c.in_ok-end.end b (Count x from to step b)
    (λ body. tree_code from here d ++ (tree_code to here d ++ (stride_code step here d ++ (on (site_of s) (instruction.Turns kept) ∷ turns_code kept (Some (slot (site_of s) (Local x))) body (site_of s))))) c.args.out.now c.begin_back.new.out c.emit_block.new.out c.end_count.new.out
    first.end first.code (c.in_ok-start.ensures {u = tt}) (c.in_ok-end_count.ensures {u = tt}) refl
    (λ after. ap (λ n. tree_code from here d ++ (tree_code to here d ++ (stride_code step here d ++ (on (site_of s) (instruction.Turns n) ∷ turns_code n (Some (slot (site_of s) (Local x))) (block_code b here (d + 1) 1) (site_of s))))) (c.in_ok-kept.ensures {u = tt}))

pub emit_forever-returns : goal.emit_forever-returns
emit_forever-returns t c =
    let s = c.args.site.now in
    let b = block_of c.args.body.now in
    let first = c.in_ok-end.ensures {u = tt} in
    loop_acts s c.in_ok-start.start c.args.hidden c.args.hidden c.in_ok-end.end b (Forever b) (λ body. forever_code body (site_of s)) c.args.out.now c.begin_back.new.out c.emit_block.new.out c.step_back.new.out
    first.end first.code (c.in_ok-start.ensures {u = tt}) (forever_ends (site_of s) c.in_ok-end.end c.emit_block.new.out c.step_back.new.out (c.in_ok-step_back.ensures {u = tt})) refl (λ after. refl)

pub emit_until-returns : goal.emit_until-returns
emit_until-returns t c =
    let first = c.in_ok-end.ensures {u = tt} in
    until_acts c.args.site.now c.in_ok-start.start c.args.hidden c.in_ok-end.end c.args.line (block_of c.args.body.now) (tree c.args.e.now) c.args.out.now c.begin_until.new.out c.emit_block.new.out c.step_back_on_no.new.out
    first.end first.code (c.in_ok-start.ensures {u = tt}) (c.in_ok-step_back_on_no.ensures {u = tt})

-- ---- `выбор`
pub emit_cases-loop-at-preserved : goal.emit_cases-loop-at-preserved
emit_cases-loop-at-preserved t c =
    let within = c.loop-at.invariant.within in
    let some = c.loop-at-test.true in
    let e : c.loop-at.at ≡ suc (c.loop-at.at - 1) = omega (arith, some) in
    let lt : c.loop-at.at - 1 < length c.args.cases.now = omega (arith, some, within) in
    record {
      within = omega (arith, within);
      puts = λ last base room ends is long. choice.goes_on c.args.site.now c.args.cases.now c.loop-at.at (c.loop-at.at - 1) c.in_ok-locals.locals c.loop-at.locals c.args.hidden c.args.exit c.args.end c.index-cases-at.result last base c.loop-at.out c.emit_case.new.out
          e lt c.index-cases-at.is room long (c.loop-at.invariant.puts last base room ends is long) (c.in_ok-locals.ensures {u = tt});
    }

pub emit_case-returns : goal.emit_case-returns
emit_case-returns t c =
    let s = c.args.site.now in
    let start = c.in_ok-start.start in
    let parts = out-Case c.args.case.now in
    let over = c.in_ok-other.ensures {u = tt} in
    let row : c.in-Some.line ≡ s.first + parts.line = omega (arith, c.in-Some.ensures) in
    let body = subst (λ b. PutsBlock s start c.args.hidden c.args.exit (block_of b) c.put_over.new.out c.emit_block.new.out) c.as_slice.ensures (c.in_ok-start.ensures {u = tt}) in
    case_made s start c.args.hidden c.args.exit c.args.end c.in_ok-other.other parts.line c.in-Some.line (tree parts.condition) (block_of parts.body) c.args.out.now c.put_over.new.out c.emit_block.new.out c.put_test.new.out
    row over.code over.other body (c.in_ok-put_test.ensures {u = tt})
