use Rattle.std.proofs.Common.{◌≡◌, ◌∷◌, [], None}
use Rattle.std.proofs.lemmas.Result.{IfOk-weaker}
use Rattle.kumir_tree.specs.Seen.{tree}
use Rattle.stack_code.specs.declared.instruction.Instruction.TheVariants as instruction
use Rattle.kumir_compiler.specs.Sites.{on}
use Rattle.kumir_compiler.specs.ExpressionCode.{tree_code}
use Rattle.kumir_compiler.specs.LoopCode.{turns_code}
use Rattle.kumir_compiler.specs.SitesSeen.{site_of, with_locals}
use Rattle.kumir_compiler.proofs.LoopsInFront.{in_front}
use Rattle.kumir_compiler.proofs.loops.end_times.Goals as goal

pub returns : goal.returns
returns c =
    let t = site_of c.args.site.now in
    let begin = on t (instruction.Times c.args.kept) in
    let turns = in_front t c.args.end (λ body. turns_code c.args.kept None body t) (begin ∷ []) c.args.out.now c.end_turns.new.out c.put.new.out (c.in_ok-end_turns.ensures {u = tt}) (c.in_ok-put.ensures {u = tt}) in
    IfOk-weaker c.emit_tree.result _ _
    (λ _ put. in_front t c.args.end (λ body. begin ∷ turns_code c.args.kept None body t) (tree_code (tree c.args.e.now) (with_locals c.args.site.now c.args.start) c.args.hidden) c.args.out.now c.put.new.out c.emit_tree.new.out turns put) c.emit_tree.ensures
