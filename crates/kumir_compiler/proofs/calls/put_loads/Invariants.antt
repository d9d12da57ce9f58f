use Rattle.std.proofs.Common.{◌≡◌, [], ◌++◌, map}
use Rattle.stack_code.specs.declared.instruction.Instruction.TheVariants as instruction
use Rattle.kumir_compiler.specs.Code.{on, kept_at}
use Rattle.kumir_compiler.specs.PendingCode.{code_of}
use Rattle.kumir_compiler.specs.SitesSeen.{site_of}
use Rattle.kumir_compiler.proofs.calls.put_loads.Given as goal

abbrev pub invariant-loop-at : goal.invariant-loop-at
invariant-loop-at l = code_of l.out ≡ map (λ x. on (site_of l.site) (instruction.Load x)) (kept_at l.at l.first []) ++ code_of l.fn.out
