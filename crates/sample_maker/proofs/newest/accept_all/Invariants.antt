use Rattle.std.proofs.Common.{◌≡◌, fold, length}
use Rattle.script_lines.specs.Answer.{with_ask}
use Rattle.sample_maker.proofs.newest.accept_all.Given as goal

abbrev pub invariant-loop-requests : goal.invariant-loop-requests
invariant-loop-requests l =
    fold (λ edits request. with_ask edits request.ask) l.versions l.requests ≡ fold (λ edits request. with_ask edits request.ask) l.fn.versions l.initial.requests

abbrev pub decreases-loop-requests : goal.decreases-loop-requests
decreases-loop-requests l = length l.requests
