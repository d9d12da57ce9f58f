use Rattle.std.proofs.Common.{◌≡◌, Bool, false}
use Rattle.std.specs.Prelude.{replicate}
use Rattle.std.proofs.lemmas.Result.{IfOk-weaker}
use Rattle.robot_field.specs.Board.{no_cells}
use Rattle.robot_field.proofs.field.no_cells.Goals as goal

pub returns-clause-cells : goal.returns-clause-cells
unfolding no_cells
returns-clause-cells c =
    IfOk-weaker c.vec.result (λ v. ((y : Bool) → y ≡ false → y ≡ false) → v.items ≡ replicate 16384 false) (λ v. v.items ≡ replicate 16384 false)
    (λ v each. each (λ y same. same)) c.vec.ensures.items_if_clones_equal
