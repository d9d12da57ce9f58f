-- Why a program is not without fault.
use Rattle.std.specs.Prelude.{◌≢◌, List, []}
use Rattle.std.specs.Bool.{⊤}
use Rattle.kumir_tree.specs.declared.unit.Fault.{Fault}
use Rattle.type_check.specs.declared.refusal.CleanRefusal.{CleanRefusal}
use Rattle.type_check.specs.declared.refusal.CleanRefusal.TheVariants.{Faults, Memory}
use Rattle.type_check.specs.Margin.{IsMarginOf}

-- the margin of the faults, which has marks; or want of memory
abbrev pub IsRefusalOf : List Fault → CleanRefusal → Type 0
IsRefusalOf faults (Faults margin) = IsMarginOf faults margin × (margin ≢ [])
IsRefusalOf faults Memory = ⊤
