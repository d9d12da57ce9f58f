-- Instructions that concern the algorithm that runs alone, and the slots that they write.
use Rattle.std.specs.Prelude.{◌≡◌, ℕ, ◌<◌, Bool, true, false, List, length, IfSome}
use Rattle.stack_code.specs.declared.instruction.Instruction.{Instruction}
use Rattle.stack_code.specs.declared.instruction.CommandShape.TheVariants.{Robot, Pen}
use Rattle.stack_code.specs.declared.instruction.Instruction.TheVariants.{PutElem, Make, Step, Input, Ask, Call, Return, Store, Clear, Times, Turns, Next, Add, Sub, Mul, Pow, Neg, Div, Mod, Abs, Min, Max, Eq, Ne, Lt, Le, Gt, Ge, EqTruth, NeTruth, Not}
use Rattle.stack_code.specs.declared.unit.CodeUnit.{CodeUnit}
use Rattle.stack_code.specs.Validity.{names_fit}

-- it takes no step, input or reply, and enters or leaves no algorithm
abbrev pub is_local : Instruction → Bool
is_local Step = false
is_local (Input k) = false
is_local (Ask (Robot c)) = false
is_local (Ask (Pen c)) = true
is_local (Call u places) = false
is_local Return = false
is_local i = true

-- an operator or a built-in algorithm on the operands on top
abbrev pub is_operator : Instruction → Bool
is_operator Add = true
is_operator Sub = true
is_operator Mul = true
is_operator Pow = true
is_operator Neg = true
is_operator Div = true
is_operator Mod = true
is_operator Abs = true
is_operator Min = true
is_operator Max = true
is_operator Eq = true
is_operator Ne = true
is_operator Lt = true
is_operator Le = true
is_operator Gt = true
is_operator Ge = true
is_operator EqTruth = true
is_operator NeTruth = true
is_operator Not = true
is_operator i = false

-- the slots that it writes are there
abbrev pub FitsIn : ℕ → Instruction → Type 0
FitsIn n (Store x) = x < n
FitsIn n (Clear x) = x < n
FitsIn n (PutElem x d) = x < n
FitsIn n (Make x k d) = x < n
FitsIn n (Times x) = x < n
FitsIn n (Turns x) = x < n
FitsIn n (Next x v a) = (x < n) × IfSome v (λ y. y < n)
FitsIn n i = Unit {0}

-- in valid code they are
abbrev pub ValidLinesFit : Type 0
ValidLinesFit = (units : List CodeUnit) (u : CodeUnit) (i : Instruction) → names_fit units u i ≡ true → FitsIn (length u.slots) i
