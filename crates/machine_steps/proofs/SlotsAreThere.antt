-- Slots that valid code writes are there.
use Rattle.std.proofs.Common.{◌≡◌, ℕ, ◌<◌, Bool, true, false, List, length, Option, Some, None, refl}
use Rattle.std.specs.Prelude.{slice_get, ◌||◌, ◌&&◌, IfSome}
use Rattle.kumir_tree.specs.declared.kind.Kind.TheVariants as kind
use Rattle.std.proofs.lemmas.Option.{slice_get_within}
use Rattle.stack_code.specs.declared.instruction.Instruction.TheVariants.{Push, Drop, Load, Elem, PutElem, Probe, Make, Fit, Add, Sub, Mul, Pow, Neg, Div, Mod, Abs, Min, Max, Eq, Ne, Lt, Le, Gt, Ge, EqTruth, NeTruth, Not, Jump, JumpNo, Step, Out, OutText, OutLine, Input, Assert, Quit, Ask, Call, Return, Store, Clear, Times, Turns, Next}
use Rattle.stack_code.specs.declared.unit.Shape.{Shape}
use Rattle.stack_code.specs.Validity.{is_scalar, is_scalar_of, is_hidden, is_table, is_table_of, is_counter}
use Rattle.machine_steps.specs.Local.{ValidLinesFit}

there : (slots : List Shape) (x : ℕ) (P : Option Shape → Bool) → P None ≡ false → P (slice_get slots x) ≡ true → x < length slots
there slots x P z h = elim (slice_get slots x) as (λ o. slice_get slots x ≡ o → P o ≡ true → x < length slots) [
  | None ↦ λ e k. absurd (cc)
  | Some s ↦ λ e k. slice_get_within slots x s e
] refl h

both_true : (a b : Bool) → a && b ≡ true → (a ≡ true) × (b ≡ true)
both_true true b h = (refl, h)
both_true false b h = absurd (let wrong : ⊥ = cc in wrong)

counter : (slots : List Shape) (v : Option ℕ) → is_counter slots v ≡ true → IfSome v (λ y. y < length slots)
counter slots None h = tt
counter slots (Some v) h = there slots v (is_scalar_of kind.Whole) refl h

pub valid_lines_fit : ValidLinesFit
valid_lines_fit units u (Store x) h = there u.slots x (λ o. is_scalar o || is_hidden o) refl h
valid_lines_fit units u (Clear x) h = there u.slots x is_scalar refl h
valid_lines_fit units u (Times x) h = there u.slots x is_hidden refl h
valid_lines_fit units u (Turns x) h = there u.slots x is_hidden refl h
valid_lines_fit units u (Next x v a) h =
    let w = both_true (is_hidden (slice_get u.slots x)) (is_counter u.slots v) h in
    (there u.slots x is_hidden refl w.0, counter u.slots v w.1)
valid_lines_fit units u (Push v) h = tt
valid_lines_fit units u Drop h = tt
valid_lines_fit units u (Load x) h = tt
valid_lines_fit units u (Elem x d) h = tt
valid_lines_fit units u (PutElem x d) h = there u.slots x (is_table d) refl h
valid_lines_fit units u (Probe x d) h = tt
valid_lines_fit units u (Make x k d) h = there u.slots x (is_table_of k d) refl h
valid_lines_fit units u (Fit x d) h = tt
valid_lines_fit units u Add h = tt
valid_lines_fit units u Sub h = tt
valid_lines_fit units u Mul h = tt
valid_lines_fit units u Pow h = tt
valid_lines_fit units u Neg h = tt
valid_lines_fit units u Div h = tt
valid_lines_fit units u Mod h = tt
valid_lines_fit units u Abs h = tt
valid_lines_fit units u Min h = tt
valid_lines_fit units u Max h = tt
valid_lines_fit units u Eq h = tt
valid_lines_fit units u Ne h = tt
valid_lines_fit units u Lt h = tt
valid_lines_fit units u Le h = tt
valid_lines_fit units u Gt h = tt
valid_lines_fit units u Ge h = tt
valid_lines_fit units u EqTruth h = tt
valid_lines_fit units u NeTruth h = tt
valid_lines_fit units u Not h = tt
valid_lines_fit units u (Jump a) h = tt
valid_lines_fit units u (JumpNo a) h = tt
valid_lines_fit units u Step h = tt
valid_lines_fit units u Out h = tt
valid_lines_fit units u (OutText t) h = tt
valid_lines_fit units u OutLine h = tt
valid_lines_fit units u (Input k) h = tt
valid_lines_fit units u Assert h = tt
valid_lines_fit units u Quit h = tt
valid_lines_fit units u (Ask c) h = tt
valid_lines_fit units u (Call w ps) h = tt
valid_lines_fit units u Return h = tt
