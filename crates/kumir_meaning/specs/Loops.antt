-- Loops. docs/LANGUAGE.md, "Meaning", "Loops".
use Rattle.std.specs.Prelude.{ℕ, zero, suc, Bool, cond, List, ℤ, pos, ◌+ℤ◌, int_lt}
use Rattle.kumir_values.specs.declared.value.Value.TheVariants.{Whole}
use Rattle.kumir_meaning.specs.Operators.{is_yes}
use Rattle.kumir_meaning.specs.Store.{Local, Has, with_cell}
use Rattle.kumir_meaning.specs.Runs as state
use Rattle.kumir_meaning.specs.Runs.{stops, tick, choose}
use Rattle.kumir_meaning.specs.Expressions.{Then, ThenValue}

-- ---- loops: at most n turns, since each takes a step; a body has a way out, for `выход`, and a way on
abbrev pub Body : Type 0
Body = Then → Then → Then

-- `пока`: the test takes its step, and is evaluated before each turn
abbrev pub while_yes : ℕ → (ThenValue → Then) → Body → Then → Then
while_yes zero test body k s = stops state.Going
while_yes (suc n) test body k s = tick (λ s1. test (λ v. choose (is_yes v) (body k (λ s2. while_yes n test body k s2)) k) s1) s

-- `раз`: the turns are counted before the first
abbrev pub turns : ℕ → ℕ → Body → Then → Then
turns zero left body k s = stops state.Going
turns (suc n) zero body k s = tick k s
turns (suc n) (suc left) body k s = tick (λ s1. body k (λ s2. turns n left body k s2) s1) s

-- `для`: whether a number is past the last one, in the direction of the step
abbrev pub past : ℤ → ℤ → ℤ → Bool
past z last step = cond (int_lt step (pos 0)) (int_lt z last) (int_lt last z)

-- its turns with the number z and those after it; the variable gets the number at the start of the turn
abbrev pub counts : ℕ → ℤ → ℤ → ℤ → List ℕ → Body → Then → Then
counts zero z last step x body k s = stops state.Going
counts (suc n) z last step x body k s =
    tick (choose (past z last step) k (λ s1. body k (λ s2. counts n (z +ℤ step) last step x body k s2) (with_cell s1 (Local x) (Has (Whole z))))) s

-- `нц` without a head
abbrev pub forever : ℕ → Body → Then → Then
forever zero body k s = stops state.Going
forever (suc n) body k s = tick (body k (λ s1. forever n body k s1)) s

-- `кц при`: a further step at the end of each turn, and then the condition
abbrev pub until : ℕ → Body → (ThenValue → Then) → Then → Then
until zero body test k s = stops state.Going
until (suc n) body test k s =
    tick (body k (λ s1. tick (λ s2. test (λ v. choose (is_yes v) k (λ s3. until n body test k s3)) s2) s1)) s
