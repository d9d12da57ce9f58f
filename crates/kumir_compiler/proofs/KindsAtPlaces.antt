-- The kinds of the operands at each place of a body, read from its lines in their order.
use Rattle.std.proofs.Common.{◌≡◌, ℕ, zero, suc, ◌+◌, ◌≤◌, Bool, true, false, cond, List, [], ◌∷◌, length, Option, Some, None, refl, sym, ap, ◌∙◌, subst, arith, ⊎_elim, eq-or-lt_of_le, le_of_suc-le-suc}
use Rattle.std.specs.Prelude.{slice_get, if◌then◌else◌, ◌*◌}
use Rattle.std.proofs.lemmas.Option.{slice_get_past}
use Rattle.kumir_tree.specs.declared.kind.Kind.{Kind}
use Rattle.kumir_tree.specs.declared.kind.Kind.TheVariants as kind
use Rattle.stack_code.specs.declared.instruction.CallPlace.{CallPlace}
use Rattle.stack_code.specs.declared.instruction.CommandShape.{CommandShape}
use Rattle.stack_code.specs.declared.instruction.CommandShape.TheVariants as command
use Rattle.stack_code.specs.declared.instruction.Instruction.{Instruction}
use Rattle.stack_code.specs.declared.instruction.Instruction.TheVariants.{Push, Drop, Load, Store, Clear, Elem, PutElem, Probe, Make, Fit, Add, Sub, Mul, Pow, Neg, Div, Mod, Abs, Min, Max, Eq, Ne, Lt, Le, Gt, Ge, EqTruth, NeTruth, Not, Jump, JumpNo, Step, Times, Turns, Next, Out, OutText, OutLine, Input, Assert, Quit, Ask, Call, Return}
use Rattle.stack_code.specs.declared.instruction.CodeLine.{CodeLine}
use Rattle.stack_code.specs.declared.unit.ParamSlot.{ParamSlot}
use Rattle.stack_code.specs.declared.unit.CodeUnit.{CodeUnit}
use Rattle.performer_kit.specs.Commands.{is_test, pen_arity}
use Rattle.stack_code.specs.Instructions.{takes_value, unit_at}
use Rattle.kumir_tree.specs.Kinds.{same_kind}
use Rattle.stack_code.specs.Operands.{Kinds, then_pop, pop, pop_any, pop_numbers, pushing, leaving, push_some, pop_some, pop_values, push_answer, value_kind, after_ask, kinds_after, falls_through}

-- without the top one
abbrev pub below : Kinds → Kinds
below [] = []
below (k ∷ ks) = ks

-- Behind an instruction that does not go on to the next place: what compiled code has there. Behind a return stands nothing.
abbrev pub behind_jump : Instruction → Kinds → Option Kinds
behind_jump (Jump a) ks = Some (below ks)
behind_jump Quit ks = Some ks
behind_jump i ks = None

-- ---- no instruction leaves more than one operand more

abbrev AtMost : Option Kinds → ℕ → Type 0
AtMost None n = Unit {0}
AtMost (Some left) n = length left ≤ n

more : (o : Option Kinds) (n m : ℕ) → n ≤ m → AtMost o n → AtMost o m
more None n m le h = tt
more (Some left) n m le h = omega (arith, h)

pop_less : (k : Kind) (ks : Kinds) → AtMost (pop k ks) (length ks)
pop_less k [] = tt
pop_less k (j ∷ ks) = go (same_kind k j)
  where
    go : (b : Bool) → AtMost (cond b (Some ks) None) (length (j ∷ ks))
    go true = omega arith
    go false = tt

pop_any_less : (ks : Kinds) → AtMost (pop_any ks) (length ks)
pop_any_less [] = tt
pop_any_less (j ∷ ks) = omega arith

then_less : (o : Option Kinds) (f : Kinds → Option Kinds) (n : ℕ) → AtMost o n → ((left : Kinds) → AtMost (f left) (length left)) → AtMost (then_pop o f) n
then_less None f n h g = tt
then_less (Some left) f n h g = more (f left) (length left) n h (g left)

numbers_less : (n : ℕ) (ks : Kinds) → AtMost (pop_numbers n ks) (length ks)
numbers_less zero ks = omega arith
numbers_less (suc n) ks = then_less (pop kind.Whole ks) (pop_numbers n) (length ks) (pop_less kind.Whole ks) (λ left. numbers_less n left)

pop_some_less : (o : Option Kind) (ks : Kinds) → AtMost (pop_some o ks) (length ks)
pop_some_less None ks = tt
pop_some_less (Some k) ks = pop_less k ks

pushing_more : (k : Kind) (o : Option Kinds) (n : ℕ) → AtMost o n → AtMost (pushing k o) (n + 1)
pushing_more k None n h = tt
pushing_more k (Some left) n h = omega (arith, h)

push_some_more : (k : Option Kind) (o : Option Kinds) (n : ℕ) → AtMost o n → AtMost (push_some k o) (n + 1)
push_some_more None o n h = tt
push_some_more (Some k) o n h = pushing_more k o n h

leaving_less : (ks : Kinds) (o : Option Kinds) → AtMost (leaving ks o) (length ks + 1)
leaving_less ks None = tt
leaving_less ks (Some other) = omega arith

values_less : (callee : CodeUnit) (params : List ParamSlot) (places : List CallPlace) (ks : Kinds) → AtMost (pop_values callee params places ks) (length ks)
values_less callee [] places ks = omega arith
values_less callee (p ∷ params) [] ks = omega arith
values_less callee (p ∷ params) (q ∷ places) ks =
    then_less (pop_values callee params places ks) _ (length ks) (values_less callee params places ks) (λ left. go (takes_value p.mode q) left)
  where
    go : (b : Bool) (left : Kinds) → AtMost (cond b (pop_some (value_kind (slice_get callee.slots p.slot)) left) (Some left)) (length left)
    go true left = pop_some_less (value_kind (slice_get callee.slots p.slot)) left
    go false left = omega arith

answer_more : (callee : CodeUnit) (x : Option ℕ) (o : Option Kinds) (n : ℕ) → AtMost o n → AtMost (push_answer callee x o) (n + 1)
answer_more callee None o n h = more o n (n + 1) (omega arith) h
answer_more callee (Some x) o n h = push_some_more (value_kind (slice_get callee.slots x)) o n h

ask_more : (c : CommandShape) (ks : Kinds) → AtMost (after_ask c ks) (length ks + 1)
ask_more (command.Robot c) ks = go (is_test c)
  where
    go : (b : Bool) → AtMost (cond b (Some (kind.Truth ∷ ks)) (Some ks)) (length ks + 1)
    go true = omega arith
    go false = omega arith
ask_more (command.Pen c) ks = more (pop_numbers (pen_arity c) ks) (length ks) (length ks + 1) (omega arith) (numbers_less (pen_arity c) ks)

module _ (units : List CodeUnit) (u : CodeUnit) where
  abbrev pub step_kinds : Instruction → Kinds → Option Kinds
  step_kinds i ks = if falls_through i then kinds_after units u i ks else behind_jump i ks

  abbrev line_kinds : Option CodeLine → Option Kinds → Option Kinds
  line_kinds None o = None
  line_kinds (Some l) None = None
  line_kinds (Some l) (Some ks) = step_kinds l.what ks

  pub kinds_at : ℕ → Option Kinds
  kinds_at zero = Some []
  kinds_at (suc n) = line_kinds (slice_get u.body n) (kinds_at n)

  pub none_at_first : kinds_at 0 ≡ Some []
  unfolding kinds_at
  none_at_first = refl

  pub kinds_next : (at : ℕ) (l : CodeLine) (ks left : Kinds) → slice_get u.body at ≡ Some l → kinds_at at ≡ Some ks → step_kinds l.what ks ≡ Some left → kinds_at (at + 1) ≡ Some left
  unfolding kinds_at
  kinds_next at l ks left there known goes =
      let e : suc at ≡ at + 1 = omega arith in
      subst (λ m. kinds_at m ≡ Some left) e (ap (λ o. line_kinds o (kinds_at at)) there ∙ ap (λ o. line_kinds (Some l) o) known ∙ goes)

  numbers_more : (n : ℕ) (ks : Kinds) → AtMost (pop_numbers n ks) (length ks + 1)
  numbers_more n ks = more (pop_numbers n ks) (length ks) (length ks + 1) (omega arith) (numbers_less n ks)

  one_pop : (k : Kind) (ks : Kinds) → AtMost (pop k ks) (length ks + 1)
  one_pop k ks = more (pop k ks) (length ks) (length ks + 1) (omega arith) (pop_less k ks)

  same_more : (ks : Kinds) → AtMost (Some ks) (length ks + 1)
  same_more ks = omega arith

  one_more : (i : Instruction) (ks : Kinds) → AtMost (step_kinds i ks) (length ks + 1)
  one_more (Push v) ks = omega arith
  one_more Drop ks = more (pop_any ks) (length ks) (length ks + 1) (omega arith) (pop_any_less ks)
  one_more (Load x) ks = push_some_more (value_kind (slice_get u.slots x)) (Some ks) (length ks) (omega arith)
  one_more (Store x) ks = more (pop_some (value_kind (slice_get u.slots x)) ks) (length ks) (length ks + 1) (omega arith) (pop_some_less (value_kind (slice_get u.slots x)) ks)
  one_more (Clear x) ks = same_more ks
  one_more (Elem x d) ks = push_some_more _ (pop_numbers d ks) (length ks) (numbers_less d ks)
  one_more (PutElem x d) ks = more (then_pop (pop_some _ ks) (pop_numbers d)) (length ks) (length ks + 1) (omega arith) (then_less (pop_some _ ks) (pop_numbers d) (length ks) (pop_some_less _ ks) (λ left. numbers_less d left))
  one_more (Probe x d) ks = leaving_less ks (pop_numbers d ks)
  one_more (Make x k d) ks = numbers_more (2 * d) ks
  one_more (Fit x d) ks = numbers_more (2 * d) ks
  one_more Add ks = pushing_more kind.Whole (pop_numbers 2 ks) (length ks) (numbers_less 2 ks)
  one_more Sub ks = pushing_more kind.Whole (pop_numbers 2 ks) (length ks) (numbers_less 2 ks)
  one_more Mul ks = pushing_more kind.Whole (pop_numbers 2 ks) (length ks) (numbers_less 2 ks)
  one_more Pow ks = pushing_more kind.Whole (pop_numbers 2 ks) (length ks) (numbers_less 2 ks)
  one_more Neg ks = pushing_more kind.Whole (pop_numbers 1 ks) (length ks) (numbers_less 1 ks)
  one_more Div ks = pushing_more kind.Whole (pop_numbers 2 ks) (length ks) (numbers_less 2 ks)
  one_more Mod ks = pushing_more kind.Whole (pop_numbers 2 ks) (length ks) (numbers_less 2 ks)
  one_more Abs ks = pushing_more kind.Whole (pop_numbers 1 ks) (length ks) (numbers_less 1 ks)
  one_more Min ks = pushing_more kind.Whole (pop_numbers 2 ks) (length ks) (numbers_less 2 ks)
  one_more Max ks = pushing_more kind.Whole (pop_numbers 2 ks) (length ks) (numbers_less 2 ks)
  one_more Eq ks = pushing_more kind.Truth (pop_numbers 2 ks) (length ks) (numbers_less 2 ks)
  one_more Ne ks = pushing_more kind.Truth (pop_numbers 2 ks) (length ks) (numbers_less 2 ks)
  one_more Lt ks = pushing_more kind.Truth (pop_numbers 2 ks) (length ks) (numbers_less 2 ks)
  one_more Le ks = pushing_more kind.Truth (pop_numbers 2 ks) (length ks) (numbers_less 2 ks)
  one_more Gt ks = pushing_more kind.Truth (pop_numbers 2 ks) (length ks) (numbers_less 2 ks)
  one_more Ge ks = pushing_more kind.Truth (pop_numbers 2 ks) (length ks) (numbers_less 2 ks)
  one_more EqTruth ks = pushing_more kind.Truth (then_pop (pop kind.Truth ks) (pop kind.Truth)) (length ks) (then_less (pop kind.Truth ks) (pop kind.Truth) (length ks) (pop_less kind.Truth ks) (λ left. pop_less kind.Truth left))
  one_more NeTruth ks = pushing_more kind.Truth (then_pop (pop kind.Truth ks) (pop kind.Truth)) (length ks) (then_less (pop kind.Truth ks) (pop kind.Truth) (length ks) (pop_less kind.Truth ks) (λ left. pop_less kind.Truth left))
  one_more Not ks = pushing_more kind.Truth (pop kind.Truth ks) (length ks) (pop_less kind.Truth ks)
  one_more (Jump a) [] = omega arith
  one_more (Jump a) (k ∷ ks) = omega arith
  one_more (JumpNo a) ks = one_pop kind.Truth ks
  one_more Step ks = same_more ks
  one_more (Times x) ks = numbers_more 1 ks
  one_more (Turns x) ks = numbers_more 3 ks
  one_more (Next x v a) ks = same_more ks
  one_more Out ks = more (pop_any ks) (length ks) (length ks + 1) (omega arith) (pop_any_less ks)
  one_more (OutText text) ks = same_more ks
  one_more OutLine ks = same_more ks
  one_more (Input k) ks = omega arith
  one_more Assert ks = one_pop kind.Truth ks
  one_more Quit ks = same_more ks
  one_more (Ask c) ks = ask_more c ks
  one_more (Call callee places) ks = answer_more (unit_at units callee) (unit_at units callee).gives _ (length ks) (values_less (unit_at units callee) (unit_at units callee).params places ks)
  one_more Return ks = tt

  line_more : (o : Option CodeLine) (p : Option Kinds) (n : ℕ) → AtMost p n → AtMost (line_kinds o p) (n + 1)
  line_more None p n h = tt
  line_more (Some l) None n h = tt
  line_more (Some l) (Some ks) n h = more (step_kinds l.what ks) (length ks + 1) (n + 1) (omega (arith, h)) (one_more l.what ks)

  at_most : (n : ℕ) → AtMost (kinds_at n) n
  unfolding kinds_at
  at_most zero = omega arith
  at_most (suc n) = more (line_kinds (slice_get u.body n) (kinds_at n)) (n + 1) (suc n) (omega arith) (line_more (slice_get u.body n) (kinds_at n) n (at_most n))

  -- as many operands at most as places before
  pub deep : (n : ℕ) (ks : Kinds) → kinds_at n ≡ Some ks → length ks ≤ n
  deep n ks e = subst (λ o. AtMost o n) e (at_most n)

  after_return : (l : CodeLine) (o : Option Kinds) → l.what ≡ Return → line_kinds (Some l) o ≡ None
  after_return l None is = refl
  after_return l (Some ks) is = ap (λ i. step_kinds i ks) is

  -- behind a body that ends with a return no kinds are known
  pub none_behind : (last : ℕ) (l : CodeLine) → slice_get u.body last ≡ Some l → l.what ≡ Return → last + 1 ≡ length u.body → (n : ℕ) → length u.body ≤ n → kinds_at n ≡ None
  unfolding kinds_at
  none_behind last l there is ends zero le = absurd (omega (arith, ends))
  none_behind last l there is ends (suc n) le = ⊎_elim (λ e. at_last (let f : last ≡ n = omega (arith, ends, e) in f)) (λ lt. ap (λ o. line_kinds o (kinds_at n)) (slice_get_past u.body n (le_of_suc-le-suc lt))) (eq-or-lt_of_le le)
    where
      at_last : last ≡ n → line_kinds (slice_get u.body n) (kinds_at n) ≡ None
      at_last e = ap (λ o. line_kinds o (kinds_at n)) (ap (slice_get u.body) (sym e) ∙ there) ∙ after_return l (kinds_at n) is
