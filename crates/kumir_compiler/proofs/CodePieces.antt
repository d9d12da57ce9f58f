-- Pieces of code of which each line is valid, from kinds of operands to kinds of operands.
use Rattle.std.proofs.Common.{◌≡◌, ℕ, suc, ◌+◌, ◌-◌, ◌<◌, ◌≤◌, Bool, true, false, cond, not, ◌&&◌, ◌||◌, List, [], ◌∷◌, ◌++◌, length, Option, Some, None, refl, sym, ap, ◌∙◌, subst, arith, nat_lt}
use Rattle.std.specs.Prelude.{slice_get}
use Rattle.std.proofs.lemmas.Option.{slice_get_within}
use Rattle.std.proofs.lemmas.Bool.Decides.{nat_tests}
use Rattle.kumir_tree.specs.declared.kind.Kind.TheVariants as kind
use Rattle.kumir_values.specs.declared.value.Value.{Value}
use Rattle.kumir_values.specs.declared.value.Value.TheVariants.{Truth}
use Rattle.stack_code.specs.declared.instruction.CallPlace.{CallPlace}
use Rattle.stack_code.specs.declared.instruction.Instruction.{Instruction}
use Rattle.stack_code.specs.declared.instruction.Instruction.TheVariants.{Push, Jump, JumpNo, Step, Next, Ask, Call, Return}
use Rattle.stack_code.specs.declared.instruction.Instruction.TheVariants as instruction
use Rattle.stack_code.specs.declared.instruction.CodeLine.{CodeLine}
use Rattle.stack_code.specs.declared.unit.CodeUnit.{CodeUnit}
use Rattle.stack_code.specs.Operands.{Kinds, kinds_after, target_of, falls_through}
use Rattle.stack_code.specs.Validity.{names_fit, is_step, is_call, leads_on, jump_fits, after_step, call_stands, line_fits, OnTarget, next_of, Leads}
use Rattle.kumir_compiler.specs.Code.{Code, Site, on, jump, jump_no, choice_code, while_code, turns_code, forever_code, until_code}
use Rattle.kumir_compiler.proofs.CodeAt.{IsCodeAt, parts, spans}
use Rattle.kumir_compiler.proofs.KindsAtPlaces.{below, behind_jump, step_kinds, kinds_at, kinds_next}

-- ---- truth values
all_three : (a b c : Bool) → a ≡ true → b ≡ true → c ≡ true → (a && b && c) ≡ true
all_three a b c e f g = ap (λ x. x && b && c) e ∙ ap (λ x. x && c) f ∙ g

or_left : (a b : Bool) → a ≡ true → (a || b) ≡ true
or_left a b e = ap (λ x. x || b) e

pub some_is : {T : Type 0} (x y : T) → Some x ≡ Some y → x ≡ y
some_is x y e = cc

is_less : (a b : ℕ) → a < b → nat_lt a b ≡ true
is_less a b lt = grind (arith, nat_tests, lt)

is_not_less : (a b : ℕ) → b ≤ a → nat_lt a b ≡ false
is_not_less a b le = grind (arith, nat_tests, le)

-- an instruction that goes on to the next place alone, and is no call
pub record IsPlain (i : Instruction) : Type 0 where
  pub goes_on : falls_through i ≡ true
  pub no_target : target_of i ≡ None
  pub no_call : is_call (Some (record { line = 0; what = i })) ≡ false

module _ (units : List CodeUnit) (u : CodeUnit) where
  abbrev pub Known : ℕ → Kinds → Type 0
  Known at ks = kinds_at units u at ≡ Some ks

  -- a line at its place is valid
  pub record IsFine (pc : ℕ) (l : CodeLine) : Type 0 where
    pub fits : line_fits units u pc l ≡ true
    pub leads : (found : Kinds) → Known pc found → Leads (kinds_at units u) pc l.what (kinds_after units u l.what found)

  -- all lines from here to there are valid
  abbrev pub AreFine : ℕ → ℕ → Type 0
  AreFine at end = (pc : ℕ) (l : CodeLine) → at ≤ pc → pc < end → slice_get u.body pc ≡ Some l → IsFine pc l

  -- a jump may go there
  pub record Lands (at : ℕ) : Type 0 where
    pub within : at < length u.body
    pub no_call : is_call (slice_get u.body at) ≡ false

  -- code goes from these kinds to those, and is valid if a jump may go to its end
  abbrev pub Goes : Code → Kinds → Kinds → Type 0
  Goes c ks out = (at end : ℕ) → IsCodeAt u.body at c end → Known at ks → Known end out × (Lands end → Lands at × AreFine at end)

  -- where `выход` leads
  pub record IsExit (at : ℕ) : Type 0 where
    pub lands : Lands at
    pub known : Known at []

  -- code of statements, with the exit so many places behind it
  abbrev pub Acts : Code → ℕ → Kinds → Kinds → Type 0
  Acts c after ks out = (at end : ℕ) → IsCodeAt u.body at c end → Known at ks → Known end out × (Lands end → IsExit (end + after) → Lands at × AreFine at end)

  -- ---- lines
  none_fine : (at end : ℕ) → at ≡ end → AreFine at end
  none_fine at end e pc l le lt there = absurd (omega (arith, e, le, lt))

  pub both_fine : (at mid end : ℕ) → AreFine at mid → AreFine mid end → AreFine at end
  both_fine at mid end f g pc l le lt there = go (nat_lt pc mid) refl
    where
      go : (b : Bool) → nat_lt pc mid ≡ b → IsFine pc l
      go true e = f pc l le (grind (arith, nat_tests, e)) there
      go false e = g pc l (grind (arith, nat_tests, e)) lt there

  pub one_fine : (at : ℕ) (l : CodeLine) → slice_get u.body at ≡ Some l → IsFine at l → AreFine at (at + 1)
  one_fine at l there fine pc m le lt here =
      let e : at ≡ pc = omega (arith, le, lt) in
      subst (λ n. IsFine n m) e (subst (λ k. IsFine at k) (some_is l m (sym there ∙ ap (slice_get u.body) e ∙ here)) fine)

  leads_all : (kinds : ℕ → Option Kinds) (pc : ℕ) (i : Instruction) (o : Option Kinds) (left : Kinds) → o ≡ Some left → OnTarget (next_of pc i) (λ a. kinds a ≡ Some left) → OnTarget (target_of i) (λ a. kinds a ≡ Some left) → Leads kinds pc i o
  leads_all kinds pc i o left e f g = subst (λ p. Leads kinds pc i p) (sym e) (f, g)

  pub fine : (pc : ℕ) (l : CodeLine) (ks left : Kinds) → Known pc ks → kinds_after units u l.what ks ≡ Some left → names_fit units u l.what ≡ true → OnTarget (next_of pc l.what) (λ a. Known a left) → OnTarget (target_of l.what) (λ a. Known a left)
      → jump_fits u.body pc (target_of l.what) ≡ true → call_stands u.body pc l ≡ true → IsFine pc l
  fine pc l ks left known after names on_next on_target jumps stands = record {
    fits = all_three (names_fit units u l.what) (jump_fits u.body pc (target_of l.what)) (call_stands u.body pc l) names jumps stands;
    leads = λ found e. leads_all (kinds_at units u) pc l.what (kinds_after units u l.what found) left (ap (kinds_after units u l.what) (some_is found ks (sym e ∙ known)) ∙ after) on_next on_target;
  }

  pub lands : (at : ℕ) (l : CodeLine) → slice_get u.body at ≡ Some l → is_call (Some l) ≡ false → Lands at
  lands at l there plain = record { within = slice_get_within u.body at l there; no_call = ap is_call there ∙ plain }

  -- ---- pieces
  pub nothing : (ks : Kinds) → Goes [] ks ks
  nothing ks at end h known = (subst (λ m. Known m ks) h known, λ l. (subst Lands (sym h) l, none_fine at end h))

  pub joined : (a b : Code) (ks mid out : Kinds) → Goes a ks mid → Goes b mid out → Goes (a ++ b) ks out
  joined a b ks mid out f g at end h known =
      let w = parts u.body at a b end h in
      let x = f at w.0 w.1 known in
      let y = g w.0 end w.2 x.0 in
      (y.0, λ l. let z = y.1 l in let v = x.1 z.0 in (v.0, both_fine at w.0 end v.1 z.1))

  -- the code behind may use that the code before stands there
  pub joined_after : (a b : Code) (ks mid out : Kinds) → Goes a ks mid → ((at m : ℕ) → IsCodeAt u.body at a m → Goes b mid out) → Goes (a ++ b) ks out
  joined_after a b ks mid out f g at end h known = let w = parts u.body at a b end h in joined a b ks mid out f (g at w.0 w.1) at end h known

  on_next : (pc : ℕ) (i : Instruction) (left : Kinds) → falls_through i ≡ true → Known (pc + 1) left → OnTarget (next_of pc i) (λ a. Known a left)
  on_next pc i left e known = subst (λ b. OnTarget (cond b (Some (pc + 1)) None) (λ a. Known a left)) (sym e) known

  goes_on : (i : Instruction) (ks left : Kinds) → falls_through i ≡ true → kinds_after units u i ks ≡ Some left → step_kinds units u i ks ≡ Some left
  goes_on i ks left e after = ap (λ b. cond b (kinds_after units u i ks) (behind_jump i ks)) e ∙ after

  -- a line with a plain instruction
  pub plain : (t : Site) (i : Instruction) (ks out : Kinds) → IsPlain i → kinds_after units u i ks ≡ Some out → names_fit units u i ≡ true → Goes (on t i ∷ []) ks out
  plain t i ks out is after names at end h known =
      let next = kinds_next units u at (on t i at) ks out h.0 known (goes_on i ks out is.goes_on after) in (
        subst (λ m. Known m out) h.1 next,
        λ l. (
          lands at (on t i at) h.0 is.no_call,
          subst (λ m. AreFine at m) h.1 (one_fine at (on t i at) h.0
              (fine at (on t i at) ks out known after names (on_next at i out is.goes_on next)
              (subst (λ o. OnTarget o (λ a. Known a out)) (sym is.no_target) tt) (ap (jump_fits u.body at) is.no_target)
              (or_left (not (is_call (Some (on t i at)))) (after_step u.body at) (ap not is.no_call)))),
        ),
      )

  pub more : (t : Site) (i : Instruction) (c : Code) (ks mid out : Kinds) → IsPlain i → kinds_after units u i ks ≡ Some mid → names_fit units u i ≡ true → Goes c mid out → Goes (on t i ∷ c) ks out
  more t i c ks mid out is after names f = joined (on t i ∷ []) c ks mid out (plain t i ks mid is after names) f

  pub acts : (c : Code) (after : ℕ) (ks out : Kinds) → Goes c ks out → Acts c after ks out
  acts c after ks out f at end h known = let x = f at end h known in (x.0, λ l e. x.1 l)

  pub acts_joined : (a b : Code) (after : ℕ) (ks mid out : Kinds) → Acts a (length b + after) ks mid → Acts b after mid out → Acts (a ++ b) after ks out
  acts_joined a b after ks mid out f g at end h known =
      let w = parts u.body at a b end h in
      let x = f at w.0 w.1 known in
      let y = g w.0 end w.2 x.0 in
      let n = spans u.body w.0 b end w.2 in
      let e : end + after ≡ w.0 + (length b + after) = omega (arith, n) in
      (y.0, λ l r. let z = y.1 l r in let v = x.1 z.0 (subst IsExit e r) in (v.0, both_fine at w.0 end v.1 z.1))

  -- ---- jumps
  leads_forward : (pc a : ℕ) → pc < a → Lands a → leads_on u.body pc a ≡ true
  leads_forward pc a lt l =
      ap (λ b. cond b (nat_lt a (length u.body)) (is_step (slice_get u.body a)) && not (is_call (slice_get u.body a))) (is_less pc a lt)
      ∙ ap (λ b. b && not (is_call (slice_get u.body a))) (is_less a (length u.body) l.within) ∙ ap not l.no_call

  leads_back : (pc a line : ℕ) → a ≤ pc → slice_get u.body a ≡ Some (record { line = line; what = Step }) → leads_on u.body pc a ≡ true
  leads_back pc a line le there =
      ap (λ b. cond b (nat_lt a (length u.body)) (is_step (slice_get u.body a)) && not (is_call (slice_get u.body a))) (is_not_less pc a le)
      ∙ ap (λ o. is_step o && not (is_call o)) there

  -- what a jump leads to
  abbrev LeadsTo : ℕ → ℕ → Kinds → Type 0
  LeadsTo pc a ks = Known a ks × (leads_on u.body pc a ≡ true)

  forward : (pc a : ℕ) (ks : Kinds) → pc < a → Lands a → Known a ks → LeadsTo pc a ks
  forward pc a ks lt l known = (known, leads_forward pc a lt l)

  jump_fine : (pc a line : ℕ) (ks : Kinds) → slice_get u.body pc ≡ Some (record { line = line; what = Jump a }) → Known pc ks → LeadsTo pc a ks → AreFine pc (pc + 1)
  jump_fine pc a line ks there known to =
      one_fine pc (record { line = line; what = Jump a }) there (fine pc (record { line = line; what = Jump a }) ks ks known refl refl tt to.0 to.1 refl)

  behind_jump_is : (pc a line : ℕ) (ks : Kinds) → slice_get u.body pc ≡ Some (record { line = line; what = Jump a }) → Known pc ks → Known (pc + 1) (below ks)
  behind_jump_is pc a line ks there known = kinds_next units u pc (record { line = line; what = Jump a }) ks (below ks) there known refl

  jump_no_fine : (pc a line : ℕ) (ks : Kinds) → slice_get u.body pc ≡ Some (record { line = line; what = JumpNo a }) → Known pc (kind.Truth ∷ ks) → Known (pc + 1) ks → LeadsTo pc a ks → AreFine pc (pc + 1)
  jump_no_fine pc a line ks there known next to =
      one_fine pc (record { line = line; what = JumpNo a }) there (fine pc (record { line = line; what = JumpNo a }) (kind.Truth ∷ ks) ks known refl refl next to.0 to.1 refl)

  behind_jump_no : (pc a line : ℕ) (ks : Kinds) → slice_get u.body pc ≡ Some (record { line = line; what = JumpNo a }) → Known pc (kind.Truth ∷ ks) → Known (pc + 1) ks
  behind_jump_no pc a line ks there known = kinds_next units u pc (record { line = line; what = JumpNo a }) (kind.Truth ∷ ks) ks there known refl

  step_plain : IsPlain Step
  step_plain = record { goes_on = refl; no_target = refl; no_call = refl }

  pub step : (t : Site) (ks : Kinds) → Goes (on t Step ∷ []) ks ks
  step t ks = plain t Step ks ks step_plain refl refl

  push_plain : (v : Value) → IsPlain (Push v)
  push_plain v = record { goes_on = refl; no_target = refl; no_call = refl }

  -- ---- choices
  pub choice : (a b : Code) (t : Site) (after : ℕ) (ks out : Kinds) → below out ≡ ks → Acts a (length b + 1 + after) ks out → Acts b after ks out → Acts (choice_code a b t) after (kind.Truth ∷ ks) out
  choice a b t after ks out drops f g at end h known =
      let w = parts u.body (at + 1) a (jump t (length b) ∷ b) end h.1 in
      let n = spans u.body (at + 1) a w.0 w.1 in
      let m = spans u.body (w.0 + 1) b end w.2.1 in
      let first = behind_jump_no at _ t.line ks h.0 known in
      let x = f (at + 1) w.0 w.1 first in
      let second = subst (Known (w.0 + 1)) drops (behind_jump_is w.0 _ t.line out w.2.0 x.0) in
      let y = g (w.0 + 1) end w.2.1 second in
      let target : end ≡ w.0 + 1 + length b = omega (arith, m) in
      let other : w.0 + 1 ≡ at + 1 + (length a + 1) = omega (arith, n) in
      let exit : end + after ≡ w.0 + (length b + 1 + after) = omega (arith, m) in (
        y.0,
        λ l r.
            let z = y.1 l r in
            let v = x.1 (lands w.0 _ w.2.0 refl) (subst IsExit exit r) in (
              lands at _ h.0 refl,
              both_fine at (at + 1) end (jump_no_fine at _ t.line ks h.0 known first (subst (λ e. LeadsTo at e ks) other (forward at (w.0 + 1) ks (omega (arith, n)) z.0 second)))
                  (both_fine (at + 1) w.0 end v.1
                  (both_fine w.0 (w.0 + 1) end (jump_fine w.0 _ t.line out w.2.0 x.0 (subst (λ e. LeadsTo w.0 e out) target (forward w.0 end out (omega (arith, m)) l y.0))) z.1)),
            ),
      )

  pub either : (a b : Code) (t : Site) (ks : Kinds) → Goes a ks (kind.Truth ∷ ks) → Goes b ks (kind.Truth ∷ ks)
      → Goes (a ++ (jump_no t 2 ∷ on t (Push (Truth true)) ∷ jump t (length b) ∷ b)) ks (kind.Truth ∷ ks)
  either a b t ks f g at end h known =
      let w = parts u.body at a _ end h in
      let m = spans u.body (w.0 + 1 + 1 + 1) b end w.2.1.1.1 in
      let x = f at w.0 w.1 known in
      let one = behind_jump_no w.0 _ t.line ks w.2.0 x.0 in
      let p = plain t (Push (Truth true)) ks (kind.Truth ∷ ks) (push_plain (Truth true)) refl refl (w.0 + 1) (w.0 + 1 + 1) (w.2.1.0, refl) one in
      let three = behind_jump_is (w.0 + 1 + 1) _ t.line (kind.Truth ∷ ks) w.2.1.1.0 p.0 in
      let y = g (w.0 + 1 + 1 + 1) end w.2.1.1.1 three in
      let other : w.0 + 1 + 1 + 1 ≡ w.0 + 1 + 2 = omega arith in
      let target : end ≡ w.0 + 1 + 1 + 1 + length b = m in (
        y.0,
        λ l.
            let z = y.1 l in
            let q = p.1 (lands (w.0 + 1 + 1) _ w.2.1.1.0 refl) in
            let v = x.1 (lands w.0 _ w.2.0 refl) in (
              v.0,
              both_fine at w.0 end v.1
                  (both_fine w.0 (w.0 + 1) end (jump_no_fine w.0 _ t.line ks w.2.0 x.0 one (subst (λ e. LeadsTo w.0 e ks) other (forward w.0 (w.0 + 1 + 1 + 1) ks (omega arith) z.0 three)))
                  (both_fine (w.0 + 1) (w.0 + 1 + 1) end q.1
                  (both_fine (w.0 + 1 + 1) (w.0 + 1 + 1 + 1) end (jump_fine (w.0 + 1 + 1) _ t.line (kind.Truth ∷ ks) w.2.1.1.0 p.0 (subst (λ e. LeadsTo (w.0 + 1 + 1) e (kind.Truth ∷ ks)) target (forward (w.0 + 1 + 1) end (kind.Truth ∷ ks) (omega (arith, m)) l y.0))) z.1))),
            ),
      )

  pub as_well : (a b : Code) (t : Site) (ks : Kinds) → Goes a ks (kind.Truth ∷ ks) → Goes b ks (kind.Truth ∷ ks)
      → Goes (a ++ (jump_no t (length b + 1) ∷ (b ++ (jump t 1 ∷ on t (Push (Truth false)) ∷ [])))) ks (kind.Truth ∷ ks)
  as_well a b t ks f g at end h known =
      let w = parts u.body at a _ end h in
      let r = parts u.body (w.0 + 1) b _ end w.2.1 in
      let n = spans u.body (w.0 + 1) b r.0 r.1 in
      let x = f at w.0 w.1 known in
      let one = behind_jump_no w.0 _ t.line ks w.2.0 x.0 in
      let y = g (w.0 + 1) r.0 r.1 one in
      let two = behind_jump_is r.0 _ t.line (kind.Truth ∷ ks) r.2.0 y.0 in
      let p = plain t (Push (Truth false)) ks (kind.Truth ∷ ks) (push_plain (Truth false)) refl refl (r.0 + 1) end r.2.1 two in
      let other : r.0 + 1 ≡ w.0 + 1 + (length b + 1) = omega (arith, n) in
      let target : end ≡ r.0 + 1 + 1 = sym r.2.1.1 in (
        p.0,
        λ l.
            let q = p.1 l in
            let z = y.1 (lands r.0 _ r.2.0 refl) in
            let v = x.1 (lands w.0 _ w.2.0 refl) in (
              v.0,
              both_fine at w.0 end v.1
                  (both_fine w.0 (w.0 + 1) end (jump_no_fine w.0 _ t.line ks w.2.0 x.0 one (subst (λ e. LeadsTo w.0 e ks) other (forward w.0 (r.0 + 1) ks (omega (arith, n)) q.0 two)))
                  (both_fine (w.0 + 1) r.0 end z.1
                  (both_fine r.0 (r.0 + 1) end (jump_fine r.0 _ t.line (kind.Truth ∷ ks) r.2.0 y.0 (subst (λ e. LeadsTo r.0 e (kind.Truth ∷ ks)) target (forward r.0 end (kind.Truth ∷ ks) (omega (arith, target)) l p.0))) q.1))),
            ),
      )

  -- ---- calls
  after_step_is : (at line : ℕ) → slice_get u.body at ≡ Some (record { line = line; what = Step }) → after_step u.body (at + 1) ≡ true
  after_step_is at line there = let e : suc at ≡ at + 1 = omega arith in subst (λ n. after_step u.body n ≡ true) e (ap is_step there)

  pub call : (t : Site) (f : ℕ) (places : List CallPlace) (ks out : Kinds) → kinds_after units u (Call f places) ks ≡ Some out → names_fit units u (Call f places) ≡ true → Goes (on t Step ∷ on t (Call f places) ∷ []) ks out
  call t f places ks out after names at end h known =
      let x = step t ks at (at + 1) (h.0, refl) known in
      let next = kinds_next units u (at + 1) (on t (Call f places) (at + 1)) ks out h.1.0 x.0 after in (
        subst (λ m. Known m out) h.1.1 next,
        λ l. (
          lands at (on t Step at) h.0 refl,
          both_fine at (at + 1) end (step_fine t ks at (h.0) known x.0)
              (subst (λ m. AreFine (at + 1) m) h.1.1 (one_fine (at + 1) (on t (Call f places) (at + 1)) h.1.0
              (fine (at + 1) (on t (Call f places) (at + 1)) ks out x.0 after names next tt refl (after_step_is at t.line h.0)))),
        ),
      )
    where
      step_fine : (t : Site) (ks : Kinds) (at : ℕ) → slice_get u.body at ≡ Some (on t Step at) → Known at ks → Known (at + 1) ks → AreFine at (at + 1)
      step_fine t ks at there known next = one_fine at (on t Step at) there (fine at (on t Step at) ks ks known refl refl next tt refl refl)

  -- ---- loops
  back : (pc a line : ℕ) (ks : Kinds) → a ≤ pc → slice_get u.body a ≡ Some (record { line = line; what = Step }) → Known a ks → LeadsTo pc a ks
  back pc a line ks le there known = (known, leads_back pc a line le there)

  begins : (t : Site) (at : ℕ) (ks : Kinds) → slice_get u.body at ≡ Some (on t Step at) → Known at ks → Known (at + 1) ks × Lands at × AreFine at (at + 1)
  begins t at ks there known =
      let next = kinds_next units u at (on t Step at) ks ks there known refl in
      (next, lands at (on t Step at) there refl, one_fine at (on t Step at) there (fine at (on t Step at) ks ks known refl refl next tt refl refl))

  pub while_acts : (test body : Code) (t : Site) → Goes test [] (kind.Truth ∷ []) → Acts body 1 [] [] → Goes (while_code test body t) [] []
  while_acts test body t f g at end h known =
      let w = parts u.body (at + 1) test _ end h.1 in
      let r = parts u.body (w.0 + 1) body _ end w.2.1 in
      let n = spans u.body (at + 1) test w.0 w.1 in
      let m = spans u.body (w.0 + 1) body r.0 r.1 in
      let s = begins t at [] h.0 known in
      let x = f (at + 1) w.0 w.1 s.0 in
      let one = behind_jump_no w.0 _ t.line [] w.2.0 x.0 in
      let y = g (w.0 + 1) r.0 r.1 one in
      let last = subst (λ e. Known e []) r.2.1 (behind_jump_is r.0 _ t.line [] r.2.0 y.0) in
      let start : at ≡ r.0 - (length body + 1 + length test + 1) = omega (arith, n, m) in
      let other : end ≡ w.0 + 1 + (length body + 1) = omega (arith, m, r.2.1) in (
        last,
        λ l.
            let z = y.1 (lands r.0 _ r.2.0 refl) (record { lands = subst Lands (sym r.2.1) l; known = subst (λ e. Known e []) (sym r.2.1) last }) in
            let v = x.1 (lands w.0 _ w.2.0 refl) in (
              s.1,
              both_fine at (at + 1) end s.2
                  (both_fine (at + 1) w.0 end v.1
                  (both_fine w.0 (w.0 + 1) end (jump_no_fine w.0 _ t.line [] w.2.0 x.0 one (subst (λ e. LeadsTo w.0 e []) other (forward w.0 end [] (omega (arith, m, r.2.1)) l last)))
                  (both_fine (w.0 + 1) r.0 end z.1
                  (subst (λ e. AreFine r.0 e) r.2.1 (jump_fine r.0 _ t.line [] r.2.0 y.0 (subst (λ e. LeadsTo r.0 e []) start (back r.0 at t.line [] (omega (arith, n, m)) h.0 known))))))),
            ),
      )

  pub turns_act : (x : ℕ) (v : Option ℕ) (body : Code) (t : Site) → names_fit units u (Next x v 0) ≡ true → Acts body 1 [] [] → Goes (turns_code x v body t) [] []
  turns_act x v body t names g at end h known =
      let r = parts u.body (at + 1 + 1) body _ end h.1.1 in
      let m = spans u.body (at + 1 + 1) body r.0 r.1 in
      let s = begins t at [] h.0 known in
      let goal : ℕ = at + 1 + 1 + (length body + 1) in
      let next = kinds_next units u (at + 1) (on t (Next x v goal) (at + 1)) [] [] h.1.0 s.0 refl in
      let y = g (at + 1 + 1) r.0 r.1 next in
      let last = subst (λ e. Known e []) r.2.1 (behind_jump_is r.0 _ t.line [] r.2.0 y.0) in
      let start : at ≡ r.0 - (length body + 2) = omega (arith, m) in
      let other : end ≡ goal = omega (arith, m, r.2.1) in (
        last,
        λ l.
            let z = y.1 (lands r.0 _ r.2.0 refl) (record { lands = subst Lands (sym r.2.1) l; known = subst (λ e. Known e []) (sym r.2.1) last }) in
            let to : LeadsTo (at + 1) goal [] = subst (λ e. LeadsTo (at + 1) e []) other (forward (at + 1) end [] (omega (arith, m, r.2.1)) l last) in (
              s.1,
              both_fine at (at + 1) end s.2
                  (both_fine (at + 1) (at + 1 + 1) end (one_fine (at + 1) (on t (Next x v goal) (at + 1)) h.1.0 (fine (at + 1) (on t (Next x v goal) (at + 1)) [] [] s.0 refl names next to.0 to.1 refl))
                  (both_fine (at + 1 + 1) r.0 end z.1
                  (subst (λ e. AreFine r.0 e) r.2.1 (jump_fine r.0 _ t.line [] r.2.0 y.0 (subst (λ e. LeadsTo r.0 e []) start (back r.0 at t.line [] (omega (arith, m)) h.0 known)))))),
            ),
      )

  pub forever_acts : (body : Code) (t : Site) → Acts body 1 [] [] → Goes (forever_code body t) [] []
  forever_acts body t g at end h known =
      let r = parts u.body (at + 1) body _ end h.1 in
      let m = spans u.body (at + 1) body r.0 r.1 in
      let s = begins t at [] h.0 known in
      let y = g (at + 1) r.0 r.1 s.0 in
      let last = subst (λ e. Known e []) r.2.1 (behind_jump_is r.0 _ t.line [] r.2.0 y.0) in
      let start : at ≡ r.0 - (length body + 1) = omega (arith, m) in (
        last,
        λ l.
            let z = y.1 (lands r.0 _ r.2.0 refl) (record { lands = subst Lands (sym r.2.1) l; known = subst (λ e. Known e []) (sym r.2.1) last }) in (
              s.1,
              both_fine at (at + 1) end s.2
                  (both_fine (at + 1) r.0 end z.1
                  (subst (λ e. AreFine r.0 e) r.2.1 (jump_fine r.0 _ t.line [] r.2.0 y.0 (subst (λ e. LeadsTo r.0 e []) start (back r.0 at t.line [] (omega (arith, m)) h.0 known))))),
            ),
      )

  pub until_acts : (body test : Code) (t s : Site) → Acts body (length test + 2) [] [] → Goes test [] (kind.Truth ∷ []) → Goes (until_code body test t s) [] []
  until_acts body test t s g f at end h known =
      let r = parts u.body (at + 1) body _ end h.1 in
      let w = parts u.body (r.0 + 1) test _ end r.2.1 in
      let m = spans u.body (at + 1) body r.0 r.1 in
      let n = spans u.body (r.0 + 1) test w.0 w.1 in
      let b = begins t at [] h.0 known in
      let y = g (at + 1) r.0 r.1 b.0 in
      let q = begins s r.0 [] r.2.0 y.0 in
      let x = f (r.0 + 1) w.0 w.1 q.0 in
      let next = behind_jump_no w.0 _ s.line [] w.2.0 x.0 in
      let last = subst (λ e. Known e []) w.2.1 next in
      let start : at ≡ w.0 - (length test + 1 + length body + 1) = omega (arith, n, m) in
      let exit : end ≡ r.0 + (length test + 2) = omega (arith, n, w.2.1) in (
        last,
        λ l.
            let z = y.1 q.1 (record { lands = subst Lands exit l; known = subst (λ e. Known e []) exit last }) in
            let v = x.1 (lands w.0 _ w.2.0 refl) in (
              b.1,
              both_fine at (at + 1) end b.2
                  (both_fine (at + 1) r.0 end z.1
                  (both_fine r.0 (r.0 + 1) end q.2
                  (both_fine (r.0 + 1) w.0 end v.1
                  (subst (λ e. AreFine w.0 e) w.2.1 (jump_no_fine w.0 _ s.line [] w.2.0 x.0 next (subst (λ e. LeadsTo w.0 e []) start (back w.0 at t.line [] (omega (arith, n, m)) h.0 known))))))),
            ),
      )

  -- `выход`
  pub leave_acts : (t : Site) (after : ℕ) → Acts (jump t after ∷ []) after [] []
  leave_acts t after at end h known =
      let next = subst (λ e. Known e []) h.1 (behind_jump_is at _ t.line [] h.0 known) in
      let target : end + after ≡ at + 1 + after = omega (arith, h.1) in
      (next, λ l r. (lands at _ h.0 refl, subst (λ e. AreFine at e) h.1 (jump_fine at _ t.line [] h.0 known (subst (λ e. LeadsTo at e []) target (forward at (end + after) [] (omega (arith, h.1)) r.lands r.known)))))

  -- `стоп`
  pub quit_goes : (t : Site) (ks : Kinds) → Goes (on t instruction.Quit ∷ []) ks ks
  quit_goes t ks at end h known =
      let next = kinds_next units u at (on t instruction.Quit at) ks ks h.0 known refl in
      (subst (λ e. Known e ks) h.1 next, λ l. (lands at _ h.0 refl, subst (λ e. AreFine at e) h.1 (one_fine at _ h.0 (fine at (on t instruction.Quit at) ks ks known refl refl tt tt refl refl))))
