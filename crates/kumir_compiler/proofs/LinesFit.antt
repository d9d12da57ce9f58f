-- Single lines of compiled code, from kinds of operands to kinds of operands.
use Rattle.std.proofs.Common.{◌≡◌, ℕ, zero, suc, ◌+◌, ◌<◌, ◌≤◌, true, cond, ◌&&◌, ◌||◌, List, [], ◌∷◌, length, map, Option, Some, None, refl, ap, ◌∙◌, subst, arith, nat_eq}
use Rattle.std.specs.Prelude.{slice_get, ◌*◌}
use Rattle.std.proofs.lemmas.Bool.Decides.{nat_tests}
use Rattle.kumir_tree.specs.declared.kind.Kind.{Kind}
use Rattle.kumir_tree.specs.declared.kind.Kind.TheVariants as kind
use Rattle.stack_code.specs.declared.instruction.Instruction.TheVariants as instruction
use Rattle.stack_code.specs.declared.instruction.CodeLine.{CodeLine}
use Rattle.stack_code.specs.declared.unit.Shape.{Shape}
use Rattle.stack_code.specs.declared.unit.Shape.TheVariants.{Scalar, Table, Hidden}
use Rattle.stack_code.specs.declared.unit.CodeUnit.{CodeUnit}
use Rattle.kumir_tree.specs.Kinds.{same_kind}
use Rattle.stack_code.specs.Operands.{Kinds, pop, pop_some, pop_numbers, then_pop, pushing, push_some, leaving, value_kind, element_kind}
use Rattle.stack_code.specs.Validity.{is_scalar, is_hidden, is_table, is_table_of}
use Rattle.kumir_compiler.specs.Code.{Site, on, keep_code, kept_at, written_below, all_written_below}
use Rattle.kumir_compiler.proofs.CodeAt.{IsCodeAt}
use Rattle.kumir_compiler.proofs.CodePieces.{IsPlain, Goes, nothing, joined, plain}

-- so many numbers on top
abbrev pub many : ℕ → Kinds → Kinds
many zero ks = ks
many (suc n) ks = kind.Whole ∷ many n ks

abbrev pub twice : ℕ → Kinds → Kinds
twice zero ks = ks
twice (suc n) ks = kind.Whole ∷ kind.Whole ∷ twice n ks

pub many_more : (n : ℕ) (ks : Kinds) → many n (kind.Whole ∷ ks) ≡ many (n + 1) ks
many_more n ks = under n ks ∙ (let e : suc n ≡ n + 1 = omega arith in ap (λ m. many m ks) e)
  where
    under : (n : ℕ) (ks : Kinds) → many n (kind.Whole ∷ ks) ≡ many (suc n) ks
    under zero ks = refl
    under (suc n) ks = ap (λ l. kind.Whole ∷ l) (under n ks)

pub twice_more : (n : ℕ) (ks : Kinds) → twice n (kind.Whole ∷ kind.Whole ∷ ks) ≡ twice (suc n) ks
twice_more zero ks = refl
twice_more (suc n) ks = ap (λ l. kind.Whole ∷ kind.Whole ∷ l) (twice_more n ks)

twice_many : (n : ℕ) (ks : Kinds) → twice n ks ≡ many (2 * n) ks
twice_many zero ks = refl
twice_many (suc n) ks = ap (λ l. kind.Whole ∷ kind.Whole ∷ l) (twice_many n ks) ∙ (let e : suc (suc (2 * n)) ≡ 2 * suc n = omega arith in ap (λ m. many m ks) e)

pub popped : (n : ℕ) (ks : Kinds) → pop_numbers n (many n ks) ≡ Some ks
popped zero ks = refl
popped (suc n) ks = popped n ks

pub same_itself : (k : Kind) → same_kind k k ≡ true
same_itself kind.Whole = refl
same_itself kind.Truth = refl

pub pop_it : (k : Kind) (ks : Kinds) → pop k (k ∷ ks) ≡ Some ks
pop_it k ks = ap (λ b. cond b (Some ks) None) (same_itself k)

pub equal_itself : (n : ℕ) → nat_eq n n ≡ true
equal_itself n = grind (arith, nat_tests)

-- ---- hidden slots are those that are written
written_most : (body : List CodeLine) (at : ℕ) (l : CodeLine) → slice_get body at ≡ Some l → written_below l.what ≤ all_written_below body
written_most [] at l e = absurd (let wrong : ⊥ = cc in wrong)
written_most (m ∷ body) zero l e =
    let same : written_below m.what ≡ written_below l.what = ap w_of e in
    omega (arith, same)
  where
    w_of : Option CodeLine → ℕ
    w_of None = 0
    w_of (Some x) = written_below x.what
written_most (m ∷ body) (suc at) l e = let later = written_most body at l e in omega (arith, later)

module _ (units : List CodeUnit) (u : CodeUnit) (t : Site) where
  abbrev Slot : ℕ → Shape → Type 0
  Slot x s = slice_get u.slots x ≡ Some s

  -- what stands behind the variables and is written somewhere is hidden
  abbrev pub AreHidden : Type 0
  AreHidden = (h : ℕ) → length t.variables ≤ h → h < all_written_below u.body → slice_get u.slots h ≡ Some Hidden

  abbrev pub AllHidden : List ℕ → Type 0
  AllHidden [] = Unit {0}
  AllHidden (h ∷ hs) = (slice_get u.slots h ≡ Some Hidden) × AllHidden hs

  plain_load : (x : ℕ) → IsPlain (instruction.Load x)
  plain_load x = record { goes_on = refl; no_target = refl; no_call = refl }

  plain_store : (x : ℕ) → IsPlain (instruction.Store x)
  plain_store x = record { goes_on = refl; no_target = refl; no_call = refl }

  pub load : (x : ℕ) (k : Kind) (ks : Kinds) → Slot x (Scalar k) → Goes units u (on t (instruction.Load x) ∷ []) ks (k ∷ ks)
  load x k ks e = plain units u t (instruction.Load x) ks (k ∷ ks) (plain_load x) (ap (λ o. push_some (value_kind o) (Some ks)) e) (ap (λ o. is_scalar o || is_hidden o) e)

  load_hidden : (x : ℕ) (ks : Kinds) → Slot x Hidden → Goes units u (on t (instruction.Load x) ∷ []) ks (kind.Whole ∷ ks)
  load_hidden x ks e = plain units u t (instruction.Load x) ks (kind.Whole ∷ ks) (plain_load x) (ap (λ o. push_some (value_kind o) (Some ks)) e) (ap (λ o. is_scalar o || is_hidden o) e)

  pub store : (x : ℕ) (k : Kind) (ks : Kinds) → Slot x (Scalar k) → Goes units u (on t (instruction.Store x) ∷ []) (k ∷ ks) ks
  store x k ks e = plain units u t (instruction.Store x) (k ∷ ks) ks (plain_store x) (ap (λ o. pop_some (value_kind o) (k ∷ ks)) e ∙ pop_it k ks) (ap (λ o. is_scalar o || is_hidden o) e)

  store_hidden : (x : ℕ) (ks : Kinds) → Slot x Hidden → Goes units u (on t (instruction.Store x) ∷ []) (kind.Whole ∷ ks) ks
  store_hidden x ks e = plain units u t (instruction.Store x) (kind.Whole ∷ ks) ks (plain_store x) (ap (λ o. pop_some (value_kind o) (kind.Whole ∷ ks)) e) (ap (λ o. is_scalar o || is_hidden o) e)

  pub clear : (x : ℕ) (k : Kind) (ks : Kinds) → Slot x (Scalar k) → Goes units u (on t (instruction.Clear x) ∷ []) ks ks
  clear x k ks e = plain units u t (instruction.Clear x) ks ks (record { goes_on = refl; no_target = refl; no_call = refl }) refl (ap is_scalar e)

  is_table_is : (x d : ℕ) (k : Kind) → Slot x (Table k d) → is_table d (slice_get u.slots x) ≡ true
  is_table_is x d k e = ap (is_table d) e ∙ equal_itself d

  pub elem : (x d : ℕ) (k : Kind) (ks : Kinds) → Slot x (Table k d) → Goes units u (on t (instruction.Elem x d) ∷ []) (many d ks) (k ∷ ks)
  elem x d k ks e = plain units u t (instruction.Elem x d) (many d ks) (k ∷ ks) (record { goes_on = refl; no_target = refl; no_call = refl })
      (ap (λ o. push_some (element_kind o) (pop_numbers d (many d ks))) e ∙ ap (λ o. pushing k o) (popped d ks)) (is_table_is x d k e)

  pub put_elem : (x d : ℕ) (k : Kind) (ks : Kinds) → Slot x (Table k d) → Goes units u (on t (instruction.PutElem x d) ∷ []) (k ∷ many d ks) ks
  put_elem x d k ks e = plain units u t (instruction.PutElem x d) (k ∷ many d ks) ks (record { goes_on = refl; no_target = refl; no_call = refl })
      (ap (λ o. then_pop (pop_some (element_kind o) (k ∷ many d ks)) (pop_numbers d)) e ∙ ap (λ o. then_pop o (pop_numbers d)) (pop_it k (many d ks)) ∙ popped d ks) (is_table_is x d k e)

  pub probe : (x d : ℕ) (k : Kind) (ks : Kinds) → Slot x (Table k d) → Goes units u (on t (instruction.Probe x d) ∷ []) (many d ks) (many d ks)
  probe x d k ks e = plain units u t (instruction.Probe x d) (many d ks) (many d ks) (record { goes_on = refl; no_target = refl; no_call = refl })
      (ap (leaving (many d ks)) (popped d ks)) (is_table_is x d k e)

  pub make : (x d : ℕ) (k : Kind) (ks : Kinds) → Slot x (Table k d) → Goes units u (on t (instruction.Make x k d) ∷ []) (twice d ks) ks
  make x d k ks e = plain units u t (instruction.Make x k d) (twice d ks) ks (record { goes_on = refl; no_target = refl; no_call = refl })
      (ap (pop_numbers (2 * d)) (twice_many d ks) ∙ popped (2 * d) ks) (ap (is_table_of k d) e ∙ ap (λ b. b && nat_eq d d) (same_itself k) ∙ equal_itself d)

  pub fit : (x d : ℕ) (k : Kind) (ks : Kinds) → Slot x (Table k d) → Goes units u (on t (instruction.Fit x d) ∷ []) (twice d ks) ks
  fit x d k ks e = plain units u t (instruction.Fit x d) (twice d ks) ks (record { goes_on = refl; no_target = refl; no_call = refl })
      (ap (pop_numbers (2 * d)) (twice_many d ks) ∙ popped (2 * d) ks) (is_table_is x d k e)

  -- ---- hidden slots
  pub stored : AreHidden → (at x : ℕ) (l : CodeLine) → length t.variables ≤ x → slice_get u.body at ≡ Some l → written_below l.what ≡ suc x → Slot x Hidden
  stored hides at x l le there is = hides x le (let most = written_most u.body at l there in omega (arith, most, is))

  pub keep : AreHidden → (m x : ℕ) (ks : Kinds) → length t.variables ≤ x → Goes units u (keep_code m x t) (many m ks) ks
  keep hides zero x ks le = nothing units u ks
  keep hides (suc m) x ks le = λ at end h.
      joined units u (on t (instruction.Store x) ∷ []) (keep_code m (suc x) t) (many (suc m) ks) (many m ks) ks
      (store_hidden x (many m ks) (stored hides at x (on t (instruction.Store x) at) le h.0 refl)) (keep hides m (suc x) ks (omega (arith, le))) at end h

  pub kept : AreHidden → (m x : ℕ) (hs : List ℕ) (at end : ℕ) → length t.variables ≤ x → IsCodeAt u.body at (keep_code m x t) end → AllHidden hs → AllHidden (kept_at m x hs)
  kept hides zero x hs at end le h all = all
  kept hides (suc m) x hs at end le h all =
      kept hides m (suc x) (x ∷ hs) (at + 1) end (omega (arith, le)) h.1 (stored hides at x (on t (instruction.Store x) at) le h.0 refl, all)

  pub load_all : (hs : List ℕ) (ks : Kinds) → AllHidden hs → Goes units u (map (λ x. on t (instruction.Load x)) hs) ks (many (length hs) ks)
  load_all [] ks all = nothing units u ks
  load_all (h ∷ hs) ks all =
      subst (λ l. Goes units u (map (λ x. on t (instruction.Load x)) (h ∷ hs)) ks l) (many_more (length hs) ks ∙ (let e : length hs + 1 ≡ suc (length hs) = omega arith in ap (λ m. many m ks) e))
      (joined units u (on t (instruction.Load h) ∷ []) (map (λ x. on t (instruction.Load x)) hs) ks (kind.Whole ∷ ks) (many (length hs) (kind.Whole ∷ ks)) (load_hidden h ks all.0) (load_all hs (kind.Whole ∷ ks) all.1))

pub kept_length : (m x : ℕ) (hs : List ℕ) → length (kept_at m x hs) ≡ m + length hs
kept_length zero x hs = omega arith
kept_length (suc m) x hs = let e = kept_length m (suc x) (x ∷ hs) in omega (arith, e)
