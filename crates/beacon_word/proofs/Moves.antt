-- Each step keeps the rule of a beacon.
use Rattle.std.proofs.Common.{◌≡◌, ◌≢◌, ◌⊎◌, ℕ, zero, suc, ◌≤◌, ◌<◌, ◌^◌, lit<, true, false, true≢false, List, [], ◌∷◌, ◌++◌, length, set, slice_index, sym, refl, ap, ◌∙◌, subst, ⊎_elim, le_refl, le_trans, arith}
use mathlib.Core.Option.{some, some-ne-none}
use lib.ListN.{get_elem?}
use Rattle.std.specs.Prelude.{All, Contains}
use Rattle.std.proofs.lemmas.List.Sorted.{IsNonDecreasingBy-short}
use Rattle.std.proofs.lemmas.List.Elements.{All-nil, All-push}
use Rattle.crossbeam_utils.specs.Register.{Turns, Forks, Merges}
use Rattle.atomic_table.proofs.Lists.{at_set, at_snoc}
use Rattle.beacon_word.specs.declared.rule.Log.{Log}
use Rattle.beacon_word.specs.Beacon.{last_or_zero}
use Rattle.beacon_word.specs.Rising.{log, spent, IsHistory, Knows, IsBeacon}
use Rattle.beacon_word.proofs.Numbers.{last_or_zero-push, last_or_zero-known, rises_push, rises_push_all, known_more}

-- what stands in a list with one more, and not before, stands at its end
at_end : (l : List Log) (a b : Log) (j : ℕ) → get_elem? l j ≢ some b → get_elem? (l ++ a ∷ []) j ≡ some b → j ≡ length l
at_end [] a b zero n e = refl
at_end [] a b (suc j) n e = absurd (some-ne-none b (sym e))
at_end (x ∷ xs) a b zero n e = absurd (n e)
at_end (x ∷ xs) a b (suc j) n e = ap suc (at_end xs a b j n e)

abbrev AllViews : (ℕ → Log → Type 0) → List Log → Type 0
AllViews F views = (port : ℕ) (v : Log) → get_elem? views port ≡ some v → F port v

all_set : (F : ℕ → Log → Type 0) (views : List Log) (port : ℕ) (w : Log) → F port w → ((j : ℕ) (u : Log) → j ≢ port → get_elem? views j ≡ some u → F j u) → AllViews F (set views port w)
all_set F views port w mine others j u e = ⊎_elim (λ (x : (j ≡ port) × (w ≡ u)). subst (λ (y : ℕ × Log). F y.0 y.1) (λ i. (sym x.0 i, x.1 i)) mine)
    (λ (x : (j ≢ port) × (get_elem? views j ≡ some u)). others j u x.0 x.1) (at_set views port j w u e)

history_first : IsHistory 0 [] []
history_first = record {
  law = record { raised_rise = IsNonDecreasingBy-short (λ x. x) [] (omega arith); shown_rise = IsNonDecreasingBy-short (λ x. x) [] (omega arith); shown_known = All-nil _ };
  last = refl;
  later = All-nil _;
  fits = lit< tt;
}

history_raise : (word new : ℕ) (raised shown : List ℕ) → IsHistory word raised shown → last_or_zero raised ≤ new → new < 2 ^ 32 → IsHistory new (raised ++ new ∷ []) shown
history_raise word new raised shown h up fits = record {
  law = record {
    raised_rise = rises_push raised new h.law.raised_rise up;
    shown_rise = h.law.shown_rise;
    shown_known = known_more raised (new ∷ []) shown h.law.shown_known;
  };
  last = sym (last_or_zero-push raised new);
  later = λ k d inside. le_trans (h.later k d inside) (subst (λ n. n ≤ new) (sym h.last) up);
  fits = fits;
}

history_look : (word : ℕ) (raised shown : List ℕ) → IsHistory word raised shown → IsHistory word raised (shown ++ word ∷ [])
history_look word raised shown h = record {
  law = record {
    raised_rise = h.law.raised_rise;
    shown_rise = rises_push_all shown word h.law.shown_rise h.later;
    shown_known = All-push (λ n. (n ≡ 0) ⊎ Contains raised n) shown word h.law.shown_known (subst (λ n. (n ≡ 0) ⊎ Contains raised n) (sym h.last) (last_or_zero-known raised));
  };
  last = h.last;
  later = All-push (λ n. n ≤ word) shown word h.later (le_refl word);
  fits = h.fits;
}

pub begins : IsBeacon (0 ∷ []) (log true true [] [] ∷ [])
begins = (
  0,
  0,
  [],
  [],
  history_first,
  all_set (Knows 0 0 [] []) (log true true [] [] ∷ []) 0 (log true true [] []) ((λ _. (refl, refl)), λ _. (refl, refl)) (λ j u other e. absurd (other (at_end [] _ u j (λ x. some-ne-none u (sym x)) e))),
)

pub raises : (port : ℕ) (v : Log) (new : ℕ) → v.raises ≡ true → last_or_zero v.raised ≤ new → new < 2 ^ 32
    → Turns IsBeacon port v (λ _. new ∷ []) (λ v x y w. w ≡ log v.raises v.looks (v.raised ++ slice_index y 0 ∷ []) v.shown)
raises port v new may up fits x views h at = let w : Log = log v.raises v.looks (v.raised ++ new ∷ []) v.shown in let mine = h.5 port v at in let raised = h.2 ++ new ∷ [] in (
  w,
  (
    h.0,
    h.1,
    raised,
    h.3,
    history_raise (slice_index x 0) new h.2 h.3 h.4 (subst (λ l. last_or_zero l ≤ new) (mine.0 may).1 up) fits,
    all_set (Knows h.0 h.1 raised h.3) views port w ((λ _. ((mine.0 may).0, ap (λ l. l ++ new ∷ []) (mine.0 may).1)), mine.1)
        (λ j u other e. ((λ p. absurd (other (((h.5 j u e).0 p).0 ∙ sym (mine.0 may).0))), (h.5 j u e).1)),
  ),
  refl,
)

pub shows : (port : ℕ) (v : Log) → v.looks ≡ true
    → Turns IsBeacon port v (λ x. x) (λ v x y w. (w ≡ log v.raises v.looks v.raised (v.shown ++ slice_index x 0 ∷ [])) × All (λ n. n ≤ slice_index x 0) v.shown × (slice_index x 0 < 2 ^ 32))
shows port v may x views h at = let n : ℕ = slice_index x 0 in let w : Log = log v.raises v.looks v.raised (v.shown ++ n ∷ []) in let mine = h.5 port v at in let shown = h.3 ++ n ∷ [] in (
  w,
  (
    h.0,
    h.1,
    h.2,
    shown,
    history_look n h.2 h.3 h.4,
    all_set (Knows h.0 h.1 h.2 shown) views port w (mine.0, λ _. ((mine.1 may).0, ap (λ l. l ++ n ∷ []) (mine.1 may).1))
        (λ j u other e. ((h.5 j u e).0, λ p. absurd (other (((h.5 j u e).1 p).0 ∙ sym (mine.1 may).0)))),
  ),
  (refl, subst (λ l. All (λ m. m ≤ n) l) (sym (mine.1 may).1) h.4.later, h.4.fits),
)

pub settles : (port : ℕ) (v : Log) → v.raises ≡ true → v.looks ≡ true → Turns IsBeacon port v (λ x. x) (λ v x y w. IsHistory (slice_index x 0) v.raised v.shown)
settles port v a b x views h at = let mine = h.5 port v at in (
  v,
  (h.0, h.1, h.2, h.3, h.4, all_set (Knows h.0 h.1 h.2 h.3) views port v mine (λ j u _ e. h.5 j u e)),
  subst (λ (y : List ℕ × List ℕ). IsHistory (slice_index x 0) y.0 y.1) (λ i. (sym (mine.0 a).1 i, sym (mine.1 b).1 i)) h.4,
)

pub forks : (port : ℕ) (v : Log) → v.raises ≡ true → v.looks ≡ true → Forks IsBeacon port v (log true false v.raised []) (log false true [] v.shown)
forks port v a b x views h at = let l : Log = log true false v.raised [] in let r : Log = log false true [] v.shown in let mine = h.5 port v at in let vs : List Log = set views port l in
    let Old : ℕ → Log → Type 0 = λ j u. (u.raises ≡ true → (j ≡ h.0) × (u.raised ≡ h.2)) × (u.looks ≢ true) in
    let old : AllViews Old vs = all_set Old views port l ((λ _. mine.0 a), λ p. true≢false (sym p)) (λ j u other e. ((h.5 j u e).0, λ p. other (((h.5 j u e).1 p).0 ∙ sym (mine.1 b).0))) in (
      h.0,
      length vs,
      h.2,
      h.3,
      h.4,
      λ j u e. ⊎_elim (λ x. ((old j u x).0, λ p. absurd ((old j u x).1 p)))
          (λ (is : r ≡ u). ((λ p. absurd (true≢false (sym (ap (λ (y : Log). y.raises) is ∙ p)))), λ p. (at_end vs r u j (λ x. (old j u x).1 p) e, ap (λ (y : Log). y.shown) (sym is) ∙ (mine.1 b).1))) (at_snoc vs r u j e),
    )

pub merges : (port : ℕ) (v : Log) (other : ℕ) (u : Log) → v.raises ≡ true → u.looks ≡ true → Merges IsBeacon port v other u (log true true v.raised u.shown) spent
merges port v other u a b x views h at two at' = let both : Log = log true true v.raised u.shown in let mine = h.5 port v at in let vs : List Log = set views port both in
    let was : get_elem? views other ≡ some u = ⊎_elim (λ x. absurd (two x.0)) (λ x. x.1) (at_set views port other both u at') in let theirs = (h.5 other u was).1 b in
    let Now : ℕ → Log → Type 0 = λ j y. j ≢ other → Knows h.0 port h.2 h.3 j y in
    let now : AllViews Now vs = all_set Now views port both (λ _. ((λ _. mine.0 a), λ _. (refl, theirs.1))) (λ j y _ e apart. ((h.5 j y e).0, λ p. absurd (apart (((h.5 j y e).1 p).0 ∙ sym theirs.0)))) in
    (h.0, port, h.2, h.3, h.4, all_set (Knows h.0 port h.2 h.3) vs other spent ((λ p. absurd (true≢false (sym p))), λ p. absurd (true≢false (sym p))) (λ j y apart e. now j y e apart))

-- the looker's view goes to a new pass
pub moves : (port : ℕ) (v : Log) → v.looks ≡ true → Forks IsBeacon port v spent (log false true [] v.shown)
moves port v b x views h at = let r : Log = log false true [] v.shown in let mine = h.5 port v at in let vs : List Log = set views port spent in
    let Old : ℕ → Log → Type 0 = λ j u. (u.raises ≡ true → (j ≡ h.0) × (u.raised ≡ h.2)) × (u.looks ≢ true) in
    let old : AllViews Old vs = all_set Old views port spent ((λ p. absurd (true≢false (sym p))), λ p. true≢false (sym p)) (λ j u other e. ((h.5 j u e).0, λ p. other (((h.5 j u e).1 p).0 ∙ sym (mine.1 b).0))) in (
      h.0,
      length vs,
      h.2,
      h.3,
      h.4,
      λ j u e. ⊎_elim (λ x. ((old j u x).0, λ p. absurd ((old j u x).1 p)))
          (λ (is : r ≡ u). ((λ p. absurd (true≢false (sym (ap (λ (y : Log). y.raises) is ∙ p)))), λ p. (at_end vs r u j (λ x. (old j u x).1 p) e, ap (λ (y : Log). y.shown) (sym is) ∙ (mine.1 b).1))) (at_snoc vs r u j e),
    )
