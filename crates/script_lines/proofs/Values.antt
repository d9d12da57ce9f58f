-- The values of words, one after the other.
use Rattle.std.proofs.Common.{◌≡◌, ℕ, ◌+◌, ◌<◌, ◌≤◌, List, [], ◌∷◌, ◌++◌, length, get_or, map, drop, Option, Some, None, refl, sym, ap, ◌∙◌, append_assoc, append-nil, Bor}
use Rattle.std.proofs.lemmas.List.{drop_more, drop_all}
use Rattle.kumir_values.specs.declared.value.Value.{Value}
use Rattle.script_lines.specs.Words.{value_of, values_of, with_value}

-- values, and then those after them, where there are any
abbrev pub after_values : List Value → Option (List Value) → Option (List Value)
after_values earlier None = None
after_values earlier (Some rest) = Some (earlier ++ rest)

after_one : (earlier : List Value) (v : Value) (rest : Option (List Value)) → after_values (earlier ++ v ∷ []) rest ≡ after_values earlier (with_value (Some v) rest)
after_one earlier v None = refl
after_one earlier v (Some rest) = ap Some (append_assoc earlier (v ∷ []) rest)

values_at : (words : List (Bor (List ℕ))) (i : ℕ) (w : Bor (List ℕ)) → i < length words → values_of (map (λ w. w.now) (drop i words)) ≡ with_value (value_of (get_or words i w).now) (values_of (map (λ w. w.now) (drop (i + 1) words)))
values_at words i w within = ap (λ ws. values_of (map (λ w. w.now) ws)) (drop_more words i w within)

-- one more value
pub value_more : (earlier : List Value) (words : List (Bor (List ℕ))) (i : ℕ) (w : Bor (List ℕ)) (v : Value) → i < length words → Some v ≡ value_of (get_or words i w).now → after_values (earlier ++ v ∷ []) (values_of (map (λ w. w.now) (drop (i + 1) words))) ≡ after_values earlier (values_of (map (λ w. w.now) (drop i words)))
value_more earlier words i w v within is =
    after_one earlier v (values_of (map (λ w. w.now) (drop (i + 1) words)))
    ∙ ap (λ o. after_values earlier (with_value o (values_of (map (λ w. w.now) (drop (i + 1) words))))) is
    ∙ ap (after_values earlier) (sym (values_at words i w within))

-- a word that is no value
pub value_none : (earlier : List Value) (words : List (Bor (List ℕ))) (i : ℕ) (w : Bor (List ℕ)) → i < length words → None ≡ value_of (get_or words i w).now → after_values earlier (values_of (map (λ w. w.now) (drop i words))) ≡ None
value_none earlier words i w within is =
    ap (after_values earlier) (values_at words i w within)
    ∙ ap (λ o. after_values earlier (with_value o (values_of (map (λ w. w.now) (drop (i + 1) words))))) (sym is)

pub values_start : (earlier : List Value) (rest : Option (List Value)) → earlier ≡ [] → after_values earlier rest ≡ rest
values_start earlier None start = refl
values_start earlier (Some rest) start = ap (λ f. Some (f ++ rest)) start

pub values_end : (earlier : List Value) (words : List (Bor (List ℕ))) (i : ℕ) → length words ≤ i → Some earlier ≡ after_values earlier (values_of (map (λ w. w.now) (drop i words)))
values_end earlier words i past =
    ap Some (sym (append-nil earlier)) ∙ sym (ap (λ ws. after_values earlier (values_of (map (λ w. w.now) ws))) (drop_all i words past))
