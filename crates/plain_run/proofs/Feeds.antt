-- No line of a text has a line feed, and its lines are no longer than the text.
use Rattle.std.proofs.Common.{◌≡◌, ◌≢◌, ℕ, zero, suc, ◌-◌, ◌<◌, true, false, cond, ◌==◌, List, [], ◌∷◌, ◌++◌, length, take, get_or, map, arith, sym, ap, subst, ◌∙◌, refl}
use Rattle.std.specs.List.{All, AllByRecursion, slice_split, onto_first}
use Rattle.std.specs.Char.{encode_utf8}
use Rattle.std.specs.Str.{chars, encode_utf8_all, IsUtf8}
use Rattle.std.specs.Str.Lines.{lines, lines_of_parts, strip_carriage_return}
use Rattle.std.proofs.lemmas.Bool.{eqb-false}
use Rattle.std.proofs.lemmas.Str.{encodes-chars}
use Rattle.std.proofs.lemmas.List.{length-map, get_or-map}
use Rattle.std.proofs.lemmas.List.Elements.{All-from_recursion, recursion_from_All}
use Rattle.kumir_tree.specs.Lines.{IsLine}
use Rattle.plain_run.specs.Feeds.{HasNoFeed}

abbrev IsOther : ℕ → Type 0
IsOther b = b ≢ 10

prefix_others : (n : ℕ) (l : List ℕ) → AllByRecursion IsOther l → AllByRecursion IsOther (take n l)
prefix_others zero l h = tt
prefix_others (suc n) [] h = tt
prefix_others (suc n) (b ∷ l) h = (h.0, prefix_others n l h.1)

behind_others : (xs ys : List ℕ) → AllByRecursion IsOther (xs ++ ys) → AllByRecursion IsOther ys
behind_others [] ys h = h
behind_others (x ∷ xs) ys h = behind_others xs ys h.1

strip_others : (l : List ℕ) → AllByRecursion IsOther l → AllByRecursion IsOther (strip_carriage_return l)
strip_others l h =
    elim (get_or l (length l - 1) 0 == 13) as (λ t. AllByRecursion IsOther (cond t (take (length l - 1) l) l)) [
      | true ↦ prefix_others (length l - 1) l h
      | false ↦ h
    ]

onto_others : (b : ℕ) (parts : List (List ℕ)) → IsOther b → AllByRecursion (AllByRecursion IsOther) parts → AllByRecursion (AllByRecursion IsOther) (onto_first b parts)
onto_others b [] other h = ((other, tt), tt)
onto_others b (p ∷ ps) other h = ((other, h.0), h.1)

split_others : (bs : List ℕ) → AllByRecursion (AllByRecursion IsOther) (slice_split (λ b. b == 10) bs)
split_others [] = (tt, tt)
split_others (b ∷ bs) =
    elim (b == 10) as (λ t. (b == 10) ≡ t → AllByRecursion (AllByRecursion IsOther) (cond t ([] ∷ slice_split (λ c. c == 10) bs) (onto_first b (slice_split (λ c. c == 10) bs)))) [
      | true ↦ λ e. (tt, split_others bs)
      | false ↦ λ e. onto_others b (slice_split (λ c. c == 10) bs) (eqb-false b 10 e) (split_others bs)
    ] refl

parts_others : (parts : List (List ℕ)) → AllByRecursion (AllByRecursion IsOther) parts → AllByRecursion (AllByRecursion IsOther) (lines_of_parts parts)
parts_others [] h = tt
parts_others (x ∷ []) h = elim (length x == 0) as (λ t. AllByRecursion (AllByRecursion IsOther) (cond t [] (x ∷ []))) [ true ↦ tt | false ↦ h ]
parts_others (x ∷ y ∷ more) h = (strip_others x h.0, parts_others (y ∷ more) h.1)

lines_others : (bs : List ℕ) → AllByRecursion (AllByRecursion IsOther) (lines bs)
lines_others bs = parts_others (slice_split (λ b. b == 10) bs) (split_others bs)

-- the lines' own pieces have no line feed
pub pieces_free : {X : Type 0} (now : X → List ℕ) (pieces : List X) (text : List ℕ) → map now pieces ≡ lines text → All (λ piece. HasNoFeed (now piece)) pieces
pieces_free now pieces text e k d lt =
    let inside : k < length (lines text) = omega (arith, length-map pieces now, ap (λ (l : List (List ℕ)). length l) e) in
    let same : get_or (lines text) k [] ≡ now (get_or pieces k d) = ap (λ (l : List (List ℕ)). get_or l k []) (sym e) ∙ get_or-map now pieces k d [] lt in
    let free : AllByRecursion IsOther (get_or (lines text) k []) = All-from_recursion (AllByRecursion IsOther) (lines text) (lines_others text) k [] inside in
    All-from_recursion IsOther (now (get_or pieces k d)) (subst (AllByRecursion IsOther) same free)

-- characters whose bytes are no line feeds are none
first_other : (c : ℕ) (bytes : List ℕ) → AllByRecursion IsOther (encode_utf8 c ++ bytes) → c ≢ 10
unfolding encode_utf8
first_other c bytes h e = (subst (λ d. AllByRecursion IsOther (encode_utf8 d ++ bytes)) e h).0 refl

characters_others : (cs : List ℕ) → AllByRecursion IsOther (encode_utf8_all cs) → AllByRecursion IsOther cs
characters_others [] h = tt
characters_others (c ∷ cs) h = (first_other c (encode_utf8_all cs) h, characters_others cs (behind_others (encode_utf8 c) (encode_utf8_all cs) h))

pub line_of_bytes : (text : List ℕ) → IsUtf8 text → HasNoFeed text → IsLine (chars text)
line_of_bytes text utf8 free =
    All-from_recursion IsOther (chars text) (characters_others (chars text) (subst (AllByRecursion IsOther) (sym (encodes-chars text utf8)) (recursion_from_All IsOther text free)))
