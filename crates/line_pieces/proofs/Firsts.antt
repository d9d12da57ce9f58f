-- Lines that begin units, and spans.
use Rattle.std.proofs.Common.{◌≡◌, ◌↔◌, ℕ, ◌+◌, ◌-◌, ◌<◌, ◌≤◌, Bool, true, false, IsTrue, List, [], ◌∷◌, ◌++◌, length, get_or, Option, sym, ◌∙◌, subst, refl, arith, ap, append_assoc, ⊎_elim}
use Rattle.std.specs.List.{AllByRecursion}
use Rattle.std.proofs.lemmas.List.{get_or_default}
use Rattle.std.proofs.lemmas.Bool.{cases_lt}
use Rattle.kumir_tree.specs.declared.token.Spanned.{Spanned}
use Rattle.kumir_lexer.specs.declared.cutting.LexFault.{LexFault}
use Rattle.kumir_lexer.specs.Cutting.{Cut}
use Rattle.line_pieces.specs.Spans.{IsAlgorithmWord, BeginsUnit, NoneBegins, IsUnitSpan, Cover, AreSpans}
use Rattle.line_pieces.specs.declared.spans.LineSpan.{LineSpan}

-- each line has at most one cutting
abbrev pub OneCutting : Type 0
OneCutting = (line : List ℕ) (ts us : List Spanned) (f g : Option LexFault) → Cut line ts f → Cut line us g → (ts ≡ us) × (f ≡ g)

pub decided : OneCutting → (line text : List ℕ) (tokens shown : List Spanned) (fault : Option LexFault) (r : Bool) → text ≡ line → shown ≡ tokens → Cut text tokens fault → IsTrue r ↔ IsAlgorithmWord shown → IsTrue r ↔ BeginsUnit line
unfolding BeginsUnit
decided only line text tokens shown fault r same listed cut is =
    let here : Cut line tokens fault = subst (λ l. Cut l tokens fault) same cut in
    (λ t. (tokens, fault, here, subst IsAlgorithmWord listed (is.0 t)), λ b. is.1 (subst IsAlgorithmWord (sym listed) (subst IsAlgorithmWord (only line b.0 tokens b.1 fault b.2 here).0 b.3)))

pub none_more : (lines : List (List ℕ)) (from at : ℕ) (d : List ℕ) (b : Bool) → at < length lines → d ≡ get_or lines at d → (IsTrue b ↔ BeginsUnit d) → b ≡ false → NoneBegins lines from (at + 1) → NoneBegins lines from (at + 1 + 1)
none_more lines from at d b h read is f none k l less =
    ⊎_elim
    (λ (below : k < at + 1). none k l below)
    (λ (or : at + 1 ≤ k). λ begins.
    let e : b ≡ true = is.1 (subst BeginsUnit (ap (λ j. get_or lines j []) (let same : k - 1 ≡ at = omega arith in same) ∙ (get_or_default lines at [] d h ∙ sym read)) begins) in
    let both : true ≡ false = sym e ∙ f in absurd (let no_way : ⊥ = cc in no_way))
    (cases_lt k (at + 1))

pub span_more : (lines : List (List ℕ)) (at end : ℕ) (before units : List LineSpan)
    → at < length lines → BeginsUnit (get_or lines at []) → at + 1 ≤ end → NoneBegins lines (at + 1 + 1) (end + 1)
    → ((us : List LineSpan) → AllByRecursion (IsUnitSpan lines) us → Cover (at + 1) us (length lines + 1) → AreSpans lines (before ++ us))
    → AllByRecursion (IsUnitSpan lines) units → Cover (end + 1) units (length lines + 1)
    → AreSpans lines ((before ++ record { first = at + 1; count = end - at } ∷ []) ++ units)
span_more lines at end before units h begins less none so_far all cover =
    let whole : at + 1 + (end - at) ≡ end + 1 = omega arith in
    let place : at ≡ at + 1 - 1 = omega arith in
    rw append_assoc (so_far (record { first = at + 1; count = end - at } ∷ units)
    (record { some = omega arith; begins = subst (λ n. BeginsUnit (get_or lines n [])) place begins; rest = λ k l m. none k l (omega arith) }, all)
    (refl, subst (λ e. Cover e units (length lines + 1)) (sym whole) cover))
