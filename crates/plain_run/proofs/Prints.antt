-- The print of lines, one part after another.
use Rattle.std.proofs.Common.{map, ◌≡◌, ℕ, ◌+◌, ◌<◌, ◌≤◌, List, [], ◌∷◌, ◌++◌, length, take, drop, get_or, Option, arith, sym, ap, subst, ◌∙◌, refl, append_assoc, append-nil, length-append}
use Rattle.std.proofs.Math.Seq.{take-append-add}
use Rattle.std.proofs.lemmas.List.{take-append-le, take-append-drop, take_more, length-take-le, get_or-map, length-map}
use Rattle.km_ports.specs.Ports.{SinkState, PutsInto}
use Rattle.km_ports.specs.declared.port.PutFault.{PutFault}
use Rattle.km_ports.specs.declared.port.PutFault.TheVariants as put_fault
use Rattle.std.specs.Prelude.{Result, Ok, Err, OnErr, IfErr}
use Rattle.km_ports.proofs.PortLaws.{PutsInto-nothing, PutsInto-then}
use Rattle.kumir_tree.specs.declared.token.Spanned.{Spanned}
use Rattle.kumir_lexer.specs.declared.cutting.LexFault.{LexFault}
use Rattle.kumir_lexer.specs.Cutting.{Cut}
use Rattle.kumir_lexer.specs.Printed.{printed_tokens}
use Rattle.kumir_lexer.proofs.SomeCutting.{some_cut}
use Rattle.km_ports.specs.Whole.{PutsPrefix}
use Rattle.kumir_tree.specs.Lines.{lines_of}
use Rattle.km_ports.specs.declared.status.Status.TheVariants as status
use Rattle.plain_run.specs.Printed.{PrintsLines, AnswersTokens}
use Rattle.plain_run.specs.Runs.{Ports, Wrote}
use Rattle.plain_run.proofs.Runs.{AnsweredPart}
use Rattle.plain_run.specs.Puts.{IsPart, PutsLines, PutsPrefixOf}

prints_append : (n : ℕ) (xs ys : List (List ℕ)) (a b : List ℕ) → PrintsLines n xs a → PrintsLines (n + length xs) ys b → PrintsLines n (xs ++ ys) (a ++ b)
unfolding PrintsLines
prints_append n [] ys a b p q =
    let here : n + length {A = List ℕ} [] ≡ n = omega arith in
    subst (λ t. PrintsLines n ys (t ++ b)) (sym p) (subst (λ k. PrintsLines k ys b) here q)
prints_append n (x ∷ xs) ys a b p q =
    let next : n + length (x ∷ xs) ≡ n + 1 + length xs = omega arith in
    let more = prints_append (n + 1) xs ys p.2 b p.4 (subst (λ k. PrintsLines k ys b) next q) in
    (p.0, p.1, p.2 ++ b, p.3, more, ap (λ t. t ++ b) p.5 ∙ append_assoc (printed_tokens n p.0 p.1) p.2 b)

-- there is a print of all lines
pub prints_some : (n : ℕ) (lines : List (List ℕ)) → (text : List ℕ) × PrintsLines n lines text
unfolding PrintsLines
prints_some n [] = ([], refl)
prints_some n (x ∷ xs) =
    let cut = some_cut x in
    let rest = prints_some (n + 1) xs in
    (printed_tokens n cut.0 cut.1 ++ rest.0, (cut.0, cut.1, rest.0, cut.2, rest.1, refl))

-- one line
pub prints_one : (n : ℕ) (line : List ℕ) (tokens : List Spanned) (fault : Option LexFault) → Cut line tokens fault → PrintsLines n (line ∷ []) (printed_tokens n tokens fault)
unfolding PrintsLines
prints_one n line tokens fault cut = (tokens, fault, [], cut, refl, sym (append-nil (printed_tokens n tokens fault)))

pub puts_none : (n : ℕ) (written : SinkState) → PutsLines n [] written written
unfolding PrintsLines
puts_none n written = ([], refl, PutsInto-nothing written)

pub puts_then : (n : ℕ) (xs ys : List (List ℕ)) (before between now : SinkState) → PutsLines n xs before between → PutsLines (n + length xs) ys between now → PutsLines n (xs ++ ys) before now
puts_then n xs ys before between now p q = (p.0 ++ q.0, prints_append n xs ys p.0 q.0 p.1 q.1, PutsInto-then before between now p.0 q.0 p.2 q.2)

-- ---- a part of a text

part_fits : (fault : PutFault) (count : ℕ) (text : List ℕ) → IsPart fault count text → count ≤ length text
part_fits put_fault.Failed count text p = omega (arith, p)
part_fits put_fault.Memory count text p = p

pub part_less : (fault : PutFault) (count : ℕ) (text : List ℕ) → count < length text → IsPart fault count text
part_less put_fault.Failed count text p = p
part_less put_fault.Memory count text p = omega (arith, p)

part_behind : (fault : PutFault) (count : ℕ) (prefix text rest : List ℕ) → IsPart fault count text → IsPart fault (length prefix + count) (prefix ++ (text ++ rest))
part_behind put_fault.Failed count prefix text rest p = omega (arith, p, length-append prefix (text ++ rest), length-append text rest)
part_behind put_fault.Memory count prefix text rest p = omega (arith, p, length-append prefix (text ++ rest), length-append text rest)

pub prefix_then : (fault : PutFault) (n : ℕ) (xs ys zs : List (List ℕ)) (before between now : SinkState) → PutsLines n xs before between → PutsPrefixOf fault (n + length xs) ys between now → PutsPrefixOf fault n (xs ++ (ys ++ zs)) before now
prefix_then fault n xs ys zs before between now p q =
    let rest = prints_some (n + length xs + length ys) zs in
    let behind = prints_append (n + length xs) ys zs q.0 rest.0 q.3 rest.1 in
    let prefix : take (length p.0 + q.1) (p.0 ++ (q.0 ++ rest.0)) ≡ p.0 ++ take q.1 q.0 = take-append-add p.0 (q.0 ++ rest.0) q.1 ∙ ap (λ t. p.0 ++ t) (take-append-le q.1 q.0 rest.0 (part_fits fault q.1 q.0 q.2)) in
    (p.0 ++ (q.0 ++ rest.0), length p.0 + q.1, part_behind fault q.1 p.0 q.0 rest.0 q.2, prints_append n xs (ys ++ zs) p.0 (q.0 ++ rest.0) p.1 behind, subst (λ t. PutsInto before now t) (sym prefix) (PutsInto-then before between now p.0 (take q.1 q.0) p.2 q.4))

-- nothing is a prefix, where memory is wanted
pub prefix_none : (n : ℕ) (lines : List (List ℕ)) (written : SinkState) → PutsPrefixOf put_fault.Memory n lines written written
prefix_none n lines written = let all = prints_some n lines in (all.0, 0, omega arith, all.1, PutsInto-nothing written)

pub wanted_none : {T : Type 0} (r : Result T PutFault) (fault : PutFault) (n : ℕ) (lines : List (List ℕ)) (sink : SinkState) → r ≡ Err fault → fault ≡ put_fault.Memory → IfErr r (λ stop. PutsPrefixOf stop n lines sink sink)
wanted_none r fault n lines sink is memory = subst (λ x. IfErr x (λ stop. PutsPrefixOf stop n lines sink sink)) (sym (is ∙ ap Err memory)) (prefix_none n lines sink)

-- the print of one line, whole or a prefix of it
pub line_whole : (n : ℕ) (line : List ℕ) (tokens : List Spanned) (fault : Option LexFault) (bytes : List ℕ) (before now : SinkState) → Cut line tokens fault → bytes ≡ printed_tokens n tokens fault → PutsInto before now bytes → PutsLines n (line ∷ []) before now
line_whole n line tokens fault bytes before now cut e puts = (printed_tokens n tokens fault, prints_one n line tokens fault cut, subst (λ b. PutsInto before now b) e puts)

pub line_prefix : {T : Type 0} (r : Result T PutFault) (n : ℕ) (line : List ℕ) (tokens : List Spanned) (fault : Option LexFault) (bytes : List ℕ) (before now : SinkState) → Cut line tokens fault → bytes ≡ printed_tokens n tokens fault → OnErr r (PutsPrefix before now bytes) → IfErr r (λ stop. PutsPrefixOf stop n (line ∷ []) before now)
line_prefix (Ok put) n line tokens fault bytes before now cut e puts = tt
line_prefix (Err stop) n line tokens fault bytes before now cut e puts =
    let puts' : PutsPrefix before now (printed_tokens n tokens fault) = subst (λ b. PutsPrefix before now b) e puts in
    (printed_tokens n tokens fault, puts'.0, part_less stop puts'.0 (printed_tokens n tokens fault) puts'.1, prints_one n line tokens fault cut, puts'.2)

one_more : {X : Type 0} (line_of : X → List ℕ) (xs : List X) (i : ℕ) (d : X) → i < length xs → take (i + 1) (map line_of xs) ≡ take i (map line_of xs) ++ line_of (get_or xs i d) ∷ []
one_more line_of xs i d lt =
    take_more (map line_of xs) i (line_of d) (omega (arith, length-map xs line_of)) ∙ ap (λ l. take i (map line_of xs) ++ l ∷ []) (get_or-map line_of xs i d (line_of d) lt)

prefix_size : {X : Type 0} (line_of : X → List ℕ) (xs : List X) (i : ℕ) → i < length xs → length (take i (map line_of xs)) ≡ i
prefix_size line_of xs i lt = length-take-le i (map line_of xs) (omega (arith, length-map xs line_of))

-- the line at i, behind those before it
pub lines_more : {X : Type 0} (line_of : X → List ℕ) (xs : List X) (i : ℕ) (d : X) (before between now : SinkState) → i < length xs → PutsLines 1 (take i (map line_of xs)) before between → PutsLines (i + 1) (line_of (get_or xs i d) ∷ []) between now → PutsLines 1 (take (i + 1) (map line_of xs)) before now
lines_more line_of xs i d before between now lt p q =
    let number : i + 1 ≡ 1 + length (take i (map line_of xs)) = omega (arith, prefix_size line_of xs i lt) in
    subst (λ (l : List (List ℕ)). PutsLines 1 l before now) (sym (one_more line_of xs i d lt)) (puts_then 1 (take i (map line_of xs)) _ before between now p (subst (λ n. PutsLines n (line_of (get_or xs i d) ∷ []) between now) number q))

pub lines_prefix : {X : Type 0} (fault : PutFault) (line_of : X → List ℕ) (xs : List X) (i : ℕ) (d : X) (before between now : SinkState) → i < length xs → PutsLines 1 (take i (map line_of xs)) before between → PutsPrefixOf fault (i + 1) (line_of (get_or xs i d) ∷ []) between now → PutsPrefixOf fault 1 (map line_of xs) before now
lines_prefix fault line_of xs i d before between now lt p q =
    let number : i + 1 ≡ 1 + length (take i (map line_of xs)) = omega (arith, prefix_size line_of xs i lt) in
    let whole : take i (map line_of xs) ++ ((line_of (get_or xs i d) ∷ []) ++ drop (i + 1) (map line_of xs)) ≡ map line_of xs =
    sym (append_assoc (take i (map line_of xs)) (line_of (get_or xs i d) ∷ []) (drop (i + 1) (map line_of xs))) ∙ ap (λ l. l ++ drop (i + 1) (map line_of xs)) (sym (one_more line_of xs i d lt)) ∙ take-append-drop (i + 1) (map line_of xs) in
    subst (λ (l : List (List ℕ)). PutsPrefixOf fault 1 l before now) whole (prefix_then fault 1 (take i (map line_of xs)) _ (drop (i + 1) (map line_of xs)) before between now p (subst (λ n. PutsPrefixOf fault n (line_of (get_or xs i d) ∷ []) between now) number q))

-- ---- the answer of `tokens`

pub tokens_whole : (bytes : List ℕ) (lines : List (List ℕ)) (p : Ports) → lines ≡ lines_of bytes → PutsLines 1 lines p.sink_before p.sink → (text : List ℕ) × AnswersTokens bytes status.Fine text × Wrote p text
tokens_whole bytes lines p e puts = let all = subst (λ l. PutsLines 1 l p.sink_before p.sink) e puts in (all.0, (refl, all.1), all.2)

pub tokens_prefix : (bytes : List ℕ) (lines : List (List ℕ)) (p : Ports) (fault : PutFault) → lines ≡ lines_of bytes → PutsPrefixOf fault 1 lines p.sink_before p.sink → AnsweredPart AnswersTokens p bytes status.Fine fault
tokens_prefix bytes lines p fault e puts =
    let all = subst (λ l. PutsPrefixOf fault 1 l p.sink_before p.sink) e puts in
    (all.0, (refl, all.3), (all.1, all.2, all.4))
