-- Requests carried out one after another, and the print of their answers.
use Rattle.std.proofs.Common.{◌≡◌, ◌≢◌, inl, inr, ℕ, ◌+◌, ◌<◌, ◌≤◌, length, List, [], ◌∷◌, ◌++◌, Option, Some, None, sym, ap, subst, ◌∙◌, refl, append_assoc, append-nil, length-append, arith}
use Rattle.km_ports.specs.Ports.{SinkState, PutsInto}
use Rattle.km_ports.proofs.PortLaws.{PutsInto-nothing, PutsInto-then}
use Rattle.text_versions.specs.declared.edit.Edit.{Edit}
use Rattle.script_lines.specs.declared.request.Request.{Request}
use Rattle.transcript.specs.declared.entry.Entry.{Entry}
use Rattle.std.proofs.lemmas.Grind.{flat_map-append}
use Rattle.transcript.specs.Print.{print, printed_entry}
use Rattle.std.specs.Prelude.{Result, Ok, Err, reverse, OnOk, IfOk}
use Rattle.std.proofs.lemmas.List.{reverse-append}
use Rattle.std.proofs.lemmas.List.Elements.{All-nil, All-cons, All-append}
use Rattle.transcript.specs.Entries.{IsShown}
use Rattle.text_versions.specs.declared.versions.ApplyRefusal.{ApplyRefusal}
use Rattle.text_versions.specs.declared.versions.ApplyRefusal.TheVariants as refusal
use Rattle.text_versions.specs.Texts.{text_limits}
use Rattle.text_versions.specs.Edits.{answer_to}
use Rattle.script_lines.specs.declared.request.Ask.{Ask}
use Rattle.script_lines.specs.declared.request.Ask.TheVariants as ask
use Rattle.script_lines.specs.Requests.{whole, requests}
use Rattle.script_lines.specs.Reader.{answered}
use Rattle.transcript.specs.declared.entry.Entry.TheVariants as entry
use Rattle.kumir_values.specs.declared.value.Value.{Value}
use Rattle.text_versions.specs.Edits.{text_after}
use Rattle.robot_field.specs.Board.{Board}
use Rattle.robot_field.specs.FieldText.{IsFieldText, IsFirstBad}
use Rattle.plain_run.specs.RunEntries.{IsRunOf}
use Rattle.plain_run.specs.Kept.{Kept}
use Rattle.plain_run.specs.Plain.{Shows, PutsEntries}
use Rattle.plain_run.specs.Carried.{IsNewestMargin, Alone, with_edit, with_run, SaysEdit, SaysRun, SaysField, Answers, Carries}

pub carries_none : (edits : Kept) → Carries edits [] [] edits
unfolding Carries
carries_none edits = (refl, refl)

pub carries_one : (r : Request) (edits after : Kept) (entries : List Entry) → Answers r.line r.ask edits entries after → Carries edits (r ∷ []) entries after
unfolding Carries
carries_one r edits after entries a = (entries, after, [], a, (refl, refl), sym (append-nil entries))

pub carries_then : (xs ys : List Request) (before between after : Kept) (first second : List Entry) → Carries before xs first between → Carries between ys second after → Carries before (xs ++ ys) (first ++ second) after
unfolding Carries
carries_then [] ys before between after first second p q =
    subst (λ es. Carries before ys (es ++ second) after) (sym p.0) (subst (λ b. Carries b ys second after) p.1 q)
carries_then (x ∷ xs) ys before between after first second p q =
    (p.0, p.1, p.2 ++ second, p.3, carries_then xs ys p.1 between after p.2 second p.4 q, ap (λ es. es ++ second) p.5 ∙ append_assoc p.0 p.2 second)

-- the print of entries one behind the other
pub print_append : (xs ys : List Entry) → print (xs ++ ys) ≡ print xs ++ print ys
print_append xs ys = flat_map-append printed_entry xs ys

-- entries were put, and then others
pub put_behind : (xs ys : List Entry) (before between now : SinkState) → Shows xs before between → Shows ys between now → Shows (xs ++ ys) before now
put_behind xs ys before between now p q = record {
  put = subst (PutsInto before now) (sym (print_append xs ys)) (PutsInto-then before between now (print xs) (print ys) p.put q.put);
  shown = All-append IsShown xs ys p.shown q.shown;
}

-- one entry
pub put_one : (e : Entry) (text : List ℕ) (before now : SinkState) → text ≡ printed_entry e → IsShown e → PutsInto before now text → Shows (e ∷ []) before now
put_one e text before now spelled shown put = record {
  put = subst (PutsInto before now) (spelled ∙ sym (append-nil (printed_entry e))) put;
  shown = All-cons IsShown e [] shown (All-nil IsShown);
}

-- no entry
pub put_none : (written : SinkState) → Shows [] written written
put_none written = record { put = PutsInto-nothing written; shown = All-nil IsShown }

pub puts_carried : (xs ys : List Request) (a b c : Kept) (before between now : SinkState) → PutsEntries (λ es. Carries a xs es b) before between → PutsEntries (λ es. Carries b ys es c) between now → PutsEntries (λ es. Carries a (xs ++ ys) es c) before now
puts_carried xs ys a b c before between now p q = (p.0 ++ q.0, carries_then xs ys a b c p.0 q.0 p.1 q.1, put_behind p.0 q.0 before between now p.2 q.2)

pub puts_nothing : (edits : Kept) (written : SinkState) → PutsEntries (λ es. Carries edits [] es edits) written written
puts_nothing edits written = ([], carries_none edits, put_none written)

pub puts_answer : (r : Request) (edits after : Kept) (before now : SinkState) → PutsEntries (λ es. Answers r.line r.ask edits es after) before now → PutsEntries (λ es. Carries edits (r ∷ []) es after) before now
puts_answer r edits after before now p = (p.0, carries_one r edits after p.0 p.1, p.2)

-- one entry, and no edit is accepted
pub puts_alone : (e : Entry) (edits : Kept) (before now : SinkState) → Shows (e ∷ []) before now → PutsEntries (λ es. Alone e edits es edits) before now
puts_alone e edits before now p = (e ∷ [], (refl, refl), p)

pub puts_margin : (edits : List Edit) (margin : Entry) (before now : SinkState) → IsNewestMargin edits margin → Shows (margin ∷ []) before now → PutsEntries (λ es. (m : Entry) × IsNewestMargin edits m × (es ≡ m ∷ [])) before now
puts_margin edits margin before now m p = (margin ∷ [], (margin, m, refl), p)

-- the answer to an edit that was accepted
pub puts_edit : (kept : Kept) (edits : List Edit) (e : Edit) (version : ℕ) (before between now : SinkState) → answer_to text_limits kept.edits e ≡ Ok version → edits ≡ kept.edits ++ e ∷ [] → Shows (entry.Edit version ∷ []) before between → PutsEntries (λ es. (m : Entry) × IsNewestMargin edits m × (es ≡ m ∷ [])) between now → PutsEntries (λ es. SaysEdit (answer_to text_limits kept.edits e) kept e es (record kept { edits = edits })) before now
puts_edit kept edits e version before between now says accepted p q =
    let margin = q.1.0 in
    let after : record kept { edits = edits } ≡ with_edit kept e = ap (λ es. record kept { edits = es }) accepted in
    let put : Shows (margin ∷ []) between now = subst (λ es. Shows es between now) q.1.2 q.2 in (
      entry.Edit version ∷ margin ∷ [],
      subst (λ r. SaysEdit r kept e (entry.Edit version ∷ margin ∷ []) (record kept { edits = edits })) (sym says) (margin, q.1.1, after, refl),
      put_behind (entry.Edit version ∷ []) (margin ∷ []) before between now p put,
    )

-- the answer to one that was refused
refused_so : (kept : Kept) (edits : List Edit) (e : Edit) (r : ApplyRefusal) (before now : SinkState) → answer_to text_limits kept.edits e ≡ Err r → edits ≡ kept.edits → PutsEntries (λ es. (kept : Kept) → (e : Edit) → SaysEdit (Err r) kept e es kept) before now → PutsEntries (λ es. SaysEdit (answer_to text_limits kept.edits e) kept e es (record kept { edits = edits })) before now
refused_so kept edits e r before now says same p =
    let after : record kept { edits = edits } ≡ kept = ap (λ es. record kept { edits = es }) same in
    (p.0, subst (λ answer. SaysEdit answer kept e p.0 (record kept { edits = edits })) (sym says) (subst (λ b. SaysEdit (Err r) kept e p.0 b) (sym after) (p.1 kept e)), p.2)

pub puts_refused : (kept : Kept) (edits : List Edit) (e : Edit) (r : ApplyRefusal) (before now : SinkState) → (r ≢ refusal.Memory → answer_to text_limits kept.edits e ≡ Err r) → edits ≡ kept.edits → PutsEntries (λ es. (kept : Kept) → (e : Edit) → SaysEdit (Err r) kept e es kept) before now → PutsEntries (λ es. SaysEdit (answer_to text_limits kept.edits e) kept e es (record kept { edits = edits })) before now
puts_refused kept edits e refusal.Range before now says same p = refused_so kept edits e refusal.Range before now (says (λ is. cc)) same p
puts_refused kept edits e refusal.TooLong before now says same p = refused_so kept edits e refusal.TooLong before now (says (λ is. cc)) same p
puts_refused kept edits e refusal.TooMany before now says same p = refused_so kept edits e refusal.TooMany before now (says (λ is. cc)) same p
puts_refused kept edits e refusal.Memory before now says same p = absurd (p.1 kept e)

-- an entry that says of any edit that it was refused so
pub puts_refusal : (x : Entry) (r : ApplyRefusal) (before now : SinkState) → ((kept : Kept) → (e : Edit) → SaysEdit (Err r) kept e (x ∷ []) kept) → Shows (x ∷ []) before now → PutsEntries (λ es. (kept : Kept) → (e : Edit) → SaysEdit (Err r) kept e es kept) before now
puts_refusal x r before now says p = (x ∷ [], says, p)

-- ---- runs

-- a run that was taken on, and its entries
pub puts_run : (kept after : Kept) (lines : List (List ℕ)) (inputs : List Value) (run version begun : ℕ) (before between now : SinkState) → run ≡ kept.runs + 1 → begun ≡ kept.runs + 1 → version ≡ length kept.edits → after ≡ with_run kept → lines ≡ text_after kept.edits → Shows (entry.Run run version ∷ []) before between → PutsEntries (IsRunOf kept.budget begun inputs kept.field lines) between now → PutsEntries (λ es. SaysRun kept inputs es after) before now
puts_run kept after lines inputs run version begun before between now number begins newest then_kept of_text p q =
    let of_version : IsRunOf kept.budget begun inputs kept.field (text_after kept.edits) q.0 = subst (λ ls. IsRunOf kept.budget begun inputs kept.field ls q.0) of_text q.1 in (
      entry.Run run version ∷ q.0,
      (q.0, subst (λ k. IsRunOf kept.budget k inputs kept.field (text_after kept.edits) q.0) begins of_version, then_kept, (λ i. entry.Run (number i) (newest i) ∷ q.0)),
      put_behind (entry.Run run version ∷ []) q.0 before between now p q.2,
    )

-- ---- fields

pub puts_field : (kept after : Kept) (lines : List (List ℕ)) (field : Board) (before now : SinkState) → IsFieldText lines field → after ≡ record kept { field = field } → Shows (entry.FieldOk ∷ []) before now → PutsEntries (λ es. SaysField kept lines es after) before now
puts_field kept after lines field before now is e p = (entry.FieldOk ∷ [], inl (field, is, refl, e), p)

pub puts_bad_field : (kept : Kept) (lines : List (List ℕ)) (bad : ℕ) (before now : SinkState) → IsFirstBad lines bad → Shows (entry.FieldBad bad ∷ []) before now → PutsEntries (λ es. SaysField kept lines es kept) before now
puts_bad_field kept lines bad before now is p = (entry.FieldBad bad ∷ [], inr (bad, is, (refl, refl)), p)

-- what is asked for is this
pub puts_ask : (line : ℕ) (a this : Ask) (edits after : Kept) (before now : SinkState) → a ≡ this → PutsEntries (λ es. Answers line this edits es after) before now → PutsEntries (λ es. Answers line a edits es after) before now
puts_ask line a this edits after before now is p = subst (λ b. PutsEntries (λ es. Answers line b edits es after) before now) (sym is) p

-- one more request is answered
pub puts_next : (done : List Request) (r : Request) (a b c : Kept) (before between now : SinkState) → PutsEntries (λ es. Carries a done es b) before between → PutsEntries (λ es. Answers r.line r.ask b es c) between now → PutsEntries (λ es. Carries a (done ++ r ∷ []) es c) before now
puts_next done r a b c before between now p q = puts_carried done (r ∷ []) a b c before between now p (puts_answer r b c between now q)

-- the last of what waits is the next of all
pub next_waiting : (all done waiting : List Request) (r : Request) (left : List Request) → all ≡ done ++ reverse waiting → waiting ≡ left ++ r ∷ [] → all ≡ (done ++ r ∷ []) ++ reverse left
next_waiting all done waiting r left e w =
    let turned : reverse waiting ≡ r ∷ reverse left = ap reverse w ∙ reverse-append left (r ∷ []) in
    e ∙ ap (λ t. done ++ t) turned ∙ sym (append_assoc done (r ∷ []) (reverse left))

-- nothing waits
pub none_waiting : (all done waiting : List Request) → all ≡ done ++ reverse waiting → waiting ≡ [] → done ≡ all
none_waiting all done waiting e w = sym (e ∙ ap (λ t. done ++ reverse t) w ∙ append-nil done)

-- the request that the end of a script completes
pub puts_last : (fed : List ℕ) (last : Option Request) (r : Request) (edits after : Kept) (before now : SinkState) → last ≡ Some r → requests fed ≡ whole fed ++ answered last → PutsEntries (λ es. Answers r.line r.ask edits es after) before now → PutsEntries (λ es. (l : List Request) × (requests fed ≡ whole fed ++ l) × Carries edits l es after) before now
puts_last fed last r edits after before now is all p =
    let one = puts_answer r edits after before now p in
    (one.0, (r ∷ [], all ∙ ap (λ o. whole fed ++ answered o) is, one.1), one.2)

pub puts_no_last : (fed : List ℕ) (last : Option Request) (edits : Kept) (written : SinkState) → last ≡ None → requests fed ≡ whole fed ++ answered last → PutsEntries (λ es. (l : List Request) × (requests fed ≡ whole fed ++ l) × Carries edits l es edits) written written
puts_no_last fed last edits written is all = ([], ([], all ∙ ap (λ o. whole fed ++ answered o) is, carries_none edits), put_none written)

-- what holds of an answer that came
pub on_ok_here : {T E P : Type 0} (r : Result T E) (x : T) → r ≡ Ok x → OnOk r P → P
on_ok_here (Ok y) x is p = p
on_ok_here (Err e) x is p = absurd (let none : ⊥ = cc in none)

pub on_ok_both : {T E : Type 0} (P Q : Type 0) (r : Result T E) → OnOk r P → OnOk r Q → OnOk r (P × Q)
on_ok_both P Q (Ok x) p q = (p, q)
on_ok_both P Q (Err e) p q = tt

pub if_ok_here : {T E : Type 0} (P : T → Type 0) (r : Result T E) (x : T) → r ≡ Ok x → IfOk r P → P x
if_ok_here P (Ok y) x is p = subst P (let same : y ≡ x = cc in same) p
if_ok_here P (Err e) x is p = absurd (let none : ⊥ = cc in none)

-- ---- how many runs there are

field_few : (kept after : Kept) (lines : List (List ℕ)) (entries : List Entry) → SaysField kept lines entries after → after.runs ≤ kept.runs + 1
field_few kept after lines entries (inl a) = omega (arith, ap (λ k. k.runs) a.3)
field_few kept after lines entries (inr a) = omega (arith, ap (λ k. k.runs) a.2.1)

edit_few : (o : Result ℕ ApplyRefusal) (kept after : Kept) (e : Edit) (entries : List Entry) → SaysEdit o kept e entries after → after.runs ≤ kept.runs + 1
edit_few (Ok v) kept after e entries a = omega (arith, ap (λ k. k.runs) a.2)
edit_few (Err refusal.Range) kept after e entries a = omega (arith, ap (λ k. k.runs) a.1)
edit_few (Err refusal.TooLong) kept after e entries a = omega (arith, ap (λ k. k.runs) a.1)
edit_few (Err refusal.TooMany) kept after e entries a = omega (arith, ap (λ k. k.runs) a.1)
edit_few (Err refusal.Memory) kept after e entries a = absurd a

-- a request takes one run on at most
answer_few : (line : ℕ) (a : Ask) (kept after : Kept) (entries : List Entry) → Answers line a kept entries after → after.runs ≤ kept.runs + 1
answer_few line (ask.Edit e) kept after entries a = edit_few (answer_to text_limits kept.edits e) kept after e entries a
answer_few line (ask.Field lines) kept after entries a = field_few kept after lines entries a
answer_few line (ask.Run inputs) kept after entries a = omega (arith, ap (λ k. k.runs) a.2)
answer_few line ask.Stop kept after entries a = omega (arith, ap (λ k. k.runs) a.1)
answer_few line ask.Wait kept after entries a = omega (arith, ap (λ k. k.runs) a.1)
answer_few line ask.Bad kept after entries a = omega (arith, ap (λ k. k.runs) a.1)

pub carries_few : (requests : List Request) (kept after : Kept) (entries : List Entry) → Carries kept requests entries after → after.runs ≤ kept.runs + length requests
unfolding Carries
carries_few [] kept after entries c = omega (arith, ap (λ k. k.runs) c.1)
carries_few (r ∷ requests) kept after entries c =
    omega (arith, answer_few r.line r.ask kept c.1 c.0 c.3, carries_few requests c.1 after c.2 c.4)

-- while a request waits, fewer runs were taken on than there are requests
pub still_few : (all done waiting : List Request) (r : Request) (left : List Request) (kept now : Kept) (before between : SinkState) (most : ℕ) → all ≡ done ++ reverse waiting → waiting ≡ left ++ r ∷ [] → PutsEntries (λ es. Carries kept done es now) before between → kept.runs + length all < most → now.runs < most
still_few all done waiting r left kept now before between most e w put few =
    omega (arith, carries_few done kept now put.0 put.1, ap length e, length-append done (reverse waiting), few)
