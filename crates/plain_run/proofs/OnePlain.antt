-- A list of requests has exactly one plain transcript, where each text has exactly one full analysis and one list of units.
use Rattle.std.proofs.Common.{◌≡◌, ℕ, ◌+◌, ◌⊎◌, inl, inr, Bool, true, false, List, [], ◌∷◌, ◌++◌, length, sym, ap, subst, ◌∙◌, refl}
use Rattle.std.specs.Prelude.{if◌then◌else◌, nat_le, Result, Ok, Err}
use Rattle.kumir_tree.specs.Unit.{Known}
use Rattle.kumir_values.specs.declared.value.Value.{Value}
use Rattle.kumir_meaning.specs.Program.{program_of}
use Rattle.robot_field.specs.Board.{Board, usual}
use Rattle.robot_field.specs.FieldText.{IsFieldText, IsFirstBad}
use Rattle.robot_field.proofs.EachText.{each_text_is_answered}
use Rattle.text_versions.specs.declared.edit.Edit.{Edit}
use Rattle.text_versions.specs.declared.versions.ApplyRefusal.{ApplyRefusal}
use Rattle.text_versions.specs.declared.versions.ApplyRefusal.TheVariants as refusal
use Rattle.text_versions.specs.Texts.{is_within, text_limits}
use Rattle.text_versions.specs.Edits.{is_in_range, edited, text_after, version, answer_to}
use Rattle.type_check.specs.Margin.{program_faults}
use Rattle.script_lines.specs.declared.request.Ask.{Ask}
use Rattle.script_lines.specs.declared.request.Ask.TheVariants as ask
use Rattle.script_lines.specs.declared.request.Request.{Request}
use Rattle.script_lines.specs.Answer.{accepted, NoneOpen, SaysOutcome, SaysField, SaysRun, AnswersAsk}
use Rattle.transcript.specs.declared.entry.Entry.{Entry}
use Rattle.transcript.specs.declared.entry.Entry.TheVariants as entry
use Rattle.incr_analysis.specs.Full.{has_main}
use Rattle.closed_meaning.proofs.Plays.{one_play}
use Rattle.closed_meaning.proofs.Known.{known_laws}
use Rattle.plain_run.specs.OnePlain.{HaveOneAnalysis}
use Rattle.plain_run.specs.RunEntries.{run_entries, IsRunOfUnits, IsRunOf}
use Rattle.plain_run.specs.Fields.{LeavesField, LeaveField}
use Rattle.plain_run.specs.Kept.{Kept, begun_with}
use Rattle.plain_run.specs.Plain.{IsMarginOf, inputs_of, StandsBehind, AreAnswers, IsPlain}
use Rattle.plain_run.specs.Carried as carried
use Rattle.plain_run.specs.Carried.{with_edit, with_run, SaysEdit, Answers, Carries}
use Rattle.plain_run.proofs.Answered.{AreOver, IsNoRun, all_over, one_over, none_open, taken_over, plain_of}

-- ---- there is one

-- some entries answer what is asked for
abbrev HasAnswer : ℕ → Ask → Kept → Type 0
HasAnswer line a kept = (entries : List Entry) × (after : Kept) × Answers line a kept entries after

no_memory : (a b c : Bool) (n : ℕ) → (if a then (if b then (if c then Err refusal.TooMany else Ok n) else Err refusal.TooLong) else Err refusal.Range) ≡ Err refusal.Memory → ⊥
no_memory true true true n is = cc
no_memory true true false n is = cc
no_memory true false c n is = cc
no_memory false b c n is = cc

abbrev HasOutcome : Result ℕ ApplyRefusal → Kept → Edit → Type 0
HasOutcome o kept e = (entries : List Entry) × (after : Kept) × SaysEdit o kept e entries after

some_outcome : HaveOneAnalysis → (kept : Kept) (e : Edit) (o : Result ℕ ApplyRefusal) → answer_to text_limits kept.edits e ≡ o → HasOutcome o kept e
some_outcome an kept e (Ok v) is =
    let after = with_edit kept e in
    let full = an.some (text_after after.edits) in
    let margin = entry.Margin (length after.edits) full.0 in
    (entry.Edit v ∷ margin ∷ [], after, (margin, (full.0, full.1, refl), refl, refl))
some_outcome an kept e (Err refusal.Range) is = (entry.EditRange ∷ [], kept, (refl, refl))
some_outcome an kept e (Err refusal.TooLong) is = (entry.EditLong ∷ [], kept, (refl, refl))
some_outcome an kept e (Err refusal.TooMany) is = (entry.EditMany ∷ [], kept, (refl, refl))
some_outcome an kept e (Err refusal.Memory) is = absurd (no_memory (is_in_range (text_after kept.edits) e) (is_within text_limits (edited (text_after kept.edits) e)) (nat_le text_limits.versions (length kept.edits)) (length kept.edits + 1) is)

some_field : (kept : Kept) (lines : List (List ℕ)) → ((b : Board) × IsFieldText lines b) ⊎ ((n : ℕ) × IsFirstBad lines n) → (entries : List Entry) × (after : Kept) × carried.SaysField kept lines entries after
some_field kept lines (inl is) = (entry.FieldOk ∷ [], record kept { field = is.0 }, inl (is.0, is.1, refl, refl))
some_field kept lines (inr is) = (entry.FieldBad is.0 ∷ [], kept, inr (is.0, is.1, (refl, refl)))

some_run : HaveOneAnalysis → (kept : Kept) (inputs : List Value) → (entries : List Entry) × (after : Kept) × carried.SaysRun kept inputs entries after
some_run an kept inputs =
    let units = an.units (text_after kept.edits) in
    let play = one_play known_laws (program_of units.0) inputs kept.field kept.budget in
    let behind = run_entries (program_faults units.0) (has_main units.0) (kept.runs + 1) kept.field play.0 in
    (entry.Run (kept.runs + 1) (length kept.edits) ∷ behind, with_run kept, (behind, (units.0, units.1, (play.0, play.1, refl)), refl, refl))

some_answer : HaveOneAnalysis → (line : ℕ) (a : Ask) (kept : Kept) → HasAnswer line a kept
some_answer an line (ask.Edit e) kept = some_outcome an kept e (answer_to text_limits kept.edits e) refl
some_answer an line (ask.Field lines) kept = some_field kept lines (each_text_is_answered.some lines)
some_answer an line (ask.Run inputs) kept = some_run an kept inputs
some_answer an line ask.Stop kept = (entry.StopIdle ∷ [], kept, (refl, refl))
some_answer an line ask.Wait kept = (entry.Waited ∷ [], kept, (refl, refl))
some_answer an line ask.Bad kept = (entry.Bad line ∷ [], kept, (refl, refl))

some_carried : HaveOneAnalysis → (requests : List Request) (kept : Kept) → (entries : List Entry) × (after : Kept) × Carries kept requests entries after
unfolding Carries
some_carried an [] kept = ([], kept, (refl, refl))
some_carried an (r ∷ requests) kept =
    let first = some_answer an r.line r.ask kept in
    let rest = some_carried an requests first.1 in
    (first.0 ++ rest.0, rest.1, (first.0, first.1, rest.0, first.2, rest.2, refl))

pub some_plain : HaveOneAnalysis → (budget : ℕ) (requests : List Request) → (entries : List Entry) × IsPlain budget requests entries
some_plain an budget requests =
    let full = an.some [] in
    let margin = entry.Margin 0 full.0 in
    let carried = some_carried an requests (begun_with budget) in
    (margin ∷ carried.0 ++ entry.Bye ∷ [], plain_of budget requests margin carried.0 carried.1 (full.0, full.1, refl) carried.2)

-- ---- there are no two

-- nothing stands behind such an answer
abbrev IsAlone : Entry → Type 0
IsAlone e = (budget : ℕ) (requests : List Request) (a : Ask) (behind : List Entry) → StandsBehind budget requests a e behind → behind ≡ []

-- an entry is `edit V`, a run, or nothing stands behind it and it is no run
abbrev HasKind : Entry → Type 0
HasKind e = ((v : ℕ) × (e ≡ entry.Edit v)) ⊎ (((r : ℕ) × (v : ℕ) × (e ≡ entry.Run r v)) ⊎ (IsAlone e × IsNoRun e))

kind_of : (e : Entry) → HasKind e
kind_of (entry.Edit v) = inl (v, refl)
kind_of (entry.Run r v) = inr (inl (r, v, refl))
kind_of entry.EditRange = inr (inr (λ n rs a behind h. h, λ run v same. let none : ⊥ = cc in none))
kind_of entry.EditLong = inr (inr (λ n rs a behind h. h, λ run v same. let none : ⊥ = cc in none))
kind_of entry.EditMany = inr (inr (λ n rs a behind h. h, λ run v same. let none : ⊥ = cc in none))
kind_of entry.FieldOk = inr (inr (λ n rs a behind h. h, λ run v same. let none : ⊥ = cc in none))
kind_of (entry.FieldBad line) = inr (inr (λ n rs a behind h. h, λ run v same. let none : ⊥ = cc in none))
kind_of entry.RunBusy = inr (inr (λ n rs a behind h. h, λ run v same. let none : ⊥ = cc in none))
kind_of (entry.Stop r) = inr (inr (λ n rs a behind h. h, λ run v same. let none : ⊥ = cc in none))
kind_of entry.StopIdle = inr (inr (λ n rs a behind h. h, λ run v same. let none : ⊥ = cc in none))
kind_of entry.Waited = inr (inr (λ n rs a behind h. h, λ run v same. let none : ⊥ = cc in none))
kind_of (entry.Bad line) = inr (inr (λ n rs a behind h. h, λ run v same. let none : ⊥ = cc in none))
kind_of (entry.Margin w marks) = inr (inr (λ n rs a behind h. h, λ run v same. let none : ⊥ = cc in none))
kind_of (entry.RefusedFaults r) = inr (inr (λ n rs a behind h. h, λ run v same. let none : ⊥ = cc in none))
kind_of (entry.RefusedMain r) = inr (inr (λ n rs a behind h. h, λ run v same. let none : ⊥ = cc in none))
kind_of (entry.Out r text) = inr (inr (λ n rs a behind h. h, λ run v same. let none : ⊥ = cc in none))
kind_of (entry.Robot r number command reply) = inr (inr (λ n rs a behind h. h, λ run v same. let none : ⊥ = cc in none))
kind_of (entry.Pen r number command reply) = inr (inr (λ n rs a behind h. h, λ run v same. let none : ⊥ = cc in none))
kind_of (entry.End r kind) = inr (inr (λ n rs a behind h. h, λ run v same. let none : ⊥ = cc in none))
kind_of entry.Bye = inr (inr (λ n rs a behind h. h, λ run v same. let none : ⊥ = cc in none))

-- ---- answers

one_outcome : (before : List Entry) (o : Result ℕ ApplyRefusal) (x y : Entry) → SaysOutcome before o x → SaysOutcome before o y → x ≡ y
one_outcome before (Ok v) x y p q = p ∙ sym q
one_outcome before (Err refusal.Range) x y p q = p ∙ sym q
one_outcome before (Err refusal.TooLong) x y p q = p ∙ sym q
one_outcome before (Err refusal.TooMany) x y p q = p ∙ sym q
one_outcome before (Err refusal.Memory) x y p q = absurd p

one_says_field : (lines : List (List ℕ)) (x y : Entry) → SaysField lines x → SaysField lines y → x ≡ y
one_says_field lines x y (inl p) (inl q) = p.2 ∙ sym q.2
one_says_field lines x y (inl p) (inr q) = absurd (each_text_is_answered.apart lines p.0 q.0 p.1 q.1)
one_says_field lines x y (inr p) (inl q) = absurd (each_text_is_answered.apart lines q.0 p.0 q.1 p.1)
one_says_field lines x y (inr p) (inr q) = p.2 ∙ ap entry.FieldBad (each_text_is_answered.one_first_bad lines p.0 q.0 p.1 q.1) ∙ sym q.2

one_run : (before : List Entry) (x y : Entry) → NoneOpen before → SaysRun before x → SaysRun before y → x ≡ y
one_run before x y none (inl p) q = absurd (none p.0.0 p.0.1)
one_run before x y none (inr p) (inl q) = absurd (none q.0.0 q.0.1)
one_run before x y none (inr p) (inr q) = p.1 ∙ sym q.1

one_answer : (earlier : List Request) (before : List Entry) (line : ℕ) (a : Ask) (x y : Entry) → NoneOpen before → AnswersAsk earlier before line a x → AnswersAsk earlier before line a y → x ≡ y
one_answer earlier before line (ask.Edit edit) x y none p q = one_outcome before (answer_to text_limits (accepted earlier) edit) x y p q
one_answer earlier before line (ask.Field lines) x y none p q = one_says_field lines x y p q
one_answer earlier before line (ask.Run inputs) x y none p q = one_run before x y none p q
one_answer earlier before line ask.Stop x y none (inl p) q = absurd (none p.0 p.1)
one_answer earlier before line ask.Stop x y none (inr p) (inl q) = absurd (none q.0 q.1)
one_answer earlier before line ask.Stop x y none (inr p) (inr q) = p.1 ∙ sym q.1
one_answer earlier before line ask.Wait x y none p q = p.1 ∙ sym q.1
one_answer earlier before line ask.Bad x y none p q = p ∙ sym q

-- ---- what stands behind them

one_leaves : (old : Board) (a : Ask) (x y : Board) → LeavesField old a x → LeavesField old a y → x ≡ y
one_leaves old (ask.Edit e) x y p q = p ∙ sym q
one_leaves old (ask.Field lines) x y (inl p) (inl q) = each_text_is_answered.one_field lines x y p q
one_leaves old (ask.Field lines) x y (inl p) (inr q) = absurd (each_text_is_answered.apart lines x q.0 p q.1)
one_leaves old (ask.Field lines) x y (inr p) (inl q) = absurd (each_text_is_answered.apart lines y p.0 q p.1)
one_leaves old (ask.Field lines) x y (inr p) (inr q) = p.2 ∙ sym q.2
one_leaves old (ask.Run inputs) x y p q = p ∙ sym q
one_leaves old ask.Stop x y p q = p ∙ sym q
one_leaves old ask.Wait x y p q = p ∙ sym q
one_leaves old ask.Bad x y p q = p ∙ sym q

one_left : (old : Board) (requests : List Request) (x y : Board) → LeaveField old requests x → LeaveField old requests y → x ≡ y
unfolding LeaveField
one_left old [] x y p q = p ∙ sym q
one_left old (r ∷ requests) x y p q =
    let next : p.0 ≡ q.0 = one_leaves old r.ask p.0 q.0 p.1 q.1 in
    one_left q.0 requests x y (subst (λ b. LeaveField b requests x) next p.2) q.2

one_margin : HaveOneAnalysis → (edits : List Edit) (v : ℕ) (x y : Entry) → IsMarginOf edits v x → IsMarginOf edits v y → x ≡ y
one_margin an edits v x y p q = p.2 ∙ ap (entry.Margin v) (an.one (version edits v) p.0 q.0 p.1 q.1) ∙ sym q.2

one_of_units : (budget r : ℕ) (inputs : List Value) (field : Board) (units : List (ℕ × Known)) (x y : List Entry) → IsRunOfUnits budget r inputs field units x → IsRunOfUnits budget r inputs field units y → x ≡ y
one_of_units budget r inputs field units x y p q =
    let play = one_play known_laws (program_of units) inputs field budget in
    let same : p.0 ≡ q.0 = play.2 p.0 p.1 ∙ sym (play.2 q.0 q.1) in
    p.2 ∙ ap (run_entries (program_faults units) (has_main units) r field) same ∙ sym q.2

one_run_entries : HaveOneAnalysis → (budget r : ℕ) (inputs : List Value) (field : Board) (lines : List (List ℕ)) (x y : List Entry) → IsRunOf budget r inputs field lines x → IsRunOf budget r inputs field lines y → x ≡ y
one_run_entries an budget r inputs field lines x y p q =
    one_of_units budget r inputs field q.0 x y (subst (λ us. IsRunOfUnits budget r inputs field us x) (an.same lines p.0 q.0 p.1 q.1) p.2) q.2

one_behind : HaveOneAnalysis → (budget : ℕ) (requests : List Request) (a : Ask) (e : Entry) (x y : List Entry) → HasKind e → StandsBehind budget requests a e x → StandsBehind budget requests a e y → x ≡ y
one_behind an budget requests a e x y (inl kind) p q =
    let edits = accepted requests in
    let c : StandsBehind budget requests a (entry.Edit kind.0) x = subst (λ z. StandsBehind budget requests a z x) kind.1 p in
    let d : StandsBehind budget requests a (entry.Edit kind.0) y = subst (λ z. StandsBehind budget requests a z y) kind.1 q in
    c.2 ∙ ap (λ m. m ∷ []) (one_margin an edits kind.0 c.0 d.0 c.1 d.1) ∙ sym d.2
one_behind an budget requests a e x y (inr (inl kind)) p q =
    let lines = version (accepted requests) kind.1 in
    let c : StandsBehind budget requests a (entry.Run kind.0 kind.1) x = subst (λ z. StandsBehind budget requests a z x) kind.2 p in
    let d : StandsBehind budget requests a (entry.Run kind.0 kind.1) y = subst (λ z. StandsBehind budget requests a z y) kind.2 q in
    let field : c.0 ≡ d.0 = one_left usual requests c.0 d.0 c.1 d.1 in
    one_run_entries an budget kind.0 (inputs_of a) d.0 lines x y (subst (λ f. IsRunOf budget kind.0 (inputs_of a) f lines x) field c.2) d.2
one_behind an budget requests a e x y (inr (inr kind)) p q = kind.0 budget requests a x p ∙ sym (kind.0 budget requests a y q)

margin_over : (edits : List Edit) (v : ℕ) (margin : Entry) → IsMarginOf edits v margin → AreOver (margin ∷ [])
margin_over edits v margin m = one_over margin (λ run w same. let margin_is = m.2 in let none : ⊥ = cc in none)

-- each run is over behind an answer
answer_over : (budget : ℕ) (requests : List Request) (a : Ask) (e : Entry) (behind : List Entry) → HasKind e → StandsBehind budget requests a e behind → AreOver (e ∷ behind)
answer_over budget requests a e behind (inl kind) p =
    let c : StandsBehind budget requests a (entry.Edit kind.0) behind = subst (λ z. StandsBehind budget requests a z behind) kind.1 p in
    let edit : AreOver (e ∷ []) = one_over e (subst IsNoRun (sym kind.1) (λ run v same. let none : ⊥ = cc in none)) in
    subst (λ l. AreOver (e ∷ l)) (sym c.2) (all_over (e ∷ []) (c.0 ∷ []) edit (margin_over (accepted requests) kind.0 c.0 c.1))
answer_over budget requests a e behind (inr (inl kind)) p =
    let c : StandsBehind budget requests a (entry.Run kind.0 kind.1) behind = subst (λ z. StandsBehind budget requests a z behind) kind.2 p in
    subst (λ z. AreOver (z ∷ behind)) (sym kind.2) (taken_over budget kind.0 kind.1 (inputs_of a) c.0 c.2.0 behind c.2.2)
answer_over budget requests a e behind (inr (inr kind)) p =
    subst (λ l. AreOver (e ∷ l)) (sym (kind.0 budget requests a behind p)) (one_over e kind.1)

one_answers : HaveOneAnalysis → (budget : ℕ) (requests earlier : List Request) (before x y : List Entry) → AreOver before → AreAnswers budget earlier before requests x → AreAnswers budget earlier before requests y → x ≡ y
unfolding AreAnswers
one_answers an budget [] earlier before x y over p q = p ∙ sym q
one_answers an budget (r ∷ requests) earlier before x y over p q =
    let now = earlier ++ r ∷ [] in
    let same : p.0 ≡ q.0 = one_answer earlier before r.line r.ask p.0 q.0 (none_open before over) p.3 q.3 in
    let other : StandsBehind budget now r.ask p.0 q.1 = subst (λ e. StandsBehind budget now r.ask e q.1) (sym same) q.4 in
    let behind : p.1 ≡ q.1 = one_behind an budget now r.ask p.0 p.1 q.1 (kind_of p.0) p.4 other in
    let heads : p.0 ∷ p.1 ≡ q.0 ∷ q.1 = λ i. same i ∷ behind i in
    let more : AreAnswers budget now (before ++ p.0 ∷ p.1) requests q.2 = subst (λ l. AreAnswers budget now (before ++ l) requests q.2) (sym heads) q.5 in
    let over_then = all_over before (p.0 ∷ p.1) over (answer_over budget now r.ask p.0 p.1 (kind_of p.0) p.4) in
    let rest : p.2 ≡ q.2 = one_answers an budget requests now (before ++ p.0 ∷ p.1) p.2 q.2 over_then p.5 more in
    p.6 ∙ (λ i. heads i ++ rest i) ∙ sym q.6

pub one_plain : HaveOneAnalysis → (budget : ℕ) (requests : List Request) (a b : List Entry) → IsPlain budget requests a → IsPlain budget requests b → a ≡ b
one_plain an budget requests a b p q =
    let x = p.1 in
    let y = q.1 in
    let margin : x.0 ≡ y.0 = one_margin an [] 0 x.0 y.0 x.2 y.2 in
    let others : AreAnswers budget [] (x.0 ∷ []) requests y.1 = subst (λ m. AreAnswers budget [] (m ∷ []) requests y.1) (sym margin) y.3 in
    let answers : x.1 ≡ y.1 = one_answers an budget requests [] (x.0 ∷ []) x.1 y.1 (margin_over [] 0 x.0 x.2) x.3 others in
    let answered : p.0 ≡ q.0 = x.4 ∙ (λ i. margin i ∷ answers i) ∙ sym y.4 in
    p.2 ∙ ap (λ l. l ++ entry.Bye ∷ []) answered ∙ sym q.2
