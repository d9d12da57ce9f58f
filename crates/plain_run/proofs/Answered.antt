-- The way of the code over requests follows the answer rule: of what it writes each run is over, it has the margin of the
-- newest version, an `edit V` for each accepted edit and a `run R V` for each run.
use Rattle.std.proofs.Common.{◌≡◌, ◌≢◌, ℕ, ◌+◌, ◌≤◌, inl, inr, ⊎_elim, Bool, true, false, cond, List, [], ◌∷◌, ◌++◌, length, Option, Some, None, sym, ap, subst, ◌∙◌, refl, append_assoc, append-nil, arith}
use Rattle.std.specs.Prelude.{if◌then◌else◌, nat_le, Result, Ok, Err}
use Rattle.std.specs.List.{Contains}
use Rattle.std.proofs.lemmas.List.{take_all, length-append}
use Rattle.std.proofs.lemmas.List.Sums.{fold_push, sum_by_push}
use Rattle.std.proofs.lemmas.List.Elements.{Contains-push, Contains-append_left, Contains-append_right, Contains-append_cases, Contains-push_cases}
use Rattle.margins.specs.declared.margin.Mark.{Mark}
use Rattle.kumir_tree.specs.declared.unit.Fault.{Fault}
use Rattle.kumir_tree.specs.Unit.{Known}
use Rattle.kumir_values.specs.declared.value.Value.{Value}
use Rattle.kumir_values.specs.declared.run_end.EndKind.{EndKind}
use Rattle.kumir_meaning.specs.Runs.{Act, Printed, Sent, Trace, RunState, end_of}
use Rattle.kumir_meaning.specs.Runs as state
use Rattle.text_versions.specs.declared.edit.Edit.{Edit}
use Rattle.text_versions.specs.declared.versions.ApplyRefusal.{ApplyRefusal}
use Rattle.text_versions.specs.declared.versions.ApplyRefusal.TheVariants as refusal
use Rattle.text_versions.specs.Texts.{is_within, text_limits}
use Rattle.text_versions.specs.Edits.{is_in_range, edited, text_after, version, answer_to}
use Rattle.type_check.specs.Margin.{program_faults}
use Rattle.script_lines.specs.declared.request.Ask.{Ask}
use Rattle.script_lines.specs.declared.request.Ask.TheVariants as ask
use Rattle.script_lines.specs.declared.request.Request.{Request}
use Rattle.transcript.specs.declared.entry.Entry.{Entry}
use Rattle.transcript.specs.declared.entry.Entry.TheVariants as entry
use Rattle.incr_analysis.specs.Full.{Full, has_main}
use Rattle.performer_kit.specs.declared.commands.Command.{Command}
use Rattle.performer_kit.specs.declared.commands.Command.TheVariants.{Robot, Pen}
use Rattle.robot_field.specs.Board.{Board, usual}
use Rattle.kumir_meaning.specs.Program.{program_of}
use Rattle.closed_meaning.proofs.Plays.{play_is_answered}
use Rattle.closed_meaning.proofs.Known.{known_laws}
use Rattle.script_lines.specs.Answer.{with_ask, accepted, is_edit, newest, is_run, runs_taken, IsTaken, IsOver, NoneOpen, IsSettled, SaysOutcome, Answer}
use Rattle.script_lines.specs.Answer as answers
use Rattle.plain_run.specs.RunEntries.{Performers, ready_on, with_command, report, act_entries, end_entries, run_entries, IsRunOfUnits, IsRunOf}
use Rattle.plain_run.specs.Fields.{LeavesField, LeaveField, IsFieldBehind}
use Rattle.plain_run.specs.Kept.{Kept, begun_with}
use Rattle.plain_run.specs.Plain.{IsMarginOf, StandsBehind, AreAnswers, IsPlain}
use Rattle.plain_run.specs.Carried.{IsNewestMargin, Alone, with_run, SaysEdit, SaysRun, SaysField, Answers, Carries}

-- ---- entries of which each run is over

abbrev pub AreOver : List Entry → Type 0
AreOver entries = (run v : ℕ) → Contains entries (entry.Run run v) → IsOver entries run

abbrev pub IsNoRun : Entry → Type 0
IsNoRun e = (run v : ℕ) → e ≢ entry.Run run v

over_left : (xs ys : List Entry) (run : ℕ) → IsOver xs run → IsOver (xs ++ ys) run
over_left xs ys run (inl faults) = inl (Contains-append_left xs ys (entry.RefusedFaults run) faults)
over_left xs ys run (inr (inl main)) = inr (inl (Contains-append_left xs ys (entry.RefusedMain run) main))
over_left xs ys run (inr (inr end)) = inr (inr (end.0, Contains-append_left xs ys (entry.End run end.0) end.1))

over_right : (xs ys : List Entry) (run : ℕ) → IsOver ys run → IsOver (xs ++ ys) run
over_right xs ys run (inl faults) = inl (Contains-append_right xs ys (entry.RefusedFaults run) faults)
over_right xs ys run (inr (inl main)) = inr (inl (Contains-append_right xs ys (entry.RefusedMain run) main))
over_right xs ys run (inr (inr end)) = inr (inr (end.0, Contains-append_right xs ys (entry.End run end.0) end.1))

pub all_over : (xs ys : List Entry) → AreOver xs → AreOver ys → AreOver (xs ++ ys)
all_over xs ys p q run v c =
    ⊎_elim (λ a. over_left xs ys run (p run v a)) (λ b. over_right xs ys run (q run v b)) (Contains-append_cases xs ys (entry.Run run v) c)

nothing_in : (e : Entry) → Contains [] e → ⊥
nothing_in e c = omega (arith, c.1)

none_over : AreOver []
none_over run v c = absurd (nothing_in (entry.Run run v) c)

-- an entry that is no run
pub one_over : (e : Entry) → IsNoRun e → AreOver (e ∷ [])
one_over e other run v c = ⊎_elim (λ b. absurd (nothing_in (entry.Run run v) b)) (λ same. absurd (other run v same)) (Contains-push_cases [] e (entry.Run run v) c)

pub none_open : (entries : List Entry) → AreOver entries → NoneOpen entries
none_open entries over run is_open = is_open.going (over run is_open.taken.0 is_open.taken.1)

-- ---- the entries of a run end it

report_over : (r : ℕ) (w : Performers) (command : Command) → AreOver (report r w command ∷ [])
report_over r w (Robot command) = one_over (report r w (Robot command)) (λ run v same. let none : ⊥ = cc in none)
report_over r w (Pen command) = one_over (report r w (Pen command)) (λ run v same. let none : ⊥ = cc in none)

acts_over : (r : ℕ) (w : Performers) (acts : List Act) → AreOver (act_entries r w acts)
acts_over r w [] = none_over
acts_over r w (Printed text ∷ acts) = all_over (entry.Out r text ∷ []) (act_entries r w acts) (one_over (entry.Out r text) (λ run v same. let none : ⊥ = cc in none)) (acts_over r w acts)
acts_over r w (Sent command ∷ acts) = all_over (report r w command ∷ []) (act_entries r (with_command w command) acts) (report_over r w command) (acts_over r (with_command w command) acts)

end_over : (r : ℕ) (o : Option EndKind) → AreOver (end_entries r o)
end_over r None = none_over
end_over r (Some kind) = one_over (entry.End r kind) (λ run v same. let none : ⊥ = cc in none)

run_over : (faults : List Fault) (main : Bool) (r : ℕ) (field : Board) (play : Trace) → AreOver (run_entries faults main r field play)
run_over (f ∷ faults) main r field play = one_over (entry.RefusedFaults r) (λ run v same. let none : ⊥ = cc in none)
run_over [] false r field play = one_over (entry.RefusedMain r) (λ run v same. let none : ⊥ = cc in none)
run_over [] true r field play = all_over (act_entries r (ready_on field) play.acts) (end_entries r (end_of play.state)) (acts_over r (ready_on field) play.acts) (end_over r (end_of play.state))

has_end : (r : ℕ) (s : RunState) → s ≢ state.Awaiting → IsOver (end_entries r (end_of s)) r
has_end r state.Going a = inr (inr (_, Contains-push [] (entry.End r _)))
has_end r state.Awaiting a = absurd (a refl)
has_end r state.Done a = inr (inr (_, Contains-push [] (entry.End r _)))
has_end r state.Quit a = inr (inr (_, Contains-push [] (entry.End r _)))
has_end r (state.Assert line) a = inr (inr (_, Contains-push [] (entry.End r _)))
has_end r (state.Fault line fault) a = inr (inr (_, Contains-push [] (entry.End r _)))
has_end r (state.Wall line) a = inr (inr (_, Contains-push [] (entry.End r _)))

ends_run : (faults : List Fault) (main : Bool) (r : ℕ) (field : Board) (play : Trace) → play.state ≢ state.Awaiting → IsOver (run_entries faults main r field play) r
ends_run (f ∷ faults) main r field play a = inl (Contains-push [] (entry.RefusedFaults r))
ends_run [] false r field play a = inr (inl (Contains-push [] (entry.RefusedMain r)))
ends_run [] true r field play a = over_right (act_entries r (ready_on field) play.acts) (end_entries r (end_of play.state)) r (has_end r play.state a)

number_of_run : (r v q w : ℕ) → entry.Run r v ≡ entry.Run q w → r ≡ q
number_of_run r v q w e = cc

-- a run and its entries
begun_over : (r v : ℕ) (entries : List Entry) → AreOver entries → IsOver entries r → AreOver (entry.Run r v ∷ entries)
begun_over r v entries over ends q w c =
    ⊎_elim
    (λ first. ⊎_elim (λ b. absurd (nothing_in (entry.Run q w) b))
    (λ same. over_right (entry.Run r v ∷ []) entries q (subst (IsOver entries) (number_of_run r v q w same) ends))
    (Contains-push_cases [] (entry.Run r v) (entry.Run q w) first))
    (λ rest. over_right (entry.Run r v ∷ []) entries q (over q w rest))
    (Contains-append_cases (entry.Run r v ∷ []) entries (entry.Run q w) c)

pub taken_over : (budget r v : ℕ) (inputs : List Value) (field : Board) (units : List (ℕ × Known)) (entries : List Entry) → IsRunOfUnits budget r inputs field units entries → AreOver (entry.Run r v ∷ entries)
taken_over budget r v inputs field units entries run =
    let play = run.0 in
    let answered = play_is_answered known_laws (program_of units) inputs field budget play run.1 in
    let over = begun_over r v (run_entries (program_faults units) (has_main units) r field play) (run_over (program_faults units) (has_main units) r field play) (ends_run (program_faults units) (has_main units) r field play answered) in
    subst (λ es. AreOver (entry.Run r v ∷ es)) (sym run.2) over

-- ---- and make no version and take no run on

abbrev AreQuiet : List Entry → Type 0
AreQuiet [] = Unit {0}
AreQuiet (e ∷ entries) = (is_edit e ≡ false) × (is_run e ≡ false) × AreQuiet entries

quiet_then : (xs ys : List Entry) → AreQuiet xs → AreQuiet ys → AreQuiet (xs ++ ys)
quiet_then [] ys p q = q
quiet_then (x ∷ xs) ys p q = (p.0, p.1, quiet_then xs ys p.2 q)

report_quiet : (r : ℕ) (w : Performers) (command : Command) → AreQuiet (report r w command ∷ [])
report_quiet r w (Robot command) = (refl, refl, tt)
report_quiet r w (Pen command) = (refl, refl, tt)

acts_quiet : (r : ℕ) (w : Performers) (acts : List Act) → AreQuiet (act_entries r w acts)
acts_quiet r w [] = tt
acts_quiet r w (Printed text ∷ acts) = (refl, refl, acts_quiet r w acts)
acts_quiet r w (Sent command ∷ acts) = quiet_then (report r w command ∷ []) (act_entries r (with_command w command) acts) (report_quiet r w command) (acts_quiet r (with_command w command) acts)

end_quiet : (r : ℕ) (o : Option EndKind) → AreQuiet (end_entries r o)
end_quiet r None = tt
end_quiet r (Some kind) = (refl, refl, tt)

entries_quiet : (faults : List Fault) (main : Bool) (r : ℕ) (field : Board) (play : Trace) → AreQuiet (run_entries faults main r field play)
entries_quiet (f ∷ faults) main r field play = (refl, refl, tt)
entries_quiet [] false r field play = (refl, refl, tt)
entries_quiet [] true r field play = quiet_then (act_entries r (ready_on field) play.acts) (end_entries r (end_of play.state)) (acts_quiet r (ready_on field) play.acts) (end_quiet r (end_of play.state))

run_quiet : (budget r : ℕ) (inputs : List Value) (field : Board) (units : List (ℕ × Known)) (entries : List Entry) → IsRunOfUnits budget r inputs field units entries → AreQuiet entries
run_quiet budget r inputs field units entries run = subst AreQuiet (sym run.2) (entries_quiet (program_faults units) (has_main units) r field run.0)

-- ---- the field

leave_push : (old between new : Board) (earlier : List Request) (r : Request) → LeaveField old earlier between → LeavesField between r.ask new → LeaveField old (earlier ++ r ∷ []) new
unfolding LeaveField
leave_push old between new [] r left leaves = (new, subst (λ b. LeavesField b r.ask new) left leaves, refl)
leave_push old between new (x ∷ earlier) r left leaves = (left.0, left.1, leave_push left.0 between new earlier r left.2 leaves)

leave_none : LeaveField usual [] usual
unfolding LeaveField
leave_none = refl

-- ---- the rule

-- what holds behind the answers to the earlier requests, where this is kept
record Stands (earlier : List Request) (before : List Entry) (kept : Kept) : Type 0 where
  edits : accepted earlier ≡ kept.edits
  field : IsFieldBehind earlier kept.field
  counted : newest before ≡ length kept.edits
  taken : runs_taken before ≡ kept.runs
  over : AreOver before
  marks : List Mark
  shown : Contains before (entry.Margin (length kept.edits) marks)

settled : (earlier : List Request) (before : List Entry) (kept : Kept) → Stands earlier before kept → IsSettled before
settled earlier before kept s = record {
  none = none_open before s.over;
  marks = s.marks;
  margin = subst (λ n. Contains before (entry.Margin n s.marks)) (sym s.counted) s.shown;
}

-- ---- one entry more, one request more

newest_push : (before : List Entry) (e : Entry) → newest (before ++ e ∷ []) ≡ newest before + cond (is_edit e) 1 0
newest_push before e = sum_by_push (λ x. cond (is_edit x) 1 0) before e

taken_push : (before : List Entry) (e : Entry) → runs_taken (before ++ e ∷ []) ≡ runs_taken before + cond (is_run e) 1 0
taken_push before e = sum_by_push (λ x. cond (is_run x) 1 0) before e

-- entries that are neither
same_newest : (before : List Entry) (e : Entry) → is_edit e ≡ false → newest (before ++ e ∷ []) ≡ newest before
same_newest before e other = omega (arith, newest_push before e, ap {B = ℕ} (λ (b : Bool). cond b 1 0) other)

same_taken : (before : List Entry) (e : Entry) → is_run e ≡ false → runs_taken (before ++ e ∷ []) ≡ runs_taken before
same_taken before e other = omega (arith, taken_push before e, ap {B = ℕ} (λ (b : Bool). cond b 1 0) other)

no_more_edits : (before xs : List Entry) → AreQuiet xs → newest (before ++ xs) ≡ newest before
no_more_edits before [] q = ap newest (append-nil before)
no_more_edits before (x ∷ xs) q =
    ap newest (sym (append_assoc before (x ∷ []) xs)) ∙ no_more_edits (before ++ x ∷ []) xs q.2 ∙ same_newest before x q.0

no_more_runs : (before xs : List Entry) → AreQuiet xs → runs_taken (before ++ xs) ≡ runs_taken before
no_more_runs before [] q = ap runs_taken (append-nil before)
no_more_runs before (x ∷ xs) q =
    ap runs_taken (sym (append_assoc before (x ∷ []) xs)) ∙ no_more_runs (before ++ x ∷ []) xs q.2 ∙ same_taken before x q.1

pub accepted_push : (earlier : List Request) (r : Request) (edits : List Edit) → accepted earlier ≡ edits → accepted (earlier ++ r ∷ []) ≡ with_ask edits r.ask
accepted_push earlier r edits kept = fold_push (λ es q. with_ask es q.ask) [] earlier r ∙ ap (λ es. with_ask es r.ask) kept

-- what one request adds
abbrev Step : List Request → List Entry → Kept → Request → List Entry → Kept → Type 0
Step earlier before kept r first after =
    (answer : Entry) × (behind : List Entry)
    × Answer earlier before r answer
    × StandsBehind kept.budget (earlier ++ r ∷ []) r.ask answer behind
    × Stands (earlier ++ r ∷ []) (before ++ answer ∷ behind) after
    × (after.budget ≡ kept.budget)
    × (first ≡ answer ∷ behind)

-- one entry, and another field at most
step_one : (earlier : List Request) (before : List Entry) (kept : Kept) (field : Board) (r : Request) (e : Entry) (first : List Entry) (after : Kept) → Stands earlier before kept → first ≡ e ∷ [] → after ≡ record kept { field = field } → LeavesField kept.field r.ask field → with_ask kept.edits r.ask ≡ kept.edits → is_edit e ≡ false → is_run e ≡ false → IsNoRun e → Answer earlier before r e → StandsBehind kept.budget (earlier ++ r ∷ []) r.ask e [] → Step earlier before kept r first after
step_one earlier before kept field r e first after s is then_kept leaves same not_edit not_run other answer behind =
    let stands : Stands (earlier ++ r ∷ []) (before ++ e ∷ []) (record kept { field = field }) = record {
      edits = accepted_push earlier r kept.edits s.edits ∙ same;
      field = leave_push usual kept.field field earlier r s.field leaves;
      counted = same_newest before e not_edit ∙ s.counted;
      taken = same_taken before e not_run ∙ s.taken;
      over = all_over before (e ∷ []) s.over (one_over e other);
      marks = s.marks;
      shown = Contains-append_left before (e ∷ []) (entry.Margin (length kept.edits) s.marks) s.shown;
    } in
    (e, [], answer, behind, subst (λ k. Stands (earlier ++ r ∷ []) (before ++ e ∷ []) k) (sym then_kept) stands, ap (λ k. k.budget) then_kept, is)

step_alone : (earlier : List Request) (before : List Entry) (kept : Kept) (r : Request) (e : Entry) (first : List Entry) (after : Kept) → Stands earlier before kept → Alone e kept first after → LeavesField kept.field r.ask kept.field → with_ask kept.edits r.ask ≡ kept.edits → is_edit e ≡ false → is_run e ≡ false → IsNoRun e → Answer earlier before r e → StandsBehind kept.budget (earlier ++ r ∷ []) r.ask e [] → Step earlier before kept r first after
step_alone earlier before kept r e first after s alone leaves same not_edit not_run other answer behind =
    step_one earlier before kept kept.field r e first after s alone.0 alone.1 leaves same not_edit not_run other answer behind

-- ---- edits

outcome_number : (a b c : Bool) (n v : ℕ) → (if a then (if b then (if c then Err refusal.TooMany else Ok n) else Err refusal.TooLong) else Err refusal.Range) ≡ Ok v → v ≡ n
outcome_number true true true n v is = absurd (let none : ⊥ = cc in none)
outcome_number true true false n v is = cc
outcome_number true false c n v is = absurd (let none : ⊥ = cc in none)
outcome_number false b c n v is = absurd (let none : ⊥ = cc in none)

-- an edit that is accepted makes the next version
accepted_number : (edits : List Edit) (e : Edit) (v : ℕ) → answer_to text_limits edits e ≡ Ok v → v ≡ length edits + 1
accepted_number edits e v is = outcome_number (is_in_range (text_after edits) e) (is_within text_limits (edited (text_after edits) e)) (nat_le text_limits.versions (length edits)) (length edits + 1) v is

-- the newest version has the text that all edits make
pub newest_text : (edits : List Edit) → version edits (length edits) ≡ text_after edits
newest_text edits = ap text_after (take_all (length edits) edits (let all : length edits ≤ length edits = omega arith in all))

newest_margin : (edits : List Edit) (margin : Entry) → IsNewestMargin edits margin → IsMarginOf edits (length edits) margin
newest_margin edits margin m = (m.0, subst (λ lines. Full lines m.0) (sym (newest_text edits)) m.1, m.2)

-- `edit V` and the margin of version V
step_stands : (earlier : List Request) (before : List Entry) (kept after : Kept) (r : Request) (e : Edit) (v : ℕ) (margin : Entry) → Stands earlier before kept → LeavesField kept.field r.ask after.field → accepted (earlier ++ r ∷ []) ≡ after.edits → length after.edits ≡ length kept.edits + 1 → after.runs ≡ kept.runs → IsNewestMargin after.edits margin → Stands (earlier ++ r ∷ []) (before ++ entry.Edit v ∷ margin ∷ []) after
step_stands earlier before kept after r e v margin s leaves accepts more same m =
    let entries : before ++ entry.Edit v ∷ margin ∷ [] ≡ (before ++ entry.Edit v ∷ []) ++ margin ∷ [] = sym (append_assoc before (entry.Edit v ∷ []) (margin ∷ [])) in
    let no_edit : is_edit margin ≡ false = ap is_edit m.2 in
    let no_run : is_run margin ≡ false = ap is_run m.2 in
    let margin_over : AreOver (margin ∷ []) = one_over margin (λ run w is. let margin_is = m.2 in let none : ⊥ = cc in none) in
    let edit_over : AreOver (entry.Edit v ∷ []) = one_over (entry.Edit v) (λ run w is. let none : ⊥ = cc in none) in
    let stands : Stands (earlier ++ r ∷ []) ((before ++ entry.Edit v ∷ []) ++ margin ∷ []) after = record {
      edits = accepts;
      field = leave_push usual kept.field after.field earlier r s.field leaves;
      counted = same_newest (before ++ entry.Edit v ∷ []) margin no_edit ∙ newest_push before (entry.Edit v) ∙ omega (arith, s.counted, more);
      taken = same_taken (before ++ entry.Edit v ∷ []) margin no_run ∙ same_taken before (entry.Edit v) refl ∙ s.taken ∙ sym same;
      over = all_over (before ++ entry.Edit v ∷ []) (margin ∷ []) (all_over before (entry.Edit v ∷ []) s.over edit_over) margin_over;
      marks = m.0;
      shown = subst (Contains ((before ++ entry.Edit v ∷ []) ++ margin ∷ [])) m.2 (Contains-push (before ++ entry.Edit v ∷ []) margin);
    } in
    subst (λ es. Stands (earlier ++ r ∷ []) es after) (sym entries) stands

step_accepted : (earlier : List Request) (before : List Entry) (kept : Kept) (line : ℕ) (e : Edit) (v : ℕ) (first : List Entry) (after : Kept) → Stands earlier before kept → answer_to text_limits kept.edits e ≡ Ok v → SaysEdit (Ok v) kept e first after → Step earlier before kept (record { line = line; ask = ask.Edit e }) first after
step_accepted earlier before kept line e v first after s is says =
    let r : Request = record { line = line; ask = ask.Edit e } in
    let margin = says.0 in
    let number : v ≡ length kept.edits + 1 = accepted_number kept.edits e v is in
    let edits : after.edits ≡ kept.edits ++ e ∷ [] = ap (λ k. k.edits) says.2 in
    let more : length after.edits ≡ length kept.edits + 1 = ap length edits ∙ length-append kept.edits (e ∷ []) in
    let accepts : accepted (earlier ++ r ∷ []) ≡ after.edits = accepted_push earlier r kept.edits s.edits ∙ rw is (sym edits) in
    let now : v ≡ length after.edits = number ∙ sym more in
    let answer : Answer earlier before r (entry.Edit v) = subst (λ es. SaysOutcome before (answer_to text_limits es e) (entry.Edit v)) (sym s.edits) (subst (λ o. SaysOutcome before o (entry.Edit v)) (sym is) (ap entry.Edit (let next : v ≡ newest before + 1 = omega (arith, number, s.counted) in next))) in
    let full : IsMarginOf (accepted (earlier ++ r ∷ [])) v margin = subst (λ es. IsMarginOf es v margin) (sym accepts) (subst (λ n. IsMarginOf after.edits n margin) (sym now) (newest_margin after.edits margin says.1)) in (
      entry.Edit v,
      margin ∷ [],
      answer,
      (margin, full, refl),
      step_stands earlier before kept after r e v margin s (ap (λ k. k.field) says.2) accepts more (ap (λ k. k.runs) says.2) says.1,
      ap (λ k. k.budget) says.2,
      says.3,
    )

step_refused : (earlier : List Request) (before : List Entry) (kept : Kept) (line : ℕ) (e : Edit) (why : ApplyRefusal) (x : Entry) (first : List Entry) (after : Kept) → Stands earlier before kept → answer_to text_limits kept.edits e ≡ Err why → Alone x kept first after → SaysOutcome before (Err why) x → is_edit x ≡ false → is_run x ≡ false → IsNoRun x → StandsBehind kept.budget (earlier ++ record { line = line; ask = ask.Edit e } ∷ []) (ask.Edit e) x [] → Step earlier before kept (record { line = line; ask = ask.Edit e }) first after
step_refused earlier before kept line e why x first after s is alone says no_edit no_run other behind =
    step_alone earlier before kept (record { line = line; ask = ask.Edit e }) x first after s alone refl (rw is refl) no_edit no_run other
    (subst (λ es. SaysOutcome before (answer_to text_limits es e) x) (sym s.edits) (subst (λ o. SaysOutcome before o x) (sym is) says)) behind

step_edit : (earlier : List Request) (before : List Entry) (kept : Kept) (line : ℕ) (e : Edit) (outcome : Result ℕ ApplyRefusal) (first : List Entry) (after : Kept) → Stands earlier before kept → answer_to text_limits kept.edits e ≡ outcome → SaysEdit outcome kept e first after → Step earlier before kept (record { line = line; ask = ask.Edit e }) first after
step_edit earlier before kept line e (Ok v) first after s is says = step_accepted earlier before kept line e v first after s is says
step_edit earlier before kept line e (Err refusal.Range) first after s is says = step_refused earlier before kept line e refusal.Range entry.EditRange first after s is says refl refl refl (λ run v same. let none : ⊥ = cc in none) refl
step_edit earlier before kept line e (Err refusal.TooLong) first after s is says = step_refused earlier before kept line e refusal.TooLong entry.EditLong first after s is says refl refl refl (λ run v same. let none : ⊥ = cc in none) refl
step_edit earlier before kept line e (Err refusal.TooMany) first after s is says = step_refused earlier before kept line e refusal.TooMany entry.EditMany first after s is says refl refl refl (λ run v same. let none : ⊥ = cc in none) refl
step_edit earlier before kept line e (Err refusal.Memory) first after s is says = absurd says

-- ---- runs

-- the text of the version that a run has
run_text : (earlier : List Request) (before : List Entry) (kept : Kept) → Stands earlier before kept → version (accepted earlier) (newest before) ≡ text_after kept.edits
run_text earlier before kept s = ap (λ es. version es (newest before)) s.edits ∙ ap (version kept.edits) s.counted ∙ newest_text kept.edits

step_run : (earlier : List Request) (before : List Entry) (kept : Kept) (line : ℕ) (inputs : List Value) (first : List Entry) (after : Kept) → Stands earlier before kept → SaysRun kept inputs first after → Step earlier before kept (record { line = line; ask = ask.Run inputs }) first after
step_run earlier before kept line inputs first after s says =
    let r : Request = record { line = line; ask = ask.Run inputs } in
    let number = kept.runs + 1 in
    let v = length kept.edits in
    let behind = says.0 in
    let units = says.1.0 in
    let run = entry.Run number v in
    let quiet = run_quiet kept.budget number inputs kept.field units behind says.1.2 in
    let accepts : accepted (earlier ++ r ∷ []) ≡ kept.edits = accepted_push earlier r kept.edits s.edits in
    let next : number ≡ runs_taken before + 1 = omega (arith, s.taken) in
    let same : run ≡ entry.Run (runs_taken before + 1) (newest before) = λ i. entry.Run (next i) (sym s.counted i) in
    let answer : answers.SaysRun before run = inr (none_open before s.over, same) in
    let on_field : IsFieldBehind (earlier ++ r ∷ []) kept.field = leave_push usual kept.field kept.field earlier r s.field refl in
    let of_version : IsRunOf kept.budget number inputs kept.field (version (accepted (earlier ++ r ∷ [])) v) behind = subst (λ lines. IsRunOf kept.budget number inputs kept.field lines behind) (sym (ap (λ es. version es v) accepts ∙ newest_text kept.edits)) says.1 in
    let joined : before ++ run ∷ behind ≡ (before ++ run ∷ []) ++ behind = sym (append_assoc before (run ∷ []) behind) in
    let stands : Stands (earlier ++ r ∷ []) (before ++ run ∷ behind) (with_run kept) = record {
      edits = accepts;
      field = on_field;
      counted = ap newest joined ∙ no_more_edits (before ++ run ∷ []) behind quiet ∙ same_newest before run refl ∙ s.counted;
      taken = ap runs_taken joined ∙ no_more_runs (before ++ run ∷ []) behind quiet ∙ taken_push before run ∙ omega (arith, s.taken);
      over = all_over before (run ∷ behind) s.over (taken_over kept.budget number v inputs kept.field units behind says.1.2);
      marks = s.marks;
      shown = Contains-append_left before (run ∷ behind) (entry.Margin v s.marks) s.shown;
    } in
    (run, behind, answer, (kept.field, on_field, of_version), subst (Stands (earlier ++ r ∷ []) (before ++ run ∷ behind)) (sym says.2) stands, ap (λ k. k.budget) says.2, says.3)

-- ---- fields

step_field : (earlier : List Request) (before : List Entry) (kept : Kept) (line : ℕ) (lines : List (List ℕ)) (first : List Entry) (after : Kept) → Stands earlier before kept → SaysField kept lines first after → Step earlier before kept (record { line = line; ask = ask.Field lines }) first after
step_field earlier before kept line lines first after s (inl says) =
    step_one earlier before kept says.0 (record { line = line; ask = ask.Field lines }) entry.FieldOk first after s says.2 says.3 (inl says.1) refl refl refl (λ run v same. let none : ⊥ = cc in none) (inl (says.0, says.1, refl)) refl
step_field earlier before kept line lines first after s (inr says) =
    step_alone earlier before kept (record { line = line; ask = ask.Field lines }) (entry.FieldBad says.0) first after s says.2 (inr (says.0, says.1, refl)) refl refl refl (λ run v same. let none : ⊥ = cc in none) (inr (says.0, says.1, refl)) refl

-- ---- all requests

step_ask : (earlier : List Request) (before : List Entry) (kept : Kept) (line : ℕ) (a : Ask) (first : List Entry) (after : Kept) → Stands earlier before kept → Answers line a kept first after → Step earlier before kept (record { line = line; ask = a }) first after
step_ask earlier before kept line (ask.Edit e) first after s says = step_edit earlier before kept line e (answer_to text_limits kept.edits e) first after s refl says
step_ask earlier before kept line (ask.Field lines) first after s says = step_field earlier before kept line lines first after s says
step_ask earlier before kept line (ask.Run inputs) first after s says = step_run earlier before kept line inputs first after s says
step_ask earlier before kept line ask.Stop first after s says = step_alone earlier before kept (record { line = line; ask = ask.Stop }) entry.StopIdle first after s says refl refl refl refl (λ run v same. let none : ⊥ = cc in none) (inr (none_open before s.over, refl)) refl
step_ask earlier before kept line ask.Wait first after s says = step_alone earlier before kept (record { line = line; ask = ask.Wait }) entry.Waited first after s says refl refl refl refl (λ run v same. let none : ⊥ = cc in none) (settled earlier before kept s, refl) refl
step_ask earlier before kept line ask.Bad first after s says = step_alone earlier before kept (record { line = line; ask = ask.Bad }) (entry.Bad line) first after s says refl refl refl refl (λ run v same. let none : ⊥ = cc in none) refl refl

answers_of : (requests earlier : List Request) (before : List Entry) (kept : Kept) (budget : ℕ) (entries : List Entry) (after : Kept) → kept.budget ≡ budget → Stands earlier before kept → Carries kept requests entries after → AreAnswers budget earlier before requests entries
unfolding Carries AreAnswers
answers_of [] earlier before kept budget entries after b s carried = carried.0
answers_of (r ∷ requests) earlier before kept budget entries after b s carried =
    let step = step_ask earlier before kept r.line r.ask carried.0 carried.1 s carried.3 in (
      step.0,
      step.1,
      carried.2,
      step.2,
      subst (λ n. StandsBehind n (earlier ++ r ∷ []) r.ask step.0 step.1) b step.3,
      answers_of requests (earlier ++ r ∷ []) (before ++ step.0 ∷ step.1) carried.1 budget carried.2 after (step.5 ∙ b) step.4 carried.4,
      carried.5 ∙ ap (λ (es : List Entry). es ++ carried.2) step.6,
    )

-- the margin of the empty version stands first
begins : (budget : ℕ) (margin : Entry) → IsNewestMargin [] margin → Stands [] (margin ∷ []) (begun_with budget)
begins budget margin m =
    subst (λ e. Stands [] (e ∷ []) (begun_with budget)) (sym m.2) (record {
      edits = refl;
      field = leave_none;
      counted = refl;
      taken = refl;
      over = one_over (entry.Margin 0 m.0) (λ run v same. let none : ⊥ = cc in none);
      marks = m.0;
      shown = Contains-push [] (entry.Margin 0 m.0);
    })

-- the margin of the empty version, the answers and `bye` are the plain transcript
pub plain_of : (budget : ℕ) (requests : List Request) (margin : Entry) (answers : List Entry) (after : Kept) → IsNewestMargin [] margin → Carries (begun_with budget) requests answers after → IsPlain budget requests (margin ∷ answers ++ entry.Bye ∷ [])
plain_of budget requests margin answers after m carried =
    (margin ∷ answers, (margin, answers, newest_margin [] margin m, answers_of requests [] (margin ∷ []) (begun_with budget) budget answers after refl (begins budget margin m) carried, refl), refl)
