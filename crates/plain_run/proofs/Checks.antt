-- A run of `check` on a text.
use Rattle.std.proofs.Common.{◌≡◌, ℕ, ◌⊎◌, inl, inr, true, false, List, [], ◌∷◌, Some, sym, ap, subst, ◌∙◌, refl}
use Rattle.std.specs.Prelude.{Result, Ok, Err, OnOk, OnErr, IfErr}
use Rattle.std.proofs.lemmas.Result.{on_ok_weaker}
use Rattle.kumir_tree.specs.Lines.{lines_of}
use Rattle.km_ports.specs.declared.port.PutFault.{PutFault}
use Rattle.km_ports.specs.declared.status.Status.{Status}
use Rattle.km_ports.specs.Ports.{CountsPut, PutsInto}
use Rattle.km_ports.specs.Whole.{PutsPrefix}
use Rattle.margins.specs.declared.margin.Mark.{Mark}
use Rattle.plain_run.specs.Texts.{IsText, says_done}
use Rattle.plain_run.specs.Runs.{Ports, WroteNothing, CutsOff, IsTextRun}
use Rattle.plain_run.specs.Ending.{ended}
use Rattle.plain_run.specs.Checked.{verdict, IsChecked, AnswersCheck, IsCheckRun}
use Rattle.plain_run.proofs.Told.{whole_told}
use Rattle.plain_run.proofs.Runs.{IsRead, AnsweredPart, worked_run}
use Rattle.plain_run.proofs.Prints.{part_less}

verdict_done : (marks : List Mark) → says_done (verdict marks) ≡ true
verdict_done [] = refl
verdict_done (m ∷ marks) = refl

-- a run that wrote nothing
pub nothing_checked : (p : Ports) (s : Status) → WroteNothing p → IsTextRun AnswersCheck p s → IsCheckRun p s
nothing_checked p s nothing run = record { run = run; less = λ d input told. inl nothing }

margin_part : {T : Type 0} (r : Result T PutFault) (p : Ports) (bytes : List ℕ) (s : Status) (text : List ℕ) → AnswersCheck bytes s text → OnErr r (PutsPrefix p.sink_before p.sink text) → IfErr r (AnsweredPart AnswersCheck p bytes s)
margin_part (Ok put) p bytes s text answer prefix = tt
margin_part (Err fault) p bytes s text answer prefix = (text, answer, (prefix.0, part_less fault prefix.0 text prefix.1, prefix.2))

margin_less : {T : Type 0} (r : Result T PutFault) (p : Ports) (bytes : List ℕ) (s : Status) (text : List ℕ) → says_done s ≡ true → IsRead p bytes → AnswersCheck bytes s text → OnErr r (PutsPrefix p.sink_before p.sink text) → says_done (ended s r) ≡ false → (input : List ℕ) → p.source_before.left ≡ Some input → WroteNothing p ⊎ CutsOff AnswersCheck p input
margin_less (Ok put) p bytes s text done read answer prefix cut input told = absurd (let none : ⊥ = cc in none)
margin_less (Err fault) p bytes s text done read answer prefix cut input told =
    inr (s, text, subst (λ b. AnswersCheck b s text) (whole_told p.source_before p.source bytes input read.whole told) answer, prefix)

pub checked_run : (T : Type 0) (p : Ports) (bytes : List ℕ) (lines : List (List ℕ)) (s : Status) (text piece : List ℕ) (r : Result T PutFault) → IsRead p bytes → IsText bytes → lines ≡ lines_of bytes → IsChecked lines s text → piece ≡ text → OnOk r (PutsInto p.sink_before p.sink piece) → OnErr r (PutsPrefix p.sink_before p.sink piece) → CountsPut p.sink_before p.sink r → IsCheckRun p (ended s r)
checked_run T p bytes lines s text piece r read is_text shown checked spelled puts prefix cause =
    let answer : AnswersCheck bytes s piece = subst (λ t. AnswersCheck bytes s t) (sym spelled) (subst (λ l. IsChecked l s text) shown checked) in
    let done : says_done s ≡ true = ap says_done answer.2 ∙ verdict_done answer.0 in
    record {
      run = worked_run T AnswersCheck p bytes s r done read is_text (on_ok_weaker r (λ put. (piece, answer, put)) puts) (margin_part r p bytes s piece answer prefix) cause;
      less = margin_less r p bytes s piece done read answer prefix;
    }
