-- The runs of a command that reads a text, by the status that they end with.
use Rattle.std.proofs.Common.{◌≡◌, ℕ, ◌+◌, ◌-◌, ◌<◌, ◌≤◌, ◌⊎◌, inl, inr, true, false, List, [], length, Some, arith, sym, subst, refl}
use Rattle.std.specs.Prelude.{Result, Ok, Err, OnOk, IfErr, take}
use Rattle.std.specs.Io.KnownBytes.{IsAtEnd}
use Rattle.km_base.specs.Limits.{text_bytes}
use Rattle.km_ports.specs.declared.port.PutFault.{PutFault}
use Rattle.km_ports.specs.declared.port.PutFault.TheVariants as put_fault
use Rattle.km_ports.specs.declared.whole.ReadRefusal.{ReadRefusal}
use Rattle.km_ports.specs.declared.whole.ReadRefusal.TheVariants as refusal
use Rattle.km_ports.specs.declared.status.Status.{Status}
use Rattle.km_ports.specs.declared.status.Status.TheVariants as status
use Rattle.km_ports.specs.declared.status.Excess.TheVariants as excess
use Rattle.std.proofs.lemmas.List.{take_all}
use Rattle.km_ports.specs.Ports.{Rose, TakesFrom, CountsPut, PutsInto}
use Rattle.km_ports.specs.Whole.{IsWhole, IsLongerThan, TakesExactly, TakesUpTo, CountsRead}
use Rattle.plain_run.specs.Texts.{IsText, IsRefusedAs, says_no_text, says_done}
use Rattle.plain_run.specs.Puts.{IsPart}
use Rattle.plain_run.specs.Runs.{Ports, Wrote, WroteNothing, WrotePrefix, CutsOff, NothingFailed, TakesText, IsTextRun}
use Rattle.plain_run.specs.Ending.{ended}
use Rattle.km_ports.specs.Status.{read_status}
use Rattle.plain_run.proofs.Told.{whole_told, long_told}
use Rattle.plain_run.proofs.Faults.{is_fault, no_faults, faults_of_read, faults_of_write}

-- ---- an input that is no text

not_both : (s : Status) → says_done s ≡ true → says_no_text s ≡ true → ⊥
not_both status.Fine d n = cc
not_both status.Faults d n = cc
not_both status.Words d n = cc
not_both status.Read d n = cc
not_both status.Write d n = cc
not_both status.Memory d n = cc
not_both (status.NotUtf8 place) d n = cc
not_both (status.TooLong e) d n = cc

-- what is refused is no text
no_text : (input : List ℕ) (s : Status) → IsRefusedAs input s → IsText input → ⊥
no_text input (status.TooLong excess.Bytes) h t = omega (arith, h, t.bytes)
no_text input (status.TooLong excess.Lines) h t = omega (arith, h.2, t.lines.few)
no_text input (status.TooLong (excess.Characters number)) h t =
    let long = h.2.1 in
    omega (arith, long.long, t.lines.short (number - 1) [] (omega (arith, long.counted, long.within)))
no_text input (status.NotUtf8 place) h t = h.1 t.utf8
no_text input status.Fine h t = h
no_text input status.Faults h t = h
no_text input status.Words h t = h
no_text input status.Read h t = h
no_text input status.Write h t = h
no_text input status.Memory h t = h

-- ---- how much was taken

-- this is all that was left, and it was read to its end
pub record IsRead (p : Ports) (bytes : List ℕ) : Type 0 where
  pub whole : IsWhole p.source_before p.source bytes
  pub within : length bytes ≤ text_bytes
  pub took : TakesFrom p.source_before p.source bytes
  pub end : IsAtEnd p.source.left
  pub stood : p.source.faults ≡ p.source_before.faults

-- the bytes that a source was read as, under another name
pub read_whole : (p : Ports) (bytes found : List ℕ) → bytes ≡ found → IsWhole p.source_before p.source found → length found ≤ text_bytes → TakesFrom p.source_before p.source found → IsAtEnd p.source.left → p.source.faults ≡ p.source_before.faults → IsRead p bytes
read_whole p bytes found same whole within took end stood = subst (IsRead p) (sym same) (record { whole = whole; within = within; took = took; end = end; stood = stood })

all_taken : (p : Ports) (bytes : List ℕ) (s : Status) → IsRead p bytes → (s ≡ status.TooLong excess.Bytes → ⊥) → TakesText p s
all_taken p bytes s read other = record {
  taken = (bytes, let within = read.within in omega (arith, within), read.took);
  excess = λ e. absurd (other e);
  ended = λ e. read.end;
}

no_text_quiet : (s : Status) → says_no_text s ≡ true → is_fault s ≡ false
no_text_quiet status.Fine n = refl
no_text_quiet status.Faults n = refl
no_text_quiet status.Words n = refl
no_text_quiet status.Read n = absurd (let none : ⊥ = cc in none)
no_text_quiet status.Write n = absurd (let none : ⊥ = cc in none)
no_text_quiet status.Memory n = refl
no_text_quiet (status.NotUtf8 place) n = refl
no_text_quiet (status.TooLong e) n = refl

done_quiet : (s : Status) → says_done s ≡ true → is_fault s ≡ false
done_quiet status.Fine d = refl
done_quiet status.Faults d = refl
done_quiet status.Words d = refl
done_quiet status.Read d = absurd (let none : ⊥ = cc in none)
done_quiet status.Write d = absurd (let none : ⊥ = cc in none)
done_quiet status.Memory d = refl
done_quiet (status.NotUtf8 place) d = refl
done_quiet (status.TooLong e) d = refl

-- ---- an input that is no text, or was not read

no_text_run : (A : List ℕ → Status → List ℕ → Type 0) (p : Ports) (s : Status) → says_no_text s ≡ true → WroteNothing p → ((input : List ℕ) → p.source_before.left ≡ Some input → IsRefusedAs input s) → TakesText p s → NothingFailed p → IsTextRun A p s
no_text_run A p s says nothing cause reading quiet = record {
  reading = reading;
  faults = no_faults p s (no_text_quiet s says) quiet;
  done = λ d. absurd (not_both s d says);
  prefix = λ input told. inl nothing;
  less = λ e. absurd (let none : ⊥ = cc in none);
  unread = λ e. nothing;
  unwritten = λ e. nothing;
  cause = λ e. cause;
  refused = λ input told bad. inr says;
  listed = λ e. absurd (let none : ⊥ = cc in none);
  complete = λ input told text quiet. absurd (no_text input s (cause input told) text);
}

read_run : (A : List ℕ → Status → List ℕ → Type 0) (p : Ports) → WroteNothing p → TakesUpTo (text_bytes + 1) p.source_before p.source → Rose p.source_before.faults p.source.faults → p.sink.faults ≡ p.sink_before.faults → IsTextRun A p status.Read
read_run A p nothing taken rose stood = record {
  reading = record { taken = taken; excess = λ e. absurd (let none : ⊥ = cc in none); ended = λ e. absurd (let none : ⊥ = cc in none) };
  faults = faults_of_read p rose stood;
  done = λ d. absurd (let none : ⊥ = cc in none);
  prefix = λ input told. inl nothing;
  less = λ e. absurd (let none : ⊥ = cc in none);
  unread = λ e. nothing;
  unwritten = λ e. nothing;
  cause = λ e. absurd (let none : ⊥ = cc in none);
  refused = λ input told bad. inl (inl refl);
  listed = λ e. absurd (let none : ⊥ = cc in none);
  complete = λ input told text quiet. absurd (omega (arith, rose, quiet.0));
}

memory_run : (A : List ℕ → Status → List ℕ → Type 0) (p : Ports) → ((input : List ℕ) → p.source_before.left ≡ Some input → WroteNothing p ⊎ (IsText input × ((t : Status) × (text : List ℕ) × A input t text × WrotePrefix p text))) → TakesUpTo (text_bytes + 1) p.source_before p.source → NothingFailed p → IsTextRun A p status.Memory
memory_run A p prefix taken quiet = record {
  reading = record { taken = taken; excess = λ e. absurd (let none : ⊥ = cc in none); ended = λ e. absurd (let none : ⊥ = cc in none) };
  faults = no_faults p status.Memory refl quiet;
  done = λ d. absurd (let none : ⊥ = cc in none);
  prefix = prefix;
  less = λ e. absurd (let none : ⊥ = cc in none);
  unread = λ e. absurd (let none : ⊥ = cc in none);
  unwritten = λ e. absurd (let none : ⊥ = cc in none);
  cause = λ e. absurd (let none : ⊥ = cc in none);
  refused = λ input told bad. inl (inr refl);
  listed = λ e. absurd (let none : ⊥ = cc in none);
  complete = λ input told text quiet. inr refl;
}

-- memory was wanted before anything was written
pub no_memory_run : (A : List ℕ → Status → List ℕ → Type 0) (p : Ports) → WroteNothing p → TakesUpTo (text_bytes + 1) p.source_before p.source → NothingFailed p → IsTextRun A p status.Memory
no_memory_run A p nothing taken quiet = memory_run A p (λ input told. inl nothing) taken quiet

pub unread_run : (T : Type 0) (A : List ℕ → Status → List ℕ → Type 0) (p : Ports) (r : ReadRefusal) → WroteNothing p → p.sink.faults ≡ p.sink_before.faults → TakesUpTo (text_bytes + 1) p.source_before p.source → (r ≡ refusal.TooLong → IsLongerThan text_bytes p.source_before) → (r ≡ refusal.TooLong → TakesExactly (text_bytes + 1) p.source_before p.source) → CountsRead {T = T} p.source_before p.source (Err r) → IsTextRun A p (read_status r)
unread_run T A p refusal.Failed nothing stood taken long exactly cause = read_run A p nothing taken cause stood
unread_run T A p refusal.TooLong nothing stood taken long exactly cause =
    no_text_run A p (status.TooLong excess.Bytes) refl nothing (λ input told. long_told text_bytes p.source_before input (long refl) told)
    (record { taken = taken; excess = λ e. exactly refl; ended = λ e. absurd (let none : ⊥ = cc in none) })
    (cause, stood)
unread_run T A p refusal.Memory nothing stood taken long exactly cause = no_memory_run A p nothing taken (cause, stood)

-- ---- a text

-- the whole answer to these bytes was written, with this status
abbrev pub Answered : (List ℕ → Status → List ℕ → Type 0) → Ports → List ℕ → Status → Type 0
Answered A p bytes t = (text : List ℕ) × A bytes t text × Wrote p text

-- a prefix of it was written, and that stopped the rest
abbrev pub AnsweredPart : (List ℕ → Status → List ℕ → Type 0) → Ports → List ℕ → Status → PutFault → Type 0
AnsweredPart A p bytes t fault = (text : List ℕ) × A bytes t text × ((count : ℕ) × IsPart fault count text × Wrote p (take count text))

-- a prefix of it was written
abbrev pub AnsweredPrefix : (List ℕ → Status → List ℕ → Type 0) → Ports → List ℕ → Status → Type 0
AnsweredPrefix A p bytes t = (text : List ℕ) × A bytes t text × WrotePrefix p text

answered_prefix : (A : List ℕ → Status → List ℕ → Type 0) (p : Ports) (bytes : List ℕ) (t : Status) → Answered A p bytes t → AnsweredPrefix A p bytes t
answered_prefix A p bytes t a = (a.0, a.1, (length a.0, subst (λ text. PutsInto p.sink_before p.sink text) (sym (take_all (length a.0) a.0 (omega arith))) a.2))

part_prefix : (A : List ℕ → Status → List ℕ → Type 0) (p : Ports) (bytes : List ℕ) (t : Status) (fault : PutFault) → AnsweredPart A p bytes t fault → AnsweredPrefix A p bytes t
part_prefix A p bytes t fault a = (a.0, a.1, (a.2.0, a.2.2))

prefix_told : (A : List ℕ → Status → List ℕ → Type 0) (p : Ports) (bytes : List ℕ) (t : Status) → IsRead p bytes → IsText bytes → AnsweredPrefix A p bytes t → (input : List ℕ) → p.source_before.left ≡ Some input → WroteNothing p ⊎ (IsText input × ((u : Status) × (text : List ℕ) × A input u text × WrotePrefix p text))
prefix_told A p bytes t read is_text prefix input told =
    let here = subst (λ b. IsText b × AnsweredPrefix A p b t) (whole_told p.source_before p.source bytes input read.whole told) (is_text, prefix) in
    inr (here.0, (t, here.1.0, here.1.1, here.1.2))

-- where the sink failed, a part is not all
less_told : (A : List ℕ → Status → List ℕ → Type 0) (p : Ports) (bytes : List ℕ) (t : Status) → IsRead p bytes → AnsweredPart A p bytes t put_fault.Failed → (input : List ℕ) → p.source_before.left ≡ Some input → CutsOff A p input
less_told A p bytes t read part input told =
    let here = subst (λ b. AnsweredPart A p b t put_fault.Failed) (whole_told p.source_before p.source bytes input read.whole told) part in
    (t, here.0, here.1, here.2)

done_run : (A : List ℕ → Status → List ℕ → Type 0) (p : Ports) (bytes : List ℕ) (t : Status) → says_done t ≡ true → IsRead p bytes → IsText bytes → Answered A p bytes t → p.sink.faults ≡ p.sink_before.faults → IsTextRun A p t
done_run A p bytes t says read is_text answer stood = record {
  reading = all_taken p bytes t read (λ e. let none : ⊥ = cc in none);
  faults = no_faults p t (done_quiet t says) (read.stood, stood);
  done = λ d input told. subst (λ b. IsText b × Answered A p b t) (whole_told p.source_before p.source bytes input read.whole told) (is_text, answer);
  prefix = prefix_told A p bytes t read is_text (answered_prefix A p bytes t answer);
  less = λ e. absurd (let none : ⊥ = cc in none);
  unread = λ e. absurd (let none : ⊥ = cc in none);
  unwritten = λ e. absurd (not_both t says e);
  cause = λ e. absurd (not_both t says e);
  refused = λ input told bad. absurd (bad (subst IsText (whole_told p.source_before p.source bytes input read.whole told) is_text));
  listed = λ e. absurd (let none : ⊥ = cc in none);
  complete = λ input told text quiet. inl says;
}

write_run : (A : List ℕ → Status → List ℕ → Type 0) (p : Ports) (bytes : List ℕ) (t : Status) → IsRead p bytes → IsText bytes → AnsweredPart A p bytes t put_fault.Failed → Rose p.sink_before.faults p.sink.faults → IsTextRun A p status.Write
write_run A p bytes t read is_text answer rose = record {
  reading = all_taken p bytes status.Write read (λ e. let none : ⊥ = cc in none);
  faults = faults_of_write p read.stood rose;
  done = λ d. absurd (let none : ⊥ = cc in none);
  prefix = prefix_told A p bytes t read is_text (part_prefix A p bytes t put_fault.Failed answer);
  less = λ e. less_told A p bytes t read answer;
  unread = λ e. absurd (let none : ⊥ = cc in none);
  unwritten = λ e. absurd (let none : ⊥ = cc in none);
  cause = λ e. absurd (let none : ⊥ = cc in none);
  refused = λ input told bad. absurd (bad (subst IsText (whole_told p.source_before p.source bytes input read.whole told) is_text));
  listed = λ e. absurd (let none : ⊥ = cc in none);
  complete = λ input told text quiet. absurd (omega (arith, rose, quiet.1));
}

-- the work on a text was done, and its answer was put, or a prefix of it
pub worked_run : (T : Type 0) (A : List ℕ → Status → List ℕ → Type 0) (p : Ports) (bytes : List ℕ) (t : Status) (r : Result T PutFault) → says_done t ≡ true → IsRead p bytes → IsText bytes → OnOk r (Answered A p bytes t) → IfErr r (AnsweredPart A p bytes t) → CountsPut p.sink_before p.sink r → IsTextRun A p (ended t r)
worked_run T A p bytes t (Ok put) says read is_text answer prefix cause = done_run A p bytes t says read is_text answer cause
worked_run T A p bytes t (Err put_fault.Failed) says read is_text answer prefix cause = write_run A p bytes t read is_text prefix cause
worked_run T A p bytes t (Err put_fault.Memory) says read is_text answer prefix cause =
    memory_run A p (prefix_told A p bytes t read is_text (part_prefix A p bytes t put_fault.Memory prefix)) (all_taken p bytes status.Memory read (λ e. let none : ⊥ = cc in none)).taken (read.stood, cause)

not_bytes : (bytes : List ℕ) (s : Status) → length bytes ≤ text_bytes → IsRefusedAs bytes s → s ≡ status.TooLong excess.Bytes → ⊥
not_bytes bytes s within refused e = let more : text_bytes < length bytes = subst (IsRefusedAs bytes) e refused in omega (arith, within, more)

-- the input was read, and it is no text, or memory was wanted
pub refused_run : (A : List ℕ → Status → List ℕ → Type 0) (p : Ports) (bytes : List ℕ) (s : Status) → WroteNothing p → p.sink.faults ≡ p.sink_before.faults → IsRead p bytes → (s ≡ status.Memory) ⊎ ((says_no_text s ≡ true) × IsRefusedAs bytes s) → IsTextRun A p s
refused_run A p bytes s nothing stood read (inl e) =
    subst (IsTextRun A p) (sym e) (no_memory_run A p nothing (all_taken p bytes status.Memory read (λ e. let none : ⊥ = cc in none)).taken (read.stood, stood))
refused_run A p bytes s nothing stood read (inr h) =
    no_text_run A p s h.0 nothing (λ input told. subst (λ b. IsRefusedAs b s) (whole_told p.source_before p.source bytes input read.whole told) h.1)
    (all_taken p bytes s read (not_bytes bytes s read.within h.1)) (read.stood, stood)
