-- The parts of a run of `plain`, one after another.
use Rattle.std.proofs.Common.{◌≡◌, ℕ, ◌+◌, ◌<◌, ◌≤◌, inl, inr, List, [], ◌∷◌, ◌++◌, length, Option, Some, sym, ap, subst, ◌∙◌, refl, append_assoc, length-append, arith}
use Rattle.std.specs.Prelude.{Result, Ok, Err}
use Rattle.std.specs.Io.KnownBytes.{IsAtEnd}
use Rattle.km_base.specs.Limits.{script_bytes}
use Rattle.km_ports.specs.Ports.{SourceState, SinkState, TakesFrom}
use Rattle.km_ports.specs.Whole.{TakesExactly, TakesUpTo}
use Rattle.km_ports.proofs.PortLaws.{TakesFrom-then, TakesFrom-nothing, IsWhole-at_end, IsLongerThan-taken}
use Rattle.km_ports.specs.declared.status.Status.{Status}
use Rattle.km_ports.specs.declared.status.Status.TheVariants as status
use Rattle.km_ports.specs.declared.status.Excess.TheVariants as excess
use Rattle.script_lines.specs.declared.request.Request.{Request}
use Rattle.script_lines.specs.Requests.{whole, requests}
use Rattle.transcript.specs.declared.entry.Entry.{Entry}
use Rattle.transcript.specs.declared.entry.Entry.TheVariants as entry
use Rattle.plain_run.specs.Runs.{Ports, ports, NothingFailed}
use Rattle.plain_run.specs.Ending.{StopsPut}
use Rattle.plain_run.specs.Kept.{Kept, begun_with}
use Rattle.plain_run.specs.Plain.{IsPlain, Shows, PutsEntries}
use Rattle.plain_run.specs.Carried.{Carries, IsNewestMargin, StopsFor, HasCarried}
use Rattle.plain_run.specs.Scripts.{IsScriptRun}
use Rattle.plain_run.proofs.Carried.{puts_carried, puts_nothing, put_behind, carries_few}
use Rattle.plain_run.proofs.FewRequests.{whole_few}
use Rattle.plain_run.proofs.Answered.{plain_of}
use Rattle.plain_run.proofs.Told.{whole_told, long_told}
use Rattle.plain_run.proofs.Faults.{no_faults, faults_of_read, faults_of_write}

-- one byte more than `room` was taken behind these bytes
exactly_behind : (most room : ℕ) (before between now : SourceState) (fed : List ℕ) → length fed + room ≡ most → TakesFrom before between fed → TakesExactly (room + 1) between now → TakesExactly (most + 1) before now
exactly_behind most room before between now fed e t l =
    (fed ++ l.0, omega (arith, length-append fed l.0, l.1, e), TakesFrom-then before between now fed l.0 t l.2)

-- at most so many were
pub up_to_behind : (most room : ℕ) (before between now : SourceState) (fed : List ℕ) → length fed + room ≡ most → TakesFrom before between fed → TakesUpTo (room + 1) between now → TakesUpTo (most + 1) before now
up_to_behind most room before between now fed e t l =
    (fed ++ l.0, omega (arith, length-append fed l.0, l.1, e), TakesFrom-then before between now fed l.0 t l.2)

-- nothing was taken
pub up_to_nothing : (most : ℕ) (source : SourceState) → TakesUpTo most source source
up_to_nothing most source = ([], omega arith, TakesFrom-nothing source)

-- a part stops behind a part that carried these bytes, and in which nothing failed
pub stops_behind : (T U : Type 0) (most room : ℕ) (fed : List ℕ) (i0 i1 i2 : SourceState) (o0 o1 o2 : SinkState) (s : Status) → length fed + room ≡ most → TakesFrom i0 i1 fed → i1.faults ≡ i0.faults → o1.faults ≡ o0.faults → StopsFor {T = T} room (ports i1 i2 o1 o2) (Err s) → StopsFor {T = U} most (ports i0 i2 o0 o2) (Err s)
stops_behind T U most room fed i0 i1 i2 o0 o1 o2 status.Read e t i o c = (omega (arith, c.0, i), c.1 ∙ o)
stops_behind T U most room fed i0 i1 i2 o0 o1 o2 status.Write e t i o c = (c.0 ∙ i, omega (arith, c.1, o))
stops_behind T U most room fed i0 i1 i2 o0 o1 o2 status.Memory e t i o c = (c.0 ∙ i, c.1 ∙ o)
stops_behind T U most room fed i0 i1 i2 o0 o1 o2 (status.TooLong excess.Bytes) e t i o c = (exactly_behind most room i0 i1 i2 fed e t c.0, (c.1.0 ∙ i, c.1.1 ∙ o))
stops_behind T U most room fed i0 i1 i2 o0 o1 o2 (status.TooLong excess.Lines) e t i o c = c
stops_behind T U most room fed i0 i1 i2 o0 o1 o2 (status.TooLong (excess.Characters n)) e t i o c = c
stops_behind T U most room fed i0 i1 i2 o0 o1 o2 (status.NotUtf8 n) e t i o c = c
stops_behind T U most room fed i0 i1 i2 o0 o1 o2 status.Fine e t i o c = c
stops_behind T U most room fed i0 i1 i2 o0 o1 o2 status.Faults e t i o c = c
stops_behind T U most room fed i0 i1 i2 o0 o1 o2 status.Words e t i o c = c

-- writing stops behind a part in which nothing failed
pub put_stops : (T U : Type 0) (most : ℕ) (i0 i1 : SourceState) (o0 o1 o2 : SinkState) (s : Status) → i1.faults ≡ i0.faults → o1.faults ≡ o0.faults → StopsPut {T = T} o1 o2 (Err s) → StopsFor {T = U} most (ports i0 i1 o0 o2) (Err s)
put_stops T U most i0 i1 o0 o1 o2 status.Write i o c = (i, omega (arith, c, o))
put_stops T U most i0 i1 o0 o1 o2 status.Memory i o c = (i, c ∙ o)
put_stops T U most i0 i1 o0 o1 o2 status.Read i o c = absurd c
put_stops T U most i0 i1 o0 o1 o2 (status.TooLong n) i o c = absurd c
put_stops T U most i0 i1 o0 o1 o2 (status.NotUtf8 n) i o c = absurd c
put_stops T U most i0 i1 o0 o1 o2 status.Fine i o c = absurd c
put_stops T U most i0 i1 o0 o1 o2 status.Faults i o c = absurd c
put_stops T U most i0 i1 o0 o1 o2 status.Words i o c = absurd c

-- a part that carried a piece behind one that carried others
pub carried_more : (i0 i1 i2 : SourceState) (o0 o1 o2 : SinkState) (fed piece : List ℕ) (a b c : Kept) → HasCarried (ports i0 i1 o0 o1) [] fed a b → HasCarried (ports i1 i2 o1 o2) fed piece b c → HasCarried (ports i0 i2 o0 o2) [] (fed ++ piece) a c
carried_more i0 i1 i2 o0 o1 o2 fed piece a b c p q = record {
  taken = TakesFrom-then i0 i1 i2 fed piece p.taken q.taken;
  more = p.more ++ q.more;
  are_more = q.are_more ∙ ap (λ rs. rs ++ q.more) p.are_more ∙ append_assoc (whole []) p.more q.more;
  put = puts_carried p.more q.more a b c o0 o1 o2 p.put q.put;
}

-- the whole run
pub whole_plain : (budget : ℕ) (margin : Entry) (fed : List ℕ) (more last : List Request) (b c : Kept) (w0 w1 w2 w3 w4 : SinkState) → IsNewestMargin [] margin → Shows (margin ∷ []) w0 w1 → whole fed ≡ whole [] ++ more → requests fed ≡ whole fed ++ last → PutsEntries (λ es. Carries (begun_with budget) more es b) w1 w2 → PutsEntries (λ es. Carries b last es c) w2 w3 → Shows (entry.Bye ∷ []) w3 w4 → PutsEntries (IsPlain budget (requests fed)) w0 w4
whole_plain budget margin fed more last b c w0 w1 w2 w3 w4 m pm em el pa pl pb =
    let none : whole [] ≡ [] = refl in
    let both = puts_carried more last (begun_with budget) b c w1 w2 w3 pa pl in
    let all : requests fed ≡ more ++ last = el ∙ ap (λ rs. rs ++ last) (em ∙ ap (λ rs. rs ++ more) none) in (
      margin ∷ both.0 ++ entry.Bye ∷ [],
      plain_of budget (requests fed) margin both.0 c m (subst (λ rs. Carries (begun_with budget) rs both.0 c) (sym all) both.1),
      put_behind (margin ∷ []) (both.0 ++ entry.Bye ∷ []) w0 w1 w4 pm (put_behind both.0 (entry.Bye ∷ []) w1 w3 w4 both.2 pb),
    )

-- ---- the status

-- one byte more than the limit was taken, so the script has more
excess_told : (p : Ports) (input : List ℕ) → TakesExactly (script_bytes + 1) p.source_before p.source → p.source_before.left ≡ Some input → script_bytes < length input
excess_told p input c told =
    long_told script_bytes p.source_before input (IsLongerThan-taken script_bytes p.source_before p.source c.0 (omega (arith, c.1)) c.2) told

pub stopped_run : (budget : ℕ) (p : Ports) (s : Status) → TakesUpTo (script_bytes + 1) p.source_before p.source → StopsFor {T = Unit {0}} script_bytes p (Err s) → IsScriptRun budget p s
stopped_run budget p status.Read t c = record {
  done = λ e. absurd (let none : ⊥ = cc in none);
  ended = λ e. absurd (let none : ⊥ = cc in none);
  taken = t;
  faults = faults_of_read p c.0 c.1;
  long = λ e. absurd (let none : ⊥ = cc in none);
  excess = λ e. absurd (let none : ⊥ = cc in none);
  listed = refl;
  complete = λ input told within quiet. absurd (omega (arith, c.0, quiet.0));
}
stopped_run budget p status.Write t c = record {
  done = λ e. absurd (let none : ⊥ = cc in none);
  ended = λ e. absurd (let none : ⊥ = cc in none);
  taken = t;
  faults = faults_of_write p c.0 c.1;
  long = λ e. absurd (let none : ⊥ = cc in none);
  excess = λ e. absurd (let none : ⊥ = cc in none);
  listed = refl;
  complete = λ input told within quiet. absurd (omega (arith, c.1, quiet.1));
}
stopped_run budget p status.Memory t c = record {
  done = λ e. absurd (let none : ⊥ = cc in none);
  ended = λ e. absurd (let none : ⊥ = cc in none);
  taken = t;
  faults = no_faults p status.Memory refl c;
  long = λ e. absurd (let none : ⊥ = cc in none);
  excess = λ e. absurd (let none : ⊥ = cc in none);
  listed = refl;
  complete = λ input told within quiet. inr refl;
}
stopped_run budget p (status.TooLong excess.Bytes) t c = record {
  done = λ e. absurd (let none : ⊥ = cc in none);
  ended = λ e. absurd (let none : ⊥ = cc in none);
  taken = t;
  faults = no_faults p (status.TooLong excess.Bytes) refl c.1;
  long = λ e input told. excess_told p input c.0 told;
  excess = λ e. c.0;
  listed = refl;
  complete = λ input told within quiet. absurd (omega (arith, within, excess_told p input c.0 told));
}
stopped_run budget p (status.TooLong excess.Lines) t c = absurd c
stopped_run budget p (status.TooLong (excess.Characters n)) t c = absurd c
stopped_run budget p (status.NotUtf8 n) t c = absurd c
stopped_run budget p status.Fine t c = absurd c
stopped_run budget p status.Faults t c = absurd c
stopped_run budget p status.Words t c = absurd c

pub done_run : (budget : ℕ) (p : Ports) (fed : List ℕ) → length fed ≤ script_bytes → TakesFrom p.source_before p.source fed → IsAtEnd p.source.left → NothingFailed p → PutsEntries (IsPlain budget (requests fed)) p.sink_before p.sink → IsScriptRun budget p status.Fine
done_run budget p fed within took end quiet put = record {
  done = λ e input told. subst (λ i. (length i ≤ script_bytes) × PutsEntries (IsPlain budget (requests i)) p.sink_before p.sink) (whole_told p.source_before p.source fed input (IsWhole-at_end p.source_before p.source fed took end) told) (within, put);
  ended = λ e. end;
  taken = (fed, omega (arith, within), took);
  faults = no_faults p status.Fine refl quiet;
  long = λ e. absurd (let none : ⊥ = cc in none);
  excess = λ e. absurd (let none : ⊥ = cc in none);
  listed = refl;
  complete = λ input told within quiet. inl refl;
}

-- what a script's status says
abbrev pub status_of : Result (Unit {0}) Status → Status
status_of (Ok x) = status.Fine
status_of (Err s) = s

-- nothing was read yet
pub carried_none : (source : SourceState) (sink : SinkState) (kept : Kept) → HasCarried (ports source source sink sink) [] [] kept kept
carried_none source sink kept = record {
  taken = TakesFrom-nothing source;
  more = [];
  are_more = refl;
  put = puts_nothing kept sink;
}

-- what a part answered of some piece, behind what was carried before
pub more_carried : (i0 i1 i2 : SourceState) (o0 o1 o2 : SinkState) (fed : List ℕ) (a b c : Kept) (reader : Option (List ℕ)) (count room most : ℕ) → length fed + room ≡ most → count ≤ room → HasCarried (ports i0 i1 o0 o1) [] fed a b → (piece : List ℕ) × (length piece ≡ count) × (reader ≡ Some (fed ++ piece)) × HasCarried (ports i1 i2 o1 o2) fed piece b c → (all : List ℕ) × (reader ≡ Some all) × (length all ≡ length fed + count) × HasCarried (ports i0 i2 o0 o2) [] all a c
more_carried i0 i1 i2 o0 o1 o2 fed a b c reader count room most e fits p q =
    (fed ++ q.0, q.2, length-append fed q.0 ∙ ap (λ n. length fed + n) q.1, carried_more i0 i1 i2 o0 o1 o2 fed q.0 a b c p q.3)

-- the margin of the empty version was put, then what all lines complete, then what the end completes, then `bye`
pub plain_put : (budget : ℕ) (fed : List ℕ) (more : List Request) (a b c : Kept) (w0 w1 w2 w3 w4 : SinkState) → a ≡ begun_with budget → PutsEntries (λ es. (m : Entry) × IsNewestMargin a.edits m × (es ≡ m ∷ [])) w0 w1 → whole fed ≡ whole [] ++ more → PutsEntries (λ es. Carries a more es b) w1 w2 → PutsEntries (λ es. (l : List Request) × (requests fed ≡ whole fed ++ l) × Carries b l es c) w2 w3 → Shows (entry.Bye ∷ []) w3 w4 → PutsEntries (IsPlain budget (requests fed)) w0 w4
plain_put budget fed more a b c w0 w1 w2 w3 w4 none m em more_put last_put bye =
    whole_plain budget m.1.0 fed more last_put.1.0 b c w0 w1 w2 w3 w4
    (subst (λ kept. IsNewestMargin kept.edits m.1.0) none m.1.1)
    (subst (λ es. Shows es w0 w1) m.1.2 m.2)
    em last_put.1.1
    (subst (λ kept. PutsEntries (λ es. Carries kept more es b) w1 w2) none more_put)
    (last_put.0, last_put.1.2, last_put.2)
    bye

-- ---- how many runs there are

-- at most as many as requests
pub more_few : (p : Ports) (fed piece : List ℕ) (kept after : Kept) → kept.runs ≤ length (whole fed) → HasCarried p fed piece kept after → after.runs ≤ length (whole (fed ++ piece))
more_few p fed piece kept after few h =
    omega (arith, few, carries_few h.more kept after h.put.0 h.put.1, ap length h.are_more, length-append (whole fed) h.more)

-- so fewer than numbers of 32 bits
pub runs_within : (p : Ports) (fed : List ℕ) (kept after : Kept) → length fed ≤ script_bytes → kept.runs ≡ 0 → HasCarried p [] fed kept after → after.runs < 4294967295
runs_within p fed kept after within none h =
    omega (arith, within, none, more_few p [] fed kept after (omega (arith, none)) h, whole_few fed)

-- what waits is counted too
pub answers_within : (fed piece : List ℕ) (requests : List Request) (runs room : ℕ) → length fed + room ≤ script_bytes → length piece ≤ room → runs ≤ length (whole fed) → whole (fed ++ piece) ≡ whole fed ++ requests → runs + length requests < 4294967295
answers_within fed piece requests runs room fits short few more =
    omega (arith, fits, short, few, ap length more, length-append (whole fed) requests, whole_few (fed ++ piece), length-append fed piece)
