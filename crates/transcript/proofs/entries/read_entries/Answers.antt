use Rattle.std.proofs.Common.{◌≡◌, ◌+◌, ◌++◌, [], ◌∷◌, length, sym, ap, subst, ◌∙◌, arith, inl, false-eqb}
use Rattle.std.proofs.lemmas.List.{nil_from_length, length-append}
use Rattle.std.proofs.lemmas.Bool.{eqb-true}
use Rattle.std.specs.Prelude.{All}
use Rattle.transcript.specs.Print.{print, printed_entry}
use Rattle.transcript.specs.Entries.{IsShown, IsFirstBad}
use Rattle.transcript.specs.declared.entries.TranscriptRefusal.TheVariants.{NotEntry}
use Rattle.transcript.proofs.OneReading.{one_more, one_shown, shorter, read_all, same_entries, none_bad, same_bad}
use Rattle.transcript.proofs.entries.read_entries.Goals as goal

pub returns-in_default-clause-read_again : goal.returns-in_default-clause-read_again
returns-in_default-clause-read_again c es h is =
    let bad : IsFirstBad c.args.bytes.now c.loop-rest.line = record {
      before = c.loop-rest.entries;
      rest = c.loop-rest.rest.now;
      shown = c.loop-rest.invariant.shown;
      cut = c.loop-rest.invariant.cut;
      counted = c.loop-rest.invariant.counted;
      more = λ nil. false-eqb _ 0 c.loop-rest-test.ensures (ap length nil);
      none = rw c.in_default.is at c.in_ok-entry.ensures;
    } in
    absurd (none_bad c.args.bytes.now es c.loop-rest.line h is bad)

pub returns-in_default-clause-refused : goal.returns-in_default-clause-refused
returns-in_default-clause-refused c line bad =
    let here : IsFirstBad c.args.bytes.now c.loop-rest.line = record {
      before = c.loop-rest.entries;
      rest = c.loop-rest.rest.now;
      shown = c.loop-rest.invariant.shown;
      cut = c.loop-rest.invariant.cut;
      counted = c.loop-rest.invariant.counted;
      more = λ nil. false-eqb _ 0 c.loop-rest-test.ensures (ap length nil);
      none = rw c.in_default.is at c.in_ok-entry.ensures;
    } in
    inl (ap NotEntry (same_bad c.args.bytes.now c.loop-rest.line line here bad))

pub loop-rest-preserved : goal.loop-rest-preserved
loop-rest-preserved c =
    let first = rw c.in-Some.is at c.in_ok-entry.ensures in
    let pushed = c.in_ok-push_entry.ensures in
    let size = ap length pushed ∙ length-append c.loop-rest.entries (c.in-Some.entry ∷ []) in
    let less = shorter c.loop-rest.rest.now c.in-Some.entry c.in-Some.after.now first.1 in
    let room = c.loop-rest.invariant.room in
    let counted = c.loop-rest.invariant.counted in record {
      cut = one_more c.args.bytes.now c.loop-rest.entries c.loop-rest.rest.now c.in-Some.entry c.in-Some.after.now c.loop-rest.invariant.cut first.1 ∙ ap (λ es. print es ++ c.in-Some.after.now) (sym pushed);
      shown = subst (All IsShown) (sym pushed) (one_shown c.loop-rest.entries c.in-Some.entry c.loop-rest.invariant.shown first.0);
      counted = omega arith;
      room = omega arith;
    }

pub returns-clause-read_again : goal.returns-clause-read_again
returns-clause-read_again c es h is =
    let end = nil_from_length c.loop-rest.rest.now (eqb-true _ 0 (sym c.loop-rest-test.ensures)) in
    same_entries c.args.bytes.now c.loop-rest.entries es c.loop-rest.invariant.shown h (read_all c.args.bytes.now c.loop-rest.entries c.loop-rest.rest.now end c.loop-rest.invariant.cut) is

pub returns-clause-refused : goal.returns-clause-refused
returns-clause-refused c line bad =
    let end = nil_from_length c.loop-rest.rest.now (eqb-true _ 0 (sym c.loop-rest-test.ensures)) in
    none_bad c.args.bytes.now c.loop-rest.entries line c.loop-rest.invariant.shown (read_all c.args.bytes.now c.loop-rest.entries c.loop-rest.rest.now end c.loop-rest.invariant.cut) bad
