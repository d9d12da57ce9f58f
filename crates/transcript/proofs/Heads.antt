-- The first words of lines, and the words of a margin.
use Rattle.std.proofs.lemmas.List.Splits.{length-slice_split}
use Rattle.std.proofs.Common.{◌≡◌, ℕ, length, eqb, arith, true, false, Option, Some, List, [], ◌∷◌, ◌++◌, map, codes, sym, ap, ◌∙◌, append-nil}
use Rattle.std.specs.Fmt.{decimal}
use Rattle.std.specs.Str.{bytes_eq, all_scalars}
use Rattle.std.proofs.lemmas.Bool.{false≢true}
use Rattle.margins.specs.declared.margin.Mark.{Mark}
use Rattle.margins.specs.Marks.{IsMargin}
use Rattle.margins.specs.Printed.{mark_word, printed_margin}
use Rattle.margins.proofs.Words.{margin_words, tails_same}
use Rattle.transcript.specs.declared.entry.Entry.{Entry}
use Rattle.transcript.specs.declared.entry.Entry.TheVariants.{Edit, EditRange, EditLong, EditMany, FieldOk, FieldBad, Run, RunBusy, Stop, StopIdle, Waited, Bad, Margin, RefusedFaults, RefusedMain, Out, Robot, Pen, End, Bye}
use Rattle.transcript.specs.Print.{entry_line, IsNumber, IsEntry}
use Rattle.transcript.specs.Reading.{parts, IsPlain}
use Rattle.transcript.proofs.Again.{last_number, first_number}

-- the first word of an entry's line
pub first_word : Entry → List ℕ
first_word (Edit version) = codes "edit"
first_word EditRange = codes "edit"
first_word EditLong = codes "edit"
first_word EditMany = codes "edit"
first_word FieldOk = codes "field"
first_word (FieldBad line) = codes "field"
first_word (Run run version) = codes "run"
first_word RunBusy = codes "run"
first_word (Stop run) = codes "stop"
first_word StopIdle = codes "stop"
first_word Waited = codes "waited"
first_word (Bad line) = codes "bad"
first_word (Margin version margin) = codes "margin"
first_word (RefusedFaults run) = codes "refused"
first_word (RefusedMain run) = codes "refused"
first_word (Out run text) = codes "out"
first_word (Robot run number c r) = codes "robot"
first_word (Pen run number c r) = codes "pen"
first_word (End run kind) = codes "end"
first_word Bye = codes "bye"

pub heads_same : (x y : List ℕ) (xs ys : List (List ℕ)) → x ∷ xs ≡ y ∷ ys → x ≡ y
heads_same x y xs ys e = cc

pub first_is : (e : Entry) (word : List ℕ) (rest : List (List ℕ)) → parts (entry_line e) ≡ word ∷ rest → first_word e ≡ word
unfolding first_word
first_is (Edit version) word rest is = heads_same _ _ _ _ is
first_is EditRange word rest is = heads_same _ _ _ _ is
first_is EditLong word rest is = heads_same _ _ _ _ is
first_is EditMany word rest is = heads_same _ _ _ _ is
first_is FieldOk word rest is = heads_same _ _ _ _ is
first_is (FieldBad line) word rest is = heads_same _ _ _ _ is
first_is (Run run version) word rest is = heads_same _ _ _ _ is
first_is RunBusy word rest is = heads_same _ _ _ _ is
first_is (Stop run) word rest is = heads_same _ _ _ _ is
first_is StopIdle word rest is = heads_same _ _ _ _ is
first_is Waited word rest is = heads_same _ _ _ _ is
first_is (Bad line) word rest is = heads_same _ _ _ _ is
first_is (Margin version margin) word rest is = heads_same _ _ _ _ is
first_is (RefusedFaults run) word rest is = heads_same _ _ _ _ is
first_is (RefusedMain run) word rest is = heads_same _ _ _ _ is
first_is (Out run text) word rest is = heads_same _ _ _ _ is
first_is (Robot run number c r) word rest is = heads_same _ _ _ _ is
first_is (Pen run number c r) word rest is = heads_same _ _ _ _ is
first_is (End run kind) word rest is = heads_same _ _ _ _ is
first_is Bye word rest is = heads_same _ _ _ _ is

pub out_alone : (e : Entry) (line : List ℕ) (P : Entry → Type 0) → IsEntry e → line ≡ entry_line e → ((run : ℕ) (text : List ℕ) → IsNumber run → all_scalars text ≡ true → line ≡ entry_line (Out run text) → P (Out run text)) → bytes_eq (first_word e) (codes "out") ≡ true → P e
unfolding first_word
out_alone (Edit version) bytes P h is f t = absurd (false≢true t)
out_alone EditRange bytes P h is f t = absurd (false≢true t)
out_alone EditLong bytes P h is f t = absurd (false≢true t)
out_alone EditMany bytes P h is f t = absurd (false≢true t)
out_alone FieldOk bytes P h is f t = absurd (false≢true t)
out_alone (FieldBad line) bytes P h is f t = absurd (false≢true t)
out_alone (Run run version) bytes P h is f t = absurd (false≢true t)
out_alone RunBusy bytes P h is f t = absurd (false≢true t)
out_alone (Stop run) bytes P h is f t = absurd (false≢true t)
out_alone StopIdle bytes P h is f t = absurd (false≢true t)
out_alone Waited bytes P h is f t = absurd (false≢true t)
out_alone (Bad line) bytes P h is f t = absurd (false≢true t)
out_alone (Margin version margin) bytes P h is f t = absurd (false≢true t)
out_alone (RefusedFaults run) bytes P h is f t = absurd (false≢true t)
out_alone (RefusedMain run) bytes P h is f t = absurd (false≢true t)
out_alone (Out run text) bytes P h is f t = f run text h.0 h.1 is
out_alone (Robot run number c r) bytes P h is f t = absurd (false≢true t)
out_alone (Pen run number c r) bytes P h is f t = absurd (false≢true t)
out_alone (End run kind) bytes P h is f t = absurd (false≢true t)
out_alone Bye bytes P h is f t = absurd (false≢true t)

pub margin_alone : (e : Entry) (line : List ℕ) (P : Entry → Type 0) → IsEntry e → line ≡ entry_line e → ((version : ℕ) (margin : List Mark) → IsNumber version → IsMargin margin → line ≡ entry_line (Margin version margin) → P (Margin version margin)) → bytes_eq (first_word e) (codes "margin") ≡ true → P e
unfolding first_word
margin_alone (Edit version) bytes P h is f t = absurd (false≢true t)
margin_alone EditRange bytes P h is f t = absurd (false≢true t)
margin_alone EditLong bytes P h is f t = absurd (false≢true t)
margin_alone EditMany bytes P h is f t = absurd (false≢true t)
margin_alone FieldOk bytes P h is f t = absurd (false≢true t)
margin_alone (FieldBad line) bytes P h is f t = absurd (false≢true t)
margin_alone (Run run version) bytes P h is f t = absurd (false≢true t)
margin_alone RunBusy bytes P h is f t = absurd (false≢true t)
margin_alone (Stop run) bytes P h is f t = absurd (false≢true t)
margin_alone StopIdle bytes P h is f t = absurd (false≢true t)
margin_alone Waited bytes P h is f t = absurd (false≢true t)
margin_alone (Bad line) bytes P h is f t = absurd (false≢true t)
margin_alone (Margin version margin) bytes P h is f t = f version margin h.0 h.1 is
margin_alone (RefusedFaults run) bytes P h is f t = absurd (false≢true t)
margin_alone (RefusedMain run) bytes P h is f t = absurd (false≢true t)
margin_alone (Out run text) bytes P h is f t = absurd (false≢true t)
margin_alone (Robot run number c r) bytes P h is f t = absurd (false≢true t)
margin_alone (Pen run number c r) bytes P h is f t = absurd (false≢true t)
margin_alone (End run kind) bytes P h is f t = absurd (false≢true t)
margin_alone Bye bytes P h is f t = absurd (false≢true t)

pub plain_else : (e : Entry) → bytes_eq (first_word e) (codes "out") ≡ false → bytes_eq (first_word e) (codes "margin") ≡ false → IsPlain e
unfolding first_word
plain_else (Edit version) t u = tt
plain_else EditRange t u = tt
plain_else EditLong t u = tt
plain_else EditMany t u = tt
plain_else FieldOk t u = tt
plain_else (FieldBad line) t u = tt
plain_else (Run run version) t u = tt
plain_else RunBusy t u = tt
plain_else (Stop run) t u = tt
plain_else StopIdle t u = tt
plain_else Waited t u = tt
plain_else (Bad line) t u = tt
plain_else (Margin version margin) t u = false≢true (sym u)
plain_else (RefusedFaults run) t u = tt
plain_else (RefusedMain run) t u = tt
plain_else (Out run text) t u = false≢true (sym t)
plain_else (Robot run number c r) t u = tt
plain_else (Pen run number c r) t u = tt
plain_else (End run kind) t u = tt
plain_else Bye t u = tt

-- the words of a margin's line
pub margin_parts : (version : ℕ) (margin : List Mark) → IsNumber version → IsMargin margin → parts (entry_line (Margin version margin)) ≡ codes "margin" ∷ decimal version ∷ map mark_word margin
margin_parts version [] h k = ap (λ l. codes "margin" ∷ l) (ap parts (append-nil (decimal version)) ∙ last_number version h)
margin_parts version (m ∷ ms) h k =
    ap (λ l. codes "margin" ∷ l) (first_number version (mark_word m ++ printed_margin ms) h ∙ ap (λ l. decimal version ∷ l) (tails_same [] [] _ _ (margin_words (m ∷ ms) k)))

pub same_marks : (r : Option (List Mark)) (m n : List Mark) → r ≡ Some m → r ≡ Some n → m ≡ n
same_marks r m n p q = cc

-- a line has a word
pub some_part : (bs : List ℕ) → [] ≡ parts bs → ⊥
some_part bs e = let size : 0 ≡ length (parts bs) = ap length e in let more = length-slice_split (λ b. eqb b 32) bs in omega arith
