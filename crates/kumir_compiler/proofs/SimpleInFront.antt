-- Statements without blocks that are put in front of others.
use Rattle.std.proofs.Common.{◌≡◌, ℕ, suc, ◌+◌, ◌-◌, ◌<◌, ◌≤◌, List, [], ◌∷◌, ◌++◌, length, map, drop, get_or, refl, sym, ap, ◌∙◌, arith, drop-cons}
use Rattle.kumir_tree.specs.Part.{Declares}
use Rattle.kumir_tree.specs.Program.{Declare}
use Rattle.kumir_names.specs.Variables.{declares}
use Rattle.kumir_meaning.specs.Store.{Local}
use Rattle.stack_code.specs.declared.instruction.Instruction.TheVariants as instruction
use Rattle.kumir_compiler.specs.Code as code
use Rattle.kumir_compiler.specs.Code.{Line, Code, on, slot, declares_code}
use Rattle.kumir_compiler.specs.declared.pending.PendingLine.{PendingLine}
use Rattle.kumir_compiler.specs.declared.site.Site.{Site}
use Rattle.kumir_compiler.specs.PendingCode.{code_of}
use Rattle.kumir_compiler.specs.SitesSeen.{with_locals}
use Rattle.kumir_compiler.specs.BlocksPut.{PutsClosed}
use Rattle.kumir_compiler.proofs.NamesBefore.{as_many}

abbrev pub clear : code.Site → List ℕ → Line
clear t x = on t (instruction.Clear (slot t (Local x)))

pub one_cleared : (t : code.Site) (names : List (List ℕ)) (at k n : ℕ) (x : List ℕ) (base old new : Code) → at ≡ suc k → k < length names → x ≡ get_or names k x → n ≡ slot t (Local x)
    → old ≡ map (clear t) (drop at names) ++ base → new ≡ on t (instruction.Clear n) ∷ old → new ≡ map (clear t) (drop k names) ++ base
one_cleared t names at k n x base old new e lt is found before own =
    own ∙ ap (λ m. on t (instruction.Clear m) ∷ old) found ∙ ap (λ l. clear t x ∷ l) (before ∙ ap (λ m. map (clear t) (drop m names) ++ base) e)
    ∙ ap (λ y. clear t y ∷ (map (clear t) (drop (suc k) names) ++ base)) is ∙ ap (λ l. map (clear t) l ++ base) (sym (drop-cons names k x lt))

pub declare_acts : (s : Site) (start hidden n : ℕ) (d : Declares) (old new : List PendingLine) → n ≡ length (declares d) → start ≡ s.locals - n → code_of new ≡ declares_code d (with_locals s start) hidden ++ code_of old
    → PutsClosed s start hidden (Declare d) old new
declare_acts s start hidden n d old new count is put = λ exit room ends.
    let le = as_many s (declares d) ends in
    record { names = omega (arith, count, is, le); code = put }
