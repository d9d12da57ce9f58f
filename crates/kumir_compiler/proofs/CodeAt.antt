-- Code that stands in a body, from one place to another.
use Rattle.std.proofs.Common.{◌≡◌, ℕ, ◌+◌, ◌<◌, List, [], ◌∷◌, ◌++◌, length, Some, refl, ap, ◌∙◌, subst, arith, append_assoc, length-append}
use Rattle.std.specs.Prelude.{slice_get}
use Rattle.std.proofs.Math.Seq.{get_or-append_seam}
use Rattle.std.proofs.lemmas.Option.{slice_get-get_or}
use Rattle.stack_code.specs.declared.instruction.CodeLine.{CodeLine}
use Rattle.kumir_compiler.specs.Code.{Code, placed}

abbrev pub IsCodeAt : List CodeLine → ℕ → Code → ℕ → Type 0
IsCodeAt body at [] end = at ≡ end
IsCodeAt body at (l ∷ ls) end = (slice_get body at ≡ Some (l at)) × IsCodeAt body (at + 1) ls end

pub parts : (body : List CodeLine) (at : ℕ) (a b : Code) (end : ℕ) → IsCodeAt body at (a ++ b) end → (mid : ℕ) × IsCodeAt body at a mid × IsCodeAt body mid b end
parts body at [] b end h = (at, refl, h)
parts body at (l ∷ a) b end h = let x = parts body (at + 1) a b end h.1 in (x.0, (h.0, x.1), x.2)

pub spans : (body : List CodeLine) (at : ℕ) (a : Code) (end : ℕ) → IsCodeAt body at a end → end ≡ at + length a
spans body at [] end h = omega arith
spans body at (l ∷ a) end h = let x = spans body (at + 1) a end h.1 in omega arith

-- all lines that are placed behind others
code_behind : (code : Code) (pre : List CodeLine) → IsCodeAt (pre ++ placed (length pre) code) (length pre) code (length pre + length code)
code_behind [] pre = omega arith
code_behind (l ∷ ls) pre =
    let line : CodeLine = l (length pre) in
    let more : List CodeLine = placed (length pre + 1) ls in
    let within : length pre < length (pre ++ line ∷ more) = omega (arith, length-append pre (line ∷ more)) in
    let here = slice_get-get_or (pre ++ line ∷ more) (length pre) line within ∙ ap Some (get_or-append_seam pre line more line) in
    let n : length (pre ++ line ∷ []) ≡ length pre + 1 = omega (arith, length-append pre (line ∷ [])) in
    let rest = code_behind ls (pre ++ line ∷ []) in
    let rest1 = subst (λ m. IsCodeAt ((pre ++ line ∷ []) ++ placed m ls) m ls (m + length ls)) n rest in
    let rest2 = subst (λ l1. IsCodeAt l1 (length pre + 1) ls (length pre + 1 + length ls)) (append_assoc pre (line ∷ []) more) rest1 in
    let e : length pre + 1 + length ls ≡ length pre + length (l ∷ ls) = omega arith in
    (here, subst (λ m. IsCodeAt (pre ++ line ∷ more) (length pre + 1) ls m) e rest2)

pub code_from_start : (code : Code) → IsCodeAt (placed 0 code) 0 code (length code)
code_from_start code = let e : 0 + length code ≡ length code = omega arith in subst (λ m. IsCodeAt (placed 0 code) 0 code m) e (code_behind code [])
