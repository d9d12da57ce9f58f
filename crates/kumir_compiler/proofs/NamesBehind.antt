-- The names that are local at the header of an algorithm, and those behind its body.
use Rattle.std.proofs.Common.{◌≡◌, ◌≤◌, ℕ, ◌+◌, ◌-◌, List, [], ◌∷◌, ◌++◌, length, map, take, refl, sym, ap, ◌∙◌, subst, arith, length-append}
use Rattle.std.proofs.lemmas.List.{length-map}
use Rattle.std.proofs.Math.Seq.{take-append_seam, take-length}
use Rattle.kumir_tree.specs.Part.{Formal}
use Rattle.kumir_tree.specs.Parts.{formal_of}
use Rattle.kumir_tree.specs.Program.{Block}
use Rattle.kumir_tree.specs.declared.header.Param.{Param}
use Rattle.kumir_names.specs.Variables.{Names, parameter, parameters}
use Rattle.kumir_meaning.specs.Program.{Placed, block_names}
use Rattle.kumir_compiler.specs.StatementCode.{block_code}
use Rattle.kumir_compiler.specs.declared.pending.PendingLine.{PendingLine}
use Rattle.kumir_compiler.specs.declared.site.Site.{Site}
use Rattle.kumir_compiler.specs.PendingCode.{code_of}
use Rattle.kumir_compiler.specs.SitesSeen.{site_of, with_locals, EndsWith}
use Rattle.kumir_compiler.specs.BlocksPut.{PutsBlock}
use Rattle.kumir_compiler.specs.UnitsSeen.{unit_names, IsAtHeader}

-- the parameters stand first
first_names : (params : List Formal) (b : Block) → take (length params) (parameters params ++ block_names b) ≡ parameters params
first_names params b =
    ap (λ n. take n (parameters params ++ block_names b)) (sym (length-map params parameter)) ∙ take-append_seam (parameters params) (block_names b)

pub parameters_first : (ps : List Param) (b : Block) (names : Names) → names ≡ parameters (map formal_of ps) ++ block_names b → take (length ps) names ≡ parameters (map formal_of ps)
parameters_first ps b names e =
    ap (take (length ps)) e ∙ ap (λ n. take n (parameters (map formal_of ps) ++ block_names b)) (sym (length-map ps formal_of)) ∙ first_names (map formal_of ps) b

-- ---- the body

abbrev behind : Site → Site
behind s = record s { locals = length s.names.now }

ends_with : (s : Site) (a : Placed) → IsAtHeader s a → EndsWith (behind s) (block_names a.algorithm.body)
ends_with s a at = record {
  front = parameters a.algorithm.head.params;
  ends = take-length s.names.now ∙ at.names;
  within = let same : length s.names.now ≤ length s.names.now = omega arith in same;
}

counted : (s : Site) (a : Placed) (start : ℕ) → IsAtHeader s a → start + length (block_names a.algorithm.body) ≡ length s.names.now → start ≡ s.locals
counted s a start at e =
    let all = ap length at.names ∙ length-append (parameters a.algorithm.head.params) (block_names a.algorithm.body) in
    let params = length-map a.algorithm.head.params parameter in
    let own = at.locals in
    omega (arith, e, all, params, own)

pub block_made : (s : Site) (a : Placed) (start : ℕ) (old new : List PendingLine) → IsAtHeader s a
    → PutsBlock (behind s) start 0 (length old) a.algorithm.body old new → code_of new ≡ block_code a.algorithm.body (site_of s) 0 0 ++ code_of old
block_made s a start old new at puts =
    let made = puts (let same : length old ≤ length old = omega arith in same) (ends_with s a at) in
    let none : length old - length old ≡ 0 = omega arith in
    made.code
    ∙ ap (λ n. block_code a.algorithm.body (with_locals s n) 0 (length old - length old) ++ code_of old) (counted s a start at made.names)
    ∙ ap (λ n. block_code a.algorithm.body (site_of s) 0 n ++ code_of old) none
