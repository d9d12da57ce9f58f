-- The unit with which the code of a program begins.
use Rattle.std.proofs.Common.{◌≡◌, ◌<◌, ◌≤◌, ℕ, arith, ap, get_or, length, List, [], ◌∷◌, map, Option, Some, None, refl, sym, ◌∙◌}
use Rattle.kumir_tree.specs.Part.{Formal}
use Rattle.kumir_meaning.specs.Program.{Placed, Program}
use Rattle.stack_code.specs.declared.unit.CodeUnit.{CodeUnit}
use Rattle.kumir_compiler.specs.Sites.{Site}
use Rattle.kumir_compiler.specs.UnitCode.{param_slots, unit_code, header_site}
use Rattle.kumir_compiler.specs.Code.{code_of, entry_of, entry_among, without_params}

none_among : (p : Program) (algorithms : List Placed) → [] ≡ map (unit_code p) algorithms → None ≡ entry_among algorithms
none_among p [] e = refl
none_among p (a ∷ more) e = absurd (let wrong : ⊥ = cc in wrong)

pub no_entry : (units : List CodeUnit) (p : Program) → length units < 1 → units ≡ code_of p → None ≡ entry_of p
unfolding code_of
no_entry [] p short e = none_among p p.algorithms e
no_entry (u ∷ units) p short e = absurd (let wrong : ⊥ = omega (arith, short) in wrong)

without : (params : List Formal) (t : Site) → param_slots params t ≡ [] → Some 0 ≡ without_params params
without [] t e = refl
without (q ∷ params) t e = absurd (let wrong : ⊥ = cc in wrong)

there_among : (p : Program) (algorithms : List Placed) (u : CodeUnit) (us : List CodeUnit) → (u ∷ us) ≡ map (unit_code p) algorithms → u.params ≡ [] → Some 0 ≡ entry_among algorithms
there_among p [] u us e none = absurd (let wrong : ⊥ = cc in wrong)
there_among p (a ∷ more) u us e none = without a.algorithm.head.params (header_site p a) (let same : param_slots a.algorithm.head.params (header_site p a) ≡ [] = cc in same)

pub entry_there : (units : List CodeUnit) (u : CodeUnit) (p : Program) → 1 ≤ length units → u ≡ get_or units 0 u → units ≡ code_of p → u.params ≡ [] → Some 0 ≡ entry_of p
unfolding code_of
entry_there [] u p some first e none = absurd (let wrong : ⊥ = omega (arith, some) in wrong)
entry_there (v ∷ units) u p some first e none = there_among p p.algorithms v units e (sym (ap (λ w. w.params) first) ∙ none)

with_some : (params : List Formal) (t : Site) → (param_slots params t ≡ [] → ⊥) → None ≡ without_params params
with_some [] t e = absurd (e refl)
with_some (q ∷ params) t e = refl

taken_among : (p : Program) (algorithms : List Placed) (u : CodeUnit) (us : List CodeUnit) → (u ∷ us) ≡ map (unit_code p) algorithms → (u.params ≡ [] → ⊥) → None ≡ entry_among algorithms
taken_among p [] u us e some = absurd (let wrong : ⊥ = cc in wrong)
taken_among p (a ∷ more) u us e some =
    with_some a.algorithm.head.params (header_site p a) (λ none. some (let same : u.params ≡ [] = cc in same))

pub entry_taken : (units : List CodeUnit) (u : CodeUnit) (p : Program) → 1 ≤ length units → u ≡ get_or units 0 u → units ≡ code_of p → (u.params ≡ [] → ⊥) → None ≡ entry_of p
unfolding code_of
entry_taken [] u p some first e params = absurd (let wrong : ⊥ = omega (arith, some) in wrong)
entry_taken (v ∷ units) u p some first e params = taken_among p p.algorithms v units e (λ none. params (ap (λ w. w.params) first ∙ none))
