-- What adding a header says of the headers that count.
use Rattle.std.proofs.Common.{◌≡◌, ◌≢◌, ℕ, List, [], ◌∷◌, ◌++◌, Option, Some, None, map, refl, sym, ap, subst, cond, is_some, IsSome, ◌∙◌}
use Rattle.std.proofs.lemmas.List.{map-append}
use Rattle.std.specs.List.{AllByRecursion}
use Rattle.kumir_tree.specs.Parts.{head_of}
use Rattle.kumir_tree.specs.Sound.{IsSound, IsPlaced, IsUnitRead}
use Rattle.kumir_tree.specs.Unit.{Known}
use Rattle.kumir_tree.specs.Units.{placed_of, units_of}
use Rattle.kumir_tree.specs.declared.fault_codes.TheConstants.{NAME_TAKEN, WITHOUT_NAME}
use Rattle.kumir_tree.specs.declared.unit.PlacedUnit.{PlacedUnit}
use Rattle.kumir_tree.specs.declared.header.Header.{Header}
use Rattle.kumir_tree.specs.Part.{Head}
use Rattle.kumir_names.specs.Callees.{Callee}
use Rattle.type_rules.specs.Callees.{Callees, callee}
use Rattle.type_rules.specs.Headers.{HeaderList, callees_of, with_header, IsNameless, IsTaken, IsTakenName}
use Rattle.type_rules.specs.Counted.{head_fault, name_fault, nameless_fault, with_head}

-- each unit of a sound program stands at its place
all_placed : (units : List (ℕ × Known)) → AllByRecursion (λ u. IsUnitRead u.1 × IsPlaced u) units → AllByRecursion IsPlaced units
all_placed [] all = _
all_placed (u ∷ units) all = (all.0.1, all_placed units all.1)

pub sound_placed : (units : List (ℕ × Known)) → IsSound units → AllByRecursion IsPlaced units
sound_placed [] sound = absurd sound
sound_placed (u ∷ units) sound = (sound.1, all_placed units sound.2)

pub counts : (l : HeaderList) (h : Header) → callees_of (with_header l h) ≡ with_head (callees_of l) (head_of h)
counts l h = λ i. record { performers = l.performers; heads = map-append head_of l.headers (h ∷ []) i }

nothing_found : (found : Option (Callee Head)) → (IsSome found → ⊥) → cond {A = Option ℕ} (is_some found) (Some NAME_TAKEN) None ≡ None
nothing_found None none = refl
nothing_found (Some c) none = absurd (none refl)

something_found : (found : Option (Callee Head)) → IsSome found → cond {A = Option ℕ} (is_some found) (Some NAME_TAKEN) None ≡ Some NAME_TAKEN
something_found None some = cc
something_found (Some c) some = refl

first_of_all : (headers : List Header) → (headers ≢ [] → ⊥) → nameless_fault (map head_of headers) ≡ None
first_of_all [] none = refl
first_of_all (h ∷ headers) none = absurd (none (λ e. cc))

one_before : (headers : List Header) → headers ≢ [] → nameless_fault (map head_of headers) ≡ Some WITHOUT_NAME
one_before [] some = absurd (some refl)
one_before (h ∷ headers) some = refl

no_fault_of : (l : HeaderList) (own : Option (List ℕ)) → ((own ≡ None) × (l.headers ≢ []) → ⊥) → (IsTakenName (callees_of l) own → ⊥) → name_fault (callees_of l) own ≡ None
no_fault_of l None nameless taken = first_of_all l.headers (λ some. nameless (refl, some))
no_fault_of l (Some name) nameless taken = nothing_found (callee (callees_of l) name) taken

taken_of : (c : Callees) (own : Option (List ℕ)) → IsTakenName c own → name_fault c own ≡ Some NAME_TAKEN
taken_of c None taken = absurd taken
taken_of c (Some name) taken = something_found (callee c name) taken

pub gets_no_fault : (l : HeaderList) (h : Header) → (IsNameless l h → ⊥) → (IsTaken l h → ⊥) → head_fault (callees_of l) (head_of h) ≡ None
gets_no_fault l h nameless taken = no_fault_of l h.name nameless taken

pub gets_taken : (l : HeaderList) (h : Header) → IsTaken l h → head_fault (callees_of l) (head_of h) ≡ Some NAME_TAKEN
gets_taken l h taken = taken_of (callees_of l) h.name taken

pub gets_nameless : (l : HeaderList) (h : Header) → IsNameless l h → head_fault (callees_of l) (head_of h) ≡ Some WITHOUT_NAME
gets_nameless l h nameless = ap (name_fault (callees_of l)) nameless.0 ∙ one_before l.headers nameless.1

-- one more unit
all_more : (units : List (ℕ × Known)) (u : ℕ × Known) → AllByRecursion (λ v. IsUnitRead v.1 × IsPlaced v) units → IsUnitRead u.1 → IsPlaced u → AllByRecursion (λ v. IsUnitRead v.1 × IsPlaced v) (units ++ u ∷ [])
all_more [] u all read placed = ((read, placed), _)
all_more (v ∷ units) u all read placed = (all.0, all_more units u all.1 read placed)

sound_behind : (units : List (ℕ × Known)) (u : ℕ × Known) → IsSound units → IsUnitRead u.1 → IsPlaced u → IsSound (units ++ u ∷ [])
sound_behind [] u sound read placed = absurd sound
sound_behind (v ∷ units) u sound read placed = (sound.0, sound.1, all_more units u sound.2 read placed)

pub sound_more : (units new : List PlacedUnit) (u : PlacedUnit) → new ≡ units ++ u ∷ [] → IsSound (units_of units) → IsUnitRead (placed_of u).1 → IsPlaced (placed_of u) → IsSound (units_of new)
sound_more units new u e sound read placed = subst IsSound (sym (ap units_of e ∙ map-append placed_of units (u ∷ []))) (sound_behind (units_of units) (placed_of u) sound read placed)
