-- How the check of code answers.
use Rattle.std.specs.Prelude.{◌≡◌, ◌≢◌, ◌⊎◌, ℕ, suc, ◌<◌, ◌≤◌, Bool, true, false, List, [], ◌∷◌, length, get_or, set, slice_get, Option, Some, None}
use Rattle.stack_code.specs.declared.instruction.Instruction.{Instruction}
use Rattle.stack_code.specs.declared.instruction.Instruction.TheVariants.{Push, Load, Store, Elem, PutElem, Probe, Make, Fit, Input, Call}
use Rattle.stack_code.specs.declared.flow.Met.{Met}
use Rattle.stack_code.specs.declared.flow.Met.TheVariants.{Same, New, Clash}
use Rattle.stack_code.specs.declared.unit.CodeUnit.{CodeUnit}
use Rattle.stack_code.specs.Operands.{Kinds}
use Rattle.stack_code.specs.Validity.{HasKinds, OnLine}

-- what a check of operands answered and left
abbrev pub Applies : Bool → Option Kinds → Kinds → Type 0
Applies true after new = after ≡ Some new
Applies false after new = after ≡ None

-- what an instruction does to the operands needs no look at slots, units or numbers of indexes
abbrev pub is_plain : Instruction → Bool
is_plain (Push v) = false
is_plain (Load x) = false
is_plain (Store x) = false
is_plain (Elem x d) = false
is_plain (PutElem x d) = false
is_plain (Probe x d) = false
is_plain (Make x k d) = false
is_plain (Fit x d) = false
is_plain (Input k) = false
is_plain (Call u places) = false
is_plain i = true

-- ---- the kinds that ways have found so far
abbrev pub Found : Type 0
Found = List (Option Kinds)

abbrev pub AllUnknown : ℕ → Found → Type 0
AllUnknown count found = (length found ≡ count) × ((place : ℕ) → get_or found place None ≡ None)

-- a way leads to a place with these kinds: they are there already, or none are, or the place is not there or has others
abbrev pub Meets : Found → ℕ → Kinds → Met → Found → Type 0
Meets old place kinds Same new = (new ≡ old) × (get_or old place None ≡ Some kinds)
Meets old place kinds New new = (place < length old) × (get_or old place None ≡ None) × (new ≡ set old place (Some kinds))
Meets old place kinds Clash new = (new ≡ old) × ((length old ≤ place) ⊎ ((other : Kinds) × (get_or old place None ≡ Some other) × (other ≢ kinds)))

abbrev pub MeetsSome : Found → Option ℕ → Kinds → Met → Found → Type 0
MeetsSome old None kinds Same new = new ≡ old
MeetsSome old None kinds New new = ⊥
MeetsSome old None kinds Clash new = ⊥
MeetsSome old (Some place) kinds met new = Meets old place kinds met new

abbrev pub kinds_at : Found → ℕ → Option Kinds
kinds_at found place = get_or found place None

-- how many places are not known
abbrev pub unknown : Found → ℕ
unknown [] = 0
unknown (None ∷ found) = suc (unknown found)
unknown (Some kinds ∷ found) = unknown found

-- what was found holds of every right list of kinds
abbrev pub Within : Found → (ℕ → Option Kinds) → Type 0
Within found kinds = (place : ℕ) (known : Kinds) → kinds_at found place ≡ Some known → kinds place ≡ Some known

-- more was found, of what every right list of kinds has
pub record Finds (units : List CodeUnit) (u : CodeUnit) (old new : Found) : Type 0 where
  pub size : length new ≡ length old
  pub grows : (place : ℕ) (known : Kinds) → kinds_at old place ≡ Some known → kinds_at new place ≡ Some known
  pub within : (kinds : ℕ → Option Kinds) → HasKinds units u kinds → Within old kinds → Within new kinds
  pub fewer : unknown new < unknown old

-- nothing new was found, or something, or there are no right kinds
abbrev pub Kept : List CodeUnit → CodeUnit → Found → Met → Found → Type 0
Kept units u old Same new = new ≡ old
Kept units u old New new = Finds units u old new
Kept units u old Clash new = (kinds : ℕ → Option Kinds) → HasKinds units u kinds → Within old kinds → ⊥

-- from a place with known kinds the ways go on to places with known kinds
abbrev pub IsFollowed : List CodeUnit → CodeUnit → Found → ℕ → Type 0
IsFollowed units u found place = (known : Kinds) → kinds_at found place ≡ Some known → OnLine units u (kinds_at found) place known (slice_get u.body place)

pub record Visits (units : List CodeUnit) (u : CodeUnit) (place : ℕ) (old : Found) (met : Met) (new : Found) : Type 0 where
  pub kept : Kept units u old met new
  pub followed : met ≡ Same → IsFollowed units u old place

pub record VisitsAll (units : List CodeUnit) (u : CodeUnit) (old : Found) (met : Met) (new : Found) : Type 0 where
  pub kept : Kept units u old met new
  pub followed : met ≡ Same → (place : ℕ) → IsFollowed units u old place

abbrev pub clashes : Met → Bool
clashes Same = false
clashes New = false
clashes Clash = true

abbrev pub both : Met → Met → Met
both Same met = met
both New Same = New
both New New = New
both New Clash = Clash
both Clash met = Clash
