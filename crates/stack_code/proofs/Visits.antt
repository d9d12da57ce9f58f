-- What the check of operands finds, place by place.
use Rattle.std.proofs.Common.{◌≡◌, ◌≢◌, ℕ, zero, suc, ◌+◌, ◌<◌, ◌≤◌, List, [], ◌∷◌, length, get_or, true, false, Option, Some, None, refl, sym, ap, ◌∙◌, subst, arith, ⊎_elim}
use Rattle.std.specs.Prelude.{slice_get, set, ◌⊎◌}
use Rattle.std.proofs.lemmas.Option.{slice_get_past}
use Rattle.stack_code.specs.declared.instruction.CodeLine.{CodeLine}
use Rattle.stack_code.specs.declared.unit.CodeUnit.{CodeUnit}
use Rattle.stack_code.specs.declared.flow.Met.{Met}
use Rattle.stack_code.specs.declared.flow.Met.TheVariants.{Same, New, Clash}
use Rattle.stack_code.specs.Operands.{Kinds, kinds_after, target_of}
use Rattle.stack_code.specs.Validity.{HasKinds, OnLine, OnTarget, Leads, next_of}
use Rattle.stack_code.specs.Checking.{Found, Meets, MeetsSome, kinds_at, unknown, Within, Finds, Kept, IsFollowed, Visits, VisitsAll, both, clashes}

-- where the right kinds of a place are known, they stand where its ways lead
leads : (units : List CodeUnit) (u : CodeUnit) (kinds : ℕ → Option Kinds) (place : ℕ) (here left : Kinds) (l : CodeLine)
    → HasKinds units u kinds → kinds place ≡ Some here → slice_get u.body place ≡ Some l → kinds_after units u l.what here ≡ Some left
    → OnTarget (next_of place l.what) (λ a. kinds a ≡ Some left) × OnTarget (target_of l.what) (λ a. kinds a ≡ Some left)
leads units u kinds place here left l h at line after =
    let on = subst (λ o. OnLine units u kinds place here o) line (h.goes_on place here at) in
    subst (λ o. Leads kinds place l.what o) after on.1

no_such : {P : Type 0} (kinds : Kinds) → None ≡ Some kinds → P
no_such kinds e = cc

same_kinds : (a b : Kinds) → Some a ≡ Some b → a ≡ b
same_kinds a b e = cc

-- a place that is set
set_grows : (found : Found) (place : ℕ) (kinds : Kinds) → place < length found → get_or found place None ≡ None
    → (k : ℕ) (known : Kinds) → kinds_at found k ≡ Some known → kinds_at (set found place (Some kinds)) k ≡ Some known
set_grows [] place kinds lt none k known e = absurd (omega (arith, lt))
set_grows (x ∷ found) zero kinds lt none zero known e = no_such known (sym none ∙ e)
set_grows (x ∷ found) zero kinds lt none (suc k) known e = e
set_grows (x ∷ found) (suc place) kinds lt none zero known e = e
set_grows (x ∷ found) (suc place) kinds lt none (suc k) known e = set_grows found place kinds (omega (arith, lt)) none k known e

set_fewer : (found : Found) (place : ℕ) (kinds : Kinds) → place < length found → get_or found place None ≡ None
    → suc (unknown (set found place (Some kinds))) ≡ unknown found
set_fewer [] place kinds lt none = absurd (omega (arith, lt))
set_fewer (None ∷ found) zero kinds lt none = refl
set_fewer (Some x ∷ found) zero kinds lt none = no_such x (sym none)
set_fewer (None ∷ found) (suc place) kinds lt none = ap suc (set_fewer found place kinds (omega (arith, lt)) none)
set_fewer (Some x ∷ found) (suc place) kinds lt none = set_fewer found place kinds (omega (arith, lt)) none

set_size : (found : Found) (place : ℕ) (x : Option Kinds) → length (set found place x) ≡ length found
set_size [] zero x = refl
set_size [] (suc place) x = refl
set_size (y ∷ found) zero x = refl
set_size (y ∷ found) (suc place) x = ap suc (set_size found place x)

set_within : (found : Found) (place : ℕ) (kinds : Kinds) (right : ℕ → Option Kinds) → right place ≡ Some kinds → Within found right → Within (set found place (Some kinds)) right
set_within [] zero kinds right at h k known e = h k known e
set_within [] (suc place) kinds right at h k known e = h k known e
set_within (x ∷ found) zero kinds right at h zero known e = at ∙ e
set_within (x ∷ found) zero kinds right at h (suc k) known e = h (suc k) known e
set_within (x ∷ found) (suc place) kinds right at h zero known e = h zero known e
set_within (x ∷ found) (suc place) kinds right at h (suc k) known e =
    set_within found place kinds (λ m. right (suc m)) at (λ m known1 e1. h (suc m) known1 e1) k known e

-- what one way met
met_new : (units : List CodeUnit) (u : CodeUnit) (old new : Found) (place : ℕ) (left : Kinds)
    → ((kinds : ℕ → Option Kinds) → HasKinds units u kinds → Within old kinds → kinds place ≡ Some left)
    → place < length old → get_or old place None ≡ None → new ≡ set old place (Some left) → Finds units u old new
met_new units u old new place left h lt none is = subst (λ f. Finds units u old f) (sym is) (
    record {
      size = set_size old place (Some left);
      grows = set_grows old place left lt none;
      within = λ kinds right w. set_within old place left kinds (h kinds right w) w;
      fewer = (let e = set_fewer old place left lt none in omega (arith, e));
    }
    )

past_end : (units : List CodeUnit) (u : CodeUnit) (kinds : ℕ → Option Kinds) (place : ℕ) (left : Kinds) → HasKinds units u kinds → kinds place ≡ Some left → length u.body ≤ place → ⊥
past_end units u kinds place left h at le = subst (λ o. OnLine units u kinds place left o) (slice_get_past u.body place le) (h.goes_on place left at)

met_kept : (units : List CodeUnit) (u : CodeUnit) (old new : Found) (o : Option ℕ) (left : Kinds) (met : Met) → length old ≡ length u.body
    → ((kinds : ℕ → Option Kinds) → HasKinds units u kinds → Within old kinds → OnTarget o (λ a. kinds a ≡ Some left))
    → MeetsSome old o left met new → Kept units u old met new
met_kept units u old new None left Same size h m = m
met_kept units u old new None left New size h m = absurd m
met_kept units u old new None left Clash size h m = absurd m
met_kept units u old new (Some place) left Same size h m = m.0
met_kept units u old new (Some place) left New size h m = met_new units u old new place left h m.0 m.1 m.2
met_kept units u old new (Some place) left Clash size h m = λ kinds right w.
    ⊎_elim
    (λ le. past_end units u kinds place left right (h kinds right w) (omega (arith, le, size)))
    (λ other. other.2 (same_kinds other.0 left (sym (w place other.0 other.1) ∙ h kinds right w)))
    m.1

still_within : (units : List CodeUnit) (u : CodeUnit) (old mid : Found) (met : Met) (kinds : ℕ → Option Kinds) → met ≢ Clash → Kept units u old met mid → Within mid kinds → Within old kinds
still_within units u old mid Same kinds fine k w = subst (λ f. Within f kinds) k w
still_within units u old mid New kinds fine k w = λ place known e. w place known (k.grows place known e)
still_within units u old mid Clash kinds fine k w = absurd (fine refl)

pub both_kept : (units : List CodeUnit) (u : CodeUnit) (old mid new : Found) (first second : Met) → first ≢ Clash → Kept units u old first mid → Kept units u mid second new → Kept units u old (both first second) new
both_kept units u old mid new Same second fine a b = subst (λ f. Kept units u f second new) a b
both_kept units u old mid new New Same fine a b = subst (λ f. Finds units u old f) (sym b) a
both_kept units u old mid new New New fine a b =
    record {
      size = b.size ∙ a.size;
      grows = λ place known e. b.grows place known (a.grows place known e);
      within = λ kinds right w. b.within kinds right (a.within kinds right w);
      fewer = (let x = a.fewer in let y = b.fewer in omega (arith, x, y));
    }
both_kept units u old mid new New Clash fine a b = λ kinds right w. b kinds right (a.within kinds right w)
both_kept units u old mid new Clash second fine a b = absurd (fine refl)

pub kept_size : (units : List CodeUnit) (u : CodeUnit) (old new : Found) (met : Met) → met ≢ Clash → Kept units u old met new → length new ≡ length old
kept_size units u old new Same fine k = ap length k
kept_size units u old new New fine k = k.size
kept_size units u old new Clash fine k = absurd (fine refl)

both_same : (first second : Met) → both first second ≡ Same → (first ≡ Same) × (second ≡ Same)
both_same Same second e = (refl, e)
both_same New Same e = absurd (let z = e in cc)
both_same New New e = absurd (let z = e in cc)
both_same New Clash e = absurd (let z = e in cc)
both_same Clash second e = absurd (let z = e in cc)

-- a way that met the same kinds
known_there : (old new : Found) (o : Option ℕ) (left : Kinds) (met : Met) → met ≡ Same → MeetsSome old o left met new → OnTarget o (λ a. kinds_at old a ≡ Some left)
known_there old new None left met e m = tt
known_there old new (Some place) left met e m = (subst (λ x. Meets old place left x new) e m).1

unmoved : (old new : Found) (o : Option ℕ) (left : Kinds) (met : Met) → met ≡ Same → MeetsSome old o left met new → new ≡ old
unmoved old new None left met e m = subst (λ x. MeetsSome old None left x new) e m
unmoved old new (Some place) left met e m = (subst (λ x. Meets old place left x new) e m).0

-- nothing is known at the place
pub nothing_there : (units : List CodeUnit) (u : CodeUnit) (place : ℕ) (old : Found) → kinds_at old place ≡ None → Visits units u place old Same old
nothing_there units u place old none = record { kept = refl; followed = λ e known at. no_such known (sym none ∙ at) }

-- too many operands, or not those that are needed
pub wrong_here : (units : List CodeUnit) (u : CodeUnit) (place : ℕ) (old new : Found) (here : Kinds) (l : CodeLine) → kinds_at old place ≡ Some here → slice_get u.body place ≡ Some l
    → (u.depth < length here) ⊎ (kinds_after units u l.what here ≡ None) → Visits units u place old Clash new
wrong_here units u place old new here l at line wrong = record {
  kept = λ kinds right w.
      let on = subst (λ o. OnLine units u kinds place here o) line (right.goes_on place here (w place here at)) in
      ⊎_elim (λ deep. absurd (let le = on.0 in omega (arith, deep, le))) (λ none. subst (λ o. Leads kinds place l.what o) none on.1) wrong;
  followed = λ e. absurd (let z = e in cc);
}

pub first_clash : (units : List CodeUnit) (u : CodeUnit) (place : ℕ) (old new : Found) (here left : Kinds) (l : CodeLine) (first : Met) → length old ≡ length u.body
    → kinds_at old place ≡ Some here → slice_get u.body place ≡ Some l → kinds_after units u l.what here ≡ Some left
    → MeetsSome old (next_of place l.what) left first new → first ≡ Clash → Visits units u place old Clash new
first_clash units u place old new here left l first size at line after m clash = record {
  kept = subst (λ x. Kept units u old x new) clash (met_kept units u old new (next_of place l.what) left first size (λ kinds right w. (leads units u kinds place here left l right (w place here at) line after).0) m);
  followed = λ e. absurd (let z = e in cc);
}

pub visited : (units : List CodeUnit) (u : CodeUnit) (place : ℕ) (old mid new : Found) (here left : Kinds) (l : CodeLine) (first second : Met) → length old ≡ length u.body
    → kinds_at old place ≡ Some here → slice_get u.body place ≡ Some l → length here ≤ u.depth → kinds_after units u l.what here ≡ Some left
    → MeetsSome old (next_of place l.what) left first mid → first ≢ Clash → MeetsSome mid (target_of l.what) left second new
    → Visits units u place old (both first second) new
visited units u place old mid new here left l first second size at line deep after m fine n = record { kept = all_kept; followed = followed }
  where
    one : Kept units u old first mid
    one = met_kept units u old mid (next_of place l.what) left first size (λ kinds right w. (leads units u kinds place here left l right (w place here at) line after).0) m

    two : Kept units u mid second new
    two =
        met_kept units u mid new (target_of l.what) left second (kept_size units u old mid first fine one ∙ size)
        (λ kinds right w. (leads units u kinds place here left l right (still_within units u old mid first kinds fine one w place here at) line after).1) n

    all_kept : Kept units u old (both first second) new
    all_kept = both_kept units u old mid new first second fine one two

    followed : both first second ≡ Same → IsFollowed units u old place
    followed e known there =
        let s = both_same first second e in
        let is : here ≡ known = same_kinds here known (sym at ∙ there) in
        let to_next = known_there old mid (next_of place l.what) left first s.0 m in
        let to_target = subst (λ f. OnTarget (target_of l.what) (λ a. kinds_at f a ≡ Some left)) (unmoved old mid (next_of place l.what) left first s.0 m) (known_there mid new (target_of l.what) left second s.1 n) in
        subst (λ k. OnLine units u (kinds_at old) place k (slice_get u.body place)) is
        (subst (λ o. OnLine units u (kinds_at old) place here o) (sym line) (deep, subst (λ o. Leads (kinds_at old) place l.what o) (sym after) (to_next, to_target)))

pub not_clash : (met : Met) → clashes met ≡ false → met ≢ Clash
not_clash Same e h = absurd (let z = h in cc)
not_clash New e h = absurd (let z = h in cc)
not_clash Clash e h = absurd (let z = e in cc)

pub is_clash : (met : Met) → clashes met ≡ true → met ≡ Clash
is_clash Same e = absurd (let z = e in cc)
is_clash New e = absurd (let z = e in cc)
is_clash Clash e = refl

-- place after place
pub turned : (units : List CodeUnit) (u : CodeUnit) (old mid new : Found) (place : ℕ) (so_far met : Met) → so_far ≢ Clash
    → Kept units u old so_far mid → (so_far ≡ Same → (k : ℕ) → k < place → IsFollowed units u old k) → Visits units u place mid met new
    → Kept units u old (both so_far met) new × (both so_far met ≡ Same → (k : ℕ) → k < place + 1 → IsFollowed units u old k)
turned units u old mid new place so_far met fine kept before v = (both_kept units u old mid new so_far met fine kept v.kept, after)
  where
    after : both so_far met ≡ Same → (k : ℕ) → k < place + 1 → IsFollowed units u old k
    after e k lt =
        let s = both_same so_far met e in
        let same : mid ≡ old = subst (λ x. Kept units u old x mid) s.0 kept in
        let below : (k < place) ⊎ (k ≡ place) = grind (arith, lt) in
        ⊎_elim
        (λ less. before s.0 k less)
        (λ at. subst (λ m. IsFollowed units u old m) (sym at) (subst (λ f. IsFollowed units u f place) same (v.followed s.1)))
        below

pub not_both : (a b : Met) → a ≢ Clash → b ≢ Clash → both a b ≢ Clash
not_both Same b f g = g
not_both New Same f g = f
not_both New New f g = f
not_both New Clash f g = absurd (g refl)
not_both Clash b f g = f

pub clashed : (units : List CodeUnit) (u : CodeUnit) (old mid new : Found) (place : ℕ) (so_far met : Met) → so_far ≢ Clash
    → Kept units u old so_far mid → Visits units u place mid met new → met ≡ Clash → VisitsAll units u old Clash new
clashed units u old mid new place so_far met fine kept v is = record {
  kept = subst (λ x. Kept units u old x new) (to_clash so_far fine) (both_kept units u old mid new so_far Clash fine kept (subst (λ x. Kept units u mid x new) is v.kept));
  followed = λ e. absurd (let z = e in cc);
}
  where
    to_clash : (m : Met) → m ≢ Clash → both m Clash ≡ Clash
    to_clash Same f = refl
    to_clash New f = refl
    to_clash Clash f = refl

past_none : (found : Found) (k : ℕ) → length found ≤ k → get_or found k None ≡ None
past_none [] k le = refl
past_none (x ∷ found) zero le = absurd (omega (arith, le))
past_none (x ∷ found) (suc k) le = past_none found k (omega (arith, le))

pub all_visited : (units : List CodeUnit) (u : CodeUnit) (old new : Found) (place : ℕ) (so_far : Met) → length old ≡ length u.body → length u.body ≤ place
    → Kept units u old so_far new → (so_far ≡ Same → (k : ℕ) → k < place → IsFollowed units u old k) → VisitsAll units u old so_far new
all_visited units u old new place so_far size le kept before = record { kept = kept; followed = after }
  where
    after : so_far ≡ Same → (k : ℕ) → IsFollowed units u old k
    after e k known at =
        let split : (k < place) ⊎ (length old ≤ k) = grind (arith, le, size) in
        ⊎_elim (λ lt. before e k lt known at) (λ far. no_such known (sym (past_none old k far) ∙ at)) split

-- the last pass found nothing new: the kinds that are known are right
pub all_right : (units : List CodeUnit) (u : CodeUnit) (found new : Found) → kinds_at found 0 ≡ Some [] → VisitsAll units u found Same new → HasKinds units u (kinds_at found)
all_right units u found new first v = record { begins = first; goes_on = λ place known at. v.followed refl place known at }

pub none_right : (units : List CodeUnit) (u : CodeUnit) (found new : Found) → ((kinds : ℕ → Option Kinds) → HasKinds units u kinds → Within found kinds) → VisitsAll units u found Clash new → (kinds : ℕ → Option Kinds) → HasKinds units u kinds → ⊥
none_right units u found new within v kinds right = v.kept kinds right (within kinds right)

-- before the first pass: the first place has no operands
pub begun_within : (units : List CodeUnit) (u : CodeUnit) (found : Found) → ((k : ℕ) → kinds_at found k ≡ None) → (kinds : ℕ → Option Kinds) → HasKinds units u kinds → Within (set found 0 (Some [])) kinds
begun_within units u found none kinds right = set_within found 0 [] kinds right.begins (λ k known e. no_such known (sym (none k) ∙ e))

pub begun_first : (found : Found) → 0 < length found → kinds_at (set found 0 (Some [])) 0 ≡ Some []
begun_first [] lt = absurd (omega (arith, lt))
begun_first (x ∷ found) lt = refl
