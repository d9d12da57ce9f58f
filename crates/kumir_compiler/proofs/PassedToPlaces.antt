-- What is passed at a call beside the places of the code.
use Rattle.std.proofs.Common.{◌≡◌, ℕ, ◌+◌, ◌<◌, ◌≤◌, true, List, [], ◌∷◌, ◌++◌, length, Option, Some, None, refl, ◌∙◌, arith, append-nil}
use Rattle.std.specs.Prelude.{ℤ}
use Rattle.kumir_tree.specs.declared.kind.Mode.{Mode}
use Rattle.kumir_tree.specs.declared.kind.Mode.TheVariants.{Arg, Res, ArgRes}
use Rattle.kumir_tree.specs.Tree.{Trees, no_trees, ◌then◌}
use Rattle.kumir_tree.specs.Part.{Formal}
use Rattle.kumir_values.specs.declared.value.Value.{Value}
use Rattle.kumir_meaning.specs.Operators.{number_of}
use Rattle.kumir_meaning.specs.Store.{CellName, Local, Has, Spot, AtVariable, AtElement}
use Rattle.kumir_meaning.specs.Expressions.{Passed, ByValue, ByPlace, ByTable, numbers_of}
use Rattle.stack_code.specs.declared.instruction.CallPlace.{CallPlace}
use Rattle.stack_code.specs.declared.instruction.CallPlace.TheVariants as place
use Rattle.stack_code.specs.CodeState.{Slots, Plain}
use Rattle.kumir_compiler.specs.Code.{position, keeps}
use Rattle.kumir_compiler.proofs.Variables.{is_among}
use Rattle.kumir_compiler.proofs.Operands.{onto}

-- the indexes stand in these slots, which are among the first D hidden ones behind n variables
abbrev pub Indexed : ℕ → ℕ → Slots → List ℤ → List ℕ → Type 0
Indexed n D h [] [] = Unit {0}
Indexed n D h [] (x ∷ at) = ⊥
Indexed n D h (z ∷ zs) [] = ⊥
Indexed n D h (z ∷ zs) (x ∷ at) = ((i : ℕ) × (v : Value) × (x ≡ n + i) × (i < D) × (h i ≡ Plain (Has v)) × (number_of v ≡ z)) × Indexed n D h zs at

pub indexed_more : (n D E : ℕ) (h h1 : Slots) (zs : List ℤ) (at : List ℕ) → D ≤ E → ((i : ℕ) → i < D → h1 i ≡ h i) → Indexed n D h zs at → Indexed n E h1 zs at
indexed_more n D E h h1 [] [] le agree x = tt
indexed_more n D E h h1 [] (y ∷ at) le agree x = absurd x
indexed_more n D E h h1 (z ∷ zs) [] le agree x = absurd x
indexed_more n D E h h1 (z ∷ zs) (y ∷ at) le agree x =
    let below : x.0.0 < D = x.0.3 in
    let below1 : x.0.0 < E = omega arith in
    ((x.0.0, x.0.1, x.0.2, below1, agree x.0.0 below ∙ x.0.4, x.0.5), indexed_more n D E h h1 zs at le agree x.1)

abbrev pub SpotAt : List CellName → ℕ → Slots → Spot → CallPlace → Type 0
SpotAt names D h (AtVariable x) place.Value = ⊥
SpotAt names D h (AtVariable x) (place.Slot j) = (j ≡ position names x) × (is_among names x ≡ true)
SpotAt names D h (AtVariable x) (place.Element j at) = ⊥
SpotAt names D h (AtVariable x) (place.Table j) = ⊥
SpotAt names D h (AtElement x index) place.Value = ⊥
SpotAt names D h (AtElement x index) (place.Slot j) = ⊥
SpotAt names D h (AtElement x index) (place.Element j at) = (j ≡ position names (Local x)) × (is_among names (Local x) ≡ true) × Indexed (length names) D h index at
SpotAt names D h (AtElement x index) (place.Table j) = ⊥

abbrev pub Filled : Mode → Option Value → Type 0
Filled Arg v = ⊥
Filled Res None = Unit {0}
Filled Res (Some v) = ⊥
Filled ArgRes None = ⊥
Filled ArgRes (Some v) = Unit {0}

abbrev pub Matches : Mode → List CellName → ℕ → Slots → Passed → CallPlace → Type 0
Matches mode names D h (ByValue v) place.Value = Unit {0}
Matches mode names D h (ByValue v) (place.Slot j) = ⊥
Matches mode names D h (ByValue v) (place.Element j at) = ⊥
Matches mode names D h (ByValue v) (place.Table j) = ⊥
Matches mode names D h (ByPlace spot v) pl = SpotAt names D h spot pl × Filled mode v
Matches mode names D h (ByTable x) place.Value = ⊥
Matches mode names D h (ByTable x) (place.Slot j) = ⊥
Matches mode names D h (ByTable x) (place.Element j at) = ⊥
Matches mode names D h (ByTable x) (place.Table j) = (j ≡ position names (Local x)) × (is_among names (Local x) ≡ true)

abbrev pub MatchAll : List CellName → ℕ → Slots → List Formal → List Passed → List CallPlace → Type 0
MatchAll names D h params [] [] = Unit {0}
MatchAll names D h params [] (pl ∷ pls) = ⊥
MatchAll names D h params (a ∷ passed) [] = ⊥
MatchAll names D h [] (a ∷ passed) (pl ∷ pls) = ⊥
MatchAll names D h (p ∷ params) (a ∷ passed) (pl ∷ pls) = Matches p.mode names D h a pl × MatchAll names D h params passed pls

spot_more : (names : List CellName) (D E : ℕ) (h h1 : Slots) (spot : Spot) (pl : CallPlace) → D ≤ E → ((i : ℕ) → i < D → h1 i ≡ h i) → SpotAt names D h spot pl → SpotAt names E h1 spot pl
spot_more names D E h h1 (AtVariable x) place.Value le agree at = at
spot_more names D E h h1 (AtVariable x) (place.Slot j) le agree at = at
spot_more names D E h h1 (AtVariable x) (place.Element j is) le agree at = at
spot_more names D E h h1 (AtVariable x) (place.Table j) le agree at = at
spot_more names D E h h1 (AtElement x index) place.Value le agree at = at
spot_more names D E h h1 (AtElement x index) (place.Slot j) le agree at = at
spot_more names D E h h1 (AtElement x index) (place.Element j is) le agree at = (at.0, at.1, indexed_more (length names) D E h h1 index is le agree at.2)
spot_more names D E h h1 (AtElement x index) (place.Table j) le agree at = at

pub matches_more : (mode : Mode) (names : List CellName) (D E : ℕ) (h h1 : Slots) (a : Passed) (pl : CallPlace) → D ≤ E → ((i : ℕ) → i < D → h1 i ≡ h i) → Matches mode names D h a pl → Matches mode names E h1 a pl
matches_more mode names D E h h1 (ByValue v) place.Value le agree at = at
matches_more mode names D E h h1 (ByValue v) (place.Slot j) le agree at = at
matches_more mode names D E h h1 (ByValue v) (place.Element j is) le agree at = at
matches_more mode names D E h h1 (ByValue v) (place.Table j) le agree at = at
matches_more mode names D E h h1 (ByPlace spot v) pl le agree at = (spot_more names D E h h1 spot pl le agree at.0, at.1)
matches_more mode names D E h h1 (ByTable x) place.Value le agree at = at
matches_more mode names D E h h1 (ByTable x) (place.Slot j) le agree at = at
matches_more mode names D E h h1 (ByTable x) (place.Element j is) le agree at = at
matches_more mode names D E h h1 (ByTable x) (place.Table j) le agree at = at

-- the values that are pushed
abbrev pub pushed : Passed → List Value
pushed (ByValue v) = v ∷ []
pushed (ByPlace spot None) = []
pushed (ByPlace spot (Some v)) = v ∷ []
pushed (ByTable x) = []

abbrev pub all_pushed : List Passed → List Value
all_pushed [] = []
all_pushed (a ∷ passed) = pushed a ++ all_pushed passed

pub onto_both : (xs ys stack : List Value) → onto (xs ++ ys) stack ≡ onto ys (onto xs stack)
onto_both [] ys stack = refl
onto_both (v ∷ xs) ys stack = onto_both xs ys (v ∷ stack)

-- how many hidden slots the places of arguments keep
abbrev pub all_keep : Trees → List Formal → ℕ
all_keep no_trees params = 0
all_keep (e then es) [] = 0
all_keep (e then es) (p ∷ params) = keeps p.bounds p.mode e + all_keep es params

-- the numbers of values from the top
abbrev pub back : List Value → List ℤ → List ℤ
back [] zs = zs
back (v ∷ vs) zs = back vs (number_of v ∷ zs)

back_onto : (vs stack : List Value) (zs : List ℤ) → back (onto vs stack) zs ≡ back stack (numbers_of vs ++ zs)
back_onto [] stack zs = refl
back_onto (v ∷ vs) stack zs = back_onto vs (v ∷ stack) zs

pub back_numbers : (vs : List Value) → back (onto vs []) [] ≡ numbers_of vs
back_numbers vs = back_onto vs [] [] ∙ append-nil (numbers_of vs)

pub onto_split : (vs top stack : List Value) → onto vs (top ++ stack) ≡ onto vs top ++ stack
onto_split [] top stack = refl
onto_split (v ∷ vs) top stack = onto_split vs (v ∷ top) stack

pub onto_length : (vs stack : List Value) → length (onto vs stack) ≡ length vs + length stack
onto_length [] stack = omega arith
onto_length (v ∷ vs) stack = let e = onto_length vs (v ∷ stack) in omega arith
