-- What an algorithm begins with, and what comes back at its return.
use Rattle.std.proofs.Common.{◌≡◌, ℕ, ◌+◌, Bool, true, false, cond, List, [], ◌∷◌, ◌++◌, length, map, Option, Some, None, Result, Ok, Err, refl, sym, ap, ◌∙◌, subst, length-append}
use Rattle.std.specs.Prelude.{ℤ, nat_le}
use Rattle.kumir_tree.specs.declared.kind.Kind.{Kind}
use Rattle.kumir_tree.specs.declared.kind.Mode.{Mode}
use Rattle.kumir_tree.specs.declared.kind.Mode.TheVariants.{Arg, Res, ArgRes}
use Rattle.kumir_tree.specs.Part.{Limits, Formal}
use Rattle.kumir_values.specs.declared.value.Value.{Value}
use Rattle.kumir_values.specs.declared.run_end.RunFault.{RunFault}
use Rattle.kumir_values.specs.declared.run_end.RunFault.TheVariants.{Unset, Elements}
use Rattle.kumir_values.specs.Bounds.{elements}
use Rattle.kumir_meaning.specs.Store.{CellName, Local, Store, Cell, Empty, Has, Holds, Spot, AtVariable, AtElement, with_cell, cell_of, value_in, with_element}
use Rattle.kumir_meaning.specs.Runs.{unless_fault, Fault, Rest, Allowed}
use Rattle.kumir_meaning.specs.Expressions.{Then, Passed, ByValue, ByPlace, ByTable}
use Rattle.kumir_meaning.specs.Algorithms.{table_for, receives, receives_table, receives_all, back_to, by_mode, copied_out}
use Rattle.stack_code.specs.declared.instruction.CallPlace.{CallPlace}
use Rattle.stack_code.specs.declared.instruction.CallPlace.TheVariants as place
use Rattle.stack_code.specs.declared.unit.CodeUnit.{CodeUnit}
use Rattle.stack_code.specs.CodeState.{State, Slots, Plain, with_slot, cell_in, no_slots, rest}
use Rattle.stack_code.specs.Instructions as code
use Rattle.stack_code.specs.Instructions.{Begun, if_fine, and_then, takes_value, values_taken, table_of, index_in, copied, copied_to, step}
use Rattle.kumir_compiler.specs.Code.{Site, position}
use Rattle.kumir_compiler.proofs.Variables.{is_among}
use Rattle.kumir_compiler.proofs.SlotsHoldCells.{Same, stored, counted}
use Rattle.kumir_compiler.proofs.Reach.{Reaches, on_go, on_halt}
use Rattle.kumir_compiler.proofs.PassedToPlaces.{Indexed, SpotAt, Filled, Matches, MatchAll, pushed, all_pushed}

abbrev pub AllAmong : List CellName → List Formal → Type 0
AllAmong inner [] = Unit {0}
AllAmong inner (p ∷ params) = (is_among inner (Local p.name) ≡ true) × AllAmong inner params

module _ (al : Allowed) (cs : List CodeUnit) (names inner : List CellName) (D : ℕ) (h : Slots) (s : Store) (slots : Slots) (same : Same names D h s slots) (N row : ℕ) (st : State) (F : Begun → State) where
  -- the rest of the parameters, by the values that are left
  abbrev More : Type 0
  More = List Value → Begun → Result Begun RunFault

  abbrev Next : List Value → More → Store → Slots → (Store → Rest) → Type 0
  Next vs more g gs k = (g1 : Store) (gs1 : Slots) → Same inner 0 no_slots g1 gs1 → step al cs st ≡ if_fine (more vs (gs1, g1.used)) row F → Reaches al cs N st (k g1)

  table_received : (mode : Mode) (kind : Kind) (name : List ℕ) (bounds : Option Limits) (c : Cell) (vs : List Value) (more : More) (g : Store) (gs : Slots) (k : Store → Rest) → is_among inner (Local name) ≡ true → Same inner 0 no_slots g gs
      → step al cs st ≡ if_fine (and_then (code.fills_with_table al.room (record { mode = mode; slot = position inner (Local name) }) c (gs, g.used)) (λ g1. more vs g1)) row F → Next vs more g gs k
      → Reaches al cs N st (unless_fault (receives_table al.room (record { mode = mode; kind = kind; name = name; bounds = bounds }) c g) row k)
  table_received mode kind name bounds Empty vs more g gs k known gsame e next = on_halt al cs N st (Fault row Unset) e
  table_received mode kind name bounds (Has v) vs more g gs k known gsame e next = on_halt al cs N st (Fault row Unset) e
  table_received mode kind name bounds (Holds m) vs more g gs k known gsame e next = go (nat_le (g.used + elements m.bounds) al.room) e
    where
      go : (b : Bool) → step al cs st ≡ if_fine (and_then (cond b (Ok (with_slot gs (position inner (Local name)) (Plain (table_for mode m)), g.used + elements m.bounds)) (Err Elements)) (λ g1. more vs g1)) row F
          → Reaches al cs N st (unless_fault (cond b (Ok (record { cells = (with_cell g (Local name) (table_for mode m)).cells; used = g.used + elements m.bounds })) (Err Elements)) row k)
      go true e = next _ _ (counted inner 0 no_slots _ _ (g.used + elements m.bounds) (stored inner 0 no_slots g gs (Local name) (table_for mode m) (Plain (table_for mode m)) known refl gsame)) e
      go false e = on_halt al cs N st (Fault row Elements) e

  cell_received : (mode : Mode) (kind : Kind) (name : List ℕ) (bounds : Option Limits) (c : Cell) (vs : List Value) (more : More) (g : Store) (gs : Slots) (k : Store → Rest) → is_among inner (Local name) ≡ true → Same inner 0 no_slots g gs
      → step al cs st ≡ if_fine (more vs (with_slot gs (position inner (Local name)) (Plain c), g.used)) row F → Next vs more g gs k → Reaches al cs N st (k (with_cell g (Local name) c))
  cell_received mode kind name bounds c vs more g gs k known gsame e next = next _ _ (stored inner 0 no_slots g gs (Local name) c (Plain c) known refl gsame) e

  abbrev Event : Mode → List ℕ → Passed → CallPlace → List Value → More → Store → Slots → Type 0
  Event mode name a pl vs more g gs =
      step al cs st ≡ if_fine (and_then (code.fills_slot al.room (record { mode = mode; slot = position inner (Local name) }) (table_of pl) (takes_value mode pl) (pushed a ++ vs) slots (gs, g.used)) (λ g1. more (cond (takes_value mode pl) (rest (pushed a ++ vs)) (pushed a ++ vs)) g1)) row F

  spot_received : (mode : Mode) (kind : Kind) (name : List ℕ) (bounds : Option Limits) (x : Spot) (v : Option Value) (pl : CallPlace) (vs : List Value) (more : More) (g : Store) (gs : Slots) (k : Store → Rest) → is_among inner (Local name) ≡ true → Same inner 0 no_slots g gs
      → SpotAt names D h x pl → Filled mode v → Event mode name (ByPlace x v) pl vs more g gs → Next vs more g gs k → Reaches al cs N st (k (with_cell g (Local name) (cell_of v)))
  spot_received Arg kind name bounds x v pl vs more g gs k known gsame at filled e next = absurd filled
  spot_received Res kind name bounds x (Some v) pl vs more g gs k known gsame at filled e next = absurd filled
  spot_received ArgRes kind name bounds x None pl vs more g gs k known gsame at filled e next = absurd filled
  spot_received Res kind name bounds (AtVariable x) None place.Value vs more g gs k known gsame at filled e next = absurd at
  spot_received Res kind name bounds (AtVariable x) None (place.Slot j) vs more g gs k known gsame at filled e next = cell_received Res kind name bounds Empty vs more g gs k known gsame e next
  spot_received Res kind name bounds (AtVariable x) None (place.Element j is) vs more g gs k known gsame at filled e next = absurd at
  spot_received Res kind name bounds (AtVariable x) None (place.Table j) vs more g gs k known gsame at filled e next = absurd at
  spot_received Res kind name bounds (AtElement x index) None place.Value vs more g gs k known gsame at filled e next = absurd at
  spot_received Res kind name bounds (AtElement x index) None (place.Slot j) vs more g gs k known gsame at filled e next = absurd at
  spot_received Res kind name bounds (AtElement x index) None (place.Element j is) vs more g gs k known gsame at filled e next = cell_received Res kind name bounds Empty vs more g gs k known gsame e next
  spot_received Res kind name bounds (AtElement x index) None (place.Table j) vs more g gs k known gsame at filled e next = absurd at
  spot_received ArgRes kind name bounds (AtVariable x) (Some v) place.Value vs more g gs k known gsame at filled e next = absurd at
  spot_received ArgRes kind name bounds (AtVariable x) (Some v) (place.Slot j) vs more g gs k known gsame at filled e next = cell_received ArgRes kind name bounds (Has v) vs more g gs k known gsame e next
  spot_received ArgRes kind name bounds (AtVariable x) (Some v) (place.Element j is) vs more g gs k known gsame at filled e next = absurd at
  spot_received ArgRes kind name bounds (AtVariable x) (Some v) (place.Table j) vs more g gs k known gsame at filled e next = absurd at
  spot_received ArgRes kind name bounds (AtElement x index) (Some v) place.Value vs more g gs k known gsame at filled e next = absurd at
  spot_received ArgRes kind name bounds (AtElement x index) (Some v) (place.Slot j) vs more g gs k known gsame at filled e next = absurd at
  spot_received ArgRes kind name bounds (AtElement x index) (Some v) (place.Element j is) vs more g gs k known gsame at filled e next = cell_received ArgRes kind name bounds (Has v) vs more g gs k known gsame e next
  spot_received ArgRes kind name bounds (AtElement x index) (Some v) (place.Table j) vs more g gs k known gsame at filled e next = absurd at

  by_table : (mode : Mode) (j : ℕ) (vs : List Value) → takes_value mode (place.Table j) ≡ false
  by_table Arg j vs = refl
  by_table Res j vs = refl
  by_table ArgRes j vs = refl

  by_value : (mode : Mode) → takes_value mode place.Value ≡ true
  by_value Arg = refl
  by_value Res = refl
  by_value ArgRes = refl

  one_received : (mode : Mode) (kind : Kind) (name : List ℕ) (bounds : Option Limits) (a : Passed) (pl : CallPlace) (vs : List Value) (more : More) (g : Store) (gs : Slots) (k : Store → Rest) → is_among inner (Local name) ≡ true → Same inner 0 no_slots g gs
      → Matches mode names D h a pl → Event mode name a pl vs more g gs → Next vs more g gs k → Reaches al cs N st (unless_fault (receives al.room (record { mode = mode; kind = kind; name = name; bounds = bounds }) a s g) row k)
  one_received mode kind name bounds (ByValue v) place.Value vs more g gs k known gsame at e next =
      cell_received mode kind name bounds (Has v) vs more g gs k known gsame
      (e ∙ ap (λ b. if_fine (and_then (code.fills_slot al.room (record { mode = mode; slot = position inner (Local name) }) None b (v ∷ vs) slots (gs, g.used)) (λ g1. more (cond b vs (v ∷ vs)) g1)) row F) (by_value mode)) next
  one_received mode kind name bounds (ByValue v) (place.Slot j) vs more g gs k known gsame at e next = absurd at
  one_received mode kind name bounds (ByValue v) (place.Element j is) vs more g gs k known gsame at e next = absurd at
  one_received mode kind name bounds (ByValue v) (place.Table j) vs more g gs k known gsame at e next = absurd at
  one_received mode kind name bounds (ByPlace x v) pl vs more g gs k known gsame at e next = spot_received mode kind name bounds x v pl vs more g gs k known gsame at.0 at.1 e next
  one_received mode kind name bounds (ByTable x) place.Value vs more g gs k known gsame at e next = absurd at
  one_received mode kind name bounds (ByTable x) (place.Slot j) vs more g gs k known gsame at e next = absurd at
  one_received mode kind name bounds (ByTable x) (place.Element j is) vs more g gs k known gsame at e next = absurd at
  one_received mode kind name bounds (ByTable x) (place.Table j) vs more g gs k known gsame at e next =
      table_received mode kind name bounds (s.cells (Local x)) vs more g gs k known gsame
      (e ∙ ap (λ b. if_fine (and_then (code.fills_with_table al.room (record { mode = mode; slot = position inner (Local name) }) (cell_in (slots j)) (gs, g.used)) (λ g1. more (cond b (rest vs) vs) g1)) row F) (by_table mode j vs)
      ∙ ap (λ c. if_fine (and_then (code.fills_with_table al.room (record { mode = mode; slot = position inner (Local name) }) c (gs, g.used)) (λ g1. more vs g1)) row F) (ap (λ i. cell_in (slots i)) at.0 ∙ same.vars (Local x) at.1)) next

  -- all parameters, in order
  pub received : (t : Site) → t.variables ≡ inner → (params : List Formal) (passed : List Passed) (places : List CallPlace) (g : Store) (gs : Slots) (k : Then) → AllAmong inner params → Same inner 0 no_slots g gs → MatchAll names D h params passed places
      → step al cs st ≡ if_fine (code.fills_slots al.room (map (λ q. record { mode = q.mode; slot = position inner (Local q.name) }) params) places (all_pushed passed) slots (gs, g.used)) row F
      → ((g1 : Store) (gs1 : Slots) → Same inner 0 no_slots g1 gs1 → Reaches al cs N (F (gs1, g1.used)) (k g1))
      → Reaches al cs N st (receives_all al.room params passed row s k g)
  received t it [] [] [] g gs k known gsame match e go = on_go al cs N st _ (k g) e (go g gs gsame)
  received t it [] [] (pl ∷ pls) g gs k known gsame match e go = absurd match
  received t it [] (a ∷ passed) [] g gs k known gsame match e go = absurd match
  received t it [] (a ∷ passed) (pl ∷ pls) g gs k known gsame match e go = absurd match
  received t it (q ∷ params) [] [] g gs k known gsame match e go = on_go al cs N st _ (k g) e (go g gs gsame)
  received t it (q ∷ params) [] (pl ∷ pls) g gs k known gsame match e go = absurd match
  received t it (q ∷ params) (a ∷ passed) [] g gs k known gsame match e go = absurd match
  received t it (q ∷ params) (a ∷ passed) (pl ∷ pls) g gs k known gsame match e go =
      one_received q.mode q.kind q.name q.bounds a pl (all_pushed passed)
      (λ vs g1. code.fills_slots al.room (map (λ q. record { mode = q.mode; slot = position inner (Local q.name) }) params) pls vs slots g1)
      g gs (λ g1. receives_all al.room params passed row s k g1) known.0 gsame match.0 e
      (λ g1 gs1 gsame1 e1. received t it params passed pls g1 gs1 k known.1 gsame1 match.1 e1 go)

-- ---- how many values a call takes
one_taken : (mode : Mode) (names : List CellName) (D : ℕ) (h : Slots) (a : Passed) (pl : CallPlace) → Matches mode names D h a pl → cond (takes_value mode pl) 1 0 ≡ length (pushed a)
one_taken Arg names D h (ByValue v) place.Value at = refl
one_taken Res names D h (ByValue v) place.Value at = refl
one_taken ArgRes names D h (ByValue v) place.Value at = refl
one_taken mode names D h (ByValue v) (place.Slot j) at = absurd at
one_taken mode names D h (ByValue v) (place.Element j is) at = absurd at
one_taken mode names D h (ByValue v) (place.Table j) at = absurd at
one_taken Arg names D h (ByPlace x v) pl at = absurd at.1
one_taken Res names D h (ByPlace x (Some v)) pl at = absurd at.1
one_taken ArgRes names D h (ByPlace x None) pl at = absurd at.1
one_taken Res names D h (ByPlace x None) (place.Slot j) at = refl
one_taken Res names D h (ByPlace x None) (place.Element j is) at = refl
one_taken Res names D h (ByPlace (AtVariable x) None) place.Value at = absurd at.0
one_taken Res names D h (ByPlace (AtVariable x) None) (place.Table j) at = absurd at.0
one_taken Res names D h (ByPlace (AtElement x index) None) place.Value at = absurd at.0
one_taken Res names D h (ByPlace (AtElement x index) None) (place.Table j) at = absurd at.0
one_taken ArgRes names D h (ByPlace x (Some v)) (place.Slot j) at = refl
one_taken ArgRes names D h (ByPlace x (Some v)) (place.Element j is) at = refl
one_taken ArgRes names D h (ByPlace (AtVariable x) (Some v)) place.Value at = absurd at.0
one_taken ArgRes names D h (ByPlace (AtVariable x) (Some v)) (place.Table j) at = absurd at.0
one_taken ArgRes names D h (ByPlace (AtElement x index) (Some v)) place.Value at = absurd at.0
one_taken ArgRes names D h (ByPlace (AtElement x index) (Some v)) (place.Table j) at = absurd at.0
one_taken mode names D h (ByTable x) place.Value at = absurd at
one_taken mode names D h (ByTable x) (place.Slot j) at = absurd at
one_taken mode names D h (ByTable x) (place.Element j is) at = absurd at
one_taken Arg names D h (ByTable x) (place.Table j) at = refl
one_taken Res names D h (ByTable x) (place.Table j) at = refl
one_taken ArgRes names D h (ByTable x) (place.Table j) at = refl

pub all_taken : (inner names : List CellName) (D : ℕ) (h : Slots) (params : List Formal) (passed : List Passed) (places : List CallPlace) → MatchAll names D h params passed places → values_taken (map (λ q. record { mode = q.mode; slot = position inner (Local q.name) }) params) places ≡ length (all_pushed passed)
all_taken inner names D h [] [] [] match = refl
all_taken inner names D h [] [] (pl ∷ pls) match = absurd match
all_taken inner names D h [] (a ∷ passed) [] match = absurd match
all_taken inner names D h [] (a ∷ passed) (pl ∷ pls) match = absurd match
all_taken inner names D h (q ∷ params) [] [] match = refl
all_taken inner names D h (q ∷ params) [] (pl ∷ pls) match = absurd match
all_taken inner names D h (q ∷ params) (a ∷ passed) [] match = absurd match
all_taken inner names D h (q ∷ params) (a ∷ passed) (pl ∷ pls) match =
    let e1 = one_taken q.mode names D h a pl match.0 in
    let e2 = all_taken inner names D h params passed pls match.1 in
    ap (λ n. n + values_taken (map (λ q. record { mode = q.mode; slot = position inner (Local q.name) }) params) pls) e1 ∙ ap (λ n. length (pushed a) + n) e2 ∙ sym (length-append (pushed a) (all_pushed passed))

-- ---- the return
indexes_held : (names : List CellName) (D : ℕ) (h : Slots) (s : Store) (slots : Slots) (index : List ℤ) (at : List ℕ) → Same names D h s slots → Indexed (length names) D h index at → map (λ x. index_in (cell_in (slots x))) at ≡ index
indexes_held names D h s slots [] [] same x = refl
indexes_held names D h s slots [] (y ∷ at) same x = absurd x
indexes_held names D h s slots (z ∷ index) [] same x = absurd x
indexes_held names D h s slots (z ∷ index) (y ∷ at) same x =
    let w = x.0 in
    let first : index_in (cell_in (slots y)) ≡ z = ap (λ i. index_in (cell_in (slots i))) w.2 ∙ ap (λ c. index_in (cell_in c)) (same.kept w.0 w.3 ∙ w.4) ∙ w.5 in
    ap (λ m. m ∷ map (λ x. index_in (cell_in (slots x))) at) first ∙ ap (λ l. z ∷ l) (indexes_held names D h s slots index at same x.1)

came_back : (names : List CellName) (D : ℕ) (h : Slots) (s : Store) (slots : Slots) (mode : Mode) (a : Passed) (pl : CallPlace) (c c1 : Cell) → Matches mode names D h a pl → c1 ≡ c → Same names D h s slots → Same names D h (back_to a c s) (copied pl c1 slots)
came_back names D h s slots mode (ByValue v) place.Value c c1 at e same = same
came_back names D h s slots mode (ByValue v) (place.Slot j) c c1 at e same = absurd at
came_back names D h s slots mode (ByValue v) (place.Element j is) c c1 at e same = absurd at
came_back names D h s slots mode (ByValue v) (place.Table j) c c1 at e same = absurd at
came_back names D h s slots mode (ByPlace (AtVariable x) v) place.Value c c1 at e same = absurd at.0
came_back names D h s slots mode (ByPlace (AtVariable x) v) (place.Slot j) c c1 at e same =
    subst (λ i. Same names D h (with_cell s x (cell_of (value_in c))) (with_slot slots i (Plain (cell_of (value_in c1))))) (sym at.0.0)
    (stored names D h s slots x (cell_of (value_in c)) (Plain (cell_of (value_in c1))) at.0.1 (ap (λ z. cell_of (value_in z)) e) same)
came_back names D h s slots mode (ByPlace (AtVariable x) v) (place.Element j is) c c1 at e same = absurd at.0
came_back names D h s slots mode (ByPlace (AtVariable x) v) (place.Table j) c c1 at e same = absurd at.0
came_back names D h s slots mode (ByPlace (AtElement x index) v) place.Value c c1 at e same = absurd at.0
came_back names D h s slots mode (ByPlace (AtElement x index) v) (place.Slot j) c c1 at e same = absurd at.0
came_back names D h s slots mode (ByPlace (AtElement x index) v) (place.Element j is) c c1 at e same =
    let held = indexes_held names D h s slots index is same at.0.2 in
    let is_cell : with_element (cell_in (slots (position names (Local x)))) (map (λ y. index_in (cell_in (slots y))) is) (value_in c1) ≡ with_element (s.cells (Local x)) index (value_in c) =
    ap (λ z. with_element z (map (λ y. index_in (cell_in (slots y))) is) (value_in c1)) (same.vars (Local x) at.0.1)
    ∙ ap (λ z. with_element (s.cells (Local x)) z (value_in c1)) held ∙ ap (λ z. with_element (s.cells (Local x)) index (value_in z)) e in
    subst (λ i. Same names D h (with_cell s (Local x) (with_element (s.cells (Local x)) index (value_in c))) (with_slot slots i (Plain (with_element (cell_in (slots i)) (map (λ y. index_in (cell_in (slots y))) is) (value_in c1))))) (sym at.0.0)
    (stored names D h s slots (Local x) (with_element (s.cells (Local x)) index (value_in c)) (Plain (with_element (cell_in (slots (position names (Local x)))) (map (λ y. index_in (cell_in (slots y))) is) (value_in c1))) at.0.1 is_cell same)
came_back names D h s slots mode (ByPlace (AtElement x index) v) (place.Table j) c c1 at e same = absurd at.0
came_back names D h s slots mode (ByTable x) place.Value c c1 at e same = absurd at
came_back names D h s slots mode (ByTable x) (place.Slot j) c c1 at e same = absurd at
came_back names D h s slots mode (ByTable x) (place.Element j is) c c1 at e same = absurd at
came_back names D h s slots mode (ByTable x) (place.Table j) c c1 at e same =
    subst (λ i. Same names D h (with_cell s (Local x) c) (with_slot slots i (Plain c1))) (sym at.0) (stored names D h s slots (Local x) c (Plain c1) at.1 e same)

mode_back : (names : List CellName) (D : ℕ) (h : Slots) (s : Store) (slots : Slots) (mode : Mode) (a : Passed) (pl : CallPlace) (c c1 : Cell) → Matches mode names D h a pl → c1 ≡ c → Same names D h s slots → Same names D h (by_mode mode s (back_to a c s)) (copied_to mode pl c1 slots)
mode_back names D h s slots Arg a pl c c1 at e same = same
mode_back names D h s slots Res a pl c c1 at e same = came_back names D h s slots Res a pl c c1 at e same
mode_back names D h s slots ArgRes a pl c c1 at e same = came_back names D h s slots ArgRes a pl c c1 at e same

-- the caller's variables after a return
pub all_back : (inner names : List CellName) (D : ℕ) (h : Slots) (params : List Formal) (passed : List Passed) (places : List CallPlace) (g : Store) (gs : Slots) (s : Store) (slots : Slots) → AllAmong inner params → MatchAll names D h params passed places → Same inner 0 no_slots g gs → Same names D h s slots
    → Same names D h (copied_out params passed g s) (code.copied_to_places (map (λ q. record { mode = q.mode; slot = position inner (Local q.name) }) params) places gs slots)
all_back inner names D h [] [] [] g gs s slots known match gsame same = same
all_back inner names D h [] [] (pl ∷ pls) g gs s slots known match gsame same = absurd match
all_back inner names D h [] (a ∷ passed) [] g gs s slots known match gsame same = absurd match
all_back inner names D h [] (a ∷ passed) (pl ∷ pls) g gs s slots known match gsame same = absurd match
all_back inner names D h (q ∷ params) [] [] g gs s slots known match gsame same = same
all_back inner names D h (q ∷ params) [] (pl ∷ pls) g gs s slots known match gsame same = absurd match
all_back inner names D h (q ∷ params) (a ∷ passed) [] g gs s slots known match gsame same = absurd match
all_back inner names D h (q ∷ params) (a ∷ passed) (pl ∷ pls) g gs s slots known match gsame same =
    all_back inner names D h params passed pls g gs _ _ known.1 match.1 gsame
    (mode_back names D h s slots q.mode a pl (g.cells (Local q.name)) (cell_in (gs (position inner (Local q.name)))) match.0 (gsame.vars (Local q.name) known.0) same)

-- the elements in use are those of the caller
spot_used : (mode : Mode) (a : Passed) (c : Cell) (s : Store) → (by_mode mode s (back_to a c s)).used ≡ s.used
spot_used Arg a c s = refl
spot_used Res (ByValue v) c s = refl
spot_used Res (ByPlace (AtVariable x) v) c s = refl
spot_used Res (ByPlace (AtElement x index) v) c s = refl
spot_used Res (ByTable x) c s = refl
spot_used ArgRes (ByValue v) c s = refl
spot_used ArgRes (ByPlace (AtVariable x) v) c s = refl
spot_used ArgRes (ByPlace (AtElement x index) v) c s = refl
spot_used ArgRes (ByTable x) c s = refl

pub used_back : (params : List Formal) (passed : List Passed) (g s : Store) → (copied_out params passed g s).used ≡ s.used
used_back [] passed g s = refl
used_back (q ∷ params) [] g s = refl
used_back (q ∷ params) (a ∷ passed) g s = used_back params passed g _ ∙ spot_used q.mode a (g.cells (Local q.name)) s
