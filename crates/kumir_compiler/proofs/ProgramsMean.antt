-- The code of algorithms, of calls, and of a whole program does what they mean.
use Rattle.std.proofs.Common.{◌≡◌, ℕ, zero, suc, ◌+◌, ◌≤◌, Bool, true, false, cond, List, [], ◌∷◌, ◌++◌, length, map, Option, Some, None, Result, Ok, Err, refl, sym, ap, ◌∙◌, subst, arith, append_assoc}
use Rattle.std.specs.Prelude.{nat_lt, drop, option_map, ◌*◌}
use Rattle.kumir_tree.specs.declared.kind.Kind.{Kind}
use Rattle.kumir_tree.specs.declared.kind.Mode.{Mode}
use Rattle.kumir_tree.specs.Tree.{Tree}
use Rattle.kumir_tree.specs.Part.{Limits, Formal}
use Rattle.performer_kit.specs.declared.commands.RobotCommand.{RobotCommand}
use Rattle.performer_kit.specs.declared.commands.PenShape.{PenShape}
use Rattle.performer_kit.specs.Commands.{robot_command_named, pen_shape_named}
use Rattle.performer_kit.specs.declared.commands.Reply.{Reply}
use Rattle.kumir_values.specs.declared.value.Value.{Value}
use Rattle.kumir_values.specs.declared.value.Value.TheVariants.{Truth}
use Rattle.kumir_values.specs.declared.run_end.RunFault.{RunFault}
use Rattle.kumir_values.specs.declared.run_end.RunFault.TheVariants.{Depth}
use Rattle.kumir_meaning.specs.Runs as state
use Rattle.kumir_names.specs.declared.built_in.BuiltIn.{BuiltIn}
use Rattle.kumir_names.specs.BuiltIns.{built_in_named}
use Rattle.kumir_names.specs.Variables.{Names, parameters}
use Rattle.kumir_names.specs.Callees.{BuiltInCall, Called, Callee, PenCall, RobotCall, if_known, is_named, or_else}
use Rattle.kumir_meaning.specs.Program.{Placed, Program, own_name, callee_in, block_names}
use Rattle.kumir_meaning.specs.Store.{CellName, TheAnswer, Local, Store, fitted, given_back}
use Rattle.kumir_meaning.specs.Runs.{Rest, stops, unless_fault, choose, Allowed, usual}
use Rattle.kumir_meaning.specs.Expressions.{Enter, Then, ThenValue, numbers_of}
use Rattle.kumir_meaning.specs.Algorithms.{some_claim, fits, gives, returns, proceeds, at_header, receives_all, copied_out, fresh, enters, starts, run_within, run}
use Rattle.kumir_names.specs.Callees.{algorithm_named, callee}
use Rattle.stack_code.specs.declared.instruction.CodeLine.{CodeLine}
use Rattle.stack_code.specs.declared.unit.ParamSlot.{ParamSlot}
use Rattle.stack_code.specs.declared.unit.CodeUnit.{CodeUnit}
use Rattle.stack_code.specs.CodeState.{State, Frame, Slots, no_slots, cell_in, numbers, paired, next}
use Rattle.stack_code.specs.Instructions as code
use Rattle.stack_code.specs.Instructions.{Event, Go, Halt, if_fine, values_taken, unit_at, step, Begun}
use Rattle.stack_code.specs.CodeRuns.{start}
use Rattle.kumir_compiler.specs.Code.{Site, slot, position, number_of_unit, limits_code, some_claim_code, bounds_code, fits_code, answer_of, variables_of, header_site, algorithm_code, param_slots, answer_slot, unit_code, code_of, block_code}
use Rattle.kumir_compiler.specs.Compilable.{AreBounds, AreFormals, IsSomeClaim, IsCompilableAlgorithm, AreCompilable, IsCompilable}
use Rattle.kumir_compiler.proofs.LocalsHaveSlots.{Slotted, header_slotted, body_in}
use Rattle.stack_code.specs.CodeRuns.{CodeRun}
use Rattle.kumir_compiler.proofs.CodeAt.{IsCodeAt, parts, code_from_start}
use Rattle.kumir_compiler.proofs.Variables.{is_among, same_itself, among_behind}
use Rattle.kumir_compiler.proofs.SlotsHoldCells.{Same}
use Rattle.kumir_compiler.proofs.Reach.{here, Reaches, on_go, on_halt, on_fine, line_at, moved}
use Rattle.kumir_compiler.proofs.Operands.{onto, taken_onto, drop_onto, numbers_onto}
use Rattle.kumir_compiler.proofs.Evaluates.{GoesOn, line}
use Rattle.kumir_compiler.proofs.PassedToPlaces.{all_pushed}
use Rattle.kumir_compiler.proofs.ArgumentsMean.{with_answer, EnterOk}
use Rattle.kumir_compiler.proofs.ExpressionsMean.{site, spot_of}
use Rattle.kumir_compiler.proofs.SimpleStatements.{Serves, claims_ok, limits_ok}
use Rattle.kumir_compiler.proofs.StatementsMean.{block_ok}
use Rattle.kumir_compiler.proofs.ReceivedParameters.{AllAmong, received, all_taken, all_back, used_back}

-- ---- formal bounds, `дано` and `надо`
module _ (al : Allowed) (p : Program) (cs : List CodeUnit) (u : ℕ) (fr : List Frame) (enter : Enter) (names : List CellName) (answer : Option Kind) (first : ℕ) (row : ℕ) (locals : Names) (N : ℕ) (h : Slots) (ok : EnterOk al p cs u fr enter N) (sc : Slotted names answer locals) where
  abbrev T : Site
  T = site al p cs u fr enter names answer first row locals

  abbrev Lines : List CodeLine
  Lines = (unit_at cs u).body

  pub some_claim_ok : (o : Option (ℕ × Tree)) → IsSomeClaim o T → Serves al p cs u fr enter names answer first row locals N 0 h ok sc (some_claim_code o T) (λ k. some_claim o (spot_of al p cs u fr enter names answer first row locals) k)
  some_claim_ok None known pc end s slots stack k has same go = moved al cs u fr N pc end stack slots s.used (k s) has (go s slots same)
  some_claim_ok (Some c) known pc end s slots stack k has same go = claims_ok al p cs u fr enter names answer first (first + c.0) locals N 0 h ok sc c.1 known pc end s slots stack k has same go

  bounds_ok : (mode : Mode) (kind : Kind) (name : List ℕ) (o : Option Limits) (params : List Formal) → is_among names (Local name) ≡ true → AreBounds o T → (pc end : ℕ) (s : Store) (slots : Slots) (stack : List Value) (k : Then) → IsCodeAt Lines pc (bounds_code o name T) end → Same names 0 h s slots
      → ((s1 : Store) (slots1 : Slots) → Same names 0 h s1 slots1 → Reaches al cs N (here u fr end stack slots1 s1.used) (fits params (spot_of al p cs u fr enter names answer first row locals) k s1))
      → Reaches al cs N (here u fr pc stack slots s.used) (fits (record { mode = mode; kind = kind; name = name; bounds = o } ∷ params) (spot_of al p cs u fr enter names answer first row locals) k s)
  bounds_ok mode kind name None params known limits pc end s slots stack k has same go = moved al cs u fr N pc end stack slots s.used _ has (go s slots same)
  bounds_ok mode kind name (Some limits) params known are pc end s slots stack k has same go =
      let w = parts Lines pc (limits_code limits T 0) _ end has in
      limits_ok al p cs u fr enter names answer first row locals N 0 h ok sc limits are pc w.0 s slots stack _ w.1 same
      (λ vs s1 slots1 len same1. on_fine al cs (fitted (s1.cells (Local name)) (paired (numbers_of vs))) N row (λ c. next (here u fr w.0 (onto vs stack) slots1 s1.used) stack) _ (λ c. fits params (spot_of al p cs u fr enter names answer first row locals) k s1)
      (line al cs u fr T N 0 h w.0 (onto vs stack) slots1 s1 _ w.2.0
      ∙ ap (λ c. if_fine (fitted c (paired (numbers (2 * length limits) (onto vs stack)))) row (λ c. next (here u fr w.0 (onto vs stack) slots1 s1.used) (drop (2 * length limits) (onto vs stack)))) (same1.vars (Local name) known)
      ∙ ap (λ l. if_fine (fitted (s1.cells (Local name)) (paired l)) row (λ c. next (here u fr w.0 (onto vs stack) slots1 s1.used) (drop (2 * length limits) (onto vs stack)))) (numbers_onto vs stack (2 * length limits) len)
      ∙ ap (λ l. if_fine (fitted (s1.cells (Local name)) (paired (numbers_of vs))) row (λ c. next (here u fr w.0 (onto vs stack) slots1 s1.used) l)) (drop_onto vs stack (2 * length limits) len))
      (λ c e. moved al cs u fr N _ end stack slots1 s1.used _ w.2.1 (go s1 slots1 same1)))

  pub fits_ok : (params : List Formal) → AllAmong names params → AreFormals params T → Serves al p cs u fr enter names answer first row locals N 0 h ok sc (fits_code params T) (λ k. fits params (spot_of al p cs u fr enter names answer first row locals) k)
  fits_ok [] known are pc end s slots stack k has same go = moved al cs u fr N pc end stack slots s.used (k s) has (go s slots same)
  fits_ok (q ∷ params) known are pc end s slots stack k has same go =
      let w = parts Lines pc (bounds_code q.bounds q.name T) _ end has in
      bounds_ok q.mode q.kind q.name q.bounds params known.0 are.0 pc w.0 s slots stack k w.1 same
      (λ s1 slots1 same1. fits_ok params known.1 are.1 w.0 end s1 slots1 stack k w.2 same1 go)

-- ---- an algorithm
params_among : (before more : List CellName) (params : List Formal) → AllAmong (before ++ (map (λ l. Local l.0) (parameters params) ++ more)) params
params_among before more [] = tt
params_among before more (q ∷ params) =
    let tail : List CellName = map (λ l. Local l.0) (parameters params) ++ more in (
      among_behind before (Local q.name ∷ tail) (Local q.name) (ap (λ b. cond b true (is_among tail (Local q.name))) (same_itself (Local q.name))),
      subst (λ l. AllAmong l params) (append_assoc before (Local q.name ∷ []) tail) (params_among (before ++ Local q.name ∷ []) more params),
    )

map_both : (xs ys : Names) → map (λ l. Local l.0) (xs ++ ys) ≡ map (λ l. Local l.0) xs ++ map (λ l. Local l.0) ys
map_both [] ys = refl
map_both (x ∷ xs) ys = ap (λ l. Local x.0 ∷ l) (map_both xs ys)

pub header_params : (a : Placed) → AllAmong (variables_of a) a.algorithm.head.params
header_params a =
    subst (λ l. AllAmong (answer_of a.algorithm.head.gives ++ l) a.algorithm.head.params) (sym (map_both (parameters a.algorithm.head.params) (block_names a.algorithm.body)))
    (params_among (answer_of a.algorithm.head.gives) (map (λ l. Local l.0) (block_names a.algorithm.body)) a.algorithm.head.params)

answer_among : (k : Kind) (more : List CellName) → is_among (answer_of (Some k) ++ more) TheAnswer ≡ true
answer_among k more = refl

module _ (al : Allowed) (p : Program) (cs : List CodeUnit) where
  -- the end of an algorithm: its value, or the fault, and then the return
  returned : (o : Option Kind) (more : List CellName) (N row : ℕ) (fr : List Frame) (params : List ParamSlot) (g : Store) (gs : Slots) (now : State) (k : ThenValue) → Same (answer_of o ++ more) 0 no_slots g gs → now.slots ≡ gs → now.frames ≡ fr
      → (t : Site) → t.variables ≡ answer_of o ++ more → step al cs now ≡ code.leaves_unit (answer_slot o t) params row now
      → ((v : Value) → step al cs now ≡ code.returns_to fr params gs (with_answer o v []) → Reaches al cs N now (k v g))
      → Reaches al cs N now (unless_fault (gives o g) row (λ v. k v g))
  returned None more N row fr params g gs now k same e1 e2 t it e go =
      go (Truth false) (e ∙ ap (λ l. code.returns_to l params now.slots []) e2 ∙ ap (λ l. code.returns_to fr params l []) e1)
  returned (Some kind) more N row fr params g gs now k same e1 e2 t it e go = by_result (given_back (g.cells TheAnswer)) refl
    where
      cell : cell_in (now.slots (slot t TheAnswer)) ≡ g.cells TheAnswer
      cell = ap (λ l. cell_in (l (slot t TheAnswer))) e1 ∙ ap (λ l. cell_in (gs (position l TheAnswer))) it ∙ same.vars TheAnswer (answer_among kind more)

      is : (r : Result Value RunFault) → given_back (g.cells TheAnswer) ≡ r → step al cs now ≡ code.with_answer r row (λ value. code.returns_to now.frames params now.slots value)
      is r f = e ∙ ap (λ c. code.with_answer (given_back c) row (λ value. code.returns_to now.frames params now.slots value)) cell ∙ ap (λ w. code.with_answer w row (λ value. code.returns_to now.frames params now.slots value)) f

      by_result : (r : Result Value RunFault) → given_back (g.cells TheAnswer) ≡ r → Reaches al cs N now (unless_fault (given_back (g.cells TheAnswer)) row (λ v. k v g))
      by_result (Err fault) f = subst (λ w. Reaches al cs N now (unless_fault w row (λ v. k v g))) (sym f) (on_halt al cs N now (state.Fault row fault) (is (Err fault) f))
      by_result (Ok v) f = subst (λ w. Reaches al cs N now (unless_fault w row (λ v. k v g))) (sym f)
          (go v (is (Ok v) f ∙ ap (λ l. code.returns_to l params now.slots (v ∷ [])) e2 ∙ ap (λ l. code.returns_to fr params l (v ∷ [])) e1))

  -- an algorithm from its begin to its return
  pub proceeds_ok : (a : Placed) → IsCompilableAlgorithm p a → (u : ℕ) (fr : List Frame) (enter : Enter) (n N : ℕ) → unit_at cs u ≡ unit_code p a → N ≤ n → EnterOk al p cs u fr enter N → (g : Store) (gs : Slots) (k : ThenValue) → Same (variables_of a) 0 no_slots g gs
      → ((v : Value) (g1 : Store) (gs1 : Slots) (now : State) → Same (variables_of a) 0 no_slots g1 gs1 → step al cs now ≡ code.returns_to fr (param_slots a.algorithm.head.params (header_site p a)) gs1 (with_answer a.algorithm.head.gives v []) → Reaches al cs N now (k v g1))
      → Reaches al cs N (here u fr 0 [] gs g.used) (proceeds a (at_header p al.room enter a) n k g)
  proceeds_ok a can u fr enter n N is le ok g gs k same go =
      let t = header_site p a in
      let row = a.first + a.algorithm.head.line in
      let locals = parameters a.algorithm.head.params in
      let names = variables_of a in
      let sc = header_slotted a in
      let Lines = (unit_at cs u).body in
      let code0 = algorithm_code a t in
      let whole : IsCodeAt Lines 0 code0 (length code0) = subst (λ l. IsCodeAt l 0 code0 (length code0)) (sym (ap (λ q. q.body) is)) (code_from_start code0) in
      let w1 = parts Lines 0 (fits_code a.algorithm.head.params t) _ (length code0) whole in
      let w2 = parts Lines w1.0 (some_claim_code a.algorithm.given t) _ (length code0) w1.2 in
      let w3 = parts Lines w2.0 (block_code a.algorithm.body t 0 0) _ (length code0) w2.2 in
      let w4 = parts Lines w3.0 (some_claim_code a.algorithm.wanted t) _ (length code0) w3.2 in
      let back : GoesOn al cs u fr t N 0 no_slots w3.0 [] (returns a (at_header p al.room enter a) k) =
      λ s1 slots1 same1. some_claim_ok al p cs u fr enter names a.algorithm.head.gives a.first row locals N no_slots ok sc a.algorithm.wanted can.wanted w3.0 w4.0 s1 slots1 [] _ w4.1 same1
      (λ s2 slots2 same2. returned a.algorithm.head.gives (map (λ l. Local l.0) (parameters a.algorithm.head.params ++ block_names a.algorithm.body)) N (a.first + a.algorithm.close) fr (param_slots a.algorithm.head.params t) s2 slots2 (here u fr w4.0 [] slots2 s2.used) k same2 refl refl t refl
      (line al cs u fr t N 0 no_slots w4.0 [] slots2 s2 _ w4.2.0 ∙ ap (λ q. code.leaves_unit q.gives q.params (a.first + a.algorithm.close) (here u fr w4.0 [] slots2 s2.used)) is)
      (λ v e. go v s2 slots2 (here u fr w4.0 [] slots2 s2.used) same2 e)) in
      let e0 : w3.0 ≡ w3.0 + 0 = omega arith in
      fits_ok al p cs u fr enter names a.algorithm.head.gives a.first row locals N no_slots ok sc a.algorithm.head.params (header_params a) can.params 0 w1.0 g gs [] _ w1.1 same
      (λ s1 slots1 same1. some_claim_ok al p cs u fr enter names a.algorithm.head.gives a.first row locals N no_slots ok sc a.algorithm.given can.given w1.0 w2.0 s1 slots1 [] _ w2.1 same1
      (λ s2 slots2 same2. block_ok al p cs u fr enter names a.algorithm.head.gives a.first a.algorithm.body row locals n N 0 0 no_slots le ok sc (body_in a) can.body w2.0 w3.0 w3.0 s2 slots2 [] (returns a (at_header p al.room enter a) k) (returns a (at_header p al.room enter a) k) w3.1 e0 same2 back back))

-- ---- what is called
built_in_first : (o : Option BuiltIn) (c : Option (Callee Placed)) (a : Placed) → or_else (option_map BuiltInCall o) c ≡ Some (Called a) → c ≡ Some (Called a)
built_in_first None c a e = e
built_in_first (Some b) c a e = absurd (let none : ⊥ = cc in none)

robot_first : (o : Option RobotCommand) (c : Option (Callee Placed)) (a : Placed) → or_else (option_map RobotCall o) c ≡ Some (Called a) → c ≡ Some (Called a)
robot_first None c a e = e
robot_first (Some b) c a e = absurd (let none : ⊥ = cc in none)

pen_first : (o : Option PenShape) (c : Option (Callee Placed)) (a : Placed) → or_else (option_map PenCall o) c ≡ Some (Called a) → c ≡ Some (Called a)
pen_first None c a e = e
pen_first (Some b) c a e = absurd (let none : ⊥ = cc in none)

algorithm_last : (o : Option Placed) (a : Placed) → option_map Called o ≡ Some (Called a) → o ≡ Some a
algorithm_last None a e = absurd (let none : ⊥ = cc in none)
algorithm_last (Some b) a e = cc

pub is_found : (p : Program) (f : List ℕ) (a : Placed) → callee_in p f ≡ Some (Called a) → algorithm_named own_name f p.algorithms ≡ Some a
unfolding callee
is_found p f a e =
    algorithm_last (algorithm_named own_name f p.algorithms) a
    (pen_first (if_known p.performers.pen (pen_shape_named f)) _ a
    (robot_first (if_known p.performers.robot (robot_command_named f)) _ a
    (built_in_first (built_in_named f) _ a e)))

unit_found : (p : Program) (f : List ℕ) (a : Placed) (l : List Placed) → AreCompilable p l → algorithm_named own_name f l ≡ Some a → (unit_at (map (λ b. unit_code p b) l) (number_of_unit l f) ≡ unit_code p a) × IsCompilableAlgorithm p a
unit_found p f a [] can e = absurd (let none : ⊥ = cc in none)
unit_found p f a (b ∷ l) can e = go (is_named f b.algorithm.head.name) (unit_found p f a l can.1) e
  where
    go : (c : Bool) → (algorithm_named own_name f l ≡ Some a → (unit_at (map (λ b. unit_code p b) l) (number_of_unit l f) ≡ unit_code p a) × IsCompilableAlgorithm p a) → cond c (Some b) (algorithm_named own_name f l) ≡ Some a
        → (unit_at (unit_code p b ∷ map (λ b. unit_code p b) l) (cond c 0 (suc (number_of_unit l f))) ≡ unit_code p a) × IsCompilableAlgorithm p a
    go false later e = later e
    go true later e = let is : b ≡ a = cc in (ap (unit_code p) is, subst (IsCompilableAlgorithm p) is can.0)

answer_on : (o : Option Kind) (v : Value) (stack : List Value) → with_answer o v [] ++ stack ≡ with_answer o v stack
answer_on None v stack = refl
answer_on (Some k) v stack = refl

-- ---- calls, at every depth
pub enters_all : (al : Allowed) (p : Program) → IsCompilable p → (n N u : ℕ) (fr : List Frame) (deep : ℕ) → N ≤ n → deep ≡ length fr + 1 → EnterOk al p (code_of p) u fr (enters p al n deep) N
unfolding code_of
enters_all al p can zero N u fr deep le is = record { by = λ M lt f a e names row pc places at D h s slots passed stack k match same go. absurd (omega arith) }
enters_all al p can (suc n) N u fr deep le is = record {
  by = λ M lt f a e names row pc places at D h s slots passed stack k match same go.
      let cs = code_of p in
      let u1 = number_of_unit p.algorithms f in
      let found = unit_found p f a p.algorithms can (is_found p f a e) in
      let params = param_slots a.algorithm.head.params (header_site p a) in
      let frame : Frame = record { unit = u; pc = pc + 1; stack = stack; slots = slots; used = s.used; places = places } in
      let begun : Begun → State = λ g. record { unit = u1; pc = 0; stack = []; slots = g.0; used = g.1; frames = frame ∷ fr } in
      let now : State = here u fr pc (onto (all_pushed passed) stack) slots s.used in
      let len = sym (all_taken (variables_of a) names D h a.algorithm.head.params passed places match) in
      let event = line_at al cs u fr pc (onto (all_pushed passed) stack) slots s.used _ at
      ∙ ap (λ q. code.enters_unit al q u1 places row now) found.0
      ∙ ap (λ l. cond (nat_lt (length fr + 1) al.depth) (if_fine (code.fills_slots al.room params places l slots (no_slots, s.used)) row (λ g. record { unit = u1; pc = 0; stack = []; slots = g.0; used = g.1; frames = record { unit = u; pc = pc + 1; stack = drop (values_taken params places) (onto (all_pushed passed) stack); slots = slots; used = s.used; places = places } ∷ fr })) (Halt (state.Fault row Depth))) (taken_onto (all_pushed passed) stack (values_taken params places) len)
      ∙ ap (λ l. cond (nat_lt (length fr + 1) al.depth) (if_fine (code.fills_slots al.room params places (all_pushed passed) slots (no_slots, s.used)) row (λ g. record { unit = u1; pc = 0; stack = []; slots = g.0; used = g.1; frames = record { unit = u; pc = pc + 1; stack = l; slots = slots; used = s.used; places = places } ∷ fr })) (Halt (state.Fault row Depth))) (drop_onto (all_pushed passed) stack (values_taken params places) len)
      ∙ ap (λ m. cond (nat_lt m al.depth) (if_fine (code.fills_slots al.room params places (all_pushed passed) slots (no_slots, s.used)) row begun) (Halt (state.Fault row Depth))) (sym is) in
      let deeper : suc deep ≡ length (frame ∷ fr) + 1 = omega arith in
      let inside : Then = λ s1. receives_all al.room a.algorithm.head.params passed row s1 (proceeds a (at_header p al.room (enters p al n (suc deep)) a) n (λ v g. k v (copied_out a.algorithm.head.params passed g s1))) (fresh s1.used) in
      begins M row now s (if_fine (code.fills_slots al.room params places (all_pushed passed) slots (no_slots, s.used)) row begun) inside (nat_lt deep al.depth) event
      (λ e1. received al cs names (variables_of a) D h s slots same M row now begun (header_site p a) refl a.algorithm.head.params passed places (fresh s.used) no_slots _ (header_params a) (record { vars = λ x known. refl; kept = λ i below. absurd (omega arith) }) match e1
      (λ g1 gs1 gsame. proceeds_ok al p cs a found.1 u1 (frame ∷ fr) (enters p al n (suc deep)) n M found.0 (omega arith) (enters_all al p can n M u1 (frame ∷ fr) (suc deep) (omega arith) deeper) g1 gs1 _ gsame
      (λ v g2 gs2 now2 gsame2 e2. on_go al cs M now2 _ _ e2
      (subst (λ l. Reaches al cs M (here u fr (pc + 1) l (code.copied_to_places params places gs2 slots) s.used) (k v (copied_out a.algorithm.head.params passed g2 s))) (sym (answer_on a.algorithm.head.gives v stack))
      (subst (λ m. Reaches al cs M (here u fr (pc + 1) (with_answer a.algorithm.head.gives v stack) (code.copied_to_places params places gs2 slots) m) (k v (copied_out a.algorithm.head.params passed g2 s))) (used_back a.algorithm.head.params passed g2 s)
      (go v _ _ (all_back (variables_of a) names D h a.algorithm.head.params passed places g2 gs2 s slots (header_params a) match gsame2 same)))))));
}
  where
    begins : (M row : ℕ) (now : State) (s : Store) (event : Event) (inside : Then) (b : Bool) → step al (code_of p) now ≡ cond b event (Halt (state.Fault row Depth)) → (step al (code_of p) now ≡ event → Reaches al (code_of p) M now (inside s)) → Reaches al (code_of p) M now (choose b inside (λ s1. stops (state.Fault row Depth)) s)
    begins M row now s event inside true e r = r e
    begins M row now s event inside false e r = on_halt al (code_of p) M now (state.Fault row Depth) e

-- ---- a program
starts_ok : (al : Allowed) (p : Program) → IsCompilable p → (n : ℕ) (l : List Placed) → p.algorithms ≡ l → Reaches al (code_of p) n (start 0) (starts l p al n)
unfolding code_of
starts_ok al p can n [] is = on_halt al (code_of p) n (start 0) state.Done (ap (λ l. step al (map (λ a. unit_code p a) l) (start 0)) is)
starts_ok al p can n (a ∷ more) is =
    let first : unit_at (code_of p) 0 ≡ unit_code p a = ap (λ l. unit_at (map (λ b. unit_code p b) l) 0) is in
    let known : AreCompilable p (a ∷ more) = subst (AreCompilable p) is can in
    let none : 1 ≡ length {A = Frame} [] + 1 = omega arith in
    proceeds_ok al p (code_of p) a known.0 0 [] (enters p al n 1) n n first (omega arith) (enters_all al p can n n 0 [] 1 (omega arith) none) (fresh 0) no_slots (λ v g. stops state.Done)
    (record { vars = λ x among. refl; kept = λ i below. absurd (omega arith) })
    (λ v g1 gs1 now same e. on_halt al (code_of p) n now state.Done e)

pub code_means : (p : Program) → IsCompilable p → (inputs : List Value) (replies : List Reply) (n : ℕ) → CodeRun (code_of p) 0 inputs replies n (run p inputs replies n)
unfolding run run_within
code_means p can inputs replies n = let x = (starts_ok usual p can n p.algorithms refl).by n (omega arith) inputs replies in record { instructions = x.0; ends = x.1 }
