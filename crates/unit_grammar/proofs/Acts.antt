-- What statements do, with their blocks as lists of what is seen.
use Rattle.std.proofs.Common.{◌≡◌, ℕ, List, [], ◌∷◌, ◌++◌, Option, refl, ap, map, ◌∙◌, sym}
use Rattle.kumir_tree.specs.Program as p
use Rattle.kumir_tree.specs.Program.{◌next◌}
use Rattle.kumir_tree.specs.Seen.{tree, some_tree}
use Rattle.kumir_tree.specs.Blocks.{block_listed, arms_listed, act_of, stmt_of, block_of, arms_of}
use Rattle.kumir_tree.specs.declared.expr.Expr.{Expr}
use Rattle.kumir_tree.specs.declared.statement.Statement.{Statement}
use Rattle.kumir_tree.specs.declared.statement.Case.{Case, out-Case}
use Rattle.kumir_tree.specs.declared.statement.What.TheVariants as w
use Rattle.kumir_tree.proofs.Views.{act_times, act_while, act_count, act_forever, act_until, act_choose, act_select}
use Rattle.std.specs.Prelude.{reverse}
use Rattle.std.proofs.lemmas.List.{map-append, length-map, length-reverse, reverse-append}
use Rattle.std.proofs.Common.{length}
use Rattle.kumir_tree.specs.Parts.{head_of}
use Rattle.kumir_tree.specs.Units.{some_claim}
use Rattle.unit_grammar.specs.declared.heads.Top.{Top}
use Rattle.unit_grammar.specs.Views.{arm_of, frame_of, stack_of, top_of, body_of, ended}
use Rattle.unit_grammar.specs.Machine as machine
use Rattle.unit_grammar.specs.Stages.{open_blocks}
use Rattle.std.proofs.lemmas.List.Sums.{fold-append}
use Rattle.unit_grammar.specs.Grammar.{Placed}
use Rattle.unit_grammar.specs.Progress.{Going, advanced, read_all}
use Rattle.std.proofs.Common.{Some, None, IsTrue, nat_lt, nat_le, ◌<◌, ◌+◌, subst, arith}
use Rattle.std.proofs.lemmas.Bool.{leb-true, le-leb}
use Rattle.std.proofs.lemmas.Bool.Decides.{Decides-ltb}
use Rattle.unit_grammar.specs.declared.frames.Body.{Body}
use Rattle.unit_grammar.specs.declared.frames.End.{End}
use Rattle.unit_grammar.specs.declared.frames.End.TheVariants as e
use Rattle.unit_grammar.specs.declared.frames.Frame.{Frame}

pub block_map : (b : List Statement) → block_of b ≡ block_listed (map stmt_of b)
block_map [] = refl
block_map (s ∷ b) = ap (λ l. stmt_of s next l) (block_map b)

pub times_map : (x : Expr) (b : List Statement) → act_of (w.Times x b) ≡ p.Times (tree x) (block_listed (map stmt_of b))
times_map x b = act_times x b ∙ ap (p.Times (tree x)) (block_map b)

pub while_map : (x : Expr) (b : List Statement) → act_of (w.While x b) ≡ p.While (tree x) (block_listed (map stmt_of b))
while_map x b = act_while x b ∙ ap (p.While (tree x)) (block_map b)

pub count_map : (v : List ℕ) (x y : Expr) (z : Option Expr) (b : List Statement) → act_of (w.Count v x y z b) ≡ p.Count v (tree x) (tree y) (some_tree z) (block_listed (map stmt_of b))
count_map v x y z b = act_count v x y z b ∙ ap (p.Count v (tree x) (tree y) (some_tree z)) (block_map b)

pub forever_map : (b : List Statement) → act_of (w.Forever b) ≡ p.Forever (block_listed (map stmt_of b))
forever_map b = act_forever b ∙ ap p.Forever (block_map b)

pub until_map : (b : List Statement) (line : ℕ) (x : Expr) → act_of (w.Until b line x) ≡ p.Until (block_listed (map stmt_of b)) line (tree x)
until_map b line x = act_until b line x ∙ ap (λ l. p.Until l line (tree x)) (block_map b)

pub choose_map : (x : Expr) (a b : List Statement) → act_of (w.Choose x a b) ≡ p.Choose (tree x) (block_listed (map stmt_of a)) (block_listed (map stmt_of b))
choose_map x a b = act_choose x a b ∙ (λ i. p.Choose (tree x) (block_map a i) (block_map b i))

pub arms_map : (cs : List Case) → arms_of cs ≡ arms_listed (map arm_of cs)
arms_map [] = refl
arms_map (c ∷ cs) = ap (p.arm (out-Case c).line (tree (out-Case c).condition) (block_of (out-Case c).body)) (arms_map cs)

pub select_map : (cs : List Case) (b : List Statement) → act_of (w.Select cs b) ≡ p.Select (arms_listed (map arm_of cs)) (block_listed (map stmt_of b))
select_map cs b = act_select cs b ∙ (λ i. p.Select (arms_map cs i) (block_map b i))

-- ---- the stack

pub stack_none : stack_of [] ≡ []
unfolding stack_of
stack_none = refl

pub stack_push : (xs : List Frame) (x : Frame) → stack_of (xs ++ x ∷ []) ≡ frame_of x ∷ stack_of xs
unfolding stack_of
stack_push xs x = ap reverse (map-append frame_of xs (x ∷ [])) ∙ reverse-append (map frame_of xs) (frame_of x ∷ [])

pub stack_length : (xs : List Frame) → length (stack_of xs) ≡ length xs
unfolding stack_of
stack_length xs = simp (length-reverse, length-map)

pub put_map : (b : List Statement) (s : Statement) → map stmt_of (b ++ s ∷ []) ≡ map stmt_of b ++ stmt_of s ∷ []
put_map b s = map-append stmt_of b (s ∷ [])

pub ruleset acts = (times_map, while_map, count_map, forever_map, until_map, choose_map, select_map, stack_none, stack_push, put_map)

pub none_ends : (end : End) (here : List p.Stmt) → ended end here [] ≡ None
none_ends e.Close here = refl
none_ends (e.CloseWhen at test) here = refl
none_ends (e.Case at test) here = refl
none_ends e.Otherwise here = refl
none_ends e.ChoiceEnd here = refl

-- ---- how many blocks are open
pub inside_opens : (t : machine.Top) (b : Body) → open_blocks (machine.stage_of (machine.Inside t (body_of b))) ≡ length b.stack
inside_opens t b = simp length-map (stack_length b.stack)

-- ---- one form more
pub read_more : (fs : List Placed) (f : Placed) → read_all (fs ++ f ∷ []) ≡ advanced (read_all fs) f
read_more fs f = fold-append advanced (Going machine.Empty 0) fs (f ∷ [])

-- ---- the last form

pub finish_none : (line : ℕ) (t : Top) (here : List Statement) (stack : List machine.Frame) → stack ≡ [] → Some (machine.Whole (record { head = head_of t.header; given = some_claim t.given; wanted = some_claim t.wanted; body = block_of here; close = line })) ≡ machine.finish line (top_of t) (map stmt_of here) stack
finish_none line t here stack e = ap (λ b. Some (machine.Whole (record { head = head_of t.header; given = some_claim t.given; wanted = some_claim t.wanted; body = b; close = line }))) (block_map here) ∙ sym (ap (machine.finish line (top_of t) (map stmt_of here)) e)

pub finish_some : (line : ℕ) (t : machine.Top) (here : List p.Stmt) (stack rest : List machine.Frame) (f : machine.Frame) → stack ≡ f ∷ rest → machine.finish line t here stack ≡ None
finish_some line t here stack rest f e = ap (machine.finish line t here) e

-- ---- one case more

pub arms_push : (cs : List Case) (x : Case) (line : ℕ) (e : Expr) (b : List Statement) → arm_of x ≡ (line, tree e, block_of b) → map arm_of (cs ++ x ∷ []) ≡ machine.with_arm (map arm_of cs) line (tree e) (map stmt_of b)
arms_push cs x line e b h = map-append arm_of cs (x ∷ []) ∙ ap (λ a. map arm_of cs ++ a ∷ []) (h ∙ ap (λ k. (line, tree e, k)) (block_map b))

-- ---- whether a number is above 100

pub above : (n m : ℕ) → m ≡ n → (IsTrue (nat_lt 100 n) → 100 < m) × (100 < m → IsTrue (nat_lt 100 n))
above n m e = subst (λ k. (IsTrue (nat_lt 100 n) → 100 < k) × (100 < k → IsTrue (nat_lt 100 n))) (sym e) (Decides-ltb 100 n)

pub above_more : (n m : ℕ) → m ≡ n + 1 → (IsTrue (nat_le 100 n) → 100 < m) × (100 < m → IsTrue (nat_le 100 n))
above_more n m e = (λ t. omega (arith, e, leb-true 100 n t), λ h. le-leb 100 n (omega (arith, e, h)))
