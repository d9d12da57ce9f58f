-- The views of expressions and statements, an equation for each constructor.
use Rattle.std.specs.Prelude.{ℕ, ℤ, Bool, length, refl, ◌≡◌, List, [], ◌∷◌, Option, map}
use Rattle.std.proofs.Common.{ap, rules, ◌∙◌, arith}
use Rattle.kumir_tree.specs.declared.kind.Op.{Op}
use Rattle.kumir_tree.specs.Tree.{Number, Truth, Answer, Named, Element, Call, Plus, Minus, Not, Binary, ◌then◌, count}
use Rattle.kumir_tree.specs.Program as p
use Rattle.kumir_tree.specs.Program.{◌next◌, arm}
use Rattle.kumir_tree.specs.Seen.{listed, tree, trees, some_tree}
use Rattle.kumir_tree.specs.Parts.{place_of, places_of, all_shown, declares_of}
use Rattle.kumir_tree.specs.Blocks.{Arm, block_listed, arms_listed, act_of, stmt_of, block_of, arms_of}
use Rattle.kumir_tree.specs.declared.expr.Expr.{Expr}
use Rattle.kumir_tree.specs.declared.expr.Expr as expr
use Rattle.kumir_tree.specs.declared.expr.Expr.TheVariants as e
use Rattle.kumir_tree.specs.declared.statement.Target.{Target}
use Rattle.kumir_tree.specs.declared.statement.Item.{Item}
use Rattle.kumir_tree.specs.declared.statement.Declared.{Declared}
use Rattle.kumir_tree.specs.declared.statement.Statement.{Statement}
use Rattle.kumir_tree.specs.declared.statement.Case.{Case, out-Case}
use Rattle.kumir_tree.specs.declared.statement.What as what
use Rattle.kumir_tree.specs.declared.statement.What.TheVariants as w

-- ---- expressions
listed_map : (xs : List Expr) → listed (map tree xs) ≡ trees xs
listed_map [] = refl
listed_map (x ∷ xs) = ap (λ l. tree x then l) (listed_map xs)

pub tree_number : (n : ℤ) → tree (e.Number n) ≡ Number n
unfolding tree
tree_number n = search (rules, expr.the_lemmas)

pub tree_truth : (b : Bool) → tree (e.Truth b) ≡ Truth b
unfolding tree
tree_truth b = search (rules, expr.the_lemmas)

pub tree_answer : tree e.Result ≡ Answer
unfolding tree
tree_answer = search (rules, expr.the_lemmas)

pub tree_named : (x : List ℕ) → tree (e.Named x) ≡ Named x
unfolding tree
tree_named x = search (rules, expr.the_lemmas)

element_map : (f : List ℕ) (xs : List Expr) → tree (e.Element f xs) ≡ Element f (listed (map tree xs))
unfolding tree
element_map f xs = search (rules, expr.the_lemmas)

pub tree_element : (f : List ℕ) (xs : List Expr) → tree (e.Element f xs) ≡ Element f (trees xs)
tree_element f xs = element_map f xs ∙ ap (λ l. Element f l) (listed_map xs)

call_map : (f : List ℕ) (xs : List Expr) → tree (e.Call f xs) ≡ Call f (listed (map tree xs))
unfolding tree
call_map f xs = search (rules, expr.the_lemmas)

pub tree_call : (f : List ℕ) (xs : List Expr) → tree (e.Call f xs) ≡ Call f (trees xs)
tree_call f xs = call_map f xs ∙ ap (λ l. Call f l) (listed_map xs)

pub tree_plus : (a : Expr) → tree (e.Plus a) ≡ Plus (tree a)
unfolding tree
tree_plus a = search (rules, expr.the_lemmas)

pub tree_minus : (a : Expr) → tree (e.Minus a) ≡ Minus (tree a)
unfolding tree
tree_minus a = search (rules, expr.the_lemmas)

pub tree_not : (a : Expr) → tree (e.Not a) ≡ Not (tree a)
unfolding tree
tree_not a = search (rules, expr.the_lemmas)

pub tree_binary : (o : Op) (a b : Expr) → tree (e.Binary o a b) ≡ Binary o (tree a) (tree b)
unfolding tree
tree_binary o a b = search (rules, expr.the_lemmas)

pub count_length : (xs : List Expr) → count (trees xs) ≡ length xs
count_length [] = refl
count_length (x ∷ xs) = omega (arith, count_length xs)

-- ---- statements
block_map : (b : List Statement) → block_listed (map stmt_of b) ≡ block_of b
block_map [] = refl
block_map (s ∷ b) = ap (λ l. stmt_of s next l) (block_map b)

abbrev arm_of : Case → Arm
arm_of c = ((out-Case c).line, tree (out-Case c).condition, block_listed (map stmt_of (out-Case c).body))

arms_map : (cs : List Case) → arms_listed (map arm_of cs) ≡ arms_of cs
arms_map [] = refl
arms_map (c ∷ cs) = λ i. arm (out-Case c).line (tree (out-Case c).condition) (block_map (out-Case c).body i) (arms_map cs i)

pub act_declare : (d : Declared) → act_of (w.Declare d) ≡ p.Declare (declares_of d)
unfolding act_of
act_declare d = search (rules, what.the_lemmas)

pub act_assign : (t : Target) (x : Expr) → act_of (w.Assign t x) ≡ p.Assign (place_of t) (tree x)
unfolding act_of
act_assign t x = search (rules, what.the_lemmas)

pub act_invoke : (f : List ℕ) (xs : List Expr) → act_of (w.Call f xs) ≡ p.Invoke f (trees xs)
unfolding act_of
act_invoke f xs = search (rules, what.the_lemmas)

times_map : (x : Expr) (b : List Statement) → act_of (w.Times x b) ≡ p.Times (tree x) (block_listed (map stmt_of b))
unfolding act_of
times_map x b = search (rules, what.the_lemmas)

pub act_times : (x : Expr) (b : List Statement) → act_of (w.Times x b) ≡ p.Times (tree x) (block_of b)
act_times x b = times_map x b ∙ (λ i. p.Times (tree x) (block_map b i))

while_map : (x : Expr) (b : List Statement) → act_of (w.While x b) ≡ p.While (tree x) (block_listed (map stmt_of b))
unfolding act_of
while_map x b = search (rules, what.the_lemmas)

pub act_while : (x : Expr) (b : List Statement) → act_of (w.While x b) ≡ p.While (tree x) (block_of b)
act_while x b = while_map x b ∙ (λ i. p.While (tree x) (block_map b i))

count_map : (v : List ℕ) (x y : Expr) (z : Option Expr) (b : List Statement) → act_of (w.Count v x y z b) ≡ p.Count v (tree x) (tree y) (some_tree z) (block_listed (map stmt_of b))
unfolding act_of
count_map v x y z b = search (rules, what.the_lemmas)

pub act_count : (v : List ℕ) (x y : Expr) (z : Option Expr) (b : List Statement) → act_of (w.Count v x y z b) ≡ p.Count v (tree x) (tree y) (some_tree z) (block_of b)
act_count v x y z b = count_map v x y z b ∙ (λ i. p.Count v (tree x) (tree y) (some_tree z) (block_map b i))

forever_map : (b : List Statement) → act_of (w.Forever b) ≡ p.Forever (block_listed (map stmt_of b))
unfolding act_of
forever_map b = search (rules, what.the_lemmas)

pub act_forever : (b : List Statement) → act_of (w.Forever b) ≡ p.Forever (block_of b)
act_forever b = forever_map b ∙ (λ i. p.Forever (block_map b i))

until_map : (b : List Statement) (line : ℕ) (x : Expr) → act_of (w.Until b line x) ≡ p.Until (block_listed (map stmt_of b)) line (tree x)
unfolding act_of
until_map b line x = search (rules, what.the_lemmas)

pub act_until : (b : List Statement) (line : ℕ) (x : Expr) → act_of (w.Until b line x) ≡ p.Until (block_of b) line (tree x)
act_until b line x = until_map b line x ∙ (λ i. p.Until (block_map b i) line (tree x))

choose_map : (x : Expr) (a b : List Statement) → act_of (w.Choose x a b) ≡ p.Choose (tree x) (block_listed (map stmt_of a)) (block_listed (map stmt_of b))
unfolding act_of
choose_map x a b = search (rules, what.the_lemmas)

pub act_choose : (x : Expr) (a b : List Statement) → act_of (w.Choose x a b) ≡ p.Choose (tree x) (block_of a) (block_of b)
act_choose x a b = choose_map x a b ∙ (λ i. p.Choose (tree x) (block_map a i) (block_map b i))

select_map : (cs : List Case) (b : List Statement) → act_of (w.Select cs b) ≡ p.Select (arms_listed (map arm_of cs)) (block_listed (map stmt_of b))
unfolding act_of
select_map cs b = search (rules, what.the_lemmas)

pub act_select : (cs : List Case) (b : List Statement) → act_of (w.Select cs b) ≡ p.Select (arms_of cs) (block_of b)
act_select cs b = select_map cs b ∙ (λ i. p.Select (arms_map cs i) (block_map b i))

pub act_assert : (x : Expr) → act_of (w.Assert x) ≡ p.Assert (tree x)
unfolding act_of
act_assert x = search (rules, what.the_lemmas)

pub act_input : (ts : List Target) → act_of (w.Input ts) ≡ p.Input (places_of ts)
unfolding act_of
act_input ts = search (rules, what.the_lemmas)

pub act_output : (xs : List Item) → act_of (w.Output xs) ≡ p.Output (all_shown xs)
unfolding act_of
act_output xs = search (rules, what.the_lemmas)

pub act_leave : act_of w.Leave ≡ p.Leave
unfolding act_of
act_leave = search (rules, what.the_lemmas)

pub act_quit : act_of w.Quit ≡ p.Quit
unfolding act_of
act_quit = search (rules, what.the_lemmas)

pub ruleset views = (tree_number, tree_truth, tree_answer, tree_named, tree_element, tree_call, tree_plus, tree_minus, tree_not, tree_binary, count_length)

pub ruleset acts = (act_declare, act_assign, act_invoke, act_times, act_while, act_count, act_forever, act_until, act_choose, act_select, act_assert, act_input, act_output, act_leave, act_quit)
