-- How the programs of the computed runs are written down, and what is said of a run.
use Rattle.std.specs.Prelude.{◌≡◌, ℕ, List, [], ◌∷◌, codes, ℤ, pos, Option, Some, None, true}
use Rattle.std.specs.Fmt.{signed_decimal}
use Rattle.kumir_tree.specs.declared.kind.Kind.{Kind}
use Rattle.kumir_tree.specs.declared.kind.Kind.TheVariants as kind
use Rattle.kumir_tree.specs.declared.kind.Mode.{Mode}
use Rattle.kumir_tree.specs.declared.kind.Mode.TheVariants.{Arg}
use Rattle.kumir_tree.specs.declared.kind.Op.TheVariants as op
use Rattle.kumir_tree.specs.Tree.{Tree, Number, Named, Element, Call, Minus, Binary, no_trees, ◌then◌}
use Rattle.kumir_tree.specs.Seen.{listed}
use Rattle.kumir_tree.specs.Part.{Place, ToAnswer, ToScalar, ToElement, ShowValue, ShowText, Scalars, Tables, Formal}
use Rattle.kumir_tree.specs.Program.{Act, Stands, Declare, Assign, Invoke, Output, Block, done, ◌next◌}
use Rattle.kumir_values.specs.declared.value.Value.{Value}
use Rattle.kumir_meaning.specs.Program.{Placed, Program}
use Rattle.kumir_meaning.specs.Runs as runs
use Rattle.kumir_meaning.specs.Runs.{Printed, RunState}
use Rattle.kumir_meaning.specs.Algorithms.{run, run_within}

-- ---- expressions and places

abbrev pub num : ℕ → Tree
num n = Number (pos n)

abbrev pub minus : ℕ → Tree
minus n = Minus (num n)

abbrev pub var : List ℕ → Tree
var x = Named x

-- an element of a table of one dimension, and of two
abbrev pub at : List ℕ → Tree → Tree
at t i = Element t (i then no_trees)

abbrev pub at_both : List ℕ → Tree → Tree → Tree
at_both t i j = Element t (i then j then no_trees)

abbrev pub to : List ℕ → Place
to x = ToScalar x

abbrev pub to_at : List ℕ → Tree → Place
to_at t i = ToElement t (i then no_trees)

abbrev pub to_both : List ℕ → Tree → Tree → Place
to_both t i j = ToElement t (i then j then no_trees)

abbrev pub call : List ℕ → List Tree → Tree
call f es = Call f (listed es)

-- ---- statements, each with its line within the unit

abbrev pub body : List (ℕ × Act) → Block
body [] = done
body (s ∷ more) = Stands s.0 s.1 next body more

abbrev pub whole : List ℕ → Act
whole x = Declare (Scalars kind.Whole (x ∷ []))

abbrev pub table : List ℕ → Tree → Tree → Act
table t low high = Declare (Tables kind.Whole ((t, (low, high) ∷ []) ∷ []))

abbrev pub assign : Place → Tree → Act
assign place e = Assign place e

abbrev pub answer : Tree → Act
answer e = Assign ToAnswer e

abbrev pub invoke : List ℕ → List Tree → Act
invoke f es = Invoke f (listed es)

abbrev pub print : Tree → Act
print e = Output (ShowValue e ∷ [])

abbrev pub say : List ℕ → Act
say text = Output (ShowText text ∷ [])

-- ---- algorithms; an algorithm begins at this line of the text, and its own lines count from 0

abbrev pub scalar : Mode → List ℕ → Formal
scalar mode name = record { mode = mode; kind = kind.Whole; name = name; bounds = None }

abbrev pub array : Mode → List ℕ → Tree → Tree → Formal
array mode name low high = record { mode = mode; kind = kind.Whole; name = name; bounds = Some ((low, high) ∷ []) }

abbrev pub claiming : ℕ → Option (List ℕ) → Option Kind → List Formal → Option (ℕ × Tree) → Option (ℕ × Tree) → List (ℕ × Act) → ℕ → Placed
claiming first name gives params given wanted statements close = record {
  first = first;
  algorithm = record {
    head = record { name = name; gives = gives; params = params; line = 0 };
    given = given;
    wanted = wanted;
    body = body statements;
    close = close;
  };
}

-- the main algorithm, without a name, begins at line 1
abbrev pub main : List (ℕ × Act) → ℕ → Placed
main statements close = claiming 1 None None [] None None statements close

abbrev pub algorithm : ℕ → List ℕ → Option Kind → List Formal → List (ℕ × Act) → ℕ → Placed
algorithm first name gives params statements close = claiming first (Some name) gives params None None statements close

-- `алг цел ф(арг цел n)`, `нач`, `вывод n`, `знач := n`, `кон`: what it is given shows when it is called
abbrev pub shown : ℕ → Placed
shown first =
    algorithm first (codes "ф") (Some kind.Whole) (scalar Arg (codes "n") ∷ []) ((2, print (var (codes "n"))) ∷ (3, answer (var (codes "n"))) ∷ []) 4

abbrev pub show : Tree → Tree
show e = call (codes "ф") (e ∷ [])

-- `1 = div(1, 0)`, which has the fault `divisor`
abbrev pub faulty : Tree
faulty = call (codes "div") (num 1 ∷ num 0 ∷ [])

abbrev pub faulty_claim : Tree
faulty_claim = Binary op.Equal (num 1) faulty

abbrev pub program : List Placed → Program
program algorithms = record { performers = record { robot = true; pen = true }; algorithms = algorithms }

-- ---- what a run prints, and how it stands

abbrev pub number : ℤ → runs.Act
number z = Printed (signed_decimal z)

abbrev pub count : ℕ → runs.Act
count n = number (pos n)

abbrev pub text : List ℕ → runs.Act
text cs = Printed cs

abbrev pub line_feed : runs.Act
line_feed = Printed (10 ∷ [])

-- a program without inputs and replies does this within these steps, and stands so
abbrev pub Gives : Program → ℕ → List runs.Act → RunState → Type 0
Gives p steps acts state = run p [] [] steps ≡ record { acts = acts; state = state }

-- the same on inputs
abbrev pub GivesOn : List Value → Program → ℕ → List runs.Act → RunState → Type 0
GivesOn inputs p steps acts state = run p inputs [] steps ≡ record { acts = acts; state = state }

-- the same where only so many algorithms, and so many elements, may be there
abbrev pub GivesWithin : ℕ → ℕ → Program → ℕ → List runs.Act → RunState → Type 0
GivesWithin depth room p steps acts state =
    run_within (record { depth = depth; room = room }) p [] [] steps ≡ record { acts = acts; state = state }
