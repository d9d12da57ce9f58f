-- What is local at a place has a slot, and so has `знач` in an algorithm with a kind.
use Rattle.std.proofs.Common.{◌≡◌, ℕ, Bool, true, false, cond, List, [], ◌∷◌, ◌++◌, map, Option, Some, None, refl, sym, ap, subst, append_assoc}
use Rattle.std.specs.Prelude.{nat_eq}
use Rattle.std.specs.Cmp.Lexicographic.{pointwise}
use Rattle.std.proofs.lemmas.Slice.Eq.{bytes_eq-Decides}
use Rattle.kumir_tree.specs.declared.kind.Kind.{Kind}
use Rattle.kumir_names.specs.Variables.{Names, parameters, variable}
use Rattle.kumir_meaning.specs.Program.{Placed, block_names}
use Rattle.kumir_meaning.specs.Store.{CellName, TheAnswer, Local}
use Rattle.kumir_compiler.specs.Code.{answer_of, variables_of}
use Rattle.kumir_compiler.specs.Compilable.{IsThere}
use Rattle.kumir_compiler.proofs.Variables.{is_among, same_itself, among_behind}

-- these names are among the variables
abbrev pub In : List CellName → Names → Type 0
In names [] = Unit {0}
In names (l ∷ ls) = (is_among names (Local l.0) ≡ true) × In names ls

in_both : (names : List CellName) (xs ys : Names) → In names xs → In names ys → In names (xs ++ ys)
in_both names [] ys i j = j
in_both names (x ∷ xs) ys i j = (i.0, in_both names xs ys i.1 j)

pub in_front : (names : List CellName) (xs ys : Names) → In names (xs ++ ys) → In names xs
in_front names [] ys i = tt
in_front names (x ∷ xs) ys i = (i.0, in_front names xs ys i.1)

pub in_back : (names : List CellName) (xs ys : Names) → In names (xs ++ ys) → In names ys
in_back names [] ys i = i
in_back names (x ∷ xs) ys i = in_back names xs ys i.1

local_in : (names : List CellName) (ls : Names) (x : List ℕ) → In names ls → IsThere (variable ls x) → is_among names (Local x) ≡ true
local_in names [] x i there = absurd there
local_in names (l ∷ ls) x i there = go (pointwise nat_eq x l.0) refl (local_in names ls x i.1) there
  where
    go : (b : Bool) → pointwise nat_eq x l.0 ≡ b → (IsThere (variable ls x) → is_among names (Local x) ≡ true) → IsThere (cond b (Some l.1) (variable ls x)) → is_among names (Local x) ≡ true
    go true e later t1 = subst (λ y. is_among names (Local y) ≡ true) (sym ((bytes_eq-Decides x l.0).0 e)) i.0
    go false e later t1 = later t1

pub record Slotted (names : List CellName) (gives : Option Kind) (locals : Names) : Type 0 where
  pub locals_in : In names locals
  pub answer_in : IsThere gives → is_among names TheAnswer ≡ true

pub has_slot : (names : List CellName) (gives : Option Kind) (locals : Names) → Slotted names gives locals → (x : List ℕ) → IsThere (variable locals x) → is_among names (Local x) ≡ true
has_slot names gives locals sc x there = local_in names locals x sc.locals_in there

pub more_slotted : (names : List CellName) (gives : Option Kind) (locals ls : Names) → In names ls → Slotted names gives locals → Slotted names gives (locals ++ ls)
more_slotted names gives locals ls i sc = record { locals_in = in_both names locals ls sc.locals_in i; answer_in = sc.answer_in }

-- ---- an algorithm
all_in : (before : List CellName) (ls : Names) → In (before ++ map (λ l. Local l.0) ls) ls
all_in before [] = tt
all_in before (l ∷ ls) =
    let tail : List CellName = map (λ m. Local m.0) ls in (
      among_behind before (Local l.0 ∷ tail) (Local l.0) (ap (λ b. cond b true (is_among tail (Local l.0))) (same_itself (Local l.0))),
      subst (λ m. In m ls) (append_assoc before (Local l.0 ∷ []) tail) (all_in (before ++ Local l.0 ∷ []) ls),
    )

answer_there : (o : Option Kind) (more : List CellName) → IsThere o → is_among (answer_of o ++ more) TheAnswer ≡ true
answer_there None more there = absurd there
answer_there (Some k) more there = refl

all_names_in : (a : Placed) → In (variables_of a) (parameters a.algorithm.head.params ++ block_names a.algorithm.body)
all_names_in a = all_in (answer_of a.algorithm.head.gives) (parameters a.algorithm.head.params ++ block_names a.algorithm.body)

pub header_slotted : (a : Placed) → Slotted (variables_of a) a.algorithm.head.gives (parameters a.algorithm.head.params)
header_slotted a = record {
  locals_in = in_front (variables_of a) (parameters a.algorithm.head.params) (block_names a.algorithm.body) (all_names_in a);
  answer_in = answer_there a.algorithm.head.gives (map (λ l. Local l.0) (parameters a.algorithm.head.params ++ block_names a.algorithm.body));
}

pub body_in : (a : Placed) → In (variables_of a) (block_names a.algorithm.body)
body_in a = in_back (variables_of a) (parameters a.algorithm.head.params) (block_names a.algorithm.body) (all_names_in a)
