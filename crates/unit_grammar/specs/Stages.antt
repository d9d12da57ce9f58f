-- How far a unit has come, and what may stand next.
use Rattle.std.specs.Prelude.{◌≡◌, ℕ, ◌+◌, List, [], ◌∷◌, Option, Some, None, length}
use Rattle.kumir_tree.specs.Piece as p
use Rattle.kumir_tree.specs.Piece.{Piece}
use Rattle.unit_grammar.specs.Grammar.{Placed}

-- a block that is open, by what may end its statements
pub data Open : Type 0 where
  -- `кц`
  InLoop : Open
  -- `кц` or `кц при`: a loop without a head
  InForever : Open
  -- `иначе` or `все`: behind `то`
  InThen : Open
  -- `при`, `иначе` or `все`: behind the `:` of a `при`
  InCase : Open
  -- `все`: behind `иначе`
  InOtherwise : Open

pub data Stage : Type 0 where
  -- before the header
  Start : Stage
  -- behind the header, `дано`, `надо`
  Headed : Stage
  HasGiven : Stage
  HasWanted : Stage
  -- among statements, with the open blocks, the innermost first
  Within : List Open → Stage
  -- behind `если`, where `то` is due, and behind `выбор`, where `при` is due, with the blocks around it
  DueThen : List Open → Stage
  DueCase : List Open → Stage
  -- behind `кон`
  Over : Stage

-- what may stand among statements, by the open blocks
abbrev pub within : List Open → Piece → Option Stage
within opens (p.Declare d) = Some (Within opens)
within opens (p.Assign t e) = Some (Within opens)
within opens (p.Invoke x es) = Some (Within opens)
within opens (p.Assert e) = Some (Within opens)
within opens (p.Input ts) = Some (Within opens)
within opens (p.Output xs) = Some (Within opens)
within opens p.Leave = Some (Within opens)
within opens p.Quit = Some (Within opens)
within opens (p.Times e) = Some (Within (InLoop ∷ opens))
within opens (p.While e) = Some (Within (InLoop ∷ opens))
within opens (p.Count x from to step) = Some (Within (InLoop ∷ opens))
within opens p.Forever = Some (Within (InForever ∷ opens))
within opens (p.Choose e) = Some (DueThen opens)
within opens p.Select = Some (DueCase opens)
within (InLoop ∷ opens) p.Close = Some (Within opens)
within (InForever ∷ opens) p.Close = Some (Within opens)
within (InForever ∷ opens) (p.CloseWhen e) = Some (Within opens)
within (InCase ∷ opens) (p.When e) = Some (Within (InCase ∷ opens))
within (InThen ∷ opens) p.Otherwise = Some (Within (InOtherwise ∷ opens))
within (InCase ∷ opens) p.Otherwise = Some (Within (InOtherwise ∷ opens))
within (InThen ∷ opens) p.ChoiceEnd = Some (Within opens)
within (InCase ∷ opens) p.ChoiceEnd = Some (Within opens)
within (InOtherwise ∷ opens) p.ChoiceEnd = Some (Within opens)
within [] p.Finish = Some Over
within opens form = None

-- what may stand next
abbrev pub next : Stage → Piece → Option Stage
next Start (p.Header h) = Some Headed
next Headed (p.Given e) = Some HasGiven
next Headed (p.Wanted e) = Some HasWanted
next Headed p.Begin = Some (Within [])
next HasGiven (p.Wanted e) = Some HasWanted
next HasGiven p.Begin = Some (Within [])
next HasWanted p.Begin = Some (Within [])
next (Within opens) form = within opens form
next (DueThen opens) p.Then = Some (Within (InThen ∷ opens))
next (DueCase opens) (p.When e) = Some (Within (InCase ∷ opens))
next stage form = None

infixl 10 ◌>>=◌
abbrev pub ◌>>=◌ : {A B : Type 0} → Option A → (A → Option B) → Option B
None >>= f = None
(Some x) >>= f = f x

-- the stage behind the forms, where each of them may stand in its place
abbrev pub stage_from : Stage → List Placed → Option Stage
stage_from stage [] = Some stage
stage_from stage (f ∷ fs) = next stage f.1 >>= (λ later. stage_from later fs)

-- each of the forms may stand in its place
abbrev pub Begins : List Placed → Type 0
Begins forms = (stage : Stage) × (stage_from Start forms ≡ Some stage)

-- how many blocks are open; `если` and `выбор` open one themselves
abbrev pub open_blocks : Stage → ℕ
open_blocks (Within opens) = length opens
open_blocks (DueThen opens) = length opens + 1
open_blocks (DueCase opens) = length opens + 1
open_blocks _ = 0
