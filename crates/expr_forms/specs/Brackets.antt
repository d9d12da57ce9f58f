-- Open brackets, counted from the left.
use Rattle.std.specs.Prelude.{ℕ, ◌+◌, ◌-◌, ◌<◌, List, take, fold}
use Rattle.kumir_tree.specs.declared.token.Token.{Token}
use Rattle.kumir_tree.specs.declared.token.Token.TheVariants as t
use Rattle.kumir_tree.specs.declared.token.Sign.TheVariants as s

-- how many are open behind a token; a closing one takes one away while any is open
abbrev pub open_after : ℕ → Token → ℕ
open_after n (t.Sign s.Open) = n + 1
open_after n (t.Sign s.OpenSquare) = n + 1
open_after n (t.Sign s.Close) = n - 1
open_after n (t.Sign s.CloseSquare) = n - 1
open_after n _ = n

-- how many are open behind these tokens
abbrev pub open_behind : List Token → ℕ
open_behind = fold open_after 0

-- more than 100 are open at some place
abbrev pub IsDeep : List Token → Type 0
IsDeep ts = (place : ℕ) × (100 < open_behind (take place ts))
