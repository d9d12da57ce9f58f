use Rattle.std.proofs.Common.{◌≡◌, ℕ, ◌≤◌, take}
use Rattle.expr_forms.specs.Brackets.{open_behind}
use Rattle.expr_forms.specs.Tokens.{tokens_of}
use Rattle.expr_forms.proofs.brackets.is_deep.Given as goal

abbrev pub invariant-loop-spanned : goal.invariant-loop-spanned
invariant-loop-spanned l = record {
  so_far : l.open_brackets ≡ open_behind (take l.spanned-index (tokens_of l.tokens));
  few : (n : ℕ) → n ≤ l.spanned-index → open_behind (take n (tokens_of l.tokens)) ≤ 100;
}
