use Rattle.std.proofs.Common.{rules, ◌≡◌, ◌+◌, take, arith}
use Rattle.expr_forms.specs.Brackets.{open_behind}
use Rattle.expr_forms.specs.Tokens.{tokens_of}
use Rattle.expr_forms.proofs.Depths.{behind_more, few_more}
use Rattle.expr_forms.proofs.brackets.is_deep.Goals as goal

pub returns-then-open_brackets-gt-OPEN_BRACKETS : goal.returns-then-open_brackets-gt-OPEN_BRACKETS
returns-then-open_brackets-gt-OPEN_BRACKETS c =
    let here = behind_more c.args.tokens.now c.loop-spanned.spanned-index c.open_after-open_brackets.result c.loop-spanned.open_brackets c.spanned-item.result c.loop-spanned-test.true c.spanned-item.is c.loop-spanned.invariant.so_far c.open_after-open_brackets.ensures in
    (λ _. (c.loop-spanned.spanned-index + 1, omega (arith, here, c.if-open_brackets-gt-OPEN_BRACKETS.true)), search rules)

pub loop-spanned-preserved : goal.loop-spanned-preserved
loop-spanned-preserved c =
    let here : c.open_after-open_brackets.result ≡ open_behind (take (c.loop-spanned.spanned-index + 1) (tokens_of c.args.tokens.now)) = behind_more c.args.tokens.now c.loop-spanned.spanned-index c.open_after-open_brackets.result c.loop-spanned.open_brackets c.spanned-item.result c.loop-spanned-test.true c.spanned-item.is c.loop-spanned.invariant.so_far c.open_after-open_brackets.ensures in
    record {
      so_far = here;
      few = few_more (λ n. open_behind (take n (tokens_of c.args.tokens.now))) c.loop-spanned.spanned-index 100 c.loop-spanned.invariant.few (omega (arith, here));
    }
