use Rattle.std.proofs.Common.{◌≡◌, ◌+◌, ◌<◌, inl, true, false, sym, ◌∙◌, arith, get_or}
use Rattle.expr_forms.specs.Tokens.{tokens_of}
use Rattle.line_pieces.specs.Ends.{IsMark, IsFreeColon}
use Rattle.line_pieces.proofs.Places.{mark_same, when_is, colon_is, squares_here, case_here, no_ends, one_further, last_end, count_most}
use Rattle.line_pieces.proofs.pieces.piece_end.Goals as goal

pub returns-then-ends_between-clause-end : goal.returns-then-ends_between-clause-end
returns-then-ends_between-clause-end c =
    inl (mark_same c.args.tokens.now c.loop-at.at c.index-tokens-at.result c.index-tokens-at-in-loop-at.result (omega arith) ∙ (sym c.ends_between.ensures ∙ c.if-ends_between.true))

pub returns-then-ends_between-clause-whole : goal.returns-then-ends_between-clause-whole
returns-then-ends_between-clause-whole c =
    no_ends (tokens_of c.args.tokens.now) c.args.begin (c.loop-at.at + 1) c.requires.begins c.loop-at.invariant.bare
    (λ s. c.loop-at.invariant.first (when_is c.args.tokens.now c.args.begin c.index-tokens-begin.result c.is_when-is_case.result (omega arith) c.is_when-is_case.ensures s))

pub returns-then-closes_case-clause-end : goal.returns-then-closes_case-clause-end
returns-then-closes_case-clause-end c =
    let closes = c.closes_case.ensures.0 c.if-closes_case.true in
    case_here c.args.tokens.now c.args.begin c.loop-at.at c.index-tokens-begin.result c.index-tokens-at.result c.requires.begins c.loop-at.auto.at (omega arith)
    (sym c.is_when-is_case.ensures ∙ closes.0) closes.2
    (sym (squares_here c.args.tokens.now c.args.begin c.loop-at.at c.loop-at.squares c.count_square-squares.result c.index-tokens-at.result c.loop-at.auto.at (omega arith) c.loop-at.invariant.count c.count_square-squares.ensures) ∙ closes.1)
    c.loop-at.invariant.bare (c.loop-at.invariant.first closes.0)

pub returns-then-closes_case-clause-whole : goal.returns-then-closes_case-clause-whole
returns-then-closes_case-clause-whole c =
    no_ends (tokens_of c.args.tokens.now) c.args.begin (c.loop-at.at + 1) c.requires.begins c.loop-at.invariant.bare
    (λ s. c.loop-at.invariant.first (when_is c.args.tokens.now c.args.begin c.index-tokens-begin.result c.is_when-is_case.result (omega arith) c.is_when-is_case.ensures s))

pub loop-at-preserved : goal.loop-at-preserved
loop-at-preserved c =
    let xs = c.args.tokens.now in
    let at = c.loop-at.at in
    let counted = squares_here xs c.args.begin at c.loop-at.squares c.count_square-squares.result c.index-tokens-at.result c.loop-at.auto.at (omega arith) c.loop-at.invariant.count c.count_square-squares.ensures in
    record {
      bound = omega (arith, count_most c.loop-at.squares (get_or xs at c.index-tokens-at.result).token, c.count_square-squares.ensures, c.loop-at.invariant.bound);
      count = counted;
      bare = λ k less below. one_further (λ j. c.args.begin < j → IsMark (tokens_of xs) j → ⊥) (at + 1) (λ j b l. c.loop-at.invariant.bare j l b)
          (λ l mark. let e : true ≡ false = sym mark ∙ (mark_same xs at c.index-tokens-at.result c.index-tokens-at-in-loop-at.result (omega arith) ∙ (sym c.ends_between.ensures ∙ c.if-ends_between.false)) in cc)
          k below less;
      first = λ w k below. one_further (λ j. IsFreeColon (tokens_of xs) c.args.begin j → ⊥) (at + 1) (λ j b. c.loop-at.invariant.first w j b)
          (λ free. let closes : c.closes_case.result ≡ true = c.closes_case.ensures.1 (w, counted ∙ free.2, colon_is xs at c.index-tokens-at.result (omega arith) free.1) in
          let e : true ≡ false = sym closes ∙ c.if-closes_case.false in cc)
          k below;
    }

pub returns-clause-end : goal.returns-clause-end
returns-clause-end c = last_end c.args.tokens.now

pub returns-clause-whole : goal.returns-clause-whole
returns-clause-whole c = λ k less below.
    no_ends (tokens_of c.args.tokens.now) c.args.begin (c.loop-at.at + 1) c.requires.begins c.loop-at.invariant.bare
    (λ s. c.loop-at.invariant.first (when_is c.args.tokens.now c.args.begin c.index-tokens-begin.result c.is_when-is_case.result (omega arith) c.is_when-is_case.ensures s))
    k less (omega arith)
