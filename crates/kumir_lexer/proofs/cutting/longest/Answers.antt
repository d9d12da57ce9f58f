use Rattle.std.proofs.Common.{◌≡◌, get_or, sym, ◌∙◌, arith}
use Rattle.std.proofs.lemmas.Grind.{get_or_default_zero}
use Rattle.kumir_lexer.proofs.Longest.{longest_word_at, longest_number_at, longest_real_at, longest_literal_at, longest_sign_at, no_literal_at, no_sign_at}
use Rattle.kumir_lexer.proofs.cutting.longest.Goals as goal

pub returns-then-begins-clause-some : goal.returns-then-begins-clause-some
returns-then-begins-clause-some c =
    let first : c.index-text-0.result ≡ get_or c.args.text.now 0 0 = c.index-text-0.is ∙ get_or_default_zero c.args.text.now 0 c.index-text-0.result (omega arith) in
    longest_word_at c.args.is_after_name c.args.text.now _ _ c.requires first (sym c.begins.ensures ∙ c.if-begins.true) c.word_len.ensures.prefix

pub returns-then-real-gt0-clause-some : goal.returns-then-real-gt0-clause-some
returns-then-real-gt0-clause-some c =
    let first : c.index-text-0.result ≡ get_or c.args.text.now 0 0 = c.index-text-0.is ∙ get_or_default_zero c.args.text.now 0 c.index-text-0.result (omega arith) in
    longest_real_at c.args.is_after_name c.args.text.now _ _ c.requires first (sym c.begins.ensures ∙ c.if-begins.false) (sym c.is_digit.ensures ∙ c.if-is_digit.true) c.real_len-real.ensures.prefix c.real_len-real.ensures.within c.if-real-gt0.true

pub returns-else-real-gt0-clause-some : goal.returns-else-real-gt0-clause-some
returns-else-real-gt0-clause-some c =
    let first : c.index-text-0.result ≡ get_or c.args.text.now 0 0 = c.index-text-0.is ∙ get_or_default_zero c.args.text.now 0 c.index-text-0.result (omega arith) in
    longest_number_at c.args.is_after_name c.args.text.now _ _ _ c.requires first (sym c.begins.ensures ∙ c.if-begins.false) (sym c.is_digit.ensures ∙ c.if-is_digit.true) c.digits_len.ensures.prefix c.real_len-real.ensures.prefix c.if-real-gt0.false

pub returns-then-literal-gt0-clause-some : goal.returns-then-literal-gt0-clause-some
returns-then-literal-gt0-clause-some c =
    let first : c.index-text-0.result ≡ get_or c.args.text.now 0 0 = c.index-text-0.is ∙ get_or_default_zero c.args.text.now 0 c.index-text-0.result (omega arith) in
    longest_literal_at c.args.is_after_name c.args.text.now _ _ c.requires first (sym c.begins.ensures ∙ c.if-begins.false) (sym c.is_quote.ensures ∙ c.if-is_quote.true) c.literal_len-literal.ensures.prefix c.literal_len-literal.ensures.within c.if-literal-gt0.true

pub returns-else-literal-gt0-clause-none : goal.returns-else-literal-gt0-clause-none
returns-else-literal-gt0-clause-none c =
    let first : c.index-text-0.result ≡ get_or c.args.text.now 0 0 = c.index-text-0.is ∙ get_or_default_zero c.args.text.now 0 c.index-text-0.result (omega arith) in
    no_literal_at c.args.is_after_name c.args.text.now _ _ c.requires first (sym c.begins.ensures ∙ c.if-begins.false) (sym c.is_quote.ensures ∙ c.if-is_quote.true) c.literal_len-literal.ensures.prefix c.if-literal-gt0.false

pub returns-then-sign-gt0-clause-some : goal.returns-then-sign-gt0-clause-some
returns-then-sign-gt0-clause-some c =
    let first : c.index-text-0.result ≡ get_or c.args.text.now 0 0 = c.index-text-0.is ∙ get_or_default_zero c.args.text.now 0 c.index-text-0.result (omega arith) in
    longest_sign_at c.args.is_after_name c.args.text.now _ _ c.requires first (sym c.begins.ensures ∙ c.if-begins.false) (sym c.is_digit.ensures ∙ c.if-is_digit.false) (sym c.is_quote.ensures ∙ c.if-is_quote.false) c.sign_len-sign.ensures.prefix c.sign_len-sign.ensures.within c.if-sign-gt0.true

pub returns-else-sign-gt0-clause-none : goal.returns-else-sign-gt0-clause-none
returns-else-sign-gt0-clause-none c =
    let first : c.index-text-0.result ≡ get_or c.args.text.now 0 0 = c.index-text-0.is ∙ get_or_default_zero c.args.text.now 0 c.index-text-0.result (omega arith) in
    no_sign_at c.args.is_after_name c.args.text.now _ _ c.requires first (sym c.begins.ensures ∙ c.if-begins.false) (sym c.is_digit.ensures ∙ c.if-is_digit.false) (sym c.is_quote.ensures ∙ c.if-is_quote.false) c.sign_len-sign.ensures.prefix c.if-sign-gt0.false
