use Rattle.std.proofs.Common.{◌≡◌, ◌∷◌, [], ◌∙◌, sym, arith, append-nil, append_assoc, length}
use Rattle.std.proofs.lemmas.List.{length-map}
use Rattle.expr_forms.specs.Tokens.{tokens_of}
use Rattle.line_pieces.proofs.Places.{piece_more, semicolon_more, nothing_more}
use Rattle.line_pieces.proofs.pieces.cut.Goals as goal

pub loop-begin-preserved-in_ok-push : goal.loop-begin-preserved-in_ok-push
loop-begin-preserved-in_ok-push c =
    let xs = c.args.tokens.now in
    let e = c.piece_end-end.ensures in
    record {
      in_range = e.within;
      begins = e.end;
      so_far = λ ps h. rw c.in_ok-push.ensures.ok (rw append_assoc (c.loop-begin.invariant.so_far (record { from = c.loop-begin.begin; to = c.piece_end-end.result } ∷ ps)
          (piece_more xs c.loop-begin.begin c.piece_end-end.result c.index-tokens-begin.result ps e.some e.within c.loop-begin-test.true c.loop-begin.invariant.begins e.end e.whole (sym c.is_semicolon.ensures ∙ c.if-not-is_semicolon.true) h)));
    }

pub loop-begin-preserved : goal.loop-begin-preserved
loop-begin-preserved c =
    let xs = c.args.tokens.now in
    let e = c.piece_end-end.ensures in
    record {
      in_range = e.within;
      begins = e.end;
      so_far = λ ps h. c.loop-begin.invariant.so_far ps (semicolon_more xs c.loop-begin.begin c.piece_end-end.result c.index-tokens-begin.result ps e.some e.within c.loop-begin-test.true e.whole (sym c.is_semicolon.ensures ∙ c.if-not-is_semicolon.false) h);
    }

pub returns : goal.returns
returns c =
    let here = nothing_more (tokens_of c.args.tokens.now) c.loop-begin.begin (let e : length (tokens_of c.args.tokens.now) ≡ c.loop-begin.begin = rw length-map (omega (arith, c.loop-begin.invariant.in_range, c.loop-begin-test.false)) in e) in
    rw append-nil at (c.loop-begin.invariant.so_far [] here)
