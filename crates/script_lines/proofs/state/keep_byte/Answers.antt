use Rattle.std.proofs.Common.{[], ◌∷◌, ◌++◌, length, sym, ap, ◌∙◌, arith}
use Rattle.std.proofs.lemmas.List.{take_all, take_at, length_push}
use Rattle.script_lines.proofs.state.keep_byte.Goals as goal

pub returns-in_ok-push : goal.returns-in_ok-push
returns-in_ok-push c =
    let long = length_push c.args.line.now.items c.args.byte in
    let same = ap length c.as_slice.ensures.value in
    let less = c.if-as_slice-lt-KEPT_BYTES.true in
    c.in_ok-push.ensures.items ∙ sym (take_all 4101 (c.args.line.now.items ++ c.args.byte ∷ []) (omega arith))

pub returns-else-as_slice-lt-KEPT_BYTES : goal.returns-else-as_slice-lt-KEPT_BYTES
returns-else-as_slice-lt-KEPT_BYTES c =
    let same = ap length c.as_slice.ensures.value in
    let more = c.if-as_slice-lt-KEPT_BYTES.false in
    let most = c.requires in
    sym (take_at c.args.line.now.items (c.args.byte ∷ []) 4101 (omega arith))
