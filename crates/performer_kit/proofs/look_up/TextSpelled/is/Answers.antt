use Rattle.performer_kit.proofs.Spelling.{bytes_eq-chars}
use Rattle.performer_kit.proofs.look_up.TextSpelled.is.Goals as goal

pub returns : goal.returns
returns c =
    let same = bytes_eq-chars _ _ c.as_bytes.ensures.utf8 c.as_bytes-2.ensures.utf8 in
    let text_is = c.as_bytes.ensures.value in
    let name_is = c.as_bytes-2.ensures.value in
    cc
