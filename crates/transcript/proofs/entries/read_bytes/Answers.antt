use Rattle.std.proofs.Common.{sym, subst}
use Rattle.std.specs.Str.{IsUtf8}
use Rattle.transcript.proofs.Texts.{entry_is_line}
use Rattle.transcript.proofs.entries.read_bytes.Goals as goal

pub returns-in-Err : goal.returns-in-Err
returns-in-Err c e shown is = c.in-Err.ensures.cases.0 (subst IsUtf8 (sym is) (entry_is_line e shown.0).0)
