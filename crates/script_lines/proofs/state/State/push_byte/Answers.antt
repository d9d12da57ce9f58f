use Rattle.std.proofs.Common.{refl}
use Rattle.script_lines.proofs.States.{kept_short, pushed_state, pushed_whole}
use Rattle.script_lines.proofs.state.State.push_byte.Goals as goal

pub keep_byte-requires : goal.keep_byte-requires
keep_byte-requires c = kept_short c.args.self.now c.requires.state

pub returns-clause-state : goal.returns-clause-state
returns-clause-state c = pushed_state c.args.self.now _ c.args.byte c.requires.state c.requires.other c.note.ensures c.in_ok-keep_byte.ensures refl refl

pub returns-clause-requests : goal.returns-clause-requests
returns-clause-requests c = pushed_whole c.args.self.now _ c.args.byte c.requires.other c.note.ensures
