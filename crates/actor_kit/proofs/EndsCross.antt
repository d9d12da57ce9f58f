-- The ends of a link can go to another thread, where its items can.
use denote.RattleType.{RattleType}
use denote.Param.Send.{IsSend, sendable}
use Rattle.mail_link.specs.contracts.ends.Sender as Sender
use Rattle.mail_link.specs.contracts.ends.Receiver as Receiver
use Rattle.km_base.proofs.noted.Told.TheLaws.TheKnot
use Rattle.std.proofs.Crossing
use Rattle.mail_link.below.atomic_table.proofs.send_lease.SendLease.TheSendSync as SendLease
use Rattle.mail_link.below.atomic_table.proofs.shared.Seat.TheSendSync as Seat
use Rattle.mail_link.below.atomic_table.proofs.shared.Shared.TheSendSync as Shared

ruleset crossing = (SendLease.the_send, SendLease.the_sync, Seat.the_send, Shared.the_send, Shared.the_sync, Crossing.crosses, TheKnot.crosses, sendable)

pub sender_send : (T : RattleType) → IsSend T → IsSend (Sender.the_row T)
sender_send T s = search crossing depth 60 fits 20000

pub receiver_send : (T : RattleType) → IsSend T → IsSend (Receiver.the_row T)
receiver_send T s = search crossing depth 60 fits 20000
