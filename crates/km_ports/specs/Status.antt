-- The numbers of the statuses, and which of them a port's refusal becomes.
use Rattle.std.specs.Prelude.{ℕ}
use Rattle.km_ports.specs.declared.status.Status.{Status}
use Rattle.km_ports.specs.declared.status.Status.TheVariants.{Fine, Faults, Words, Read, Write, Memory, NotUtf8, TooLong}
use Rattle.km_ports.specs.declared.status.Excess.TheVariants as excess
use Rattle.km_ports.specs.declared.port.PutFault.{PutFault}
use Rattle.km_ports.specs.declared.port.PutFault.TheVariants as put_fault
use Rattle.km_ports.specs.declared.whole.ReadRefusal.{ReadRefusal}
use Rattle.km_ports.specs.declared.whole.ReadRefusal.TheVariants as refusal

abbrev pub status_number : Status → ℕ
status_number Fine = 0
status_number Faults = 1
status_number Words = 2
status_number Read = 3
status_number Write = 4
status_number Memory = 5
status_number (NotUtf8 place) = 6
status_number (TooLong excess) = 7

-- why a text was not put
abbrev pub put_status : PutFault → Status
put_status put_fault.Failed = Write
put_status put_fault.Memory = Memory

-- why an input was not read to its end
abbrev pub read_status : ReadRefusal → Status
read_status refusal.Failed = Read
read_status refusal.TooLong = TooLong excess.Bytes
read_status refusal.Memory = Memory
