-- Which line the program prints on standard error.
use Rattle.std.specs.Prelude.{Option, Some, None}
use Rattle.km_ports.specs.declared.status.Status.{Status}
use Rattle.km_ports.specs.declared.status.Status.TheVariants as status
use Rattle.workbench.specs.declared.complaint.Complaint.{Complaint}
use Rattle.workbench.specs.declared.complaint.Complaint.TheVariants as complaint

abbrev pub complaint_of : Status → Option Complaint
complaint_of status.Fine = None
complaint_of status.Faults = None
complaint_of status.Words = Some complaint.Words
complaint_of status.Read = Some complaint.Read
complaint_of status.Write = Some complaint.Write
complaint_of status.Memory = Some complaint.Memory
complaint_of (status.NotUtf8 place) = Some complaint.NotUtf8
complaint_of (status.TooLong excess) = Some complaint.TooLong
