-- With which status a command ends.
use Rattle.std.specs.Prelude.{◌≡◌, Result, Ok, Err}
use Rattle.km_ports.specs.Ports.{SinkState, Rose}
use Rattle.km_ports.specs.declared.port.PutFault.{PutFault}
use Rattle.km_ports.specs.Status.{put_status}
use Rattle.km_ports.specs.declared.status.Status.{Status}
use Rattle.km_ports.specs.declared.status.Status.TheVariants as status

-- work that ends with the status `done` once its text was put
abbrev pub ended : {T : Type 0} → Status → Result T PutFault → Status
ended done (Ok put) = done
ended done (Err fault) = put_status fault

-- what stopped the writing, by the sink's count of faults: it rose exactly where Write is answered
abbrev pub StopsPut : {T : Type 0} → SinkState → SinkState → Result T Status → Type 0
StopsPut before now (Ok put) = now.faults ≡ before.faults
StopsPut before now (Err status.Write) = Rose before.faults now.faults
StopsPut before now (Err status.Memory) = now.faults ≡ before.faults
StopsPut before now (Err other) = ⊥
