-- In which run which count of faults rose.
use Rattle.std.proofs.Common.{◌≡◌, ◌∙◌, Bool, true, false, refl, sym, ap, subst}
use Rattle.std.specs.Prelude.{Result, Err}
use Rattle.km_ports.specs.Ports.{SinkState, Rose, CountsPut}
use Rattle.km_ports.specs.Status.{put_status}
use Rattle.km_ports.specs.declared.port.PutFault.{PutFault}
use Rattle.km_ports.specs.declared.port.PutFault.TheVariants as put_fault
use Rattle.plain_run.specs.Ending.{StopsPut}
use Rattle.km_ports.specs.declared.status.Status.{Status}
use Rattle.km_ports.specs.declared.status.Status.TheVariants as status
use Rattle.plain_run.specs.Runs.{Ports, NothingFailed, SaysFaults}

-- the statuses that say that a port failed
abbrev pub is_fault : Status → Bool
is_fault status.Fine = false
is_fault status.Faults = false
is_fault status.Words = false
is_fault status.Read = true
is_fault status.Write = true
is_fault status.Memory = false
is_fault (status.NotUtf8 place) = false
is_fault (status.TooLong excess) = false

not_read : (s : Status) → is_fault s ≡ false → s ≡ status.Read → ⊥
not_read s other is = let none : ⊥ = cc in none

not_write : (s : Status) → is_fault s ≡ false → s ≡ status.Write → ⊥
not_write s other is = let none : ⊥ = cc in none

pub no_faults : (p : Ports) (s : Status) → is_fault s ≡ false → NothingFailed p → SaysFaults p s
no_faults p s other quiet = record {
  read = λ e. absurd (not_read s other e);
  write = λ e. absurd (not_write s other e);
  no_read = λ e. quiet.0;
  no_write = λ e. quiet.1;
}

pub faults_of_read : (p : Ports) → Rose p.source_before.faults p.source.faults → p.sink.faults ≡ p.sink_before.faults → SaysFaults p status.Read
faults_of_read p rose stood = record {
  read = λ e. rose;
  write = λ e. absurd (let none : ⊥ = cc in none);
  no_read = λ other. absurd (other refl);
  no_write = λ e. stood;
}

pub faults_of_write : (p : Ports) → p.source.faults ≡ p.source_before.faults → Rose p.sink_before.faults p.sink.faults → SaysFaults p status.Write
faults_of_write p stood rose = record {
  read = λ e. absurd (let none : ⊥ = cc in none);
  write = λ e. rose;
  no_read = λ e. stood;
  no_write = λ other. absurd (other refl);
}

-- what stopped the writing, as a status
pub counts_stop : (T U : Type 0) (before now : SinkState) (r : Result U Status) (fault : PutFault) (s : Status) → r ≡ Err s → s ≡ put_status fault → CountsPut {T = T} before now (Err fault) → StopsPut before now r
counts_stop T U before now r put_fault.Failed s is same c = subst (StopsPut before now) (sym (is ∙ ap Err same)) c
counts_stop T U before now r put_fault.Memory s is same c = subst (StopsPut before now) (sym (is ∙ ap Err same)) c
