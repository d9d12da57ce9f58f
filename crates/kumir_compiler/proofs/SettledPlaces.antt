-- Places that are checked.
use Rattle.std.proofs.Common.{◌≡◌, ℕ, List, Ok, Err, refl}
use Rattle.std.specs.Prelude.{ℤ}
use Rattle.kumir_values.specs.declared.run_end.RunFault.{RunFault}
use Rattle.kumir_meaning.specs.Store.{AtElement, Local, Store, checked, settled}

pub settled_ok : (x : List ℕ) (index at : List ℤ) (s : Store) → checked (s.cells (Local x)) index ≡ Ok at → settled (AtElement x index) s ≡ Ok (AtElement x at)
settled_ok x index at s e = rw e refl

pub settled_err : (x : List ℕ) (index : List ℤ) (s : Store) (fault : RunFault) → checked (s.cells (Local x)) index ≡ Err fault → settled (AtElement x index) s ≡ Err fault
settled_err x index s fault e = cc
