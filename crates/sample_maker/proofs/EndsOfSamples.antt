-- A run of `sample` that put nothing.
use Rattle.std.proofs.Common.{◌≡◌, ℕ, ◌<◌, ◌++◌, List, length, length-append, inr, refl, arith}
use Rattle.std.specs.Prelude.{codes}
use Rattle.km_ports.specs.Ports.{SinkState}
use Rattle.km_ports.specs.declared.status.Status.TheVariants as status
use Rattle.km_ports.proofs.PortLaws.{PutsInto-nothing}
use Rattle.sample_maker.specs.declared.printed.Summary.{Summary}
use Rattle.sample_maker.specs.Summaries.{IsSummaryOf, printed_summary}
use Rattle.sample_maker.specs.SampleRuns.{IsSampleRun}

longer : (xs ys : List ℕ) → 0 < length xs → 0 < length (xs ++ ys)
longer xs ys some = omega (arith, some, length-append xs ys)

some_bytes : (s : Summary) → 0 < length (printed_summary s)
some_bytes s =
    let word : length (codes "sample ") ≡ 7 = refl in
    longer (codes "sample ") _ (omega (arith, word))

pub bare_run : (number : ℕ) (sink : SinkState) → (s : Summary) × IsSummaryOf number s → IsSampleRun number sink sink status.Memory
bare_run number sink s = record {
  listed = inr (inr refl);
  done = λ e. absurd (let none : ⊥ = cc in none);
  less = λ other. (printed_summary s.0, (s.0, s.1, refl), (0, some_bytes s.0, PutsInto-nothing sink));
  write = λ e. absurd (let none : ⊥ = cc in none);
  no_write = λ other. refl;
}
