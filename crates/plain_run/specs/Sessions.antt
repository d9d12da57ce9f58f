-- What holds of a session between two requests.
use Rattle.std.specs.Prelude.{◌≡◌, ◌≤◌}
use Rattle.km_base.specs.Limits.{most_steps}
use Rattle.run_control.specs.declared.Stage.TheVariants.{NoRun}
use Rattle.text_versions.specs.Edits.{text_after}
use Rattle.plain_run.specs.declared.session.Session.{Session}
use Rattle.plain_run.specs.Kept.{Kept}

abbrev pub kept_in : Session → Kept
kept_in s = record { edits = s.versions; runs = s.runs.count; field = s.field; budget = s.budget }

-- the newest version is analysed, and no run is open
pub record IsSession (s : Session) : Type 0 where
  pub analysed : s.analysed.text ≡ text_after s.versions
  pub over : s.runs.stage ≡ NoRun
  pub allowed : s.budget ≤ most_steps
