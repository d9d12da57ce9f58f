-- A machine that was just made.
use Rattle.std.proofs.Common.{◌≡◌, ℕ, ◌≤◌, ◌<◌, List, [], length, Option, Some, None, refl, sym, ap, ◌∙◌, subst, arith}
use Rattle.std.specs.Prelude.{slice_get}
use Rattle.std.specs.Bool.{IsTrue}
use Rattle.std.proofs.lemmas.Option.{slice_get_within}
use Rattle.performer_kit.specs.declared.commands.Reply.{Reply}
use Rattle.kumir_values.specs.declared.value.Value.{Value}
use Rattle.stack_code.specs.declared.unit.CodeUnit.{CodeUnit}
use Rattle.stack_code.specs.CodeRuns.{start}
use Rattle.stack_code.specs.Validity.{has_no_params, IsValid, ValidCode}
use Rattle.machine_steps.specs.declared.stage.Stage.{Stage}
use Rattle.machine_steps.specs.Progress.{at, StepsTo}
use Rattle.machine_steps.specs.Frames.{AllValid}
use Rattle.machine_steps.specs.Stages.{full_state_of, IsStage}
use Rattle.machine_steps.proofs.EventSteps.{steps_to_none}
use Rattle.kumir_machine.specs.declared.answer.Advanced.{Advanced}
use Rattle.kumir_machine.specs.declared.active.Phase.TheVariants as phase
use Rattle.kumir_machine.specs.Course.{acts_in}
use Rattle.kumir_machine.specs.Phases.{course_of, IsMachine}

pub all_valid : (xs ys : List CodeUnit) (entry : Option ℕ) → xs ≡ ys → IsValid ys entry → AllValid xs
all_valid xs ys entry e h = subst AllValid (sym e) h.each

pub entry_there : (xs ys : List CodeUnit) (o : Option ℕ) (entry : ℕ) → xs ≡ ys → Some entry ≡ o → IsValid ys o → entry < length xs
entry_there xs ys o entry e is h = subst (λ l. entry < length l) (sym e) (go (slice_get ys entry) refl (subst (IsValid ys) (sym is) h).begin)
  where
    go : (o : Option CodeUnit) → slice_get ys entry ≡ o → IsTrue (has_no_params o) → entry < length ys
    go None e h = absurd (let wrong : ⊥ = cc in wrong)
    go (Some u) e h = slice_get_within ys entry u e

pub begun_machine : (code : ValidCode) (units : List CodeUnit) (budget entry : ℕ) (inputs : List Value) (s : Stage) (replies : List Reply) (answers : List Advanced) → code.entry ≡ Some entry → units ≡ code.units
    → IsStage units s → full_state_of units s ≡ at (start entry) inputs → s.inputs ≡ inputs → replies ≡ [] → answers ≡ []
    → IsMachine (course_of code budget (record { stage = s; steps = 0; phase = phase.Ready }) replies answers) (record { stage = s; steps = 0; phase = phase.Ready })
begun_machine code units budget entry inputs s replies answers is same stage begin from none none_yet =
    let there = ap (λ u. full_state_of u s) (sym same) ∙ begin ∙ ap (at (start entry)) (sym from) in (
      let le : 0 ≤ budget = omega arith in le,
      record {
        entry = entry;
        is = is;
        comes =
            subst (λ l. StepsTo code.units (at (start entry) s.inputs) 0 l (acts_in answers) (full_state_of code.units s)) (sym none)
            (subst (λ l. StepsTo code.units (at (start entry) s.inputs) 0 [] (acts_in l) (full_state_of code.units s)) (sym none_yet)
            (subst (λ m. StepsTo code.units (at (start entry) s.inputs) 0 [] [] m) (sym there) (steps_to_none code.units (at (start entry) s.inputs))));
        stage = subst (λ u. IsStage u s) same stage;
      },
    )
