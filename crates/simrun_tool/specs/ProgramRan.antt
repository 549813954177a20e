-- What the work on a program with what it reads did to the output.
use Rattle.std.specs.Prelude.{ℕ, ◌≡◌, List}
use Rattle.std.specs.declared.option.Option.{Option}
use Rattle.asm_text.specs.Linked.{HasMain}
use Rattle.asm_text.specs.Program.{MProgram}
use Rattle.outcomes.specs.declared.outcome.Outcome.{Outcome}
use Rattle.outcomes.specs.declared.outcome.Refusal.{Refusal}
use Rattle.outcomes.specs.declared.outcome.Refusal.TheVariants as refusal
use Rattle.outcomes.specs.Work.{DidWork}
use Rattle.command_words.specs.declared.run_options.RunOptions.{RunOptions}
use Rattle.simrun_tool.specs.Simulation.{RunOf}

-- why a program isn't run
abbrev pub IsNotRun : MProgram → Refusal → Type 0
IsNotRun p why = (why ≡ refusal.NoMain) × ((main : ℕ) → HasMain p main → ⊥)

abbrev pub ProgramRan : RunOptions → MProgram → List ℕ → Option (List ℕ) → Option (List ℕ) → ℕ → ℕ → Outcome → Type 0
ProgramRan o p bytes = DidWork (RunOf o p bytes) (IsNotRun p)
