-- What the work on a checked program with what it reads did to the output: it isn't refused.
use Rattle.std.specs.Prelude.{ℕ, List}
use Rattle.std.specs.declared.option.Option.{Option}
use Rattle.c_meaning.specs.Units.{CoreUnit}
use Rattle.outcomes.specs.declared.outcome.Outcome.{Outcome}
use Rattle.outcomes.specs.Work.{DidWork}
use Rattle.command_words.specs.declared.ceval_options.CevalOptions.{CevalOptions}
use Rattle.ceval_tool.specs.Evaluation.{RunOf}

abbrev pub ProgramRan : CevalOptions → CoreUnit → List ℕ → Option (List ℕ) → Option (List ℕ) → ℕ → ℕ → Outcome → Type 0
ProgramRan o core bytes = DidWork (RunOf o core bytes) (λ why. ⊥)
