-- The headline of `lburg cover`, over the bytes that the input had left and the bytes that the output took: where
-- the status is Ok or NoCover, the input is a description's text with a tail of trees, the bytes taken are the
-- trees' cover text, and the status is Ok exactly where each tree has a derivation, else NoCover with the number of
-- trees that have none on the report.
use Rattle.std.specs.Prelude.{ℕ, ◌≡◌, ◌<◌, ◌⊎◌, ◌++◌, List, [], codes, decimal}
use Rattle.std.specs.declared.option.Option.{Option}
use Rattle.std.specs.Io.KnownBytes.{Appends}
use Rattle.outcomes.specs.declared.status.Status.{Status}
use Rattle.outcomes.specs.declared.status.Status.TheVariants as status
use Rattle.outcomes.specs.declared.outcome.End.{End}
use Rattle.command_words.specs.declared.ceval_options.CevalOptions.{CevalOptions}
use Rattle.command_words.specs.declared.run_options.RunOptions.{RunOptions}
use Rattle.outcomes.specs.Outcome.{end_status, end_line}
use Rattle.lburg_tool.specs.Cover.{IsCover}
use Rattle.simrun_tool.specs.Simulation.{IsSimulation}
use Rattle.rcc_tool.specs.Compilation.{IsCompilation}
use Rattle.ceval_tool.specs.Evaluation.{IsEvaluation}

-- the status and the report where so many trees have no derivation
abbrev pub IsAnswer : ℕ → Status → Option (List ℕ) → Option (List ℕ) → Type 0
IsAnswer uncovered answer report report_after =
    ((uncovered ≡ 0) × (answer ≡ status.Ok) × Appends report report_after [])
    ⊎ ((0 < uncovered) × (answer ≡ status.NoCover) × Appends report report_after (codes "no cover: " ++ decimal uncovered ++ codes "\n"))

pub record CoverHeadline (input : List ℕ) (taken taken_after report report_after : Option (List ℕ)) (answer : Status) : Type 0 where
  pub text : List ℕ
  pub uncovered : ℕ
  pub cover : IsCover input text uncovered
  pub written : Appends taken taken_after text
  pub answered : IsAnswer uncovered answer report report_after

-- The headline of `simrun`: the input is a program's text, with what the program reads behind a line `%%`, and output,
-- status and report are those of its run, of so many steps, in this order of bytes and with this stack.
pub record RunHeadline (o : RunOptions) (input : List ℕ) (taken taken_after report report_after : Option (List ℕ)) (answer : Status) : Type 0 where
  pub end : End
  pub text : List ℕ
  pub simulation : IsSimulation o input end text
  pub written : Appends taken taken_after text
  pub answered : answer ≡ end_status end
  pub reported : Appends report report_after (end_line end)

-- The headline of `rcc`: the input is the text of a program of the first form, and the bytes taken are the text of an
-- assembly that is made by best derivations, keeps its bounds, and does what the program does.
pub record CompilerHeadline (input : List ℕ) (taken taken_after : Option (List ℕ)) : Type 0 where
  pub text : List ℕ
  pub compilation : IsCompilation input text
  pub written : Appends taken taken_after text

-- The headline of `ceval`: the input is the source of a program, with what the program reads behind a line `%%`, and output,
-- status and report are those of its run by the meaning of C, with so many turns and in this order of bytes.
pub record EvaluationHeadline (o : CevalOptions) (input : List ℕ) (taken taken_after report report_after : Option (List ℕ)) (answer : Status) : Type 0 where
  pub end : End
  pub text : List ℕ
  pub evaluation : IsEvaluation o input end text
  pub written : Appends taken taken_after text
  pub answered : answer ≡ end_status end
  pub reported : Appends report report_after (end_line end)
