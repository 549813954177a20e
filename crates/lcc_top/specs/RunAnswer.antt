-- What `simrun` answers to a program's text. A run that has begun takes no memory, so want of memory is answered before the
-- first step alone, and nothing was written by then.
use Rattle.std.specs.Prelude.{ℕ, ◌≡◌, ◌⊎◌, List}
use Rattle.std.specs.declared.option.Option.{Option}
use Rattle.std.specs.Io.KnownBytes.{Keeps}
use Rattle.command_words.specs.declared.run_options.RunOptions.{RunOptions}
use Rattle.outcomes.specs.declared.status.Status.{Status}
use Rattle.outcomes.specs.declared.status.Status.TheVariants as status
use Rattle.simrun_tool.specs.Runnable.{WasCut}
use Rattle.lcc_top.specs.Headline.{RunHeadline}

-- the run has ended, and output, status and report are those of its end; or a write failed; or memory was wanted, and the run
-- hadn't begun: neither the output nor the report took anything
abbrev pub RunAnswer : RunOptions → List ℕ → Option (List ℕ) → Option (List ℕ) → Option (List ℕ) → Option (List ℕ) → Status → Type 0
RunAnswer o input taken taken_after report report_after answer =
    RunHeadline o input taken taken_after report report_after answer
    ⊎ ((answer ≡ status.WriteFault) × WasCut o input taken taken_after)
    ⊎ ((answer ≡ status.Memory) × Keeps taken taken_after × Keeps report report_after)
