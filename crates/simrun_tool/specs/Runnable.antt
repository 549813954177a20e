-- Texts of programs that can be run, and what the output took of a run that was cut.
use Rattle.std.specs.Prelude.{ℕ, List}
use Rattle.std.specs.declared.option.Option.{Option}
use Rattle.lcc_base.specs.Taken.{TookPrefix}
use Rattle.asm_text.specs.AssemblyText.{IsAssembly}
use Rattle.asm_text.specs.Linked.{HasMain}
use Rattle.asm_text.specs.Program.{MProgram}
use Rattle.outcomes.specs.declared.outcome.End.{End}
use Rattle.command_words.specs.declared.run_options.RunOptions.{RunOptions}
use Rattle.input_parts.specs.InputMark.{IsParted}
use Rattle.simrun_tool.specs.Simulation.{IsSimulation}

-- the input is the text of a program that has a code label main, with what the program reads behind a line `%%`
pub record IsRunnable (input : List ℕ) : Type 0 where
  pub assembly : List ℕ
  pub bytes : List ℕ
  pub parted : IsParted input assembly bytes
  pub program : MProgram
  pub is_assembly : IsAssembly assembly program
  pub main : ℕ
  pub has_main : HasMain program main

-- the output took a first part of what the program's run prints
pub record WasCut (o : RunOptions) (input : List ℕ) (taken taken_after : Option (List ℕ)) : Type 0 where
  pub end : End
  pub text : List ℕ
  pub simulation : IsSimulation o input end text
  pub part : TookPrefix taken taken_after text
