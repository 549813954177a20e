-- What `simrun` makes of the bytes of its input: the run of the program that they are the text of.
use Rattle.std.specs.Prelude.{◌≡◌, ◌⊎◌, ℕ, List}
use Rattle.asm_text.specs.declared.asm_fault.AsmFault.{AsmFault}
use Rattle.asm_text.specs.AssemblyText.{IsAssembly}
use Rattle.asm_text.specs.FirstFault.{FirstFault}
use Rattle.asm_text.specs.Linked.{HasMain}
use Rattle.asm_text.specs.Program.{MProgram}
use Rattle.mips_machine.specs.Run.{mrun}
use Rattle.outcomes.specs.declared.outcome.End.{End}
use Rattle.outcomes.specs.declared.outcome.Refusal.{Refusal}
use Rattle.outcomes.specs.declared.outcome.Refusal.TheVariants as refusal
use Rattle.command_words.specs.declared.run_options.RunOptions.{RunOptions}
use Rattle.outcomes.specs.declared.outcome.Outcome.TheVariants.{Refused}
use Rattle.machine_runs.specs.Endings.{RunEnds}
use Rattle.outcomes.specs.Behaviour.{Behaviour}
use Rattle.input_parts.specs.InputMark.{IsParted}
use Rattle.simrun_tool.specs.AssemblyFaults.{of_assembly}

-- The program's run prints this text and ends so: so many steps from the label main, in this order of bytes, with a stack
-- of so many bytes and this input.
pub record RunOf (o : RunOptions) (program : MProgram) (bytes : List ℕ) (end : End) (text : List ℕ) : Type 0 where
  pub main : ℕ
  pub has_main : HasMain program main
  pub ran : RunEnds (λ n. mrun program o.order o.stack main bytes n) o.steps text end

-- the input is the text of a program, with what the program reads behind a line `%%`, and its run prints this text and
-- ends so
pub record IsSimulation (o : RunOptions) (input : List ℕ) (end : End) (text : List ℕ) : Type 0 where
  pub assembly : List ℕ
  pub bytes : List ℕ
  pub parted : IsParted input assembly bytes
  pub program : MProgram
  pub is_assembly : IsAssembly assembly program
  pub run : RunOf o program bytes end text

-- the first fault of the assembly is told so
abbrev pub RefusesAssembly : List ℕ → Refusal → Type 0
RefusesAssembly assembly why = (f : AsmFault) × FirstFault assembly f × (of_assembly f ≡ Refused why)

-- the assembly has no code label main
abbrev pub IsIdle : List ℕ → Type 0
IsIdle assembly = (p : MProgram) × IsAssembly assembly p × ((main : ℕ) → HasMain p main → ⊥)

-- the assembly, which stands before the line `%%`, has a fault, and the first is told; or it is a program's text, but has
-- no label main
abbrev pub RefusesSimrun : List ℕ → Refusal → Type 0
RefusesSimrun input why =
    (assembly bytes : List ℕ) × IsParted input assembly bytes
    × (RefusesAssembly assembly why ⊎ ((why ≡ refusal.NoMain) × IsIdle assembly))

abbrev pub simrun_behaviour : RunOptions → Behaviour
simrun_behaviour o = record { Writes = IsSimulation o; Refuses = RefusesSimrun }
