-- The work of `simrun` on its input, from what it did with the program.
use Rattle.std.proofs.Common.{◌≡◌, ◌⊎◌, ℕ, inl, inr, refl, List}
use Rattle.std.specs.declared.option.Option.{Option}
use Rattle.std.proofs.KnownBytes.{Keeps-refl}
use Rattle.asm_text.specs.declared.asm_fault.AsmFault.{AsmFault}
use Rattle.asm_text.specs.declared.asm_fault.AsmFault.TheVariants as assembly
use Rattle.asm_text.specs.AssemblyText.{IsAssembly}
use Rattle.asm_text.specs.FirstFault.{FirstFault}
use Rattle.asm_text.specs.Program.{MProgram}
use Rattle.command_words.specs.declared.run_options.RunOptions.{RunOptions}
use Rattle.outcomes.specs.declared.outcome.Outcome.{Outcome}
use Rattle.outcomes.specs.declared.outcome.Outcome.TheVariants as outcome
use Rattle.outcomes.specs.Work.{DidWork}
use Rattle.input_parts.specs.InputMark.{IsParted}
use Rattle.simrun_tool.specs.AssemblyFaults.{of_assembly}
use Rattle.simrun_tool.specs.Simulation.{IsSimulation, RefusesSimrun}
use Rattle.simrun_tool.specs.ProgramRan.{ProgramRan}

-- a program was run, or had no label main
pub simulated : (o : RunOptions) (p : MProgram) (input assembly bytes : List ℕ) (taken taken_after : Option (List ℕ)) (faults faults_after : ℕ) (out : Outcome) → IsParted input assembly bytes → IsAssembly assembly p → ProgramRan o p bytes taken taken_after faults faults_after out → DidWork (IsSimulation o input) (RefusesSimrun input) taken taken_after faults faults_after out
simulated o p input assembly bytes taken taken_after faults faults_after (outcome.Done end) parted is (text, run, took, sound) =
    (text, record { assembly = assembly; bytes = bytes; parted = parted; program = p; is_assembly = is; run = run }, took, sound)
simulated o p input assembly bytes taken taken_after faults faults_after (outcome.Refused why) parted is ((same, none), kept, sound) =
    ((assembly, bytes, parted, inr (same, (p, is, none))), kept, sound)
simulated o p input assembly bytes taken taken_after faults faults_after outcome.WriteFault parted is (end, text, run, part, rose) =
    (end, text, record { assembly = assembly; bytes = bytes; parted = parted; program = p; is_assembly = is; run = run }, part, rose)
simulated o p input assembly bytes taken taken_after faults faults_after outcome.Memory parted is kept = kept
simulated o p input assembly bytes taken taken_after faults faults_after out parted is none = absurd none

first : (text : List ℕ) (f : AsmFault) → (f ≡ assembly.Memory → ⊥) → (f ≡ assembly.Memory) ⊎ FirstFault text f → FirstFault text f
first text f other (inl is) = absurd (other is)
first text f other (inr fault) = fault

-- the text had a fault, or memory was wanted
pub not_read : (o : RunOptions) (input text bytes : List ℕ) (taken : Option (List ℕ)) (faults : ℕ) (f : AsmFault) → IsParted input text bytes → (f ≡ assembly.Memory) ⊎ FirstFault text f → DidWork (IsSimulation o input) (RefusesSimrun input) taken taken faults faults (of_assembly f)
not_read o input text bytes taken faults (assembly.BadLine n) parted fault = ((text, bytes, parted, inl (assembly.BadLine n, first text _ (λ e. cc) fault, refl)), Keeps-refl taken, refl)
not_read o input text bytes taken faults (assembly.UnknownInstruction n) parted fault = ((text, bytes, parted, inl (assembly.UnknownInstruction n, first text _ (λ e. cc) fault, refl)), Keeps-refl taken, refl)
not_read o input text bytes taken faults (assembly.BadOperand n) parted fault = ((text, bytes, parted, inl (assembly.BadOperand n, first text _ (λ e. cc) fault, refl)), Keeps-refl taken, refl)
not_read o input text bytes taken faults (assembly.DoubleLabel n) parted fault = ((text, bytes, parted, inl (assembly.DoubleLabel n, first text _ (λ e. cc) fault, refl)), Keeps-refl taken, refl)
not_read o input text bytes taken faults (assembly.UnknownLabel n) parted fault = ((text, bytes, parted, inl (assembly.UnknownLabel n, first text _ (λ e. cc) fault, refl)), Keeps-refl taken, refl)
not_read o input text bytes taken faults (assembly.TooLarge n passed) parted fault = ((text, bytes, parted, inl (assembly.TooLarge n passed, first text _ (λ e. cc) fault, refl)), Keeps-refl taken, refl)
not_read o input text bytes taken faults assembly.Memory parted fault = (Keeps-refl taken, refl)
