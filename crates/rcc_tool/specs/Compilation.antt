-- What `rcc` makes of the bytes of its input: the text of the assembly of the input's program.
use Rattle.std.specs.Prelude.{◌≤◌, ℕ, ◌+◌, ◌*◌, List, length}
use Rattle.asm_text.specs.Addresses.{code_start, data_start}
use Rattle.asm_text.specs.AssemblyText.{IsText}
use Rattle.asm_text.specs.Linked.{HasMain}
use Rattle.asm_text.specs.Program.{MProgram as MAssembly}
use Rattle.asm_text.specs.RunsAs.{RunsAs}
use Rattle.mips_machine.specs.Run.{mrun}
use Rattle.first_form.specs.FirstProgram.{MProgram}
use Rattle.first_form.specs.FirstForm.{IsFirst}
use Rattle.first_form.specs.Meaning.{output, status}
use Rattle.first_forest.specs.FirstForest.{unit_of}
use Rattle.mips_target.specs.UnitAssembly.{IsUnitAssembly}
use Rattle.rcc_tool.specs.Room.{room_of, most_instructions}
use Rattle.outcomes.specs.declared.outcome.End.{End}
use Rattle.outcomes.specs.declared.outcome.End.TheVariants as ends
use Rattle.outcomes.specs.declared.outcome.Refusal.{Refusal}
use Rattle.outcomes.specs.declared.outcome.Refusal.TheVariants as refusal
use Rattle.outcomes.specs.Behaviour.{Behaviour}

-- The assembly is made for the program: its functions are the templates of the best derivations of the roots of the
-- program's unit, each within its bounds. On each input and each stack of the machine, in the unit's order of bytes, its
-- run never gets stuck, has always printed a first part of the program's output, ends only with the whole output and the
-- status, and does end so, or is out of stack, which it is only where the program's room is above the stack.
pub record IsMadeFor (p : MProgram) (assembly : MAssembly) : Type 0 where
  pub unit : IsUnitAssembly (λ f. room_of p) (λ f. most_instructions p) (unit_of p) assembly
  pub main : ℕ
  pub has_main : HasMain assembly main
  pub runs : (bytes : List ℕ) (stack : ℕ) → 4096 ≤ stack → stack ≤ 16777216 → code_start + 4 * length assembly.code ≤ data_start → RunsAs (output p) (status p) (room_of p) stack (λ n. mrun assembly (unit_of p).order stack main bytes n)

-- the text is that of an assembly that is made for the program
pub record IsCompiled (p : MProgram) (text : List ℕ) : Type 0 where
  pub assembly : MAssembly
  pub is_text : IsText text assembly
  pub made : IsMadeFor p assembly

-- the input is the text of a program, and this text is its assembly's
pub record IsCompilation (input text : List ℕ) : Type 0 where
  pub program : MProgram
  pub is_first : IsFirst input program
  pub compiled : IsCompiled program text

-- the input is no program's text
abbrev pub IsBadProgram : List ℕ → Type 0
IsBadProgram input = (p : MProgram) → IsFirst input p → ⊥

abbrev pub WritesRcc : List ℕ → End → List ℕ → Type 0
WritesRcc input ends.Finished text = IsCompilation input text
WritesRcc input end text = ⊥

abbrev pub RefusesRcc : List ℕ → Refusal → Type 0
RefusesRcc input refusal.BadText = IsBadProgram input
RefusesRcc input why = ⊥

abbrev pub rcc_behaviour : Behaviour
rcc_behaviour = record { Writes = WritesRcc; Refuses = RefusesRcc }
