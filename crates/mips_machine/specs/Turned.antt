-- What the answer of a turn says: a step is done up to its writing.
use Rattle.std.specs.Prelude.{◌≡◌, ℕ, List, [], ◌∷◌, Option}
use Rattle.asm_text.specs.declared.running.Input.{Input}
use Rattle.asm_text.specs.Runs.{Goes}
use Rattle.mips_machine.specs.State.{Cpu, MMachine}
use Rattle.mips_machine.specs.Stepped.{IsStepped, scene, step_of, printed_by}
use Rattle.mips_machine.specs.declared.turn.Turn.{Turn}
use Rattle.mips_machine.specs.declared.turn.Turn.TheVariants.{Quiet, Prints}

-- The step prints nothing, and with any output, which stays as it is, it is stepped with that answer; or it goes on and
-- prints this byte, which nothing has taken yet, and reads nothing.
abbrev pub IsTurned : MMachine → Input → MMachine → Input → Turn → Type 0
IsTurned old input new behind (Quiet answer) =
    (printed_by (step_of old input) ≡ [])
    × ((taken : Option (List ℕ)) (faults : ℕ) → IsStepped (step_of old input) (scene old input taken faults) (scene new behind taken faults) answer)
IsTurned old input new behind (Prints byte) =
    (cpu : Cpu) × (step_of old input ≡ Goes cpu (byte ∷ []) 0) × (new ≡ record old { cpu = cpu }) × (behind ≡ input)
