-- What a turn of a machine says of its step, and the run that turns make.
use Rattle.std.specs.Prelude.{◌≡◌, ℕ, ◌+◌, List, [], ◌∷◌, drop}
use Rattle.asm_text.specs.declared.running.Input.{Input}
use Rattle.asm_text.specs.Runs.{MStep, Goes, Ends, IsStuck, IsOut, Run, Going, run_from}
use Rattle.machine_runs.specs.declared.turning.Turn.{Turn}
use Rattle.machine_runs.specs.declared.turning.Turn.TheVariants.{Went, Prints, Ended, Stuck, StackOut}

-- the bytes of the input that are left
abbrev pub left_of : Input → List ℕ
left_of input = drop input.place input.bytes

-- The step goes on without printing, and so many bytes more of the input are read; or it prints this byte and reads
-- nothing; or it ends the run, is stuck or is out of stack.
abbrev pub IsTurned : {S : Type 0} → (S → List ℕ → MStep S) → S → Input → S → Input → Turn → Type 0
IsTurned step old input new behind Went = (read : ℕ) × (step old (left_of input) ≡ Goes new [] read) × (behind ≡ record input { place = input.place + read })
IsTurned step old input new behind (Prints byte) = (step old (left_of input) ≡ Goes new (byte ∷ []) 0) × (behind ≡ input)
IsTurned step old input new behind (Ended status) = step old (left_of input) ≡ Ends status
IsTurned step old input new behind (Stuck cause pc) = step old (left_of input) ≡ IsStuck cause pc
IsTurned step old input new behind (StackOut pc) = step old (left_of input) ≡ IsOut pc

-- the run from this state with this input, after so many steps
abbrev pub run_with : {S : Type 0} → (S → List ℕ → MStep S) → S → Input → ℕ → Run S
run_with step state input n = run_from step (record { printed = []; place = Going state (left_of input) }) n
