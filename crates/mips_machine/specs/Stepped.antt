-- What the answer of a step says, beside what stood before it and what stands behind it.
use Rattle.std.specs.Prelude.{◌≡◌, ◌≢◌, ℕ, ◌+◌, List, [], drop, Option}
use Rattle.std.specs.Io.KnownBytes.{Appends, Keeps}
use Rattle.lcc_base.specs.Faults.{Rose}
use Rattle.asm_text.specs.declared.running.Input.{Input}
use Rattle.asm_text.specs.declared.running.Step.{Step}
use Rattle.asm_text.specs.declared.running.Step.TheVariants.{Went, Ended, Stuck, StackOut, Failed}
use Rattle.asm_text.specs.Runs.{MStep, Goes, Ends, IsStuck, IsOut}
use Rattle.mips_machine.specs.State.{Cpu, MMachine}
use Rattle.mips_machine.specs.StepTable.{step}

-- a machine, its input, the bytes that its output has taken, where it tells, and the output's faults
pub record Scene : Type 0 where
  pub machine : MMachine
  pub input : Input
  pub taken : Option (List ℕ)
  pub faults : ℕ

abbrev pub scene : MMachine → Input → Option (List ℕ) → ℕ → Scene
scene machine input taken faults = record { machine = machine; input = input; taken = taken; faults = faults }

-- the step of the table
abbrev pub step_of : MMachine → Input → MStep Cpu
step_of m input = step m.code m.order m.cpu (drop input.place input.bytes)

-- the bytes that a step prints
abbrev pub printed_by : MStep Cpu → List ℕ
printed_by (Goes cpu printed taken) = printed
printed_by (Ends status) = []
printed_by (IsStuck cause pc) = []
printed_by (IsOut pc) = []

-- The machine is in the next state, that many more bytes of the input are read, and the output took what is printed, with
-- no write that failed.
pub record HasGone (s : MStep Cpu) (old new : Scene) : Type 0 where
  pub cpu : Cpu
  pub printed : List ℕ
  pub read : ℕ
  pub goes : s ≡ Goes cpu printed read
  pub machine : new.machine ≡ record old.machine { cpu = cpu }
  pub input : new.input ≡ record old.input { place = old.input.place + read }
  pub output : Appends old.taken new.taken printed
  pub unbroken : new.faults ≡ old.faults

-- The output's faults rose where the step prints. The machine and the input are as before, and the output took
-- nothing.
pub record HasFailed (s : MStep Cpu) (old new : Scene) : Type 0 where
  pub prints : printed_by s ≢ []
  pub machine : new.machine ≡ old.machine
  pub input : new.input ≡ old.input
  pub output : Keeps old.taken new.taken
  pub cause : Rose old.faults new.faults

-- all is as before but where a step went or failed
abbrev pub IsStepped : MStep Cpu → Scene → Scene → Step → Type 0
IsStepped s old new Went = HasGone s old new
IsStepped s old new (Ended status) = (s ≡ Ends status) × (new ≡ old)
IsStepped s old new (Stuck cause pc) = (s ≡ IsStuck cause pc) × (new ≡ old)
IsStepped s old new (StackOut pc) = (s ≡ IsOut pc) × (new ≡ old)
IsStepped s old new Failed = HasFailed s old new
