-- The table of statuses: each with its number, the program's exit status, and its kind.
use Rattle.std.specs.Prelude.{ℕ, ◌≡◌, ◌⊎◌}
use Rattle.outcomes.specs.declared.status.Status.{Status}
use Rattle.outcomes.specs.declared.status.Status.TheVariants as status

-- What a status tells: a command has done its work on its input; a machine's run, which is a command's work, has stopped
-- or was going on; the words or the input are refused; or memory was wanted or a stream failed.
pub data Kind : Type 0 where
  Done : Kind
  Run : Kind
  Refused : Kind
  Fault : Kind

pub record Row : Type 0 where
  pub number : ℕ
  pub kind : Kind

abbrev pub row : ℕ → Kind → Row
row number kind = record { number = number; kind = kind }

abbrev pub row_of : Status → Row
row_of status.Ok = row 0 Done
row_of status.Usage = row 1 Refused
row_of status.ReadFault = row 2 Fault
row_of status.WriteFault = row 3 Fault
row_of status.Memory = row 4 Fault
row_of status.InputTooLong = row 5 Refused
row_of status.BadText = row 6 Refused
row_of status.BadProgram = row 7 Refused
row_of status.Limit = row 8 Refused
row_of status.NoCover = row 9 Done
row_of status.Undefined = row 10 Done
row_of status.Stuck = row 11 Run
row_of status.StackOut = row 12 Run
row_of status.OutOfSteps = row 13 Run
row_of status.OutOfTurns = row 14 Done

abbrev pub number_of : Status → ℕ
number_of s = (row_of s).number

abbrev pub kind_of : Status → Kind
kind_of s = (row_of s).kind

-- the kinds of statuses that tell that a command's work is done, and how it ended
abbrev pub IsEndKind : Kind → Type 0
IsEndKind Done = Unit {0}
IsEndKind Run = Unit {0}
IsEndKind Refused = ⊥
IsEndKind Fault = ⊥

abbrev pub IsEndStatus : Status → Type 0
IsEndStatus s = IsEndKind (kind_of s)

-- the statuses that tell how a machine's run was when its steps were done
abbrev pub IsRunStatus : Status → Type 0
IsRunStatus s = (s ≡ status.Ok) ⊎ (kind_of s ≡ Run)

-- the status that want of memory or a failed write gives whatever the input is
abbrev pub IsFree : Status → Type 0
IsFree s = (s ≡ status.Memory) ⊎ (s ≡ status.WriteFault)
