-- What one call of the program was given and did, and what each outcome of a command's work says of it.
use Rattle.std.specs.Prelude.{ℕ, ◌≡◌, ◌≤◌, ◌⊎◌, Bool, true, false, List, [], length}
use Rattle.std.specs.declared.option.Option.{Option}
use Rattle.std.specs.Prelude.{Some}
use Rattle.std.specs.Io.KnownBytes.{Appends, Consumes, Keeps, IsAtEnd}
use Rattle.lcc_base.specs.Faults.{Rose}
use Rattle.lcc_base.specs.Taken.{TookAtMost, TookOneMore, TookPrefix}
use Rattle.outcomes.specs.declared.outcome.End.{End}
use Rattle.outcomes.specs.declared.outcome.Refusal.{Refusal}
use Rattle.outcomes.specs.declared.outcome.Outcome.{Outcome}
use Rattle.outcomes.specs.declared.outcome.Outcome.TheVariants as outcome
use Rattle.outcomes.specs.declared.status.Status.{Status}
use Rattle.outcomes.specs.declared.status.Status.TheVariants as status
use Rattle.outcomes.specs.Outcome.{status_of, line_of}
use Rattle.outcomes.specs.Behaviour.{Behaviour, IsDone, IsRefused}

-- What the input had left and has left, where it tells; what the output had taken and has taken, where it tells; and the
-- counts of faults of both, before and after.
pub record Call : Type 0 where
  pub left : Option (List ℕ)
  pub left_after : Option (List ℕ)
  pub read_faults : ℕ
  pub read_faults_after : ℕ
  pub taken : Option (List ℕ)
  pub taken_after : Option (List ℕ)
  pub write_faults : ℕ
  pub write_faults_after : ℕ

-- no write failed, as the count of faults tells
abbrev pub IsOutputUnbroken : Call → Type 0
IsOutputUnbroken call = call.write_faults_after ≡ call.write_faults

-- no read failed, as the count of faults tells
abbrev pub IsUnbroken : Call → Type 0
IsUnbroken call = call.read_faults_after ≡ call.read_faults

-- the output took nothing, and no write failed
pub record IsUnwritten (call : Call) : Type 0 where
  pub nothing : Keeps call.taken call.taken_after
  pub sound : IsOutputUnbroken call

-- the input is as it was
pub record IsUnread (call : Call) : Type 0 where
  pub kept : Keeps call.left call.left_after
  pub unbroken : IsUnbroken call

-- all that the input had left was read, without a fault: at most 16,777,216 bytes
pub record ReadAll (call : Call) (bytes : List ℕ) : Type 0 where
  pub taken : Consumes call.left call.left_after bytes
  pub end : IsAtEnd call.left_after
  pub within : length bytes ≤ 16777216
  pub unbroken : IsUnbroken call

-- the bytes that a command works on, by whether it reads: all that was read, or none
abbrev pub HasRead : Bool → Call → List ℕ → Type 0
HasRead true call input = ReadAll call input
HasRead false call input = (input ≡ []) × IsUnread call

-- the bytes that a command has to work on, by whether it reads: what the input had left, where it tells, or none
abbrev pub IsInput : Bool → Option (List ℕ) → List ℕ → Type 0
IsInput true left input = left ≡ Some input
IsInput false left input = input ≡ []

-- no more bytes came than the limit, without a fault; or where the command reads nothing, none
abbrev pub HasTaken : Bool → Call → Type 0
HasTaken true call = TookAtMost call.left call.left_after 16777216 × IsUnbroken call
HasTaken false call = IsUnread call

-- the command's work ended so, and the output took the text that the command writes for its input
pub record Done (reads : Bool) (b : Behaviour) (call : Call) (end : End) : Type 0 where
  pub input : List ℕ
  pub read : HasRead reads call input
  pub text : List ℕ
  pub done : IsDone b input end text
  pub written : Appends call.taken call.taken_after text
  pub sound : IsOutputUnbroken call

-- the command refuses its input for this reason, and the output took nothing
pub record InputRefused (reads : Bool) (b : Behaviour) (call : Call) (why : Refusal) : Type 0 where
  pub input : List ℕ
  pub read : HasRead reads call input
  pub refused : IsRefused b input why
  pub unwritten : IsUnwritten call

-- a write of the output failed, and it took a first part of what the command writes for its input
pub record WriteFailed (reads : Bool) (b : Behaviour) (call : Call) : Type 0 where
  pub input : List ℕ
  pub read : HasRead reads call input
  pub end : End
  pub text : List ℕ
  pub done : IsDone b input end text
  pub part : TookPrefix call.taken call.taken_after text
  pub fault : Rose call.write_faults call.write_faults_after

-- a read failed before more bytes came than the limit
pub record ReadFailed (reads : Bool) (call : Call) : Type 0 where
  pub reading : reads ≡ true
  pub fault : Rose call.read_faults call.read_faults_after
  pub took : TookAtMost call.left call.left_after 16777216
  pub unwritten : IsUnwritten call

-- more bytes came than the limit, without a fault
pub record TooLong (reads : Bool) (call : Call) : Type 0 where
  pub reading : reads ≡ true
  pub took : TookOneMore call.left call.left_after 16777216
  pub unbroken : IsUnbroken call
  pub unwritten : IsUnwritten call

-- an allocation was refused, before more bytes came than the limit, and no read failed
pub record OutOfMemory (reads : Bool) (call : Call) : Type 0 where
  pub taken : HasTaken reads call
  pub unwritten : IsUnwritten call

-- what the outcome of a command's work, which reads the input or doesn't, says of the call
abbrev pub IsCausedBy : Bool → Behaviour → Call → Outcome → Type 0
IsCausedBy reads b call (outcome.Done end) = Done reads b call end
IsCausedBy reads b call (outcome.Refused why) = InputRefused reads b call why
IsCausedBy reads b call outcome.Usage = ⊥
IsCausedBy reads b call outcome.ReadFault = ReadFailed reads call
IsCausedBy reads b call outcome.WriteFault = WriteFailed reads b call
IsCausedBy reads b call outcome.Memory = OutOfMemory reads call
IsCausedBy reads b call outcome.InputTooLong = TooLong reads call

-- What the outcome says of the report, whose state and count of faults are given before and after: its line was
-- written, or its write failed and a first part of the line was.
abbrev pub IsReported : Option (List ℕ) → Option (List ℕ) → ℕ → ℕ → Outcome → Status → Type 0
IsReported taken taken_after faults faults_after outcome answer =
    ((answer ≡ status_of outcome) × Appends taken taken_after (line_of outcome) × (faults_after ≡ faults))
    ⊎ ((answer ≡ status.WriteFault) × Rose faults faults_after × TookPrefix taken taken_after (line_of outcome))

-- no fault rose
abbrev pub NoFault : ℕ → ℕ → Type 0
NoFault faults faults_after = Rose faults faults_after → ⊥
