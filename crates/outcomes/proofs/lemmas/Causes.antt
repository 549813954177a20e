-- What the outcome of a command's work says of the call, from what was read and what the work did.
use Rattle.std.proofs.Common.{ℕ, Bool, true, false, List, [], sym, arith, None, Some}
use Rattle.std.specs.declared.option.Option.{Option}
use Rattle.std.specs.Io.KnownBytes.{Consumes, Keeps}
use Rattle.outcomes.specs.declared.outcome.Outcome.{Outcome}
use Rattle.outcomes.specs.declared.outcome.Outcome.TheVariants as outcome
use Rattle.outcomes.specs.Behaviour.{Behaviour}
use Rattle.outcomes.specs.Work.{IsWorked}
use Rattle.outcomes.specs.Call.{Call, IsUnread, HasRead, HasTaken, IsCausedBy}

-- what is as it was has lost nothing
none_taken : (left after : Option (List ℕ)) → Keeps left after → Consumes left after []
none_taken None after kept = tt
none_taken (Some xs) None kept = kept
none_taken (Some xs) (Some ys) kept = sym kept

-- an input that wasn't read
pub not_taken : (reads : Bool) (call : Call) → IsUnread call → HasTaken reads call
not_taken true call same = (([], none_taken call.left call.left_after same.kept, omega arith), same.unbroken)
not_taken false call same = same

-- an input that was read
all_taken : (reads : Bool) (call : Call) (input : List ℕ) → HasRead reads call input → HasTaken reads call
all_taken true call input all = ((input, all.taken, all.within), all.unbroken)
all_taken false call input (none, same) = same

-- what there was to be read was read, and the work on it was done
pub caused : (reads : Bool) (b : Behaviour) (call : Call) (input : List ℕ) (o : Outcome) → HasRead reads call input → IsWorked b input call.taken call.taken_after call.write_faults call.write_faults_after o → IsCausedBy reads b call o
caused reads b call input (outcome.Done end) read (text, done, took, sound) = record { input = input; read = read; text = text; done = done; written = took; sound = sound }
caused reads b call input (outcome.Refused why) read (refused, kept, sound) = record { input = input; read = read; refused = refused; unwritten = record { nothing = kept; sound = sound } }
caused reads b call input outcome.Usage read none = none
caused reads b call input outcome.ReadFault read none = absurd none
caused reads b call input outcome.WriteFault read (end, text, done, part, rose) = record { input = input; read = read; end = end; text = text; done = done; part = part; fault = rose }
caused reads b call input outcome.Memory read (kept, sound) = record { taken = all_taken reads call input read; unwritten = record { nothing = kept; sound = sound } }
caused reads b call input outcome.InputTooLong read none = absurd none
