-- What a call says of each command that its words ask for, and of the streams.
use Rattle.std.proofs.Common.{◌≡◌, ℕ, ◌<◌, ◌⊎◌, inl, inr, Bool, true, false, List, refl, sym, ap, subst, ◌∙◌, arith}
use Rattle.lcc_base.specs.Faults.{Rose}
use Rattle.command_words.specs.declared.words.Command.{Command}
use Rattle.command_words.specs.Commands.{AreWordsOf, AreAccepted, reads}
use Rattle.command_words.proofs.lemmas.OneCommand.{one_command}
use Rattle.outcomes.specs.declared.outcome.Outcome.{Outcome}
use Rattle.outcomes.specs.declared.status.Status.TheVariants as status
use Rattle.outcomes.specs.Outcome.{status_of}
use Rattle.outcomes.specs.Status.{IsFree}
use Rattle.outcomes.specs.Behaviour.{Behaviour}
use Rattle.outcomes.specs.Call.{Call, IsUnread, IsUnwritten, IsCausedBy}
use Rattle.outcomes.proofs.lemmas.Causes.{not_taken}
use Rattle.outcomes.proofs.lemmas.Told as told
use Rattle.lcc_top.specs.Commands.{behaviour_of}
use Rattle.lcc_top.specs.Causes.{IsCaused}

-- the outcome is that of the command's work
pub served : (c : Command) (words : List (List ℕ)) (call : Call) (o : Outcome) → IsCaused words call o → AreWordsOf c words → IsCausedBy (reads c) (behaviour_of c) call o
served c words call o (inl h) is = subst (λ (d : Command). IsCausedBy (reads d) (behaviour_of d) call o) (one_command h.command c words h.asked is) h.caused
served c words call o (inr (inl (refused, usage, same))) is = absurd (refused (c, is))
served c words call o (inr (inr (memory, same))) is =
    subst (λ (x : Outcome). IsCausedBy (reads c) (behaviour_of c) call x) (sym memory) (record { taken = not_taken (reads c) call same.unread; unwritten = same.unwritten })

-- ---- words

-- words of no command
pub usage : (words : List (List ℕ)) (call : Call) (o : Outcome) → IsCaused words call o → (AreAccepted words → ⊥) → (status_of o ≡ status.Usage) ⊎ IsFree (status_of o)
usage words call o (inl h) none = absurd (none (h.command, h.asked))
usage words call o (inr (inl (refused, is, same))) none = inl (ap status_of is)
usage words call o (inr (inr (is, same))) none = inr (inl (ap status_of is))

unread_if : (r : Bool) (b : Behaviour) (call : Call) (o : Outcome) → (r ≡ true → ⊥) → IsCausedBy r b call o → IsUnread call
unread_if true b call o none h = absurd (none refl)
unread_if false b call o none h = told.unread b call o h

-- words of no command that reads
pub unread : (words : List (List ℕ)) (call : Call) (o : Outcome) → IsCaused words call o → ((c : Command) → AreWordsOf c words → reads c ≡ true → ⊥) → IsUnread call
unread words call o (inl h) none = unread_if (reads h.command) (behaviour_of h.command) call o (none h.command h.asked) h.caused
unread words call o (inr (inl (refused, is, same))) none = same.unread
unread words call o (inr (inr (is, same))) none = same.unread

-- an input that is too long
pub too_long : (c : Command) (words : List (List ℕ)) (call : Call) (o : Outcome) → IsCaused words call o → AreWordsOf c words → reads c ≡ true → IsCausedBy true (behaviour_of c) call o
too_long c words call o h is reading = subst (λ r. IsCausedBy r (behaviour_of c) call o) reading (served c words call o h is)

-- ---- streams that fail, and want of memory

pub read_fault : (words : List (List ℕ)) (call : Call) (o : Outcome) → IsCaused words call o → status_of o ≡ status.ReadFault → Rose call.read_faults call.read_faults_after
read_fault words call o (inl h) is = told.read_fault (reads h.command) (behaviour_of h.command) call o h.caused is
read_fault words call o (inr (inl (refused, usage, same))) is = absurd (let e : status.Usage ≡ status.ReadFault = sym (ap status_of usage) ∙ is in cc)
read_fault words call o (inr (inr (memory, same))) is = absurd (let e : status.Memory ≡ status.ReadFault = sym (ap status_of memory) ∙ is in cc)

pub write_fault : (words : List (List ℕ)) (call : Call) (o : Outcome) → IsCaused words call o → status_of o ≡ status.WriteFault → Rose call.write_faults call.write_faults_after
write_fault words call o (inl h) is = told.write_fault (reads h.command) (behaviour_of h.command) call o h.caused is
write_fault words call o (inr (inl (refused, usage, same))) is = absurd (let e : status.Usage ≡ status.WriteFault = sym (ap status_of usage) ∙ is in cc)
write_fault words call o (inr (inr (memory, same))) is = absurd (let e : status.Memory ≡ status.WriteFault = sym (ap status_of memory) ∙ is in cc)

pub fault_of_input : (words : List (List ℕ)) (call : Call) (o : Outcome) → IsCaused words call o → call.read_faults < call.read_faults_after → status_of o ≡ status.ReadFault
fault_of_input words call o (inl h) more = told.fault_of_input (reads h.command) (behaviour_of h.command) call o h.caused more
fault_of_input words call o (inr (inl (refused, usage, same))) more = absurd (let e = same.unread.unbroken in omega (arith, e, more))
fault_of_input words call o (inr (inr (memory, same))) more = absurd (let e = same.unread.unbroken in omega (arith, e, more))

pub fault_of_output : (words : List (List ℕ)) (call : Call) (o : Outcome) → IsCaused words call o → call.write_faults < call.write_faults_after → status_of o ≡ status.WriteFault
fault_of_output words call o (inl h) more = told.fault_of_output (reads h.command) (behaviour_of h.command) call o h.caused more
fault_of_output words call o (inr (inl (refused, usage, same))) more = absurd (let e = same.unwritten.sound in omega (arith, e, more))
fault_of_output words call o (inr (inr (memory, same))) more = absurd (let e = same.unwritten.sound in omega (arith, e, more))

-- where memory was wanted nothing was written
pub memory_kept : (words : List (List ℕ)) (call : Call) (o : Outcome) → IsCaused words call o → status_of o ≡ status.Memory → IsUnwritten call
memory_kept words call o (inl h) is = told.memory_kept (reads h.command) (behaviour_of h.command) call o h.caused is
memory_kept words call o (inr (inl (refused, usage, same))) is = same.unwritten
memory_kept words call o (inr (inr (memory, same))) is = same.unwritten
