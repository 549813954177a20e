-- What a call answers, by its outcome: which of its statuses tell what.
use Rattle.std.proofs.Common.{◌≡◌, ℕ, ◌+◌, ◌≤◌, ◌<◌, ◌⊎◌, inl, inr, Bool, true, false, List, ◌++◌, length, refl, sym, ap, subst, ◌∙◌, append-nil, length-append, arith, None, Some}
use Rattle.std.specs.declared.option.Option.{Option}
use Rattle.std.specs.Io.KnownBytes.{Appends, Consumes, Keeps, IsAtEnd}
use Rattle.lcc_base.specs.Faults.{Rose}
use Rattle.lcc_base.specs.Taken.{TookOneMore}
use Rattle.outcomes.specs.declared.outcome.End.{End}
use Rattle.outcomes.specs.declared.outcome.End.TheVariants as ends
use Rattle.outcomes.specs.declared.outcome.Refusal.{Refusal}
use Rattle.outcomes.specs.declared.outcome.Refusal.TheVariants as refusal
use Rattle.outcomes.specs.declared.outcome.Outcome.{Outcome}
use Rattle.outcomes.specs.declared.outcome.Outcome.TheVariants as outcome
use Rattle.outcomes.specs.declared.status.Status.{Status}
use Rattle.outcomes.specs.declared.status.Status.TheVariants as status
use Rattle.outcomes.specs.Status.{Refused, Fault, kind_of, IsEndKind, IsEndStatus, IsFree}
use Rattle.outcomes.specs.Outcome.{end_status, refusal_status, status_of, line_of}
use Rattle.outcomes.specs.Behaviour.{Behaviour, Accepts}
use Rattle.outcomes.specs.Answers.{HasDone, IsTold}
use Rattle.outcomes.specs.Call.{Call, ReadAll, HasRead, IsInput, Done, IsUnread, IsUnwritten, IsUnbroken, IsOutputUnbroken, IsCausedBy, HasTaken, NoFault}

-- ---- what was read

-- what was read to the end is what was left
the_input : (left after : Option (List ℕ)) (input bytes : List ℕ) → Consumes left after input → IsAtEnd after → left ≡ Some bytes → input ≡ bytes
the_input None after input bytes took end is = cc
the_input (Some xs) None input bytes took end is = absurd took
the_input (Some xs) (Some ys) input bytes took end is =
    let same : xs ≡ bytes = cc in
    sym (append-nil input) ∙ ap (λ (l : List ℕ). input ++ l) (sym end) ∙ sym took ∙ same

-- what a command worked on is what it had to work on
pub its_input : (reads : Bool) (call : Call) (input bytes : List ℕ) → HasRead reads call input → IsInput reads call.left bytes → input ≡ bytes
its_input true call input bytes all is = the_input call.left call.left_after input bytes all.taken all.end is
its_input false call input bytes (none, same) is = none ∙ sym is

-- no more came than was left
not_more : (left after : Option (List ℕ)) (bytes : List ℕ) → left ≡ Some bytes → length bytes ≤ 16777216 → TookOneMore left after 16777216 → ⊥
not_more None after bytes is small more = cc
not_more (Some xs) None bytes is small more = more.1
not_more (Some xs) (Some ys) bytes is small more =
    let same : xs ≡ bytes = cc in
    let size : length bytes ≡ length more.0 + length ys = ap length (sym same) ∙ ap length more.1 ∙ length-append more.0 ys in
    omega (arith, small, more.2, size)

pub not_too_long : (reads : Bool) (call : Call) (bytes : List ℕ) → reads ≡ true → IsInput reads call.left bytes → length bytes ≤ 16777216 → TookOneMore call.left call.left_after 16777216 → ⊥
not_too_long true call bytes same is small more = not_more call.left call.left_after bytes is small more
not_too_long false call bytes same is small more = cc

too_many : (call : Call) (input bytes : List ℕ) → ReadAll call input → call.left ≡ Some bytes → 16777216 < length bytes → ⊥
too_many call input bytes all is more =
    let size : length input ≡ length bytes = ap length (its_input true call input bytes all is) in
    omega (arith, size, all.within, more)

-- ---- kinds of statuses

pub end_kind : (end : End) → IsEndStatus (end_status end)
end_kind ends.Finished = tt
end_kind (ends.NoCover n) = tt
end_kind (ends.Exited s) = tt
end_kind (ends.Stuck cause pc step) = tt
end_kind (ends.StackOut pc step) = tt
end_kind (ends.OutOfSteps n) = tt
end_kind (ends.Undefined cause n) = tt
end_kind (ends.OutOfTurns n) = tt

pub refusal_kind : (why : Refusal) → kind_of (refusal_status why) ≡ Refused
refusal_kind refusal.BadText = refl
refusal_kind refusal.NoMain = refl
refusal_kind (refusal.Fault n name) = refl
refusal_kind (refusal.Constraint n number) = refl
refusal_kind (refusal.Limit n which) = refl

-- a refusal's status tells of no end
no_end : (why : Refusal) → IsEndStatus (refusal_status why) → ⊥
no_end why h = subst IsEndKind (refusal_kind why) h

-- an end's status is no fault's
no_fault_end : (end : End) (s : Status) → kind_of s ≡ Fault → end_status end ≡ s → ⊥
no_fault_end end s fault is = subst IsEndKind (ap kind_of is ∙ fault) (end_kind end)

-- nor is a refusal's
no_fault_refusal : (why : Refusal) (s : Status) → kind_of s ≡ Fault → refusal_status why ≡ s → ⊥
no_fault_refusal why s fault is = let e : Refused ≡ Fault = sym (refusal_kind why) ∙ ap kind_of is ∙ fault in cc

-- ---- work that is done

did : (reads : Bool) (b : Behaviour) (call : Call) (end : End) (bytes : List ℕ) (report report_after : Option (List ℕ)) → Done reads b call end → IsInput reads call.left bytes → Appends report report_after (line_of (outcome.Done end)) → HasDone b bytes call.taken call.taken_after report report_after (status_of (outcome.Done end))
did reads b call end bytes report report_after h is told =
    record { end = end; text = h.text; writes = subst (λ l. b.Writes l end h.text) (its_input reads call h.input bytes h.read is) h.done.writes; written = h.written; answered = refl; reported = told }

-- where the status tells of an end, the work is done
pub has_done : (reads : Bool) (b : Behaviour) (call : Call) (o : Outcome) (bytes : List ℕ) (report report_after : Option (List ℕ)) → IsCausedBy reads b call o → IsInput reads call.left bytes → Appends report report_after (line_of o) → IsEndStatus (status_of o) → HasDone b bytes call.taken call.taken_after report report_after (status_of o)
has_done reads b call (outcome.Done end) bytes report report_after h is told good = did reads b call end bytes report report_after h is told
has_done reads b call (outcome.Refused why) bytes report report_after h is told good = absurd (no_end why good)
has_done reads b call outcome.Usage bytes report report_after h is told good = absurd h
has_done reads b call outcome.ReadFault bytes report report_after h is told good = absurd good
has_done reads b call outcome.WriteFault bytes report report_after h is told good = absurd good
has_done reads b call outcome.Memory bytes report report_after h is told good = absurd good
has_done reads b call outcome.InputTooLong bytes report report_after h is told good = absurd good

-- where no refusal stands, the work is done
pub done_or_memory : (reads : Bool) (b : Behaviour) (call : Call) (o : Outcome) (bytes : List ℕ) (report report_after : Option (List ℕ)) → IsCausedBy reads b call o → IsInput reads call.left bytes → length bytes ≤ 16777216 → Accepts b bytes → NoFault call.read_faults call.read_faults_after → NoFault call.write_faults call.write_faults_after → Appends report report_after (line_of o) → HasDone b bytes call.taken call.taken_after report report_after (status_of o) ⊎ (status_of o ≡ status.Memory)
done_or_memory reads b call (outcome.Done end) bytes report report_after h is small accepts fine sound told = inl (did reads b call end bytes report report_after h is told)
done_or_memory reads b call (outcome.Refused why) bytes report report_after h is small accepts fine sound told = absurd (accepts why (subst (λ l. b.Refuses l why) (its_input reads call h.input bytes h.read is) h.refused.refuses))
done_or_memory reads b call outcome.Usage bytes report report_after h is small accepts fine sound told = absurd h
done_or_memory reads b call outcome.ReadFault bytes report report_after h is small accepts fine sound told = absurd (fine h.fault)
done_or_memory reads b call outcome.WriteFault bytes report report_after h is small accepts fine sound told = absurd (sound h.fault)
done_or_memory reads b call outcome.Memory bytes report report_after h is small accepts fine sound told = inr refl
done_or_memory reads b call outcome.InputTooLong bytes report report_after h is small accepts fine sound told = absurd (not_too_long reads call bytes h.reading is small h.took)

-- ---- refusals

-- work that is done is that on an accepted input
accepted : (reads : Bool) (b : Behaviour) (call : Call) (input bytes : List ℕ) (why : Refusal) → Accepts b input → HasRead reads call input → IsInput reads call.left bytes → b.Refuses bytes why → ⊥
accepted reads b call input bytes why accepts read is refuses = accepts why (subst (λ l. b.Refuses l why) (sym (its_input reads call input bytes read is)) refuses)

-- nothing is written for a refused input
pub refused_kept : (reads : Bool) (b : Behaviour) (call : Call) (o : Outcome) (bytes : List ℕ) (why : Refusal) → IsCausedBy reads b call o → IsInput reads call.left bytes → b.Refuses bytes why → Keeps call.taken call.taken_after
refused_kept reads b call (outcome.Done end) bytes why h is refuses = absurd (accepted reads b call h.input bytes why h.done.accepted h.read is refuses)
refused_kept reads b call (outcome.Refused other) bytes why h is refuses = h.unwritten.nothing
refused_kept reads b call outcome.Usage bytes why h is refuses = absurd h
refused_kept reads b call outcome.ReadFault bytes why h is refuses = h.unwritten.nothing
refused_kept reads b call outcome.WriteFault bytes why h is refuses = absurd (accepted reads b call h.input bytes why h.done.accepted h.read is refuses)
refused_kept reads b call outcome.Memory bytes why h is refuses = h.unwritten.nothing
refused_kept reads b call outcome.InputTooLong bytes why h is refuses = h.unwritten.nothing

-- and a refusal is told
pub told_or_free : (reads : Bool) (b : Behaviour) (call : Call) (o : Outcome) (bytes : List ℕ) (why : Refusal) (report report_after : Option (List ℕ)) → IsCausedBy reads b call o → IsInput reads call.left bytes → length bytes ≤ 16777216 → b.Refuses bytes why → NoFault call.read_faults call.read_faults_after → Appends report report_after (line_of o) → IsTold b bytes report report_after (status_of o) ⊎ IsFree (status_of o)
told_or_free reads b call (outcome.Done end) bytes why report report_after h is small refuses fine told = absurd (accepted reads b call h.input bytes why h.done.accepted h.read is refuses)
told_or_free reads b call (outcome.Refused other) bytes why report report_after h is small refuses fine told =
    inl (record { why = other; refuses = subst (λ l. b.Refuses l other) (its_input reads call h.input bytes h.read is) h.refused.refuses; answered = refl; reported = told })
told_or_free reads b call outcome.Usage bytes why report report_after h is small refuses fine told = absurd h
told_or_free reads b call outcome.ReadFault bytes why report report_after h is small refuses fine told = absurd (fine h.fault)
told_or_free reads b call outcome.WriteFault bytes why report report_after h is small refuses fine told = inr (inr refl)
told_or_free reads b call outcome.Memory bytes why report report_after h is small refuses fine told = inr (inl refl)
told_or_free reads b call outcome.InputTooLong bytes why report report_after h is small refuses fine told = absurd (not_too_long reads call bytes h.reading is small h.took)

-- ---- the input's length

pub too_long_or_free : (b : Behaviour) (call : Call) (o : Outcome) (bytes : List ℕ) → IsCausedBy true b call o → call.left ≡ Some bytes → 16777216 < length bytes → NoFault call.read_faults call.read_faults_after → (status_of o ≡ status.InputTooLong) ⊎ IsFree (status_of o)
too_long_or_free b call (outcome.Done end) bytes h is more fine = absurd (too_many call h.input bytes h.read is more)
too_long_or_free b call (outcome.Refused why) bytes h is more fine = absurd (too_many call h.input bytes h.read is more)
too_long_or_free b call outcome.Usage bytes h is more fine = absurd h
too_long_or_free b call outcome.ReadFault bytes h is more fine = absurd (fine h.fault)
too_long_or_free b call outcome.WriteFault bytes h is more fine = inr (inr refl)
too_long_or_free b call outcome.Memory bytes h is more fine = inr (inl refl)
too_long_or_free b call outcome.InputTooLong bytes h is more fine = inl refl

-- ---- streams that fail, and want of memory

-- a failed read is told only where the input's count rose
pub read_fault : (reads : Bool) (b : Behaviour) (call : Call) (o : Outcome) → IsCausedBy reads b call o → status_of o ≡ status.ReadFault → Rose call.read_faults call.read_faults_after
read_fault reads b call (outcome.Done end) h is = absurd (no_fault_end end status.ReadFault refl is)
read_fault reads b call (outcome.Refused why) h is = absurd (no_fault_refusal why status.ReadFault refl is)
read_fault reads b call outcome.ReadFault h is = h.fault
read_fault reads b call o h is = absurd cc

-- a failed write is told only where the output's count rose
pub write_fault : (reads : Bool) (b : Behaviour) (call : Call) (o : Outcome) → IsCausedBy reads b call o → status_of o ≡ status.WriteFault → Rose call.write_faults call.write_faults_after
write_fault reads b call (outcome.Done end) h is = absurd (no_fault_end end status.WriteFault refl is)
write_fault reads b call (outcome.Refused why) h is = absurd (no_fault_refusal why status.WriteFault refl is)
write_fault reads b call outcome.WriteFault h is = h.fault
write_fault reads b call o h is = absurd cc

-- where memory was wanted nothing was written
pub memory_kept : (reads : Bool) (b : Behaviour) (call : Call) (o : Outcome) → IsCausedBy reads b call o → status_of o ≡ status.Memory → IsUnwritten call
memory_kept reads b call (outcome.Done end) h is = absurd (no_fault_end end status.Memory refl is)
memory_kept reads b call (outcome.Refused why) h is = absurd (no_fault_refusal why status.Memory refl is)
memory_kept reads b call outcome.Memory h is = h.unwritten
memory_kept reads b call o h is = absurd cc

-- what was read, was read without a fault
sound_read : (reads : Bool) (call : Call) (input : List ℕ) → HasRead reads call input → IsUnbroken call
sound_read true call input all = all.unbroken
sound_read false call input (none, same) = same.unbroken

sound_part : (reads : Bool) (call : Call) → HasTaken reads call → IsUnbroken call
sound_part true call (took, unbroken) = unbroken
sound_part false call same = same.unbroken

-- each outcome but that of a failed read comes without one
unbroken_or_fault : (reads : Bool) (b : Behaviour) (call : Call) (o : Outcome) → IsCausedBy reads b call o → IsUnbroken call ⊎ (status_of o ≡ status.ReadFault)
unbroken_or_fault reads b call (outcome.Done end) h = inl (sound_read reads call h.input h.read)
unbroken_or_fault reads b call (outcome.Refused why) h = inl (sound_read reads call h.input h.read)
unbroken_or_fault reads b call outcome.Usage h = absurd h
unbroken_or_fault reads b call outcome.ReadFault h = inr refl
unbroken_or_fault reads b call outcome.WriteFault h = inl (sound_read reads call h.input h.read)
unbroken_or_fault reads b call outcome.Memory h = inl (sound_part reads call h.taken)
unbroken_or_fault reads b call outcome.InputTooLong h = inl h.unbroken

-- where the input's count of faults rose, a read failed
pub fault_of_input : (reads : Bool) (b : Behaviour) (call : Call) (o : Outcome) → IsCausedBy reads b call o → call.read_faults < call.read_faults_after → status_of o ≡ status.ReadFault
fault_of_input reads b call o h more = elim (unbroken_or_fault reads b call o h) [ inl same ↦ absurd (omega (arith, same, more)) | inr is ↦ is ]

-- each outcome but that of a failed write comes without one
sound_or_fault : (reads : Bool) (b : Behaviour) (call : Call) (o : Outcome) → IsCausedBy reads b call o → IsOutputUnbroken call ⊎ (status_of o ≡ status.WriteFault)
sound_or_fault reads b call (outcome.Done end) h = inl h.sound
sound_or_fault reads b call (outcome.Refused why) h = inl h.unwritten.sound
sound_or_fault reads b call outcome.Usage h = absurd h
sound_or_fault reads b call outcome.ReadFault h = inl h.unwritten.sound
sound_or_fault reads b call outcome.WriteFault h = inr refl
sound_or_fault reads b call outcome.Memory h = inl h.unwritten.sound
sound_or_fault reads b call outcome.InputTooLong h = inl h.unwritten.sound

-- where the output's count of faults rose, a write failed
pub fault_of_output : (reads : Bool) (b : Behaviour) (call : Call) (o : Outcome) → IsCausedBy reads b call o → call.write_faults < call.write_faults_after → status_of o ≡ status.WriteFault
fault_of_output reads b call o h more = elim (sound_or_fault reads b call o h) [ inl same ↦ absurd (omega (arith, same, more)) | inr is ↦ is ]

-- a command that reads nothing leaves the input as it was
pub unread : (b : Behaviour) (call : Call) (o : Outcome) → IsCausedBy false b call o → IsUnread call
unread b call (outcome.Done end) h = h.read.1
unread b call (outcome.Refused why) h = h.read.1
unread b call outcome.Usage h = absurd h
unread b call outcome.ReadFault h = absurd (let e : false ≡ true = h.reading in cc)
unread b call outcome.WriteFault h = h.read.1
unread b call outcome.Memory h = h.taken
unread b call outcome.InputTooLong h = absurd (let e : false ≡ true = h.reading in cc)
