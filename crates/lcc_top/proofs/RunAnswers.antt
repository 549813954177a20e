-- What `simrun` answers to a program's text.
use Rattle.std.proofs.Common.{◌≡◌, ℕ, ◌≤◌, ◌⊎◌, inl, inr, true, List, [], length, refl, sym, ◌∙◌, append-nil, subst, Some, None}
use Rattle.std.specs.declared.option.Option.{Option}
use Rattle.std.specs.Io.KnownBytes.{Appends, Keeps}
use Rattle.lcc_base.specs.Taken.{TookPrefix}
use Rattle.command_words.specs.declared.run_options.RunOptions.{RunOptions}
use Rattle.outcomes.specs.declared.outcome.End.{End}
use Rattle.outcomes.specs.declared.outcome.Outcome.{Outcome}
use Rattle.outcomes.specs.declared.outcome.Outcome.TheVariants as outcome
use Rattle.outcomes.specs.declared.status.Status.{Status}
use Rattle.outcomes.specs.declared.status.Status.TheVariants as status
use Rattle.outcomes.specs.Status.{IsRunStatus}
use Rattle.outcomes.specs.Outcome.{end_status, status_of, line_of}
use Rattle.outcomes.specs.Answers.{HasDone}
use Rattle.outcomes.specs.Call.{Call, ReadAll, IsCausedBy, NoFault}
use Rattle.outcomes.proofs.lemmas.Told.{its_input, not_too_long, has_done, end_kind}
use Rattle.simrun_tool.proofs.lemmas.Endings.{simulated, run_status}
use Rattle.simrun_tool.specs.Simulation.{IsSimulation, simrun_behaviour}
use Rattle.simrun_tool.specs.Runnable.{IsRunnable, WasCut}
use Rattle.lcc_top.specs.Headline.{RunHeadline}
use Rattle.lcc_top.specs.RunAnswer.{RunAnswer}

-- ---- what was taken

-- nothing is a first part of a text
none_taken : (taken taken_after : Option (List ℕ)) (text : List ℕ) → Keeps taken taken_after → TookPrefix taken taken_after text
none_taken None after text kept = ([], text, refl, tt)
none_taken (Some xs) None text kept = absurd kept
none_taken (Some xs) (Some ys) text kept = ([], text, refl, kept ∙ sym (append-nil xs))

-- and so is the whole
all_taken : (taken taken_after : Option (List ℕ)) (text : List ℕ) → Appends taken taken_after text → TookPrefix taken taken_after text
all_taken taken taken_after text took = (text, [], sym (append-nil text), took)

-- what took nothing more is as before
none_told : (report report_after : Option (List ℕ)) → Appends report report_after [] → Keeps report report_after
none_told None after told = tt
none_told (Some xs) None told = absurd told
none_told (Some xs) (Some ys) told = told ∙ append-nil xs

-- ---- runs

-- before the first step nothing was taken
cut_at_first : (o : RunOptions) (input : List ℕ) (taken taken_after : Option (List ℕ)) → IsRunnable input → Keeps taken taken_after → WasCut o input taken taken_after
cut_at_first o input taken taken_after r kept =
    let (end, text, simulation) = simulated o input r in
    record { end = end; text = text; simulation = simulation; part = none_taken taken taken_after text kept }

-- what was written for the input that was read, is written for that which the caller knows
its_run : (o : RunOptions) (call : Call) (input bytes text : List ℕ) (end : End) → ReadAll call input → call.left ≡ Some bytes → IsSimulation o input end text → IsSimulation o bytes end text
its_run o call input bytes text end read is s = subst (λ l. IsSimulation o l end text) (its_input true call input bytes read is) s

-- ---- the answers

headline : (o : RunOptions) (bytes : List ℕ) (taken taken_after report report_after : Option (List ℕ)) (answer : Status) → HasDone (simrun_behaviour o) bytes taken taken_after report report_after answer → RunHeadline o bytes taken taken_after report report_after answer
headline o bytes taken taken_after report report_after answer h =
    record { end = h.end; text = h.text; simulation = h.writes; written = h.written; answered = h.answered; reported = h.reported }

-- where the report was told
pub run_answer : (o : RunOptions) (call : Call) (x : Outcome) (bytes : List ℕ) (report report_after : Option (List ℕ)) → IsCausedBy true (simrun_behaviour o) call x → call.left ≡ Some bytes → length bytes ≤ 16777216 → IsRunnable bytes → NoFault call.read_faults call.read_faults_after → Appends report report_after (line_of x) → RunAnswer o bytes call.taken call.taken_after report report_after (status_of x)
run_answer o call (outcome.Done end) bytes report report_after h is small r fine told =
    inl (headline o bytes call.taken call.taken_after report report_after (end_status end) (has_done true (simrun_behaviour o) call (outcome.Done end) bytes report report_after h is told (end_kind end)))
run_answer o call (outcome.Refused why) bytes report report_after h is small r fine told =
    let (end, text, s) = simulated o bytes r in
    absurd (h.refused.nothing end text (subst (λ l. IsSimulation o l end text) (sym (its_input true call h.input bytes h.read is)) s))
run_answer o call outcome.Usage bytes report report_after h is small r fine told = absurd h
run_answer o call outcome.ReadFault bytes report report_after h is small r fine told = absurd (fine h.fault)
run_answer o call outcome.WriteFault bytes report report_after h is small r fine told =
    inr (inl (refl, record { end = h.end; text = h.text; simulation = its_run o call h.input bytes h.text h.end h.read is h.done.writes; part = h.part }))
run_answer o call outcome.Memory bytes report report_after h is small r fine told = inr (inr (refl, h.unwritten.nothing, none_told report report_after told))
run_answer o call outcome.InputTooLong bytes report report_after h is small r fine told = absurd (not_too_long true call bytes refl is small h.took)

-- where it wasn't
pub run_untold : (o : RunOptions) (call : Call) (x : Outcome) (bytes : List ℕ) → IsCausedBy true (simrun_behaviour o) call x → call.left ≡ Some bytes → IsRunnable bytes → WasCut o bytes call.taken call.taken_after
run_untold o call (outcome.Done end) bytes h is r =
    record { end = end; text = h.text; simulation = its_run o call h.input bytes h.text end h.read is h.done.writes; part = all_taken call.taken call.taken_after h.text h.written }
run_untold o call (outcome.Refused why) bytes h is r = cut_at_first o bytes call.taken call.taken_after r h.unwritten.nothing
run_untold o call outcome.Usage bytes h is r = absurd h
run_untold o call outcome.ReadFault bytes h is r = cut_at_first o bytes call.taken call.taken_after r h.unwritten.nothing
run_untold o call outcome.WriteFault bytes h is r =
    record { end = h.end; text = h.text; simulation = its_run o call h.input bytes h.text h.end h.read is h.done.writes; part = h.part }
run_untold o call outcome.Memory bytes h is r = cut_at_first o bytes call.taken call.taken_after r h.unwritten.nothing
run_untold o call outcome.InputTooLong bytes h is r = cut_at_first o bytes call.taken call.taken_after r h.unwritten.nothing

-- ---- what has written

-- a run that has written ends with a status of its own, or a write failed
pub begun : (o : RunOptions) (call : Call) (x : Outcome) → IsCausedBy true (simrun_behaviour o) call x → (Keeps call.taken call.taken_after → ⊥) → IsRunStatus (status_of x) ⊎ (status_of x ≡ status.WriteFault)
begun o call (outcome.Done end) h moved = inl (run_status o h.input h.text end h.done.writes)
begun o call (outcome.Refused why) h moved = absurd (moved h.unwritten.nothing)
begun o call outcome.Usage h moved = absurd h
begun o call outcome.ReadFault h moved = absurd (moved h.unwritten.nothing)
begun o call outcome.WriteFault h moved = inr refl
begun o call outcome.Memory h moved = absurd (moved h.unwritten.nothing)
begun o call outcome.InputTooLong h moved = absurd (moved h.unwritten.nothing)
