use Rattle.std.proofs.Common.{◌≡◌, ◌⊎◌, inl, inr, refl, sym, ◌∙◌, subst}
use Rattle.command_words.specs.declared.words.Command.TheVariants.{Cover, Simrun, Rcc, Ceval}
use Rattle.command_words.specs.Commands.{reads}
use Rattle.outcomes.specs.declared.status.Status.{Status}
use Rattle.outcomes.specs.declared.status.Status.TheVariants as status
use Rattle.outcomes.specs.Status.{IsEndStatus, IsRunStatus, IsFree}
use Rattle.outcomes.specs.Answers.{HasDone, IsTold}
use Rattle.outcomes.proofs.lemmas.Told as told
use Rattle.lcc_top.specs.Commands.{behaviour_of}
use Rattle.lcc_top.specs.RunAnswer.{RunAnswer}
use Rattle.lcc_top.proofs.Served as of
use Rattle.lcc_top.proofs.RunAnswers.{run_answer, run_untold, begun}
use Rattle.lcc_top.proofs.Headlines.{cover_headline, run_headline, compiler_headline, evaluation_headline}
use Rattle.lcc_top.proofs.calling.top.Goals as goal

pub returns-in-Ok-clause-done : goal.returns-in-Ok-clause-done
returns-in-Ok-clause-done g c = λ command bytes words is good.
    (let Done : Status → Type 0 = λ s. HasDone (behaviour_of command) bytes (g.K.Sink.taken c.args.output.now) (g.K.Sink.taken c.run-outcome.new.output) (g.E.Sink.taken c.args.report.now) (g.E.Sink.taken c.write_line.new.report) s in
    subst Done (sym c.status.ensures) (told.has_done (reads command) (behaviour_of command) _ c.run-outcome.result bytes _ _ (of.served command _ _ c.run-outcome.result c.run-outcome.ensures.caused words) is c.in-Ok.ensures.all (subst IsEndStatus c.status.ensures good)))

pub returns-in-Ok-clause-cover_headline : goal.returns-in-Ok-clause-cover_headline
returns-in-Ok-clause-cover_headline g c = λ bytes words is. cover_headline bytes _ _ _ _ _ (returns-in-Ok-clause-done g c Cover bytes words is)

pub returns-in-Ok-clause-simrun_headline : goal.returns-in-Ok-clause-simrun_headline
returns-in-Ok-clause-simrun_headline g c = λ o bytes words is. run_headline o bytes _ _ _ _ _ (returns-in-Ok-clause-done g c (Simrun o) bytes words is)

pub returns-in-Ok-clause-simrun_answers : goal.returns-in-Ok-clause-simrun_answers
returns-in-Ok-clause-simrun_answers g c = λ o bytes words is small runs fine.
    (let Answer : Status → Type 0 = λ s. RunAnswer o bytes (g.K.Sink.taken c.args.output.now) (g.K.Sink.taken c.run-outcome.new.output) (g.E.Sink.taken c.args.report.now) (g.E.Sink.taken c.write_line.new.report) s in
    subst Answer (sym c.status.ensures) (run_answer o _ c.run-outcome.result bytes _ _ (of.served (Simrun o) _ _ c.run-outcome.result c.run-outcome.ensures.caused words) is small runs fine c.in-Ok.ensures.all))

pub returns-in-Err-clause-simrun_answers : goal.returns-in-Err-clause-simrun_answers
returns-in-Err-clause-simrun_answers g c = λ o bytes words is small runs fine.
    inr (inl (refl, run_untold o _ c.run-outcome.result bytes (of.served (Simrun o) _ _ c.run-outcome.result c.run-outcome.ensures.caused words) is runs))

pub returns-in-Ok-clause-simrun_begun : goal.returns-in-Ok-clause-simrun_begun
returns-in-Ok-clause-simrun_begun g c = λ o words moved.
    (let Answer : Status → Type 0 = λ s. IsRunStatus s ⊎ (s ≡ status.WriteFault) in
    subst Answer (sym c.status.ensures) (begun o _ c.run-outcome.result (of.served (Simrun o) _ _ c.run-outcome.result c.run-outcome.ensures.caused words) moved))

pub returns-in-Ok-clause-compiler_headline : goal.returns-in-Ok-clause-compiler_headline
returns-in-Ok-clause-compiler_headline g c = λ bytes words is. compiler_headline bytes _ _ _ _ _ (returns-in-Ok-clause-done g c Rcc bytes words is)

pub returns-in-Ok-clause-ceval_headline : goal.returns-in-Ok-clause-ceval_headline
returns-in-Ok-clause-ceval_headline g c = λ o bytes words is. evaluation_headline o bytes _ _ _ _ _ (returns-in-Ok-clause-done g c (Ceval o) bytes words is)

pub returns-in-Ok-clause-complete : goal.returns-in-Ok-clause-complete
returns-in-Ok-clause-complete g c = λ command bytes words is small accepts fine sound quiet.
    (let Answer : Status → Type 0 = λ s. HasDone (behaviour_of command) bytes (g.K.Sink.taken c.args.output.now) (g.K.Sink.taken c.run-outcome.new.output) (g.E.Sink.taken c.args.report.now) (g.E.Sink.taken c.write_line.new.report) s ⊎ (s ≡ status.Memory) in
    subst Answer (sym c.status.ensures) (told.done_or_memory (reads command) (behaviour_of command) _ c.run-outcome.result bytes _ _ (of.served command _ _ c.run-outcome.result c.run-outcome.ensures.caused words) is small accepts fine sound c.in-Ok.ensures.all))

pub returns-in-Ok-clause-refused : goal.returns-in-Ok-clause-refused
returns-in-Ok-clause-refused g c = λ command bytes why words is small refuses fine.
    (let Answer : Status → Type 0 = λ s. IsTold (behaviour_of command) bytes (g.E.Sink.taken c.args.report.now) (g.E.Sink.taken c.write_line.new.report) s ⊎ IsFree s in
    let caused = of.served command _ _ c.run-outcome.result c.run-outcome.ensures.caused words in
    (told.refused_kept (reads command) (behaviour_of command) _ c.run-outcome.result bytes why caused is refuses, subst Answer (sym c.status.ensures) (told.told_or_free (reads command) (behaviour_of command) _ c.run-outcome.result bytes why _ _ caused is small refuses fine c.in-Ok.ensures.all)))

pub returns-in-Err-clause-refused : goal.returns-in-Err-clause-refused
returns-in-Err-clause-refused g c = λ command bytes why words is small refuses fine.
    (told.refused_kept (reads command) (behaviour_of command) _ c.run-outcome.result bytes why (of.served command _ _ c.run-outcome.result c.run-outcome.ensures.caused words) is refuses, inr (inr refl))

pub returns-in-Ok-clause-wrong_words : goal.returns-in-Ok-clause-wrong_words
returns-in-Ok-clause-wrong_words g c = λ none.
    (let Answer : Status → Type 0 = λ s. (s ≡ status.Usage) ⊎ IsFree s in
    subst Answer (sym c.status.ensures) (of.usage _ _ c.run-outcome.result c.run-outcome.ensures.caused none))

pub returns-in-Ok-clause-unread : goal.returns-in-Ok-clause-unread
returns-in-Ok-clause-unread g c = λ none. let same = of.unread _ _ c.run-outcome.result c.run-outcome.ensures.caused none in (same.kept, same.unbroken)

pub returns-in-Err-clause-unread : goal.returns-in-Err-clause-unread
returns-in-Err-clause-unread g c = λ none. let same = of.unread _ _ c.run-outcome.result c.run-outcome.ensures.caused none in (same.kept, same.unbroken)

pub returns-in-Ok-clause-too_long : goal.returns-in-Ok-clause-too_long
returns-in-Ok-clause-too_long g c = λ command bytes words reading is more fine.
    (let Answer : Status → Type 0 = λ s. (s ≡ status.InputTooLong) ⊎ IsFree s in
    subst Answer (sym c.status.ensures) (told.too_long_or_free (behaviour_of command) _ c.run-outcome.result bytes (of.too_long command _ _ c.run-outcome.result c.run-outcome.ensures.caused words reading) is more fine))

pub returns-in-Ok-clause-read_fault : goal.returns-in-Ok-clause-read_fault
returns-in-Ok-clause-read_fault g c = λ is. of.read_fault _ _ c.run-outcome.result c.run-outcome.ensures.caused (sym c.status.ensures ∙ is)

pub returns-in-Ok-clause-write_fault : goal.returns-in-Ok-clause-write_fault
returns-in-Ok-clause-write_fault g c = λ is. inl (of.write_fault _ _ c.run-outcome.result c.run-outcome.ensures.caused (sym c.status.ensures ∙ is))

pub returns-in-Ok-clause-unbroken : goal.returns-in-Ok-clause-unbroken
returns-in-Ok-clause-unbroken g c = λ more. inl (c.status.ensures ∙ of.fault_of_input _ _ c.run-outcome.result c.run-outcome.ensures.caused more)

pub returns-in-Ok-clause-output_unbroken : goal.returns-in-Ok-clause-output_unbroken
returns-in-Ok-clause-output_unbroken g c = λ more. c.status.ensures ∙ of.fault_of_output _ _ c.run-outcome.result c.run-outcome.ensures.caused more

pub returns-in-Ok-clause-memory : goal.returns-in-Ok-clause-memory
returns-in-Ok-clause-memory g c = λ is. let same = of.memory_kept _ _ c.run-outcome.result c.run-outcome.ensures.caused (sym c.status.ensures ∙ is) in (same.nothing, same.sound)
