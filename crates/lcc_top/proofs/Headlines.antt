-- The headlines, from what each command has done.
use Rattle.std.proofs.Common.{◌≡◌, ℕ, ◌⊎◌, inl, inr, List, sym, subst}
use Rattle.std.specs.declared.option.Option.{Option}
use Rattle.std.specs.Io.KnownBytes.{Appends}
use Rattle.command_words.specs.declared.ceval_options.CevalOptions.{CevalOptions}
use Rattle.command_words.specs.declared.run_options.RunOptions.{RunOptions}
use Rattle.outcomes.specs.declared.outcome.End.{End}
use Rattle.outcomes.specs.declared.outcome.End.TheVariants as ends
use Rattle.outcomes.specs.declared.status.Status.{Status}
use Rattle.outcomes.specs.declared.status.Status.TheVariants as status
use Rattle.outcomes.specs.Status.{IsEndKind, IsEndStatus, IsRunStatus}
use Rattle.outcomes.specs.Outcome.{end_status, end_line}
use Rattle.outcomes.specs.Answers.{HasDone}
use Rattle.lburg_tool.specs.Cover.{CoverEnds, cover_behaviour}
use Rattle.simrun_tool.specs.Simulation.{simrun_behaviour}
use Rattle.rcc_tool.specs.Compilation.{IsCompilation, WritesRcc, rcc_behaviour}
use Rattle.ceval_tool.specs.Evaluation.{ceval_behaviour}
use Rattle.lcc_top.specs.Headline.{IsAnswer, CoverHeadline, RunHeadline, CompilerHeadline, EvaluationHeadline}

-- ---- lburg cover

cover_end : (s : Status) → (s ≡ status.Ok) ⊎ (s ≡ status.NoCover) → IsEndStatus s
cover_end s (inl is) = subst IsEndStatus (sym is) tt
cover_end s (inr is) = subst IsEndStatus (sym is) tt

cover_answer : (uncovered : ℕ) (end : End) (answer : Status) (report report_after : Option (List ℕ)) → CoverEnds uncovered end → answer ≡ end_status end → Appends report report_after (end_line end) → IsAnswer uncovered answer report report_after
cover_answer uncovered ends.Finished answer report report_after none is told = inl (none, is, told)
cover_answer uncovered (ends.NoCover n) answer report report_after (same, some) is told =
    subst (λ k. IsAnswer k answer report report_after) (sym same) (inr (some, is, told))
cover_answer uncovered end answer report report_after none is told = absurd none

pub cover_headline : (bytes : List ℕ) (taken taken_after report report_after : Option (List ℕ)) (answer : Status) → (IsEndStatus answer → HasDone cover_behaviour bytes taken taken_after report report_after answer) → (answer ≡ status.Ok) ⊎ (answer ≡ status.NoCover) → CoverHeadline bytes taken taken_after report report_after answer
cover_headline bytes taken taken_after report report_after answer done good =
    let h = done (cover_end answer good) in
    let (uncovered, cover, ends) = h.writes in
    record { text = h.text; uncovered = uncovered; cover = cover; written = h.written; answered = cover_answer uncovered h.end answer report report_after ends h.answered h.reported }

-- ---- simrun

run_end : (s : Status) → IsRunStatus s → IsEndStatus s
run_end s (inl is) = subst IsEndStatus (sym is) tt
run_end s (inr is) = subst IsEndKind (sym is) tt

pub run_headline : (o : RunOptions) (bytes : List ℕ) (taken taken_after report report_after : Option (List ℕ)) (answer : Status) → (IsEndStatus answer → HasDone (simrun_behaviour o) bytes taken taken_after report report_after answer) → IsRunStatus answer → RunHeadline o bytes taken taken_after report report_after answer
run_headline o bytes taken taken_after report report_after answer done good =
    let h = done (run_end answer good) in
    record { end = h.end; text = h.text; simulation = h.writes; written = h.written; answered = h.answered; reported = h.reported }

-- ---- rcc

compiled : (input text : List ℕ) (end : End) → WritesRcc input end text → IsCompilation input text
compiled input text ends.Finished made = made
compiled input text end none = absurd none

pub compiler_headline : (bytes : List ℕ) (taken taken_after report report_after : Option (List ℕ)) (answer : Status) → (IsEndStatus answer → HasDone rcc_behaviour bytes taken taken_after report report_after answer) → answer ≡ status.Ok → CompilerHeadline bytes taken taken_after
compiler_headline bytes taken taken_after report report_after answer done good =
    let h = done (subst IsEndStatus (sym good) tt) in
    record { text = h.text; compilation = compiled bytes h.text h.end h.writes; written = h.written }

-- ---- ceval

evaluation_end : (s : Status) → (s ≡ status.Ok) ⊎ (s ≡ status.Undefined) ⊎ (s ≡ status.OutOfTurns) → IsEndStatus s
evaluation_end s (inl is) = subst IsEndStatus (sym is) tt
evaluation_end s (inr (inl is)) = subst IsEndStatus (sym is) tt
evaluation_end s (inr (inr is)) = subst IsEndStatus (sym is) tt

pub evaluation_headline : (o : CevalOptions) (bytes : List ℕ) (taken taken_after report report_after : Option (List ℕ)) (answer : Status) → (IsEndStatus answer → HasDone (ceval_behaviour o) bytes taken taken_after report report_after answer) → (answer ≡ status.Ok) ⊎ (answer ≡ status.Undefined) ⊎ (answer ≡ status.OutOfTurns) → EvaluationHeadline o bytes taken taken_after report report_after answer
evaluation_headline o bytes taken taken_after report report_after answer done good =
    let h = done (evaluation_end answer good) in
    record { end = h.end; text = h.text; evaluation = h.writes; written = h.written; answered = h.answered; reported = h.reported }
