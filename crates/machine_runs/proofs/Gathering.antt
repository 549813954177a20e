-- Turns of a machine whose output takes only a part of what is printed, while the rest is gathered: a turn more, and a turn
-- that ends the run.
use Rattle.std.proofs.Common.{◌≡◌, ℕ, ◌+◌, ◌≤◌, ◌<◌, List, [], ◌∷◌, ◌++◌, drop, refl, sym, ap, subst, ◌∙◌, append_assoc, append-nil, drop-drop, arith}
use Rattle.std.specs.declared.option.Option.{Option}
use Rattle.std.specs.Io.KnownBytes.{Appends}
use Rattle.std.proofs.KnownBytes.{Appends-trans}
use Rattle.lcc_base.specs.Taken.{TookPrefix}
use Rattle.asm_text.specs.declared.running.Input.{Input}
use Rattle.asm_text.specs.Runs.{MStep, Goes, Run, Place, Going, IsGoing, after, run_from}
use Rattle.outcomes.specs.declared.outcome.End.{End}
use Rattle.outcomes.specs.declared.outcome.End.TheVariants as ends
use Rattle.machine_runs.specs.Turns.{left_of, run_with}
use Rattle.machine_runs.specs.Endings.{IsAt, StopsIn, RunEnds}
use Rattle.machine_runs.proofs.Ongoing.{run_at, behind, printed_before, stops, ends_printed}

module _ {S : Type 0} where
  -- After so many steps the run is going, as the machine, whose steps are the same, and the input now are. What it printed
  -- is what the output took, and what is gathered.
  pub record Turning (step : S → List ℕ → MStep S) (start : S) (input : Input) (n : ℕ) (step_now : S → List ℕ → MStep S) (now : S) (rest : Input) (gathered : List ℕ) (taken taken_now : Option (List ℕ)) : Type 0 where
    pub same : step_now ≡ step
    pub piece : List ℕ
    pub going : run_with step start input n ≡ run_at (piece ++ gathered) (Going now (left_of rest))
    pub took : Appends taken taken_now piece

module _ {S : Type 0} (step step_now : S → List ℕ → MStep S) (start now : S) (input rest : Input) (n : ℕ) (gathered : List ℕ) (taken mid : Option (List ℕ)) where
  behind_turn : (does : MStep S) (h : Turning step start input n step_now now rest gathered taken mid) → step_now now (left_of rest) ≡ does → run_with step start input (n + 1) ≡ after (h.piece ++ gathered) (left_of rest) does
  behind_turn does h is =
      let this : step now (left_of rest) ≡ does = subst (λ (s : S → List ℕ → MStep S). s now (left_of rest) ≡ does) h.same is in
      behind step (run_with step start input 0) n (h.piece ++ gathered) (left_of rest) now does h.going this

  -- a turn more, which printed these bytes: the output has taken as many as this piece
  goes_on : (step_new : S → List ℕ → MStep S) (new : S) (left : Input) (all : List ℕ) (end : Option (List ℕ)) (more : List ℕ) (read : ℕ) (piece : List ℕ) (h : Turning step start input n step_now now rest gathered taken mid) → step_new ≡ step_now → step_now now (left_of rest) ≡ Goes new more read → left ≡ record rest { place = rest.place + read } → (h.piece ++ gathered) ++ more ≡ piece ++ all → Appends taken end piece → Turning step start input (n + 1) step_new new left all taken end
  goes_on step_new new left all end more read piece h same is input_is printed took =
      let Left : List ℕ → Run S = λ l. run_at (piece ++ all) (Going new l) in
      let Printed : List ℕ → Run S = λ l. run_at l (Going new (drop read (left_of rest))) in
      record {
        same = same ∙ h.same;
        piece = piece;
        going =
            behind_turn (Goes new more read) h is
            ∙ ap Printed printed
            ∙ ap Left (drop-drop read rest.place rest.bytes)
            ∙ ap (λ (i : Input). Left (left_of i)) (sym input_is);
        took = took;
      }

  -- a turn that prints nothing
  pub quiet_turn : (step_new : S → List ℕ → MStep S) (new : S) (left : Input) → step_new ≡ step_now → (read : ℕ) × (step_now now (left_of rest) ≡ Goes new [] read) × (left ≡ record rest { place = rest.place + read }) → Turning step start input n step_now now rest gathered taken mid → Turning step start input (n + 1) step_new new left gathered taken mid
  quiet_turn step_new new left same (read, is, input_is) h =
      goes_on step_new new left gathered mid [] read h.piece h same is input_is (append-nil (h.piece ++ gathered)) h.took

  -- a turn that prints a byte: the output took a piece more, and the rest is gathered
  pub printing_turn : (step_new : S → List ℕ → MStep S) (new : S) (left : Input) (all : List ℕ) (end : Option (List ℕ)) (byte : ℕ) → step_new ≡ step_now → (step_now now (left_of rest) ≡ Goes new (byte ∷ []) 0) × (left ≡ rest) → Turning step start input n step_now now rest gathered taken mid → (piece : List ℕ) × Appends mid end piece × (piece ++ all ≡ gathered ++ byte ∷ []) → Turning step start input (n + 1) step_new new left all taken end
  printing_turn step_new new left all end byte same (goes, input_is) h (piece, took, is) =
      let none : rest.place ≡ rest.place + 0 = omega arith in
      goes_on step_new new left all end (byte ∷ []) 0 (h.piece ++ piece) h same goes
      (input_is ∙ ap (λ (k : ℕ). record rest { place = k }) none)
      (append_assoc h.piece gathered (byte ∷ []) ∙ ap (λ (l : List ℕ). h.piece ++ l) (sym is) ∙ sym (append_assoc h.piece piece all))
      (Appends-trans taken mid end h.piece piece h.took took)

  -- a turn that ends the run at a place
  pub last_turn : (does : MStep S) (place : Place S) (steps : ℕ) → (IsGoing place → ⊥) → ((printed left : List ℕ) → after printed left does ≡ run_at printed place) → n < steps → Turning step start input n step_now now rest gathered taken mid → step_now now (left_of rest) ≡ does → (text piece : List ℕ) × (IsAt (run_with step start input) steps text place × StopsIn (run_with step start input) (n + 1) place) × Appends taken mid piece × (piece ++ gathered ≡ text)
  last_turn does place steps over to within h is =
      let next = behind_turn does h is ∙ to (h.piece ++ gathered) (left_of rest) in (
        h.piece ++ gathered,
        h.piece,
        stops step (run_with step start input 0) n steps (h.piece ++ gathered) (left_of rest) now place over within h.going next,
        h.took,
        refl,
      )

  -- the run is still going after all its steps
  pub no_turn_left : (steps : ℕ) → n ≡ steps → Turning step start input n step_now now rest gathered taken mid → (text piece : List ℕ) × RunEnds (run_with step start input) steps text (ends.OutOfSteps steps) × Appends taken mid piece × (piece ++ gathered ≡ text)
  no_turn_left steps same h = (
    h.piece ++ gathered,
    h.piece,
    (refl, (Going now (left_of rest), tt, ap (λ (k : ℕ). run_with step start input k) (sym same) ∙ h.going)),
    h.took,
    refl,
  )

  -- a write fails of what is gathered: the output took a first part of all that the run prints
  pub took_part : (steps : ℕ) (end : Option (List ℕ)) → n ≤ steps → Turning step start input n step_now now rest gathered taken mid → TookPrefix mid end gathered → TookPrefix taken end (run_with step start input steps).printed
  took_part steps end within h (front, others, is, took) =
      let (more, whole) = printed_before step (run_with step start input 0) n steps within in
      let first : h.piece ++ gathered ≡ (h.piece ++ front) ++ others = ap (λ (l : List ℕ). h.piece ++ l) is ∙ sym (append_assoc h.piece front others) in (
        h.piece ++ front,
        others ++ more,
        whole ∙ ap (λ (r : Run S). r.printed ++ more) h.going ∙ ap (λ (l : List ℕ). l ++ more) first ∙ append_assoc (h.piece ++ front) others more,
        Appends-trans taken mid end h.piece front h.took took,
      )

-- a write fails of what was still gathered at the end
pub ended_part : {S : Type 0} (run : ℕ → Run S) (steps : ℕ) (end : End) (gathered : List ℕ) (taken mid after : Option (List ℕ)) → (text piece : List ℕ) × RunEnds run steps text end × Appends taken mid piece × (piece ++ gathered ≡ text) → TookPrefix mid after gathered → TookPrefix taken after (run steps).printed
ended_part run steps end gathered taken mid after (text, piece, ran, had, whole) (front, others, is, took) = (
  piece ++ front,
  others,
  ends_printed run steps text end ran ∙ sym whole ∙ ap (λ (l : List ℕ). piece ++ l) is ∙ sym (append_assoc piece front others),
  Appends-trans taken mid after piece front had took,
)
