-- Runs of a machine, over any states: one that goes on from where another got, and one that is over.
use Rattle.std.proofs.Common.{◌≡◌, ⊎_elim, ℕ, zero, suc, ◌+◌, ◌-◌, ◌≤◌, List, [], refl, sym, ap, ◌∙◌, subst, arith}
use Rattle.std.specs.Prelude.{All}
use Rattle.std.proofs.lemmas.Bool.{cases_lt}
use Rattle.std.proofs.lemmas.List.Elements.{All-nil, All-drop}
use Rattle.asm_text.specs.Runs.{MStep, Goes, Ends, IsStuck, IsOut, Run, Place, Going, Ended, Stuck, StackOut, after, onward, run_from}
use Rattle.asm_text.specs.IsPrefix.{IsPrefix}
use Rattle.asm_text.proofs.lemmas.RunLaws.{prefix_of}
use Rattle.program_runs.proofs.lemmas.Prefixes.{prefix_same}

-- one step adds to what is printed
after_grows : {S : Type 0} (printed left : List ℕ) (s : MStep S) → IsPrefix printed (after printed left s).printed
after_grows printed left (Goes state more taken) = (more, refl)
after_grows printed left (Ends status) = prefix_same printed
after_grows printed left (IsStuck cause pc) = prefix_same printed
after_grows printed left (IsOut pc) = prefix_same printed

-- the input that is left
abbrev pub left_at : {S : Type 0} → Place S → List ℕ
left_at (Going state left) = left
left_at (Ended status) = []
left_at (Stuck cause pc) = []
left_at (StackOut pc) = []

-- one step takes from what is left
after_left : {S : Type 0} (P : ℕ → Type 0) (printed left : List ℕ) (s : MStep S) → All P left → All P (left_at (after printed left s).place)
after_left P printed left (Goes state more taken) h = All-drop P taken left h
after_left P printed left (Ends status) h = All-nil P
after_left P printed left (IsStuck cause pc) h = All-nil P
after_left P printed left (IsOut pc) h = All-nil P

module _ {S : Type 0} (step : S → List ℕ → MStep S) where
  onward_left : (P : ℕ → Type 0) (printed : List ℕ) (place : Place S) → All P (left_at place) → All P (left_at (onward step printed place).place)
  onward_left P printed (Going state left) h = after_left P printed left (step state left) h
  onward_left P printed (Ended status) h = h
  onward_left P printed (Stuck cause pc) h = h
  onward_left P printed (StackOut pc) h = h

  -- what is so of each byte that is left stays so
  pub run_left : (P : ℕ → Type 0) (n : ℕ) (r : Run S) → All P (left_at r.place) → All P (left_at (run_from step r n).place)
  run_left P zero r h = h
  run_left P (suc n) r h = let before = run_from step r n in onward_left P before.printed before.place (run_left P n r h)

  pub run_more : (run : Run S) (a b : ℕ) → run_from step run (a + b) ≡ run_from step (run_from step run a) b
  run_more run a zero = let e : a + 0 ≡ a = omega arith in ap (λ (n : ℕ). run_from step run n) e
  run_more run a (suc b) =
      let e : a + suc b ≡ suc (a + b) = omega arith in
      ap (λ (n : ℕ). run_from step run n) e ∙ ap (λ (r : Run S). onward step r.printed r.place) (run_more run a b)

  onward_grows : (printed : List ℕ) (place : Place S) → IsPrefix printed (onward step printed place).printed
  onward_grows printed (Going state left) = after_grows printed left (step state left)
  onward_grows printed (Ended status) = prefix_same printed
  onward_grows printed (Stuck cause pc) = prefix_same printed
  onward_grows printed (StackOut pc) = prefix_same printed

  run_grows : (n : ℕ) (r : Run S) → IsPrefix r.printed (run_from step r n).printed
  run_grows zero r = prefix_same r.printed
  run_grows (suc n) r =
      let before = run_from step r n in
      prefix_of r.printed before.printed (onward step before.printed before.place).printed (run_grows n r) (onward_grows before.printed before.place)

  pub grows_to : (i j : ℕ) (r : Run S) → i ≤ j → IsPrefix (run_from step r i).printed (run_from step r j).printed
  grows_to i j r le =
      let d : i + (j - i) ≡ j = omega (arith, le) in
      subst (λ (x : Run S). IsPrefix (run_from step r i).printed x.printed) (sym (run_more r i (j - i)) ∙ ap (λ (n : ℕ). run_from step r n) d) (run_grows (j - i) (run_from step r i))

  -- the run is over: a step changes nothing
  abbrev pub IsOver : Run S → Type 0
  IsOver r = onward step r.printed r.place ≡ r

  -- what is over stays
  stays : (n : ℕ) (r : Run S) → IsOver r → run_from step r n ≡ r
  stays zero r e = refl
  stays (suc n) r e = ap (λ (x : Run S). onward step x.printed x.place) (stays n r e) ∙ e

  -- what is over at i is so at each later step
  pub lasts : (i j : ℕ) (r a : Run S) → IsOver a → run_from step r i ≡ a → i ≤ j → run_from step r j ≡ a
  lasts i j r a s e le =
      let d : i + (j - i) ≡ j = omega (arith, le) in
      sym (ap (λ (n : ℕ). run_from step r n) d) ∙ run_more r i (j - i) ∙ ap (λ (x : Run S). run_from step x (j - i)) e ∙ stays (j - i) a s

  -- both over: the same end
  pub one_end : (i j : ℕ) (r a b : Run S) → IsOver a → IsOver b → run_from step r i ≡ a → run_from step r j ≡ b → a ≡ b
  one_end i j r a b sa sb ea eb =
      ⊎_elim (λ l. sym (lasts i j r a sa ea (omega (arith, l))) ∙ eb) (λ l. sym ea ∙ lasts j i r b sb eb l) (cases_lt i j)
