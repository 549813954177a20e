-- How far the machine gets with the run of a program, from its answers to the call of the function main.
use Rattle.std.proofs.Common.{◌≡◌, inl, inr, ⊎_elim, ℕ, suc, ◌+◌, ◌-◌, ◌*◌, ◌<◌, ◌≤◌, List, [], ◌∷◌, length, Some, refl, sym, ap, ◌∙◌, subst, arith}
use Rattle.std.specs.Int.{cast_signed, w32}
use Rattle.std.proofs.lemmas.Bool.{cases_lt}
use Rattle.lcc_base.specs.declared.order.Order.{Order}
use Rattle.asm_text.specs.Program.{MProgram}
use Rattle.asm_text.specs.Runs.{Run, Ended, IsGoing, after, onward, run_from}
use Rattle.forests.specs.Words.{Word, Plain}
use Rattle.objects.specs.declared.value.Value.TheVariants.{Number}
use Rattle.lcc_base.specs.Traces.{output_of}
use Rattle.forests.specs.Worlds.{World, Point, Move, Effect, Went, Exits, Unfinished, Stuck}
use Rattle.vcode.specs.Execution.{first_of}
use Rattle.vcode.specs.Maps.{Map, IsWord}
use Rattle.asm_text.specs.Addresses.{end_at}
use Rattle.mips_machine.specs.State.{Cpu}
use Rattle.mips_machine.specs.StepTable.{register, ends}
use Rattle.mips_programs.specs.Working.{Working, on, step_in, runs}
use Rattle.mips_programs.specs.Matches.{Answers, CameBack}
use Rattle.program_runs.specs.Reached.{status_in, seen, Reached, HasEnded, IsOut, IsAtWork}
use Rattle.program_runs.specs.Meant.{HasMeaning}

-- at the address where a run ends, it ends
step_ends : (p : MProgram) (order : Order) (cpu : Cpu) (left : List ℕ) → cpu.pc ≡ end_at → step_in p order cpu left ≡ ends cpu 2
step_ends p order cpu left e = rw e refl

-- the run at the end, whose status is in register 2
abbrev ended_run : Working → Run Cpu
ended_run h = record { printed = h.printed; place = Ended (cast_signed w32 (register h.cpu 2)) }

onward_ends : (p : MProgram) (order : Order) (h : Working) → h.cpu.pc ≡ end_at → onward (step_in p order) (on h).printed (on h).place ≡ ended_run h
onward_ends p order h e = ap (after h.printed h.left) (step_ends p order h.cpu h.left e)

run_ends : (p : MProgram) (order : Order) (h end : Working) (j : ℕ) → runs p order h j ≡ on end → end.cpu.pc ≡ end_at → runs p order h (suc j) ≡ ended_run end
run_ends p order h end j gets at = ap (λ (x : Run Cpu). onward (step_in p order) x.printed x.place) gets ∙ onward_ends p order end at

number_is : (map : Map) (ws : List Word) (n r : ℕ) → ws ≡ Plain (Number n) ∷ [] → IsWord map (first_of ws) r → r ≡ n
number_is map ws n r e h = subst (λ vs. IsWord map (first_of vs) r) e h

bounded : (n j long : ℕ) → suc n * long ≤ j * long + long → 0 < long → n ≤ j
bounded n j long a b = ⊎_elim (λ l. absurd (no_more l)) (λ l. l) (cases_lt j n)
  where
    no_more : j < n → ⊥
    no_more l =
        let d = n - suc j in
        let g : n ≡ suc j + d = omega arith in
        let e : (suc j + d) * long ≡ long + j * long + d * long = grind arith in
        let e2 : suc n * long ≡ long + n * long = grind arith in
        let e3 : n * long ≡ long + j * long + d * long = ap (λ x. x * long) g ∙ e in
        omega arith

module _ (p : MProgram) (order : Order) (room : ℕ → ℕ) (map : Map) (u : World) (h : Working) (back : register h.cpu 31 ≡ end_at) where
  abbrev pub Gets : ℕ → Effect → Type 0
  Gets n e = Reached (λ m. run_from (step_in p order) (on h) m) (length h.cpu.stack) n (seen room e)

  came_back : (n : ℕ) (ws : List Word) (q : Point) (mv : Move) → HasMeaning (Went ws q mv) → CameBack p order map [] u h ws q.world → Gets n (Went ws q mv)
  came_back n ws q mv meant a =
      let end = a.place in
      let status = cast_signed w32 (register end.cpu 2) in
      let value : register end.cpu 2 ≡ meant.0 = number_is a.later ws meant.0 (register end.cpu 2) meant.1 a.result in
      let run : runs p order h (suc a.gets.0) ≡ record { printed = output_of q.world.trace; place = Ended status } = run_ends p order h end a.gets.0 a.gets.2 (a.at ∙ back) ∙ ap (λ out. record { printed = out; place = Ended status }) a.shows.printed in
      HasEnded (suc a.gets.0) status run (ap status_in meant.1 ∙ ap (λ x. Some (cast_signed w32 x)) (sym value))

  reach_in : (long n far : ℕ) (e : Effect) → ((j : ℕ) → far ≤ j * long + long → n ≤ j) → HasMeaning e → Answers p order room map long far [] u h e → Gets n e
  reach_in long n far (Went ws q mv) pays meant (inl a) = came_back n ws q mv meant a
  reach_in long n far (Went ws q mv) pays meant (inr s) = IsOut s.steps s.pc s.printed s.out s.part s.small
  reach_in long n far (Exits status w) pays meant (inl a) = HasEnded a.steps (cast_signed w32 status) a.ended refl
  reach_in long n far (Exits status w) pays meant (inr s) = IsOut s.steps s.pc s.printed s.out s.part s.small
  reach_in long n far (Unfinished w) pays meant (inl a) = IsAtWork a.steps (pays a.steps a.many) (subst (λ (x : Run Cpu). IsGoing x.place) (sym a.gets) tt) (ap (λ (x : Run Cpu). x.printed) a.gets ∙ a.printed) refl
  reach_in long n far (Unfinished w) pays meant (inr s) = IsOut s.steps s.pc s.printed s.out s.part s.small
  reach_in long n far Stuck pays meant a = absurd meant

  -- with a budget for n turns and one more it has made n steps or is over
  pub reach : (long n : ℕ) (e : Effect) → 0 < long → HasMeaning e → Answers p order room map long (suc n * long) [] u h e → Gets n e
  reach long n e more meant a = reach_in long n (suc n * long) e (λ j le. bounded n j long le more) meant a

  -- with any budget it has come as far as the effect
  pub reach_any : (long far : ℕ) (e : Effect) → HasMeaning e → Answers p order room map long far [] u h e → Gets 0 e
  reach_any long far e meant a = reach_in long 0 far e (λ j le. omega arith) meant a
