-- Progress, and what a call leaves.
use Rattle.std.specs.Prelude.{◌≡◌, ◌≤◌, ◌<◌, ℕ, zero, suc, ◌+◌, ◌-◌, ◌*◌, ◌==◌, true, false, pos, List, [], ◌∷◌, length, IsTrue}
use Rattle.std.proofs.Common.{refl, sym, ◌∙◌, subst, inl, inr, ⊎_elim, arith}
use Rattle.std.proofs.lemmas.Bool.{both_ways, eqb-true, or_cases, cond-true}
use Rattle.std.specs.Int.Bits.{and_zero_r}
use Rattle.lcc_base.specs.declared.order.Order.{Order}
use Rattle.asm_text.specs.Program.{MProgram}
use Rattle.asm_text.specs.Runs.{Run}
use Rattle.asm_text.proofs.lemmas.RunLaws.{prefix_of}
use Rattle.forests.specs.Words.{Word, Plain, Label, Partly, unknown}
use Rattle.objects.specs.declared.value.Value.TheVariants.{Number, Pointer, Function}
use Rattle.lcc_base.specs.Traces.{output_of}
use Rattle.forests.specs.Worlds.{World, Point, Outcome, Finished, Exited, Going, Failed}
use Rattle.forests.specs.Begun.{BeginsIn, Starts as Goes_on, output_starts, depth_starts}
use Rattle.vcode.specs.Execution.{State, without}
use Rattle.vcode.specs.VirtualCode.{among}
use Rattle.vcode.specs.Maps.{Map, IsWord, Grown}
use Rattle.mips_machine.specs.State.{Cpu}
use Rattle.mips_machine.specs.StepTable.{register}
use Rattle.mips_rules.specs.Losses.{lost_at_calls}
use Rattle.mips_target.specs.Generated.{temporaries}
use Rattle.mips_programs.specs.Working.{Working, runs, Gets}
use Rattle.mips_programs.specs.Frames.{Waiting, IsOwn, Frame, stack_of, frame_word}
use Rattle.mips_programs.specs.Matches.{Handed, Alike, Spent, Comes, CameBack}
use Rattle.mips_programs.proofs.Steps.{runs_more, both_gets}
use Rattle.mips_programs.proofs.Words.{small_index}

-- a run that goes on from where the machine gets
pub runs_on : (p : MProgram) (order : Order) (h h' : Working) (g : Gets p order h h') (n : ℕ) (r : Run Cpu) → runs p order h' n ≡ r → runs p order h (g.0 + n) ≡ r
runs_on p order h h' g n r e = runs_more p order h h' g.0 n g.2 ∙ e

-- an instruction at least was run, so another one is paid for
paid : (n m j long len less : ℕ) → n ≤ m * long + len → len < long → 1 ≤ j → suc n ≤ (j + m) * long + less
paid n m zero long len less a b c = absurd (omega arith)
paid n m (suc j) long len less a b c =
    let e : (suc j + m) * long ≡ long + j * long + m * long = grind arith in omega arith

-- what a map knows of a word, a later one does
pub grown_word : (a b : Map) (w : Word) (h : ℕ) → Grown a b → IsWord a w h → IsWord b w h
grown_word a b (Plain (Number n)) h gr is = is
grown_word a b (Plain (Pointer object offset)) h gr is = (is.0, gr.objects object.made is.0 is.1, is.2)
grown_word a b (Plain (Function name)) h gr is = is ∙ sym (gr.functions name)
grown_word a b (Label function label) h gr is = is ∙ sym (gr.labels function label)
grown_word a b (Partly mask bits) h gr is = is

pub grown_same : (a : Map) → Grown a a
grown_same a = record { objects = λ o place e. e; functions = λ f. refl; labels = λ f l. refl }

pub grown_more : (a b c : Map) → Grown a b → Grown b c → Grown a c
grown_more a b c x y = record {
  objects = λ o place e. y.objects o place (x.objects o place e);
  functions = λ f. y.functions f ∙ x.functions f;
  labels = λ f l. y.labels f l ∙ x.labels f l;
}

module _ (p : MProgram) (order : Order) (room : ℕ → ℕ) where
  pub spent_later : (stack : ℕ) (h h' : Working) (w : World) → Gets p order h h' → Spent p order room stack h' w → Spent p order room stack h w
  spent_later stack h h' w g c = record {
    steps = g.0 + c.steps;
    pc = c.pc;
    printed = c.printed;
    out = runs_on p order h h' g c.steps _ c.out;
    part = c.part;
    small = c.small;
  }

  -- the output and the depth of one world go on from another's
  pub spent_more : (stack : ℕ) (h : Working) (w more : World) → Goes_on w.trace more.trace → Spent p order room stack h w → Spent p order room stack h more
  spent_more stack h w more e c = record {
    steps = c.steps;
    pc = c.pc;
    printed = c.printed;
    out = c.out;
    part = prefix_of c.printed (output_of w.trace) (output_of more.trace) c.part (output_starts w.trace more.trace e);
    small = let d = depth_starts room [] w.trace more.trace e in omega (arith, c.small, d);
  }

  -- where the stack was too small, so it is for the whole run
  pub spent_in : (map : Map) (long : ℕ) (f : Frame) (n len : ℕ) (h : Working) (u : World) (o : Outcome) → BeginsIn u.trace o → Spent p order room (stack_of f) h u → Comes p order room map long f n len h o
  spent_in map long f n len h u (Finished v q) e c = inr (spent_more (stack_of f) h u q.world e c)
  spent_in map long f n len h u (Exited status w) e c = inr (spent_more (stack_of f) h u w e c)
  spent_in map long f n len h u (Going w) e c = inr (spent_more (stack_of f) h u w e c)
  spent_in map long f n len h u Failed e c = tt

  -- the run from where the machine gets by one step at least, which pays for another instruction
  pub later : (map map' : Map) (long : ℕ) (f : Frame) (n len less : ℕ) (h h' : Working) (o : Outcome) → len < long → Grown map map' → Gets p order h h' → Comes p order room map' long f n len h' o → Comes p order room map long f (suc n) less h o
  later map map' long f n len less h h' (Finished v q) short gr g (inl c) = inl (record {
    later = c.later;
    place = c.place;
    gets = both_gets p order h h' c.place g c.gets;
    grown = grown_more map map' c.later gr c.grown;
    bare = c.bare;
    returned = c.returned;
  })
  later map map' long f n len less h h' (Finished v q) short gr g (inr c) = inr (spent_later (stack_of f) h h' q.world g c)
  later map map' long f n len less h h' (Exited status w) short gr g (inl c) = inl (record { steps = g.0 + c.steps; ended = runs_on p order h h' g c.steps _ c.ended })
  later map map' long f n len less h h' (Exited status w) short gr g (inr c) = inr (spent_later (stack_of f) h h' w g c)
  later map map' long f n len less h h' (Going w) short gr g (inl c) = inl (record {
    steps = g.0 + c.steps;
    place = c.place;
    many = paid n c.steps g.0 long len less c.many short g.1;
    gets = runs_on p order h h' g c.steps _ c.gets;
    printed = c.printed;
  })
  later map map' long f n len less h h' (Going w) short gr g (inr c) = inr (spent_later (stack_of f) h h' w g c)
  later map map' long f n len less h h' Failed short gr g c = tt

  -- less is claimed of the number of steps
  weaken : (map : Map) (long : ℕ) (f : Frame) (n b len : ℕ) (h : Working) (o : Outcome) → b ≤ n → Comes p order room map long f n len h o → Comes p order room map long f b len h o
  weaken map long f n b len h (Finished v q) le c = c
  weaken map long f n b len h (Exited status w) le c = c
  weaken map long f n b len h (Going w) le (inl c) = inl (record { steps = c.steps; place = c.place; many = omega (arith, le, c.many); gets = c.gets; printed = c.printed })
  weaken map long f n b len h (Going w) le (inr c) = inr c
  weaken map long f n b len h Failed le c = tt

  -- the same, for a number of instructions that may be none
  pub later_by : (map map' : Map) (long : ℕ) (f : Frame) (b len less : ℕ) (h h' : Working) (o : Outcome) → len < long → Grown map map' → Gets p order h h' → Comes p order room map' long f (b - 1) len h' o → Comes p order room map long f b less h o
  later_by map map' long f b len less h h' o short gr g c =
      weaken map long f (suc (b - 1)) b less h o (omega arith) (later map map' long f (b - 1) len less h h' o short gr g c)

-- the calls that wait for one that this call makes
abbrev pub waiting_in : Frame → List Waiting
waiting_in f = record { low = f.low; layout = f.layout } ∷ f.outer

lost_at : (r q : ℕ) → among q lost_at_calls ≡ true → (r == q) ≡ true → among r lost_at_calls ≡ true
lost_at r q known e = subst (λ x. among x lost_at_calls ≡ true) (sym (eqb-true r q e)) known

-- a call leaves the temporaries unknown
pub temporary_lost : (r : ℕ) → IsTrue (among r temporaries) → among r lost_at_calls ≡ true
temporary_lost r h =
    ⊎_elim
    (λ e. lost_at r 8 refl e)
    (λ x. ⊎_elim (λ e. lost_at r 9 refl e) (λ y. ⊎_elim (λ e. lost_at r 10 refl e) (λ z. absurd (both_ways false refl z)) (or_cases (r == 10) false y)) (or_cases (r == 9) (among r (10 ∷ [])) x))
    (or_cases (r == 8) (among r (9 ∷ 10 ∷ [])) h)

-- after a call the registers that it loses are unknown, and the argument words are taken
pub called_alike : (p : MProgram) (order : Order) (room : ℕ → ℕ) (map : Map) (f : Frame) (s : State) (q : Point) (h : Working) (ws : List Word) → Alike order room map f s h → (c : CameBack p order map (waiting_in f) s.point.world h ws q.world) → Alike order room c.later f (record { registers = without (λ r. among r lost_at_calls) s.registers; slots = s.slots; point = q }) c.place
called_alike p order room map f s q h ws a c = record {
  leaves = record {
    words = c.words;
    count = c.count;
    room = c.room ∙ a.leaves.room;
    small = small_index c.place.cpu.stack c.small;
    above = λ b k. c.above b (inr k) ∙ a.leaves.above b k;
  };
  shows = c.shows;
  temps = λ r t. subst (λ x. IsWord c.later x (register c.place.cpu r)) (sym (cond-true (among r lost_at_calls) unknown (s.registers r) (temporary_lost r t))) (and_zero_r (register c.place.cpu r));
  spilled = λ z low. subst (λ x. IsWord c.later (s.slots (pos z)) x) (sym (own (f.layout.arguments + z) (omega arith, omega arith))) (grown_word map c.later (s.slots (pos z)) (frame_word order f h.cpu.stack (f.layout.arguments + z)) c.grown (a.spilled z low));
  handed = subst (λ xs. Handed c.later (frame_word order f c.place.cpu.stack) 0 xs) (sym c.taken) tt;
  few = subst (λ (xs : List Word). length xs ≤ f.layout.arguments) (sym c.taken) (omega arith);
  back = own (f.layout.arguments + f.layout.slots) (omega arith, omega arith) ∙ a.back;
  pointer = c.pointer ∙ a.pointer;
  open_calls = c.open_calls ∙ a.open_calls;
  deep = a.deep;
}
  where
    own : (k : ℕ) → IsOwn f.layout k → frame_word order f c.place.cpu.stack k ≡ frame_word order f h.cpu.stack k
    own k is = c.above (f.low + 4 * k) (inl (k, is, refl))
