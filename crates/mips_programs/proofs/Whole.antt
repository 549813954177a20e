-- Each call of a program's functions is followed, from its first instruction to its return.
use Rattle.std.specs.Prelude.{◌≡◌, ◌≤◌, ◌<◌, ℕ, zero, suc, ◌+◌, ◌-◌, ◌*◌, ◌==◌, min, List, [], ◌∷◌, ◌++◌, length, Option, None, Some}
use Rattle.std.proofs.Common.{refl, sym, ap, ◌∙◌, subst, inl, inr, ⊎_elim, append-nil, length-append, arith}
use Rattle.std.proofs.lemmas.Bool.{cond_both, cases_lt}
use Rattle.std.specs.Int.Bits.{and_zero_r}
use Rattle.lcc_base.specs.declared.order.Order.{Order}
use Rattle.asm_text.specs.Program.{MInstruction, MProgram}
use Rattle.op_forest.specs.Nodes.{Node}
use Rattle.forests.specs.Words.{Word}
use Rattle.lcc_base.specs.Traces.{Opened, Closed, output_of, outer}
use Rattle.forests.specs.Worlds.{World, Point, at_world, Effect, Stuck, Outcome, Finished, Exited, Going, Failed}
use Rattle.forests.specs.Bodies.{Setting, body_run}
use Rattle.op_forest.specs.Callees.{Body, BuiltIn, Putchar, Getchar, Exit, Callee, Defined, Provided, Missing}
use Rattle.forests.specs.Functions.{Program as Meaning, entered, left_behind, value_or, answered, setting_of, call_by}
use Rattle.forests.specs.Begun.{BeginsIn, starts_trans}
use Rattle.forests.proofs.lemmas.Begun.{body_begins}
use Rattle.lcc_base.specs.Prefixes.{output_append}
use Rattle.forests.specs.Nested.{calls_at}
use Rattle.forests.proofs.lemmas.Reached.{nested_begins}
use Rattle.vcode.specs.Maps.{Map, IsWord}
use Rattle.asm_text.specs.Addresses.{code_start, floor_of}
use Rattle.mips_machine.specs.StepTable.{register}
use Rattle.frame_code.specs.declared.instr.Instr.{Instr}
use Rattle.frame_code.specs.declared.instr.Instr.TheVariants as instr
use Rattle.mips_target.specs.declared.layout.Layout.{Layout}
use Rattle.mips_target.specs.Frame.{frame_size}
use Rattle.mips_target.specs.FunctionCode.{instructions_of, handed_behind, body_of, loads_of, prologue, unmarked}
use Rattle.unit_text.specs.Items.{CodeItem, lines_in}
use Rattle.mips_programs.specs.Working.{AreBytes, Working, Gets}
use Rattle.mips_programs.specs.Frames.{Waiting}
use Rattle.mips_programs.specs.Matches.{IsBare, HasPlaces, IsResult, Spent, Comes, Entry, Answers, Calling}
use Rattle.mips_programs.specs.Programs.{MayRead, built_in_address, ArePlaced}
use Rattle.mips_programs.proofs.Steps.{both_gets}
use Rattle.mips_programs.proofs.Words.{small_get}
use Rattle.mips_programs.proofs.Keep.{bare_lies}
use Rattle.mips_programs.proofs.Enter.{open_append, frame_of, entered_machine, initial, sound_frame, enters, enters_alike, spends}
use Rattle.mips_programs.proofs.BuiltIns.{put_answers, get_answers, exit_answers}
use Rattle.mips_programs.proofs.Calls.{runs_on, spent_later, spent_more}
use Rattle.mips_programs.proofs.Standing.{lines_unmarked, front_stands, stands_behind}
use Rattle.mips_programs.proofs.Follow.{follows}

-- the result of a call whose body has this one
result_word : (map : Map) (v : Option Word) (n : ℕ) → IsResult map v n → IsWord map (value_or v) n
result_word map None n h = and_zero_r n
result_word map (Some w) n h = h

behind_loads : (xs : List MInstruction) (x : MInstruction) (ys : List MInstruction) → 1 ≤ length (xs ++ x ∷ ys)
behind_loads xs x ys = let e = length-append xs (x ∷ ys) in omega (arith, e)

-- each instruction is one of the machine's at least
one_at_least : (names : List (List ℕ)) (l : Layout) (k : ℕ) (i : Instr) → 1 ≤ length (instructions_of names l k i)
one_at_least names l k (instr.LoadNumber to n) = omega arith
one_at_least names l k (instr.Binary op to from x) = omega arith
one_at_least names l k (instr.Negate to from) = omega arith
one_at_least names l k (instr.Argument from) = omega arith
one_at_least names l k (instr.Call to name) = behind_loads (loads_of (min k 4)) _ _
one_at_least names l k (instr.Return from) = omega arith
one_at_least names l k (instr.Copy to from) = omega arith
one_at_least names l k (instr.LoadSlot to slot) = omega arith
one_at_least names l k (instr.StoreSlot from slot) = omega arith

length_items : (is : List MInstruction) (xs : List (CodeItem MInstruction)) → length (lines_in (unmarked is ++ xs)) ≡ length is + length (lines_in xs)
length_items is xs = ap length (lines_unmarked is xs) ∙ length-append is (lines_in xs)

no_longer : (names : List (List ℕ)) (l : Layout) (k : ℕ) (is : List Instr) → length is ≤ length (lines_in (body_of names l k is))
no_longer names l k [] = omega arith
no_longer names l k (i ∷ is) =
    let e = length_items (instructions_of names l k i) (body_of names l (handed_behind k i) is) in
    let one = one_at_least names l k i in
    let more = no_longer names l (handed_behind k i) is in
    omega (arith, e, one, more)

more_turns : (n j i long len : ℕ) → n ≤ j * long + len → len < long → n ≤ (i + j) * long + long
more_turns n j i long len a b =
    let e : (i + j) * long ≡ i * long + j * long = grind arith in omega arith

module _ (p : MProgram) (order : Order) (room : ℕ → ℕ) where
  -- what the caller sees of a call that its function's code follows
  answers_from : (map : Map) (long n len : ℕ) (waiting : List Waiting) (name : ℕ) (l : Layout) (u : World) (h h2 : Working) (o : Outcome) → frame_size l ≤ register h.cpu 29 → len < long → Gets p order h h2 → Comes p order room map long (frame_of l waiting name u h) n len h2 o → Answers p order room map long n waiting u h (answered u o)
  answers_from map long n len waiting name l u h h2 (Finished v q) fits short g (inl c) =
      let r = c.returned in
      let back : register h.cpu 29 - frame_size l + frame_size l ≡ register h.cpu 29 = omega (arith, fits) in
      inl (record {
        later = c.later;
        place = c.place;
        gets = both_gets p order h h2 c.place g c.gets;
        grown = c.grown;
        bare = c.bare;
        at = r.at;
        words = r.leaves.words;
        count = r.leaves.count;
        room = r.leaves.room;
        small = small_get c.place.cpu.stack r.leaves.small;
        above = r.leaves.above;
        pointer = r.pointer ∙ back;
        result = result_word c.later v (register c.place.cpu 2) r.result;
        shows = record {
          printed = r.shows.printed ∙ sym (append-nil (output_of q.world.trace)) ∙ sym (output_append q.world.trace (Closed ∷ []));
          input = r.shows.input;
          lies = bare_lies c.later _ _ _ c.bare;
        };
        open_calls = open_append [] q.world.trace (Closed ∷ []) ∙ ap outer r.open_calls;
        taken = refl;
      })
  answers_from map long n len waiting name l u h h2 (Finished v q) fits short g (inr c) =
      inr (spent_later p order room (length h.cpu.stack) h h2 _ g (spent_more p order room (length h.cpu.stack) h2 q.world (left_behind u q.world) (Closed ∷ [], refl) c))
  answers_from map long n len waiting name l u h h2 (Exited status w) fits short g (inl c) = inl (record { steps = g.0 + c.steps; ended = runs_on p order h h2 g c.steps _ c.ended })
  answers_from map long n len waiting name l u h h2 (Exited status w) fits short g (inr c) = inr (spent_later p order room (length h.cpu.stack) h h2 w g c)
  answers_from map long n len waiting name l u h h2 (Going w) fits short g (inl c) = inl (record {
    steps = g.0 + c.steps;
    place = c.place;
    many = more_turns n c.steps g.0 long len c.many short;
    gets = runs_on p order h h2 g c.steps _ c.gets;
    printed = c.printed;
  })
  answers_from map long n len waiting name l u h h2 (Going w) fits short g (inr c) = inr (spent_later p order room (length h.cpu.stack) h h2 w g c)
  answers_from map long n len waiting name l u h h2 Failed fits short g c = tt

  -- where the frame doesn't fit
  spent_answer : (map : Map) (long n : ℕ) (waiting : List Waiting) (u inside : World) (h : Working) (o : Outcome) → BeginsIn inside.trace o → Spent p order room (length h.cpu.stack) h inside → Answers p order room map long n waiting u h (answered u o)
  spent_answer map long n waiting u inside h (Finished v q) e c =
      inr (spent_more p order room (length h.cpu.stack) h inside (left_behind u q.world) (starts_trans inside.trace q.world.trace (q.world.trace ++ Closed ∷ []) e (Closed ∷ [], refl)) c)
  spent_answer map long n waiting u inside h (Exited status w) e c = inr (spent_more p order room (length h.cpu.stack) h inside w e c)
  spent_answer map long n waiting u inside h (Going w) e c = inr (spent_more p order room (length h.cpu.stack) h inside w e c)
  spent_answer map long n waiting u inside h Failed e c = tt

-- a run of a body that has no meaning asks nothing
unless_failed : (C : Outcome → Type 0) (o : Outcome) → C Failed → ((o ≡ Failed → ⊥) → C o) → C o
unless_failed C (Finished v q) failed go = go (λ e. cc)
unless_failed C (Exited status w) failed go = go (λ e. cc)
unless_failed C (Going w) failed go = go (λ e. cc)
unless_failed C Failed failed go = failed

two_behind : (i pc : ℕ) → pc ≡ code_start + 4 * i → pc + 4 + 4 ≡ code_start + 4 * (i + 2)
two_behind i pc e = omega arith

module _ (p : MProgram) (order : Order) (g : Meaning) (names : List (List ℕ)) (places : ℕ → Option ℕ) (Reads : Type 0) (room : ℕ → ℕ) (long : ℕ) (placed : ArePlaced p g names places Reads room long) where
  abbrev there : ℕ → Type 0
  there name = MayRead Reads (g.callee name)

  body : (n : ℕ) (map : Map) (waiting : List Waiting) (name : ℕ) (fn : Body) (q : Point) (h : Working) → g.callee name ≡ Defined fn → (Reads → AreBytes h.left) → IsBare map → HasPlaces map places → Entry order room map waiting name q.world h → Calling p order room places Reads there long n (calls_at g n) → Answers p order room map long (suc n) waiting q.world h (answered q.world (body_run (setting_of g (calls_at g n) name fn q.world) fn.roots (suc n) fn.roots (at_world q (entered g.order name fn q.world))))
  body n map waiting name fn q h e bytes bare functions entry calling =
      let t = setting_of g (calls_at g n) name fn q.world in
      let inside = entered g.order name fn q.world in
      let o = body_run t fn.roots (suc n) fn.roots (at_world q inside) in
      let pl = placed.defined name fn e in
      let l = pl.layout in
      let is = pl.allocated in
      let st = initial g.order name fn q in
      let at : h.cpu.pc ≡ code_start + 4 * pl.entry = entry.at ∙ functions name (code_start + 4 * pl.entry) pl.at in
      let front = front_stands p.code pl.found pl.entry (unmarked (prologue l)) (body_of names l 0 is) pl.stands in
      let back = stands_behind p.code pl.found pl.entry (prologue l) (body_of names l 0 is) pl.stands in
      let small : frame_size l ≤ 2147483648 = pl.small in
      unless_failed (λ x. Answers p order room map long (suc n) waiting q.world h (answered q.world x)) o tt (λ alive.
      let lin = pl.selected.linearised.agrees t (suc n) st alive in
      let fol = pl.follows.runs t lin.0 st st (record { points = refl; registers = λ r known. refl }) in
      ⊎_elim
      (λ short. spent_answer p order room map long (suc n) waiting q.world inside h o (body_begins t calling.grows fn.roots (suc n) fn.roots (at_world q inside)) (spends p order room map waiting name pl.entry pl.found l g.order fn q h bare entry at front small pl.roomy short))
      (λ fits.
      let f = frame_of l waiting name q.world h in
      let h2 = entered_machine order l h in
      let sound = sound_frame p order room map waiting name pl.entry pl.found l g.order fn q h bare entry at front small pl.roomy fits in
      let short : length is < long = (let a = pl.short in let b = no_longer names l 0 is in let c = length_items (prologue l) (body_of names l 0 is) in omega (arith, a, b, c)) in
      let came = follows p order room places Reads long n g names pl.found f t is placed.ends sound refl calling fol.0 (suc n) map 0 (pl.entry + 2) is st h2 (omega (arith, lin.1, fol.1)) (omega arith) (record {
        alike = enters_alike p order room map waiting name pl.entry pl.found l g.order fn q h bare entry at front small pl.roomy fits;
        at = two_behind pl.entry h.cpu.pc at;
        stands = back;
        fits = pl.fits;
        named = pl.among;
        slots = pl.slots;
        calls = pl.calls;
        counts = refl;
        short = short;
        functions = functions;
        bytes = bytes;
        bare = bare;
      }) in
      answers_from p order room map long (suc n) (length is) waiting name l q.world h h2 o (omega (arith, fits)) short (enters p order room map waiting name pl.entry pl.found l g.order fn q h bare entry at front small pl.roomy fits) (subst (λ x. Comes p order room map long f (suc n) (length is) h2 x) (fol.2 ∙ lin.2) came))
      (cases_lt (register h.cpu 29) (floor_of (length h.cpu.stack) + frame_size l)))

  -- the machine is at the built-in function that is called
  built_in_at : (name : ℕ) (b : BuiltIn) (map : Map) (q : Point) (waiting : List Waiting) (h : Working) → g.callee name ≡ Provided b → HasPlaces map places → Entry order room map waiting name q.world h → h.cpu.pc ≡ built_in_address b
  built_in_at name b map q waiting h e functions entry = entry.at ∙ functions name (built_in_address b) (placed.built_in name b e)

  by : (n : ℕ) (run : Setting → List Node → Point → Outcome) (call : ℕ → Point → Effect) (map : Map) (waiting : List Waiting) (name : ℕ) (q : Point) (h : Working) (c : Callee) → g.callee name ≡ c → MayRead Reads c → (Reads → AreBytes h.left) → IsBare map → HasPlaces map places → Entry order room map waiting name q.world h → ((fn : Body) → g.callee name ≡ Defined fn → Answers p order room map long n waiting q.world h (answered q.world (run (setting_of g call name fn q.world) fn.roots (at_world q (entered g.order name fn q.world))))) → Answers p order room map long n waiting q.world h (call_by g run call name c q)
  by n run call map waiting name q h (Defined fn) e reads bytes bare functions entry defined =
      cond_both (length q.world.arguments == fn.words) _ Stuck (λ x. Answers p order room map long n waiting q.world h x) (λ same. defined fn e) (λ other. tt)
  by n run call map waiting name q h (Provided Putchar) e reads bytes bare functions entry defined =
      put_answers p order room map long n waiting name q h bare (built_in_at name Putchar map q waiting h e functions entry) entry
  by n run call map waiting name q h (Provided Getchar) e reads bytes bare functions entry defined =
      get_answers p order room map long n waiting name q h bare (built_in_at name Getchar map q waiting h e functions entry) (bytes reads) entry
  by n run call map waiting name q h (Provided Exit) e reads bytes bare functions entry defined =
      exit_answers p order room map long n waiting name q h (built_in_at name Exit map q waiting h e functions entry) entry
  by n run call map waiting name q h Missing e reads bytes bare functions entry defined = tt

  -- calls with at most n calls open, and n roots of each body, are followed
  pub answers : (n : ℕ) → Calling p order room places Reads there long n (calls_at g n)
  answers zero = record {
    answers = λ map waiting name q h reads bytes bare functions entry. by zero (λ s roots p1. body_run s roots zero roots p1) (λ other p1. Stuck) map waiting name q h (g.callee name) refl reads bytes bare functions entry (λ fn e. inl (record {
      steps = 0;
      place = h;
      many = omega arith;
      gets = refl;
      printed = entry.shows.printed ∙ sym (append-nil (output_of q.world.trace)) ∙ sym (output_append q.world.trace (Opened name ∷ []));
    }));
    grows = nested_begins g zero;
  }
  answers (suc n) = record {
    answers = λ map waiting name q h reads bytes bare functions entry. by (suc n) (λ s roots p1. body_run s roots (suc n) roots p1) (calls_at g n) map waiting name q h (g.callee name) refl reads bytes bare functions entry (λ fn e. body n map waiting name fn q h e bytes bare functions entry (answers n));
    grows = nested_begins g (suc n);
  }
