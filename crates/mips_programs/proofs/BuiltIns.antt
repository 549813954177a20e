-- The built-in functions.
use Rattle.std.proofs.Common.{◌≡◌, inl, ℕ, zero, suc, ◌%◌, ◌^◌, ◌<◌, List, [], ◌∷◌, ◌++◌, length, drop, Bool, true, refl, sym, ap, ◌∙◌, subst, arith, append-nil}
use Rattle.std.proofs.lemmas.Bool.{and_parts, not-true, both_ways, eq-eqb}
use Rattle.std.proofs.lemmas.List.{length-set}
use Rattle.std.proofs.lemmas.List.Elements.{All-head}
use Rattle.std.specs.Int.{cast_signed, w32}
use Rattle.std.specs.Prelude.{slice_index, slice_set, ◌&&◌, not, ◌==◌}
use Rattle.lcc_base.specs.declared.order.Order.{Order}
use Rattle.asm_text.specs.Program.{MProgram}
use Rattle.forests.specs.Words.{Word, Plain, Label, Partly}
use Rattle.objects.specs.declared.value.Value.TheVariants.{Number, Pointer, Function}
use Rattle.lcc_base.specs.Traces.{Wrote, output_of, open_behind}
use Rattle.lcc_base.specs.Prefixes.{output_append}
use Rattle.forests.specs.Worlds.{World, Point}
use Rattle.op_forest.specs.Callees.{Putchar, Getchar, Exit}
use Rattle.forests.specs.Functions.{provided, put_character, get_character, exit_with}
use Rattle.vcode.specs.Maps.{Map}
use Rattle.asm_text.specs.Runs.{Goes, Ends, after}
use Rattle.asm_text.specs.Addresses.{putchar_at, getchar_at, exit_at}
use Rattle.mips_machine.specs.StepTable.{register, lost, without, returned, takes}
use Rattle.mips_programs.specs.Working.{AreBytes, Working, on, Gets}
use Rattle.mips_programs.specs.Frames.{Waiting, memory_of}
use Rattle.mips_programs.specs.Matches.{IsBare, Handed, Entry, Answers, CameBack, passed_word}
use Rattle.mips_programs.proofs.Steps.{index_set, index_other, once, at_putchar, at_getchar, at_exit, small_set}
use Rattle.mips_programs.proofs.Keep.{bare_lies}
use Rattle.mips_programs.proofs.Enter.{open_append}

-- ---- what they return

-- each of the numbers passes
abbrev every : (ℕ → Bool) → List ℕ → Bool
every test [] = true
every test (d ∷ ds) = test d && every test ds

without_other : (test : ℕ → Bool) (ds registers : List ℕ) (r : ℕ) → every test ds ≡ true → ((d : ℕ) → test d ≡ true → r ≡ d → ⊥) → slice_index (without ds registers) r ≡ slice_index registers r
without_other test [] registers r e ne = refl
without_other test (d ∷ ds) registers r e ne =
    let a = and_parts (test d) (every test ds) e in without_other test ds (slice_set registers d 0) r a.1 ne ∙ index_other registers d r 0 (λ x. ne d a.0 x)

without_length : (ds registers : List ℕ) → length (without ds registers) ≡ length registers
without_length [] registers = refl
without_length (d ∷ ds) registers = without_length ds (slice_set registers d 0) ∙ length-set registers d 0

without_small : (ds registers : List ℕ) → ((x : ℕ) → slice_index registers x < 2 ^ 32) → (x : ℕ) → slice_index (without ds registers) x < 2 ^ 32
without_small [] registers h = h
without_small (d ∷ ds) registers h = without_small ds (slice_set registers d 0) (small_set (2 ^ 32) registers d 0 (omega arith) h)

differs : (r d : ℕ) → not (r == d) ≡ true → r ≡ d → ⊥
differs r d u e = both_ways (r == d) (not-true (r == d) u) (eq-eqb r d e)

-- the machine is back from a built-in function with a word, in this world
record GivesBack (p : MProgram) (order : Order) (u : World) (h : Working) (v : ℕ) (w : World) : Type 0 where
  printed : List ℕ
  left : List ℕ
  small : v < 2 ^ 32
  gets : Gets p order h (record { cpu = returned h.cpu v; printed = printed; left = left })
  shown : printed ≡ output_of w.trace
  input : left ≡ w.input
  open_calls : open_behind [] w.trace ≡ open_behind [] u.trace
  taken : w.arguments ≡ []

gave_back : (p : MProgram) (order : Order) (room : ℕ → ℕ) (map : Map) (outer : List Waiting) (name : ℕ) (u : World) (h : Working) (v : ℕ) (w : World) → IsBare map → Entry order room map outer name u h → GivesBack p order u h v w → CameBack p order map outer u h (Plain (Number v) ∷ []) w
gave_back p order room map outer name u h v w bare entry g =
    let registers = without lost h.cpu.registers in
    let count : length registers ≡ 32 = without_length lost h.cpu.registers ∙ entry.count in
    record {
      later = map;
      place = record { cpu = returned h.cpu v; printed = g.printed; left = g.left };
      gets = g.gets;
      grown = record { objects = λ o place e. e; functions = λ f. refl; labels = λ f l. refl };
      bare = bare;
      at = refl;
      words = small_set (2 ^ 32) registers 2 v g.small (without_small lost h.cpu.registers entry.words);
      count = length-set registers 2 v ∙ count;
      room = refl;
      small = entry.small;
      above = λ a kept. refl;
      pointer = index_other registers 2 29 v (λ e. differs 29 2 refl e) ∙ without_other (λ d. not (29 == d)) lost h.cpu.registers 29 refl (λ d u e. differs 29 d u e);
      result = index_set registers 2 v (subst (λ (k : ℕ). 2 < k) (sym count) (omega arith));
      shows = record { printed = g.shown; input = g.input; lies = bare_lies map w.made w.objects (memory_of h.cpu.stack) bare };
      open_calls = g.open_calls;
      taken = g.taken;
    }

-- ---- putchar

-- the step prints the low byte of $4 and returns it
prints_once : (p : MProgram) (order : Order) (h : Working) (n : ℕ) → h.cpu.pc ≡ putchar_at → register h.cpu 4 ≡ n → Gets p order h (record { cpu = returned h.cpu (n % 256); printed = h.printed ++ n % 256 ∷ []; left = h.left })
prints_once p order h n at e =
    (suc zero, omega arith, ap (after h.printed h.left) (at_putchar p order h.cpu h.left at ∙ ap (λ (x : ℕ). Goes (returned h.cpu (x % 256)) (x % 256 ∷ []) 0) e))

put_answered : (p : MProgram) (order : Order) (room : ℕ → ℕ) (map : Map) (long far : ℕ) (outer : List Waiting) (name : ℕ) (q : Point) (h : Working) (ws : List Word) → IsBare map → h.cpu.pc ≡ putchar_at → Entry order room map outer name q.world h → Handed map (passed_word order h.cpu) 0 ws → Answers p order room map long far outer q.world h (put_character ws q)
put_answered p order room map long far outer name q h [] bare at entry passed = tt
put_answered p order room map long far outer name q h (Plain (Number n) ∷ []) bare at entry passed =
    let v = n % 256 in
    inl (gave_back p order room map outer name q.world h v _ bare entry (record {
      printed = h.printed ++ v ∷ [];
      left = h.left;
      small = omega arith;
      gets = prints_once p order h n at passed.0;
      shown = ap (λ (out : List ℕ). out ++ v ∷ []) entry.shows.printed ∙ sym (output_append q.world.trace (Wrote v ∷ []));
      input = entry.shows.input;
      open_calls = open_append [] q.world.trace (Wrote v ∷ []);
      taken = refl;
    }))
put_answered p order room map long far outer name q h (Plain (Number n) ∷ x ∷ ws) bare at entry passed = tt
put_answered p order room map long far outer name q h (Plain (Pointer object offset) ∷ ws) bare at entry passed = tt
put_answered p order room map long far outer name q h (Plain (Function f) ∷ ws) bare at entry passed = tt
put_answered p order room map long far outer name q h (Label f l ∷ ws) bare at entry passed = tt
put_answered p order room map long far outer name q h (Partly mask bits ∷ ws) bare at entry passed = tt

-- from its first step the machine follows what putchar does
pub put_answers : (p : MProgram) (order : Order) (room : ℕ → ℕ) (map : Map) (long far : ℕ) (outer : List Waiting) (name : ℕ) (q : Point) (h : Working) → IsBare map → h.cpu.pc ≡ putchar_at → Entry order room map outer name q.world h → Answers p order room map long far outer q.world h (provided Putchar q)
put_answers p order room map long far outer name q h bare at entry = put_answered p order room map long far outer name q h q.world.arguments bare at entry entry.passed

-- ---- getchar

-- at the end of the input the step returns -1
takes_none : (p : MProgram) (order : Order) (h : Working) → h.cpu.pc ≡ getchar_at → h.left ≡ [] → Gets p order h (record { cpu = returned h.cpu 4294967295; printed = h.printed; left = h.left })
takes_none p order h at e = once p order h (returned h.cpu 4294967295) (at_getchar p order h.cpu h.left at ∙ ap (takes h.cpu) e)

-- before it the next byte
takes_once : (p : MProgram) (order : Order) (h : Working) (byte : ℕ) (rest : List ℕ) → h.cpu.pc ≡ getchar_at → h.left ≡ byte ∷ rest → Gets p order h (record { cpu = returned h.cpu byte; printed = h.printed; left = rest })
takes_once p order h byte rest at e = (
  suc zero,
  omega arith,
  ap (after h.printed h.left) (at_getchar p order h.cpu h.left at ∙ ap (takes h.cpu) e)
      ∙ ap (λ (out : List ℕ). on (record { cpu = returned h.cpu byte; printed = out; left = drop 1 h.left })) (append-nil h.printed)
      ∙ ap (λ (left : List ℕ). on (record { cpu = returned h.cpu byte; printed = h.printed; left = drop 1 left })) e,
)

get_answered : (p : MProgram) (order : Order) (room : ℕ → ℕ) (map : Map) (long far : ℕ) (outer : List Waiting) (name : ℕ) (q : Point) (h : Working) (ws : List Word) (input : List ℕ) → IsBare map → h.cpu.pc ≡ getchar_at → AreBytes h.left → Entry order room map outer name q.world h → q.world.arguments ≡ ws → q.world.input ≡ input → Answers p order room map long far outer q.world h (get_character ws input q)
get_answered p order room map long far outer name q h [] [] bare at bytes entry none end =
    inl (gave_back p order room map outer name q.world h 4294967295 q.world bare entry (record {
      printed = h.printed;
      left = h.left;
      small = omega arith;
      gets = takes_none p order h at (entry.shows.input ∙ end);
      shown = entry.shows.printed;
      input = entry.shows.input;
      open_calls = refl;
      taken = none;
    }))
get_answered p order room map long far outer name q h [] (byte ∷ rest) bare at bytes entry none more =
    let left : h.left ≡ byte ∷ rest = entry.shows.input ∙ more in
    let small : byte < 256 = All-head (λ b. b < 256) byte rest (subst AreBytes left bytes) in
    inl (gave_back p order room map outer name q.world h byte _ bare entry (record {
      printed = h.printed;
      left = rest;
      small = omega (arith, small);
      gets = takes_once p order h byte rest at left;
      shown = entry.shows.printed;
      input = refl;
      open_calls = refl;
      taken = none;
    }))
get_answered p order room map long far outer name q h (w ∷ ws) input bare at bytes entry none more = tt

-- from its first step the machine follows what getchar does, where the input are bytes
pub get_answers : (p : MProgram) (order : Order) (room : ℕ → ℕ) (map : Map) (long far : ℕ) (outer : List Waiting) (name : ℕ) (q : Point) (h : Working) → IsBare map → h.cpu.pc ≡ getchar_at → AreBytes h.left → Entry order room map outer name q.world h → Answers p order room map long far outer q.world h (provided Getchar q)
get_answers p order room map long far outer name q h bare at bytes entry = get_answered p order room map long far outer name q h q.world.arguments q.world.input bare at bytes entry refl refl

-- ---- exit

exit_answered : (p : MProgram) (order : Order) (room : ℕ → ℕ) (map : Map) (long far : ℕ) (outer : List Waiting) (name : ℕ) (q : Point) (h : Working) (ws : List Word) → h.cpu.pc ≡ exit_at → Entry order room map outer name q.world h → Handed map (passed_word order h.cpu) 0 ws → Answers p order room map long far outer q.world h (exit_with ws q)
exit_answered p order room map long far outer name q h [] at entry passed = tt
exit_answered p order room map long far outer name q h (Plain (Number n) ∷ []) at entry passed =
    inl (record {
      steps = suc zero;
      ended = ap (after h.printed h.left) (at_exit p order h.cpu h.left at ∙ ap (λ (x : ℕ). Ends (cast_signed w32 x)) passed.0) ∙ ap (λ (out : List ℕ). after out h.left (Ends (cast_signed w32 n))) entry.shows.printed;
    })
exit_answered p order room map long far outer name q h (Plain (Number n) ∷ x ∷ ws) at entry passed = tt
exit_answered p order room map long far outer name q h (Plain (Pointer object offset) ∷ ws) at entry passed = tt
exit_answered p order room map long far outer name q h (Plain (Function f) ∷ ws) at entry passed = tt
exit_answered p order room map long far outer name q h (Label f l ∷ ws) at entry passed = tt
exit_answered p order room map long far outer name q h (Partly mask bits ∷ ws) at entry passed = tt

-- from its first step the machine follows what exit does
pub exit_answers : (p : MProgram) (order : Order) (room : ℕ → ℕ) (map : Map) (long far : ℕ) (outer : List Waiting) (name : ℕ) (q : Point) (h : Working) → h.cpu.pc ≡ exit_at → Entry order room map outer name q.world h → Answers p order room map long far outer q.world h (provided Exit q)
exit_answers p order room map long far outer name q h at entry = exit_answered p order room map long far outer name q h q.world.arguments at entry entry.passed
