-- The machine follows the allocated code of a function.
use Rattle.std.specs.Prelude.{◌≡◌, ◌≤◌, ◌<◌, ℕ, zero, suc, ◌+◌, ◌-◌, ◌*◌, ◌%◌, ◌^◌, ◌==◌, ◌||◌, min, nat_lt, if◌then◌else◌, pos, negsuc, true, false, List, [], ◌∷◌, ◌++◌, length, get_or, Option, None, Some, slice_get, slice_set, IsTrue}
use Rattle.std.proofs.Common.{refl, sym, ap, ◌∙◌, subst, inl, inr, ⊎_elim, length-append, arith}
use Rattle.std.proofs.lemmas.Bool.{or_from, ne_eqb, cond-true, cond-false, lt-ltb, le-ltb, cases_lt, cases_eq}
use Rattle.std.proofs.lemmas.Option.{slice_get_within}
use Rattle.lcc_base.specs.declared.order.Order.{Order}
use Rattle.asm_text.specs.Program.{MInstruction, MProgram}
use Rattle.asm_lines.specs.declared.instruction.Instruction.TheVariants as to
use Rattle.asm_lines.specs.declared.operator.UnaryOp.TheVariants as unary
use Rattle.asm_lines.specs.declared.operator.LoadOp.TheVariants as load
use Rattle.asm_lines.specs.declared.instruction.Value.{Value as Operand}
use Rattle.asm_lines.specs.declared.instruction.Value.TheVariants as operand
use Rattle.asm_text.specs.declared.running.StuckCause.{StuckCause}
use Rattle.asm_lines.specs.declared.instruction.Target.TheVariants as target
use Rattle.objects.specs.declared.operators.Unary.TheVariants.{Negate}
use Rattle.objects.specs.declared.value.Value.{Value}
use Rattle.objects.specs.declared.value.Value.TheVariants.{Number, Pointer, Function}
use Rattle.objects.specs.Arithmetic.{unary_word, binary_word}
use Rattle.objects.specs.Causes.{is_no_number}
use Rattle.forests.specs.Words.{Word, Plain, Label, Partly}
use Rattle.lcc_base.specs.Traces.{open_behind, room_of}
use Rattle.forests.specs.Worlds.{World, Point, Move, Next, To, End, Effect, Went, Exits, Unfinished, Stuck, then_do, goes, Outcome, Failed}
use Rattle.forests.specs.Actions.{handed, effect_of, gave}
use Rattle.forests.specs.Bodies.{Setting}
use Rattle.forests.specs.Numbers.{of_one, of_two}
use Rattle.forests.specs.Rows.{called}
use Rattle.forests.specs.Functions.{Program as Meaning}
use Rattle.forests.specs.Units.{word_or_unknown}
use Rattle.vcode.specs.Execution.{State, with_value, with_slot, state_by, moved, executed}
use Rattle.vcode.specs.VirtualCode.{among}
use Rattle.vcode.specs.Maps.{Map, IsWord}
use Rattle.asm_text.specs.Linked.{or_zero}
use Rattle.asm_text.specs.Addresses.{code_start, data_start, stack_top, floor_of}
use Rattle.mips_machine.specs.Operations.{combined, cause_of}
use Rattle.mips_machine.specs.State.{Cpu}
use Rattle.mips_machine.specs.StepTable.{register, value_of, writes, writes_unless, calls as calls_at, act}
use Rattle.vcode.specs.SlotsBelow.{UsesSlotsBelow}
use Rattle.frame_code.specs.declared.arithmetic.Arithmetic.{Arithmetic}
use Rattle.frame_code.specs.declared.arithmetic.Arithmetic.TheVariants as arithmetic
use Rattle.frame_code.specs.declared.instr.Instr.{Instr}
use Rattle.frame_code.specs.declared.instr.Instr.TheVariants as instr
use Rattle.frame_code.specs.declared.instr.Source.TheVariants as source
use Rattle.frame_code.specs.Instructions.{combined as combined_by}
use Rattle.mips_rules.specs.Losses.{lost_at_calls}
use Rattle.mips_rules.specs.Mips.{mips}
use Rattle.mips_target.specs.FunctionCode.{in_frame, binary_of, epilogue, loads_of, call_of, unmarked, body_of}
use Rattle.unit_text.specs.Items.{StandsIn}
use Rattle.vcode.specs.NamesAmong.{NamesAmong}
use Rattle.mips_target.specs.Sizes.{Fits}
use Rattle.mips_target.specs.Generated.{temporaries}
use Rattle.mips_programs.specs.Working.{AreBytes, Working, on, runs, Gets}
use Rattle.mips_programs.specs.Frames.{Kept, Frame, stack_of, IsSound, stack_word, frame_word}
use Rattle.mips_programs.specs.Matches.{IsBare, HasPlaces, Handed, Alike, Spent, Comes, passed_word, Entry, Answers, Calling}
use Rattle.frame_code.specs.CalledNames.{CallsAre}
use Rattle.mips_programs.specs.Programs.{MayRead, IsAddressed}
use Rattle.mips_programs.proofs.Steps.{with_register, with_stack, with_cpu, index_set, index_other, runs_more, both_gets, gets_bytes, once, linked, stepped, wrote, further}
use Rattle.mips_programs.proofs.Words.{small_word, small_get, with_stack_word}
use Rattle.mips_programs.proofs.Standing.{front_stands, stands_behind, both_stand}
use Rattle.mips_programs.proofs.Keep.{temporary_range, set_temporary, set_other, put_slot, put_argument, with_argument}
use Rattle.mips_programs.proofs.Access.{load_word, store_word, leave}
use Rattle.mips_programs.proofs.Grow.{executed_begins}
use Rattle.mips_programs.proofs.Calls.{runs_on, spent_later, spent_in, later_by, grown_same, waiting_in, called_alike}

combined_small : (op : Arithmetic) (x y : ℕ) → combined (binary_of op) x y < 2 ^ 32
combined_small arithmetic.Add x y = omega arith
combined_small arithmetic.Subtract x y = omega arith
combined_small arithmetic.Multiply x y = omega arith

-- the number that it gives
abbrev result_of : Arithmetic → ℕ → ℕ → ℕ
result_of op x y = binary_word true (combined_by op) x y

same_combined : (op : Arithmetic) (x y : ℕ) → result_of op x y ≡ combined (binary_of op) x y
same_combined arithmetic.Add x y = refl
same_combined arithmetic.Subtract x y = refl
same_combined arithmetic.Multiply x y = refl

-- each of these operations has a result
no_cause : (op : Arithmetic) (x y : ℕ) → cause_of (binary_of op) x y ≡ None
no_cause arithmetic.Add x y = refl
no_cause arithmetic.Subtract x y = refl
no_cause arithmetic.Multiply x y = refl

-- so its row writes it
operated : (order : Order) (cpu : Cpu) (op : Arithmetic) (d x : ℕ) (y : Operand) → act order cpu (to.Binary (binary_of op) d x y) ≡ writes cpu d (combined (binary_of op) (register cpu x) (value_of cpu y))
operated order cpu op d x y =
    ap (λ (cause : Option StuckCause). writes_unless cause cpu d (combined (binary_of op) (register cpu x) (value_of cpu y))) (no_cause op (register cpu x) (value_of cpu y))

negated_small : (x : ℕ) → unary_word Negate x < 2 ^ 32
negated_small x = omega arith

above_zero : (d : ℕ) → IsTrue (among d temporaries) → 0 < d
above_zero d t = let r = temporary_range d t in omega (arith, r.0)

not_pointer : (d : ℕ) → IsTrue (among d temporaries) → d ≡ 29 → ⊥
not_pointer d t e = let r = temporary_range d t in omega (arith, r.1, e)

ne_above : (d n : ℕ) → d < n → d ≡ n → ⊥
ne_above d n l e = omega arith

ne_below : (d n : ℕ) → n < d → d ≡ n → ⊥
ne_below d n l e = omega arith

-- the low registers are no temporaries
low_other : (d : ℕ) → d < 8 → among d temporaries ≡ false
low_other d l =
    or_from (d == 8) (among d (9 ∷ 10 ∷ [])) (ne_eqb d 8 (ne_above d 8 l))
    (or_from (d == 9) (among d (10 ∷ [])) (ne_eqb d 9 (ne_above d 9 (omega arith)))
    (or_from (d == 10) false (ne_eqb d 10 (ne_above d 10 (omega arith))) refl))

-- the result of two words that are numbers; of others there is none
two_numbers : (op : Arithmetic) (x y : ℕ) → of_two true (combined_by op) (Plain (Number x)) (Plain (Number y)) ≡ Some (Plain (Number (result_of op x y)))
two_numbers arithmetic.Add x y = refl
two_numbers arithmetic.Subtract x y = refl
two_numbers arithmetic.Multiply x y = refl

no_numbers : (op : Arithmetic) (v w : Value) → (is_no_number v || is_no_number w) ≡ true → of_two true (combined_by op) (Plain v) (Plain w) ≡ None
no_numbers arithmetic.Add v w e = rw e refl
no_numbers arithmetic.Subtract v w e = rw e refl
no_numbers arithmetic.Multiply v w e = rw e refl

-- it is so of the run that goes on with a result
abbrev Given : (Outcome → Type 0) → Setting → Point → (List Word → Point → Move → Outcome) → Option Word → Type 0
Given C t q go result = C (goes (effect_of t.call (gave result) q) go)

of_numbers : (map : Map) (C : Outcome → Type 0) (t : Setting) (op : Arithmetic) (x y : Word) (a b : ℕ) (q : Point) (go : List Word → Point → Move → Outcome) → IsWord map x a → IsWord map y b → C Failed → C (go (Plain (Number (result_of op a b)) ∷ []) q Next) → Given C t q go (of_two true (combined_by op) x y)
of_numbers map C t op (Plain (Number x)) (Plain (Number y)) a b q go e d stuck went =
    subst (Given C t q go) (sym (two_numbers op x y)) (subst (λ z. C (go (Plain (Number z) ∷ []) q Next)) (ap (λ u. result_of op u b) e ∙ ap (result_of op x) d) went)
of_numbers map C t op (Plain (Number x)) (Plain (Pointer o z)) a b q go e d stuck went = subst (Given C t q go) (sym (no_numbers op (Number x) (Pointer o z) refl)) stuck
of_numbers map C t op (Plain (Number x)) (Plain (Function name)) a b q go e d stuck went = subst (Given C t q go) (sym (no_numbers op (Number x) (Function name) refl)) stuck
of_numbers map C t op (Plain (Number x)) (Label g l) a b q go e d stuck went = stuck
of_numbers map C t op (Plain (Number x)) (Partly mask bits) a b q go e d stuck went = stuck
of_numbers map C t op (Plain (Pointer o z)) (Plain w) a b q go e d stuck went = subst (Given C t q go) (sym (no_numbers op (Pointer o z) w refl)) stuck
of_numbers map C t op (Plain (Pointer o z)) (Label g l) a b q go e d stuck went = stuck
of_numbers map C t op (Plain (Pointer o z)) (Partly mask bits) a b q go e d stuck went = stuck
of_numbers map C t op (Plain (Function name)) (Plain w) a b q go e d stuck went = subst (Given C t q go) (sym (no_numbers op (Function name) w refl)) stuck
of_numbers map C t op (Plain (Function name)) (Label g l) a b q go e d stuck went = stuck
of_numbers map C t op (Plain (Function name)) (Partly mask bits) a b q go e d stuck went = stuck
of_numbers map C t op (Label g l) y a b q go e d stuck went = stuck
of_numbers map C t op (Partly mask bits) y a b q go e d stuck went = stuck

-- the same of one word, which is negated
of_number : (map : Map) (C : Outcome → Type 0) (t : Setting) (x : Word) (a : ℕ) (q : Point) (go : List Word → Point → Move → Outcome) → IsWord map x a → C Failed → C (go (Plain (Number (unary_word Negate a)) ∷ []) q Next) → Given C t q go (of_one Negate x)
of_number map C t (Plain (Number x)) a q go e stuck went = subst (λ z. C (go (Plain (Number (unary_word Negate z)) ∷ []) q Next)) e went
of_number map C t (Plain (Pointer o z)) a q go e stuck went = stuck
of_number map C t (Plain (Function name)) a q go e stuck went = stuck
of_number map C t (Label g l) a q go e stuck went = stuck
of_number map C t (Partly mask bits) a q go e stuck went = stuck

-- a call of a name that isn't a function's has no meaning
of_name : (C : Outcome → Type 0) (t : Setting) (value : Option Value) (q : Point) (go : List Word → Point → Move → Outcome) → C Failed → ((f : ℕ) → value ≡ Some (Function f) → C (goes (then_do (t.call f q) (λ ws p1. handed true ws p1)) go)) → C (goes (effect_of t.call (called true (word_or_unknown value)) q) go)
of_name C t None q go stuck went = stuck
of_name C t (Some (Number n)) q go stuck went = stuck
of_name C t (Some (Pointer o z)) q go stuck went = stuck
of_name C t (Some (Function f)) q go stuck went = went f refl

length_loads : (m : ℕ) → length (loads_of m) ≡ m
length_loads zero = refl
length_loads (suc m) = let a = length-append (loads_of m) (to.Load load.Word (4 + m) (in_frame (4 * m)) ∷ []) in let b = length_loads m in omega (arith, a, b)

handed_same : (map : Map) (at at' : ℕ → ℕ) (j : ℕ) (ws : List Word) → ((i : ℕ) → i < j + length ws → at' i ≡ at i) → Handed map at j ws → Handed map at' j ws
handed_same map at at' j [] same h = tt
handed_same map at at' j (w ∷ ws) same h =
    (subst (IsWord map w) (sym (same j (omega arith))) h.0, handed_same map at at' (suc j) ws (λ i l. same i (more i l)) h.1)
  where
    more : (i : ℕ) → i < suc j + length ws → i < j + length (w ∷ ws)
    more i l = omega arith

one_more : (k : ℕ) (ws : List Word) (w : Word) → k ≡ length ws → suc k ≡ length (ws ++ w ∷ [])
one_more k ws w e = omega (arith, length-append ws (w ∷ []), e)

paid_call : (n far j m long len : ℕ) → n ≤ suc far → far ≤ m * long + long → 1 ≤ j → n ≤ (j + m) * long + suc len
paid_call n far zero m long len a b c = absurd (omega arith)
paid_call n far (suc j) m long len a b c =
    let e : (suc j + m) * long ≡ long + j * long + m * long = grind arith in omega arith

-- code lies low, so an address of it is a word
near : (code : List MInstruction) (i : ℕ) (x : MInstruction) (pc : ℕ) → code_start + 4 * length code ≤ data_start → pc ≡ code_start + 4 * i → slice_get code i ≡ Some x → pc < 2 ^ 32
near code i x pc ends e g = let w = slice_get_within code i x g in omega arith

-- some steps, none maybe, and then one at least
gets_behind : (p : MProgram) (order : Order) (a b c : Working) (n : ℕ) → runs p order a n ≡ on b → Gets p order b c → Gets p order a c
gets_behind p order a b c n x y = (n + y.0, omega (arith, y.1), runs_more p order a b n y.0 x ∙ y.2)

-- the machine behind the loads of argument words
record Loaded (p : MProgram) (order : Order) (room : ℕ → ℕ) (map : Map) (f : Frame) (s : State) (i m : ℕ) (h : Working) : Type 0 where
  steps : ℕ
  place : Working
  gets : runs p order h steps ≡ on place
  alike : Alike order room map f s place
  at : place.cpu.pc ≡ code_start + 4 * (i + m)
  same : place.cpu.stack ≡ h.cpu.stack
  words : (j : ℕ) → j < m → register place.cpu (4 + j) ≡ frame_word order f h.cpu.stack j

loaded : (p : MProgram) (order : Order) (room : ℕ → ℕ) (map : Map) (f : Frame) (found : ℕ → Option ℕ) (s : State) (i m : ℕ) (h : Working) → IsSound f → m ≤ 4 → m ≤ f.layout.arguments → Alike order room map f s h → h.cpu.pc ≡ code_start + 4 * i → StandsIn p.code found i (unmarked (loads_of m)) → Loaded p order room map f s i m h
loaded p order room map f found s i zero h sound few within a at stands = record {
  steps = 0;
  place = h;
  gets = refl;
  alike = a;
  at = (let e : code_start + 4 * i ≡ code_start + 4 * (i + 0) = omega arith in at ∙ e);
  same = refl;
  words = λ j l. absurd (none j l);
}
  where
    none : (j : ℕ) → j < 0 → ⊥
    none j l = omega arith
loaded p order room map f found s i (suc m) h sound few within a at stands =
    let last : List MInstruction = to.Load load.Word (4 + m) (in_frame (4 * m)) ∷ [] in
    let all = both_stand p.code found i (loads_of m) last stands in
    let front = front_stands p.code found i (unmarked (loads_of m)) (unmarked last) all in
    let back = stands_behind p.code found i (loads_of m) (unmarked last) all in
    let here : slice_get p.code (i + m) ≡ Some (to.Load load.Word (4 + m) (in_frame (4 * m))) = subst (λ n. slice_get p.code (i + n) ≡ Some (to.Load load.Word (4 + m) (in_frame (4 * m)))) (length_loads m) back.0 in
    let x = loaded p order room map f found s i m h sound (omega arith) (omega arith) a at front in
    let v = frame_word order f x.place.cpu.stack m in
    let g = load_word p order (i + m) f x.place (4 + m) m sound x.alike.leaves.room x.alike.pointer (omega arith) (omega arith) (ne_above (4 + m) 29 (omega arith)) x.at here in
    let y = with_register x.place (4 + m) v (x.place.cpu.pc + 4) in
    let all_steps : Gets p order h y = gets_behind p order h x.place y x.steps x.gets g in
    record {
      steps = all_steps.0;
      place = y;
      gets = all_steps.2;
      alike = set_other order room map f s x.place (4 + m) v (x.place.cpu.pc + 4) (omega arith) (ne_above (4 + m) 29 (omega arith)) (low_other (4 + m) (omega arith)) (small_word order x.place.cpu.stack _ x.alike.leaves.small) x.alike;
      at = (let e : code_start + 4 * suc (i + m) ≡ code_start + 4 * (i + suc m) = omega arith in further (i + m) x.place.cpu.pc x.at ∙ e);
      same = x.same;
      words = λ j l. ⊎_elim
          (λ e. subst (λ n. register (with_register x.place (4 + m) v (x.place.cpu.pc + 4)).cpu (4 + n) ≡ frame_word order f h.cpu.stack n) (sym e) (index_set x.place.cpu.registers (4 + m) v (subst (λ n. 4 + m < n) (sym x.alike.leaves.count) (omega arith)) ∙ ap (λ bytes. frame_word order f bytes m) x.same))
          (λ ne. index_other x.place.cpu.registers (4 + m) (4 + j) v (λ e. ne (same_place j e)) ∙ x.words j (before j l ne))
          (cases_eq j m);
    }
  where
    same_place : (j : ℕ) → 4 + j ≡ 4 + m → j ≡ m
    same_place j e = omega arith

    before : (j : ℕ) → j < suc m → (j ≡ m → ⊥) → j < m
    before j l ne = ⊎_elim (λ x. x) (λ x. absurd (ne (omega arith))) (cases_lt j m)

-- an argument word of a call, where it is passed
passed : (order : Order) (f : Frame) (cpu : Cpu) (bytes : List ℕ) (k : ℕ) → register cpu 29 ≡ f.low → cpu.stack ≡ bytes → ((j : ℕ) → j < min k 4 → register cpu (4 + j) ≡ frame_word order f bytes j) → (j : ℕ) → j < k → passed_word order cpu j ≡ frame_word order f cpu.stack j
passed order f cpu bytes k pointer same words j l =
    ⊎_elim
    (λ e. cond-true (nat_lt j 4) (register cpu (4 + j)) (stack_word order cpu.stack (register cpu 29 + 4 * j)) (lt-ltb j 4 e) ∙ words j (omega (arith, l, e)) ∙ ap (λ (xs : List ℕ). frame_word order f xs j) (sym same))
    (λ e. cond-false (nat_lt j 4) (register cpu (4 + j)) (stack_word order cpu.stack (register cpu 29 + 4 * j)) (le-ltb j 4 e) ∙ ap (λ n. stack_word order cpu.stack (n + 4 * j)) pointer)
    (cases_lt j 4)

-- what waits for a call lies behind its argument words
waiting_above : (f : Frame) (count : ℕ) → IsSound f → count ≤ f.layout.arguments → (a : ℕ) → Kept (waiting_in f) a → (f.low + 4 * count ≤ a) × (a + 4 ≤ stack_top) × (a % 4 ≡ 0)
waiting_above f count sound few a (inl x) = low x.0 x.1.0 x.1.1 x.2
  where
    low : (k : ℕ) → f.layout.arguments ≤ k → k ≤ f.layout.arguments + f.layout.slots → a ≡ f.low + 4 * k → (f.low + 4 * count ≤ a) × (a + 4 ≤ stack_top) × (a % 4 ≡ 0)
    low k at_least at_most e = let below = sound.below in let four = sound.four in (omega (arith, at_least, few, e), omega (arith, at_most, below, e), omega (arith, four, e))
waiting_above f count sound few a (inr x) = let o = sound.outer a x in (omega (arith, o.0, few), o.1, o.2)

-- a call begins
entry_of : (order : Order) (room : ℕ → ℕ) (map : Map) (f : Frame) (name : ℕ) (s : State) (h : Working) → IsSound f → h.cpu.pc ≡ map.function name → Handed map (passed_word order h.cpu) 0 s.point.world.arguments → Alike order room map f s h → Entry order room map (waiting_in f) name s.point.world h
entry_of order room map f name s h sound at passes a = record {
  at = at;
  words = a.leaves.words;
  count = a.leaves.count;
  within = subst (λ n. n ≤ 16777216) (sym a.leaves.room) sound.within;
  low = subst (λ n. floor_of n ≤ register h.cpu 29) (sym a.leaves.room) (subst (λ x. floor_of (stack_of f) ≤ x) (sym a.pointer) sound.above);
  high = subst (λ x. x + 4 * length s.point.world.arguments ≤ stack_top) (sym a.pointer) (let below = sound.below in let few = a.few in omega (arith, below, few));
  four = ap (λ x. x % 4) a.pointer ∙ sound.four;
  small = small_get h.cpu.stack a.leaves.small;
  shows = a.shows;
  passed = passes;
  kept = λ b k. subst (λ x. (x + 4 * length s.point.world.arguments ≤ b) × (b + 4 ≤ stack_top) × (b % 4 ≡ 0)) (sym a.pointer) (waiting_above f (length s.point.world.arguments) sound a.few b k);
  deep = subst (λ x. stack_top ≤ x + room_of room (open_behind [] s.point.world.trace) + 32) (sym a.pointer) (subst (λ x. stack_top ≤ f.low + room_of room x + 32) (sym a.open_calls) a.deep);
}

module _ (p : MProgram) (order : Order) (room : ℕ → ℕ) (places : ℕ → Option ℕ) (Reads : Type 0) (long far : ℕ) (g : Meaning) (names : List (List ℕ)) (found : ℕ → Option ℕ) (f : Frame) (t : Setting) (code : List Instr) where
  -- the rest of the code stands at the machine's place, in a state that is alike
  pub record Ready (map : Map) (k i : ℕ) (is : List Instr) (s : State) (h : Working) : Type 0 where
    pub alike : Alike order room map f s h
    pub at : h.cpu.pc ≡ code_start + 4 * i
    pub stands : StandsIn p.code found i (body_of names f.layout k is)
    pub fits : Fits names f.layout k is
    pub named : NamesAmong mips temporaries is
    pub slots : UsesSlotsBelow mips f.layout.slots is
    pub calls : CallsAre (IsAddressed p g names places Reads) is
    pub counts : k ≡ length s.point.world.arguments
    pub short : length is < long
    pub functions : HasPlaces map places
    pub bytes : Reads → AreBytes h.left
    pub bare : IsBare map

  module _ (ends : code_start + 4 * length p.code ≤ data_start) (sound : IsSound f) (same : t.environment.global ≡ g.global) (calling : Calling p order room places Reads (λ name. MayRead Reads (g.callee name)) long far t.call) where
    -- the machine follows what is claimed of at most n instructions from here
    abbrev Holds : ℕ → ℕ → Type 0
    Holds n b = (map : Map) (k i : ℕ) (is : List Instr) (s : State) (h : Working) → Ready map k i is s h → Comes p order room map long f b (length is) h (executed mips t code n is s)

    abbrev Follows_on : Map → ℕ → ℕ → Working → Outcome → Type 0
    Follows_on map b len h o = Comes p order room map long f b len h o

    shorter : (is : List Instr) (x : Instr) → length (x ∷ is) < long → length is < long
    shorter is x l = omega arith

    -- one instruction writes a temporary
    temporary : (map : Map) (n b k i : ℕ) (x : Instr) (is : List Instr) (s : State) (h : Working) (d v : ℕ) (w : Word) → Holds n (b - 1) → IsTrue (among d temporaries) → v < 2 ^ 32 → IsWord map w v → Gets p order h (with_register h d v (h.cpu.pc + 4)) → StandsIn p.code found (suc i) (body_of names f.layout k is) → Fits names f.layout k is → NamesAmong mips temporaries is → UsesSlotsBelow mips f.layout.slots is → CallsAre (IsAddressed p g names places Reads) is → Ready map k i (x ∷ is) s h → Follows_on map b (length (x ∷ is)) h (executed mips t code n is (record { registers = with_value s.registers d w; slots = s.slots; point = s.point }))
    temporary map n b k i x is s h d v w go low small is_word gets stands fits named slots calls r =
        let s' : State = record { registers = with_value s.registers d w; slots = s.slots; point = s.point } in
        let h' = with_register h d v (h.cpu.pc + 4) in
        later_by p order room map map long f b (length is) (length (x ∷ is)) h h' (executed mips t code n is s') (shorter is x r.short) (grown_same map) gets (go map k (suc i) is s' h' (record {
          alike = set_temporary order room map f s h d v (h.cpu.pc + 4) w low small is_word r.alike;
          at = further i h.cpu.pc r.at;
          stands = stands;
          fits = fits;
          named = named;
          slots = slots;
          calls = calls;
          counts = r.counts;
          short = shorter is x r.short;
          functions = r.functions;
          bytes = r.bytes;
          bare = r.bare;
        }))

    -- the same, where the instruction's own row says so
    computes : (map : Map) (n b k i : ℕ) (z : MInstruction) (x : Instr) (is : List Instr) (s : State) (h : Working) (d v : ℕ) (w : Word) → Holds n (b - 1) → IsTrue (among d temporaries) → v < 2 ^ 32 → IsWord map w v → act order h.cpu (linked p z) ≡ writes h.cpu d v → slice_get p.code i ≡ Some z → StandsIn p.code found (suc i) (body_of names f.layout k is) → Fits names f.layout k is → NamesAmong mips temporaries is → UsesSlotsBelow mips f.layout.slots is → CallsAre (IsAddressed p g names places Reads) is → Ready map k i (x ∷ is) s h → Follows_on map b (length (x ∷ is)) h (executed mips t code n is (record { registers = with_value s.registers d w; slots = s.slots; point = s.point }))
    computes map n b k i z x is s h d v w go low small is_word acted here stands fits named slots calls r =
        temporary map n b k i x is s h d v w go low small is_word (wrote p order i h z d v r.at here acted (above_zero d low) (not_pointer d low)) stands fits named slots calls r

    here_spent : (map : Map) (s : State) (h : Working) (w : World) → Alike order room map f s h → Spent p order room (length h.cpu.stack) h w → Spent p order room (stack_of f) h w
    here_spent map s h w a c = subst (λ n. Spent p order room n h w) a.leaves.room c

    -- what the machine does after a call, by what the call did
    after_call : (map : Map) (n b k i m name d : ℕ) (is : List Instr) (s : State) (h h2 : Working) (e : Effect) → Holds n (b - 1) → b ≤ suc far → Answers p order room map long far (waiting_in f) s.point.world h2 e → Gets p order h h2 → Alike order room map f s h2 → register h2.cpu 31 ≡ code_start + 4 * suc m → slice_get p.code (suc m) ≡ Some (to.Move d 2) → StandsIn p.code found (suc (suc m)) (body_of names f.layout 0 is) → IsTrue (among d temporaries) → Fits names f.layout 0 is → NamesAmong mips temporaries is → UsesSlotsBelow mips f.layout.slots is → CallsAre (IsAddressed p g names places Reads) is → Ready map k i (instr.Call d name ∷ is) s h → Follows_on map b (length (instr.Call d name ∷ is)) h (goes (then_do e (λ ws q. handed true ws q)) (λ ws q mv. moved mips code is mv q (λ js. executed mips t code n js (state_by mips (instr.Call d name) s ws q))))
    after_call map n b k i m name d is s h h2 (Went [] q Next) go le ans gets a back here stands low fits named slots calls r = tt
    after_call map n b k i m name d is s h h2 (Went (w ∷ ws) q Next) go le (inl c) gets a back here stands low fits named slots calls r =
        let s3 : State = record { registers = λ x. if among x lost_at_calls then Partly 0 0 else s.registers x; slots = s.slots; point = q } in
        let h3 = c.place in
        let s4 : State = record { registers = with_value s3.registers d w; slots = s.slots; point = q } in
        let v = register h3.cpu 2 in
        let h4 = with_register h3 d v (h3.cpu.pc + 4) in
        let a3 : Alike order room c.later f s3 h3 = called_alike p order room map f s q h2 (w ∷ ws) a c in
        let at3 : h3.cpu.pc ≡ code_start + 4 * suc m = c.at ∙ back in
        let step4 = wrote p order (suc m) h3 (to.Move d 2) d v at3 here refl (above_zero d low) (not_pointer d low) in
        later_by p order room map c.later long f b (length is) (length (instr.Call d name ∷ is)) h h4 (executed mips t code n is s4) (shorter is (instr.Call d name) r.short) c.grown (both_gets p order h h3 h4 (both_gets p order h h2 h3 gets c.gets) step4) (go c.later 0 (suc (suc m)) is s4 h4 (record {
          alike = set_temporary order room c.later f s3 h3 d v (h3.cpu.pc + 4) w low (a3.leaves.words 2) c.result a3;
          at = further (suc m) h3.cpu.pc at3;
          stands = stands;
          fits = fits;
          named = named;
          slots = slots;
          calls = calls;
          counts = ap length (sym c.taken);
          short = shorter is (instr.Call d name) r.short;
          functions = λ y a e. c.grown.functions y ∙ r.functions y a e;
          bytes = λ reads. gets_bytes p order h h3 (both_gets p order h h2 h3 gets c.gets) (r.bytes reads);
          bare = c.bare;
        }))
    after_call map n b k i m name d is s h h2 (Went (w ∷ ws) q Next) go le (inr c) gets a back here stands low fits named slots calls r =
        let s4 = state_by mips (instr.Call d name) s (w ∷ []) q in
        spent_in p order room map long f b (length (instr.Call d name ∷ is)) h q.world (executed mips t code n is s4) (executed_begins t calling.grows code n is s4) (spent_later p order room (stack_of f) h h2 q.world gets (here_spent map s h2 q.world a c))
    after_call map n b k i m name d is s h h2 (Went ws q (To l)) go le ans gets a back here stands low fits named slots calls r = tt
    after_call map n b k i m name d is s h h2 (Went ws q (End v)) go le ans gets a back here stands low fits named slots calls r = tt
    after_call map n b k i m name d is s h h2 (Exits status w) go le (inl c) gets a back here stands low fits named slots calls r =
        inl (record { steps = gets.0 + c.steps; ended = runs_on p order h h2 gets c.steps _ c.ended })
    after_call map n b k i m name d is s h h2 (Exits status w) go le (inr c) gets a back here stands low fits named slots calls r = inr (spent_later p order room (stack_of f) h h2 w gets (here_spent map s h2 w a c))
    after_call map n b k i m name d is s h h2 (Unfinished w) go le (inl c) gets a back here stands low fits named slots calls r =
        inl (record {
          steps = gets.0 + c.steps;
          place = c.place;
          many = paid_call b far gets.0 c.steps long (length is) le c.many gets.1;
          gets = runs_on p order h h2 gets c.steps _ c.gets;
          printed = c.printed;
        })
    after_call map n b k i m name d is s h h2 (Unfinished w) go le (inr c) gets a back here stands low fits named slots calls r = inr (spent_later p order room (stack_of f) h h2 w gets (here_spent map s h2 w a c))
    after_call map n b k i m name d is s h h2 Stuck go le ans gets a back here stands low fits named slots calls r = tt

    -- a call, of a name that is function fn
    calls_on : (map : Map) (n b k i name fn d : ℕ) (is : List Instr) (s : State) (h : Working) → Holds n (b - 1) → b ≤ suc far → t.environment.global name ≡ Some (Function fn) → Ready map k i (instr.Call d name ∷ is) s h → Follows_on map b (length (instr.Call d name ∷ is)) h (goes (then_do (t.call fn s.point) (λ ws q. handed true ws q)) (λ ws q mv. moved mips code is mv q (λ js. executed mips t code n js (state_by mips (instr.Call d name) s ws q))))
    calls_on map n b k i name fn d is s h go le value r =
        let j = min k 4 in
        let known = r.calls.0 fn (subst (λ (global : ℕ → Option Value). global name ≡ Some (Function fn)) same value) in
        let bytes = get_or names name [] in
        let all = front_stands p.code found i (unmarked (call_of names k d name)) (body_of names f.layout 0 is) r.stands in
        let rest = stands_behind p.code found i (call_of names k d name) (body_of names f.layout 0 is) r.stands in
        let two : List MInstruction = to.Call (target.Label bytes) ∷ to.Move d 2 ∷ [] in
        let both = both_stand p.code found i (loads_of j) two all in
        let first = front_stands p.code found i (unmarked (loads_of j)) (unmarked two) both in
        let few : j ≤ f.layout.arguments = (let a = r.alike.few in let e = r.counts in omega (arith, a, e)) in
        let x = loaded p order room map f found s i j h sound (omega arith) few r.alike r.at first in
        let there = subst (λ n2. StandsIn p.code found (i + n2) (unmarked two)) (length_loads j) (stands_behind p.code found i (loads_of j) (unmarked two) both) in
        let last : length (call_of names k d name) ≡ j + 2 = length-append (loads_of j) two ∙ ap (λ n2. n2 + 2) (length_loads j) in
        let h1 = x.place in
        let cpu2 : Cpu = record { registers = slice_set h1.cpu.registers 31 (h1.cpu.pc + 4); statics = h1.cpu.statics; stack = h1.cpu.stack; pc = known.address } in
        let h2 = with_cpu h1 cpu2 in
        let step2 = once p order h1 cpu2 (stepped p order (i + j) h1.cpu h1.left (to.Call (target.Label bytes)) x.at there.0 ∙ ap (λ (o : Option ℕ). calls_at h1.cpu (or_zero o)) known.in_text) in
        let gets : Gets p order h h2 = gets_behind p order h h1 h2 x.steps x.gets step2 in
        let at2 = further (i + j) h1.cpu.pc x.at in
        let a2 = set_other order room map f s h1 31 (h1.cpu.pc + 4) known.address (omega arith) (ne_below 31 29 (omega arith)) refl (near p.code (suc (i + j)) (to.Move d 2) (h1.cpu.pc + 4) ends at2 there.1.0) x.alike in
        let words : (y : ℕ) → y < j → register cpu2 (4 + y) ≡ frame_word order f h.cpu.stack y = λ y l. index_other h1.cpu.registers 31 (4 + y) (h1.cpu.pc + 4) (ne_above (4 + y) 31 (omega arith)) ∙ x.words y l in
        let passes = handed_same map (frame_word order f cpu2.stack) (passed_word order cpu2) 0 s.point.world.arguments (λ y l. passed order f cpu2 h.cpu.stack k a2.pointer x.same words y (omega (arith, l, r.counts))) a2.handed in
        let entry = entry_of order room map f fn s h2 sound (sym (r.functions fn known.address known.place)) passes a2 in
        let back : register cpu2 31 ≡ code_start + 4 * suc (i + j) = index_set h1.cpu.registers 31 (h1.cpu.pc + 4) (subst (λ n2. 31 < n2) (sym x.alike.leaves.count) (omega arith)) ∙ at2 in
        let behind : i + length (call_of names k d name) ≡ suc (suc (i + j)) = omega (arith, last) in
        after_call map n b k i (i + j) name d is s h h2 (t.call fn s.point) go le (calling.answers map (waiting_in f) fn s.point h2 known.reads (λ reads. gets_bytes p order h h2 gets (r.bytes reads)) r.bare r.functions entry) gets a2 back there.1.0 (subst (λ n2. StandsIn p.code found n2 (body_of names f.layout 0 is)) behind rest) r.named.0.0 r.fits.1 r.named.1 r.slots.1 r.calls.1 r

    pub follows : (n b : ℕ) (map : Map) (k i : ℕ) (is : List Instr) (s : State) (h : Working) → b ≤ n → b ≤ suc far → Ready map k i is s h → Comes p order room map long f b (length is) h (executed mips t code n is s)
    follows zero b map k i is s h less le r = inl (record { steps = 0; place = h; many = omega arith; gets = refl; printed = r.alike.shows.printed })
    follows (suc n) b map k i [] s h less le r =
        let c = leave p order room map f found i s h None sound r.alike tt r.at r.stands in
        inl (record { later = map; place = c.0; gets = c.1; grown = grown_same map; bare = r.bare; returned = c.2 })
    follows (suc n) b map k i (instr.LoadNumber d v ∷ is) s h less le r =
        computes map n b k i (to.LoadNumber d v) (instr.LoadNumber d v) is s h d v (Plain (Number v)) (λ m' k' i' is' s' h' r'. follows n (b - 1) m' k' i' is' s' h' (omega arith) (omega arith) r') r.named.0.0 r.fits.0.1 refl refl r.stands.0 r.stands.1 r.fits.1 r.named.1 r.slots.1 r.calls.1 r
    follows (suc n) b map k i (instr.Binary op d x (source.Register y) ∷ is) s h less le r =
        let v = combined (binary_of op) (register h.cpu x) (register h.cpu y) in
        of_numbers map (Follows_on map b (length (instr.Binary op d x (source.Register y) ∷ is)) h) t op (s.registers x) (s.registers y) (register h.cpu x) (register h.cpu y) s.point (λ ws q mv. moved mips code is mv q (λ js. executed mips t code n js (state_by mips (instr.Binary op d x (source.Register y)) s ws q))) (r.alike.temps x r.named.0.1.0) (r.alike.temps y r.named.0.1.1.0) tt
        (computes map n b k i (to.Binary (binary_of op) d x (operand.Register y)) (instr.Binary op d x (source.Register y)) is s h d v (Plain (Number (result_of op (register h.cpu x) (register h.cpu y)))) (λ m' k' i' is' s' h' r'. follows n (b - 1) m' k' i' is' s' h' (omega arith) (omega arith) r') r.named.0.0 (combined_small op (register h.cpu x) (register h.cpu y)) (sym (same_combined op (register h.cpu x) (register h.cpu y))) (operated order h.cpu op d x (operand.Register y)) r.stands.0 r.stands.1 r.fits.1 r.named.1 r.slots.1 r.calls.1 r)
    follows (suc n) b map k i (instr.Binary op d x (source.Number y) ∷ is) s h less le r =
        let v = combined (binary_of op) (register h.cpu x) y in
        of_numbers map (Follows_on map b (length (instr.Binary op d x (source.Number y) ∷ is)) h) t op (s.registers x) (Plain (Number y)) (register h.cpu x) y s.point (λ ws q mv. moved mips code is mv q (λ js. executed mips t code n js (state_by mips (instr.Binary op d x (source.Number y)) s ws q))) (r.alike.temps x r.named.0.1.0) refl tt
        (computes map n b k i (to.Binary (binary_of op) d x (operand.Number y)) (instr.Binary op d x (source.Number y)) is s h d v (Plain (Number (result_of op (register h.cpu x) y))) (λ m' k' i' is' s' h' r'. follows n (b - 1) m' k' i' is' s' h' (omega arith) (omega arith) r') r.named.0.0 (combined_small op (register h.cpu x) y) (sym (same_combined op (register h.cpu x) y)) (operated order h.cpu op d x (operand.Number y)) r.stands.0 r.stands.1 r.fits.1 r.named.1 r.slots.1 r.calls.1 r)
    follows (suc n) b map k i (instr.Negate d x ∷ is) s h less le r =
        of_number map (Follows_on map b (length (instr.Negate d x ∷ is)) h) t (s.registers x) (register h.cpu x) s.point (λ ws q mv. moved mips code is mv q (λ js. executed mips t code n js (state_by mips (instr.Negate d x) s ws q))) (r.alike.temps x r.named.0.1.0) tt
        (computes map n b k i (to.Unary unary.Negate d x) (instr.Negate d x) is s h d (unary_word Negate (register h.cpu x)) (Plain (Number (unary_word Negate (register h.cpu x)))) (λ m' k' i' is' s' h' r'. follows n (b - 1) m' k' i' is' s' h' (omega arith) (omega arith) r') r.named.0.0 (negated_small (register h.cpu x)) refl refl r.stands.0 r.stands.1 r.fits.1 r.named.1 r.slots.1 r.calls.1 r)
    follows (suc n) b map k i (instr.Argument x ∷ is) s h less le r =
        let s' : State = record { registers = s.registers; slots = s.slots; point = with_argument s.point (s.registers x) } in
        let h' = with_stack h (with_stack_word order h.cpu.stack (f.low + 4 * k) (register h.cpu x)) (h.cpu.pc + 4) in
        let low = r.fits.0.1 in
        later_by p order room map map long f b (length is) (length (instr.Argument x ∷ is)) h h' (executed mips t code n is s') (shorter is (instr.Argument x) r.short) (grown_same map) (store_word p order i f h x k sound r.alike.leaves.room r.alike.pointer (omega (arith, low)) r.at r.stands.0) (follows n (b - 1) map (suc k) (suc i) is s' h' (omega arith) (omega arith) (record {
          alike = put_argument order room map f s h k (register h.cpu x) (h.cpu.pc + 4) (s.registers x) r.bare sound r.counts low (r.alike.leaves.words x) (r.alike.temps x r.named.0.0) r.alike;
          at = further i h.cpu.pc r.at;
          stands = r.stands.1;
          fits = r.fits.1;
          named = r.named.1;
          slots = r.slots.1;
          calls = r.calls.1;
          counts = one_more k s.point.world.arguments (s.registers x) r.counts;
          short = shorter is (instr.Argument x) r.short;
          functions = r.functions;
          bytes = r.bytes;
          bare = r.bare;
        }))
    follows (suc n) b map k i (instr.Call d name ∷ is) s h less le r =
        of_name (Follows_on map b (length (instr.Call d name ∷ is)) h) t (t.environment.global name) s.point (λ ws q mv. moved mips code is mv q (λ js. executed mips t code n js (state_by mips (instr.Call d name) s ws q))) tt
        (λ fn value. calls_on map n b k i name fn d is s h (λ m' k' i' is' s' h' r'. follows n (b - 1) m' k' i' is' s' h' (omega arith) (omega arith) r') le value r)
    follows (suc n) b map k i (instr.Return x ∷ is) s h less le r =
        let v = register h.cpu x in
        let h1 = with_register h 2 v (h.cpu.pc + 4) in
        let a = set_other order room map f s h 2 v (h.cpu.pc + 4) (omega arith) (ne_above 2 29 (omega arith)) refl (r.alike.leaves.words x) r.alike in
        let step1 = wrote p order i h (to.Move 2 x) 2 v r.at r.stands.0 refl (omega arith) (ne_above 2 29 (omega arith)) in
        let two : register h1.cpu 2 ≡ v = index_set h.cpu.registers 2 v (subst (λ n2. 2 < n2) (sym r.alike.leaves.count) (omega arith)) in
        let c = leave p order room map f found (suc i) s h1 (Some (s.registers x)) sound a (subst (IsWord map (s.registers x)) (sym two) (r.alike.temps x r.named.0.0)) (further i h.cpu.pc r.at) (front_stands p.code found (suc i) (unmarked (epilogue f.layout)) (body_of names f.layout k is) r.stands.1) in
        inl (record { later = map; place = c.0; gets = both_gets p order h h1 c.0 step1 c.1; grown = grown_same map; bare = r.bare; returned = c.2 })
    follows (suc n) b map k i (instr.Copy d x ∷ is) s h less le r =
        computes map n b k i (to.Move d x) (instr.Copy d x) is s h d (register h.cpu x) (s.registers x) (λ m' k' i' is' s' h' r'. follows n (b - 1) m' k' i' is' s' h' (omega arith) (omega arith) r') r.named.0.0 (r.alike.leaves.words x) (r.alike.temps x r.named.0.1.0) refl r.stands.0 r.stands.1 r.fits.1 r.named.1 r.slots.1 r.calls.1 r
    follows (suc n) b map k i (instr.LoadSlot d (pos z) ∷ is) s h less le r =
        let low = r.slots.0 in
        let y = f.layout.arguments + z in
        temporary map n b k i (instr.LoadSlot d (pos z)) is s h d (frame_word order f h.cpu.stack y) (s.slots (pos z)) (λ m' k' i' is' s' h' r'. follows n (b - 1) m' k' i' is' s' h' (omega arith) (omega arith) r') r.named.0.0 (small_word order h.cpu.stack _ r.alike.leaves.small) (r.alike.spilled z low) (load_word p order i f h d y sound r.alike.leaves.room r.alike.pointer (omega (arith, low)) (above_zero d r.named.0.0) (not_pointer d r.named.0.0) r.at r.stands.0) r.stands.1 r.fits.1 r.named.1 r.slots.1 r.calls.1 r
    follows (suc n) b map k i (instr.LoadSlot d (negsuc z) ∷ is) s h less le r = absurd r.slots.0
    follows (suc n) b map k i (instr.StoreSlot x (pos z) ∷ is) s h less le r =
        let low = r.slots.0 in
        let y = f.layout.arguments + z in
        let s' : State = record { registers = s.registers; slots = with_slot s.slots (pos z) (s.registers x); point = s.point } in
        let h' = with_stack h (with_stack_word order h.cpu.stack (f.low + 4 * y) (register h.cpu x)) (h.cpu.pc + 4) in
        later_by p order room map map long f b (length is) (length (instr.StoreSlot x (pos z) ∷ is)) h h' (executed mips t code n is s') (shorter is (instr.StoreSlot x (pos z)) r.short) (grown_same map) (store_word p order i f h x y sound r.alike.leaves.room r.alike.pointer (omega (arith, low)) r.at r.stands.0) (follows n (b - 1) map k (suc i) is s' h' (omega arith) (omega arith) (record {
          alike = put_slot order room map f s h z (register h.cpu x) (h.cpu.pc + 4) (s.registers x) r.bare sound low (r.alike.leaves.words x) (r.alike.temps x r.named.0.0) r.alike;
          at = further i h.cpu.pc r.at;
          stands = r.stands.1;
          fits = r.fits.1;
          named = r.named.1;
          slots = r.slots.1;
          calls = r.calls.1;
          counts = r.counts;
          short = shorter is (instr.StoreSlot x (pos z)) r.short;
          functions = r.functions;
          bytes = r.bytes;
          bare = r.bare;
        }))
    follows (suc n) b map k i (instr.StoreSlot x (negsuc z) ∷ is) s h less le r = absurd r.slots.0
