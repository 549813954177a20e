-- A function's code keeps its bounds: only what makes the frame and gives it back moves the stack pointer, and it goes on
-- nowhere but behind each instruction.
use Rattle.std.proofs.Common.{◌≡◌, ℕ, zero, suc, ◌+◌, ◌*◌, ◌≤◌, ◌-◌, ◌%◌, ◌^◌, min, length, Bool, true, false, List, [], ◌∷◌, ◌++◌, Option, Some, None, get_or, refl, sym, ap, ◌∙◌, subst, arith}
use Rattle.std.specs.Prelude.{IsTrue, if◌then◌else◌, ◌==◌, slice_get}
use Rattle.std.proofs.lemmas.Bool.{both_ways, ne_eqb}
use Rattle.std.proofs.lemmas.Option.{none-some, same_Some}
use Rattle.asm_lines.specs.declared.instruction.Instruction.TheVariants.{Move, Binary, Load, Call}
use Rattle.asm_lines.specs.declared.operator.BinaryOp.{BinaryOp}
use Rattle.asm_lines.specs.declared.operator.LoadOp.TheVariants as load
use Rattle.asm_lines.specs.declared.instruction.Value.{Value}
use Rattle.asm_lines.specs.declared.instruction.Value.TheVariants as operand
use Rattle.asm_lines.specs.declared.instruction.Target.TheVariants as target
use Rattle.asm_text.specs.Program.{MInstruction, MProgram}
use Rattle.vcode.specs.VirtualCode.{among}
use Rattle.frame_code.specs.declared.instr.Instr.{Instr}
use Rattle.frame_code.specs.declared.instr.Instr.TheVariants as instr
use Rattle.mips_rules.specs.Mips.{mips}
use Rattle.mips_target.specs.declared.layout.Layout.{Layout}
use Rattle.unit_text.specs.Items.{CodeItem, StandsIn, lines_in}
use Rattle.mips_target.specs.Bounds.{lowered_by, lowered_behind, goes_on, leads_to, Reaches, AtEntry, Behind, AtLabel, StaysWithin, KeepsBounds}
use Rattle.mips_target.specs.Frame.{frame_size}
use Rattle.mips_target.specs.FunctionCode.{in_frame, binary_of, operand_of, epilogue, loads_of, instructions_of, handed_behind, unmarked, function_code}
use Rattle.mips_target.specs.Generated.{temporaries}
use Rattle.vcode.specs.NamesAmong.{AreAmong, NamesAmong}
use Rattle.mips_target.proofs.Unmarked.{body_instructions, function_instructions, function_unmarked}

-- From here on, with the stack pointer lowered by so many bytes, each instruction that is reached leaves it within the
-- room, and leads nowhere but behind itself.
abbrev Stays : ℕ → ℕ → List MInstruction → Type 0
Stays room lowered [] = ⊥
Stays room lowered (i ∷ is) =
    (leads_to i ≡ None) × (later : ℕ) × (lowered_behind lowered i ≡ Some later) × (later ≤ room) × (goes_on i ≡ true → Stays room later is)

-- instructions stand one behind the other
abbrev Stand : List MInstruction → ℕ → List MInstruction → Type 0
Stand code place [] = Unit {0}
Stand code place (i ∷ is) = (slice_get code place ≡ Some i) × Stand code (suc place) is

-- ---- each place that is reached

module _ (p : MProgram) (entry room : ℕ) where
  -- what is so of a place
  record IsSafe (place lowered : ℕ) : Type 0 where
    pub rest : List MInstruction
    pub stand : Stand p.code place rest
    pub stays : Stays room lowered rest

  safe_behind : (place lowered later : ℕ) (i : MInstruction) (rest : List MInstruction) → Stand p.code place rest → Stays room lowered rest → slice_get p.code place ≡ Some i → goes_on i ≡ true → lowered_behind lowered i ≡ Some later → IsSafe (suc place) later
  safe_behind place lowered later i [] stand stays at on known = absurd stays
  safe_behind place lowered later i (x ∷ rest) stand stays at on known =
      let same : x ≡ i = same_Some x i (sym stand.0 ∙ at) in
      let e : stays.1 ≡ later = same_Some stays.1 later (sym stays.2 ∙ ap (lowered_behind lowered) same ∙ known) in
      record { rest = rest; stand = stand.1; stays = subst (λ n. Stays room n rest) e (stays.4 (ap goes_on same ∙ on)) }

  never_led : (place lowered : ℕ) (i : MInstruction) (name : List ℕ) (rest : List MInstruction) → Stand p.code place rest → Stays room lowered rest → slice_get p.code place ≡ Some i → leads_to i ≡ Some name → ⊥
  never_led place lowered i name [] stand stays at to = stays
  never_led place lowered i name (x ∷ rest) stand stays at to =
      none-some name (sym stays.0 ∙ ap leads_to (same_Some x i (sym stand.0 ∙ at)) ∙ to)

  within : (place lowered : ℕ) (i : MInstruction) (rest : List MInstruction) → Stand p.code place rest → Stays room lowered rest → slice_get p.code place ≡ Some i → StaysWithin room lowered i
  within place lowered i [] stand stays at = absurd stays
  within place lowered i (x ∷ rest) stand stays at = record { later = stays.1; known = ap (lowered_behind lowered) (sym (same_Some x i (sym stand.0 ∙ at))) ∙ stays.2; within = stays.3 }

  module _ (code : List MInstruction) (stand : Stand p.code entry code) (stays : Stays room 0 code) where
    safe : {place lowered : ℕ} → Reaches p entry place lowered → IsSafe place lowered
    safe AtEntry = record { rest = code; stand = stand; stays = stays }
    safe (Behind {place} {lowered} {later} i before at on known) = let s = safe before in safe_behind place lowered later i s.rest s.stand s.stays at on known
    safe (AtLabel {place} {lowered} {later} {to} i name before at leads found known) =
        let s = safe before in absurd (never_led place lowered i name s.rest s.stand s.stays at leads)

    each_within : (place lowered : ℕ) (i : MInstruction) → Reaches p entry place lowered → slice_get p.code place ≡ Some i → StaysWithin room lowered i
    each_within place lowered i reaches at = let s = safe reaches in within place lowered i s.rest s.stand s.stays at

-- ---- instructions that keep the stack pointer

-- it leaves the stack pointer as it is, and goes on behind itself
record IsQuiet (i : MInstruction) : Type 0 where
  pub keeps : (lowered : ℕ) → lowered_behind lowered i ≡ Some lowered
  pub leads : leads_to i ≡ None

abbrev AreQuiet : List MInstruction → Type 0
AreQuiet [] = Unit {0}
AreQuiet (i ∷ is) = IsQuiet i × AreQuiet is

quiet_append : (xs ys : List MInstruction) → AreQuiet xs → AreQuiet ys → AreQuiet (xs ++ ys)
quiet_append [] ys h k = k
quiet_append (x ∷ xs) ys h k = (h.0, quiet_append xs ys h.1 k)

quiet_stays : (room lowered : ℕ) (xs ys : List MInstruction) → lowered ≤ room → AreQuiet xs → Stays room lowered ys → Stays room lowered (xs ++ ys)
quiet_stays room lowered [] ys low h k = k
quiet_stays room lowered (x ∷ xs) ys low h k = (h.0.leads, lowered, h.0.keeps lowered, low, λ on. quiet_stays room lowered xs ys low h.1 k)

true_false : false ≡ true → ⊥
true_false e = cc

-- the stack pointer is no temporary
no_temporary : (r : ℕ) → IsTrue (among r temporaries) → (r == 29) ≡ false
no_temporary r h = ne_eqb r 29 (λ e. true_false (subst (λ q. IsTrue (among q temporaries)) e h))

kept_by : (b : Bool) (x : Option ℕ) (lowered : ℕ) → b ≡ false → (if b then x else Some lowered) ≡ Some lowered
kept_by true x lowered e = absurd (both_ways true e refl)
kept_by false x lowered e = refl

module _ (r : ℕ) (h : IsTrue (among r temporaries)) where
  -- an instruction that writes a temporary
  temporary_kept : (lowered : ℕ) → (if r == 29 then None else Some lowered) ≡ Some lowered
  temporary_kept lowered = kept_by (r == 29) None lowered (no_temporary r h)

  operation_quiet : (op : BinaryOp) (from : ℕ) (x : Value) → IsQuiet (Binary op r from x)
  operation_quiet op from (operand.Register q) = record { keeps = temporary_kept; leads = refl }
  operation_quiet op from (operand.Number n) = record {
    keeps = λ lowered. kept_by (r == 29) (if from == 29 then lowered_by op lowered n else None) lowered (no_temporary r h);
    leads = refl;
  }

loads_quiet : (k : ℕ) → k ≤ 4 → AreQuiet (loads_of k)
loads_quiet zero low = tt
loads_quiet (suc k) low =
    let other : ((4 + k) == 29) ≡ false = ne_eqb (4 + k) 29 (λ e. omega (arith, e, low)) in
    quiet_append (loads_of k) (Load load.Word (4 + k) (in_frame (4 * k)) ∷ []) (loads_quiet k (omega (arith, low)))
    (record { keeps = λ lowered. kept_by ((4 + k) == 29) None lowered other; leads = refl }, tt)

-- ---- code over the temporaries

module _ (room : ℕ) (names : List (List ℕ)) (l : Layout) (fits : frame_size l ≤ room) where
  -- by how much the frame lowers the stack pointer
  abbrev low : ℕ
  low = (0 + frame_size l) % 2 ^ 32

  low_within : low ≤ room
  low_within = omega (arith, fits)

  given_back : (low + (2 ^ 32 - frame_size l % 2 ^ 32)) % 2 ^ 32 ≡ 0
  given_back = omega arith

  epilogue_stays : (rest : List MInstruction) → Stays room low (epilogue l ++ rest)
  epilogue_stays rest = (refl, low, refl, low_within, λ on. (refl, 0, ap Some given_back, omega arith, λ on2. (refl, 0, refl, omega arith, λ on3. absurd (true_false on3))))

  one_stays : (k : ℕ) (i : Instr) (rest : List MInstruction) → AreAmong temporaries (mips.operands i) → Stays room low rest → Stays room low (instructions_of names l k i ++ rest)
  one_stays k (instr.LoadNumber to n) rest h s = (refl, low, temporary_kept to h.0 low, low_within, λ on. s)
  one_stays k (instr.Binary op to from x) rest h s = quiet_stays room low (Binary (binary_of op) to from (operand_of x) ∷ []) rest low_within (operation_quiet to h.0 (binary_of op) from (operand_of x), tt) s
  one_stays k (instr.Negate to from) rest h s = (refl, low, temporary_kept to h.0 low, low_within, λ on. s)
  one_stays k (instr.Argument from) rest h s = (refl, low, refl, low_within, λ on. s)
  one_stays k (instr.Call to name) rest h s =
      let call : List MInstruction = Call (target.Label (get_or names name [])) ∷ Move to 2 ∷ [] in
      quiet_stays room low (loads_of (min k 4) ++ call) rest low_within
      (quiet_append (loads_of (min k 4)) call (loads_quiet (min k 4) (omega arith)) (record { keeps = λ lowered. refl; leads = refl }, (record { keeps = temporary_kept to h.0; leads = refl }, tt))) s
  one_stays k (instr.Return from) rest h s = (refl, low, refl, low_within, λ on. epilogue_stays rest)
  one_stays k (instr.Copy to from) rest h s = (refl, low, temporary_kept to h.0 low, low_within, λ on. s)
  one_stays k (instr.LoadSlot to slot) rest h s = (refl, low, temporary_kept to h.0 low, low_within, λ on. s)
  one_stays k (instr.StoreSlot from slot) rest h s = (refl, low, refl, low_within, λ on. s)

  body_stays : (k : ℕ) (code : List Instr) → NamesAmong mips temporaries code → Stays room low (body_instructions names l k code)
  body_stays k [] h = epilogue_stays []
  body_stays k (i ∷ is) h = one_stays k i (body_instructions names l (handed_behind k i) is) h.0 (body_stays (handed_behind k i) is h.1)

  function_stays : (code : List Instr) → NamesAmong mips temporaries code → Stays room 0 (function_instructions names l code)
  function_stays code h = (refl, low, refl, low_within, λ on. (refl, low, refl, low_within, λ on2. body_stays 0 code h))

stand_unmarked : (code : List MInstruction) (found : ℕ → Option ℕ) (place : ℕ) (is : List MInstruction) → StandsIn code found place (unmarked is) → Stand code place is
stand_unmarked code found place [] h = tt
stand_unmarked code found place (i ∷ is) h = (h.0, stand_unmarked code found (suc place) is h.1)

-- where it stands in a program, it keeps its bounds
pub bounded : (room most : ℕ) (names : List (List ℕ)) (l : Layout) (code : List Instr) (items : List (CodeItem MInstruction)) (p : MProgram) (found : ℕ → Option ℕ) (entry : ℕ) → items ≡ function_code names l code → NamesAmong mips temporaries code → frame_size l ≤ room → length (lines_in items) ≤ most → StandsIn p.code found entry items → KeepsBounds room most p entry items
bounded room most names l code items p found entry made h fits few stands =
    let is = function_instructions names l code in
    let there : StandsIn p.code found entry (unmarked is) = subst (StandsIn p.code found entry) (made ∙ function_unmarked names l code) stands in
    record {
      frame = each_within p entry room is (stand_unmarked p.code found entry is there) (function_stays room names l fits code h);
      few = few;
    }
