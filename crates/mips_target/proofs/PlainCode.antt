-- The instructions of templates in a function's code: those that rules add, over temporaries.
use Rattle.std.proofs.Common.{◌≡◌, ℕ, zero, suc, ◌+◌, ◌*◌, ◌≤◌, ◌<◌, min, Bool, true, false, List, [], ◌∷◌, ◌++◌, get_or, refl, ap, ◌∙◌, arith}
use Rattle.std.specs.Prelude.{if◌then◌else◌}
use Rattle.std.specs.Int.RustNames.{unsigned_abs}
use Rattle.std.proofs.lemmas.Bool.{lt-ltb, cond-true}
use Rattle.asm_lines.specs.declared.instruction.Instruction.TheVariants as machine
use Rattle.asm_lines.specs.declared.operator.BinaryOp.TheVariants as binary
use Rattle.asm_lines.specs.declared.operator.UnaryOp.TheVariants as unary
use Rattle.asm_lines.specs.declared.operator.LoadOp.TheVariants as load
use Rattle.asm_lines.specs.declared.operator.StoreOp.TheVariants as store
use Rattle.asm_lines.specs.declared.instruction.Value.TheVariants as operand
use Rattle.asm_lines.specs.declared.instruction.Target.TheVariants as target
use Rattle.asm_text.specs.Program.{MInstruction}
use Rattle.slot_allocator.specs.Slots.{slot_of}
use Rattle.frame_code.specs.declared.instr.Instr.{Instr}
use Rattle.frame_code.specs.declared.instr.Instr.TheVariants as instr
use Rattle.frame_code.specs.declared.instr.Source.TheVariants as source
use Rattle.mips_target.specs.declared.layout.Layout.{Layout}
use Rattle.mips_target.specs.Frame.{slot_place, return_place, words_size, frame_size}
use Rattle.mips_target.specs.FunctionCode.{in_frame, binary_of, loads_of, epilogue, unmarked}
use Rattle.mips_target.specs.Sizes.{Fits}
use Rattle.unit_text.specs.Items.{CodeItem, Line}
use Rattle.mips_target.specs.Emits.{keeps_frame, is_frame_word, from_templates}
use Rattle.mips_target.proofs.Unmarked.{body_instructions, function_instructions}
use Rattle.frame_rules.proofs.lemmas.Added.{IsAdded, AddsNumber, AddsRegisters, AddsWithNumber, AddsNegate, AddsArgument, AddsCall, AddsReturn, AreAdded}
use Rattle.mips_target.proofs.Allotted.{put, put_all}

-- the template's instruction for one that a rule adds, over the temporaries
abbrev pub plain : List (List ℕ) → Instr → List MInstruction
plain names (instr.LoadNumber to n) = machine.LoadNumber 8 n ∷ []
plain names (instr.Binary op to from (source.Register r)) = machine.Binary (binary_of op) 8 9 (operand.Register 10) ∷ []
plain names (instr.Binary op to from (source.Number n)) = machine.Binary (binary_of op) 8 9 (operand.Number n) ∷ []
plain names (instr.Negate to from) = machine.Unary unary.Negate 8 9 ∷ []
plain names (instr.Call to name) = machine.Call (target.Label (get_or names name [])) ∷ []
plain names i = []

abbrev pub plain_all : List (List ℕ) → List Instr → List MInstruction
plain_all names [] = []
plain_all names (i ∷ is) = plain names i ++ plain_all names is

-- the instructions of templates
abbrev pub templates_in : Layout → List MInstruction → List MInstruction
templates_in l [] = []
templates_in l (i ∷ is) = if keeps_frame (words_size l) i then templates_in l is else i ∷ templates_in l is

if_unmarked : (b : Bool) (i : MInstruction) (xs : List MInstruction) → (if b then unmarked xs else Line i ∷ unmarked xs) ≡ unmarked (if b then xs else i ∷ xs)
if_unmarked true i xs = refl
if_unmarked false i xs = refl

pub templates_unmarked : (l : Layout) (is : List MInstruction) → from_templates (words_size l) (unmarked is) ≡ unmarked (templates_in l is)
templates_unmarked l [] = refl
templates_unmarked l (i ∷ is) =
    ap (λ (x : List (CodeItem MInstruction)). if keeps_frame (words_size l) i then x else Line i ∷ x) (templates_unmarked l is) ∙ if_unmarked (keeps_frame (words_size l) i) i (templates_in l is)

module _ (names : List (List ℕ)) (l : Layout) where
  skipped : (i : MInstruction) (is : List MInstruction) → keeps_frame (words_size l) i ≡ true → templates_in l (i ∷ is) ≡ templates_in l is
  skipped i is h = cond-true (keeps_frame (words_size l) i) (templates_in l is) (i ∷ templates_in l is) h

  frame_word : (place : ℕ) → place < 4 * (l.arguments + l.slots + 1) → is_frame_word (words_size l) (in_frame place) ≡ true
  frame_word place h = lt-ltb place (4 * (l.arguments + l.slots + 1)) h

  load_skipped : (r place : ℕ) (is : List MInstruction) → place < 4 * (l.arguments + l.slots + 1) → templates_in l (machine.Load load.Word r (in_frame place) ∷ is) ≡ templates_in l is
  load_skipped r place is h = skipped (machine.Load load.Word r (in_frame place)) is (frame_word place h)

  store_skipped : (r place : ℕ) (is : List MInstruction) → place < 4 * (l.arguments + l.slots + 1) → templates_in l (machine.Store store.Word r (in_frame place) ∷ is) ≡ templates_in l is
  store_skipped r place is h = skipped (machine.Store store.Word r (in_frame place)) is (frame_word place h)

  slot_skipped : (k r q : ℕ) (is : List Instr) → unsigned_abs (slot_of q) < l.slots → templates_in l (body_instructions names l k (instr.LoadSlot r (slot_of q) ∷ is)) ≡ templates_in l (body_instructions names l k is)
  slot_skipped k r q is h = load_skipped r (slot_place l (slot_of q)) (body_instructions names l k is) (omega (arith, h))

  kept_skipped : (k r q : ℕ) (is : List Instr) → unsigned_abs (slot_of q) < l.slots → templates_in l (body_instructions names l k (instr.StoreSlot r (slot_of q) ∷ is)) ≡ templates_in l (body_instructions names l k is)
  kept_skipped k r q is h = store_skipped r (slot_place l (slot_of q)) (body_instructions names l k is) (omega (arith, h))

  one_or_none : (b : Bool) (i : MInstruction) (xs ys : List MInstruction) → (if b then xs ++ ys else i ∷ (xs ++ ys)) ≡ (if b then xs else i ∷ xs) ++ ys
  one_or_none true i xs ys = refl
  one_or_none false i xs ys = refl

  templates_append : (a b : List MInstruction) → templates_in l (a ++ b) ≡ templates_in l a ++ templates_in l b
  templates_append [] b = refl
  templates_append (i ∷ a) b =
      ap (λ x. if keeps_frame (words_size l) i then x else i ∷ x) (templates_append a b) ∙ one_or_none (keeps_frame (words_size l) i) i (templates_in l a) (templates_in l b)

  loads_skipped : (k : ℕ) → k ≤ l.arguments → templates_in l (loads_of k) ≡ []
  loads_skipped zero h = refl
  loads_skipped (suc k) h =
      let lt : 4 * k < 4 * (l.arguments + l.slots + 1) = omega (arith, h) in
      templates_append (loads_of k) (machine.Load load.Word (4 + k) (in_frame (4 * k)) ∷ [])
      ∙ ap (λ x. x ++ templates_in l (machine.Load load.Word (4 + k) (in_frame (4 * k)) ∷ [])) (loads_skipped k (omega (arith, h)))
      ∙ load_skipped (4 + k) (4 * k) [] lt

  epilogue_skipped : (is : List MInstruction) → templates_in l (epilogue l ++ is) ≡ templates_in l is
  epilogue_skipped is =
      let rest : List MInstruction = machine.Binary binary.Add 29 29 (operand.Number (frame_size l)) ∷ machine.Jump (target.Register 31) ∷ is in
      load_skipped 31 (return_place l) rest (omega arith)

  -- what stands for the instructions behind an instruction
  abbrev Behind : List Instr → Type 0
  Behind is = (k : ℕ) → Fits names l k (put_all is) → templates_in l (body_instructions names l k (put_all is)) ≡ plain_all names is

  one_plain : {named : ℕ → Type 0} {i : Instr} (is : List Instr) → 4 ≤ l.arguments → IsAdded named i → Behind is → (k : ℕ) → Fits names l k (put i ++ put_all is) → templates_in l (body_instructions names l k (put i ++ put_all is)) ≡ plain names i ++ plain_all names is
  one_plain is four (AddsNumber to n a w) h k f =
      ap (λ x. machine.LoadNumber 8 n ∷ x) (kept_skipped k 8 to (put_all is) f.1.0.1 ∙ h k f.1.1)
  one_plain is four (AddsRegisters op to from r a b c) h k f =
      let last : List Instr = instr.Binary op 8 9 (source.Register 10) ∷ instr.StoreSlot 8 (slot_of to) ∷ put_all is in
      slot_skipped k 9 from (instr.LoadSlot 10 (slot_of r) ∷ last) f.0.1
      ∙ slot_skipped k 10 r last f.1.0.1
      ∙ ap (λ x. machine.Binary (binary_of op) 8 9 (operand.Register 10) ∷ x) (kept_skipped k 8 to (put_all is) f.1.1.1.0.1 ∙ h k f.1.1.1.1)
  one_plain is four (AddsWithNumber op to from n a b) h k f =
      slot_skipped k 9 from (instr.Binary op 8 9 (source.Number n) ∷ instr.StoreSlot 8 (slot_of to) ∷ put_all is) f.0.1
      ∙ ap (λ x. machine.Binary (binary_of op) 8 9 (operand.Number n) ∷ x) (kept_skipped k 8 to (put_all is) f.1.1.0.1 ∙ h k f.1.1.1)
  one_plain is four (AddsNegate to from a b) h k f =
      slot_skipped k 9 from (instr.Negate 8 9 ∷ instr.StoreSlot 8 (slot_of to) ∷ put_all is) f.0.1
      ∙ ap (λ x. machine.Unary unary.Negate 8 9 ∷ x) (kept_skipped k 8 to (put_all is) f.1.1.0.1 ∙ h k f.1.1.1)
  one_plain is four (AddsArgument from a) h k f =
      let g = f.1.0.1 in
      let lt : 4 * k < 4 * (l.arguments + l.slots + 1) = omega (arith, g) in
      slot_skipped k 8 from (instr.Argument 8 ∷ put_all is) f.0.1 ∙ store_skipped 8 (4 * k) (body_instructions names l (suc k) (put_all is)) lt ∙ h (suc k) f.1.1
  one_plain is four (AddsCall to name a b) h k f =
      let le : min k 4 ≤ l.arguments = omega (arith, four) in
      let call : List MInstruction = machine.Call (target.Label (get_or names name [])) ∷ machine.Move 8 2 ∷ [] in
      let behind : List MInstruction = body_instructions names l 0 (instr.StoreSlot 8 (slot_of to) ∷ put_all is) in
      templates_append (loads_of (min k 4) ++ call) behind
      ∙ ap (λ x. x ++ templates_in l behind) (templates_append (loads_of (min k 4)) call ∙ ap (λ x. x ++ templates_in l call) (loads_skipped (min k 4) le))
      ∙ ap (λ x. machine.Call (target.Label (get_or names name [])) ∷ x) (kept_skipped 0 8 to (put_all is) f.1.0.1 ∙ h 0 f.1.1)
  one_plain is four (AddsReturn from a) h k f =
      slot_skipped k 8 from (instr.Return 8 ∷ put_all is) f.0.1 ∙ epilogue_skipped (body_instructions names l k (put_all is)) ∙ h k f.1.1

  body_plain : (named : ℕ → Type 0) (code : List Instr) → 4 ≤ l.arguments → AreAdded named code → Behind code
  body_plain named [] four h = λ k f. epilogue_skipped []
  body_plain named (i ∷ is) four h = λ k f. one_plain is four h.0 (body_plain named is four h.1) k f

  pub code_plain : (named : ℕ → Type 0) (code : List Instr) → 4 ≤ l.arguments → AreAdded named code → Fits names l 0 (put_all code) → templates_in l (function_instructions names l (put_all code)) ≡ plain_all names code
  code_plain named code four h f =
      store_skipped 31 (return_place l) (body_instructions names l 0 (put_all code)) (omega arith) ∙ body_plain named code four h 0 f
