-- The names that generated code speaks of: a function speaks only of those that it calls.
use Rattle.std.proofs.Common.{ℕ, zero, suc, List, [], ◌∷◌, ◌++◌, min, get_or, sym, subst}
use Rattle.asm_text.specs.Names.{names_of_instruction}
use Rattle.asm_text.specs.Program.{MInstruction}
use Rattle.frame_code.specs.declared.instr.Instr.{Instr}
use Rattle.frame_code.specs.declared.instr.Instr.TheVariants as instr
use Rattle.mips_target.specs.declared.layout.Layout.{Layout}
use Rattle.mips_target.specs.FunctionCode.{loads_of, instructions_of, handed_behind, epilogue, unmarked, function_code}
use Rattle.mips_target.proofs.Unmarked.{body_instructions, function_instructions, function_unmarked}
use Rattle.frame_code.specs.CalledNames.{CallIs, CallsAre}
use Rattle.unit_text.proofs.lemmas.Speaking.{EachName, CodeItemsSpeak}

-- P holds of each name that the instructions speak of
abbrev pub CodeSpeaks : (List ℕ → Type 0) → List MInstruction → Type 0
CodeSpeaks P [] = Unit {0}
CodeSpeaks P (i ∷ is) = EachName P (names_of_instruction i) × CodeSpeaks P is

code_append : (P : List ℕ → Type 0) (xs ys : List MInstruction) → CodeSpeaks P xs → CodeSpeaks P ys → CodeSpeaks P (xs ++ ys)
code_append P [] ys a b = b
code_append P (x ∷ xs) ys a b = (a.0, code_append P xs ys a.1 b)

loads_speak : (P : List ℕ → Type 0) (k : ℕ) → CodeSpeaks P (loads_of k)
loads_speak P zero = tt
loads_speak P (suc k) = code_append P (loads_of k) _ (loads_speak P k) (tt, tt)

epilogue_speaks : (P : List ℕ → Type 0) (l : Layout) → CodeSpeaks P (epilogue l)
epilogue_speaks P l = (tt, (tt, (tt, tt)))

instruction_speaks : (P : List ℕ → Type 0) (names : List (List ℕ)) (l : Layout) (k : ℕ) (i : Instr) → CallIs (λ name. P (get_or names name [])) i → CodeSpeaks P (instructions_of names l k i)
instruction_speaks P names l k (instr.LoadNumber to n) h = (tt, tt)
instruction_speaks P names l k (instr.Binary op to from x) h = (tt, tt)
instruction_speaks P names l k (instr.Negate to from) h = (tt, tt)
instruction_speaks P names l k (instr.Argument from) h = (tt, tt)
instruction_speaks P names l k (instr.Call to name) h = code_append P (loads_of (min k 4)) _ (loads_speak P (min k 4)) ((h, tt), (tt, tt))
instruction_speaks P names l k (instr.Return from) h = (tt, epilogue_speaks P l)
instruction_speaks P names l k (instr.Copy to from) h = (tt, tt)
instruction_speaks P names l k (instr.LoadSlot to slot) h = (tt, tt)
instruction_speaks P names l k (instr.StoreSlot from slot) h = (tt, tt)

body_speaks : (P : List ℕ → Type 0) (names : List (List ℕ)) (l : Layout) (k : ℕ) (code : List Instr) → CallsAre (λ name. P (get_or names name [])) code → CodeSpeaks P (body_instructions names l k code)
body_speaks P names l k [] h = epilogue_speaks P l
body_speaks P names l k (i ∷ is) h =
    code_append P (instructions_of names l k i) (body_instructions names l (handed_behind k i) is) (instruction_speaks P names l k i h.0) (body_speaks P names l (handed_behind k i) is h.1)

pub function_speaks : (P : List ℕ → Type 0) (names : List (List ℕ)) (l : Layout) (code : List Instr) → CallsAre (λ name. P (get_or names name [])) code → CodeSpeaks P (function_instructions names l code)
function_speaks P names l code h = (tt, (tt, body_speaks P names l zero code h))

unmarked_speak : (L P : List ℕ → Type 0) (labels : ℕ → List ℕ) (is : List MInstruction) → CodeSpeaks P is → CodeItemsSpeak L P labels (unmarked is)
unmarked_speak L P labels [] h = tt
unmarked_speak L P labels (i ∷ is) h = (h.0, unmarked_speak L P labels is h.1)

pub code_speaks : (L P : List ℕ → Type 0) (labels : ℕ → List ℕ) (names : List (List ℕ)) (l : Layout) (code : List Instr) → CallsAre (λ name. P (get_or names name [])) code → CodeItemsSpeak L P labels (function_code names l code)
code_speaks L P labels names l code h = subst (CodeItemsSpeak L P labels) (sym (function_unmarked names l code)) (unmarked_speak L P labels (function_instructions names l code) (function_speaks P names l code h))
