-- The instructions of a function's code, which has no label so far.
use Rattle.std.proofs.Common.{◌≡◌, ℕ, List, [], ◌∷◌, ◌++◌, refl, sym, ap, ◌∙◌}
use Rattle.std.proofs.lemmas.List.{map-append}
use Rattle.asm_text.specs.Program.{MInstruction}
use Rattle.frame_code.specs.declared.instr.Instr.{Instr}
use Rattle.mips_target.specs.declared.layout.Layout.{Layout}
use Rattle.unit_text.specs.Items.{Line, lines_in}
use Rattle.mips_target.specs.FunctionCode.{prologue, epilogue, instructions_of, handed_behind, unmarked, body_of, function_code}

abbrev pub body_instructions : List (List ℕ) → Layout → ℕ → List Instr → List MInstruction
body_instructions names l k [] = epilogue l
body_instructions names l k (i ∷ is) = instructions_of names l k i ++ body_instructions names l (handed_behind k i) is

abbrev pub function_instructions : List (List ℕ) → Layout → List Instr → List MInstruction
function_instructions names l code = prologue l ++ body_instructions names l 0 code

-- instructions one behind the other, as items
pub unmarked_append : (xs ys : List MInstruction) → unmarked (xs ++ ys) ≡ unmarked xs ++ unmarked ys
unmarked_append xs ys = map-append (λ (i : MInstruction). Line i) xs ys

body_unmarked : (names : List (List ℕ)) (l : Layout) (k : ℕ) (code : List Instr) → body_of names l k code ≡ unmarked (body_instructions names l k code)
body_unmarked names l k [] = refl
body_unmarked names l k (i ∷ is) =
    ap (λ x. unmarked (instructions_of names l k i) ++ x) (body_unmarked names l (handed_behind k i) is) ∙ sym (unmarked_append (instructions_of names l k i) (body_instructions names l (handed_behind k i) is))

pub function_unmarked : (names : List (List ℕ)) (l : Layout) (code : List Instr) → function_code names l code ≡ unmarked (function_instructions names l code)
function_unmarked names l code = ap (λ x. unmarked (prologue l) ++ x) (body_unmarked names l 0 code) ∙ sym (unmarked_append (prologue l) (body_instructions names l 0 code))

pub lines_unmarked : (is : List MInstruction) → lines_in (unmarked is) ≡ is
lines_unmarked [] = refl
lines_unmarked (i ∷ is) = ap (λ x. i ∷ x) (lines_unmarked is)

-- the instructions of a function's code
pub function_lines : (names : List (List ℕ)) (l : Layout) (code : List Instr) → lines_in (function_code names l code) ≡ function_instructions names l code
function_lines names l code = ap lines_in (function_unmarked names l code) ∙ lines_unmarked (function_instructions names l code)
