-- The lines of code, from a place on.
use Rattle.std.proofs.Common.{◌≡◌, ℕ, suc, ◌+◌, ◌*◌, ◌<◌, ◌≤◌, min, List, [], ◌∷◌, ◌++◌, length, get_or, drop, refl, sym, ap, ◌∙◌, subst, arith}
use Rattle.std.proofs.lemmas.List.{drop_more, drop_all, map-append}
use Rattle.asm_lines.specs.declared.instruction.Instruction.TheVariants.{Load, Call, Move}
use Rattle.asm_lines.specs.declared.operator.LoadOp.TheVariants as load
use Rattle.asm_lines.specs.declared.instruction.Target.TheVariants as target
use Rattle.asm_lines.specs.Statements.{MStatement, Does}
use Rattle.asm_text.specs.Lines.{MLine}
use Rattle.asm_text.specs.Program.{MInstruction}
use Rattle.frame_code.specs.declared.instr.Instr.{Instr}
use Rattle.mips_target.specs.declared.layout.Layout.{Layout}
use Rattle.unit_text.specs.Items.{CodeItem}
use Rattle.mips_target.specs.FunctionCode.{in_frame, epilogue, loads_of, call_of, handed_behind, unmarked, code_of_one, body_of}
use Rattle.mips_target.specs.Sizes.{FitsOne, Fits}
use Rattle.unit_text.specs.UnitLines.{plain, numbered, label_text, item_of, code_lines}
use Rattle.unit_text.proofs.lemmas.Numbering.{added}
use Rattle.mips_target.proofs.Unmarked.{unmarked_append}

-- the lines of code, behind the lines of other code
pub code_added : (before lines new : List MLine) (xs ys : List (CodeItem MInstruction)) → lines ≡ before ++ numbered (length before + 1) (code_lines label_text xs) → new ≡ lines ++ numbered (length lines + 1) (code_lines label_text ys) → new ≡ before ++ numbered (length before + 1) (code_lines label_text (xs ++ ys))
code_added before lines new xs ys e f =
    f
    ∙ added before lines (code_lines label_text xs) (code_lines label_text ys) e
    ∙ ap (λ items. before ++ numbered (length before + 1) items) (sym (map-append (item_of label_text) xs ys))

-- one more argument word is loaded
pub loaded : (before lines new : List MLine) (k : ℕ) (s : MStatement) → s ≡ Does (Load load.Word (4 + k) (in_frame (4 * k))) → lines ≡ before ++ numbered (length before + 1) (code_lines label_text (unmarked (loads_of k))) → new ≡ lines ++ numbered (length lines + 1) (plain s ∷ []) → new ≡ before ++ numbered (length before + 1) (code_lines label_text (unmarked (loads_of (k + 1))))
loaded before lines new k s is e f =
    let more : suc k ≡ k + 1 = omega arith in
    let i : MInstruction = Load load.Word (4 + k) (in_frame (4 * k)) in
    code_added before lines new (unmarked (loads_of k)) (unmarked (i ∷ [])) e (f ∙ ap (λ x. lines ++ numbered (length lines + 1) (plain x ∷ [])) is)
    ∙ ap (λ is. before ++ numbered (length before + 1) (code_lines label_text is)) (sym (unmarked_append (loads_of k) (i ∷ [])) ∙ ap (λ n. unmarked (loads_of n)) more)

-- the call comes behind its argument words
pub called : (names : List (List ℕ)) (k word to name : ℕ) (call move : MStatement) (before lines behind new : List MLine) → word ≡ min k 4 → call ≡ Does (Call (target.Label (get_or names name []))) → move ≡ Does (Move to 2) → lines ≡ before ++ numbered (length before + 1) (code_lines label_text (unmarked (loads_of word))) → behind ≡ lines ++ numbered (length lines + 1) (plain call ∷ []) → new ≡ behind ++ numbered (length behind + 1) (plain move ∷ []) → new ≡ before ++ numbered (length before + 1) (code_lines label_text (unmarked (call_of names k to name)))
called names k word to name call move before lines behind new e c m loads calls moves =
    let calling : MInstruction = Call (target.Label (get_or names name [])) in
    let moving : MInstruction = Move to 2 in
    let both = code_added lines behind new (unmarked (calling ∷ [])) (unmarked (moving ∷ [])) (calls ∙ ap (λ x. lines ++ numbered (length lines + 1) (plain x ∷ [])) c) (moves ∙ ap (λ x. behind ++ numbered (length behind + 1) (plain x ∷ [])) m) in
    code_added before lines new (unmarked (loads_of word)) (unmarked (calling ∷ moving ∷ [])) loads both
    ∙ ap (λ is. before ++ numbered (length before + 1) (code_lines label_text is)) (sym (unmarked_append (loads_of word) (calling ∷ moving ∷ [])) ∙ ap (λ n. unmarked (loads_of n ++ calling ∷ moving ∷ [])) e)

-- code, and what is added behind it
pub code_before : (before lines : List MLine) (xs ys : List (CodeItem MInstruction)) → lines ≡ before ++ numbered (length before + 1) (code_lines label_text xs) → lines ++ numbered (length lines + 1) (code_lines label_text ys) ≡ before ++ numbered (length before + 1) (code_lines label_text (xs ++ ys))
code_before before lines xs ys e = code_added before lines (lines ++ numbered (length lines + 1) (code_lines label_text ys)) xs ys e refl

-- an instruction is passed
pub body_at : (names : List (List ℕ)) (l : Layout) (k : ℕ) (code : List Instr) (n : ℕ) (d : Instr) (lines new all : List MLine) → n < length code → new ≡ lines ++ numbered (length lines + 1) (code_lines label_text (code_of_one names l k (get_or code n d))) → lines ++ numbered (length lines + 1) (code_lines label_text (body_of names l k (drop n code))) ≡ all → new ++ numbered (length new + 1) (code_lines label_text (body_of names l (handed_behind k (get_or code n d)) (drop (n + 1) code))) ≡ all
body_at names l k code n d lines new all lt pushed e =
    let rest = body_of names l (handed_behind k (get_or code n d)) (drop (n + 1) code) in
    code_before lines new (code_of_one names l k (get_or code n d)) rest pushed
    ∙ ap (λ is. lines ++ numbered (length lines + 1) (code_lines label_text (body_of names l k is))) (sym (drop_more code n d lt))
    ∙ e

-- at the end
pub body_end : (names : List (List ℕ)) (l : Layout) (k : ℕ) (code : List Instr) (n : ℕ) (lines new all : List MLine) → length code ≤ n → new ≡ lines ++ numbered (length lines + 1) (code_lines label_text (unmarked (epilogue l))) → lines ++ numbered (length lines + 1) (code_lines label_text (body_of names l k (drop n code))) ≡ all → new ≡ all
body_end names l k code n lines new all long pushed e =
    pushed ∙ ap (λ is. lines ++ numbered (length lines + 1) (code_lines label_text (body_of names l k is))) (sym (drop_all n code long)) ∙ e

pub fits_at : (names : List (List ℕ)) (l : Layout) (k : ℕ) (code : List Instr) (n : ℕ) (d : Instr) → n < length code → Fits names l k (drop n code) → FitsOne names l k (get_or code n d) × Fits names l (handed_behind k (get_or code n d)) (drop (n + 1) code)
fits_at names l k code n d lt h = subst (Fits names l k) (drop_more code n d lt) h
