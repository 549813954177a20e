-- Generated lines make a program: each function's name is a label of its own, and each name that is called is one of
-- them or a built-in function's.
use Rattle.std.proofs.Common.{◌≡◌, ℕ, ◌+◌, List, [], ◌∷◌, ◌++◌, map, get_or, refl, sym, ap, ◌∙◌, subst}
use Rattle.std.specs.List.{AllZip}
use Rattle.asm_lines.specs.Statements.{Text}
use Rattle.asm_text.specs.Addresses.{IsKnown}
use Rattle.asm_text.proofs.lemmas.CodeLines.{MakesCode, labels_from}
use Rattle.asm_text.specs.Lines.{MLine}
use Rattle.asm_text.specs.Makes.{Makes}
use Rattle.asm_text.specs.Program.{MInstruction, MLabel, MProgram}
use Rattle.op_forest.specs.declared.lowered.LoweredFunction.{LoweredFunction}
use Rattle.op_forest.specs.Lowered.{LoweredUnit, IsLowered}
use Rattle.frame_code.specs.declared.instr.Instr.{Instr}
use Rattle.frame_code.specs.declared.instr.Instr.TheVariants as instr
use Rattle.mips_target.specs.FunctionCode.{unmarked}
use Rattle.unit_text.specs.UnitLines.{Item, Coded, plain, code_lines, items_of, unit_lines}
use Rattle.mips_target.specs.Generated.{IsFunction, IsGenerated}
use Rattle.frame_code.specs.CalledNames.{CallIs, CallsAre}
use Rattle.unit_text.specs.Callable.{IsCallable, AreCallable}
use Rattle.mips_target.proofs.Speaking.{code_speaks}
use Rattle.unit_text.proofs.lemmas.Speaking.{CodeItemsSpeak, FunctionSpeaks, functions_speak}
use Rattle.unit_text.proofs.lemmas.Making.{label_name, item_labels, numbered_labels, name_in, function_labels, own_names_are, callable_known, IsFit, all_fit, AnyName, program_of, unit_makes as made_of, lines_make}
use Rattle.mips_target.proofs.Unmarked.{function_instructions, function_unmarked}

unmarked_labels : (labels : ℕ → List ℕ) (is : List MInstruction) (more : List Item) → item_labels (code_lines labels (unmarked is) ++ more) ≡ item_labels more
unmarked_labels labels [] more = refl
unmarked_labels labels (i ∷ is) more = unmarked_labels labels is more

-- a function of the unit has no label of its own so far
code_labels : (u : LoweredUnit) (f : LoweredFunction) (c : Coded) (more : List Item) → IsFunction u f c → item_labels (code_lines c.labels c.items ++ more) ≡ item_labels more
code_labels u f c more is =
    let i = is.code in
    ap (λ xs. item_labels (code_lines c.labels xs ++ more)) (i.made ∙ function_unmarked u.names i.layout i.allocated) ∙ unmarked_labels c.labels (function_instructions u.names i.layout i.allocated) more

call_weaker : (Q R : ℕ → Type 0) (i : Instr) → ((n : ℕ) → Q n → R n) → CallIs Q i → CallIs R i
call_weaker Q R (instr.LoadNumber to n) go h = tt
call_weaker Q R (instr.Binary op to from x) go h = tt
call_weaker Q R (instr.Negate to from) go h = tt
call_weaker Q R (instr.Argument from) go h = tt
call_weaker Q R (instr.Call to name) go h = go name h
call_weaker Q R (instr.Return from) go h = tt
call_weaker Q R (instr.Copy to from) go h = tt
call_weaker Q R (instr.LoadSlot to slot) go h = tt
call_weaker Q R (instr.StoreSlot from slot) go h = tt

calls_weaker : (Q R : ℕ → Type 0) (code : List Instr) → ((n : ℕ) → Q n → R n) → CallsAre Q code → CallsAre R code
calls_weaker Q R [] go h = tt
calls_weaker Q R (i ∷ is) go h = (call_weaker Q R i go h.0, calls_weaker Q R is go h.1)

function_knows : (u : LoweredUnit) (labels : List MLabel) → map label_name labels ≡ map (name_in u.names) u.functions → (f : LoweredFunction) (c : Coded) → IsFunction u f c → IsFit u f → FunctionSpeaks AnyName (IsKnown labels) c
function_knows u labels are f c is fit =
    let P : List ℕ → Type 0 = λ n. IsKnown labels n in
    let i = is.code in
    let own : P c.name = subst P (sym is.name) (callable_known u labels f.name are fit.0) in
    let known = calls_weaker (IsCallable u) (λ n. P (get_or u.names n [])) i.allocated (λ n h. callable_known u labels n are h) (i.calls fit.1) in
    let code = code_speaks AnyName P c.labels u.names i.layout i.allocated known in
    (tt, own, subst (CodeItemsSpeak AnyName P c.labels) (sym i.made) code)

-- ---- the program

unit_makes : (u : LoweredUnit) (cs : List Coded) → IsLowered u → AreCallable u → AllZip (IsFunction u) u.functions cs → MakesCode (unit_lines cs) (program_of (unit_lines cs))
unit_makes u cs lowered callable each =
    let labels = labels_from 0 (unit_lines cs) in
    let P : List ℕ → Type 0 = λ n. IsKnown labels n in
    let are : map label_name labels ≡ map (name_in u.names) u.functions = numbered_labels 0 1 (plain Text ∷ items_of cs) ∙ function_labels (IsFunction u) (code_labels u) u.functions cs each ∙ own_names_are (IsFunction u) u (λ f c is. is.name) u.functions cs each in
    made_of u cs lowered are (functions_speak (IsFunction u) AnyName P (IsFit u) u.functions cs each (all_fit u callable) (function_knows u labels are))

pub makes : (u : LoweredUnit) (lines : List MLine) → IsLowered u → AreCallable u → IsGenerated u lines → (p : MProgram) × Makes lines p
makes u lines lowered callable g = lines_make (IsFunction u) u lines g (unit_makes u g.functions lowered callable g.each)
