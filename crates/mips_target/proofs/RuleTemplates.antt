-- The template of each rule of MIPS, by its action.
use Rattle.std.proofs.Common.{◌≡◌, ℕ, suc, ◌+◌, List, [], ◌∷◌, ◌++◌, true, codes, refl, sym, ap, ◌∙◌, arith}
use Rattle.std.specs.Prelude.{if◌then◌else◌, ◌==◌}
use Rattle.std.specs.List.{AllByRecursion}
use Rattle.lburg_model.specs.Pattern.{MPattern, PHole}
use Rattle.op_forest.specs.Nodes.{Node}
use Rattle.vcode.specs.RuleSets.{Row, Applies}
use Rattle.vcode.specs.Templates.{expanded, is_instruction}
use Rattle.frame_rules.specs.declared.action.Action.{Action}
use Rattle.frame_rules.specs.declared.action.Action.TheVariants as action
use Rattle.frame_code.specs.declared.arithmetic.Arithmetic.{Arithmetic}
use Rattle.frame_code.specs.declared.arithmetic.Arithmetic.TheVariants as arithmetic
use Rattle.frame_rules.specs.declared.part.Part.{Part}
use Rattle.frame_rules.specs.Rows.{Line, reg}
use Rattle.mips_rules.specs.MipsRows.{lines}
use Rattle.frame_rules.specs.FrameRules.{action_in}
use Rattle.mips_rules.specs.MipsRules.{mips_rules, action_at}
use Rattle.frame_rules.specs.AppliedRules.{at_row}
use Rattle.mips_target.proofs.SaidLines.{binary_text}

abbrev pub pass_template : MPattern → List ℕ
pass_template (PHole k) = if k == reg then codes "$%0" else codes "%0"
pass_template p = []

abbrev pub binary_template : Arithmetic → List ℕ
binary_template arithmetic.Add = codes "addu $%c,$%0,%1\\n"
binary_template arithmetic.Subtract = codes "subu $%c,$%0,%1\\n"
binary_template arithmetic.Multiply = codes "mul $%c,$%0,%1\\n"

abbrev pub template_by : Action → MPattern → List ℕ
template_by action.Discard p = codes ""
template_by action.Pass p = pass_template p
template_by action.TakeConstant p = codes "%a"
template_by action.TakeName p = codes "%a"
template_by action.LoadConstant p = codes "li $%c,%0\\n"
template_by (action.Combine op) p = binary_template op
template_by action.Negate p = codes "negu $%c,$%0\\n"
template_by action.Call p = codes "jal %0\\n"
template_by action.HandOver p = codes ""
template_by action.Return p = codes ""

abbrev HasTemplate : Line → Type 0
HasTemplate l = l.row.template ≡ template_by l.action l.row.pattern

all_templates : AllByRecursion HasTemplate lines
all_templates = (refl, (refl, (refl, (refl, (refl, (refl, (refl, (refl, (refl, (refl, (refl, (refl, (refl, tt)))))))))))))

pub template_is : (number : ℕ) (row : Row) (t : Node) (ps : List Part) (to : ℕ) → Applies mips_rules number row t ps to → row.template ≡ template_by (action_at number) row.pattern
template_is number row t ps to a =
    let found = at_row HasTemplate lines a.place row all_templates a.row_is in
    let l = found.0 in
    let e : number ≡ a.place + 1 = a.number_is in
    let f : number ≡ suc a.place = omega (arith, e) in
    let at : action_at number ≡ l.action = ap action_at f ∙ ap action_in found.1 in
    sym (ap (λ (x : Row). x.template) found.2) ∙ found.3 ∙ ap (λ d. template_by d l.row.pattern) (sym at) ∙ ap (λ (x : Row). template_by (action_at number) x.pattern) found.2

pub binary_ends : (op : Arithmetic) → is_instruction (binary_template op) ≡ true
binary_ends arithmetic.Add = refl
binary_ends arithmetic.Subtract = refl
binary_ends arithmetic.Multiply = refl

-- an operation's line, with these texts of its parts
pub binary_expanded : (op : Arithmetic) (register symbol frame x y : List ℕ) → expanded (record { register = register; symbol = symbol; frame = frame; parts = x ∷ y ∷ [] }) (binary_template op) ≡ binary_text op ++ (codes " $" ++ (register ++ (codes ",$" ++ (x ++ (44 ∷ (y ++ 10 ∷ []))))))
binary_expanded arithmetic.Add register symbol frame x y = refl
binary_expanded arithmetic.Subtract register symbol frame x y = refl
binary_expanded arithmetic.Multiply register symbol frame x y = refl
