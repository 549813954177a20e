-- What a block answers for a template, by what it answers for a part that was asked for before.
use Rattle.std.specs.Prelude.{◌≡◌, ℕ, List, []}
use Rattle.std.proofs.Common.{refl, sym, ap, ◌∙◌}
use Rattle.op_forest.specs.declared.op.Op.TheVariants as op
use Rattle.op_forest.specs.declared.suffix.Suffix.{Suffix}
use Rattle.op_forest.specs.declared.suffix.Suffix.TheVariants.{C, S, I, U, P, B, V}
use Rattle.op_forest.specs.Nodes.{Head}
use Rattle.dag_forest.specs.declared.entry.Entry.{Entry}
use Rattle.c_rows_agree.specs.Templates.{Template, Given, Leaf, One, Two}
use Rattle.c_rows_agree.specs.Typed.{Typed, head, as_i_from, as_p_from}
use Rattle.lowered_forms.specs.Asked.{Asked, asked, asked_over, asked_both, asked_then, root_over, root_both, root_then, rooted, rooted_one}
use Rattle.lowered_forms.specs.Lows.{Low}
use Rattle.lowered_forms.specs.Values.{Lowered, placed_tree}
use Rattle.lowering_steps.specs.declared.operand.Operand.{Operand}
use Rattle.lowering_steps.specs.Asking.{answer, Places}
use Rattle.lowering_steps.specs.Operands.{template_of}

-- ---- a template that is placed

-- a block is asked for what it comes to
abbrev asked_of : Lowered → Asked
asked_of r = asked r.value.tree r.low.entries

placed_asked : (s : Suffix) (t : Template) (l : Low) → asked t l.entries ≡ asked_of (placed_tree s t l)
placed_asked s (Given n) l = refl
placed_asked s (Leaf h) l = refl
placed_asked s (One h a) l = refl
placed_asked s (Two h a b) l = refl

placed_is : (s : Suffix) (t : Template) (l : Low) → (placed_tree s t l).value.suffix ≡ s
placed_is s (Given n) l = refl
placed_is s (Leaf h) l = refl
placed_is s (One h a) l = refl
placed_is s (Two h a b) l = refl

abbrev low_of : List Entry → Low
low_of es = record { pieces = []; entries = es; slots = []; labels = 0 }

pub placed_same : (es : List Entry) (t : Typed) (v : Operand) (fs : List Entry) → Places es t v fs → asked t.tree es ≡ asked (template_of v) fs
placed_same es t v fs p = placed_asked t.suffix t.tree (low_of es) ∙ ap asked_of (p.is (low_of es) refl)

pub placed_suffix : (es : List Entry) (t : Typed) (v : Operand) (fs : List Entry) → Places es t v fs → t.suffix ≡ v.suffix
placed_suffix es t v fs p = sym (placed_is t.suffix t.tree (low_of es)) ∙ ap (λ (r : Lowered). r.value.suffix) (p.is (low_of es) refl)

-- ---- over what is asked for

pub same_i : (s : Suffix) (t u : Template) (es fs : List Entry) → asked t es ≡ asked u fs → asked (as_i_from s t) es ≡ asked (as_i_from s u) fs
same_i C t u es fs e = e
same_i S t u es fs e = e
same_i I t u es fs e = e
same_i U t u es fs e = ap (asked_over (head op.Cvu I)) e
same_i P t u es fs e = ap (λ a. asked_over (head op.Cvu I) (asked_over (head op.Cvp U) a)) e
same_i B t u es fs e = e
same_i V t u es fs e = e

pub same_p : (s : Suffix) (t u : Template) (es fs : List Entry) → asked t es ≡ asked u fs → asked (as_p_from s t) es ≡ asked (as_p_from s u) fs
same_p C t u es fs e = e
same_p S t u es fs e = e
same_p I t u es fs e = ap (λ a. asked_over (head op.Cvu P) (asked_over (head op.Cvi U) a)) e
same_p U t u es fs e = ap (asked_over (head op.Cvu P)) e
same_p P t u es fs e = e
same_p B t u es fs e = e
same_p V t u es fs e = e

pub same_one : (h : Head) (t u : Template) (es fs : List Entry) → asked t es ≡ asked u fs → asked (One h t) es ≡ asked (One h u) fs
same_one h t u es fs e = ap (asked_over h) e

pub same_left : (h : Head) (t u r : Template) (es fs : List Entry) → asked t es ≡ asked u fs → asked (Two h t r) es ≡ asked (Two h u r) fs
same_left h t u r es fs e = ap (λ a. asked_then a (λ x. asked r x) h) e

-- the left operand was asked for first
pub same_right : (h : Head) (t r q : Template) (n : ℕ) (es fs gs : List Entry) → asked t es ≡ answer n fs → asked r fs ≡ asked q gs → asked (Two h t r) es ≡ asked (Two h (Given n) q) gs
same_right h t r q n es fs gs e d = ap (λ a. asked_then a (λ x. asked r x) h) e ∙ ap (asked_both h n) d

-- ---- roots

pub root_left : (h : Head) (t u r : Template) (es fs : List Entry) → asked t es ≡ asked u fs → rooted (record { head = h; left = t; right = r }) es ≡ rooted (record { head = h; left = u; right = r }) fs
root_left h t u r es fs e = ap (λ a. root_then a (λ x. asked r x) h) e

pub root_right : (h : Head) (t r q : Template) (n : ℕ) (es fs gs : List Entry) → asked t es ≡ answer n fs → asked r fs ≡ asked q gs
    → rooted (record { head = h; left = t; right = r }) es ≡ rooted (record { head = h; left = Given n; right = q }) gs
root_right h t r q n es fs gs e d = ap (λ a. root_then a (λ x. asked r x) h) e ∙ ap (root_both h n) d

pub root_one : (h : Head) (t u : Template) (es fs : List Entry) → asked t es ≡ asked u fs → rooted_one h t es ≡ rooted_one h u fs
root_one h t u es fs e = ap (root_over h) e
