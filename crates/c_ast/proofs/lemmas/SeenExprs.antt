-- The trees of expressions, one layer at a time, as contracts speak of them.
use Rattle.std.proofs.Common.{◌≡◌, ℕ, map, ap}
use Rattle.c_ast.specs.declared.expr.Expr.{Expr, out-Expr}
use Rattle.c_ast.specs.declared.expr.ExprForm.TheVariants as expr_form
use Rattle.c_ast.specs.Trees.{ExprTree, Name, Integer, Character, Text, Enclosed, Index, Call, Member, Postfix, Prefix, SizeofExpr, SizeofType, Cast, Binary, Conditional, Assign, Comma}
use Rattle.c_ast.specs.Views.{exprs_of}
use Rattle.c_ast.proofs.lemmas.Layers.{expr_is, is_name, is_integer, is_character, is_text, is_enclosed, is_index, is_call, is_selected, is_postfix, is_prefix, is_sizeof_expr, is_sizeof_type, is_cast, is_binary, is_conditional, is_assign, is_comma}
use Rattle.c_ast.specs.Seen.{expr_seen, expr_form_seen, type_name_seen}

pub expr_parts : (v : Expr) → expr_seen v ≡ expr_form_seen (out-Expr v).form (out-Expr v).line
unfolding expr_seen expr_form_seen
expr_parts v = expr_is v

pub form_name : (n : _) (line : ℕ) → expr_form_seen (expr_form.Name n) line ≡ Name line n
unfolding expr_seen expr_form_seen type_name_seen
form_name n line = ap (λ (g : ℕ → ExprTree). g line) (is_name n)

pub form_integer : (v : _) (k : _) (line : ℕ) → expr_form_seen (expr_form.Integer v k) line ≡ Integer line v k
unfolding expr_seen expr_form_seen type_name_seen
form_integer v k line = ap (λ (g : ℕ → ExprTree). g line) (is_integer v k)

pub form_character : (v : _) (line : ℕ) → expr_form_seen (expr_form.Character v) line ≡ Character line v
unfolding expr_seen expr_form_seen type_name_seen
form_character v line = ap (λ (g : ℕ → ExprTree). g line) (is_character v)

pub form_text : (bs : _) (line : ℕ) → expr_form_seen (expr_form.Text bs) line ≡ Text line bs
unfolding expr_seen expr_form_seen type_name_seen
form_text bs line = ap (λ (g : ℕ → ExprTree). g line) (is_text bs)

pub form_enclosed : (a : _) (line : ℕ) → expr_form_seen (expr_form.Enclosed a) line ≡ Enclosed line (expr_seen a.value)
unfolding expr_seen expr_form_seen type_name_seen
form_enclosed a line = ap (λ (g : ℕ → ExprTree). g line) (is_enclosed a)

pub form_index : (a : _) (i : _) (line : ℕ) → expr_form_seen (expr_form.Index a i) line ≡ Index line (expr_seen a.value) (expr_seen i.value)
unfolding expr_seen expr_form_seen type_name_seen
form_index a i line = ap (λ (g : ℕ → ExprTree). g line) (is_index a i)

pub form_call : (f : _) (es : _) (line : ℕ) → expr_form_seen (expr_form.Call f es) line ≡ Call line (expr_seen f.value) (exprs_of (map expr_seen es.value))
unfolding expr_seen expr_form_seen type_name_seen
form_call f es line = ap (λ (g : ℕ → ExprTree). g line) (is_call f es)

pub form_selected : (op : _) (a : _) (n : _) (line : ℕ) → expr_form_seen (expr_form.Member op a n) line ≡ Member line op (expr_seen a.value) n.value
unfolding expr_seen expr_form_seen type_name_seen
form_selected op a n line = ap (λ (g : ℕ → ExprTree). g line) (is_selected op a n)

pub form_postfix : (op : _) (a : _) (line : ℕ) → expr_form_seen (expr_form.Postfix op a) line ≡ Postfix line op (expr_seen a.value)
unfolding expr_seen expr_form_seen type_name_seen
form_postfix op a line = ap (λ (g : ℕ → ExprTree). g line) (is_postfix op a)

pub form_prefix : (op : _) (a : _) (line : ℕ) → expr_form_seen (expr_form.Prefix op a) line ≡ Prefix line op (expr_seen a.value)
unfolding expr_seen expr_form_seen type_name_seen
form_prefix op a line = ap (λ (g : ℕ → ExprTree). g line) (is_prefix op a)

pub form_sizeof_expr : (a : _) (line : ℕ) → expr_form_seen (expr_form.SizeofExpr a) line ≡ SizeofExpr line (expr_seen a.value)
unfolding expr_seen expr_form_seen type_name_seen
form_sizeof_expr a line = ap (λ (g : ℕ → ExprTree). g line) (is_sizeof_expr a)

pub form_sizeof_type : (t : _) (line : ℕ) → expr_form_seen (expr_form.SizeofType t) line ≡ SizeofType line (type_name_seen t.value)
unfolding expr_seen expr_form_seen type_name_seen
form_sizeof_type t line = ap (λ (g : ℕ → ExprTree). g line) (is_sizeof_type t)

pub form_cast : (t : _) (a : _) (line : ℕ) → expr_form_seen (expr_form.Cast t a) line ≡ Cast line (type_name_seen t.value) (expr_seen a.value)
unfolding expr_seen expr_form_seen type_name_seen
form_cast t a line = ap (λ (g : ℕ → ExprTree). g line) (is_cast t a)

pub form_binary : (op : _) (a : _) (b : _) (line : ℕ) → expr_form_seen (expr_form.Binary op a b) line ≡ Binary line op (expr_seen a.value) (expr_seen b.value)
unfolding expr_seen expr_form_seen type_name_seen
form_binary op a b line = ap (λ (g : ℕ → ExprTree). g line) (is_binary op a b)

pub form_conditional : (a : _) (b : _) (c : _) (line : ℕ) → expr_form_seen (expr_form.Conditional a b c) line ≡ Conditional line (expr_seen a.value) (expr_seen b.value) (expr_seen c.value)
unfolding expr_seen expr_form_seen type_name_seen
form_conditional a b c line = ap (λ (g : ℕ → ExprTree). g line) (is_conditional a b c)

pub form_assign : (op : _) (a : _) (b : _) (line : ℕ) → expr_form_seen (expr_form.Assign op a b) line ≡ Assign line op (expr_seen a.value) (expr_seen b.value)
unfolding expr_seen expr_form_seen type_name_seen
form_assign op a b line = ap (λ (g : ℕ → ExprTree). g line) (is_assign op a b)

pub form_comma : (es : _) (line : ℕ) → expr_form_seen (expr_form.Comma es) line ≡ Comma line (exprs_of (map expr_seen es))
unfolding expr_seen expr_form_seen type_name_seen
form_comma es line = ap (λ (g : ℕ → ExprTree). g line) (is_comma es)

pub ruleset expr_forms = (expr_parts, form_name, form_integer, form_character, form_text, form_enclosed, form_index, form_call, form_selected, form_postfix, form_prefix, form_sizeof_expr, form_sizeof_type, form_cast, form_binary, form_conditional, form_assign, form_comma)
