-- Nodes with one operand that give a value: what is told of them, and what they become.
use Rattle.std.proofs.Common.{◌≡◌, ℕ, Bool, true, false, [], ◌∷◌, refl, sym, ap, ◌∙◌, subst}
use Rattle.std.specs.Prelude.{Some, None, if◌then◌else◌}
use Rattle.objects.specs.declared.operators.Unary.{Unary}
use Rattle.objects.specs.declared.operators.Unary.TheVariants as unary
use Rattle.c_ast.specs.declared.operator.PrefixOperator.TheVariants as prefix
use Rattle.c_types.specs.CType.{CType, Plain, Simple, Enumeration, basic, Int, Unsigned}
use Rattle.c_types.specs.Conversions.{is_integer, promoted}
use Rattle.c_types.specs.Layout.{extent}
use Rattle.c_meaning.specs.Constraints.{Breaks, constraints, fault_at, first_broken, some_deep, types_formed}
use Rattle.c_meaning.specs.declared.core_expr.CoreKind.TheVariants as kind
use Rattle.c_meaning.specs.CoreTrees.{CoreOf, Core, seen, type_of, one}
use Rattle.c_meaning.specs.Nodes.{Expression}
use Rattle.c_meaning.specs.Nodes as node
use Rattle.c_meaning.specs.Rows.{row, number, unary_by}
use Rattle.c_meaning.specs.State.{State}
use Rattle.c_meaning.specs.Typing.{Fine, Bad, at_expr}
use Rattle.c_meaning.specs.Types.{is_scalar}
use Rattle.c_meaning.specs.Values.{CoreTree, is_bit_field, is_narrow, promoted_type, read_width, value, value_type}
use Rattle.c_meaning.specs.ExprConstraints.{is_bad_cast}
use Rattle.c_values.specs.TooDeep.{IsTooDeep}
use Rattle.c_check_expr.specs.AtNode.{Tells}
use Rattle.c_check_expr.specs.Operators.{prefix_of}
use Rattle.c_values.specs.declared.check_fault.CheckFault.{CheckFault}
use Rattle.c_check_expr.proofs.NodeLimits.{AreShallow, AreSmall, IsShallow, IsSmall, basic_small, node_broken, node_fine, none_passed, unqualified_shallow, unqualified_small, value_small}
use Rattle.c_check_expr.proofs.RowTypes.{promoted_small}
use Rattle.c_values.specs.Stays.{type_seen}
use Rattle.c_check_expr.proofs.TableLimits.{deep_told}

-- ---- sizes

pub size_none : (s : State) (line : ℕ) (t : CType) → None ≡ (extent s.tags t).size → at_expr s line (node.SizeofType t) ≡ Bad (Breaks 38 line)
size_none s line t e = node_broken s line 38 (node.SizeofType t) (rw (← e) refl)

pub size_some : (s : State) (line n : ℕ) (t : CType) → Some n ≡ (extent s.tags t).size → at_expr s line (node.SizeofType t) ≡ Fine s (number (basic Unsigned) line n)
size_some s line n t e =
    let none : first_broken constraints s (Expression (node.SizeofType t)) ≡ None = rw (← e) refl in
    node_fine s line (node.SizeofType t) none refl ∙ (rw (← e) refl)

pub field_size : (s : State) (line : ℕ) (a : CoreTree) → is_bit_field a ≡ true → at_expr s line (node.SizeofExpr a) ≡ Bad (Breaks 38 line)
field_size s line a e = node_broken s line 38 (node.SizeofExpr a) (rw e refl)

-- that of an expression is that of its type
pub size_of_type : (s : State) (line : ℕ) (known : ℕ → CType) (a : CoreOf ℕ) (of : ℕ) → type_of a ≡ of → is_bit_field (seen known a) ≡ false → at_expr s line (node.SizeofExpr (seen known a)) ≡ at_expr s line (node.SizeofType (known of))
unfolding fault_at
size_of_type s line known a of e f = rw (f, type_seen known a, e) refl

-- ---- casts

no_cast : (s : State) (to : CType) (a : CoreTree) → is_bad_cast s (node.Cast to a) ≡ false → first_broken constraints s (Expression (node.Cast to a)) ≡ None
no_cast s to a b = rw b refl

pub cast_broken : (s : State) (line : ℕ) (to : CType) (a : CoreTree) → is_bad_cast s (node.Cast to a) ≡ true → at_expr s line (node.Cast to a) ≡ Bad (Breaks 39 line)
cast_broken s line to a b = node_broken s line 39 (node.Cast to a) (rw b refl)

pub cast_deep : (s : State) (line : ℕ) (to : CType) (a : CoreTree) (e : CheckFault) → is_bad_cast s (node.Cast to a) ≡ false → IsSmall s.tags to → IsSmall s.tags (type_of a) → IsTooDeep e line (value_type a) → Tells e (at_expr s line (node.Cast to a))
cast_deep s line to a e b m n d =
    deep_told s line (node.Cast to a) e (value_type a) d (no_cast s to a b)
    (value_small s.tags a n, (unqualified_small s.tags to m, tt))
    (λ f. rw f refl)

pub cast_fine : (s : State) (line : ℕ) (to : CType) (a : CoreTree) → is_bad_cast s (node.Cast to a) ≡ false → IsSmall s.tags to → IsShallow to → IsSmall s.tags (type_of a) → IsShallow (value_type a) → at_expr s line (node.Cast to a) ≡ Fine s (row s line (node.Cast to a))
cast_fine s line to a b m d n v =
    node_fine s line (node.Cast to a) (no_cast s to a b)
    (none_passed s line (node.Cast to a) (value_small s.tags a n, (unqualified_small s.tags to m, tt)) (v, (unqualified_shallow to d, tt)) refl)

-- ---- promoted types

promoted_shallow : (t : CType) → IsShallow t → IsShallow (promoted t)
promoted_shallow (Plain q (Simple b)) h = refl
promoted_shallow (Plain q (Enumeration n)) h = refl
promoted_shallow t h = h

chosen_shallow : (b : Bool) (t : CType) → IsShallow t → IsShallow (if b then basic Int else promoted t)
chosen_shallow true t h = refl
chosen_shallow false t h = promoted_shallow t h

pub promotion_shallow : (v : CoreTree) → IsShallow (type_of v) → IsShallow (promoted_type v)
promotion_shallow v h = chosen_shallow (is_narrow (read_width v)) (type_of v) h

-- ---- signs and complements

sign_refused : (s : State) (op : Unary) (a : CoreTree) → is_integer (value_type a) ≡ false → first_broken constraints s (Expression (node.Prefix (prefix_of op) a)) ≡ Some 37
sign_refused s unary.Plus a b = rw b refl
sign_refused s unary.Negate a b = rw b refl
sign_refused s unary.Complement a b = rw b refl

sign_passes : (s : State) (op : Unary) (a : CoreTree) → is_integer (value_type a) ≡ true → first_broken constraints s (Expression (node.Prefix (prefix_of op) a)) ≡ None
sign_passes s unary.Plus a b = rw b refl
sign_passes s unary.Negate a b = rw b refl
sign_passes s unary.Complement a b = rw b refl

sign_row : (s : State) (line : ℕ) (op : Unary) (a : CoreTree) → row s line (node.Prefix (prefix_of op) a) ≡ unary_by op line (value a)
sign_row s line unary.Plus a = refl
sign_row s line unary.Negate a = refl
sign_row s line unary.Complement a = refl

sign_types : (s : State) (line : ℕ) (op : Unary) (a : CoreTree) → types_formed s line (Expression (node.Prefix (prefix_of op) a)) ≡ value_type a ∷ promoted_type (value a) ∷ []
sign_types s line op a = rw (sign_row s line op a) refl

pub sign_broken : (s : State) (line : ℕ) (op : Unary) (a : CoreTree) → is_integer (value_type a) ≡ false → at_expr s line (node.Prefix (prefix_of op) a) ≡ Bad (Breaks 37 line)
sign_broken s line op a b = node_broken s line 37 (node.Prefix (prefix_of op) a) (sign_refused s op a b)

pub sign_deep : (s : State) (line : ℕ) (op : Unary) (a : CoreTree) (e : CheckFault) → is_integer (value_type a) ≡ true → IsSmall s.tags (type_of a) → IsTooDeep e line (value_type a) → Tells e (at_expr s line (node.Prefix (prefix_of op) a))
sign_deep s line op a e b n d =
    let v = value_small s.tags a n in
    deep_told s line (node.Prefix (prefix_of op) a) e (value_type a) d (sign_passes s op a b)
    (subst (AreSmall s.tags) (sym (sign_types s line op a)) (v, (promoted_small s.tags (value a) v, tt)))
    (λ f. ap some_deep (sign_types s line op a) ∙ (rw f refl))

pub sign_fine : (s : State) (line : ℕ) (op : Unary) (a : CoreTree) → is_integer (value_type a) ≡ true → IsSmall s.tags (type_of a) → IsShallow (value_type a) → at_expr s line (node.Prefix (prefix_of op) a) ≡ Fine s (unary_by op line (value a))
sign_fine s line op a b n d =
    let v = value_small s.tags a n in
    node_fine s line (node.Prefix (prefix_of op) a) (sign_passes s op a b)
    (none_passed s line (node.Prefix (prefix_of op) a)
    (subst (AreSmall s.tags) (sym (sign_types s line op a)) (v, (promoted_small s.tags (value a) v, tt)))
    (subst AreShallow (sym (sign_types s line op a)) (d, (promotion_shallow (value a) d, tt))) refl)
    ∙ ap (Fine s) (sign_row s line op a)

-- ---- `!`

not_passes : (s : State) (a : CoreTree) → is_scalar (value_type a) ≡ true → first_broken constraints s (Expression (node.Prefix prefix.Not a)) ≡ None
not_passes s a b = rw b refl

pub not_broken : (s : State) (line : ℕ) (a : CoreTree) → is_scalar (value_type a) ≡ false → at_expr s line (node.Prefix prefix.Not a) ≡ Bad (Breaks 37 line)
not_broken s line a b = node_broken s line 37 (node.Prefix prefix.Not a) (rw b refl)

pub not_deep : (s : State) (line : ℕ) (a : CoreTree) (e : CheckFault) → is_scalar (value_type a) ≡ true → IsSmall s.tags (type_of a) → IsTooDeep e line (value_type a) → Tells e (at_expr s line (node.Prefix prefix.Not a))
not_deep s line a e b n d =
    deep_told s line (node.Prefix prefix.Not a) e (value_type a) d (not_passes s a b)
    (value_small s.tags a n, (basic_small s.tags 0 Int, tt))
    (λ f. rw f refl)

pub not_fine : (s : State) (line : ℕ) (a : CoreTree) → is_scalar (value_type a) ≡ true → IsSmall s.tags (type_of a) → IsShallow (value_type a) → at_expr s line (node.Prefix prefix.Not a) ≡ Fine s (Core kind.Not (basic Int) line (one (value a)))
not_fine s line a b n d =
    node_fine s line (node.Prefix prefix.Not a) (not_passes s a b)
    (none_passed s line (node.Prefix prefix.Not a) (value_small s.tags a n, (basic_small s.tags 0 Int, tt)) (d, (refl, tt)) refl)
