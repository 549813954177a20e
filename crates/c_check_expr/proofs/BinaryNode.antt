-- Nodes of operators with two operands: which constraint they break first, and what they tell.
use Rattle.std.proofs.Common.{◌≡◌, ℕ, ◌<◌, Bool, true, false, List, [], ◌∷◌, length, refl, sym, ap, ◌∙◌, subst}
use Rattle.std.specs.Prelude.{None, Option, Some, not, ◌&&◌, ◌||◌, if◌then◌else◌}
use Rattle.c_ast.specs.declared.operator.BinaryOperator.{BinaryOperator}
use Rattle.c_types.specs.CType.{CType}
use Rattle.c_types.specs.Facts.{IsWithin}
use Rattle.c_types.specs.Layout.{Tag, known}
use Rattle.c_types.specs.Table.{Table, tags, type_at}
use Rattle.c_meaning.specs.Constants.{is_null}
use Rattle.c_meaning.specs.Constraints.{constraints, first_broken}
use Rattle.c_meaning.specs.CoreTrees.{CoreOf, Core, IsIn, seen, type_of}
use Rattle.c_meaning.specs.ExprConstraints.{are_integers, can_combine, can_compare, can_equal, can_test, cannot_move, targets_fit}
use Rattle.c_meaning.specs.Nodes.{Binary, Expression}
use Rattle.c_meaning.specs.Rows.{combined, row}
use Rattle.c_meaning.specs.State.{State}
use Rattle.c_meaning.specs.Types.{is_pointer, target}
use Rattle.c_meaning.specs.Typing.{Fine, at_expr}
use Rattle.c_meaning.specs.Values.{CoreTree, value, value_type}
use Rattle.c_values.specs.declared.check_fault.CheckFault.{CheckFault}
use Rattle.c_check_expr.specs.AtNode.{Tells}
use Rattle.c_check_expr.specs.SomeDeep.{AreTooDeep}
use Rattle.c_check_expr.proofs.NodeLimits.{IsSmall, value_small}
use Rattle.c_check_expr.proofs.NodeTells.{deep_more, node_becomes, node_deep, seen_shallow, seen_small}
use Rattle.c_check_expr.proofs.RowTypes.{combined_small}
use Rattle.c_values.specs.Stays.{type_seen}

-- the tests of a node, in the order of the constraints' numbers
pub binary_tests : (s : State) (ts : List Tag) (op : BinaryOperator) (a b : CoreTree) → s.tags ≡ ts → first_broken constraints s (Expression (Binary op a b)) ≡ (if not (can_combine op (value_type a) (value_type b)) then Some 40 else if cannot_move ts op (value_type a) (value_type b) then Some 41 else if not (can_compare ts op (value a) (value b)) then Some 42 else if not (can_test op (value_type a) (value_type b)) then Some 43 else None)
binary_tests s ts op a b h = subst (λ (us : List Tag). first_broken constraints s (Expression (Binary op a b)) ≡ (if not (can_combine op (value_type a) (value_type b)) then Some 40 else if cannot_move us op (value_type a) (value_type b) then Some 41 else if not (can_compare us op (value a) (value b)) then Some 42 else if not (can_test op (value_type a) (value_type b)) then Some 43 else None)) h refl

tests_none : (p q r t : Bool) → ◌≡◌ {A = Option ℕ} (if not p then Some 40 else if q then Some 41 else if not r then Some 42 else if not t then Some 43 else None) None → (p ≡ true) × (r ≡ true)
tests_none true false true true h = (refl, refl)
tests_none true false true false h = cc
tests_none true false false t h = cc
tests_none true true r t h = cc
tests_none false q r t h = cc

abbrev any_state : List Tag → State
any_state ts = record { outer = []; inner = []; links = []; symbols = []; tags = ts; count = 0 }

-- operands that break none are taken
pub binary_takes : (ts : List Tag) (op : BinaryOperator) (a b : CoreTree) → ((s : State) → s.tags ≡ ts → first_broken constraints s (Expression (Binary op a b)) ≡ None) → (can_combine op (value_type a) (value_type b) ≡ true) × (can_compare ts op (value a) (value b) ≡ true)
binary_takes ts op a b f = tests_none (can_combine op (value_type a) (value_type b)) (cannot_move ts op (value_type a) (value_type b)) (can_compare ts op (value a) (value b)) (can_test op (value_type a) (value_type b)) (sym (binary_tests (any_state ts) ts op a b refl) ∙ f (any_state ts) refl)

-- and so are their values
pub type_of_value : (known : ℕ → CType) (v : CoreOf ℕ) (a : CoreTree) → seen known v ≡ value a → known (type_of v) ≡ value_type a
type_of_value known v a e = sym (type_seen known v) ∙ ap (λ (x : CoreTree). type_of x) e

pub values_combine : (known : ℕ → CType) (op : BinaryOperator) (a b : CoreTree) (v w : CoreOf ℕ) → seen known v ≡ value a → seen known w ≡ value b → can_combine op (value_type a) (value_type b) ≡ true → can_combine op (known (type_of v)) (known (type_of w)) ≡ true
values_combine known op a b v w e f h = rw (type_of_value known v a e, type_of_value known w b f) h

pub values_compare : (known : ℕ → CType) (ts us : List Tag) (op : BinaryOperator) (a b : CoreTree) (v w : CoreOf ℕ) → us ≡ ts → seen known v ≡ value a → seen known w ≡ value b → can_compare ts op (value a) (value b) ≡ true → can_compare us op (seen known v) (seen known w) ≡ true
values_compare known ts us op a b v w t e f h = rw (t, e, f) h

-- ---- what can be compared

fits : (i p q m n f : Bool) → (i || ((p && n) || ((m && q) || ((p && q) && f)))) ≡ true → (i || (p || q)) ≡ true
fits true p q m n f h = refl
fits false true q m n f h = refl
fits false false true m n f h = refl
fits false false false true n f h = h
fits false false false false n f h = h

-- integers, or a pointer among them
pub equal_operands : (known : ℕ → CType) (v w : CoreOf ℕ) → can_equal (seen known v) (seen known w) ≡ true → (are_integers (known (type_of v)) (known (type_of w)) || (is_pointer (known (type_of v)) || is_pointer (known (type_of w)))) ≡ true
equal_operands known (Core x t l ks) (Core y u m ls) h =
    let v : CoreOf ℕ = Core x t l ks in
    let w : CoreOf ℕ = Core y u m ls in
    fits (are_integers (known t) (known u)) (is_pointer (known t)) (is_pointer (known u)) (is_null (seen known v)) (is_null (seen known w)) (targets_fit (target (known t)) (target (known u))) h

-- ---- what the node tells

pub binary_fine : (old new : Table) → ((id : ℕ) → id < length new.forms → IsWithin (known (tags new)) (type_at new id)) → tags new ≡ tags old → (line : ℕ) (op : BinaryOperator) (a b : CoreTree) (v w c : CoreOf ℕ) → ((s : State) → s.tags ≡ tags old → first_broken constraints s (Expression (Binary op a b)) ≡ None) → seen (type_at new) v ≡ value a → IsIn (length new.forms) v → seen (type_at new) w ≡ value b → IsIn (length new.forms) w → seen (type_at new) c ≡ combined (tags new) line op (seen (type_at new) v) (seen (type_at new) w) → IsIn (length new.forms) c → (s : State) → s.tags ≡ tags old → at_expr s line (Binary op a b) ≡ Fine s (seen (type_at new) c)
binary_fine old new within t line op a b v w c unbroken ev iv ew iw ec ic s h =
    let u : tags new ≡ s.tags = t ∙ sym h in
    let r : CoreTree = combined s.tags line op (value a) (value b) in
    let moved : combined (tags new) line op (seen (type_at new) v) (seen (type_at new) w) ≡ r = rw (ev, ew, u) refl in
    let e : seen (type_at new) c ≡ r = ec ∙ moved in
    let sa : IsSmall s.tags (value_type a) = subst (λ (ts : List Tag). IsSmall ts (value_type a)) u (seen_small new within v (value a) iv ev) in
    let sb : IsSmall s.tags (value_type b) = subst (λ (ts : List Tag). IsSmall ts (value_type b)) u (seen_small new within w (value b) iw ew) in
    let sr : IsSmall s.tags (type_of r) = subst (λ (ts : List Tag). IsSmall ts (type_of r)) u (seen_small new within c r ic e) in
    node_becomes s line (Binary op a b) (seen (type_at new) c) (unbroken s h) (sa, (sb, (sr, tt))) (seen_shallow new within v (value a) iv ev, (seen_shallow new within w (value b) iw ew, (seen_shallow new within c r ic e, tt))) refl e

pub binary_deep : (old : Table) → ((id : ℕ) → id < length old.forms → IsWithin (known (tags old)) (type_at old id)) → (line : ℕ) (op : BinaryOperator) (a b : CoreOf ℕ) → IsIn (length old.forms) a → IsIn (length old.forms) b → ((s : State) → s.tags ≡ tags old → first_broken constraints s (Expression (Binary op (seen (type_at old) a) (seen (type_at old) b))) ≡ None) → (e : CheckFault) → AreTooDeep e line (value_type (seen (type_at old) a) ∷ value_type (seen (type_at old) b) ∷ []) → (s : State) → s.tags ≡ tags old → Tells e (at_expr s line (Binary op (seen (type_at old) a) (seen (type_at old) b)))
binary_deep old within line op a b ia ib unbroken e d s h =
    let x : CoreTree = seen (type_at old) a in
    let y : CoreTree = seen (type_at old) b in
    let sa : IsSmall s.tags (value_type x) = subst (λ (ts : List Tag). IsSmall ts (value_type x)) (sym h) (value_small (tags old) x (seen_small old within a x ia refl)) in
    let sb : IsSmall s.tags (value_type y) = subst (λ (ts : List Tag). IsSmall ts (value_type y)) (sym h) (value_small (tags old) y (seen_small old within b y ib refl)) in
    let sr = combined_small s.tags line op (value x) (value y) sa sb in
    node_deep s line (Binary op x y) e (unbroken s h) (sa, (sb, (sr, tt))) (deep_more e line (value_type x ∷ value_type y ∷ []) (type_of (row s line (Binary op x y)) ∷ []) d)
