-- What typing makes of expressions has no names but theirs: of each builder of values and rows, where something holds of each name
-- in the parts, it holds of each in what is built.
use Rattle.std.proofs.Common.{ℕ, Bool, true, false, ◌||◌, List}
use Rattle.std.specs.Prelude.{if◌then◌else◌}
use Rattle.c_ast.specs.declared.operator.BinaryOperator.{BinaryOperator}
use Rattle.c_ast.specs.declared.operator.BinaryOperator.TheVariants as binary
use Rattle.c_ast.specs.declared.operator.AssignOperator.{AssignOperator}
use Rattle.c_ast.specs.declared.operator.AssignOperator.TheVariants as assign
use Rattle.c_ast.specs.declared.operator.PrefixOperator.{PrefixOperator}
use Rattle.c_ast.specs.declared.operator.PrefixOperator.TheVariants as prefix
use Rattle.c_ast.specs.declared.operator.PostfixOperator.{PostfixOperator}
use Rattle.c_ast.specs.declared.operator.PostfixOperator.TheVariants as postfix
use Rattle.c_ast.specs.declared.operator.MemberOperator.{MemberOperator}
use Rattle.c_ast.specs.declared.operator.MemberOperator.TheVariants as member
use Rattle.objects.specs.declared.operators.Binary.{Binary}
use Rattle.objects.specs.declared.operators.Binary.TheVariants as operator
use Rattle.objects.specs.declared.operators.Comparison.{Comparison}
use Rattle.objects.specs.declared.operators.Comparison.TheVariants as comparison
use Rattle.objects.specs.declared.operators.Unary.{Unary}
use Rattle.objects.specs.declared.operators.Unary.TheVariants as unary
use Rattle.c_types.specs.CType.{Void, Int, CType, Plain, Array, Kind, Simple, Function, Structure, Union, CTypes, NoType, And, basic, unqualified}
use Rattle.c_types.specs.Conversions.{is_integer}
use Rattle.c_types.specs.Layout.{Tag}
use Rattle.c_meaning.specs.declared.core_expr.Change.{Change}
use Rattle.c_meaning.specs.declared.core_expr.Change.TheVariants as change
use Rattle.c_meaning.specs.declared.core_expr.CoreKind.{CoreKind}
use Rattle.c_meaning.specs.declared.core_expr.CoreKind.TheVariants as kind
use Rattle.c_meaning.specs.CoreTrees.{Core, NoCore, Cores, line_of, one, two, type_of}
use Rattle.c_meaning.specs.Nodes.{ExprNode}
use Rattle.c_meaning.specs.Nodes as node
use Rattle.c_meaning.specs.Rows.{acts, added, arithmetic, assigned, at_usual, beside, call, called, chosen, chosen_part, chosen_type, combined, compared, difference, less, listed, moved, moves, moving, number, operator_of, parameters_type, pointed, postfixed, prefixed, row, selected_by, shift, shifts, size_of, stepped, stored, sum, unary_by}
use Rattle.c_meaning.specs.Scalars.{conversion_to, is_signed}
use Rattle.c_meaning.specs.State.{State}
use Rattle.c_meaning.specs.Types.{is_pointer, is_record, pointer_to, target}
use Rattle.c_meaning.specs.Values.{CoreTree, CoreTrees, all_passed, converted, default_type, is_lvalue, is_place, passed_to, promoted_type, promoted_value, read_of, same_simple, usual_type, value, value_by, values}
use Rattle.c_typing_steps.specs.Names.{EachName, EachNameOf, IfName}
use Rattle.c_typing_steps.proofs.lemmas.Names.{Name}

-- one of two
either : (P : Name) (b : Bool) (c d : CoreTree) → EachName P c → EachName P d → EachName P (if b then c else d)
either P true c d h k = h
either P false c d h k = k

-- ---- values and conversions

read_names : (P : Name) (k : Kind) (c : CoreTree) → EachName P c → EachName P (read_of k c)
read_names P (Function result parameters) c h = (tt, (h, tt))
read_names P (Structure n) c h = h
read_names P (Union n) c h = h
read_names P (Simple Void) c h = h
read_names P k c h = either P (is_place c) (Core kind.Read (Plain 0 k) (line_of c) (one c)) c (tt, (h, tt)) h

value_names_by : (P : Name) (t : CType) (c : CoreTree) → EachName P c → EachName P (value_by t c)
value_names_by P (Array of n) c h = either P (is_lvalue c) (Core kind.First (pointer_to of) (line_of c) (one c)) c (tt, (h, tt)) h
value_names_by P (Plain q k) c h = read_names P k c h

pub value_names : (P : Name) (c : CoreTree) → EachName P c → EachName P (value c)
value_names P c h = value_names_by P (type_of c) c h

pub values_names : (P : Name) (cs : CoreTrees) → EachNameOf P cs → EachNameOf P (values cs)
values_names P NoCore h = tt
values_names P (Cores c cs) h = (value_names P c h.0, values_names P cs h.1)

pub converted_names : (P : Name) (to : CType) (v : CoreTree) → EachName P v → EachName P (converted to v)
converted_names P to v h = either P (same_simple to (type_of v)) v (Core (kind.Convert (conversion_to to)) to (line_of v) (one v)) h (tt, (h, tt))

pub promoted_names : (P : Name) (v : CoreTree) → EachName P v → EachName P (promoted_value v)
promoted_names P v h = converted_names P (promoted_type v) v h

pub passed_names : (P : Name) (to : CType) (v : CoreTree) → EachName P v → EachName P (passed_to to v)
passed_names P (Plain q (Structure n)) v h = h
passed_names P (Plain q (Union n)) v h = h
passed_names P to v h = converted_names P (unqualified to) v h

all_passed_names : (P : Name) (ps : CTypes) (vs : CoreTrees) → EachNameOf P vs → EachNameOf P (all_passed ps vs)
all_passed_names P ps NoCore h = tt
all_passed_names P NoType (Cores v vs) h = (passed_names P (default_type (type_of v) v) v h.0, all_passed_names P NoType vs h.1)
all_passed_names P (And p ps) (Cores v vs) h = (passed_names P p v h.0, all_passed_names P ps vs h.1)

-- ---- pointers and members

pointed_names : (P : Name) (line : ℕ) (p : CoreTree) → EachName P p → EachName P (pointed line p)
pointed_names P line p h = (tt, (h, tt))

moving_names : (P : Name) (v : CoreTree) → EachName P v → EachName P (moving v)
moving_names P v h = either P (is_pointer (type_of v)) v (promoted_value v) h (promoted_names P v h)

moved_names : (P : Name) (tags : List Tag) (back : Bool) (line : ℕ) (v w : CoreTree) → EachName P v → EachName P w → EachName P (moved tags back line v w)
moved_names P tags back line v w h k = (tt, (moving_names P v h, (moving_names P w k, tt)))

selected_names : (P : Name) (tags : List Tag) (line : ℕ) (op : MemberOperator) (a : CoreTree) (name : List ℕ) → EachName P a → EachName P (selected_by tags line op a name)
selected_names P tags line member.Dot a name h = (tt, (h, tt))
selected_names P tags line member.Arrow a name h = (tt, (pointed_names P line (value a) (value_names P a h), tt))

call_names : (P : Name) (line : ℕ) (f : CoreTree) (vs : CoreTrees) → EachName P f → EachNameOf P vs → EachName P (call line f vs)
call_names P line f vs h k = (tt, (h, all_passed_names P (listed (parameters_type (called f))) vs k))

-- ---- arithmetic

arithmetic_names : (P : Name) (op : Binary) (line : ℕ) (v w : CoreTree) → EachName P v → EachName P w → EachName P (arithmetic op line v w)
arithmetic_names P op line v w h k = (tt, (converted_names P (usual_type v w) v h, (converted_names P (usual_type v w) w k, tt)))

shift_names : (P : Name) (op : Binary) (line : ℕ) (v w : CoreTree) → EachName P v → EachName P w → EachName P (shift op line v w)
shift_names P op line v w h k = (tt, (promoted_names P v h, (promoted_names P w k, tt)))

sum_names : (P : Name) (tags : List Tag) (line : ℕ) (v w : CoreTree) → EachName P v → EachName P w → EachName P (sum tags line v w)
sum_names P tags line v w h k =
    either P (is_pointer (type_of v) || is_pointer (type_of w)) (moved tags false line v w) (arithmetic operator.Add line v w)
    (moved_names P tags false line v w h k) (arithmetic_names P operator.Add line v w h k)

less_names : (P : Name) (tags : List Tag) (line : ℕ) (v w : CoreTree) → EachName P v → EachName P w → EachName P (less tags line v w)
less_names P tags line v w h k =
    either P (is_pointer (type_of v)) (if is_pointer (type_of w) then difference tags line v w else moved tags true line v w) (arithmetic operator.Subtract line v w)
    (either P (is_pointer (type_of w)) (difference tags line v w) (moved tags true line v w) (tt, (h, (k, tt))) (moved_names P tags true line v w h k)) (arithmetic_names P operator.Subtract line v w h k)

beside_names : (P : Name) (other : CType) (v : CoreTree) → EachName P v → EachName P (beside other v)
beside_names P other v h = either P (is_pointer (type_of v)) v (converted other v) h (converted_names P other v h)

compared_names : (P : Name) (op : Comparison) (line : ℕ) (v w : CoreTree) → EachName P v → EachName P w → EachName P (compared op line v w)
compared_names P op line v w h k = by (is_pointer (type_of v) || is_pointer (type_of w))
  where
    by : (b : Bool) → EachName P (if b then Core (kind.Compare op false) (basic Int) line (two (beside (type_of w) v) (beside (type_of v) w)) else at_usual (kind.Compare op (is_signed (usual_type v w))) (basic Int) (usual_type v w) line v w)
    by true = (tt, (beside_names P (type_of w) v h, (beside_names P (type_of v) w k, tt)))
    by false = (tt, (converted_names P (usual_type v w) v h, (converted_names P (usual_type v w) w k, tt)))

combined_names : (P : Name) (tags : List Tag) (line : ℕ) (op : BinaryOperator) (v w : CoreTree) → EachName P v → EachName P w → EachName P (combined tags line op v w)
combined_names P tags line binary.Or v w h k = (tt, (h, (k, tt)))
combined_names P tags line binary.And v w h k = (tt, (h, (k, tt)))
combined_names P tags line binary.BitOr v w h k = arithmetic_names P operator.Or line v w h k
combined_names P tags line binary.BitXor v w h k = arithmetic_names P operator.Xor line v w h k
combined_names P tags line binary.BitAnd v w h k = arithmetic_names P operator.And line v w h k
combined_names P tags line binary.Equal v w h k = compared_names P comparison.Equal line v w h k
combined_names P tags line binary.NotEqual v w h k = compared_names P comparison.NotEqual line v w h k
combined_names P tags line binary.Less v w h k = compared_names P comparison.Less line v w h k
combined_names P tags line binary.Greater v w h k = compared_names P comparison.Greater line v w h k
combined_names P tags line binary.LessEqual v w h k = compared_names P comparison.LessEqual line v w h k
combined_names P tags line binary.GreaterEqual v w h k = compared_names P comparison.GreaterEqual line v w h k
combined_names P tags line binary.ShiftLeft v w h k = shift_names P operator.ShiftLeft line v w h k
combined_names P tags line binary.ShiftRight v w h k = shift_names P operator.ShiftRight line v w h k
combined_names P tags line binary.Add v w h k = sum_names P tags line v w h k
combined_names P tags line binary.Subtract v w h k = less_names P tags line v w h k
combined_names P tags line binary.Multiply v w h k = arithmetic_names P operator.Multiply line v w h k
combined_names P tags line binary.Divide v w h k = arithmetic_names P operator.Divide line v w h k
combined_names P tags line binary.Remainder v w h k = arithmetic_names P operator.Remainder line v w h k

unary_names : (P : Name) (op : Unary) (line : ℕ) (v : CoreTree) → EachName P v → EachName P (unary_by op line v)
unary_names P op line v h = (tt, (promoted_names P v h, tt))

-- ---- changes of places

-- a change of a place is no name itself
abbrev IsChange : Name → (Change → CoreKind) → Type 0
IsChange P what = (by : Change) (of : CType) → IfName P (what by) of

moves_names : (P : Name) (tags : List Tag) (line : ℕ) (what : Change → CoreKind) (back : Bool) (a w : CoreTree) → IsChange P what → EachName P a → EachName P w → EachName P (moves tags line what back a w)
moves_names P tags line what back a w f h k = (f (change.Pointer (size_of tags (target (type_of a))) back) (unqualified (type_of a)), (h, (promoted_names P w k, tt)))

acts_names : (P : Name) (line : ℕ) (what : Change → CoreKind) (op : Binary) (a w : CoreTree) → IsChange P what → EachName P a → EachName P w → EachName P (acts line what op a w)
acts_names P line what op a w f h k =
    (f (change.Arithmetic op (is_signed (usual_type (value a) w))) (unqualified (type_of a)), (h, (converted_names P (usual_type (value a) w) w k, tt)))

shifts_names : (P : Name) (line : ℕ) (op : Binary) (a w : CoreTree) → EachName P a → EachName P w → EachName P (shifts line op a w)
shifts_names P line op a w h k = (tt, (h, (promoted_names P w k, tt)))

added_names : (P : Name) (tags : List Tag) (line : ℕ) (what : Change → CoreKind) (back : Bool) (a w : CoreTree) → IsChange P what → EachName P a → EachName P w → EachName P (added tags line what back a w)
added_names P tags line what back a w f h k =
    either P (is_pointer (type_of a)) (moves tags line what back a w) (acts line what (operator_of back) a w)
    (moves_names P tags line what back a w f h k) (acts_names P line what (operator_of back) a w f h k)

stepped_names : (P : Name) (tags : List Tag) (line : ℕ) (what : Change → CoreKind) (back : Bool) (a : CoreTree) → IsChange P what → EachName P a → EachName P (stepped tags line what back a)
stepped_names P tags line what back a f h = added_names P tags line what back a (number (basic Int) line 1) f h (tt, tt)

pub stored_names : (P : Name) (to : CType) (v : CoreTree) → EachName P v → EachName P (stored to v)
stored_names P to v h = either P (is_record to) v (converted to v) h (converted_names P to v h)

assigned_names : (P : Name) (tags : List Tag) (line : ℕ) (op : AssignOperator) (a w : CoreTree) → EachName P a → EachName P w → EachName P (assigned tags line op a w)
assigned_names P tags line assign.Plain a w h k = (tt, (h, (stored_names P (unqualified (type_of a)) w k, tt)))
assigned_names P tags line assign.Multiply a w h k = acts_names P line kind.Change operator.Multiply a w (λ by of. tt) h k
assigned_names P tags line assign.Divide a w h k = acts_names P line kind.Change operator.Divide a w (λ by of. tt) h k
assigned_names P tags line assign.Remainder a w h k = acts_names P line kind.Change operator.Remainder a w (λ by of. tt) h k
assigned_names P tags line assign.Add a w h k = added_names P tags line kind.Change false a w (λ by of. tt) h k
assigned_names P tags line assign.Subtract a w h k = added_names P tags line kind.Change true a w (λ by of. tt) h k
assigned_names P tags line assign.ShiftLeft a w h k = shifts_names P line operator.ShiftLeft a w h k
assigned_names P tags line assign.ShiftRight a w h k = shifts_names P line operator.ShiftRight a w h k
assigned_names P tags line assign.BitAnd a w h k = acts_names P line kind.Change operator.And a w (λ by of. tt) h k
assigned_names P tags line assign.BitXor a w h k = acts_names P line kind.Change operator.Xor a w (λ by of. tt) h k
assigned_names P tags line assign.BitOr a w h k = acts_names P line kind.Change operator.Or a w (λ by of. tt) h k

postfixed_names : (P : Name) (tags : List Tag) (line : ℕ) (op : PostfixOperator) (a : CoreTree) → EachName P a → EachName P (postfixed tags line op a)
postfixed_names P tags line postfix.Increment a h = stepped_names P tags line kind.Postfix false a (λ by of. tt) h
postfixed_names P tags line postfix.Decrement a h = stepped_names P tags line kind.Postfix true a (λ by of. tt) h

prefixed_names : (P : Name) (tags : List Tag) (line : ℕ) (op : PrefixOperator) (a : CoreTree) → EachName P a → EachName P (prefixed tags line op a)
prefixed_names P tags line prefix.Increment a h = stepped_names P tags line kind.Change false a (λ by of. tt) h
prefixed_names P tags line prefix.Decrement a h = stepped_names P tags line kind.Change true a (λ by of. tt) h
prefixed_names P tags line prefix.Address a h = (tt, (h, tt))
prefixed_names P tags line prefix.Indirect a h = pointed_names P line (value a) (value_names P a h)
prefixed_names P tags line prefix.Plus a h = unary_names P unary.Plus line (value a) (value_names P a h)
prefixed_names P tags line prefix.Minus a h = unary_names P unary.Negate line (value a) (value_names P a h)
prefixed_names P tags line prefix.Complement a h = unary_names P unary.Complement line (value a) (value_names P a h)
prefixed_names P tags line prefix.Not a h = (tt, (value_names P a h, tt))

-- ---- `?:`

part_names : (P : Name) (of : CType) (v : CoreTree) → EachName P v → EachName P (chosen_part of v)
part_names P of v h = either P (is_integer of || is_pointer of) (converted of v) v (converted_names P of v h) h

chosen_names : (P : Name) (of : CType) (line : ℕ) (u v w : CoreTree) → EachName P u → EachName P v → EachName P w → EachName P (chosen of line u v w)
chosen_names P of line u v w g h k = (tt, (g, (part_names P of v h, (part_names P of w k, tt))))

-- ---- the rows

-- of each name in the parts of a node; of a node that is a name or a string literal, of itself
abbrev pub EachNameAt : Name → State → ℕ → ExprNode → Type 0
EachNameAt P s line (node.Name x) = EachName P (row s line (node.Name x))
EachNameAt P s line (node.NewFunction x) = EachName P (row s line (node.NewFunction x))
EachNameAt P s line (node.Text texts) = EachName P (row s line (node.Text texts))
EachNameAt P s line (node.Index a i) = EachName P a × EachName P i
EachNameAt P s line (node.Call f arguments) = EachName P f × EachNameOf P arguments
EachNameAt P s line (node.Member op a x) = EachName P a
EachNameAt P s line (node.Postfix op a) = EachName P a
EachNameAt P s line (node.Prefix op a) = EachName P a
EachNameAt P s line (node.Cast to a) = EachName P a
EachNameAt P s line (node.Binary op a b) = EachName P a × EachName P b
EachNameAt P s line (node.Conditional a b c) = EachName P a × (EachName P b × EachName P c)
EachNameAt P s line (node.Assign op a b) = EachName P a × EachName P b
EachNameAt P s line (node.Comma parts) = EachNameOf P parts
EachNameAt P s line n = Unit {0}

pub row_names : (P : Name) (s : State) (line : ℕ) (n : ExprNode) → EachNameAt P s line n → EachName P (row s line n)
row_names P s line (node.Name x) h = h
row_names P s line (node.NewFunction x) h = h
row_names P s line (node.Text texts) h = h
row_names P s line (node.Integer n k) h = (tt, tt)
row_names P s line (node.Character z) h = (tt, tt)
row_names P s line (node.SizeofExpr a) h = (tt, tt)
row_names P s line (node.SizeofType t) h = (tt, tt)
row_names P s line (node.Index a i) h = pointed_names P line (moved s.tags false line (value a) (value i)) (moved_names P s.tags false line (value a) (value i) (value_names P a h.0) (value_names P i h.1))
row_names P s line (node.Call f arguments) h = call_names P line (value f) (values arguments) (value_names P f h.0) (values_names P arguments h.1)
row_names P s line (node.Member op a x) h = selected_names P s.tags line op a x h
row_names P s line (node.Postfix op a) h = postfixed_names P s.tags line op a h
row_names P s line (node.Prefix op a) h = prefixed_names P s.tags line op a h
row_names P s line (node.Cast to a) h = (tt, (value_names P a h, tt))
row_names P s line (node.Binary op a b) h = combined_names P s.tags line op (value a) (value b) (value_names P a h.0) (value_names P b h.1)
row_names P s line (node.Conditional a b c) h =
    chosen_names P (chosen_type (value b) (value c)) line (value a) (value b) (value c) (value_names P a h.0) (value_names P b h.1.0) (value_names P c h.1.1)
row_names P s line (node.Assign op a b) h = assigned_names P s.tags line op a (value b) h.0 (value_names P b h.1)
row_names P s line (node.Comma parts) h = (tt, values_names P parts h)
