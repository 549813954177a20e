-- The rows of expressions: what each construct whose parts are typed becomes.
-- Source: C89 3.3.
use Rattle.std.specs.Prelude.{ℕ, ℤ, ◌+◌, ◌&&◌, ◌||◌, Bool, true, false, Option, Some, None, List, [], ◌∷◌, ◌++◌, length, bit_or, if◌then◌else◌}
use Rattle.std.specs.Int.RustNames.{unsigned_abs}
use Rattle.c_ast.specs.declared.class.IntKind.{IntKind}
use Rattle.c_ast.specs.declared.class.IntKind.TheVariants as int_kind
use Rattle.c_ast.specs.declared.operator.BinaryOperator.{BinaryOperator}
use Rattle.c_ast.specs.declared.operator.BinaryOperator.TheVariants as binary
use Rattle.c_ast.specs.declared.operator.AssignOperator.{AssignOperator}
use Rattle.c_ast.specs.declared.operator.AssignOperator.TheVariants as assign
use Rattle.c_ast.specs.declared.operator.PrefixOperator.{PrefixOperator}
use Rattle.c_ast.specs.declared.operator.PrefixOperator.TheVariants as prefix
use Rattle.c_ast.specs.declared.operator.PostfixOperator.{PostfixOperator}
use Rattle.c_ast.specs.declared.operator.PostfixOperator.TheVariants as postfix
use Rattle.c_ast.specs.declared.operator.MemberOperator.{MemberOperator}
use Rattle.c_ast.specs.declared.operator.MemberOperator.TheVariants as member
use Rattle.c_symbols.specs.declared.symbol.Storage.{Storage}
use Rattle.c_symbols.specs.declared.symbol.Storage.TheVariants as storage
use Rattle.c_types.specs.CType.{Void, Char, Int, Unsigned, Long, UnsignedLong, CType, Plain, Array, Kind, Function, Parameters, Open, Listed, CTypes, NoType, basic, qualify, unqualified}
use Rattle.c_types.specs.Composite.{composite}
use Rattle.c_types.specs.Conversions.{is_integer}
use Rattle.c_types.specs.Layout.{Tag, extent, size_or_zero}
use Rattle.objects.specs.declared.operators.Unary.{Unary}
use Rattle.objects.specs.declared.operators.Unary.TheVariants as unary
use Rattle.objects.specs.declared.operators.Binary.{Binary}
use Rattle.objects.specs.declared.operators.Binary.TheVariants as operator
use Rattle.objects.specs.declared.operators.Comparison.{Comparison}
use Rattle.objects.specs.declared.operators.Comparison.TheVariants as comparison
use Rattle.objects.specs.Arithmetic.{word_of}
use Rattle.c_meaning.specs.declared.core_expr.Change.{Change}
use Rattle.c_meaning.specs.declared.core_expr.Change.TheVariants as change
use Rattle.c_meaning.specs.declared.core_expr.CoreKind.{CoreKind}
use Rattle.c_meaning.specs.declared.core_expr.CoreKind.TheVariants as kind
use Rattle.c_meaning.specs.CoreTrees.{Core, NoCore, Cores, type_of, none, one, two, three}
use Rattle.c_meaning.specs.State.{State, place_of, known_at, int_function, link_or_next}
use Rattle.c_meaning.specs.Types.{is_void, is_pointer, is_record, target, pointer_to, qualifiers_of}
use Rattle.c_meaning.specs.Values.{CoreTree, CoreTrees, value, values, converted, promoted_type, promoted_value, usual_type, all_passed}
use Rattle.c_meaning.specs.Scalars.{is_signed, conversion_to}
use Rattle.c_meaning.specs.Constants.{is_null}
use Rattle.c_types.specs.Members.{MemberAt, member_of, member_or_none}
use Rattle.c_meaning.specs.Nodes.{ExprNode}
use Rattle.c_meaning.specs.Nodes as node

-- ---- names and constants

abbrev pub number : CType → ℕ → ℕ → CoreTree
number of line n = Core (kind.Number n) of line none

abbrev pub nat_of : Option ℤ → ℕ → ℕ
nat_of (Some z) other = unsigned_abs z
nat_of None other = other

abbrev pub word_or_zero : Option ℤ → ℕ
word_or_zero (Some z) = word_of z
word_or_zero None = 0

-- what a symbol stands for: an enumerator its number, a local object its place, anything else itself or, where it has
-- linkage, the symbol of all its declarations
abbrev pub kind_meant : Storage → Option ℤ → ℕ → CoreKind
kind_meant storage.Enumerator v id = kind.Number (word_or_zero v)
kind_meant storage.Auto v id = kind.Local (nat_of v 0) false
kind_meant storage.Register v id = kind.Local (nat_of v 0) true
kind_meant class v id = kind.Symbol (nat_of v id)

abbrev pub meant : State → Option ℕ → ℕ → CoreTree
meant s None line = number (basic Int) line 0
meant s (Some id) line = Core (kind_meant (known_at s id).class (known_at s id).value id) (known_at s id).of line none

abbrev pub constant_type : IntKind → CType
constant_type int_kind.Int = basic Int
constant_type int_kind.Unsigned = basic Unsigned
constant_type int_kind.Long = basic Long
constant_type int_kind.UnsignedLong = basic UnsignedLong

abbrev pub joined : List (List ℕ) → List ℕ
joined [] = []
joined (t ∷ ts) = t ++ joined ts

-- an array of the bytes and a null
abbrev pub literal : ℕ → List ℕ → CoreTree
literal line bytes = Core (kind.Literal bytes) (Array (basic Char) (Some (length bytes + 1))) line none

-- ---- pointers and members

abbrev pub size_of : List Tag → CType → ℕ
size_of tags t = size_or_zero (extent tags t).size

abbrev pub pointed : ℕ → CoreTree → CoreTree
pointed line p = Core kind.Pointed (target (type_of p)) line (one p)

-- the pointer among two values
abbrev pub pointer_among : CType → CType → CType
pointer_among t u = if is_pointer t then t else u

-- an operand of an addition to a pointer: the pointer, or a promoted integer
abbrev pub moving : CoreTree → CoreTree
moving v = if is_pointer (type_of v) then v else promoted_value v

abbrev pub moved_by : List Tag → Bool → CType → ℕ → CoreTree → CoreTree → CoreTree
moved_by tags back p line v w = Core (kind.Move (size_of tags (target p)) back) p line (two (moving v) (moving w))

abbrev pub moved : List Tag → Bool → ℕ → CoreTree → CoreTree → CoreTree
moved tags back line v w = moved_by tags back (pointer_among (type_of v) (type_of w)) line v w

abbrev pub difference : List Tag → ℕ → CoreTree → CoreTree → CoreTree
difference tags line v w = Core (kind.Difference (size_of tags (target (type_of v)))) (basic Int) line (two v w)

-- a member has its structure's qualifiers beside its own
abbrev pub selected_at : ℕ → CoreTree → MemberAt → CoreTree
selected_at line a m = Core (kind.Member m.offset m.first m.width) (qualify (qualifiers_of (type_of a)) m.of) line (one a)

abbrev pub selected : List Tag → ℕ → CoreTree → List ℕ → CoreTree
selected tags line a name = selected_at line a (member_or_none (member_of tags (type_of a) name))

abbrev pub selected_by : List Tag → ℕ → MemberOperator → CoreTree → List ℕ → CoreTree
selected_by tags line member.Dot a name = selected tags line a name
selected_by tags line member.Arrow a name = selected tags line (pointed line (value a)) name

-- ---- calls

abbrev pub result_kind : Kind → CType
result_kind (Function result parameters) = result
result_kind k = basic Void

abbrev pub result_type : CType → CType
result_type (Plain q k) = result_kind k
result_type (Array of n) = basic Void

abbrev pub listed : Parameters → CTypes
listed Open = NoType
listed (Listed all more) = all

abbrev pub parameters_kind : Kind → Parameters
parameters_kind (Function result parameters) = parameters
parameters_kind k = Open

abbrev pub parameters_type : CType → Parameters
parameters_type (Plain q k) = parameters_kind k
parameters_type (Array of n) = Open

-- the function that a value points to
abbrev pub called : CoreTree → CType
called v = target (type_of v)

abbrev pub call : ℕ → CoreTree → CoreTrees → CoreTree
call line f vs = Core (kind.Call 0) (unqualified (result_type (called f))) line (Cores f (all_passed (listed (parameters_type (called f))) vs))

-- ---- arithmetic

-- both at the type of the usual arithmetic conversions
abbrev pub at_usual : CoreKind → CType → CType → ℕ → CoreTree → CoreTree → CoreTree
at_usual what of usual line v w = Core what of line (two (converted usual v) (converted usual w))

abbrev pub arithmetic : Binary → ℕ → CoreTree → CoreTree → CoreTree
arithmetic op line v w = at_usual (kind.Binary op (is_signed (usual_type v w))) (usual_type v w) (usual_type v w) line v w

-- of a shift each operand is promoted by itself
abbrev pub shift : Binary → ℕ → CoreTree → CoreTree → CoreTree
shift op line v w = Core (kind.Binary op (is_signed (promoted_type v))) (promoted_type v) line (two (promoted_value v) (promoted_value w))

abbrev pub sum : List Tag → ℕ → CoreTree → CoreTree → CoreTree
sum tags line v w =
    if is_pointer (type_of v) || is_pointer (type_of w) then moved tags false line v w else arithmetic operator.Add line v w

abbrev pub less : List Tag → ℕ → CoreTree → CoreTree → CoreTree
less tags line v w =
    if is_pointer (type_of v)
    then (if is_pointer (type_of w) then difference tags line v w else moved tags true line v w)
    else arithmetic operator.Subtract line v w

-- a null pointer constant beside a pointer takes its type
abbrev pub beside : CType → CoreTree → CoreTree
beside other v = if is_pointer (type_of v) then v else converted other v

abbrev pub compared : Comparison → ℕ → CoreTree → CoreTree → CoreTree
compared op line v w =
    if is_pointer (type_of v) || is_pointer (type_of w)
    then Core (kind.Compare op false) (basic Int) line (two (beside (type_of w) v) (beside (type_of v) w))
    else at_usual (kind.Compare op (is_signed (usual_type v w))) (basic Int) (usual_type v w) line v w

abbrev pub combined : List Tag → ℕ → BinaryOperator → CoreTree → CoreTree → CoreTree
combined tags line binary.Or v w = Core kind.Or (basic Int) line (two v w)
combined tags line binary.And v w = Core kind.And (basic Int) line (two v w)
combined tags line binary.BitOr v w = arithmetic operator.Or line v w
combined tags line binary.BitXor v w = arithmetic operator.Xor line v w
combined tags line binary.BitAnd v w = arithmetic operator.And line v w
combined tags line binary.Equal v w = compared comparison.Equal line v w
combined tags line binary.NotEqual v w = compared comparison.NotEqual line v w
combined tags line binary.Less v w = compared comparison.Less line v w
combined tags line binary.Greater v w = compared comparison.Greater line v w
combined tags line binary.LessEqual v w = compared comparison.LessEqual line v w
combined tags line binary.GreaterEqual v w = compared comparison.GreaterEqual line v w
combined tags line binary.ShiftLeft v w = shift operator.ShiftLeft line v w
combined tags line binary.ShiftRight v w = shift operator.ShiftRight line v w
combined tags line binary.Add v w = sum tags line v w
combined tags line binary.Subtract v w = less tags line v w
combined tags line binary.Multiply v w = arithmetic operator.Multiply line v w
combined tags line binary.Divide v w = arithmetic operator.Divide line v w
combined tags line binary.Remainder v w = arithmetic operator.Remainder line v w

abbrev pub unary_by : Unary → ℕ → CoreTree → CoreTree
unary_by op line v = Core (kind.Unary op) (promoted_type v) line (one (promoted_value v))

-- ---- changes of places

abbrev pub changes : ℕ → (Change → CoreKind) → Change → CoreTree → CoreTree → CoreTree
changes line what by a w = Core (what by) (unqualified (type_of a)) line (two a w)

-- a pointer moves by elements
abbrev pub moves : List Tag → ℕ → (Change → CoreKind) → Bool → CoreTree → CoreTree → CoreTree
moves tags line what back a w = changes line what (change.Pointer (size_of tags (target (type_of a))) back) a (promoted_value w)

-- a number changes at the type of the usual arithmetic conversions
abbrev pub acts : ℕ → (Change → CoreKind) → Binary → CoreTree → CoreTree → CoreTree
acts line what op a w =
    changes line what (change.Arithmetic op (is_signed (usual_type (value a) w))) a (converted (usual_type (value a) w) w)

abbrev pub shifts : ℕ → Binary → CoreTree → CoreTree → CoreTree
shifts line op a w = changes line kind.Change (change.Arithmetic op (is_signed (promoted_type (value a)))) a (promoted_value w)

abbrev pub operator_of : Bool → Binary
operator_of back = if back then operator.Subtract else operator.Add

-- `+=`, `-=`, `++` and `--`
abbrev pub added : List Tag → ℕ → (Change → CoreKind) → Bool → CoreTree → CoreTree → CoreTree
added tags line what back a w =
    if is_pointer (type_of a) then moves tags line what back a w else acts line what (operator_of back) a w

-- by one
abbrev pub stepped : List Tag → ℕ → (Change → CoreKind) → Bool → CoreTree → CoreTree
stepped tags line what back a = added tags line what back a (number (basic Int) line 1)

-- a structure is assigned from a place
abbrev pub stored : CType → CoreTree → CoreTree
stored to v = if is_record to then v else converted to v

abbrev pub assigned : List Tag → ℕ → AssignOperator → CoreTree → CoreTree → CoreTree
assigned tags line assign.Plain a w = Core kind.Assign (unqualified (type_of a)) line (two a (stored (unqualified (type_of a)) w))
assigned tags line assign.Multiply a w = acts line kind.Change operator.Multiply a w
assigned tags line assign.Divide a w = acts line kind.Change operator.Divide a w
assigned tags line assign.Remainder a w = acts line kind.Change operator.Remainder a w
assigned tags line assign.Add a w = added tags line kind.Change false a w
assigned tags line assign.Subtract a w = added tags line kind.Change true a w
assigned tags line assign.ShiftLeft a w = shifts line operator.ShiftLeft a w
assigned tags line assign.ShiftRight a w = shifts line operator.ShiftRight a w
assigned tags line assign.BitAnd a w = acts line kind.Change operator.And a w
assigned tags line assign.BitXor a w = acts line kind.Change operator.Xor a w
assigned tags line assign.BitOr a w = acts line kind.Change operator.Or a w

abbrev pub postfixed : List Tag → ℕ → PostfixOperator → CoreTree → CoreTree
postfixed tags line postfix.Increment a = stepped tags line kind.Postfix false a
postfixed tags line postfix.Decrement a = stepped tags line kind.Postfix true a

abbrev pub prefixed : List Tag → ℕ → PrefixOperator → CoreTree → CoreTree
prefixed tags line prefix.Increment a = stepped tags line kind.Change false a
prefixed tags line prefix.Decrement a = stepped tags line kind.Change true a
prefixed tags line prefix.Address a = Core kind.Address (pointer_to (type_of a)) line (one a)
prefixed tags line prefix.Indirect a = pointed line (value a)
prefixed tags line prefix.Plus a = unary_by unary.Plus line (value a)
prefixed tags line prefix.Minus a = unary_by unary.Negate line (value a)
prefixed tags line prefix.Complement a = unary_by unary.Complement line (value a)
prefixed tags line prefix.Not a = Core kind.Not (basic Int) line (one (value a))

-- ---- `?:` and the comma

-- pointers to what both point to, or to void where one does, with the qualifiers of both (C89 3.3.15)
abbrev pub common_target : CType → CType → CType
common_target t u =
    qualify
    (bit_or (qualifiers_of t) (qualifiers_of u))
    (if is_void t || is_void u then basic Void else composite (unqualified t) (unqualified u))

abbrev pub pointer_chosen : CoreTree → CoreTree → CType
pointer_chosen v w =
    if is_null v && is_pointer (type_of w) then type_of w
    else if is_null w then type_of v
    else pointer_to (common_target (target (type_of v)) (target (type_of w)))

abbrev pub chosen_type : CoreTree → CoreTree → CType
chosen_type v w =
    if is_integer (type_of v) && is_integer (type_of w) then usual_type v w
    else if is_pointer (type_of v) || is_pointer (type_of w) then pointer_chosen v w
    else unqualified (type_of v)

abbrev pub chosen_part : CType → CoreTree → CoreTree
chosen_part of v = if is_integer of || is_pointer of then converted of v else v

abbrev pub chosen : CType → ℕ → CoreTree → CoreTree → CoreTree → CoreTree
chosen of line u v w = Core kind.Conditional of line (three u (chosen_part of v) (chosen_part of w))

-- the type of the last
abbrev pub last_type : CoreTrees → CType
last_type NoCore = basic Void
last_type (Cores c NoCore) = unqualified (type_of c)
last_type (Cores c cs) = last_type cs

-- ---- all of them

abbrev pub row : State → ℕ → ExprNode → CoreTree
row s line (node.Name x) = meant s (place_of s x) line
row s line (node.NewFunction x) = Core (kind.Symbol (link_or_next s x)) int_function line none
row s line (node.Integer n k) = number (constant_type k) line n
row s line (node.Character z) = number (basic Int) line (word_of z)
row s line (node.Text texts) = literal line (joined texts)
row s line (node.Index a i) = pointed line (moved s.tags false line (value a) (value i))
row s line (node.Call f arguments) = call line (value f) (values arguments)
row s line (node.Member op a x) = selected_by s.tags line op a x
row s line (node.Postfix op a) = postfixed s.tags line op a
row s line (node.Prefix op a) = prefixed s.tags line op a
row s line (node.SizeofExpr a) = number (basic Unsigned) line (size_of s.tags (type_of a))
row s line (node.SizeofType t) = number (basic Unsigned) line (size_of s.tags t)
row s line (node.Cast to a) = Core (kind.Convert (conversion_to to)) (unqualified to) line (one (value a))
row s line (node.Binary op a b) = combined s.tags line op (value a) (value b)
row s line (node.Conditional a b c) = chosen (chosen_type (value b) (value c)) line (value a) (value b) (value c)
row s line (node.Assign op a b) = assigned s.tags line op a (value b)
row s line (node.Comma parts) = Core kind.Comma (last_type (values parts)) line (values parts)
