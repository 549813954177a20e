-- Examples beside the rows: what some expressions become, written out.
use Rattle.std.specs.Prelude.{◌≡◌, refl, ℕ, codes, true, false}
use Rattle.c_ast.specs.declared.operator.AssignOperator.TheVariants as assign
use Rattle.c_ast.specs.declared.operator.BinaryOperator.TheVariants as binary
use Rattle.c_ast.specs.declared.operator.MemberOperator.TheVariants as member
use Rattle.c_ast.specs.declared.operator.PostfixOperator.TheVariants as postfix
use Rattle.c_types.specs.CType.{Void, UnsignedChar, Unsigned, CType, basic, qualify}
use Rattle.objects.specs.declared.operators.Binary.TheVariants as operator
use Rattle.objects.specs.declared.operators.Comparison.TheVariants as comparison
use Rattle.objects.specs.declared.width.Width.TheVariants.{One, Four}
use Rattle.c_meaning.specs.declared.core_expr.Change.TheVariants as change
use Rattle.c_meaning.specs.declared.core_expr.Conversion.TheVariants as to
use Rattle.c_meaning.specs.declared.core_expr.CoreKind.{CoreKind}
use Rattle.c_meaning.specs.declared.core_expr.CoreKind.TheVariants as kind
use Rattle.c_meaning.specs.CoreTrees.{Core, none, one, two, three}
use Rattle.c_meaning.specs.State.{int_function}
use Rattle.c_meaning.specs.Types.{pointer_to}
use Rattle.c_meaning.specs.Values.{CoreTree, CoreTrees}
use Rattle.c_meaning.specs.Constants.{fold}
use Rattle.c_meaning.specs.Nodes.{ExprNode}
use Rattle.c_meaning.specs.Nodes as node
use Rattle.c_meaning.specs.Rows.{row}
use Rattle.c_meaning.specs.Samples.{int, const, of_one, struct_s, sample, constant, local, x, f, c, byte, p, to_const, to_void, a, s, select, null}

-- an expression of line 1, and what a construct in line 1 becomes
abbrev of : CType → CoreKind → CoreTrees → CoreTree
of t what kids = Core what t 1 kids

abbrev becomes : ExprNode → CoreTree
becomes n = row sample 1 n

abbrev number : CType → ℕ → CoreTree
number t n = of t (kind.Number n) none

-- what a place holds
abbrev held : CType → CoreTree → CoreTree
held t place = of t kind.Read (one place)

abbrev byte_held : CoreTree
byte_held = held (basic UnsignedChar) byte

abbrev x_held : CoreTree
x_held = held int x

abbrev p_held : CoreTree
p_held = held (pointer_to int) p

-- conversions
abbrev as_int : CoreTree → CoreTree
as_int v = of int (kind.Convert (to.Integer (record { width = Four; signed = true }))) (one v)

abbrev as_unsigned : CoreTree → CoreTree
as_unsigned v = of (basic Unsigned) (kind.Convert (to.Integer (record { width = Four; signed = false }))) (one v)

abbrev as_byte : CoreTree → CoreTree
as_byte v = of (basic UnsignedChar) (kind.Convert (to.Integer (record { width = One; signed = false }))) (one v)

abbrev as_pointer : CType → CoreTree → CoreTree
as_pointer of_type v = of (pointer_to of_type) (kind.Convert to.Pointer) (one v)

-- unsigned u, and what it holds
abbrev unsigned : CType
unsigned = basic Unsigned

abbrev u : CoreTree
u = local unsigned

abbrev u_held : CoreTree
u_held = held unsigned u

-- const struct s t
abbrev t : CoreTree
t = local (const struct_s)

-- ---- names and places

-- x
local_name : x ≡ of int (kind.Local 0 false) none
local_name = refl

-- f: six symbols are before it, of five tags and an enumerator
linked_name : f ≡ of (of_one int int) (kind.Symbol 6) none
linked_name = refl

-- first
enumerator_name : becomes (node.Name (codes "first")) ≡ number int 0
enumerator_name = refl

-- a call of y, which isn't declared: the next symbol is that of all its declarations
new_function_name : becomes (node.NewFunction (codes "y")) ≡ of int_function (kind.Symbol 15) none
new_function_name = refl

-- a call of before, which an ended block declared
linked_function_name : becomes (node.NewFunction (codes "before")) ≡ of int_function (kind.Symbol 11) none
linked_function_name = refl

-- a[1]
subscript : becomes (node.Index a (constant 1)) ≡ of int kind.Pointed (one (of (pointer_to int) (kind.Move 4 false) (two (of (pointer_to int) kind.First (one a)) (number int 1))))
subscript = refl

-- 1[a]
subscript_turned_round : becomes (node.Index (constant 1) a) ≡ of int kind.Pointed (one (of (pointer_to int) (kind.Move 4 false) (two (number int 1) (of (pointer_to int) kind.First (one a)))))
subscript_turned_round = refl

-- t.m
member_of_a_const_structure : becomes (node.Member member.Dot t (codes "m")) ≡ of (const int) (kind.Member 0 0 0) (one t)
member_of_a_const_structure = refl

-- s.b
bit_field : select s (codes "b") ≡ of unsigned (kind.Member 4 0 3) (one s)
bit_field = refl

-- sizeof s
size_of_a_structure : becomes (node.SizeofExpr s) ≡ number unsigned 16
size_of_a_structure = refl

-- ---- arithmetic

-- byte + u
char_plus_unsigned : becomes (node.Binary binary.Add byte u) ≡ of unsigned (kind.Binary operator.Add false) (two (as_unsigned byte_held) u_held)
char_plus_unsigned = refl

-- x + byte
int_plus_char : becomes (node.Binary binary.Add x byte) ≡ of int (kind.Binary operator.Add true) (two x_held (as_int byte_held))
int_plus_char = refl

-- byte + byte
char_plus_char : becomes (node.Binary binary.Add byte byte) ≡ of int (kind.Binary operator.Add true) (two (as_int byte_held) (as_int byte_held))
char_plus_char = refl

-- s.b + 1: int holds all numbers of 3 bits
bit_field_plus_int : becomes (node.Binary binary.Add (select s (codes "b")) (constant 1)) ≡ of int (kind.Binary operator.Add true) (two (as_int (held unsigned (select s (codes "b")))) (number int 1))
bit_field_plus_int = refl

-- byte << u: each is promoted by itself
char_shifted : becomes (node.Binary binary.ShiftLeft byte u) ≡ of int (kind.Binary operator.ShiftLeft true) (two (as_int byte_held) u_held)
char_shifted = refl

-- u > x
unsigned_above_int : becomes (node.Binary binary.Greater u x) ≡ of int (kind.Compare comparison.Greater false) (two u_held (as_unsigned x_held))
unsigned_above_int = refl

-- byte > x
char_above_int : becomes (node.Binary binary.Greater byte x) ≡ of int (kind.Compare comparison.Greater true) (two (as_int byte_held) x_held)
char_above_int = refl

-- ---- pointers

-- p + 1
pointer_plus_one : becomes (node.Binary binary.Add p (constant 1)) ≡ of (pointer_to int) (kind.Move 4 false) (two p_held (number int 1))
pointer_plus_one = refl

-- p - byte
pointer_less_char : becomes (node.Binary binary.Subtract p byte) ≡ of (pointer_to int) (kind.Move 4 true) (two p_held (as_int byte_held))
pointer_less_char = refl

-- p - p
pointers_apart : becomes (node.Binary binary.Subtract p p) ≡ of int (kind.Difference 4) (two p_held p_held)
pointers_apart = refl

-- p == 0
pointer_equals_zero : becomes (node.Binary binary.Equal p (constant 0)) ≡ of int (kind.Compare comparison.Equal false) (two p_held (as_pointer int (number int 0)))
pointer_equals_zero = refl

-- ---- changes

-- x = c
assigned : becomes (node.Assign assign.Plain x c) ≡ of int kind.Assign (two x (held int c))
assigned = refl

-- byte = x
assigned_to_a_char : becomes (node.Assign assign.Plain byte x) ≡ of (basic UnsignedChar) kind.Assign (two byte (as_byte x_held))
assigned_to_a_char = refl

-- s = t
assigned_structure : becomes (node.Assign assign.Plain s t) ≡ of struct_s kind.Assign (two s t)
assigned_structure = refl

-- x *= byte
int_multiplied : becomes (node.Assign assign.Multiply x byte) ≡ of int (kind.Change (change.Arithmetic operator.Multiply true)) (two x (as_int byte_held))
int_multiplied = refl

-- byte /= u: the quotient is unsigned
char_divided : becomes (node.Assign assign.Divide byte u) ≡ of (basic UnsignedChar) (kind.Change (change.Arithmetic operator.Divide false)) (two byte u_held)
char_divided = refl

-- x >>= u: the shift is signed
int_shifted : becomes (node.Assign assign.ShiftRight x u) ≡ of int (kind.Change (change.Arithmetic operator.ShiftRight true)) (two x u_held)
int_shifted = refl

-- p -= x
pointer_moved : becomes (node.Assign assign.Subtract p x) ≡ of (pointer_to int) (kind.Change (change.Pointer 4 true)) (two p x_held)
pointer_moved = refl

-- byte++
char_incremented : becomes (node.Postfix postfix.Increment byte) ≡ of (basic UnsignedChar) (kind.Postfix (change.Arithmetic operator.Add true)) (two byte (number int 1))
char_incremented = refl

-- p--
pointer_decremented : becomes (node.Postfix postfix.Decrement p) ≡ of (pointer_to int) (kind.Postfix (change.Pointer 4 true)) (two p (number int 1))
pointer_decremented = refl

-- ---- calls, `?:` and the comma

-- f(byte)
call_with_a_parameter : becomes (node.Call f (one byte)) ≡ of int (kind.Call 0) (two (of (pointer_to (of_one int int)) kind.Address (one f)) (as_int byte_held))
call_with_a_parameter = refl

-- x ? p : 0
pointer_or_else_zero : becomes (node.Conditional x p (constant 0)) ≡ of (pointer_to int) kind.Conditional (three x_held (as_pointer int p_held) (as_pointer int (number int 0)))
unfolding fold
pointer_or_else_zero = refl

-- x ? to_const : to_void
pointers_to_const_and_void : becomes (node.Conditional x to_const to_void) ≡ of (pointer_to (const (basic Void))) kind.Conditional (three x_held (as_pointer (const (basic Void)) (held (pointer_to (const int)) to_const)) (as_pointer (const (basic Void)) (held (pointer_to (basic Void)) to_void)))
unfolding fold
pointers_to_const_and_void = refl

-- x ? to_const : to_volatile
pointers_to_const_and_volatile : becomes (node.Conditional x to_const (local (pointer_to (qualify 2 int)))) ≡ of (pointer_to (qualify 3 int)) kind.Conditional (three x_held (as_pointer (qualify 3 int) (held (pointer_to (const int)) to_const)) (as_pointer (qualify 3 int) (held (pointer_to (qualify 2 int)) (local (pointer_to (qualify 2 int))))))
unfolding fold
pointers_to_const_and_volatile = refl

-- x ? p : null
pointer_or_else_null : becomes (node.Conditional x p null) ≡ of (pointer_to int) kind.Conditional (three x_held (as_pointer int p_held) (as_pointer int null))
unfolding fold
pointer_or_else_null = refl

-- x ? byte : u
char_or_else_unsigned : becomes (node.Conditional x byte u) ≡ of unsigned kind.Conditional (three x_held (as_unsigned byte_held) u_held)
char_or_else_unsigned = refl

-- x ? s : t
structure_or_else_a_const_one : becomes (node.Conditional x s t) ≡ of struct_s kind.Conditional (three x_held s t)
structure_or_else_a_const_one = refl

-- x, t
comma : becomes (node.Comma (two x t)) ≡ of struct_s kind.Comma (two x_held t)
comma = refl
