-- Examples of constant expressions, as syntax trees, and of their values.
use Rattle.std.specs.Prelude.{◌≡◌, refl, ℕ, ℤ, pos, negsuc, codes, true, false, Option, Some, None, [], ◌∷◌}
use Rattle.c_ast.specs.declared.class.IntKind.TheVariants as int_kind
use Rattle.c_ast.specs.declared.operator.BinaryOperator.{BinaryOperator}
use Rattle.c_ast.specs.declared.operator.BinaryOperator.TheVariants as binary
use Rattle.c_ast.specs.declared.operator.PrefixOperator.TheVariants as prefix
use Rattle.c_ast.specs.declared.specifier.BasicType.{BasicType}
use Rattle.c_ast.specs.declared.specifier.BasicType.TheVariants as word
use Rattle.c_ast.specs.Trees.{ExprTree, Name, Integer, Character, Enclosed, Call, Prefix, SizeofExpr, Cast, Binary, Conditional, Comma, NoExprs, Exprs, TypeNamed, Specified, Basic, NoSpecifiers, Specifiers, NoDeclarator, ADeclarator, Declarator, Omitted, NoSuffixes}
use Rattle.c_types.specs.CType.{Void, Char, Int, basic}
use Rattle.c_meaning.specs.Types.{pointer_to}
use Rattle.c_meaning.specs.Values.{CoreTree}
use Rattle.c_meaning.specs.Constants.{fold, is_null}
use Rattle.c_meaning.specs.Constraints.{fault_at}
use Rattle.c_meaning.specs.Typing.{Outcome, Fine, Bad, typed}
use Rattle.c_meaning.specs.Samples.{const, sample, constant, unsigned_constant, local, cast, null}

-- the value of what is typed, which may have none; None where there is a fault
abbrev value_of : Outcome CoreTree → Option (Option ℤ)
value_of (Fine s c) = Some (fold c)
value_of (Bad f) = None

abbrev folded : ExprTree → Option (Option ℤ)
folded e = value_of (typed sample e)

-- ---- trees of line 1

abbrev int : ℕ → ExprTree
int n = Integer 1 n int_kind.Int

abbrev unsigned : ℕ → ExprTree
unsigned n = Integer 1 n int_kind.Unsigned

abbrev both : ExprTree → BinaryOperator → ExprTree → ExprTree
both a op b = Binary 1 op a b

abbrev minus : ExprTree → ExprTree
minus e = Prefix 1 prefix.Minus e

abbrev choice : ExprTree → ExprTree → ExprTree → ExprTree
choice a b c = Conditional 1 a b c

abbrev to_word : BasicType → ExprTree → ExprTree
to_word w e = Cast 1 (TypeNamed 1 (Specified 1 (Specifiers (Basic 1 w) NoSpecifiers)) NoDeclarator) e

abbrev to_char_pointer : ExprTree → ExprTree
to_char_pointer e =
    Cast 1 (TypeNamed 1 (Specified 1 (Specifiers (Basic 1 word.Char) NoSpecifiers)) (ADeclarator (Declarator 1 ([] ∷ []) Omitted NoSuffixes))) e

-- 1/0
abbrev by_zero : ExprTree
by_zero = both (int 1) binary.Divide (int 0)

-- ---- values

-- 7/2-(-7)/2
quotients : folded (both (both (int 7) binary.Divide (int 2)) binary.Subtract (both (Enclosed 1 (minus (int 7))) binary.Divide (int 2))) ≡ Some (Some (pos 6))
unfolding fold fault_at
quotients = refl

-- -7%2
remainder : folded (both (minus (int 7)) binary.Remainder (int 2)) ≡ Some (Some (negsuc 0))
unfolding fold fault_at
remainder = refl

-- 1u-2>0
unsigned_difference : folded (both (both (unsigned 1) binary.Subtract (int 2)) binary.Greater (int 0)) ≡ Some (Some (pos 1))
unfolding fold fault_at
unsigned_difference = refl

-- -1<1
signed_comparison : folded (both (minus (int 1)) binary.Less (int 1)) ≡ Some (Some (pos 1))
unfolding fold fault_at
signed_comparison = refl

-- -1<1u
unsigned_comparison : folded (both (minus (int 1)) binary.Less (unsigned 1)) ≡ Some (Some (pos 0))
unfolding fold fault_at
unsigned_comparison = refl

-- -1>>1
signed_shift : folded (both (minus (int 1)) binary.ShiftRight (int 1)) ≡ Some (Some (negsuc 0))
unfolding fold fault_at
signed_shift = refl

-- -1u>>1
unsigned_shift : folded (both (minus (unsigned 1)) binary.ShiftRight (int 1)) ≡ Some (Some (pos 2147483647))
unfolding fold fault_at
unsigned_shift = refl

-- 1<<31
greatest_shift : folded (both (int 1) binary.ShiftLeft (int 31)) ≡ Some (Some (negsuc 2147483647))
unfolding fold fault_at
greatest_shift = refl

-- 2147483647+1
sum_that_wraps : folded (both (int 2147483647) binary.Add (int 1)) ≡ Some (Some (negsuc 2147483647))
unfolding fold fault_at
sum_that_wraps = refl

-- 6&3^8
bits : folded (both (both (int 6) binary.BitAnd (int 3)) binary.BitXor (int 8)) ≡ Some (Some (pos 10))
unfolding fold fault_at
bits = refl

-- ~0u
complement : folded (Prefix 1 prefix.Complement (unsigned 0)) ≡ Some (Some (pos 4294967295))
unfolding fold fault_at
complement = refl

-- !5
negation : folded (Prefix 1 prefix.Not (int 5)) ≡ Some (Some (pos 0))
unfolding fold fault_at
negation = refl

-- '\377'
character : folded (Character 1 (negsuc 0)) ≡ Some (Some (negsuc 0))
unfolding fold fault_at
character = refl

-- first
enumerator : folded (Name 1 (codes "first")) ≡ Some (Some (pos 0))
unfolding fold fault_at
enumerator = refl

-- sizeof x*2
size : folded (both (SizeofExpr 1 (Name 1 (codes "x"))) binary.Multiply (int 2)) ≡ Some (Some (pos 8))
unfolding fold fault_at
size = refl

-- sizeof g()
size_of_a_call : folded (SizeofExpr 1 (Call 1 (Name 1 (codes "g")) NoExprs)) ≡ Some (Some (pos 4))
unfolding fold fault_at
size_of_a_call = refl

-- (char)200
char_cast : folded (to_word word.Char (int 200)) ≡ Some (Some (negsuc 55))
unfolding fold fault_at
char_cast = refl

-- (unsigned)-1
unsigned_cast : folded (to_word word.Unsigned (minus (int 1))) ≡ Some (Some (pos 4294967295))
unfolding fold fault_at
unsigned_cast = refl

-- 1 ? 2 : 1/0
choice_of_the_first : folded (choice (int 1) (int 2) by_zero) ≡ Some (Some (pos 2))
unfolding fold fault_at
choice_of_the_first = refl

-- 0 ? 1/0 : -1u>0
choice_of_the_second : folded (choice (int 0) by_zero (both (minus (unsigned 1)) binary.Greater (int 0))) ≡ Some (Some (pos 1))
unfolding fold fault_at
choice_of_the_second = refl

-- 0 ? 1u : -1
choice_between_signs : folded (choice (int 0) (unsigned 1) (minus (int 1))) ≡ Some (Some (pos 4294967295))
unfolding fold fault_at
choice_between_signs = refl

-- 0 && 1/0
false_and_no_value : folded (both (int 0) binary.And by_zero) ≡ Some (Some (pos 0))
unfolding fold fault_at
false_and_no_value = refl

-- 2 && 3
both_hold : folded (both (int 2) binary.And (int 3)) ≡ Some (Some (pos 1))
unfolding fold fault_at
both_hold = refl

-- 1 || 1/0
true_or_no_value : folded (both (int 1) binary.Or by_zero) ≡ Some (Some (pos 1))
unfolding fold fault_at
true_or_no_value = refl

-- ---- no values

-- 1/0
quotient_by_zero : folded by_zero ≡ Some None
unfolding fold fault_at
quotient_by_zero = refl

-- (-2147483647-1)/-1
quotient_above_int : folded (both (Enclosed 1 (both (minus (int 2147483647)) binary.Subtract (int 1))) binary.Divide (minus (int 1))) ≡ Some None
unfolding fold fault_at
quotient_above_int = refl

-- 1<<32
shift_by_the_width : folded (both (int 1) binary.ShiftLeft (int 32)) ≡ Some None
unfolding fold fault_at
shift_by_the_width = refl

-- 1>>-1
shift_backwards : folded (both (int 1) binary.ShiftRight (minus (int 1))) ≡ Some None
unfolding fold fault_at
shift_backwards = refl

-- 1 ? 1/0 : 2
choice_of_no_value : folded (choice (int 1) by_zero (int 2)) ≡ Some None
unfolding fold fault_at
choice_of_no_value = refl

-- 1 && 1/0
true_and_no_value : folded (both (int 1) binary.And by_zero) ≡ Some None
unfolding fold fault_at
true_and_no_value = refl

-- x
object : folded (Name 1 (codes "x")) ≡ Some None
unfolding fold fault_at
object = refl

-- 0 && g()
call_that_is_not_made : folded (both (int 0) binary.And (Call 1 (Name 1 (codes "g")) NoExprs)) ≡ Some None
unfolding fold fault_at
call_that_is_not_made = refl

-- 1 ? 2 : x
choice_beside_an_object : folded (choice (int 1) (int 2) (Name 1 (codes "x"))) ≡ Some None
unfolding fold fault_at
choice_beside_an_object = refl

-- 1 ? 2 : (int)(char *)0
choice_beside_a_cast_of_a_pointer : folded (choice (int 1) (int 2) (to_word word.Int (to_char_pointer (int 0)))) ≡ Some None
unfolding fold fault_at
choice_beside_a_cast_of_a_pointer = refl

-- (1,2)
comma : folded (Enclosed 1 (Comma 1 (Exprs (int 1) (Exprs (int 2) NoExprs)))) ≡ Some None
unfolding fold fault_at
comma = refl

-- 1/y
fault_in_a_part : folded (both (int 1) binary.Divide (Name 1 (codes "y"))) ≡ None
unfolding fold fault_at
fault_in_a_part = refl

-- ---- null pointer constants

-- 0
zero : is_null (constant 0) ≡ true
unfolding fold
zero = refl

-- 0u
unsigned_zero : is_null (unsigned_constant 0) ≡ true
unfolding fold
unsigned_zero = refl

-- (char)256
zero_that_is_computed : is_null (cast (basic Char) (constant 256)) ≡ true
unfolding fold
zero_that_is_computed = refl

-- (void *)0
zero_as_a_void_pointer : is_null null ≡ true
unfolding fold
zero_as_a_void_pointer = refl

-- (void *)(void *)0
null_as_a_void_pointer : is_null (cast (pointer_to (basic Void)) null) ≡ false
unfolding fold
null_as_a_void_pointer = refl

-- (const void *)0
zero_as_a_pointer_to_const : is_null (cast (pointer_to (const (basic Void))) (constant 0)) ≡ false
unfolding fold
zero_as_a_pointer_to_const = refl

-- (int *)0
zero_as_a_pointer_to_int : is_null (cast (pointer_to (basic Int)) (constant 0)) ≡ false
unfolding fold
zero_as_a_pointer_to_int = refl

-- (void *)1
one_as_a_void_pointer : is_null (cast (pointer_to (basic Void)) (constant 1)) ≡ false
unfolding fold
one_as_a_void_pointer = refl

-- 1
one : is_null (constant 1) ≡ false
unfolding fold
one = refl

-- x
object_that_may_be_zero : is_null (local (basic Int)) ≡ false
unfolding fold
object_that_may_be_zero = refl
