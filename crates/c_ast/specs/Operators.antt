-- How operators and keywords are spelled, and the levels of binary operators. Numbers are places in the lists of signs and of
-- keywords.
-- Source: C89 3.1.1, 3.1.5, 3.3 and 3.5.
use Rattle.std.specs.Prelude.{ℕ}
use Rattle.c_ast.specs.declared.operator.BinaryOperator.{BinaryOperator}
use Rattle.c_ast.specs.declared.operator.BinaryOperator.TheVariants as binary
use Rattle.c_ast.specs.declared.operator.AssignOperator.{AssignOperator}
use Rattle.c_ast.specs.declared.operator.AssignOperator.TheVariants as assign
use Rattle.c_ast.specs.declared.operator.PrefixOperator.{PrefixOperator}
use Rattle.c_ast.specs.declared.operator.PrefixOperator.TheVariants as prefix
use Rattle.c_ast.specs.declared.operator.PostfixOperator.{PostfixOperator}
use Rattle.c_ast.specs.declared.operator.PostfixOperator.TheVariants as postfix
use Rattle.c_ast.specs.declared.operator.MemberOperator.{MemberOperator}
use Rattle.c_ast.specs.declared.operator.MemberOperator.TheVariants as member
use Rattle.c_ast.specs.declared.specifier.Storage.{Storage}
use Rattle.c_ast.specs.declared.specifier.Storage.TheVariants as storage
use Rattle.c_ast.specs.declared.specifier.Qualifier.{Qualifier}
use Rattle.c_ast.specs.declared.specifier.Qualifier.TheVariants as qualifier
use Rattle.c_ast.specs.declared.specifier.BasicType.{BasicType}
use Rattle.c_ast.specs.declared.specifier.BasicType.TheVariants as basic
use Rattle.c_ast.specs.declared.specifier.RecordKind.{RecordKind}
use Rattle.c_ast.specs.declared.specifier.RecordKind.TheVariants as record_kind
use Rattle.c_ast.specs.Signs.{dot_sign, arrow_sign, increment_sign, decrement_sign, ampersand, star_sign, plus_sign, minus_sign, tilde, exclamation_mark, slash, percent_sign, shift_left_sign, shift_right_sign, less_sign, greater_sign, less_equal_sign, greater_equal_sign, equal_sign, not_equal_sign, caret, bar, and_sign, or_sign, equals_sign, star_equals, slash_equals, percent_equals, plus_equals, minus_equals, shift_left_equals, shift_right_equals, ampersand_equals, caret_equals, bar_equals}
use Rattle.c_ast.specs.Keywords.{auto_word, char_word, const_word, double_word, extern_word, float_word, int_word, long_word, register_word, short_word, signed_word, static_word, struct_word, typedef_word, union_word, unsigned_word, void_word, volatile_word}

-- ---- levels of expressions: 0 expr, 1 assign, 2 cond, 3 to 12 binary, 13 cast, 14 unary, 15 postfix and primary

abbrev pub expression_level : ℕ
expression_level = 0

abbrev pub assignment_level : ℕ
assignment_level = 1

abbrev pub conditional_level : ℕ
conditional_level = 2

abbrev pub cast_level : ℕ
cast_level = 13

abbrev pub unary_level : ℕ
unary_level = 14

abbrev pub postfix_level : ℕ
postfix_level = 15

abbrev pub level_of : BinaryOperator → ℕ
level_of binary.Or = 3
level_of binary.And = 4
level_of binary.BitOr = 5
level_of binary.BitXor = 6
level_of binary.BitAnd = 7
level_of binary.Equal = 8
level_of binary.NotEqual = 8
level_of binary.Less = 9
level_of binary.Greater = 9
level_of binary.LessEqual = 9
level_of binary.GreaterEqual = 9
level_of binary.ShiftLeft = 10
level_of binary.ShiftRight = 10
level_of binary.Add = 11
level_of binary.Subtract = 11
level_of binary.Multiply = 12
level_of binary.Divide = 12
level_of binary.Remainder = 12

abbrev pub binary_sign : BinaryOperator → ℕ
binary_sign binary.Or = or_sign
binary_sign binary.And = and_sign
binary_sign binary.BitOr = bar
binary_sign binary.BitXor = caret
binary_sign binary.BitAnd = ampersand
binary_sign binary.Equal = equal_sign
binary_sign binary.NotEqual = not_equal_sign
binary_sign binary.Less = less_sign
binary_sign binary.Greater = greater_sign
binary_sign binary.LessEqual = less_equal_sign
binary_sign binary.GreaterEqual = greater_equal_sign
binary_sign binary.ShiftLeft = shift_left_sign
binary_sign binary.ShiftRight = shift_right_sign
binary_sign binary.Add = plus_sign
binary_sign binary.Subtract = minus_sign
binary_sign binary.Multiply = star_sign
binary_sign binary.Divide = slash
binary_sign binary.Remainder = percent_sign

abbrev pub assign_sign : AssignOperator → ℕ
assign_sign assign.Plain = equals_sign
assign_sign assign.Multiply = star_equals
assign_sign assign.Divide = slash_equals
assign_sign assign.Remainder = percent_equals
assign_sign assign.Add = plus_equals
assign_sign assign.Subtract = minus_equals
assign_sign assign.ShiftLeft = shift_left_equals
assign_sign assign.ShiftRight = shift_right_equals
assign_sign assign.BitAnd = ampersand_equals
assign_sign assign.BitXor = caret_equals
assign_sign assign.BitOr = bar_equals

abbrev pub prefix_sign : PrefixOperator → ℕ
prefix_sign prefix.Increment = increment_sign
prefix_sign prefix.Decrement = decrement_sign
prefix_sign prefix.Address = ampersand
prefix_sign prefix.Indirect = star_sign
prefix_sign prefix.Plus = plus_sign
prefix_sign prefix.Minus = minus_sign
prefix_sign prefix.Complement = tilde
prefix_sign prefix.Not = exclamation_mark

-- the level of what stands behind it
abbrev pub operand_level : PrefixOperator → ℕ
operand_level prefix.Increment = 14
operand_level prefix.Decrement = 14
operand_level prefix.Address = 13
operand_level prefix.Indirect = 13
operand_level prefix.Plus = 13
operand_level prefix.Minus = 13
operand_level prefix.Complement = 13
operand_level prefix.Not = 13

abbrev pub postfix_sign : PostfixOperator → ℕ
postfix_sign postfix.Increment = increment_sign
postfix_sign postfix.Decrement = decrement_sign

abbrev pub member_sign : MemberOperator → ℕ
member_sign member.Dot = dot_sign
member_sign member.Arrow = arrow_sign

abbrev pub storage_word : Storage → ℕ
storage_word storage.Typedef = typedef_word
storage_word storage.Extern = extern_word
storage_word storage.Static = static_word
storage_word storage.Auto = auto_word
storage_word storage.Register = register_word

abbrev pub qualifier_word : Qualifier → ℕ
qualifier_word qualifier.Const = const_word
qualifier_word qualifier.Volatile = volatile_word

abbrev pub basic_word : BasicType → ℕ
basic_word basic.Void = void_word
basic_word basic.Char = char_word
basic_word basic.Short = short_word
basic_word basic.Int = int_word
basic_word basic.Long = long_word
basic_word basic.Signed = signed_word
basic_word basic.Unsigned = unsigned_word
basic_word basic.Float = float_word
basic_word basic.Double = double_word

abbrev pub record_word : RecordKind → ℕ
record_word record_kind.Struct = struct_word
record_word record_kind.Union = union_word
