-- What a run of letters, digits, `_` and `.` is that begins as a constant: an integer constant, or a fault.
-- Source: C89 3.1.3.1 and 3.1.3.2, without floating constants.
use Rattle.std.specs.Prelude.{ℕ, Bool, false, ◌||◌, ◌&&◌, ◌==◌, not, List, [], ◌∷◌, Option, Some, None, Result, Ok, Err, if◌then◌else◌}
use Rattle.std.specs.List.{list_any}
use Rattle.c_ast.specs.declared.class.Class.{Class}
use Rattle.c_lexer.specs.declared.lex_fault.LexFaultKind.{LexFaultKind}
use Rattle.c_lexer.specs.declared.lex_fault.LexFaultKind.TheVariants.{BadConstant, FloatConstant}
use Rattle.c_lexer.specs.Integers.{starts_x, integer_of}

-- `0x` or `0X` stands somewhere
abbrev pub has_0x : List ℕ → Bool
has_0x [] = false
has_0x (b ∷ bs) = (b == 48 && starts_x bs) || has_0x bs

-- it has a `.`, or an `e` or `E` and no `0x`
abbrev pub is_floating : List ℕ → Bool
is_floating t = list_any (λ b. b == 46) t || (list_any (λ b. b == 101 || b == 69) t && not (has_0x t))

abbrev pub class_or_fault : Option Class → Bool → Result Class LexFaultKind
class_or_fault (Some class) floating = Ok class
class_or_fault None floating = if floating then Err FloatConstant else Err BadConstant

abbrev pub constant_of : List ℕ → Result Class LexFaultKind
constant_of t = class_or_fault (integer_of t) (is_floating t)
