-- Expressions whose pointers move by elements that are no larger than objects.
-- Source: ISO/IEC 9899:1990, 6.3.2.4, 6.3.3.1, 6.3.6, 6.3.16.2; the profile of this compiler (objects of at most 2^24 bytes).
use Rattle.std.specs.Prelude.{◌≤◌, ℕ}
use Rattle.c_meaning.specs.declared.core_expr.Change.{Change}
use Rattle.c_meaning.specs.declared.core_expr.Change.TheVariants as change
use Rattle.c_meaning.specs.declared.core_expr.CoreKind.{CoreKind}
use Rattle.c_meaning.specs.declared.core_expr.CoreKind.TheVariants as kind
use Rattle.c_meaning.specs.Each.{EachKind}
use Rattle.c_meaning.specs.Values.{CoreTree}

-- an object may have so many bytes
abbrev pub IsObjectSize : ℕ → Type 0
IsObjectSize n = n ≤ 16777216

abbrev pub ChangesByObjects : Change → Type 0
ChangesByObjects (change.Arithmetic op signed) = Unit {0}
ChangesByObjects (change.Pointer size back) = IsObjectSize size

abbrev pub MovesByObjects : CoreKind → Type 0
MovesByObjects (kind.Move size back) = IsObjectSize size
MovesByObjects (kind.Difference size) = IsObjectSize size
MovesByObjects (kind.Change by) = ChangesByObjects by
MovesByObjects (kind.Postfix by) = ChangesByObjects by
MovesByObjects what = Unit {0}

-- each that moves in an expression
abbrev pub AllMoveByObjects : CoreTree → Type 0
AllMoveByObjects c = EachKind MovesByObjects c
