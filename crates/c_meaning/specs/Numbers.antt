-- The numbers that stand in a checked unit have 32 bits, and its string literals are of bytes.
-- Source: the profile of this compiler: int has 32 bits, a byte has 8.
use Rattle.std.specs.Prelude.{◌<◌, ◌^◌, ℕ, List}
use Rattle.c_types.specs.CType.{CType}
use Rattle.c_meaning.specs.declared.core_expr.CoreKind.{CoreKind}
use Rattle.c_meaning.specs.declared.core_expr.CoreKind.TheVariants as kind
use Rattle.c_meaning.specs.StmtTrees.{FilledOf, StmtOf}
use Rattle.c_meaning.specs.Values.{CoreTree}
use Rattle.c_meaning.specs.Each.{EachIs, EachKind, EachExpr}

abbrev pub IsWordKind : CoreKind → Type 0
IsWordKind (kind.Number n) = n < 2 ^ 32
IsWordKind what = Unit {0}

abbrev pub HasWords : CoreTree → Type 0
HasWords c = EachKind IsWordKind c

abbrev pub PlaceHasWords : FilledOf CType → Type 0
PlaceHasWords p = HasWords p.value

abbrev pub StmtHasWords : StmtOf CType → Type 0
StmtHasWords s = EachExpr HasWords PlaceHasWords s

abbrev pub IsByte : ℕ → Type 0
IsByte b = b < 256

abbrev pub IsText : List ℕ → Type 0
IsText bytes = EachIs IsByte bytes
