-- The words of trees over places, whatever types stand there; and what is left of a number where so many statements are taken off.
-- Source: the profile of this compiler: int has 32 bits.
use Rattle.std.specs.Prelude.{◌≡◌, ◌+◌, ℕ, IfSome, Option, List, map}
use Rattle.c_types.specs.CType.{CType}
use Rattle.c_types.specs.Table.{Table, types}
use Rattle.c_meaning.specs.declared.core_unit.CoreFunction.{CoreFunction}
use Rattle.c_meaning.specs.declared.filled_place.FilledPlace.{FilledPlace}
use Rattle.c_meaning.specs.CoreTrees.{CoreOf, seen, all_seen, cores_of}
use Rattle.c_meaning.specs.Each.{EachExprs, EachIs, EachKinds}
use Rattle.c_meaning.specs.Numbers.{HasWords, IsWordKind, PlaceHasWords, StmtHasWords}
use Rattle.c_meaning.specs.StmtTrees.{StmtOf, StmtsOf, stmt_seen, stmts_seen}
use Rattle.c_meaning.specs.Units.{all_count, count, function_seen, total}
use Rattle.c_units.specs.Wholes.{FunctionHasWords}

-- ---- over places

abbrev pub ExprHasWords : CoreOf ℕ → Type 0
ExprHasWords c = (f : ℕ → CType) → HasWords (seen f c)

abbrev pub ExprsHaveWords : List (CoreOf ℕ) → Type 0
ExprsHaveWords cs = (f : ℕ → CType) → EachKinds IsWordKind (all_seen f (cores_of cs))

abbrev pub SomeHasWords : Option (CoreOf ℕ) → Type 0
SomeHasWords e = IfSome e ExprHasWords

abbrev pub PlaceWords : FilledPlace → Type 0
PlaceWords p = ExprHasWords p.value

abbrev pub PlacesHaveWords : List FilledPlace → Type 0
PlacesHaveWords ps = EachIs PlaceWords ps

-- ---- statements taken off a number, whose numbers have 32 bits

abbrev pub IsCounted : ℕ → ℕ → StmtOf ℕ → Type 0
IsCounted most left s = (f : ℕ → CType) → (left + count (stmt_seen f s) ≡ most) × StmtHasWords (stmt_seen f s)

abbrev pub AreCounted : ℕ → ℕ → StmtsOf ℕ → Type 0
AreCounted most left ss = (f : ℕ → CType) → (left + all_count (stmts_seen f ss) ≡ most) × EachExprs HasWords PlaceHasWords (stmts_seen f ss)

-- functions with their locals and statements
abbrev pub AreCountedFunctions : ℕ → ℕ → List CoreFunction → Type 0
AreCountedFunctions most left fs = (t : Table) → (left + total (map (function_seen (types t)) fs) ≡ most) × EachIs FunctionHasWords (map (function_seen (types t)) fs)
