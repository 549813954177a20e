-- A string and a value that is none, an array of no length, and tables on no side.
use Rattle.std.specs.Prelude.{◌≡◌, ℕ, Some, None, []}
use Rattle.std.proofs.Common.{refl}
use Rattle.c_types.specs.CType.{CType, Array}
use Rattle.c_meaning.specs.declared.core_expr.CoreKind.{CoreKind}
use Rattle.c_meaning.specs.declared.core_expr.CoreKind.TheVariants as kind
use Rattle.c_rows_agree.specs.Typed.{Typed}
use Rattle.lowered_forms.specs.Lows.{Low}
use Rattle.lowered_statements.specs.Bodies.{Body}
use Rattle.lowered_statements.specs.Functions.{Function}
use Rattle.lowered_statements.specs.Initialisers.{text_filled}
use Rattle.lowered_statements.specs.Searches.{Choice, side_at, way}
use Rattle.switch_tables.specs.Searches.{search_over}
use Rattle.statement_steps.specs.Places.{text_of}
use Rattle.statement_steps.specs.Sides.{side_of}

is_text : text_of (kind.Text 3) ≡ Some 3
is_text = refl

is_none : text_of kind.Read ≡ None
is_none = refl

-- an array without a length stays as it is
is_kept : (f : Function) (base : Typed) (offset : ℕ) (of : CType) (what : CoreKind) (l : Low) → text_filled f base offset (Array of None) what l ≡ l
is_kept f base offset of what l = refl

-- where there is no table, nothing is done, and a number goes the default's way
no_side : (f : Function) (x : Choice) (n : ℕ) (b : Body) → side_at (side_of f x []) n b ≡ b
no_side f x n b = refl

default_way : way (search_over []) 5 9 ≡ 5
default_way = refl
