-- What fills a place: a string, where it is an array; a structure as a whole, a scalar or a bit-field where it is none.
-- Source: ISO/IEC 9899:1990, 6.5.7.
use Rattle.std.specs.Prelude.{◌≡◌, ℕ, ◌+◌, min, pos, length, get_or, [], Bool, true, false, Option, Some, None}
use Rattle.c_types.specs.CType.{Array, CType}
use Rattle.c_types.specs.declared.type_form.MemberPlace.{MemberPlace}
use Rattle.c_meaning.specs.declared.core_expr.CoreKind.{CoreKind}
use Rattle.c_meaning.specs.declared.core_expr.CoreKind.TheVariants as kind
use Rattle.c_meaning.specs.declared.filled_place.FilledPlace.{FilledPlace}
use Rattle.c_meaning.specs.CoreTrees.{what_of}
use Rattle.c_meaning.specs.StmtTrees.{FilledOf, filled_of, place_seen}
use Rattle.c_meaning.specs.Types.{is_record}
use Rattle.c_meaning.specs.Units.{UnitTree}
use Rattle.c_runs.specs.Places.{Spot, size_of}
use Rattle.c_rows_agree.specs.Typed.{Typed}
use Rattle.lowered_forms.specs.Accesses.{copied, written}
use Rattle.c_pointers_agree.specs.Pointers.{name}
use Rattle.lowered_forms.specs.Contexts.{Context, text_name}
use Rattle.lowered_forms.specs.Lows.{Low}
use Rattle.lowered_forms.specs.Places.{further}
use Rattle.lowered_statements.specs.Initialisers.{part_at, text_copied, text_filled}
use Rattle.lowering_acts.specs.declared.site.Site.{Site}
use Rattle.lowering_acts.specs.Sites.{type_in}
use Rattle.lowering_steps.specs.declared.state.State.{State}
use Rattle.statement_steps.specs.declared.site.FunctionSite.{FunctionSite}
use Rattle.statement_steps.specs.Functions.{function_of}
use Rattle.statement_steps.specs.Progresses.{Goes}

-- what stands at a place of an object
abbrev pub spot_at : Site → MemberPlace → Spot
spot_at s at = record { of = type_in s at.of; first = at.first; width = at.width }

abbrev pub filled_as : Bool → Context → Spot → ℕ → Typed → Typed → Low → Low
filled_as true s x offset base v l = copied s.unit.tags x.of (part_at (size_of s.unit.tags x.of) offset base) v l
filled_as false s x offset base v l = written false s.order x (further true offset base) v l

abbrev pub filled_otherwise : Context → Spot → ℕ → Typed → Typed → Low → Low
filled_otherwise s x offset base v l = filled_as (is_record x.of) s x offset base v l

-- the string's number, if a value is a string of the unit
abbrev pub text_of : CoreKind → Option ℕ
text_of (kind.Text n) = Some n
text_of what = None

-- ---- arrays of characters

abbrev pub place_of : FunctionSite → FilledPlace → FilledOf CType
place_of f p = place_seen (type_in f.site) (filled_of p)

-- a string of the unit is copied to so much room at an offset
abbrev pub CopiesString : UnitTree → (n offset room : ℕ) → Typed → State → State → Type 0
CopiesString u n offset room base s t =
    Goes (λ l. text_copied base (name (text_name u n) (pos 0)) offset (min room (length (get_or u.texts n []) + 1)) room l) s t

-- an array of this length is filled
abbrev pub FillsArray : FunctionSite → FilledPlace → Option ℕ → Typed → State → State → Type 0
FillsArray f p count base s t =
    (of : CType) → (place_of f p).of ≡ Array of count → Goes (λ l. text_filled (function_of f) base p.at.offset (place_of f p).of (what_of (place_of f p).value) l) s t
