-- A local's first value: zeros as a whole, where it is said, and then each place that is filled, in turn. A string's place gets zeros of its
-- own behind the string, since a value before it may have stored there.
-- Source: ISO/IEC 9899:1990, 6.5.7.
use Rattle.std.specs.Prelude.{ℕ, ◌+◌, ◌-◌, ◌*◌, ◌/◌, ◌%◌, min, pos, nat_lt, Bool, true, false, Option, Some, None, List, [], ◌∷◌, length, get_or, slice_get}
use Rattle.objects.specs.declared.width.Width.TheVariants.{One, Four}
use Rattle.c_types.specs.CType.{CType, Array}
use Rattle.c_types.specs.Layout.{Tag}
use Rattle.c_meaning.specs.declared.core_expr.CoreKind.{CoreKind}
use Rattle.c_meaning.specs.declared.core_expr.CoreKind.TheVariants as kind
use Rattle.c_meaning.specs.CoreTrees.{what_of}
use Rattle.c_meaning.specs.StmtTrees.{FilledOf}
use Rattle.c_meaning.specs.Types.{is_array, is_record}
use Rattle.c_runs.specs.Places.{spot_filled, size_of}
use Rattle.c_rows_agree.specs.Typed.{Typed}
use Rattle.c_pointers_agree.specs.Pointers.{name}
use Rattle.lowered_forms.specs.Accesses.{copy_root, copied, written}
use Rattle.lowered_forms.specs.Contexts.{text_name}
use Rattle.lowered_forms.specs.Expressions.{low_e}
use Rattle.lowered_forms.specs.Lows.{Low, acted}
use Rattle.lowered_forms.specs.Places.{further, local_place}
use Rattle.lowered_forms.specs.Tests.{then_branched}
use Rattle.lowered_statements.specs.Functions.{Function}
use Rattle.lowered_statements.specs.Zeroing.{zeroed, zeroed_each}

-- so many bytes of an object, from a place on; where there are none they may stand behind its last byte
abbrev pub part_at : ℕ → ℕ → Typed → Typed
part_at size offset base = further (nat_lt 0 size) offset base

-- ---- strings: the literal's bytes, with its null where there is room, and then zeros

abbrev pub text_copied : Typed → Typed → ℕ → ℕ → ℕ → Low → Low
text_copied base text offset bytes room l = zeroed base One (offset + bytes) (room - bytes) (acted (copy_root bytes 1 (part_at room offset base) text) l)

abbrev pub text_filled : Function → Typed → ℕ → CType → CoreKind → Low → Low
text_filled f base offset (Array of (Some room)) (kind.Text n) l =
    text_copied base (name (text_name f.context.unit n) (pos 0)) offset (min room (length (get_or f.context.unit.texts n []) + 1)) room l
text_filled f base offset of what l = l

-- ---- places

-- an array of characters by a string, a structure as a whole, a scalar or a bit-field
abbrev pub filled_by : Bool → Bool → Function → Typed → FilledOf CType → Typed → Low → Low
filled_by true whole f base p v l = text_filled f base p.offset p.of (what_of p.value) l
filled_by false true f base p v l = copied f.context.unit.tags p.of (part_at (size_of f.context.unit.tags p.of) p.offset base) v l
filled_by false false f base p v l = written false f.context.order (spot_filled p) (further true p.offset base) v l

abbrev pub filled : Function → Typed → FilledOf CType → Low → Low
filled f base p l = then_branched (low_e f.context p.value l) (λ v l1. filled_by (is_array p.of) (is_record p.of) f base p v l1)

abbrev pub all_filled : Function → Typed → List (FilledOf CType) → Low → Low
all_filled f base [] l = l
all_filled f base (p ∷ ps) l = all_filled f base ps (filled f base p l)

-- ---- the whole

-- by words, and by bytes where they end in a part of one
abbrev pub zeroed_whole : Bool → Typed → ℕ → Low → Low
zeroed_whole true base size l = zeroed_each base One (4 * (size / 4)) (size % 4) (zeroed base Four 0 (size / 4) l)
zeroed_whole false base size l = l

abbrev pub initialised_at : Function → Typed → ℕ → Bool → List (FilledOf CType) → Low → Low
initialised_at f base size zero ps l = all_filled f base ps (zeroed_whole zero base size l)

abbrev pub initialised_as : Function → ℕ → Option CType → Bool → List (FilledOf CType) → Low → Low
initialised_as f n None zero ps l = l
initialised_as f n (Some of) zero ps l = initialised_at f (local_place f.context n of) (size_of f.context.unit.tags of) zero ps l

abbrev pub initialised : Function → ℕ → Bool → List (FilledOf CType) → Low → Low
initialised f n zero ps l = initialised_as f n (slice_get f.locals n) zero ps l
