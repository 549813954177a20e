-- The rows of expressions whose parts are all evaluated first, by what the parts have come to.
use Rattle.std.specs.Prelude.{Bool, true, false, nat_lt}
use Rattle.c_types.specs.CType.{CType}
use Rattle.lcc_base.specs.declared.order.Order.{Order}
use Rattle.c_meaning.specs.declared.core_expr.Conversion.TheVariants as to
use Rattle.c_meaning.specs.declared.core_expr.CoreKind.{CoreKind}
use Rattle.c_meaning.specs.declared.core_expr.CoreKind.TheVariants as kind
use Rattle.c_meaning.specs.CoreTrees.{type_of}
use Rattle.c_meaning.specs.Types.{is_pointer, is_record}
use Rattle.c_meaning.specs.Values.{CoreTree}
use Rattle.c_runs.specs.Places.{Spot, spot_of}
use Rattle.c_rows_agree.specs.Typed.{Typed}
use Rattle.c_rows_agree.specs.Integers.{converted_to, as_pointer, unary_of, binary_of}
use Rattle.c_pointers_agree.specs.Pointers.{moved_among, difference}
use Rattle.lowered_forms.specs.Contexts.{Context}
use Rattle.lowered_forms.specs.Lows.{Low}
use Rattle.lowered_forms.specs.Values.{Lowered, with_value, nothing, placed}
use Rattle.lowered_forms.specs.Places.{room_of, further}
use Rattle.lowered_forms.specs.Accesses.{read}
use Rattle.lowered_forms.specs.Changes.{assigned_by, changed_at, new_given, old_given}

-- with one part
abbrev pub one_row : Context → CoreKind → CType → CoreTree → Typed → Low → Lowered
one_row s (kind.Member offset first width) of a v l = placed (further (nat_lt offset (room_of s a)) offset v) l
one_row s kind.Read of a v l = placed (read s.order (spot_of a) v) l
one_row s (kind.Convert to.Void) of a v l = nothing l
one_row s (kind.Convert to.Pointer) of a v l = placed (as_pointer v) l
one_row s (kind.Convert (to.Integer x)) of a v l = placed (converted_to x v) l
one_row s (kind.Unary o) of a v l = placed (unary_of o v) l
one_row s what of a v l = with_value v l

abbrev pub given_by : Bool → Order → Spot → Typed → Typed → Typed → Low → Lowered
given_by true order x p old new l = old_given order x p old new l
given_by false order x p old new l = new_given order x p old new l

-- with two
abbrev pub two_row : Context → CoreKind → CType → CoreTree → Typed → Typed → Low → Lowered
two_row s (kind.Binary o signed) of a v w l = placed (binary_of o signed v w) l
two_row s (kind.Move size back) of a v w l = placed (moved_among size back (is_pointer (type_of a)) v w) l
two_row s (kind.Difference size) of a v w l = placed (difference size v w) l
two_row s kind.Assign of a v w l = assigned_by (is_record of) s of (spot_of a) v w l
two_row s (kind.Change by) of a v w l = changed_at s.order by (spot_of a) (given_by false) v w l
two_row s (kind.Postfix by) of a v w l = changed_at s.order by (spot_of a) (given_by true) v w l
two_row s what of a v w l = nothing l
