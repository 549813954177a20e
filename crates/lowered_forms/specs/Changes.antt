-- Assignments and changes: the place, evaluated once; the right operand; and then the place is read, if it is changed, and written.
-- Source: ISO/IEC 9899:1990, 6.3.2.4, 6.3.3.1, 6.3.16.
use Rattle.std.specs.Prelude.{Bool, true, false}
use Rattle.lcc_base.specs.declared.order.Order.{Order}
use Rattle.c_types.specs.CType.{CType}
use Rattle.c_meaning.specs.declared.core_expr.Change.{Change}
use Rattle.c_meaning.specs.declared.core_expr.Change.TheVariants as change
use Rattle.c_meaning.specs.Scalars.{scalar_of}
use Rattle.c_meaning.specs.Types.{is_record}
use Rattle.c_runs.specs.Places.{Spot, spot_of}
use Rattle.c_rows_agree.specs.Typed.{Typed}
use Rattle.c_rows_agree.specs.Integers.{converted_to, binary_of}
use Rattle.c_pointers_agree.specs.Pointers.{moved}
use Rattle.lowered_forms.specs.Contexts.{Context}
use Rattle.lowered_forms.specs.Lows.{Low}
use Rattle.lowered_forms.specs.Values.{Lowered, Part, with_value, then_low, placed, of_two}
use Rattle.lowered_forms.specs.Accesses.{read, written, assigned, copied}

-- ---- assignments

abbrev pub assigned_by : Bool → Context → CType → Spot → Typed → Typed → Low → Lowered
assigned_by true s of x p v l = placed p (copied s.unit.tags of p v l)
assigned_by false s of x p v l = assigned s.order x p v l

abbrev pub assignment : Context → CType → Part → Part → Low → Lowered
assignment s of a b l = of_two a b l (λ p v l1. assigned_by (is_record of) s of (spot_of a.tree) p v l1)

-- ---- changes

-- the new value, by the old one and the right operand
abbrev pub changed : Change → Spot → Typed → Typed → Typed
changed (change.Arithmetic o signed) x old v = converted_to (scalar_of x.of) (binary_of o signed old v)
changed (change.Pointer size back) x old v = moved size back old v

-- what is given, when it is written: the new value, or the old one
abbrev pub new_given : Order → Spot → Typed → Typed → Typed → Low → Lowered
new_given order x p old new l = assigned order x p new l

abbrev pub old_given : Order → Spot → Typed → Typed → Typed → Low → Lowered
old_given order x p old new l = with_value old (written false order x p new l)

abbrev pub changed_at : Order → Change → Spot → (Order → Spot → Typed → Typed → Typed → Low → Lowered) → Typed → Typed → Low → Lowered
changed_at order by x give p v l = then_low (placed (read order x p) l) (λ old l1. then_low (placed (changed by x old v) l1) (λ new l2. give order x p old new l2))

abbrev pub changing : Context → Change → (Order → Spot → Typed → Typed → Typed → Low → Lowered) → Part → Part → Low → Lowered
changing s by give a b l = of_two a b l (λ p v l1. changed_at s.order by (spot_of a.tree) give p v l1)
