-- The tables of a lowered unit stand behind its own objects.
use Rattle.std.specs.Prelude.{◌≡◌, ℕ, ◌+◌, length, slice_get}
use Rattle.std.proofs.Common.{ap, ◌∙◌, arith}
use Rattle.lcc_base.specs.declared.order.Order.{Order}
use Rattle.op_forest.specs.Lowered.{LoweredUnit}
use Rattle.c_meaning.specs.Units.{UnitTree}
use Rattle.lowered_units.specs.LoweredUnits.{IsLoweredUnit}
use Rattle.lowered_units.specs.Tables.{all_tables, bodies, first_table}
use Rattle.lowered_units.proofs.lemmas.Placing.{get_right}

pub own_many : (u : UnitTree) (order : Order) (l : LoweredUnit) (i : IsLoweredUnit u order l) → length i.own ≡ length u.objects + length u.texts
own_many u order l i = i.holds.many ∙ i.holds.live

pub behind_own : (u : UnitTree) (order : Order) (l : LoweredUnit) (i : IsLoweredUnit u order l) (n k : ℕ) → n ≡ length u.objects + length u.texts + k
    → slice_get l.objects n ≡ slice_get (all_tables 0 (first_table u) (bodies u order)) k
behind_own u order l i n k e =
    let many = own_many u order l i in
    ap (λ os. slice_get os n) i.objects ∙ get_right i.own (all_tables 0 (first_table u) (bodies u order)) k n (omega (arith, e, many))
