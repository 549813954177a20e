-- What a lowered unit has, by its place.
use Rattle.std.specs.Prelude.{◌≡◌, ℕ, ◌+◌, Some, List, slice_get}
use Rattle.std.proofs.Common.{refl, ◌∙◌, arith}
use Rattle.lcc_base.specs.declared.order.Order.{Order}
use Rattle.op_forest.specs.Lowered.{LoweredUnit}
use Rattle.c_meaning.specs.Units.{FunctionTree, UnitTree}
use Rattle.lowered_statements.specs.FunctionBodies.{low_f}
use Rattle.lowered_units.specs.Laws.{HasFunction, HasTable, own_count, table_name, tables_before}
use Rattle.lowered_units.specs.LoweredUnits.{IsLoweredUnit}
use Rattle.lowered_units.specs.Tables.{bodies, first_table}
use Rattle.lowered_units.proofs.lemmas.Owning.{behind_own}
use Rattle.lowered_units.proofs.lemmas.Placing.{body_there, function_there, table_there}

pub functions_stand : (u : UnitTree) (order : Order) (l : LoweredUnit) → IsLoweredUnit u order l → (n : ℕ) (f : FunctionTree) → slice_get u.functions n ≡ Some f → HasFunction u order l n f
functions_stand u order l i n f e =
    let b = body_there u order 0 (first_table u) u.functions n n (table_name u order n) f e (omega arith) refl in
    let r = function_there 0 u.functions (bodies u order) l.functions n n f (low_f u order n (table_name u order n) f) i.functions e b (omega arith) in
    record { function = r.function; there = r.there; is = r.is }

pub tables_stand : (u : UnitTree) (order : Order) (l : LoweredUnit) → IsLoweredUnit u order l → (n : ℕ) (f : FunctionTree) → slice_get u.functions n ≡ Some f
    → (k : ℕ) (labels : List ℕ) → slice_get (low_f u order n (table_name u order n) f).tables k ≡ Some labels → HasTable u order l n k labels
tables_stand u order l i n f e k labels t =
    let before = tables_before u order n + k in
    let b = body_there u order 0 (first_table u) u.functions n n (table_name u order n) f e (omega arith) refl in
    behind_own u order l i (own_count u + before) before refl
    ∙ table_there 0 (first_table u) (bodies u order) n k n (table_name u order n + k) before (low_f u order n (table_name u order n) f) labels b t (omega arith) refl refl
