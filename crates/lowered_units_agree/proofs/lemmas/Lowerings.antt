-- A lowered unit of a checked one is its lowering, as the agreement asks.
use Rattle.std.specs.Prelude.{◌≡◌, ℕ, ◌+◌, false, Some, List, length, slice_get}
use Rattle.std.proofs.Common.{refl, sym, ap, subst, ◌∙◌, arith}
use Rattle.lcc_base.specs.declared.order.Order.{Order}
use Rattle.op_forest.specs.Lowered.{LoweredUnit}
use Rattle.forests.specs.Units.{value_of}
use Rattle.c_meaning.specs.Units.{FunctionTree, UnitTree}
use Rattle.lowering_limits.specs.Limits.{IsWithin}
use Rattle.lowered_statements.specs.FunctionBodies.{function_in, low_f}
use Rattle.lowered_labels.specs.Used.{GoesWithin}
use Rattle.lowered_data.proofs.lemmas.Numbering.{function_there, numbers_stand}
use Rattle.lowered_units.specs.Laws.{HasFunction, own_count, table_name, tables_before}
use Rattle.lowered_units.specs.LoweredUnits.{IsLoweredUnit}
use Rattle.lowered_units.specs.Tables.{first_table, table_object}
use Rattle.lowered_units.proofs.lemmas.Standing.{functions_stand, tables_stand}
use Rattle.c_straight_agree.proofs.lemmas.Putting.{each_at}
use Rattle.c_stmts_agree.proofs.lemmas.Jumping.{jumps_stay}
use Rattle.c_checked_units.specs.Checked.{IsCheckedFunction, IsCheckedUnit}
use Rattle.c_entries_agree.specs.Lowered.{IsFunctionLowering, IsLoweringOf, IsTableOf}
use Rattle.lowered_units_agree.specs.Laws.{BlocksAreSplit, UnitsAreLowerings}
use Rattle.lowered_units_agree.proofs.lemmas.Numbering.{names_numbered}
use Rattle.lowered_units_agree.proofs.lemmas.Tables.{table_short, table_value}

-- in its own order of bytes
module _ (split : BlocksAreSplit) (u : UnitTree) (l : LoweredUnit) (checked : IsCheckedUnit u) (within : IsWithin u) (i : IsLoweredUnit u l.order l) where
  module _ (n : ℕ) (f : FunctionTree) (e : slice_get u.functions n ≡ Some f) where
    is_checked : IsCheckedFunction u f
    is_checked = each_at (IsCheckedFunction u) u.functions n f checked.functions e

    here : HasFunction u l.order l n f
    here = functions_stand u l.order l i n f e

    stays : GoesWithin (function_in u l.order n (table_name u l.order n) f) false false f.body
    stays =
        let g = function_in u l.order n (table_name u l.order n) f in
        jumps_stay g u f f.body is_checked.fits.body (λ k h. h) false false is_checked.own.jumps

    table_there : (k : ℕ) (labels : List ℕ) → slice_get (low_f u l.order n (table_name u l.order n) f).tables k ≡ Some labels → IsTableOf u l n (table_name u l.order n + k) labels
    table_there k labels t =
        let before = tables_before u l.order n + k in
        let place = own_count u + before in
        let there = tables_stand u l.order l i n f e k labels t in
        let object = table_object n (table_name u l.order n + k) labels in
        let short = table_short u l.order n (table_name u l.order n) f within e is_checked.own k labels t in
        let same : first_table u + before ≡ table_name u l.order n + k = omega arith in
        record {
          place = place;
          object = object;
          there = there;
          behind = omega arith;
          named = ap (value_of l) (sym same) ∙ table_value u l.order l i place before object there refl;
          function = here.function;
          runs = here.there;
          is_home = here.is.name;
          items = refl;
          size = refl;
          short = omega (arith, short);
        }

    function_lowered : IsFunctionLowering u l n f
    function_lowered = record {
      tables = table_name u l.order n;
      function = here.function;
      named = function_there u l (names_numbered u l.order l i) n here.function here.there;
      words = here.is.words;
      slots = here.is.slots;
      roots = λ home. here.is.roots l.order home;
      split = split u l.order n (table_name u l.order n) f stays;
      has_tables = table_there;
    }

  unit_lowered : IsLoweringOf u l
  unit_lowered =
      let a = names_numbered u l.order l i in
      let stand = numbers_stand u l a in
      record {
        functions = function_lowered;
        own = a.enough;
        objects = λ n lt. stand.objects n (omega (arith, lt));
        texts = λ n lt. stand.objects (length u.objects + n) (omega (arith, lt));
      }

pub units_lowered : BlocksAreSplit → UnitsAreLowerings
units_lowered split u order l checked within i = unit_lowered split u l checked within (subst (λ (o : Order). IsLoweredUnit u o l) (sym i.order_is) i)
