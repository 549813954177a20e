-- Functions of checked units are fair.
use Rattle.std.specs.Prelude.{List, [], ◌∷◌}
use Rattle.std.proofs.Common.{arith}
use Rattle.c_types.specs.CType.{CType}
use Rattle.c_meaning.specs.Each.{EachIs}
use Rattle.c_meaning.specs.Units.{FunctionTree, UnitTree}
use Rattle.c_checked_units.specs.Checked.{IsCheckedFunction, IsOfObjectSize}
use Rattle.c_entries_agree.specs.Lowered.{HasRoom}
use Rattle.c_functions_agree.specs.Laws.{IsFairFunction}
use Rattle.lowered_units_agree.specs.Laws.{FunctionsAreFair}

module _ (u : UnitTree) where
  have_room : (ts : List CType) → EachIs (IsOfObjectSize u) ts → EachIs (HasRoom u.tags) ts
  have_room [] h = tt
  have_room (t ∷ ts) h = ((let k = h.0 in omega (arith, k)), have_room ts h.1)

  all_fair : (fs : List FunctionTree) → EachIs (IsCheckedFunction u) fs → EachIs (IsFairFunction u) fs
  all_fair [] h = tt
  all_fair (f ∷ fs) h = (record { room = have_room f.locals h.0.sizes; jumps = h.0.own.jumps }, all_fair fs h.1)

pub functions_fair : FunctionsAreFair
functions_fair u h = all_fair u u.functions h.functions
