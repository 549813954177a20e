-- Narrow parameters are stored in their slots.
use Rattle.std.specs.Prelude.{◌≡◌, ℕ, suc, Bool, true, false, List, [], ◌∷◌}
use Rattle.std.proofs.Common.{refl, ◌∙◌}
use Rattle.op_forest.specs.declared.frame.Slot.{Slot}
use Rattle.c_types.specs.CType.{CType}
use Rattle.lowered_forms.specs.Lows.{Low}
use Rattle.lowered_statements.specs.FunctionBodies.{parameter_stored, parameters_stored}
use Rattle.lowered_statements.specs.Functions.{Function}
use Rattle.lowered_statements.specs.Layouts.{is_narrow}

-- no slot is added
one_slots : (narrow : Bool) (g : Function) (n word : ℕ) (t : CType) (l : Low) → (parameter_stored narrow g n word t l).slots ≡ l.slots
one_slots true g n word t l = refl
one_slots false g n word t l = refl

pub stored_slots : (g : Function) (n word : ℕ) (ts : List CType) (l : Low) → (parameters_stored g n word ts l).slots ≡ l.slots
stored_slots g n word [] l = refl
stored_slots g n word (t ∷ ts) l = stored_slots g (suc n) (suc word) ts (parameter_stored (is_narrow g.context.unit.tags t) g n word t l) ∙ one_slots (is_narrow g.context.unit.tags t) g n word t l
