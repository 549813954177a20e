-- The address of a local in a slot fits, and a word read there; a negation without an operand doesn't.
use Rattle.std.specs.Prelude.{◌≡◌, refl, negsuc, [], ◌∷◌}
use Rattle.std.proofs.Common.{arith}
use Rattle.op_forest.specs.declared.frame.Slot.{Slot}
use Rattle.op_forest.specs.declared.op.Op.TheVariants as op
use Rattle.op_forest.specs.declared.suffix.Suffix.TheVariants.{I, P}
use Rattle.c_pointers_agree.specs.Pointers.{local}
use Rattle.c_pointers_agree.proofs.lemmas.Fitting.{slots_lie}
use Rattle.c_rows_agree.specs.Templates.{Leaf}
use Rattle.c_rows_agree.specs.Typed.{head}
use Rattle.forests.specs.WellFormed.{LiesInOne}
use Rattle.lowered_forms.specs.Values.{slot_read}
use Rattle.lowered_fit.specs.Fitted.{Standing, FitsTree, FitsTyped, standing}
use Rattle.lowered_fit.proofs.lemmas.Operands.{local_fits, slot_fits}

-- four bytes right below the frame's top
abbrev slot : Slot
slot = record { offset = negsuc 3; size = 4 }

abbrev empty : Standing
empty = standing (slot ∷ []) []

lies : LiesInOne (slot ∷ []) (negsuc 3)
lies = slots_lie (slot ∷ []) 0 slot 0 refl (omega arith)

address : FitsTree empty (local (negsuc 3)).tree P
address = (local_fits empty (negsuc 3) lies).fits

word : FitsTyped empty (slot_read I (negsuc 3))
word = slot_fits empty I (negsuc 3) lies

no_operand : FitsTree empty (Leaf (head op.Neg I)) I → ⊥
no_operand h = none h.fits.operands
  where
    none : I ∷ [] ≡ [] → ⊥
    none e = cc
