-- Locals in the objects of a call.
use Rattle.std.specs.Prelude.{◌≡◌, ℕ, zero, suc, false, Some, None, List, [], ◌∷◌, replicate}
use Rattle.std.proofs.Common.{refl, sym, ap, arith}
use Rattle.objects.specs.declared.value.Value.TheVariants.{Pointer}
use Rattle.objects.specs.Bytes.{unknown_byte}
use Rattle.forests.specs.Objects.{objects_from}
use Rattle.forests.specs.Words.{Plain}
use Rattle.forests.specs.Worlds.{World}
use Rattle.c_types.specs.CType.{Int, basic}
use Rattle.c_runs.specs.Worlds as c
use Rattle.c_match.specs.Ranges.{Range, Map}
use Rattle.c_expr_agreement.specs.Scenes.{Frame, InFrame}

-- a local in the call's first object, and a second object that holds nothing of C
abbrev slot : Range
slot = record { object = record { place = 0; made = 0; size = 4 }; start = 0 }

abbrev places : Map
places zero = Some slot
places (suc m) = None

abbrev two_slots : World
two_slots = record { objects = objects_from 0 (replicate 4 unknown_byte ∷ replicate 4 unknown_byte ∷ []); made = 2; arguments = []; input = []; trace = [] }

abbrev one_local : c.World
one_local = record { storage = record { objects = record { made = 0; constant = false; bytes = replicate 4 unknown_byte } ∷ []; made = 1 }; locals = Pointer (record { place = 0; made = 0; size = 4 }) 0 ∷ []; input = []; trace = [] }

abbrev frame_of : List ℕ → Frame
frame_of others = record { types = basic Int ∷ []; addresses = Plain (Pointer (record { place = 0; made = 0; size = 4 }) 0) ∷ []; others = others }

only_first : (m : ℕ) (r : Range) → places m ≡ Some r → r.object.place ≡ 0
only_first zero r e = ap (λ (x : Range). x.object.place) (sym (same_range e))
  where
    same_range : {x y : Range} → Some x ≡ Some y → x ≡ y
    same_range e = cc
only_first (suc m) r e = absurd (let never : ⊥ = cc in never)

in_frame : InFrame (frame_of (1 ∷ [])) places one_local two_slots
in_frame = record {
  locals = ((slot, refl, refl), tt);
  others = ((omega arith, λ p x r e f same. let first = only_first x.made r f in let never : ⊥ = omega (arith, first, same) in never), tt);
}

-- the local's own object is no other one
not_private : InFrame (frame_of (0 ∷ [])) places one_local two_slots → ⊥
not_private h = h.others.0.1 0 (record { made = 0; constant = false; bytes = replicate 4 unknown_byte }) slot refl refl refl
