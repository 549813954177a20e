-- The locals of a function have their places in its frame.
use Rattle.std.specs.Prelude.{◌≡◌, ◌≤◌, ◌<◌, ℕ, zero, suc, ◌+◌, ◌-◌, ◌*◌, ◌/◌, ◌^◌, ℤ, pos, negsuc, ◌+ℤ◌, ◌-ℤ◌, ◌<ℤ◌, ◌≤ℤ◌, Bool, true, false, Some, List, [], ◌∷◌, ◌++◌, length, take, drop, slice_get}
use Rattle.std.proofs.Common.{subst, ⊎_elim, arith}
use Rattle.std.proofs.lemmas.Int.{ints}
use Rattle.std.proofs.lemmas.Option.{none-some}
use Rattle.op_forest.specs.declared.frame.Slot.{Slot}
use Rattle.op_forest.specs.Frames.{lowest}
use Rattle.forests.specs.WellFormed.{LiesInOne}
use Rattle.c_types.specs.CType.{CType}
use Rattle.c_types.specs.Layout.{Tag}
use Rattle.c_meaning.specs.Units.{FunctionTree}
use Rattle.c_runs.specs.Places.{size_of}
use Rattle.c_pointers_agree.proofs.lemmas.Fitting.{slots_lie}
use Rattle.dag_forest.proofs.lemmas.Frames.{lowest_le}
use Rattle.dag_seam.proofs.lemmas.Acts.{get_last}
use Rattle.dag_seam.proofs.lemmas.Keys.{last_get}
use Rattle.lowered_fit.specs.States.{FitsOffset}
use Rattle.lowered_fit.proofs.lemmas.Operands.{more_lie}
use Rattle.lowered_fit.proofs.lemmas.PlacesFit.{offset_wider}
use Rattle.lowered_statements.specs.Layouts.{Layout, offset_under, slot_under, with_place, in_slot, is_narrow, parameter_by, with_parameters, with_locals, first_word, words_of, layout}

abbrev AllPlaced : Layout → Type 0
AllPlaced a = (n : ℕ) (z : ℤ) → slice_get a.places n ≡ Some z → FitsOffset a.slots z

below_fits : (slots : List Slot) (z : ℤ) → z <ℤ pos 0 → LiesInOne slots z → FitsOffset slots z
below_fits slots (pos n) lt h = absurd (omega (arith, ints, lt))
below_fits slots (negsuc n) lt h = h

under_fits : (size : ℕ) (slots : List Slot) → FitsOffset (slots ++ slot_under size slots ∷ []) (offset_under size slots)
under_fits size slots =
    let low = (lowest_le slots (pos 0)).0 in
    let new = slot_under size slots in
    let more = slots ++ new ∷ [] in
    below_fits more (offset_under size slots) (less (lowest slots) ((size - 1) / 4) low)
    (subst (λ z. LiesInOne more z) (plus_none (offset_under size slots)) (slots_lie more (length slots) new 0 (get_last slots new) (omega arith)))
  where
    less : (low : ℤ) (m : ℕ) → low ≤ℤ pos 0 → (low -ℤ pos (4 * (m + 1))) <ℤ pos 0
    less low m h = omega (arith, ints, h)

    plus_none : (z : ℤ) → z +ℤ pos 0 ≡ z
    plus_none z = omega (arith, ints)

placed_with : (z : ℤ) (new : List Slot) (a : Layout) → AllPlaced a → FitsOffset (a.slots ++ new) z → AllPlaced (with_place z new a)
placed_with z new a h k n y e =
    ⊎_elim
    (λ q. offset_wider a.slots (a.slots ++ new) y (more_lie a.slots new) (h n y q))
    (λ q. subst (λ x. FitsOffset (a.slots ++ new) x) q.1 k)
    (last_get a.places z n y e)

in_slot_placed : (size : ℕ) (a : Layout) → AllPlaced a → AllPlaced (in_slot size a)
in_slot_placed size a h = placed_with (offset_under size a.slots) (slot_under size a.slots ∷ []) a h (under_fits size a.slots)

parameter_placed : (narrow : Bool) (word : ℕ) (a : Layout) → 4 * word < 2 ^ 32 → AllPlaced a → AllPlaced (parameter_by narrow word a)
parameter_placed true word a small h = in_slot_placed 4 a h
parameter_placed false word a small h = placed_with (pos (4 * word)) [] a h small

parameters_placed : (tags : List Tag) (word : ℕ) (ts : List CType) (a : Layout) → 4 * (word + length ts) < 2 ^ 32 → AllPlaced a → AllPlaced (with_parameters tags word ts a)
parameters_placed tags word [] a small h = h
parameters_placed tags word (t ∷ ts) a small h =
    parameters_placed tags (suc word) ts (parameter_by (is_narrow tags t) word a) (omega (arith, small)) (parameter_placed (is_narrow tags t) word a (omega (arith, small)) h)

locals_placed : (tags : List Tag) (ts : List CType) (a : Layout) → AllPlaced a → AllPlaced (with_locals tags ts a)
locals_placed tags [] a h = h
locals_placed tags (t ∷ ts) a h = locals_placed tags ts (in_slot (size_of tags t) a) (in_slot_placed (size_of tags t) a h)

pub few_taken : (n : ℕ) (ts : List CType) → length (take n ts) ≤ n
few_taken zero ts = omega arith
few_taken (suc n) [] = omega arith
few_taken (suc n) (t ∷ ts) = let h = few_taken n ts in omega (arith, h)

pub layouts_fit : (tags : List Tag) (f : FunctionTree) → 4 * words_of f < 2 ^ 32 → (n : ℕ) (z : ℤ) → slice_get (layout tags f).places n ≡ Some z → FitsOffset (layout tags f).slots z
layouts_fit tags f small =
    let none : Layout = record { places = []; slots = [] } in
    let few = few_taken f.parameters f.locals in
    locals_placed tags (drop f.parameters f.locals) (with_parameters tags (first_word f) (take f.parameters f.locals) none)
    (parameters_placed tags (first_word f) (take f.parameters f.locals) none (omega (arith, few, small)) (λ n z e. absurd (none-some z e)))
