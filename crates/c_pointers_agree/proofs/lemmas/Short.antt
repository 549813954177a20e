-- Short objects stay so where the same ones live, further ones begin, and the last ones end.
use Rattle.std.proofs.Common.{◌≡◌, ◌<◌, ℕ, zero, suc, ◌^◌, Option, Some, List, [], ◌∷◌, ◌++◌, take, slice_get, refl, ap, sym, subst, ◌∙◌}
use Rattle.std.proofs.lemmas.Option.{slice_get-map}
use Rattle.std.specs.Prelude.{option_map}
use Rattle.objects.specs.declared.value.Value.{Value}
use Rattle.objects.specs.declared.value.Value.TheVariants.{Number, Pointer, Function}
use Rattle.objects.specs.Objects.{Object as Old}
use Rattle.forests.specs.Words.{Plain, IsWord}
use Rattle.c_runs.specs.Soundness.{IsSoundValue, Outline, outline, outlines}
use Rattle.c_match.specs.Values.{StaysInside}
use Rattle.c_pointers_agree.specs.Held.{AreShort}

pub operand_sound : (made : ℕ) (v : Value) → IsSoundValue made v → StaysInside v × IsWord (Plain v)
operand_sound made (Number n) h = (tt, h)
operand_sound made (Pointer name offset) h = (h.1, tt)
operand_sound made (Function f) h = (tt, tt)

outline_at : (old : List Old) (p : ℕ) (x : Old) → slice_get old p ≡ Some x → slice_get (outlines old) p ≡ Some (outline x)
outline_at old p x e = slice_get-map outline old p ∙ ap (λ (o : Option Old). option_map outline o) e

-- an object stands where its outline stands
pub object_at : (old : List Old) (p : ℕ) (o : Outline) → slice_get (outlines old) p ≡ Some o → (y : Old) × (slice_get old p ≡ Some y) × (outline y ≡ o)
object_at [] p o e = absurd (let never : ⊥ = cc in never)
object_at (y ∷ ys) zero o e = (y, refl, cc)
object_at (y ∷ ys) (suc p) o e = object_at ys p o e

pub short_kept : (old new : List Old) → outlines new ≡ outlines old → AreShort old → AreShort new
short_kept old new same short p x e =
    let y = object_at old p (outline x) (ap (λ (os : List Outline). slice_get os p) (sym same) ∙ outline_at new p x e) in
    subst (λ (o : Outline). o.size < 2 ^ 31) y.2 (short p y.0 y.1)

pub short_grows : (old more : List Old) → AreShort old → AreShort more → AreShort (old ++ more)
short_grows [] more h g p x e = g p x e
short_grows (y ∷ ys) more h g zero x e = h zero x e
short_grows (y ∷ ys) more h g (suc p) x e = short_grows ys more (λ q z f. h (suc q) z f) g p x e

pub short_taken : (old : List Old) (count : ℕ) → AreShort old → AreShort (take count old)
short_taken old zero h p x e = absurd (let never : ⊥ = cc in never)
short_taken [] (suc n) h p x e = absurd (let never : ⊥ = cc in never)
short_taken (y ∷ ys) (suc n) h zero x e = h zero x e
short_taken (y ∷ ys) (suc n) h (suc p) x e = short_taken ys n (λ q z f. h (suc q) z f) p x e
