-- Locals to which structures are copied for calls, and arguments that were evaluated.
use Rattle.std.specs.Prelude.{◌≡◌, ◌≤◌, ◌<◌, ℕ, nat_lt, ◌&&◌, Bool, true, false, Some, List, [], ◌∷◌, ◌++◌, slice_get}
use Rattle.std.proofs.Common.{refl, sym, ap, subst, ◌∙◌, arith}
use Rattle.objects.specs.declared.purpose.Purpose.TheVariants.{Initialisation}
use Rattle.objects.specs.declared.value.Value.{Value}
use Rattle.forests.specs.Objects.{Object}
use Rattle.forests.specs.Words.{Word}
use Rattle.c_types.specs.CType.{CType, Plain, Array, unqualified}
use Rattle.c_types.specs.Layout.{Tag}
use Rattle.c_meaning.specs.Each.{EachIs}
use Rattle.c_meaning.specs.Types.{is_record}
use Rattle.c_runs.specs.Calls.{Argument}
use Rattle.c_runs.specs.Locals.{IsPassed, AreCopies, LocalIsObject}
use Rattle.c_runs.specs.Places.{size_of}
use Rattle.c_runs.specs.Soundness.{Outline, outlines, IsSoundValue, Keeps, IsObjectOf}
use Rattle.c_runs.specs.Worlds as c
use Rattle.c_match.specs.Held.{IsOpenTo}
use Rattle.c_match.specs.Ranges.{Map}
use Rattle.c_agreement.specs.Called.{AreValues, IsOpenCopy}
use Rattle.c_expr_agreement.specs.Scenes.{Scene}
use Rattle.lowered_forms.specs.Places.{is_passed_whole}
use Rattle.c_straight_agree.specs.Layouts.{FrameLayout, context_in, IsLaidOut, IsOpenAt}
use Rattle.c_straight_agree.specs.Standing.{IsSoundIn}
use Rattle.c_straight_agree.proofs.lemmas.Leaves.{value_at}
use Rattle.c_straight_agree.proofs.lemmas.Opens.{open_by}
use Rattle.c_straight_agree.proofs.lemmas.Parts.{value_later}
use Rattle.c_straight_agree.proofs.lemmas.Putting.{each_at, each_map}

-- ---- lists

pub each_with : {A : Type 0} (P : A → Type 0) (xs : List A) (x : A) → EachIs P xs → P x → EachIs P (xs ++ x ∷ [])
each_with P [] x h g = (g, tt)
each_with P (y ∷ xs) x h g = (h.0, each_with P xs x h.1 g)

-- ---- a local for a copy

not_below : (n m : ℕ) → m ≤ n → nat_lt n m ≡ false
not_below n m le = grind (arith, le)

-- one behind the parameters is no structure that was passed
pub not_passed_whole : (s : Scene) (y : FrameLayout) (n : ℕ) (of : CType) → y.parameters ≤ n → is_passed_whole (context_in s y) n of ≡ false
not_passed_whole s y n of le = ap (λ (b : Bool). b && is_record of) (not_below n y.parameters le)

same_size : (tags : List Tag) (t : CType) → size_of tags (unqualified t) ≡ size_of tags t
same_size tags (Plain q k) = refl
same_size tags (Array of n) = refl

-- it is an object for a structure of its type
pub record IsPlaceFor (s : Scene) (old : c.World) (n : ℕ) (of : CType) : Type 0 where
  pub copy : Value
  pub there : slice_get old.locals n ≡ Some copy
  pub object : IsObjectOf (outlines (c.objects old)) (size_of s.unit.tags of) copy

pub place_for : LocalIsObject → (s : Scene) (y : FrameLayout) → IsLaidOut s y → (old : c.World) → IsSoundIn s old → (n : ℕ) (of : CType) → slice_get y.types n ≡ Some (unqualified of) → IsPlaceFor s old n of
place_for each s y laid old sound n of typed =
    let x = each s.unit.tags s.frame.types old n (unqualified of) sound.locals (ap (λ (ts : List CType). slice_get ts n) laid.types ∙ typed) in
    record { copy = x.0; there = x.1; object = subst (λ (size : ℕ). IsObjectOf (outlines (c.objects old)) size x.0) (same_size s.unit.tags of) x.2 }

-- and may be written
pub local_is_open : (map : Map) (vs : List Value) (addresses : List Word) (objects : List Object) → AreValues map vs addresses → EachIs (IsOpenAt objects) addresses → (n : ℕ) (v : Value) → slice_get vs n ≡ Some v → IsOpenTo Initialisation map objects v
local_is_open map vs addresses objects values opens n v there =
    let u = value_at map vs addresses n v values there in
    open_by map objects v u.0 u.2 (each_at (IsOpenAt objects) addresses n u.0 opens u.1)

-- ---- arguments that were evaluated

-- a structure is in a local
abbrev pub IsLocalCopy : List Value → Argument → Type 0
IsLocalCopy locals x = is_record x.of ≡ true → (n : ℕ) × (slice_get locals n ≡ Some x.value)

-- sound values, and whole copies of structures in locals
pub record AreEvaluated (s : Scene) (old : c.World) (xs : List Argument) : Type 0 where
  pub sound : EachIs (λ (x : Argument). IsSoundValue old.storage.made x.value) xs
  pub copies : AreCopies s.unit.tags (outlines (c.objects old)) xs
  pub locals : EachIs (IsLocalCopy old.locals) xs

-- they are so where the same objects live
pub evaluated_later : (s : Scene) (old new : c.World) (xs : List Argument) → Keeps old new → AreEvaluated s old xs → AreEvaluated s new xs
evaluated_later s old new xs keeps h = record {
  sound = each_map (λ (x : Argument). IsSoundValue old.storage.made x.value) (λ (x : Argument). IsSoundValue new.storage.made x.value) xs (λ x g. value_later old.storage.made new.storage.made x.value keeps.made g) h.sound;
  copies = subst (λ (ls : List Outline). AreCopies s.unit.tags ls xs) (sym keeps.lives) h.copies;
  locals = subst (λ (vs : List Value). EachIs (IsLocalCopy vs) xs) (sym keeps.locals) h.locals;
}

pub evaluated_with : (s : Scene) (old : c.World) (xs : List Argument) (x : Argument) → AreEvaluated s old xs → IsSoundValue old.storage.made x.value → IsPassed s.unit.tags (outlines (c.objects old)) x.of x.value → IsLocalCopy old.locals x → AreEvaluated s old (xs ++ x ∷ [])
evaluated_with s old xs x h sound copy local = record {
  sound = each_with (λ (z : Argument). IsSoundValue old.storage.made z.value) xs x h.sound sound;
  copies = each_with (λ (z : Argument). IsPassed s.unit.tags (outlines (c.objects old)) z.of z.value) xs x h.copies copy;
  locals = each_with (IsLocalCopy old.locals) xs x h.locals local;
}

-- where locals may be written, each copy may
pub copies_are_open : (map : Map) (vs : List Value) (addresses : List Word) (objects : List Object) → AreValues map vs addresses → EachIs (IsOpenAt objects) addresses → (xs : List Argument) → EachIs (IsLocalCopy vs) xs → EachIs (IsOpenCopy map objects) xs
copies_are_open map vs addresses objects values opens xs h =
    each_map (IsLocalCopy vs) (IsOpenCopy map objects) xs (λ x g whole. let n = g whole in local_is_open map vs addresses objects values opens n.0 x.value n.1) h
