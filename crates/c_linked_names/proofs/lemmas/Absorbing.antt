-- A type absorbs another where what is compatible with it is compatible with the other: so the type of all declarations of a name does
-- with that of each.
use Rattle.std.proofs.Common.{◌≡◌, ℕ, true, ◌&&◌, refl, sym, ap, ◌∙◌}
use Rattle.std.specs.Prelude.{nat_eq, Some, None}
use Rattle.c_types.specs.CType.{Int, CType, Plain, Array, Kind, Simple, Pointer, Function, Structure, Union, Enumeration, Open, Listed, basic}
use Rattle.c_types.specs.Compatible.{compatible, kinds_compatible, lengths_fit}
use Rattle.c_types.specs.Composite.{composite}
use Rattle.c_meaning.specs.Filling.{sized}
use Rattle.c_meaning.specs.State.{int_function}
use Rattle.c_meaning.specs.Types.{is_function, is_function_kind}
use Rattle.c_fits.proofs.lemmas.Booleans.{and_left, and_right, and_true, never}

-- what is known of compatible types
pub record TypeLaws : Type 0 where
  pub itself : (s : CType) → compatible s s ≡ true
  pub either : (s u : CType) → compatible s u ≡ compatible u s
  pub others : (s u v : CType) → compatible s u ≡ true → compatible (composite s u) v ≡ (compatible s v && compatible u v)

abbrev pub Absorbs : CType → CType → Type 0
Absorbs a b = (t : CType) → compatible a t ≡ true → compatible b t ≡ true

pub absorbs_itself : (a : CType) → Absorbs a a
absorbs_itself a t h = h

pub absorbs_then : (a b c : CType) → Absorbs a b → Absorbs b c → Absorbs a c
absorbs_then a b c f g t h = g t (f t h)

-- a type whose size is completed
pub sized_absorbs : (of : CType) (n : ℕ) → Absorbs (sized of n) of
sized_absorbs (Array of None) n (Array b m) h = and_true (compatible of b) (lengths_fit None m) (and_left (compatible of b) (lengths_fit (Some n) m) h) refl
sized_absorbs (Array of None) n (Plain q k) h = h
sized_absorbs (Array of (Some l)) n t h = h
sized_absorbs (Plain p k) n t h = h

-- of compatible types both are functions', or none is
same_function_kind : (a b : Kind) → kinds_compatible a b ≡ true → is_function_kind a ≡ is_function_kind b
same_function_kind (Function r ps) (Function q qs) h = refl
same_function_kind (Function r ps) (Simple b) h = never (sym h)
same_function_kind (Function r ps) (Pointer b) h = never (sym h)
same_function_kind (Function r ps) (Structure b) h = never (sym h)
same_function_kind (Function r ps) (Union b) h = never (sym h)
same_function_kind (Function r ps) (Enumeration b) h = never (sym h)
same_function_kind (Simple a) (Function q qs) h = never (sym h)
same_function_kind (Pointer a) (Function q qs) h = never (sym h)
same_function_kind (Structure a) (Function q qs) h = never (sym h)
same_function_kind (Union a) (Function q qs) h = never (sym h)
same_function_kind (Enumeration a) (Function q qs) h = never (sym h)
same_function_kind (Simple a) (Simple b) h = refl
same_function_kind (Simple a) (Pointer b) h = refl
same_function_kind (Simple a) (Structure b) h = refl
same_function_kind (Simple a) (Union b) h = refl
same_function_kind (Simple a) (Enumeration b) h = refl
same_function_kind (Pointer a) (Simple b) h = refl
same_function_kind (Pointer a) (Pointer b) h = refl
same_function_kind (Pointer a) (Structure b) h = refl
same_function_kind (Pointer a) (Union b) h = refl
same_function_kind (Pointer a) (Enumeration b) h = refl
same_function_kind (Structure a) (Simple b) h = refl
same_function_kind (Structure a) (Pointer b) h = refl
same_function_kind (Structure a) (Structure b) h = refl
same_function_kind (Structure a) (Union b) h = refl
same_function_kind (Structure a) (Enumeration b) h = refl
same_function_kind (Union a) (Simple b) h = refl
same_function_kind (Union a) (Pointer b) h = refl
same_function_kind (Union a) (Structure b) h = refl
same_function_kind (Union a) (Union b) h = refl
same_function_kind (Union a) (Enumeration b) h = refl
same_function_kind (Enumeration a) (Simple b) h = refl
same_function_kind (Enumeration a) (Pointer b) h = refl
same_function_kind (Enumeration a) (Structure b) h = refl
same_function_kind (Enumeration a) (Union b) h = refl
same_function_kind (Enumeration a) (Enumeration b) h = refl

pub same_function : (a b : CType) → compatible a b ≡ true → is_function a ≡ is_function b
same_function (Plain p a) (Plain q b) h = same_function_kind a b (and_right (nat_eq p q) (kinds_compatible a b) h)
same_function (Plain p a) (Array b m) h = never (sym h)
same_function (Array a n) (Plain q b) h = never (sym h)
same_function (Array a n) (Array b m) h = refl

-- a composite with int, and with a function of open parameters and result int, is the first type
composite_int : (t : CType) → composite t (basic Int) ≡ t
composite_int (Plain p (Simple x)) = refl
composite_int (Plain p (Pointer x)) = refl
composite_int (Plain p (Function r ps)) = refl
composite_int (Plain p (Structure n)) = refl
composite_int (Plain p (Union n)) = refl
composite_int (Plain p (Enumeration n)) = refl
composite_int (Array a n) = refl

composite_function : (t : CType) → composite t int_function ≡ t
composite_function (Plain p (Function r Open)) = ap (λ r. Plain p (Function r Open)) (composite_int r)
composite_function (Plain p (Function r (Listed ps more))) = ap (λ r. Plain p (Function r (Listed ps more))) (composite_int r)
composite_function (Plain p (Simple x)) = refl
composite_function (Plain p (Pointer x)) = refl
composite_function (Plain p (Structure n)) = refl
composite_function (Plain p (Union n)) = refl
composite_function (Plain p (Enumeration n)) = refl
composite_function (Array a n) = refl

module _ (laws : TypeLaws) where
  pub first_absorbed : (a b : CType) → compatible a b ≡ true → Absorbs (composite a b) a
  first_absorbed a b e t h = and_left (compatible a t) (compatible b t) (sym (laws.others a b t e) ∙ h)

  pub second_absorbed : (a b : CType) → compatible a b ≡ true → Absorbs (composite a b) b
  second_absorbed a b e t h = and_right (compatible a t) (compatible b t) (sym (laws.others a b t e) ∙ h)

  -- what absorbs both absorbs their composite
  pub composite_absorbed : (c a b : CType) → compatible a b ≡ true → Absorbs c a → Absorbs c b → Absorbs c (composite a b)
  composite_absorbed c a b e f g t h = laws.others a b t e ∙ and_true (compatible a t) (compatible b t) (f t h) (g t h)

  -- a function with open parameters and result int is absorbed where it is compatible
  pub int_function_absorbed : (a : CType) → compatible a int_function ≡ true → Absorbs a int_function
  int_function_absorbed a e t h =
      and_right (compatible a t) (compatible int_function t) (sym (laws.others a int_function t e) ∙ (ap (λ c. compatible c t) (composite_function a) ∙ h))

  pub either_way : (a b : CType) → compatible a b ≡ true → compatible b a ≡ true
  either_way a b h = laws.either b a ∙ h

  -- two types that one absorbs are compatible, and so it is with each
  pub beside : (c a : CType) → Absorbs c a → compatible a c ≡ true
  beside c a f = f c (laws.itself c)

  pub both_absorbed : (c a b : CType) → Absorbs c a → Absorbs c b → compatible a b ≡ true
  both_absorbed c a b f g = f b (either_way b c (beside c b g))

  pub absorbed_function : (c a : CType) → Absorbs c a → is_function c ≡ is_function a
  absorbed_function c a f = sym (same_function a c (beside c a f))
