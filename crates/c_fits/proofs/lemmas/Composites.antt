-- The composite of two types is the structure or union that the first one is, and has a size where that has one.
use Rattle.std.proofs.Common.{◌≡◌, ℕ, Bool, true, false, List, refl, sym, ◌∙◌}
use Rattle.std.specs.Prelude.{Option, Some, None, is_some, if◌then◌else◌}
use Rattle.c_symbols.specs.declared.symbol.Storage.{Storage}
use Rattle.c_symbols.specs.declared.symbol.Storage.TheVariants as storage
use Rattle.c_types.specs.CType.{CType, Plain, Array, Simple, Pointer, Function, Structure, Union, Enumeration}
use Rattle.c_types.specs.Compatible.{is_int}
use Rattle.c_types.specs.Composite.{composite}
use Rattle.c_types.specs.Layout.{Tag, extent, times}
use Rattle.c_meaning.specs.Types.{has_size}
use Rattle.c_meaning.specs.State.{State}
use Rattle.c_fits.specs.Sound.{IsIntOf, IsOld, has_elements, is_enumerator, which}
use Rattle.c_fits.proofs.lemmas.Booleans.{never}
use Rattle.c_fits.proofs.lemmas.Kinds.{same_of}

pub composite_which : (a b : CType) → which (composite a b) ≡ which a
composite_which (Plain p (Simple x)) (Plain q (Enumeration n)) = by _
  where
    by : (c : Bool) → which (Plain p (if c then Enumeration n else Simple x)) ≡ which (Plain p (Simple x))
    by true = refl
    by false = refl
composite_which (Plain p (Simple x)) (Plain q b) = refl
composite_which (Plain p (Pointer x)) (Plain q (Pointer y)) = refl
composite_which (Plain p (Pointer x)) (Plain q b) = refl
composite_which (Plain p (Function x ps)) (Plain q (Function y qs)) = refl
composite_which (Plain p (Function x ps)) (Plain q b) = refl
composite_which (Plain p (Structure n)) (Plain q b) = refl
composite_which (Plain p (Union n)) (Plain q b) = refl
composite_which (Plain p (Enumeration n)) (Plain q b) = refl
composite_which (Plain p a) (Array b m) = refl
composite_which (Array a n) (Plain q b) = refl
composite_which (Array a n) (Array b m) = refl

-- a composite has a size where the first type has one
composite_sized : (tags : List Tag) (a b : CType) → has_size tags a ≡ true → has_size tags (composite a b) ≡ true
composite_sized tags (Plain p (Simple x)) (Plain q (Enumeration n)) h = by (is_int (Simple x))
  where
    by : (c : Bool) → has_size tags (Plain p (if c then Enumeration n else Simple x)) ≡ true
    by true = refl
    by false = h
composite_sized tags (Plain p (Simple x)) (Plain q b) h = h
composite_sized tags (Plain p (Pointer x)) (Plain q (Pointer y)) h = refl
composite_sized tags (Plain p (Pointer x)) (Plain q b) h = refl
composite_sized tags (Plain p (Function x ps)) (Plain q (Function y qs)) h = h
composite_sized tags (Plain p (Function x ps)) (Plain q b) h = h
composite_sized tags (Plain p (Structure n)) (Plain q b) h = h
composite_sized tags (Plain p (Union n)) (Plain q b) h = h
composite_sized tags (Plain p (Enumeration n)) (Plain q b) h = h
composite_sized tags (Plain p a) (Array b m) h = h
composite_sized tags (Array a n) (Plain q b) h = h
composite_sized tags (Array a (Some n)) (Array b m) h = by (extent tags a).size refl h (composite_sized tags a b)
  where
    again : (k : Option ℕ) → is_some k ≡ true → is_some (times (Some n) k) ≡ true
    again (Some k) e = refl
    again None e = never (sym e)

    by : (k : Option ℕ) → (extent tags a).size ≡ k → is_some (times (Some n) k) ≡ true → (has_size tags a ≡ true → has_size tags (composite a b) ≡ true) → is_some (times (Some n) (extent tags (composite a b)).size) ≡ true
    by (Some k) e g i = again (extent tags (composite a b)).size (i (rw e))
    by None e g i = never (sym g)
composite_sized tags (Array a None) (Array b m) h = never (sym h)

composite_elements : (tags : List Tag) (a b : CType) → has_elements tags a ≡ true → has_elements tags (composite a b) ≡ true
composite_elements tags (Plain p a) (Plain q b) h = refl
composite_elements tags (Plain p a) (Array b m) h = h
composite_elements tags (Array a n) (Plain q b) h = h
composite_elements tags (Array a n) (Array b m) h = composite_sized tags a b h

pub composite_old : (s : State) (a b : CType) → IsOld s a → IsOld s (composite a b)
composite_old s a b e = (λ n l. same_of n (composite a b) a (composite_which a b) ∙ e.0 n l, composite_elements s.tags a b e.1)

-- what is no enumerator has any type
pub other_numbered : (c : Storage) (of : CType) → is_enumerator c ≡ false → IsIntOf c of
other_numbered storage.Enumerator of e = never e
other_numbered c of e = tt
