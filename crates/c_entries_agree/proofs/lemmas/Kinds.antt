-- Scalars that are narrower than a word, and those that aren't; and structures that are passed.
use Rattle.std.specs.Prelude.{◌≡◌, ◌≤◌, ◌<◌, ◌^◌, ℕ, nat_lt, ◌&&◌, not, Bool, true, false, List, length}
use Rattle.std.proofs.Common.{refl, sym, ap, subst, ◌∙◌, arith}
use Rattle.lcc_base.specs.declared.order.Order.{Order}
use Rattle.lcc_base.specs.declared.order.Order.TheVariants.{Little, Big}
use Rattle.objects.specs.declared.value.Value.{Value}
use Rattle.objects.specs.declared.value.Value.TheVariants as value
use Rattle.objects.specs.declared.width.Width.{Width}
use Rattle.objects.specs.declared.width.Width.TheVariants.{One, Two, Four}
use Rattle.objects.specs.Scalars.{scalar_bytes}
use Rattle.objects.specs.Values.{bytes_in}
use Rattle.c_types.specs.CType.{CType, Plain, Array, Void, Char, SignedChar, UnsignedChar, Short, UnsignedShort, Int, Unsigned, Long, UnsignedLong, Simple, Pointer, Function, Structure, Union, Enumeration, unqualified}
use Rattle.c_types.specs.Compatible.{compatible}
use Rattle.c_types.specs.Conversions.{promoted}
use Rattle.c_types.specs.Layout.{Tag}
use Rattle.c_meaning.specs.Fits.{is_whole}
use Rattle.c_meaning.specs.Scalars.{scalar_of}
use Rattle.c_meaning.specs.Types.{is_record}
use Rattle.c_runs.specs.Calls.{expected}
use Rattle.c_runs.specs.Places.{size_of}
use Rattle.lowered_statements.specs.Layouts.{is_narrow}
use Rattle.c_straight_agree.proofs.lemmas.Checked.{types_whole}

-- a whole type but a structure is a scalar
scalar_size : (tags : List Tag) (t : CType) → is_whole tags t ≡ true → is_record t ≡ false → bytes_in (scalar_of t).width ≡ size_of tags t
scalar_size tags (Plain q (Simple Void)) h e = absurd (let never : ⊥ = cc in never)
scalar_size tags (Plain q (Simple Char)) h e = refl
scalar_size tags (Plain q (Simple SignedChar)) h e = refl
scalar_size tags (Plain q (Simple UnsignedChar)) h e = refl
scalar_size tags (Plain q (Simple Short)) h e = refl
scalar_size tags (Plain q (Simple UnsignedShort)) h e = refl
scalar_size tags (Plain q (Simple Int)) h e = refl
scalar_size tags (Plain q (Simple Unsigned)) h e = refl
scalar_size tags (Plain q (Simple Long)) h e = refl
scalar_size tags (Plain q (Simple UnsignedLong)) h e = refl
scalar_size tags (Plain q (Pointer to)) h e = refl
scalar_size tags (Plain q (Function result parameters)) h e = absurd (let never : ⊥ = cc in never)
scalar_size tags (Plain q (Structure n)) h e = absurd (let never : ⊥ = cc in never)
scalar_size tags (Plain q (Union n)) h e = absurd (let never : ⊥ = cc in never)
scalar_size tags (Plain q (Enumeration n)) h e = refl
scalar_size tags (Array of n) h e = absurd (let never : ⊥ = cc in never)

not_four : (w : Width) → nat_lt (bytes_in w) 4 ≡ true → w ≡ Four → ⊥
not_four w h e = (let g = ap (λ (v : Width). nat_lt (bytes_in v) 4) (sym e) ∙ h in let never : ⊥ = cc in never)

is_four : (w : Width) → nat_lt (bytes_in w) 4 ≡ false → w ≡ Four
is_four One h = absurd (let never : ⊥ = cc in never)
is_four Two h = absurd (let never : ⊥ = cc in never)
is_four Four h = refl

module _ (tags : List Tag) (t : CType) (whole : is_whole tags t ≡ true) where
  narrow_parts : (b : Bool) (size : ℕ) → (not b && nat_lt size 4) ≡ true → (b ≡ false) × (nat_lt size 4 ≡ true)
  narrow_parts true size e = absurd (let never : ⊥ = cc in never)
  narrow_parts false size e = (refl, e)

  pub narrow_is_scalar : is_narrow tags t ≡ true → is_record t ≡ false
  narrow_is_scalar e = (narrow_parts (is_record t) (size_of tags t) e).0

  pub narrow_size : is_narrow tags t ≡ true → bytes_in (scalar_of t).width ≡ size_of tags t
  narrow_size e = scalar_size tags t whole (narrow_is_scalar e)

  pub narrow_width : is_narrow tags t ≡ true → (scalar_of t).width ≡ Four → ⊥
  narrow_width e = not_four (scalar_of t).width (ap (λ (n : ℕ). nat_lt n 4) (narrow_size e) ∙ (narrow_parts (is_record t) (size_of tags t) e).1)

  pub wide_width : is_record t ≡ false → is_narrow tags t ≡ false → (scalar_of t).width ≡ Four
  wide_width r e = is_four (scalar_of t).width (ap (λ (n : ℕ). nat_lt n 4) (scalar_size tags t whole r) ∙ ap (λ (b : Bool). not b && nat_lt (size_of tags t) 4) (sym r) ∙ e)

-- the bytes of a word
pub four_bytes : (order : Order) (v : Value) → length (scalar_bytes order Four v) ≡ 4
four_bytes Little (value.Number n) = refl
four_bytes Big (value.Number n) = refl
four_bytes Little (value.Pointer o x) = refl
four_bytes Big (value.Pointer o x) = refl
four_bytes Little (value.Function f) = refl
four_bytes Big (value.Function f) = refl

pub some_bytes : (w : Width) → 1 ≤ bytes_in w
some_bytes One = omega arith
some_bytes Two = omega arith
some_bytes Four = omega arith

-- ---- an argument for a structure is one

expected_whole : (old : Bool) (t : CType) → is_record (expected old t) ≡ is_record t
expected_whole false (Plain q k) = refl
expected_whole false (Array of n) = refl
expected_whole true (Plain q (Simple Void)) = refl
expected_whole true (Plain q (Simple Char)) = refl
expected_whole true (Plain q (Simple SignedChar)) = refl
expected_whole true (Plain q (Simple UnsignedChar)) = refl
expected_whole true (Plain q (Simple Short)) = refl
expected_whole true (Plain q (Simple UnsignedShort)) = refl
expected_whole true (Plain q (Simple Int)) = refl
expected_whole true (Plain q (Simple Unsigned)) = refl
expected_whole true (Plain q (Simple Long)) = refl
expected_whole true (Plain q (Simple UnsignedLong)) = refl
expected_whole true (Plain q (Pointer to)) = refl
expected_whole true (Plain q (Function result parameters)) = refl
expected_whole true (Plain q (Structure n)) = refl
expected_whole true (Plain q (Union n)) = refl
expected_whole true (Plain q (Enumeration n)) = refl
expected_whole true (Array of n) = refl

unqualified_whole : (t : CType) → is_record (unqualified t) ≡ is_record t
unqualified_whole (Plain q k) = refl
unqualified_whole (Array of n) = refl

pub argument_whole : (old : Bool) (t s : CType) → compatible (expected old t) (unqualified s) ≡ true → is_record t ≡ is_record s
argument_whole old t s e = sym (expected_whole old t) ∙ types_whole (expected old t) (unqualified s) e ∙ unqualified_whole s
