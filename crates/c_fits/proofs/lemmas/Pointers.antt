-- Pointers: what they point to, moved and compared, and their differences.
use Rattle.std.proofs.Common.{◌≡◌, ◌⊎◌, ℕ, Bool, true, false, List, refl, sym, subst, inl, inr}
use Rattle.std.specs.Prelude.{Option, Some, None, is_some, if◌then◌else◌}
use Rattle.objects.specs.declared.operators.Comparison.{Comparison}
use Rattle.c_types.specs.CType.{Int, CType, Plain, Array, Simple, Pointer, Function, Structure, Union, Enumeration, basic}
use Rattle.c_types.specs.Conversions.{is_integer}
use Rattle.c_types.specs.Layout.{Tag, extent, size_or_zero}
use Rattle.c_meaning.specs.declared.core_expr.CoreKind.TheVariants as kind
use Rattle.c_meaning.specs.CoreTrees.{Core, type_of, two}
use Rattle.c_meaning.specs.Types.{is_pointer, is_scalar, has_size, target}
use Rattle.c_meaning.specs.Values.{CoreTree, converted, promoted_value}
use Rattle.c_meaning.specs.Fits.{HasSize, IsPromoted}
use Rattle.c_meaning.specs.Rows.{size_of, pointed, moved, difference, beside}
use Rattle.c_fits.proofs.lemmas.Booleans.{never}
use Rattle.c_fits.proofs.lemmas.Values.{IsPart, IsOperand, values_one, values_two, converted_type, converted_operand}
use Rattle.c_fits.proofs.lemmas.Numbers.{promoted_type_is, promoted_operand, promoted_value_type, pointer_scalar}

-- a type with a size is of so many bytes
pub size_is : (tags : List Tag) (t : CType) → has_size tags t ≡ true → HasSize tags t (size_of tags t)
size_is tags t h = some (extent tags t).size h
  where
    some : (o : Option ℕ) → is_some o ≡ true → o ≡ Some (size_or_zero o)
    some (Some n) h = refl
    some None h = never (sym h)

-- what is an integer is no pointer
pub integer_no_pointer : (t : CType) → is_integer t ≡ true → is_pointer t ≡ false
integer_no_pointer (Plain q (Simple b)) h = refl
integer_no_pointer (Plain q (Pointer to)) h = never (sym h)
integer_no_pointer (Plain q (Function r ps)) h = refl
integer_no_pointer (Plain q (Structure n)) h = refl
integer_no_pointer (Plain q (Union n)) h = refl
integer_no_pointer (Plain q (Enumeration n)) h = refl
integer_no_pointer (Array of n) h = refl

-- what a pointer points to
pub pointed_part : (tags : List Tag) (line : ℕ) (v : CoreTree) → IsOperand tags v → is_pointer (type_of v) ≡ true → IsPart tags (pointed line v)
pointed_part tags line v o h = record { fits = ((o.fits, tt), (values_one v o.value, (h, refl))); bare = λ e. never e }

module _ (tags : List Tag) (line : ℕ) (v w : CoreTree) (o : IsOperand tags v) (p : IsOperand tags w) where
  -- a pointer and an integer
  pub forward_part : (back : Bool) → is_pointer (type_of v) ≡ true → has_size tags (target (type_of v)) ≡ true → is_integer (type_of w) ≡ true → IsPart tags (moved tags back line v w)
  forward_part back h s k =
      let b = promoted_operand tags w p k in
      let m : IsPart tags (Core (kind.Move (size_of tags (target (type_of v))) back) (type_of v) line (two v (promoted_value w))) =
      record {
        fits = (
          (o.fits, (b.fits, tt)),
          (
            values_two v (promoted_value w) o.value b.value,
            (h, (size_is tags (target (type_of v)) s, inl (refl, subst IsPromoted (sym (promoted_value_type w)) (promoted_type_is w k)))),
          ),
        );
        bare = λ e. o.bare (pointer_scalar (type_of v) h);
      }
      in
      rw (h, integer_no_pointer (type_of w) k) m

  -- an integer and a pointer
  pub behind_part : is_integer (type_of v) ≡ true → is_pointer (type_of w) ≡ true → has_size tags (target (type_of w)) ≡ true → IsPart tags (moved tags false line v w)
  behind_part k h s =
      let a = promoted_operand tags v o k in
      let m : IsPart tags (Core (kind.Move (size_of tags (target (type_of w))) false) (type_of w) line (two (promoted_value v) w)) =
      record {
        fits = (
          (a.fits, (p.fits, tt)),
          (
            values_two (promoted_value v) w a.value p.value,
            (h, (size_is tags (target (type_of w)) s, inr (refl, (refl, subst IsPromoted (sym (promoted_value_type v)) (promoted_type_is v k))))),
          ),
        );
        bare = λ e. p.bare (pointer_scalar (type_of w) h);
      }
      in
      rw (integer_no_pointer (type_of v) k, h) m

  pub difference_part : is_pointer (type_of v) ≡ true → is_pointer (type_of w) ≡ true → has_size tags (target (type_of v)) ≡ true → IsPart tags (difference tags line v w)
  difference_part h k s =
      record {
        fits = ((o.fits, (p.fits, tt)), (values_two v w o.value p.value, (refl, (h, (k, size_is tags (target (type_of v)) s)))));
        bare = λ e. refl;
      }

abbrev pub IsPointing : List Tag → CoreTree → Type 0
IsPointing tags v = IsOperand tags v × (is_pointer (type_of v) ≡ true)

-- a pointer, or a scalar beside a pointer, at a pointer's type
pub beside_operand : (tags : List Tag) (v w : CoreTree) → IsOperand tags v → IsOperand tags w → is_scalar (type_of v) ≡ true → (is_pointer (type_of v) ≡ true) ⊎ (is_pointer (type_of w) ≡ true)
    → IsPointing tags (beside (type_of w) v)
beside_operand tags v w o p s h = by (is_pointer (type_of v)) refl h
  where
    by : (b : Bool) → is_pointer (type_of v) ≡ b → (b ≡ true) ⊎ (is_pointer (type_of w) ≡ true) → IsPointing tags (if b then v else converted (type_of w) v)
    by true e h = (o, e)
    by false e (inl h) = never (sym h)
    by false e (inr h) =
        let t = pointer_scalar (type_of w) h in
        (converted_operand tags (type_of w) v o s t (p.bare t), subst (λ t. is_pointer t ≡ true) (sym (converted_type (type_of w) v)) h)

-- pointers, of which one may be a null pointer constant, compared
pub pointers_compared : (tags : List Tag) (line : ℕ) (op : Comparison) (v w : CoreTree) → IsOperand tags v → IsOperand tags w → is_scalar (type_of v) ≡ true → is_scalar (type_of w) ≡ true
    → (is_pointer (type_of v) ≡ true) ⊎ (is_pointer (type_of w) ≡ true) → IsPart tags (Core (kind.Compare op false) (basic Int) line (two (beside (type_of w) v) (beside (type_of v) w)))
pointers_compared tags line op v w o p s t h =
    let a = beside_operand tags v w o p s h in
    let b = beside_operand tags w v p o t (other h) in
    record {
      fits = ((a.0.fits, (b.0.fits, tt)), (values_two (beside (type_of w) v) (beside (type_of v) w) a.0.value b.0.value, (refl, inr (a.1, b.1))));
      bare = λ e. refl;
    }
  where
    other : (is_pointer (type_of v) ≡ true) ⊎ (is_pointer (type_of w) ≡ true) → (is_pointer (type_of w) ≡ true) ⊎ (is_pointer (type_of v) ≡ true)
    other (inl h) = inr h
    other (inr h) = inl h
