-- Assignments and changes of places.
use Rattle.std.proofs.Common.{◌≡◌, ◌⊎◌, ℕ, Bool, true, false, not, ◌&&◌, ◌||◌, List, refl, sym, ap, subst, ◌∙◌, inl, inr}
use Rattle.std.specs.Prelude.{if◌then◌else◌}
use Rattle.objects.specs.declared.operators.Binary.{Binary}
use Rattle.objects.specs.Arithmetic.{is_shift}
use Rattle.c_types.specs.CType.{Void, Int, CType, Plain, Array, Simple, Enumeration, basic, unqualified}
use Rattle.c_types.specs.Conversions.{is_integer}
use Rattle.c_types.specs.Layout.{Tag}
use Rattle.c_meaning.specs.declared.core_expr.Change.{Change}
use Rattle.c_meaning.specs.declared.core_expr.Change.TheVariants as change
use Rattle.c_meaning.specs.declared.core_expr.CoreKind.TheVariants as kind
use Rattle.c_meaning.specs.CoreTrees.{Core, type_of, line_of, one, two}
use Rattle.c_meaning.specs.ExprConstraints.{is_assignable, is_modifiable, moves_nowhere}
use Rattle.c_meaning.specs.Scalars.{is_signed}
use Rattle.c_meaning.specs.Types.{has_size, is_pointer, is_record, is_scalar, target}
use Rattle.c_meaning.specs.Values.{CoreTree, converted, is_lvalue, is_place, promoted_type, promoted_value, usual_type, value, value_by}
use Rattle.c_meaning.specs.Fits.{AreChanged, IsChanged, IsPromoted, is_whole}
use Rattle.c_meaning.specs.Rows.{acts, added, changes, moves, number, operator_of, shifts, size_of, stepped, stored}
use Rattle.c_fits.proofs.lemmas.Booleans.{never, not_false, and_left, and_right, and_true, and_beside, or_cases, or_true}
use Rattle.c_fits.proofs.lemmas.Values.{IsPart, IsOperand, values_one, chosen_by, converted_type, converted_operand, scalar_operand}
use Rattle.c_fits.proofs.lemmas.Numbers.{common_again, number_operand, promoted_operand, promoted_type_is, promoted_value_type, usual_type_is}
use Rattle.c_fits.proofs.lemmas.Pointers.{size_is}
use Rattle.c_fits.proofs.lemmas.Arithmetic.{number_part}
use Rattle.c_fits.proofs.lemmas.Assigned.{IsAssigned, assigned_as, bare_again, record_bare, scalar_bare, scalar_no_record}

-- ---- `=`

-- what is stored is an operand of the type of the place
pub record IsStored (tags : List Tag) (of : CType) (v : CoreTree) : Type 0 where
  pub operand : IsOperand tags v
  pub whole : is_whole tags of ≡ true
  pub type : unqualified (type_of v) ≡ of

sized_bare : (tags : List Tag) (t : CType) → has_size tags t ≡ true → has_size tags (unqualified t) ≡ true
sized_bare tags (Plain q k) h = h
sized_bare tags (Array of n) h = h

pub stored_operand : (tags : List Tag) (to : CType) (v : CoreTree) → IsOperand tags v → has_size tags to ≡ true → is_assignable to v ≡ true → IsStored tags (unqualified to) (stored (unqualified to) v)
stored_operand tags to v o s h = by (assigned_as tags to v o.fits h)
  where
    by : IsAssigned to (type_of v) → IsStored tags (unqualified to) (stored (unqualified to) v)
    by (inl k) =
        let t = scalar_bare to k.0 in
        let d : IsStored tags (unqualified to) (converted (unqualified to) v) =
        record {
          operand = converted_operand tags (unqualified to) v o k.1 t (bare_again to);
          whole = or_true (is_scalar (unqualified to)) (is_record (unqualified to) && has_size tags (unqualified to)) (inl t);
          type = ap unqualified (converted_type (unqualified to) v) ∙ bare_again to;
        }
        in
        let e : stored (unqualified to) v ≡ converted (unqualified to) v = rw (scalar_no_record (unqualified to) t) in
        subst (IsStored tags (unqualified to)) (sym e) d
    by (inr k) =
        let r = record_bare to ∙ k.0 in
        let d : IsStored tags (unqualified to) v =
        record {
          operand = o;
          whole = or_true (is_scalar (unqualified to)) (is_record (unqualified to) && has_size tags (unqualified to)) (inr (and_true (is_record (unqualified to)) (has_size tags (unqualified to)) r (sized_bare tags to s)));
          type = k.1;
        }
        in
        let e : stored (unqualified to) v ≡ v = rw r in
        subst (IsStored tags (unqualified to)) (sym e) d

pub modifiable_lvalue : (tags : List Tag) (a : CoreTree) → is_modifiable tags a ≡ true → is_lvalue a ≡ true
modifiable_lvalue tags a h = and_left (is_lvalue a) _ h

pub modifiable_sized : (tags : List Tag) (a : CoreTree) → is_modifiable tags a ≡ true → has_size tags (type_of a) ≡ true
modifiable_sized tags a h = and_left (has_size tags (type_of a)) _ (and_right (is_lvalue a) _ h)

pub assigned_part : (tags : List Tag) (line : ℕ) (a w : CoreTree) → IsPart tags a → IsOperand tags w → is_modifiable tags a ≡ true → is_assignable (type_of a) w ≡ true
    → IsPart tags (Core kind.Assign (unqualified (type_of a)) line (two a (stored (unqualified (type_of a)) w)))
assigned_part tags line a w p o m h =
    let d = stored_operand tags (type_of a) w o (modifiable_sized tags a m) h in
    record {
      fits = ((p.fits, (d.operand.fits, tt)), (values_one (stored (unqualified (type_of a)) w) d.operand.value, (modifiable_lvalue tags a m, (d.whole, (refl, d.type)))));
      bare = λ e. bare_again (type_of a);
    }

-- ---- changes

-- a change, given behind it, and before it
abbrev AreChanges : List Tag → ℕ → Change → CoreTree → CoreTree → Type 0
AreChanges tags line by a w = IsPart tags (changes line kind.Change by a w) × IsPart tags (changes line kind.Postfix by a w)

-- the value of a number is a number
pub integer_value : (c : CoreTree) (t : CType) → is_integer t ≡ true → is_integer (type_of c) ≡ true → is_integer (type_of (value_by t c)) ≡ true
integer_value c (Plain q (Simple Void)) h k = never (sym h)
integer_value c (Plain q (Simple b)) h k = chosen_by (λ (v : CoreTree). is_integer (type_of v) ≡ true) (is_place c) (Core kind.Read (Plain 0 (Simple b)) (line_of c) (one c)) c (λ e. refl) (λ e. k)
integer_value c (Plain q (Enumeration n)) h k = chosen_by (λ (v : CoreTree). is_integer (type_of v) ≡ true) (is_place c) (Core kind.Read (Plain 0 (Enumeration n)) (line_of c) (one c)) c (λ e. refl) (λ e. k)
integer_value c (Plain q k) h i = never (sym h)
integer_value c (Array of n) h i = never (sym h)

module _ (tags : List Tag) (line : ℕ) (a w : CoreTree) (p : IsPart tags a) (o : IsOperand tags w) (m : is_lvalue a ≡ true) where
  changed_parts : (by : Change) (v : CoreTree) → IsOperand tags v → IsChanged tags by a (type_of v) → AreChanges tags line by a v
  changed_parts by v o h = (
    record { fits = ((p.fits, (o.fits, tt)), (values_one v o.value, (m, (refl, h)))); bare = λ e. bare_again (type_of a) },
    record { fits = ((p.fits, (o.fits, tt)), (values_one v o.value, (m, (refl, h)))); bare = λ e. bare_again (type_of a) },
  )

  -- a number, at the common type
  pub acts_parts : (op : Binary) → is_shift op ≡ false → is_integer (type_of a) ≡ true → is_integer (type_of w) ≡ true → IsPart tags (acts line kind.Change op a w) × IsPart tags (acts line kind.Postfix op a w)
  acts_parts op e h k =
      let i = integer_value a (type_of a) h h in
      let u = usual_type_is (value a) w i k in
      let again = common_again (promoted_type (value a)) (promoted_type w) (promoted_type_is (value a) i) (promoted_type_is w k) in
      let c : AreChanged (is_shift op) (is_signed (usual_type (value a) w)) a (usual_type (value a) w) =
      subst (λ s. AreChanged s (is_signed (usual_type (value a) w)) a (usual_type (value a) w)) (sym e) (again, refl)
      in
      changed_parts (change.Arithmetic op (is_signed (usual_type (value a) w))) (converted (usual_type (value a) w) w)
      (number_operand tags (usual_type (value a) w) w o k u)
      (subst (λ t. IsChanged tags (change.Arithmetic op (is_signed (usual_type (value a) w))) a t) (sym (converted_type (usual_type (value a) w) w)) (h, (u, c)))

  -- a shift, at the place's promoted type
  pub shifts_part : (op : Binary) → is_shift op ≡ true → is_integer (type_of a) ≡ true → is_integer (type_of w) ≡ true → IsPart tags (shifts line op a w)
  shifts_part op e h k =
      let u : IsPromoted (type_of (promoted_value w)) = subst IsPromoted (sym (promoted_value_type w)) (promoted_type_is w k) in
      let c : AreChanged (is_shift op) (is_signed (promoted_type (value a))) a (type_of (promoted_value w)) =
      subst (λ s. AreChanged s (is_signed (promoted_type (value a))) a (type_of (promoted_value w))) (sym e) refl
      in
      (changed_parts (change.Arithmetic op (is_signed (promoted_type (value a)))) (promoted_value w) (promoted_operand tags w o k) (h, (u, c))).0

  -- a pointer, by elements
  moves_parts : (back : Bool) → is_pointer (type_of a) ≡ true → has_size tags (target (type_of a)) ≡ true → is_integer (type_of w) ≡ true → IsPart tags (moves tags line kind.Change back a w) × IsPart tags (moves tags line kind.Postfix back a w)
  moves_parts back h s k =
      changed_parts (change.Pointer (size_of tags (target (type_of a))) back) (promoted_value w) (promoted_operand tags w o k)
      (h, (size_is tags (target (type_of a)) s, subst IsPromoted (sym (promoted_value_type w)) (promoted_type_is w k)))

  operator_no_shift : (back : Bool) → is_shift (operator_of back) ≡ false
  operator_no_shift true = refl
  operator_no_shift false = refl

  -- a pointer that moves, or a number
  pub added_parts : (back : Bool) → (is_integer (type_of a) || is_pointer (type_of a)) ≡ true → moves_nowhere tags (type_of a) ≡ false → is_integer (type_of w) ≡ true
      → IsPart tags (added tags line kind.Change back a w) × IsPart tags (added tags line kind.Postfix back a w)
  added_parts back h n k = by (is_pointer (type_of a)) refl
    where
      number : is_pointer (type_of a) ≡ false → (is_integer (type_of a) ≡ true) ⊎ (is_pointer (type_of a) ≡ true) → is_integer (type_of a) ≡ true
      number e (inl i) = i
      number e (inr i) = never (sym i ∙ e)

      sized : is_pointer (type_of a) ≡ true → has_size tags (target (type_of a)) ≡ true
      sized e = not_false (has_size tags (target (type_of a))) (and_beside (is_pointer (type_of a)) (not (has_size tags (target (type_of a)))) e n)

      by : (b : Bool) → is_pointer (type_of a) ≡ b
          → IsPart tags (if b then moves tags line kind.Change back a w else acts line kind.Change (operator_of back) a w)
          × IsPart tags (if b then moves tags line kind.Postfix back a w else acts line kind.Postfix (operator_of back) a w)
      by true e = moves_parts back e (sized e) k
      by false e = acts_parts (operator_of back) (operator_no_shift back) (number e (or_cases (is_integer (type_of a)) (is_pointer (type_of a)) h)) k

-- by one
pub stepped_parts : (tags : List Tag) (line : ℕ) (back : Bool) (a : CoreTree) → IsPart tags a → is_lvalue a ≡ true → (is_integer (type_of a) || is_pointer (type_of a)) ≡ true → moves_nowhere tags (type_of a) ≡ false
    → IsPart tags (stepped tags line kind.Change back a) × IsPart tags (stepped tags line kind.Postfix back a)
stepped_parts tags line back a p m h n =
    let one = number_part tags (basic Int) line 1 refl refl in
    added_parts tags line a (number (basic Int) line 1) p (scalar_operand tags (number (basic Int) line 1) one refl refl) m back h n refl
