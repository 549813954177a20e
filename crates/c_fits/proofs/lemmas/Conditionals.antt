-- `?:`: numbers, structures, nothing, and pointers that fit.
use Rattle.std.proofs.Common.{◌≡◌, ◌⊎◌, ℕ, Bool, true, false, not, ◌&&◌, ◌||◌, List, refl, sym, ap, subst, ◌∙◌, inl, inr}
use Rattle.std.specs.Prelude.{if◌then◌else◌}
use Rattle.c_types.specs.CType.{Void, CType, Plain, Array, Simple, Pointer, Structure, Union, basic, unqualified}
use Rattle.c_types.specs.Conversions.{is_integer}
use Rattle.c_types.specs.Layout.{Tag}
use Rattle.c_meaning.specs.CoreTrees.{type_of}
use Rattle.c_meaning.specs.Constants.{is_null}
use Rattle.c_meaning.specs.ExprConstraints.{are_integers, can_choose, is_open_record, pointers_fit, targets_fit}
use Rattle.c_meaning.specs.Types.{alike, has_size, is_pointer, is_record, is_scalar, is_void, pointer_to, target}
use Rattle.c_meaning.specs.Values.{CoreTree, converted, usual_type}
use Rattle.c_meaning.specs.Fits.{is_whole}
use Rattle.c_meaning.specs.Rows.{chosen, chosen_part, chosen_type, common_target, pointer_chosen}
use Rattle.c_fits.proofs.lemmas.Booleans.{never, not_false, and_left, and_right, and_true, and_beside, or_cases, or_true, or_false}
use Rattle.c_fits.proofs.lemmas.Values.{IsPart, IsOperand, chosen_by, converted_type, converted_operand, values_three}
use Rattle.c_fits.proofs.lemmas.Numbers.{integer_scalar, pointer_scalar, promoted_bare, usual_type_is}
use Rattle.c_fits.proofs.lemmas.Nulls.{null_scalar}
use Rattle.c_fits.proofs.lemmas.Assigned.{alike_records, bare_again}

-- one part, at the type of the whole
pub record IsChosen (tags : List Tag) (of : CType) (v : CoreTree) : Type 0 where
  pub operand : IsOperand tags v
  pub type : unqualified (type_of v) ≡ of

-- a type of the whole, and its parts
abbrev AreChosen : List Tag → CType → CoreTree → CoreTree → Type 0
AreChosen tags of v w =
    ((is_void of || is_whole tags of) ≡ true) × ((unqualified of ≡ of) × (IsChosen tags of (chosen_part of v) × IsChosen tags of (chosen_part of w)))

void_or_scalar : (tags : List Tag) (t : CType) → is_scalar t ≡ true → (is_void t || is_whole tags t) ≡ true
void_or_scalar tags t h = or_true (is_void t) (is_whole tags t) (inr (or_true (is_scalar t) (is_record t && has_size tags t) (inl h)))

scalar_part : (of : CType) (v : CoreTree) → is_scalar of ≡ true → chosen_part of v ≡ converted of v
scalar_part of v h = rw h

other_part : (of : CType) (v : CoreTree) → is_scalar of ≡ false → chosen_part of v ≡ v
other_part of v h = rw h

chosen_scalar : (tags : List Tag) (of : CType) (v : CoreTree) → IsOperand tags v → is_scalar (type_of v) ≡ true → is_scalar of ≡ true → unqualified of ≡ of → IsChosen tags of (chosen_part of v)
chosen_scalar tags of v o s t bare =
    subst (IsChosen tags of) (sym (scalar_part of v t))
    (record { operand = converted_operand tags of v o s t bare; type = ap unqualified (converted_type of v) ∙ bare })

-- two scalars at a scalar type
both_scalars : (tags : List Tag) (of : CType) (v w : CoreTree) → IsOperand tags v → IsOperand tags w → is_scalar (type_of v) ≡ true → is_scalar (type_of w) ≡ true → is_scalar of ≡ true → unqualified of ≡ of → AreChosen tags of v w
both_scalars tags of v w o p s t h bare = (void_or_scalar tags of h, (bare, (chosen_scalar tags of v o s h bare, chosen_scalar tags of w p t h bare)))

-- both stay as they are
both_stay : (tags : List Tag) (v w : CoreTree) → IsOperand tags v → IsOperand tags w → is_scalar (unqualified (type_of v)) ≡ false → (is_void (unqualified (type_of v)) || is_whole tags (unqualified (type_of v))) ≡ true
    → unqualified (type_of w) ≡ unqualified (type_of v) → AreChosen tags (unqualified (type_of v)) v w
both_stay tags v w o p s h e =
    let of = unqualified (type_of v) in (
      h,
      (
        bare_again (type_of v),
        (
          subst (IsChosen tags (unqualified (type_of v))) (sym (other_part (unqualified (type_of v)) v s)) (record { operand = o; type = refl }),
          subst (IsChosen tags (unqualified (type_of v))) (sym (other_part (unqualified (type_of v)) w s)) (record { operand = p; type = e }),
        ),
      ),
    )

-- ---- the type of the whole

both_integers : (v w : CoreTree) → are_integers (type_of v) (type_of w) ≡ true → chosen_type v w ≡ usual_type v w
both_integers v w h = rw h

-- a pointer among them
a_pointer : (v w : CoreTree) → are_integers (type_of v) (type_of w) ≡ false → (is_pointer (type_of v) || is_pointer (type_of w)) ≡ true → chosen_type v w ≡ pointer_chosen v w
a_pointer v w h k = rw (h, k)

neither : (v w : CoreTree) → are_integers (type_of v) (type_of w) ≡ false → (is_pointer (type_of v) || is_pointer (type_of w)) ≡ false → chosen_type v w ≡ unqualified (type_of v)
neither v w h k = rw (h, k)

-- pointers that fit: what their common type needs
abbrev PointersFit : CoreTree → CoreTree → Type 0
PointersFit v w =
    ((is_pointer (type_of v) ≡ true) × (is_null w ≡ true))
    ⊎ (((is_null v ≡ true) × (is_pointer (type_of w) ≡ true)) ⊎ ((is_pointer (type_of v) ≡ true) × (is_pointer (type_of w) ≡ true)))

pub pointers_cases : (v w : CoreTree) → pointers_fit v w ≡ true → PointersFit v w
pointers_cases v w h = first (or_cases (is_pointer (type_of v) && is_null w) ((is_null v && is_pointer (type_of w)) || ((is_pointer (type_of v) && is_pointer (type_of w)) && targets_fit (target (type_of v)) (target (type_of w)))) h)
  where
    both : ((is_pointer (type_of v) && is_pointer (type_of w)) && targets_fit (target (type_of v)) (target (type_of w))) ≡ true → (is_pointer (type_of v) ≡ true) × (is_pointer (type_of w) ≡ true)
    both k =
        let l = and_left (is_pointer (type_of v) && is_pointer (type_of w)) (targets_fit (target (type_of v)) (target (type_of w))) k in
        (and_left (is_pointer (type_of v)) (is_pointer (type_of w)) l, and_right (is_pointer (type_of v)) (is_pointer (type_of w)) l)

    second : ((is_null v && is_pointer (type_of w)) ≡ true) ⊎ (((is_pointer (type_of v) && is_pointer (type_of w)) && targets_fit (target (type_of v)) (target (type_of w))) ≡ true) → PointersFit v w
    second (inl k) = inr (inl (and_left (is_null v) (is_pointer (type_of w)) k, and_right (is_null v) (is_pointer (type_of w)) k))
    second (inr k) = inr (inr (both k))

    first : ((is_pointer (type_of v) && is_null w) ≡ true) ⊎ (((is_null v && is_pointer (type_of w)) || ((is_pointer (type_of v) && is_pointer (type_of w)) && targets_fit (target (type_of v)) (target (type_of w)))) ≡ true) → PointersFit v w
    first (inl k) = inl (and_left (is_pointer (type_of v)) (is_null w) k, and_right (is_pointer (type_of v)) (is_null w) k)
    first (inr k) = second (or_cases (is_null v && is_pointer (type_of w)) ((is_pointer (type_of v) && is_pointer (type_of w)) && targets_fit (target (type_of v)) (target (type_of w))) k)

pub pointers_scalars : (tags : List Tag) (v w : CoreTree) → IsOperand tags v → IsOperand tags w → PointersFit v w → (is_scalar (type_of v) ≡ true) × ((is_scalar (type_of w) ≡ true) × ((is_pointer (type_of v) || is_pointer (type_of w)) ≡ true))
pointers_scalars tags v w o p (inl h) = (pointer_scalar (type_of v) h.0, (null_scalar tags w p.fits h.1, or_true (is_pointer (type_of v)) (is_pointer (type_of w)) (inl h.0)))
pointers_scalars tags v w o p (inr (inl h)) = (null_scalar tags v o.fits h.0, (pointer_scalar (type_of w) h.1, or_true (is_pointer (type_of v)) (is_pointer (type_of w)) (inr h.1)))
pointers_scalars tags v w o p (inr (inr h)) = (pointer_scalar (type_of v) h.0, (pointer_scalar (type_of w) h.1, or_true (is_pointer (type_of v)) (is_pointer (type_of w)) (inl h.0)))

-- a pointer's type that is the value's, or that is made
abbrev IsBarePointer : CType → Type 0
IsBarePointer t = (is_pointer t ≡ true) × (unqualified t ≡ t)

left_pointer : (v w : CoreTree) → PointersFit v w → (is_null v && is_pointer (type_of w)) ≡ false → is_pointer (type_of v) ≡ true
left_pointer v w (inl h) e = h.0
left_pointer v w (inr (inl h)) e = never (sym (and_true (is_null v) (is_pointer (type_of w)) h.0 h.1) ∙ e)
left_pointer v w (inr (inr h)) e = h.0

-- their common type is a pointer
chosen_pointer : (tags : List Tag) (v w : CoreTree) → IsOperand tags v → IsOperand tags w → PointersFit v w → IsBarePointer (pointer_chosen v w)
chosen_pointer tags v w o p h =
    chosen_by IsBarePointer (is_null v && is_pointer (type_of w)) (type_of w) (if is_null w then type_of v else pointer_to (common_target (target (type_of v)) (target (type_of w))))
    (λ e. let k = and_right (is_null v) (is_pointer (type_of w)) e in (k, p.bare (pointer_scalar (type_of w) k)))
    (λ e.
    chosen_by IsBarePointer (is_null w) (type_of v) (pointer_to (common_target (target (type_of v)) (target (type_of w))))
    (λ n. let k = left_pointer v w h e in (k, o.bare (pointer_scalar (type_of v) k)))
    (λ n. (refl, refl)))

-- ---- the cases

pointer_bare : (t : CType) → is_pointer (unqualified t) ≡ is_pointer t
pointer_bare (Plain q k) = refl
pointer_bare (Array of n) = refl

record_no_pointer : (t : CType) → is_record t ≡ true → is_pointer t ≡ false
record_no_pointer (Plain q (Pointer to)) h = never (sym h)
record_no_pointer (Plain q k) h = refl
record_no_pointer (Array of n) h = refl

record_no_scalar : (t : CType) → is_record t ≡ true → is_scalar (unqualified t) ≡ false
record_no_scalar (Plain q (Structure n)) h = refl
record_no_scalar (Plain q (Union n)) h = refl
record_no_scalar (Plain q k) h = never (sym h)
record_no_scalar (Array of n) h = refl

record_whole : (tags : List Tag) (t : CType) → is_record t ≡ true → has_size tags t ≡ true → (is_void (unqualified t) || is_whole tags (unqualified t)) ≡ true
record_whole tags (Plain q (Structure n)) h k = k
record_whole tags (Plain q (Union n)) h k = k
record_whole tags (Plain q k) h l = never (sym h)
record_whole tags (Array of n) h k = never (sym h)

void_bare : (t : CType) → is_void t ≡ true → unqualified t ≡ basic Void
void_bare (Plain q (Simple Void)) h = refl
void_bare (Plain q (Simple b)) h = never (sym h)
void_bare (Plain q k) h = never (sym h)
void_bare (Array of n) h = never (sym h)

fit_chosen : (tags : List Tag) (v w : CoreTree) → IsOperand tags v → IsOperand tags w → can_choose v w ≡ true → is_open_record tags (type_of v) ≡ false → AreChosen tags (chosen_type v w) v w
fit_chosen tags v w o p h r = first (are_integers (type_of v) (type_of w)) refl h
  where
    integers : are_integers (type_of v) (type_of w) ≡ true → AreChosen tags (chosen_type v w) v w
    integers e =
        let i = and_left (is_integer (type_of v)) (is_integer (type_of w)) e in
        let j = and_right (is_integer (type_of v)) (is_integer (type_of w)) e in
        let u = usual_type_is v w i j in
        subst (λ t. AreChosen tags t v w) (sym (both_integers v w e))
        (both_scalars tags (usual_type v w) v w o p (integer_scalar (type_of v) i) (integer_scalar (type_of w) j) (integer_scalar (usual_type v w) u.0) (promoted_bare (usual_type v w) u))

    stays : are_integers (type_of v) (type_of w) ≡ false → is_pointer (type_of v) ≡ false → is_scalar (unqualified (type_of v)) ≡ false → (is_void (unqualified (type_of v)) || is_whole tags (unqualified (type_of v))) ≡ true
        → unqualified (type_of w) ≡ unqualified (type_of v) → AreChosen tags (chosen_type v w) v w
    stays e n s k t =
        let m = sym (pointer_bare (type_of w)) ∙ ap is_pointer t ∙ pointer_bare (type_of v) ∙ n in
        subst (λ t. AreChosen tags t v w) (sym (neither v w e (or_false (is_pointer (type_of v)) (is_pointer (type_of w)) n m))) (both_stay tags v w o p s k t)

    records : are_integers (type_of v) (type_of w) ≡ false → (is_record (type_of v) && alike (type_of v) (type_of w)) ≡ true → AreChosen tags (chosen_type v w) v w
    records e k =
        let a = and_left (is_record (type_of v)) (alike (type_of v) (type_of w)) k in
        let s = not_false (has_size tags (type_of v)) (and_beside (is_record (type_of v)) (not (has_size tags (type_of v))) a r) in
        stays e (record_no_pointer (type_of v) a) (record_no_scalar (type_of v) a) (record_whole tags (type_of v) a s)
        (alike_records (type_of v) (type_of w) a (and_right (is_record (type_of v)) (alike (type_of v) (type_of w)) k))

    voids : are_integers (type_of v) (type_of w) ≡ false → (is_void (type_of v) && is_void (type_of w)) ≡ true → AreChosen tags (chosen_type v w) v w
    voids e k =
        let a = void_bare (type_of v) (and_left (is_void (type_of v)) (is_void (type_of w)) k) in
        let b = void_bare (type_of w) (and_right (is_void (type_of v)) (is_void (type_of w)) k) in
        stays e (sym (pointer_bare (type_of v)) ∙ ap is_pointer a) (ap is_scalar a) (or_true (is_void (unqualified (type_of v))) (is_whole tags (unqualified (type_of v))) (inl (ap is_void a))) (b ∙ sym a)

    pointers : are_integers (type_of v) (type_of w) ≡ false → pointers_fit v w ≡ true → AreChosen tags (chosen_type v w) v w
    pointers e k =
        let f = pointers_cases v w k in
        let s = pointers_scalars tags v w o p f in
        let t = chosen_pointer tags v w o p f in
        subst (λ t. AreChosen tags t v w) (sym (a_pointer v w e s.1.1)) (both_scalars tags (pointer_chosen v w) v w o p s.0 s.1.0 (pointer_scalar (pointer_chosen v w) t.0) t.1)

    third : are_integers (type_of v) (type_of w) ≡ false → ((is_void (type_of v) && is_void (type_of w)) ≡ true) ⊎ (pointers_fit v w ≡ true) → AreChosen tags (chosen_type v w) v w
    third e (inl k) = voids e k
    third e (inr k) = pointers e k

    second : are_integers (type_of v) (type_of w) ≡ false → ((is_record (type_of v) && alike (type_of v) (type_of w)) ≡ true) ⊎ (((is_void (type_of v) && is_void (type_of w)) || pointers_fit v w) ≡ true) → AreChosen tags (chosen_type v w) v w
    second e (inl k) = records e k
    second e (inr k) = third e (or_cases (is_void (type_of v) && is_void (type_of w)) (pointers_fit v w) k)

    first : (b : Bool) → are_integers (type_of v) (type_of w) ≡ b → (b || ((is_record (type_of v) && alike (type_of v) (type_of w)) || ((is_void (type_of v) && is_void (type_of w)) || pointers_fit v w))) ≡ true → AreChosen tags (chosen_type v w) v w
    first true e k = integers e
    first false e k = second e (or_cases (is_record (type_of v) && alike (type_of v) (type_of w)) ((is_void (type_of v) && is_void (type_of w)) || pointers_fit v w) k)

pub chosen_whole : (tags : List Tag) (line : ℕ) (u v w : CoreTree) → IsOperand tags u → IsOperand tags v → IsOperand tags w → is_scalar (type_of u) ≡ true → can_choose v w ≡ true → is_open_record tags (type_of v) ≡ false
    → IsPart tags (chosen (chosen_type v w) line u v w)
chosen_whole tags line u v w q o p s h r =
    let c = fit_chosen tags v w o p h r in
    let of = chosen_type v w in
    let a = c.1.1.0 in
    let b = c.1.1.1 in
    record {
      fits = (
        (q.fits, (a.operand.fits, (b.operand.fits, tt))),
        (values_three u (chosen_part (chosen_type v w) v) (chosen_part (chosen_type v w) w) q.value a.operand.value b.operand.value, (s, (c.0, (a.type, b.type)))),
      );
      bare = λ e. c.1.0;
    }
