-- Operations on numbers: `+`, shifts, comparisons, `-x`, and the tests.
use Rattle.std.proofs.Common.{◌≡◌, ℕ, true, false, List, refl, sym, ap, subst, ◌∙◌, inl}
use Rattle.objects.specs.declared.operators.Binary.{Binary}
use Rattle.objects.specs.declared.operators.Comparison.{Comparison}
use Rattle.objects.specs.declared.operators.Unary.{Unary}
use Rattle.objects.specs.Arithmetic.{is_shift}
use Rattle.c_types.specs.CType.{Int, CType, basic, unqualified}
use Rattle.c_types.specs.Conversions.{is_integer}
use Rattle.c_types.specs.Layout.{Tag}
use Rattle.c_meaning.specs.declared.core_expr.CoreKind.TheVariants as kind
use Rattle.c_meaning.specs.CoreTrees.{Core, type_of, one, two}
use Rattle.c_meaning.specs.Scalars.{is_signed}
use Rattle.c_meaning.specs.Types.{is_scalar}
use Rattle.c_meaning.specs.Values.{CoreTree, converted, promoted_type, promoted_value, usual_type}
use Rattle.c_meaning.specs.Fits.{AreOperands, IsPromoted}
use Rattle.c_meaning.specs.Rows.{arithmetic, shift, at_usual, unary_by, number}
use Rattle.c_fits.proofs.lemmas.Values.{IsPart, IsOperand, values_one, values_two, converted_type}
use Rattle.c_fits.proofs.lemmas.Numbers.{promoted_bare, promoted_type_is, promoted_operand, promoted_value_type, usual_type_is, number_operand}

pub number_part : (tags : List Tag) (of : CType) (line n : ℕ) → is_integer of ≡ true → unqualified of ≡ of → IsPart tags (number of line n)
number_part tags of line n h e = record { fits = (tt, (refl, h)); bare = λ k. e }

module _ (tags : List Tag) (line : ℕ) (v w : CoreTree) (o : IsOperand tags v) (p : IsOperand tags w) where
  -- `&&` and `||`
  pub and_part : is_scalar (type_of v) ≡ true → is_scalar (type_of w) ≡ true → IsPart tags (Core kind.And (basic Int) line (two v w))
  and_part h k = record { fits = ((o.fits, (p.fits, tt)), (values_two v w o.value p.value, (refl, (h, k)))); bare = λ e. refl }

  pub or_part : is_scalar (type_of v) ≡ true → is_scalar (type_of w) ≡ true → IsPart tags (Core kind.Or (basic Int) line (two v w))
  or_part h k = record { fits = ((o.fits, (p.fits, tt)), (values_two v w o.value p.value, (refl, (h, k)))); bare = λ e. refl }

  module _ (h : is_integer (type_of v) ≡ true) (k : is_integer (type_of w) ≡ true) where
    pub arithmetic_part : (op : Binary) → is_shift op ≡ false → IsPart tags (arithmetic op line v w)
    arithmetic_part op e =
        let u = usual_type_is v w h k in
        let a = number_operand tags (usual_type v w) v o h u in
        let b = number_operand tags (usual_type v w) w p k u in
        record {
          fits = (
            (a.fits, (b.fits, tt)),
            (
              values_two (converted (usual_type v w) v) (converted (usual_type v w) w) a.value b.value,
              (
                refl,
                subst (λ s. AreOperands s (usual_type v w) (type_of (converted (usual_type v w) v)) (type_of (converted (usual_type v w) w))) (sym e)
                    (u, (converted_type (usual_type v w) v, converted_type (usual_type v w) w)),
              ),
            ),
          );
          bare = λ e. promoted_bare (usual_type v w) u;
        }

    pub shift_part : (op : Binary) → is_shift op ≡ true → IsPart tags (shift op line v w)
    shift_part op e =
        let u = promoted_type_is v h in
        let a = promoted_operand tags v o h in
        let b = promoted_operand tags w p k in
        record {
          fits = (
            (a.fits, (b.fits, tt)),
            (
              values_two (promoted_value v) (promoted_value w) a.value b.value,
              (
                refl,
                subst (λ s. AreOperands s (promoted_type v) (type_of (promoted_value v)) (type_of (promoted_value w))) (sym e)
                    (u, (promoted_value_type v, subst IsPromoted (sym (promoted_value_type w)) (promoted_type_is w k))),
              ),
            ),
          );
          bare = λ e. promoted_bare (promoted_type v) u;
        }

    -- numbers compared at their common type
    pub compared_part : (op : Comparison) → IsPart tags (at_usual (kind.Compare op (is_signed (usual_type v w))) (basic Int) (usual_type v w) line v w)
    compared_part op =
        let u = usual_type_is v w h k in
        let a = number_operand tags (usual_type v w) v o h u in
        let b = number_operand tags (usual_type v w) w p k u in
        let e = converted_type (usual_type v w) v in
        record {
          fits = (
            (a.fits, (b.fits, tt)),
            (
              values_two (converted (usual_type v w) v) (converted (usual_type v w) w) a.value b.value,
              (
                refl,
                inl (
                  subst IsPromoted (sym e) u,
                  (e ∙ sym (converted_type (usual_type v w) w), ap is_signed e),
                ),
              ),
            ),
          );
          bare = λ e. refl;
        }

module _ (tags : List Tag) (line : ℕ) (v : CoreTree) (o : IsOperand tags v) where
  pub unary_part : (op : Unary) → is_integer (type_of v) ≡ true → IsPart tags (unary_by op line v)
  unary_part op h =
      let a = promoted_operand tags v o h in
      let u = promoted_type_is v h in
      record {
        fits = ((a.fits, tt), (values_one (promoted_value v) a.value, (u, promoted_value_type v)));
        bare = λ e. promoted_bare (promoted_type v) u;
      }

  pub not_part : is_scalar (type_of v) ≡ true → IsPart tags (Core kind.Not (basic Int) line (one v))
  not_part h = record { fits = ((o.fits, tt), (values_one v o.value, (refl, h))); bare = λ e. refl }
