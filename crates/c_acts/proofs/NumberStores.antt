-- Numbers that an expression writes in a place.
use Rattle.std.proofs.Common.{◌≡◌, ◌∙◌, ℕ, Bool, false, List, [], ◌∷◌, refl, sym, ap, subst}
use Rattle.std.specs.Prelude.{Ok}
use Rattle.lcc_base.specs.declared.order.Order.{Order}
use Rattle.objects.specs.declared.operators.Binary.{Binary}
use Rattle.objects.specs.declared.purpose.Purpose.TheVariants.{Assignment}
use Rattle.objects.specs.declared.value.Value.{Value}
use Rattle.objects.specs.declared.value.Value.TheVariants.{Number}
use Rattle.objects.specs.declared.width.Scalar.{Scalar}
use Rattle.objects.specs.Accesses.{read}
use Rattle.objects.specs.Arithmetic.{binary_value}
use Rattle.objects.specs.Conversions.{as_scalar}
use Rattle.objects.specs.Objects.{Object}
use Rattle.c_types.specs.CType.{CType}
use Rattle.c_meaning.specs.declared.core_expr.Change.{Change}
use Rattle.c_meaning.specs.declared.core_expr.Change.TheVariants as change
use Rattle.c_meaning.specs.declared.core_expr.CoreKind.TheVariants as kind
use Rattle.c_meaning.specs.CoreTrees.{type_of}
use Rattle.c_meaning.specs.Scalars.{scalar_of}
use Rattle.c_meaning.specs.Types.{is_record}
use Rattle.c_meaning.specs.Values.{CoreTree}
use Rattle.c_runs.specs.Calls.{Setting}
use Rattle.c_runs.specs.Expressions.{changed, row}
use Rattle.c_runs.specs.Outcomes.{stores}
use Rattle.c_runs.specs.Places.{Spot as SpotOf, held, kept, spot_of, stored}
use Rattle.c_runs.specs.Worlds.{World, objects}
use Rattle.c_worlds.specs.Shown.{giving}
use Rattle.c_acts.specs.declared.spot.Spot.{Spot}
use Rattle.c_acts.specs.Spots.{kept_of}

plain_held : (order : Order) (x : SpotOf) (os : List Object) (at : Value) → x.width ≡ 0 → held order x os at ≡ read order (scalar_of x.of) os at
plain_held order x os at z = rw z refl

-- what a spot other than a bit-field holds is its scalar
pub held_number : (order : Order) (x : SpotOf) (spot : Spot) (os : List Object) (at : Value) (n : ℕ)
    → kept_of x ≡ spot → spot.width ≡ 0 → read order spot.scalar os at ≡ Ok (Number n) → held order x os at ≡ Ok (Number n)
held_number order x spot os at n e z r =
    plain_held order x os at (ap (λ (s : Spot). s.width) e ∙ z)
    ∙ subst (λ (s : Scalar). read order s os at ≡ Ok (Number n)) (sym (ap (λ (s : Spot). s.scalar) e)) r

-- a number changed by an operation
pub number_changes : (scalar : Scalar) (signed : Bool) (op : Binary) (x : SpotOf) (t : CType) (os : List Object) (old n new m : ℕ)
    → scalar_of x.of ≡ scalar → binary_value signed op (Number old) (Number n) ≡ Ok (Number new) → m ≡ as_scalar scalar new
    → changed (change.Arithmetic op signed) x t os (Number old) (Number n) ≡ Ok (Number m)
number_changes scalar signed op x t os old n new m h b e = rw (b, h, e) refl

-- ---- rows of expressions whose right part gave a number

pub assign_stores : (s : Setting) (of : CType) (line : ℕ) (left right : CoreTree) (at : Value) (n k : ℕ) (w : World) (os : List Object)
    → is_record of ≡ false → objects w ≡ os
    → row s kind.Assign of line (giving left at ∷ giving right (Number n) ∷ []) k w ≡ stores (stored Assignment s.order (spot_of left) (Number n) os at) (kept (spot_of left) (Number n)) line k w
assign_stores s of line left right at n k w os h o = rw (h, o) refl

pub change_stores : (s : Setting) (by : Change) (of : CType) (line : ℕ) (left right : CoreTree) (at : Value) (n old m k : ℕ) (w : World) (os : List Object)
    → held s.order (spot_of left) os at ≡ Ok (Number old) → changed by (spot_of left) (type_of right) os (Number old) (Number n) ≡ Ok (Number m) → objects w ≡ os
    → row s (kind.Change by) of line (giving left at ∷ giving right (Number n) ∷ []) k w ≡ stores (stored Assignment s.order (spot_of left) (Number m) os at) (kept (spot_of left) (Number m)) line k w
change_stores s by of line left right at n old m k w os h c o = rw (o, h, c) refl

pub postfix_stores : (s : Setting) (by : Change) (of : CType) (line : ℕ) (left right : CoreTree) (at : Value) (n old m k : ℕ) (w : World) (os : List Object)
    → held s.order (spot_of left) os at ≡ Ok (Number old) → changed by (spot_of left) (type_of right) os (Number old) (Number n) ≡ Ok (Number m) → objects w ≡ os
    → row s (kind.Postfix by) of line (giving left at ∷ giving right (Number n) ∷ []) k w ≡ stores (stored Assignment s.order (spot_of left) (Number m) os at) (Number old) line k w
postfix_stores s by of line left right at n old m k w os h c o = rw (o, h, c) refl
