-- The type of a constant expression that is checked is an integer type.
use Rattle.std.proofs.Common.{◌≡◌, ℕ, List, refl, sym, ap, ◌∙◌}
use Rattle.std.specs.Prelude.{Bool, true, false, ◌&&◌}
use Rattle.objects.specs.Arithmetic.{is_shift}
use Rattle.c_types.specs.CType.{CType, Plain, Array, Simple, Enumeration, Void, unqualified}
use Rattle.c_types.specs.Conversions.{is_integer}
use Rattle.c_types.specs.Layout.{Tag}
use Rattle.c_types.specs.Table.{Table, type_at, form_at, is_qualified}
use Rattle.c_meaning.specs.declared.core_expr.CoreKind.TheVariants as kind
use Rattle.c_meaning.specs.CoreTrees.{CoreOf, Core, NoCore, Cores, type_of, seen}
use Rattle.c_meaning.specs.Constants.{is_constant, is_to_integer}
use Rattle.c_meaning.specs.Fits.{Fits, IsOpenLeaf, AreOperands}
use Rattle.c_meaning.specs.Scalars.{conversion_to}
use Rattle.c_values.specs.Folding.{IsTyped}
use Rattle.c_values.specs.Signs.{HasBasicForms}
use Rattle.c_values.proofs.Folding.{constant_seen, type_seen}
use Rattle.c_values.proofs.Signs.{own_sign}

of_conversion : (t : CType) → is_to_integer (conversion_to t) ≡ true → is_integer t ≡ true
of_conversion (Plain q (Simple Void)) h = cc
of_conversion (Plain q (Simple b)) h = refl
of_conversion (Plain q (Enumeration n)) h = refl
of_conversion (Plain q k) h = absurd (cc)
of_conversion (Array of n) h = absurd (cc)

without_qualifiers : (t : CType) → is_integer (unqualified t) ≡ is_integer t
without_qualifiers (Plain q (Simple Void)) = refl
without_qualifiers (Plain q (Simple b)) = refl
without_qualifiers (Plain q k) = refl
without_qualifiers (Array of n) = refl

of_operands : (shift : Bool) (of t u : CType) → AreOperands shift of t u → is_integer of ≡ true
of_operands true of t u h = h.0.0
of_operands false of t u h = h.0.0

both_true : (a b : Bool) → (a && b) ≡ true → (a ≡ true) × (b ≡ true)
both_true true b h = (refl, h)
both_true false b h = absurd (cc)

pub constant_integer : (tags : List Tag) (c : CoreOf CType) → Fits IsOpenLeaf tags c → is_constant c ≡ true → is_integer (type_of c) ≡ true
constant_integer tags (Core (kind.Number n) of line NoCore) f h = f.1.1
constant_integer tags (Core (kind.Convert conversion) of line (Cores a NoCore)) f h = of_conversion of (ap is_to_integer f.1.1.0 ∙ (both_true (is_to_integer conversion) _ h).0)
constant_integer tags (Core (kind.Unary op) of line (Cores a NoCore)) f h = f.1.1.0.0
constant_integer tags (Core kind.Not of line (Cores a NoCore)) f h = ap is_integer f.1.1.0
constant_integer tags (Core (kind.Binary op signed) of line (Cores a (Cores b NoCore))) f h = of_operands (is_shift op) of (type_of a) (type_of b) f.1.1.1
constant_integer tags (Core (kind.Compare op signed) of line (Cores a (Cores b NoCore))) f h = ap is_integer f.1.1.0
constant_integer tags (Core kind.And of line (Cores a (Cores b NoCore))) f h = ap is_integer f.1.1.0
constant_integer tags (Core kind.Or of line (Cores a (Cores b NoCore))) f h = ap is_integer f.1.1.0
constant_integer tags (Core kind.Conditional of line (Cores a (Cores b (Cores c NoCore)))) f h =
    let e = both_true (is_constant a) _ h in
    let g = both_true (is_constant b) _ e.1 in
    ap is_integer (sym f.1.1.1.1.0) ∙ without_qualifiers (type_of b) ∙ constant_integer tags b f.0.1.0 g.0
constant_integer tags (Core (kind.Number n) of line kids) f h = absurd f.1.1
constant_integer tags (Core (kind.Convert conversion) of line kids) f h = absurd f.1.1
constant_integer tags (Core (kind.Unary op) of line kids) f h = absurd f.1.1
constant_integer tags (Core kind.Not of line kids) f h = absurd f.1.1
constant_integer tags (Core (kind.Binary op signed) of line kids) f h = absurd f.1.1
constant_integer tags (Core (kind.Compare op signed) of line kids) f h = absurd f.1.1
constant_integer tags (Core kind.And of line kids) f h = absurd f.1.1
constant_integer tags (Core kind.Or of line kids) f h = absurd f.1.1
constant_integer tags (Core kind.Conditional of line kids) f h = absurd f.1.1
constant_integer tags (Core what of line kids) f h = absurd (cc)

pub constant_typed : (t : Table) (tags : List Tag) (c : CoreOf ℕ) → HasBasicForms t → is_qualified (form_at t (type_of c)) ≡ false → Fits IsOpenLeaf tags (seen (type_at t) c) → IsTyped t c
constant_typed t tags c b own f e =
    own_sign t (type_of c) b own (ap is_integer (sym (type_seen (type_at t) c)) ∙ constant_integer tags (seen (type_at t) c) f (constant_seen (type_at t) c ∙ e))
