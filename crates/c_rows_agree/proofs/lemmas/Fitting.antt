-- Each operator of the templates has the operands and the constant that it needs.
use Rattle.std.specs.Prelude.{◌≡◌, ◌≤◌, ◌<◌, ℕ, ◌+◌, ◌-◌, ◌^◌, Bool, true, false, IsTrue, Option, None, List, [], ◌∷◌}
use Rattle.std.specs.Int.{w32}
use Rattle.std.proofs.Common.{refl, arith}
use Rattle.std.proofs.lemmas.Int.{ints}
use Rattle.std.proofs.Math.Facts.{Fits-of_lt, sfits_to_z}
use Rattle.lcc_base.specs.declared.order.Order.{Order}
use Rattle.objects.specs.declared.field.Field.{Field}
use Rattle.objects.specs.declared.operators.Unary.{Unary}
use Rattle.objects.specs.declared.operators.Unary.TheVariants as unary
use Rattle.objects.specs.declared.operators.Binary.{Binary}
use Rattle.objects.specs.declared.operators.Binary.TheVariants as binary
use Rattle.objects.specs.declared.operators.Comparison.{Comparison}
use Rattle.objects.specs.declared.operators.Comparison.TheVariants as comparison
use Rattle.objects.specs.declared.width.Scalar.{Scalar}
use Rattle.objects.specs.declared.width.Width.{Width}
use Rattle.objects.specs.declared.width.Width.TheVariants as width
use Rattle.objects.specs.Fields.{shift_of}
use Rattle.op_forest.specs.declared.op.Op.{Op}
use Rattle.op_forest.specs.declared.op.Op.TheVariants as op
use Rattle.op_forest.specs.declared.suffix.Suffix.{Suffix}
use Rattle.op_forest.specs.declared.suffix.Suffix.TheVariants.{C, S, I, U, P, B, V}
use Rattle.op_forest.specs.declared.sym.Sym.TheVariants as sym
use Rattle.op_forest.specs.Operators.{number as operator_number}
use Rattle.op_forest.specs.Signature.{takes, gives_value}
use Rattle.forests.specs.WellFormed.{HasPart}
use Rattle.c_match_fields.specs.FieldReads.{above_of}
use Rattle.c_match_fields.specs.Fields.{other_bits}
use Rattle.c_rows_agree.specs.Templates.{Template}
use Rattle.c_rows_agree.specs.Typed.{Typed, head, head_with, constant_i, constant_u, as_i_from, as_u_from, as_p_from, as_i, as_u, as_p, suffix_by, as_by}
use Rattle.c_rows_agree.specs.Integers.{number, integer_from, narrow_from, converted_by, converted_to, as_pointer, unary_of, operator_of, has_sign, right_sign, binary_of, jump_of, comparison_where, compares_signed, compared_by, compared, jump_by_zero, tested}
use Rattle.c_rows_agree.specs.Places.{loaded_by, loaded, loaded_pointer, word_stored, stored_by, stored_as, unit_at, unit_stored, raised, lowered_by, field_loaded, at_top, masked, field_value_by, field_value, field_bits, field_stored}
use Rattle.c_rows_agree.specs.Fitting.{IsOrdinary, FitsHead, FitsNode, Fits, FitsRoot, IsInteger, IsScalar, FitsTyped, FitsInteger}
use Rattle.c_rows_agree.proofs.lemmas.Fields.{ones_small, in_unit}

-- ---- operators

row : (o : Op) (s : Suffix) (ts : List Suffix) → 1 ≤ operator_number o s → HasPart o s sym.Nothing None → takes o s ≡ ts → IsOrdinary o → FitsHead (head o s) ts
row o s ts operator part operands ordinary = record { operator = operator; part = part; operands = operands; ordinary = ordinary }

node : (o : Op) (s : Suffix) (ts : List Suffix) → 1 ≤ operator_number o s → HasPart o s sym.Nothing None → takes o s ≡ ts → IsOrdinary o → IsTrue (gives_value o s) → FitsNode (head o s) ts s
node o s ts operator part operands ordinary value = record { fits = row o s ts operator part operands ordinary; value = value; suffix = refl }

pub i_constant_fits : (given : ℕ → Option Suffix) (n : ℕ) → n < 2 ^ 32 → Fits given (constant_i n) I
i_constant_fits given n h = record { fits = record { operator = omega arith; part = (refl, sfits_to_z {w = w32} (Fits-of_lt {w = w32} h)); operands = refl; ordinary = tt }; value = refl; suffix = refl }

pub u_constant_fits : (given : ℕ → Option Suffix) (n : ℕ) → n < 2 ^ 32 → Fits given (constant_u n) U
u_constant_fits given n h = record { fits = record { operator = omega arith; part = (refl, (omega (arith, ints), omega (arith, ints, h))); operands = refl; ordinary = tt }; value = refl; suffix = refl }

-- conversions of one operand

cvu_i : FitsNode (head op.Cvu I) (U ∷ []) I
cvu_i = node op.Cvu I (U ∷ []) (omega arith) tt refl tt refl

cvi_u : FitsNode (head op.Cvi U) (I ∷ []) U
cvi_u = node op.Cvi U (I ∷ []) (omega arith) tt refl tt refl

cvp_u : FitsNode (head op.Cvp U) (P ∷ []) U
cvp_u = node op.Cvp U (P ∷ []) (omega arith) tt refl tt refl

cvu_p : FitsNode (head op.Cvu P) (U ∷ []) P
cvu_p = node op.Cvu P (U ∷ []) (omega arith) tt refl tt refl

cvi_c : FitsNode (head op.Cvi C) (I ∷ []) C
cvi_c = node op.Cvi C (I ∷ []) (omega arith) tt refl tt refl

cvi_s : FitsNode (head op.Cvi S) (I ∷ []) S
cvi_s = node op.Cvi S (I ∷ []) (omega arith) tt refl tt refl

cvu_c : FitsNode (head op.Cvu C) (U ∷ []) C
cvu_c = node op.Cvu C (U ∷ []) (omega arith) tt refl tt refl

cvu_s : FitsNode (head op.Cvu S) (U ∷ []) S
cvu_s = node op.Cvu S (U ∷ []) (omega arith) tt refl tt refl

cvc_i : FitsNode (head op.Cvc I) (C ∷ []) I
cvc_i = node op.Cvc I (C ∷ []) (omega arith) tt refl tt refl

cvc_u : FitsNode (head op.Cvc U) (C ∷ []) U
cvc_u = node op.Cvc U (C ∷ []) (omega arith) tt refl tt refl

cvs_i : FitsNode (head op.Cvs I) (S ∷ []) I
cvs_i = node op.Cvs I (S ∷ []) (omega arith) tt refl tt refl

cvs_u : FitsNode (head op.Cvs U) (S ∷ []) U
cvs_u = node op.Cvs U (S ∷ []) (omega arith) tt refl tt refl

-- ---- the suffix that is asked for

pub i_fits : (given : ℕ → Option Suffix) (s : Suffix) (t : Template) → IsScalar s → Fits given t s → Fits given (as_i_from s t) I
i_fits given I t k h = h
i_fits given U t k h = (U, cvu_i, h)
i_fits given P t k h = (U, cvu_i, (P, cvp_u, h))
i_fits given C t k h = absurd k
i_fits given S t k h = absurd k
i_fits given B t k h = absurd k
i_fits given V t k h = absurd k

pub u_fits : (given : ℕ → Option Suffix) (s : Suffix) (t : Template) → IsScalar s → Fits given t s → Fits given (as_u_from s t) U
u_fits given I t k h = (I, cvi_u, h)
u_fits given U t k h = h
u_fits given P t k h = (P, cvp_u, h)
u_fits given C t k h = absurd k
u_fits given S t k h = absurd k
u_fits given B t k h = absurd k
u_fits given V t k h = absurd k

pub p_fits : (given : ℕ → Option Suffix) (s : Suffix) (t : Template) → IsScalar s → Fits given t s → Fits given (as_p_from s t) P
p_fits given I t k h = (U, cvu_p, (I, cvi_u, h))
p_fits given U t k h = (U, cvu_p, h)
p_fits given P t k h = h
p_fits given C t k h = absurd k
p_fits given S t k h = absurd k
p_fits given B t k h = absurd k
p_fits given V t k h = absurd k

narrow_c_fits : (given : ℕ → Option Suffix) (s : Suffix) (t : Template) → IsScalar s → Fits given t s → Fits given (narrow_from s C t) C
narrow_c_fits given I t k h = (I, cvi_c, h)
narrow_c_fits given U t k h = (U, cvu_c, h)
narrow_c_fits given P t k h = (U, cvu_c, (P, cvp_u, h))
narrow_c_fits given C t k h = absurd k
narrow_c_fits given S t k h = absurd k
narrow_c_fits given B t k h = absurd k
narrow_c_fits given V t k h = absurd k

narrow_s_fits : (given : ℕ → Option Suffix) (s : Suffix) (t : Template) → IsScalar s → Fits given t s → Fits given (narrow_from s S t) S
narrow_s_fits given I t k h = (I, cvi_s, h)
narrow_s_fits given U t k h = (U, cvu_s, h)
narrow_s_fits given P t k h = (U, cvu_s, (P, cvp_u, h))
narrow_s_fits given C t k h = absurd k
narrow_s_fits given S t k h = absurd k
narrow_s_fits given B t k h = absurd k
narrow_s_fits given V t k h = absurd k

by_fits : (given : ℕ → Option Suffix) (signed : Bool) (a : Typed) → FitsTyped given a → Fits given (as_by signed a) (suffix_by signed)
by_fits given true a h = i_fits given a.suffix a.tree h.scalar h.fits
by_fits given false a h = u_fits given a.suffix a.tree h.scalar h.fits

pub suffixes_fit : (given : ℕ → Option Suffix) (a : Typed) → FitsTyped given a → Fits given (as_i a) I × Fits given (as_u a) U × Fits given (as_p a) P
suffixes_fit given a h = (i_fits given a.suffix a.tree h.scalar h.fits, u_fits given a.suffix a.tree h.scalar h.fits, p_fits given a.suffix a.tree h.scalar h.fits)

pub scalar_integer : (s : Suffix) → IsInteger s → IsScalar s
scalar_integer I h = tt
scalar_integer U h = tt
scalar_integer P h = tt
scalar_integer C h = h
scalar_integer S h = h
scalar_integer B h = h
scalar_integer V h = h

pub typed_integer : (given : ℕ → Option Suffix) (a : Typed) → FitsInteger given a → FitsTyped given a
typed_integer given a h = record { fits = h.fits; scalar = scalar_integer a.suffix h.integer }

by_sign : (signed : Bool) → IsInteger (suffix_by signed)
by_sign true = tt
by_sign false = tt

-- ---- values

pub number_fits : (given : ℕ → Option Suffix) (signed : Bool) (n : ℕ) → n < 2 ^ 32 → FitsInteger given (number signed n)
number_fits given true n h = record { fits = i_constant_fits given n h; integer = tt }
number_fits given false n h = record { fits = u_constant_fits given n h; integer = tt }

whole_fits : (given : ℕ → Option Suffix) (s : Suffix) (t : Template) → IsScalar s → Fits given t s → FitsInteger given (integer_from s t)
whole_fits given I t k h = record { fits = h; integer = tt }
whole_fits given U t k h = record { fits = h; integer = tt }
whole_fits given P t k h = record { fits = (P, cvp_u, h); integer = tt }
whole_fits given C t k h = absurd k
whole_fits given S t k h = absurd k
whole_fits given B t k h = absurd k
whole_fits given V t k h = absurd k

converted_fits : (given : ℕ → Option Suffix) (w : Width) (signed : Bool) (a : Typed) → FitsTyped given a → FitsInteger given (converted_by w signed a)
converted_fits given width.One true a h = record { fits = (C, cvc_i, narrow_c_fits given a.suffix a.tree h.scalar h.fits); integer = tt }
converted_fits given width.One false a h = record { fits = (C, cvc_u, narrow_c_fits given a.suffix a.tree h.scalar h.fits); integer = tt }
converted_fits given width.Two true a h = record { fits = (S, cvs_i, narrow_s_fits given a.suffix a.tree h.scalar h.fits); integer = tt }
converted_fits given width.Two false a h = record { fits = (S, cvs_u, narrow_s_fits given a.suffix a.tree h.scalar h.fits); integer = tt }
converted_fits given width.Four signed a h = whole_fits given a.suffix a.tree h.scalar h.fits

pub conversion_fits : (given : ℕ → Option Suffix) (s : Scalar) (a : Typed) → FitsTyped given a → FitsInteger given (converted_to s a)
conversion_fits given s a h = converted_fits given s.width s.signed a h

pub pointer_fits : (given : ℕ → Option Suffix) (a : Typed) → FitsTyped given a → FitsTyped given (as_pointer a)
pointer_fits given a h = record { fits = p_fits given a.suffix a.tree h.scalar h.fits; scalar = tt }

pub unary_fits : (given : ℕ → Option Suffix) (o : Unary) (a : Typed) → FitsInteger given a → FitsInteger given (unary_of o a)
unary_fits given unary.Plus a h = h
unary_fits given unary.Negate a h = record { fits = (I, node op.Neg I (I ∷ []) (omega arith) tt refl tt refl, i_fits given a.suffix a.tree (scalar_integer a.suffix h.integer) h.fits); integer = tt }
unary_fits given unary.Complement a h = record { fits = (U, node op.Bcom U (U ∷ []) (omega arith) tt refl tt refl, u_fits given a.suffix a.tree (scalar_integer a.suffix h.integer) h.fits); integer = tt }

operator_fits : (o : Binary) (signed : Bool) → FitsNode (head (operator_of o) (suffix_by (has_sign signed o))) (suffix_by (has_sign signed o) ∷ suffix_by (right_sign signed o) ∷ []) (suffix_by (has_sign signed o))
operator_fits binary.Add true = node op.Add I (I ∷ I ∷ []) (omega arith) tt refl tt refl
operator_fits binary.Add false = node op.Add U (U ∷ U ∷ []) (omega arith) tt refl tt refl
operator_fits binary.Subtract true = node op.Sub I (I ∷ I ∷ []) (omega arith) tt refl tt refl
operator_fits binary.Subtract false = node op.Sub U (U ∷ U ∷ []) (omega arith) tt refl tt refl
operator_fits binary.Multiply true = node op.Mul I (I ∷ I ∷ []) (omega arith) tt refl tt refl
operator_fits binary.Multiply false = node op.Mul U (U ∷ U ∷ []) (omega arith) tt refl tt refl
operator_fits binary.Divide true = node op.Div I (I ∷ I ∷ []) (omega arith) tt refl tt refl
operator_fits binary.Divide false = node op.Div U (U ∷ U ∷ []) (omega arith) tt refl tt refl
operator_fits binary.Remainder true = node op.Mod I (I ∷ I ∷ []) (omega arith) tt refl tt refl
operator_fits binary.Remainder false = node op.Mod U (U ∷ U ∷ []) (omega arith) tt refl tt refl
operator_fits binary.ShiftLeft true = node op.Lsh I (I ∷ I ∷ []) (omega arith) tt refl tt refl
operator_fits binary.ShiftLeft false = node op.Lsh U (U ∷ I ∷ []) (omega arith) tt refl tt refl
operator_fits binary.ShiftRight true = node op.Rsh I (I ∷ I ∷ []) (omega arith) tt refl tt refl
operator_fits binary.ShiftRight false = node op.Rsh U (U ∷ I ∷ []) (omega arith) tt refl tt refl
operator_fits binary.And signed = node op.Band U (U ∷ U ∷ []) (omega arith) tt refl tt refl
operator_fits binary.Or signed = node op.Bor U (U ∷ U ∷ []) (omega arith) tt refl tt refl
operator_fits binary.Xor signed = node op.Bxor U (U ∷ U ∷ []) (omega arith) tt refl tt refl

pub binary_fits : (given : ℕ → Option Suffix) (o : Binary) (signed : Bool) (a b : Typed) → FitsTyped given a → FitsTyped given b → FitsInteger given (binary_of o signed a b)
binary_fits given o signed a b h g = record {
  fits = (suffix_by (has_sign signed o), suffix_by (right_sign signed o), operator_fits o signed, by_fits given (has_sign signed o) a h, by_fits given (right_sign signed o) b g);
  integer = by_sign (has_sign signed o);
}

-- ---- tests

jump_fits : (o : Comparison) (signed : Bool) (l : ℕ) → FitsHead (head_with (jump_of o) (suffix_by (compares_signed signed o)) (sym.Label l) None) (suffix_by (compares_signed signed o) ∷ suffix_by (compares_signed signed o) ∷ [])
jump_fits comparison.Equal signed l = record { operator = omega arith; part = tt; operands = refl; ordinary = tt }
jump_fits comparison.NotEqual signed l = record { operator = omega arith; part = tt; operands = refl; ordinary = tt }
jump_fits comparison.Less true l = record { operator = omega arith; part = tt; operands = refl; ordinary = tt }
jump_fits comparison.Less false l = record { operator = omega arith; part = tt; operands = refl; ordinary = tt }
jump_fits comparison.LessEqual true l = record { operator = omega arith; part = tt; operands = refl; ordinary = tt }
jump_fits comparison.LessEqual false l = record { operator = omega arith; part = tt; operands = refl; ordinary = tt }
jump_fits comparison.Greater true l = record { operator = omega arith; part = tt; operands = refl; ordinary = tt }
jump_fits comparison.Greater false l = record { operator = omega arith; part = tt; operands = refl; ordinary = tt }
jump_fits comparison.GreaterEqual true l = record { operator = omega arith; part = tt; operands = refl; ordinary = tt }
jump_fits comparison.GreaterEqual false l = record { operator = omega arith; part = tt; operands = refl; ordinary = tt }

compared_fits : (given : ℕ → Option Suffix) (o : Comparison) (signed : Bool) (l : ℕ) (a b : Typed) → FitsTyped given a → FitsTyped given b → FitsRoot given (compared_by o signed l a b)
compared_fits given o signed l a b h g = record {
  first = suffix_by (compares_signed signed o);
  second = suffix_by (compares_signed signed o);
  fits = jump_fits o signed l;
  left = by_fits given (compares_signed signed o) a h;
  right = by_fits given (compares_signed signed o) b g;
}

pub comparison_fits : (given : ℕ → Option Suffix) (o : Comparison) (signed when : Bool) (l : ℕ) (a b : Typed) → FitsTyped given a → FitsTyped given b → FitsRoot given (compared o signed when l a b)
comparison_fits given o signed when l a b h g = compared_fits given (comparison_where when o) signed l a b h g

zero_fits : (when : Bool) (l : ℕ) → FitsHead (head_with (jump_by_zero when) I (sym.Label l) None) (I ∷ I ∷ [])
zero_fits true l = record { operator = omega arith; part = tt; operands = refl; ordinary = tt }
zero_fits false l = record { operator = omega arith; part = tt; operands = refl; ordinary = tt }

pub test_fits : (given : ℕ → Option Suffix) (when : Bool) (l : ℕ) (a : Typed) → FitsTyped given a → FitsRoot given (tested when l a)
test_fits given when l a h = record { first = I; second = I; fits = zero_fits when l; left = i_fits given a.suffix a.tree h.scalar h.fits; right = i_constant_fits given 0 (omega arith) }

-- ---- scalars in memory

loaded_fits : (given : ℕ → Option Suffix) (w : Width) (signed : Bool) (t : Template) → Fits given t P → FitsInteger given (loaded_by w signed t)
loaded_fits given width.One true t h = record { fits = (C, cvc_i, (P, node op.Indir C (P ∷ []) (omega arith) tt refl tt refl, h)); integer = tt }
loaded_fits given width.One false t h = record { fits = (C, cvc_u, (P, node op.Indir C (P ∷ []) (omega arith) tt refl tt refl, h)); integer = tt }
loaded_fits given width.Two true t h = record { fits = (S, cvs_i, (P, node op.Indir S (P ∷ []) (omega arith) tt refl tt refl, h)); integer = tt }
loaded_fits given width.Two false t h = record { fits = (S, cvs_u, (P, node op.Indir S (P ∷ []) (omega arith) tt refl tt refl, h)); integer = tt }
loaded_fits given width.Four signed t h = record { fits = (P, node op.Indir I (P ∷ []) (omega arith) tt refl tt refl, h); integer = tt }

pub read_fits : (given : ℕ → Option Suffix) (s : Scalar) (a : Typed) → FitsTyped given a → FitsInteger given (loaded s a) × FitsTyped given (loaded_pointer a)
read_fits given s a h =
    let place = p_fits given a.suffix a.tree h.scalar h.fits in
    (loaded_fits given s.width s.signed (as_p a) place, record { fits = (P, node op.Indir P (P ∷ []) (omega arith) tt refl tt refl, place); scalar = tt })

word_fits : (given : ℕ → Option Suffix) (s : Suffix) (a t : Template) → IsScalar s → Fits given a P → Fits given t s → FitsRoot given (word_stored s a t)
word_fits given I a t k h g = record { first = P; second = I; fits = row op.Asgn I (P ∷ I ∷ []) (omega arith) tt refl tt; left = h; right = i_fits given I t k g }
word_fits given U a t k h g = record { first = P; second = I; fits = row op.Asgn I (P ∷ I ∷ []) (omega arith) tt refl tt; left = h; right = i_fits given U t k g }
word_fits given P a t k h g = record { first = P; second = P; fits = row op.Asgn P (P ∷ P ∷ []) (omega arith) tt refl tt; left = h; right = g }
word_fits given C a t k h g = absurd k
word_fits given S a t k h g = absurd k
word_fits given B a t k h g = absurd k
word_fits given V a t k h g = absurd k

stored_fits : (given : ℕ → Option Suffix) (w : Width) (a : Template) (b : Typed) → Fits given a P → FitsTyped given b → FitsRoot given (stored_by w a b)
stored_fits given width.One a b h g = record { first = P; second = C; fits = row op.Asgn C (P ∷ C ∷ []) (omega arith) tt refl tt; left = h; right = narrow_c_fits given b.suffix b.tree g.scalar g.fits }
stored_fits given width.Two a b h g = record { first = P; second = S; fits = row op.Asgn S (P ∷ S ∷ []) (omega arith) tt refl tt; left = h; right = narrow_s_fits given b.suffix b.tree g.scalar g.fits }
stored_fits given width.Four a b h g = word_fits given b.suffix a b.tree g.scalar h g.fits

pub store_fits : (given : ℕ → Option Suffix) (w : Width) (a b : Typed) → FitsTyped given a → FitsTyped given b → FitsRoot given (stored_as w a b)
store_fits given w a b h g = stored_fits given w (as_p a) b (p_fits given a.suffix a.tree h.scalar h.fits) g

-- ---- bit-fields

unit_fits : (given : ℕ → Option Suffix) (a : Typed) → FitsTyped given a → Fits given (unit_at a) I
unit_fits given a h = (P, node op.Indir I (P ∷ []) (omega arith) tt refl tt refl, p_fits given a.suffix a.tree h.scalar h.fits)

unit_stored_fits : (given : ℕ → Option Suffix) (a : Typed) → FitsTyped given a → Fits given (unit_stored a) U
unit_stored_fits given a h = (P, cvp_u, (P, node op.Indir P (P ∷ []) (omega arith) tt refl tt refl, p_fits given a.suffix a.tree h.scalar h.fits))

lowered_fits : (given : ℕ → Option Suffix) (signed : Bool) (f : Field) (t : Template) → Fits given t I → FitsInteger given (lowered_by signed f t)
lowered_fits given true f t h = record { fits = (I, I, node op.Rsh I (I ∷ I ∷ []) (omega arith) tt refl tt refl, h, i_constant_fits given (32 - f.width) (omega arith)); integer = tt }
lowered_fits given false f t h = record { fits = (U, I, node op.Rsh U (U ∷ I ∷ []) (omega arith) tt refl tt refl, (I, cvi_u, h), i_constant_fits given (32 - f.width) (omega arith)); integer = tt }

pub field_read_fits : (given : ℕ → Option Suffix) (order : Order) (f : Field) (a : Typed) → FitsTyped given a → FitsInteger given (field_loaded order f a)
field_read_fits given order f a h = lowered_fits given f.signed f (raised order f (unit_at a)) (I, I, node op.Lsh I (I ∷ I ∷ []) (omega arith) tt refl tt refl, unit_fits given a h, i_constant_fits given (above_of order f) (omega arith))

top_fits : (given : ℕ → Option Suffix) (f : Field) (b : Typed) → FitsTyped given b → Fits given (at_top f b) I
top_fits given f b h = (I, I, node op.Lsh I (I ∷ I ∷ []) (omega arith) tt refl tt refl, i_fits given b.suffix b.tree h.scalar h.fits, i_constant_fits given (32 - f.width) (omega arith))

masked_fits : (given : ℕ → Option Suffix) (f : Field) (b : Typed) → f.width ≤ 32 → FitsTyped given b → Fits given (masked f b) U
masked_fits given f b le h = (U, U, node op.Band U (U ∷ U ∷ []) (omega arith) tt refl tt refl, u_fits given b.suffix b.tree h.scalar h.fits, u_constant_fits given (2 ^ f.width - 1) (ones_small f.width le))

value_fits : (given : ℕ → Option Suffix) (signed : Bool) (f : Field) (b : Typed) → f.width ≤ 32 → FitsTyped given b → FitsInteger given (field_value_by signed f b)
value_fits given true f b le h = lowered_fits given true f (at_top f b) (top_fits given f b h)
value_fits given false f b le h = record { fits = masked_fits given f b le h; integer = tt }

pub field_value_fits : (given : ℕ → Option Suffix) (f : Field) (b : Typed) → f.width ≤ 32 → FitsTyped given b → FitsInteger given (field_value f b)
field_value_fits given f b le h = value_fits given f.signed f b le h

bits_fit : (given : ℕ → Option Suffix) (top : Bool) (order : Order) (f : Field) (b : Typed) → shift_of order f + f.width ≤ 32 → FitsTyped given b → Fits given (field_bits top order f b) U
bits_fit given true order f b le h = (U, I, node op.Rsh U (U ∷ I ∷ []) (omega arith) tt refl tt refl, (I, cvi_u, top_fits given f b h), i_constant_fits given (32 - f.width - shift_of order f) (omega arith))
bits_fit given false order f b le h = (U, I, node op.Lsh U (U ∷ I ∷ []) (omega arith) tt refl tt refl, masked_fits given f b (omega (arith, le)) h, i_constant_fits given (shift_of order f) (omega (arith, le)))

pub field_store_fits : (given : ℕ → Option Suffix) (top : Bool) (order : Order) (f : Field) (a b : Typed) → f.first + f.width ≤ 32 → FitsTyped given a → FitsTyped given b → FitsRoot given (field_stored top order f a b)
field_store_fits given top order f a b within h g = record {
  first = P;
  second = I;
  fits = row op.Asgn I (P ∷ I ∷ []) (omega arith) tt refl tt;
  left = p_fits given a.suffix a.tree h.scalar h.fits;
  right = (
    U,
    cvu_i,
    (
      U,
      U,
      node op.Bor U (U ∷ U ∷ []) (omega arith) tt refl tt refl,
      (U, U, node op.Band U (U ∷ U ∷ []) (omega arith) tt refl tt refl, unit_stored_fits given a h, u_constant_fits given (other_bits order f) (omega arith)),
      bits_fit given top order f b (in_unit order f within) g,
    ),
  );
}
