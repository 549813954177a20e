-- Each operator of the templates has the operands and the constant that it needs.
use Rattle.std.specs.Prelude.{◌≡◌, ◌≤◌, ◌<◌, ℕ, zero, suc, ◌==◌, ◌*◌, ◌^◌, ℤ, pos, ◌+ℤ◌, Bool, true, false, IsTrue, Option, Some, None, List, [], ◌∷◌, slice_get, if◌then◌else◌}
use Rattle.std.proofs.Common.{refl, arith}
use Rattle.std.proofs.lemmas.Int.{ints}
use Rattle.std.proofs.lemmas.Option.{slice_get_within, get_or_from_slice_get}
use Rattle.op_forest.specs.declared.frame.Slot.{Slot}
use Rattle.op_forest.specs.declared.op.Op.{Op}
use Rattle.op_forest.specs.declared.op.Op.TheVariants as op
use Rattle.op_forest.specs.declared.suffix.Suffix.{Suffix}
use Rattle.op_forest.specs.declared.suffix.Suffix.TheVariants.{I, U, P}
use Rattle.op_forest.specs.declared.sym.Sym.TheVariants as sym
use Rattle.op_forest.specs.Operators.{number as operator_number}
use Rattle.op_forest.specs.Signature.{takes, gives_value}
use Rattle.forests.specs.WellFormed.{HasPart, LiesInOne}
use Rattle.c_rows_agree.specs.Templates.{Template}
use Rattle.c_rows_agree.specs.Typed.{Typed, head, constant_i, over_two, as_i}
use Rattle.c_pointers_agree.specs.Pointers.{Scaling, Single, Shifted, Multiplied, scaling_of, scaled_by, scaled, moved, displaced, name, argument, between, difference}
use Rattle.c_rows_agree.specs.Fitting.{IsOrdinary, FitsHead, FitsNode, Fits, FitsTyped, FitsInteger}
use Rattle.c_rows_agree.proofs.lemmas.Fitting.{i_constant_fits, i_fits, u_fits, p_fits}
use Rattle.c_pointers_agree.proofs.lemmas.Scaled.{IsBy, scaling_is}

-- ---- operators

row : (o : Op) (s : Suffix) (ts : List Suffix) → 1 ≤ operator_number o s → HasPart o s sym.Nothing None → takes o s ≡ ts → IsOrdinary o → FitsHead (head o s) ts
row o s ts operator part operands ordinary = record { operator = operator; part = part; operands = operands; ordinary = ordinary }

node : (o : Op) (s : Suffix) (ts : List Suffix) → 1 ≤ operator_number o s → HasPart o s sym.Nothing None → takes o s ≡ ts → IsOrdinary o → IsTrue (gives_value o s) → FitsNode (head o s) ts s
node o s ts operator part operands ordinary value = record { fits = row o s ts operator part operands ordinary; value = value; suffix = refl }

-- ---- moves

scaled_by_fits : (given : ℕ → Option Suffix) (s : Scaling) (t : Template) (size : ℕ) → IsBy s size → Fits given t I → Fits given (scaled_by s t) I
scaled_by_fits given Single t size by h = h
scaled_by_fits given (Shifted count) t size by h =
    let small = by.0 in
    (I, I, node op.Lsh I (I ∷ I ∷ []) (omega arith) tt refl tt refl, h, i_constant_fits given count (omega (arith, small)))
scaled_by_fits given (Multiplied n) t size by h =
    let same = by.0 in
    let small = by.1 in
    (I, I, node op.Mul I (I ∷ I ∷ []) (omega arith) tt refl tt refl, h, i_constant_fits given n (omega (arith, same, small)))

scaled_fits : (given : ℕ → Option Suffix) (size : ℕ) (b : Typed) → size < 2 ^ 32 → FitsTyped given b → Fits given (scaled size b) I
scaled_fits given size b small h = scaled_by_fits given (scaling_of size) (as_i b) size (scaling_is size small) (i_fits given b.suffix b.tree h.scalar h.fits)

pub elements_fit : (given : ℕ → Option Suffix) (size : ℕ) (back : Bool) (a b : Typed) → size < 2 ^ 32 → FitsTyped given a → FitsTyped given b → FitsTyped given (moved size back a b)
elements_fit given size false a b small h g = record { fits = (P, I, node op.Add P (P ∷ I ∷ []) (omega arith) tt refl tt refl, p_fits given a.suffix a.tree h.scalar h.fits, scaled_fits given size b small g); scalar = tt }
elements_fit given size true a b small h g = record { fits = (P, I, node op.Sub P (P ∷ I ∷ []) (omega arith) tt refl tt refl, p_fits given a.suffix a.tree h.scalar h.fits, scaled_fits given size b small g); scalar = tt }

pub member_fits : (given : ℕ → Option Suffix) (offset : ℕ) (a : Typed) → offset < 2 ^ 32 → FitsTyped given a → FitsTyped given (displaced offset a)
member_fits given zero a small h = h
member_fits given (suc n) a small h = record { fits = (P, I, node op.Add P (P ∷ I ∷ []) (omega arith) tt refl tt refl, p_fits given a.suffix a.tree h.scalar h.fits, i_constant_fits given (suc n) small); scalar = tt }

pub name_fits : (given : ℕ → Option Suffix) (n : ℕ) (offset : ℤ) → FitsTyped given (name n offset)
name_fits given n offset = record { fits = record { fits = record { operator = omega arith; part = tt; operands = refl; ordinary = tt }; value = refl; suffix = refl }; scalar = tt }

pub argument_fits : (given : ℕ → Option Suffix) (i : ℕ) → 4 * i < 2 ^ 32 → FitsTyped given (argument i)
argument_fits given i h = record { fits = record { fits = record { operator = omega arith; part = (refl, (omega (arith, ints), omega (arith, ints, h))); operands = refl; ordinary = tt }; value = refl; suffix = refl }; scalar = tt }

-- ---- differences

between_fits : (given : ℕ → Option Suffix) (a b : Typed) → FitsTyped given a → FitsTyped given b → Fits given (between a b).tree U
between_fits given a b h g = (U, U, node op.Sub U (U ∷ U ∷ []) (omega arith) tt refl tt refl, u_fits given a.suffix a.tree h.scalar h.fits, u_fits given b.suffix b.tree g.scalar g.fits)

by_size_fits : (given : ℕ → Option Suffix) (whole : Bool) (size : ℕ) (a b : Typed) → size < 2 ^ 32 → FitsTyped given a → FitsTyped given b → FitsInteger given (if whole then between a b else record { tree = over_two op.Div I (as_i (between a b)) (constant_i size); suffix = I })
by_size_fits given true size a b small h g = record { fits = between_fits given a b h g; integer = tt }
by_size_fits given false size a b small h g = record { fits = (I, I, node op.Div I (I ∷ I ∷ []) (omega arith) tt refl tt refl, i_fits given U (between a b).tree tt (between_fits given a b h g), i_constant_fits given size small); integer = tt }

pub differences_fit : (given : ℕ → Option Suffix) (size : ℕ) (a b : Typed) → size < 2 ^ 32 → FitsTyped given a → FitsTyped given b → FitsInteger given (difference size a b)
differences_fit given size a b small h g = by_size_fits given (size == 1) size a b small h g

-- ---- slots

pub slots_lie : (slots : List Slot) (i : ℕ) (s : Slot) (start : ℕ) → slice_get slots i ≡ Some s → start < s.size → LiesInOne slots (s.offset +ℤ pos start)
slots_lie slots i s start e h = (i, s, slice_get_within slots i s e, get_or_from_slice_get slots i s s e, (omega (arith, ints), omega (arith, ints, h)))
