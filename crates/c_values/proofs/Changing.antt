-- What places hold, promoted, and what changes of places are.
use Rattle.std.proofs.Common.{◌≡◌, ℕ, [], ◌∷◌, Bool, true, false, refl, sym, ap, ◌∙◌, true≢false}
use Rattle.std.specs.Prelude.{if◌then◌else◌}
use Rattle.c_types.specs.CType.{Void, Char, SignedChar, UnsignedChar, Short, UnsignedShort, Int, Unsigned, Long, UnsignedLong, CType, Plain, Array, Simple, Pointer, Function, Structure, Union, Enumeration, basic, unqualified}
use Rattle.c_types.specs.Conversions.{is_integer, promoted}
use Rattle.c_meaning.specs.declared.core_expr.Change.{Change}
use Rattle.c_meaning.specs.declared.core_expr.CoreKind.{CoreKind}
use Rattle.c_meaning.specs.CoreTrees.{Core, CoreOf, cores_of, seen, type_of}
use Rattle.c_meaning.specs.Rows.{changes}
use Rattle.c_meaning.specs.Values.{CoreTree, is_narrow, is_place, promoted_type, read_width, value, value_by, width_of}

-- ---- what a place holds, promoted

abbrev of_place : CoreTree → CType → CType
of_place a t = if is_narrow (width_of a) then basic Int else promoted t

by_type : (t : CType) (a : CoreTree) → is_place a ≡ true → is_integer t ≡ true → promoted_type (value_by t a) ≡ of_place a t
by_type (Plain q (Simple Void)) a p i = absurd (true≢false (sym i))
by_type (Plain q (Simple Char)) a p i = rw p refl
by_type (Plain q (Simple SignedChar)) a p i = rw p refl
by_type (Plain q (Simple UnsignedChar)) a p i = rw p refl
by_type (Plain q (Simple Short)) a p i = rw p refl
by_type (Plain q (Simple UnsignedShort)) a p i = rw p refl
by_type (Plain q (Simple Int)) a p i = rw p refl
by_type (Plain q (Simple Unsigned)) a p i = rw p refl
by_type (Plain q (Simple Long)) a p i = rw p refl
by_type (Plain q (Simple UnsignedLong)) a p i = rw p refl
by_type (Plain q (Enumeration n)) a p i = rw p refl
by_type (Plain q (Pointer to)) a p i = absurd (true≢false (sym i))
by_type (Plain q (Function r ps)) a p i = absurd (true≢false (sym i))
by_type (Plain q (Structure n)) a p i = absurd (true≢false (sym i))
by_type (Plain q (Union n)) a p i = absurd (true≢false (sym i))
by_type (Array of n) a p i = absurd (true≢false (sym i))

pub place_narrow : (a : CoreTree) → is_place a ≡ true → is_integer (type_of a) ≡ true → is_narrow (width_of a) ≡ true → promoted_type (value a) ≡ basic Int
place_narrow a p i n = by_type (type_of a) a p i ∙ ap (λ (b : Bool). if b then basic Int else promoted (type_of a)) n

pub place_wide : (a : CoreTree) → is_place a ≡ true → is_integer (type_of a) ≡ true → is_narrow (width_of a) ≡ false → promoted_type (value a) ≡ promoted (type_of a)
place_wide a p i n = by_type (type_of a) a p i ∙ ap (λ (b : Bool). if b then basic Int else promoted (type_of a)) n

-- ---- promoted types

stays_integer : (t : CType) → is_integer t ≡ true → is_integer (promoted t) ≡ true
stays_integer (Plain q (Simple Void)) i = i
stays_integer (Plain q (Simple Char)) i = refl
stays_integer (Plain q (Simple SignedChar)) i = refl
stays_integer (Plain q (Simple UnsignedChar)) i = refl
stays_integer (Plain q (Simple Short)) i = refl
stays_integer (Plain q (Simple UnsignedShort)) i = refl
stays_integer (Plain q (Simple Int)) i = refl
stays_integer (Plain q (Simple Unsigned)) i = refl
stays_integer (Plain q (Simple Long)) i = refl
stays_integer (Plain q (Simple UnsignedLong)) i = refl
stays_integer (Plain q (Enumeration n)) i = refl
stays_integer (Plain q (Pointer to)) i = i
stays_integer (Plain q (Function r ps)) i = i
stays_integer (Plain q (Structure n)) i = i
stays_integer (Plain q (Union n)) i = i
stays_integer (Array of n) i = i

integer_by : (b : Bool) (t : CType) → is_integer t ≡ true → is_integer (if b then basic Int else promoted t) ≡ true
integer_by true t i = refl
integer_by false t i = stays_integer t i

pub promoted_integer : (v : CoreTree) → is_integer (type_of v) ≡ true → is_integer (promoted_type v) ≡ true
promoted_integer v i = integer_by (is_narrow (read_width v)) (type_of v) i

-- ---- a place and its change

pub change_made : (k : ℕ → CType) (give : Change → CoreKind) (by : Change) (what : CoreKind) (of line : ℕ) (a w x : CoreOf ℕ) →
    what ≡ give by → k of ≡ unqualified (type_of (seen k a)) → x ≡ Core what of line (cores_of (a ∷ w ∷ [])) → seen k x ≡ changes line give by (seen k a) (seen k w)
change_made k give by what of line a w x g o e = ap (seen k) e ∙ rw (g, o) refl
