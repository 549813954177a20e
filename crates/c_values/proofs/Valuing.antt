-- What the value of an expression is, by the kind of its type.
use Rattle.std.proofs.Common.{◌≡◌, ℕ, Bool, true, false, refl, sym, ap, ◌∙◌, true≢false}
use Rattle.std.specs.Prelude.{Option, ◌&&◌, if◌then◌else◌}
use Rattle.c_types.specs.CType.{Void, CType, Plain, Array, Simple, Pointer, Function, Structure, Union, Enumeration, unqualified}
use Rattle.c_meaning.specs.declared.core_expr.CoreKind.TheVariants as kind
use Rattle.c_meaning.specs.CoreTrees.{Core, line_of, one, type_of}
use Rattle.c_meaning.specs.Types.{is_array, is_function, is_scalar, pointer_to}
use Rattle.c_meaning.specs.Values.{CoreTree, is_lvalue, is_place, value, value_by}

by_array : (of : CType) (n : Option ℕ) (c : CoreTree) (b : Bool) → b ≡ is_lvalue c → value_by (Array of n) c ≡ (if b then Core kind.First (pointer_to of) (line_of c) (one c) else c)
by_array of n c b e = rw e refl

-- an array that is an lvalue
pub value_of_array : (c : CoreTree) (of : CType) (n : Option ℕ) → type_of c ≡ Array of n → is_lvalue c ≡ true → value c ≡ Core kind.First (pointer_to of) (line_of c) (one c)
value_of_array c of n e l = ap (λ t. value_by t c) e ∙ by_array of n c true (sym l)

-- an array that is none
pub value_of_other_array : (c : CoreTree) (of : CType) (n : Option ℕ) → type_of c ≡ Array of n → is_lvalue c ≡ false → value c ≡ c
value_of_other_array c of n e l = ap (λ t. value_by t c) e ∙ by_array of n c false (sym l)

by_function : (t : CType) (c : CoreTree) → is_function t ≡ true → value_by t c ≡ Core kind.Address (pointer_to (type_of c)) (line_of c) (one c)
by_function (Plain q (Function r ps)) c h = refl
by_function (Plain q k) c h = absurd (true≢false (sym h))
by_function (Array of n) c h = absurd (true≢false (sym h))

-- a function
pub value_of_function : (c : CoreTree) → is_function (type_of c) ≡ true → value c ≡ Core kind.Address (pointer_to (type_of c)) (line_of c) (one c)
value_of_function c h = by_function (type_of c) c h

by_scalar : (t : CType) (c : CoreTree) → is_scalar t ≡ true → is_place c ≡ true → value_by t c ≡ Core kind.Read (unqualified t) (line_of c) (one c)
by_scalar (Plain q (Simple Void)) c h p = absurd (true≢false (sym h))
by_scalar (Plain q (Simple b)) c h p = rw p refl
by_scalar (Plain q (Pointer t)) c h p = rw p refl
by_scalar (Plain q (Enumeration n)) c h p = rw p refl
by_scalar (Plain q k) c h p = absurd (true≢false (sym h))
by_scalar (Array of n) c h p = absurd (true≢false (sym h))

-- the place of a scalar
pub value_of_scalar : (c : CoreTree) → is_scalar (type_of c) ≡ true → is_place c ≡ true → value c ≡ Core kind.Read (unqualified (type_of c)) (line_of c) (one c)
value_of_scalar c h p = by_scalar (type_of c) c h p

by_itself : (t : CType) (c : CoreTree) → is_array t ≡ false → is_function t ≡ false → (is_place c && is_scalar t) ≡ false → value_by t c ≡ c
by_itself (Plain q (Function r ps)) c a f h = absurd (true≢false f)
by_itself (Plain q (Structure n)) c a f h = refl
by_itself (Plain q (Union n)) c a f h = refl
by_itself (Plain q (Simple Void)) c a f h = refl
by_itself (Plain q k) c a f h = no_place (is_place c) h
  where
    no_place : (b : Bool) → (b && true) ≡ false → (if b then Core kind.Read (Plain 0 k) (line_of c) (one c) else c) ≡ c
    no_place true h = absurd (true≢false h)
    no_place false h = refl
by_itself (Array of n) c a f h = absurd (true≢false a)

-- anything else
pub value_of_other : (c : CoreTree) → is_array (type_of c) ≡ false → is_function (type_of c) ≡ false → (is_place c && is_scalar (type_of c)) ≡ false → value c ≡ c
value_of_other c a f h = by_itself (type_of c) c a f h
