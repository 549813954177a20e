-- A unit of one function that is named main, with putchar as its only other name, keeps what a lowered unit keeps.
use Rattle.std.specs.Prelude.{◌≡◌, ◌≢◌, ℕ, zero, suc, ◌<◌, ◌-◌, Some, None, IsSomeAnd, IsTrue, IsFalse, List, [], ◌∷◌, length, slice_get, codes, All, refl}
use Rattle.std.specs.Char.{is_ascii_digit}
use Rattle.std.proofs.Common.{sym, ◌∙◌, subst, arith}
use Rattle.std.proofs.lemmas.List.Elements.{All-nil, All-cons}
use Rattle.lcc_base.specs.declared.order.Order.{Order}
use Rattle.op_forest.specs.declared.lowered.LoweredFunction.{LoweredFunction}
use Rattle.op_forest.specs.declared.lowered.LoweredObject.{LoweredObject}
use Rattle.op_forest.specs.Lowered.{LoweredUnit, is_symbol, IsUnitName, IsFunctionOf, IsObjectOf, IsLowered}

-- the names of such a unit
abbrev pub main_and_putchar : List (List ℕ)
main_and_putchar = codes "main" ∷ codes "putchar" ∷ []

abbrev pub unit_of_main : LoweredFunction → Order → LoweredUnit
unit_of_main f order = record { functions = f ∷ []; objects = []; names = main_and_putchar; order = order }

-- lists that begin with other bytes are no equal ones
first_differs : (a b : ℕ) (xs ys : List ℕ) → a ≢ b → a ∷ xs ≢ b ∷ ys
first_differs a b xs ys h e = h cc

none_some : {A : Type 0} {y : A} → None ≡ Some y → ⊥
none_some e = cc

same_some : {A : Type 0} {x y : A} → Some x ≡ Some y → x ≡ y
same_some e = cc

two_distinct : (a b x : List ℕ) (i j : ℕ) → a ≢ b → slice_get (a ∷ b ∷ []) i ≡ Some x → slice_get (a ∷ b ∷ []) j ≡ Some x → i ≡ j
two_distinct a b x zero zero n e f = refl
two_distinct a b x zero (suc zero) n e f = absurd (n (same_some (e ∙ sym f)))
two_distinct a b x (suc zero) zero n e f = absurd (n (same_some (f ∙ sym e)))
two_distinct a b x (suc zero) (suc zero) n e f = refl
two_distinct a b x zero (suc (suc j)) n e f = absurd (none_some f)
two_distinct a b x (suc zero) (suc (suc j)) n e f = absurd (none_some f)
two_distinct a b x (suc (suc i)) j n e f = absurd (none_some e)

one_distinct : {A : Type 0} (a x : A) (i j : ℕ) → slice_get (a ∷ []) i ≡ Some x → slice_get (a ∷ []) j ≡ Some x → i ≡ j
one_distinct a x zero zero e f = refl
one_distinct a x zero (suc j) e f = absurd (none_some f)
one_distinct a x (suc i) j e f = absurd (none_some e)

-- bytes that each are of a symbol
abbrev AreSymbols : List ℕ → Type 0
AreSymbols [] = Unit {0}
AreSymbols (b ∷ bs) = IsTrue (is_symbol b) × AreSymbols bs

all_symbols : (bs : List ℕ) → AreSymbols bs → All (λ b. IsTrue (is_symbol b)) bs
all_symbols [] h = All-nil (λ b. IsTrue (is_symbol b))
all_symbols (b ∷ bs) h = All-cons (λ x. IsTrue (is_symbol x)) b bs h.0 (all_symbols bs h.1)

no_dot : (b : ℕ) → 46 < b → b ≢ 46
no_dot b h e = omega arith

-- a name that begins with a small letter
letters_name : (b : ℕ) (bs : List ℕ) → 96 < b → IsFalse (is_ascii_digit b) → AreSymbols (b ∷ bs) → IsSomeAnd (slice_get (b ∷ bs) (length (b ∷ bs) - 1)) (λ x. x ≢ 46) → IsUnitName (b ∷ bs)
letters_name b bs h digit symbols ends = record {
  symbols = all_symbols (b ∷ bs) symbols;
  begins = (digit, no_dot b (omega arith));
  ends = ends;
  apart = λ digits all. first_differs b 76 bs (46 ∷ digits) (λ e. omega arith);
}

main_name : IsUnitName (codes "main")
main_name = letters_name 109 (codes "ain") (omega arith) refl (refl, (refl, (refl, (refl, tt)))) (no_dot 110 (omega arith))

putchar_name : IsUnitName (codes "putchar")
putchar_name = letters_name 112 (codes "utchar") (omega arith) refl (refl, (refl, (refl, (refl, (refl, (refl, (refl, tt))))))) (no_dot 114 (omega arith))

unit_lowered : (f : LoweredFunction) (order : Order) → IsFunctionOf (unit_of_main f order) f → IsLowered (unit_of_main f order)
unit_lowered f order of = record {
  distinct = λ i j x e g. two_distinct (codes "main") (codes "putchar") x i j (first_differs 109 112 (codes "ain") (codes "utchar") (λ h. omega arith)) e g;
  names = All-cons IsUnitName (codes "main") (codes "putchar" ∷ []) main_name (All-cons IsUnitName (codes "putchar") [] putchar_name (All-nil IsUnitName));
  owners = λ i j x e g. one_distinct f.name x i j e g;
  functions = All-cons (IsFunctionOf (unit_of_main f order)) f [] of (All-nil (IsFunctionOf (unit_of_main f order)));
  objects = All-nil (IsObjectOf (unit_of_main f order));
}

pub lowered : (f : LoweredFunction) (order : Order) (functions : List LoweredFunction) (objects : List LoweredObject) (names : List (List ℕ)) → IsFunctionOf (unit_of_main f order) f → functions ≡ f ∷ [] → objects ≡ [] → names ≡ main_and_putchar → IsLowered (record { functions = functions; objects = objects; names = names; order = order })
lowered f order functions objects names of a b c =
    subst (λ x. IsLowered (record { functions = x; objects = objects; names = names; order = order })) (sym a)
    (subst (λ x. IsLowered (record { functions = f ∷ []; objects = x; names = names; order = order })) (sym b)
    (subst (λ x. IsLowered (record { functions = f ∷ []; objects = []; names = x; order = order })) (sym c) (unit_lowered f order of)))
