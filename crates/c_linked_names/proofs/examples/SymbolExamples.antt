-- Examples: with what types a name stands for a function that the unit defines, for an object, and for a built-in function.
use Rattle.std.proofs.Common.{◌≡◌, ℕ, zero, suc, true, false, [], ◌∷◌, refl, sym, ap, subst, ◌∙◌, arith}
use Rattle.std.specs.Prelude.{pos, codes, Some, None, slice_get}
use Rattle.c_types.specs.CType.{Array, Int, basic}
use Rattle.c_types.specs.Compatible.{compatible}
use Rattle.c_meaning.specs.declared.built_in.BuiltIn.TheVariants as built_in
use Rattle.c_meaning.specs.declared.core_expr.CoreKind.TheVariants as kind
use Rattle.c_meaning.specs.Declarations.{Defined}
use Rattle.c_meaning.specs.State.{State, external, int_function}
use Rattle.c_meaning.specs.StmtTrees.{Nothing}
use Rattle.c_units.specs.Externals.{Parts}
use Rattle.c_units.specs.Functions.{DefinedFunction}
use Rattle.c_fits.proofs.lemmas.Booleans.{never}
use Rattle.c_linked_names.specs.LinkedNames.{IfSymbol}

-- int f() { } int a[3] = { .. }; and getchar is declared
abbrev known : State
known =
    record {
      outer = [];
      inner = [];
      links = (codes "f", 0) ∷ (codes "a", 1) ∷ (codes "getchar", 2) ∷ [];
      symbols = external 1 0 (Some (pos 1)) ∷ external 2 0 (Some (pos 1)) ∷ external 3 0 None ∷ [];
      tags = [];
      count = 0;
    }

abbrev f : DefinedFunction
f = record { symbol = 0; function = record { name = codes "f"; of = int_function; parameters = 0; locals = []; body = Nothing } }

abbrev a : Defined
a = record { symbol = 1; object = record { name = codes "a"; of = Array (basic Int) (Some 3); line = 2; constant = false; places = [] } }

abbrev unit : Parts
unit = record { functions = f ∷ []; objects = a ∷ []; linked = [] }

no_more : {A : Type 0} (x y : A) (k : ℕ) → slice_get (x ∷ []) k ≡ Some y → x ≡ y
no_more x y zero e = let q : x ≡ y = cc in q
no_more x y (suc k) e = absurd (let none : ⊥ = cc in none)

-- `f` is a function without parameters
f_fits : IfSymbol known unit (kind.Symbol 0) int_function
f_fits =
    record {
      functions = λ k g e q. let p = no_more f g k e in subst (λ (g : DefinedFunction). compatible int_function g.function.of ≡ true) p refl;
      objects = λ k o e q. let p = no_more a o k e in let z : 1 ≡ 0 = ap (λ (o : Defined). o.symbol) p ∙ q in let none : ⊥ = omega (arith, z) in absurd none;
      built_in = λ b d e. never d;
    }

f_is_no_number : IfSymbol known unit (kind.Symbol 0) (basic Int) → ⊥
f_is_no_number h = never (sym (h.functions 0 f refl refl))

-- `a` may stand where its size isn't known yet, and not with another
a_fits : compatible (Array (basic Int) None) a.object.of ≡ true
a_fits = refl

a_of_other_size : IfSymbol known unit (kind.Symbol 1) (Array (basic Int) (Some 4)) → ⊥
a_of_other_size h = never (sym (h.objects 0 a refl refl))

-- a built-in function isn't a number
getchar_is_no_number : IfSymbol known unit (kind.Symbol 2) (basic Int) → ⊥
getchar_is_no_number h = never (sym (h.built_in built_in.Getchar refl refl))

-- what is no symbol fits
number_fits : IfSymbol known unit (kind.Number 1) (basic Int)
number_fits = tt
