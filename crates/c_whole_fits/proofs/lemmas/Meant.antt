-- What symbols of a unit stand for.
use Rattle.std.proofs.Common.{◌≡◌, ℕ, zero, suc, true, false, List, [], ◌∷◌, refl, sym, ap, subst, ◌∙◌}
use Rattle.std.specs.Prelude.{Option, Some, None, nat_eq, slice_get}
use Rattle.c_types.specs.CType.{CType, Plain, Array, Simple, Pointer, Function, Structure, Union, Enumeration}
use Rattle.c_types.specs.Compatible.{compatible, kinds_compatible}
use Rattle.c_meaning.specs.declared.built_in.BuiltIn.{BuiltIn}
use Rattle.c_meaning.specs.declared.core_expr.CoreKind.{CoreKind}
use Rattle.c_meaning.specs.declared.core_expr.CoreKind.TheVariants as kind
use Rattle.c_meaning.specs.Each.{EachIs}
use Rattle.c_meaning.specs.State.{State}
use Rattle.c_meaning.specs.Types.{is_function}
use Rattle.c_meaning.specs.Units.{FunctionTree, IsLeaf, UnitTree}
use Rattle.c_meaning.specs.Values.{is_place_kind}
use Rattle.c_units.specs.Ends.{built_in_of}
use Rattle.c_units.specs.Externals.{Parts}
use Rattle.c_units.specs.Wholes.{function_from, object_from, or_built_in, or_object, or_symbol, stands_for}
use Rattle.c_fits.proofs.lemmas.Booleans.{and_right, never}
use Rattle.c_whole_fits.specs.There.{IsMeant, IsOfFunction, is_meaning}

-- what is compatible with a function's type is one
pub function_beside : (t s : CType) → is_function s ≡ true → compatible t s ≡ true → is_function t ≡ true
function_beside (Plain p (Function o qs)) s h e = refl
function_beside (Plain p (Simple b)) (Plain q (Function r ps)) h e = never (sym (and_right (nat_eq p q) (kinds_compatible (Simple b) (Function r ps)) e))
function_beside (Plain p (Pointer b)) (Plain q (Function r ps)) h e = never (sym (and_right (nat_eq p q) (kinds_compatible (Pointer b) (Function r ps)) e))
function_beside (Plain p (Structure b)) (Plain q (Function r ps)) h e = never (sym (and_right (nat_eq p q) (kinds_compatible (Structure b) (Function r ps)) e))
function_beside (Plain p (Union b)) (Plain q (Function r ps)) h e = never (sym (and_right (nat_eq p q) (kinds_compatible (Union b) (Function r ps)) e))
function_beside (Plain p (Enumeration b)) (Plain q (Function r ps)) h e = never (sym (and_right (nat_eq p q) (kinds_compatible (Enumeration b) (Function r ps)) e))
function_beside (Array t n) (Plain q k) h e = never (sym e)
function_beside t s h e = never (sym h)

abbrev or_one : FunctionTree → Option FunctionTree → FunctionTree
or_one f None = f
or_one f (Some g) = g

one_of_functions : (fs : List FunctionTree) (n : ℕ) (f : FunctionTree) → EachIs IsOfFunction fs → slice_get fs n ≡ Some f → IsOfFunction f
one_of_functions [] n f h e = absurd (let none : ⊥ = cc in none)
one_of_functions (g ∷ fs) zero f h e = subst IsOfFunction (ap (or_one g) e) h.0
one_of_functions (g ∷ fs) (suc n) f h e = one_of_functions fs n f h.1 e

pub place_meant : (u : UnitTree) (locals : List CType) → EachIs IsOfFunction u.functions → (what : CoreKind) (of : CType) → is_meaning what ≡ true → IsLeaf u locals what of → is_function of ≡ false → is_place_kind what ≡ true
place_meant u locals h (kind.Object n) of m l e = refl
place_meant u locals h (kind.Function n) of m l e = never (sym (function_beside of l.0.of (one_of_functions u.functions n l.0 h l.1) l.2) ∙ e)
place_meant u locals h (kind.BuiltIn b) of m l e = never (sym l ∙ e)
place_meant u locals h (kind.Symbol id) of m l e = refl
place_meant u locals h what of m l e = never (sym m)

built_in_meaning : (b : Option BuiltIn) (id : ℕ) → is_meaning (or_symbol b id) ≡ true
built_in_meaning (Some b) id = refl
built_in_meaning None id = refl

object_meaning : (s : State) (n : Option ℕ) (id : ℕ) → is_meaning (or_built_in s n id) ≡ true
object_meaning s (Some n) id = refl
object_meaning s None id = built_in_meaning (built_in_of s id) id

function_meaning : (s : State) (p : Parts) (n : Option ℕ) (id : ℕ) → is_meaning (or_object s p n id) ≡ true
function_meaning s p (Some n) id = refl
function_meaning s p None id = object_meaning s (object_from 0 p.objects id) id

stands_meaning : (s : State) (p : Parts) (id : ℕ) → is_meaning (stands_for s p id) ≡ true
stands_meaning s p id = function_meaning s p (function_from 0 p.functions id) id

pub symbols_meant : (u : UnitTree) (locals : List CType) (s : State) (p : Parts) → EachIs IsOfFunction u.functions → IsMeant (IsLeaf u locals) (stands_for s p)
symbols_meant u locals s p h = record { meaning = stands_meaning s p; places = λ id of l e. place_meant u locals h (stands_for s p id) of (stands_meaning s p id) l e }
