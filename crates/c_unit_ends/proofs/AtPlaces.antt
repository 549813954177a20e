-- What stands at a place of a list, where it is known of all of it.
use Rattle.std.proofs.Common.{◌≡◌, ℕ, suc, ◌+◌, ◌<◌, List, [], ◌∷◌, length, get_or, drop, sym, ap, ◌∙◌, subst, arith}
use Rattle.std.specs.Prelude.{zero, Option, Some, None, slice_get}
use Rattle.std.proofs.lemmas.List.{at_drop_more}
use Rattle.std.proofs.lemmas.Option.{get_or_from_slice_get, slice_get_within}
use Rattle.c_symbols.specs.declared.symbol.Symbol.{Symbol}
use Rattle.c_symbols.specs.Scoping.{AreBelow}
use Rattle.c_types.specs.CType.{CType}
use Rattle.c_meaning.specs.CoreTrees.{IsIn}
use Rattle.c_meaning.specs.State.{Known, nothing_known}
use Rattle.c_meaning.specs.declared.filled_place.FilledPlace.{FilledPlace}
use Rattle.c_initialisers.specs.FilledPlaces.{ArePlacesIn}
use Rattle.c_check_decl.specs.declared.declares.DefinedObject.{DefinedObject}
use Rattle.c_check_decl.specs.declared.declares.LinkedName.{LinkedName}
use Rattle.c_check_decl.specs.Declares.{AreLinkedIn, AreObjectsIn, IsObjectIn}
use Rattle.c_check_expr.specs.Known.{AreSymbolsIn, all_known, known_of}
use Rattle.c_unit_parts.specs.declared.DefinedFunction.{DefinedFunction}
use Rattle.c_unit_parts.specs.PartsIn.{AreFunctionsIn, IsFunctionIn}

-- ---- by their places

pub symbol_in : (n : ℕ) (ys : List Symbol) (i : ℕ) (y : Symbol) → AreSymbolsIn n ys → slice_get ys i ≡ Some y → y.of < n
symbol_in n [] i y h e = absurd (cc)
symbol_in n (z ∷ ys) zero y h e = subst (λ (o : Option Symbol). of_some o) e h.0
  where
    of_some : Option Symbol → Type 0
    of_some None = Unit {0}
    of_some (Some x) = x.of < n
symbol_in n (z ∷ ys) (suc i) y h e = symbol_in n ys i y h.1 e

pub known_in : (ts : List CType) (ys : List Symbol) (i : ℕ) (y : Symbol) → slice_get ys i ≡ Some y → get_or (all_known ts ys) i nothing_known ≡ known_of ts y
known_in ts [] i y e = absurd (cc)
known_in ts (z ∷ ys) zero y e = ap (λ (o : Option Symbol). of_some o) e
  where
    of_some : Option Symbol → Known
    of_some None = nothing_known
    of_some (Some x) = known_of ts x
known_in ts (z ∷ ys) (suc i) y e = known_in ts ys i y e

pub name_below : (n : ℕ) (ns : List (List ℕ × ℕ)) (i : ℕ) (x : List ℕ × ℕ) → AreBelow n ns → slice_get ns i ≡ Some x → x.1 < n
name_below n [] i x h e = absurd (cc)
name_below n (z ∷ ns) zero x h e = subst (λ (o : Option (List ℕ × ℕ)). of_some o) e h.0
  where
    of_some : Option (List ℕ × ℕ) → Type 0
    of_some None = Unit {0}
    of_some (Some y) = y.1 < n
name_below n (z ∷ ns) (suc i) x h e = name_below n ns i x h.1 e

-- a function of what is left of a list
pub at_entry : {A Y : Type 0} (left : List A → Y) (xs : List A) (i : ℕ) (x : A) → slice_get xs i ≡ Some x → left (drop i xs) ≡ left (x ∷ drop (i + 1) xs)
at_entry {A} left xs i x e = at_drop_more left xs i x (slice_get_within xs i x e) ∙ ap (λ (z : A). left (z ∷ drop (i + 1) xs)) (get_or_from_slice_get xs i x x e)

-- ---- items of a loop

pub function_at : (n : ℕ) (fs : List DefinedFunction) (i : ℕ) (f d : DefinedFunction) → AreFunctionsIn n fs → i < length fs → f ≡ get_or fs i d → IsFunctionIn n f
function_at n [] i f d h l e = absurd (omega (arith, l))
function_at n (g ∷ fs) zero f d h l e = subst (IsFunctionIn n) (sym e) h.0
function_at n (g ∷ fs) (suc i) f d h l e = function_at n fs i f d h.1 (omega (arith, l)) e

pub object_at : (n : ℕ) (os : List DefinedObject) (i : ℕ) (o d : DefinedObject) → AreObjectsIn n os → i < length os → o ≡ get_or os i d → IsObjectIn n o.object
object_at n [] i o d h l e = absurd (omega (arith, l))
object_at n (p ∷ os) zero o d h l e = subst (λ (x : DefinedObject). IsObjectIn n x.object) (sym e) h.0
object_at n (p ∷ os) (suc i) o d h l e = object_at n os i o d h.1 (omega (arith, l)) e

pub linked_at : (n : ℕ) (ls : List LinkedName) (i : ℕ) (x d : LinkedName) → AreLinkedIn n ls → i < length ls → x ≡ get_or ls i d → x.of < n
linked_at n [] i x d h l e = absurd (omega (arith, l))
linked_at n (y ∷ ls) zero x d h l e = subst (λ (z : LinkedName). z.of < n) (sym e) h.0
linked_at n (y ∷ ls) (suc i) x d h l e = linked_at n ls i x d h.1 (omega (arith, l)) e

pub place_at : (n : ℕ) (ps : List FilledPlace) (i : ℕ) (p d : FilledPlace) → ArePlacesIn n ps → i < length ps → p ≡ get_or ps i d → (p.at.of < n) × IsIn n p.value
place_at n [] i p d h l e = absurd (omega (arith, l))
place_at n (q ∷ ps) zero p d h l e = subst (λ (x : FilledPlace). (x.at.of < n) × IsIn n x.value) (sym e) h.0
place_at n (q ∷ ps) (suc i) p d h l e = place_at n ps i p d h.1 (omega (arith, l)) e
