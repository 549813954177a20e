-- What symbols stand for in the whole unit has as many bytes as while names were symbols.
use Rattle.std.proofs.Common.{◌≡◌, ℕ, suc, ◌+◌, Bool, true, false, List, [], ◌∷◌, get_or, map, refl, sym, ap, subst, ◌∙◌, arith, eqb-true}
use Rattle.std.specs.Prelude.{◌==◌, Option, Some, None, nat_eq, slice_get, if◌then◌else◌}
use Rattle.c_types.specs.CType.{CType, Plain, Array, Simple, Pointer, Function, Structure, Union, Enumeration}
use Rattle.c_types.specs.Compatible.{compatible, kinds_compatible}
use Rattle.c_meaning.specs.declared.built_in.BuiltIn.{BuiltIn}
use Rattle.c_meaning.specs.declared.core_expr.CoreKind.{CoreKind}
use Rattle.c_meaning.specs.declared.core_expr.CoreKind.TheVariants as kind
use Rattle.c_meaning.specs.AddressConstants.{bytes_of}
use Rattle.c_meaning.specs.Declarations.{Defined}
use Rattle.c_meaning.specs.Each.{EachIs}
use Rattle.c_meaning.specs.State.{State}
use Rattle.c_meaning.specs.Types.{is_function, is_pointer}
use Rattle.c_meaning.specs.Units.{ObjectTree}
use Rattle.c_units.specs.Ends.{built_in_of, type_among}
use Rattle.c_units.specs.Externals.{Parts}
use Rattle.c_units.specs.Wholes.{function_from, object_from, or_built_in, or_object, or_symbol, stands_for, texts_of, whole_objects, whole_unit}
use Rattle.c_fits.proofs.lemmas.Booleans.{and_right, never}
use Rattle.c_fits.proofs.lemmas.Lists.{some_id}
use Rattle.c_unit_fits.specs.OpenUnits.{IsOpenDefined}
use Rattle.c_whole_fits.proofs.lemmas.Meant.{function_beside}
use Rattle.c_linked_names.specs.LinkedNames.{SymbolFits}
use Rattle.c_core_fits.proofs.lemmas.Found.{function_found}
use Rattle.c_core_fits.proofs.lemmas.Lists.{each_at, first, later}
use Rattle.c_core_fits.proofs.lemmas.Statics.{IsAgain}

-- ---- functions' types

beside_function : (t s : CType) → is_function t ≡ true → compatible t s ≡ true → is_function s ≡ true
beside_function (Plain p k) (Plain q (Function r ps)) h e = refl
beside_function (Plain p (Function r ps)) (Plain q (Simple b)) h e = never (sym (and_right (nat_eq p q) (kinds_compatible (Function r ps) (Simple b)) e))
beside_function (Plain p (Function r ps)) (Plain q (Pointer b)) h e = never (sym (and_right (nat_eq p q) (kinds_compatible (Function r ps) (Pointer b)) e))
beside_function (Plain p (Function r ps)) (Plain q (Structure b)) h e = never (sym (and_right (nat_eq p q) (kinds_compatible (Function r ps) (Structure b)) e))
beside_function (Plain p (Function r ps)) (Plain q (Union b)) h e = never (sym (and_right (nat_eq p q) (kinds_compatible (Function r ps) (Union b)) e))
beside_function (Plain p (Function r ps)) (Plain q (Enumeration b)) h e = never (sym (and_right (nat_eq p q) (kinds_compatible (Function r ps) (Enumeration b)) e))
beside_function (Plain p (Function r ps)) (Array t n) h e = never (sym e)
beside_function t s h e = never (sym h)

no_pointer : (t : CType) → is_function t ≡ true → is_pointer t ≡ false
no_pointer (Plain q (Function r ps)) h = refl
no_pointer t h = never (sym h)

-- ---- the types of objects

-- an object of these, behind so many others in the whole unit, by whose type its symbol is taken
abbrev TypeAt : ℕ → List Defined → List CType → ℕ → CType → ℕ → Type 0
TypeAt k os objects id of n =
    (i : ℕ) × (n ≡ k + i) × ((o : Defined) × (slice_get os i ≡ Some o) × ((o.symbol ≡ id) × ((type_among os id of ≡ o.object.of) × (get_or objects i of ≡ o.object.of))))

abbrev pub types_of_objects : List ObjectTree → List CType
types_of_objects = map (λ (o : ObjectTree). o.of)

type_found : (s : State) (meant : ℕ → CoreKind) (texts : List (List ℕ)) (k place : ℕ) (os : List Defined) (id : ℕ) (of : CType) (n : ℕ) → object_from k os id ≡ Some n → TypeAt k os (types_of_objects (whole_objects s meant texts place os)) id of n
type_found s meant texts k place [] id of n h = absurd (let none : ⊥ = cc in none)
type_found s meant texts k place (o ∷ os) id of n h = by (o.symbol == id) refl h (type_found s meant texts (suc k) (suc place) os id of n)
  where
    rest : List CType
    rest = types_of_objects (whole_objects s meant texts (suc place) os)

    by : (b : Bool) → (o.symbol == id) ≡ b → (if b then Some k else object_from (suc k) os id) ≡ Some n → (object_from (suc k) os id ≡ Some n → TypeAt (suc k) os (types_of_objects (whole_objects s meant texts (suc place) os)) id of n)
        → (i : ℕ) × (n ≡ k + i) × ((p : Defined) × (slice_get (o ∷ os) i ≡ Some p) × ((p.symbol ≡ id) × (((if b then o.object.of else type_among os id of) ≡ p.object.of) × (get_or (types_of_objects (whole_objects s meant texts place (o ∷ os))) i of ≡ p.object.of))))
    by true e g r = (0, first k n (sym (some_id k n g)), (o, refl, (eqb-true o.symbol id e, (refl, refl))))
    by false e g r = let a = r g in (suc a.0, a.1 ∙ later k a.0, a.2)

no_type : (k : ℕ) (os : List Defined) (id : ℕ) (of : CType) → object_from k os id ≡ None → type_among os id of ≡ of
no_type k [] id of h = refl
no_type k (o ∷ os) id of h = by (o.symbol == id) h (no_type (suc k) os id of)
  where
    by : (b : Bool) → (if b then Some k else object_from (suc k) os id) ≡ None → (object_from (suc k) os id ≡ None → type_among os id of ≡ of) → (if b then o.object.of else type_among os id of) ≡ of
    by true g r = absurd (let none : ⊥ = cc in none)
    by false g r = r g

-- ---- symbols

module _ (s : State) (p : Parts) (fits : EachIs (IsOpenDefined s.tags) p.functions) where
  abbrev pub objects : List CType
  objects = types_of_objects (whole_unit s p).objects

  abbrev pub IsSame : CoreKind → ℕ → CType → Type 0
  IsSame what id of = IsAgain s.tags p.objects objects (texts_of p) what id of

  -- a function's symbol, which may be an object's too: then that has a function's type
  among_function : (id : ℕ) (of : CType) → SymbolFits s p id of → is_function of ≡ true → (n : Option ℕ) → object_from 0 p.objects id ≡ n → is_function (type_among p.objects id of) ≡ true
  among_function id of h f (Some n) e =
      let a = type_found s (stands_for s p) (texts_of p) 0 0 p.objects id of n e in
      let o = a.2.0 in
      subst (λ t. is_function t ≡ true) (sym a.2.2.1.0) (beside_function of o.object.of f (h.objects a.0 o a.2.1 a.2.2.0))
  among_function id of h f None e = subst (λ t. is_function t ≡ true) (sym (no_type 0 p.objects id of e)) f

  no_bytes : (t u : CType) → is_function t ≡ true → is_function u ≡ true → bytes_of s.tags t ≡ bytes_of s.tags u
  no_bytes t u h k = rw (h, k) refl

  function_again : (n id : ℕ) (of : CType) → function_from 0 p.functions id ≡ Some n → SymbolFits s p id of → IsSame (kind.Function n) id of
  function_again n id of e h =
      let f = function_found 0 p.functions id n e in
      let k = function_beside of f.2.0.function.of (each_at (IsOpenDefined s.tags) p.functions f.0 f.2.0 fits f.2.1).type (h.functions f.0 f.2.0 f.2.1 f.2.2) in
      let l = among_function id of h k (object_from 0 p.objects id) refl in
      record { number = n; symbol = refl; bytes = no_bytes of (type_among p.objects id of) k l; pointer = no_pointer of k ∙ sym (no_pointer (type_among p.objects id of) l) }

  object_again : (n id : ℕ) (of : CType) → object_from 0 p.objects id ≡ Some n → IsSame (kind.Object n) id of
  object_again n id of e =
      let a = type_found s (stands_for s p) (texts_of p) 0 0 p.objects id of n e in
      let z : n ≡ a.0 = (let g = a.1 in omega (arith, g)) in
      let t : get_or objects n of ≡ type_among p.objects id of = ap (λ i. get_or objects i of) z ∙ (a.2.2.1.1 ∙ sym a.2.2.1.0) in
      record { number = n; symbol = refl; bytes = ap (bytes_of s.tags) t; pointer = ap is_pointer t }

  built_in_again : (id : ℕ) (of : CType) → object_from 0 p.objects id ≡ None → (b : Option BuiltIn) → IsSame (or_symbol b id) id of
  built_in_again id of e (Some b) =
      let t = sym (no_type 0 p.objects id of e) in record { number = 0; symbol = refl; bytes = ap (bytes_of s.tags) t; pointer = ap is_pointer t }
  built_in_again id of e None =
      let t = sym (no_type 0 p.objects id of e) in record { number = id; symbol = refl; bytes = ap (bytes_of s.tags) t; pointer = ap is_pointer t }

  object_or_again : (id : ℕ) (of : CType) (n : Option ℕ) → object_from 0 p.objects id ≡ n → IsSame (or_built_in s n id) id of
  object_or_again id of (Some n) e = object_again n id of e
  object_or_again id of None e = built_in_again id of e (built_in_of s id)

  function_or_again : (id : ℕ) (of : CType) → SymbolFits s p id of → (n : Option ℕ) → function_from 0 p.functions id ≡ n → IsSame (or_object s p n id) id of
  function_or_again id of h (Some n) e = function_again n id of e h
  function_or_again id of h None e = object_or_again id of (object_from 0 p.objects id) refl

  pub symbol_again : (id : ℕ) (of : CType) → SymbolFits s p id of → IsSame (stands_for s p id) id of
  symbol_again id of h = function_or_again id of h (function_from 0 p.functions id) refl
