-- What objects with static storage begin with is constant, and so names no local.
use Rattle.std.specs.Option.{option_map}
use Rattle.std.proofs.Common.{◌≡◌, ◌⊎◌, ℕ, Bool, true, false, List, [], ◌∷◌, refl, sym, inl, inr}
use Rattle.std.specs.Prelude.{ℤ, pos, Option, Some, None, is_some, if◌then◌else◌}
use Rattle.c_types.specs.CType.{CType, Plain, Array}
use Rattle.c_types.specs.Layout.{Tag}
use Rattle.c_meaning.specs.declared.core_expr.Conversion.{Conversion}
use Rattle.c_meaning.specs.declared.core_expr.Conversion.TheVariants as to
use Rattle.c_meaning.specs.declared.core_expr.CoreKind.{CoreKind}
use Rattle.c_meaning.specs.declared.core_expr.CoreKind.TheVariants as kind
use Rattle.c_meaning.specs.AddressConstants.{Address, distance, is_static_value, moved_by, or_nothing, place_address, pointer_address, to_pointer}
use Rattle.c_meaning.specs.Constants.{all_constant, fold, is_constant, is_to_integer, number_in, word}
use Rattle.c_meaning.specs.CoreTrees.{Core, NoCore, Cores, type_of}
use Rattle.c_meaning.specs.Declarations.{Defined}
use Rattle.c_meaning.specs.Each.{EachIs, EachKind, EachKinds}
use Rattle.c_meaning.specs.Fits.{AllFit, Fits, IsOpenLeaf}
use Rattle.c_meaning.specs.StmtTrees.{FilledOf}
use Rattle.c_meaning.specs.Types.{is_array, is_pointer}
use Rattle.c_meaning.specs.Values.{CoreTree, CoreTrees}
use Rattle.c_typing_steps.specs.Names.{EachName, EachNameOf, EachNameStored, IfName}
use Rattle.c_units.specs.Ends.{all_over, over}
use Rattle.c_fits.specs.OpenDeclares.{IsOpenObject}
use Rattle.c_fits.specs.OpenPlaces.{AreOpenFilled, IsOpenFor}
use Rattle.c_fits.proofs.lemmas.Booleans.{and_right, never, or_cases, and_left}
use Rattle.c_unit_fits.specs.OpenUnits.{IsStaticObject, IsStaticPlace}
use Rattle.c_local_names.specs.Laws.{NamesNoLocal}
use Rattle.c_local_names.specs.LocalNames.{IfLocal}
use Rattle.c_local_names.proofs.lemmas.Declaring.{HasTexts, IfText}

-- no local's name
abbrev IsNoLocal : CoreKind → Type 0
IsNoLocal (kind.Local place register) = ⊥
IsNoLocal what = Unit {0}

module _ (tags : List Tag) (os : List Defined) where
  -- ---- integer constant expressions

  mutual
    constant_none : (c : CoreTree) → Fits IsOpenLeaf tags c → is_constant (over os c) ≡ true → EachKind IsNoLocal c
    constant_none (Core (kind.Number n) of line NoCore) h e = (tt, tt)
    constant_none (Core (kind.Number n) of line (Cores a kids)) h e = absurd h.1.1
    constant_none (Core (kind.Convert conversion) of line kids) h e = (tt, constants_none kids h.0 (and_right (is_to_integer conversion) (all_constant (all_over os kids)) e))
    constant_none (Core (kind.Unary op) of line kids) h e = (tt, constants_none kids h.0 e)
    constant_none (Core kind.Not of line kids) h e = (tt, constants_none kids h.0 e)
    constant_none (Core (kind.Binary op signed) of line kids) h e = (tt, constants_none kids h.0 e)
    constant_none (Core (kind.Compare op signed) of line kids) h e = (tt, constants_none kids h.0 e)
    constant_none (Core kind.And of line kids) h e = (tt, constants_none kids h.0 e)
    constant_none (Core kind.Or of line kids) h e = (tt, constants_none kids h.0 e)
    constant_none (Core kind.Conditional of line kids) h e = (tt, constants_none kids h.0 e)
    constant_none (Core what of line kids) h e = never (sym e)

    constants_none : (cs : CoreTrees) → AllFit IsOpenLeaf tags cs → all_constant (all_over os cs) ≡ true → EachKinds IsNoLocal cs
    constants_none NoCore h e = tt
    constants_none (Cores c cs) h e = (constant_none c h.0 (and_left (is_constant (over os c)) (all_constant (all_over os cs)) e), constants_none cs h.1 (and_right (is_constant (over os c)) (all_constant (all_over os cs)) e))

  folded : (c : CoreTree) → is_some (fold c) ≡ true → is_constant c ≡ true
  unfolding fold
  folded c e = by (is_constant c) refl e
    where
      by : (b : Bool) → is_constant c ≡ b → is_some (if b then option_map (number_in (type_of c)) (word c) else None) ≡ true → is_constant c ≡ true
      by true g e = g
      by false g e = never (sym e)

  fold_none : (c : CoreTree) → Fits IsOpenLeaf tags c → is_some (fold (over os c)) ≡ true → EachKind IsNoLocal c
  fold_none c h e = constant_none c h (folded (over os c) e)

  -- ---- address constants

  moved_some : (a : Option Address) (by : Option ℤ) → is_some (moved_by a by) ≡ true → (is_some a ≡ true) × (is_some by ≡ true)
  moved_some (Some a) (Some n) e = (refl, refl)
  moved_some (Some a) None e = never (sym e)
  moved_some None by e = never (sym e)

  distance_some : (size : ℕ) (back : Bool) (n : Option ℤ) → is_some (distance size back n) ≡ true → is_some n ≡ true
  distance_some size back (Some n) e = refl
  distance_some size back None e = never (sym e)

  to_some : (c : Conversion) (a : Option Address) → is_some (to_pointer c a) ≡ true → is_some a ≡ true
  to_some to.Pointer a e = e
  to_some c a e = never (sym e)

  nothing_some : (a : Option Address) (n : Option ℤ) → is_some (or_nothing a n) ≡ true → (is_some a ≡ true) ⊎ (is_some n ≡ true)
  nothing_some (Some a) n e = inl refl
  nothing_some None (Some n) e = inr refl
  nothing_some None None e = never (sym e)

  either : (a : CoreTree) → Fits IsOpenLeaf tags a → (is_some (pointer_address tags (over os a)) ≡ true) ⊎ (is_some (fold (over os a)) ≡ true) → (is_some (pointer_address tags (over os a)) ≡ true → EachKind IsNoLocal a) → EachKind IsNoLocal a
  either a h (inl e) k = k e
  either a h (inr e) k = fold_none a h e

  moves : (t : Bool) (size : ℕ) (back : Bool) (a b : CoreTree) → Fits IsOpenLeaf tags a → Fits IsOpenLeaf tags b
      → is_some (if t then moved_by (pointer_address tags (over os a)) (distance size back (fold (over os b))) else moved_by (pointer_address tags (over os b)) (distance size back (fold (over os a)))) ≡ true
      → (is_some (pointer_address tags (over os a)) ≡ true → EachKind IsNoLocal a) → (is_some (pointer_address tags (over os b)) ≡ true → EachKind IsNoLocal b) → EachKinds IsNoLocal (Cores a (Cores b NoCore))
  moves true size back a b h k e f g =
      let m = moved_some (pointer_address tags (over os a)) (distance size back (fold (over os b))) e in
      (f m.0, (fold_none b k (distance_some size back (fold (over os b)) m.1), tt))
  moves false size back a b h k e f g =
      let m = moved_some (pointer_address tags (over os b)) (distance size back (fold (over os a))) e in
      (fold_none a h (distance_some size back (fold (over os a)) m.1), (g m.0, tt))

  mutual
    place_none : (c : CoreTree) → Fits IsOpenLeaf tags c → is_some (place_address tags (over os c)) ≡ true → EachKind IsNoLocal c
    place_none (Core (kind.Symbol id) of line NoCore) h e = (tt, tt)
    place_none (Core (kind.Symbol id) of line (Cores a kids)) h e = absurd h.1.1
    place_none (Core (kind.Literal bytes) of line NoCore) h e = (tt, tt)
    place_none (Core (kind.Literal bytes) of line (Cores a kids)) h e = absurd h.1.1
    place_none (Core kind.Pointed of line NoCore) h e = never (sym e)
    place_none (Core kind.Pointed of line (Cores a NoCore)) h e = (tt, (pointer_none a h.0.0 e, tt))
    place_none (Core kind.Pointed of line (Cores a (Cores b kids))) h e = absurd h.1.1
    place_none (Core (kind.Member offset first width) of line NoCore) h e = never (sym e)
    place_none (Core (kind.Member offset first width) of line (Cores a NoCore)) h e = (tt, (place_none a h.0.0 (moved_some (place_address tags (over os a)) (Some (pos offset)) e).0, tt))
    place_none (Core (kind.Member offset first width) of line (Cores a (Cores b kids))) h e = absurd h.1.1
    place_none (Core what of line kids) h e = never (sym e)

    pointer_none : (c : CoreTree) → Fits IsOpenLeaf tags c → is_some (pointer_address tags (over os c)) ≡ true → EachKind IsNoLocal c
    pointer_none (Core kind.Address of line NoCore) h e = never (sym e)
    pointer_none (Core kind.Address of line (Cores a NoCore)) h e = (tt, (place_none a h.0.0 e, tt))
    pointer_none (Core kind.Address of line (Cores a (Cores b kids))) h e = absurd h.1.1
    pointer_none (Core kind.First of line NoCore) h e = never (sym e)
    pointer_none (Core kind.First of line (Cores a NoCore)) h e = (tt, (place_none a h.0.0 e, tt))
    pointer_none (Core kind.First of line (Cores a (Cores b kids))) h e = absurd h.1.1
    pointer_none (Core (kind.Convert conversion) of line NoCore) h e = never (sym (to_some conversion None e))
    pointer_none (Core (kind.Convert conversion) of line (Cores a NoCore)) h e =
        (tt, (either a h.0.0 (nothing_some (pointer_address tags (over os a)) (fold (over os a)) (to_some conversion (or_nothing (pointer_address tags (over os a)) (fold (over os a))) e)) (pointer_none a h.0.0), tt))
    pointer_none (Core (kind.Convert conversion) of line (Cores a (Cores b kids))) h e = absurd h.1.1
    pointer_none (Core (kind.Move size back) of line NoCore) h e = absurd h.1.1
    pointer_none (Core (kind.Move size back) of line (Cores a NoCore)) h e = absurd h.1.1
    pointer_none (Core (kind.Move size back) of line (Cores a (Cores b NoCore))) h e = (tt, moves (is_pointer (type_of (over os a))) size back a b h.0.0 h.0.1.0 e (pointer_none a h.0.0) (pointer_none b h.0.1.0))
    pointer_none (Core (kind.Move size back) of line (Cores a (Cores b (Cores c kids)))) h e = absurd h.1.1
    pointer_none (Core what of line kids) h e = never (sym e)

  -- ---- objects

  static_none : (c : CoreTree) → Fits IsOpenLeaf tags c → is_static_value tags (over os c) ≡ true → EachKind IsNoLocal c
  static_none c h e = by (or_cases (is_some (fold (over os c))) (is_some (pointer_address tags (over os c))) e)
    where
      by : (is_some (fold (over os c)) ≡ true) ⊎ (is_some (pointer_address tags (over os c)) ≡ true) → EachKind IsNoLocal c
      by (inl g) = fold_none c h g
      by (inr g) = pointer_none c h g

  -- a string over an array
  string_none : (t : CType) (c : CoreTree) → Fits IsOpenLeaf tags c → IsOpenFor tags t c → is_array t ≡ true → EachKind IsNoLocal c
  string_none (Plain q k) c h f e = never (sym e)
  string_none (Array of (Some n)) (Core (kind.Literal bytes) u line NoCore) h f e = (tt, tt)
  string_none (Array of (Some n)) (Core (kind.Literal bytes) u line (Cores a kids)) h f e = absurd h.1.1
  string_none (Array of (Some n)) (Core what u line kids) h f e = absurd f
  string_none (Array of None) c h f e = absurd f

  mutual
    no_local : (c : CoreTree) → EachKind IsNoLocal c → EachName IfText c → EachName (IfLocal []) c
    no_local (Core what of line kids) h k = (by what of h.0 k.0, no_locals kids h.1 k.1)
      where
        by : (what : CoreKind) (of : CType) → IsNoLocal what → IfName IfText what of → IfName (IfLocal []) what of
        by (kind.Local place register) of h k = absurd h
        by (kind.Symbol id) of h k = tt
        by (kind.Literal bytes) of h k = k
        by what of h k = tt

    no_locals : (cs : CoreTrees) → EachKinds IsNoLocal cs → EachNameOf IfText cs → EachNameOf (IfLocal []) cs
    no_locals NoCore h k = tt
    no_locals (Cores c cs) h k = (no_local c h.0 k.0, no_locals cs h.1 k.1)

  place_named : (size : ℕ) (p : FilledOf CType) → AreOpenFilled tags size (p ∷ []) → IsStaticPlace tags os p → EachName IfText p.value → EachName (IfLocal []) p.value
  place_named size p h st k = no_local p.value (by (is_array p.of) refl) k
    where
      by : (b : Bool) → is_array p.of ≡ b → EachKind IsNoLocal p.value
      by true e = string_none p.of p.value h.0.0 h.0.1.0 e
      by false e = static_none p.value h.0.0 (st e)

  places_named : (size : ℕ) (ps : List (FilledOf CType)) → AreOpenFilled tags size ps → EachIs (IsStaticPlace tags os) ps → EachNameStored IfText ps → EachNameStored (IfLocal []) ps
  places_named size [] h st k = tt
  places_named size (p ∷ ps) h st k = (place_named size p (h.0, tt) st.0 k.0, places_named size ps h.1 st.1 k.1)

  pub objects_named : (more : List Defined) → EachIs (IsOpenObject tags) more → EachIs (IsStaticObject tags os) more → EachIs HasTexts more → EachIs NamesNoLocal more
  objects_named [] h st k = tt
  objects_named (o ∷ more) h st k = (places_named h.0.1.0 o.object.places h.0.1.2 st.0 k.0, objects_named more h.1 st.1 k.1)
