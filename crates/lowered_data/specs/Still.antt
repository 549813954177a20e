-- Expressions that neither call nor change anything, and name no local of a function: so they depend on the objects that live alone, and leave
-- all as it is. The initialisers of static storage are such.
-- Source: ISO/IEC 9899:1990, 6.4 (constant expressions), 6.5.7.
use Rattle.std.specs.Prelude.{Bool, true, false, ◌&&◌, List, [], ◌∷◌}
use Rattle.c_meaning.specs.declared.core_expr.CoreKind.{CoreKind}
use Rattle.c_meaning.specs.declared.core_expr.CoreKind.TheVariants as kind
use Rattle.c_meaning.specs.declared.core_unit.CoreObject.{CoreObject}
use Rattle.c_meaning.specs.declared.filled_place.FilledPlace.{FilledPlace}
use Rattle.c_meaning.specs.CoreTrees.{CoreOf, Core, CoresOf, NoCore, Cores}

abbrev pub is_still_kind : CoreKind → Bool
is_still_kind (kind.Object n) = true
is_still_kind (kind.Text n) = true
is_still_kind (kind.Function n) = true
is_still_kind (kind.BuiltIn b) = true
is_still_kind (kind.Number n) = true
is_still_kind kind.Pointed = true
is_still_kind (kind.Member offset first width) = true
is_still_kind kind.Address = true
is_still_kind kind.First = true
is_still_kind (kind.Convert conversion) = true
is_still_kind (kind.Unary op) = true
is_still_kind kind.Not = true
is_still_kind (kind.Binary op signed) = true
is_still_kind (kind.Compare op signed) = true
is_still_kind (kind.Move size back) = true
is_still_kind (kind.Difference size) = true
is_still_kind kind.And = true
is_still_kind kind.Or = true
is_still_kind kind.Conditional = true
is_still_kind what = false

abbrev mutual
  pub is_still : {T : Type 0} → CoreOf T → Bool
  is_still (Core what of line kids) = is_still_kind what && are_still kids

  pub are_still : {T : Type 0} → CoresOf T → Bool
  are_still NoCore = true
  are_still (Cores c cs) = is_still c && are_still cs

-- the values of places
abbrev pub are_still_places : List FilledPlace → Bool
are_still_places [] = true
are_still_places (p ∷ ps) = is_still p.value && are_still_places ps

-- those of objects
abbrev pub are_still_objects : List CoreObject → Bool
are_still_objects [] = true
are_still_objects (o ∷ os) = are_still_places o.places && are_still_objects os
