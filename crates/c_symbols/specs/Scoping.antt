-- Names by scopes (C89 3.1.2.1): a name means what its innermost declaration made it.
use Rattle.std.proofs.Common.{refl, arith}
use Rattle.std.specs.Prelude.{◌≡◌, codes, ℕ, ◌<◌, List, [], ◌∷◌, length, Option, Some, None, if◌then◌else◌}
use Rattle.std.specs.Str.{bytes_eq}
use Rattle.c_symbols.specs.declared.symbol.Symbol.{Symbol}

-- The scopes around the innermost, the outermost first, and the innermost one: each the names declared in it, in
-- order, with the places of their symbols. The names with linkage (C89 3.1.2.2), each with the symbol that stands for
-- what all its declarations name. And the symbols.
pub record Scoping : Type 0 where
  pub outer : List (List (List ℕ × ℕ))
  pub inner : List (List ℕ × ℕ)
  pub links : List (List ℕ × ℕ)
  pub symbols : List Symbol

-- the symbol of a name in one scope
abbrev pub symbol_named : List (List ℕ × ℕ) → List ℕ → Option ℕ
symbol_named [] name = None
symbol_named (n ∷ ns) name = if bytes_eq name n.0 then Some n.1 else symbol_named ns name

abbrev pub or_else : Option ℕ → Option ℕ → Option ℕ
or_else (Some i) j = Some i
or_else None j = j

-- the symbol of a name in the last of the scopes that has it, which is the innermost
abbrev pub found : List (List (List ℕ × ℕ)) → List ℕ → Option ℕ
found [] name = None
found (s ∷ ss) name = or_else (found ss name) (symbol_named s name)

-- the places of the names' symbols are below this number
abbrev pub AreBelow : ℕ → List (List ℕ × ℕ) → Type 0
AreBelow count [] = Unit {0}
AreBelow count (n ∷ ns) = (n.1 < count) × AreBelow count ns

abbrev pub AreAllBelow : ℕ → List (List (List ℕ × ℕ)) → Type 0
AreAllBelow count [] = Unit {0}
AreAllBelow count (s ∷ ss) = AreBelow count s × AreAllBelow count ss

-- each name has one of the symbols that were declared
pub record IsDeclared (s : Scoping) : Type 0 where
  pub outer : AreAllBelow (length s.symbols) s.outer
  pub inner : AreBelow (length s.symbols) s.inner
  pub links : AreBelow (length s.symbols) s.links

-- ---- examples: the innermost scope that has a name, and places below a number

inner_name : found (((codes "x", 0) ∷ []) ∷ ((codes "y", 1) ∷ (codes "x", 2) ∷ []) ∷ []) (codes "x") ≡ Some 2
inner_name = refl

no_scope_has_it : found (((codes "x", 0) ∷ []) ∷ [] ∷ []) (codes "z") ≡ None
no_scope_has_it = refl

place_below : AreBelow 1 ((codes "x", 0) ∷ [])
place_below = (omega arith, tt)

place_not_below : AreBelow 1 ((codes "x", 1) ∷ []) → ⊥
place_not_below h = let l = h.0 in omega (arith, l)
