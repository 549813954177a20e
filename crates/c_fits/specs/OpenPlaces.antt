-- What an initialiser stores while a unit is checked, where names are symbols: each value is one for its place, and each place lies in
-- its object.
-- Source: C89 3.5.7.
use Rattle.std.specs.Prelude.{◌≡◌, ◌≤◌, ℕ, ◌+◌, ◌==◌, true, Option, Some, List, [], ◌∷◌, length, if◌then◌else◌}
use Rattle.c_types.specs.BitFields.{IsInUnit}
use Rattle.c_types.specs.CType.{CType, Plain, Array, unqualified}
use Rattle.c_types.specs.Layout.{Tag, extent}
use Rattle.c_types.specs.Members.{MemberAt}
use Rattle.c_meaning.specs.declared.core_expr.CoreKind.{CoreKind}
use Rattle.c_meaning.specs.declared.core_expr.CoreKind.TheVariants as kind
use Rattle.c_meaning.specs.CoreTrees.{what_of, type_of}
use Rattle.c_meaning.specs.Filling.{is_char}
use Rattle.c_meaning.specs.Fits.{Fits, IsOpenLeaf, is_value, is_whole}
use Rattle.c_meaning.specs.StmtTrees.{FilledOf}
use Rattle.c_meaning.specs.Units.{place_at}
use Rattle.c_meaning.specs.Values.{CoreTree}

-- a string literal over an array of characters that has room for it, its null apart
abbrev pub IsOpenString : CType → Option ℕ → CoreKind → Type 0
IsOpenString of (Some n) (kind.Literal bytes) = (is_char of ≡ true) × (length bytes ≤ n)
IsOpenString of count what = ⊥

-- a value for a place of this type: a scalar or a whole structure of the type, or a string for an array
abbrev pub IsOpenFor : List Tag → CType → CoreTree → Type 0
IsOpenFor tags (Array of count) c = IsOpenString of count (what_of c)
IsOpenFor tags (Plain q k) c = (is_value c ≡ true) × ((is_whole tags (Plain q k) ≡ true) × (unqualified (type_of c) ≡ unqualified (Plain q k)))

-- how many bytes a place takes: a bit-field's unit has four
abbrev pub bytes_at : List Tag → MemberAt → Option ℕ
bytes_at tags at = if at.width == 0 then (extent tags at.of).size else Some 4

-- a place lies in an object of this size, a bit-field in its unit
abbrev pub LiesIn : List Tag → ℕ → MemberAt → Type 0
LiesIn tags size at = IsInUnit at × ((n : ℕ) × (bytes_at tags at ≡ Some n) × (at.offset + n ≤ size))

-- and the value is one for it
abbrev pub IsOpenFilled : List Tag → ℕ → FilledOf CType → Type 0
IsOpenFilled tags size p = Fits IsOpenLeaf tags p.value × (IsOpenFor tags p.of p.value × LiesIn tags size (place_at p))

abbrev pub AreOpenFilled : List Tag → ℕ → List (FilledOf CType) → Type 0
AreOpenFilled tags size [] = Unit {0}
AreOpenFilled tags size (p ∷ ps) = IsOpenFilled tags size p × AreOpenFilled tags size ps

-- they are places of a whole object of this type
abbrev pub AreOpenOf : List Tag → CType → List (FilledOf CType) → Type 0
AreOpenOf tags of ps = (size : ℕ) × ((extent tags of).size ≡ Some size) × AreOpenFilled tags size ps
