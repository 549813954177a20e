-- The names of a lowered unit, in the order of their numbers: those of the unit's functions and objects, the texts, the built-in functions that
-- the unit doesn't define, and the tables of its switches. A name with linkage stays as it is written. In C no name has a dot: so the others have one.
-- Source: ISO/IEC 9899:1990, 6.1.2 (identifiers), 6.1.2.2 (linkage); Fraser and Hanson, A Retargetable C Compiler, chapter 5 (names of symbols without linkage).
use Rattle.std.specs.Prelude.{◌≡◌, ◌⊎◌, false, ℕ, zero, suc, codes, decimal, List, [], ◌∷◌, ◌++◌, length, map}
use Rattle.lcc_text.specs.declared.class.Class.TheVariants.{Digit, Name}
use Rattle.lcc_text.specs.Classes.{AllIn, in_class}
use Rattle.c_meaning.specs.declared.built_in.BuiltIn.{BuiltIn}
use Rattle.c_meaning.specs.declared.built_in.BuiltIn.TheVariants.{Putchar, Getchar, Exit}
use Rattle.c_meaning.specs.Units.{UnitTree, names}
use Rattle.c_runs.specs.Calls.{built_ins}

-- letters, digits and `_` (95), of which the first is no digit
abbrev pub IsIdentifier : List ℕ → Type 0
IsIdentifier [] = ⊥
IsIdentifier (b ∷ bs) = (in_class Digit b ≡ false) × AllIn (in_class Name) (b ∷ bs)

-- An object without linkage has a dot and digits behind its identifier; here an `s` stands between them, since `L.` and digits is a label.
pub record IsStatic (name lowered : List ℕ) : Type 0 where
  pub front : List ℕ
  pub digits : List ℕ
  pub identifier : IsIdentifier front
  pub each : AllIn (in_class Digit) digits
  pub is : name ≡ front ++ (codes "." ++ digits)
  pub becomes : lowered ≡ front ++ (codes ".s" ++ digits)

abbrev pub IsNameOf : List ℕ → List ℕ → Type 0
IsNameOf name lowered = (IsIdentifier name × (lowered ≡ name)) ⊎ IsStatic name lowered

abbrev pub AreNamesOf : List (List ℕ) → List (List ℕ) → Type 0
AreNamesOf [] [] = Unit {0}
AreNamesOf (n ∷ ns) (m ∷ ms) = IsNameOf n m × AreNamesOf ns ms
AreNamesOf ns ms = ⊥

-- the lowered names of these are added behind others
pub record AreAdded (ns old new : List (List ℕ)) : Type 0 where
  pub own : List (List ℕ)
  pub each : AreNamesOf ns own
  pub is : new ≡ old ++ own

-- so many names, by their numbers from 0
abbrev pub numbered : List ℕ → ℕ → List (List ℕ)
numbered front zero = []
numbered front (suc n) = numbered front n ++ (front ++ decimal n) ∷ []

abbrev pub built_in_name : BuiltIn → List ℕ
built_in_name Putchar = codes "putchar"
built_in_name Getchar = codes "getchar"
built_in_name Exit = codes "exit"

-- what stands behind the names of functions and objects
abbrev pub further_names : UnitTree → ℕ → List (List ℕ)
further_names u tables = numbered (codes "text.") (length u.texts) ++ (map built_in_name (built_ins u) ++ numbered (codes "table.") tables)

-- with so many tables
pub record AreUnitNames (u : UnitTree) (tables : ℕ) (all : List (List ℕ)) : Type 0 where
  pub own : List (List ℕ)
  pub each : AreNamesOf (names u) own
  pub is : all ≡ own ++ further_names u tables
