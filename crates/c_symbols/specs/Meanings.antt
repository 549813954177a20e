-- What each name means, by the places that the names have.
use Rattle.std.proofs.Common.{refl}
use Rattle.std.specs.Prelude.{◌≡◌, codes, ℕ, zero, suc, true, false, List, [], ◌∷◌, Option, Some, None, if◌then◌else◌, Vec}
use Rattle.std.specs.Str.{bytes_eq}
use Rattle.std.specs.declared.alloc.Global.{Global}

-- the names that have places, in the order of these, each with the symbol that it means
abbrev pub Meant : Type 0
Meant = List (List ℕ × Option ℕ)

abbrev pub meant_in : List (Vec ℕ Global × Option ℕ) → Meant
meant_in [] = []
meant_in (e ∷ es) = (e.0.items, e.1) ∷ meant_in es

abbrev pub meaning : Meant → List ℕ → Option ℕ
meaning [] name = None
meaning (e ∷ es) name = if bytes_eq name e.0 then e.1 else meaning es name

-- a name's place is the first that has it
abbrev pub IsAt : Meant → List ℕ → ℕ → Type 0
IsAt [] name place = ⊥
IsAt (e ∷ es) name zero = bytes_eq name e.0 ≡ true
IsAt (e ∷ es) name (suc place) = (bytes_eq name e.0 ≡ false) × IsAt es name place

-- each name means what it did, and keeps its place
pub record MeanTheSame (old new : Meant) : Type 0 where
  pub meanings : (name : List ℕ) → meaning new name ≡ meaning old name
  pub places : (name : List ℕ) (place : ℕ) → IsAt old name place → IsAt new name place

-- ---- examples: a name's meaning and its place, and a place that isn't its

means : meaning ((codes "x", None) ∷ (codes "y", Some 2) ∷ []) (codes "y") ≡ Some 2
means = refl

at_second : IsAt ((codes "x", None) ∷ (codes "y", Some 2) ∷ []) (codes "y") 1
at_second = (refl, refl)

not_at_first : IsAt ((codes "x", None) ∷ (codes "y", Some 2) ∷ []) (codes "y") 0 → ⊥
not_at_first h = let l : false ≡ true = h in cc
