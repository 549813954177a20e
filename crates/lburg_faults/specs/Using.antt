-- What is noted of the uses of terminals while a line of the rules is read from its left, and what a use adds.
use Rattle.std.specs.Prelude.{◌≡◌, ◌≢◌, ◌≤◌, ◌<◌, ◌⊎◌, ℕ, ◌+◌, Bool, true, false, Option, Some, None, List, [], ◌∷◌, ◌++◌, length, set, slice_get}
use Rattle.lburg_lines.specs.Tokens.{Tok, Word}
use Rattle.lburg_lines.specs.Sections.{TokenLine}
use Rattle.lburg_faults.specs.Lines.{InPattern}
use Rattle.lburg_faults.specs.Uses.{IsUse, IsFirstUse}
use Rattle.lburg_faults.specs.ArityDiffers.{IsArityDiffers}
use Rattle.lburg_faults.specs.Setting.{Setting}

-- at the place of the tokens, where it is of a pattern, a name is used with so many operands, up to the last token
abbrev pub UsedAt : List Tok → ℕ → ℕ → ℕ → Type 0
UsedAt tokens place last operands = (l : TokenLine) (name : List ℕ) → l.tokens ≡ tokens → InPattern l place → slice_get tokens place ≡ Some (Word name) → IsUse l place last name operands

-- no name is used there
abbrev pub NotUsedAt : List Tok → ℕ → Type 0
NotUsedAt tokens place = (l : TokenLine) (last operands : ℕ) (name : List ℕ) → l.tokens ≡ tokens → IsUse l place last name operands → ⊥

-- the name's first use is one with so many operands, and stands in the lines before, or in this one before the place
pub record UsedFirst (s : Setting) (l : TokenLine) (place : ℕ) (name : List ℕ) (operands : ℕ) : Type 0 where
  pub first : IsFirstUse (s.before ++ l ∷ []) name operands
  pub before : (first.index < length s.before) ⊎ (first.place < place)

-- the numbers of operands are those of these first uses
pub record UsesBefore (s : Setting) (l : TokenLine) (place : ℕ) (counts : List (Option ℕ)) : Type 0 where
  pub noted : length counts ≡ length s.terminals
  pub arities : (i n : ℕ) (name : List ℕ) → slice_get s.terminals i ≡ Some name → slice_get counts i ≡ Some (Some n) → UsedFirst s l place name n
  pub used : (i n : ℕ) (name : List ℕ) → slice_get s.terminals i ≡ Some name → UsedFirst s l place name n → slice_get counts i ≡ Some (Some n)

-- the last token of the use at the place, where it differs from the first
abbrev pub DiffersAt : Setting → TokenLine → ℕ → Option ℕ → Type 0
DiffersAt s l place None = (q : ℕ) (d : IsArityDiffers s l q) → d.1 ≡ place → ⊥
DiffersAt s l place (Some last) = IsArityDiffers s l last × ((q : ℕ) (d : IsArityDiffers s l q) → d.1 ≡ place → q ≡ last)

-- what a use of a terminal adds, and whether it differs
abbrev pub UseGives : List (Option ℕ) → ℕ → ℕ → List (Option ℕ) → Bool → Type 0
UseGives old i operands new true = (first : ℕ) × (slice_get old i ≡ Some (Some first)) × (operands ≢ first) × (new ≡ old)
UseGives old i operands new false =
    ((slice_get old i ≡ Some None) × (new ≡ set old i (Some operands)))
    ⊎ (((slice_get old i ≡ Some (Some operands)) ⊎ (length old ≤ i)) × (new ≡ old))

-- what the token at the place adds
pub record UsesGive (s : Setting) (l : TokenLine) (place : ℕ) (new : List (Option ℕ)) (last : Option ℕ) : Type 0 where
  pub uses : UsesBefore s l (place + 1) new
  pub differs : DiffersAt s l place last

-- the least of the bound and of the last tokens of differing uses before the place
pub record LeastBefore (s : Setting) (l : TokenLine) (bound place least : ℕ) : Type 0 where
  pub within : least ≤ bound
  pub stands : least < bound → IsArityDiffers s l least
  pub left : (q : ℕ) (d : IsArityDiffers s l q) → d.1 < place → least ≤ q
