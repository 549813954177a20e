-- A row of the table is one fault's.
use Rattle.std.proofs.Common.{◌≡◌, ℕ, List, [], ◌∷◌, Some, refl, sym, ap, ◌∙◌, arith}
use Rattle.std.specs.Prelude.{slice_get}
use Rattle.std.proofs.lemmas.Option.{same_Some}
use Rattle.lcc_base.specs.declared.which.Which.{Which}
use Rattle.lcc_base.specs.declared.which.Which.TheVariants as which
use Rattle.lburg_lines.specs.Sections.{TokenLine}
use Rattle.lburg_faults.specs.declared.line_fault.LineFault.{LineFault}
use Rattle.lburg_faults.specs.declared.line_fault.LineFault.TheVariants.{BadToken, BadRule, UnknownTerminal, DoubleTerminal, ArityDiffers, CostForm, CostTooLarge, Limit}
use Rattle.lburg_faults.specs.Setting.{Setting}
use Rattle.lburg_faults.specs.Limits.{IsLimit}
use Rattle.lburg_faults.specs.LineFaults.{Stands, row_of, limit_row}

-- the faults by their rows; no row is 0 or 6
by_row : List LineFault
by_row =
    BadToken ∷ BadToken ∷ BadRule ∷ UnknownTerminal ∷ DoubleTerminal ∷ ArityDiffers ∷ BadToken ∷ CostForm ∷ CostTooLarge ∷ Limit which.Terminals ∷ Limit which.Nonterminals ∷ Limit which.Rules ∷ Limit which.Pattern ∷ Limit which.Number ∷ []

-- ---- limits that no line has share a row

limit_stands : (w : Which) (s : Setting) (l : TokenLine) (place : ℕ) → IsLimit w s l place → limit_row w ≡ 14 → ⊥
limit_stands which.Terminals s l place h e = omega arith
limit_stands which.Nonterminals s l place h e = omega arith
limit_stands which.Rules s l place h e = omega arith
limit_stands which.Pattern s l place h e = omega arith
limit_stands which.Number s l place h e = omega arith
limit_stands other s l place h e = h

-- a fault that stands isn't one of these
pub is_told : (f : LineFault) (s : Setting) (l : TokenLine) (place : ℕ) → Stands f s l place → row_of f ≡ 14 → ⊥
is_told BadToken s l place h e = omega arith
is_told BadRule s l place h e = omega arith
is_told UnknownTerminal s l place h e = omega arith
is_told DoubleTerminal s l place h e = omega arith
is_told ArityDiffers s l place h e = omega arith
is_told CostForm s l place h e = omega arith
is_told CostTooLarge s l place h e = omega arith
is_told (Limit w) s l place h e = limit_stands w s l place h e

limit_found : (w : Which) → (limit_row w ≡ 14 → ⊥) → slice_get by_row (limit_row w) ≡ Some (Limit w)
unfolding by_row
limit_found which.Terminals h = refl
limit_found which.Nonterminals h = refl
limit_found which.Rules h = refl
limit_found which.Pattern h = refl
limit_found which.Number h = refl
limit_found other h = absurd (h refl)

found : (f : LineFault) → (row_of f ≡ 14 → ⊥) → slice_get by_row (row_of f) ≡ Some f
unfolding by_row
found BadToken h = refl
found BadRule h = refl
found UnknownTerminal h = refl
found DoubleTerminal h = refl
found ArityDiffers h = refl
found CostForm h = refl
found CostTooLarge h = refl
found (Limit w) h = limit_found w h

pub same_kind : (f g : LineFault) → (row_of g ≡ 14 → ⊥) → row_of f ≡ row_of g → f ≡ g
same_kind f g h e = same_Some f g (sym (found f (λ x. h (sym e ∙ x))) ∙ ap (slice_get by_row) e ∙ found g h)
