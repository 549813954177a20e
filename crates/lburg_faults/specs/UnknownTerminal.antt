-- UnknownTerminal: a name with operands isn't a terminal. It stands at the name, as soon as a parenthesis follows.
use Rattle.std.specs.Prelude.{◌≡◌, ℕ, List, ◌∷◌, drop}
use Rattle.lburg_lines.specs.declared.token.Sign.TheVariants.{Open}
use Rattle.lburg_lines.specs.Tokens.{Tok, Word, Mark}
use Rattle.lburg_lines.specs.Sections.{TokenLine}
use Rattle.lburg_faults.specs.Lines.{InPattern}
use Rattle.lburg_faults.specs.Terminals.{Among}
use Rattle.lburg_faults.specs.Setting.{Setting}

abbrev pub IsUnknownTerminal : Setting → TokenLine → ℕ → Type 0
IsUnknownTerminal s l place =
    (name : List ℕ) × (rest : List Tok) × InPattern l place × (drop place l.tokens ≡ Word name ∷ (Mark Open ∷ rest)) × (Among name s.terminals → ⊥)
