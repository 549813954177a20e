-- BadRule: the tokens don't follow the grammar, but for the rest of a rule's line behind its template; a second `%start`;
-- a terminal as start symbol, wherever it is declared, or as left side.
use Rattle.std.specs.Prelude.{◌≡◌, ◌⊎◌, ℕ, false, Some, List, ◌∷◌, take, slice_get}
use Rattle.lburg_lines.specs.Tokens.{Tok, Word}
use Rattle.lburg_lines.specs.Sections.{TokenLine}
use Rattle.lburg_faults.specs.Lines.{StartLine, IsRules, has_template}
use Rattle.lburg_faults.specs.Terminals.{Among}
use Rattle.lburg_faults.specs.Breaks.{Breaks}
use Rattle.lburg_faults.specs.Setting.{Setting}

abbrev pub IsSecondStart : Setting → TokenLine → ℕ → Type 0
IsSecondStart s l place = (tokens earlier : List Tok) × (i : ℕ) × (k : TokenLine) × StartLine l tokens × (slice_get s.before i ≡ Some k) × StartLine k earlier × (place ≡ 0)

abbrev pub IsTerminalStart : Setting → TokenLine → ℕ → Type 0
IsTerminalStart s l place = (name : List ℕ) × (tokens : List Tok) × StartLine l (Word name ∷ tokens) × Among name s.terminals × (place ≡ 1)

abbrev pub IsTerminalLeft : Setting → TokenLine → ℕ → Type 0
IsTerminalLeft s l place = (name : List ℕ) × (tokens : List Tok) × IsRules l × (l.tokens ≡ Word name ∷ tokens) × Among name s.terminals × (place ≡ 0)

abbrev pub IsBadRule : Setting → TokenLine → ℕ → Type 0
IsBadRule s l place = (Breaks l place × (has_template (take place l.tokens) ≡ false)) ⊎ (IsSecondStart s l place ⊎ (IsTerminalStart s l place ⊎ IsTerminalLeft s l place))
