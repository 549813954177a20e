-- Where a line breaks the grammar of its section: at the first token that can't go on, or at the line's end where one is
-- missing.
use Rattle.std.specs.Prelude.{◌≡◌, ℕ, List, length}
use Rattle.lcc_text.specs.Stops.{StopsAt}
use Rattle.lburg_lines.specs.Tokens.{Tok}
use Rattle.lburg_lines.specs.Grammar.{AreLineOf}
use Rattle.lburg_lines.specs.Sections.{TokenLine}

abbrev pub Breaks : TokenLine → ℕ → Type 0
Breaks l place = (rest : List Tok) × (s : StopsAt (AreLineOf l.section) l.tokens rest) × (length s.front ≡ place)
