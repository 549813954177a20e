-- DoubleTerminal: a terminal's name or number is declared again. It stands at the name or the number; numbers are compared by value.
use Rattle.std.specs.Prelude.{◌≡◌, ◌⊎◌, ℕ, Some, List, slice_get}
use Rattle.lcc_text.specs.Decimal.{value_of}
use Rattle.lburg_lines.specs.Tokens.{Tok, Word, Number}
use Rattle.lburg_lines.specs.Sections.{TokenLine}
use Rattle.lburg_faults.specs.Lines.{Terms}
use Rattle.lburg_faults.specs.Terminals.{Among, declared_before, names_of, numbers_of}
use Rattle.lburg_faults.specs.Setting.{Setting}

abbrev pub IsDoubleName : Setting → TokenLine → ℕ → Type 0
IsDoubleName s l place = (name : List ℕ) × (slice_get l.tokens place ≡ Some (Word name)) × Among name (names_of (declared_before s.before l place))

abbrev pub IsDoubleNumber : Setting → TokenLine → ℕ → Type 0
IsDoubleNumber s l place = (digits : List ℕ) × (slice_get l.tokens place ≡ Some (Number digits)) × Among (value_of digits) (numbers_of (declared_before s.before l place))

abbrev pub IsDoubleTerminal : Setting → TokenLine → ℕ → Type 0
IsDoubleTerminal s l place = (tokens : List Tok) × Terms l tokens × (IsDoubleName s l place ⊎ IsDoubleNumber s l place)
