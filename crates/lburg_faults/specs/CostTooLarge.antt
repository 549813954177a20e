-- CostTooLarge: a decimal cost is above 32,766. It stands at the line's end.
use Rattle.std.specs.Prelude.{◌≡◌, ◌<◌, ℕ, List, length}
use Rattle.lcc_text.specs.Decimal.{value_of}
use Rattle.lburg_lines.specs.declared.section.Section.TheVariants.{Rules}
use Rattle.lburg_lines.specs.Grammar.{MRule, Fixed, Ruled, IsLine}
use Rattle.lburg_lines.specs.Sections.{TokenLine}
use Rattle.lburg_faults.specs.Lines.{IsRules}

abbrev pub IsCostTooLarge : TokenLine → ℕ → Type 0
IsCostTooLarge l place =
    (r : MRule) × (digits : List ℕ) × IsRules l × IsLine Rules l.tokens (Ruled r) × (r.cost ≡ Fixed digits) × (32766 < value_of digits) × (place ≡ length l.tokens)
