-- CostForm: the rest of a rule's line, behind its template, isn't a cost.
use Rattle.std.specs.Prelude.{◌≡◌, ℕ, true, take}
use Rattle.lburg_lines.specs.Sections.{TokenLine}
use Rattle.lburg_faults.specs.Lines.{has_template}
use Rattle.lburg_faults.specs.Breaks.{Breaks}

abbrev pub IsCostForm : TokenLine → ℕ → Type 0
IsCostForm l place = Breaks l place × (has_template (take place l.tokens) ≡ true)
