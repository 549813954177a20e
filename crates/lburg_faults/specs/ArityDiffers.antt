-- ArityDiffers: a terminal is used with another number of operands than at its first use. It stands at the last token of the
-- use's own tree.
use Rattle.std.specs.Prelude.{◌≢◌, ℕ, List, [], ◌∷◌, ◌++◌}
use Rattle.lburg_lines.specs.Sections.{TokenLine}
use Rattle.lburg_faults.specs.Terminals.{Among}
use Rattle.lburg_faults.specs.Uses.{IsUse, IsFirstUse}
use Rattle.lburg_faults.specs.Setting.{Setting}

abbrev pub IsArityDiffers : Setting → TokenLine → ℕ → Type 0
IsArityDiffers s l place =
    (name : List ℕ) × (at operands first : ℕ) × Among name s.terminals × IsUse l at place name operands × IsFirstUse (s.before ++ l ∷ []) name first × (operands ≢ first)
