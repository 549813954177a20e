-- The rules of MIPS keep the laws of a rule set on its machine.
use Rattle.std.specs.Prelude.{◌≡◌, true, refl}
use Rattle.std.specs.List.{AllByRecursion}
use Rattle.vcode.specs.Patterns.{is_ordered}
use Rattle.vcode.specs.RuleSets.{Obeys}
use Rattle.frame_rules.specs.FrameObeys.{frame_obeys}
use Rattle.mips_rules.specs.Losses.{mips_losses}
use Rattle.mips_rules.specs.Mips.{mips}
use Rattle.mips_rules.specs.MipsRows.{lines}
use Rattle.mips_rules.specs.MipsRules.{mips_rules}
use Rattle.mips_rules.specs.AppliedRules.{all_invert}

-- no pattern has an operator below its root
pub all_ordered : AllByRecursion (λ l. is_ordered l.row.pattern ≡ true) lines
all_ordered = (refl, (refl, (refl, (refl, (refl, (refl, (refl, (refl, (refl, (refl, (refl, (refl, (refl, tt)))))))))))))

abbrev pub mips_obeys : Obeys mips mips_rules
mips_obeys = frame_obeys mips_losses 29 lines all_invert all_ordered
