-- Where each rule of MIPS applies: as its action says.
use Rattle.std.specs.Prelude.{ℕ, List, []}
use Rattle.std.specs.List.{AllByRecursion}
use Rattle.op_forest.specs.Nodes.{Node}
use Rattle.vcode.specs.RuleSets.{Row, Applies}
use Rattle.frame_rules.specs.declared.part.Part.{Part}
use Rattle.frame_rules.specs.AppliedRules.{Applied, Inverts, discards_so, takes_constant_so, passes_constant_so, passes_register_so, loads_so, takes_name_so, adds_so, subtracts_so, multiplies_so, negates_so, hands_over_so, calls_so, returns_so, applied as applied_by}
use Rattle.mips_rules.specs.MipsRows.{lines}
use Rattle.mips_rules.specs.MipsRules.{action_at, mips_rules}

pub all_invert : AllByRecursion (Inverts lines) lines
all_invert =
    (discards_so lines [] 0, (takes_constant_so lines [] 0, (passes_constant_so lines [] 0, (passes_register_so lines [] 0, (loads_so lines [] 0, (takes_name_so lines [] 0, (adds_so lines [] 0, (subtracts_so lines [] 0, (multiplies_so lines [] 0, (negates_so lines [] 0, (hands_over_so lines [] 0, (calls_so lines [] 0, (returns_so lines [] 0, tt)))))))))))))

pub applied : (number : ℕ) (row : Row) (t : Node) (ps : List Part) (to : ℕ) (a : Applies mips_rules number row t ps to) → Applied (action_at number) row.left row.pattern t ps a.meetings
applied number row t ps to a = applied_by lines all_invert number row t ps to a
