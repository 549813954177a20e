use Rattle.std.proofs.Common.{◌≡◌, ◌<◌, ℕ, Some, map}
use Rattle.std.specs.Prelude.{slice_get}
use Rattle.lcc_text.specs.Names.{bytes_of}
use Rattle.lburg_lines.specs.Grammar.{MRule, rule_of}
use Rattle.lburg_faults.specs.Ruling.{AreLeavesNamed}
use Rattle.lburg_faults.proofs.unruled.first_unruled.Given as goal

abbrev pub invariant-loop-i : goal.invariant-loop-i
invariant-loop-i l = (j : ℕ) (r : MRule) → j < l.i → slice_get (map rule_of l.rules) j ≡ Some r → AreLeavesNamed (bytes_of l.terminals) (bytes_of l.lefts) r.tree
