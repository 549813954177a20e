-- A rule applies at a node that is known.
use Rattle.std.specs.Prelude.{◌≡◌, ℕ, ◌+◌, ◌||◌, not, true, Some, List, slice_get}
use Rattle.std.proofs.Common.{subst, sym, refl, arith}
use Rattle.op_forest.specs.Nodes.{Node}
use Rattle.vcode.specs.VirtualCode.{among}
use Rattle.vcode.specs.Patterns.{Meeting, leaves_at, is_chain}
use Rattle.vcode.specs.RuleSets.{Row, InRange, all_registers, AllHand, Applies}
use Rattle.frame_rules.specs.declared.part.Part.{Part}
use Rattle.mips_rules.specs.MipsRows.{rows}
use Rattle.mips_rules.specs.MipsRules.{mips_rules}

-- the node, and what it is known to be; the row at the place, and what its nonterminals meet
pub applies_at : (place : ℕ) (t u : Node) (ps : List Part) (row : Row) (ms : List Meeting) → t ≡ u → slice_get rows place ≡ Some row → leaves_at row.pattern u ≡ Some ms → AllHand mips_rules ms ps → InRange 100 (all_registers mips_rules ps) → (is_chain row.pattern || not (among 64 (all_registers mips_rules ps))) ≡ true → (r : Row) × Applies mips_rules (place + 1) r t ps 64
applies_at place t u ps row ms e at fits hand range new =
    subst (λ x. (r : Row) × Applies mips_rules (place + 1) r x ps 64) (sym e)
    (row, record { place = place; number_is = refl; row_is = at; meetings = ms; fits = fits; hand = hand; to_virtual = omega arith; limit = 100; parts_virtual = range; new = new })
