use Rattle.std.proofs.Common.{sym, subst, List, Option}
use Rattle.lburg_trees.specs.declared.known.Known.{Known}
use Rattle.lburg_trees.specs.Known.{AreKnown}
use Rattle.lburg_trees.proofs.KnownNames.{none_known, set_known}
use Rattle.lburg_trees.proofs.name_table.known_of.Goals.{in-Some, in_default}
use Rattle.lburg_trees.proofs.name_table.known_of.Goals as goal

pub loop-place-init : goal.loop-place-init
loop-place-init c = none_known c.args.terminals.now 512

pub loop-place-preserved : goal.loop-place-preserved
loop-place-preserved c =
    let terminals = c.args.terminals.now in
    let Are : List (Option Known) → Type 0 = λ z. AreKnown terminals z in
    elim c.match-known_at.branch [
      | in-Some w ↦ subst Are (sym w.table-is) (set_known terminals c.loop-place.table w.slot.result w.in-Some.known c.loop-place.invariant w.in-Some.ensures)
      | in_default w ↦ subst Are (sym w.table-is) c.loop-place.invariant
    ]
