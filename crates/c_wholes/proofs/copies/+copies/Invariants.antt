use Rattle.std.proofs.Common.{◌≡◌, drop, length, take}
use Rattle.c_types.specs.Table.{type_at}
use Rattle.c_meaning.specs.CoreTrees.{AreIn, all_seen, cores_of}
use Rattle.c_wholes.specs.Placing.{ArePlaced}
use Rattle.c_wholes.proofs.copies.+copies.Given as goal

-- what has places so far, and that the others are as before
abbrev pub invariant-place_exprs-loop-i : goal.invariant-place_exprs-loop-i
invariant-place_exprs-loop-i l =
    record {
      placed : ArePlaced l.types l.fn.locals l.locals (all_seen (type_at l.types) (cores_of (take l.i l.fn.list))) (take l.i l.list);
      left : drop l.i l.list ≡ drop l.i l.fn.list;
      lengths : length l.list ≡ length l.fn.list;
      within : AreIn (length l.types.forms) (cores_of (drop l.i l.list));
      unvisited : goal.unvisited-place_exprs-loop-i l;
    }
