use Rattle.std.proofs.Common.{◌≡◌, ◌++◌, drop, length, map}
use Rattle.c_types.specs.Table.{type_at, AreBelow}
use Rattle.c_meaning.specs.Copies.{all_copied}
use Rattle.c_meaning.specs.CoreTrees.{AreIn, all_seen, cores_of}
use Rattle.c_wholes.proofs.copies.push_arguments.Given as goal

-- what is copied so far, and what those that are left are
abbrev pub invariant-loop-a : goal.invariant-loop-a
invariant-loop-a l =
    record {
      copied : map (type_at l.types) l.locals ++ all_copied (all_seen (type_at l.types) (cores_of (drop l.a-index l.arguments))) ≡ map (type_at l.types) l.fn.locals ++ all_copied (all_seen (type_at l.types) (cores_of l.arguments));
      locals : AreBelow (length l.types.forms) l.locals;
      behind : AreIn (length l.types.forms) (cores_of (drop l.a-index l.arguments));
    }
