use Rattle.std.proofs.Common.{◌≡◌, ◌++◌, drop, map, take}
use Rattle.c_units.specs.Wholes.{whole_kind}
use Rattle.c_standings.specs.StandingLists.{meant}
use Rattle.c_wholes.specs.Kinds.{with_kinds}
use Rattle.c_wholes.proofs.names.+names.Given as goal

abbrev pub invariant-name_exprs-loop-i : goal.invariant-name_exprs-loop-i
invariant-name_exprs-loop-i l = l.list ≡ map (with_kinds (whole_kind (meant l.standings) l.texts)) (take l.i l.fn.list) ++ drop l.i l.fn.list
