use Rattle.std.proofs.Common.{◌≡◌, ◌++◌, drop}
use Rattle.c_check_expr.specs.Counted.{classes_among}
use Rattle.c_check_expr.proofs.specifiers.classes.Given as goal

abbrev pub invariant-loop-part : goal.invariant-loop-part
invariant-loop-part l = l.all ++ classes_among (drop l.part-index l.parts) ≡ classes_among l.parts
