use Rattle.std.proofs.Common.{◌≡◌, drop}
use Rattle.c_check_expr.specs.Counted.{first_whole}
use Rattle.c_check_expr.proofs.specifiers.first_whole.Given as goal

abbrev pub invariant-loop-part : goal.invariant-loop-part
invariant-loop-part l = first_whole (drop l.part-index l.parts) ≡ first_whole l.parts
