use Rattle.std.proofs.Common.{◌≡◌, drop}
use Rattle.c_check_expr.specs.Counted.{has_float}
use Rattle.c_check_expr.proofs.specifiers.has_floating.Given as goal

abbrev pub invariant-loop-part : goal.invariant-loop-part
invariant-loop-part l = has_float (drop l.part-index l.parts) ≡ has_float l.parts
