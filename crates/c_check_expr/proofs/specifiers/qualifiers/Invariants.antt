use Rattle.std.proofs.Common.{◌≡◌, drop}
use Rattle.std.specs.Prelude.{bit_or}
use Rattle.c_check_expr.specs.Counted.{qualifiers_among}
use Rattle.c_check_expr.proofs.specifiers.qualifiers.Given as goal

abbrev pub invariant-loop-part : goal.invariant-loop-part
invariant-loop-part l = bit_or l.all.0 (qualifiers_among (drop l.part-index l.parts)) ≡ qualifiers_among l.parts
