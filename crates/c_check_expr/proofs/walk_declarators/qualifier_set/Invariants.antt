use Rattle.std.proofs.Common.{◌≡◌, drop}
use Rattle.std.specs.Prelude.{bit_or}
use Rattle.c_meaning.specs.TypeRows.{qualifiers_among}
use Rattle.c_check_expr.proofs.walk_declarators.qualifier_set.Given as goal

-- with those behind it is the whole set
abbrev pub invariant-loop-qualifier : goal.invariant-loop-qualifier
invariant-loop-qualifier l = bit_or l.set.0 (qualifiers_among (drop l.qualifier-index l.list)) ≡ qualifiers_among l.list
