-- Small expressions, and one that isn't.
use Rattle.std.specs.Prelude.{◌≡◌, ◌≤◌, true, []}
use Rattle.std.proofs.Common.{refl, arith}
use Rattle.objects.specs.declared.operators.Binary.TheVariants as binary
use Rattle.c_meaning.specs.declared.core_expr.CoreKind.TheVariants as kind
use Rattle.c_meaning.specs.CoreTrees.{parts, two}
use Rattle.c_meaning.specs.Values.{CoreTree}
use Rattle.lowered_forms.specs.Handed.{Handed, low_node}
use Rattle.lowered_forms.specs.Lows.{Low}
use Rattle.lowered_forms.specs.Sizes.{IsSmall}
use Rattle.lowered_forms.proofs.examples.Samples.{context, begun, int, tree, x, y, z, read_int, number_of, assign}

-- x = x + 1, of six expressions
abbrev one_more : CoreTree
one_more = assign x (tree (kind.Binary binary.Add true) int (two (read_int x) (number_of 1)))

abbrev one_more_node : Handed
one_more_node = low_node context one_more begun

one_more_parts : parts one_more ≡ 6
one_more_parts = refl

one_more_is_small : IsSmall one_more begun one_more_node
one_more_is_small = record { nodes = omega arith; labels = omega arith; weights = omega arith }

-- x = y && z, with two blocks more and a label
abbrev both : CoreTree
both = assign x (tree kind.And int (two (read_int y) (read_int z)))

both_is_small : IsSmall both begun (low_node context both begun)
both_is_small = record { nodes = omega arith; labels = omega arith; weights = omega arith }

-- a hundred labels more for one expression
abbrev many_labels : Low
many_labels = record { pieces = []; entries = []; slots = []; labels = 100 }

abbrev few_labels : Low
few_labels = record { pieces = []; entries = []; slots = []; labels = 0 }

not_small : IsSmall x few_labels (record { node = 0; low = many_labels }) → ⊥
not_small h = let e : 100 ≤ 15 = h.labels in omega (arith, e)
