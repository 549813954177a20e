-- What falls in the lowering: the parts of the expression, and with the same expression the rank of the function; and what its loops keep.
use Rattle.std.proofs.Common.{◌+◌, ◌*◌, drop}
use Rattle.c_meaning.specs.CoreTrees.{kids_of, parts, type_of, what_of}
use Rattle.lowering_acts.specs.Sites.{context_of, type_in}
use Rattle.c_lower_expr.proofs.lemmas.Calling.{CallGoing}
use Rattle.c_lower_expr.proofs.lemmas.Commas.{CommaGoing}
use Rattle.c_lower_expr.proofs.+lowering.Given as goal

abbrev pub decreases-values::value : goal.decreases-values::value
decreases-values::value l = 8 * parts l.e.now + 5

abbrev pub decreases-values::plain : goal.decreases-values::plain
decreases-values::plain l = 8 * parts l.e.now + 2

abbrev pub decreases-values::with_one : goal.decreases-values::with_one
decreases-values::with_one l = 8 * parts l.e.now + 1

abbrev pub decreases-values::with_two : goal.decreases-values::with_two
decreases-values::with_two l = 8 * parts l.e.now + 1

abbrev pub decreases-values::operands : goal.decreases-values::operands
decreases-values::operands l = 8 * (parts l.a.now + parts l.b.now) + 6

abbrev pub decreases-values::comma : goal.decreases-values::comma
decreases-values::comma l = 8 * parts l.e.now + 1

abbrev pub decreases-tests::test : goal.decreases-tests::test
decreases-tests::test l = 8 * parts l.e.now + 5

abbrev pub decreases-tests::tested : goal.decreases-tests::tested
decreases-tests::tested l = 8 * parts l.e.now + 3

abbrev pub decreases-tests::by_parts : goal.decreases-tests::by_parts
decreases-tests::by_parts l = 8 * parts l.e.now + 2

abbrev pub decreases-tests::connected : goal.decreases-tests::connected
decreases-tests::connected l = 8 * parts l.e.now + 1

abbrev pub decreases-tests::in_turn : goal.decreases-tests::in_turn
decreases-tests::in_turn l = 8 * (parts l.a.now + parts l.b.now) + 6

abbrev pub decreases-tests::past : goal.decreases-tests::past
decreases-tests::past l = 8 * (parts l.parts.0.now + parts l.parts.1.now) + 6

abbrev pub decreases-tests::truth : goal.decreases-tests::truth
decreases-tests::truth l = 8 * parts l.e.now + 3

abbrev pub decreases-ways::conditional : goal.decreases-ways::conditional
decreases-ways::conditional l = 8 * parts l.e.now + 1

abbrev pub decreases-ways::way : goal.decreases-ways::way
decreases-ways::way l = 8 * parts l.e.now + 6

abbrev pub decreases-calls::call : goal.decreases-calls::call
decreases-calls::call l = 8 * parts l.e.now + 1

abbrev pub decreases-calls::argument : goal.decreases-calls::argument
decreases-calls::argument l = 8 * parts l.a.now + 6

-- ---- loops

abbrev pub invariant-values::comma-loop-part : goal.invariant-values::comma-loop-part
invariant-values::comma-loop-part l =
    CommaGoing (context_of l.fn.site) (type_in l.fn.site) (what_of l.fn.e) (type_in l.fn.site (type_of l.fn.e)) (kids_of l.fn.e) l.fn.into l.fn.marks (drop l.part-index l.rest) l.last l.into l.marks

abbrev pub invariant-calls::call-loop-a : goal.invariant-calls::call-loop-a
invariant-calls::call-loop-a l =
    CallGoing (context_of l.fn.site) (type_in l.fn.site) l.fn.copies (kids_of l.fn.e) l.fn.into l.fn.marks (drop l.a-index l.arguments) l.into l.marks l.passed.values.items l.passed.next
