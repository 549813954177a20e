-- Calls: the roots of one are together, and its value is stored in a slot at once.
use Rattle.std.specs.Prelude.{◌≡◌, refl, ℕ, pos, negsuc, [], ◌∷◌}
use Rattle.op_forest.specs.declared.op.Op.TheVariants as op
use Rattle.op_forest.specs.declared.suffix.Suffix.TheVariants.{I, P, V, B}
use Rattle.op_forest.specs.declared.sym.Sym.TheVariants as sym
use Rattle.c_types.specs.CType.{Void, basic}
use Rattle.c_meaning.specs.declared.core_expr.CoreKind.TheVariants as kind
use Rattle.c_meaning.specs.CoreTrees.{none, one, two, three}
use Rattle.c_meaning.specs.Types.{pointer_to}
use Rattle.c_meaning.specs.Values.{CoreTree}
use Rattle.dag_forest.specs.declared.kids.Kids.TheVariants.{One, Two}
use Rattle.lowered_forms.specs.Expressions.{low_e}
use Rattle.lowered_forms.specs.Straight.{roots_for, root_count}
use Rattle.lowered_forms.specs.Values.{Lowered}
use Rattle.lowered_forms.proofs.examples.Samples.{context, begun, int, pair, tree, number_of, over, slot, address, constant, root, root_with, given}

-- a pointer to the function of this name; its type isn't looked at
abbrev function : ℕ → CoreTree
function n = tree kind.Address (pointer_to int) (one (tree (kind.Function n) int none))

-- f(1, g(2))
abbrev nested : CoreTree
nested = tree (kind.Call 0) int (three (function 0) (number_of 1) (tree (kind.Call 0) int (two (function 1) (number_of 2))))

abbrev nested_lowered : Lowered
nested_lowered = low_e context nested begun

nested_entries : nested_lowered.low.entries
    ≡ constant (pos 2) ∷ root op.Arg I (One 0) ∷ slot (negsuc 11) ∷ address 1 ∷ over op.Call I (One 2) ∷ root op.Asgn I (Two 1 3) ∷ over op.Indir I (One 1)
    ∷ constant (pos 1) ∷ root op.Arg I (One 5) ∷ root op.Arg I (One 4) ∷ slot (negsuc 15) ∷ address 0 ∷ over op.Call I (One 7) ∷ root op.Asgn I (Two 6 8)
    ∷ over op.Indir I (One 6) ∷ []
nested_entries = refl

nested_value : nested_lowered.value ≡ given 9 I
nested_value = refl

nested_slots : nested_lowered.low.slots
    ≡ record { offset = negsuc 3; size = 4 } ∷ record { offset = negsuc 7; size = 4 } ∷ record { offset = negsuc 11; size = 4 } ∷ record { offset = negsuc 15; size = 4 } ∷ []
nested_slots = refl

-- two for each call, and two for each argument, at most
nested_roots : roots_for nested ≡ 10
nested_roots = refl

nested_has : root_count nested_lowered.low.entries ≡ 5
nested_has = refl

-- f(s) of a structure, which gives one: both copies are locals
abbrev of_pair : CoreTree
of_pair = tree (kind.Call 0) pair (two (function 0) (tree (kind.Object 1) pair none))

of_pair_entries : (low_e context of_pair begun).low.entries
    ≡ slot (negsuc 3) ∷ address 1 ∷ over op.Indir B (One 1) ∷ root_with op.Asgn B (Two 0 2) (sym.Block 8 4)
    ∷ slot (negsuc 7) ∷ root op.Arg P (One 3) ∷ root op.Arg P (One 0) ∷ address 0 ∷ root op.Call V (One 4) ∷ []
of_pair_entries = refl

-- a call that gives nothing is a root
nothing_given : (low_e context (tree (kind.Call 0) (basic Void) (one (function 0))) begun).low.entries ≡ address 0 ∷ root op.Call V (One 0) ∷ []
nothing_given = refl
