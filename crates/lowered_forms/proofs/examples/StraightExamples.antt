-- Straight expressions, and the nodes and roots that they become.
use Rattle.std.specs.Prelude.{◌≡◌, refl, pos, negsuc, true, false, Some, None, [], ◌∷◌}
use Rattle.c_types.specs.CType.{Array, basic, Unsigned}
use Rattle.c_meaning.specs.Types.{pointer_to}
use Rattle.c_meaning.specs.declared.core_expr.Change.TheVariants as change
use Rattle.op_forest.specs.declared.sym.Sym.TheVariants as sym
use Rattle.objects.specs.declared.operators.Binary.TheVariants as binary
use Rattle.op_forest.specs.declared.op.Op.TheVariants as op
use Rattle.op_forest.specs.declared.suffix.Suffix.TheVariants.{I, U, P, B}
use Rattle.c_meaning.specs.declared.core_expr.CoreKind.TheVariants as kind
use Rattle.c_meaning.specs.CoreTrees.{none, one, two}
use Rattle.c_meaning.specs.Values.{CoreTree}
use Rattle.dag_forest.specs.declared.kids.Kids.TheVariants.{Zero, One, Two}
use Rattle.lowered_forms.specs.Expressions.{low_e}
use Rattle.lowered_forms.specs.Handed.{low_node}
use Rattle.lowered_forms.specs.Straight.{straight, roots_for}
use Rattle.lowered_forms.specs.Values.{Lowered}
use Rattle.lowered_forms.proofs.examples.Samples.{context, begun, int, tree, x, y, i, pair, read_int, number_of, assign, node, over, slot, address, constant, root, root_with, given}

-- x = x + 1
abbrev one_more : CoreTree
one_more = assign x (tree (kind.Binary binary.Add true) int (two (read_int x) (number_of 1)))

abbrev one_more_lowered : Lowered
one_more_lowered = low_e context one_more begun

one_more_entries : one_more_lowered.low.entries
    ≡ address 0 ∷ over op.Indir I (One 0) ∷ constant (pos 1) ∷ over op.Add I (Two 1 2) ∷ root op.Asgn I (Two 0 3) ∷ []
one_more_entries = refl

one_more_value : one_more_lowered.value ≡ given 3 I
one_more_value = refl

one_more_pieces : one_more_lowered.low.pieces ≡ []
one_more_pieces = refl

one_more_is_straight : straight one_more ≡ true
one_more_is_straight = refl

one_more_root : roots_for one_more ≡ 1
one_more_root = refl

-- y = x + x: x is read once
doubled : (low_e context (assign y (tree (kind.Binary binary.Add true) int (two (read_int x) (read_int x)))) begun).low.entries
    ≡ address 0 ∷ over op.Indir I (One 0) ∷ over op.Add I (Two 1 1) ∷ address 1 ∷ root op.Asgn I (Two 3 2) ∷ []
doubled = refl

-- ---- places

-- a[i] = y, where a is the object of the name 0, and i a local
abbrev element : CoreTree
element = tree kind.Pointed int (one (tree (kind.Move 4 false) (pointer_to int) (two (tree kind.First (pointer_to int) (one (tree (kind.Object 0) (Array int (Some 8)) none))) (read_int i))))

element_assigned : (low_e context (assign element (read_int y)) begun).low.entries
    ≡ slot (negsuc 3) ∷ over op.Indir I (One 0) ∷ address 0 ∷ constant (pos 2) ∷ over op.Lsh I (Two 1 3) ∷ over op.Add P (Two 2 4) ∷ address 1 ∷ over op.Indir I (One 6)
    ∷ root op.Asgn I (Two 5 7) ∷ []
element_assigned = refl

-- p->f += 2, where p is the object of the name 0, and f a bit-field of 5 bits above the 3 lowest of the unit 4 bytes behind
abbrev field_changed : CoreTree
field_changed =
    tree (kind.Change (change.Arithmetic binary.Add true)) int
    (two (tree (kind.Member 4 3 5) int (one (tree kind.Pointed pair (one (tree kind.Read (pointer_to pair) (one (tree (kind.Object 0) (pointer_to pair) none))))))) (number_of 2))

field_changed_entries : (low_e context field_changed begun).low.entries
    ≡ address 0 ∷ over op.Indir P (One 0) ∷ constant (pos 4) ∷ over op.Add P (Two 1 2)
    ∷ over op.Indir I (One 3) ∷ constant (pos 24) ∷ over op.Lsh I (Two 4 5) ∷ constant (pos 27) ∷ over op.Rsh I (Two 6 7)
    ∷ constant (pos 2) ∷ over op.Add I (Two 8 9) ∷ over op.Lsh I (Two 10 7) ∷ over op.Rsh I (Two 11 7)
    ∷ over op.Indir P (One 3) ∷ over op.Cvp U (One 13) ∷ node op.Cnst U Zero sym.Nothing (Some (pos 4294967047)) ∷ over op.Band U (Two 14 15)
    ∷ over op.Cvi U (One 11) ∷ over op.Rsh U (Two 17 5) ∷ over op.Bor U (Two 16 18) ∷ over op.Cvu I (One 19) ∷ root op.Asgn I (Two 3 20) ∷ []
field_changed_entries = refl

field_changed_value : (low_e context field_changed begun).value ≡ given 12 I
field_changed_value = refl

-- x = y, two structures of 8 bytes
abbrev pair_assigned : CoreTree
pair_assigned = tree kind.Assign pair (two (tree (kind.Object 0) pair none) (tree (kind.Object 1) pair none))

pair_assigned_entries : (low_e context pair_assigned begun).low.entries
    ≡ address 0 ∷ address 1 ∷ over op.Indir B (One 1) ∷ root_with op.Asgn B (Two 0 2) (sym.Block 8 4) ∷ []
pair_assigned_entries = refl

-- a member of a structure with a name: so many bytes behind the name
member_read : (low_e context (read_int (tree (kind.Member 4 0 0) int (one (tree (kind.Object 0) pair none)))) begun).low.entries
    ≡ node op.Addrg P Zero (sym.Global 0 (pos 4)) None ∷ over op.Indir I (One 0) ∷ []
member_read = refl

-- i++ gives what i was
abbrev increment : CoreTree
increment = tree (kind.Postfix (change.Arithmetic binary.Add true)) int (two i (number_of 1))

increment_entries : (low_e context increment begun).low.entries
    ≡ slot (negsuc 3) ∷ over op.Indir I (One 0) ∷ constant (pos 1) ∷ over op.Add I (Two 1 2) ∷ root op.Asgn I (Two 0 3) ∷ []
increment_entries = refl

increment_value : (low_e context increment begun).value ≡ given 1 I
increment_value = refl

-- ---- nodes that are handed on

-- an unsigned value as one of suffix I; a constant becomes a node
constant_handed : (low_node context (tree (kind.Number 5) (basic Unsigned) none) begun).low.entries ≡ node op.Cnst U Zero sym.Nothing (Some (pos 5)) ∷ over op.Cvu I (One 0) ∷ []
constant_handed = refl

constant_node : (low_node context (tree (kind.Number 5) (basic Unsigned) none) begun).node ≡ 1
constant_node = refl
