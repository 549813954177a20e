-- Counts of small functions, and how deep runs go.
use Rattle.std.specs.Prelude.{◌≡◌, refl, ◌+◌, ◌*◌, codes, false, Some, [], ◌∷◌}
use Rattle.lcc_base.specs.declared.order.Order.TheVariants.{Little}
use Rattle.objects.specs.declared.operators.Binary.TheVariants as binary
use Rattle.c_types.specs.CType.{CType, Plain, Structure}
use Rattle.c_types.specs.Layout.{Tag}
use Rattle.c_meaning.specs.Units.{FunctionTree, UnitTree}
use Rattle.c_runs.specs.Below.{below}
use Rattle.c_runs.specs.Run.{calls_below, call, context, run_tree}
use Rattle.c_runs.specs.Counts.{node_count, frame_count, data_count}
use Rattle.c_runs.specs.Room.{frame_room, code_room, data_room, room, depth}
use Rattle.c_runs.specs.Samples.{int, char, array, of_types, pair, pair_tag, number, local, var, binary, call_at, act, give, defined, main, static, unit}

-- int f(int n) { return n + 1; }: a parameter, the block, the return, the sum, the read, its place, the number
abbrev next : FunctionTree
next = defined (codes "f") (of_types int (int ∷ [])) 1 (int ∷ []) (give (binary 1 binary.Add (var 1 0) (number 1 1)) ∷ [])

nodes : node_count next ≡ 7
nodes = refl

-- its parameter is none of its frame's objects
no_frame : frame_count (pair_tag ∷ []) next ≡ 0
no_frame = refl

its_room : (frame_room (pair_tag ∷ []) next ≡ 704) × (code_room next ≡ 3840)
its_room = (refl, refl)

-- char a[3]; struct s x; g(x); of struct s g(struct s p): an array in 8 bytes, x, the copies that are passed and given
abbrev of_pair : CType
of_pair = of_types pair (pair ∷ [])

abbrev copying : FunctionTree
copying = main (array char 3 ∷ pair ∷ pair ∷ pair ∷ []) (act (call_at 2 1 of_pair pair 1 (local 1 pair 1 ∷ [])) ∷ [])

frame : frame_count (pair_tag ∷ []) copying ≡ 32
frame = refl

-- struct { int : 0; } a, b; have no byte, but places of their own
abbrev empty_tag : Tag
empty_tag = record { number = 0; is_union = false; members = record { name = []; of = int; width = Some 0 } ∷ [] }

empty_frame : frame_count (empty_tag ∷ []) (main (Plain 0 (Structure 0) ∷ Plain 0 (Structure 0) ∷ []) []) ≡ 16
empty_frame = refl

-- struct s g(struct s p) { return p; }
abbrev given : FunctionTree
given = defined (codes "g") of_pair 1 (pair ∷ []) (give (local 1 pair 0) ∷ [])

-- char b[9]; and "ab", each in a multiple of 8 bytes
abbrev copies : UnitTree
copies = unit (copying ∷ given ∷ []) (static (codes "b") (array char 9) [] ∷ []) (codes "ab" ∷ [])

statics : data_count copies ≡ 24
statics = refl

all_data : data_room copies ≡ 24 + (32 + 64 * node_count copying) + (0 + 64 * node_count given)
all_data = refl

-- both calls are open at one moment
both_open : depth copies (run_tree copies Little [] 1) ≡ room copies 0 + room copies 1
unfolding context call calls_below below
both_open = refl

-- without a turn main alone is
pub main_alone : depth copies (run_tree copies Little [] 0) ≡ room copies 0
unfolding context call calls_below below
main_alone = refl
