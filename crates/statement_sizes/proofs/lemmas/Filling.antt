-- What initialisers take: a slot and a label for a loop that clears, and what the values take.
use Rattle.std.specs.Prelude.{◌≤◌, ℕ, zero, suc, ◌+◌, ◌-◌, ◌*◌, ◌/◌, ◌%◌, min, ℤ, pos, nat_le, Bool, true, false, Option, Some, None, List, [], ◌∷◌, length, get_or, slice_get}
use Rattle.std.proofs.Common.{arith}
use Rattle.objects.specs.declared.operators.Binary.TheVariants as binary
use Rattle.objects.specs.declared.operators.Comparison.TheVariants as comparison
use Rattle.objects.specs.declared.width.Width.{Width}
use Rattle.objects.specs.declared.width.Width.TheVariants.{One, Four}
use Rattle.objects.specs.Values.{bytes_in}
use Rattle.op_forest.specs.declared.suffix.Suffix.TheVariants.{I}
use Rattle.c_types.specs.CType.{CType, Array}
use Rattle.c_meaning.specs.declared.core_expr.CoreKind.{CoreKind}
use Rattle.c_meaning.specs.declared.core_expr.CoreKind.TheVariants as kind
use Rattle.c_meaning.specs.CoreTrees.{Core, parts, what_of}
use Rattle.c_meaning.specs.StmtTrees.{FilledOf}
use Rattle.c_meaning.specs.Types.{is_array, is_record}
use Rattle.c_meaning.specs.Values.{CoreTree}
use Rattle.c_runs.specs.Places.{size_of, align_of, spot_filled, is_field}
use Rattle.c_rows_agree.specs.Integers.{number, binary_of, compared}
use Rattle.c_rows_agree.specs.Places.{stored_as}
use Rattle.c_rows_agree.specs.Typed.{Typed}
use Rattle.c_pointers_agree.specs.Pointers.{name, moved}
use Rattle.lowering_limits.specs.Nodes.{filled_nodes}
use Rattle.lowered_forms.specs.Accesses.{copy_root, written_by}
use Rattle.lowered_forms.specs.Contexts.{Context, text_name}
use Rattle.lowered_forms.specs.Expressions.{low_e, low_test}
use Rattle.lowered_forms.specs.Lows.{Low, acted, marked, with_label, with_slot, slot_offset}
use Rattle.lowered_forms.specs.Places.{further, local_place}
use Rattle.lowered_forms.specs.Values.{slot_read, stored_in}
use Rattle.lowered_statements.specs.Functions.{Function}
use Rattle.lowered_statements.specs.Initialisers.{part_at, text_copied, text_filled, filled_by, filled, all_filled, zeroed_whole, initialised_as, initialised}
use Rattle.lowered_statements.specs.Zeroing.{zeroed_at, zeroed_each, zeroed_next, zeroed_up_to, zeroed_in_turn, zeroed_by, zeroed}
use Rattle.lowered_sizes.proofs.lemmas.Counting.{branched_counts, stored_counts}
use Rattle.lowered_sizes.proofs.lemmas.CountedExpressions.{slots_for, slots_are, value_counts, test_counts}
use Rattle.lowered_sizes.proofs.lemmas.Taking.{Takes, takes_counts, joined, at_most}

-- ---- expressions and tests

pub some_parts : (c : CoreTree) → 1 ≤ parts c
some_parts (Core what of line kids) = omega arith

pub value_takes : (s : Context) (e : CoreTree) (l : Low) → Takes (slots_for e) (2 * parts e) l (low_e s e l).low
value_takes s e l = value_counts Takes takes_counts s e l

pub test_takes : (s : Context) (e : CoreTree) (n : ℕ) (when : Bool) (l : Low) → Takes (2 * parts e) (2 * parts e) l (low_test s e n when l)
test_takes s e n when l = let d = slots_are e in at_most (2 * parts e) (2 * parts e) (test_counts Takes takes_counts s e n when l) (omega (arith, d)) (omega arith)

pub stored_takes : (z : ℤ) (v : Typed) (l : Low) → Takes 0 0 l (stored_in z v l)
stored_takes z v l = stored_counts Takes takes_counts z v l

-- nothing, against what is allowed
pub allowed : (m n : ℕ) (a b : Low) → Takes 0 0 a b → Takes m n a b
allowed m n a b h = at_most m n h (omega arith) (omega arith)

-- ---- zeros

each_takes : (base : Typed) (w : Width) (from n : ℕ) (l : Low) → Takes 0 0 l (zeroed_each base w from n l)
each_takes base w from zero l = takes_counts.same l
each_takes base w from (suc n) l = joined (takes_counts.acts (stored_as w (further true from base) (number true 0)) l) (each_takes base w (from + bytes_in w) n (zeroed_at base w from l))

next_takes : (base : Typed) (w : Width) (z : ℤ) (l : Low) → Takes 0 0 l (zeroed_next base w z l)
next_takes base w z l =
    let r = stored_as w (moved 1 false base (slot_read I z)) (number true 0) in
    joined (takes_counts.acts r l) (stored_takes z (binary_of binary.Add true (slot_read I z) (number true (bytes_in w))) (acted r l))

up_to_takes : (base : Typed) (w : Width) (to : ℕ) (z : ℤ) (top : ℕ) (l : Low) → Takes 0 0 l (zeroed_up_to base w to z top l)
up_to_takes base w to z top l =
    joined (takes_counts.marks top l)
    (joined (next_takes base w z (marked top l)) (branched_counts Takes takes_counts (compared comparison.Less true true top (slot_read I z) (number true to)) (zeroed_next base w z (marked top l))))

in_turn_takes : (base : Typed) (w : Width) (from to : ℕ) (l : Low) → Takes 1 1 l (zeroed_in_turn base w from to l)
in_turn_takes base w from to l =
    let l1 = with_slot l in
    let l2 = stored_in (slot_offset l) (number true from) l1 in
    joined (takes_counts.slot l) (joined (stored_takes (slot_offset l) (number true from) l1) (joined (takes_counts.label l2) (up_to_takes base w to (slot_offset l) l.labels (with_label l2))))

zeroed_by_takes : (few : Bool) (base : Typed) (w : Width) (from n : ℕ) (l : Low) → Takes 1 1 l (zeroed_by few base w from n l)
zeroed_by_takes true base w from n l = allowed 1 1 l _ (each_takes base w from n l)
zeroed_by_takes false base w from n l = in_turn_takes base w from (from + n * bytes_in w) l

zeroed_takes : (base : Typed) (w : Width) (from n : ℕ) (l : Low) → Takes 1 1 l (zeroed base w from n l)
zeroed_takes base w from n l = zeroed_by_takes (nat_le n 4) base w from n l

-- ---- initialisers

text_copied_takes : (base text : Typed) (offset bytes room : ℕ) (l : Low) → Takes 1 1 l (text_copied base text offset bytes room l)
text_copied_takes base text offset bytes room l =
    let r = copy_root bytes 1 (part_at room offset base) text in
    joined (takes_counts.acts r l) (zeroed_takes base One (offset + bytes) (room - bytes) (acted r l))

text_takes : (f : Function) (base : Typed) (offset : ℕ) (of : CType) (what : CoreKind) (l : Low) → Takes 1 1 l (text_filled f base offset of what l)
text_takes f base offset (Array of (Some room)) (kind.Text n) l =
    text_copied_takes base (name (text_name f.context.unit n) (pos 0)) offset (min room (length (get_or f.context.unit.texts n []) + 1)) room l
text_takes f base offset of what l = allowed 1 1 l l (takes_counts.same l)

filled_by_takes : (array whole : Bool) (f : Function) (base : Typed) (p : FilledOf CType) (v : Typed) (l : Low) → Takes 1 1 l (filled_by array whole f base p v l)
filled_by_takes true whole f base p v l = text_takes f base p.offset p.of (what_of p.value) l
filled_by_takes false true f base p v l = allowed 1 1 l _ (takes_counts.acts (copy_root (size_of f.context.unit.tags p.of) (align_of f.context.unit.tags p.of) (part_at (size_of f.context.unit.tags p.of) p.offset base) v) l)
filled_by_takes false false f base p v l = allowed 1 1 l _ (takes_counts.acts (written_by (is_field (spot_filled p)) false f.context.order (spot_filled p) (further true p.offset base) v) l)

filled_takes : (f : Function) (base : Typed) (p : FilledOf CType) (l : Low) → Takes (2 * parts p.value) (3 * parts p.value) l (filled f base p l)
filled_takes f base p l =
    let r = low_e f.context p.value l in
    let d = slots_are p.value in
    let e = some_parts p.value in
    at_most (2 * parts p.value) (3 * parts p.value) (joined (value_takes f.context p.value l) (filled_by_takes (is_array p.of) (is_record p.of) f base p r.value r.low)) (omega (arith, d)) (omega (arith, e))

all_filled_takes : (f : Function) (base : Typed) (ps : List (FilledOf CType)) (l : Low) → Takes (2 * filled_nodes ps) (3 * filled_nodes ps) l (all_filled f base ps l)
all_filled_takes f base [] l = takes_counts.same l
all_filled_takes f base (p ∷ ps) l =
    at_most (2 * filled_nodes (p ∷ ps)) (3 * filled_nodes (p ∷ ps)) (joined (filled_takes f base p l) (all_filled_takes f base ps (filled f base p l))) (omega arith) (omega arith)

whole_takes : (clears : Bool) (base : Typed) (size : ℕ) (l : Low) → Takes 1 1 l (zeroed_whole clears base size l)
whole_takes true base size l =
    let l1 = zeroed base Four 0 (size / 4) l in
    joined (zeroed_takes base Four 0 (size / 4) l) (each_takes base One (4 * (size / 4)) (size % 4) l1)
whole_takes false base size l = allowed 1 1 l l (takes_counts.same l)

initialised_as_takes : (f : Function) (n : ℕ) (of : Option CType) (clears : Bool) (ps : List (FilledOf CType)) (l : Low) → Takes (1 + 2 * filled_nodes ps) (1 + 3 * filled_nodes ps) l (initialised_as f n of clears ps l)
initialised_as_takes f n None clears ps l = allowed (1 + 2 * filled_nodes ps) (1 + 3 * filled_nodes ps) l l (takes_counts.same l)
initialised_as_takes f n (Some of) clears ps l =
    let base = local_place f.context n of in
    let size = size_of f.context.unit.tags of in
    joined (whole_takes clears base size l) (all_filled_takes f base ps (zeroed_whole clears base size l))

pub initialised_takes : (f : Function) (n : ℕ) (clears : Bool) (ps : List (FilledOf CType)) (l : Low) → Takes (1 + 2 * filled_nodes ps) (1 + 3 * filled_nodes ps) l (initialised f n clears ps l)
initialised_takes f n clears ps l = initialised_as_takes f n (slice_get f.locals n) clears ps l
