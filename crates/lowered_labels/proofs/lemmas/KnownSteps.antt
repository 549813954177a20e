-- Steps of bodies that keep blocks and labels known: roots, labels, zeros, initialisers and returns.
use Rattle.std.specs.Prelude.{◌<◌, ℕ, zero, suc, ◌+◌, ◌-◌, ◌*◌, ◌/◌, ◌%◌, min, nat_le, nat_lt, ℤ, pos, Bool, true, false, Option, Some, None, List, [], ◌∷◌, length, get_or, slice_get}
use Rattle.std.proofs.Common.{arith}
use Rattle.objects.specs.declared.operators.Binary.TheVariants as binary
use Rattle.objects.specs.declared.operators.Comparison.TheVariants as comparison
use Rattle.objects.specs.declared.width.Width.{Width}
use Rattle.objects.specs.declared.width.Width.TheVariants.{One, Two, Four}
use Rattle.objects.specs.Values.{bytes_in}
use Rattle.op_forest.specs.declared.suffix.Suffix.TheVariants.{I}
use Rattle.op_forest.specs.Nodes.{Head}
use Rattle.c_types.specs.CType.{CType, Array}
use Rattle.c_meaning.specs.declared.core_expr.CoreKind.{CoreKind}
use Rattle.c_meaning.specs.declared.core_expr.CoreKind.TheVariants as kind
use Rattle.c_meaning.specs.CoreTrees.{what_of}
use Rattle.c_meaning.specs.StmtTrees.{FilledOf}
use Rattle.c_meaning.specs.Types.{is_array, is_record}
use Rattle.c_runs.specs.Places.{size_of, align_of, spot_filled, is_field}
use Rattle.c_rows_agree.specs.Integers.{number, binary_of, compared}
use Rattle.c_rows_agree.specs.Places.{stored_as, stored_by}
use Rattle.c_rows_agree.specs.Templates.{Template, Root}
use Rattle.c_rows_agree.specs.Typed.{Typed, as_p}
use Rattle.c_pointers_agree.specs.Pointers.{local, name, moved}
use Rattle.lowered_forms.specs.Accesses.{copy_root, written_by}
use Rattle.lowered_forms.specs.Blocks.{IsWithin}
use Rattle.lowered_forms.specs.Contexts.{text_name}
use Rattle.lowered_forms.specs.Expressions.{low_e}
use Rattle.lowered_forms.specs.Lows.{Low, acted, acted_one, branched, ended, jumped, marked, with_label, with_slot, slot_offset}
use Rattle.lowered_forms.specs.Places.{further, is_passed_whole, local_place}
use Rattle.lowered_forms.specs.Values.{slot_read, stored_in}
use Rattle.lowered_forms.proofs.lemmas.Blocks.{rooted_there, rooted_one_there}
use Rattle.lowered_forms.proofs.lemmas.NodesOf.{values_have_nodes}
use Rattle.lowered_forms.proofs.lemmas.Pending.{nodes, empty_block}
use Rattle.lowered_forms.proofs.lemmas.WithinTemplates as within
use Rattle.lowered_blocks.specs.Known.{IsNoLabel, IsKnown}
use Rattle.lowered_blocks.proofs.lemmas.ExpressionNames.{compared_names, expressions_keep_known, value_knows}
use Rattle.lowered_blocks.proofs.lemmas.PlainRoots.{IsPlainRoot, stored_plain, written_plain, copy_plain}
use Rattle.lowered_blocks.proofs.lemmas.PlainTemplates as plain
use Rattle.lowered_blocks.proofs.lemmas.Steps.{names_of, known_by, acted_names, acted_one_names, ended_names, marked_names, jumped_names, label_names}
use Rattle.lowered_statements.specs.Functions.{Function}
use Rattle.lowered_statements.specs.Initialisers.{part_at, text_filled, filled_by, filled, all_filled, zeroed_whole, initialised_as}
use Rattle.lowered_statements.specs.Zeroing.{zeroed_at, zeroed_each, zeroed_in_turn, zeroed_by, zeroed}

-- ---- single steps

pub acted_known : (r : Root) (l : Low) → IsPlainRoot r → IsWithin (nodes l) r.left → IsWithin (nodes l) r.right → IsKnown l → IsKnown (acted r l)
acted_known r l p f g h = known_by (acted r l) (acted_names r l p (names_of l h)) (rooted_there r l.entries h.block f g).0

pub acted_one_known : (x : Head) (t : Template) (l : Low) → IsNoLabel x.operator.op → plain.IsPlainSym x.sym → plain.IsPlain t → IsWithin (nodes l) t → IsKnown l → IsKnown (acted_one x t l)
acted_one_known x t l o b p f h = known_by (acted_one x t l) (acted_one_names x t l o b p (names_of l h)) (rooted_one_there x t l.entries h.block f).0

pub ended_known : (l : Low) → IsKnown l → IsKnown (ended l)
ended_known l h = known_by (ended l) (ended_names l (names_of l h) h.block) empty_block

pub marked_known : (n : ℕ) (l : Low) → n < l.labels → IsKnown l → IsKnown (marked n l)
marked_known n l lt h = known_by (marked n l) (marked_names n l lt (names_of l h) h.block) empty_block

pub jumped_known : (n : ℕ) (l : Low) → n < l.labels → IsKnown l → IsKnown (jumped n l)
jumped_known n l lt h = known_by (jumped n l) (jumped_names n l lt (names_of l h) h.block) empty_block

pub label_known : (l : Low) → IsKnown l → IsKnown (with_label l)
label_known l h = known_by (with_label l) (label_names l (names_of l h)) h.block

pub slot_known : (l : Low) → IsKnown l → IsKnown (with_slot l)
slot_known l h = record { pieces = h.pieces; block = h.block; named = h.named }

pub stored_known : (z : ℤ) (a : Typed) (l : Low) → plain.IsPlainValue a → within.HasIn (nodes l) a → IsKnown l → IsKnown (stored_in z a l)
stored_known z a l p f h = acted_known (stored_as Four (local z) a) l (stored_plain Four (local z) a tt p) (within.slot_left (nodes l) z a) (within.slot_right (nodes l) z a f) h

copied_known : (size align : ℕ) (to from : Typed) (l : Low) → plain.IsPlainValue to → plain.IsPlainValue from → within.HasIn (nodes l) to → within.HasIn (nodes l) from → IsKnown l → IsKnown (acted (copy_root size align to from) l)
copied_known size align to from l p q f g h =
    acted_known (copy_root size align to from) l (copy_plain size align to from p q) (within.as_p_in (nodes l) to.suffix to.tree f) (within.as_p_in (nodes l) from.suffix from.tree g) h

-- ---- places that find no node

pub record IsFree (a : Typed) : Type 0 where
  pub named : plain.IsPlainValue a
  pub found : (n : ℕ) → within.HasIn n a

free_further : (b : Bool) (by : ℕ) (base : Typed) → IsFree base → IsFree (further b by base)
free_further b by base h = record { named = plain.further_in b by base h.named; found = λ n. within.further_in n b by base (h.found n) }

zero_left : (n : ℕ) (w : Width) (a : Template) → IsWithin n a → IsWithin n (stored_by w a (number true 0)).left
zero_left n One a h = h
zero_left n Two a h = h
zero_left n Four a h = h

zero_right : (n : ℕ) (w : Width) (a : Template) → IsWithin n (stored_by w a (number true 0)).right
zero_right n One a = tt
zero_right n Two a = tt
zero_right n Four a = tt

zero_known : (w : Width) (a : Typed) (l : Low) → plain.IsPlainValue a → within.HasIn (nodes l) a → IsKnown l → IsKnown (acted (stored_as w a (number true 0)) l)
zero_known w a l p f h =
    acted_known (stored_as w a (number true 0)) l (stored_plain w a (number true 0) p tt) (zero_left (nodes l) w (as_p a) (within.as_p_in (nodes l) a.suffix a.tree f)) (zero_right (nodes l) w (as_p a)) h

-- ---- zeros

each_known : (base : Typed) → IsFree base → (w : Width) (from n : ℕ) (l : Low) → IsKnown l → IsKnown (zeroed_each base w from n l)
each_known base k w from zero l h = h
each_known base k w from (suc n) l h =
    let to = free_further true from base k in
    each_known base k w (from + bytes_in w) n (zeroed_at base w from l) (zero_known w (further true from base) l to.named (to.found (nodes l)) h)

turn_known : (base : Typed) → IsFree base → (w : Width) (from to : ℕ) (l : Low) → IsKnown l → IsKnown (zeroed_in_turn base w from to l)
turn_known base k w from to l h =
    let z = slot_offset l in
    let l1 = with_slot l in
    let l2 = stored_in z (number true from) l1 in
    let h2 = stored_known z (number true from) l1 tt tt (slot_known l h) in
    let l3 = with_label l2 in
    let l4 = marked l.labels l3 in
    let h4 = marked_known l.labels l3 (omega arith) (label_known l2 h2) in
    let p = moved 1 false base (slot_read I z) in
    let l5 = acted (stored_as w p (number true 0)) l4 in
    let h5 = zero_known w p l4 (plain.moved_in 1 false base (slot_read I z) k.named tt) (within.moved_in (nodes l4) 1 false base (slot_read I z) (k.found (nodes l4)) tt) h4 in
    let v = binary_of binary.Add true (slot_read I z) (number true (bytes_in w)) in
    let l6 = stored_in z v l5 in
    let h6 = stored_known z v l5 (tt, tt) (tt, tt) h5 in
    known_by (branched (compared comparison.Less true true l.labels (slot_read I z) (number true to)) l6)
    (compared_names comparison.Less true true l.labels (slot_read I z) (number true to) l6 (omega arith) tt tt tt tt h6.block (names_of l6 h6)) empty_block

zeroed_by_known : (few : Bool) (base : Typed) → IsFree base → (w : Width) (from n : ℕ) (l : Low) → IsKnown l → IsKnown (zeroed_by few base w from n l)
zeroed_by_known true base k w from n l h = each_known base k w from n l h
zeroed_by_known false base k w from n l h = turn_known base k w from (from + n * bytes_in w) l h

zeroed_known : (base : Typed) → IsFree base → (w : Width) (from n : ℕ) (l : Low) → IsKnown l → IsKnown (zeroed base w from n l)
zeroed_known base k w from n l h = zeroed_by_known (nat_le n 4) base k w from n l h

-- ---- initialisers

text_known : (f : Function) (base : Typed) → IsFree base → (offset : ℕ) (of : CType) (what : CoreKind) (l : Low) → IsKnown l → IsKnown (text_filled f base offset of what l)
text_known f base k offset (Array of (Some room)) (kind.Text n) l h =
    let bytes = min room (length (get_or f.context.unit.texts n []) + 1) in
    let text = name (text_name f.context.unit n) (pos 0) in
    let to = free_further (nat_lt 0 room) offset base k in
    zeroed_known base k One (offset + bytes) (room - bytes) (acted (copy_root bytes 1 (part_at room offset base) text) l)
    (copied_known bytes 1 (part_at room offset base) text l to.named tt (to.found (nodes l)) tt h)
text_known f base k offset of what l h = h

filled_by_known : (array whole : Bool) (f : Function) (base : Typed) → IsFree base → (p : FilledOf CType) (v : Typed) (l : Low) → plain.IsPlainValue v → within.HasIn (nodes l) v → IsKnown l
    → IsKnown (filled_by array whole f base p v l)
filled_by_known true whole f base k p v l q i h = text_known f base k p.offset p.of (what_of p.value) l h
filled_by_known false true f base k p v l q i h =
    let size = size_of f.context.unit.tags p.of in
    let to = free_further (nat_lt 0 size) p.offset base k in
    copied_known size (align_of f.context.unit.tags p.of) (part_at size p.offset base) v l to.named q (to.found (nodes l)) i h
filled_by_known false false f base k p v l q i h =
    let x = spot_filled p in
    let place = further true p.offset base in
    let to = free_further true p.offset base k in
    acted_known (written_by (is_field x) false f.context.order x place v) l (written_plain (is_field x) false f.context.order x place v to.named q)
    (within.written_left (nodes l) (is_field x) false f.context.order x place v (to.found (nodes l)))
    (within.written_right (nodes l) (is_field x) false f.context.order x place v (to.found (nodes l)) i) h

filled_known : (f : Function) (base : Typed) → IsFree base → (p : FilledOf CType) (l : Low) → IsKnown l → IsKnown (filled f base p l)
filled_known f base k p l h =
    let r = low_e f.context p.value l in
    let n = values_have_nodes f.context p.value l h.block in
    filled_by_known (is_array p.of) (is_record p.of) f base k p r.value r.low (value_knows f.context p.value l h).plain n.value (expressions_keep_known f.context p.value l h)

all_filled_known : (f : Function) (base : Typed) → IsFree base → (ps : List (FilledOf CType)) (l : Low) → IsKnown l → IsKnown (all_filled f base ps l)
all_filled_known f base k [] l h = h
all_filled_known f base k (p ∷ ps) l h = all_filled_known f base k ps (filled f base p l) (filled_known f base k p l h)

whole_known : (clears : Bool) (base : Typed) → IsFree base → (size : ℕ) (l : Low) → IsKnown l → IsKnown (zeroed_whole clears base size l)
whole_known true base k size l h = each_known base k One (4 * (size / 4)) (size % 4) (zeroed base Four 0 (size / 4) l) (zeroed_known base k Four 0 (size / 4) l h)
whole_known false base k size l h = h

pub initialised_known : (f : Function) (n : ℕ) (of : Option CType) (clears : Bool) (ps : List (FilledOf CType)) (l : Low) → IsKnown l → IsKnown (initialised_as f n of clears ps l)
initialised_known f n None clears ps l h = h
initialised_known f n (Some of) clears ps l h =
    let base = local_place f.context n of in
    let k : IsFree base = record {
      named = plain.local_in (is_passed_whole f.context n of) (slice_get f.context.places n);
      found = λ m. within.local_in m (is_passed_whole f.context n of) (slice_get f.context.places n);
    } in
    let size = size_of f.context.unit.tags of in
    all_filled_known f base k ps (zeroed_whole clears base size l) (whole_known clears base k size l h)
