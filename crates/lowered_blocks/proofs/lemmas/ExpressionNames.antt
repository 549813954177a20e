-- The lowering of expressions and tests keeps blocks and labels.
use Rattle.std.specs.Prelude.{◌<◌, ◌≤◌, ℕ, suc, ℤ, nat_lt, not, Bool, true, false, List, [], ◌∷◌, ◌++◌, slice_get}
use Rattle.std.proofs.Common.{sym, subst, arith}
use Rattle.lcc_base.specs.declared.order.Order.{Order}
use Rattle.objects.specs.declared.operators.Comparison.{Comparison}
use Rattle.objects.specs.declared.operators.Comparison.TheVariants as comparison
use Rattle.objects.specs.declared.width.Width.TheVariants.{Four}
use Rattle.op_forest.specs.declared.op.Op.TheVariants as op
use Rattle.op_forest.specs.declared.suffix.Suffix.{Suffix}
use Rattle.op_forest.specs.declared.suffix.Suffix.TheVariants.{C, S, I, U, P, B, V}
use Rattle.c_types.specs.CType.{CType}
use Rattle.c_meaning.specs.declared.core_expr.Change.{Change}
use Rattle.c_meaning.specs.declared.core_expr.Conversion.TheVariants as to
use Rattle.c_meaning.specs.declared.core_expr.CoreKind.{CoreKind}
use Rattle.c_meaning.specs.declared.core_expr.CoreKind.TheVariants as kind
use Rattle.c_meaning.specs.CoreTrees.{Core, NoCore, Cores, type_of}
use Rattle.c_meaning.specs.Scalars.{is_signed}
use Rattle.c_meaning.specs.Types.{is_void, is_pointer, is_record}
use Rattle.c_meaning.specs.Values.{CoreTree, CoreTrees}
use Rattle.c_runs.specs.Places.{Spot, spot_of, is_field, size_of, align_of}
use Rattle.c_rows_agree.specs.Integers.{number, converted_to, as_pointer, unary_of, binary_of, tested, compared, compared_by, comparison_where, compares_signed}
use Rattle.c_rows_agree.specs.Places.{stored_as}
use Rattle.c_rows_agree.specs.Templates.{Template, Given, Leaf, One, Two, Root}
use Rattle.c_rows_agree.specs.Typed.{Typed, head, as_i, as_i_from, as_p}
use Rattle.c_pointers_agree.specs.Pointers.{local, moved_among, difference, call_head}
use Rattle.lowered_forms.specs.Accesses.{read, kept, written, written_by, assigned, copied, copy_root}
use Rattle.lowered_forms.specs.Blocks.{IsBlock}
use Rattle.lowered_forms.specs.Calls.{Passed, all_held, passed_by, with_argument, held_for, with_arguments, first_passed, word_passed, all_passed, called, call_stored, result_suffix, given_by, made}
use Rattle.lowered_forms.specs.Changes.{assigned_by, changed, changed_at, new_given, old_given}
use Rattle.lowered_forms.specs.Conditionals.{Sort, Nothing, Word, Place, sort_of, kept_in, sort_read, with_ways}
use Rattle.lowered_forms.specs.Contexts.{Context}
use Rattle.lowered_forms.specs.Expressions.{comma_from, plain_row, tested_row, row, low_e, low_test, parts_of}
use Rattle.lowered_forms.specs.Lows.{Low, acted, branched, jumped, marked, with_label, with_slot, slot_offset}
use Rattle.lowered_forms.specs.Nodes.{HasNodes}
use Rattle.lowered_forms.specs.Places.{is_passed_whole, local_place, further, room_of}
use Rattle.lowered_forms.specs.Straight.{straight}
use Rattle.lowered_forms.specs.Tests.{comparison_test, and_test, or_test, truth_in, truth_of}
use Rattle.lowered_forms.specs.Tests as tests
use Rattle.lowered_forms.specs.Values.{Lowered, Part, saved_tree, held, of_two, slot_read, stored_in, placed}
use Rattle.lowered_forms.proofs.lemmas.Adding.{lowering_adds, testing_adds}
use Rattle.lowered_forms.proofs.lemmas.NodesOf.{value_comes, values_have_nodes, test_ends}
use Rattle.lowered_forms.proofs.lemmas.NodesOfCalls.{AllPending, PassedComes, argument_comes}
use Rattle.lowered_forms.proofs.lemmas.NodesOfChanges.{straight_grows}
use Rattle.lowered_forms.proofs.lemmas.Pending.{nodes, pending_in, Acted, PartComes, acted_comes, behind_comes, empty_block, held_comes, pending_more}
use Rattle.lowered_forms.proofs.lemmas.WithinTemplates as within
use Rattle.lowered_blocks.specs.Known.{IsKnown}
use Rattle.lowered_blocks.proofs.lemmas.PlainRoots.{written_plain, copy_plain, call_plain}
use Rattle.lowered_blocks.proofs.lemmas.PlainTemplates.{IsPlain, IsPlainValue, as_i_in, as_p_in, slot_in, as_by_in, number_in, converted_in, unary_in, binary_in, among_in, difference_in, further_in, local_in, read_in, kept_in_block, changed_in}
use Rattle.lowered_blocks.proofs.lemmas.Steps.{Names, names_of, known_by, Gives, acted_names, jumping_names, acted_one_names, placed_names, stored_names, held_names, ended_names, marked_names, jumped_names, label_names}

abbrev part : Context → CoreTree → Part
part s c = record { tree = c; value = λ l. low_e s c l; test = λ n when l. low_test s c n when l }

-- ---- what is known of parts

abbrev ValueKnows : Context → CoreTree → Type 0
ValueKnows s c = (l : Low) → IsKnown l → Gives (low_e s c l)

abbrev TestKnows : Context → CoreTree → Type 0
TestKnows s c = (n : ℕ) (when : Bool) (l : Low) → n < l.labels → IsKnown l → Names (low_test s c n when l)

abbrev PartsKnow : Context → CoreTrees → Type 0
PartsKnow s NoCore = Unit {0}
PartsKnow s (Cores c cs) = (ValueKnows s c × TestKnows s c) × PartsKnow s cs

-- behind an expression, and behind a test
value_known : (s : Context) (c : CoreTree) → ValueKnows s c → (l : Low) → IsKnown l → IsKnown (low_e s c l).low
value_known s c f l h = known_by (low_e s c l).low (f l h).names (values_have_nodes s c l h.block).block

test_block : (s : Context) (c : CoreTree) (n : ℕ) (when : Bool) (l : Low) → IsBlock (low_test s c n when l).entries
test_block s c n when l = subst IsBlock (sym (test_ends s c n when l)) empty_block

test_known : (s : Context) (c : CoreTree) → TestKnows s c → (n : ℕ) (when : Bool) (l : Low) → n < l.labels → IsKnown l → IsKnown (low_test s c n when l)
test_known s c f n when l lt h = known_by (low_test s c n when l) (f n when l lt h) (test_block s c n when l)

value_labels : (s : Context) (c : CoreTree) (l : Low) → l.labels ≤ (low_e s c l).low.labels
value_labels s c l = (lowering_adds s c l).labels

test_labels : (s : Context) (c : CoreTree) (n : ℕ) (when : Bool) (l : Low) → l.labels ≤ (low_test s c n when l).labels
test_labels s c n when l = (testing_adds s c n when l).labels

part_comes : (s : Context) (c : CoreTree) → PartComes (part s c)
part_comes s c = record { value = λ l b. value_comes s c l b; grows = λ e l. straight_grows s c e l }

-- ---- operations on operands

abbrev OneKnows : (Typed → Low → Lowered) → Type 0
OneKnows go = (v : Typed) (l : Low) → IsPlainValue v → Names l → Gives (go v l)

abbrev TwoKnow : (Typed → Typed → Low → Lowered) → Type 0
TwoKnow go = (v w : Typed) (l : Low) → IsPlainValue v → IsPlainValue w → Names l → Gives (go v w l)

one_knows : (s : Context) (a : CoreTree) → ValueKnows s a → (go : Typed → Typed) → ((v : Typed) → IsPlainValue v → IsPlainValue (go v)) → (l : Low) → IsKnown l → Gives (placed (go (low_e s a l).value) (low_e s a l).low)
one_knows s a f go g l h = let x = f l h in placed_names (go (low_e s a l).value) (low_e s a l).low (g (low_e s a l).value x.plain) x.names

two_know : (s : Context) (a b : CoreTree) → ValueKnows s a → ValueKnows s b → (go : Typed → Typed → Low → Lowered) → TwoKnow go → (l : Low) → IsKnown l → Gives (of_two (part s a) (part s b) l go)
two_know s a b f g go k l h =
    let v = low_e s a l in
    let x = f l h in
    let n = values_have_nodes s a l h.block in
    let q = held (straight b) v.value v.low in
    let y = held_names (straight b) v.value v.low x.plain x.names in
    let z = g q.low (known_by q.low y.names (held_comes (straight b) v.value v.low n.block n.value).block) in
    k q.value (low_e s b q.low).value (low_e s b q.low).low y.plain z.plain z.names

-- ---- assignments and changes

written_names : (shared : Bool) (order : Order) (x : Spot) (p v : Typed) (l : Low) → IsPlainValue p → IsPlainValue v → Names l → Names (written shared order x p v l)
written_names shared order x p v l f g h = acted_names (written_by (is_field x) shared order x p v) l (written_plain (is_field x) shared order x p v f g) h

copied_names : (s : Context) (of : CType) (p v : Typed) (l : Low) → IsPlainValue p → IsPlainValue v → Names l → Names (copied s.unit.tags of p v l)
copied_names s of p v l f g h = acted_names (copy_root (size_of s.unit.tags of) (align_of s.unit.tags of) p v) l (copy_plain (size_of s.unit.tags of) (align_of s.unit.tags of) p v f g) h

assigned_knows : (order : Order) (x : Spot) (p v : Typed) (l : Low) → IsPlainValue p → IsPlainValue v → Names l → Gives (assigned order x p v l)
assigned_knows order x p v l f g h =
    let u = placed (kept x v) l in
    let y = placed_names (kept x v) l (kept_in_block (is_field x) x v g) h in
    record { names = written_names true order x p v u.low f g y.names; plain = y.plain }

assigned_by_knows : (whole : Bool) (s : Context) (of : CType) (x : Spot) → TwoKnow (λ p v l. assigned_by whole s of x p v l)
assigned_by_knows true s of x p v l f g h = placed_names p (copied s.unit.tags of p v l) f (copied_names s of p v l f g h)
assigned_by_knows false s of x p v l f g h = assigned_knows s.order x p v l f g h

abbrev GiveKnows : (Order → Spot → Typed → Typed → Typed → Low → Lowered) → Type 0
GiveKnows give = (order : Order) (x : Spot) (p old new : Typed) (l : Low) → IsPlainValue p → IsPlainValue old → IsPlainValue new → Names l → Gives (give order x p old new l)

new_knows : GiveKnows new_given
new_knows order x p old new l f g i h = assigned_knows order x p new l f i h

old_knows : GiveKnows old_given
old_knows order x p old new l f g i h = record { names = written_names false order x p new l f i h; plain = g }

changed_knows : (order : Order) (by : Change) (x : Spot) (give : Order → Spot → Typed → Typed → Typed → Low → Lowered) → GiveKnows give → TwoKnow (λ p v l. changed_at order by x give p v l)
changed_knows order by x give k p v l f g h =
    let old = placed (read order x p) l in
    let a = placed_names (read order x p) l (read_in order x p f) h in
    let new = placed (changed by x old.value v) old.low in
    let b = placed_names (changed by x old.value v) old.low (changed_in by x old.value v a.plain g) a.names in
    k order x p old.value new.value new.low f a.plain b.plain b.names

-- ---- calls

abbrev AllPlain : List Typed → Type 0
AllPlain [] = Unit {0}
AllPlain (v ∷ vs) = IsPlainValue v × AllPlain vs

plain_with_last : (vs : List Typed) (v : Typed) → AllPlain vs → IsPlainValue v → AllPlain (vs ++ v ∷ [])
plain_with_last [] v f g = (g, tt)
plain_with_last (x ∷ vs) v f g = (f.0, plain_with_last vs v f.1 g)

pub record PassedKnows (p : Passed) : Type 0 where
  pub names : Names p.low
  pub plain : AllPlain p.values

all_held_knows : (st : Bool) (n : ℕ) (vs : List Typed) (l : Low) → AllPlain vs → Names l → PassedKnows (all_held st n vs l)
all_held_knows st n [] l f h = record { names = h; plain = tt }
all_held_knows st n (v ∷ vs) l f h =
    let x = held_names st v l f.0 h in
    let y = all_held_knows st n vs (held st v l).low f.1 x.names in
    record { names = y.names; plain = (x.plain, y.plain) }

all_pending_more : (m n : ℕ) (vs : List Typed) → m ≤ n → AllPending m vs → AllPending n vs
all_pending_more m n [] h f = tt
all_pending_more m n (v ∷ vs) h f = (pending_more m n v.tree h f.0, all_pending_more m n vs h f.1)

all_held_block : (st : Bool) (n : ℕ) (vs : List Typed) (l : Low) → IsBlock l.entries → AllPending (nodes l) vs → IsBlock (all_held st n vs l).low.entries
all_held_block st n [] l b f = b
all_held_block st n (v ∷ vs) l b f =
    let l1 = (held st v l).low in
    let a = held_comes st v l b (pending_in (nodes l) v.tree f.0) in
    all_held_block st n vs l1 a.block (all_pending_more (nodes l) (nodes l1) vs a.more f.1)

local_plain : (s : Context) (n : ℕ) (of : CType) → IsPlainValue (local_place s n of)
local_plain s n of = local_in (is_passed_whole s n of) (slice_get s.places n)

passed_knows : (whole : Bool) (s : Context) (of : CType) (p : Passed) (r : Lowered) → AllPlain p.values → Gives r → PassedKnows (passed_by whole s of p r)
passed_knows true s of p r f g = record {
  names = copied_names s of (local_place s p.next of) r.value r.low (local_plain s p.next of) g.plain g.names;
  plain = plain_with_last p.values (local_place s p.next of) f (local_plain s p.next of);
}
passed_knows false s of p r f g = record { names = g.names; plain = plain_with_last p.values r.value f g.plain }

argument_knows : (s : Context) (a : CoreTree) → ValueKnows s a → (p : Passed) → PassedComes p → PassedKnows p → PassedKnows (with_argument s (part s a) (held_for (part s a) p))
argument_knows s a f p c k =
    let q = held_for (part s a) p in
    let x = all_held_knows (straight a) p.next p.values p.low k.plain k.names in
    let g = f q.low (known_by q.low x.names (all_held_block (straight a) p.next p.values p.low c.block c.values)) in
    passed_knows (is_record (type_of a)) s (type_of a) q (low_e s a q.low) x.plain g

arguments_know : (s : Context) (cs : CoreTrees) → PartsKnow s cs → (p : Passed) → PassedComes p → PassedKnows p → PassedKnows (with_arguments s (parts_of s cs) p)
arguments_know s NoCore h p c k = k
arguments_know s (Cores a cs) h p c k =
    arguments_know s cs h.1 (with_argument s (part s a) (held_for (part s a) p)) (argument_comes s (part s a) (part_comes s a) p c) (argument_knows s a h.0.0 p c k)

word_names : (x : Suffix) (t : Template) (l : Low) → IsPlain t → Names l → Names (word_passed x t l)
word_names C t l p h = acted_one_names (head op.Arg I) t l tt tt p h
word_names S t l p h = acted_one_names (head op.Arg I) t l tt tt p h
word_names I t l p h = acted_one_names (head op.Arg I) t l tt tt p h
word_names U t l p h = acted_one_names (head op.Arg I) (as_i_from U t) l tt tt p h
word_names P t l p h = acted_one_names (head op.Arg P) t l tt tt p h
word_names B t l p h = acted_one_names (head op.Arg I) t l tt tt p h
word_names V t l p h = acted_one_names (head op.Arg I) t l tt tt p h

words_names : (vs : List Typed) (l : Low) → AllPlain vs → Names l → Names (all_passed vs l)
words_names [] l f h = h
words_names (v ∷ vs) l f h = words_names vs (word_passed v.suffix v.tree l) f.1 (word_names v.suffix v.tree l f.0 h)

called_names : (f : Typed) (vs : List Typed) (l : Low) → IsPlainValue f → AllPlain vs → Names l → Names (called f (all_passed vs l))
called_names f vs l g k h = acted_one_names (call_head false) (as_p f) (all_passed vs l) tt tt (as_p_in f.suffix f.tree g) (words_names vs l k h)

given_knows : (whole void : Bool) (s : Context) (of : CType) (n : ℕ) (f : Typed) (vs : List Typed) (l : Low) → IsPlainValue f → AllPlain vs → Names l → Gives (given_by whole void s of n f vs l)
given_knows true void s of n f vs l g k h =
    let to = local_place s n of in
    placed_names to (called f (all_passed (to ∷ vs) l)) (local_plain s n of) (called_names f (to ∷ vs) l g (local_plain s n of, k) h)
given_knows false true s of n f vs l g k h = record { names = called_names f vs l g k h; plain = tt }
given_knows false false s of n f vs l g k h =
    let z = slot_offset l in
    let l1 = all_passed vs (with_slot l) in
    placed_names (slot_read (result_suffix (is_pointer of)) z) (acted (call_stored z f) l1) (slot_in (result_suffix (is_pointer of)) z)
    (acted_names (call_stored z f) l1 (call_plain z f g) (words_names vs (with_slot l) k (record { pieces = h.pieces; named = h.named })))

made_knows : (s : Context) (of : CType) (n : ℕ) (vs : List Typed) (l : Low) → AllPlain vs → Names l → Gives (made s of n vs l)
made_knows s of n [] l f h = record { names = h; plain = tt }
made_knows s of n (g ∷ vs) l f h = given_knows (is_record of) (is_void of) s of n g vs l f.0 f.1 h

-- ---- tests: the block that ends is one

ended_root : (r : Root) (l : Low) → IsBlock l.entries → Names (acted r l) → Acted l (acted r l) → Names (branched r l)
ended_root r l b h a = ended_names (acted r l) h a.block

tested_names : (n : ℕ) (when : Bool) (v : Typed) (l : Low) → n < l.labels → IsPlainValue v → within.HasIn (nodes l) v → IsBlock l.entries → Names l → Names (branched (tested when n v) l)
tested_names n true v l lt p i b h =
    ended_root (tested true n v) l b (jumping_names (tested true n v) l tt lt (as_i_in v.suffix v.tree p) tt h) (acted_comes (tested true n v) l b (within.as_i_in (nodes l) v.suffix v.tree i) tt)
tested_names n false v l lt p i b h =
    ended_root (tested false n v) l b (jumping_names (tested false n v) l tt lt (as_i_in v.suffix v.tree p) tt h) (acted_comes (tested false n v) l b (within.as_i_in (nodes l) v.suffix v.tree i) tt)

compared_by_names : (o : Comparison) (signed : Bool) (n : ℕ) (x y : Typed) (l : Low) → n < l.labels → IsPlainValue x → IsPlainValue y → Names l → Names (acted (compared_by o signed n x y) l)
compared_by_names comparison.Equal signed n x y l lt p q h = jumping_names (compared_by comparison.Equal signed n x y) l tt lt (as_by_in true x p) (as_by_in true y q) h
compared_by_names comparison.NotEqual signed n x y l lt p q h = jumping_names (compared_by comparison.NotEqual signed n x y) l tt lt (as_by_in true x p) (as_by_in true y q) h
compared_by_names comparison.Less signed n x y l lt p q h = jumping_names (compared_by comparison.Less signed n x y) l tt lt (as_by_in signed x p) (as_by_in signed y q) h
compared_by_names comparison.LessEqual signed n x y l lt p q h = jumping_names (compared_by comparison.LessEqual signed n x y) l tt lt (as_by_in signed x p) (as_by_in signed y q) h
compared_by_names comparison.Greater signed n x y l lt p q h = jumping_names (compared_by comparison.Greater signed n x y) l tt lt (as_by_in signed x p) (as_by_in signed y q) h
compared_by_names comparison.GreaterEqual signed n x y l lt p q h = jumping_names (compared_by comparison.GreaterEqual signed n x y) l tt lt (as_by_in signed x p) (as_by_in signed y q) h

pub compared_names : (o : Comparison) (signed when : Bool) (n : ℕ) (x y : Typed) (l : Low) → n < l.labels → IsPlainValue x → IsPlainValue y → within.HasIn (nodes l) x → within.HasIn (nodes l) y → IsBlock l.entries → Names l
    → Names (branched (compared o signed when n x y) l)
compared_names o signed when n x y l lt p q i j b h =
    let c = comparison_where when o in
    ended_root (compared o signed when n x y) l b (compared_by_names c signed n x y l lt p q h)
    (acted_comes (compared o signed when n x y) l b (within.as_by_in (nodes l) (compares_signed signed c) x i) (within.as_by_in (nodes l) (compares_signed signed c) y j))

saved_labels : (t : Template) (a : Typed) (l : Low) → l.labels ≤ (saved_tree t a l).low.labels
saved_labels (Given n) a l = omega arith
saved_labels (Leaf x) a l = omega arith
saved_labels (One x b) a l = omega arith
saved_labels (Two x b c) a l = omega arith

held_labels : (st : Bool) (a : Typed) (l : Low) → l.labels ≤ (held st a l).low.labels
held_labels true a l = omega arith
held_labels false a l = saved_labels a.tree a l

comparison_names : (s : Context) (o : Comparison) (signed : Bool) (a b : CoreTree) → ValueKnows s a → ValueKnows s b → (n : ℕ) (when : Bool) (l : Low) → n < l.labels → IsKnown l → Names (comparison_test o signed (part s a) (part s b) n when l)
comparison_names s o signed a b f g n when l lt h =
    let v = low_e s a l in
    let x = f l h in
    let c = value_comes s a l h.block in
    let q = held (straight b) v.value v.low in
    let y = held_names (straight b) v.value v.low x.plain x.names in
    let hc = held_comes (straight b) v.value v.low c.block (pending_in (nodes v.low) v.value.tree c.value) in
    let z = g q.low (known_by q.low y.names hc.block) in
    let w = low_e s b q.low in
    let d = behind_comes (straight b) (part s b) (part_comes s b) (λ e. e) v.value v.low c.block c.value in
    let e1 = value_labels s a l in
    let e2 = held_labels (straight b) v.value v.low in
    let e3 = value_labels s b q.low in
    compared_names o (tests.compares_signed (type_of a) signed) when n q.value w.value w.low (omega (arith, lt, e1, e2, e3)) y.plain z.plain
    (pending_in (nodes w.low) q.value.tree d.first) (pending_in (nodes w.low) w.value.tree d.second.value) d.second.block z.names

label_known : (l : Low) → IsKnown l → IsKnown (with_label l)
label_known l h = known_by (with_label l) (label_names l (names_of l h)) h.block

-- two tests one behind the other
both_names : (s : Context) (a b : CoreTree) → TestKnows s a → TestKnows s b → (m n : ℕ) (first second : Bool) (l : Low) → m < l.labels → n < l.labels → IsKnown l → Names (low_test s b n second (low_test s a m first l))
both_names s a b f g m n first second l lm ln h =
    let l1 = low_test s a m first l in
    let e = test_labels s a m first l in
    g n second l1 (omega (arith, ln, e)) (test_known s a f m first l lm h)

-- with a label behind them
past_names : (s : Context) (a b : CoreTree) → TestKnows s a → TestKnows s b → (n : ℕ) (first second : Bool) (l : Low) → n < l.labels → IsKnown l → Names (marked l.labels (low_test s b n second (low_test s a l.labels first (with_label l))))
past_names s a b f g n first second l lt h =
    let l1 = with_label l in
    let l2 = low_test s a l.labels first l1 in
    let l3 = low_test s b n second l2 in
    let e1 = test_labels s a l.labels first l1 in
    let e2 = test_labels s b n second l2 in
    marked_names l.labels l3 (omega (arith, e1, e2)) (both_names s a b f g l.labels n first second l1 (omega arith) (omega (arith, lt)) (label_known l h)) (test_block s b n second l2)

and_names : (s : Context) (a b : CoreTree) → TestKnows s a → TestKnows s b → (n : ℕ) (when : Bool) (l : Low) → n < l.labels → IsKnown l → Names (and_test (part s a) (part s b) n when l)
and_names s a b f g n true l lt h = past_names s a b f g n false true l lt h
and_names s a b f g n false l lt h = both_names s a b f g n n false false l lt lt h

or_names : (s : Context) (a b : CoreTree) → TestKnows s a → TestKnows s b → (n : ℕ) (when : Bool) (l : Low) → n < l.labels → IsKnown l → Names (or_test (part s a) (part s b) n when l)
or_names s a b f g n true l lt h = both_names s a b f g n n true true l lt lt h
or_names s a b f g n false l lt h = past_names s a b f g n true false l lt h

-- ---- truth values and conditionals

stored_block : (z : ℤ) (a : Typed) (l : Low) → IsBlock l.entries → within.HasIn (nodes l) a → IsBlock (stored_in z a l).entries
stored_block z a l b h = (acted_comes (stored_as Four (local z) a) l b (within.slot_left (nodes l) z a) (within.slot_right (nodes l) z a h)).block

truth_knows : (s : Context) (c : CoreTree) → TestKnows s c → (l : Low) → IsKnown l → Gives (truth_of (λ n when l1. low_test s c n when l1) l)
truth_knows s c f l h =
    let z = slot_offset l in
    let l1 = with_slot l in
    let l2 = with_label l1 in
    let h2 = label_names l1 (record { pieces = h.pieces; named = h.named }) in
    let l3 = stored_in z (number true 0) l2 in
    let h3 = known_by l3 (stored_names z (number true 0) l2 tt h2) (stored_block z (number true 0) l2 h.block tt) in
    let l4 = low_test s c l.labels false l3 in
    let h4 = f l.labels false l3 (omega arith) h3 in
    let e4 = test_labels s c l.labels false l3 in
    let l5 = stored_in z (number true 1) l4 in
    let h5 = stored_names z (number true 1) l4 tt h4 in
    placed_names (slot_read I z) (marked l.labels l5) tt (marked_names l.labels l5 (omega (arith, e4)) h5 (stored_block z (number true 1) l4 (test_block s c l.labels false l3) tt))

kept_names : (sort : Sort) (z : ℤ) (r : Lowered) → Gives r → Names (kept_in sort z r)
kept_names Nothing z r g = g.names
kept_names Word z r g = stored_names z (record { tree = as_i r.value; suffix = I }) r.low (as_i_in r.value.suffix r.value.tree g.plain) g.names
kept_names Place z r g = stored_names z (as_pointer r.value) r.low (as_p_in r.value.suffix r.value.tree g.plain) g.names

kept_block : (sort : Sort) (z : ℤ) (r : Lowered) → HasNodes r → IsBlock (kept_in sort z r).entries
kept_block Nothing z r h = h.block
kept_block Word z r h = stored_block z (record { tree = as_i r.value; suffix = I }) r.low h.block (within.as_i_in (nodes r.low) r.value.suffix r.value.tree h.value)
kept_block Place z r h = stored_block z (as_pointer r.value) r.low h.block (within.as_p_in (nodes r.low) r.value.suffix r.value.tree h.value)

kept_labels : (sort : Sort) (z : ℤ) (r : Lowered) → r.low.labels ≤ (kept_in sort z r).labels
kept_labels Nothing z r = omega arith
kept_labels Word z r = omega arith
kept_labels Place z r = omega arith

sort_plain : (sort : Sort) (z : ℤ) → IsPlainValue (sort_read sort z)
sort_plain Nothing z = tt
sort_plain Word z = tt
sort_plain Place z = tt

conditional_knows : (s : Context) (sort : Sort) (z : ℤ) (a b c : CoreTree) → TestKnows s a → ValueKnows s b → ValueKnows s c → (l : Low) → IsKnown l → Gives (with_ways sort z (part s a) (part s b) (part s c) l)
conditional_knows s sort z a b c f g i l h =
    let n = l.labels in
    let end = suc l.labels in
    let l2 = with_label (with_label l) in
    let h2 = label_known (with_label l) (label_known l h) in
    let l3 = low_test s a n false l2 in
    let h3 = test_known s a f n false l2 (omega arith) h2 in
    let r4 = low_e s b l3 in
    let l4 = kept_in sort z r4 in
    let h4 = kept_names sort z r4 (g l3 h3) in
    let b4 = kept_block sort z r4 (values_have_nodes s b l3 h3.block) in
    let e3 = test_labels s a n false l2 in
    let e4 = value_labels s b l3 in
    let e5 = kept_labels sort z r4 in
    let l5 = jumped end l4 in
    let h5 = jumped_names end l4 (omega (arith, e3, e4, e5)) h4 b4 in
    let l6 = marked n l5 in
    let h6 = known_by l6 (marked_names n l5 (omega (arith, e3, e4, e5)) h5 empty_block) empty_block in
    let r7 = low_e s c l6 in
    let l7 = kept_in sort z r7 in
    let h7 = kept_names sort z r7 (i l6 h6) in
    let b7 = kept_block sort z r7 (values_have_nodes s c l6 h6.block) in
    let e6 = value_labels s c l6 in
    let e7 = kept_labels sort z r7 in
    placed_names (sort_read sort z) (marked end l7) (sort_plain sort z) (marked_names end l7 (omega (arith, e3, e4, e5, e6, e7)) h7 b7)

-- ---- the rows

comma_knows : (s : Context) (a : CoreTree) (cs : CoreTrees) → ValueKnows s a → PartsKnow s cs → (l : Low) → IsKnown l → Gives (comma_from (part s a) (parts_of s cs) l)
comma_knows s a NoCore f k l h = f l h
comma_knows s a (Cores b cs) f k l h = comma_knows s b cs k.0.0 k.1 (low_e s a l).low (value_known s a f l h)

plain_knows : (s : Context) (what : CoreKind) (of : CType) (kids : CoreTrees) → PartsKnow s kids → (l : Low) → IsKnown l → Gives (plain_row s what of (parts_of s kids) l)
plain_knows s (kind.Local n register) of NoCore k l h = placed_names (local_place s n of) l (local_plain s n of) (names_of l h)
plain_knows s (kind.Object n) of NoCore k l h = record { names = names_of l h; plain = tt }
plain_knows s (kind.Text n) of NoCore k l h = record { names = names_of l h; plain = tt }
plain_knows s (kind.Function n) of NoCore k l h = record { names = names_of l h; plain = tt }
plain_knows s (kind.BuiltIn b) of NoCore k l h = record { names = names_of l h; plain = tt }
plain_knows s (kind.Number n) of NoCore k l h = record { names = names_of l h; plain = number_in (is_signed of) n }
plain_knows s kind.Pointed of (Cores a NoCore) k l h = k.0.0 l h
plain_knows s (kind.Member offset first width) of (Cores a NoCore) k l h =
    one_knows s a k.0.0 (λ p. further (nat_lt offset (room_of s a)) offset p) (λ p f. further_in (nat_lt offset (room_of s a)) offset p f) l h
plain_knows s kind.Read of (Cores a NoCore) k l h = one_knows s a k.0.0 (λ p. read s.order (spot_of a) p) (λ p f. read_in s.order (spot_of a) p f) l h
plain_knows s kind.Address of (Cores a NoCore) k l h = k.0.0 l h
plain_knows s kind.First of (Cores a NoCore) k l h = k.0.0 l h
plain_knows s (kind.Convert to.Void) of (Cores a NoCore) k l h = record { names = (k.0.0 l h).names; plain = tt }
plain_knows s (kind.Convert to.Pointer) of (Cores a NoCore) k l h = one_knows s a k.0.0 as_pointer (λ v f. as_p_in v.suffix v.tree f) l h
plain_knows s (kind.Convert (to.Integer x)) of (Cores a NoCore) k l h = one_knows s a k.0.0 (λ v. converted_to x v) (λ v f. converted_in x.width x.signed v f) l h
plain_knows s (kind.Unary o) of (Cores a NoCore) k l h = one_knows s a k.0.0 (λ v. unary_of o v) (λ v f. unary_in o v f) l h
plain_knows s (kind.Binary o signed) of (Cores a (Cores b NoCore)) k l h =
    two_know s a b k.0.0 k.1.0.0 (λ v w l1. placed (binary_of o signed v w) l1) (λ v w l1 f g n. placed_names (binary_of o signed v w) l1 (binary_in o signed v w f g) n) l h
plain_knows s (kind.Move size back) of (Cores a (Cores b NoCore)) k l h =
    two_know s a b k.0.0 k.1.0.0 (λ v w l1. placed (moved_among size back (is_pointer (type_of a)) v w) l1)
    (λ v w l1 f g n. placed_names (moved_among size back (is_pointer (type_of a)) v w) l1 (among_in size back (is_pointer (type_of a)) v w f g) n) l h
plain_knows s (kind.Difference size) of (Cores a (Cores b NoCore)) k l h =
    two_know s a b k.0.0 k.1.0.0 (λ v w l1. placed (difference size v w) l1) (λ v w l1 f g n. placed_names (difference size v w) l1 (difference_in size v w f g) n) l h
plain_knows s kind.Conditional of (Cores a (Cores b (Cores c NoCore))) k l h =
    conditional_knows s (sort_of of) (slot_offset l) a b c k.0.1 k.1.0.0 k.1.1.0.0 (with_slot l) (record { pieces = h.pieces; block = h.block; named = h.named })
plain_knows s kind.Comma of (Cores a cs) k l h = comma_knows s a cs k.0.0 k.1 l h
plain_knows s kind.Assign of (Cores a (Cores b NoCore)) k l h =
    two_know s a b k.0.0 k.1.0.0 (λ p v l1. assigned_by (is_record of) s of (spot_of a) p v l1) (assigned_by_knows (is_record of) s of (spot_of a)) l h
plain_knows s (kind.Change by) of (Cores a (Cores b NoCore)) k l h =
    two_know s a b k.0.0 k.1.0.0 (λ p v l1. changed_at s.order by (spot_of a) new_given p v l1) (changed_knows s.order by (spot_of a) new_given new_knows) l h
plain_knows s (kind.Postfix by) of (Cores a (Cores b NoCore)) k l h =
    two_know s a b k.0.0 k.1.0.0 (λ p v l1. changed_at s.order by (spot_of a) old_given p v l1) (changed_knows s.order by (spot_of a) old_given old_knows) l h
plain_knows s (kind.Call n) of (Cores f cs) k l h =
    let c = value_comes s f l h.block in
    let x = k.0.0 l h in
    let p = first_passed n (low_e s f l) in
    let q = with_arguments s (parts_of s cs) p in
    let d = arguments_know s cs k.1 p (record { block = c.block; values = (c.value, tt) }) (record { names = x.names; plain = (x.plain, tt) }) in
    made_knows s of q.next q.values q.low d.plain d.names
plain_knows s what of kids k l h = record { names = names_of l h; plain = tt }

-- ---- tests

plain_nodes : (s : Context) (what : CoreKind) (of : CType) (kids : CoreTrees) (l : Low) → IsBlock l.entries → HasNodes (plain_row s what of (parts_of s kids) l)
plain_nodes s kind.Not of kids l b = record { block = b; value = tt }
plain_nodes s kind.And of kids l b = record { block = b; value = tt }
plain_nodes s kind.Or of kids l b = record { block = b; value = tt }
plain_nodes s (kind.Compare o signed) of kids l b = record { block = b; value = tt }
plain_nodes s what of kids l b = values_have_nodes s (Core what of 0 kids) l b

plain_labels : (s : Context) (what : CoreKind) (of : CType) (kids : CoreTrees) (l : Low) → l.labels ≤ (plain_row s what of (parts_of s kids) l).low.labels
plain_labels s kind.Not of kids l = omega arith
plain_labels s kind.And of kids l = omega arith
plain_labels s kind.Or of kids l = omega arith
plain_labels s (kind.Compare o signed) of kids l = omega arith
plain_labels s what of kids l = value_labels s (Core what of 0 kids) l

by_value : (s : Context) (what : CoreKind) (of : CType) (kids : CoreTrees) → PartsKnow s kids → (n : ℕ) (when : Bool) (l : Low) → n < l.labels → IsKnown l
    → Names (branched (tested when n (plain_row s what of (parts_of s kids) l).value) (plain_row s what of (parts_of s kids) l).low)
by_value s what of kids k n when l lt h =
    let r = plain_row s what of (parts_of s kids) l in
    let x = plain_knows s what of kids k l h in
    let y = plain_nodes s what of kids l h.block in
    let e = plain_labels s what of kids l in
    tested_names n when r.value r.low (omega (arith, lt, e)) x.plain y.value y.block x.names

tested_knows : (s : Context) (what : CoreKind) (of : CType) (kids : CoreTrees) → PartsKnow s kids → (n : ℕ) (when : Bool) (l : Low) → n < l.labels → IsKnown l → Names (tested_row s what of (parts_of s kids) n when l)
tested_knows s kind.Not of (Cores a NoCore) k n when l lt h = k.0.1 n (not when) l lt h
tested_knows s kind.And of (Cores a (Cores b NoCore)) k n when l lt h = and_names s a b k.0.1 k.1.0.1 n when l lt h
tested_knows s kind.Or of (Cores a (Cores b NoCore)) k n when l lt h = or_names s a b k.0.1 k.1.0.1 n when l lt h
tested_knows s (kind.Compare o signed) of (Cores a (Cores b NoCore)) k n when l lt h = comparison_names s o signed a b k.0.0 k.1.0.0 n when l lt h
tested_knows s what of kids k n when l lt h = by_value s what of kids k n when l lt h

row_knows : (s : Context) (what : CoreKind) (of : CType) (kids : CoreTrees) → PartsKnow s kids → (l : Low) → IsKnown l → Gives (row s what of (parts_of s kids) l)
row_knows s kind.Not of kids k l h = truth_knows s (Core kind.Not of 0 kids) (λ n when l1 lt h1. tested_knows s kind.Not of kids k n when l1 lt h1) l h
row_knows s kind.And of kids k l h = truth_knows s (Core kind.And of 0 kids) (λ n when l1 lt h1. tested_knows s kind.And of kids k n when l1 lt h1) l h
row_knows s kind.Or of kids k l h = truth_knows s (Core kind.Or of 0 kids) (λ n when l1 lt h1. tested_knows s kind.Or of kids k n when l1 lt h1) l h
row_knows s (kind.Compare o signed) of kids k l h = truth_knows s (Core (kind.Compare o signed) of 0 kids) (λ n when l1 lt h1. tested_knows s (kind.Compare o signed) of kids k n when l1 lt h1) l h
row_knows s what of kids k l h = plain_knows s what of kids k l h

mutual
  pub value_knows : (s : Context) (c : CoreTree) (l : Low) → IsKnown l → Gives (low_e s c l)
  value_knows s (Core what of line kids) l h = row_knows s what of kids (parts_know s kids) l h

  pub test_knows : (s : Context) (c : CoreTree) (n : ℕ) (when : Bool) (l : Low) → n < l.labels → IsKnown l → Names (low_test s c n when l)
  test_knows s (Core what of line kids) n when l lt h = tested_knows s what of kids (parts_know s kids) n when l lt h

  parts_know : (s : Context) (cs : CoreTrees) → PartsKnow s cs
  parts_know s NoCore = tt
  parts_know s (Cores c cs) = ((λ l h. value_knows s c l h, λ n when l lt h. test_knows s c n when l lt h), parts_know s cs)

-- ---- the laws

pub expressions_keep_known : (s : Context) (c : CoreTree) (l : Low) → IsKnown l → IsKnown (low_e s c l).low
expressions_keep_known s c l h = value_known s c (λ l1 h1. value_knows s c l1 h1) l h

pub tests_keep_known : (s : Context) (c : CoreTree) (n : ℕ) (when : Bool) (l : Low) → n < l.labels → IsKnown l → IsKnown (low_test s c n when l)
tests_keep_known s c n when l lt h = test_known s c (λ m w l1 lt1 h1. test_knows s c m w l1 lt1 h1) n when l lt h
