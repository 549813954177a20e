-- The lowering of an expression, and of a test, marks each label that it uses once, and no other one.
use Rattle.std.specs.Prelude.{ℕ, suc, nat_lt, Bool, true, false, not, ℤ, List, [], ◌∷◌}
use Rattle.std.proofs.Common.{arith}
use Rattle.objects.specs.declared.operators.Comparison.{Comparison}
use Rattle.op_forest.specs.declared.suffix.Suffix.TheVariants.{I}
use Rattle.c_types.specs.CType.{CType}
use Rattle.c_meaning.specs.declared.core_expr.Conversion.TheVariants as to
use Rattle.c_meaning.specs.declared.core_expr.CoreKind.{CoreKind}
use Rattle.c_meaning.specs.declared.core_expr.CoreKind.TheVariants as kind
use Rattle.c_meaning.specs.CoreTrees.{Core, NoCore, Cores, type_of}
use Rattle.c_meaning.specs.Types.{is_pointer, is_record}
use Rattle.c_meaning.specs.Values.{CoreTree, CoreTrees}
use Rattle.c_runs.specs.Places.{spot_of}
use Rattle.c_rows_agree.specs.Integers.{number, converted_to, as_pointer, unary_of, binary_of, tested, compared}
use Rattle.c_rows_agree.specs.Templates.{Template, Given, Leaf, One, Two, Root}
use Rattle.c_rows_agree.specs.Typed.{Typed}
use Rattle.c_pointers_agree.specs.Pointers.{moved_among, difference}
use Rattle.lowered_forms.specs.Accesses.{read}
use Rattle.lowered_forms.specs.Calls.{Passed, all_held, with_argument, held_for, with_arguments, first_passed, passed_by}
use Rattle.lowered_forms.specs.Changes.{assigned_by, changed_at, new_given, old_given}
use Rattle.lowered_forms.specs.Conditionals.{Sort, Nothing, Word, Place, sort_of, kept_in, sort_read, with_ways}
use Rattle.lowered_forms.specs.Contexts.{Context}
use Rattle.lowered_forms.specs.Expressions.{comma_from, plain_row, tested_row, row, low_e, low_test, parts_of}
use Rattle.lowered_forms.specs.Lows.{Low, acted, branched, jumped, marked, with_label, with_slot, slot_offset}
use Rattle.lowered_forms.specs.Places.{local_place, further, room_of}
use Rattle.lowered_forms.specs.Steps.{Relation, Steps}
use Rattle.lowered_forms.specs.Straight.{straight}
use Rattle.lowered_forms.specs.Tests.{comparison_test, compares_signed, and_test, or_test, truth_in, truth_of}
use Rattle.lowered_forms.specs.Values.{Lowered, Part, held, of_two, saved_tree, slot_read, stored_in, placed}
use Rattle.lowered_forms.proofs.lemmas.Calling.{made_steps}
use Rattle.lowered_forms.proofs.lemmas.Changing.{assigned_by_steps, changed_steps, new_steps, old_steps}
use Rattle.lowered_forms.proofs.lemmas.Stepping.{placed_steps}
use Rattle.lowered_labels.specs.Marks.{Marks}
use Rattle.lowered_labels.proofs.lemmas.Counting.{marks_same, marks_on, marks_ended, marks_jumped, marks_past, label_counts, mark_counts}

-- ---- steps without a label

abbrev marking : Relation
marking n a b = Marks [] a b

marking_steps : Steps marking
marking_steps = record {
  same = λ l. marks_same l;
  joins = λ m n a b d x y. marks_on a b d x y;
  weakens = λ m n a b h x. x;
  asks = λ t l. record { counts = λ n. omega arith };
  acts = λ r l. record { counts = λ n. omega arith };
  acts_one = λ h t l. record { counts = λ n. omega arith };
  slot = λ l. record { counts = λ n. omega arith };
}

abbrev part : Context → CoreTree → Part
part s c = record { tree = c; value = λ l. low_e s c l; test = λ n when l. low_test s c n when l }

abbrev ValueMarks : Part → Type 0
ValueMarks a = (l : Low) → Marks [] l (a.value l).low

abbrev TestMarks : Part → Type 0
TestMarks a = (n : ℕ) (when : Bool) (l : Low) → Marks [] l (a.test n when l)

-- ---- operands

saved_marks : (t : Template) (a : Typed) (l : Low) → Marks [] l (saved_tree t a l).low
saved_marks (Given n) a l = record { counts = λ m. omega arith }
saved_marks (Leaf h) a l = marks_same l
saved_marks (One h x) a l = marks_same l
saved_marks (Two h x y) a l = marks_same l

held_marks : (b : Bool) (a : Typed) (l : Low) → Marks [] l (held b a l).low
held_marks true a l = marks_same l
held_marks false a l = saved_marks a.tree a l

placed_marks : (a : Typed) (l : Low) → Marks [] l (placed a l).low
placed_marks a l = placed_steps marking marking_steps a l

two_mark : (a b : Part) → ValueMarks a → ValueMarks b → (go : Typed → Typed → Low → Lowered) → ((v w : Typed) (l : Low) → Marks [] l (go v w l).low) → (l : Low) → Marks [] l (of_two a b l go).low
two_mark a b f g go h l =
    let v = a.value l in
    let x = held (straight b.tree) v.value v.low in
    let y = b.value x.low in
    marks_on l v.low _ (f l) (marks_on v.low x.low _ (held_marks (straight b.tree) v.value v.low) (marks_on x.low y.low _ (g x.low) (h x.value y.value y.low)))

one_marks : (s : Context) (a : CoreTree) → ValueMarks (part s a) → (go : Typed → Typed) → (l : Low) → Marks [] l (placed (go (low_e s a l).value) (low_e s a l).low).low
one_marks s a f go l = marks_on l (low_e s a l).low _ (f l) (placed_marks (go (low_e s a l).value) (low_e s a l).low)

-- ---- tests

branched_marks : (r : Root) (l : Low) → Marks [] l (branched r l)
branched_marks r l = record { counts = (marks_ended (acted r l)).counts }

past_marks : (go : ℕ → Low → Low) → ((m : ℕ) (l : Low) → Marks [] l (go m l)) → (l : Low) → Marks [] l (marked l.labels (go l.labels (with_label l)))
past_marks go h l = marks_past [] l (go l.labels (with_label l)) (h l.labels (with_label l))

value_test_marks : (value : Low → Lowered) → ((l : Low) → Marks [] l (value l).low) → (n : ℕ) (when : Bool) (l : Low) → Marks [] l (branched (tested when n (value l).value) (value l).low)
value_test_marks value f n when l = marks_on l (value l).low _ (f l) (branched_marks (tested when n (value l).value) (value l).low)

comparison_marks : (o : Comparison) (signed : Bool) (a b : Part) → ValueMarks a → ValueMarks b → (n : ℕ) (when : Bool) (l : Low) → Marks [] l (comparison_test o signed a b n when l)
comparison_marks o signed a b f g n when l =
    let v = a.value l in
    let x = held (straight b.tree) v.value v.low in
    let y = b.value x.low in
    marks_on l v.low _ (f l)
    (marks_on v.low x.low _ (held_marks (straight b.tree) v.value v.low)
    (marks_on x.low y.low _ (g x.low) (branched_marks (compared o (compares_signed (type_of a.tree) signed) when n x.value y.value) y.low)))

and_marks : (a b : Part) → TestMarks a → TestMarks b → (n : ℕ) (when : Bool) (l : Low) → Marks [] l (and_test a b n when l)
and_marks a b f g n true l = past_marks (λ m l1. b.test n true (a.test m false l1)) (λ m l1. marks_on l1 (a.test m false l1) _ (f m false l1) (g n true (a.test m false l1))) l
and_marks a b f g n false l = marks_on l (a.test n false l) _ (f n false l) (g n false (a.test n false l))

or_marks : (a b : Part) → TestMarks a → TestMarks b → (n : ℕ) (when : Bool) (l : Low) → Marks [] l (or_test a b n when l)
or_marks a b f g n true l = marks_on l (a.test n true l) _ (f n true l) (g n true (a.test n true l))
or_marks a b f g n false l = past_marks (λ m l1. b.test n false (a.test m true l1)) (λ m l1. marks_on l1 (a.test m true l1) _ (f m true l1) (g n false (a.test m true l1))) l

truth_marks : (test : ℕ → Bool → Low → Low) → ((n : ℕ) (when : Bool) (l : Low) → Marks [] l (test n when l)) → (l : Low) → Marks [] l (truth_of test l).low
truth_marks test h l =
    let z = slot_offset l in
    let l1 = with_slot l in
    marks_on l (truth_in test z l1) _
    (record {
      counts = (past_marks (λ m l2. stored_in z (number true 1) (test m false (stored_in z (number true 0) l2))) (λ m l2. record { counts = (h m false (stored_in z (number true 0) l2)).counts }) l1).counts;
    })
    (placed_marks (slot_read I z) (truth_in test z l1))

-- ---- conditionals

kept_marks : (sort : Sort) (z : ℤ) (r : Lowered) → Marks [] r.low (kept_in sort z r)
kept_marks Nothing z r = marks_same r.low
kept_marks Word z r = record { counts = λ n. omega arith }
kept_marks Place z r = record { counts = λ n. omega arith }

conditional_marks : (sort : Sort) (z : ℤ) (a b c : Part) → TestMarks a → ValueMarks b → ValueMarks c → (l : Low) → Marks [] l (with_ways sort z a b c l).low
conditional_marks sort z a b c f g h l =
    let n = l.labels in
    let end = suc l.labels in
    let l2 = with_label (with_label l) in
    let l3 = a.test n false l2 in
    let l4 = kept_in sort z (b.value l3) in
    let l5 = jumped end l4 in
    let l6 = marked n l5 in
    let l7 = kept_in sort z (c.value l6) in
    let l8 = marked end l7 in
    marks_on l l8 _
    (record {
      counts = λ m.
          let e1 = label_counts m l in
          let e2 = label_counts m (with_label l) in
          let e3 = (f n false l2).counts m in
          let e4 = (marks_on l3 (b.value l3).low l4 (g l3) (kept_marks sort z (b.value l3))).counts m in
          let e5 = (marks_jumped end l4).counts m in
          let e6 = mark_counts n m l5 in
          let e7 = (marks_on l6 (c.value l6).low l7 (h l6) (kept_marks sort z (c.value l6))).counts m in
          let e8 = mark_counts end m l7 in
          omega (arith, e1, e2, e3, e4, e5, e6, e7, e8);
    })
    (placed_marks (sort_read sort z) l8)

-- ---- calls

all_held_marks : (b : Bool) (n : ℕ) (vs : List Typed) (l : Low) → Marks [] l (all_held b n vs l).low
all_held_marks b n [] l = marks_same l
all_held_marks b n (v ∷ vs) l = marks_on l (held b v l).low _ (held_marks b v l) (all_held_marks b n vs (held b v l).low)

passed_marks : (b : Bool) (s : Context) (of : CType) (p : Passed) (r : Lowered) → Marks [] r.low (passed_by b s of p r).low
passed_marks true s of p r = record { counts = λ n. omega arith }
passed_marks false s of p r = marks_same r.low

argument_marks : (s : Context) (a : Part) → ValueMarks a → (p : Passed) → Marks [] p.low (with_argument s a (held_for a p)).low
argument_marks s a f p =
    let q = held_for a p in
    let r = a.value q.low in
    marks_on p.low q.low _ (all_held_marks (straight a.tree) p.next p.values p.low) (marks_on q.low r.low _ (f q.low) (passed_marks (is_record (type_of a.tree)) s (type_of a.tree) q r))

abbrev PartsMark : Context → CoreTrees → Type 0
PartsMark s NoCore = Unit {0}
PartsMark s (Cores c cs) = (ValueMarks (part s c) × TestMarks (part s c)) × PartsMark s cs

arguments_mark : (s : Context) (cs : CoreTrees) → PartsMark s cs → (p : Passed) → Marks [] p.low (with_arguments s (parts_of s cs) p).low
arguments_mark s NoCore h p = marks_same p.low
arguments_mark s (Cores c cs) h p =
    let q = with_argument s (part s c) (held_for (part s c) p) in
    marks_on p.low q.low _ (argument_marks s (part s c) h.0.0 p) (arguments_mark s cs h.1 q)

comma_marks : (s : Context) (a : CoreTree) (cs : CoreTrees) → ValueMarks (part s a) → PartsMark s cs → (l : Low) → Marks [] l (comma_from (part s a) (parts_of s cs) l).low
comma_marks s a NoCore f h l = f l
comma_marks s a (Cores b cs) f h l = marks_on l (low_e s a l).low _ (f l) (comma_marks s b cs h.0.0 h.1 (low_e s a l).low)

-- ---- the rows

plain_marks : (s : Context) (what : CoreKind) (of : CType) (kids : CoreTrees) → PartsMark s kids → (l : Low) → Marks [] l (plain_row s what of (parts_of s kids) l).low
plain_marks s (kind.Local n register) of NoCore h l = placed_marks (local_place s n of) l
plain_marks s (kind.Object n) of NoCore h l = marks_same l
plain_marks s (kind.Text n) of NoCore h l = marks_same l
plain_marks s (kind.Function n) of NoCore h l = marks_same l
plain_marks s (kind.BuiltIn b) of NoCore h l = marks_same l
plain_marks s (kind.Number n) of NoCore h l = marks_same l
plain_marks s (kind.Member offset first width) of (Cores a NoCore) h l = one_marks s a h.0.0 (λ p. further (nat_lt offset (room_of s a)) offset p) l
plain_marks s kind.Pointed of (Cores a NoCore) h l = h.0.0 l
plain_marks s kind.Read of (Cores a NoCore) h l = one_marks s a h.0.0 (λ p. read s.order (spot_of a) p) l
plain_marks s kind.Address of (Cores a NoCore) h l = h.0.0 l
plain_marks s kind.First of (Cores a NoCore) h l = h.0.0 l
plain_marks s (kind.Convert to.Void) of (Cores a NoCore) h l = h.0.0 l
plain_marks s (kind.Convert to.Pointer) of (Cores a NoCore) h l = one_marks s a h.0.0 as_pointer l
plain_marks s (kind.Convert (to.Integer x)) of (Cores a NoCore) h l = one_marks s a h.0.0 (λ v. converted_to x v) l
plain_marks s (kind.Unary o) of (Cores a NoCore) h l = one_marks s a h.0.0 (λ v. unary_of o v) l
plain_marks s (kind.Binary o signed) of (Cores a (Cores b NoCore)) h l =
    two_mark (part s a) (part s b) h.0.0 h.1.0.0 (λ v w l1. placed (binary_of o signed v w) l1) (λ v w l1. placed_marks (binary_of o signed v w) l1) l
plain_marks s (kind.Move size back) of (Cores a (Cores b NoCore)) h l =
    two_mark (part s a) (part s b) h.0.0 h.1.0.0 (λ v w l1. placed (moved_among size back (is_pointer (type_of a)) v w) l1) (λ v w l1. placed_marks (moved_among size back (is_pointer (type_of a)) v w) l1) l
plain_marks s (kind.Difference size) of (Cores a (Cores b NoCore)) h l =
    two_mark (part s a) (part s b) h.0.0 h.1.0.0 (λ v w l1. placed (difference size v w) l1) (λ v w l1. placed_marks (difference size v w) l1) l
plain_marks s kind.Conditional of (Cores a (Cores b (Cores c NoCore))) h l =
    record { counts = (conditional_marks (sort_of of) (slot_offset l) (part s a) (part s b) (part s c) h.0.1 h.1.0.0 h.1.1.0.0 (with_slot l)).counts }
plain_marks s kind.Comma of (Cores a cs) h l = comma_marks s a cs h.0.0 h.1 l
plain_marks s kind.Assign of (Cores a (Cores b NoCore)) h l =
    two_mark (part s a) (part s b) h.0.0 h.1.0.0 (λ p v l1. assigned_by (is_record of) s of (spot_of a) p v l1) (λ p v l1. assigned_by_steps marking marking_steps (is_record of) s of (spot_of a) p v l1) l
plain_marks s (kind.Change by) of (Cores a (Cores b NoCore)) h l =
    two_mark (part s a) (part s b) h.0.0 h.1.0.0 (λ p v l1. changed_at s.order by (spot_of a) new_given p v l1)
    (λ p v l1. changed_steps marking marking_steps s.order by (spot_of a) new_given (λ q x z l2. new_steps marking marking_steps s.order (spot_of a) q x z l2) p v l1) l
plain_marks s (kind.Postfix by) of (Cores a (Cores b NoCore)) h l =
    two_mark (part s a) (part s b) h.0.0 h.1.0.0 (λ p v l1. changed_at s.order by (spot_of a) old_given p v l1)
    (λ p v l1. changed_steps marking marking_steps s.order by (spot_of a) old_given (λ q x z l2. old_steps marking marking_steps s.order (spot_of a) q x z l2) p v l1) l
plain_marks s (kind.Call n) of (Cores f cs) h l =
    let p = first_passed n (low_e s f l) in
    let q = with_arguments s (parts_of s cs) p in
    marks_on l p.low _ (h.0.0 l) (marks_on p.low q.low _ (arguments_mark s cs h.1 p) (made_steps marking marking_steps s of q.next q.values q.low))
plain_marks s what of kids h l = marks_same l

tested_marks : (s : Context) (what : CoreKind) (of : CType) (kids : CoreTrees) → PartsMark s kids → (n : ℕ) (when : Bool) (l : Low) → Marks [] l (tested_row s what of (parts_of s kids) n when l)
tested_marks s kind.Not of (Cores a NoCore) h n when l = h.0.1 n (not when) l
tested_marks s kind.And of (Cores a (Cores b NoCore)) h n when l = and_marks (part s a) (part s b) h.0.1 h.1.0.1 n when l
tested_marks s kind.Or of (Cores a (Cores b NoCore)) h n when l = or_marks (part s a) (part s b) h.0.1 h.1.0.1 n when l
tested_marks s (kind.Compare o signed) of (Cores a (Cores b NoCore)) h n when l = comparison_marks o signed (part s a) (part s b) h.0.0 h.1.0.0 n when l
tested_marks s what of kids h n when l = value_test_marks (λ l1. plain_row s what of (parts_of s kids) l1) (λ l1. plain_marks s what of kids h l1) n when l

row_marks : (s : Context) (what : CoreKind) (of : CType) (kids : CoreTrees) → PartsMark s kids → (l : Low) → Marks [] l (row s what of (parts_of s kids) l).low
row_marks s kind.Not of kids h l = truth_marks (λ n when l1. tested_row s kind.Not of (parts_of s kids) n when l1) (λ n when l1. tested_marks s kind.Not of kids h n when l1) l
row_marks s kind.And of kids h l = truth_marks (λ n when l1. tested_row s kind.And of (parts_of s kids) n when l1) (λ n when l1. tested_marks s kind.And of kids h n when l1) l
row_marks s kind.Or of kids h l = truth_marks (λ n when l1. tested_row s kind.Or of (parts_of s kids) n when l1) (λ n when l1. tested_marks s kind.Or of kids h n when l1) l
row_marks s (kind.Compare o signed) of kids h l =
    truth_marks (λ n when l1. tested_row s (kind.Compare o signed) of (parts_of s kids) n when l1) (λ n when l1. tested_marks s (kind.Compare o signed) of kids h n when l1) l
row_marks s what of kids h l = plain_marks s what of kids h l

mutual
  pub value_marks : (s : Context) (e : CoreTree) (l : Low) → Marks [] l (low_e s e l).low
  value_marks s (Core what of line kids) l = row_marks s what of kids (parts_mark s kids) l

  pub test_marks : (s : Context) (e : CoreTree) (n : ℕ) (when : Bool) (l : Low) → Marks [] l (low_test s e n when l)
  test_marks s (Core what of line kids) n when l = tested_marks s what of kids (parts_mark s kids) n when l

  parts_mark : (s : Context) (cs : CoreTrees) → PartsMark s cs
  parts_mark s NoCore = tt
  parts_mark s (Cores c cs) = ((λ l. value_marks s c l, λ n when l. test_marks s c n when l), parts_mark s cs)
