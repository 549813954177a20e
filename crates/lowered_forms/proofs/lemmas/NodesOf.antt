-- What expressions come to finds nodes of the block that is open then.
use Rattle.std.specs.Prelude.{◌≡◌, ℕ, nat_lt, not, Bool, true, false, ℤ, [], slice_get}
use Rattle.std.proofs.Common.{refl}
use Rattle.op_forest.specs.declared.suffix.Suffix.TheVariants.{I}
use Rattle.c_types.specs.CType.{CType}
use Rattle.c_meaning.specs.declared.core_expr.Conversion.TheVariants as to
use Rattle.c_meaning.specs.declared.core_expr.CoreKind.{CoreKind}
use Rattle.c_meaning.specs.declared.core_expr.CoreKind.TheVariants as kind
use Rattle.c_meaning.specs.CoreTrees.{Core, NoCore, Cores, type_of}
use Rattle.c_meaning.specs.Scalars.{is_signed}
use Rattle.c_meaning.specs.Types.{is_pointer, is_record}
use Rattle.c_meaning.specs.Values.{CoreTree, CoreTrees}
use Rattle.c_runs.specs.Places.{spot_of}
use Rattle.c_rows_agree.specs.Typed.{Typed}
use Rattle.c_rows_agree.specs.Integers.{number, converted_to, as_pointer, unary_of, binary_of}
use Rattle.c_pointers_agree.specs.Pointers.{moved_among, difference}
use Rattle.lowered_forms.specs.Accesses.{read}
use Rattle.lowered_forms.specs.Blocks.{IsBlock}
use Rattle.lowered_forms.specs.Calls.{Passed, with_argument, held_for, with_arguments, first_passed}
use Rattle.lowered_forms.specs.Changes.{assigned_by, changed_at, new_given, old_given}
use Rattle.lowered_forms.specs.Conditionals.{sort_of, sort_read, Sort, Nothing, Word, Place, both_ways}
use Rattle.lowered_forms.specs.Contexts.{Context}
use Rattle.lowered_forms.specs.Expressions.{comma_from, plain_row, tested_row, row, low_e, low_test, parts_of}
use Rattle.lowered_forms.specs.Lows.{Low, with_label, with_slot, slot_offset}
use Rattle.lowered_forms.specs.Nodes.{HasNodes}
use Rattle.lowered_forms.specs.Places.{local_place, is_passed_whole, room_of, further}
use Rattle.lowered_forms.specs.Tests.{truth_in, truth_of}
use Rattle.lowered_forms.specs.Values.{Part, placed, slot_read}
use Rattle.lowered_forms.proofs.lemmas.WithinTemplates.{HasIn, as_p_in, converted_in, unary_in, binary_in, among_in, difference_in, further_in, local_in, read_in, slot_in}
use Rattle.lowered_forms.proofs.lemmas.Pending.{nodes, IsPending, pending_in, Comes, empty_block, placed_comes, PartComes}
use Rattle.lowered_forms.proofs.lemmas.NodesOfChanges.{straight_grows, two_come, assigned_by_come, new_come, old_come, changed_come}
use Rattle.lowered_forms.proofs.lemmas.NodesOfCalls.{PassedComes, argument_comes, made_come}

-- ---- the parts of an expression

abbrev part : Context → CoreTree → Part
part s c = record { tree = c; value = λ l. low_e s c l; test = λ n when l. low_test s c n when l }

abbrev PartsCome : Context → CoreTrees → Type 0
PartsCome s NoCore = Unit {0}
PartsCome s (Cores c cs) = PartComes (part s c) × PartsCome s cs

comma_comes : (s : Context) (a : CoreTree) (cs : CoreTrees) → PartComes (part s a) → PartsCome s cs → (l : Low) → IsBlock l.entries → Comes (comma_from (part s a) (parts_of s cs) l)
comma_comes s a NoCore p h l b = p.value l b
comma_comes s a (Cores c cs) p h l b = comma_comes s c cs h.0 h.1 (low_e s a l).low (p.value l b).block

arguments_come : (s : Context) (cs : CoreTrees) → PartsCome s cs → (p : Passed) → PassedComes p → PassedComes (with_arguments s (parts_of s cs) p)
arguments_come s NoCore h p c = c
arguments_come s (Cores a cs) h p c = arguments_come s cs h.1 (with_argument s (part s a) (held_for (part s a) p)) (argument_comes s (part s a) h.0 p c)

one_comes : (s : Context) (a : CoreTree) → PartComes (part s a) → (go : Typed → Typed) → ((n : ℕ) (v : Typed) → HasIn n v → HasIn n (go v)) → (l : Low) → IsBlock l.entries
    → Comes (placed (go (low_e s a l).value) (low_e s a l).low)
one_comes s a p go h l b =
    let c = p.value l b in
    let n = nodes (low_e s a l).low in
    placed_comes (go (low_e s a l).value) (low_e s a l).low c.block (h n (low_e s a l).value (pending_in n (low_e s a l).value.tree c.value))

-- ---- the rows

sort_in : (n : ℕ) (sort : Sort) (z : ℤ) → HasIn n (sort_read sort z)
sort_in n Nothing z = tt
sort_in n Word z = tt
sort_in n Place z = tt

number_pending : (n : ℕ) (signed : Bool) (m : ℕ) → IsPending n (number signed m).tree
number_pending n true m = tt
number_pending n false m = tt

plain_comes : (s : Context) (what : CoreKind) (of : CType) (kids : CoreTrees) → PartsCome s kids → (l : Low) → IsBlock l.entries → Comes (plain_row s what of (parts_of s kids) l)
plain_comes s (kind.Local n register) of NoCore h l b = placed_comes (local_place s n of) l b (local_in (nodes l) (is_passed_whole s n of) (slice_get s.places n))
plain_comes s (kind.Object n) of NoCore h l b = record { block = b; value = tt }
plain_comes s (kind.Text n) of NoCore h l b = record { block = b; value = tt }
plain_comes s (kind.Function n) of NoCore h l b = record { block = b; value = tt }
plain_comes s (kind.BuiltIn c) of NoCore h l b = record { block = b; value = tt }
plain_comes s (kind.Number n) of NoCore h l b = record { block = b; value = number_pending (nodes l) (is_signed of) n }
plain_comes s kind.Pointed of (Cores a NoCore) h l b = h.0.value l b
plain_comes s (kind.Member offset first width) of (Cores a NoCore) h l b =
    one_comes s a h.0 (λ p. further (nat_lt offset (room_of s a)) offset p) (λ n p f. further_in n (nat_lt offset (room_of s a)) offset p f) l b
plain_comes s kind.Read of (Cores a NoCore) h l b = one_comes s a h.0 (λ p. read s.order (spot_of a) p) (λ n p f. read_in n s.order (spot_of a) p f) l b
plain_comes s kind.Address of (Cores a NoCore) h l b = h.0.value l b
plain_comes s kind.First of (Cores a NoCore) h l b = h.0.value l b
plain_comes s (kind.Convert to.Void) of (Cores a NoCore) h l b = record { block = (h.0.value l b).block; value = tt }
plain_comes s (kind.Convert to.Pointer) of (Cores a NoCore) h l b = one_comes s a h.0 as_pointer (λ n v f. as_p_in n v.suffix v.tree f) l b
plain_comes s (kind.Convert (to.Integer x)) of (Cores a NoCore) h l b = one_comes s a h.0 (λ v. converted_to x v) (λ n v f. converted_in n x.width x.signed v f) l b
plain_comes s (kind.Unary o) of (Cores a NoCore) h l b = one_comes s a h.0 (λ v. unary_of o v) (λ n v f. unary_in n o v f) l b
plain_comes s (kind.Binary o signed) of (Cores a (Cores c NoCore)) h l b =
    two_come (part s a) (part s c) h.0 h.1.0 (λ v w l1. placed (binary_of o signed v w) l1) (λ v w l1 e f g. placed_comes (binary_of o signed v w) l1 e (binary_in (nodes l1) o signed v w f g)) l b
plain_comes s (kind.Move size back) of (Cores a (Cores c NoCore)) h l b =
    two_come (part s a) (part s c) h.0 h.1.0 (λ v w l1. placed (moved_among size back (is_pointer (type_of a)) v w) l1)
    (λ v w l1 e f g. placed_comes (moved_among size back (is_pointer (type_of a)) v w) l1 e (among_in (nodes l1) size back (is_pointer (type_of a)) v w f g)) l b
plain_comes s (kind.Difference size) of (Cores a (Cores c NoCore)) h l b =
    two_come (part s a) (part s c) h.0 h.1.0 (λ v w l1. placed (difference size v w) l1) (λ v w l1 e f g. placed_comes (difference size v w) l1 e (difference_in (nodes l1) size v w f g)) l b
plain_comes s kind.Conditional of (Cores a (Cores c (Cores d NoCore))) h l b =
    let l1 = both_ways (sort_of of) (slot_offset l) (part s a) (part s c) (part s d) l.labels (with_label (with_slot l)).labels (with_label (with_label (with_slot l))) in
    placed_comes (sort_read (sort_of of) (slot_offset l)) l1 empty_block (sort_in (nodes l1) (sort_of of) (slot_offset l))
plain_comes s kind.Comma of (Cores a cs) h l b = comma_comes s a cs h.0 h.1 l b
plain_comes s kind.Assign of (Cores a (Cores c NoCore)) h l b =
    two_come (part s a) (part s c) h.0 h.1.0 (λ p v l1. assigned_by (is_record of) s of (spot_of a) p v l1) (assigned_by_come (is_record of) s of (spot_of a)) l b
plain_comes s (kind.Change by) of (Cores a (Cores c NoCore)) h l b =
    two_come (part s a) (part s c) h.0 h.1.0 (λ p v l1. changed_at s.order by (spot_of a) new_given p v l1)
    (changed_come s.order by (spot_of a) new_given (λ p old new l1 e f g i. new_come s.order (spot_of a) p old new l1 e f (pending_in (nodes l1) old.tree g) i)) l b
plain_comes s (kind.Postfix by) of (Cores a (Cores c NoCore)) h l b =
    two_come (part s a) (part s c) h.0 h.1.0 (λ p v l1. changed_at s.order by (spot_of a) old_given p v l1)
    (changed_come s.order by (spot_of a) old_given (λ p old new l1 e f g i. old_come s.order (spot_of a) p old new l1 e f g i)) l b
plain_comes s (kind.Call n) of (Cores f cs) h l b =
    let c = h.0.value l b in
    let p = first_passed n (low_e s f l) in
    let q = with_arguments s (parts_of s cs) p in
    let d = arguments_come s cs h.1 p (record { block = c.block; values = (c.value, tt) }) in
    made_come s of q.next q.values q.low d.block d.values
plain_comes s what of kids h l b = record { block = b; value = tt }

truth_comes : (test : ℕ → Bool → Low → Low) (l : Low) → Comes (truth_of test l)
truth_comes test l =
    let l1 = truth_in test (slot_offset l) (with_slot l) in
    placed_comes (slot_read I (slot_offset l)) l1 empty_block (slot_in (nodes l1) I (slot_offset l))

row_comes : (s : Context) (what : CoreKind) (of : CType) (kids : CoreTrees) → PartsCome s kids → (l : Low) → IsBlock l.entries → Comes (row s what of (parts_of s kids) l)
row_comes s kind.Not of kids h l b = truth_comes (λ n when l1. tested_row s kind.Not of (parts_of s kids) n when l1) l
row_comes s kind.And of kids h l b = truth_comes (λ n when l1. tested_row s kind.And of (parts_of s kids) n when l1) l
row_comes s kind.Or of kids h l b = truth_comes (λ n when l1. tested_row s kind.Or of (parts_of s kids) n when l1) l
row_comes s (kind.Compare o signed) of kids h l b = truth_comes (λ n when l1. tested_row s (kind.Compare o signed) of (parts_of s kids) n when l1) l
row_comes s what of kids h l b = plain_comes s what of kids h l b

mutual
  pub value_comes : (s : Context) (e : CoreTree) (l : Low) → IsBlock l.entries → Comes (low_e s e l)
  value_comes s (Core what of line kids) l b = row_comes s what of kids (parts_come s kids) l b

  parts_come : (s : Context) (cs : CoreTrees) → PartsCome s cs
  parts_come s NoCore = tt
  parts_come s (Cores c cs) = (record { value = λ l b. value_comes s c l b; grows = λ e l. straight_grows s c e l }, parts_come s cs)

pub values_have_nodes : (s : Context) (e : CoreTree) (l : Low) → IsBlock l.entries → HasNodes (low_e s e l)
values_have_nodes s e l b = let c = value_comes s e l b in record { block = c.block; value = pending_in (nodes (low_e s e l).low) (low_e s e l).value.tree c.value }

-- ---- tests

abbrev TestsEnd : Context → CoreTrees → Type 0
TestsEnd s NoCore = Unit {0}
TestsEnd s (Cores c cs) = ((n : ℕ) (when : Bool) (l : Low) → (low_test s c n when l).entries ≡ []) × TestsEnd s cs

tested_ends : (s : Context) (what : CoreKind) (of : CType) (kids : CoreTrees) → TestsEnd s kids → (n : ℕ) (when : Bool) (l : Low) → (tested_row s what of (parts_of s kids) n when l).entries ≡ []
tested_ends s kind.Not of (Cores a NoCore) h n when l = h.0 n (not when) l
tested_ends s kind.And of (Cores a (Cores b NoCore)) h n true l = refl
tested_ends s kind.And of (Cores a (Cores b NoCore)) h n false l = h.1.0 n false (low_test s a n false l)
tested_ends s kind.Or of (Cores a (Cores b NoCore)) h n true l = h.1.0 n true (low_test s a n true l)
tested_ends s kind.Or of (Cores a (Cores b NoCore)) h n false l = refl
tested_ends s (kind.Compare o signed) of (Cores a (Cores b NoCore)) h n when l = refl
tested_ends s what of kids h n when l = refl

mutual
  pub test_ends : (s : Context) (e : CoreTree) (n : ℕ) (when : Bool) (l : Low) → (low_test s e n when l).entries ≡ []
  test_ends s (Core what of line kids) n when l = tested_ends s what of kids (tests_end s kids) n when l

  tests_end : (s : Context) (cs : CoreTrees) → TestsEnd s cs
  tests_end s NoCore = tt
  tests_end s (Cores c cs) = (λ n when l. test_ends s c n when l, tests_end s cs)
