-- What the lowering of expressions and of tests counts: fewer than two slots for each expression, and at most two labels.
use Rattle.std.specs.Prelude.{◌≡◌, ℕ, suc, ◌+◌, ◌*◌, nat_lt, not, Bool}
use Rattle.std.proofs.Common.{arith}
use Rattle.c_types.specs.CType.{CType}
use Rattle.c_meaning.specs.declared.core_expr.Conversion.TheVariants as to
use Rattle.c_meaning.specs.declared.core_expr.CoreKind.{CoreKind}
use Rattle.c_meaning.specs.declared.core_expr.CoreKind.TheVariants as kind
use Rattle.c_meaning.specs.CoreTrees.{Core, NoCore, Cores, parts, all_parts, type_of}
use Rattle.c_meaning.specs.Types.{is_pointer, is_record}
use Rattle.c_meaning.specs.Values.{CoreTree, CoreTrees}
use Rattle.c_runs.specs.Places.{spot_of}
use Rattle.c_rows_agree.specs.Typed.{Typed}
use Rattle.c_rows_agree.specs.Integers.{converted_to, as_pointer, unary_of, binary_of}
use Rattle.c_pointers_agree.specs.Pointers.{moved_among, difference}
use Rattle.lowered_forms.specs.Accesses.{read}
use Rattle.lowered_forms.specs.Calls.{Passed, with_argument, held_for, with_arguments, first_passed, made_with}
use Rattle.lowered_forms.specs.Changes.{assigned_by, changed_at, new_given, old_given}
use Rattle.lowered_forms.specs.Contexts.{Context}
use Rattle.lowered_forms.specs.Expressions.{comma_from, plain_row, tested_row, row, low_e, low_test, parts_of}
use Rattle.lowered_forms.specs.Lows.{Low}
use Rattle.lowered_forms.specs.Places.{local_place, room_of, further}
use Rattle.lowered_forms.specs.Tests.{value_test, truth_of}
use Rattle.lowered_forms.specs.Values.{Lowered, Part, placed, of_two, then_low}
use Rattle.lowered_sizes.specs.Counted.{Counted, Counts}
use Rattle.lowered_sizes.proofs.lemmas.Counting.{one_node, placed_counts, behind, two_counts, value_test_counts, truth_counts, comparison_counts, and_counts, or_counts, conditional_counts}
use Rattle.lowered_sizes.proofs.lemmas.CountedCalls.{node_values, argument_passes, made_counts}
use Rattle.lowered_sizes.proofs.lemmas.CountedRows.{assigned_by_counts, new_counts, old_counts, changed_counts}

abbrev part : Context → CoreTree → Part
part s c = record { tree = c; value = λ l. low_e s c l; test = λ n when l. low_test s c n when l }

-- one less than two for each expression in it
abbrev pub slots_for : CoreTree → ℕ
slots_for (Core what of line kids) = suc (2 * all_parts kids)

pub slots_are : (c : CoreTree) → suc (slots_for c) ≡ 2 * parts c
slots_are (Core what of line kids) = omega arith

module _ (R : Counted) (k : Counts R) (s : Context) where
  pub record Goes (c : CoreTree) : Type 0 where
    pub value : (l : Low) → R (slots_for c) (2 * parts c) l (low_e s c l).low
    pub test : (n : ℕ) (when : Bool) (l : Low) → R (slots_for c) (2 * parts c) l (low_test s c n when l)

  abbrev All : CoreTrees → Type 0
  All NoCore = Unit {0}
  All (Cores c cs) = Goes c × All cs

  -- at most what an expression over these counts
  abbrev Most : CoreTrees → Low → Low → Type 0
  Most kids a b = R (suc (2 * all_parts kids)) (suc (suc (2 * all_parts kids))) a b

  -- and what a test by itself does
  abbrev MostTested : CoreTrees → Low → Low → Type 0
  MostTested kids a b = R (2 * all_parts kids) (suc (2 * all_parts kids)) a b

  none_counts : (kids : CoreTrees) (a b : Low) → R 0 0 a b → Most kids a b
  none_counts kids a b h = k.weakens 0 0 _ _ a b (omega arith) (omega arith) h

  alone_counts : (a : CoreTree) → Goes a → (l : Low) → Most (Cores a NoCore) l (low_e s a l).low
  alone_counts a h l = let e = slots_are a in k.weakens (slots_for a) (2 * parts a) _ _ l _ (omega (arith, e)) (omega arith) (h.value l)

  one_counts : (a : CoreTree) → Goes a → (go : Typed → Typed) (l : Low) → Most (Cores a NoCore) l (then_low (low_e s a l) (λ v l1. placed (go v) l1)).low
  one_counts a h go l = behind R k _ _ l (low_e s a l).low _ (alone_counts a h l) (placed_counts R k (go (low_e s a l).value) (low_e s a l).low)

  two_parts : (a b : CoreTree) → Goes a → Goes b → (go : Typed → Typed → Low → Lowered) → ((v w : Typed) (l : Low) → R 0 0 l (go v w l).low) → (l : Low)
      → Most (Cores a (Cores b NoCore)) l (of_two (part s a) (part s b) l go).low
  two_parts a b f g go h l =
      let e = slots_are a in let d = slots_are b in
      k.weakens (slots_for a + (1 + slots_for b)) (2 * parts a + 2 * parts b) _ _ l _ (omega (arith, e, d)) (omega arith)
      (two_counts R k (slots_for a) (2 * parts a) (slots_for b) (2 * parts b) (part s a) (part s b) f.value g.value go h l)

  -- ---- many parts

  comma_counts : (a : CoreTree) (cs : CoreTrees) → Goes a → All cs → (l : Low) → R (2 * all_parts (Cores a cs)) (2 * all_parts (Cores a cs)) l (comma_from (part s a) (parts_of s cs) l).low
  comma_counts a NoCore f h l = let e = slots_are a in k.weakens (slots_for a) (2 * parts a) _ _ l _ (omega (arith, e)) (omega arith) (f.value l)
  comma_counts a (Cores b cs) f h l =
      let e = slots_are a in
      k.weakens (slots_for a + 2 * all_parts (Cores b cs)) (2 * parts a + 2 * all_parts (Cores b cs)) _ _ l _ (omega (arith, e)) (omega arith)
      (k.joins (slots_for a) (2 * parts a) (2 * all_parts (Cores b cs)) (2 * all_parts (Cores b cs)) l (low_e s a l).low _ (f.value l) (comma_counts b cs h.0 h.1 (low_e s a l).low))

  arguments_count : (cs : CoreTrees) → All cs → (p : Passed) → R (node_values p.values + 2 * all_parts cs) (2 * all_parts cs) p.low (with_arguments s (parts_of s cs) p).low
  arguments_count NoCore h p = k.weakens 0 0 _ _ p.low p.low (omega arith) (omega arith) (k.same p.low)
  arguments_count (Cores c cs) h p =
      let q = with_argument s (part s c) (held_for (part s c) p) in
      let a = argument_passes R k (slots_for c) (2 * parts c) s (part s c) (h.0.value) p in
      let e = slots_are c in
      let d = a.left in
      k.weakens ((a.slots + slots_for c) + (node_values q.values + 2 * all_parts cs)) (2 * parts c + 2 * all_parts cs) _ _ p.low _ (omega (arith, e, d)) (omega arith)
      (k.joins (a.slots + slots_for c) (2 * parts c) (node_values q.values + 2 * all_parts cs) (2 * all_parts cs) p.low q.low _ a.counts (arguments_count cs h.1 q))

  call_counts : (of : CType) (n : ℕ) (f : CoreTree) (cs : CoreTrees) → Goes f → All cs → (l : Low) → Most (Cores f cs) l (made_with s of (with_arguments s (parts_of s cs) (first_passed n (low_e s f l)))).low
  call_counts of n f cs g h l =
      let p = first_passed n (low_e s f l) in
      let q = with_arguments s (parts_of s cs) p in
      let e = slots_are f in
      let d = one_node (low_e s f l).value.tree in
      k.weakens (slots_for f + ((node_values p.values + 2 * all_parts cs) + 1)) (2 * parts f + (2 * all_parts cs + 0)) _ _ l _ (omega (arith, e, d)) (omega arith)
      (k.joins (slots_for f) (2 * parts f) ((node_values p.values + 2 * all_parts cs) + 1) (2 * all_parts cs + 0) l p.low _ (g.value l)
      (k.joins (node_values p.values + 2 * all_parts cs) (2 * all_parts cs) 1 0 p.low q.low _ (arguments_count cs h p) (made_counts R k s of q.next q.values q.low)))

  -- ---- the rows

  plain_counts : (what : CoreKind) (of : CType) (kids : CoreTrees) → All kids → (l : Low) → Most kids l (plain_row s what of (parts_of s kids) l).low
  plain_counts (kind.Local n register) of NoCore h l = none_counts NoCore l _ (placed_counts R k (local_place s n of) l)
  plain_counts (kind.Object n) of NoCore h l = none_counts NoCore l l (k.same l)
  plain_counts (kind.Text n) of NoCore h l = none_counts NoCore l l (k.same l)
  plain_counts (kind.Function n) of NoCore h l = none_counts NoCore l l (k.same l)
  plain_counts (kind.BuiltIn b) of NoCore h l = none_counts NoCore l l (k.same l)
  plain_counts (kind.Number n) of NoCore h l = none_counts NoCore l l (k.same l)
  plain_counts (kind.Member offset first width) of (Cores a NoCore) h l = one_counts a h.0 (λ p. further (nat_lt offset (room_of s a)) offset p) l
  plain_counts kind.Pointed of (Cores a NoCore) h l = alone_counts a h.0 l
  plain_counts kind.Read of (Cores a NoCore) h l = one_counts a h.0 (λ p. read s.order (spot_of a) p) l
  plain_counts kind.Address of (Cores a NoCore) h l = alone_counts a h.0 l
  plain_counts kind.First of (Cores a NoCore) h l = alone_counts a h.0 l
  plain_counts (kind.Convert to.Void) of (Cores a NoCore) h l = alone_counts a h.0 l
  plain_counts (kind.Convert to.Pointer) of (Cores a NoCore) h l = one_counts a h.0 as_pointer l
  plain_counts (kind.Convert (to.Integer x)) of (Cores a NoCore) h l = one_counts a h.0 (λ v. converted_to x v) l
  plain_counts (kind.Unary o) of (Cores a NoCore) h l = one_counts a h.0 (λ v. unary_of o v) l
  plain_counts (kind.Binary o signed) of (Cores a (Cores b NoCore)) h l = two_parts a b h.0 h.1.0 (λ v w l1. placed (binary_of o signed v w) l1) (λ v w l1. placed_counts R k (binary_of o signed v w) l1) l
  plain_counts (kind.Move size back) of (Cores a (Cores b NoCore)) h l =
      two_parts a b h.0 h.1.0 (λ v w l1. placed (moved_among size back (is_pointer (type_of a)) v w) l1) (λ v w l1. placed_counts R k (moved_among size back (is_pointer (type_of a)) v w) l1) l
  plain_counts (kind.Difference size) of (Cores a (Cores b NoCore)) h l = two_parts a b h.0 h.1.0 (λ v w l1. placed (difference size v w) l1) (λ v w l1. placed_counts R k (difference size v w) l1) l
  plain_counts kind.Conditional of (Cores a (Cores b (Cores c NoCore))) h l =
      let e = slots_are a in let d = slots_are b in let f = slots_are c in
      k.weakens (1 + (slots_for a + (slots_for b + slots_for c))) (2 + (2 * parts a + (2 * parts b + 2 * parts c))) _ _ l _ (omega (arith, e, d, f)) (omega arith)
      (conditional_counts R k (slots_for a) (2 * parts a) (slots_for b) (2 * parts b) (slots_for c) (2 * parts c) of (part s a) (part s b) (part s c) h.0.test h.1.0.value h.1.1.0.value l)
  plain_counts kind.Comma of (Cores a cs) h l = k.weakens (2 * all_parts (Cores a cs)) (2 * all_parts (Cores a cs)) _ _ l _ (omega arith) (omega arith) (comma_counts a cs h.0 h.1 l)
  plain_counts kind.Assign of (Cores a (Cores b NoCore)) h l =
      two_parts a b h.0 h.1.0 (λ p v l1. assigned_by (is_record of) s of (spot_of a) p v l1) (λ p v l1. assigned_by_counts R k (is_record of) s of (spot_of a) p v l1) l
  plain_counts (kind.Change by) of (Cores a (Cores b NoCore)) h l =
      two_parts a b h.0 h.1.0 (λ p v l1. changed_at s.order by (spot_of a) new_given p v l1)
      (λ p v l1. changed_counts R k s.order by (spot_of a) new_given (λ q x y l2. new_counts R k s.order (spot_of a) q x y l2) p v l1) l
  plain_counts (kind.Postfix by) of (Cores a (Cores b NoCore)) h l =
      two_parts a b h.0 h.1.0 (λ p v l1. changed_at s.order by (spot_of a) old_given p v l1)
      (λ p v l1. changed_counts R k s.order by (spot_of a) old_given (λ q x y l2. old_counts R k s.order (spot_of a) q x y l2) p v l1) l
  plain_counts (kind.Call n) of (Cores f cs) h l = call_counts of n f cs h.0 h.1 l
  plain_counts what of kids h l = none_counts kids l l (k.same l)

  -- ---- tests by themselves

  few : (kids : CoreTrees) (a b : Low) → R 0 0 a b → MostTested kids a b
  few kids a b h = k.weakens 0 0 _ _ a b (omega arith) (omega arith) h

  nothing_tested : (what : CoreKind) (of : CType) (kids : CoreTrees) → ((l : Low) → R 0 0 l (plain_row s what of (parts_of s kids) l).low) → (n : ℕ) (when : Bool) (l : Low)
      → MostTested kids l (value_test (λ l1. plain_row s what of (parts_of s kids) l1) n when l)
  nothing_tested what of kids h n when l = few kids l _ (value_test_counts R k 0 0 (λ l1. plain_row s what of (parts_of s kids) l1) h n when l)

  not_counts : (of : CType) (kids : CoreTrees) → All kids → (n : ℕ) (when : Bool) (l : Low) → MostTested kids l (tested_row s kind.Not of (parts_of s kids) n when l)
  not_counts of (Cores a NoCore) h n when l = let e = slots_are a in k.weakens (slots_for a) (2 * parts a) _ _ l _ (omega (arith, e)) (omega arith) (h.0.test n (not when) l)
  not_counts of kids h n when l = nothing_tested kind.Not of kids (λ l1. k.same l1) n when l

  both_tests : (a b : CoreTree) (l m : Low) → R (slots_for a + slots_for b) (1 + (2 * parts a + 2 * parts b)) l m → MostTested (Cores a (Cores b NoCore)) l m
  both_tests a b l m h = let e = slots_are a in let d = slots_are b in k.weakens (slots_for a + slots_for b) (1 + (2 * parts a + 2 * parts b)) _ _ l m (omega (arith, e, d)) (omega arith) h

  and_both : (of : CType) (kids : CoreTrees) → All kids → (n : ℕ) (when : Bool) (l : Low) → MostTested kids l (tested_row s kind.And of (parts_of s kids) n when l)
  and_both of (Cores a (Cores b NoCore)) h n when l = both_tests a b l _ (and_counts R k (slots_for a) (2 * parts a) (slots_for b) (2 * parts b) (part s a) (part s b) h.0.test h.1.0.test n when l)
  and_both of kids h n when l = nothing_tested kind.And of kids (λ l1. k.same l1) n when l

  or_both : (of : CType) (kids : CoreTrees) → All kids → (n : ℕ) (when : Bool) (l : Low) → MostTested kids l (tested_row s kind.Or of (parts_of s kids) n when l)
  or_both of (Cores a (Cores b NoCore)) h n when l = both_tests a b l _ (or_counts R k (slots_for a) (2 * parts a) (slots_for b) (2 * parts b) (part s a) (part s b) h.0.test h.1.0.test n when l)
  or_both of kids h n when l = nothing_tested kind.Or of kids (λ l1. k.same l1) n when l

  compared_both : (o : _) (signed : Bool) (of : CType) (kids : CoreTrees) → All kids → (n : ℕ) (when : Bool) (l : Low) → MostTested kids l (tested_row s (kind.Compare o signed) of (parts_of s kids) n when l)
  compared_both o signed of (Cores a (Cores b NoCore)) h n when l =
      let e = slots_are a in let d = slots_are b in
      k.weakens (slots_for a + (1 + slots_for b)) (2 * parts a + 2 * parts b) _ _ l _ (omega (arith, e, d)) (omega arith)
      (comparison_counts R k (slots_for a) (2 * parts a) (slots_for b) (2 * parts b) o signed (part s a) (part s b) h.0.value h.1.0.value n when l)
  compared_both o signed of kids h n when l = nothing_tested (kind.Compare o signed) of kids (λ l1. k.same l1) n when l

  -- ---- values and tests

  more : (kids : CoreTrees) (a b : Low) → MostTested kids a b → Most kids a b
  more kids a b h = k.weakens _ _ _ _ a b (omega arith) (omega arith) h

  tested_counts : (what : CoreKind) (of : CType) (kids : CoreTrees) → All kids → (n : ℕ) (when : Bool) (l : Low) → Most kids l (tested_row s what of (parts_of s kids) n when l)
  tested_counts kind.Not of kids h n when l = more kids l _ (not_counts of kids h n when l)
  tested_counts kind.And of kids h n when l = more kids l _ (and_both of kids h n when l)
  tested_counts kind.Or of kids h n when l = more kids l _ (or_both of kids h n when l)
  tested_counts (kind.Compare o signed) of kids h n when l = more kids l _ (compared_both o signed of kids h n when l)
  tested_counts what of kids h n when l = value_test_counts R k _ _ (λ l1. plain_row s what of (parts_of s kids) l1) (λ l1. plain_counts what of kids h l1) n when l

  number_counts : (what : CoreKind) (of : CType) (kids : CoreTrees) → ((n : ℕ) (when : Bool) (l : Low) → MostTested kids l (tested_row s what of (parts_of s kids) n when l)) → (l : Low)
      → Most kids l (truth_of (λ n when l1. tested_row s what of (parts_of s kids) n when l1) l).low
  number_counts what of kids h l =
      k.weakens (1 + 2 * all_parts kids) (1 + suc (2 * all_parts kids)) _ _ l _ (omega arith) (omega arith)
      (truth_counts R k (2 * all_parts kids) (suc (2 * all_parts kids)) (λ n when l1. tested_row s what of (parts_of s kids) n when l1) h l)

  row_counts : (what : CoreKind) (of : CType) (kids : CoreTrees) → All kids → (l : Low) → Most kids l (row s what of (parts_of s kids) l).low
  row_counts kind.Not of kids h l = number_counts kind.Not of kids (not_counts of kids h) l
  row_counts kind.And of kids h l = number_counts kind.And of kids (and_both of kids h) l
  row_counts kind.Or of kids h l = number_counts kind.Or of kids (or_both of kids h) l
  row_counts (kind.Compare o signed) of kids h l = number_counts (kind.Compare o signed) of kids (compared_both o signed of kids h) l
  row_counts what of kids h l = plain_counts what of kids h l

  -- ---- the induction

  rise : (what : CoreKind) (of : CType) (line : ℕ) (kids : CoreTrees) (a b : Low) → Most kids a b → R (slots_for (Core what of line kids)) (2 * parts (Core what of line kids)) a b
  rise what of line kids a b h = k.weakens _ _ _ _ a b (omega arith) (omega arith) h

  mutual
    pub value_counts : (e : CoreTree) (l : Low) → R (slots_for e) (2 * parts e) l (low_e s e l).low
    value_counts (Core what of line kids) l = rise what of line kids l _ (row_counts what of kids (all_count kids) l)

    pub test_counts : (e : CoreTree) (n : ℕ) (when : Bool) (l : Low) → R (slots_for e) (2 * parts e) l (low_test s e n when l)
    test_counts (Core what of line kids) n when l = rise what of line kids l _ (tested_counts what of kids (all_count kids) n when l)

    all_count : (cs : CoreTrees) → All cs
    all_count NoCore = tt
    all_count (Cores c cs) = (record { value = λ l. value_counts c l; test = λ n when l. test_counts c n when l }, all_count cs)
