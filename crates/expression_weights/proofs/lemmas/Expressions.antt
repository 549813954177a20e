-- What the lowering of expressions and of tests adds.
use Rattle.std.specs.Prelude.{◌≡◌, ◌≤◌, refl, ℕ, suc, ◌+◌, ◌*◌, nat_lt, not, Bool, true, slice_get}
use Rattle.std.proofs.Common.{arith}
use Rattle.objects.specs.declared.operators.Comparison.{Comparison}
use Rattle.c_types.specs.CType.{CType}
use Rattle.c_meaning.specs.declared.core_expr.Conversion.TheVariants as to
use Rattle.c_meaning.specs.declared.core_expr.CoreKind.{CoreKind}
use Rattle.c_meaning.specs.declared.core_expr.CoreKind.TheVariants as kind
use Rattle.c_meaning.specs.CoreTrees.{Core, NoCore, Cores, parts, all_parts, type_of}
use Rattle.c_meaning.specs.Scalars.{is_signed}
use Rattle.c_meaning.specs.Types.{is_pointer, is_record}
use Rattle.c_meaning.specs.Values.{CoreTree, CoreTrees}
use Rattle.c_runs.specs.Places.{spot_of}
use Rattle.c_rows_agree.specs.Typed.{Typed}
use Rattle.c_rows_agree.specs.Integers.{number, tested, converted_to, as_pointer, unary_of, binary_of}
use Rattle.c_pointers_agree.specs.Pointers.{moved_among, difference}
use Rattle.lowered_forms.specs.Accesses.{read}
use Rattle.lowered_forms.specs.Calls.{Passed, with_argument, held_for, with_arguments, first_passed, made_with}
use Rattle.lowered_forms.specs.Changes.{assigned_by, changed_at, new_given, old_given}
use Rattle.lowered_forms.specs.Contexts.{Context}
use Rattle.lowered_forms.specs.Expressions.{comma_from, plain_row, tested_row, row, low_e, low_test, parts_of}
use Rattle.lowered_forms.specs.Lows.{Low}
use Rattle.lowered_forms.specs.Places.{is_passed_whole, local_place, room_of, further}
use Rattle.lowered_forms.specs.Tests.{value_test, truth_of}
use Rattle.lowered_forms.specs.Values.{Lowered, Part, nothing, placed, of_two, then_low}
use Rattle.expression_weights.specs.Rises.{Risen, Rises}
use Rattle.expression_weights.specs.Templates.{Priced, Asks}
use Rattle.expression_weights.proofs.lemmas.Operations.{PricedAt, converted_priced, unary_priced, binary_priced, among_priced, difference_priced, further_priced, local_asks, read_priced, p_priced, leaf_value}
use Rattle.expression_weights.proofs.lemmas.Operands.{Comes, save_most, none_rises, placed_comes, priced_comes, two_comes, branched_rises, value_test_rises, truth_comes, comparison_rises, and_rises, or_rises, conditional_comes}
use Rattle.expression_weights.proofs.lemmas.Rows.{assigned_by_comes, new_comes, old_comes, changed_comes}
use Rattle.expression_weights.proofs.lemmas.CallRows.{AllPriced, to_pass, Passes, argument_passes, made_comes}

abbrev part : Context → CoreTree → Part
part s c = record { tree = c; value = λ l. low_e s c l; test = λ n when l. low_test s c n when l }

-- an expression with these operands; so much less than for all its expressions that a use of it is free
abbrev pub over : CoreTrees → ℕ
over kids = 13 + 69 * all_parts kids

abbrev pub value_price : CoreTree → ℕ
value_price (Core what of line kids) = over kids

pub price_is : (c : CoreTree) → value_price c + 56 ≡ 69 * parts c
price_is (Core what of line kids) = omega arith

module _ (R : Risen) (k : Rises R) (s : Context) where
  pub record Goes (c : CoreTree) : Type 0 where
    pub value : (l : Low) → Comes R k (value_price c) l (low_e s c l)
    pub test : (n : ℕ) (when : Bool) (l : Low) → R (value_price c + 14) l (low_test s c n when l)

  abbrev All : CoreTrees → Type 0
  All NoCore = Unit {0}
  All (Cores c cs) = Goes c × All cs

  comes_more : (m n : ℕ) (l : Low) (r : Lowered) → m ≤ n → Comes R k m l r → Comes R k n l r
  comes_more m n l r le h = record { rises = k.weakens m n l r.low le h.rises; value = h.value }

  -- an expression over these
  abbrev Most : CoreTrees → Low → Lowered → Type 0
  Most kids l r = Comes R k (over kids) l r

  -- and what a test by itself adds: so much less that a number that tells the truth is no more
  abbrev MostTested : CoreTrees → Low → Low → Type 0
  MostTested kids a b = R (3 + 69 * all_parts kids) a b

  no_more : (kids : CoreTrees) (l : Low) (r : Lowered) → Comes R k 0 l r → Most kids l r
  no_more kids l r h = comes_more 0 (over kids) l r (omega arith) h

  alone_comes : (a : CoreTree) → Goes a → (l : Low) → Most (Cores a NoCore) l (low_e s a l)
  alone_comes a h l = let e = price_is a in comes_more (value_price a) (over (Cores a NoCore)) l _ (omega (arith, e)) (h.value l)

  one_comes : (n : ℕ) → n ≤ 64 → (a : CoreTree) → Goes a → (go : Typed → Typed) → ((v : Typed) → PricedAt 10 v → PricedAt n (go v)) → (l : Low)
      → Most (Cores a NoCore) l (then_low (low_e s a l) (λ v l1. placed (go v) l1))
  one_comes n le a h go p l =
      let e = price_is a in
      let r = low_e s a l in
      let c = h.value l in
      let d = priced_comes R k n (go r.value) r.low (p r.value c.value) in
      record { rises = k.weakens (value_price a + n) (over (Cores a NoCore)) l _ (omega (arith, e, le)) (k.joins (value_price a) n l r.low _ c.rises d.rises); value = d.value }

  two_parts : (g : ℕ) → g ≤ 110 → (a b : CoreTree) → Goes a → Goes b → (go : Typed → Typed → Low → Lowered) → ((v w : Typed) (l : Low) → PricedAt 10 v → PricedAt 10 w → Comes R k g l (go v w l)) → (l : Low)
      → Most (Cores a (Cores b NoCore)) l (of_two (part s a) (part s b) l go)
  two_parts g le a b f h go on l =
      let e = price_is a in let d = price_is b in
      comes_more (value_price a + (15 + (value_price b + g))) (over (Cores a (Cores b NoCore))) l _ (omega (arith, e, d, le)) (two_comes R k (value_price a) (value_price b) g (part s a) (part s b) f.value h.value go on l)

  -- ---- many parts

  comma_comes : (a : CoreTree) (cs : CoreTrees) → Goes a → All cs → (l : Low) → Most (Cores a cs) l (comma_from (part s a) (parts_of s cs) l)
  comma_comes a NoCore f h l = alone_comes a f l
  comma_comes a (Cores b cs) f h l =
      let e = price_is a in
      let r = comma_comes b cs h.0 h.1 (low_e s a l).low in
      record {
        rises = k.weakens (value_price a + over (Cores b cs)) (over (Cores a (Cores b cs))) l _ (omega (arith, e)) (k.joins (value_price a) (over (Cores b cs)) l (low_e s a l).low _ (f.value l).rises r.rises);
        value = r.value;
      }

  arguments_pass : (cs : CoreTrees) → All cs → (p : Passed) → AllPriced p.values → Passes R k 0 (to_pass p.values + 69 * all_parts cs) p.low (with_arguments s (parts_of s cs) p)
  arguments_pass NoCore h p v = record { cost = 0; rises = none_rises R k 0 p.low; left = omega arith; values = v }
  arguments_pass (Cores c cs) h p v =
      let q = with_argument s (part s c) (held_for (part s c) p) in
      let a = argument_passes R k (value_price c) s (part s c) h.0.value p v in
      let b = arguments_pass cs h.1 q a.values in
      let e = price_is c in
      record {
        cost = (a.cost + value_price c) + b.cost;
        rises = k.weakens ((a.cost + value_price c) + (b.cost + 0)) (((a.cost + value_price c) + b.cost) + 0) p.low _ (omega arith) (k.joins (a.cost + value_price c) (b.cost + 0) p.low q.low _ a.rises b.rises);
        left = (let x = a.left in let y = b.left in omega (arith, x, y, e));
        values = b.values;
      }

  call_comes : (of : CType) (n : ℕ) (f : CoreTree) (cs : CoreTrees) → Goes f → All cs → (l : Low) → Most (Cores f cs) l (made_with s of (with_arguments s (parts_of s cs) (first_passed n (low_e s f l))))
  call_comes of n f cs g h l =
      let p = first_passed n (low_e s f l) in
      let q = with_arguments s (parts_of s cs) p in
      let e = price_is f in
      let d = save_most (low_e s f l).value.tree in
      let c = g.value l in
      let a = arguments_pass cs h p (c.value, tt) in
      let m = made_comes R k s of q.next q.values q.low a.values in
      record {
        rises = k.weakens (value_price f + ((a.cost + 0) + (to_pass q.values + 20))) (over (Cores f cs)) l _ (let x = a.left in omega (arith, x, e, d))
            (k.joins (value_price f) ((a.cost + 0) + (to_pass q.values + 20)) l p.low _ c.rises (k.joins (a.cost + 0) (to_pass q.values + 20) p.low q.low _ a.rises m.rises));
        value = m.value;
      }

  -- ---- the rows

  leaf_comes : (l : Low) (r : Lowered) → Comes R k 0 l r → Most NoCore l r
  leaf_comes l r h = no_more NoCore l r h

  plain_comes : (what : CoreKind) (of : CType) (kids : CoreTrees) → All kids → (l : Low) → Most kids l (plain_row s what of (parts_of s kids) l)
  plain_comes (kind.Local n register) of NoCore h l = comes_more 2 (over NoCore) l _ (omega arith) (placed_comes R k 2 (local_place s n of) l (local_asks (is_passed_whole s n of) (slice_get s.places n)))
  plain_comes (kind.Object n) of NoCore h l = record { rises = none_rises R k (over NoCore) l; value = (refl, omega arith) }
  plain_comes (kind.Text n) of NoCore h l = record { rises = none_rises R k (over NoCore) l; value = (refl, omega arith) }
  plain_comes (kind.Function n) of NoCore h l = record { rises = none_rises R k (over NoCore) l; value = (refl, omega arith) }
  plain_comes (kind.BuiltIn b) of NoCore h l = record { rises = none_rises R k (over NoCore) l; value = (refl, omega arith) }
  plain_comes (kind.Number n) of NoCore h l = record { rises = none_rises R k (over NoCore) l; value = leaf_value (is_signed of) n }
  plain_comes (kind.Member offset first width) of (Cores a NoCore) h l = one_comes 14 (omega arith) a h.0 (λ p. further (nat_lt offset (room_of s a)) offset p) (λ p g. further_priced (nat_lt offset (room_of s a)) offset p g) l
  plain_comes kind.Pointed of (Cores a NoCore) h l = alone_comes a h.0 l
  plain_comes kind.Read of (Cores a NoCore) h l = one_comes 18 (omega arith) a h.0 (λ p. read s.order (spot_of a) p) (λ p g. read_priced s.order (spot_of a) p g) l
  plain_comes kind.Address of (Cores a NoCore) h l = alone_comes a h.0 l
  plain_comes kind.First of (Cores a NoCore) h l = alone_comes a h.0 l
  plain_comes (kind.Convert to.Void) of (Cores a NoCore) h l = record { rises = (alone_comes a h.0 l).rises; value = leaf_value true 0 }
  plain_comes (kind.Convert to.Pointer) of (Cores a NoCore) h l = one_comes 12 (omega arith) a h.0 as_pointer (λ p g. p_priced p g) l
  plain_comes (kind.Convert (to.Integer x)) of (Cores a NoCore) h l = one_comes 13 (omega arith) a h.0 (λ v. converted_to x v) (λ v g. converted_priced x v g) l
  plain_comes (kind.Unary o) of (Cores a NoCore) h l = one_comes 13 (omega arith) a h.0 (λ v. unary_of o v) (λ v g. unary_priced o v g) l
  plain_comes (kind.Binary o signed) of (Cores a (Cores b NoCore)) h l =
      two_parts 25 (omega arith) a b h.0 h.1.0 (λ v w l1. placed (binary_of o signed v w) l1) (λ v w l1 f g. priced_comes R k 25 (binary_of o signed v w) l1 (binary_priced o signed v w f g)) l
  plain_comes (kind.Move size back) of (Cores a (Cores b NoCore)) h l =
      two_parts 27 (omega arith) a b h.0 h.1.0 (λ v w l1. placed (moved_among size back (is_pointer (type_of a)) v w) l1)
      (λ v w l1 f g. priced_comes R k 27 (moved_among size back (is_pointer (type_of a)) v w) l1 (among_priced size back (is_pointer (type_of a)) v w f g)) l
  plain_comes (kind.Difference size) of (Cores a (Cores b NoCore)) h l =
      two_parts 27 (omega arith) a b h.0 h.1.0 (λ v w l1. placed (difference size v w) l1) (λ v w l1 f g. priced_comes R k 27 (difference size v w) l1 (difference_priced size v w f g)) l
  plain_comes kind.Conditional of (Cores a (Cores b (Cores c NoCore))) h l =
      let e = price_is a in let d = price_is b in let f = price_is c in
      comes_more ((value_price a + 14) + (value_price b + (value_price c + 35))) (over (Cores a (Cores b (Cores c NoCore)))) l _ (omega (arith, e, d, f))
      (conditional_comes R k (value_price a + 14) (value_price b) (value_price c) of (part s a) (part s b) (part s c) h.0.test h.1.0.value h.1.1.0.value l)
  plain_comes kind.Comma of (Cores a cs) h l = comma_comes a cs h.0 h.1 l
  plain_comes kind.Assign of (Cores a (Cores b NoCore)) h l =
      two_parts 64 (omega arith) a b h.0 h.1.0 (λ p v l1. assigned_by (is_record of) s of (spot_of a) p v l1) (λ p v l1 f g. assigned_by_comes R k (is_record of) s of (spot_of a) p v l1 f g) l
  plain_comes (kind.Change by) of (Cores a (Cores b NoCore)) h l =
      two_parts 110 (omega arith) a b h.0 h.1.0 (λ p v l1. changed_at s.order by (spot_of a) new_given p v l1)
      (λ p v l1 f g. changed_comes R k s.order by (spot_of a) new_given (λ q x y l2 i j m. new_comes R k s.order (spot_of a) q x y l2 i j m) p v l1 f g) l
  plain_comes (kind.Postfix by) of (Cores a (Cores b NoCore)) h l =
      two_parts 110 (omega arith) a b h.0 h.1.0 (λ p v l1. changed_at s.order by (spot_of a) old_given p v l1)
      (λ p v l1 f g. changed_comes R k s.order by (spot_of a) old_given (λ q x y l2 i j m. old_comes R k s.order (spot_of a) q x y l2 i j m) p v l1 f g) l
  plain_comes (kind.Call n) of (Cores f cs) h l = call_comes of n f cs h.0 h.1 l
  plain_comes what of kids h l = record { rises = none_rises R k (over kids) l; value = leaf_value true 0 }

  -- ---- tests by themselves

  -- what isn't one goes by the number 0
  nothing_tested : (kids : CoreTrees) (n : ℕ) (when : Bool) (l : Low) → MostTested kids l (value_test (λ l1. nothing l1) n when l)
  nothing_tested kids n when l = k.weakens 3 (3 + 69 * all_parts kids) l _ (omega arith) (branched_rises R k 1 1 (tested when n (number true 0)) l (refl, omega arith) (refl, omega arith))

  not_rises : (of : CType) (kids : CoreTrees) → All kids → (n : ℕ) (when : Bool) (l : Low) → MostTested kids l (tested_row s kind.Not of (parts_of s kids) n when l)
  not_rises of (Cores a NoCore) h n when l = let e = price_is a in k.weakens (value_price a + 14) _ l _ (omega (arith, e)) (h.0.test n (not when) l)
  not_rises of kids h n when l = nothing_tested kids n when l

  both_tests : (a b : CoreTree) (l m : Low) → R (((value_price a + 14) + (value_price b + 14)) + 1) l m → MostTested (Cores a (Cores b NoCore)) l m
  both_tests a b l m h = let e = price_is a in let d = price_is b in k.weakens (((value_price a + 14) + (value_price b + 14)) + 1) _ l m (omega (arith, e, d)) h

  and_both : (of : CType) (kids : CoreTrees) → All kids → (n : ℕ) (when : Bool) (l : Low) → MostTested kids l (tested_row s kind.And of (parts_of s kids) n when l)
  and_both of (Cores a (Cores b NoCore)) h n when l = both_tests a b l _ (and_rises R k (value_price a + 14) (value_price b + 14) (part s a) (part s b) h.0.test h.1.0.test n when l)
  and_both of kids h n when l = nothing_tested kids n when l

  or_both : (of : CType) (kids : CoreTrees) → All kids → (n : ℕ) (when : Bool) (l : Low) → MostTested kids l (tested_row s kind.Or of (parts_of s kids) n when l)
  or_both of (Cores a (Cores b NoCore)) h n when l = both_tests a b l _ (or_rises R k (value_price a + 14) (value_price b + 14) (part s a) (part s b) h.0.test h.1.0.test n when l)
  or_both of kids h n when l = nothing_tested kids n when l

  compared_both : (o : Comparison) (signed : Bool) (of : CType) (kids : CoreTrees) → All kids → (n : ℕ) (when : Bool) (l : Low) → MostTested kids l (tested_row s (kind.Compare o signed) of (parts_of s kids) n when l)
  compared_both o signed of (Cores a (Cores b NoCore)) h n when l =
      let e = price_is a in let d = price_is b in
      k.weakens (value_price a + (15 + (value_price b + 25))) _ l _ (omega (arith, e, d)) (comparison_rises R k (value_price a) (value_price b) o signed (part s a) (part s b) h.0.value h.1.0.value n when l)
  compared_both o signed of kids h n when l = nothing_tested kids n when l

  -- ---- values and tests

  abbrev Tested : CoreTrees → Low → Low → Type 0
  Tested kids a b = R (over kids + 14) a b

  more : (kids : CoreTrees) (a b : Low) → MostTested kids a b → Tested kids a b
  more kids a b h = k.weakens (3 + 69 * all_parts kids) (over kids + 14) a b (omega arith) h

  tested_rises : (what : CoreKind) (of : CType) (kids : CoreTrees) → All kids → (n : ℕ) (when : Bool) (l : Low) → Tested kids l (tested_row s what of (parts_of s kids) n when l)
  tested_rises kind.Not of kids h n when l = more kids l _ (not_rises of kids h n when l)
  tested_rises kind.And of kids h n when l = more kids l _ (and_both of kids h n when l)
  tested_rises kind.Or of kids h n when l = more kids l _ (or_both of kids h n when l)
  tested_rises (kind.Compare o signed) of kids h n when l = more kids l _ (compared_both o signed of kids h n when l)
  tested_rises what of kids h n when l = value_test_rises R k (over kids) (λ l1. plain_row s what of (parts_of s kids) l1) (λ l1. plain_comes what of kids h l1) n when l

  number_comes : (what : CoreKind) (of : CType) (kids : CoreTrees) → ((n : ℕ) (when : Bool) (l : Low) → MostTested kids l (tested_row s what of (parts_of s kids) n when l)) → (l : Low)
      → Most kids l (truth_of (λ n when l1. tested_row s what of (parts_of s kids) n when l1) l)
  number_comes what of kids h l =
      comes_more ((3 + 69 * all_parts kids) + 10) (over kids) l _ (omega arith) (truth_comes R k (3 + 69 * all_parts kids) (λ n when l1. tested_row s what of (parts_of s kids) n when l1) h l)

  row_comes : (what : CoreKind) (of : CType) (kids : CoreTrees) → All kids → (l : Low) → Most kids l (row s what of (parts_of s kids) l)
  row_comes kind.Not of kids h l = number_comes kind.Not of kids (not_rises of kids h) l
  row_comes kind.And of kids h l = number_comes kind.And of kids (and_both of kids h) l
  row_comes kind.Or of kids h l = number_comes kind.Or of kids (or_both of kids h) l
  row_comes (kind.Compare o signed) of kids h l = number_comes (kind.Compare o signed) of kids (compared_both o signed of kids h) l
  row_comes what of kids h l = plain_comes what of kids h l

  -- ---- the induction

  mutual
    pub value_comes : (e : CoreTree) (l : Low) → Comes R k (value_price e) l (low_e s e l)
    value_comes (Core what of line kids) l = row_comes what of kids (all_go kids) l

    pub test_rises : (e : CoreTree) (n : ℕ) (when : Bool) (l : Low) → R (value_price e + 14) l (low_test s e n when l)
    test_rises (Core what of line kids) n when l = tested_rises what of kids (all_go kids) n when l

    all_go : (cs : CoreTrees) → All cs
    all_go NoCore = tt
    all_go (Cores c cs) = (record { value = λ l. value_comes c l; test = λ n when l. test_rises c n when l }, all_go cs)
