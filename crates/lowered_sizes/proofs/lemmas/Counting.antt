-- What the steps of operands, operations, tests and conditionals count.
use Rattle.std.specs.Prelude.{◌≤◌, ℕ, ◌+◌, Bool, true, false, None, ℤ}
use Rattle.std.proofs.Common.{arith}
use Rattle.objects.specs.declared.operators.Comparison.{Comparison}
use Rattle.objects.specs.declared.width.Width.TheVariants.{Four}
use Rattle.op_forest.specs.declared.op.Op.TheVariants as op
use Rattle.op_forest.specs.declared.suffix.Suffix.{Suffix}
use Rattle.op_forest.specs.declared.suffix.Suffix.TheVariants.{C, S, I, U, P, B, V}
use Rattle.op_forest.specs.declared.sym.Sym.TheVariants as sym
use Rattle.c_types.specs.CType.{CType}
use Rattle.c_meaning.specs.CoreTrees.{type_of}
use Rattle.c_rows_agree.specs.Templates.{Template, Given, Leaf, One, Two, Root}
use Rattle.c_rows_agree.specs.Typed.{Typed, head, head_with, as_i}
use Rattle.c_rows_agree.specs.Integers.{number, as_pointer, compared, tested}
use Rattle.c_rows_agree.specs.Places.{stored_as}
use Rattle.c_pointers_agree.specs.Pointers.{local}
use Rattle.lowered_forms.specs.Conditionals.{Sort, Nothing, Word, Place, sort_of, kept_in, sort_read, second_way, both_ways, conditional}
use Rattle.lowered_forms.specs.Lows.{Low, acted, acted_one, branched, jumped, marked, with_label, with_slot, slot_offset}
use Rattle.lowered_forms.specs.Straight.{straight}
use Rattle.lowered_forms.specs.Tests.{compares_signed, comparison_test, value_test, past, and_test, or_test, truth_in, truth_of}
use Rattle.lowered_forms.specs.Values.{Lowered, Part, placed_tree, placed, stored_in, slot_read, saved, saved_tree, held, of_two}
use Rattle.lowered_sizes.specs.Counted.{Counted, Counts}

-- one where it is a node of the open block, which may have to be saved
abbrev pub is_node : Template → ℕ
is_node (Given n) = 1
is_node (Leaf h) = 0
is_node (One h a) = 0
is_node (Two h a b) = 0

pub one_node : (t : Template) → is_node t ≤ 1
one_node (Given n) = omega arith
one_node (Leaf h) = omega arith
one_node (One h a) = omega arith
one_node (Two h a b) = omega arith

slot_is_none : (s : Suffix) (z : ℤ) → is_node (slot_read s z).tree ≤ 0
slot_is_none C z = omega arith
slot_is_none S z = omega arith
slot_is_none I z = omega arith
slot_is_none U z = omega arith
slot_is_none P z = omega arith
slot_is_none B z = omega arith
slot_is_none V z = omega arith

module _ (R : Counted) (k : Counts R) where
  -- behind a step that counts nothing, and before one
  pub ahead : (m n : ℕ) (a b c : Low) → R 0 0 a b → R m n b c → R m n a c
  ahead m n a b c x y = k.weakens (0 + m) (0 + n) m n a c (omega arith) (omega arith) (k.joins 0 0 m n a b c x y)

  pub behind : (m n : ℕ) (a b c : Low) → R m n a b → R 0 0 b c → R m n a c
  behind m n a b c x y = k.weakens (m + 0) (n + 0) m n a c (omega arith) (omega arith) (k.joins m n 0 0 a b c x y)

  -- behind a slot
  slot_first : (m n : ℕ) (a b c : Low) → R 1 0 a b → R m n b c → R (1 + m) n a c
  slot_first m n a b c x y = k.weakens (1 + m) (0 + n) (1 + m) n a c (omega arith) (omega arith) (k.joins 1 0 m n a b c x y)

  -- ---- operands

  placed_tree_counts : (s : Suffix) (t : Template) (l : Low) → R 0 0 l (placed_tree s t l).low
  placed_tree_counts s (Given n) l = k.same l
  placed_tree_counts s (Leaf h) l = k.same l
  placed_tree_counts s (One h a) l = k.asks (One h a) l
  placed_tree_counts s (Two h a b) l = k.asks (Two h a b) l

  pub placed_counts : (a : Typed) (l : Low) → R 0 0 l (placed a l).low
  placed_counts a l = placed_tree_counts a.suffix a.tree l

  pub stored_counts : (z : ℤ) (a : Typed) (l : Low) → R 0 0 l (stored_in z a l)
  stored_counts z a l = k.acts (stored_as Four (local z) a) l

  -- with so many slots an operand waits, and so many may still have to be saved
  pub record Holds (a : Typed) (l : Low) (r : Lowered) : Type 0 where
    pub slots : ℕ
    pub counts : R slots 0 l r.low
    pub left : slots + is_node r.value.tree ≤ is_node a.tree

  saved_holds : (s : Suffix) (t : Template) (l : Low) → Holds (record { tree = t; suffix = s }) l (saved_tree t (record { tree = t; suffix = s }) l)
  saved_holds s (Given n) l =
      let a : Typed = record { tree = Given n; suffix = s } in
      let e = slot_is_none s (slot_offset l) in
      record { slots = 1; counts = behind 1 0 l (with_slot l) (saved a l).low (k.slot l) (stored_counts (slot_offset l) a (with_slot l)); left = omega (arith, e) }
  saved_holds s (Leaf h) l = record { slots = 0; counts = k.same l; left = omega arith }
  saved_holds s (One h a) l = record { slots = 0; counts = k.same l; left = omega arith }
  saved_holds s (Two h a b) l = record { slots = 0; counts = k.same l; left = omega arith }

  pub held_holds : (b : Bool) (a : Typed) (l : Low) → Holds a l (held b a l)
  held_holds true a l = record { slots = 0; counts = k.same l; left = omega arith }
  held_holds false a l = saved_holds a.suffix a.tree l

  pub held_counts : (b : Bool) (a : Typed) (l : Low) → R 1 0 l (held b a l).low
  held_counts b a l = let h = held_holds b a l in k.weakens h.slots 0 1 0 l (held b a l).low (let x = h.left in let y = one_node a.tree in omega (arith, x, y)) (omega arith) h.counts

  -- what a part counts, as a value and as a test
  abbrev pub PartCounts : ℕ → ℕ → Part → Type 0
  PartCounts m n a = (l : Low) → R m n l (a.value l).low

  abbrev pub TestCounts : ℕ → ℕ → Part → Type 0
  TestCounts m n a = (to : ℕ) (when : Bool) (l : Low) → R m n l (a.test to when l)

  -- behind two operands nothing is counted
  pub two_counts : (m n p q : ℕ) (a b : Part) → PartCounts m n a → PartCounts p q b
      → (go : Typed → Typed → Low → Lowered) → ((v w : Typed) (l : Low) → R 0 0 l (go v w l).low) → (l : Low) → R (m + (1 + p)) (n + q) l (of_two a b l go).low
  two_counts m n p q a b f g go h l =
      let v = a.value l in
      let x = held (straight b.tree) v.value v.low in
      let y = b.value x.low in
      k.joins m n (1 + p) q l v.low _ (f l)
      (slot_first p q v.low x.low _ (held_counts (straight b.tree) v.value v.low) (behind p q x.low y.low _ (g x.low) (h x.value y.value y.low)))

  -- ---- tests

  pub branched_counts : (r : Root) (l : Low) → R 0 0 l (branched r l)
  branched_counts r l = ahead 0 0 l (acted r l) (branched r l) (k.acts r l) (k.ends (acted r l))

  pub jumped_counts : (n : ℕ) (l : Low) → R 0 0 l (jumped n l)
  jumped_counts n l =
      let h = head op.Jump V in
      let t = Leaf (head_with op.Addrg P (sym.Label n) None) in
      ahead 0 0 l (acted_one h t l) (jumped n l) (k.acts_one h t l) (k.ends (acted_one h t l))

  pub value_test_counts : (m n : ℕ) (value : Low → Lowered) → ((l : Low) → R m n l (value l).low) → (to : ℕ) (when : Bool) (l : Low) → R m n l (value_test value to when l)
  value_test_counts m n value f to when l = behind m n l (value l).low _ (f l) (branched_counts (tested when to (value l).value) (value l).low)

  past_counts : (m n : ℕ) (go : ℕ → Low → Low) → ((to : ℕ) (l : Low) → R m n l (go to l)) → (l : Low) → R m (1 + n) l (past go l)
  past_counts m n go h l =
      let l1 = with_label l in
      let l2 = go l.labels l1 in
      k.weakens (0 + m) (1 + n) m (1 + n) l _ (omega arith) (omega arith)
      (k.joins 0 1 m n l l1 _ (k.label l) (behind m n l1 l2 _ (h l.labels l1) (k.marks l.labels l2)))

  truth_in_counts : (m n : ℕ) (test : ℕ → Bool → Low → Low) → ((to : ℕ) (when : Bool) (l : Low) → R m n l (test to when l)) → (z : ℤ) (l : Low) → R m (1 + n) l (truth_in test z l)
  truth_in_counts m n test h z l =
      past_counts m n (λ to l1. stored_in z (number true 1) (test to false (stored_in z (number true 0) l1)))
      (λ to l1.
      let l2 = stored_in z (number true 0) l1 in
      let l3 = test to false l2 in
      ahead m n l1 l2 _ (stored_counts z (number true 0) l1) (behind m n l2 l3 _ (h to false l2) (stored_counts z (number true 1) l3)))
      l

  pub truth_counts : (m n : ℕ) (test : ℕ → Bool → Low → Low) → ((to : ℕ) (when : Bool) (l : Low) → R m n l (test to when l)) → (l : Low) → R (1 + m) (1 + n) l (truth_of test l).low
  truth_counts m n test h l =
      let l1 = with_slot l in
      let l2 = truth_in test (slot_offset l) l1 in
      slot_first m (1 + n) l l1 _ (k.slot l) (behind m (1 + n) l1 l2 _ (truth_in_counts m n test h (slot_offset l) l1) (placed_counts (slot_read I (slot_offset l)) l2))

  pub comparison_counts : (m n p q : ℕ) (o : Comparison) (signed : Bool) (a b : Part) → PartCounts m n a → PartCounts p q b
      → (to : ℕ) (when : Bool) (l : Low) → R (m + (1 + p)) (n + q) l (comparison_test o signed a b to when l)
  comparison_counts m n p q o signed a b f g to when l =
      let v = a.value l in
      let x = held (straight b.tree) v.value v.low in
      let y = b.value x.low in
      k.joins m n (1 + p) q l v.low _ (f l)
      (slot_first p q v.low x.low _ (held_counts (straight b.tree) v.value v.low)
      (behind p q x.low y.low _ (g x.low) (branched_counts (compared o (compares_signed (type_of a.tree) signed) when to x.value y.value) y.low)))

  two_tests : (m n p q : ℕ) (a b : Part) → TestCounts m n a → TestCounts p q b → (i j : ℕ) (c d : Bool) (l : Low) → R (m + p) (n + q) l (b.test j d (a.test i c l))
  two_tests m n p q a b f g i j c d l = k.joins m n p q l (a.test i c l) _ (f i c l) (g j d (a.test i c l))

  more_label : (m n : ℕ) (a b : Low) → R m n a b → R m (1 + n) a b
  more_label m n a b h = k.weakens m n m (1 + n) a b (omega arith) (omega arith) h

  pub and_counts : (m n p q : ℕ) (a b : Part) → TestCounts m n a → TestCounts p q b → (to : ℕ) (when : Bool) (l : Low) → R (m + p) (1 + (n + q)) l (and_test a b to when l)
  and_counts m n p q a b f g to true l = past_counts (m + p) (n + q) (λ i l1. b.test to true (a.test i false l1)) (λ i l1. two_tests m n p q a b f g i to false true l1) l
  and_counts m n p q a b f g to false l = more_label (m + p) (n + q) l _ (two_tests m n p q a b f g to to false false l)

  pub or_counts : (m n p q : ℕ) (a b : Part) → TestCounts m n a → TestCounts p q b → (to : ℕ) (when : Bool) (l : Low) → R (m + p) (1 + (n + q)) l (or_test a b to when l)
  or_counts m n p q a b f g to true l = more_label (m + p) (n + q) l _ (two_tests m n p q a b f g to to true true l)
  or_counts m n p q a b f g to false l = past_counts (m + p) (n + q) (λ i l1. b.test to false (a.test i true l1)) (λ i l1. two_tests m n p q a b f g i to true false l1) l

  -- ---- conditionals

  kept_counts : (sort : Sort) (z : ℤ) (m n : ℕ) (l : Low) (r : Lowered) → R m n l r.low → R m n l (kept_in sort z r)
  kept_counts Nothing z m n l r h = h
  kept_counts Word z m n l r h = behind m n l r.low _ h (stored_counts z (record { tree = as_i r.value; suffix = I }) r.low)
  kept_counts Place z m n l r h = behind m n l r.low _ h (stored_counts z (as_pointer r.value) r.low)

  second_counts : (m n : ℕ) (sort : Sort) (z : ℤ) (c : Part) → PartCounts m n c → (i end : ℕ) (l : Low) → R m n l (second_way sort z c i end l)
  second_counts m n sort z c f i end l =
      let l1 = jumped end l in
      let l2 = marked i l1 in
      let l3 = kept_in sort z (c.value l2) in
      ahead m n l l1 _ (jumped_counts end l)
      (ahead m n l1 l2 _ (k.marks i l1) (behind m n l2 l3 _ (kept_counts sort z m n l2 (c.value l2) (f l2)) (k.marks end l3)))

  both_counts : (m n p q u v : ℕ) (sort : Sort) (z : ℤ) (a b c : Part) → TestCounts m n a → PartCounts p q b → PartCounts u v c → (i end : ℕ) (l : Low)
      → R (m + (p + u)) (n + (q + v)) l (both_ways sort z a b c i end l)
  both_counts m n p q u v sort z a b c f g h i end l =
      let l1 = a.test i false l in
      let l2 = kept_in sort z (b.value l1) in
      k.joins m n (p + u) (q + v) l l1 _ (f i false l)
      (k.joins p q u v l1 l2 _ (kept_counts sort z p q l1 (b.value l1) (g l1)) (second_counts u v sort z c h i end l2))

  pub conditional_counts : (m n p q u v : ℕ) (of : CType) (a b c : Part) → TestCounts m n a → PartCounts p q b → PartCounts u v c → (l : Low)
      → R (1 + (m + (p + u))) (2 + (n + (q + v))) l (conditional of a b c l).low
  conditional_counts m n p q u v of a b c f g h l =
      let l1 = with_slot l in
      let l2 = with_label l1 in
      let l3 = with_label l2 in
      let l4 = both_ways (sort_of of) (slot_offset l) a b c l1.labels l2.labels l3 in
      let w = m + (p + u) in
      let x = n + (q + v) in
      k.weakens (1 + (0 + (0 + w))) (0 + (1 + (1 + x))) (1 + w) (2 + x) l _ (omega arith) (omega arith)
      (k.joins 1 0 (0 + (0 + w)) (1 + (1 + x)) l l1 _ (k.slot l)
      (k.joins 0 1 (0 + w) (1 + x) l1 l2 _ (k.label l1)
      (k.joins 0 1 w x l2 l3 _ (k.label l2)
      (behind w x l3 l4 _ (both_counts m n p q u v (sort_of of) (slot_offset l) a b c f g h l1.labels l2.labels l3) (placed_counts (sort_read (sort_of of) (slot_offset l)) l4)))))
