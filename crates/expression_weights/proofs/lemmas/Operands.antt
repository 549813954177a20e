-- What operands, operations, tests and conditionals add.
use Rattle.std.specs.Prelude.{◌≤◌, ℕ, suc, ◌+◌, Bool, true, false, refl, None, ℤ}
use Rattle.std.proofs.Common.{arith}
use Rattle.objects.specs.declared.operators.Comparison.{Comparison}
use Rattle.objects.specs.declared.width.Width.TheVariants.{Four}
use Rattle.op_forest.specs.declared.op.Op.TheVariants as op
use Rattle.op_forest.specs.declared.suffix.Suffix.{Suffix}
use Rattle.op_forest.specs.declared.suffix.Suffix.TheVariants.{C, S, I, U, P, B, V}
use Rattle.op_forest.specs.declared.sym.Sym.TheVariants as sym
use Rattle.c_types.specs.CType.{CType}
use Rattle.c_meaning.specs.CoreTrees.{type_of}
use Rattle.c_rows_agree.specs.Templates.{Template, Given, Leaf, One, Two, Root}
use Rattle.c_rows_agree.specs.Typed.{Typed, head, head_with, as_i}
use Rattle.c_rows_agree.specs.Integers.{number, as_pointer, compared_by, compared, comparison_where, tested}
use Rattle.c_rows_agree.specs.Integers.{compares_signed as signed_for}
use Rattle.c_rows_agree.specs.Places.{stored_as}
use Rattle.c_pointers_agree.specs.Pointers.{local}
use Rattle.lowered_forms.specs.Conditionals.{Sort, Nothing, Word, Place, sort_of, kept_in, sort_read, second_way, both_ways, conditional}
use Rattle.lowered_forms.specs.Lows.{Low, acted, acted_one, branched, jumped, marked, with_label, with_slot, slot_offset}
use Rattle.lowered_forms.specs.Straight.{straight}
use Rattle.lowered_forms.specs.Tests.{compares_signed, comparison_test, value_test, past, and_test, or_test, truth_in, truth_of}
use Rattle.lowered_forms.specs.Values.{Lowered, Part, placed_tree, placed, stored_in, slot_read, saved, saved_tree, held, of_two}
use Rattle.expression_weights.specs.Rises.{Risen, Rises}
use Rattle.expression_weights.specs.Templates.{Priced, Asks}
use Rattle.expression_weights.proofs.lemmas.Templates.{priced_asks, asks_more}
use Rattle.expression_weights.proofs.lemmas.Operations.{PricedAt, as_i_at, i_priced, p_priced, by_priced, slot_priced, slot_asks, number_priced, leaf_value, word_left, word_right}

-- what saving it adds, if it is a node of the open block
abbrev pub save_price : Template → ℕ
save_price (Given n) = 15
save_price (Leaf h) = 0
save_price (One h a) = 0
save_price (Two h a b) = 0

pub save_most : (t : Template) → save_price t ≤ 15
save_most (Given n) = omega arith
save_most (Leaf h) = omega arith
save_most (One h a) = omega arith
save_most (Two h a b) = omega arith

slot_is_none : (s : Suffix) (z : ℤ) → save_price (slot_read s z).tree ≤ 0
slot_is_none C z = omega arith
slot_is_none S z = omega arith
slot_is_none I z = omega arith
slot_is_none U z = omega arith
slot_is_none P z = omega arith
slot_is_none B z = omega arith
slot_is_none V z = omega arith

module _ (R : Risen) (k : Rises R) where
  pub none_rises : (n : ℕ) (l : Low) → R n l l
  none_rises n l = k.weakens 0 n l l (omega arith) (k.same l)

  -- what is added at most, and the operand that is there then
  pub record Comes (n : ℕ) (l : Low) (r : Lowered) : Type 0 where
    pub rises : R n l r.low
    pub value : PricedAt 10 r.value

  -- ---- operands

  placed_tree_comes : (n : ℕ) (s : Suffix) (t : Template) (l : Low) → Asks n t → Comes n l (placed_tree s t l)
  placed_tree_comes n s (Given m) l h = record { rises = none_rises n l; value = omega arith }
  placed_tree_comes n s (Leaf x) l h = record { rises = none_rises n l; value = (h.0, omega arith) }
  placed_tree_comes n s (One x a) l h = record { rises = k.asks n (One x a) l h; value = omega arith }
  placed_tree_comes n s (Two x a b) l h = record { rises = k.asks n (Two x a b) l h; value = omega arith }

  pub placed_comes : (n : ℕ) (a : Typed) (l : Low) → Asks n a.tree → Comes n l (placed a l)
  placed_comes n a l h = placed_tree_comes n a.suffix a.tree l h

  pub priced_comes : (n : ℕ) (a : Typed) (l : Low) → PricedAt n a → Comes n l (placed a l)
  priced_comes n a l h = placed_comes n a l (priced_asks n a.tree h)

  pub stored_rises : (z : ℤ) (a : Typed) (l : Low) → PricedAt 10 a → R 14 l (stored_in z a l)
  stored_rises z a l h = k.acts 1 12 (stored_as Four (local z) a) l (word_left 1 a.suffix (local z).tree a.tree (refl, omega arith)) (word_right a.suffix (local z).tree a.tree h)

  pub number_stored : (z : ℤ) (n : ℕ) (l : Low) → R 3 l (stored_in z (number true n) l)
  number_stored z n l = k.acts 1 1 (stored_as Four (local z) (number true n)) l (refl, omega arith) (refl, omega arith)

  -- an operand waits, and may still have to be saved
  pub record Holds (a : Typed) (l : Low) (r : Lowered) : Type 0 where
    pub cost : ℕ
    pub rises : R cost l r.low
    pub left : cost + save_price r.value.tree ≤ save_price a.tree
    pub value : PricedAt 10 r.value

  saved_holds : (s : Suffix) (t : Template) (l : Low) → Priced 10 t → Holds (record { tree = t; suffix = s }) l (saved_tree t (record { tree = t; suffix = s }) l)
  saved_holds s (Given n) l h =
      let a : Typed = record { tree = Given n; suffix = s } in
      let e = slot_is_none s (slot_offset l) in
      record {
        cost = 15;
        rises = k.joins 1 14 l (with_slot l) (saved a l).low (k.slot l) (stored_rises (slot_offset l) a (with_slot l) h);
        left = omega (arith, e);
        value = slot_priced s (slot_offset l);
      }
  saved_holds s (Leaf x) l h = record { cost = 0; rises = k.same l; left = omega arith; value = h }
  saved_holds s (One x a) l h = record { cost = 0; rises = k.same l; left = omega arith; value = h }
  saved_holds s (Two x a b) l h = record { cost = 0; rises = k.same l; left = omega arith; value = h }

  pub held_holds : (b : Bool) (a : Typed) (l : Low) → PricedAt 10 a → Holds a l (held b a l)
  held_holds true a l h = record { cost = 0; rises = k.same l; left = omega arith; value = h }
  held_holds false a l h = saved_holds a.suffix a.tree l h

  pub held_comes : (b : Bool) (a : Typed) (l : Low) → PricedAt 10 a → Comes 15 l (held b a l)
  held_comes b a l p =
      let h = held_holds b a l p in
      record { rises = k.weakens h.cost 15 l (held b a l).low (let x = h.left in let y = save_most a.tree in omega (arith, x, y)) h.rises; value = h.value }

  -- what a part adds, as a value and as a test
  abbrev pub PartComes : ℕ → Part → Type 0
  PartComes m a = (l : Low) → Comes m l (a.value l)

  abbrev pub TestRises : ℕ → Part → Type 0
  TestRises m a = (to : ℕ) (when : Bool) (l : Low) → R m l (a.test to when l)

  pub two_comes : (m p g : ℕ) (a b : Part) → PartComes m a → PartComes p b
      → (go : Typed → Typed → Low → Lowered) → ((v w : Typed) (l : Low) → PricedAt 10 v → PricedAt 10 w → Comes g l (go v w l)) → (l : Low) → Comes (m + (15 + (p + g))) l (of_two a b l go)
  two_comes m p g a b f h go on l =
      let v = a.value l in
      let vc = f l in
      let x = held (straight b.tree) v.value v.low in
      let xc = held_comes (straight b.tree) v.value v.low vc.value in
      let y = b.value x.low in
      let yc = h x.low in
      let z = on x.value y.value y.low xc.value yc.value in
      record {
        rises = k.joins m (15 + (p + g)) l v.low _ vc.rises (k.joins 15 (p + g) v.low x.low _ xc.rises (k.joins p g x.low y.low _ yc.rises z.rises));
        value = z.value;
      }

  -- ---- tests

  pub branched_rises : (i j : ℕ) (r : Root) (l : Low) → Priced i r.left → Priced j r.right → R (suc (i + j)) l (branched r l)
  branched_rises i j r l p q = k.weakens (suc (i + j) + 0) (suc (i + j)) l (branched r l) (omega arith) (k.joins (suc (i + j)) 0 l (acted r l) (branched r l) (k.acts i j r l p q) (k.ends (acted r l)))

  pub jumped_rises : (n : ℕ) (l : Low) → R 2 l (jumped n l)
  jumped_rises n l =
      let h = head op.Jump V in
      let t = Leaf (head_with op.Addrg P (sym.Label n) None) in
      k.joins 2 0 l (acted_one h t l) (jumped n l) (k.acts_one 1 h t l (refl, omega arith)) (k.ends (acted_one h t l))

  pub value_test_rises : (m : ℕ) (value : Low → Lowered) → ((l : Low) → Comes m l (value l)) → (to : ℕ) (when : Bool) (l : Low) → R (m + 14) l (value_test value to when l)
  value_test_rises m value f to when l =
      let v = value l in
      let c = f l in
      k.joins m 14 l v.low _ c.rises (branched_rises 12 1 (tested when to v.value) v.low (i_priced v.value c.value) (refl, omega arith))

  past_rises : (m : ℕ) (go : ℕ → Low → Low) → ((to : ℕ) (l : Low) → R m l (go to l)) → (l : Low) → R (m + 1) l (past go l)
  past_rises m go h l =
      let l1 = with_label l in
      let l2 = go l.labels l1 in
      k.weakens (0 + (m + 1)) (m + 1) l _ (omega arith) (k.joins 0 (m + 1) l l1 _ (k.label l) (k.joins m 1 l1 l2 _ (h l.labels l1) (k.marks l.labels l2)))

  truth_in_rises : (m : ℕ) (test : ℕ → Bool → Low → Low) → ((to : ℕ) (when : Bool) (l : Low) → R m l (test to when l)) → (z : ℤ) (l : Low) → R (m + 7) l (truth_in test z l)
  truth_in_rises m test h z l =
      k.weakens ((3 + (m + 3)) + 1) (m + 7) l _ (omega arith)
      (past_rises (3 + (m + 3)) (λ to l1. stored_in z (number true 1) (test to false (stored_in z (number true 0) l1)))
      (λ to l1.
      let l2 = stored_in z (number true 0) l1 in
      let l3 = test to false l2 in
      k.joins 3 (m + 3) l1 l2 _ (number_stored z 0 l1) (k.joins m 3 l2 l3 _ (h to false l2) (number_stored z 1 l3)))
      l)

  pub truth_comes : (m : ℕ) (test : ℕ → Bool → Low → Low) → ((to : ℕ) (when : Bool) (l : Low) → R m l (test to when l)) → (l : Low) → Comes (m + 10) l (truth_of test l)
  truth_comes m test h l =
      let l1 = with_slot l in
      let l2 = truth_in test (slot_offset l) l1 in
      let p = placed_comes 2 (slot_read I (slot_offset l)) l2 (slot_asks I (slot_offset l)) in
      record {
        rises = k.weakens (1 + ((m + 7) + 2)) (m + 10) l _ (omega arith) (k.joins 1 ((m + 7) + 2) l l1 _ (k.slot l) (k.joins (m + 7) 2 l1 l2 _ (truth_in_rises m test h (slot_offset l) l1) p.rises));
        value = p.value;
      }

  compared_rises : (o : Comparison) (signed : Bool) (to : ℕ) (x y : Typed) (l : Low) → PricedAt 10 x → PricedAt 10 y → R 25 l (branched (compared_by o signed to x y) l)
  compared_rises o signed to x y l p q = branched_rises 12 12 (compared_by o signed to x y) l (by_priced (signed_for signed o) x p) (by_priced (signed_for signed o) y q)

  pub comparison_rises : (m p : ℕ) (o : Comparison) (signed : Bool) (a b : Part) → PartComes m a → PartComes p b → (to : ℕ) (when : Bool) (l : Low)
      → R (m + (15 + (p + 25))) l (comparison_test o signed a b to when l)
  comparison_rises m p o signed a b f h to when l =
      let v = a.value l in
      let vc = f l in
      let x = held (straight b.tree) v.value v.low in
      let xc = held_comes (straight b.tree) v.value v.low vc.value in
      let y = b.value x.low in
      let yc = h x.low in
      k.joins m (15 + (p + 25)) l v.low _ vc.rises
      (k.joins 15 (p + 25) v.low x.low _ xc.rises
      (k.joins p 25 x.low y.low _ yc.rises (compared_rises (comparison_where when o) (compares_signed (type_of a.tree) signed) to x.value y.value y.low xc.value yc.value)))

  two_tests : (m p : ℕ) (a b : Part) → TestRises m a → TestRises p b → (i j : ℕ) (c d : Bool) (l : Low) → R (m + p) l (b.test j d (a.test i c l))
  two_tests m p a b f g i j c d l = k.joins m p l (a.test i c l) _ (f i c l) (g j d (a.test i c l))

  one_more : (m : ℕ) (a b : Low) → R m a b → R (m + 1) a b
  one_more m a b h = k.weakens m (m + 1) a b (omega arith) h

  pub and_rises : (m p : ℕ) (a b : Part) → TestRises m a → TestRises p b → (to : ℕ) (when : Bool) (l : Low) → R ((m + p) + 1) l (and_test a b to when l)
  and_rises m p a b f g to true l = past_rises (m + p) (λ i l1. b.test to true (a.test i false l1)) (λ i l1. two_tests m p a b f g i to false true l1) l
  and_rises m p a b f g to false l = one_more (m + p) l _ (two_tests m p a b f g to to false false l)

  pub or_rises : (m p : ℕ) (a b : Part) → TestRises m a → TestRises p b → (to : ℕ) (when : Bool) (l : Low) → R ((m + p) + 1) l (or_test a b to when l)
  or_rises m p a b f g to true l = one_more (m + p) l _ (two_tests m p a b f g to to true true l)
  or_rises m p a b f g to false l = past_rises (m + p) (λ i l1. b.test to false (a.test i true l1)) (λ i l1. two_tests m p a b f g i to true false l1) l

  -- ---- conditionals

  as_word : (z : ℤ) (v : Typed) (l : Low) → PricedAt 10 v → R 14 l (stored_in z (record { tree = as_i v; suffix = I }) l)
  as_word z v l h = k.acts 1 12 (stored_as Four (local z) (record { tree = as_i v; suffix = I })) l (refl, omega arith) (i_priced v h)

  as_place : (z : ℤ) (v : Typed) (l : Low) → PricedAt 10 v → R 14 l (stored_in z (as_pointer v) l)
  as_place z v l h = k.acts 1 12 (stored_as Four (local z) (as_pointer v)) l (refl, omega arith) (p_priced v h)

  kept_rises : (sort : Sort) (z : ℤ) (m : ℕ) (l : Low) (r : Lowered) → Comes m l r → R (m + 14) l (kept_in sort z r)
  kept_rises Nothing z m l r h = k.weakens m (m + 14) l r.low (omega arith) h.rises
  kept_rises Word z m l r h = k.joins m 14 l r.low _ h.rises (as_word z r.value r.low h.value)
  kept_rises Place z m l r h = k.joins m 14 l r.low _ h.rises (as_place z r.value r.low h.value)

  second_rises : (m : ℕ) (sort : Sort) (z : ℤ) (c : Part) → PartComes m c → (i end : ℕ) (l : Low) → R (m + 18) l (second_way sort z c i end l)
  second_rises m sort z c f i end l =
      let l1 = jumped end l in
      let l2 = marked i l1 in
      let l3 = kept_in sort z (c.value l2) in
      k.weakens (2 + (1 + ((m + 14) + 1))) (m + 18) l _ (omega arith)
      (k.joins 2 (1 + ((m + 14) + 1)) l l1 _ (jumped_rises end l)
      (k.joins 1 ((m + 14) + 1) l1 l2 _ (k.marks i l1) (k.joins (m + 14) 1 l2 l3 _ (kept_rises sort z m l2 (c.value l2) (f l2)) (k.marks end l3))))

  both_rises : (m p u : ℕ) (sort : Sort) (z : ℤ) (a b c : Part) → TestRises m a → PartComes p b → PartComes u c → (i end : ℕ) (l : Low)
      → R (m + ((p + 14) + (u + 18))) l (both_ways sort z a b c i end l)
  both_rises m p u sort z a b c f g h i end l =
      let l1 = a.test i false l in
      let l2 = kept_in sort z (b.value l1) in
      k.joins m ((p + 14) + (u + 18)) l l1 _ (f i false l)
      (k.joins (p + 14) (u + 18) l1 l2 _ (kept_rises sort z p l1 (b.value l1) (g l1)) (second_rises u sort z c h i end l2))

  sort_comes : (sort : Sort) (z : ℤ) (l : Low) → Comes 2 l (placed (sort_read sort z) l)
  sort_comes Nothing z l = placed_comes 2 (number true 0) l (refl, omega arith)
  sort_comes Word z l = placed_comes 2 (slot_read I z) l (slot_asks I z)
  sort_comes Place z l = placed_comes 2 (slot_read P z) l (slot_asks P z)

  pub conditional_comes : (m p u : ℕ) (of : CType) (a b c : Part) → TestRises m a → PartComes p b → PartComes u c → (l : Low)
      → Comes (m + (p + (u + 35))) l (conditional of a b c l)
  conditional_comes m p u of a b c f g h l =
      let l1 = with_slot l in
      let l2 = with_label l1 in
      let l3 = with_label l2 in
      let l4 = both_ways (sort_of of) (slot_offset l) a b c l1.labels l2.labels l3 in
      let w = m + ((p + 14) + (u + 18)) in
      let r = sort_comes (sort_of of) (slot_offset l) l4 in
      record {
        rises = k.weakens (1 + (0 + (0 + (w + 2)))) (m + (p + (u + 35))) l _ (omega arith)
            (k.joins 1 (0 + (0 + (w + 2))) l l1 _ (k.slot l)
            (k.joins 0 (0 + (w + 2)) l1 l2 _ (k.label l1)
            (k.joins 0 (w + 2) l2 l3 _ (k.label l2)
            (k.joins w 2 l3 l4 _ (both_rises m p u (sort_of of) (slot_offset l) a b c f g h l1.labels l2.labels l3) r.rises))));
        value = r.value;
      }
