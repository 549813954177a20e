-- Two operands, tests and conditionals over parts that fit.
use Rattle.std.specs.Prelude.{◌≡◌, ◌<◌, ℕ, ◌^◌, Bool, true, false, ℤ, List}
use Rattle.std.proofs.Common.{arith}
use Rattle.objects.specs.declared.operators.Comparison.{Comparison}
use Rattle.op_forest.specs.declared.frame.Slot.{Slot}
use Rattle.op_forest.specs.declared.suffix.Suffix.TheVariants.{I, P}
use Rattle.forests.specs.WellFormed.{LiesInOne}
use Rattle.c_types.specs.CType.{CType}
use Rattle.c_meaning.specs.CoreTrees.{type_of}
use Rattle.c_rows_agree.specs.Integers.{number, compared, tested, as_pointer}
use Rattle.c_rows_agree.specs.Typed.{Typed, as_i}
use Rattle.lowered_forms.specs.Conditionals.{Sort, Nothing, Word, Place, sort_of, kept_in, sort_read, second_way, both_ways, conditional}
use Rattle.lowered_forms.specs.Lows.{Low, branched, jumped, marked, with_label, slot_offset, with_slot}
use Rattle.lowered_forms.specs.Straight.{straight}
use Rattle.lowered_forms.specs.Tests.{compares_signed, comparison_test, value_test, past, and_test, or_test, truth_in, truth_of}
use Rattle.lowered_forms.specs.Values.{Lowered, Part, held, of_two, slot_read, stored_in}
use Rattle.lowered_fit.specs.Fitted.{FitsTyped, KeepsKeys}
use Rattle.lowered_fit.specs.States.{IsFitState, IsWider, IsFitAfter, standing_in, IsFitResult}
use Rattle.lowered_fit.proofs.lemmas.AccessesFit.{GivesFit}
use Rattle.lowered_fit.proofs.lemmas.Operands.{keys_in, goes_after, just_placed, after_behind, branched_fits, marked_fits, jumped_fits, label_fits, slot_goes, slot_lies, slot_fits, stored_goes, is_held, waited, operand_typed}
use Rattle.lowered_fit.proofs.lemmas.PlacesFit.{number_fits}
use Rattle.lowered_fit.proofs.lemmas.RowsFit.{i_fits, pointer_fits, comparison_fits, test_fits}

module _ (slots : List Slot) where
  -- ---- parts

  -- a part fits in each frame that has the slots; where it is straight the nodes of the block stay
  pub record PartFits (bytes : ℕ) (a : Part) : Type 0 where
    pub value : (l : Low) → IsWider slots l.slots → IsFitState l → IsFitResult bytes l (a.value l)
    pub keeps : straight a.tree ≡ true → (l : Low) → KeepsKeys (keys_in l) (keys_in (a.value l).low)
    pub test : (n : ℕ) (when : Bool) (l : Low) → IsWider slots l.slots → IsFitState l → IsFitAfter l (a.test n when l)

  -- ---- two operands

  pub record BothFit (l : Low) (x : Typed) (r : Lowered) : Type 0 where
    pub state : IsFitState r.low
    pub wide : IsWider l.slots r.low.slots
    pub first : FitsTyped (standing_in r.low) x
    pub second : FitsTyped (standing_in r.low) r.value

  both_fit : (m n : ℕ) (a b : Part) → PartFits m a → PartFits n b → (l : Low) → IsWider slots l.slots → IsFitState l
      → BothFit l (held (straight b.tree) (a.value l).value (a.value l).low).value (b.value (held (straight b.tree) (a.value l).value (a.value l).low).low)
  both_fit m n a b f g l w h =
      let v = a.value l in
      let c = f.value l w h in
      let x = held (straight b.tree) v.value v.low in
      let d = is_held (straight b.tree) v.value v.low c.state c.value in
      let y = b.value x.low in
      let e = g.value x.low (λ z i. d.goes.wide z (c.wide z (w z i))) d.goes.state in
      record {
        state = e.state;
        wide = λ z i. e.wide z (d.goes.wide z (c.wide z i));
        first = operand_typed (standing_in y.low) x.value (waited (straight b.tree) x y.low d.value (λ i. g.keeps i x.low) e.wide);
        second = operand_typed (standing_in y.low) y.value e.value;
      }

  pub two_fit : (m n : ℕ) (a b : Part) → PartFits m a → PartFits n b → (go : Typed → Typed → Low → Lowered) → GivesFit go → (l : Low) → IsWider slots l.slots → IsFitState l
      → IsFitResult 0 l (of_two a b l go)
  two_fit m n a b f g go gives l w h =
      let v = a.value l in
      let x = held (straight b.tree) v.value v.low in
      let y = b.value x.low in
      let c = both_fit m n a b f g l w h in
      let r = gives x.value y.value y.low c.state c.first c.second in
      record { state = r.state; wide = λ z i. r.wide z (c.wide z i); value = r.value; room = r.room }

  -- ---- tests

  pub comparison_test_fits : (m n : ℕ) (o : Comparison) (signed : Bool) (a b : Part) → PartFits m a → PartFits n b → (to : ℕ) (when : Bool) (l : Low) → IsWider slots l.slots → IsFitState l
      → IsFitAfter l (comparison_test o signed a b to when l)
  comparison_test_fits m n o signed a b f g to when l w h =
      let v = a.value l in
      let x = held (straight b.tree) v.value v.low in
      let y = b.value x.low in
      let c = both_fit m n a b f g l w h in
      let by = compares_signed (type_of a.tree) signed in
      after_behind l y.low (branched (compared o by when to x.value y.value) y.low) c.wide
      (branched_fits (compared o by when to x.value y.value) y.low c.state (comparison_fits (standing_in y.low) x.value y.value c.first c.second o by when to))

  pub value_test_fits : (m : ℕ) (value : Low → Lowered) (l : Low) → IsFitResult m l (value l) → (to : ℕ) (when : Bool) → IsFitAfter l (value_test value to when l)
  value_test_fits m value l c to when =
      let v = value l in
      let t = operand_typed (standing_in v.low) v.value c.value in
      after_behind l v.low (branched (tested when to v.value) v.low) c.wide (branched_fits (tested when to v.value) v.low c.state (test_fits (standing_in v.low) v.value v.value t t when to))

  abbrev Tests : (ℕ → Bool → Low → Low) → Type 0
  Tests test = (n : ℕ) (when : Bool) (l : Low) → IsWider slots l.slots → IsFitState l → IsFitAfter l (test n when l)

  past_fits : (go : ℕ → Low → Low) → ((n : ℕ) (l : Low) → IsWider slots l.slots → IsFitState l → IsFitAfter l (go n l)) → (l : Low) → IsWider slots l.slots → IsFitState l → IsFitAfter l (past go l)
  past_fits go f l w h =
      let m = go l.labels (with_label l) in
      let c = f l.labels (with_label l) w (label_fits l h) in
      after_behind l m (marked l.labels m) c.wide (marked_fits l.labels m c.state)

  two_tests : (a b : ℕ → Bool → Low → Low) → Tests a → Tests b → (i j : ℕ) (c d : Bool) (l : Low) → IsWider slots l.slots → IsFitState l → IsFitAfter l (b j d (a i c l))
  two_tests a b f g i j c d l w h =
      let m = a i c l in
      let x = f i c l w h in
      after_behind l m (b j d m) x.wide (g j d m (λ z e. x.wide z (w z e)) x.state)

  pub and_fits : (a b : Part) → Tests a.test → Tests b.test → (to : ℕ) (when : Bool) (l : Low) → IsWider slots l.slots → IsFitState l → IsFitAfter l (and_test a b to when l)
  and_fits a b f g to true l w h = past_fits (λ i m. b.test to true (a.test i false m)) (λ i m. two_tests a.test b.test f g i to false true m) l w h
  and_fits a b f g to false l w h = two_tests a.test b.test f g to to false false l w h

  pub or_fits : (a b : Part) → Tests a.test → Tests b.test → (to : ℕ) (when : Bool) (l : Low) → IsWider slots l.slots → IsFitState l → IsFitAfter l (or_test a b to when l)
  or_fits a b f g to true l w h = two_tests a.test b.test f g to to true true l w h
  or_fits a b f g to false l w h = past_fits (λ i m. b.test to false (a.test i true m)) (λ i m. two_tests a.test b.test f g i to true false m) l w h

  -- ---- a truth as a number

  number_stored : (z : ℤ) (n : ℕ) (l : Low) → n < 2 ^ 32 → IsFitState l → LiesInOne l.slots z → IsFitAfter l (stored_in z (number true n) l)
  number_stored z n l small h i = goes_after l (stored_in z (number true n) l) (stored_goes z (number true n) l h i (number_fits (standing_in l) true n small))

  truth_in_fits : (test : ℕ → Bool → Low → Low) → Tests test → (z : ℤ) (l : Low) → LiesInOne l.slots z → IsWider slots l.slots → IsFitState l → IsFitAfter l (truth_in test z l)
  truth_in_fits test f z l i w h =
      let l1 = with_label l in
      let l2 = stored_in z (number true 0) l1 in
      let a = number_stored z 0 l1 (omega arith) (label_fits l h) i in
      let l3 = test l.labels false l2 in
      let b = f l.labels false l2 (λ y e. a.wide y (w y e)) a.state in
      let l4 = stored_in z (number true 1) l3 in
      let c = number_stored z 1 l3 (omega arith) b.state (b.wide z (a.wide z i)) in
      after_behind l l4 (marked l.labels l4) (λ y e. c.wide y (b.wide y (a.wide y e))) (marked_fits l.labels l4 c.state)

  pub truth_fits : (test : ℕ → Bool → Low → Low) → Tests test → (l : Low) → IsWider slots l.slots → IsFitState l → IsFitResult 0 l (truth_of test l)
  truth_fits test f l w h =
      let l1 = with_slot l in
      let z = slot_offset l in
      let a = slot_goes l h in
      let l2 = truth_in test z l1 in
      let b = truth_in_fits test f z l1 (slot_lies l) (λ y e. a.wide y (w y e)) a.state in
      let c = just_placed (slot_read I z) l2 b.state (slot_fits (standing_in l2) I z (b.wide z (slot_lies l))) in
      record { state = c.result.state; wide = λ y e. c.result.wide y (b.wide y (a.wide y e)); value = c.result.value; room = c.result.room }

  -- ---- conditionals

  kept_in_fits : (m : ℕ) (sort : Sort) (z : ℤ) (l : Low) (r : Lowered) → LiesInOne l.slots z → IsFitResult m l r → IsFitAfter l (kept_in sort z r)
  kept_in_fits m Nothing z l r i c = record { state = c.state; wide = c.wide }
  kept_in_fits m Word z l r i c =
      let t = operand_typed (standing_in r.low) r.value c.value in
      let v : Typed = record { tree = as_i r.value; suffix = I } in
      let g = stored_goes z v r.low c.state (c.wide z i) (record { fits = i_fits (standing_in r.low) r.value r.value t t; scalar = tt }) in
      after_behind l r.low (stored_in z v r.low) c.wide (goes_after r.low (stored_in z v r.low) g)
  kept_in_fits m Place z l r i c =
      let t = operand_typed (standing_in r.low) r.value c.value in
      let g = stored_goes z (as_pointer r.value) r.low c.state (c.wide z i) (pointer_fits (standing_in r.low) r.value r.value t t) in
      after_behind l r.low (stored_in z (as_pointer r.value) r.low) c.wide (goes_after r.low (stored_in z (as_pointer r.value) r.low) g)

  second_way_fits : (m : ℕ) (sort : Sort) (z : ℤ) (c : Part) → PartFits m c → (n end : ℕ) (l : Low) → LiesInOne l.slots z → IsWider slots l.slots → IsFitState l → IsFitAfter l (second_way sort z c n end l)
  second_way_fits m sort z c f n end l i w h =
      let l1 = jumped end l in
      let a = jumped_fits end l h in
      let l2 = marked n l1 in
      let b = marked_fits n l1 a.state in
      let wide : IsWider l.slots l2.slots = λ y e. b.wide y (a.wide y e) in
      let l3 = kept_in sort z (c.value l2) in
      let d = kept_in_fits m sort z l2 (c.value l2) (wide z i) (f.value l2 (λ y e. wide y (w y e)) b.state) in
      after_behind l l3 (marked end l3) (λ y e. d.wide y (wide y e)) (marked_fits end l3 d.state)

  both_ways_fit : (m n : ℕ) (sort : Sort) (z : ℤ) (a b c : Part) → Tests a.test → PartFits m b → PartFits n c → (i end : ℕ) (l : Low) → LiesInOne l.slots z → IsWider slots l.slots → IsFitState l
      → IsFitAfter l (both_ways sort z a b c i end l)
  both_ways_fit m n sort z a b c f g k i end l lies w h =
      let l1 = a.test i false l in
      let x = f i false l w h in
      let l2 = kept_in sort z (b.value l1) in
      let y = kept_in_fits m sort z l1 (b.value l1) (x.wide z lies) (g.value l1 (λ q e. x.wide q (w q e)) x.state) in
      let wide : IsWider l.slots l2.slots = λ q e. y.wide q (x.wide q e) in
      after_behind l l2 (second_way sort z c i end l2) wide (second_way_fits n sort z c k i end l2 (wide z lies) (λ q e. wide q (w q e)) y.state)

  sort_fits : (sort : Sort) (z : ℤ) (l : Low) → LiesInOne l.slots z → FitsTyped (standing_in l) (sort_read sort z)
  sort_fits Nothing z l i = number_fits (standing_in l) true 0 (omega arith)
  sort_fits Word z l i = slot_fits (standing_in l) I z i
  sort_fits Place z l i = slot_fits (standing_in l) P z i

  pub conditional_fits : (m n : ℕ) (of : CType) (a b c : Part) → Tests a.test → PartFits m b → PartFits n c → (l : Low) → IsWider slots l.slots → IsFitState l → IsFitResult 0 l (conditional of a b c l)
  conditional_fits m n of a b c f g k l w h =
      let l1 = with_slot l in
      let z = slot_offset l in
      let x = slot_goes l h in
      let l2 = with_label (with_label l1) in
      let l3 = both_ways (sort_of of) z a b c l1.labels (with_label l1).labels l2 in
      let y = both_ways_fit m n (sort_of of) z a b c f g k l1.labels (with_label l1).labels l2 (slot_lies l) (λ q e. x.wide q (w q e)) (label_fits (with_label l1) (label_fits l1 x.state)) in
      let d = just_placed (sort_read (sort_of of) z) l3 y.state (sort_fits (sort_of of) z l3 (y.wide z (slot_lies l))) in
      record { state = d.result.state; wide = λ q e. d.result.wide q (y.wide q (x.wide q e)); value = d.result.value; room = d.result.room }
