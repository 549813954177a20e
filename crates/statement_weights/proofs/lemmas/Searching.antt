-- The search of a switch adds at most 102 for each table, and two.
use Rattle.std.specs.Prelude.{refl, ℕ, ◌+◌, ◌*◌, Bool, true, false, List, [], ◌∷◌, length}
use Rattle.std.proofs.Common.{arith, length-append}
use Rattle.objects.specs.declared.operators.Binary.TheVariants as binary
use Rattle.objects.specs.declared.operators.Comparison.{Comparison}
use Rattle.objects.specs.declared.operators.Comparison.TheVariants as comparison
use Rattle.op_forest.specs.declared.op.Op.TheVariants as op
use Rattle.op_forest.specs.declared.suffix.Suffix.TheVariants.{I, V}
use Rattle.switch_tables.specs.declared.table.Table.{Table}
use Rattle.switch_tables.specs.Searches.{Search, Nowhere, At, last_in, in_order}
use Rattle.c_rows_agree.specs.Integers.{number, binary_of}
use Rattle.c_rows_agree.specs.Places.{loaded_pointer}
use Rattle.c_rows_agree.specs.Typed.{head}
use Rattle.lowered_forms.specs.Lows.{Low, acted_one, marked}
use Rattle.lowered_forms.specs.Values.{slot_read}
use Rattle.lowered_statements.specs.Bodies.{Body, with_low}
use Rattle.lowered_statements.specs.Functions.{Function}
use Rattle.lowered_statements.specs.Searches.{Choice, compared_with, place_in_table, through, Side, way, with_way, side_by, side_at, is_alone, below_tested, number_tested, one_number, table_tested, one_table, at_table, searched}
use Rattle.expression_weights.specs.Rises.{Risen, Rises}
use Rattle.expression_weights.proofs.lemmas.Operands.{jumped_rises}
use Rattle.expression_weights.proofs.lemmas.Operations.{PricedAt, as_i_at, as_p_at, binary_priced, slot_priced, leaf_value}
use Rattle.statement_weights.proofs.lemmas.Filling.{none}
use Rattle.statement_weights.proofs.lemmas.Stores.{joined, at_most, compares}

place_priced : (x : Choice) (low table : ℕ) → PricedAt 44 (place_in_table x low table)
place_priced x low table =
    let q = binary_of binary.Subtract x.signed (slot_read I x.slot) (number x.signed low) in
    let a = binary_priced binary.Subtract x.signed (slot_read I x.slot) (number x.signed low) (slot_priced I x.slot) (leaf_value x.signed low) in
    (refl, omega arith, 1, 29, (refl, omega arith), (refl, omega arith, 27, 1, as_i_at 25 q.suffix q.tree (omega arith) a, (refl, omega arith), omega arith), omega arith)

module _ (R : Risen) (k : Rises R) where
  with_adds : (o : Comparison) (x : Choice) (n label : ℕ) (l : Low) → R 25 l (compared_with o x n label l)
  with_adds o x n label l = compares R k o x.signed x.signed label n x.slot l

  through_adds : (f : Function) (x : Choice) (t : Table) (b : Body) → R 48 b.low (through f x t b).low
  through_adds f x t b =
      let p = place_in_table x t.low (f.tables + length b.tables) in
      let place = (loaded_pointer p).tree in
      let a = as_p_at 44 p.suffix p.tree (omega arith) (place_priced x t.low (f.tables + length b.tables)) in
      at_most R k 48
      (joined R k (k.acts_one 47 (head op.Jump V) place b.low (refl, omega arith, 46, a, omega arith)) (k.ends (acted_one (head op.Jump V) place b.low))) (omega arith)

  -- ---- sides

  way_adds : (s : Search) (l : Low) → R 0 l (with_way s l)
  way_adds Nowhere l = k.same l
  way_adds (At t less greater) l = k.label l

  abbrev SideAdds : ℕ → Side → Type 0
  SideAdds m s = (b : Body) → R m b.low (s.code b).low

  side_by_adds : (m : ℕ) (s : Search) (code : Body → Body) → ((b : Body) → R m b.low (code b).low) → (n : ℕ) (b : Body) → R (1 + m) b.low (side_by s code n b).low
  side_by_adds m Nowhere code h n b = none R k (1 + m) b.low
  side_by_adds m (At t less greater) code h n b = joined R k (k.marks n b.low) (h (with_low (marked n b.low) b))

  side_adds : (m : ℕ) (s : Side) → SideAdds m s → (n : ℕ) (b : Body) → R (1 + m) b.low (side_at s n b).low
  side_adds m s h n b = side_by_adds m s.tables s.code h n b

  -- ---- one number

  below_adds : (alone : Bool) (x : Choice) (n label : ℕ) (l : Low) → R 25 l (below_tested alone x n label l)
  below_adds true x n label l = none R k 25 l
  below_adds false x n label l = with_adds comparison.Less x n label l

  number_adds : (p q : ℕ) (x : Choice) (n label : ℕ) (less greater : Side) → SideAdds p less → SideAdds q greater → (below : ℕ) (b : Body)
      → R (98 + (q + p)) b.low (number_tested x n label less greater below b).low
  number_adds p q x n label less greater f g below b =
      let b1 = with_low (compared_with comparison.Equal x n label b.low) b in
      let alone = is_alone less.tables greater.tables in
      let to = way less.tables x.default below in
      let b2 = with_low (below_tested alone x n to b1.low) b1 in
      at_most R k (98 + (q + p))
      (joined R k (with_adds comparison.Equal x n label b.low)
      (joined R k (below_adds alone x n to b1.low) (joined R k (g b2) (side_adds p less f below (greater.code b2)))))
      (omega arith)

  one_number_adds : (p q : ℕ) (x : Choice) (n label : ℕ) (less greater : Side) → SideAdds p less → SideAdds q greater → (b : Body)
      → R (100 + (q + p)) b.low (one_number x n label less greater b).low
  one_number_adds p q x n label less greater f g b =
      let b1 = with_low (with_way less.tables b.low) b in
      at_most R k (100 + (q + p)) (joined R k (way_adds less.tables b.low) (number_adds p q x n label less greater f g b.low.labels b1)) (omega arith)

  -- ---- a table

  table_adds : (p q : ℕ) (f : Function) (x : Choice) (t : Table) (less greater : Side) → SideAdds p less → SideAdds q greater → (below above : ℕ) (b : Body)
      → R (100 + (q + p)) b.low (table_tested f x t less greater below above b).low
  table_adds p q f x t less greater g h below above b =
      let to = way less.tables x.default below in
      let past = way greater.tables x.default above in
      let b1 = with_low (compared_with comparison.Less x t.low to b.low) b in
      let b2 = with_low (compared_with comparison.Greater x (last_in t) past b1.low) b1 in
      let b3 = through f x t b2 in
      let b4 = side_at greater above b3 in
      at_most R k (100 + (q + p))
      (joined R k (with_adds comparison.Less x t.low to b.low)
      (joined R k (with_adds comparison.Greater x (last_in t) past b1.low)
      (joined R k (through_adds f x t b2) (joined R k (side_adds q greater h above b3) (side_adds p less g below b4)))))
      (omega arith)

  one_table_adds : (p q : ℕ) (f : Function) (x : Choice) (t : Table) (less greater : Side) → SideAdds p less → SideAdds q greater → (b : Body)
      → R (100 + (q + p)) b.low (one_table f x t less greater b).low
  one_table_adds p q f x t less greater g h b =
      let b1 = with_low (with_way less.tables b.low) b in
      let b2 = with_low (with_way greater.tables b1.low) b1 in
      at_most R k (100 + (q + p))
      (joined R k (way_adds less.tables b.low)
      (joined R k (way_adds greater.tables b1.low) (table_adds p q f x t less greater g h b.low.labels b1.low.labels b2)))
      (omega arith)

  at_table_adds : (p q : ℕ) (labels : List ℕ) (f : Function) (x : Choice) (t : Table) (less greater : Side) → SideAdds p less → SideAdds q greater → (b : Body)
      → R (100 + (q + p)) b.low (at_table labels f x t less greater b).low
  at_table_adds p q [] f x t less greater g h b = one_table_adds p q f x t less greater g h b
  at_table_adds p q (label ∷ []) f x t less greater g h b = one_number_adds p q x t.low label less greater g h b
  at_table_adds p q (label ∷ other ∷ ls) f x t less greater g h b = one_table_adds p q f x t less greater g h b

  pub searched_adds : (f : Function) (x : Choice) (s : Search) (b : Body) → R (2 + 102 * length (in_order s)) b.low (searched f x s b).low
  searched_adds f x Nowhere b = jumped_rises R k x.default b.low
  searched_adds f x (At t less greater) b =
      let e = length-append (in_order less) (t ∷ in_order greater) in
      at_most R k (2 + 102 * length (in_order (At t less greater)))
      (at_table_adds (2 + 102 * length (in_order less)) (2 + 102 * length (in_order greater)) t.labels f x t
      (record { tables = less; code = λ b1. searched f x less b1 }) (record { tables = greater; code = λ b1. searched f x greater b1 })
      (λ b1. searched_adds f x less b1) (λ b1. searched_adds f x greater b1) b)
      (omega (arith, e))
