-- What each step keeps, the search of a switch keeps.
use Rattle.std.specs.Prelude.{ℕ, ◌+◌, Bool, true, false, List, [], ◌∷◌, length}
use Rattle.objects.specs.declared.operators.Comparison.{Comparison}
use Rattle.objects.specs.declared.operators.Comparison.TheVariants as comparison
use Rattle.op_forest.specs.declared.op.Op.TheVariants as op
use Rattle.op_forest.specs.declared.suffix.Suffix.TheVariants.{I, V}
use Rattle.switch_tables.specs.declared.table.Table.{Table}
use Rattle.switch_tables.specs.Searches.{Search, Nowhere, At, last_in}
use Rattle.c_rows_agree.specs.Integers.{number, compared}
use Rattle.c_rows_agree.specs.Places.{loaded_pointer}
use Rattle.c_rows_agree.specs.Typed.{head}
use Rattle.lowered_forms.specs.Lows.{acted_one, marked}
use Rattle.lowered_forms.specs.Values.{slot_read}
use Rattle.lowered_forms.proofs.lemmas.Stepping.{branched_steps}
use Rattle.lowered_statements.specs.Bodies.{Body, with_low}
use Rattle.lowered_statements.specs.Functions.{Function}
use Rattle.lowered_statements.specs.Searches.{Choice, compared_with, place_in_table, jumped_by, through, Side, way, with_way, side_by, side_at, is_alone, below_tested, number_tested, one_number, table_tested, one_table, at_table, searched}
use Rattle.lowered_statements.specs.Steps.{BodyRelation, BodySteps}
use Rattle.lowered_statements.proofs.lemmas.Stepping.{lows, low_steps, low_jumps, jump_step}

module _ (R : BodyRelation) (k : BodySteps R) where
  compared_step : (o : Comparison) (x : Choice) (n label : ℕ) (b : Body) → R b (with_low (compared_with o x n label b.low) b)
  compared_step o x n label b = branched_steps (lows R b.tables) (low_steps R k b.tables) (low_jumps R k b.tables) (compared o x.signed true label (slot_read I x.slot) (number x.signed n)) b.low

  through_step : (f : Function) (x : Choice) (t : Table) (b : Body) → R b (through f x t b)
  through_step f x t b =
      let table = f.tables + length b.tables in
      let h = head op.Jump V in
      let place = (loaded_pointer (place_in_table x t.low table)).tree in
      let b1 = with_low (acted_one h place b.low) b in
      let b2 = with_low (jumped_by x t.low table b.low) b in
      k.joins b b2 (through f x t b) (k.joins b b1 b2 (k.acts_one h place b) (k.ends b1)) (k.table t.labels b2)

  -- ---- sides

  way_step : (s : Search) (b : Body) → R b (with_low (with_way s b.low) b)
  way_step Nowhere b = k.same b
  way_step (At t less greater) b = k.label b

  side_by_step : (s : Search) (code : Body → Body) → ((b : Body) → R b (code b)) → (n : ℕ) (b : Body) → R b (side_by s code n b)
  side_by_step Nowhere code h n b = k.same b
  side_by_step (At t less greater) code h n b = k.joins b (with_low (marked n b.low) b) _ (k.marks n b) (h (with_low (marked n b.low) b))

  abbrev SideSteps : Side → Type 0
  SideSteps s = (b : Body) → R b (s.code b)

  side_step : (s : Side) → SideSteps s → (n : ℕ) (b : Body) → R b (side_at s n b)
  side_step s h n b = side_by_step s.tables s.code h n b

  -- ---- one number

  below_step : (alone : Bool) (x : Choice) (n label : ℕ) (b : Body) → R b (with_low (below_tested alone x n label b.low) b)
  below_step true x n label b = k.same b
  below_step false x n label b = compared_step comparison.Less x n label b

  number_step : (x : Choice) (n label : ℕ) (less greater : Side) → SideSteps less → SideSteps greater → (below : ℕ) (b : Body) → R b (number_tested x n label less greater below b)
  number_step x n label less greater f g below b =
      let b1 = with_low (compared_with comparison.Equal x n label b.low) b in
      let b2 = with_low (below_tested (is_alone less.tables greater.tables) x n (way less.tables x.default below) b1.low) b1 in
      k.joins b b1 _ (compared_step comparison.Equal x n label b)
      (k.joins b1 b2 _ (below_step (is_alone less.tables greater.tables) x n (way less.tables x.default below) b1)
      (k.joins b2 (greater.code b2) _ (g b2) (side_step less f below (greater.code b2))))

  one_number_step : (x : Choice) (n label : ℕ) (less greater : Side) → SideSteps less → SideSteps greater → (b : Body) → R b (one_number x n label less greater b)
  one_number_step x n label less greater f g b =
      let b1 = with_low (with_way less.tables b.low) b in
      k.joins b b1 _ (way_step less.tables b) (number_step x n label less greater f g b.low.labels b1)

  -- ---- a table

  table_step : (f : Function) (x : Choice) (t : Table) (less greater : Side) → SideSteps less → SideSteps greater → (below above : ℕ) (b : Body) → R b (table_tested f x t less greater below above b)
  table_step f x t less greater g h below above b =
      let b1 = with_low (compared_with comparison.Less x t.low (way less.tables x.default below) b.low) b in
      let b2 = with_low (compared_with comparison.Greater x (last_in t) (way greater.tables x.default above) b1.low) b1 in
      let b3 = through f x t b2 in
      let b4 = side_at greater above b3 in
      k.joins b b1 _ (compared_step comparison.Less x t.low (way less.tables x.default below) b)
      (k.joins b1 b2 _ (compared_step comparison.Greater x (last_in t) (way greater.tables x.default above) b1)
      (k.joins b2 b3 _ (through_step f x t b2) (k.joins b3 b4 _ (side_step greater h above b3) (side_step less g below b4))))

  one_table_step : (f : Function) (x : Choice) (t : Table) (less greater : Side) → SideSteps less → SideSteps greater → (b : Body) → R b (one_table f x t less greater b)
  one_table_step f x t less greater g h b =
      let b1 = with_low (with_way less.tables b.low) b in
      let b2 = with_low (with_way greater.tables b1.low) b1 in
      k.joins b b1 _ (way_step less.tables b) (k.joins b1 b2 _ (way_step greater.tables b1) (table_step f x t less greater g h b.low.labels b1.low.labels b2))

  at_table_step : (labels : List ℕ) (f : Function) (x : Choice) (t : Table) (less greater : Side) → SideSteps less → SideSteps greater → (b : Body) → R b (at_table labels f x t less greater b)
  at_table_step [] f x t less greater g h b = one_table_step f x t less greater g h b
  at_table_step (label ∷ []) f x t less greater g h b = one_number_step x t.low label less greater g h b
  at_table_step (label ∷ other ∷ ls) f x t less greater g h b = one_table_step f x t less greater g h b

  pub searched_step : (f : Function) (x : Choice) (s : Search) (b : Body) → R b (searched f x s b)
  searched_step f x Nowhere b = jump_step (lows R b.tables) (low_steps R k b.tables) (low_jumps R k b.tables) x.default b.low
  searched_step f x (At t less greater) b =
      at_table_step t.labels f x t (record { tables = less; code = λ b1. searched f x less b1 }) (record { tables = greater; code = λ b1. searched f x greater b1 })
      (λ b1. searched_step f x less b1) (λ b1. searched_step f x greater b1) b
