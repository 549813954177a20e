-- The search of a switch.
use Rattle.std.specs.Prelude.{◌≡◌, ◌<◌, ℕ, ◌+◌, ◌^◌, Bool, true, false, ℤ, pos, List, [], ◌∷◌, length}
use Rattle.std.proofs.Common.{refl, arith}
use Rattle.objects.specs.declared.operators.Binary.TheVariants as binary
use Rattle.objects.specs.declared.operators.Comparison.{Comparison}
use Rattle.objects.specs.declared.operators.Comparison.TheVariants as comparison
use Rattle.op_forest.specs.declared.op.Op.TheVariants as op
use Rattle.op_forest.specs.declared.suffix.Suffix.TheVariants.{I, P, V}
use Rattle.forests.specs.WellFormed.{LiesInOne}
use Rattle.switch_tables.specs.declared.table.Table.{Table}
use Rattle.switch_tables.specs.Searches.{Search, Nowhere, At, last_in}
use Rattle.c_rows_agree.specs.Integers.{number, binary_of, compared}
use Rattle.c_rows_agree.specs.Places.{loaded_pointer}
use Rattle.c_rows_agree.specs.Typed.{head}
use Rattle.c_pointers_agree.specs.Pointers.{name}
use Rattle.lowered_forms.specs.Lows.{Low, acted_one, ended, marked}
use Rattle.lowered_forms.specs.Values.{slot_read}
use Rattle.lowered_fit.specs.Fitted.{FitsTyped}
use Rattle.lowered_fit.specs.States.{IsFitState, IsFitAfter, standing_in}
use Rattle.lowered_fit.proofs.lemmas.Operands.{after_behind, lone_goes, branched_fits, ended_fits, jumped_fits, marked_fits, label_fits, slot_fits}
use Rattle.lowered_fit.proofs.lemmas.PlacesFit.{number_fits, name_fits}
use Rattle.lowered_fit.proofs.lemmas.RowsFit.{binary_fits, move_fits, pointer_read_fits, comparison_fits}
use Rattle.lowered_statements.specs.Bodies.{Body, with_low}
use Rattle.lowered_statements.specs.Functions.{Function}
use Rattle.lowered_statements.specs.Searches.{Choice, compared_with, place_in_table, jumped_by, through, Side, way, with_way, side_by, side_at, is_alone, below_tested, number_tested, one_number, range_tested, table_tested, one_table, at_table, searched}
use Rattle.statements_fit.specs.Statements.{HasWords}

-- ---- steps of bodies

-- the slot with the number is there, and the body goes on to fit
abbrev pub GoesWith : ℤ → (Body → Body) → Type 0
GoesWith z go = (b : Body) → LiesInOne b.low.slots z → IsFitState b.low → IsFitAfter b.low (go b).low

abbrev pub LowGoes : ℤ → (Low → Low) → Type 0
LowGoes z go = (l : Low) → LiesInOne l.slots z → IsFitState l → IsFitAfter l (go l)

pub both_go : (z : ℤ) (f g : Body → Body) → GoesWith z f → GoesWith z g → GoesWith z (λ b. g (f b))
both_go z f g h k b lies w =
    let x = h b lies w in
    after_behind b.low (f b).low (g (f b)).low x.wide (k (f b) (x.wide z lies) x.state)

stays : (l : Low) → IsFitState l → IsFitAfter l l
stays l h = record { state = h; wide = λ z e. e }

module _ (f : Function) (x : Choice) where
  -- ---- tests and jumps

  compared_goes : (o : Comparison) (n label : ℕ) → n < 2 ^ 32 → LowGoes x.slot (λ l. compared_with o x n label l)
  compared_goes o n label small l lies h =
      let g = standing_in l in
      branched_fits (compared o x.signed true label (slot_read I x.slot) (number x.signed n)) l h
      (comparison_fits g (slot_read I x.slot) (number x.signed n) (slot_fits g I x.slot lies) (number_fits g x.signed n small) o x.signed true label)

  place_in_fits : (low table : ℕ) (l : Low) → low < 2 ^ 32 → LiesInOne l.slots x.slot → FitsTyped (standing_in l) (place_in_table x low table)
  place_in_fits low table l small lies =
      let g = standing_in l in
      let v = binary_of binary.Subtract x.signed (slot_read I x.slot) (number x.signed low) in
      let k = binary_fits g (slot_read I x.slot) (number x.signed low) (slot_fits g I x.slot lies) (number_fits g x.signed low small) binary.Subtract x.signed in
      move_fits g (name table (pos 0)) v (name_fits g table (pos 0)) k 4 false (omega arith)

  jumped_by_goes : (low table : ℕ) → low < 2 ^ 32 → LowGoes x.slot (λ l. jumped_by x low table l)
  jumped_by_goes low table small l lies h =
      let g = standing_in l in
      let place = place_in_table x low table in
      let k = place_in_fits low table l small lies in
      let a = lone_goes (head op.Jump V) (loaded_pointer place).tree P l h (record { operator = omega arith; part = tt; operands = refl; local = λ e. absurd (jump_no e) })
      (pointer_read_fits g place place k k).fits in
      let m = acted_one (head op.Jump V) (loaded_pointer place).tree l in
      after_behind l m (ended m) a.wide (ended_fits m a.state)
    where
      jump_no : op.Jump ≡ op.Addrl → ⊥
      jump_no e = cc

  through_goes : (t : Table) → t.low < 2 ^ 32 → GoesWith x.slot (λ b. through f x t b)
  through_goes t small b lies h = jumped_by_goes t.low (f.tables + length b.tables) small b.low lies h

  -- ---- sides

  way_goes : (s : Search) → LowGoes x.slot (λ l. with_way s l)
  way_goes Nowhere l lies h = stays l h
  way_goes (At t less greater) l lies h = record { state = label_fits l h; wide = λ z e. e }

  side_by_goes : (s : Search) (code : Body → Body) → GoesWith x.slot code → (n : ℕ) → GoesWith x.slot (λ b. side_by s code n b)
  side_by_goes Nowhere code g n b lies h = stays b.low h
  side_by_goes (At t less greater) code g n b lies h =
      let m = with_low (marked n b.low) b in
      let a = marked_fits n b.low h in
      after_behind b.low m.low (code m).low a.wide (g m (a.wide x.slot lies) a.state)

  side_goes : (s : Side) → GoesWith x.slot s.code → (n : ℕ) → GoesWith x.slot (λ b. side_at s n b)
  side_goes s g n = side_by_goes s.tables s.code g n

  -- ---- one number, and a table

  below_goes : (alone : Bool) (n label : ℕ) → n < 2 ^ 32 → LowGoes x.slot (λ l. below_tested alone x n label l)
  below_goes true n label small l lies h = stays l h
  below_goes false n label small l lies h = compared_goes comparison.Less n label small l lies h

  low_joined : (go next : Low → Low) → LowGoes x.slot go → LowGoes x.slot next → LowGoes x.slot (λ l. next (go l))
  low_joined go next g h l lies w =
      let a = g l lies w in
      after_behind l (go l) (next (go l)) a.wide (h (go l) (a.wide x.slot lies) a.state)

  number_goes : (n label : ℕ) (less greater : Side) → n < 2 ^ 32 → GoesWith x.slot less.code → GoesWith x.slot greater.code → (below : ℕ) → GoesWith x.slot (λ b. number_tested x n label less greater below b)
  number_goes n label less greater small g h below b lies w =
      let alone = is_alone less.tables greater.tables in
      let to = way less.tables x.default below in
      let tests = low_joined (λ l. compared_with comparison.Equal x n label l) (λ l. below_tested alone x n to l) (compared_goes comparison.Equal n label small) (below_goes alone n to small) in
      let m = with_low (below_tested alone x n to (compared_with comparison.Equal x n label b.low)) b in
      let a = tests b.low lies w in
      let c = both_go x.slot greater.code (λ d. side_at less below d) h (side_goes less g below) m (a.wide x.slot lies) a.state in
      after_behind b.low m.low _ a.wide c

  one_number_goes : (n label : ℕ) (less greater : Side) → n < 2 ^ 32 → GoesWith x.slot less.code → GoesWith x.slot greater.code → GoesWith x.slot (λ b. one_number x n label less greater b)
  one_number_goes n label less greater small g h b lies w =
      let m = with_low (with_way less.tables b.low) b in
      let a = way_goes less.tables b.low lies w in
      after_behind b.low m.low _ a.wide (number_goes n label less greater small g h b.low.labels m (a.wide x.slot lies) a.state)

  last_small : (t : Table) → last_in t < 2 ^ 32
  last_small t = omega arith

  range_goes : (t : Table) (below above : ℕ) → t.low < 2 ^ 32 → LowGoes x.slot (λ l. range_tested x t below above l)
  range_goes t below above small =
      low_joined (λ l. compared_with comparison.Less x t.low below l) (λ l. compared_with comparison.Greater x (last_in t) above l)
      (compared_goes comparison.Less t.low below small) (compared_goes comparison.Greater (last_in t) above (last_small t))

  table_goes : (t : Table) (less greater : Side) → t.low < 2 ^ 32 → GoesWith x.slot less.code → GoesWith x.slot greater.code → (below above : ℕ) → GoesWith x.slot (λ b. table_tested f x t less greater below above b)
  table_goes t less greater small g h below above b lies w =
      let i = way less.tables x.default below in
      let j = way greater.tables x.default above in
      let m = with_low (range_tested x t i j b.low) b in
      let a = range_goes t i j small b.low lies w in
      let sides = both_go x.slot (λ d. side_at greater above d) (λ d. side_at less below d) (side_goes greater h above) (side_goes less g below) in
      let c = both_go x.slot (λ d. through f x t d) (λ d. side_at less below (side_at greater above d)) (through_goes t small) sides m (a.wide x.slot lies) a.state in
      after_behind b.low m.low _ a.wide c

  one_table_goes : (t : Table) (less greater : Side) → t.low < 2 ^ 32 → GoesWith x.slot less.code → GoesWith x.slot greater.code → GoesWith x.slot (λ b. one_table f x t less greater b)
  one_table_goes t less greater small g h b lies w =
      let m = with_low (with_way less.tables b.low) b in
      let a = way_goes less.tables b.low lies w in
      let n = with_low (with_way greater.tables m.low) m in
      let c = way_goes greater.tables m.low (a.wide x.slot lies) a.state in
      after_behind b.low n.low _ (λ z e. c.wide z (a.wide z e)) (table_goes t less greater small g h b.low.labels m.low.labels n (c.wide x.slot (a.wide x.slot lies)) c.state)

  at_table_goes : (labels : List ℕ) (t : Table) (less greater : Side) → t.low < 2 ^ 32 → GoesWith x.slot less.code → GoesWith x.slot greater.code → GoesWith x.slot (λ b. at_table labels f x t less greater b)
  at_table_goes [] t less greater small g h = one_table_goes t less greater small g h
  at_table_goes (label ∷ []) t less greater small g h = one_number_goes t.low label less greater small g h
  at_table_goes (label ∷ other ∷ ls) t less greater small g h = one_table_goes t less greater small g h

  pub searched_goes : (s : Search) → HasWords s → GoesWith x.slot (λ b. searched f x s b)
  searched_goes Nowhere k b lies h = jumped_fits x.default b.low h
  searched_goes (At t less greater) k b lies h =
      at_table_goes t.labels t (record { tables = less; code = λ d. searched f x less d }) (record { tables = greater; code = λ d. searched f x greater d }) k.0
      (searched_goes less k.1) (searched_goes greater k.2) b lies h
