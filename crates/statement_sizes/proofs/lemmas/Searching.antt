-- The search of a switch uses at most two labels for each table.
use Rattle.std.specs.Prelude.{ℕ, ◌+◌, ◌*◌, Bool, true, false, List, [], ◌∷◌, length}
use Rattle.std.proofs.Common.{arith, length-append}
use Rattle.objects.specs.declared.operators.Comparison.{Comparison}
use Rattle.objects.specs.declared.operators.Comparison.TheVariants as comparison
use Rattle.op_forest.specs.declared.op.Op.TheVariants as op
use Rattle.op_forest.specs.declared.suffix.Suffix.TheVariants.{I, V}
use Rattle.switch_tables.specs.declared.table.Table.{Table}
use Rattle.switch_tables.specs.Searches.{Search, Nowhere, At, last_in, in_order}
use Rattle.c_rows_agree.specs.Integers.{number, compared}
use Rattle.c_rows_agree.specs.Places.{loaded_pointer}
use Rattle.c_rows_agree.specs.Typed.{head}
use Rattle.lowered_forms.specs.Lows.{Low, acted_one, marked}
use Rattle.lowered_forms.specs.Values.{slot_read}
use Rattle.lowered_statements.specs.Bodies.{Body, with_low}
use Rattle.lowered_statements.specs.Functions.{Function}
use Rattle.lowered_statements.specs.Searches.{Choice, compared_with, place_in_table, through, Side, way, with_way, side_by, side_at, is_alone, below_tested, number_tested, one_number, table_tested, one_table, at_table, searched}
use Rattle.lowered_sizes.proofs.lemmas.Counting.{branched_counts, jumped_counts}
use Rattle.lowered_sizes.proofs.lemmas.Taking.{Takes, takes_counts, joined, at_most}

compared_takes : (o : Comparison) (x : Choice) (n label : ℕ) (l : Low) → Takes 0 0 l (compared_with o x n label l)
compared_takes o x n label l = branched_counts Takes takes_counts (compared o x.signed true label (slot_read I x.slot) (number x.signed n)) l

through_takes : (f : Function) (x : Choice) (t : Table) (b : Body) → Takes 0 0 b.low (through f x t b).low
through_takes f x t b =
    let place = (loaded_pointer (place_in_table x t.low (f.tables + length b.tables))).tree in
    joined (takes_counts.acts_one (head op.Jump V) place b.low) (takes_counts.ends (acted_one (head op.Jump V) place b.low))

-- ---- sides

way_takes : (s : Search) (l : Low) → Takes 0 1 l (with_way s l)
way_takes Nowhere l = at_most 0 1 (takes_counts.same l) (omega arith) (omega arith)
way_takes (At t less greater) l = takes_counts.label l

-- a side's code with at most so many labels
abbrev SideTakes : ℕ → Side → Type 0
SideTakes m s = (b : Body) → Takes 0 m b.low (s.code b).low

side_by_takes : (m : ℕ) (s : Search) (code : Body → Body) → ((b : Body) → Takes 0 m b.low (code b).low) → (n : ℕ) (b : Body) → Takes 0 m b.low (side_by s code n b).low
side_by_takes m Nowhere code h n b = at_most 0 m (takes_counts.same b.low) (omega arith) (omega arith)
side_by_takes m (At t less greater) code h n b = at_most 0 m (joined (takes_counts.marks n b.low) (h (with_low (marked n b.low) b))) (omega arith) (omega arith)

side_takes : (m : ℕ) (s : Side) → SideTakes m s → (n : ℕ) (b : Body) → Takes 0 m b.low (side_at s n b).low
side_takes m s h n b = side_by_takes m s.tables s.code h n b

-- ---- one number

below_takes : (alone : Bool) (x : Choice) (n label : ℕ) (l : Low) → Takes 0 0 l (below_tested alone x n label l)
below_takes true x n label l = takes_counts.same l
below_takes false x n label l = compared_takes comparison.Less x n label l

number_takes : (p q : ℕ) (x : Choice) (n label : ℕ) (less greater : Side) → SideTakes p less → SideTakes q greater → (below : ℕ) (b : Body) → Takes 0 (q + p) b.low (number_tested x n label less greater below b).low
number_takes p q x n label less greater f g below b =
    let b1 = with_low (compared_with comparison.Equal x n label b.low) b in
    let b2 = with_low (below_tested (is_alone less.tables greater.tables) x n (way less.tables x.default below) b1.low) b1 in
    at_most 0 (q + p)
    (joined (compared_takes comparison.Equal x n label b.low)
    (joined (below_takes (is_alone less.tables greater.tables) x n (way less.tables x.default below) b1.low) (joined (g b2) (side_takes p less f below (greater.code b2)))))
    (omega arith) (omega arith)

one_number_takes : (p q : ℕ) (x : Choice) (n label : ℕ) (less greater : Side) → SideTakes p less → SideTakes q greater → (b : Body) → Takes 0 (2 + (q + p)) b.low (one_number x n label less greater b).low
one_number_takes p q x n label less greater f g b =
    let b1 = with_low (with_way less.tables b.low) b in
    at_most 0 (2 + (q + p)) (joined (way_takes less.tables b.low) (number_takes p q x n label less greater f g b.low.labels b1)) (omega arith) (omega arith)

-- ---- a table

table_takes : (p q : ℕ) (f : Function) (x : Choice) (t : Table) (less greater : Side) → SideTakes p less → SideTakes q greater → (below above : ℕ) (b : Body) → Takes 0 (q + p) b.low (table_tested f x t less greater below above b).low
table_takes p q f x t less greater g h below above b =
    let b1 = with_low (compared_with comparison.Less x t.low (way less.tables x.default below) b.low) b in
    let b2 = with_low (compared_with comparison.Greater x (last_in t) (way greater.tables x.default above) b1.low) b1 in
    let b3 = through f x t b2 in
    let b4 = side_at greater above b3 in
    at_most 0 (q + p)
    (joined (compared_takes comparison.Less x t.low (way less.tables x.default below) b.low)
    (joined (compared_takes comparison.Greater x (last_in t) (way greater.tables x.default above) b1.low)
    (joined (through_takes f x t b2) (joined (side_takes q greater h above b3) (side_takes p less g below b4)))))
    (omega arith) (omega arith)

one_table_takes : (p q : ℕ) (f : Function) (x : Choice) (t : Table) (less greater : Side) → SideTakes p less → SideTakes q greater → (b : Body) → Takes 0 (2 + (q + p)) b.low (one_table f x t less greater b).low
one_table_takes p q f x t less greater g h b =
    let b1 = with_low (with_way less.tables b.low) b in
    let b2 = with_low (with_way greater.tables b1.low) b1 in
    at_most 0 (2 + (q + p)) (joined (way_takes less.tables b.low) (joined (way_takes greater.tables b1.low) (table_takes p q f x t less greater g h b.low.labels b1.low.labels b2))) (omega arith) (omega arith)

at_table_takes : (p q : ℕ) (labels : List ℕ) (f : Function) (x : Choice) (t : Table) (less greater : Side) → SideTakes p less → SideTakes q greater → (b : Body) → Takes 0 (2 + (q + p)) b.low (at_table labels f x t less greater b).low
at_table_takes p q [] f x t less greater g h b = one_table_takes p q f x t less greater g h b
at_table_takes p q (label ∷ []) f x t less greater g h b = one_number_takes p q x t.low label less greater g h b
at_table_takes p q (label ∷ other ∷ ls) f x t less greater g h b = one_table_takes p q f x t less greater g h b

pub searched_takes : (f : Function) (x : Choice) (s : Search) (b : Body) → Takes 0 (2 * length (in_order s)) b.low (searched f x s b).low
searched_takes f x Nowhere b = jumped_counts Takes takes_counts x.default b.low
searched_takes f x (At t less greater) b =
    let e = length-append (in_order less) (t ∷ in_order greater) in
    at_most 0 (2 * length (in_order (At t less greater)))
    (at_table_takes (2 * length (in_order less)) (2 * length (in_order greater)) t.labels f x t
    (record { tables = less; code = λ b1. searched f x less b1 }) (record { tables = greater; code = λ b1. searched f x greater b1 })
    (λ b1. searched_takes f x less b1) (λ b1. searched_takes f x greater b1) b)
    (omega arith) (omega (arith, e))
