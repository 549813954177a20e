-- The search of a switch over its tables. A table of one label is a test for its number; any other one is an object, by which a jump goes on
-- where the number isn't below its first one nor above its last one.
-- Source: Fraser and Hanson, A Retargetable C Compiler, chapter 10; Knuth, The Art of Computer Programming, volume 3, 6.2.1.
use Rattle.std.specs.Prelude.{ℕ, ◌+◌, ℤ, pos, Bool, true, false, List, [], ◌∷◌, length}
use Rattle.objects.specs.declared.operators.Binary.TheVariants as binary
use Rattle.objects.specs.declared.operators.Comparison.{Comparison}
use Rattle.objects.specs.declared.operators.Comparison.TheVariants as comparison
use Rattle.op_forest.specs.declared.op.Op.TheVariants as op
use Rattle.op_forest.specs.declared.suffix.Suffix.TheVariants.{I, V}
use Rattle.switch_tables.specs.declared.table.Table.{Table}
use Rattle.switch_tables.specs.Searches.{Search, Nowhere, At, last_in}
use Rattle.c_rows_agree.specs.Integers.{number, binary_of, compared}
use Rattle.c_rows_agree.specs.Places.{loaded_pointer}
use Rattle.c_rows_agree.specs.Typed.{Typed, head}
use Rattle.c_pointers_agree.specs.Pointers.{name, moved}
use Rattle.lowered_forms.specs.Lows.{Low, acted_one, branched, ended, jumped, marked, with_label}
use Rattle.lowered_forms.specs.Values.{slot_read}
use Rattle.lowered_statements.specs.Bodies.{Body, on_low, with_table}
use Rattle.lowered_statements.specs.Functions.{Function}

-- where the number is, whether it has a sign, and where it goes by no case
pub record Choice : Type 0 where
  pub slot : ℤ
  pub signed : Bool
  pub default : ℕ

-- ---- tests and jumps

-- a jump to a label where the number compares so with this one
abbrev pub compared_with : Comparison → Choice → ℕ → ℕ → Low → Low
compared_with o x n label l = branched (compared o x.signed true label (slot_read I x.slot) (number x.signed n)) l

-- the place in the table of this name where the number's label is
abbrev pub place_in_table : Choice → ℕ → ℕ → Typed
place_in_table x low table = moved 4 false (name table (pos 0)) (binary_of binary.Subtract x.signed (slot_read I x.slot) (number x.signed low))

abbrev pub jumped_by : Choice → ℕ → ℕ → Low → Low
jumped_by x low table l = ended (acted_one (head op.Jump V) (loaded_pointer (place_in_table x low table)).tree l)

-- the table is made
abbrev pub through : Function → Choice → Table → Body → Body
through f x t b = with_table t.labels (on_low (λ l. jumped_by x t.low (f.tables + length b.tables) l) b)

-- ---- the tables on one side of another one, and their search

pub record Side : Type 0 where
  pub tables : Search
  pub code : Body → Body

-- no tables have no label of their own: the number goes the default's way
abbrev pub way : Search → ℕ → ℕ → ℕ
way Nowhere default n = default
way (At t less greater) default n = n

abbrev pub with_way : Search → Low → Low
with_way Nowhere l = l
with_way (At t less greater) l = with_label l

abbrev pub side_by : Search → (Body → Body) → ℕ → Body → Body
side_by Nowhere code n b = b
side_by (At t less greater) code n b = code (on_low (λ l. marked n l) b)

abbrev pub side_at : Side → ℕ → Body → Body
side_at s n b = side_by s.tables s.code n b

abbrev pub is_alone : Search → Search → Bool
is_alone Nowhere Nowhere = true
is_alone a b = false

-- ---- one number

-- a number with no others is tested once
abbrev pub below_tested : Bool → Choice → ℕ → ℕ → Low → Low
below_tested true x n label l = l
below_tested false x n label l = compared_with comparison.Less x n label l

abbrev pub number_tested : Choice → ℕ → ℕ → Side → Side → ℕ → Body → Body
number_tested x n label less greater below b =
    side_at less below (greater.code (on_low (λ l.
    below_tested (is_alone less.tables greater.tables) x n (way less.tables x.default below) (compared_with comparison.Equal x n label l)) b))

abbrev pub one_number : Choice → ℕ → ℕ → Side → Side → Body → Body
one_number x n label less greater b = number_tested x n label less greater b.low.labels (on_low (λ l. with_way less.tables l) b)

-- ---- a table

abbrev pub range_tested : Choice → Table → ℕ → ℕ → Low → Low
range_tested x t below above l = compared_with comparison.Greater x (last_in t) above (compared_with comparison.Less x t.low below l)

abbrev pub table_tested : Function → Choice → Table → Side → Side → ℕ → ℕ → Body → Body
table_tested f x t less greater below above b =
    side_at less below (side_at greater above (through f x t (on_low (λ l. range_tested x t (way less.tables x.default below) (way greater.tables x.default above) l) b)))

abbrev pub table_labelled : Function → Choice → Table → Side → Side → ℕ → Body → Body
table_labelled f x t less greater below b = table_tested f x t less greater below b.low.labels (on_low (λ l. with_way greater.tables l) b)

abbrev pub one_table : Function → Choice → Table → Side → Side → Body → Body
one_table f x t less greater b = table_labelled f x t less greater b.low.labels (on_low (λ l. with_way less.tables l) b)

-- ---- the search

abbrev pub at_table : List ℕ → Function → Choice → Table → Side → Side → Body → Body
at_table (label ∷ []) f x t less greater b = one_number x t.low label less greater b
at_table labels f x t less greater b = one_table f x t less greater b

abbrev pub searched : Function → Choice → Search → Body → Body
searched f x Nowhere b = on_low (λ l. jumped x.default l) b
searched f x (At t less greater) b =
    at_table t.labels f x t (record { tables = less; code = λ b1. searched f x less b1 }) (record { tables = greater; code = λ b1. searched f x greater b1 }) b
