-- A search by halves over tables in rising order: a number is compared with the first and the last number of the table in the
-- middle, and goes on among those before it or behind it.
-- Source: Knuth, The Art of Computer Programming, volume 3, 6.2.1.
use Rattle.std.specs.Prelude.{ℕ, zero, suc, ◌+◌, ◌-◌, ◌/◌, ◌%◌, ◌^◌, max, Bool, List, [], ◌∷◌, ◌++◌, length, take, drop, slice_index_or, if◌then◌else◌}
use Rattle.objects.specs.Arithmetic.{is_less}
use Rattle.switch_tables.specs.declared.table.Table.{Table}
use Rattle.switch_tables.specs.Cuts.{offset}

pub data Search : Type 0 where
  Nowhere : Search
  At : (table : Table) (less greater : Search) → Search

-- by halves, where there are at most so many tables
abbrev pub by_halves : ℕ → List Table → Search
by_halves zero tables = Nowhere
by_halves (suc most) [] = Nowhere
by_halves (suc most) (t ∷ ts) =
    let all = t ∷ ts in
    let middle = length all / 2 in
    At (slice_index_or all middle t) (by_halves most (take middle all)) (by_halves most (drop (suc middle) all))

abbrev pub search_over : List Table → Search
search_over tables = by_halves (length tables) tables

abbrev pub last_in : Table → ℕ
last_in t = (t.low + (length t.labels - 1)) % 2 ^ 32

-- the label to which a number leads
abbrev pub found : Bool → ℕ → ℕ → Search → ℕ
found signed default n Nowhere = default
found signed default n (At t less greater) =
    if is_less signed n t.low then found signed default n less
    else if is_less signed (last_in t) n then found signed default n greater
    else slice_index_or t.labels (offset t.low n) default

-- the tables that it searches, from the least one on
abbrev pub in_order : Search → List Table
in_order Nowhere = []
in_order (At t less greater) = in_order less ++ t ∷ in_order greater

-- with how many tables a number is compared at most
abbrev pub depth : Search → ℕ
depth Nowhere = 0
depth (At t less greater) = suc (max (depth less) (depth greater))
