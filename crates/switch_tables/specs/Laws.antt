-- What the tables of a switch give.
use Rattle.std.specs.Prelude.{◌≡◌, ℕ, ◌<◌, ◌≤◌, ◌*◌, ◌^◌, nat_lt, Bool, true, false, List, [], ◌∷◌, ◌++◌, length}
use Rattle.std.specs.List.{AllByRecursion}
use Rattle.objects.specs.Arithmetic.{is_less}
use Rattle.c_meaning.specs.declared.core_stmt.CoreCase.{CoreCase}
use Rattle.c_meaning.specs.Units.{are_apart, are_among, is_among, numbers}
use Rattle.switch_tables.specs.declared.table.Table.{Table}
use Rattle.switch_tables.specs.Cases.{label_of, AreWords}
use Rattle.switch_tables.specs.Order.{rank, rising, IsRising}
use Rattle.switch_tables.specs.Cuts.{offset, range_to, joins, cut, joined}
use Rattle.switch_tables.specs.Tables.{last_number, tables_of}
use Rattle.switch_tables.specs.Searches.{search_over, last_in, found, in_order, depth}

-- ---- the order

-- the places of words are in the order of their numbers
abbrev pub AreRanked : Type 0
AreRanked = (signed : Bool) (m n : ℕ) → m < 2 ^ 32 → n < 2 ^ 32 → is_less signed m n ≡ nat_lt (rank signed m) (rank signed n)

-- each number has its label, and is below those behind it
abbrev pub IsSameRising : Bool → List CoreCase → Type 0
IsSameRising signed cases =
    ((default n : ℕ) → label_of (rising signed cases) default n ≡ label_of cases default n)
    × IsRising signed (rising signed cases)

abbrev pub AreSame : Type 0
AreSame = (signed : Bool) (cases : List CoreCase) → AreWords cases → are_apart (numbers cases) ≡ true → IsSameRising signed cases

-- ---- the cut

abbrev pub AreCut : Type 0
AreCut = (cases : List CoreCase) → joined (cut cases) ≡ cases

-- each of the cases behind the front joins those before it
abbrev pub AreJoining : List CoreCase → List CoreCase → Type 0
AreJoining front [] = Unit {0}
AreJoining front (c ∷ cs) = (joins front c ≡ true) × AreJoining (front ++ c ∷ []) cs

-- a first case, and others that join it
abbrev pub IsGroup : List CoreCase → Type 0
IsGroup [] = ⊥
IsGroup (c ∷ cs) = AreJoining (c ∷ []) cs

-- the next group's first case doesn't join
abbrev pub EndsBefore : List CoreCase → List (List CoreCase) → Type 0
EndsBefore group [] = Unit {0}
EndsBefore group ([] ∷ gs) = ⊥
EndsBefore group ((c ∷ cs) ∷ gs) = joins group c ≡ false

abbrev pub IsGreedy : List (List CoreCase) → Type 0
IsGreedy [] = Unit {0}
IsGreedy (g ∷ gs) = IsGroup g × (EndsBefore g gs × IsGreedy gs)

abbrev pub AreGreedy : Type 0
AreGreedy = (cases : List CoreCase) → IsGreedy (cut cases)

-- no other groups of the same cases are so
abbrev pub IsOnlyCut : Type 0
IsOnlyCut = (groups : List (List CoreCase)) → IsGreedy groups → groups ≡ cut (joined groups)

-- ---- the tables

-- of a group's numbers at least half are cases
abbrev pub IsHalfFull : List CoreCase → Type 0
IsHalfFull group = range_to group (last_number group) ≤ 2 * length group

abbrev pub AreHalfFull : Type 0
AreHalfFull = (cases : List CoreCase) → AreWords cases → AllByRecursion IsHalfFull (cut cases)

-- A table has a label, and so has each number that is neither below its first number nor above its last one.
pub record IsTable (signed : Bool) (t : Table) : Type 0 where
  pub low : t.low < 2 ^ 32
  pub some : 0 < length t.labels
  pub whole : (n : ℕ) → n < 2 ^ 32 → is_less signed n t.low ≡ false → is_less signed (last_in t) n ≡ false → offset t.low n < length t.labels

abbrev pub AreTables : Type 0
AreTables =
    (signed : Bool) (cases : List CoreCase) (default : ℕ) → AreWords cases → are_apart (numbers cases) ≡ true
    → AllByRecursion (IsTable signed) (tables_of signed default cases)

abbrev pub AreFew : Type 0
AreFew = (signed : Bool) (cases : List CoreCase) (default : ℕ) → length (tables_of signed default cases) ≤ length cases

-- each label is among these
abbrev pub AreLabels : List ℕ → Table → Type 0
AreLabels known t = AllByRecursion (λ l. is_among l known ≡ true) t.labels

abbrev pub AreKnown : Type 0
AreKnown =
    (signed : Bool) (cases : List CoreCase) (default : ℕ) (known : List ℕ) → are_among cases known ≡ true → is_among default known ≡ true
    → AllByRecursion (AreLabels known) (tables_of signed default cases)

-- ---- the search

abbrev pub Lead : Type 0
Lead =
    (signed : Bool) (cases : List CoreCase) (default n : ℕ) → AreWords cases → are_apart (numbers cases) ≡ true → n < 2 ^ 32
    → found signed default n (search_over (tables_of signed default cases)) ≡ label_of cases default n

abbrev pub AreSearched : Type 0
AreSearched = (tables : List Table) → in_order (search_over tables) ≡ tables

abbrev pub AreShallow : Type 0
AreShallow = (tables : List Table) (k : ℕ) → length tables < 2 ^ k → depth (search_over tables) ≤ k
