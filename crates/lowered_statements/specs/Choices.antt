-- Where the search of a switch leads: to the label that C chooses for the value's number.
-- Source: ISO/IEC 9899:1990, 6.6.4.2.
use Rattle.std.specs.Prelude.{◌≡◌, ℕ, ◌<◌, ◌^◌, Bool, true, Option, List}
use Rattle.c_meaning.specs.declared.core_stmt.CoreCase.{CoreCase}
use Rattle.c_meaning.specs.Units.{are_apart, numbers}
use Rattle.c_runs.specs.Statements.{chosen}
use Rattle.switch_tables.specs.Cases.{label_of, AreWords}
use Rattle.switch_tables.specs.Searches.{found, search_over}
use Rattle.switch_tables.specs.Tables.{tables_of}
use Rattle.lowered_statements.specs.Functions.{Function, placed_cases, label_or}

-- the chosen case's label, else the default's, else the end's
abbrev pub ChosenIsLabel : Type 0
ChosenIsLabel =
    (f : Function) (cases : List CoreCase) (default : Option ℕ) (end n : ℕ)
    → label_of (placed_cases f cases) (label_or f end default) n ≡ label_or f end (chosen cases default n)

-- of a checked switch the search goes there
abbrev pub ChosenIsFound : Type 0
ChosenIsFound =
    (f : Function) (signed : Bool) (cases : List CoreCase) (default : Option ℕ) (end n : ℕ) → AreWords cases → are_apart (numbers cases) ≡ true → n < 2 ^ 32
    → found signed (label_or f end default) n (search_over (tables_of signed (label_or f end default) (placed_cases f cases))) ≡ label_or f end (chosen cases default n)
