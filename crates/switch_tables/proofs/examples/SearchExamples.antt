-- Where numbers lead by a search over three tables: 1 to 4, 30, and 50 to 51. The default's label is 9.
use Rattle.std.proofs.Common.{◌≡◌, true, false, List, [], ◌∷◌, refl}
use Rattle.c_meaning.specs.declared.core_stmt.CoreCase.{CoreCase}
use Rattle.switch_tables.specs.declared.table.Table.{Table}
use Rattle.switch_tables.specs.Cases.{label_of}
use Rattle.switch_tables.specs.Tables.{tables_of}
use Rattle.switch_tables.specs.Searches.{Search, Nowhere, At, search_over, found, depth}
use Rattle.switch_tables.proofs.examples.TableExamples.{case, table}

abbrev cases : List CoreCase
cases = case 50 5 ∷ case 30 3 ∷ case 1 1 ∷ case 51 6 ∷ case 4 4 ∷ []

abbrev searched : Search
searched = search_over (tables_of true 9 cases)

halves : searched ≡ At (table 30 (3 ∷ [])) (At (table 1 (1 ∷ 9 ∷ 9 ∷ 4 ∷ [])) Nowhere Nowhere) (At (table 50 (5 ∷ 6 ∷ [])) Nowhere Nowhere)
halves = refl

deep : depth searched ≡ 2
deep = refl

-- to its case, at a table's ends and in a table of one case
first : found true 9 1 searched ≡ 1
first = refl

last : found true 9 4 searched ≡ 4
last = refl

alone : found true 9 30 searched ≡ 3
alone = refl

greatest : found true 9 51 searched ≡ 6
greatest = refl

-- to the default: in a hole, between tables, below and above all of them
hole : found true 9 2 searched ≡ 9
hole = refl

between : found true 9 5 searched ≡ 9
between = refl

below : found true 9 4294967295 searched ≡ 9
below = refl

above : found true 9 52 searched ≡ 9
above = refl

by_the_cases : label_of cases 9 51 ≡ 6
by_the_cases = refl

-- -1 is below 1 as a signed number: tables in that order lead it to its case by signed comparisons alone
abbrev ends : List Table
ends = table 4294967295 (1 ∷ []) ∷ table 10 (2 ∷ []) ∷ []

signed : found true 9 4294967295 (search_over ends) ≡ 1
signed = refl

unsigned : found false 9 4294967295 (search_over ends) ≡ 9
unsigned = refl

no_table : found true 9 1 (search_over []) ≡ 9
no_table = refl
