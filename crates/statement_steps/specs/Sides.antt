-- What the search of a switch is told, as the code has it.
use Rattle.std.specs.Prelude.{◌≡◌, ℕ, List}
use Rattle.lowered_forms.specs.Lows.{Low}
use Rattle.lowered_statements.specs.Functions.{Function}
use Rattle.lowered_statements.specs.Searches.{Choice, Side, at_table, one_number, one_table, searched, way, with_way}
use Rattle.lowering_steps.specs.declared.state.State.{State}
use Rattle.lowering_steps.specs.States.{Shows}
use Rattle.statement_steps.specs.declared.progress.Progress.{Progress}
use Rattle.statement_steps.specs.declared.searches.Choice.{Choice as CodeChoice}
use Rattle.statement_steps.specs.declared.site.FunctionSite.{FunctionSite}
use Rattle.statement_steps.specs.Functions.{function_of}
use Rattle.statement_steps.specs.Progresses.{Does}
use Rattle.switch_tables.specs.declared.search.Halves.{Halves}
use Rattle.switch_tables.specs.declared.table.Table.{Table}
use Rattle.switch_tables.specs.Searches.{search_over}

abbrev pub choice_of : CodeChoice → Choice
choice_of x = record { slot = x.slot; signed = x.signed; default = x.default }

-- tables and their search
abbrev pub side_of : Function → Choice → List Table → Side
side_of f x tables = record { tables = search_over tables; code = λ b. searched f x (search_over tables) b }

-- the label to which a number goes on one side is a new one, or the default's where there is no table
abbrev pub TakesWay : List Table → ℕ → ℕ → State → State → Type 0
TakesWay tables default n s t = (l : Low) → Shows s l → (n ≡ way (search_over tables) default l.labels) × Shows t (with_way (search_over tables) l)

-- ---- the table in the middle, and those on both sides of it

abbrev pub less_of : FunctionSite → CodeChoice → Halves → Side
less_of f x h = side_of (function_of f) (choice_of x) h.less.now

abbrev pub greater_of : FunctionSite → CodeChoice → Halves → Side
greater_of f x h = side_of (function_of f) (choice_of x) h.greater.now

abbrev pub SearchesHalves : FunctionSite → CodeChoice → Halves → Progress → Progress → Type 0
SearchesHalves f x h p q = Does (λ b. at_table h.table.now.labels (function_of f) (choice_of x) h.table.now (less_of f x h) (greater_of f x h) b) p q

-- as a table of one label
abbrev pub TestsNumber : FunctionSite → CodeChoice → Halves → ℕ → Progress → Progress → Type 0
TestsNumber f x h label p q = Does (λ b. one_number (choice_of x) h.table.now.low label (less_of f x h) (greater_of f x h) b) p q

-- as any other one
abbrev pub TestsTable : FunctionSite → CodeChoice → Halves → Progress → Progress → Type 0
TestsTable f x h p q = Does (λ b. one_table (function_of f) (choice_of x) h.table.now (less_of f x h) (greater_of f x h) b) p q
