-- Tables have at most two labels for each case of their switches.
use Rattle.std.specs.Prelude.{◌<◌, ◌≤◌, ℕ, ◌*◌, ◌^◌, Bool, true, false, Option, List, [], ◌∷◌, ◌++◌, length, map}
use Rattle.std.specs.List.{AllByRecursion}
use Rattle.std.proofs.Common.{ap, arith, length-append}
use Rattle.std.proofs.lemmas.List.{length-map}
use Rattle.c_meaning.specs.declared.core_stmt.CoreCase.{CoreCase}
use Rattle.c_meaning.specs.CoreTrees.{type_of}
use Rattle.c_meaning.specs.Each.{EachIs}
use Rattle.c_meaning.specs.Scalars.{is_signed}
use Rattle.c_meaning.specs.StmtTrees as stmt
use Rattle.c_meaning.specs.Values.{CoreTree}
use Rattle.switch_tables.specs.declared.table.Table.{Table}
use Rattle.switch_tables.specs.Cases.{AreWords}
use Rattle.switch_tables.specs.Cuts.{cut, joined, range_to}
use Rattle.switch_tables.specs.Laws.{IsHalfFull}
use Rattle.switch_tables.specs.Order.{rising}
use Rattle.switch_tables.specs.Searches.{Search, Nowhere, At, search_over}
use Rattle.switch_tables.specs.Tables.{first_number, last_number, table_of, tables_of}
use Rattle.switch_tables.proofs.lemmas.Cutting.{cut_is_half_full, joined_cut}
use Rattle.switch_tables.proofs.lemmas.Labels.{length-labels_from}
use Rattle.switch_tables.proofs.lemmas.Searching.{EachTable, each_is_searched}
use Rattle.switch_tables.proofs.lemmas.Sorting.{length_rising, rising_all}
use Rattle.lowered_forms.specs.Expressions.{low_e}
use Rattle.lowered_forms.specs.Lows.{marked, slot_offset, with_label, with_slot}
use Rattle.lowered_forms.specs.Values.{stored_in}
use Rattle.lowered_statements.specs.Bodies.{Body, on_low, with_low}
use Rattle.lowered_statements.specs.FunctionBodies.{function_in, no_exits}
use Rattle.lowered_statements.specs.Functions.{Function, Exits, label_or, placed_case, placed_cases}
use Rattle.lowered_statements.specs.Rows.{choice_by}
use Rattle.lowered_statements.specs.Searches.{Choice, at_table, searched, side_by}
use Rattle.lowered_statements.specs.Statements.{StmtTree, StmtTrees, is_nothing, low_s, low_all}
use Rattle.c_stmts_agree.specs.CheckedParts.{HasWordCases, AllHaveWordCases}
use Rattle.c_stmts_agree.specs.Parts.{search_row}
use Rattle.c_searches_agree.specs.Lengths.{HasFewCases, AllHaveFewCases, HasShortTables, TablesAreShort}
use Rattle.c_searches_agree.proofs.lemmas.Labels.{placed_have}

-- ---- the tables of one switch

abbrev HasAtMost : ℕ → Table → Type 0
HasAtMost most t = length t.labels ≤ most

groups_are_short : (default most : ℕ) (gs : List (List CoreCase)) → AllByRecursion IsHalfFull gs → 2 * length (joined gs) ≤ most → AllByRecursion (HasAtMost most) (map (table_of default) gs)
groups_are_short default most [] full le = tt
groups_are_short default most (g ∷ gs) full le =
    let both = length-append g (joined gs) in
    let long = length-labels_from g default (first_number g) (range_to g (last_number g)) in
    let half = full.0 in (
      omega (arith, both, long, half, le),
      groups_are_short default most gs full.1 (omega (arith, both, le)),
    )

tables_are_short : (f : Function) (signed : Bool) (default most : ℕ) (cases : List CoreCase) → AreWords cases → 2 * length cases ≤ most → AllByRecursion (HasAtMost most) (tables_of signed default (placed_cases f cases))
tables_are_short f signed default most cases words le =
    let placed = placed_cases f cases in
    let sorted = rising signed placed in
    let same = ap (λ (cs : List CoreCase). length cs) (joined_cut sorted) in
    let risen = length_rising signed placed in
    let as_many = length-map cases (placed_case f) in
    groups_are_short default most (cut sorted) (cut_is_half_full sorted (rising_all (λ c. c.number < 2 ^ 32) signed placed (placed_have f (λ c. c.number < 2 ^ 32) cases words))) (omega (arith, same, risen, as_many, le))

-- ---- a search

each_more : (most : ℕ) (labels : List ℕ) → length labels ≤ most → (ts : List (List ℕ)) → EachIs (λ ls. length ls ≤ most) ts → EachIs (λ ls. length ls ≤ most) (ts ++ labels ∷ [])
each_more most labels le [] h = (le, tt)
each_more most labels le (t ∷ ts) h = (h.0, each_more most labels le ts h.1)

module _ (f : Function) (most : ℕ) where
  abbrev Short : Body → Type 0
  Short b = HasShortTables most b

  module _ (x : Choice) where
    side_short : (s : Search) (code : Body → Body) → ((b : Body) → Short b → Short (code b)) → (n : ℕ) (b : Body) → Short b → Short (side_by s code n b)
    side_short Nowhere code keeps n b h = h
    side_short (At t less greater) code keeps n b h = keeps (on_low (λ l. marked n l) b) h

    module _ (t : Table) (le : HasAtMost most t) (less greater : Search) (less_short : (b : Body) → Short b → Short (searched f x less b)) (greater_short : (b : Body) → Short b → Short (searched f x greater b)) where
      at_short : (labels : List ℕ) (b : Body) → Short b → Short (at_table labels f x t (record { tables = less; code = λ b1. searched f x less b1 }) (record { tables = greater; code = λ b1. searched f x greater b1 }) b)
      at_short [] b h = side_short less (λ b1. searched f x less b1) less_short _ _ (side_short greater (λ b1. searched f x greater b1) greater_short _ _ (each_more most t.labels le b.tables h))
      at_short (label ∷ []) b h = side_short less (λ b1. searched f x less b1) less_short _ _ (greater_short _ h)
      at_short (label ∷ other ∷ ls) b h = side_short less (λ b1. searched f x less b1) less_short _ _ (side_short greater (λ b1. searched f x greater b1) greater_short _ _ (each_more most t.labels le b.tables h))

    search_short : (s : Search) → EachTable (HasAtMost most) s → (b : Body) → Short b → Short (searched f x s b)
    search_short Nowhere each b h = h
    search_short (At t less greater) each b h = at_short t each.0 less greater (search_short less each.1.0) (search_short greater each.1.1) t.labels b h

  row_short : (v : CoreTree) (cases : List CoreCase) (default : Option ℕ) → AreWords cases → 2 * length cases ≤ most → (b : Body) → Short b → Short (search_row f v cases default b)
  row_short v cases default words le b h =
      let r = low_e f.context v b.low in
      let choice : Choice = record { slot = slot_offset r.low; signed = is_signed (type_of v); default = label_or f r.low.labels default } in
      let ts = tables_of choice.signed choice.default (placed_cases f cases) in
      search_short choice (search_over ts) (each_is_searched (HasAtMost most) ts (tables_are_short f choice.signed choice.default most cases words le))
      (with_low (with_label (stored_in choice.slot r.value (with_slot r.low))) b) h

  -- ---- statements

  module _ (y : Exits) (e : CoreTree) (t u : StmtTree) (first : (b : Body) → Short b → Short (low_s f y t b)) (second : (b : Body) → Short b → Short (low_s f y u b)) where
    choice_short : (is : Bool) (b : Body) → Short b → Short (choice_by is f e (λ b1. low_s f y t b1) (λ b1. low_s f y u b1) b)
    choice_short true b h = first _ h
    choice_short false b h = second _ (first _ h)

  module _ (few : ℕ) (twice : 2 * few ≤ most) where
    mutual
      statement_short : (y : Exits) (t : StmtTree) → HasWordCases t → HasFewCases few t → (b : Body) → Short b → Short (low_s f y t b)
      statement_short y stmt.Nothing words le b h = h
      statement_short y (stmt.Expression v) words le b h = h
      statement_short y (stmt.Initialise local clears places) words le b h = h
      statement_short y (stmt.Block first locals ts) words le b h = sequence_short y ts words le b h
      statement_short y (stmt.If v t u) words le b h =
          choice_short y v t u (λ b1. statement_short y t words.0 le.0 b1) (λ b1. statement_short y u words.1 le.1 b1) (is_nothing u) b h
      statement_short y (stmt.While v t) words le b h = statement_short _ t words le _ h
      statement_short y (stmt.Do t v) words le b h = statement_short _ t words le _ h
      statement_short y (stmt.For first test last t) words le b h = statement_short _ t words le _ h
      statement_short y (stmt.Switch v cases default t) words le b h =
          let many = le.0 in
          statement_short _ t words.1 le.1 _ (row_short v cases default words.0 (omega (arith, many, twice)) b h)
      statement_short y (stmt.Label n t) words le b h = statement_short y t words le _ h
      statement_short y (stmt.Goto n) words le b h = h
      statement_short y stmt.Break words le b h = h
      statement_short y stmt.Continue words le b h = h
      statement_short y (stmt.Return v) words le b h = h

      sequence_short : (y : Exits) (ts : StmtTrees) → AllHaveWordCases ts → AllHaveFewCases few ts → (b : Body) → Short b → Short (low_all f y ts b)
      sequence_short y stmt.NoStmt words le b h = h
      sequence_short y (stmt.Stmts t ts) words le b h = sequence_short y ts words.1 le.1 (low_s f y t b) (statement_short y t words.0 le.0 b h)

pub function_tables_are_short : TablesAreShort
function_tables_are_short u order number tables f few words le = statement_short (function_in u order number tables f) (2 * few) few (omega arith) no_exits f.body words le _ tt
