use Rattle.std.specs.Prelude.{◌≢◌, ◌∷◌, length}
use Rattle.std.proofs.Common.{arith, length-append, ap, sym, ◌∙◌}
use Rattle.std.proofs.lemmas.Result.{on_ok_weaker}
use Rattle.lowered_statements.specs.Searches as searches
use Rattle.switch_tables.specs.Searches.{search_over}
use Rattle.statement_steps.specs.Functions.{function_of}
use Rattle.statement_steps.specs.Sides.{choice_of, side_of}
use Rattle.statement_steps.proofs.lemmas.Going.{does_as}
use Rattle.statement_steps.proofs.lemmas.Searching.{at_many, no_side, no_tables, search_at, searches_number, searches_table, some_side}
use Rattle.statement_steps.proofs.lemmas.Sides.{is_none}
use Rattle.statement_steps.proofs.searches.+searching.Goals as goal

pub search-at_table-requires : goal.search-at_table-requires
search-at_table-requires t c =
    let h = c.in-Some.halves in
    omega (arith, ap length c.in-Some.ensures.parts, length-append h.less.now (h.table.now ∷ h.greater.now))

pub search-returns-in-Some : goal.search-returns-in-Some
search-returns-in-Some t c =
    let g = function_of c.args.f.now in
    let x = choice_of c.args.choice in
    let h = c.in-Some.halves in
    on_ok_weaker c.at_table.result (λ d.
    does_as (λ b. searches.at_table h.table.now.labels g x h.table.now (side_of g x h.less.now) (side_of g x h.greater.now) b) (λ b. searches.searched g x (search_over c.args.tables.now) b) c.args.into.now c.at_table.new.into
    (λ b. search_at g x c.args.tables.now h.less.now h.greater.now h.table.now b c.in-Some.ensures.search) d) c.at_table.ensures

pub search-returns-in-None : goal.search-returns-in-None
search-returns-in-None t c = no_tables c.jump.result (function_of c.args.f.now) (choice_of c.args.choice) c.args.tables.now c.args.into.now c.jump.new.self c.in-None.ensures.search c.jump.ensures

pub one_number-returns : goal.one_number-returns
one_number-returns t c =
    let h = c.args.halves in
    on_ok_weaker c.side.result (λ rest.
    searches_number (function_of c.args.f.now) (choice_of c.args.choice) h.table.now.low c.args.label h.less.now h.greater.now c.is_alone-alone.result c.in_ok-below.below c.args.into.now c.way.new.into c.test_number.new.into c.search.new.into c.side.new.into
    (record {
      is_way = c.in_ok-below.ensures;
      is_alone_is = c.is_alone-alone.ensures;
      test = c.in_ok-test_number.ensures;
      above = c.in_ok-search.ensures;
      rest = rest;
    })) c.side.ensures

pub one_table-returns : goal.one_table-returns
one_table-returns t c =
    let h = c.args.halves in
    on_ok_weaker c.side-2.result (λ rest.
    searches_table (function_of c.args.f.now) (choice_of c.args.choice) h.table.now h.less.now h.greater.now c.in_ok-below.below c.in_ok-above.above c.args.into.now c.way.new.into c.way-2.new.into c.test_range.new.into c.through.new.into c.side.new.into c.side-2.new.into
    (record {
      is_below = c.in_ok-below.ensures;
      is_above = c.in_ok-above.ensures;
      test = c.in_ok-test_range.ensures;
      jump = c.in_ok-through.ensures;
      more = c.in_ok-side.ensures;
      rest = rest;
    })) c.side-2.ensures

pub side-returns-then-is_empty : goal.side-returns-then-is_empty
side-returns-then-is_empty t c = no_side (function_of c.args.f.now) (choice_of c.args.choice) c.args.tables.now c.args.label c.args.into.now (is_none c.args.tables.now (sym c.is_empty.ensures ∙ c.if-is_empty.true))

pub side-returns : goal.side-returns
side-returns t c =
    some_side c.search.result (function_of c.args.f.now) (choice_of c.args.choice) c.args.tables.now c.args.label c.args.into.now c.mark.new.self c.search.new.into
    (sym c.is_empty.ensures ∙ c.if-is_empty.false) c.in_ok-mark.ensures c.search.ensures

pub at_table-returns-else-count-eq1 : goal.at_table-returns-else-count-eq1
at_table-returns-else-count-eq1 t c =
    let g = function_of c.args.f.now in
    let x = choice_of c.args.choice in
    let h = c.args.halves in
    let less = side_of g x h.less.now in
    let greater = side_of g x h.greater.now in
    let many : length h.table.now.labels ≢ 1 = omega (arith, ap length c.as_slice-labels.ensures, c.if-count-eq1.false) in
    on_ok_weaker c.one_table.result (λ d.
    does_as (λ b. searches.one_table g x h.table.now less greater b) (λ b. searches.at_table h.table.now.labels g x h.table.now less greater b) c.args.into.now c.one_table.new.into
    (λ b. at_many h.table.now.labels g x h.table.now less greater b many) d) c.one_table.ensures
