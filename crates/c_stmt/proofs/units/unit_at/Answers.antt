-- The loop over external declarations.
use Rattle.std.proofs.Common.{List, map, Some, inr, sym, ap, ◌∙◌, arith}
use Rattle.c_ast.specs.declared.unit.External.{External}
use Rattle.c_ast.specs.Trees.{UnitTree}
use Rattle.c_lexer.specs.PlacedTokens.{placed_of}
use Rattle.c_readings.specs.Reading.{beyond, here}
use Rattle.c_readings.proofs.lemmas.Loops.{goes, stops, ends, seen_more}
use Rattle.c_expr.specs.State.{ahead}
use Rattle.c_decl.proofs.lemmas.GoingLaws.{err, passed}
use Rattle.c_stmt.specs.Seen.{external_seen}
use Rattle.c_stmt.proofs.ExternalLists.{first_of_none, some_of_first, one_more, goes_one_more, some_unit, no_unit, least_map, left_next}
use Rattle.c_stmt.proofs.units.unit_at.Goals as goal

pub returns-in_err-external-clause-none : goal.returns-in_err-external-clause-none
returns-in_err-external-clause-none c =
    let left = left_next (placed_of c.loop-p.p.source) (ahead c.loop-p.p).rest (beyond (ahead c.loop-p.p)).rest c.first.result c.is_some.result c.first.ensures.some c.first.ensures.none c.is_some.ensures in
    passed c.from_residual.result c.from_residual.ensures.1 (err c.in_err-external.ensures.none (λ z. stops c.loop-p.invariant.2 (left ∙ c.loop-p-test.true) z))

pub loop-p-preserved : goal.loop-p-preserved
loop-p-preserved c =
    let left = left_next (placed_of c.loop-p.p.source) (ahead c.loop-p.p).rest (beyond (ahead c.loop-p.p)).rest c.first.result c.is_some.result c.first.ensures.some c.first.ensures.none c.is_some.ensures in
    let one = c.in_ok-external.ensures.going in
    rw (c.in_ok-keep.ensures.same, c.in_ok-keep.ensures.list) (
      goes_one_more c.loop-p.externals c.in_ok-external.external c.args.p.now c.loop-p.p c.external_at.new.p c.loop-p.invariant.0 one,
      one_more c.loop-p.externals c.in_ok-external.external,
      rw (seen_more external_seen c.loop-p.externals c.in_ok-external.external) (goes c.loop-p.invariant.2 (left ∙ c.loop-p-test.true) c.in_ok-external.ensures.ok (omega (arith, one.4))),
    )

pub returns-then-is_first-clause-none : goal.returns-then-is_first-clause-none
returns-then-is_first-clause-none c =
    let left = left_next (placed_of c.loop-p.p.source) (ahead c.loop-p.p).rest (beyond (ahead c.loop-p.p)).rest c.first.result c.is_some.result c.first.ensures.some c.first.ensures.none c.is_some.ensures in
    inr (ends c.loop-p.invariant.2 (left ∙ c.loop-p-test.false) ∙ no_unit (here (ahead c.args.p.now)) (map external_seen c.loop-p.externals) (ahead c.loop-p.p) (ap (map external_seen) (first_of_none c.loop-p.is_first c.loop-p.externals c.loop-p.invariant.1 c.if-is_first.true)))

pub returns-clause-ok : goal.returns-clause-ok
returns-clause-ok c =
    let left = left_next (placed_of c.loop-p.p.source) (ahead c.loop-p.p).rest (beyond (ahead c.loop-p.p)).rest c.first.result c.is_some.result c.first.ensures.some c.first.ensures.none c.is_some.ensures in
    ends c.loop-p.invariant.2 (left ∙ c.loop-p-test.false)
    ∙ some_unit (here (ahead c.args.p.now)) (map external_seen c.loop-p.externals) (ahead c.loop-p.p) (least_map external_seen c.loop-p.externals (some_of_first c.loop-p.is_first c.loop-p.externals c.loop-p.invariant.1 c.if-is_first.false))
    ∙ ap (λ (u : UnitTree). Some (u, ahead c.loop-p.p)) (ap (λ line. record { line = line; externals = map external_seen c.loop-p.externals }) (sym c.line_at-line.ensures)
    ∙ ap (λ (xs : List External). record { line = c.line_at-line.result; externals = map external_seen xs }) (sym c.exact.ensures)
    ∙ sym c.unit_of.ensures)
