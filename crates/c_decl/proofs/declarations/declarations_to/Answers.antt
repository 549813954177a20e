-- The loop over declarations.
use Rattle.std.proofs.Common.{sym, ◌∙◌, arith}
use Rattle.c_ast.specs.SeenUnits.{declaration_seen}
use Rattle.c_decl.proofs.lemmas.GoingLaws.{err, passed, goes_then}
use Rattle.c_readings.proofs.lemmas.Loops.{goes, stops, ends, seen_more}
use Rattle.c_decl.proofs.declarations.declarations_to.Goals as goal

pub returns-in_err-declaration-clause-none : goal.returns-in_err-declaration-clause-none
returns-in_err-declaration-clause-none c = passed c.from_residual.result c.from_residual.ensures.1 (err c.in_err-declaration.ensures.none (λ z. stops c.loop-p.invariant.1 (sym c.begins_declaration.ensures ∙ c.loop-p-test.true) z))

pub loop-p-preserved : goal.loop-p-preserved
loop-p-preserved c =
    let one = c.in_ok-declaration.ensures.going in
    rw (c.in_ok-keep.ensures.same, c.in_ok-keep.ensures.list) (
      goes_then 0 1 c.args.p.now c.loop-p.p c.declaration_to.new.p c.loop-p.invariant.0 one,
      rw (seen_more declaration_seen c.loop-p.list c.in_ok-declaration.declaration) (goes c.loop-p.invariant.1 (sym c.begins_declaration.ensures ∙ c.loop-p-test.true) c.in_ok-declaration.ensures.ok (omega (arith, one.4))),
    )

pub returns-clause-ok : goal.returns-clause-ok
returns-clause-ok c = ends c.loop-p.invariant.1 (sym c.begins_declaration.ensures ∙ c.loop-p-test.false)
