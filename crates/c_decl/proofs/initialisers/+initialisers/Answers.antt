-- The loop over initialisers in braces.
use Rattle.std.proofs.Common.{Bool, true, map, refl, sym, ap, ◌∙◌, arith}
use Rattle.c_ast.specs.UnitViews.{initialisers_of}
use Rattle.c_ast.specs.SeenUnits.{initialiser_seen}
use Rattle.c_readings.specs.Reading.{beyond}
use Rattle.c_readings.specs.Readers.{readers, goes_on_without}
use Rattle.c_readings.specs.DeclarationReaders.{initialiser, initialisers}
use Rattle.c_expr.specs.Answers.{comma_end}
use Rattle.c_expr.specs.State.{ahead}
use Rattle.c_decl.proofs.lemmas.GoingLaws.{err, if_err, passed, goes_then}
use Rattle.c_decl.proofs.Exits.{no_brace, some_brace}
use Rattle.c_readings.proofs.lemmas.Loops.{starts_behind, goes, stops, ends, seen_more}
use Rattle.c_decl.proofs.initialisers.+initialisers.Goals as goal

pub initialisers_at-loop-p-init : goal.initialisers_at-loop-p-init
unfolding initialisers
initialisers_at-loop-p-init t c =
    rw (c.in_ok-items.ensures.same, c.in_ok-items.ensures.list) (
      c.in_ok-first.ensures.going,
      starts_behind (λ (b : Bool) u. goes_on_without 5 u) (λ (b : Bool) u. initialiser readers c.args.limit (beyond u)) (λ (b : Bool) x. b) (λ is u. comma_end (initialisers_of is) u) (initialisers (initialiser readers c.args.limit) (ahead c.args.p.now)) (initialiser_seen c.in_ok-first.first) true (ahead c.initialiser_at.new.p) (rw c.in_ok-first.ensures.ok refl),
    )

pub initialisers_at-returns-in_err-item-clause-none : goal.initialisers_at-returns-in_err-item-clause-none
initialisers_at-returns-in_err-item-clause-none t c = passed c.from_residual-in_err-item.result c.from_residual-in_err-item.ensures.1 (err c.in_err-item.ensures.none (λ z. stops c.loop-p.invariant.1 (sym c.takes_comma.ensures.next ∙ c.loop-p-test.true) (ap (initialiser readers c.args.limit) (sym (c.takes_comma.ensures.beyond c.loop-p-test.true)) ∙ z)))

pub initialisers_at-loop-p-preserved : goal.initialisers_at-loop-p-preserved
initialisers_at-loop-p-preserved t c =
    let comma = c.takes_comma.ensures.going c.loop-p-test.true in
    let item = c.in_ok-item.ensures.going in
    rw (c.in_ok-keep.ensures.same, c.in_ok-keep.ensures.list) (
      goes_then 1 1 c.args.p.now c.takes_comma.new.p c.initialiser_at-in-loop-p.new.p (goes_then 1 1 c.args.p.now c.loop-p.p c.takes_comma.new.p c.loop-p.invariant.0 comma) item,
      rw (seen_more initialiser_seen c.loop-p.items c.in_ok-item.item) (goes c.loop-p.invariant.1 (sym c.takes_comma.ensures.next ∙ c.loop-p-test.true) (ap (initialiser readers c.args.limit) (sym (c.takes_comma.ensures.beyond c.loop-p-test.true)) ∙ c.in_ok-item.ensures.ok) (omega (arith, comma.4, item.4))),
    )

pub initialisers_at-returns-in_err-expect-clause-none : goal.initialisers_at-returns-in_err-expect-clause-none
initialisers_at-returns-in_err-expect-clause-none t c =
    if_err c.from_residual-in_err-expect.result (
    ends c.loop-p.invariant.1 (sym c.takes_comma.ensures.next ∙ c.loop-p-test.false)
    ∙ ap (λ p. comma_end (initialisers_of (map initialiser_seen c.loop-p.items)) (ahead p)) (sym (c.takes_comma.ensures.left c.loop-p-test.false))
    ∙ no_brace (initialisers_of (map initialiser_seen c.loop-p.items)) (ahead c.takes_comma.new.p) (ahead c.takes-comma.new.p) c.takes-comma.result c.takes-comma.ensures.next c.takes-comma.ensures.beyond (λ h. ap ahead (c.takes-comma.ensures.left h)) c.in_err-expect.ensures.none
    )

pub initialisers_at-returns-clause-ok : goal.initialisers_at-returns-clause-ok
initialisers_at-returns-clause-ok t c =
    ends c.loop-p.invariant.1 (sym c.takes_comma.ensures.next ∙ c.loop-p-test.false)
    ∙ ap (λ p. comma_end (initialisers_of (map initialiser_seen c.loop-p.items)) (ahead p)) (sym (c.takes_comma.ensures.left c.loop-p-test.false))
    ∙ some_brace (initialisers_of (map initialiser_seen c.loop-p.items)) (ahead c.takes_comma.new.p) (ahead c.takes-comma.new.p) (ahead c.expect.new.p) c.takes-comma.result c.takes-comma.ensures.next c.takes-comma.ensures.beyond (λ h. ap ahead (c.takes-comma.ensures.left h)) c.in_ok-expect.ensures.next c.in_ok-expect.ensures.beyond
