-- The loop over declarators.
use Rattle.std.proofs.Common.{map, refl, sym, ap, ◌∙◌, arith}
use Rattle.c_ast.specs.Seen.{declarator_seen}
use Rattle.c_ast.specs.SeenUnits.{init_seen}
use Rattle.c_readings.specs.Reading.{gives, one_sign}
use Rattle.c_readings.specs.Readers.{readers}
use Rattle.c_readings.specs.DeclarationReaders.{inits_behind}
use Rattle.c_readings.specs.DeclarationReaders as reader
use Rattle.c_expr.specs.State.{ahead}
use Rattle.c_decl.proofs.lemmas.GoingLaws.{err, if_err, passed, goes_then, no_sign, some_sign}
use Rattle.c_readings.proofs.lemmas.Loops.{commas_on, commas_go, commas_stop, commas_end, seen_more}
use Rattle.c_decl.proofs.declarations.inits_behind.Goals as goal

pub loop-p-init : goal.loop-p-init
unfolding inits_behind
loop-p-init c =
    rw (c.in_ok-list.ensures.same, c.in_ok-list.ensures.list) (
      c.in_ok-first.ensures.going,
      commas_on (reader.init readers c.args.limit c.args.typedef) (λ is u. one_sign 32 u (λ v. gives is v)) (inits_behind readers c.args.limit c.args.typedef c.args.line (declarator_seen c.args.declarator) (ahead c.args.p.now)) (ahead c.init_behind.new.p) (init_seen c.in_ok-first.first) (rw c.in_ok-first.ensures.ok refl),
    )

pub returns-in_err-other-clause-none : goal.returns-in_err-other-clause-none
returns-in_err-other-clause-none c = passed c.from_residual-in_err-other.result c.from_residual-in_err-other.ensures.1 (err c.in_err-other.ensures.none (λ z. commas_stop c.loop-p.invariant.1 (sym c.takes.ensures.next ∙ c.loop-p-test.true) (ap (reader.init readers c.args.limit c.args.typedef) (sym (c.takes.ensures.beyond c.loop-p-test.true)) ∙ z)))

pub loop-p-preserved : goal.loop-p-preserved
loop-p-preserved c =
    let comma = c.takes.ensures.going c.loop-p-test.true in
    let other = c.in_ok-other.ensures.going in
    rw (c.in_ok-keep.ensures.same, c.in_ok-keep.ensures.list) (
      goes_then 0 0 c.args.p.now c.takes.new.p c.init_at.new.p (goes_then 0 1 c.args.p.now c.loop-p.p c.takes.new.p c.loop-p.invariant.0 comma) other,
      rw (seen_more init_seen c.loop-p.list c.in_ok-other.other) (commas_go c.loop-p.invariant.1 (sym c.takes.ensures.next ∙ c.loop-p-test.true) (ap (reader.init readers c.args.limit c.args.typedef) (sym (c.takes.ensures.beyond c.loop-p-test.true)) ∙ c.in_ok-other.ensures.ok) (omega (arith, comma.4, other.4))),
    )

pub returns-in_err-expect-clause-none : goal.returns-in_err-expect-clause-none
returns-in_err-expect-clause-none c =
    if_err c.from_residual-in_err-expect.result (
    commas_end c.loop-p.invariant.1 (sym c.takes.ensures.next ∙ c.loop-p-test.false)
    ∙ no_sign 32 (ahead c.loop-p.p) (ahead c.takes.new.p) (map init_seen c.loop-p.list) (ap ahead (c.takes.ensures.left c.loop-p-test.false)) c.in_err-expect.ensures.none
    )

pub returns-clause-ok : goal.returns-clause-ok
returns-clause-ok c =
    commas_end c.loop-p.invariant.1 (sym c.takes.ensures.next ∙ c.loop-p-test.false)
    ∙ some_sign 32 (ahead c.loop-p.p) (ahead c.takes.new.p) (ahead c.expect.new.p) (map init_seen c.loop-p.list) (ap ahead (c.takes.ensures.left c.loop-p-test.false)) c.in_ok-expect.ensures.next c.in_ok-expect.ensures.beyond
