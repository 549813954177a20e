use Rattle.std.proofs.Common.{Some, inr, sym, ap, ◌∙◌, arith}
use Rattle.c_ast.specs.Trees.{Declares}
use Rattle.c_ast.specs.UnitViews.{option_of}
use Rattle.c_ast.specs.Seen.{declarator_seen, specifiers_seen}
use Rattle.c_ast.specs.ValueHeights.{declarator_high, specifiers_high}
use Rattle.c_readings.specs.Reading.{bind}
use Rattle.c_readings.specs.Readers.{readers}
use Rattle.c_readings.specs.UnitReaders as reader
use Rattle.c_expr.specs.State.{ahead}
use Rattle.c_decl.proofs.lemmas.GoingLaws.{err, passed}
use Rattle.c_stmt.proofs.Declared.{measured_high, measured_low, declared, all_low}
use Rattle.c_stmt.proofs.Declared as parts
use Rattle.c_stmt.proofs.externals.declares_at.Goals as goal

pub returns-then-specifiers_height-limit-clause-none : goal.returns-then-specifiers_height-limit-clause-none
unfolding specifiers_seen specifiers_high
returns-then-specifiers_height-limit-clause-none c =
    inr (ap (λ o. reader.declares readers c.args.limit c.args.line (option_of specifiers_seen o) c.args.at (declarator_seen c.args.declarator) (ahead c.args.p.now)) c.in-Some.is
    ∙ parts.specifiers_high c.args.limit c.args.line (specifiers_seen c.in-Some.specifiers) c.args.at (declarator_seen c.args.declarator) (ahead c.args.p.now) (measured_high c.args.limit c.specifiers_height.result _ c.requires.limit c.specifiers_height.ensures (omega (arith, c.if-specifiers_height-limit.true))))

pub returns-then-declarator_height-limit-clause-none : goal.returns-then-declarator_height-limit-clause-none
unfolding specifiers_seen specifiers_high declarator_seen declarator_high
returns-then-declarator_height-limit-clause-none c =
    inr (ap (λ o. reader.declares readers c.args.limit c.args.line (option_of specifiers_seen o) c.args.at (declarator_seen c.args.declarator) (ahead c.args.p.now)) c.in-Some.is
    ∙ parts.declarator_high c.args.limit c.args.line (specifiers_seen c.in-Some.specifiers) c.args.at (declarator_seen c.args.declarator) (ahead c.args.p.now) (measured_low c.args.limit c.specifiers_height.result _ c.requires.limit c.specifiers_height.ensures (omega (arith, c.if-specifiers_height-limit.false))) (measured_high c.args.limit c.declarator_height.result _ c.requires.limit c.declarator_height.ensures (omega (arith, c.if-declarator_height-limit.true))))

pub returns-in_err-declarators-clause-none : goal.returns-in_err-declarators-clause-none
unfolding specifiers_seen specifiers_high declarator_seen declarator_high
returns-in_err-declarators-clause-none c =
    let is = all_low c.args.limit c.args.line (specifiers_seen c.in-Some.specifiers) c.args.at (declarator_seen c.args.declarator) (ahead c.args.p.now) c.has_typedef-typedef.result c.has_typedef-typedef.ensures (measured_low c.args.limit c.specifiers_height.result _ c.requires.limit c.specifiers_height.ensures (omega (arith, c.if-specifiers_height-limit.false))) (measured_low c.args.limit c.declarator_height.result _ c.requires.limit c.declarator_height.ensures (omega (arith, c.if-declarator_height-limit.false))) in
    passed c.from_residual.result c.from_residual.ensures.1 (err c.in_err-declarators.ensures.none (λ z.
    ap (λ o. reader.declares readers c.args.limit c.args.line (option_of specifiers_seen o) c.args.at (declarator_seen c.args.declarator) (ahead c.args.p.now)) c.in-Some.is
    ∙ is ∙ ap (λ o. bind o (declared c.args.line (specifiers_seen c.in-Some.specifiers))) z))

pub returns-clause-ok : goal.returns-clause-ok
unfolding specifiers_seen specifiers_high declarator_seen declarator_high
returns-clause-ok c =
    let is = all_low c.args.limit c.args.line (specifiers_seen c.in-Some.specifiers) c.args.at (declarator_seen c.args.declarator) (ahead c.args.p.now) c.has_typedef-typedef.result c.has_typedef-typedef.ensures (measured_low c.args.limit c.specifiers_height.result _ c.requires.limit c.specifiers_height.ensures (omega (arith, c.if-specifiers_height-limit.false))) (measured_low c.args.limit c.declarator_height.result _ c.requires.limit c.declarator_height.ensures (omega (arith, c.if-declarator_height-limit.false))) in
    ap (λ o. reader.declares readers c.args.limit c.args.line (option_of specifiers_seen o) c.args.at (declarator_seen c.args.declarator) (ahead c.args.p.now)) c.in-Some.is
    ∙ is ∙ ap (λ o. bind o (declared c.args.line (specifiers_seen c.in-Some.specifiers))) c.in_ok-declarators.ensures.ok
    ∙ ap (λ x. Some (x, ahead c.inits_behind.new.p)) (sym (c.declares.ensures ∙ ap (Declares c.args.line) c.declared-declaration.ensures))
