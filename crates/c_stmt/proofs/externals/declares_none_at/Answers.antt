use Rattle.std.proofs.Common.{◌≡◌, true, false, Some, [], map, inr, sym, ap, ◌∙◌, arith}
use Rattle.c_ast.specs.Trees.{Declares}
use Rattle.c_ast.specs.UnitViews.{option_of}
use Rattle.c_ast.specs.Seen.{specifiers_seen}
use Rattle.c_ast.specs.SeenUnits.{init_seen}
use Rattle.c_ast.specs.ValueHeights.{specifiers_high}
use Rattle.c_readings.specs.Reading.{beyond}
use Rattle.c_readings.specs.UnitReaders as reader
use Rattle.c_expr.specs.State.{ahead}
use Rattle.c_stmt.proofs.Declared.{declaration_of, measured_high, measured_low, none_high, none_low}
use Rattle.c_stmt.proofs.externals.declares_none_at.Goals as goal

pub returns-then-specifiers_height-limit-clause-none : goal.returns-then-specifiers_height-limit-clause-none
unfolding specifiers_seen specifiers_high
returns-then-specifiers_height-limit-clause-none c =
    inr (ap (λ o. reader.declares_none c.args.limit c.args.line (option_of specifiers_seen o) (beyond (ahead c.args.p.now))) c.in-Some.is
    ∙ none_high c.args.limit c.args.line (specifiers_seen c.in-Some.specifiers) (beyond (ahead c.args.p.now)) (measured_high c.args.limit c.specifiers_height.result _ c.requires.limit c.specifiers_height.ensures (omega (arith, c.if-specifiers_height-limit.true))))

pub returns-in_err-expect-clause-none : goal.returns-in_err-expect-clause-none
returns-in_err-expect-clause-none c = let h : true ≡ false = sym c.requires.next ∙ c.in_err-expect.ensures.none in absurd cc

pub returns-clause-ok : goal.returns-clause-ok
unfolding specifiers_seen specifiers_high
returns-clause-ok c =
    ap (λ o. reader.declares_none c.args.limit c.args.line (option_of specifiers_seen o) (beyond (ahead c.args.p.now))) c.in-Some.is
    ∙ none_low c.args.limit c.args.line (specifiers_seen c.in-Some.specifiers) (beyond (ahead c.args.p.now)) (measured_low c.args.limit c.specifiers_height.result _ c.requires.limit c.specifiers_height.ensures (omega (arith, c.if-specifiers_height-limit.false)))
    ∙ ap (λ t. Some (Declares c.args.line (declaration_of c.args.line (specifiers_seen c.in-Some.specifiers) []), t)) (sym c.in_ok-expect.ensures.beyond)
    ∙ ap (λ x. Some (x, ahead c.expect.new.p)) (sym (c.declares.ensures ∙ ap (Declares c.args.line) (c.declared-declaration.ensures ∙ ap (λ is. declaration_of c.args.line (specifiers_seen c.in-Some.specifiers) (map init_seen is)) c.new-declarators.ensures)))
