use Rattle.std.proofs.Common.{Some, ap, sym, ◌∙◌}
use Rattle.c_ast.specs.ExprMarks.{declared_name}
use Rattle.c_ast.specs.Seen.{declarator_seen}
use Rattle.c_readings.specs.Reading.{bind, gives, put_state}
use Rattle.c_readings.specs.DeclarationReaders.{whole_declarator}
use Rattle.c_expr.specs.State.{ahead}
use Rattle.c_decl.proofs.parts.whole_declarator.Goals as goal
use Rattle.c_decl.proofs.parts.whole_declarator.Goals.{in-Some+in_ok-put, in_default}

pub returns-clause-ok : goal.returns-clause-ok
unfolding whole_declarator
returns-clause-ok c =
    ap (λ o. bind o (λ d t. gives d (put_state (declared_name d) c.args.typedef t))) c.in_ok-declarator.ensures.ok.reads
    ∙ ap (λ u. Some (declarator_seen c.in_ok-declarator.declarator, u)) (elim c.match-declared_name.branch [ in-Some+in_ok-put w ↦ ap (λ o. put_state o c.args.typedef (ahead c.declarator_to.new.self)) (w.in-Some.ensures.some ∙ ap Some (sym w.as_slice.ensures)) ∙ sym w.in_ok-put.ensures.put ∙ ap ahead (sym w.p-is) | in_default w ↦ ap (λ o. put_state o c.args.typedef (ahead c.declarator_to.new.self)) w.in_default.ensures.none ∙ ap ahead (sym w.p-is) ])
