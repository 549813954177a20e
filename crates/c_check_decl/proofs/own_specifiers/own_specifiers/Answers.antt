use Rattle.std.proofs.Common.{map, sym, ap, ◌∙◌}
use Rattle.c_ast.specs.SeenUnits.{init_seen}
use Rattle.c_meaning.specs.Declarations.{is_inner_class}
use Rattle.c_check_decl.proofs.DeclSpecifiers.{own_breaks, own_inner, own_outer, own_stops}
use Rattle.c_check_decl.proofs.own_specifiers.own_specifiers.Goals as goal
use Rattle.c_check_decl.proofs.own_specifiers.own_specifiers.Goals.{else-is_outside-via-then-is_outside+else-is_inner_class, else-is_outside-via-else-is_outside}

pub returns-in_err-base : goal.returns-in_err-base
returns-in_err-base c = own_stops c.args.scopes.now c.inside.new.scopes c.args.types.now c.inside.new.types c.args.list.now (map init_seen c.args.declarators.now) c.in_err-base.field-0.0 c.from_residual.result c.from_residual.ensures.1 c.in_err-base.ensures

pub returns-then-is_inner_class : goal.returns-then-is_inner_class
returns-then-is_inner_class c =
    own_breaks c.args.scopes.now c.inside.new.scopes c.args.types.now c.inside.new.types c.args.list.now (map init_seen c.args.declarators.now) c.in_ok-base.base c.in_ok-base.ensures
    (sym (c.is_outside.ensures c.inside.new.types) ∙ c.if-is_outside.true) (sym (ap is_inner_class c.as_slice.ensures) ∙ sym c.is_inner_class.ensures ∙ c.if-is_inner_class.true)

pub returns : goal.returns
returns c = elim c.else-is_outside.branch [
  | else-is_outside-via-then-is_outside+else-is_inner_class w ↦
      own_outer c.args.scopes.now c.inside.new.scopes c.args.types.now c.inside.new.types c.args.list.now (map init_seen c.args.declarators.now) c.in_ok-base.base c.in_ok-base.ensures (sym (ap is_inner_class w.as_slice.ensures) ∙ sym w.is_inner_class.ensures ∙ w.if-is_inner_class.false)
  | else-is_outside-via-else-is_outside w ↦
      own_inner c.args.scopes.now c.inside.new.scopes c.args.types.now c.inside.new.types c.args.list.now (map init_seen c.args.declarators.now) c.in_ok-base.base c.in_ok-base.ensures (sym (c.is_outside.ensures c.inside.new.types) ∙ w.if-is_outside.false)
]
