use Rattle.std.proofs.Common.{refl, sym, ap, ◌∙◌}
use Rattle.std.specs.Prelude.{◌||◌}
use Rattle.c_meaning.specs.Declarations.{is_static}
use Rattle.c_meaning.specs.Linkage.{is_outside}
use Rattle.c_check_expr.specs.Known.{state_of}
use Rattle.c_check_decl.specs.Named.{naming_in}
use Rattle.c_check_decl.proofs.InitialisedObjects.{barred_extern, object_as}
use Rattle.c_check_decl.proofs.initialising.initialised.Goals as goal
use Rattle.c_check_decl.proofs.initialising.initialised.Goals.{then-is_linked, else-is_linked}

pub returns-then-is_extern-clause-is : goal.returns-then-is_extern-clause-is
returns-then-is_extern-clause-is c =
    let t = c.args.types.now in
    let class = c.args.n.now.class in
    object_as t (state_of c.args.scopes.now t) _ (naming_in t c.args.n.now) refl
    (elim c.if-is_linked.branch [
      | then-is_linked w ↦ w.result-is ∙ w.if-is_linked.true ∙ sym (ap (λ b. b || is_static class) (sym c.is_linked.ensures ∙ w.if-is_linked.true))
      | else-is_linked w ↦ w.result-is ∙ w.is_static.ensures ∙ sym (ap (λ b. b || is_static class) (sym c.is_linked.ensures ∙ w.if-is_linked.false))
    ])
    (barred_extern _ _ (is_outside (state_of c.args.scopes.now t)) c.is_outside.result c.if-is_typedef.ensures c.if-is_extern.ensures (c.is_outside.ensures t))
