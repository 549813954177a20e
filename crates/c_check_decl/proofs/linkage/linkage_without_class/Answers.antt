use Rattle.std.proofs.Common.{◌≡◌, true, false, refl, sym, ◌∙◌}
use Rattle.c_meaning.specs.Linkage.{is_outside as outside}
use Rattle.c_check_expr.specs.Known.{state_of}
use Rattle.c_check_decl.proofs.linkage.linkage_without_class.Goals as goal

pub returns-then-is_outside : goal.returns-then-is_outside
returns-then-is_outside c t =
    let e : outside (state_of c.args.scopes.now t) ≡ true = sym (c.is_outside.ensures t) ∙ c.if-is_outside.true in
    rw (c.if-function.false, e) refl

pub returns-else-is_outside : goal.returns-else-is_outside
returns-else-is_outside c t =
    let e : outside (state_of c.args.scopes.now t) ≡ false = sym (c.is_outside.ensures t) ∙ c.if-is_outside.false in
    rw (c.if-function.false, e) refl
