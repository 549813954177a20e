use Rattle.std.proofs.Common.{◌≡◌, sym, ap, ◌∙◌}
use Rattle.std.specs.Prelude.{Option, Some}
use Rattle.c_ast.specs.declared.specifier.Storage.{Storage}
use Rattle.c_ast.specs.declared.specifier.Storage.TheVariants as class
use Rattle.c_meaning.specs.Linkage.{linkage as linkage_given}
use Rattle.c_check_expr.specs.Known.{state_of}
use Rattle.c_check_decl.proofs.linkage.given_linkage.Goals as goal

pub returns-in-Some-Static : goal.returns-in-Some-Static
returns-in-Some-Static c t =
    let i = c.in-Some-Static.is in
    let f : c.in-Some-Static.field-0 ≡ class.Static = rw i at c.in-Some-Static.field-0-is in
    let e : c.args.class ≡ Some class.Static = i ∙ ap Some f in
    c.static_linkage.ensures t ∙ sym (ap (λ (o : Option Storage). linkage_given (state_of c.args.scopes.now t) o c.args.name.now c.args.function) e)
