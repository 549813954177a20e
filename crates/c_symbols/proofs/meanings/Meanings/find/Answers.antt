use Rattle.std.proofs.Common.{◌≡◌, subst}
use Rattle.std.specs.Prelude.{None}
use Rattle.c_symbols.specs.Meanings.{Meant, meaning}
use Rattle.c_symbols.proofs.Meaning.{looked_up, looked_none}
use Rattle.c_symbols.proofs.meanings.Meanings.find.Goals as goal

pub returns-in-Some : goal.returns-in-Some
returns-in-Some c =
    subst (λ (m : Meant). c.in-Some.field-0.now ≡ meaning m c.args.name.now) c.self.view_is
    (looked_up c.self.inside.names.entries c.args.name.now c.in-Some.field-0.now c.in-Some.ensures.value)

pub returns-in-None : goal.returns-in-None
returns-in-None c =
    subst (λ (m : Meant). None ≡ meaning m c.args.name.now) c.self.view_is
    (looked_none c.self.inside.names.entries c.args.name.now c.in-None.ensures.value)
