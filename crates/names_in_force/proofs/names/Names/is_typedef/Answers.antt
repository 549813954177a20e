use Rattle.std.proofs.Common.{reverse, sym, ap, ◌∙◌}
use Rattle.c_ast.specs.InForce.{InForce, is_typedef}
use Rattle.names_in_force.proofs.Cuts.{look_cut}
use Rattle.names_in_force.proofs.names.Names.is_typedef.Goals as goal

pub returns : goal.returns
returns c =
    c.is_typedef.ensures
    ∙ sym (look_cut (reverse c.self.inside.starts.items) c.self.inside.bindings.bound c.args.name.now c.self.invariant)
    ∙ ap (λ (n : InForce). is_typedef n c.args.name.now) c.self.view_is
