use Rattle.std.proofs.Common.{◌∙◌, sym, subst}
use Rattle.c_symbols.specs.Meanings.{Meant}
use Rattle.c_symbols.specs.Hiding.{AreKept}
use Rattle.c_symbols.proofs.Meaning.{at_below}
use Rattle.c_symbols.proofs.Keeping.{declared_pushed, kept_declared, kept_like, kept_same}
use Rattle.c_symbols.proofs.scopes.Scopes.declare.Goals as goal

pub invariant_of-self : goal.invariant_of-self
invariant_of-self c =
    let i = c.self.inside in
    kept_same i.meanings c.hide.new.self i.outer.items i.inner i.links i.symbols.items c.hide.ensures.same c.self.invariant

pub invariant_of-self-in_err-id : goal.invariant_of-self-in_err-id
invariant_of-self-in_err-id c =
    let i = c.self.inside in
    let n = c.declare_open.new in
    let e = c.in_err-id.ensures in
    kept_like c.hide.new.self i.outer.items i.inner n.scope i.links i.symbols.items n.symbols.items e.names_stay e.hidden_stays e.symbols_stay
    (kept_same i.meanings c.hide.new.self i.outer.items i.inner i.links i.symbols.items c.in-Ok.ensures.same c.self.invariant)

pub set-requires : goal.set-requires
set-requires c = at_below c.hide.new.self c.args.name.now c.in-Ok.hidden.place c.in-Ok.ensures.place

pub invariant_of-self-2 : goal.invariant_of-self-2
invariant_of-self-2 c =
    let i = c.self.inside in
    let n = c.declare_open.new in
    let a = c.hide.new.self in
    let h = c.in-Ok.ensures in
    let e = c.in_ok-id.ensures in
    let name = c.args.name.now in
    let declared = declared_pushed i.outer.items i.inner n.scope i.links i.symbols.items n.symbols.items name c.in_ok-id.id c.args.symbol e.id e.symbols e.names c.self.invariant.declared in
    let kept = kept_same i.meanings a i.outer.items i.inner i.links i.symbols.items h.same c.self.invariant in
    subst (λ (m : Meant). AreKept m i.outer.items n.scope i.links n.symbols.items) (sym c.set.ensures)
    (kept_declared a i.outer.items i.inner n.scope i.links i.symbols.items n.symbols.items name c.in_ok-id.id c.in-Ok.hidden h.place (h.before ∙ sym (h.same.meanings name)) e.new_name e.names e.hidden declared kept)
