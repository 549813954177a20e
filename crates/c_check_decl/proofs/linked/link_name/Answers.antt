use Rattle.std.proofs.Common.{◌≡◌, length, sym, ap, ◌∙◌}
use Rattle.std.specs.Prelude.{None}
use Rattle.c_symbols.specs.Scoping.{symbol_named}
use Rattle.c_values.specs.Stays.{extends_itself}
use Rattle.c_check_expr.specs.KnownLaws.{symbols_in-append}
use Rattle.c_check_decl.specs.Named.{linked}
use Rattle.c_check_decl.proofs.NewNames.{linked_new, next_link}
use Rattle.c_check_decl.proofs.linked.link_name.Goals as goal

pub returns-in-Ok-clause-id : goal.returns-in-Ok-clause-id
returns-in-Ok-clause-id c =
    let s = c.args.scopes.now in
    let x = c.args.n.now.name in
    let absent : symbol_named s.links x ≡ None = ap (symbol_named s.links) (sym c.as_slice-name.ensures) ∙ sym c.linked.ensures.means ∙ c.in_default.is in
    next_link s c.args.types.now x c.in-Ok.id absent c.in-Ok.ensures.id

pub returns-in-Ok-clause-state : goal.returns-in-Ok-clause-state
returns-in-Ok-clause-state c =
    let s = c.args.scopes.now in
    let n = c.args.n.now in
    let e = c.in-Ok.ensures in
    let absent : symbol_named s.links n.name ≡ None = ap (symbol_named s.links) (sym c.as_slice-name.ensures) ∙ sym c.linked.ensures.means ∙ c.in_default.is in
    let links = rw (c.as_slice-name.ensures) at e.links in
    linked_new s c.link.new.self c.args.types.now c.args.line (linked n.linkage) n.name c.in-Ok.id n.of c.linked_class.result absent c.linked_class.ensures e.outer e.inner links e.id e.symbols

pub returns-in-Ok-clause-keeps : goal.returns-in-Ok-clause-keeps
returns-in-Ok-clause-keeps c =
    let e = c.in-Ok.ensures in
    record {
      outer = e.outer;
      extends = extends_itself c.args.types.now;
      symbols = rw e.symbols (symbols_in-append (length c.args.types.now.forms) c.args.scopes.now.symbols _ c.requires.symbols c.requires.of);
    }
