use Rattle.std.proofs.Common.{length}
use Rattle.c_symbols.specs.Extending.{all_below_more, below_more}
use Rattle.c_symbols.specs.Hiding.{names_of}
use Rattle.c_symbols.proofs.Within.{one_declared}
use Rattle.c_symbols.proofs.scopes.Scopes.link.Goals as goal

pub invariant_of-self : goal.invariant_of-self
invariant_of-self c =
    let i = c.self.inside in
    let n = c.declare_in.new in
    let e = c.declare_in.ensures in
    let k = c.self.invariant in
    let p = one_declared c.declare_in.result c.args.name.now i.links n.scope i.symbols.items n.symbols.items c.args.symbol e.id e.scope e.symbols e.scope_stays e.symbols_stay k.declared.links in
    record {
      declared = record {
        outer = all_below_more (length i.symbols.items) (length n.symbols.items) p.0 (names_of i.outer.items) k.declared.outer;
        inner = below_more (length i.symbols.items) (length n.symbols.items) p.0 i.inner.names k.declared.inner;
        links = p.1;
      };
      newest = k.newest;
      of_outer = k.of_outer;
      of_inner = k.of_inner;
    }
