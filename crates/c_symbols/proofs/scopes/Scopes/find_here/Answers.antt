use Rattle.std.proofs.Common.{◌<◌, ℕ, length, sym, subst}
use Rattle.std.specs.Prelude.{IfSome, Option}
use Rattle.c_symbols.specs.Scoping.{Scoping, symbol_named}
use Rattle.c_symbols.proofs.Within.{named_within}
use Rattle.c_symbols.proofs.scopes.Scopes.find_here.Goals as goal

pub returns-clause-within : goal.returns-clause-within
returns-clause-within c =
    let i = c.self.inside in
    let name = c.args.name.now in
    subst (λ (o : Option ℕ). IfSome o (λ id. id < length c.args.self.now.symbols)) (sym c.find.ensures)
    (subst (λ (s : Scoping). IfSome (symbol_named i.inner.names name) (λ id. id < length s.symbols)) c.self.view_is (named_within (length i.symbols.items) i.inner.names name c.self.invariant.declared.inner))
