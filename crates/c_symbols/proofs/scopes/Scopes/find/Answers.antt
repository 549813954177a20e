use Rattle.std.proofs.Common.{◌≡◌, ◌++◌, ◌∷◌, ◌<◌, [], ℕ, length, sym, subst, ◌∙◌}
use Rattle.std.specs.Prelude.{IfSome, Option}
use Rattle.c_symbols.specs.Scoping.{IsDeclared, Scoping, found}
use Rattle.c_symbols.proofs.Within.{declared_found}
use Rattle.c_symbols.proofs.scopes.Scopes.find.Goals as goal

means : (c : goal.After-find) → c.find.result ≡ found (c.args.self.now.outer ++ c.args.self.now.inner ∷ []) c.args.name.now
means c = subst (λ (t : Scoping). c.find.result ≡ found (t.outer ++ t.inner ∷ []) c.args.name.now) c.self.view_is (c.find.ensures ∙ c.self.invariant.newest c.args.name.now)

pub returns-clause-means : goal.returns-clause-means
returns-clause-means c = means c

pub returns-clause-within : goal.returns-clause-within
returns-clause-within c =
    let t = c.args.self.now in
    subst (λ (o : Option ℕ). IfSome o (λ k. k < length t.symbols)) (sym (means c)) (declared_found t c.args.name.now (subst IsDeclared c.self.view_is c.self.invariant.declared))
