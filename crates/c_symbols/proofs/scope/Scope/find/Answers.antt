use Rattle.std.proofs.Common.{◌≡◌, List, ℕ, subst, ◌∙◌}
use Rattle.c_symbols.specs.Scoping.{symbol_named}
use Rattle.c_symbols.proofs.Naming.{named_entries}
use Rattle.c_symbols.proofs.scope.Scope.find.Goals as goal

pub returns : goal.returns
returns c =
    subst (λ (s : List (List ℕ × ℕ)). c.copied.result ≡ symbol_named s c.args.name.now) c.self.view_is
    (c.copied.ensures ∙ c.get.ensures.value ∙ named_entries c.self.inside.names.entries c.args.name.now)
