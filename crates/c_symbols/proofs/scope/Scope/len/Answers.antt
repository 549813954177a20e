use Rattle.std.proofs.Common.{List, ℕ, length, sym, ap, ◌∙◌}
use Rattle.c_symbols.proofs.Naming.{names_length}
use Rattle.c_symbols.proofs.scope.Scope.len.Goals as goal

pub returns : goal.returns
returns c = c.len.ensures.len ∙ sym (names_length c.self.inside.names.entries) ∙ ap (λ (s : List (List ℕ × ℕ)). length s) c.self.view_is
