use Rattle.std.proofs.Common.{◌≡◌, List, ℕ, subst, ◌∙◌}
use Rattle.c_standings.specs.declared.Standing.{Standing}
use Rattle.c_standings.specs.StandingLists.{of_symbol}
use Rattle.c_standings.proofs.StandingEntries.{found_entry}
use Rattle.c_standings.proofs.Standings.of.Goals as goal

pub returns : goal.returns
returns c =
    subst (λ (xs : List (ℕ × Standing)). c.copied.result ≡ of_symbol xs c.args.id) c.self.view_is
    (c.copied.ensures ∙ c.get.ensures.value ∙ found_entry c.self.inside.standings.entries c.args.id)
