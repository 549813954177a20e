use Rattle.std.proofs.Common.{◌≡◌, ◌++◌, ◌∷◌, [], List, ℕ, sym, ap, subst, ◌∙◌}
use Rattle.std.specs.Prelude.{None}
use Rattle.indexmap.proofs.CallerLemmas.{insert_entry-new}
use Rattle.c_standings.specs.declared.Standing.{Standing}
use Rattle.c_standings.specs.StandingLists.{of_symbol}
use Rattle.c_standings.proofs.StandingEntries.{found_entry}
use Rattle.c_standings.proofs.Standings.add.Goals as goal

pub returns : goal.returns
returns c =
    let m = c.self.inside.standings in
    let id = c.args.id in
    let a : of_symbol m.entries id ≡ None = subst (λ (xs : List (ℕ × Standing)). of_symbol xs id ≡ None) (sym c.self.view_is) c.requires in
    c.in_ok-insert.ensures.entries ∙ insert_entry-new _ m id c.args.standing (found_entry m.entries id ∙ a)
    ∙ ap (λ (xs : List (ℕ × Standing)). xs ++ (id, c.args.standing) ∷ []) c.self.view_is
