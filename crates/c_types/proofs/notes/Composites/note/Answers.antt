use Rattle.std.proofs.Common.{◌≡◌, ℕ, List, subst}
use Rattle.std.specs.Prelude.{◌⊎◌, All, Contains}
use Rattle.c_types.proofs.Pairs.{Pair, noted_entry}
use Rattle.c_types.proofs.notes.Composites.note.Goals as goal

pub returns : goal.returns
returns c =
    let k : Pair = (c.args.a, c.args.b) in
    subst (λ (es : List (Pair × ℕ)). All (λ (e : Pair × ℕ). Contains es e ⊎ (e ≡ (k, c.args.id))) c.insert.new.self.entries) c.self.view_is
    (noted_entry c.insert.result c.self.inside.made.entries c.insert.new.self.entries k c.args.id c.insert.ensures.entries c.insert.ensures.err)
