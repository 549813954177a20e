use Rattle.std.proofs.Common.{◌≡◌, List, subst}
use Rattle.std.specs.Prelude.{◌⊎◌, All, Contains}
use Rattle.c_types.proofs.Pairs.{Pair, noted_pair}
use Rattle.c_types.proofs.notes.CompatiblePairs.note.Goals as goal

pub returns : goal.returns
returns c =
    let k : Pair = (c.args.a, c.args.b) in
    subst (λ (ks : List Pair). All (λ (p : Pair). Contains ks p ⊎ (p ≡ k)) c.insert.new.self.keys) c.self.view_is
    (noted_pair c.insert.result c.self.inside.pairs.keys c.insert.new.self.keys k c.insert.ensures.keys c.insert.ensures.err)
