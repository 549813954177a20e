use Rattle.std.proofs.Common.{List, sym, subst, ◌∙◌}
use Rattle.std.specs.Prelude.{Contains}
use Rattle.c_types.proofs.Pairs.{Pair, has_pair}
use Rattle.c_types.proofs.notes.CompatiblePairs.has.Goals as goal

pub returns : goal.returns
returns c = λ h. subst (λ (ks : List Pair). Contains ks (c.args.a, c.args.b)) c.self.view_is (has_pair c.self.inside.pairs.keys (c.args.a, c.args.b) (sym c.contains.ensures ∙ h))
