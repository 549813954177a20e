use Rattle.std.proofs.Common.{◌≡◌, ap, sym, ◌∙◌, Some}
use Rattle.dag_forest.proofs.lemmas.Keys.{unlike}
use Rattle.dag_forest.specs.SameKeys.{same_key}
use Rattle.dag_forest.proofs.block.numbered.Goals as goal

pub returns-clause-there : goal.returns-clause-there
returns-clause-there c = let s = c.in_ok-place.ensures.stored in let e : s.0 ≡ c.args.key = sym (same_key c.args.key s.0 s.2) in s.1 ∙ ap Some e

pub returns-clause-fresh : goal.returns-clause-fresh
returns-clause-fresh c h = unlike c.args.keys.now.keys c.args.key c.in_ok-place.is_new c.in_ok-place.ensures.added h
