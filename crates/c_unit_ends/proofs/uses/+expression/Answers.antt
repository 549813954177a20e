use Rattle.std.proofs.Common.{ℕ, List, refl, ◌∙◌}
use Rattle.c_meaning.specs.CoreTrees.{CoreOf, cores_of}
use Rattle.c_unit_ends.specs.Uses.{all_uses, uses}
use Rattle.c_unit_ends.proofs.Missing.{missing_more}
use Rattle.c_unit_ends.proofs.uses.+expression.Goals as goal

pub in_all-loop-c-preserved : goal.in_all-loop-c-preserved
in_all-loop-c-preserved t c =
    missing_more c.args.standings.now uses (λ (zs : List (CoreOf ℕ)). all_uses (cores_of zs)) c.args.list.now c.loop-c.c-index c.c-item.result c.loop-c.least c.in_expr-least.result c.loop-c-test.true c.c-item.is (λ z zs. refl) c.in_expr-least.ensures
    ∙ c.loop-c.invariant
