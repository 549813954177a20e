use Rattle.std.proofs.Common.{List, map, refl, ◌∙◌}
use Rattle.c_meaning.specs.declared.filled_place.FilledPlace.{FilledPlace}
use Rattle.c_meaning.specs.StmtTrees.{filled_of}
use Rattle.c_unit_ends.specs.Uses.{place_uses, uses}
use Rattle.c_unit_ends.proofs.Missing.{missing_more}
use Rattle.c_unit_ends.proofs.uses.in_places.Goals as goal

pub loop-place-preserved : goal.loop-place-preserved
loop-place-preserved c =
    missing_more c.args.standings.now (λ (p : FilledPlace). uses p.value) (λ (ps : List FilledPlace). place_uses (map filled_of ps)) c.args.list.now c.loop-place.place-index c.place-item.result c.loop-place.least c.in_expr-least.result c.loop-place-test.true c.place-item.is (λ z zs. refl) c.in_expr-least.ensures
    ∙ c.loop-place.invariant
