use Rattle.std.proofs.Common.{◌∙◌}
use Rattle.std.proofs.lemmas.Result.{IfOk-weaker}
use Rattle.c_types.specs.Composite.{composite}
use Rattle.c_types.specs.Layout.{known}
use Rattle.c_types.specs.Table.{tags, type_at}
use Rattle.c_types.proofs.Composed.{results_composed}
use Rattle.c_types.proofs.Limits.{composite_within, none_alike, within_accepted, within_at}
use Rattle.c_types.proofs.type_table.TypeTable.composite.Goals as goal

pub returns-clause-means : goal.returns-clause-means
returns-clause-means c =
    let t = c.args.self.now in
    let k = results_composed (type_at t c.args.a) (type_at t c.args.b) c.none.result.0 c.none-2.result.0 c.none.ensures c.none-2.ensures in
    IfOk-weaker c.composite_under.result _ _ (λ id h. h ∙ k) c.composite_under.ensures.means

pub composite_under-requires-clause-compatible : goal.composite_under-requires-clause-compatible
composite_under-requires-clause-compatible c =
    let t = c.args.self.now in
    none_alike c.none.result.0 c.none-2.result.0 (type_at t c.args.a) (type_at t c.args.b) c.none.ensures c.none-2.ensures c.requires.compatible

pub returns-clause-accepted : goal.returns-clause-accepted
returns-clause-accepted c =
    let i = c.self.inside in
    let t = c.args.self.now in
    let s = type_at t c.args.a in
    let u = type_at t c.args.b in
    let x = within_at i.basic i.formed.entries i.definitions.entries c.self.invariant t c.self.view_is c.args.a c.requires.a in
    let y = within_at i.basic i.formed.entries i.definitions.entries c.self.invariant t c.self.view_is c.args.b c.requires.b in
    within_accepted (tags t) (composite s u) (composite_within (known (tags t)) s u c.requires.compatible x y)
