use Rattle.std.proofs.Common.{sym, ap, subst, ◌∙◌, true≢false, arith}
use Rattle.c_types.specs.Bounds.{IsBounded}
use Rattle.c_types.specs.CType.{qualify, depth}
use Rattle.c_types.specs.Layout.{extent_by, known}
use Rattle.c_types.specs.Table.{excess, extent_at, tags, type_at}
use Rattle.c_types.proofs.lemmas.Qualifying.{depth_qualify, qualify_twice}
use Rattle.c_types.proofs.Fresh.{no_object_bounded}
use Rattle.c_types.proofs.Known.{extent_qualify}
use Rattle.c_types.proofs.type_table.TypeTable.qualified_facts.Goals as goal

pub returns-clause-ok : goal.returns-clause-ok
returns-clause-ok c =
    let t = c.args.self.now in
    let q = c.args.qualifiers.0 in
    let b = c.unqualified-base.result in
    let u = type_at t b.0 in
    record {
      own = λ z. absurd (true≢false z);
      other = λ z. (
        (let w = c.unqualified-base.ensures.within in let l = c.requires in omega arith),
        c.unqualified-base.ensures.form,
        ap (qualify q) c.unqualified-base.ensures.means ∙ qualify_twice q b.1.0 u ∙ ap (λ z. qualify z u) (sym c.with.ensures),
      );
      depth = c.depth-depth.ensures.is ∙ sym (depth_qualify q (type_at t c.args.of));
      deep = c.depth-depth.ensures.bound;
      bounded = subst IsBounded (sym c.no_object.ensures) no_object_bounded;
      extent = λ n z. absurd (true≢false z);
      open_form = λ z. absurd (true≢false (sym z));
      settled = λ n z. absurd (true≢false z);
    }

pub returns-clause-accepted : goal.returns-clause-accepted
returns-clause-accepted c =
    let t = c.args.self.now in
    let q = c.args.qualifiers.0 in
    let u = type_at t c.args.of in
    let k = known (tags t) in
    ap (λ d. excess d (extent_by k (qualify q u))) (depth_qualify q u) ∙ ap (excess (depth u)) (extent_qualify k q u)
    ∙ ap (λ d. excess d (extent_at t c.args.of)) (sym c.depth-depth.ensures.is) ∙ ap (excess c.depth-depth.result) (sym c.extent-whole.ensures.is) ∙ c.in_ok-excess.ensures.ok
