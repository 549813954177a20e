use Rattle.std.proofs.Common.{◌≡◌, ◌+◌, true, false, sym, ap, ◌∙◌, arith}
use Rattle.std.specs.Prelude.{bit_and, ◌==◌}
use Rattle.c_types.specs.CType.{depth}
use Rattle.c_types.specs.Constness.{const_known, has_const_by}
use Rattle.c_types.specs.Table.{tags, type_at}
use Rattle.c_types.proofs.lemmas.Qualifying.{depth_qualify}
use Rattle.c_types.proofs.Const.{const_qualified, const_unqualified}
use Rattle.c_types.proofs.type_table.TypeTable.has_const.Goals as goal

pub returns-then-contains : goal.returns-then-contains
returns-then-contains c =
    let t = c.args.self.now in
    let b = c.unqualified-base.result in
    let k = const_known (tags t) in
    let h : (bit_and b.1.0 1 == 1) ≡ true = sym (c.contains.ensures tt) ∙ c.if-contains.true in
    sym (c.loop-id.invariant.same ∙ ap (has_const_by k) c.unqualified-base.ensures.means ∙ const_qualified k b.1.0 (type_at t b.0) h)

pub loop-id-smaller : goal.loop-id-smaller
loop-id-smaller c =
    let t = c.args.self.now in
    let b = c.unqualified-base.result in
    let e : depth (type_at t c.loop-id.part) ≡ depth (type_at t b.0) = ap depth c.unqualified-base.ensures.means ∙ depth_qualify b.1.0 (type_at t b.0) in
    let f : depth (type_at t b.0) ≡ 1 + depth (type_at t c.in-Some.of) = ap depth c.in-Some.ensures.some in
    omega (arith, e, f)

pub loop-id-preserved : goal.loop-id-preserved
loop-id-preserved c =
    let t = c.args.self.now in
    let b = c.unqualified-base.result in
    let k = const_known (tags t) in
    let h : (bit_and b.1.0 1 == 1) ≡ false = sym (c.contains.ensures tt) ∙ c.if-contains.false in
    record {
      within = c.in-Some.ensures.place;
      same = c.loop-id.invariant.same ∙ ap (has_const_by k) c.unqualified-base.ensures.means ∙ const_unqualified k b.1.0 (type_at t b.0) h ∙ ap (has_const_by k) c.in-Some.ensures.some;
    }
