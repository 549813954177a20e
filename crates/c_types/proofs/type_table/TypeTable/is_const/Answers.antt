use Rattle.std.proofs.Common.{◌≡◌, ◌+◌, ◌<◌, length, true, false, sym, ap, ◌∙◌, arith}
use Rattle.std.specs.Prelude.{bit_and, ◌==◌}
use Rattle.c_types.specs.CType.{depth}
use Rattle.c_types.specs.Constness.{is_const}
use Rattle.c_types.specs.Table.{type_at}
use Rattle.c_types.proofs.lemmas.Qualifying.{depth_qualify}
use Rattle.c_types.proofs.Bare.{bare_at}
use Rattle.c_types.proofs.Const.{own_const, own_unqualified, none_const}
use Rattle.c_types.proofs.type_table.TypeTable.is_const.Goals as goal

pub returns-then-contains : goal.returns-then-contains
returns-then-contains c =
    let t = c.args.self.now in
    let b = c.unqualified-base.result in
    let h : (bit_and b.1.0 1 == 1) ≡ true = sym (c.contains.ensures tt) ∙ c.if-contains.true in
    sym (c.loop-id.invariant.same ∙ ap is_const c.unqualified-base.ensures.means ∙ own_const b.1.0 (type_at t b.0) h)

pub loop-id-smaller : goal.loop-id-smaller
loop-id-smaller c =
    let t = c.args.self.now in
    let b = c.unqualified-base.result in
    let e : depth (type_at t c.loop-id.part) ≡ depth (type_at t b.0) = ap depth c.unqualified-base.ensures.means ∙ depth_qualify b.1.0 (type_at t b.0) in
    let f : depth (type_at t b.0) ≡ 1 + depth (type_at t c.in-Some.of) = ap depth c.in-Some.ensures.some in
    omega (arith, e, f)

pub loop-id-preserved : goal.loop-id-preserved
loop-id-preserved c =
    let t = c.args.self.now in
    let b = c.unqualified-base.result in
    let h : (bit_and b.1.0 1 == 1) ≡ false = sym (c.contains.ensures tt) ∙ c.if-contains.false in
    record {
      within = c.in-Some.ensures.place;
      same = c.loop-id.invariant.same ∙ ap is_const c.unqualified-base.ensures.means ∙ own_unqualified b.1.0 (type_at t b.0) h ∙ ap is_const c.in-Some.ensures.some;
    }

pub returns-in_default : goal.returns-in_default
returns-in_default c =
    let i = c.self.inside in
    let t = c.args.self.now in
    let b = c.unqualified-base.result in
    let h : (bit_and b.1.0 1 == 1) ≡ false = sym (c.contains.ensures tt) ∙ c.if-contains.false in
    let w : b.0 < length t.forms = omega (arith, c.unqualified-base.ensures.within, c.loop-id.invariant.within) in
    let u = bare_at i.basic i.formed.entries i.definitions.entries t c.self.invariant c.self.view_is b.0 w c.unqualified-base.ensures.form in
    sym (c.loop-id.invariant.same ∙ ap is_const c.unqualified-base.ensures.means ∙ own_unqualified b.1.0 (type_at t b.0) h ∙ none_const (type_at t b.0) u c.in_default.ensures.none)
