use Rattle.std.proofs.Common.{◌≡◌, ℕ, sym, ap, ◌∙◌, length, arith}
use Rattle.std.specs.Prelude.{◌&&◌, set}
use Rattle.c_types.specs.CType.{CType, basic, Int}
use Rattle.c_meaning.specs.CoreTrees.{CoreOf, cores_of, kids_of, what_of, all_seen}
use Rattle.lowered_forms.specs.Straight.{goes_on}
use Rattle.c_lower_expr.specs.Marks.{all_marks}
use Rattle.c_lower_expr.proofs.lemmas.Marking.{own_mark, place_there, straight_by}
use Rattle.c_lower_expr.proofs.marks.+marking.Goals as goal

pub mark-index_mut-requires : goal.mark-index_mut-requires
mark-index_mut-requires t c =
    let known : ℕ → CType = λ id. basic Int in
    let there = place_there c.args.all.now.items c.push.new.self.items c.mark_all.new.all.items (all_marks (all_seen known (cores_of c.as_slice.result.now))) c.in_ok-push.ensures.items (c.in_ok-are.ensures.marks known) in
    omega (arith, there, c.mark_all.new.all.ok.0, c.args.all.now.ok.0)

pub mark-returns-clause-marks : goal.mark-returns-clause-marks
mark-returns-clause-marks t c = λ known.
    let e = c.args.e.now in
    let kids = cores_of c.as_slice.result.now in
    let kids_are : kids_of e ≡ kids = ap kids_of (sym c.e.view_is) ∙ ap cores_of (sym c.as_slice.ensures) in
    let is = straight_by known e kids c.goes_on-is.result c.in_ok-are.are kids_are (c.goes_on-is.ensures ∙ ap (λ (x : CoreOf ℕ). goes_on (what_of x) && c.in_ok-are.are) c.e.view_is) (c.in_ok-are.ensures.is known) in
    let place : c.len-place.result ≡ length c.args.all.now.items = omega (arith, c.args.all.now.ok.0) in
    ap (λ n. set c.mark_all.new.all.items n c.goes_on-is.result) place
    ∙ own_mark known e kids c.args.all.now.items c.push.new.self.items c.mark_all.new.all.items c.goes_on-is.result kids_are c.in_ok-push.ensures.items (c.in_ok-are.ensures.marks known) is
