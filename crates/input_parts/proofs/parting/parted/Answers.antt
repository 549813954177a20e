use Rattle.std.proofs.Common.{sym, ap, ◌∙◌, inl, inr, refl}
use Rattle.std.proofs.lemmas.Bool.{false≢true}
use Rattle.std.proofs.lemmas.Bool.Decides.{Decides-eqb}
use Rattle.std.proofs.lemmas.List.{take_rest}
use Rattle.std.proofs.lemmas.Slice.Eq.{slice_eq-Decides}
use Rattle.lcc_text.specs.Lines.{lines_of}
use Rattle.input_parts.proofs.Passed.{passed_line, passed_all, marked_line}
use Rattle.input_parts.proofs.parting.parted.Goals as goal

pub returns-then-eq : goal.returns-then-eq
returns-then-eq c =
    let input = c.args.input.now in
    let at = c.loop-line.at in
    let behind = c.min-behind.result in
    let lines = ap lines_of (sym (take_rest input at)) ∙ c.in-Some.ensures.some in
    let mark = (slice_eq-Decides Decides-eqb _ _ _ c.eq.ensures).0 c.if-eq.true ∙ c.as_slice.ensures in
    rw (take_rest input behind) (inl (marked_line input c.in-Some.line.now _ at behind c.loop-line.invariant lines mark c.min-behind.ensures))

pub loop-line-preserved : goal.loop-line-preserved
loop-line-preserved c =
    let input = c.args.input.now in
    let at = c.loop-line.at in
    let behind = c.min-behind.result in
    let lines = ap lines_of (sym (take_rest input at)) ∙ c.in-Some.ensures.some in
    passed_line input c.in-Some.line.now _ at behind c.loop-line.invariant lines (λ mark. false≢true (sym c.if-eq.false ∙ (slice_eq-Decides Decides-eqb _ _ _ c.eq.ensures).1 (mark ∙ sym c.as_slice.ensures))) c.min-behind.ensures

pub returns : goal.returns
returns c =
    let input = c.args.input.now in
    let at = c.loop-line.at in
    let lines = ap lines_of (sym (take_rest input at)) ∙ c.in_default.ensures.none in
    inr (passed_all input at c.loop-line.invariant lines, refl, refl)
