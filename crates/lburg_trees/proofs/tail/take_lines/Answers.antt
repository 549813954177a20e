use Rattle.std.proofs.Common.{◌≡◌, ◌∙◌, ◌+◌, ◌-◌, ◌<◌, ℕ, Option, None, Some, ◌++◌, List, [], drop, length, refl, ap, sym, subst, append_assoc, append-nil, arith}
use Rattle.std.specs.Prelude.{IfSome}
use Rattle.std.proofs.lemmas.Option.{same_Some}
use Rattle.std.proofs.lemmas.List.{length-append}
use Rattle.lcc_text.specs.Lines.{lines_of}
use Rattle.lburg_model.specs.Tree.{MTree}
use Rattle.lburg_trees.specs.TailText.{AreTrees}
use Rattle.lburg_trees.specs.Taking.{Takes}
use Rattle.lburg_trees.specs.Reading.{AreFine}
use Rattle.lburg_trees.proofs.Taken.{takes_append}
use Rattle.lburg_trees.proofs.Tails.{dropped, drop_end, trees_before, fine_more, line_fails}
use Rattle.lburg_trees.proofs.tail.take_lines.Goals as goal

at_some : {T : Type 0} (P : T → Type 0) (o : Option T) (x : T) → o ≡ Some x → IfSome o P → P x
at_some P None x e h = absurd cc
at_some P (Some y) x e h = subst P (same_Some y x e) h

pub returns-in-Err-clause-fault : goal.returns-in-Err-clause-fault
returns-in-Err-clause-fault g c =
    let before = c.args.tail.before in
    let lines = lines_of c.args.tail.text.now in
    let k : ℕ = c.lines.number - before in
    let fails = c.in-Err.ensures.fault in
    let at = dropped lines fails.others k fails.line (c.lines.invariant.left ∙ fails.lines) in
    let low = c.lines.invariant.low in
    let e : c.lines.number + 1 ≡ before + k + 1 = omega arith in
    line_fails c.args.d.now before (c.lines.number + 1) lines k fails.line c.in-Err.stop c.told.result at.0 c.lines.invariant.fine e fails.fails c.told.ensures.memory c.told.ensures.fault

pub lines-preserved : goal.lines-preserved
lines-preserved g c =
    let d = c.args.d.now in
    let before = c.args.tail.before in
    let lines = lines_of c.args.tail.text.now in
    let k : ℕ = c.lines.number - before in
    let next = c.in-Ok-Some.next in
    let is = c.in-Ok-Some.field-0-is in
    let t = at_some _ _ _ is c.in-Ok-Some.ensures.taken in
    let shorter : length c.in-Ok-Some.behind.now < length c.lines.rest.now = at_some _ _ _ is c.in-Ok-Some.ensures.shorter in
    let at = dropped lines (lines_of c.in-Ok-Some.behind.now) k t.line (c.lines.invariant.left ∙ t.lines) in
    let (trees, front, before_taken, sum) = c.lines.invariant.found in
    let low = c.lines.invariant.low in
    let within = c.lines.invariant.within in
    let few = c.lines.invariant.few in
    let one = t.few in
    let next_is = t.next_is in
    let long = length-append trees t.here in
    let e : k + 1 ≡ c.lines.number + 1 - before = omega arith in
    record {
      low = omega arith;
      within = omega arith;
      left = ap (λ (z : ℕ). drop z lines) (sym e) ∙ at.1;
      found = (
        trees ++ t.here,
        λ others h. (
            let b = front (t.here ++ others) (trees_before d t.line (lines_of c.in-Ok-Some.behind.now) (lines_of c.lines.rest.now) t.here others t.lines t.is h) in
            subst (λ (ts : List MTree). AreTrees d lines ts) (sym (append_assoc trees t.here others)) b
            ),
        takes_append g.T.TreeTaker.takes trees t.here 1 c.lines.tree _ _ _ sum before_taken t.taken,
        omega arith,
      );
      few = omega arith;
      ready = at_some _ _ _ is c.in-Ok-Some.ensures.ready;
      fine = subst (λ (z : ℕ). AreFine d lines z) e (fine_more d lines t.line k c.lines.invariant.fine at.0 t.fine);
    }

pub returns-in-Ok-None-clause-found : goal.returns-in-Ok-None-clause-found
returns-in-Ok-None-clause-found g c =
    let d = c.args.d.now in
    let step = g.T.TreeTaker.takes in
    let (trees, front, taken, sum) = c.lines.invariant.found in
    let is = c.in-Ok-None.field-0-is in
    let b = front [] (subst (λ (ls : List (List ℕ)). AreTrees d ls []) (sym (c.in-Ok-None.ensures.end is)) refl) in
    (trees, subst (λ (ts : List MTree). AreTrees d (lines_of c.args.tail.text.now) ts) (append-nil trees) b, subst (λ (s : g.row.T.Denot). Takes step 1 trees c.args.taker.now s) (sym (c.in-Ok-None.ensures.kept is)) taken)

pub returns-in-Ok-None-clause-fine : goal.returns-in-Ok-None-clause-fine
returns-in-Ok-None-clause-fine g c = λ i line l e.
    let end = drop_end (lines_of c.args.tail.text.now) (c.lines.number - c.args.tail.before) (c.lines.invariant.left ∙ c.in-Ok-None.ensures.end c.in-Ok-None.field-0-is) in
    c.lines.invariant.fine i line (omega arith) e
