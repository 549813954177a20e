use Rattle.std.proofs.Common.{◌≡◌, ◌∙◌, ap, ◌++◌, ◌∷◌, [], arith}
use Rattle.std.specs.Map.Iter.{deref_pair}
use Rattle.std.proofs.lemmas.List.{length-append}
use Rattle.std.proofs.lemmas.Map.Iter.{rest_more}
use Rattle.asm_text.specs.Entries.{labels_in}
use Rattle.asm_text.specs.Made.{label_at}
use Rattle.asm_text.specs.Paired.{paired}
use Rattle.asm_text.proofs.Entries.{Labelled, labels_step}
use Rattle.asm_text.proofs.labels.Labels.into_table.Goals as goal

pub loop-name-preserved : goal.loop-name-preserved
loop-name-preserved c =
    let l = c.loop-name in
    let e : Labelled = (c.in-Some.name.now, c.in-Some.place.now) in
    let b : l.name-iterator ≡ e ∷ c.next.new.self = rest_more deref_pair l.name-iterator c.next.new.self c.next.result (c.in-Some.name, c.in-Some.place) c.in-Some.is c.next.ensures.steps in
    record {
      same_length = grind (arith, length-append);
      labels = ap (λ ns. paired label_at c.push-in-loop-name.new.self.items ns ++ labels_in c.next.new.self) c.in_ok-push.ensures.ok ∙ ap (λ ps. paired label_at ps (l.names ++ c.in-Some.name.now.now ∷ []) ++ labels_in c.next.new.self) c.in_ok-push-2.ensures.items ∙ labels_step l.places.items l.names e l.name-iterator c.next.new.self l.invariant.same_length b ∙ l.invariant.labels;
    }
