use Rattle.std.proofs.Common.{◌≡◌, ◌∙◌, List, Option, Some, IsTrue, false, refl, sym, ap, subst}
use Rattle.std.specs.Prelude.{slice_set}
use Rattle.place_queue.specs.declared.key.Key.{Key}
use Rattle.lburg_tables.specs.Row.{Relaxed}
use Rattle.lburg_tables.specs.RowOf.{row_of, key_of}
use Rattle.lburg_tables.specs.Waits.{Matches}
use Rattle.lburg_tables.proofs.lemmas.RowLaws.{row_within}
use Rattle.lburg_tables.proofs.Waiting.{relaxed_taken, relaxed_left, match_offered}
use Rattle.lburg_tables.proofs.closing.relax.Goals as goal

pub returns-then-offer-clause-relaxed : goal.returns-then-offer-clause-relaxed
returns-then-offer-clause-relaxed c =
    let row = row_of c.args.row.now in
    let after = row_of c.offer.new.row in
    let queue = c.args.queue.now in
    let waits : c.put.new.self ≡ slice_set queue c.args.n (key_of (Some c.args.new)) = c.put.ensures ∙ ap (slice_set queue c.args.n) c.key.ensures in
    let Waiting : List (Option Key) → Type 0 = λ q. Relaxed row queue c.args.n c.args.new after q in
    subst Waiting (sym waits) (relaxed_taken row c.args.n c.args.new queue after (c.if-offer.ensures.stored.0 refl) c.if-offer.ensures.offered)

pub returns-then-offer-clause-matches : goal.returns-then-offer-clause-matches
returns-then-offer-clause-matches c =
    let row = row_of c.args.row.now in
    let after = row_of c.offer.new.row in
    let queue = c.args.queue.now in
    let waits : c.put.new.self ≡ slice_set queue c.args.n (key_of (Some c.args.new)) = c.put.ensures ∙ ap (slice_set queue c.args.n) c.key.ensures in
    let Waiting : List (Option Key) → Type 0 = λ q. Matches after q in
    subst Waiting (sym waits) (match_offered row c.args.n c.args.new queue after (row_within c.args.row.now c.args.n c.requires.within) c.requires.matches (c.if-offer.ensures.stored.0 refl) c.if-offer.ensures.offered)

pub returns-else-offer-clause-relaxed : goal.returns-else-offer-clause-relaxed
returns-else-offer-clause-relaxed c =
    relaxed_left (row_of c.args.row.now) c.args.n c.args.new c.args.queue.now (row_of c.offer.new.row)
    (λ beats. let no : IsTrue false = c.if-offer.ensures.stored.1 beats in cc)
    c.if-offer.ensures.offered
