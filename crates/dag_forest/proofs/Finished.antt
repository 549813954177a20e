-- A block's trees are those of its steps.
use Rattle.std.proofs.Common.{◌≡◌, ℕ, zero, suc, true, false, true≢false, List, [], ◌∷◌, length, replicate, sym, ap, ◌∙◌, arith, subst}
use Rattle.std.specs.Prelude.{All}
use Rattle.std.proofs.lemmas.List.{length-replicate}
use Rattle.lcc_base.specs.declared.order.Order.{Order}
use Rattle.op_forest.specs.declared.frame.Slot.{Slot}
use Rattle.forests.specs.Addresses.{Home}
use Rattle.dag_forest.specs.declared.entry.Entry.{Entry}
use Rattle.dag_forest.specs.declared.standing.Standing.{Standing}
use Rattle.dag_forest.specs.declared.uses.Step.{Step}
use Rattle.dag_forest.specs.Tally.{AreFormed, node_count}
use Rattle.dag_forest.specs.Schedules.{Act, Made, Acts, in_turn, used, acts_of}
use Rattle.dag_forest.specs.Emission.{no_tree}
use Rattle.op_forest.specs.Frames.{lowest}
use Rattle.dag_forest.specs.Choice.{IsLow, chosen, rooms_to}
use Rattle.dag_forest.specs.Walks.{steps_of}
use Rattle.dag_forest.specs.Split.{room_of, room_count, split_trees}
use Rattle.dag_forest.specs.Standings.{AreStood, AreLow, nothing, placed, unplaced, stood}
use Rattle.dag_forest.proofs.lemmas.Once.{acts_are_once}
use Rattle.dag_forest.proofs.Ready.{AllLow, low_in_turn, low_used, acts_are_ready}
use Rattle.dag_forest.proofs.Walked.{low_all}
use Rattle.dag_forest.proofs.PlacedLaws.{as_chosen, slots_are, are_stood, length_is, reads_none, none_stood, AreAsChosen}
use Rattle.dag_forest.proofs.Emits.{emits}

steps_low : (k : ℕ) (xs : List Act) → AllLow k xs → All (λ s. IsLow k s.act) (steps_of xs)
steps_low k [] h j d l = absurd (omega (arith, l))
steps_low k (Made n x ∷ as') h zero d l = h.0
steps_low k (Acts x ∷ as') h zero d l = h.0
steps_low k (a ∷ as') h (suc j) d l = steps_low k as' h.1 j d (omega (arith, l))

module _ (entries : List Entry) (formed : AreFormed entries 0) (nodes : ℕ) (named : nodes ≡ node_count entries) where
  turns_low : AllLow nodes (in_turn entries 0 [])
  turns_low = low_in_turn nodes entries 0 [] formed (omega (arith, named)) tt

  pub turns_are_low : (acts : List Act) → acts ≡ in_turn entries 0 [] → All (λ a. IsLow nodes a) acts
  turns_are_low acts e = subst (λ z. All (λ a. IsLow nodes a) z) (sym e) (low_all nodes (in_turn entries 0 []) turns_low)

  acts_low : AllLow nodes (acts_of entries)
  acts_low = low_used nodes (in_turn entries 0 []) turns_low

  pub steps_are : (acts : List Act) (steps : List Step) → acts ≡ in_turn entries 0 [] → steps ≡ steps_of (used acts) → steps ≡ steps_of (acts_of entries)
  steps_are acts steps e is = is ∙ ap (λ z. steps_of (used z)) e

  pub steps_are_low : (steps : List Step) → steps ≡ steps_of (acts_of entries) → AreLow nodes steps
  steps_are_low steps e = subst (AreLow nodes) (sym e) (steps_low nodes (acts_of entries) acts_low)

  unplaced_low : AllLow (length (replicate nodes nothing)) (acts_of entries)
  unplaced_low = subst (λ k. AllLow k (acts_of entries)) (sym (length-replicate nodes nothing)) acts_low

  unplaced_reads : length (replicate nodes false) ≡ length (replicate nodes nothing)
  unplaced_reads = length-replicate nodes false ∙ sym (length-replicate nodes nothing)

  module _ (before : List Slot) (final : List Standing) (steps : List Step) (is_steps : steps ≡ steps_of (acts_of entries)) (is : final ≡ (placed (lowest before) (unplaced nodes) steps).standing) where
    final_is : final ≡ (placed (lowest before) (unplaced nodes) (steps_of (acts_of entries))).standing
    final_is = is ∙ ap (λ z. (placed (lowest before) (unplaced nodes) z).standing) is_steps

    pub final_stood : AreStood final
    final_stood = subst AreStood (sym final_is) (are_stood (lowest before) (acts_of entries) (unplaced nodes) unplaced_low (none_stood nodes))

    pub final_low : AreLow (length final) steps
    final_low = subst (λ k. AreLow k steps) (sym (ap length final_is ∙ length_is (lowest before) (acts_of entries) (unplaced nodes) ∙ length-replicate nodes nothing)) (steps_are_low steps is_steps)

    pub trees_are : (order : Order) (home : Home) → stood final steps ≡ split_trees order home before entries []
    trees_are order home =
        ap (stood final) is_steps
        ∙ sym (emits order home before final final_stood (room_of entries) (acts_of entries) (λ m. false) (λ m. no_tree) (acts_are_ready entries (λ m. false ≡ true) formed)
        (subst (λ z. AreAsChosen (lowest before) z (room_of entries) (acts_of entries)) (sym final_is)
        (as_chosen (lowest before) (acts_of entries) (unplaced nodes) (λ m. false) (room_of entries) (acts_are_once entries) unplaced_low unplaced_reads
        (λ m e. ap (λ r. chosen (acts_of entries) r 0 m) (sym (reads_none nodes)))))
        (λ m e. absurd (true≢false (sym e))))

  pub rooms_are : (before : List Slot) (steps : List Step) (slots : ℕ) → steps ≡ steps_of (acts_of entries) → slots ≡ (placed (lowest before) (unplaced nodes) steps).slots → slots ≡ room_count entries
  rooms_are before steps slots is_steps is =
      is ∙ ap (λ z. (placed (lowest before) (unplaced nodes) z).slots) is_steps ∙ slots_are (lowest before) (acts_of entries) (unplaced nodes) unplaced_low unplaced_reads
      ∙ ap (λ r. rooms_to (acts_of entries) r 0) (reads_none nodes)
