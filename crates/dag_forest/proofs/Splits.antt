-- The split of a block.
use Rattle.std.proofs.Common.{◌≡◌, ◌++◌, ℕ, ◌+◌, true, false, Option, Some, None, refl, [], true≢false, sym, ap, ◌∙◌, length, List, subst, arith}
use Rattle.lcc_base.specs.declared.order.Order.{Order}
use Rattle.op_forest.specs.declared.frame.Slot.{Slot}
use Rattle.op_forest.specs.Frames.{IsFrame, lowest}
use Rattle.forests.specs.Addresses.{Home, slot_place}
use Rattle.forests.specs.Bodies.{Setting}
use Rattle.dag_forest.specs.declared.entry.Entry.{Entry}
use Rattle.dag_forest.specs.Tally.{AreFormed}
use Rattle.dag_forest.specs.Schedules.{acts_of, in_turn}
use Rattle.dag_forest.specs.Meaning.{Temporary, IsTemporary}
use Rattle.dag_forest.specs.Emission.{Lost, Distinct, no_tree}
use Rattle.dag_forest.specs.Choice.{Room}
use Rattle.dag_forest.specs.NewSlots.{offset_below}
use Rattle.dag_forest.specs.Split.{Split, temporary_of, kept_by, keeps_of, room_of, room_count, slot_name, split_frame}
use Rattle.dag_forest.proofs.lemmas.Once.{acts_are_once}
use Rattle.dag_forest.proofs.Ready.{acts_are_ready}
use Rattle.dag_forest.proofs.lemmas.Chosen.{apart, between}
use Rattle.dag_forest.proofs.Fits.{are_used, holds_from}
use Rattle.dag_forest.proofs.lemmas.Frames.{place_of}
use Rattle.dag_forest.specs.Places.{Plain}
use Rattle.dag_forest.proofs.SlotLaws.{is_temporary}
use Rattle.dag_forest.proofs.Weights.{erased_are, computed_once}
use Rattle.dag_forest.proofs.Thrift.{thrifty, sparing}

-- of which room a temporary is
kept_is : (f : Room → Temporary) (o : Option Room) (t : Temporary) → kept_by f o ≡ Some t → (r : Room) × (o ≡ Some r) × (f r ≡ t)
kept_is f None t e = let no : ⊥ = cc in absurd no
kept_is f (Some r) t e = let q : f r ≡ t = cc in (r, refl, q)

distinct_of : (order : Order) (home : Home) (before : List Slot) (entries : List Entry) → Distinct (keeps_of order home before entries)
distinct_of order home before entries m p t u a b e =
    let x = kept_is (temporary_of order home before) (room_of entries m) t a in
    let y = kept_is (temporary_of order home before) (room_of entries p) u b in
    let same : home.place + (length before + x.0.number) ≡ home.place + (length before + y.0.number) = ap (λ (v : Temporary). v.object) x.2 ∙ e ∙ sym (ap (λ (v : Temporary). v.object) y.2) in
    apart (acts_of entries) (λ q. false) 0 m p x.0 y.0 x.1 y.1 (omega (arith, same))

temporary : (s : Setting) (before more : List Slot) → IsFrame before → (entries : List Entry) → s.environment.home.slots ≡ split_frame before entries ++ more → (m : ℕ) (t : Temporary) → keeps_of s.environment.order s.environment.home before entries m ≡ Some t → IsTemporary s t
temporary s before more frame entries is m t e =
    let x = kept_is (temporary_of s.environment.order s.environment.home before) (room_of entries m) t e in
    let l = (between (acts_of entries) (λ q. false) 0 m x.0 x.1).1 in
    subst (IsTemporary s) x.2
    (is_temporary s (slot_name s.environment.home (length before + x.0.number)) (offset_below (lowest before) x.0.number)
    (ap (λ z. slot_place s.environment.home.place s.environment.home.made z (offset_below (lowest before) x.0.number)) is ∙ place_of s.environment.home.place s.environment.home.made before more frame (room_count entries) x.0.number l)
    x.0.kind)

pub split_is : (before : List Slot) → IsFrame before → (entries : List Entry) → AreFormed entries 0 → Split before entries
split_is before frame entries formed = record {
  distinct = λ order home. distinct_of order home before entries;
  holds = λ order home. holds_from (temporary_of order home before) (acts_of entries) (λ m. false) (λ m. Lost) (λ m. false) 0 (room_of entries) (λ m e. refl) (acts_are_once entries) (acts_are_ready entries (λ m. false ≡ true) formed) (are_used (in_turn entries 0 [])) (λ m e. absurd (true≢false (sym e)));
  temporaries = λ s more is. temporary s before more frame entries is;
  are = λ order home rest. sym (erased_are (keeps_of order home before entries) (acts_of entries) (λ m. Plain no_tree) rest);
  once = λ order home m. computed_once (keeps_of order home before entries) (acts_of entries) (λ q. false) no_tree m (acts_are_once entries) (thrifty (temporary_of order home before) (acts_of entries) (λ q. false) (λ q. false) 0 (room_of entries) (λ q e. refl) (acts_are_once entries) (are_used (in_turn entries 0 [])));
  sparing = sparing (acts_of entries) (λ q. false) (λ q. false) 0 (room_of entries) (λ q e. refl) (acts_are_once entries);
}
