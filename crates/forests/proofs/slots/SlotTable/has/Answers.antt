use Rattle.std.proofs.Common.{rules, ◌≡◌, ◌≤◌, ◌<◌, ℕ, zero, suc, sym, subst, refl, arith, length, ◌<ℤ◌, to_z, of_z, w64}
use Rattle.std.specs.List.Sorted.{IsPartitionedBy, IsPartitionPoint}
use Rattle.std.specs.Prelude.{true, false}
use Rattle.std.proofs.lemmas.Int.{to_z-of_z}
use Rattle.std.proofs.lemmas.List.Sorted.{IsPartitionPoint-from_clause}
use Rattle.forests.specs.WellFormed.{LiesInOne}
use Rattle.forests.proofs.Reaches.{starts_by, parted, none_started, last_started}
use Rattle.forests.proofs.slots.SlotTable.has.Goals as goal

above_none : (k : ℕ) → (k ≡ 0 → ⊥) → 0 < k
above_none zero h = absurd (h refl)
above_none (suc k) h = omega arith

pub returns-then-started-eq0 : goal.returns-then-started-eq0
returns-then-started-eq0 c =
    let slots = c.self.inside.slots.now in
    let table = c.self.inside.reaches.items in
    let z = c.args.offset in
    let t = c.self.invariant in
    let point = IsPartitionPoint-from_clause (starts_by z) _ _ c.partition_point-started.ensures.partitioned (subst (λ l. IsPartitionedBy (starts_by z) l) (sym c.deref.ensures.value) (parted slots table z t)) (λ a r q k. search rules) in
    let own = subst (λ l. IsPartitionPoint (λ r. starts_by z r ≡ true) (λ r. starts_by z r ≡ false) l c.partition_point-started.result) c.deref.ensures.value point in
    (λ h. absurd (let no : ⊥ = cc in no), λ h. absurd (none_started slots table z c.partition_point-started.result t own c.if-started-eq0.true (subst (λ l. LiesInOne l z) (sym c.self.view_is) h)))

pub returns : goal.returns
returns c =
    let slots = c.self.inside.slots.now in
    let table = c.self.inside.reaches.items in
    let z = c.args.offset in
    let t = c.self.invariant in
    let k = c.partition_point-started.result in
    let point = IsPartitionPoint-from_clause (starts_by z) _ _ c.partition_point-started.ensures.partitioned (subst (λ l. IsPartitionedBy (starts_by z) l) (sym c.deref.ensures.value) (parted slots table z t)) (λ a r q k. search rules) in
    let own = subst (λ l. IsPartitionPoint (λ r. starts_by z r ≡ true) (λ r. starts_by z r ≡ false) l k) c.deref.ensures.value point in
    let within : k ≤ length table = subst (λ l. k ≤ length l) c.deref.ensures.value c.partition_point-started.ensures.bound in
    let last = last_started slots table z k c.index.result.now t own (above_none k c.if-started-eq0.false) within c.index.ensures in
    let same : to_z w64 (of_z w64 z) ≡ z = to_z-of_z w64 z c.ranges.offset in
    let end = c.index.result.now.end in (
      λ h. subst (λ l. LiesInOne l z) c.self.view_is (last.0 (subst (λ x. x <ℤ end) same (c.ends_behind.ensures.0 h))),
      λ h. c.ends_behind.ensures.1 (subst (λ x. x <ℤ end) (sym same) (last.1 (subst (λ l. LiesInOne l z) (sym c.self.view_is) h))),
    )
