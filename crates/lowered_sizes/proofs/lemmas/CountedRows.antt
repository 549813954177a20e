-- Assignments and changes count nothing beside their operands.
use Rattle.std.specs.Prelude.{Bool, true, false}
use Rattle.lcc_base.specs.declared.order.Order.{Order}
use Rattle.c_types.specs.CType.{CType}
use Rattle.c_meaning.specs.declared.core_expr.Change.{Change}
use Rattle.c_runs.specs.Places.{Spot, is_field, size_of, align_of}
use Rattle.c_rows_agree.specs.Typed.{Typed}
use Rattle.lowered_forms.specs.Accesses.{read, kept, written_by, assigned, copy_root}
use Rattle.lowered_forms.specs.Changes.{assigned_by, changed, new_given, old_given, changed_at}
use Rattle.lowered_forms.specs.Contexts.{Context}
use Rattle.lowered_forms.specs.Lows.{Low, acted}
use Rattle.lowered_forms.specs.Values.{Lowered, placed}
use Rattle.lowered_sizes.specs.Counted.{Counted, Counts}
use Rattle.lowered_sizes.proofs.lemmas.Counting.{ahead, placed_counts}

module _ (R : Counted) (k : Counts R) where
  assigned_counts : (order : Order) (x : Spot) (p v : Typed) (l : Low) → R 0 0 l (assigned order x p v l).low
  assigned_counts order x p v l =
      let u = placed (kept x v) l in
      ahead R k 0 0 l u.low _ (placed_counts R k (kept x v) l) (k.acts (written_by (is_field x) true order x p v) u.low)

  pub assigned_by_counts : (b : Bool) (s : Context) (of : CType) (x : Spot) (p v : Typed) (l : Low) → R 0 0 l (assigned_by b s of x p v l).low
  assigned_by_counts true s of x p v l =
      let r = copy_root (size_of s.unit.tags of) (align_of s.unit.tags of) p v in
      ahead R k 0 0 l (acted r l) _ (k.acts r l) (placed_counts R k p (acted r l))
  assigned_by_counts false s of x p v l = assigned_counts s.order x p v l

  pub new_counts : (order : Order) (x : Spot) (p old new : Typed) (l : Low) → R 0 0 l (new_given order x p old new l).low
  new_counts order x p old new l = assigned_counts order x p new l

  pub old_counts : (order : Order) (x : Spot) (p old new : Typed) (l : Low) → R 0 0 l (old_given order x p old new l).low
  old_counts order x p old new l = k.acts (written_by (is_field x) false order x p new) l

  pub changed_counts : (order : Order) (by : Change) (x : Spot) (give : Order → Spot → Typed → Typed → Typed → Low → Lowered)
      → ((p old new : Typed) (l : Low) → R 0 0 l (give order x p old new l).low) → (p v : Typed) (l : Low) → R 0 0 l (changed_at order by x give p v l).low
  changed_counts order by x give h p v l =
      let old = placed (read order x p) l in
      let new = placed (changed by x old.value v) old.low in
      ahead R k 0 0 l old.low _ (placed_counts R k (read order x p) l)
      (ahead R k 0 0 old.low new.low _ (placed_counts R k (changed by x old.value v) old.low) (h p old.value new.value new.low))
