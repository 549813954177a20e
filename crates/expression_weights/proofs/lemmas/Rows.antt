-- What assignments and changes add beside their operands.
use Rattle.std.specs.Prelude.{◌≤◌, ℕ, suc, ◌+◌, Bool, true, false, refl}
use Rattle.std.proofs.Common.{arith}
use Rattle.lcc_base.specs.declared.order.Order.{Order}
use Rattle.c_types.specs.CType.{CType}
use Rattle.c_meaning.specs.declared.core_expr.Change.{Change}
use Rattle.c_runs.specs.Places.{Spot, is_field, size_of, align_of}
use Rattle.c_rows_agree.specs.Typed.{Typed, as_p}
use Rattle.lowered_forms.specs.Accesses.{read, kept, written, written_by, assigned, copy_root}
use Rattle.lowered_forms.specs.Changes.{assigned_by, changed, new_given, old_given, changed_at}
use Rattle.lowered_forms.specs.Contexts.{Context}
use Rattle.lowered_forms.specs.Lows.{Low, acted}
use Rattle.lowered_forms.specs.Values.{Lowered, placed}
use Rattle.expression_weights.specs.Rises.{Risen, Rises}
use Rattle.expression_weights.proofs.lemmas.Operations.{PricedAt, p_priced, read_priced, kept_priced, written_left, written_right, changed_priced}
use Rattle.expression_weights.proofs.lemmas.Operands.{Comes, priced_comes}

module _ (R : Risen) (k : Rises R) where
  pub written_rises : (shared : Bool) (order : Order) (x : Spot) (p v : Typed) (l : Low) → PricedAt 10 p → PricedAt 10 v → R 48 l (written shared order x p v l)
  written_rises shared order x p v l f g = k.acts 12 35 (written_by (is_field x) shared order x p v) l (written_left (is_field x) shared order x p v f) (written_right (is_field x) shared order x p v f g)

  pub assigned_comes : (order : Order) (x : Spot) (p v : Typed) (l : Low) → PricedAt 10 p → PricedAt 10 v → Comes R k 64 l (assigned order x p v l)
  assigned_comes order x p v l f g =
      let u = placed (kept x v) l in
      let c = priced_comes R k 16 (kept x v) l (kept_priced (is_field x) x v g) in
      record { rises = k.joins 16 48 l u.low _ c.rises (written_rises true order x p v u.low f g); value = c.value }

  pub copied_rises : (size align : ℕ) (to from : Typed) (l : Low) → PricedAt 10 to → PricedAt 10 from → R 26 l (acted (copy_root size align to from) l)
  copied_rises size align to from l f g = k.acts 12 13 (copy_root size align to from) l (p_priced to f) (refl, omega arith, 12, p_priced from g, omega arith)

  pub assigned_by_comes : (b : Bool) (s : Context) (of : CType) (x : Spot) (p v : Typed) (l : Low) → PricedAt 10 p → PricedAt 10 v → Comes R k 64 l (assigned_by b s of x p v l)
  assigned_by_comes true s of x p v l f g =
      let r = copy_root (size_of s.unit.tags of) (align_of s.unit.tags of) p v in
      let c = priced_comes R k 10 p (acted r l) f in
      record {
        rises = k.weakens (26 + 10) 64 l _ (omega arith) (k.joins 26 10 l (acted r l) _ (copied_rises (size_of s.unit.tags of) (align_of s.unit.tags of) p v l f g) c.rises);
        value = c.value;
      }
  assigned_by_comes false s of x p v l f g = assigned_comes s.order x p v l f g

  pub new_comes : (order : Order) (x : Spot) (p old new : Typed) (l : Low) → PricedAt 10 p → PricedAt 10 old → PricedAt 10 new → Comes R k 64 l (new_given order x p old new l)
  new_comes order x p old new l f o n = assigned_comes order x p new l f n

  pub old_comes : (order : Order) (x : Spot) (p old new : Typed) (l : Low) → PricedAt 10 p → PricedAt 10 old → PricedAt 10 new → Comes R k 64 l (old_given order x p old new l)
  old_comes order x p old new l f o n = record { rises = k.weakens 48 64 l _ (omega arith) (written_rises false order x p new l f n); value = o }

  pub changed_comes : (order : Order) (by : Change) (x : Spot) (give : Order → Spot → Typed → Typed → Typed → Low → Lowered)
      → ((p old new : Typed) (l : Low) → PricedAt 10 p → PricedAt 10 old → PricedAt 10 new → Comes R k 64 l (give order x p old new l)) → (p v : Typed) (l : Low) → PricedAt 10 p → PricedAt 10 v
      → Comes R k 110 l (changed_at order by x give p v l)
  changed_comes order by x give h p v l f g =
      let old = placed (read order x p) l in
      let oc = priced_comes R k 18 (read order x p) l (read_priced order x p f) in
      let new = placed (changed by x old.value v) old.low in
      let nc = priced_comes R k 28 (changed by x old.value v) old.low (changed_priced by x old.value v oc.value g) in
      let c = h p old.value new.value new.low f oc.value nc.value in
      record { rises = k.joins 18 (28 + 64) l old.low _ oc.rises (k.joins 28 64 old.low new.low _ nc.rises c.rises); value = c.value }
