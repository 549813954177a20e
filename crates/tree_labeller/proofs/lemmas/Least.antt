-- No derivation is less than the cell.
use Rattle.std.proofs.Common.{◌≡◌, ℕ, ◌+◌, Option, Some, None, List, refl, sym, ap, ◌∙◌, arith}
use Rattle.std.specs.Prelude.{◌==◌, if◌then◌else◌}
use Rattle.std.proofs.lemmas.Bool.{eq-eqb}
use Rattle.lburg_tables.specs.declared.cell.Cell.{Cell}
use Rattle.place_queue.specs.declared.key.Key.{Key}
use Rattle.tree_labeller.specs.Rows.{Row}
use Rattle.lburg_model.specs.declared.rule.Rule.{Rule}
use Rattle.lburg_tables.specs.Row.{Leq, Leq3}
use Rattle.lburg_model.specs.Tree.{MTree, nodes}
use Rattle.lburg_model.specs.Pattern.{MPattern}
use Rattle.tree_labeller.specs.Indexed.{Derivation, Uses, Parts, AtHole, AtLeaf, AtOne, AtTwo, cost, costs, count, counts}
use Rattle.tree_labeller.specs.Labelled.{nothing_used, cell, total, Labelled}
use Rattle.lburg_tables.specs.RowOf.{key_of}
use Rattle.tree_labeller.specs.Totals.{sound_of}

-- the number of the rule at the head
abbrev pub head : {d : List Rule} {n : ℕ} {t : MTree} → Derivation d n t → ℕ
head (Uses i r at left parts) = i + 1

fits : (op : ℕ) (x y : Option Key) → (if op == op then x else y) ≡ x
fits op x y = rw (eq-eqb op op refl) refl

module _ (rows : List Row) (d : List Rule) (w : ℕ) where
  mutual
    pub least_cell : {n : ℕ} {t : MTree} (e : Derivation d n t) (at : ℕ) → Labelled rows d w at t → (c : Cell) × (cell rows at n ≡ Some c) × Leq3 c.cost c.count c.rule (cost e) (count e) (head e)
    least_cell {n} {t} (Uses i r is left parts) at f =
        let a = least_total parts at f in
        let b = (sound_of rows d w at t f).fair.closed i r a.0 is a.1 in
        (b.0, ap (cell rows at) (sym left) ∙ b.1, (omega arith, λ e. omega arith, λ e f. omega arith))

    pub least_total : {p : MPattern} {t : MTree} (x : Parts d p t) (at : ℕ) → Labelled rows d w at t → (k : Key) × (total rows p t at ≡ Some k) × Leq k.cost k.count (costs x) (counts x)
    least_total (AtHole e) at f =
        let a = least_cell e at f in
        (record { cost = a.0.cost; count = a.0.count }, ap key_of a.1, (a.2.0, a.2.1))
    least_total (AtLeaf {op = op}) at f = (nothing_used, fits op (Some nothing_used) None, (omega arith, λ e. omega arith))
    least_total (AtOne {op = op} {p = p} {a = a} x) at f =
        let r = least_total x (at + 1) f.1 in
        (r.0, fits op _ None ∙ r.1, r.2)
    least_total (AtTwo {op = op} {a = a} x y) at f =
        let r = least_total x (at + 1) f.1.0 in
        let s = least_total y (at + 1 + nodes a) f.1.1 in
        (record { cost = r.0.cost + s.0.cost; count = r.0.count + s.0.count }, fits op _ None ∙ rw (r.1, s.1) refl, (omega arith, λ e. omega arith))
