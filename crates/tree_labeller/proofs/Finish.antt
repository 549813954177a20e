-- The rows of a tree, from those of its subtrees and its own.
use Rattle.std.proofs.Common.{◌≡◌, ◌≢◌, ℕ, zero, suc, ◌+◌, ◌-◌, ◌*◌, ◌<◌, ◌≤◌, Option, Some, None, List, [], ◌∷◌, length, refl, sym, ap, ◌∙◌, arith, subst, inl, ◌⊎◌, ⊎_elim, length-set}
use Rattle.std.specs.Prelude.{slice_get, slice_set, ◌==◌, if◌then◌else◌, slice_index_or}
use Rattle.std.proofs.lemmas.Option.{slice_get-get_or}
use Rattle.std.proofs.lemmas.List.{get_or-set_same}
use Rattle.lburg_tables.specs.declared.cell.Cell.{Cell}
use Rattle.place_queue.specs.declared.key.Key.{Key}
use Rattle.tree_labeller.specs.Rows.{Row}
use Rattle.lburg_model.specs.declared.rule.Rule.{Rule}
use Rattle.lburg_model.specs.declared.pattern.Pattern.{Pattern}
use Rattle.lburg_model.specs.declared.pattern.Pattern.{Nonterminal, Leaf, Unary', Binary'}
use Rattle.lburg_tables.specs.Offers.{Offers}
use Rattle.lburg_tables.specs.Row.{CellAt, Leq3, Offered, Placed, Declined, Closed, AreCheap, IsCheap, Everywhere, Among}
use Rattle.lburg_model.specs.Tree.{MTree, TLeaf, TOne, TTwo, nodes, kids_of, value_of}
use Rattle.lburg_model.specs.Range.{IsMet}
use Rattle.lburg_model.specs.Pattern.{MPattern, PHole, PLeaf, POne, PTwo, pattern_of}
use Rattle.tree_labeller.specs.Labelled.{add, nothing_used, cells_of, end_of, cell, total, area, Sound, Labelled, KidsLabelled, base_total, IsRuleTotal, made_by, Started, Filled}
use Rattle.lburg_tables.specs.RowOf.{key_of}
use Rattle.tree_labeller.specs.Totals.{cell_of, fitted, added, sound_of}
use Rattle.tree_labeller.proofs.lemmas.Totals.{nodes_pos}
use Rattle.lburg_tables.proofs.lemmas.RowLaws.{Leq_cells, leq_trans, leq_refl, stored, write_lowers, cell_after, among_more, among_none, among_all}

abbrev pub Agree : List Row → List Row → ℕ → ℕ → Type 0
Agree rows rows' lo hi = (i : ℕ) → lo ≤ i → i < hi → slice_get rows' i ≡ slice_get rows i

module _ (rows rows' : List Row) where
  cell_agree : (at : ℕ) → slice_get rows' at ≡ slice_get rows at → (n : ℕ) → cell rows' at n ≡ cell rows at n
  cell_agree at e n = ap (λ (o : Option Row). slice_index_or (cells_of o) n None) e

  total_agree : (p : MPattern) (t : MTree) (at : ℕ) → Agree rows rows' at (at + nodes t) → total rows' p t at ≡ total rows p t at
  total_agree (PHole n) t at g = let a = nodes_pos t in ap key_of (cell_agree at (g at (omega arith) (omega arith)) n)
  total_agree (PLeaf op) (TLeaf op' v) at g = refl
  total_agree (PLeaf op) (TOne op' v a) at g = refl
  total_agree (PLeaf op) (TTwo op' v a b) at g = refl
  total_agree (POne op p) (TLeaf op' v) at g = refl
  total_agree (POne op p) (TOne op' v a) at g = ap (λ (x : Option Key). if op == op' then x else None) (total_agree p a (at + 1) (λ i l h. g i (omega arith) (omega arith)))
  total_agree (POne op p) (TTwo op' v a b) at g = refl
  total_agree (PTwo op p q) (TLeaf op' v) at g = refl
  total_agree (PTwo op p q) (TOne op' v a) at g = refl
  total_agree (PTwo op p q) (TTwo op' v a b) at g =
      let x = total_agree p a (at + 1) (λ i l h. g i (omega arith) (omega arith)) in
      let y = total_agree q b (at + 1 + nodes a) (λ i l h. g i (omega arith) (omega arith)) in
      ap (λ (z : Option Key). if op == op' then add z (total rows' q b (at + 1 + nodes a)) else None) x
      ∙ ap (λ (z : Option Key). if op == op' then add (total rows p a (at + 1)) z else None) y

  pub base_agree : (p : MPattern) (t : MTree) (at : ℕ) → Agree rows rows' (at + 1) (at + nodes t) → base_total rows' p t at ≡ base_total rows p t at
  base_agree (PHole n) t at g = refl
  base_agree (PLeaf op) (TLeaf op' v) at g = refl
  base_agree (PLeaf op) (TOne op' v a) at g = refl
  base_agree (PLeaf op) (TTwo op' v a b) at g = refl
  base_agree (POne op p) (TLeaf op' v) at g = refl
  base_agree (POne op p) (TOne op' v a) at g = ap (λ (x : Option Key). if op == op' then x else None) (total_agree p a (at + 1) (λ i l h. g i (omega arith) (omega arith)))
  base_agree (POne op p) (TTwo op' v a b) at g = refl
  base_agree (PTwo op p q) (TLeaf op' v) at g = refl
  base_agree (PTwo op p q) (TOne op' v a) at g = refl
  base_agree (PTwo op p q) (TTwo op' v a b) at g =
      let x = total_agree p a (at + 1) (λ i l h. g i (omega arith) (omega arith)) in
      let y = total_agree q b (at + 1 + nodes a) (λ i l h. g i (omega arith) (omega arith)) in
      ap (λ (z : Option Key). if op == op' then add z (total rows' q b (at + 1 + nodes a)) else None) x
      ∙ ap (λ (z : Option Key). if op == op' then add (total rows p a (at + 1)) z else None) y

  module _ (d : List Rule) (w : ℕ) (same : length rows' ≡ length rows) where
    sound_agree : (t : MTree) (at : ℕ) → Agree rows rows' at (at + nodes t) → Sound rows d w at t → Sound rows' d w at t
    sound_agree t at g s =
        let pos = nodes_pos t in
        let here = g at (omega arith) (omega arith) in
        record {
          fair = record {
            made = λ n c e. let (i, r, k, is, left, tot, x, y, z) = s.fair.made n c (sym (cell_agree at here n) ∙ e) in (i, r, k, is, left, total_agree (pattern_of r.pattern) t at g ∙ tot, x, y, z);
            closed = λ i r k is tot. let a = s.fair.closed i r k is (sym (total_agree (pattern_of r.pattern) t at g) ∙ tot) in (a.0, cell_agree at here r.left ∙ a.1, a.2);
          };
          end = ap end_of here ∙ s.end;
          within = let a = s.within in omega arith;
          short = λ n c e. s.short n c (sym (cell_agree at here n) ∙ e);
          cheap = λ n c e. s.cheap n c (sym (cell_agree at here n) ∙ e);
        }

    pub labelled_agree : (t : MTree) (at : ℕ) → Agree rows rows' at (at + nodes t) → Labelled rows d w at t → Labelled rows' d w at t
    labelled_agree (TLeaf op v) at g l = sound_agree (TLeaf op v) at g l
    labelled_agree (TOne op v a) at g l = (sound_agree (TOne op v a) at g l.0, labelled_agree a (at + 1) (λ i l h. g i (omega arith) (omega arith)) l.1)
    labelled_agree (TTwo op v a b) at g l = (
      sound_agree (TTwo op v a b) at g l.0,
      (
        labelled_agree a (at + 1) (λ i l h. g i (omega arith) (omega arith)) l.1.0,
        labelled_agree b (at + 1 + nodes a) (λ i l h. g i (omega arith) (omega arith)) l.1.1,
      ),
    )

    pub with_own : (t : MTree) (at : ℕ) → Agree rows rows' (at + 1) (at + nodes t) → KidsLabelled rows d w at t → Sound rows' d w at t → Labelled rows' d w at t
    with_own (TLeaf op v) at g l s = s
    with_own (TOne op v a) at g l s = (s, labelled_agree a (at + 1) (λ i l h. g i (omega arith) (omega arith)) l)
    with_own (TTwo op v a b) at g l s = (
      s,
      (
        labelled_agree a (at + 1) (λ i l h. g i (omega arith) (omega arith)) l.0,
        labelled_agree b (at + 1 + nodes a) (λ i l h. g i (omega arith) (omega arith)) l.1,
      ),
    )

-- what is known of a total
module _ (rows : List Row) (d : List Rule) (w : ℕ) where
  total_bounded : (p : MPattern) (t : MTree) (at : ℕ) (k : Key) → Labelled rows d w at t → total rows p t at ≡ Some k → (k.count ≤ area w t) × (k.cost ≤ 32768 * k.count)
  total_bounded (PHole n) t at k l e =
      let s = sound_of rows d w at t l in
      let a = cell_of (cell rows at n) k e in
      let b = s.short n a.0 a.1 in
      let c = s.cheap n a.0 a.1 in
      (omega arith, omega arith)
  total_bounded (PLeaf op) (TLeaf op' v) at k l e =
      let a = fitted op op' (Some nothing_used) k e in
      let f : nothing_used ≡ k = cc in
      let g = ap (λ (x : Key). x.cost) f in
      let h = ap (λ (x : Key). x.count) f in
      (omega arith, omega arith)
  total_bounded (PLeaf op) (TOne op' v a) at k l e = cc
  total_bounded (PLeaf op) (TTwo op' v a b) at k l e = cc
  total_bounded (POne op p) (TLeaf op' v) at k l e = cc
  total_bounded (POne op p) (TOne op' v a) at k l e = let b = total_bounded p a (at + 1) k l.1 (fitted op op' _ k e).1 in (omega arith, b.1)
  total_bounded (POne op p) (TTwo op' v a b) at k l e = cc
  total_bounded (PTwo op p q) (TLeaf op' v) at k l e = cc
  total_bounded (PTwo op p q) (TOne op' v a) at k l e = cc
  total_bounded (PTwo op p q) (TTwo op' v a b) at k l e =
      let (x, y, xe, ye, costs, counts) = added _ _ k (fitted op op' _ k e).1 in
      let f = total_bounded p a (at + 1) x l.1.0 xe in
      let g = total_bounded q b (at + 1 + nodes a) y l.1.1 ye in
      (omega arith, omega arith)

  pub base_bounded : (p : MPattern) (t : MTree) (at : ℕ) (k : Key) → KidsLabelled rows d w at t → base_total rows p t at ≡ Some k → (k.count + w ≤ area w t) × (k.cost ≤ 32768 * k.count)
  base_bounded (PHole n) t at k l e = cc
  base_bounded (PLeaf op) (TLeaf op' v) at k l e =
      let a = fitted op op' (Some nothing_used) k e in
      let f : nothing_used ≡ k = cc in
      let g = ap (λ (x : Key). x.cost) f in
      let h = ap (λ (x : Key). x.count) f in
      (omega arith, omega arith)
  base_bounded (PLeaf op) (TOne op' v a) at k l e = cc
  base_bounded (PLeaf op) (TTwo op' v a b) at k l e = cc
  base_bounded (POne op p) (TLeaf op' v) at k l e = cc
  base_bounded (POne op p) (TOne op' v a) at k l e = let b = total_bounded p a (at + 1) k l (fitted op op' _ k e).1 in (omega arith, b.1)
  base_bounded (POne op p) (TTwo op' v a b) at k l e = cc
  base_bounded (PTwo op p q) (TLeaf op' v) at k l e = cc
  base_bounded (PTwo op p q) (TOne op' v a) at k l e = cc
  base_bounded (PTwo op p q) (TTwo op' v a b) at k l e =
      let (x, y, xe, ye, costs, counts) = added _ _ k (fitted op op' _ k e).1 in
      let f = total_bounded p a (at + 1) x l.0 xe in
      let g = total_bounded q b (at + 1 + nodes a) y l.1 ye in
      (omega arith, omega arith)

pub base_is_total : (rows : List Row) (p : MPattern) (t : MTree) (at : ℕ) (k : Key) → base_total rows p t at ≡ Some k → total rows p t at ≡ Some k
base_is_total rows (PHole n) t at k e = cc
base_is_total rows (PLeaf op) t at k e = e
base_is_total rows (POne op p) t at k e = e
base_is_total rows (PTwo op p q) t at k e = e

pub area_more : (w : ℕ) (t : MTree) → w ≤ area w t
area_more w (TLeaf op v) = omega arith
area_more w (TOne op v a) = omega arith
area_more w (TTwo op v a b) = omega arith

module _ (rows : List Row) (d : List Rule) (w at : ℕ) (t : MTree) (cells0 : List (Option Cell)) (kids : KidsLabelled rows d w at t) (started : Started rows d at t cells0 Everywhere) where
  pub bound_short : (n : ℕ) (b : Cell) → CellAt cells0 n b → b.count ≤ area w t + 1 - w
  bound_short n b atb =
      let (j, r, k, is, left, tot, eq) = started.made n b atb in
      let f = base_bounded rows d w (pattern_of r.pattern) t at k kids tot in
      let g = ap (λ (z : Cell). z.count) eq in
      omega arith

  pub bound_cheap : AreCheap d → IsCheap cells0
  bound_cheap cheap n b atb =
      let (j, r, k, is, left, tot, eq) = started.made n b atb in
      let f = base_bounded rows d w (pattern_of r.pattern) t at k kids tot in
      let g = ap (λ (z : Cell). z.count) eq in
      let h = ap (λ (z : Cell). z.cost) eq in
      let m = cheap j r is.0 in
      omega arith

  pub bound_named : (bound : ℕ) → ((i : ℕ) (r : Rule) → slice_get d i ≡ Some r → r.left < bound) → (n : ℕ) (b : Cell) → CellAt cells0 n b → n < bound
  bound_named bound named n b atb = let (j, r, k, is, left, tot, eq) = started.made n b atb in let a = named j r is.0 in omega arith

-- a write leaves the other rows
pub other_row : (rows : List Row) (at : ℕ) (row : Row) (i : ℕ) → i ≢ at → slice_get (slice_set rows at row) i ≡ slice_get rows i
other_row [] at row i ne = refl
other_row (x ∷ xs) zero row zero ne = absurd (ne refl)
other_row (x ∷ xs) zero row (suc i) ne = refl
other_row (x ∷ xs) (suc at) row zero ne = refl
other_row (x ∷ xs) (suc at) row (suc i) ne = other_row xs at row i (λ e. ne (ap suc e))

module _ (rows rows' : List Row) (d : List Rule) (w at : ℕ) (t : MTree) (cells0 cells : List (Option Cell)) (row : Row)
    (kids : KidsLabelled rows d w at t) (started : Started rows d at t cells0 Everywhere) (closed : Closed d (value_of t) cells0 cells)
    (here : slice_get rows' at ≡ Some row) (is_cells : row.cells ≡ cells) (is_end : row.end ≡ at + nodes t)
    (others : (i : ℕ) → i ≢ at → slice_get rows' i ≡ slice_get rows i) (same : length rows' ≡ length rows)
    (cheap : AreCheap d) (wide : length cells0 ≡ w) where
  agree : Agree rows rows' (at + 1) (at + nodes t)
  agree i l h = others i (λ e. omega arith)

  own_cell : (n : ℕ) → cell rows' at n ≡ slice_index_or cells n None
  own_cell n = ap (λ (o : Option Row). slice_index_or (cells_of o) n None) here ∙ ap (λ (l : List (Option Cell)). slice_index_or l n None) is_cells

  made : (n : ℕ) (c : Cell) → cell rows' at n ≡ Some c → (i : ℕ) × (r : Rule) × (k : Key) × Offers d (value_of t) i r × (r.left ≡ n) × (total rows' (pattern_of r.pattern) t at ≡ Some k) × (c.rule ≡ i + 1) × (c.cost ≡ r.cost + k.cost) × (c.count ≡ 1 + k.count)
  made n c e =
      ⊎_elim
      (λ (b, atb, alike).
      let (j, r, k, is, left, tot, eq) = started.made n b atb in
      let f1 = ap (λ (z : Cell). z.cost) eq in
      let f2 = ap (λ (z : Cell). z.count) eq in
      let f3 = ap (λ (z : Cell). z.rule) eq in
      (j, r, k, is, left, base_is_total rows' (pattern_of r.pattern) t at k (base_agree rows rows' (pattern_of r.pattern) t at agree ∙ tot), alike.2 ∙ f3, omega arith, omega arith))
      (λ f.
      let b = f.cell in
      let key : Key = record { cost = b.cost; count = b.count } in
      let tot = ap (λ (q : Pattern). total rows' (pattern_of q) t at) f.chain.1 ∙ ap key_of (own_cell f.from ∙ f.at) in
      let same = f.same in
      (f.place, f.rule, key, f.chain.0, f.left, tot, same.2, omega arith, omega arith))
      (closed.made n c (sym (own_cell n) ∙ e))

  from_base : (i : ℕ) (r : Rule) (k : Key) → Offers d (value_of t) i r → base_total rows' (pattern_of r.pattern) t at ≡ Some k → (c : Cell) × (cell rows' at r.left ≡ Some c) × Leq3 c.cost c.count c.rule (r.cost + k.cost) (1 + k.count) (i + 1)
  from_base i r k is tot =
      let a = started.closed i r k tt is (sym (base_agree rows rows' (pattern_of r.pattern) t at agree) ∙ tot) in
      let b = closed.lower r.left a.0 a.1 in
      (b.0, own_cell r.left ∙ b.1, (omega arith, λ e. omega arith, λ e f. omega arith))

  least : (q : Pattern) (i : ℕ) (r : Rule) (k : Key) → r.pattern ≡ q → Offers d (value_of t) i r → total rows' (pattern_of q) t at ≡ Some k → (c : Cell) × (cell rows' at r.left ≡ Some c) × Leq3 c.cost c.count c.rule (r.cost + k.cost) (1 + k.count) (i + 1)
  least (Nonterminal m) i r k p is tot =
      let a = cell_of (cell rows' at m) k tot in
      let b = closed.closed i r m a.0 (is, p) (sym (own_cell m) ∙ a.1) in
      let a2 = a.2 in
      let a3 = a.3 in
      (b.0, own_cell r.left ∙ b.1, (omega arith, λ e. omega arith, λ e f. omega arith))
  least (Leaf op) i r k p is tot = from_base i r k is (ap (λ (q : Pattern). base_total rows' (pattern_of q) t at) p ∙ tot)
  least (Unary' op x a) i r k p is tot = from_base i r k is (ap (λ (q : Pattern). base_total rows' (pattern_of q) t at) p ∙ tot)
  least (Binary' op x a y b) i r k p is tot = from_base i r k is (ap (λ (q : Pattern). base_total rows' (pattern_of q) t at) p ∙ tot)

  started_short : (n : ℕ) (b : Cell) → CellAt cells0 n b → b.count ≤ area w t + 1 - w
  started_short = bound_short rows d w at t cells0 kids started

  started_cheap : IsCheap cells0
  started_cheap = bound_cheap rows d w at t cells0 kids started cheap

  pub finished : at < length rows → Labelled rows' d w at t
  finished h = with_own rows rows' d w same t at agree kids (record {
    fair = record { made = made; closed = λ i r k is tot. least r.pattern i r k refl is tot };
    end = ap end_of here ∙ is_end;
    within = omega arith;
    short = λ n c e. let a = closed.many (area w t + 1 - w) started_short n c (sym (own_cell n) ∙ e) in let b = area_more w t in omega arith;
    cheap = λ n c e. closed.cheap cheap started_cheap n c (sym (own_cell n) ∙ e);
  })

module _ (rows : List Row) (d : List Rule) (places : List ℕ) (at : ℕ) (t : MTree) where
  -- at the start nothing was tried
  pub started_none : (cells : List (Option Cell)) → ((n : ℕ) (c : Cell) → CellAt cells n c → ⊥) → Started rows d at t cells (Among places 0)
  started_none cells empty = record {
    made = λ n c here. absurd (empty n c here);
    closed = λ j r k among is tot. absurd (among_none places j among);
  }

  -- all of them are all that there are
  pub started_all : (cells : List (Option Cell)) → ((j : ℕ) (r : Rule) (k : Key) → slice_get d j ≡ Some r → base_total rows (pattern_of r.pattern) t at ≡ Some k → (x : ℕ) × (slice_get places x ≡ Some j)) → Started rows d at t cells (Among places (length places)) → Started rows d at t cells Everywhere
  started_all cells all s = record {
    made = s.made;
    closed = λ j r k _ is tot. let a = all j r k is.0 tot in s.closed j r k (among_all places j a.0 a.1) is tot;
  }

  same_rule : (j i : ℕ) (q r : Rule) → j ≡ i → slice_get d j ≡ Some q → slice_get d i ≡ Some r → q ≡ r
  same_rule j i q r e a b = let f = ap (slice_get d) e in let k : Some q ≡ Some r = cc in cc

  pub started_skip : (cells : List (Option Cell)) (x i : ℕ) (r : Rule) → Started rows d at t cells (Among places x) → slice_get places x ≡ Some i → slice_get d i ≡ Some r → IsRuleTotal rows r t at None → Started rows d at t cells (Among places (x + 1))
  started_skip cells x i r s here is nothing = record {
    made = s.made;
    closed = λ j q k among isq tot.
        ⊎_elim
        (λ l. s.closed j q k l isq tot)
        (λ e.
        let f = same_rule j i q r e isq.0 is in
        let F : Rule → Type 0 = λ y. base_total rows (pattern_of y.pattern) t at ≡ Some k in
        let G : Rule → Type 0 = λ y. IsMet y.range (value_of t) in
        absurd (nothing k (subst G f isq.1) (subst F f tot)))
        (among_more places x i j here among);
  }

  closed_on : (cells cells' : List (Option Cell)) (x i : ℕ) (r : Rule) (k : Key) → Started rows d at t cells (Among places x) → slice_get places x ≡ Some i → Offers d (value_of t) i r → base_total rows (pattern_of r.pattern) t at ≡ Some k → ((n : ℕ) (b : Cell) → CellAt cells n b → (y : Cell) × CellAt cells' n y × Leq_cells y b) → ((y : Cell) × CellAt cells' r.left y × Leq_cells y (made_by k i r)) → (j : ℕ) (q : Rule) (k' : Key) → Among places (x + 1) j → Offers d (value_of t) j q → base_total rows (pattern_of q.pattern) t at ≡ Some k' → (y : Cell) × CellAt cells' q.left y × Leq_cells y (made_by k' j q)
  closed_on cells cells' x i r k s here is tot low now j q k' among isq totq =
      ⊎_elim
      (λ l. let a = s.closed j q k' l isq totq in let b = low q.left a.0 a.1 in (b.0, b.1, leq_trans b.0 a.0 (made_by k' j q) b.2 a.2))
      (λ e.
      let f = same_rule j i q r e isq.0 is.0 in
      let F : Rule → Type 0 = λ y. base_total rows (pattern_of y.pattern) t at ≡ Some k' in
      let h = subst F f totq in
      let kk : k ≡ k' = cc in
      let G : ℕ → Rule → Key → Type 0 = λ a b c. (u : Cell) × CellAt cells' b.left u × Leq_cells u (made_by c a b) in
      let G1 : Key → Type 0 = λ z. G i r z in
      let G2 : ℕ → Type 0 = λ a. G a r k' in
      let G3 : Rule → Type 0 = λ y. G j y k' in
      subst G3 (sym f) (subst G2 (sym e) (subst G1 kk now)))
      (among_more places x i j here among)

  pub started_take : (cells : List (Option Cell)) (x i : ℕ) (r : Rule) (k : Key) (cells' : List (Option Cell)) → Started rows d at t cells (Among places x) → slice_get places x ≡ Some i → Offers d (value_of t) i r → base_total rows (pattern_of r.pattern) t at ≡ Some k → r.left < length cells → Offered cells r.left (made_by k i r) cells' → Started rows d at t cells' (Among places (x + 1))
  started_take cells x i r k cells' s here is tot h (Declined b atb le) = record {
    made = s.made;
    closed = closed_on cells cells x i r k s here is tot (λ n b at. (b, at, leq_refl b)) (b, atb, le);
  }
  started_take cells x i r k cells' s here is tot h (Placed beats) =
      let new = made_by k i r in
      record {
        made = λ n c atc.
            ⊎_elim (λ e. (i, r, k, is, sym e.0, tot, e.1)) (λ e. s.made n c e.1) (cell_after cells r.left n new c h atc);
        closed = closed_on cells _ x i r k s here is tot (λ n b atb. write_lowers cells r.left n new b h beats atb) (new, stored cells r.left new h, leq_refl new);
      }

-- the cells of a row that was stored
pub own_cells : (rows : List Row) (at : ℕ) (row : Row) (cells : List (Option Cell)) → at < length rows → row.cells ≡ cells → (n : ℕ) → cell (slice_set rows at row) at n ≡ slice_index_or cells n None
own_cells rows at row cells h is n =
    let here = slice_get-get_or (slice_set rows at row) at row (let e = length-set rows at row in omega arith) ∙ ap Some (get_or-set_same rows at row row h) in
    ap (λ (o : Option Row). slice_index_or (cells_of o) n None) here ∙ ap (λ (l : List (Option Cell)). slice_index_or l n None) is

-- the tree's rows, after its own was stored
pub stored_row : (rows : List Row) (d : List Rule) (w at : ℕ) (t : MTree) (cells : List (Option Cell)) (row : Row) → KidsLabelled rows d w at t → Filled rows d at t w cells → row.cells ≡ cells → row.end ≡ at + nodes t → AreCheap d → at < length rows → Labelled (slice_set rows at row) d w at t
stored_row rows d w at t cells row kids (cells0, started, closed, wide) is_cells is_end cheap h =
    finished rows (slice_set rows at row) d w at t cells0 cells row kids started closed
    (slice_get-get_or (slice_set rows at row) at row (let e = length-set rows at row in omega arith) ∙ ap Some (get_or-set_same rows at row row h))
    is_cells is_end (other_row rows at row) (length-set rows at row) cheap wide h

-- both subtrees' rows, after the second was labelled
pub kids_two : (rows1 rows2 : List Row) (d : List Rule) (w at middle : ℕ) (t a b : MTree) → length (kids_of t) ≢ 0 → length (kids_of t) ≢ 1 → slice_get (kids_of t) 0 ≡ Some a → slice_get (kids_of t) 1 ≡ Some b → middle ≡ at + 1 + nodes a → Labelled rows1 d w (at + 1) a → Labelled rows2 d w middle b → ((i : ℕ) → (i < middle) ⊎ (middle + nodes b ≤ i) → slice_get rows2 i ≡ slice_get rows1 i) → length rows2 ≡ length rows1 → KidsLabelled rows2 d w at t
kids_two rows1 rows2 d w at middle (TLeaf op v) a b n0 n1 e0 e1 m la lb others same = absurd (n0 refl)
kids_two rows1 rows2 d w at middle (TOne op v x) a b n0 n1 e0 e1 m la lb others same = absurd (n1 refl)
kids_two rows1 rows2 d w at middle (TTwo op v x y) a b n0 n1 e0 e1 m la lb others same =
    let xa : a ≡ x = cc in
    let yb : b ≡ y = cc in
    let F : MTree → Type 0 = λ z. Labelled rows2 d w (at + 1) z in
    let G : MTree → Type 0 = λ z. Labelled rows2 d w middle z in
    let H : ℕ → Type 0 = λ z. Labelled rows2 d w z y in
    let M : MTree → Type 0 = λ z. middle ≡ at + 1 + nodes z in (
      subst F xa (labelled_agree rows1 rows2 d w same a (at + 1) (λ i l h. others i (inl (omega arith))) la),
      subst H (subst M xa m) (subst G yb lb),
    )
