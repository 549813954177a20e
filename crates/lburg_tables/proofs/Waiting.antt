-- What waits of a row of cells.
use Rattle.std.proofs.Common.{◌≡◌, ℕ, zero, suc, ◌+◌, ◌<◌, ◌≤◌, inl, inr, ⊎_elim, Option, Some, None, List, [], ◌∷◌, length, refl, sym, ap, ◌∙◌, subst, arith, length-set, get_or}
use Rattle.std.specs.Prelude.{slice_get, slice_set, ℤ}
use Rattle.std.proofs.lemmas.List.{get_or-set_same, get_or-set_other, length-map, ext_get_or}
use Rattle.std.proofs.Math.ListN.{get_or-map}
use Rattle.lburg_model.specs.Range.{IsMet}
use Rattle.place_queue.specs.declared.key.Key.{Key}
use Rattle.place_queue.specs.Leq.{Leq}
use Rattle.lburg_tables.specs.declared.cell.Cell.{Cell}
use Rattle.lburg_model.specs.declared.rule.Rule.{Rule}
use Rattle.lburg_tables.specs.RowOf.{seen, row_of, key_of, waiting_of}
use Rattle.lburg_tables.specs.Waits.{Matches}
use Rattle.lburg_tables.specs.Waits.{IsIdle}
use Rattle.lburg_tables.specs.Row.{CellAt, Relaxed, Taken, Left, Offered, Placed, Declined, IsChain, made_from, Beats, Spread, Among, Everywhere}
use Rattle.lburg_tables.proofs.lemmas.RowLaws.{within, Leq_cells, leq_trans, leq_refl, leq_flip, same_or_not, stored, cell_after, write_lowers, among_more, among_all, seen_at, seen_is}

pub key_at : (row : List (Option Cell)) (n : ℕ) → get_or (waiting_of row) n None ≡ key_of (get_or row n None)
key_at row n = get_or-map key_of row n None

-- the numbers of a key that is a cell's
pub key_is : (c : Cell) (k : Key) → key_of (Some c) ≡ Some k → (c.cost ≡ k.cost) × (c.count ≡ k.count)
key_is c k e = let f : record { cost = c.cost; count = c.count } ≡ k = cc in (ap (λ (x : Key). x.cost) f, ap (λ (x : Key). x.count) f)

-- a key's cell
pub cell_with : (o : Option Cell) (k : Key) → key_of o ≡ Some k → (c : Cell) × (o ≡ Some c) × (c.cost ≡ k.cost) × (c.count ≡ k.count)
cell_with None k e = cc
cell_with (Some c) k e = let f = key_is c k e in (c, refl, f.0, f.1)

-- each cell waits
pub all_match : (row : List (Option Cell)) (waiting : List (Option Key)) → waiting ≡ waiting_of row → Matches row waiting
all_match row waiting e = record {
  many = ap length e ∙ length-map row key_of;
  cells = λ n key w. sym (key_at row n) ∙ sym (ap (λ (l : List (Option Key)). get_or l n None) e) ∙ w;
}

-- a write of the same cell and key at one place
pub match_after : (row : List (Option Cell)) (waiting : List (Option Key)) (n : ℕ) (c : Cell) → n < length row → Matches row waiting → Matches (slice_set row n (Some c)) (slice_set waiting n (key_of (Some c)))
match_after row waiting n c h fit =
    let many = fit.many in
    let there : n < length waiting = omega arith in
    record {
      many = length-set waiting n (key_of (Some c)) ∙ fit.many ∙ sym (length-set row n (Some c));
      cells = λ m key w.
          ⊎_elim
          (λ e.
          let F : ℕ → Type 0 = λ x. key_of (get_or (slice_set row n (Some c)) x None) ≡ Some key in
          let G : ℕ → Type 0 = λ x. get_or (slice_set waiting n (key_of (Some c))) x None ≡ Some key in
          subst F (sym e) (ap key_of (stored row n c h) ∙ sym (get_or-set_same waiting n (key_of (Some c)) None there) ∙ subst G e w))
          (λ e. ap key_of (get_or-set_other row n m (Some c) None e) ∙ fit.cells m key (sym (get_or-set_other waiting n m (key_of (Some c)) None e) ∙ w))
          (same_or_not m n);
    }

-- a cell that beats the old one has no greater a key than the one that waits
pub key_lower : (row : List (Option Cell)) (waiting : List (Option Key)) (n : ℕ) (c : Cell) (key old : Key) → Matches row waiting → Beats row n c → Some key ≡ key_of (Some c) → get_or waiting n None ≡ Some old → Leq key old
key_lower row waiting n c key old fit beats is w =
    let a = cell_with (get_or row n None) old (fit.cells n old w) in
    let l = leq_flip a.0 c (beats a.0 a.1) in
    let k = key_is c key (sym is) in
    let x = a.2 in
    let y = a.3 in
    (omega arith, λ e. omega arith)

-- what was taken waits no more
pub match_taken : (row : List (Option Cell)) (waiting : List (Option Key)) (m : ℕ) → Matches row waiting → Matches row (slice_set waiting m None)
match_taken row waiting m fit = record {
  many = length-set waiting m None ∙ fit.many;
  cells = λ n key w.
      ⊎_elim
      (λ e.
      let F : ℕ → Type 0 = λ x. get_or (slice_set waiting m None) x None ≡ Some key in
      let gone = none_there waiting m in
      let f = subst F e w in
      cc)
      (λ e. fit.cells n key (sym (get_or-set_other waiting m n None None e) ∙ w))
      (same_or_not n m);
}
  where
    none_there : (xs : List (Option Key)) (i : ℕ) → get_or (slice_set xs i None) i None ≡ None
    none_there [] i = refl
    none_there (x ∷ xs) zero = refl
    none_there (x ∷ xs) (suc i) = none_there xs i

module _ (rules : List Rule) (constant : Option ℤ) (places : List ℕ) (m : ℕ) (from : Cell) (old : List (Option Cell)) (waited : List (Option Key)) where
  -- all of them are all that there are
  pub spread_all : (row : List (Option Cell)) (waiting : List (Option Key)) → ((j : ℕ) (r : Rule) → IsChain rules constant j m r → (k : ℕ) × (slice_get places k ≡ Some j)) → Spread rules constant m from old waited row waiting (Among places (length places)) → Spread rules constant m from old waited row waiting Everywhere
  spread_all row waiting all s = record {
    same_length = s.same_length;
    lower = s.lower;
    made = s.made;
    closed = λ j r _ ch. let a = all j r ch in s.closed j r (among_all places j a.0 a.1) ch;
  }

  -- the rule at its place is one
  one_rule : (j i : ℕ) (q r : Rule) → j ≡ i → IsChain rules constant j m q → IsChain rules constant i m r → q ≡ r
  one_rule j i q r e a b = let f = ap (slice_get rules) e in let g = a.0.0 in let h = b.0.0 in let k : Some q ≡ Some r = cc in cc

  closed_on : (row row' : List (Option Cell)) (waiting : List (Option Key)) (k i : ℕ) (r : Rule) → Spread rules constant m from old waited row waiting (Among places k) → slice_get places k ≡ Some i → IsChain rules constant i m r → ((n : ℕ) (b : Cell) → CellAt row n b → (x : Cell) × CellAt row' n x × Leq_cells x b) → ((x : Cell) × CellAt row' r.left x × Leq_cells x (made_from from i r)) → (j : ℕ) (q : Rule) → Among places (k + 1) j → IsChain rules constant j m q → (x : Cell) × CellAt row' q.left x × Leq_cells x (made_from from j q)
  closed_on row row' waiting k i r s here ch low now j q among chq =
      ⊎_elim
      (λ l. let a = s.closed j q l chq in let b = low q.left a.0 a.1 in (b.0, b.1, leq_trans b.0 a.0 (made_from from j q) b.2 a.2))
      (λ e.
      let f = one_rule j i q r e chq ch in
      let F : ℕ → Rule → Type 0 = λ x y. (z : Cell) × CellAt row' y.left z × Leq_cells z (made_from from x y) in
      let G : ℕ → Type 0 = λ x. F x r in
      let H : Rule → Type 0 = λ y. F j y in
      subst H (sym f) (subst G (sym e) now))
      (among_more places k i j here among)

  -- a rule that doesn't apply makes nothing
  pub spread_skip : (row : List (Option Cell)) (waiting : List (Option Key)) (k i : ℕ) (r : Rule) → Spread rules constant m from old waited row waiting (Among places k) → slice_get places k ≡ Some i → slice_get rules i ≡ Some r → (IsMet r.range constant → ⊥) → Spread rules constant m from old waited row waiting (Among places (k + 1))
  spread_skip row waiting k i r s here is unmet = record {
    same_length = s.same_length;
    lower = s.lower;
    made = s.made;
    closed = λ j q among ch.
        ⊎_elim
        (λ l. s.closed j q l ch)
        (λ e.
        let at = ch.0.0 in
        let there = ap (slice_get rules) e in
        let f : q ≡ r = (let g : Some q ≡ Some r = cc in cc) in
        absurd (unmet (subst (λ (z : Rule). IsMet z.range constant) f ch.0.1)))
        (among_more places k i j here among);
  }

  pub spread_chain : (row : List (Option Cell)) (waiting : List (Option Key)) (k i : ℕ) (r : Rule) (row' : List (Option Cell)) (waiting' : List (Option Key)) → Matches row waiting → Spread rules constant m from old waited row waiting (Among places k) → slice_get places k ≡ Some i → IsChain rules constant i m r → r.left < length row → Relaxed row waiting r.left (made_from from i r) row' waiting' → Spread rules constant m from old waited row' waiting' (Among places (k + 1))
  spread_chain row waiting k i r row' waiting' fit s here ch h (Left b at le) = record {
    same_length = s.same_length;
    lower = s.lower;
    made = s.made;
    closed = closed_on row row waiting k i r s here ch (λ n b at. (b, at, leq_refl b)) (b, at, le);
  }
  spread_chain row waiting k i r row' waiting' fit s here ch h (Taken beats) =
      let new = made_from from i r in
      let row2 = slice_set row r.left (Some new) in
      let waiting2 = slice_set waiting r.left (key_of (Some new)) in
      let many = fit.many in
      let there : r.left < length waiting = omega arith in
      record {
        same_length = length-set row r.left (Some new) ∙ s.same_length;
        lower = λ n b at. let a = s.lower n b at in let x = write_lowers row r.left n new a.0 h beats a.1 in (x.0, x.1, leq_trans x.0 a.0 b x.2 a.2);
        made = λ n c at.
            ⊎_elim
            (λ e.
            let Waits : ℕ → Type 0 = λ x. get_or waiting2 x None ≡ key_of (Some c) in
            inr (
              i,
              r,
              ch,
              sym e.0,
              e.1,
              λ b atb le.
                  let F : ℕ → Type 0 = λ x. CellAt old x b in
                  let a = s.lower r.left b (subst F e.0 atb) in
                  let F2 : Cell → Type 0 = λ x. Leq_cells b x in
                  beats a.0 a.1 (leq_trans a.0 b new a.2 (subst F2 e.1 le)),
              subst Waits (sym e.0) (get_or-set_same waiting r.left (key_of (Some new)) None there ∙ ap (λ (z : Cell). key_of (Some z)) (sym e.1)),
            ))
            (λ e.
            let same = get_or-set_other waiting r.left n (key_of (Some new)) None e.0 in
            ⊎_elim
            (λ l. inl (l.0, same ∙ l.1))
            (λ (j, q, chq, left, is, more, waits). inr (j, q, chq, left, is, more, same ∙ waits))
            (s.made n c e.1))
            (cell_after row r.left n new c h at);
        closed = closed_on row row2 waiting k i r s here ch (λ n b at. write_lowers row r.left n new b h beats at) (new, stored row r.left new h, leq_refl new);
      }

-- what waits is a cell
pub waiting_cell : (row : List Cell) (waiting : List (Option Key)) (m : ℕ) (key : Key) (d : Cell) → Matches (row_of row) waiting → get_or waiting m None ≡ Some key → CellAt (row_of row) m (get_or row m d)
waiting_cell row waiting m key d fit w =
    let a = cell_with (get_or (row_of row) m None) key (fit.cells m key w) in
    let long = length-map row seen in
    let inside = within (row_of row) m a.0 a.1 in
    a.1 ∙ ap Some (sym (seen_is (get_or row m d) a.0 (sym (seen_at row m d (omega arith)) ∙ a.1)))

-- the cells of the first k places wait, and no other
pub record WaitsTo (row : List (Option Cell)) (k : ℕ) (waiting : List (Option Key)) : Type 0 where
  pub many : length waiting ≡ length row
  pub first : (n : ℕ) → n < k → get_or waiting n None ≡ key_of (get_or row n None)
  pub rest : (n : ℕ) → k ≤ n → get_or waiting n None ≡ None

pub waits_none : (row : List (Option Cell)) (waiting : List (Option Key)) → IsIdle (length row) waiting → WaitsTo row 0 waiting
waits_none row waiting idle = record { many = idle.0; first = λ n h. absurd (omega arith); rest = λ n h. idle.1 n }

pub waits_more : (row : List (Option Cell)) (waiting : List (Option Key)) (k : ℕ) (c : Cell) → CellAt row k c → WaitsTo row k waiting → WaitsTo row (k + 1) (slice_set waiting k (key_of (Some c)))
waits_more row waiting k c at w =
    let new = key_of (Some c) in
    let inside = within row k c at in
    let long = w.many in
    let there : k < length waiting = omega arith in
    record {
      many = length-set waiting k new ∙ w.many;
      first = λ n h.
          ⊎_elim
          (λ e.
          let F : ℕ → Type 0 = λ x. get_or (slice_set waiting k new) x None ≡ key_of (get_or row x None) in
          subst F (sym e) (get_or-set_same waiting k new None there ∙ sym (ap key_of at)))
          (λ e. get_or-set_other waiting k n new None e ∙ w.first n (omega arith))
          (same_or_not n k);
      rest = λ n h. get_or-set_other waiting k n new None (λ e. omega arith) ∙ w.rest n (omega arith);
    }

pub waits_less : (row : List (Option Cell)) (waiting : List (Option Key)) (k : ℕ) → get_or row k None ≡ None → WaitsTo row k waiting → WaitsTo row (k + 1) waiting
waits_less row waiting k none w = record {
  many = w.many;
  first = λ n h.
      ⊎_elim
      (λ e.
      let F : ℕ → Type 0 = λ x. get_or waiting x None ≡ key_of (get_or row x None) in
      subst F (sym e) (w.rest k (omega arith) ∙ sym (ap key_of none)))
      (λ e. w.first n (omega arith))
      (same_or_not n k);
  rest = λ n h. w.rest n (omega arith);
}

pub waits_over : (row : List (Option Cell)) (waiting : List (Option Key)) (k : ℕ) → length row ≤ k → WaitsTo row k waiting → waiting ≡ waiting_of row
waits_over row waiting k h w =
    let long = w.many in
    ext_get_or None waiting (waiting_of row) (w.many ∙ sym (length-map row key_of)) (λ i l. w.first i (omega arith) ∙ sym (key_at row i))

-- what comes of an offer that was stored, or was not
module _ (row : List (Option Cell)) (n : ℕ) (new : Cell) (waiting : List (Option Key)) where
  pub relaxed_taken : (after : List (Option Cell)) → Beats row n new → Offered row n new after → Relaxed row waiting n new after (slice_set waiting n (key_of (Some new)))
  relaxed_taken after beats (Placed b) = Taken b
  relaxed_taken after beats (Declined b at le) = absurd (beats b at le)

  pub relaxed_left : (after : List (Option Cell)) → (Beats row n new → ⊥) → Offered row n new after → Relaxed row waiting n new after waiting
  relaxed_left after not_so (Placed b) = absurd (not_so b)
  relaxed_left after not_so (Declined b at le) = Left b at le

  pub match_offered : (after : List (Option Cell)) → n < length row → Matches row waiting → Beats row n new → Offered row n new after → Matches after (slice_set waiting n (key_of (Some new)))
  match_offered after h fit beats (Placed b) = match_after row waiting n new h fit
  match_offered after h fit beats (Declined b at le) = absurd (beats b at le)
