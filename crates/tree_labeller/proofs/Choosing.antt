-- The rule that makes a cell.
use Rattle.std.proofs.Common.{◌≡◌, ◌≢◌, ℕ, zero, suc, ◌+◌, ◌-◌, ◌*◌, ◌<◌, Option, Some, None, List, [], ◌∷◌, refl, sym, ap, ◌∙◌, arith, subst}
use Rattle.std.specs.Prelude.{slice_get}
use Rattle.std.proofs.lemmas.Option.{slice_get_within}
use Rattle.lburg_tables.specs.declared.cell.Cell.{Cell}
use Rattle.tree_labeller.specs.Rows.{Row}
use Rattle.lburg_model.specs.declared.rule.Rule.{Rule}
use Rattle.lburg_model.specs.Tree.{MTree}
use Rattle.lburg_model.specs.Pattern.{pattern_of}
use Rattle.tree_labeller.specs.Labelled.{cell, total, Labelled}
use Rattle.tree_labeller.specs.Chosen.{cell_count, key_count, pattern_size, biggest, Chosen}
use Rattle.tree_labeller.specs.Totals.{sound_of}

size_below : (d : List Rule) (i : ℕ) (r : Rule) → slice_get d i ≡ Some r → pattern_size (pattern_of r.pattern) < biggest d
size_below [] i r e = cc
size_below (x ∷ xs) zero r e = let f : x ≡ r = cc in let g = ap (λ (z : Rule). pattern_size (pattern_of z.pattern)) f in omega arith
size_below (x ∷ xs) (suc i) r e = let a = size_below xs i r e in omega arith

some_not_none : {A : Type 0} (o : Option A) (x : A) → o ≡ Some x → o ≢ None
some_not_none o x e f = cc

pub chosen_of : (rows : List Row) (d : List Rule) (w n : ℕ) (t : MTree) (at : ℕ) (c : Cell) → Labelled rows d w at t → cell rows at n ≡ Some c → Chosen rows d n t at c.rule
chosen_of rows d w n t at c l e =
    let (i, r, k, is, left, tot, rule, of, many) = (sound_of rows d w at t l).fair.made n c e in
    let there = is.0 in
    let inside = slice_get_within d i r there in
    let same : (q : Rule) → slice_get d (c.rule - 1) ≡ Some q → r ≡ q = λ q eq. (let j : c.rule - 1 ≡ i = omega arith in let f = ap (slice_get d) j in let g : Some r ≡ Some q = cc in cc) in
    record {
      first = omega arith;
      within = omega arith;
      is_rule = λ b eb. (let f : c ≡ b = cc in ap (λ (z : Cell). z.rule) (sym f));
      fits = λ q eq. (let P : Rule → Type 0 = λ z. total rows (pattern_of z.pattern) t at ≢ None in subst P (same q eq) (some_not_none _ k tot));
      smaller = λ q eq. (
          let P : Rule → Type 0 = λ z. key_count (total rows (pattern_of z.pattern) t at) * biggest d + pattern_size (pattern_of z.pattern) < cell_count (cell rows at n) * biggest d in
          let small = size_below d i r there in
          let kc = ap key_count tot in
          let cn = ap cell_count e in
          let B = biggest d in
          let main : k.count * B + pattern_size (pattern_of r.pattern) < (1 + k.count) * B = grind arith in
          let P1 : ℕ → Type 0 = λ b. k.count * B + pattern_size (pattern_of r.pattern) < b * B in
          let main1 = subst P1 (sym (cn ∙ many)) main in
          let P2 : ℕ → Type 0 = λ a. a * B + pattern_size (pattern_of r.pattern) < cell_count (cell rows at n) * B in
          let main2 = subst P2 (sym kc) main1 in
          subst P (same q eq) main2);
    }

-- the same of a number that the cell has
pub chosen_by : (rows : List Row) (d : List Rule) (w n : ℕ) (t : MTree) (at number : ℕ) → Labelled rows d w at t → cell rows at n ≢ None → ((c : Cell) → cell rows at n ≡ Some c → number ≡ c.rule) → Chosen rows d n t at number
chosen_by rows d w n t at number l some is = by_cell (cell rows at n) refl
  where
    by_cell : (o : Option Cell) → cell rows at n ≡ o → Chosen rows d n t at number
    by_cell None e = absurd (some e)
    by_cell (Some c) e = let F : ℕ → Type 0 = λ k. Chosen rows d n t at k in subst F (sym (is c e)) (chosen_of rows d w n t at c l e)
