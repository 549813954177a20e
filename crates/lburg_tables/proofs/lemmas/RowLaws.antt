-- What follows of rows of cells: writes, the order of cells, and what is seen of a row.
use Rattle.std.proofs.Common.{◌≡◌, ◌≢◌, ℕ, zero, suc, ◌+◌, ◌<◌, ◌≤◌, ◌⊎◌, inl, inr, ⊎_elim, Option, Some, None, List, [], ◌∷◌, length, sym, ap, ◌∙◌, subst, arith, get_or, Bool}
use Rattle.std.specs.Prelude.{slice_get, slice_set, if◌then◌else◌}
use Rattle.std.proofs.lemmas.Bool.{cases_lt}
use Rattle.std.proofs.lemmas.Option.{slice_get_within}
use Rattle.std.proofs.lemmas.Bool.Decides.{eqb_tells}
use Rattle.std.proofs.lemmas.List.{get_or-set_same, get_or-set_other, map-set, length-map}
use Rattle.std.proofs.lemmas.List.{get_or-map as get_or-map_within}
use Rattle.lburg_tables.specs.declared.cell.Cell.{Cell}
use Rattle.lburg_tables.specs.RowOf.{seen, row_of}
use Rattle.lburg_tables.specs.Row.{CellAt, Leq3, Beats, Offered, Declined, Among}

-- what stands at a place of a list
pub within : {A : Type 0} (xs : List (Option A)) (n : ℕ) (x : A) → get_or xs n None ≡ Some x → n < length xs
within [] n x e = cc
within (y ∷ ys) zero x e = omega arith
within (y ∷ ys) (suc n) x e = let h = within ys n x e in omega arith

pub seen_some : (c : Cell) → 0 < c.rule → seen c ≡ Some c
seen_some c h =
    ⊎_elim
    (λ zero_rule. let e = zero_rule.1 in absurd (omega arith))
    (λ other. ap (λ (b : Bool). if b then None else Some c) other.0)
    (eqb_tells c.rule 0)

abbrev pub Leq_cells : Cell → Cell → Type 0
Leq_cells a b = Leq3 a.cost a.count a.rule b.cost b.count b.rule

pub leq_trans : (a b c : Cell) → Leq_cells a b → Leq_cells b c → Leq_cells a c
leq_trans a b c f g = (omega arith, λ e. omega arith, λ e h. omega arith)

pub leq_refl : (a : Cell) → Leq_cells a a
leq_refl a = (omega arith, λ e. omega arith, λ e h. omega arith)

pub leq_flip : (a b : Cell) → (Leq_cells a b → ⊥) → Leq_cells b a
leq_flip a b not_so = (
  ⊎_elim (λ lt. absurd (not_so (omega arith, λ e. omega arith, λ e h. omega arith))) (λ ge. ge) (cases_lt a.cost b.cost),
  λ e. ⊎_elim (λ lt. absurd (not_so (omega arith, λ e. omega arith, λ e h. omega arith))) (λ ge. ge) (cases_lt a.count b.count),
  λ e h. ⊎_elim (λ lt. absurd (not_so (omega arith, λ e. omega arith, λ e h. omega arith))) (λ ge. ge) (cases_lt a.rule b.rule),
)

pub same_or_not : (a b : ℕ) → (a ≡ b) ⊎ (a ≢ b)
same_or_not a b = ⊎_elim (λ x. inl x.1) (λ x. inr x.1) (eqb_tells a b)

pub stored : (row : List (Option Cell)) (n : ℕ) (c : Cell) → n < length row → CellAt (slice_set row n (Some c)) n c
stored row n c h = get_or-set_same row n (Some c) None h

pub kept : (row : List (Option Cell)) (n m : ℕ) (c b : Cell) → m ≢ n → CellAt row m b → CellAt (slice_set row n (Some c)) m b
kept row n m c b h at = get_or-set_other row n m (Some c) None h ∙ at

-- a cell of the row after a write is the written one, or an old one
pub cell_after : (row : List (Option Cell)) (n m : ℕ) (c b : Cell) → n < length row → CellAt (slice_set row n (Some c)) m b → ((m ≡ n) × (b ≡ c)) ⊎ ((m ≢ n) × CellAt row m b)
cell_after row n m c b h at =
    ⊎_elim
    (λ e. let F : ℕ → Type 0 = λ x. CellAt (slice_set row n (Some c)) x b in let f = subst F e at in let g = stored row n c h in inl (e, cc))
    (λ e. inr (e, sym (get_or-set_other row n m (Some c) None e) ∙ at))
    (same_or_not m n)

-- a write of a cell that beats the old one lowers each cell
pub write_lowers : (row : List (Option Cell)) (n m : ℕ) (c b : Cell) → n < length row → Beats row n c → CellAt row m b → (x : Cell) × CellAt (slice_set row n (Some c)) m x × Leq_cells x b
write_lowers row n m c b h beats at =
    ⊎_elim
    (λ e.
    let F : ℕ → Type 0 = λ x. CellAt row x b in
    let G : ℕ → Type 0 = λ x. CellAt (slice_set row n (Some c)) x c in
    (c, subst G (sym e) (stored row n c h), leq_flip b c (beats b (subst F e at))))
    (λ e. (b, kept row n m c b e at, leq_refl b))
    (same_or_not m n)

-- a place among one more
pub among_more : (places : List ℕ) (k i j : ℕ) → slice_get places k ≡ Some i → Among places (k + 1) j → Among places k j ⊎ (j ≡ i)
among_more places k i j here (x, lt, at) =
    ⊎_elim
    (λ l. inl (x, l, at))
    (λ g. let xk : x ≡ k = omega arith in let f = ap (slice_get places) xk in let h : Some j ≡ Some i = sym at ∙ f ∙ here in inr (let e : j ≡ i = cc in e))
    (cases_lt x k)

pub among_none : (places : List ℕ) (j : ℕ) → Among places 0 j → ⊥
among_none places j (x, lt, at) = absurd (omega arith)

-- each place of the list is among all
pub among_all : (places : List ℕ) (j k : ℕ) → slice_get places k ≡ Some j → Among places (length places) j
among_all places j k at = (k, slice_get_within places k j at, at)

-- what is seen of the cell at a place
pub seen_at : (row : List Cell) (n : ℕ) (d : Cell) → n < length row → get_or (row_of row) n None ≡ seen (get_or row n d)
seen_at row n d h = get_or-map_within seen row n d None h

-- a write of a cell with a derivation
pub seen_set : (row : List Cell) (n : ℕ) (c : Cell) → 0 < c.rule → row_of (slice_set row n c) ≡ slice_set (row_of row) n (Some c)
seen_set row n c h = map-set seen row n c ∙ ap (λ (o : Option Cell). slice_set (row_of row) n o) (seen_some c h)

pub seen_is : (x c : Cell) → seen x ≡ Some c → x ≡ c
seen_is x c e = ⊎_elim (λ zero_rule. let f : seen x ≡ None = ap (λ (b : Bool). if b then None else Some x) zero_rule.0 in cc) (λ other. let f : seen x ≡ Some x = ap (λ (b : Bool). if b then None else Some x) other.0 in let g : Some x ≡ Some c = sym f ∙ e in cc) (eqb_tells x.rule 0)

seen_none : (c : Cell) → c.rule ≡ 0 → seen c ≡ None
seen_none c e = ⊎_elim (λ zero_rule. ap (λ (b : Bool). if b then None else Some c) zero_rule.0) (λ other. absurd (other.1 e)) (eqb_tells c.rule 0)

-- what an offer finds: a cell that isn't greater, none, or a greater one
module _ (row : List Cell) (n : ℕ) (d new : Cell) (h : n < length row) where
  there_at : (get_or row n d).rule ≢ 0 → CellAt (row_of row) n (get_or row n d)
  there_at some = seen_at row n d h ∙ seen_some (get_or row n d) (omega arith)

  pub declined_at : (get_or row n d).rule ≢ 0 → Leq_cells (get_or row n d) new → Offered (row_of row) n new (row_of row)
  declined_at some le = Declined (get_or row n d) (there_at some) le

  -- a cheaper cell isn't greater, whatever its count and rule
  pub cheaper_declined : 1 ≤ (get_or row n d).rule → (get_or row n d).cost < new.cost → Offered (row_of row) n new (row_of row)
  cheaper_declined some less = declined_at (λ none. absurd (omega arith)) (omega arith, λ e. omega arith, λ e f. omega arith)

  pub beats_not : (get_or row n d).rule ≢ 0 → Leq_cells (get_or row n d) new → Beats (row_of row) n new → ⊥
  beats_not some le beats = beats (get_or row n d) (there_at some) le

  pub beats_none : (get_or row n d).rule ≡ 0 → Beats (row_of row) n new
  beats_none none b at le = let f = seen_at row n d h in let g = seen_none (get_or row n d) none in cc

  pub beats_greater : (Leq_cells (get_or row n d) new → ⊥) → Beats (row_of row) n new
  beats_greater greater b at le =
      let same : get_or row n d ≡ b = seen_is (get_or row n d) b (sym (seen_at row n d h) ∙ at) in
      let F : Cell → Type 0 = λ z. Leq_cells z new in
      greater (subst F (sym same) le)

pub row_within : (row : List Cell) (n : ℕ) → n < length row → n < length (row_of row)
row_within row n h = let e = length-map row seen in omega arith

-- a place more without a cell
pub cleared_more : (row : List Cell) (n : ℕ) (c : Cell) → n < length row → c.rule ≡ 0 → ((m : ℕ) (b : Cell) → m < n → CellAt (row_of row) m b → ⊥) → (m : ℕ) (b : Cell) → m < n + 1 → CellAt (row_of (slice_set row n c)) m b → ⊥
cleared_more row n c h e below m b lt at =
    let set_is : row_of (slice_set row n c) ≡ slice_set (row_of row) n None = map-set seen row n c ∙ ap (λ (o : Option Cell). slice_set (row_of row) n o) (seen_none c e) in
    let at2 = sym (ap (λ (l : List (Option Cell)). get_or l m None) set_is) ∙ at in
    ⊎_elim
    (λ here.
    let F : ℕ → Type 0 = λ x. get_or (slice_set (row_of row) n None) x None ≡ Some b in
    let f = subst F here at2 in
    let g = get_or-set_same (row_of row) n None None (row_within row n h) in
    cc)
    (λ not_here. below m b (omega arith) (sym (get_or-set_other (row_of row) n m None None not_here) ∙ at2))
    (same_or_not m n)
