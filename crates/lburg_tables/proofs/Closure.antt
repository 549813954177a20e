-- The closing of a row, a cell at a time.
use Rattle.std.proofs.Common.{◌≡◌, ◌≢◌, ℕ, zero, suc, ◌+◌, ◌<◌, ◌≤◌, ◌⊎◌, inl, inr, ⊎_elim, Option, Some, None, List, [], ◌∷◌, length, refl, sym, ap, ◌∙◌, subst, arith, get_or}
use Rattle.std.specs.Prelude.{ℤ, ◌==◌, if◌then◌else◌, Bool}
use Rattle.std.proofs.lemmas.Bool.Decides.{eqb_tells}
use Rattle.std.proofs.lemmas.List.{get_or-set_same, get_or-set_other}
use Rattle.lburg_model.specs.Pattern.{MPattern, PHole, PLeaf, POne, PTwo, pattern_of}
use Rattle.lburg_tables.specs.Root.{Chain}
use Rattle.lburg_tables.specs.Places.{with_root}
use Rattle.place_queue.specs.declared.key.Key.{Key}
use Rattle.place_queue.specs.Takes.{Takes}
use Rattle.lburg_tables.specs.declared.cell.Cell.{Cell}
use Rattle.lburg_model.specs.declared.rule.Rule.{Rule}
use Rattle.lburg_tables.specs.RowOf.{key_of, waiting_of}
use Rattle.lburg_tables.specs.Waits.{Matches}
use Rattle.lburg_tables.specs.ChainTries.{cell_weight, chain_tries_of, chain_tries}
use Rattle.lburg_tables.specs.Row.{CellAt, Leq, IsChain, made_from, Spread, Same, FromChain, Closed, AreCheap, IsCheap, Everywhere}
use Rattle.lburg_tables.proofs.lemmas.RowLaws.{same_or_not, within, Leq_cells, leq_trans, leq_refl}
use Rattle.lburg_tables.proofs.Waiting.{key_at, key_is, cell_with}
use Rattle.lburg_tables.proofs.lemmas.Weights.{root_weight, with_more}

-- the sum of the first n
abbrev pub total : (ℕ → ℕ) → ℕ → ℕ
total f zero = 0
total f (suc n) = f n + total f n

-- a sum of ones and zeros
total_le : (f : ℕ → ℕ) → ((k : ℕ) → f k ≤ 1) → (n : ℕ) → total f n ≤ n
total_le f one zero = omega arith
total_le f one (suc n) = let a = total_le f one n in let b = one n in omega arith

-- one of which is a zero
total_lt : (f : ℕ → ℕ) → ((k : ℕ) → f k ≤ 1) → (n m : ℕ) → m < n → f m ≡ 0 → total f n < n
total_lt f one zero m h e = absurd (omega arith)
total_lt f one (suc n) m h e =
    ⊎_elim
    (λ here. let a = total_le f one n in let b = ap f here in omega arith)
    (λ not_here. let a = total_lt f one n m (omega arith) e in let b = one n in omega arith)
    (same_or_not m n)

total_same : (f g : ℕ → ℕ) (n : ℕ) → ((k : ℕ) → k < n → g k ≡ f k) → total g n ≡ total f n
total_same f g zero h = refl
total_same f g (suc n) h = let a = total_same f g n (λ k l. h k (omega arith)) in let b = h n (omega arith) in omega arith

-- one place has one more
total_more : (f g : ℕ → ℕ) (n m : ℕ) → m < n → ((k : ℕ) → k ≢ m → g k ≡ f k) → g m ≡ f m + 1 → total g n ≡ total f n + 1
total_more f g zero m h other here = absurd (omega arith)
total_more f g (suc n) m h other here =
    ⊎_elim
    (λ e.
    let a = total_same f g n (λ k l. other k (λ q. omega arith)) in
    let F : ℕ → Type 0 = λ x. g x ≡ f x + 1 in
    let b = subst F e here in
    omega arith)
    (λ ne. let a = total_more f g n m (omega arith) other here in let b = other n (λ q. ne (sym q)) in omega arith)
    (same_or_not m n)

-- 1 for a cell that doesn't wait
abbrev pub done_weight : Option Cell → Option Key → ℕ
done_weight None key = 0
done_weight (Some c) None = 1
done_weight (Some c) (Some key) = 0

-- 1 where the place has a cell that doesn't wait
abbrev pub done_at : List (Option Cell) → List (Option Key) → ℕ → ℕ
done_at row waiting n = done_weight (get_or row n None) (get_or waiting n None)

-- how many cells of a row don't wait
abbrev pub dones : List (Option Cell) → List (Option Key) → ℕ
dones row waiting = total (done_at row waiting) (length row)

weight_le : (o : Option Cell) (k : Option Key) → done_weight o k ≤ 1
weight_le None k = omega arith
weight_le (Some c) None = omega arith
weight_le (Some c) (Some k) = omega arith

waits_weight : (o : Option Cell) (k : Option Key) (key : Key) → k ≡ Some key → done_weight o k ≡ 0
waits_weight None k key e = refl
waits_weight (Some c) None key e = cc
waits_weight (Some c) (Some k) key e = refl

-- a cell that waits isn't counted
pub dones_lt : (row : List (Option Cell)) (waiting : List (Option Key)) (m : ℕ) (c : Cell) (key : Key) → CellAt row m c → get_or waiting m None ≡ Some key → dones row waiting < length row
dones_lt row waiting m c key at w = total_lt (done_at row waiting) (λ k. weight_le (get_or row k None) (get_or waiting k None)) (length row) m (within row m c at) (waits_weight (get_or row m None) (get_or waiting m None) key w)

-- 1 for the pattern of a chain rule that was tried, else 0
abbrev pub chain_done : List (Option Cell) → List (Option Key) → MPattern → ℕ
chain_done row waiting (PHole n) = done_at row waiting n
chain_done row waiting (PLeaf op) = 0
chain_done row waiting (POne op p) = 0
chain_done row waiting (PTwo op p q) = 0

-- how many chain rules were tried
abbrev pub chains_done : List (Option Cell) → List (Option Key) → List Rule → ℕ
chains_done row waiting [] = 0
chains_done row waiting (r ∷ rs) = chain_done row waiting (pattern_of r.pattern) + chains_done row waiting rs

-- none at the start
pub none_done : (row : List (Option Cell)) (waiting : List (Option Key)) → waiting ≡ waiting_of row → (rs : List Rule) → chains_done row waiting rs ≡ 0
none_done row waiting all [] = refl
none_done row waiting all (r ∷ rs) = let a = of (pattern_of r.pattern) in let b = none_done row waiting all rs in omega arith
  where
    by_cell : (o : Option Cell) → done_weight o (key_of o) ≡ 0
    by_cell None = refl
    by_cell (Some c) = refl

    of : (p : MPattern) → chain_done row waiting p ≡ 0
    of (PHole n) =
        ap (λ (k : Option Key). done_weight (get_or row n None) k) (ap (λ (l : List (Option Key)). get_or l n None) all ∙ key_at row n)
        ∙ by_cell (get_or row n None)
    of (PLeaf op) = refl
    of (POne op p) = refl
    of (PTwo op p q) = refl

-- in the end those from each cell
pub all_done : (row : List (Option Cell)) (waiting : List (Option Key)) → ((n : ℕ) → get_or waiting n None ≡ None) → (rs : List Rule) → chains_done row waiting rs ≡ chain_tries row rs
all_done row waiting idle [] = refl
all_done row waiting idle (r ∷ rs) = let a = of (pattern_of r.pattern) in let b = all_done row waiting idle rs in omega arith
  where
    by_cell : (o : Option Cell) → done_weight o None ≡ cell_weight o
    by_cell None = refl
    by_cell (Some c) = refl

    of : (p : MPattern) → chain_done row waiting p ≡ chain_tries_of row p
    of (PHole n) = ap (λ (k : Option Key). done_weight (get_or row n None) k) (idle n) ∙ by_cell (get_or row n None)
    of (PLeaf op) = refl
    of (POne op p) = refl
    of (PTwo op p q) = refl

-- the row while it is closed: chain rules were tried on the cells that don't wait, and none that waits is less than one of these
pub record Closing (rules : List Rule) (constant : Option ℤ) (old row : List (Option Cell)) (waiting : List (Option Key)) : Type 0 where
  pub same_length : length row ≡ length old
  pub matches : Matches row waiting
  pub lower : (n : ℕ) (b : Cell) → CellAt old n b → (c : Cell) × CellAt row n c × Leq_cells c b
  pub made : (n : ℕ) (c : Cell) → CellAt row n c → ((b : Cell) × CellAt old n b × Same c b) ⊎ ((f : FromChain rules constant row n c) × (get_or waiting f.from None ≡ None))
  pub closed : (j : ℕ) (r : Rule) (m : ℕ) (b : Cell) → IsChain rules constant j m r → CellAt row m b → get_or waiting m None ≡ None → (c : Cell) × CellAt row r.left c × Leq_cells c (made_from b j r)
  pub settled : (x : ℕ) (b : Cell) (n : ℕ) (key : Key) → CellAt row x b → get_or waiting x None ≡ None → get_or waiting n None ≡ Some key → Leq b.cost b.count key.cost key.count
  pub many : (base : ℕ) → ((n : ℕ) (b : Cell) → CellAt old n b → b.count ≤ base) → (n : ℕ) (c : Cell) → CellAt row n c → (c.count ≤ base + dones row waiting) × (c.count < base + length old)
  pub cheap : AreCheap rules → IsCheap old → IsCheap row

waits_all : (row : List (Option Cell)) (waiting : List (Option Key)) → waiting ≡ waiting_of row → (n : ℕ) (b : Cell) → CellAt row n b → get_or waiting n None ≡ key_of (Some b)
waits_all row waiting all n b at = ap (λ (l : List (Option Key)). get_or l n None) all ∙ key_at row n ∙ ap key_of at

pub start : (rules : List Rule) (constant : Option ℤ) (old : List (Option Cell)) (waiting : List (Option Key)) → waiting ≡ waiting_of old → Matches old waiting → Closing rules constant old old waiting
start rules constant old waiting all fit = record {
  same_length = refl;
  matches = fit;
  lower = λ n b at. (b, at, leq_refl b);
  made = λ n c at. inl (c, at, (refl, refl, refl));
  closed = λ j r m b ch at done. let e = waits_all old waiting all m b at in cc;
  settled = λ x b n key at done w. let e = waits_all old waiting all x b at in cc;
  many = λ base h n c at. let a = h n c at in let b = within old n c at in (omega arith, omega arith);
  cheap = λ _ h. h;
}

pub over : (rules : List Rule) (constant : Option ℤ) (old row : List (Option Cell)) (waiting : List (Option Key)) → Closing rules constant old row waiting → ((n : ℕ) → get_or waiting n None ≡ None) → Closed rules constant old row
over rules constant old row waiting s idle = record {
  same_length = s.same_length;
  lower = s.lower;
  made = λ n c at. ⊎_elim (λ l. inl l) (λ r. inr r.0) (s.made n c at);
  closed = λ j r m b ch at. s.closed j r m b ch at (idle m);
  many = λ base h n c at. (s.many base h n c at).1;
  cheap = s.cheap;
}

module _ (rules : List Rule) (constant : Option ℤ) (old row : List (Option Cell)) (waiting : List (Option Key)) (s : Closing rules constant old row waiting) (m : ℕ) (key : Key) (c : Cell) (here : CellAt row m c) (waiting1 : List (Option Key)) (taken : Takes waiting (Some (m, key)) waiting1) (row2 : List (Option Cell)) (waiting2 : List (Option Key)) (sp : Spread rules constant m c row waiting1 row2 waiting2 Everywhere) (fit : Matches row2 waiting2) where
  is_key : (c.cost ≡ key.cost) × (c.count ≡ key.count)
  is_key = key_is c key (sym (ap key_of here) ∙ s.matches.cells m key taken.0)

  gone : get_or waiting1 m None ≡ None
  gone = ap (λ (l : List (Option Key)). get_or l m None) taken.2 ∙ get_or-set_same waiting m None None (within waiting m key taken.0)

  others : (x : ℕ) → x ≢ m → get_or waiting1 x None ≡ get_or waiting x None
  others x ne = ap (λ (l : List (Option Key)). get_or l x None) taken.2 ∙ get_or-set_other waiting m x None None ne

  is_here : (x : ℕ) (b : Cell) → x ≡ m → CellAt row x b → b ≡ c
  is_here x b e at = let F : ℕ → Type 0 = λ z. CellAt row z b in let f : Some b ≡ Some c = sym (subst F e at) ∙ here in cc

  -- what is done before the spreading is at most the cell that is spread
  done1 : (x : ℕ) (b : Cell) → CellAt row x b → get_or waiting1 x None ≡ None → Leq b.cost b.count c.cost c.count
  done1 x b at done =
      let k = is_key in
      let k0 = k.0 in
      let k1 = k.1 in
      ⊎_elim
      (λ e. let f = is_here x b e at in let g = ap (λ (z : Cell). z.cost) f in let h = ap (λ (z : Cell). z.count) f in (omega arith, λ q. omega arith))
      (λ ne. let f = s.settled x b m key at (sym (others x ne) ∙ done) taken.0 in (omega arith, λ q. omega arith))
      (same_or_not x m)

  survives : (x : ℕ) (b : Cell) → CellAt row x b → get_or waiting1 x None ≡ None → CellAt row2 x b × (get_or waiting2 x None ≡ None)
  survives x b at done =
      let l = sp.lower x b at in
      ⊎_elim
      (λ same. let e : Some l.0 ≡ Some b = sym same.0 ∙ at in (l.1 ∙ e, same.1 ∙ done))
      (λ (j, r, ch, left, is, beats, waits).
      let q = done1 x b at done in
      let F : Cell → Type 0 = λ z. Leq_cells b z in
      let k : Leq_cells b (made_from c j r) = (omega arith, λ e. omega arith, λ e f. omega arith) in
      absurd (beats b at (subst F (sym is) k)))
      (sp.made x l.0 l.1)

  was_done : (x : ℕ) (b : Cell) → CellAt row2 x b → get_or waiting2 x None ≡ None → CellAt row x b × (get_or waiting1 x None ≡ None)
  was_done x b at done =
      ⊎_elim
      (λ same. (same.0, sym same.1 ∙ done))
      (λ (j, r, ch, left, is, beats, waits). let e : Some (record { cost = b.cost; count = b.count }) ≡ None = sym waits ∙ done in cc)
      (sp.made x b at)

  lower2 : (n : ℕ) (b : Cell) → CellAt old n b → (x : Cell) × CellAt row2 n x × Leq_cells x b
  lower2 n b at = let a = s.lower n b at in let z = sp.lower n a.0 a.1 in (z.0, z.1, leq_trans z.0 a.0 b z.2 a.2)

  here2 : CellAt row2 m c × (get_or waiting2 m None ≡ None)
  here2 = survives m c here gone

  not_taken : (x : ℕ) → get_or waiting x None ≡ None → x ≢ m
  not_taken x done e = let F : ℕ → Type 0 = λ z. get_or waiting z None ≡ None in let f = subst F e done in let g = taken.0 in cc

  still : (x : ℕ) (b : Cell) → CellAt row x b → get_or waiting x None ≡ None → CellAt row2 x b × (get_or waiting2 x None ≡ None)
  still x b at done = survives x b at (others x (not_taken x done) ∙ done)

  made2 : (n : ℕ) (x : Cell) → CellAt row2 n x → ((b : Cell) × CellAt old n b × Same x b) ⊎ ((f : FromChain rules constant row2 n x) × (get_or waiting2 f.from None ≡ None))
  made2 n x at =
      ⊎_elim
      (λ same.
      ⊎_elim
      (λ l. inl l)
      (λ (f, done).
      let a = still f.from f.cell f.at done in
      inr (record { place = f.place; rule = f.rule; from = f.from; cell = f.cell; chain = f.chain; left = f.left; at = a.0; same = f.same }, a.1))
      (s.made n x same.0))
      (λ (j, r, ch, left, is, beats, waits). inr (record { place = j; rule = r; from = m; cell = c; chain = ch; left = left; at = here2.0; same = (ap (λ (z : Cell). z.cost) is, ap (λ (z : Cell). z.count) is, ap (λ (z : Cell). z.rule) is) }, here2.1))
      (sp.made n x at)

  closed2 : (j : ℕ) (r : Rule) (x : ℕ) (b : Cell) → IsChain rules constant j x r → CellAt row2 x b → get_or waiting2 x None ≡ None → (z : Cell) × CellAt row2 r.left z × Leq_cells z (made_from b j r)
  closed2 j r x b ch at done =
      let was = was_done x b at done in
      ⊎_elim
      (λ e.
      let F : ℕ → Type 0 = λ z. IsChain rules constant j z r in
      let a = sp.closed j r tt (subst F e ch) in
      let G : Cell → Type 0 = λ z. Leq_cells a.0 (made_from z j r) in
      (a.0, a.1, subst G (sym (is_here x b e was.0)) a.2))
      (λ ne.
      let a = s.closed j r x b ch was.0 (sym (others x ne) ∙ was.1) in
      let z = sp.lower r.left a.0 a.1 in
      (z.0, z.1, leq_trans z.0 a.0 (made_from b j r) z.2 a.2))
      (same_or_not x m)

  settled2 : (x : ℕ) (b : Cell) (n : ℕ) (k : Key) → CellAt row2 x b → get_or waiting2 x None ≡ None → get_or waiting2 n None ≡ Some k → Leq b.cost b.count k.cost k.count
  settled2 x b n k at done w =
      let was = was_done x b at done in
      let q = done1 x b was.0 was.1 in
      let z = cell_with (get_or row2 n None) k (fit.cells n k w) in
      let z2 = z.2 in
      let z3 = z.3 in
      let k0 = is_key.0 in
      let k1 = is_key.1 in
      ⊎_elim
      (λ same.
      let w1 = sym same.1 ∙ w in
      let ne : n ≢ m = λ e. (let F : ℕ → Type 0 = λ y. get_or waiting1 y None ≡ Some k in let f = subst F e w1 in let g = gone in cc) in
      let f = taken.1 n k (sym (others n ne) ∙ w1) in
      (omega arith, λ e. omega arith))
      (λ (j, r, ch, left, is, beats, waits). let f = ap (λ (y : Cell). y.cost) is in let g = ap (λ (y : Cell). y.count) is in (omega arith, λ e. omega arith))
      (sp.made n z.0 z.1)

  alike : (k : ℕ) → k ≢ m → done_at row2 waiting2 k ≡ done_at row waiting k
  alike k ne = by_cases (get_or row2 k None) (get_or row k None) refl refl
    where
      fresh : (b : Option Cell) (w : Option Key) → get_or row k None ≡ b → get_or waiting k None ≡ w → (x : Cell) → get_or waiting2 k None ≡ key_of (Some x) → done_weight b w ≡ 0
      fresh None w f g x waits = refl
      fresh (Some y) (Some w) f g x waits = refl
      fresh (Some y) None f g x waits = let a = still k y f g in let b = a.1 in cc

      by_cases : (a b : Option Cell) → get_or row2 k None ≡ a → get_or row k None ≡ b → done_at row2 waiting2 k ≡ done_at row waiting k
      by_cases None None e f = ap (λ (o : Option Cell). done_weight o (get_or waiting2 k None)) e ∙ sym (ap (λ (o : Option Cell). done_weight o (get_or waiting k None)) f)
      by_cases None (Some y) e f = let a = sp.lower k y f in let b = a.1 in cc
      by_cases (Some x) b e f =
          ⊎_elim
          (λ same.
          let one = ap (λ (o : Option Cell). done_weight o (get_or waiting2 k None)) (e ∙ sym same.0) in
          let two = ap (λ (w : Option Key). done_weight (get_or row k None) w) (same.1 ∙ others k ne) in
          one ∙ two)
          (λ (j, r, ch, left, is, beats, waits).
          waits_weight (get_or row2 k None) (get_or waiting2 k None) (record { cost = x.cost; count = x.count }) waits
          ∙ sym (fresh (get_or row k None) (get_or waiting k None) refl refl x waits))
          (sp.made k x e)

  -- one cell more is done
  at_m : done_at row2 waiting2 m ≡ done_at row waiting m + 1
  at_m =
      let new = ap (λ (o : Option Cell). done_weight o (get_or waiting2 m None)) here2.0 ∙ ap (λ (w : Option Key). done_weight (Some c) w) here2.1 in
      let before = waits_weight (get_or row m None) (get_or waiting m None) key taken.0 in
      omega arith

  dones2 : dones row2 waiting2 ≡ dones row waiting + 1
  dones2 =
      let f = done_at row waiting in
      let g = done_at row2 waiting2 in
      ap (total g) sp.same_length ∙ total_more f g (length row) m (within row m c here) alike at_m

  weight2 : (n : ℕ) → done_at row2 waiting2 n ≡ done_at row waiting n + (if n == m then 1 else 0)
  weight2 n =
      ⊎_elim
      (λ same.
      let F : ℕ → Type 0 = λ z. done_at row2 waiting2 z ≡ done_at row waiting z + 1 in
      let there = subst F (sym same.1) at_m in
      let test : ◌≡◌ {A = ℕ} (if n == m then 1 else 0) 1 = ap (λ (b : Bool). if b then 1 else 0) same.0 in
      omega arith)
      (λ other.
      let left = alike n other.1 in
      let test : ◌≡◌ {A = ℕ} (if n == m then 1 else 0) 0 = ap (λ (b : Bool). if b then 1 else 0) other.0 in
      omega arith)
      (eqb_tells n m)

  done_of : (p : MPattern) → chain_done row2 waiting2 p ≡ chain_done row waiting p + root_weight (Chain m) p
  done_of (PHole n) = weight2 n
  done_of (PLeaf op) = refl
  done_of (POne op p) = refl
  done_of (PTwo op p q) = refl

  -- the chain rules from the cell were tried besides
  pub more_done : (rs : List Rule) → chains_done row2 waiting2 rs ≡ chains_done row waiting rs + with_root (Chain m) rs
  more_done [] = refl
  more_done (r ∷ rs) = let a = done_of (pattern_of r.pattern) in let b = more_done rs in let e = with_more (Chain m) r rs in omega arith

  many2 : (base : ℕ) → ((n : ℕ) (b : Cell) → CellAt old n b → b.count ≤ base) → (n : ℕ) (z : Cell) → CellAt row2 n z → (z.count ≤ base + dones row2 waiting2) × (z.count < base + length old)
  many2 base h n z at =
      let a = s.many base h m c here in
      let d = dones2 in
      ⊎_elim
      (λ same. let f = s.many base h n z same.0 in (omega arith, omega arith))
      (λ (j, r, ch, left, is, beats, waits).
      let f = ap (λ (y : Cell). y.count) is in
      let few = dones_lt row2 waiting2 n z (record { cost = z.cost; count = z.count }) at waits in
      let one = sp.same_length in
      let two = s.same_length in
      (omega arith, omega arith))
      (sp.made n z at)

  cheap2 : AreCheap rules → IsCheap old → IsCheap row2
  cheap2 rc h n z at =
      let a = s.cheap rc h m c here in
      ⊎_elim
      (λ same. s.cheap rc h n z same.0)
      (λ (j, r, ch, left, is, beats, waits). let f = ap (λ (y : Cell). y.count) is in let g = ap (λ (y : Cell). y.cost) is in let k = rc j r ch.0.0 in omega arith)
      (sp.made n z at)

  pub step : Closing rules constant old row2 waiting2
  step = record {
    same_length = sp.same_length ∙ s.same_length;
    matches = fit;
    lower = lower2;
    made = made2;
    closed = closed2;
    settled = settled2;
    many = many2;
    cheap = cheap2;
  }

  -- one cell fewer is left
  pub progress : (dones row2 waiting2 ≡ dones row waiting + 1) × (dones row waiting < length row) × (length row2 ≡ length row)
  progress = (dones2, dones_lt row waiting m c key here taken.0, sp.same_length)
