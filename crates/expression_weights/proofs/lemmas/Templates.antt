-- What templates cost at most: where they are used once more, and where a block is only asked for them.
use Rattle.std.proofs.Common.{◌≡◌, ⊎_elim, ℕ, zero, suc, ◌+◌, ◌<◌, ◌≤◌, Bool, true, false, true≢false, List, [], ◌∷◌, ◌++◌, inl, inr, refl, sym, ap, ◌∙◌, subst, arith}
use Rattle.std.specs.Prelude.{◌⊎◌, ◌||◌, not, Option, Some, None, slice_get, length}
use Rattle.std.proofs.lemmas.Bool.{cases_eq}
use Rattle.op_forest.specs.Nodes.{Head}
use Rattle.op_forest.specs.declared.op.Op.{Op}
use Rattle.dag_forest.specs.declared.entry.Entry.{Entry}
use Rattle.dag_forest.specs.declared.entry.Entry.TheVariants as entry
use Rattle.dag_forest.specs.declared.key.Key.{Key}
use Rattle.dag_forest.specs.declared.kids.Kids.{Kids}
use Rattle.dag_forest.specs.declared.kids.Kids.TheVariants as kids
use Rattle.dag_forest.specs.declared.parts.Parts.{Parts}
use Rattle.dag_forest.specs.Choice.{hits, in_kids, is_computed, is_leaf}
use Rattle.dag_forest.specs.Entries.{is_call, AreBelow}
use Rattle.dag_forest.specs.Tally.{keys_of, key_behind, node_count, AreFormed}
use Rattle.dag_seam.specs.Rooms.{AreActs}
use Rattle.dag_seam.proofs.lemmas.Acts.{IsAny, HasParts}
use Rattle.dag_seam.proofs.lemmas.Keys.{are_earlier, within, count_keys}
use Rattle.dag_sizes.proofs.lemmas.Uses.{hit, miss}
use Rattle.dag_sizes.proofs.lemmas.Weighing.{no_leaf}
use Rattle.c_rows_agree.specs.Templates.{Template, Given, Leaf, One, Two, Root}
use Rattle.lowered_forms.specs.Asked.{Asked, key_place, found_or_new, asked_parts, with_kids, asked, rooted, rooted_one}
use Rattle.lowered_forms.proofs.lemmas.Fronts.{asked_adds}
use Rattle.lowered_forms.proofs.lemmas.KeyPlaces.{found_there}
use Rattle.expression_weights.specs.Prices.{acts_in, Costs}
use Rattle.expression_weights.specs.Templates.{Priced, Asks}
use Rattle.expression_weights.proofs.lemmas.Priced.{with_use, IsCheap, any_cheap, plain_cheap, cheap_more}
use Rattle.expression_weights.proofs.lemmas.Blocks.{mapped, costs_more, dropped, spent, any_spent, count_value, with_node, with_root}

pub priced_asks : (k : ℕ) (t : Template) → Priced k t → Asks k t
priced_asks k (Given n) h = tt
priced_asks k (Leaf x) h = h
priced_asks k (One x a) h = (h.0, h.2, h.3, h.4)
priced_asks k (Two x a b) h = (h.0, h.2, h.3, h.4, h.5, h.6)

pub priced_more : (j k : ℕ) (t : Template) → j ≤ k → Priced j t → Priced k t
priced_more j k (Given n) l h = omega (arith, l, h)
priced_more j k (Leaf x) l h = (h.0, (let g = h.1 in omega (arith, l, g)))
priced_more j k (One x a) l h = (h.0, (let g = h.1 in omega (arith, l, g)), h.2, h.3, (let g = h.4 in omega (arith, l, g)))
priced_more j k (Two x a b) l h = (h.0, (let g = h.1 in omega (arith, l, g)), h.2, h.3, h.4, h.5, (let g = h.6 in omega (arith, l, g)))

pub asks_more : (j k : ℕ) (t : Template) → j ≤ k → Asks j t → Asks k t
asks_more j k (Given n) l h = tt
asks_more j k (Leaf x) l h = (h.0, (let g = h.1 in omega (arith, l, g)))
asks_more j k (One x a) l h = (h.0, h.1, h.2, (let g = h.3 in omega (arith, l, g)))
asks_more j k (Two x a b) l h = (h.0, h.1, h.2, h.3, h.4, (let g = h.5 in omega (arith, l, g)))

-- ---- formed blocks go back

pub formed_split : (es fs : List Entry) (n : ℕ) → AreFormed (es ++ fs) n → AreFormed es n × AreFormed fs (n + node_count es)
formed_split [] fs n h = (tt, (let e : n ≡ n + 0 = omega arith in subst (λ k. AreFormed fs k) e h))
formed_split (entry.Value x ∷ es) fs n h = let r = formed_split es fs (suc n) h.1 in let e : suc n + node_count es ≡ n + suc (node_count es) = omega arith in ((h.0, r.0), subst (λ k. AreFormed fs k) e r.1)
formed_split (entry.Root x ∷ es) fs n h = let r = formed_split es fs n h.1 in ((h.0, r.0), r.1)

below_more : (m n : ℕ) (k : Kids) → m ≤ n → AreBelow m k → AreBelow n k
below_more m n kids.Zero l h = tt
below_more m n (kids.One a) l h = omega (arith, l, h)
below_more m n (kids.Two a c) l h = (let g = h.0 in omega (arith, l, g), let g = h.1 in omega (arith, l, g))

below_in : (n m : ℕ) (k : Kids) → AreBelow n k → 1 ≤ in_kids k m → m < n
below_in n m kids.Zero h u = absurd (omega (arith, u))
below_in n m (kids.One a) h u = ⊎_elim (λ e. omega (arith, e, h)) (λ ne. let z = miss m a ne in absurd (omega (arith, z, u))) (cases_eq m a)
below_in n m (kids.Two a c) h u = ⊎_elim (λ e. let g = h.0 in omega (arith, e, g)) (λ ne. ⊎_elim (λ e. let g = h.1 in omega (arith, e, g)) (λ ne2. let z = miss m a ne in let y = miss m c ne2 in absurd (omega (arith, z, y, u))) (cases_eq m c)) (cases_eq m a)

pub last_formed : (es : List Entry) (x : Parts) → AreFormed (es ++ entry.Value x ∷ []) 0 → AreFormed es 0 × AreBelow (node_count es) x.kids
last_formed es x h = let r = formed_split es (entry.Value x ∷ []) 0 h in let e : 0 + node_count es ≡ node_count es = omega arith in (r.0, subst (λ k. AreBelow k x.kids) e r.1.0)

pub root_formed : (es : List Entry) (x : Parts) → AreFormed (es ++ entry.Root x ∷ []) 0 → AreFormed es 0 × AreBelow (node_count es) x.kids
root_formed es x h = let r = formed_split es (entry.Root x ∷ []) 0 h in let e : 0 + node_count es ≡ node_count es = omega arith in (r.0, subst (λ k. AreBelow k x.kids) e r.1.0)

found_below : (o : Option ℕ) (x : Parts) (es : List Entry) → key_place (key_behind es x) (keys_of es) 0 ≡ o → AreFormed (found_or_new o x es).entries 0 → AreFormed es 0 × AreBelow (node_count es) x.kids
found_below (Some n) x es e h =
    let got = found_there (key_behind es x) (keys_of es) n e in
    let w = within (keys_of es) n (key_behind es x) got in
    let c = count_keys es in
    (h, below_more n (node_count es) x.kids (omega (arith, w, c)) (are_earlier es h n (key_behind es x) got))
found_below None x es e h = last_formed es x h

parts_below : (x : Parts) (es : List Entry) → AreFormed (asked_parts x es).entries 0 → AreFormed es 0 × AreBelow (node_count es) x.kids
parts_below x es h = found_below (key_place (key_behind es x) (keys_of es) 0) x es refl h

pub asked_formed : (t : Template) (es : List Entry) → AreFormed (asked t es).entries 0 → AreFormed es 0
asked_formed t es h = let f = (asked_adds t es).front in (formed_split es f.more 0 (subst (λ z. AreFormed z 0) f.is h)).0

found_within : (o : Option ℕ) (x : Parts) (es : List Entry) → key_place (key_behind es x) (keys_of es) 0 ≡ o → (found_or_new o x es).node < node_count (found_or_new o x es).entries
found_within (Some n) x es e = let w = within (keys_of es) n (key_behind es x) (found_there (key_behind es x) (keys_of es) n e) in let c = count_keys es in omega (arith, w, c)
found_within None x es e = let c = count_keys es in let d = count_value es x in omega (arith, c, d)

pub parts_within : (x : Parts) (es : List Entry) → (asked_parts x es).node < node_count (asked_parts x es).entries
parts_within x es = found_within (key_place (key_behind es x) (keys_of es) 0) x es refl

-- ---- one node

-- What a block costs where it was asked for a node, with a use of it and without; and it has no new nodes, or this is the last.
pub record Got (es : List Entry) (due : ℕ → ℕ) (b k j : ℕ) (a : Asked) : Type 0 where
  pub used : Costs a.entries (with_use a.node due) (b + k)
  pub unused : Costs a.entries due (b + j)
  pub last : (a.entries ≡ es) ⊎ (suc a.node ≡ node_count a.entries)

-- an operand is the last node
abbrev IsNewest : List Entry → Kids → Type 0
IsNewest es k = (m : ℕ) × (1 ≤ in_kids k m) × (suc m ≡ node_count es)

same_parts : (es : List Entry) (x : Parts) (k n m : ℕ) (y : Parts) → slice_get (keys_of es) n ≡ Some (key_behind es x) → IsCheap k x → HasParts (keys_of es) m y → m ≡ n → IsCheap k y
same_parts es x k n m y got cheap has e =
    let s : Some has.0 ≡ Some (key_behind es x) = sym has.1 ∙ ap (λ i. slice_get (keys_of es) i) e ∙ got in
    let q : has.0 ≡ key_behind es x = cc in
    let p : x ≡ y = ap (λ (z : Key). z.parts) (sym q) ∙ has.2 in
    subst (λ z. IsCheap k z) p cheap

found_got : (o : Option ℕ) (j k : ℕ) (x : Parts) (es0 es : List Entry) (due due0 : ℕ → ℕ) (b i : ℕ) → key_place (key_behind es x) (keys_of es) 0 ≡ o
    → is_call x.operator.op ≡ false → AreFormed es 0 → suc i ≤ j → suc i ≤ k → IsCheap k x → (es ≡ es0) ⊎ IsNewest es x.kids
    → ((m : ℕ) → in_kids x.kids m + due m ≡ due0 m) → Costs es0 due b → Costs es due0 (b + i) → Got es0 due b k j (found_or_new o x es)
found_got (Some n) j k x es0 es due due0 b i e plain formed lj lk cheap which is h0 h =
    let got = found_there (key_behind es x) (keys_of es) n e in
    let w = within (keys_of es) n (key_behind es x) got in
    let c = count_keys es in
    ⊎_elim
    (λ q.
    let h1 : Costs es due b = subst (λ z. Costs z due b) (sym q) h0 in
    record {
      used = spent k es due b n (omega (arith, w, c)) (mapped (HasParts (keys_of es)) (λ m y. m ≡ n → IsCheap k y) (acts_in es) (λ m y p f. same_parts es x k n m y got cheap p f) h1.known) h1;
      unused = costs_more es due b (b + j) (omega arith) h1;
      last = inl q;
    })
    (λ q.
    let l = below_in n q.0 x.kids (are_earlier es formed n (key_behind es x) got) q.1 in
    let f = q.2 in
    absurd (omega (arith, l, f, w, c)))
    which
found_got None j k x es0 es due due0 b i e plain formed lj lk cheap which is h0 h =
    let new = with_node es x due0 due (b + i) plain is h in
    let c = count_keys es in
    let used1 : Costs (es ++ entry.Value x ∷ []) (with_use (length (keys_of es)) due) ((b + i) + 1) = subst (λ n. Costs (es ++ entry.Value x ∷ []) (with_use n due) ((b + i) + 1)) (sym c) new in
    record {
      used = costs_more (es ++ entry.Value x ∷ []) (with_use (length (keys_of es)) due) ((b + i) + 1) (b + k) (omega (arith, lk)) used1;
      unused = dropped (es ++ entry.Value x ∷ []) (with_use (length (keys_of es)) due) due (b + j) (λ m. omega arith) (costs_more (es ++ entry.Value x ∷ []) (with_use (length (keys_of es)) due) ((b + i) + 1) (b + j) (omega (arith, lj)) used1);
      last = inr (let d = count_value es x in omega (arith, c, d));
    }

parts_got : (j k : ℕ) (x : Parts) (es0 es : List Entry) (due due0 : ℕ → ℕ) (b i : ℕ)
    → is_call x.operator.op ≡ false → AreFormed es 0 → suc i ≤ j → suc i ≤ k → IsCheap k x → (es ≡ es0) ⊎ IsNewest es x.kids
    → ((m : ℕ) → in_kids x.kids m + due m ≡ due0 m) → Costs es0 due b → Costs es due0 (b + i) → Got es0 due b k j (asked_parts x es)
parts_got j k x es0 es due due0 b i plain formed lj lk cheap which is h0 h =
    found_got (key_place (key_behind es x) (keys_of es) 0) j k x es0 es due due0 b i refl plain formed lj lk cheap which is h0 h

-- ---- templates

leaf_plain : (o : Op) → is_leaf o ≡ true → is_call o ≡ false
leaf_plain o h = by (is_call o) refl
  where
    by : (q : Bool) → is_call o ≡ q → q ≡ false
    by true e = absurd (true≢false (sym h ∙ no_leaf o e))
    by false e = refl

-- two operands, from left to right
pub record Pair (es : List Entry) (due : ℕ → ℕ) (b i : ℕ) (p q : Asked) : Type 0 where
  pub to_come : ℕ → ℕ
  pub is : (m : ℕ) → in_kids (kids.Two p.node q.node) m + due m ≡ to_come m
  pub costs : Costs q.entries to_come (b + i)
  pub which : (q.entries ≡ es) ⊎ IsNewest q.entries (kids.Two p.node q.node)

joined : (es : List Entry) (due : ℕ → ℕ) (b i j k l : ℕ) (p q : Asked) → Got es due b i k p → Got p.entries (with_use p.node due) (b + i) j l q → Pair es due b (i + j) p q
joined es due b i j k l p q g1 g2 = record {
  to_come = with_use q.node (with_use p.node due);
  is = λ m. omega arith;
  costs = costs_more q.entries (with_use q.node (with_use p.node due)) ((b + i) + j) (b + (i + j)) (omega arith) g2.used;
  which = ⊎_elim
      (λ e. ⊎_elim
      (λ f. inl (e ∙ f))
      (λ f. inr (p.node, (let g = hit p.node p.node refl in omega (arith, g)), f ∙ ap node_count (sym e)))
      g1.last)
      (λ f. inr (q.node, (let g = hit q.node q.node refl in omega (arith, g)), f))
      g2.last;
}

-- the first one is a node that is there once the second one is
given_first : (es : List Entry) (due : ℕ → ℕ) (b i j l n : ℕ) (q : Asked) → 10 ≤ i → n < node_count q.entries → Got es due b j l q → Pair es due b (i + j) (record { node = n; entries = es }) q
given_first es due b i j l n q ten w g = record {
  to_come = with_use n (with_use q.node due);
  is = λ m. omega arith;
  costs = costs_more q.entries (with_use n (with_use q.node due)) ((b + j) + 10) (b + (i + j)) (omega (arith, ten)) (any_spent q.entries (with_use q.node due) (b + j) n w g.used);
  which = ⊎_elim (λ e. inl e) (λ f. inr (q.node, (let g = hit q.node q.node refl in omega (arith, g)), f)) g.last;
}

abbrev GotsFor : Template → Type 0
GotsFor t = (k : ℕ) (es : List Entry) (due : ℕ → ℕ) (b : ℕ) → AreFormed (asked t es).entries 0 → (asked t es).node < node_count (asked t es).entries → Priced k t → Costs es due b → Got es due b k k (asked t es)

-- a first operand that is no earlier node is asked for
then_got : (i j : ℕ) (a c : Template) → GotsFor a → GotsFor c → (es : List Entry) (due : ℕ → ℕ) (b : ℕ) → AreFormed (asked c (asked a es).entries).entries 0
    → (asked a es).node < node_count (asked a es).entries → (asked c (asked a es).entries).node < node_count (asked c (asked a es).entries).entries
    → Priced i a → Priced j c → Costs es due b → Pair es due b (i + j) (asked a es) (asked c (asked a es).entries)
then_got i j a c fa fc es due b formed w1 w2 p1 p2 h =
    let p = asked a es in
    let g = fa i es due b (asked_formed c p.entries formed) w1 p1 h in
    joined es due b i j i j p (asked c p.entries) g (fc j p.entries (with_use p.node due) (b + i) formed w2 p2 g.used)

both_got : (i j : ℕ) (a c : Template) → GotsFor a → GotsFor c → (es : List Entry) (due : ℕ → ℕ) (b : ℕ) → AreFormed (asked c (asked a es).entries).entries 0
    → (asked a es).node < node_count (asked c (asked a es).entries).entries → (asked c (asked a es).entries).node < node_count (asked c (asked a es).entries).entries
    → Priced i a → Priced j c → Costs es due b → Pair es due b (i + j) (asked a es) (asked c (asked a es).entries)
both_got i j (Given n) c fa fc es due b formed w1 w2 p1 p2 h = given_first es due b i j j n (asked c es) p1 w1 (fc j es due b formed w2 p2 h)
both_got i j (Leaf x) c fa fc es due b formed w1 w2 p1 p2 h = then_got i j (Leaf x) c fa fc es due b formed (parts_within (with_kids x kids.Zero) es) w2 p1 p2 h
both_got i j (One x a) c fa fc es due b formed w1 w2 p1 p2 h =
    then_got i j (One x a) c fa fc es due b formed (parts_within (with_kids x (kids.One (asked a es).node)) (asked a es).entries) w2 p1 p2 h
both_got i j (Two x a d) c fa fc es due b formed w1 w2 p1 p2 h =
    let p3 = asked a es in
    let p4 = asked d p3.entries in
    then_got i j (Two x a d) c fa fc es due b formed (parts_within (with_kids x (kids.Two p3.node p4.node)) p4.entries) w2 p1 p2 h

-- where its operands are earlier nodes
pub asked_got : (j k : ℕ) (t : Template) (es : List Entry) (due : ℕ → ℕ) (b : ℕ) → AreFormed (asked t es).entries 0 → (asked t es).node < node_count (asked t es).entries
    → Priced k t → Asks j t → Costs es due b → Got es due b k j (asked t es)
asked_got j k (Given n) es due b formed w price asks h = record {
  used = costs_more es (with_use n due) (b + 10) (b + k) (omega (arith, price)) (any_spent es due b n w h);
  unused = costs_more es due b (b + j) (omega arith) h;
  last = inl refl;
}
asked_got j k (Leaf x) es due b formed w price asks h =
    let y = with_kids x kids.Zero in
    let below = parts_below y es formed in
    let no : is_computed y ≡ false = ap not price.0 in
    let lk = price.1 in
    let lj = asks.1 in
    parts_got j k y es es due due b 0 (leaf_plain x.operator.op price.0) below.0 (omega (arith, lj)) (omega (arith, lk)) (cheap_more 1 k y (omega (arith, lk)) (plain_cheap y no)) (inl refl)
    (λ m. omega arith) h (costs_more es due b (b + 0) (omega arith) h)
asked_got j k (One x a) es due b formed w price asks h =
    let p = asked a es in
    let y = with_kids x (kids.One p.node) in
    let below = parts_below y p.entries formed in
    let i = price.2 in
    let g = asked_got i i a es due b below.0 below.1 price.3 (priced_asks i a price.3) h in
    let lk = price.1 in
    let li = price.4 in
    let got = parts_got (suc i) k y es p.entries due (with_use p.node due) b i price.0 below.0 (omega arith) (omega (arith, li)) (cheap_more 10 k y (omega (arith, lk)) (any_cheap y))
    (⊎_elim (λ e. inl e) (λ f. inr (p.node, (let o = hit p.node p.node refl in omega (arith, o)), f)) g.last) (λ m. omega arith) h g.used in
    let i2 = asks.1 in
    let g2 = asked_got i2 i2 a es due b below.0 below.1 asks.2 (priced_asks i2 a asks.2) h in
    let lj = asks.3 in
    let got2 = parts_got j (10 + suc i2) y es p.entries due (with_use p.node due) b i2 asks.0 below.0 (omega (arith, lj)) (omega arith) (cheap_more 10 (10 + suc i2) y (omega arith) (any_cheap y))
    (⊎_elim (λ e. inl e) (λ f. inr (p.node, (let o = hit p.node p.node refl in omega (arith, o)), f)) g2.last) (λ m. omega arith) h g2.used in
    record { used = got.used; unused = got2.unused; last = got.last }
asked_got j k (Two x a c) es due b formed w price asks h =
    let p = asked a es in
    let q = asked c p.entries in
    let y = with_kids x (kids.Two p.node q.node) in
    let below = parts_below y q.entries formed in
    let fa : GotsFor a = (λ k1 es1 due1 b1 f1 w1 p1 h1. asked_got k1 k1 a es1 due1 b1 f1 w1 p1 (priced_asks k1 a p1) h1) in
    let fc : GotsFor c = (λ k1 es1 due1 b1 f1 w1 p1 h1. asked_got k1 k1 c es1 due1 b1 f1 w1 p1 (priced_asks k1 c p1) h1) in
    let i = price.2 + price.3 in
    let g = both_got price.2 price.3 a c fa fc es due b below.0 below.1.0 below.1.1 price.4 price.5 h in
    let lk = price.1 in
    let li = price.6 in
    let got = parts_got (suc i) k y es q.entries due g.to_come b i price.0 below.0 (omega arith) (omega (arith, li)) (cheap_more 10 k y (omega (arith, lk)) (any_cheap y)) g.which g.is h g.costs in
    let i2 = asks.1 + asks.2 in
    let g2 = both_got asks.1 asks.2 a c fa fc es due b below.0 below.1.0 below.1.1 asks.3 asks.4 h in
    let lj = asks.5 in
    let got2 = parts_got j (10 + suc i2) y es q.entries due g2.to_come b i2 asks.0 below.0 (omega (arith, lj)) (omega arith) (cheap_more 10 (10 + suc i2) y (omega arith) (any_cheap y)) g2.which g2.is h g2.costs in
    record { used = got.used; unused = got2.unused; last = got.last }

gots_for : (t : Template) → GotsFor t
gots_for t k es due b formed w price h = asked_got k k t es due b formed w price (priced_asks k t price) h

pub pair_got : (i j : ℕ) (a c : Template) (es : List Entry) (due : ℕ → ℕ) (b : ℕ) → AreFormed (asked c (asked a es).entries).entries 0
    → (asked a es).node < node_count (asked c (asked a es).entries).entries → (asked c (asked a es).entries).node < node_count (asked c (asked a es).entries).entries
    → Priced i a → Priced j c → Costs es due b → Pair es due b (i + j) (asked a es) (asked c (asked a es).entries)
pair_got i j a c es due b formed w1 w2 p1 p2 h = both_got i j a c (gots_for a) (gots_for c) es due b formed w1 w2 p1 p2 h

-- ---- roots

pub rooted_costs : (i j : ℕ) (r : Root) (es : List Entry) (b : ℕ) → AreFormed (rooted r es) 0 → Priced i r.left → Priced j r.right → Costs es (λ m. 0) b → Costs (rooted r es) (λ m. 0) (b + suc (i + j))
rooted_costs i j r es b formed p1 p2 h =
    let p = asked r.left es in
    let q = asked r.right p.entries in
    let y = with_kids r.head (kids.Two p.node q.node) in
    let below = root_formed q.entries y formed in
    let g = pair_got i j r.left r.right es (λ m. 0) b below.0 below.1.0 below.1.1 p1 p2 h in
    costs_more (rooted r es) (λ m. 0) ((b + (i + j)) + 1) (b + suc (i + j)) (omega arith) (with_root q.entries y g.to_come (b + (i + j)) (λ m. let e = g.is m in omega (arith, e)) g.costs)

pub rooted_one_costs : (i : ℕ) (x : Head) (t : Template) (es : List Entry) (b : ℕ) → AreFormed (rooted_one x t es) 0 → Priced i t → Costs es (λ m. 0) b → Costs (rooted_one x t es) (λ m. 0) (b + suc i)
rooted_one_costs i x t es b formed p1 h =
    let p = asked t es in
    let y = with_kids x (kids.One p.node) in
    let below = root_formed p.entries y formed in
    let g = asked_got i i t es (λ m. 0) b below.0 below.1 p1 (priced_asks i t p1) h in
    costs_more (rooted_one x t es) (λ m. 0) ((b + i) + 1) (b + suc i) (omega arith) (with_root p.entries y (with_use p.node (λ m. 0)) (b + i) (λ m. omega arith) g.used)

-- ---- a block that is only asked

asks_new : (k : ℕ) (t : Template) (es : List Entry) (b : ℕ) → AreFormed (asked t es).entries 0 → (asked t es).node < node_count (asked t es).entries → (j : ℕ) → Priced j t → Asks k t → Costs es (λ m. 0) b → Costs (asked t es).entries (λ m. 0) (b + k)
asks_new k t es b formed w j price asks h = (asked_got k j t es (λ m. 0) b formed w price asks h).unused

ten_one : (k : ℕ) (x : Head) (a : Template) (h : Asks k (One x a)) → Priced (10 + k) (One x a)
ten_one k x a h = (h.0, omega arith, h.1, h.2, (let l = h.3 in omega (arith, l)))

ten_two : (k : ℕ) (x : Head) (a c : Template) (h : Asks k (Two x a c)) → Priced (10 + k) (Two x a c)
ten_two k x a c h = (h.0, omega arith, h.1, h.2, h.3, h.4, (let l = h.5 in omega (arith, l)))

pub asks_got : (k : ℕ) (t : Template) (es : List Entry) (b : ℕ) → AreFormed (asked t es).entries 0 → Asks k t → Costs es (λ m. 0) b → Costs (asked t es).entries (λ m. 0) (b + k)
asks_got k (Given n) es b formed p h = costs_more es (λ m. 0) b (b + k) (omega arith) h
asks_got k (Leaf x) es b formed p h = asks_new k (Leaf x) es b formed (parts_within (with_kids x kids.Zero) es) k p p h
asks_got k (One x a) es b formed p h = asks_new k (One x a) es b formed (parts_within (with_kids x (kids.One (asked a es).node)) (asked a es).entries) (10 + k) (ten_one k x a p) p h
asks_got k (Two x a c) es b formed p h =
    let p3 = asked a es in
    let p4 = asked c p3.entries in
    asks_new k (Two x a c) es b formed (parts_within (with_kids x (kids.Two p3.node p4.node)) p4.entries) (10 + k) (ten_two k x a c p) p h
