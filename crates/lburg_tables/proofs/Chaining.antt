-- The best chains from a nonterminal, from the row that tells them.
use Rattle.std.proofs.Common.{◌≡◌, ◌≢◌, ℕ, zero, suc, ◌+◌, ◌<◌, ◌≤◌, ◌⊎◌, inl, inr, ⊎_elim, Option, Some, None, List, [], ◌∷◌, ◌++◌, length, length-append, get_or, refl, sym, ap, ◌∙◌, subst, arith}
use Rattle.std.specs.Prelude.{slice_get, slice_set, ◌==◌, if◌then◌else◌, Bool, true, false}
use Rattle.std.proofs.lemmas.Bool.Decides.{eqb_tells}
use Rattle.std.proofs.lemmas.List.{get_or_push, get_or_append_left}
use Rattle.std.proofs.lemmas.Option.{none-some}
use Rattle.lburg_model.specs.Description.{MDescription}
use Rattle.lburg_model.specs.Range.{IsMet}
use Rattle.lburg_model.specs.declared.range.Range.{Range}
use Rattle.lburg_model.specs.declared.rule.Rule.{Rule}
use Rattle.lburg_tables.specs.declared.best_chain.BestChain.{BestChain}
use Rattle.lburg_tables.specs.declared.cell.Cell.{Cell}
use Rattle.lburg_tables.specs.Counted.{Counted, NoNumber, One, Other}
use Rattle.lburg_tables.specs.Leads.{IsFree, Leads, Empty, Then, IsReached}
use Rattle.lburg_tables.specs.BestChains.{AreBest}
use Rattle.lburg_tables.specs.Listed.{IsOrigin, Listed, chain_at, chain_with}
use Rattle.lburg_tables.specs.Row.{CellAt, Leq, Leq3, IsChain, Same, FromChain, Closed}
use Rattle.lburg_tables.specs.RowOf.{row_of}
use Rattle.lburg_tables.proofs.lemmas.RowLaws.{same_or_not, within, seen_set, row_within, stored, cell_after}

-- ---- the list of a row's chains

-- what stands at a place of a list with one more
pushed_at : {A : Type 0} (xs : List A) (y x : A) (i : ℕ) → slice_get (xs ++ y ∷ []) i ≡ Some x → (slice_get xs i ≡ Some x) ⊎ ((i ≡ length xs) × (y ≡ x))
pushed_at [] y x zero e = inr (refl, cc)
pushed_at [] y x (suc i) e = absurd (none-some x e)
pushed_at (z ∷ zs) y x zero e = inl e
pushed_at (z ∷ zs) y x (suc i) e = ⊎_elim (λ l. inl l) (λ r. inr (ap suc r.0, r.1)) (pushed_at zs y x i e)

pushed_old : {A : Type 0} (xs : List A) (y x : A) (i : ℕ) → slice_get xs i ≡ Some x → slice_get (xs ++ y ∷ []) i ≡ Some x
pushed_old [] y x i e = absurd (none-some x e)
pushed_old (z ∷ zs) y x zero e = e
pushed_old (z ∷ zs) y x (suc i) e = pushed_old zs y x i e

pushed_new : {A : Type 0} (xs : List A) (y : A) → slice_get (xs ++ y ∷ []) (length xs) ≡ Some y
pushed_new [] y = refl
pushed_new (z ∷ zs) y = pushed_new zs y

-- a chain leads to its nonterminal
chain_to : (b : Bool) (n : ℕ) (o : Option Cell) (x : BestChain) → (if b then None else chain_with n o) ≡ Some x → x.to ≡ n
chain_to true n o x e = absurd (none-some x e)
chain_to false n None x e = absurd (none-some x e)
chain_to false n (Some c) x e = let f : record { cost = c.cost; count = c.count; rule = c.rule; to = n } ≡ x = cc in sym (ap (λ (z : BestChain). z.to) f)

pub listed_none : (row : List (Option Cell)) (m : ℕ) → Listed row m 0 []
listed_none row m = record {
  made = λ i x e. absurd (none-some x e);
  all = λ n x h e. absurd (omega arith);
  once = λ i j x y e f same. absurd (none-some x e);
  many = NoNumber;
}

pub listed_skip : (row : List (Option Cell)) (m k : ℕ) (chains : List BestChain) → chain_at row m k ≡ None → Listed row m k chains → Listed row m (k + 1) chains
listed_skip row m k chains none l = record {
  made = λ i x e. let a = l.made i x e in (omega arith, a.1);
  all = λ n x h e.
      ⊎_elim
      (λ same. let F : ℕ → Type 0 = λ z. chain_at row m z ≡ Some x in let f = subst F same e in cc)
      (λ other. l.all n x (omega arith) e)
      (same_or_not n k);
  once = l.once;
  many = Other (λ some. some none) l.many;
}

pub listed_push : (row : List (Option Cell)) (m k : ℕ) (chains : List BestChain) (new : BestChain) → chain_at row m k ≡ Some new → Listed row m k chains → Listed row m (k + 1) (chains ++ new ∷ [])
listed_push row m k chains new some l =
    let to = chain_to (k == m) k (get_or row k None) new some in
    let Many : ℕ → Type 0 = λ z. Counted (λ n. chain_at row m n ≢ None) (k + 1) z in
    let longer : length chains + 1 ≡ length (chains ++ new ∷ []) = sym (length-append chains (new ∷ [])) in
    record {
      made = λ i x e.
          ⊎_elim
          (λ old. let a = l.made i x old in (omega arith, a.1))
          (λ last.
          let F : BestChain → Type 0 = λ z. (z.to < k + 1) × (chain_at row m z.to ≡ Some z) in
          let G : ℕ → Type 0 = λ z. chain_at row m z ≡ Some new in
          subst F last.1 (omega arith, subst G (sym to) some))
          (pushed_at chains new x i e);
      all = λ n x h e.
          ⊎_elim
          (λ same.
          let F : ℕ → Type 0 = λ z. chain_at row m z ≡ Some x in
          let f = subst F same e in
          let g : new ≡ x = (let q : Some new ≡ Some x = sym some ∙ f in cc) in
          (length chains, pushed_new chains new ∙ ap Some g))
          (λ other. let a = l.all n x (omega arith) e in (a.0, pushed_old chains new x a.0 a.1))
          (same_or_not n k);
      once = λ i j x y e f same.
          ⊎_elim
          (λ a.
          ⊎_elim
          (λ b. l.once i j x y a b same)
          (λ b. let h = (l.made i x a).0 in let g = ap (λ (z : BestChain). z.to) b.1 in absurd (omega arith))
          (pushed_at chains new y j f))
          (λ a.
          ⊎_elim
          (λ b. let h = (l.made j y b).0 in let g = ap (λ (z : BestChain). z.to) a.1 in absurd (omega arith))
          (λ b. a.0 ∙ sym b.0)
          (pushed_at chains new y j f))
          (pushed_at chains new x i e);
      many = subst Many longer (One (λ none. none-some new (sym none ∙ some)) l.many);
    }

-- ---- a closed row's cells are chains

met_free : (o : Option Range) → IsMet o None → o ≡ None
met_free None h = refl
met_free (Some range) h = absurd h

free_met : (o : Option Range) → o ≡ None → IsMet o None
free_met None e = tt
free_met (Some range) e = cc

module _ (rules : List Rule) (m : ℕ) (origin row : List (Option Cell)) (alone : IsOrigin m origin) (closed : Closed rules None origin row) where
  -- the cell is the origin's
  abbrev IsFirst : ℕ → Cell → Type 0
  IsFirst n c = (n ≡ m) × (c.cost ≡ 0) × (c.count ≡ 0)

  -- a cell that a chain rule makes ends a chain
  chained : (n : ℕ) (c : Cell) (f : FromChain rules None row n c) → IsFirst f.from f.cell ⊎ Leads rules m f.from f.cell.cost f.cell.count f.cell.rule → Leads rules m n c.cost c.count c.rule
  chained n c f before =
      let s0 = f.same.0 in
      let s1 = f.same.1 in
      let s2 = f.same.2 in
      let free : IsFree rules f.place f.from f.rule = (f.chain.0.0, f.chain.1, met_free f.rule.range f.chain.0.1) in
      let number : f.place + 1 ≡ c.rule = omega arith in
      let As : ℕ → ℕ → ℕ → Type 0 = λ x y z. Leads rules m n x y z in
      ⊎_elim
      (λ o.
      let o1 = o.1 in
      let o2 = o.2 in
      let cost : 0 + f.rule.cost ≡ c.cost = omega arith in
      let count : 0 + 1 ≡ c.count = omega arith in
      let l = Then f.place f.rule (Empty o.0) free f.left in
      subst (λ u. As u c.count c.rule) cost (subst (λ u. As (0 + f.rule.cost) u c.rule) count (subst (λ u. As (0 + f.rule.cost) (0 + 1) u) number l)))
      (λ b.
      let cost : f.cell.cost + f.rule.cost ≡ c.cost = omega arith in
      let count : f.cell.count + 1 ≡ c.count = omega arith in
      let l = Then f.place f.rule b free f.left in
      subst (λ u. As u c.count c.rule) cost (subst (λ u. As (f.cell.cost + f.rule.cost) u c.rule) count (subst (λ u. As (f.cell.cost + f.rule.cost) (f.cell.count + 1) u) number l)))
      before

  first : (n : ℕ) (c : Cell) → ((b : Cell) × CellAt origin n b × Same c b) → IsFirst n c
  first n c (b, at, same) = let a = alone.alone n b at in let s0 = same.0 in let s1 = same.1 in let a1 = a.1 in let a2 = a.2 in (a.0, omega arith, omega arith)

  -- a cell is the origin's, or chain rules lead to it
  leads_to : (k n : ℕ) (c : Cell) → c.count ≤ k → CellAt row n c → IsFirst n c ⊎ Leads rules m n c.cost c.count c.rule
  leads_to zero n c h at = ⊎_elim (λ o. inl (first n c o)) (λ f. let s1 = f.same.1 in absurd (omega arith)) (closed.made n c at)
  leads_to (suc k) n c h at =
      ⊎_elim
      (λ o. inl (first n c o))
      (λ f. let s1 = f.same.1 in inr (chained n c f (leads_to k f.from f.cell (omega arith) f.at)))
      (closed.made n c at)

  -- no chain is less than the cell
  reaches : (n cost count number : ℕ) → Leads rules m n cost count number → (x : Cell) × CellAt row n x × Leq x.cost x.count cost count × (n ≢ m → Leq3 x.cost x.count x.rule cost count number)
  reaches n cost count number (Empty e) =
      let there = alone.there in
      let zero_is = alone.alone m there.0 there.1 in
      let z1 = zero_is.1 in
      let z2 = zero_is.2 in
      let low = closed.lower m there.0 there.1 in
      let l = low.2 in
      let At : ℕ → Type 0 = λ z. CellAt row z low.0 in
      (low.0, subst At (sym e) low.1, (omega arith, λ q. omega arith), λ ne. absurd (ne e))
  reaches n cost count number (Then {p = p} {cost = k} {count = q} {number = z} i r before free left) =
      let a = reaches p k q z before in
      let a2 = a.2 in
      let chain : IsChain rules None i p r = ((free.0, free_met r.range free.2), free.1) in
      let c = closed.closed i r p a.0 chain a.1 in
      let l = c.2 in
      let At : ℕ → Type 0 = λ u. CellAt row u c.0 in
      (c.0, subst At left c.1, (omega arith, λ e. omega arith), λ ne. (omega arith, λ e. omega arith, λ e f. omega arith))

-- ---- the list is that of the best chains

told : (n : ℕ) (o : Option Cell) (x : BestChain) → chain_with n o ≡ Some x → (c : Cell) × (o ≡ Some c) × (c.cost ≡ x.cost) × (c.count ≡ x.count) × (c.rule ≡ x.rule)
told n None x e = absurd (none-some x e)
told n (Some c) x e =
    let f : record { cost = c.cost; count = c.count; rule = c.rule; to = n } ≡ x = cc in
    (c, refl, ap (λ (z : BestChain). z.cost) f, ap (λ (z : BestChain). z.count) f, ap (λ (z : BestChain). z.rule) f)

-- the chain at a place
at_place : (row : List (Option Cell)) (m n : ℕ) (x : BestChain) → chain_at row m n ≡ Some x → (n ≢ m) × (chain_with n (get_or row n None) ≡ Some x)
at_place row m n x e =
    let T : Bool → Option BestChain = λ b. if b then None else chain_with n (get_or row n None) in
    ⊎_elim
    (λ same. absurd (none-some x (sym (ap T same.0) ∙ e)))
    (λ other. (other.1, sym (ap T other.0) ∙ e))
    (eqb_tells n m)

place_at : (row : List (Option Cell)) (m n : ℕ) → n ≢ m → chain_at row m n ≡ chain_with n (get_or row n None)
place_at row m n ne =
    let T : Bool → Option BestChain = λ b. if b then None else chain_with n (get_or row n None) in
    ⊎_elim (λ same. absurd (ne same.1)) (λ other. ap T other.0) (eqb_tells n m)

counted_as : (P Q : ℕ → Type 0) → ((n : ℕ) → P n → Q n) → ((n : ℕ) → Q n → P n) → (k many : ℕ) → Counted P k many → Counted Q k many
counted_as P Q to from k many NoNumber = NoNumber
counted_as P Q to from k many (One {n = n} {many = i} is rest) = One (to n is) (counted_as P Q to from n i rest)
counted_as P Q to from k many (Other {n = n} {many = i} is_not rest) = Other (λ q. is_not (from n q)) (counted_as P Q to from n i rest)

some_of : (o : Option BestChain) → o ≢ None → (x : BestChain) × (o ≡ Some x)
some_of None h = absurd (h refl)
some_of (Some x) h = (x, refl)

module _ (d : MDescription) (m : ℕ) (origin row : List (Option Cell)) (alone : IsOrigin m origin) (closed : Closed d.rules None origin row) (wide : length row ≡ length d.nonterminals) (chains : List BestChain) (l : Listed row m (length row) chains) where
  led : (n : ℕ) (x : BestChain) → chain_at row m n ≡ Some x → (n ≢ m) × Leads d.rules m n x.cost x.count x.rule × (x.count < length d.nonterminals)
  led n x e =
      let a = at_place row m n x e in
      let (c, at, cost, count, rule) = told n (get_or row n None) x a.1 in
      let few = closed.many 0 (λ i b atb. let z = (alone.alone i b atb).2 in omega arith) n c at in
      let long = closed.same_length in
      let As : ℕ → ℕ → ℕ → Type 0 = λ u v w. Leads d.rules m n u v w in
      ⊎_elim
      (λ o. absurd (a.0 o.0))
      (λ ll. (a.0, subst (λ u. As u x.count x.rule) cost (subst (λ u. As c.cost u x.rule) count (subst (λ u. As c.cost c.count u) rule ll)), omega arith))
      (leads_to d.rules m origin row alone closed c.count n c (omega arith) at)

  found : (n cost count number : ℕ) → n ≢ m → Leads d.rules m n cost count number → (x : BestChain) × (chain_at row m n ≡ Some x) × Leq3 x.cost x.count x.rule cost count number
  found n cost count number ne ll =
      let a = reaches d.rules m origin row alone closed n cost count number ll in
      let c = a.0 in
      let x : BestChain = record { cost = c.cost; count = c.count; rule = c.rule; to = n } in
      (x, place_at row m n ne ∙ ap (chain_with n) a.1, a.3 ne)

  listed_within : (n : ℕ) (x : BestChain) → chain_at row m n ≡ Some x → n < length row
  listed_within n x e = let a = at_place row m n x e in let t = told n (get_or row n None) x a.1 in within row n t.0 t.1

  pub are_best : AreBest d m chains
  are_best = record {
    leads = λ i x e.
        let a = l.made i x e in
        let b = led x.to x a.1 in
        (b.0, b.1);
    least = λ n cost count number ne ll.
        let a = found n cost count number ne ll in
        let b = l.all n a.0 (listed_within n a.0 a.1) a.1 in
        (b.0, a.0, b.1, chain_to (n == m) n (get_or row n None) a.0 a.1, a.2);
    once = l.once;
    many =
        let P : ℕ → Type 0 = λ n. chain_at row m n ≢ None in
        let Many : ℕ → Type 0 = λ z. Counted (IsReached d.rules m) z (length chains) in
        subst Many wide
        (counted_as P (IsReached d.rules m)
        (λ n some. let x = some_of (chain_at row m n) some in let b = led n x.0 x.1 in (b.0, x.0.cost, x.0.count, x.0.rule, b.1))
        (λ n (ne, cost, count, number, ll) none. let a = found n cost count number ne ll in none-some a.0 (sym none ∙ a.1))
        (length row) (length chains) l.many);
    short = λ i x e. let a = l.made i x e in (led x.to x a.1).2;
  }

-- the origin's row
pub is_origin : (row : List Cell) (m : ℕ) (c : Cell) → m < length row → ((n : ℕ) (b : Cell) → CellAt (row_of row) n b → ⊥) → 0 < c.rule → c.cost ≡ 0 → c.count ≡ 0 → IsOrigin m (row_of (slice_set row m c))
is_origin row m c h empty some cost count =
    let is = seen_set row m c some in
    let inside = row_within row m h in
    let At : List (Option Cell) → Type 0 = λ l. CellAt l m c in
    record {
      there = (c, subst At (sym is) (stored (row_of row) m c inside));
      alone = λ n b at.
          let Here : List (Option Cell) → Type 0 = λ l. CellAt l n b in
          ⊎_elim
          (λ (e, f). let f1 = ap (λ (z : Cell). z.cost) f in let f2 = ap (λ (z : Cell). z.count) f in (e, omega arith, omega arith))
          (λ (ne, old). absurd (empty n b old))
          (cell_after (row_of row) m n c b inside (subst Here is at));
    }

-- one list more
pub table_more : (d : MDescription) (table : List (List BestChain)) (chains : List BestChain) → ((m : ℕ) → m < length table → AreBest d m (get_or table m [])) → AreBest d (length table) chains → (m : ℕ) → m < length table + 1 → AreBest d m (get_or (table ++ chains ∷ []) m [])
table_more d table chains best new m h =
    let Of : List BestChain → Type 0 = λ l. AreBest d m l in
    ⊎_elim
    (λ same. let At : ℕ → Type 0 = λ z. AreBest d z chains in subst Of (sym (get_or_push table chains [] m (sym same))) (subst At (sym same) new))
    (λ other. subst Of (sym (get_or_append_left table (chains ∷ []) [] m (omega arith))) (best m (omega arith)))
    (same_or_not m (length table))
