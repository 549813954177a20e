-- The merging of a row from base cells and best chains.
use Rattle.std.proofs.Common.{◌≡◌, ◌≢◌, ℕ, ◌+◌, ◌*◌, ◌^◌, ◌<◌, ◌≤◌, inl, inr, ⊎_elim, Option, Some, None, List, length, length-set, get_or, refl, sym, ap, ◌∙◌, subst, arith}
use Rattle.std.specs.Prelude.{slice_get, slice_set, ℤ}
use Rattle.std.proofs.lemmas.List.{length-map}
use Rattle.std.proofs.lemmas.Option.{slice_get_within}
use Rattle.lburg_model.specs.Description.{MDescription, IsDescription}
use Rattle.lburg_model.specs.Range.{IsMet}
use Rattle.lburg_model.specs.declared.range.Range.{Range}
use Rattle.lburg_model.specs.declared.rule.Rule.{Rule}
use Rattle.lburg_tables.specs.declared.best_chain.BestChain.{BestChain}
use Rattle.lburg_tables.specs.declared.cell.Cell.{Cell}
use Rattle.lburg_tables.specs.BestChains.{AreBest}
use Rattle.lburg_tables.specs.Leads.{IsFree, Leads, Empty, Then, HasRanged}
use Rattle.lburg_tables.specs.Row.{CellAt, Leq, Leq3, Offered, Placed, Declined, IsChain, made_from, FromChain, AreCheap, Closed}
use Rattle.lburg_tables.specs.RowOf.{seen, row_of}
use Rattle.lburg_tables.proofs.lemmas.RowLaws.{within, Leq_cells, leq_trans, leq_refl, same_or_not, stored, cell_after, write_lowers}
use Rattle.tree_labeller.specs.Merged.{after_chain, AllFit, Extended, Merged}

-- ---- the chains from one nonterminal

module _ (chains : List BestChain) (from : Cell) (old : List (Option Cell)) where
  -- at the start none was tried
  pub extended_none : Extended chains from 0 old old
  extended_none = record {
    same_length = refl;
    lower = λ n b at. (b, at, leq_refl b);
    made = λ n c at. inl at;
    tried = λ i x h e. absurd (omega arith);
  }

  tried_on : (row row' : List (Option Cell)) (k : ℕ) (x : BestChain) → slice_get chains k ≡ Some x → Extended chains from k old row → ((n : ℕ) (b : Cell) → CellAt row n b → (c : Cell) × CellAt row' n c × Leq_cells c b) → ((c : Cell) × CellAt row' x.to c × Leq_cells c (after_chain from x)) → (i : ℕ) (y : BestChain) → i < k + 1 → slice_get chains i ≡ Some y → (c : Cell) × CellAt row' y.to c × Leq_cells c (after_chain from y)
  tried_on row row' k x here s low now i y h e =
      ⊎_elim
      (λ same.
      let f = ap (slice_get chains) same in
      let g : x ≡ y = (let q : Some x ≡ Some y = sym here ∙ sym f ∙ e in cc) in
      let F : BestChain → Type 0 = λ z. (c : Cell) × CellAt row' z.to c × Leq_cells c (after_chain from z) in
      subst F g now)
      (λ other.
      let a = s.tried i y (omega arith) e in
      let b = low y.to a.0 a.1 in
      (b.0, b.1, leq_trans b.0 a.0 (after_chain from y) b.2 a.2))
      (same_or_not i k)

  -- one more was tried
  pub extended_more : (row row' : List (Option Cell)) (k : ℕ) (x : BestChain) → slice_get chains k ≡ Some x → x.to < length row → Extended chains from k old row → Offered row x.to (after_chain from x) row' → Extended chains from (k + 1) old row'
  extended_more row row' k x here h s (Declined b at le) = record {
    same_length = s.same_length;
    lower = s.lower;
    made = s.made;
    tried = tried_on row row k x here s (λ n b at. (b, at, leq_refl b)) (b, at, le);
  }
  extended_more row row' k x here h s (Placed beats) =
      let new = after_chain from x in
      let row2 = slice_set row x.to (Some new) in
      record {
        same_length = length-set row x.to (Some new) ∙ s.same_length;
        lower = λ n b at. let a = s.lower n b at in let y = write_lowers row x.to n new a.0 h beats a.1 in (y.0, y.1, leq_trans y.0 a.0 b y.2 a.2);
        made = λ n c at.
            ⊎_elim
            (λ e. inr (k, x, here, sym e.0, e.1))
            (λ e. s.made n c e.1)
            (cell_after row x.to n new c h at);
        tried = tried_on row row2 k x here s (λ n b at. write_lowers row x.to n new b h beats at) (new, stored row x.to new h, leq_refl new);
      }

-- ---- the chains from all

module _ (rules : List Rule) (few : ℕ) (base : List (Option Cell)) where
  pub merged_none : Merged rules few base 0 base
  merged_none = record {
    same_length = refl;
    lower = λ n b at. (b, at, leq_refl b);
    made = λ n c at. inl at;
    tried = λ m b n cost count number h at ne l. absurd (omega arith);
  }

  -- no chain starts where there is no base cell
  pub merged_skip : (row : List (Option Cell)) (k : ℕ) → get_or base k None ≡ None → Merged rules few base k row → Merged rules few base (k + 1) row
  merged_skip row k none s = record {
    same_length = s.same_length;
    lower = s.lower;
    made = s.made;
    tried = λ m b n cost count number h at ne l.
        ⊎_elim
        (λ same. let F : ℕ → Type 0 = λ z. CellAt base z b in let f = subst F same at in cc)
        (λ other. s.tried m b n cost count number (omega arith) at ne l)
        (same_or_not m k);
  }

-- the best chains from one more were tried on its base cell
pub merged_more : (d : MDescription) (base row row' : List (Option Cell)) (k : ℕ) (from : Cell) (chains : List BestChain) → CellAt base k from → AreBest d k chains → Merged d.rules (length d.nonterminals) base k row → Extended chains from (length chains) row row' → Merged d.rules (length d.nonterminals) base (k + 1) row'
merged_more d base row row' k from chains here best s ex = record {
  same_length = ex.same_length ∙ s.same_length;
  lower = λ n b at. let a = s.lower n b at in let x = ex.lower n a.0 a.1 in (x.0, x.1, leq_trans x.0 a.0 b x.2 a.2);
  made = λ n c at.
      ⊎_elim
      (λ old. s.made n c old)
      (λ (i, x, at_i, to, is).
      let a = best.leads i x at_i in
      let short = best.short i x at_i in
      let cost = ap (λ (z : Cell). z.cost) is in
      let count = ap (λ (z : Cell). z.count) is in
      let rule = ap (λ (z : Cell). z.rule) is in
      let Of : ℕ → ℕ → Type 0 = λ y z. Leads d.rules k y x.cost x.count z in
      inr (record {
        from = k;
        cell = from;
        cost = x.cost;
        count = x.count;
        at = here;
        other = λ e. a.0 (to ∙ e);
        leads = subst (λ y. Of y c.rule) to (subst (λ z. Of x.to z) (sym rule) a.1);
        short = short;
        sum = cost;
        total = count;
      }))
      (ex.made n c at);
  tried = λ m b n cost count number h at ne l.
      ⊎_elim
      (λ same.
      let AtK : ℕ → Type 0 = λ z. CellAt base z b in
      let bs : from ≡ b = (let q : Some from ≡ Some b = sym here ∙ subst AtK same at in cc) in
      let LeadsK : ℕ → Type 0 = λ z. Leads d.rules z n cost count number in
      let a = best.least n cost count number (λ e. ne (e ∙ sym same)) (subst LeadsK same l) in
      let (i, x, at_i, to, le) = a in
      let t = ex.tried i x (slice_get_within chains i x at_i) at_i in
      let t2 = t.2 in
      let b1 = ap (λ (z : Cell). z.cost) bs in
      let b2 = ap (λ (z : Cell). z.count) bs in
      let To : ℕ → Type 0 = λ z. CellAt row' z t.0 in
      (t.0, subst To to t.1, (omega arith, λ e. omega arith, λ e f. omega arith)))
      (λ other.
      let a = s.tried m b n cost count number (omega arith) at ne l in
      let a2 = a.2 in
      let x = ex.lower n a.0 a.1 in
      let x2 = x.2 in
      (x.0, x.1, (omega arith, λ e. omega arith, λ e f. omega arith)))
      (same_or_not m k);
}

-- ---- what chains make fits

-- a chain that leads to another nonterminal ends with a rule
last_of : (d : MDescription) (m n cost count number : ℕ) → IsDescription d → n ≢ m → Leads d.rules m n cost count number → (n < length d.nonterminals) × (1 ≤ number)
last_of d m n cost count number is ne (Empty e) = absurd (ne e)
last_of d m n cost count number is ne (Then i r before free left) = let a = (is.rules i r free.0).left in (omega arith, omega arith)

-- a chain costs at most 2 ^ 15 for each of its rules
leads_cheap : (rules : List Rule) (m n cost count number : ℕ) → AreCheap rules → Leads rules m n cost count number → cost ≤ 32768 * count
leads_cheap rules m n cost count number cheap (Empty e) = omega arith
leads_cheap rules m n cost count number cheap (Then {p = p} {cost = k} {count = q} {number = z} i r before free left) =
    let a = leads_cheap rules m p k q z cheap before in
    let b = cheap i r free.0 in
    omega arith

pub fits_after : (d : MDescription) (m width : ℕ) (from : Cell) (chains : List BestChain) → IsDescription d → AreBest d m chains → length d.nonterminals ≤ width → from.count + width < 2 ^ 32 → from.cost ≤ 32768 * from.count → AllFit width from chains
fits_after d m width from chains is best wide few cheap i x at =
    let a = best.leads i x at in
    let last = last_of d m x.to x.cost x.count x.rule is a.0 a.1 in
    let last0 = last.0 in
    let short = best.short i x at in
    let most = is.nonterminals in
    let cost = leads_cheap d.rules m x.to x.cost x.count x.rule (λ j r e. let c = (is.rules j r e).cost in omega arith) a.1 in
    record { to = omega arith; rule = last.1; cost = omega arith; count = omega arith }

-- ---- the whole is closed

met_by : (o : Option Range) (constant : Option ℤ) → o ≡ None → IsMet o constant
met_by None constant e = tt
met_by (Some range) constant e = cc

no_range : (o : Option Range) → ((range : Range) → o ≡ Some range → ⊥) → o ≡ None
no_range None h = refl
no_range (Some range) h = absurd (h range refl)

module _ (rules : List Rule) (constant : Option ℤ) (few : ℕ) (base row : List (Option Cell)) (free : HasRanged rules → ⊥) (named : (n : ℕ) (b : Cell) → CellAt base n b → n < few) (wide : few ≤ length base) (s : Merged rules few base few row) where
  -- no cell is greater than what a chain of no or more rules makes of a base cell
  low : (f : ℕ) (b : Cell) (n cost count number : ℕ) → CellAt base f b → Leads rules f n cost count number → (c : Cell) × CellAt row n c × Leq c.cost c.count (b.cost + cost) (b.count + count)
  low f b n cost count number at l =
      ⊎_elim
      (λ same.
      let a = s.lower f b at in
      let a2 = a.2 in
      let At : ℕ → Type 0 = λ z. CellAt row z a.0 in
      (a.0, subst At (sym same) a.1, (omega arith, λ e. omega arith)))
      (λ other. let a = s.tried f b n cost count number (named f b at) at other l in let a2 = a.2 in (a.0, a.1, (omega arith, λ e. omega arith)))
      (same_or_not n f)

  -- nor than what one of some rules makes, by rule number too
  low_rule : (f : ℕ) (b : Cell) (n cost count number : ℕ) → CellAt base f b → Leads rules f n cost (count + 1) number → (c : Cell) × CellAt row n c × Leq3 c.cost c.count c.rule (b.cost + cost) (b.count + (count + 1)) number
  low_rule f b n cost count number at l =
      ⊎_elim
      (λ same.
      let a = s.lower f b at in
      let a2 = a.2 in
      let At : ℕ → Type 0 = λ z. CellAt row z a.0 in
      (a.0, subst At (sym same) a.1, (omega arith, λ e. omega arith, λ e g. absurd (omega arith))))
      (λ other. s.tried f b n cost (count + 1) number (named f b at) at other l)
      (same_or_not n f)

  without : (i m : ℕ) (r : Rule) → IsChain rules constant i m r → IsFree rules i m r
  without i m r ch = (ch.0.0, ch.1, no_range r.range (λ range e. free (i, r, ch.0.0, (m, range, ch.1, e))))

  no_smaller : (j : ℕ) (r : Rule) (m : ℕ) (b : Cell) → IsChain rules constant j m r → CellAt row m b → (c : Cell) × CellAt row r.left c × Leq_cells c (made_from b j r)
  no_smaller j r m b ch at =
      ⊎_elim
      (λ old.
      let a = low_rule m b r.left (0 + r.cost) 0 (j + 1) old (Then j r (Empty refl) (without j m r ch) refl) in
      let a2 = a.2 in
      (a.0, a.1, (omega arith, λ e. omega arith, λ e f. omega arith)))
      (λ f.
      let a = low_rule f.from f.cell r.left (f.cost + r.cost) f.count (j + 1) f.at (Then j r f.leads (without j m r ch) refl) in
      let a2 = a.2 in
      let sum = f.sum in
      let total = f.total in
      (a.0, a.1, (omega arith, λ e. omega arith, λ e g. omega arith)))
      (s.made m b at)

  -- the last rule of its chain makes a cell
  by_last : (n : ℕ) (c : Cell) (f : ℕ) (b : Cell) (cost count number : ℕ) → CellAt row n c → CellAt base f b → n ≢ f → Leads rules f n cost count number → c.cost ≡ b.cost + cost → c.count ≡ b.count + count → c.rule ≡ number → FromChain rules constant row n c
  by_last n c f b cost count number here at ne (Empty e) sum total rule = absurd (ne e)
  by_last n c f b cost count number here at ne (Then {p = p} {cost = k} {count = q} {number = z} i r before chain left) sum total rule =
      let x = low f b p k q z at before in
      let x2 = x.2 in
      let ch : IsChain rules constant i p r = ((chain.0, met_by r.range constant chain.2), chain.1) in
      let y = no_smaller i r p x.0 ch x.1 in
      let y2 = y.2 in
      let At : ℕ → Type 0 = λ u. CellAt row u y.0 in
      let yc : y.0 ≡ c = (let g : Some y.0 ≡ Some c = sym (subst At left y.1) ∙ here in cc) in
      let y3 = ap (λ (u : Cell). u.cost) yc in
      let y4 = ap (λ (u : Cell). u.count) yc in
      let same1 : c.cost ≡ x.0.cost + r.cost = omega arith in
      let same2 : c.count ≡ x.0.count + 1 = omega arith in
      record { place = i; rule = r; from = p; cell = x.0; chain = ch; left = left; at = x.1; same = (same1, same2, rule) }

  pub merged_closed : Closed rules constant base row
  merged_closed = record {
    same_length = s.same_length;
    lower = s.lower;
    made = λ n c at.
        ⊎_elim
        (λ old. inl (c, old, (refl, refl, refl)))
        (λ f. inr (by_last n c f.from f.cell f.cost f.count c.rule at f.at f.other f.leads f.sum f.total refl))
        (s.made n c at);
    closed = no_smaller;
    many = λ most h n c at.
        ⊎_elim
        (λ old. let a = h n c old in let b = within base n c old in omega arith)
        (λ f. let a = h f.from f.cell f.at in let b = f.short in let t = f.total in omega arith)
        (s.made n c at);
    cheap = λ rc h n c at.
        ⊎_elim
        (λ old. h n c old)
        (λ f. let a = h f.from f.cell f.at in let b = leads_cheap rules f.from n f.cost f.count c.rule rc f.leads in let t = f.total in let u = f.sum in omega arith)
        (s.made n c at);
  }

pub row_long : (cells : List Cell) → length (row_of cells) ≡ length cells
row_long cells = length-map cells seen
