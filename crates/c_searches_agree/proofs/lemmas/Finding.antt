-- Where a number leads in a search, by what its comparisons say.
use Rattle.std.specs.Prelude.{◌≡◌, ◌<◌, ℕ, ◌+◌, ◌-◌, ◌%◌, ◌^◌, ◌==◌, Bool, true, false, List, [], ◌∷◌, length, slice_index_or, if◌then◌else◌}
use Rattle.std.proofs.Common.{refl, sym, ap, subst, ◌∙◌, arith}
use Rattle.std.proofs.lemmas.Bool.{eqb-true, eqb-false, le-ltb}
use Rattle.objects.specs.Arithmetic.{is_less}
use Rattle.switch_tables.specs.declared.table.Table.{Table}
use Rattle.switch_tables.specs.Cuts.{offset}
use Rattle.switch_tables.specs.Laws.{IsTable}
use Rattle.switch_tables.specs.Order.{rank}
use Rattle.switch_tables.specs.Searches.{Search, Nowhere, At, last_in, found}
use Rattle.switch_tables.proofs.lemmas.Ranks.{less_by_rank, moved_by_offset}
use Rattle.lowered_statements.specs.Searches.{is_alone}

-- without other tables the number goes the default's way
pub alone_leads : (signed : Bool) (default n : ℕ) (less greater : Search) → is_alone less greater ≡ true → found signed default n less ≡ found signed default n greater
alone_leads signed default n Nowhere Nowhere e = refl
alone_leads signed default n Nowhere (At t less greater) e = absurd (let never : ⊥ = cc in never)
alone_leads signed default n (At t less greater) b e = absurd (let never : ⊥ = cc in never)

module _ (signed : Bool) (default n m : ℕ) (word : n < 2 ^ 32) (t : Table) (less greater : Search) (whole : IsTable signed t) (e : found signed default n (At t less greater) ≡ m) where
  pub leads_below : is_less signed n t.low ≡ true → found signed default n less ≡ m
  leads_below is =
      sym (ap (λ (q : Bool). if q then found signed default n less else if is_less signed (last_in t) n then found signed default n greater else slice_index_or t.labels (offset t.low n) default) is) ∙ e

  not_below : is_less signed n t.low ≡ false → (if is_less signed (last_in t) n then found signed default n greater else slice_index_or t.labels (offset t.low n) default) ≡ m
  not_below is =
      sym (ap (λ (q : Bool). if q then found signed default n less else if is_less signed (last_in t) n then found signed default n greater else slice_index_or t.labels (offset t.low n) default) is) ∙ e

  pub leads_above : is_less signed n t.low ≡ false → is_less signed (last_in t) n ≡ true → found signed default n greater ≡ m
  leads_above is above = sym (ap (λ (q : Bool). if q then found signed default n greater else slice_index_or t.labels (offset t.low n) default) above) ∙ not_below is

  pub leads_within : is_less signed n t.low ≡ false → is_less signed (last_in t) n ≡ false → slice_index_or t.labels (offset t.low n) default ≡ m
  leads_within is above = sym (ap (λ (q : Bool). if q then found signed default n greater else slice_index_or t.labels (offset t.low n) default) above) ∙ not_below is

  -- ---- a table of one label

  module _ (label : ℕ) (one : t.labels ≡ label ∷ []) where
    last_is_low : last_in t ≡ t.low
    last_is_low = let low = whole.low in ap (λ (ls : List ℕ). (t.low + (length ls - 1)) % 2 ^ 32) one ∙ omega (arith, low)

    never_less : (k : ℕ) → k < 2 ^ 32 → is_less signed k k ≡ false
    never_less k lt = less_by_rank signed k k lt lt ∙ le-ltb (rank signed k) (rank signed k) (omega arith)

    itself : (k : ℕ) → k < 2 ^ 32 → offset k k ≡ 0
    itself k lt = omega (arith, lt)

    -- its number
    pub leads_here : (n == t.low) ≡ true → label ≡ m
    leads_here is =
        let same : n ≡ t.low = eqb-true n t.low is in
        let low = whole.low in
        let below : is_less signed n t.low ≡ false = subst (λ (k : ℕ). is_less signed k t.low ≡ false) (sym same) (never_less t.low low) in
        let above : is_less signed (last_in t) n ≡ false = subst (λ (k : ℕ). is_less signed k n ≡ false) (sym last_is_low) (subst (λ (k : ℕ). is_less signed t.low k ≡ false) (sym same) (never_less t.low low)) in
        let first : offset t.low n ≡ 0 = subst (λ (k : ℕ). offset t.low k ≡ 0) (sym same) (itself t.low low) in
        sym (ap (λ (ls : List ℕ). slice_index_or ls 0 default) one) ∙ ap (λ (k : ℕ). slice_index_or t.labels k default) (sym first) ∙ leads_within below above

    only_one : offset t.low n < length t.labels → n ≡ t.low
    only_one within =
        let count = ap (λ (ls : List ℕ). length ls) one in
        let back = moved_by_offset t.low n whole.low word in
        let low = whole.low in
        let none : offset t.low n ≡ 0 = omega (arith, within, count) in
        let moved : (t.low + 0) % 2 ^ 32 ≡ n = subst (λ (k : ℕ). (t.low + k) % 2 ^ 32 ≡ n) none back in
        omega (arith, moved, low)

    -- another one that isn't below it
    pub leads_behind : (n == t.low) ≡ false → is_less signed n t.low ≡ false → found signed default n greater ≡ m
    leads_behind apart is = by (is_less signed (last_in t) n) refl
      where
        by : (q : Bool) → is_less signed (last_in t) n ≡ q → found signed default n greater ≡ m
        by true above = leads_above is above
        by false above = absurd (eqb-false n t.low apart (only_one (whole.whole n word is above)))
