-- A search leads to the number's label, by the tables that it goes through.
use Rattle.std.specs.Prelude.{◌≡◌, ◌≤◌, ◌<◌, ℕ, ◌+◌, ◌^◌, ◌==◌, Bool, true, false, List, [], ◌∷◌, length}
use Rattle.std.specs.List.{AllByRecursion}
use Rattle.std.proofs.Common.{refl, sym, ap, ◌∙◌, arith}
use Rattle.objects.specs.declared.operators.Comparison.{Comparison}
use Rattle.objects.specs.declared.operators.Comparison.TheVariants as comparison
use Rattle.objects.specs.Arithmetic.{is_less}
use Rattle.op_forest.specs.declared.op.Op.TheVariants as op
use Rattle.op_forest.specs.declared.suffix.Suffix.TheVariants.{I, V}
use Rattle.dag_seam.specs.SplitLaws.{TurnsMean}
use Rattle.switch_tables.specs.declared.table.Table.{Table}
use Rattle.switch_tables.specs.Laws.{IsTable}
use Rattle.switch_tables.specs.Searches.{Search, Nowhere, At, last_in, found}
use Rattle.switch_tables.proofs.lemmas.Searching.{EachTable}
use Rattle.c_rows_agree.specs.Integers.{number, compared}
use Rattle.c_rows_agree.specs.Places.{loaded_pointer}
use Rattle.c_rows_agree.specs.Typed.{head}
use Rattle.lowered_forms.specs.Lows.{Low, acted_one}
use Rattle.lowered_forms.specs.Values.{slot_read}
use Rattle.lowered_forms.proofs.lemmas.Fronts.{front_before}
use Rattle.lowered_forms.proofs.lemmas.Stepping.{branched_steps}
use Rattle.lowered_statements.specs.Bodies.{Body, on_low}
use Rattle.lowered_statements.specs.Functions.{Function}
use Rattle.lowered_statements.specs.Searches.{Choice, compared_with, place_in_table, through, way, with_way, is_alone, below_tested, at_table, searched}
use Rattle.c_straight_agree.specs.Narrow.{CharsAreNarrow, ShortsAreNarrow}
use Rattle.c_straight_agree.proofs.lemmas.Finals.{back, back_steps, back_jumps}
use Rattle.c_slots_agree.specs.Slots.{IsSlotAt}
use Rattle.c_tests_agree.specs.Tested.{AreMarkedOnce, Label, low_at}
use Rattle.c_choices_agree.proofs.lemmas.Slots.{SlotLaws}
use Rattle.c_stmt_agreement.specs.Comings.{Activation, HasFrame}
use Rattle.c_stmt_agreement.specs.Laws.{IsFinal}
use Rattle.c_stmts_agree.specs.Tables.{HasTables}
use Rattle.c_searches_agree.specs.Jumps.{ComesHolding, JumpLeads}
use Rattle.c_searches_agree.proofs.lemmas.Finding.{alone_leads, leads_below, leads_above, leads_within, leads_here, leads_behind}
use Rattle.c_searches_agree.proofs.lemmas.Holding.{stays_below, room_behind, moves_holding, same_place, jump_goes, comparison_goes}
use Rattle.c_searches_agree.proofs.lemmas.Ways.{search_back, search_room, side, side_back, side_has, side_room, way_moves, way_room, SearchGoes, side_goes}

-- what is asked of each table of a search
pub record IsGood (p : Activation) (f : Function) (x : Choice) (t : Table) : Type 0 where
  pub whole : IsTable x.signed t
  pub labels : AllByRecursion (λ l. Label p.scene l) t.labels
  pub leads : JumpLeads p f x t

module _ (chars : CharsAreNarrow) (shorts : ShortsAreNarrow) (means : TurnsMean) (laws : SlotLaws) (p : Activation) (frame : HasFrame p) (once : AreMarkedOnce p.scene.body) (f : Function) (x : Choice) (i n : ℕ) (at : IsSlotAt p.scene i x.slot) (le : p.locals ≤ i) (word : n < 2 ^ 32)
    (default : Label p.scene x.default) where
  abbrev Goes : Low → Low → Type 0
  Goes a b = ComesHolding p i n a b

  abbrev Searches : Search → Type 0
  Searches s = SearchGoes p f x i n s

  compared_back : (o : Comparison) (m label : ℕ) (a : Low) → IsFinal p (compared_with o x m label a) → IsFinal p a
  compared_back o m label a = branched_steps (back p.scene.body.pieces) (back_steps p.scene.body.pieces) (back_jumps p.scene.body.pieces) (compared o x.signed true label (slot_read I x.slot) (number x.signed m)) a

  compared_room : (o : Comparison) (m label : ℕ) (a : Low) → i < length a.slots → i < length (compared_with o x m label a).slots
  compared_room o m label a less = stays_below i a (compared_with o x m label a) (front_before a.slots _) less

  -- ---- one number

  below_back : (alone : Bool) (m label : ℕ) (a : Low) → IsFinal p (below_tested alone x m label a) → IsFinal p a
  below_back true m label a final = final
  below_back false m label a final = compared_back comparison.Less m label a final

  below_room : (alone : Bool) (m label : ℕ) (a : Low) → i < length a.slots → i < length (below_tested alone x m label a).slots
  below_room true m label a less = less
  below_room false m label a less = compared_room comparison.Less m label a less

  -- behind a test for the number itself
  below_goes : (alone : Bool) (m label : ℕ) → m < 2 ^ 32 → (a : Low) → i < length a.slots → (t : Label p.scene label) → IsFinal p (below_tested alone x m label a) → (d : Low)
      → (alone ≡ true → Goes (below_tested alone x m label a) d) → (is_less x.signed n m ≡ true → Goes (low_at p.scene label t) d) → (is_less x.signed n m ≡ false → Goes (below_tested alone x m label a) d) → Goes a d
  below_goes true m label small a less t final d here below behind = here refl
  below_goes false m label small a less t final d here below behind = comparison_goes chars shorts means p frame once laws x i n at le comparison.Less m label small a less t final d (is_less x.signed n m) refl below behind

  module _ (t : Table) (whole : IsTable x.signed t) (lower greater : Search) (goes_lower : Searches lower) (goes_greater : Searches greater) (b : Body) (less : i < length b.low.slots) (m : ℕ) (e : found x.signed x.default n (At t lower greater) ≡ m) (l : Label p.scene m) where
    abbrev to : Low
    to = low_at p.scene m l

    abbrev below : ℕ
    below = b.low.labels

    abbrev b1 : Body
    b1 = on_low (λ a. with_way lower a) b

    less1 : i < length b1.low.slots
    less1 = way_room p f x i n lower b.low less

    abbrev way_below : ℕ
    way_below = way lower x.default below

    module _ (label : ℕ) (one : t.labels ≡ label ∷ []) (there : Label p.scene label) where
      abbrev alone : Bool
      alone = is_alone lower greater

      abbrev b2 : Body
      b2 = on_low (λ a. compared_with comparison.Equal x t.low label a) b1

      abbrev b3 : Body
      b3 = on_low (λ a. below_tested alone x t.low way_below a) b2

      abbrev b4 : Body
      b4 = searched f x greater b3

      less2 : i < length b2.low.slots
      less2 = compared_room comparison.Equal t.low label b1.low less1

      less3 : i < length b3.low.slots
      less3 = below_room alone t.low way_below b2.low less2

      alone_leads_there : is_alone lower greater ≡ true → (n == t.low) ≡ false → found x.signed x.default n greater ≡ m
      alone_leads_there is = by (is_less x.signed n t.low) refl
        where
          by : (q : Bool) → is_less x.signed n t.low ≡ q → (n == t.low) ≡ false → found x.signed x.default n greater ≡ m
          by true below_it apart = sym (alone_leads x.signed x.default n lower greater is) ∙ leads_below x.signed x.default n m word t lower greater whole e below_it
          by false behind_it apart = leads_behind x.signed x.default n m word t lower greater whole e label one apart behind_it

      pub number_goes : HasTables p f (side p f x i n lower below b4) → IsFinal p (side p f x i n lower below b4).low → Goes b.low to
      number_goes tables final =
          let final4 = side_back p f x i n lower below b4 final in
          let final3 = search_back p f x i n greater b3 final4 in
          let final2 = below_back alone t.low way_below b2.low final3 in
          let tables4 = side_has p f x i n lower below b4 tables in
          let way_lower = side_goes p f x i n once default lower goes_lower below b4 (search_room p f x i n greater b3 less3) tables final in
          moves_holding p i n b.low b1.low to (way_moves p f x i n lower b.low)
          (comparison_goes chars shorts means p frame once laws x i n at le comparison.Equal t.low label whole.low b1.low less1 there final2 to (n == t.low) refl
          (λ is. same_place p once i n label m (leads_here x.signed x.default n m word t lower greater whole e label one is) there l)
          (λ apart.
          below_goes alone t.low way_below whole.low b2.low less2 way_lower.label final3 to
          (λ is. goes_greater b3 less3 tables4 final4 m (alone_leads_there is apart) l)
          (λ is. way_lower.goes m (leads_below x.signed x.default n m word t lower greater whole e is) l)
          (λ is. goes_greater b3 less3 tables4 final4 m (leads_behind x.signed x.default n m word t lower greater whole e label one apart is) l)))

    -- ---- a table

    abbrev above : ℕ
    above = b1.low.labels

    abbrev way_above : ℕ
    way_above = way greater x.default above

    abbrev c2 : Body
    c2 = on_low (λ a. with_way greater a) b1

    abbrev c3 : Body
    c3 = on_low (λ a. compared_with comparison.Less x t.low way_below a) c2

    abbrev c4 : Body
    c4 = on_low (λ a. compared_with comparison.Greater x (last_in t) way_above a) c3

    abbrev c5 : Body
    c5 = through f x t c4

    abbrev c6 : Body
    c6 = side p f x i n greater above c5

    through_back : IsFinal p c5.low → IsFinal p c4.low
    through_back final =
        let place = (loaded_pointer (place_in_table x t.low (f.tables + length c4.tables))).tree in
        (back_steps p.scene.body.pieces).acts_one (head op.Jump V) place c4.low ((back_jumps p.scene.body.pieces).ends (acted_one (head op.Jump V) place c4.low) final)

    less_c2 : i < length c2.low.slots
    less_c2 = way_room p f x i n greater b1.low less1

    less_c3 : i < length c3.low.slots
    less_c3 = compared_room comparison.Less t.low way_below c2.low less_c2

    less_c4 : i < length c4.low.slots
    less_c4 = compared_room comparison.Greater (last_in t) way_above c3.low less_c3

    less_c5 : i < length c5.low.slots
    less_c5 = stays_below i c4.low c5.low (front_before c4.low.slots _) less_c4

    last_small : last_in t < 2 ^ 32
    last_small = omega arith

    pub table_goes : JumpLeads p f x t → HasTables p f (side p f x i n lower below c6) → IsFinal p (side p f x i n lower below c6).low → Goes b.low to
    table_goes leads tables final =
        let final6 = side_back p f x i n lower below c6 final in
        let final5 = side_back p f x i n greater above c5 final6 in
        let final4 = through_back final5 in
        let final3 = compared_back comparison.Greater (last_in t) way_above c3.low final4 in
        let tables6 = side_has p f x i n lower below c6 tables in
        let tables5 = side_has p f x i n greater above c5 tables6 in
        let way_lower = side_goes p f x i n once default lower goes_lower below c6 (side_room p f x i n greater above c5 less_c5) tables final in
        let way_greater = side_goes p f x i n once default greater goes_greater above c5 less_c5 tables6 final6 in
        moves_holding p i n b.low b1.low to (way_moves p f x i n lower b.low)
        (moves_holding p i n b1.low c2.low to (way_moves p f x i n greater b1.low)
        (comparison_goes chars shorts means p frame once laws x i n at le comparison.Less t.low way_below whole.low c2.low less_c2 way_lower.label final3 to (is_less x.signed n t.low) refl
        (λ is. way_lower.goes m (leads_below x.signed x.default n m word t lower greater whole e is) l)
        (λ isnt.
        comparison_goes chars shorts means p frame once laws x i n at le comparison.Greater (last_in t) way_above last_small c3.low less_c3 way_greater.label final4 to (is_less x.signed (last_in t) n) refl
        (λ is. way_greater.goes m (leads_above x.signed x.default n m word t lower greater whole e isnt is) l)
        (λ within. leads i n at le word isnt within c4 less_c4 tables5 final5 m (leads_within x.signed x.default n m word t lower greater whole e isnt within) l))))

    -- ---- by how many labels it has

    abbrev AtTable : List ℕ → Body
    AtTable labels = at_table labels f x t (record { tables = lower; code = λ a. searched f x lower a }) (record { tables = greater; code = λ a. searched f x greater a }) b

    none_there : t.labels ≡ [] → ⊥
    none_there is = let some = whole.some in let none = ap (λ (ls : List ℕ). length ls) is in let never : ⊥ = omega (arith, some, none) in never

    pub labels_go : (labels : List ℕ) → t.labels ≡ labels → AllByRecursion (λ q. Label p.scene q) labels → JumpLeads p f x t → HasTables p f (AtTable labels) → IsFinal p (AtTable labels).low → Goes b.low to
    labels_go [] is there leads tables final = absurd (none_there is)
    labels_go (label ∷ []) is there leads tables final = number_goes label is there.0 tables final
    labels_go (label ∷ other ∷ ls) is there leads tables final = table_goes leads tables final

  pub search_goes : (s : Search) → EachTable (IsGood p f x) s → Searches s
  search_goes Nowhere good b less tables final m e l = jump_goes chars shorts means p frame once i n x.default m e b.low (room_behind p.locals i (length b.low.slots) le less) final l
  search_goes (At t lower greater) good b less tables final m e l =
      labels_go t good.0.whole lower greater (search_goes lower good.1.0) (search_goes greater good.1.1) b less m e l t.labels refl good.0.labels good.0.leads tables final
