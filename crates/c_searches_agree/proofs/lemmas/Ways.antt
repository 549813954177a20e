-- The tables on one side of another one: where the number goes among them, and what is final before they are searched.
use Rattle.std.specs.Prelude.{◌≡◌, ◌<◌, ℕ, length}
use Rattle.switch_tables.specs.Searches.{Search, Nowhere, At, found}
use Rattle.lowered_forms.specs.Lows.{Low, marked}
use Rattle.lowered_forms.proofs.lemmas.Fronts.{front_before}
use Rattle.lowered_statements.specs.Bodies.{Body, on_low}
use Rattle.lowered_statements.specs.Functions.{Function}
use Rattle.lowered_statements.specs.Searches.{Choice, way, with_way, side_by, searched}
use Rattle.lowered_statements.proofs.lemmas.Adding.{goes_on, adding_steps}
use Rattle.lowered_statements.proofs.lemmas.SearchSteps.{searched_step}
use Rattle.c_tests_agree.specs.Tested.{AreMarkedOnce, Label, low_at}
use Rattle.c_stmt_agreement.specs.Comings.{Activation}
use Rattle.c_stmt_agreement.specs.Laws.{IsFinal}
use Rattle.c_stmts_agree.specs.Tables.{HasTables}
use Rattle.c_stmts_agree.proofs.lemmas.Backing.{bodies_back, backs, has_before, mark_back}
use Rattle.c_stmts_agree.proofs.lemmas.Places.{label_here, Moves, relabels}
use Rattle.c_searches_agree.specs.Jumps.{ComesHolding}
use Rattle.c_searches_agree.proofs.lemmas.Holding.{stays_below, same_place}

module _ (p : Activation) (f : Function) (x : Choice) (i n : ℕ) where
  -- ---- what is final, which tables are the unit's, and which slots there are

  pub search_back : (s : Search) (b : Body) → IsFinal p (searched f x s b).low → IsFinal p b.low
  search_back s b = searched_step (bodies_back p.scene.body.pieces) (backs p.scene.body.pieces) f x s b

  pub search_has : (s : Search) (b : Body) → HasTables p f (searched f x s b) → HasTables p f b
  search_has s b = has_before p f b (searched f x s b) (searched_step goes_on adding_steps f x s b).tables

  pub search_room : (s : Search) (b : Body) → i < length b.low.slots → i < length (searched f x s b).low.slots
  search_room s b less = stays_below i b.low (searched f x s b).low (searched_step goes_on adding_steps f x s b).low.slots less

  abbrev pub side : Search → ℕ → Body → Body
  side s below b = side_by s (λ b1. searched f x s b1) below b

  pub side_back : (s : Search) (below : ℕ) (b : Body) → IsFinal p (side s below b).low → IsFinal p b.low
  side_back Nowhere below b final = final
  side_back (At t less greater) below b final = mark_back p.scene.body.pieces below b.low (search_back (At t less greater) (on_low (λ l. marked below l) b) final)

  pub side_has : (s : Search) (below : ℕ) (b : Body) → HasTables p f (side s below b) → HasTables p f b
  side_has Nowhere below b h = h
  side_has (At t less greater) below b h = search_has (At t less greater) (on_low (λ l. marked below l) b) h

  pub side_room : (s : Search) (below : ℕ) (b : Body) → i < length b.low.slots → i < length (side s below b).low.slots
  side_room Nowhere below b less = less
  side_room (At t lower greater) below b less = search_room (At t lower greater) (on_low (λ l. marked below l) b) (stays_below i b.low (marked below b.low) (front_before b.low.slots _) less)

  pub way_moves : (s : Search) (a : Low) → Moves p a (with_way s a)
  way_moves Nowhere a o k at = at
  way_moves (At t less greater) a o k at = relabels p a _ o k at

  pub way_room : (s : Search) (a : Low) → i < length a.slots → i < length (with_way s a).slots
  way_room Nowhere a less = less
  way_room (At t lower greater) a less = less

  -- ---- where it goes

  abbrev pub SearchGoes : Search → Type 0
  SearchGoes s = (b : Body) → i < length b.low.slots → HasTables p f (searched f x s b) → IsFinal p (searched f x s b).low → (m : ℕ) → found x.signed x.default n s ≡ m → (l : Label p.scene m) → ComesHolding p i n b.low (low_at p.scene m l)

  -- its way leads to where the number leads among its tables
  pub record WayGoes (s : Search) (below : ℕ) : Type 0 where
    pub label : Label p.scene (way s x.default below)
    pub goes : (m : ℕ) → found x.signed x.default n s ≡ m → (l : Label p.scene m) → ComesHolding p i n (low_at p.scene (way s x.default below) label) (low_at p.scene m l)

  pub side_goes : AreMarkedOnce p.scene.body → Label p.scene x.default → (s : Search) → SearchGoes s → (below : ℕ) (b : Body) → i < length b.low.slots → HasTables p f (side s below b) → IsFinal p (side s below b).low → WayGoes s below
  side_goes once default Nowhere h below b less tables final = record { label = default; goes = λ m e l. same_place p once i n x.default m e default l }
  side_goes once default (At t lower greater) h below b less tables final =
      let b1 = on_low (λ l. marked below l) b in
      record {
        label = label_here p.scene below b.low (search_back (At t lower greater) b1 final);
        goes = λ m e l. h b1 (stays_below i b.low (marked below b.low) (front_before b.low.slots _) less) tables final m e l;
      }
