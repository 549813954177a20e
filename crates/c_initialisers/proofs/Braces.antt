-- A list in braces among the items of another: opened, walked, and closed.
use Rattle.std.proofs.Common.{◌≡◌, ℕ, Bool, false, List, [], ◌++◌, Option, Some, None, refl, sym, ap, ◌∙◌, subst}
use Rattle.std.specs.Prelude.{Result, Ok, Err, IsErrAnd, ◌||◌}
use Rattle.c_ast.specs.Trees.{Braced, InitialiserTrees}
use Rattle.c_symbols.specs.Scoping.{Scoping}
use Rattle.c_types.specs.CType.{CType}
use Rattle.c_types.specs.Definitions.{AreComplete}
use Rattle.c_types.specs.Table.{Table, tags}
use Rattle.c_meaning.specs.Constraints.{Breaks}
use Rattle.c_meaning.specs.Filling.{Found, begins_with_text, begun_in, is_excess, left_behind}
use Rattle.c_meaning.specs.Initialising.{Items, Stored, at_init, by_list, init_constraints, init_fault, inner_node, is_scalar_at, is_within, joined, list_node, stored, typed_items}
use Rattle.c_meaning.specs.NodeConstraints.{first_of}
use Rattle.c_meaning.specs.State.{State}
use Rattle.c_meaning.specs.Typing.{Outcome, Fine, Bad, then_do}
use Rattle.c_values.specs.declared.check_fault.CheckFault.{CheckFault}
use Rattle.c_values.specs.declared.check_fault.CheckFault.TheVariants.{Constraint, Limit, Memory}
use Rattle.c_check_expr.specs.AtNode.{Tells}
use Rattle.c_check_expr.specs.Known.{state_of}
use Rattle.c_check_expr.proofs.lemmas.Walking.{passed, tells_first}
use Rattle.c_check_expr.specs.Walks.{Walks}
use Rattle.c_initialisers.specs.declared.nodes.Standing.{Standing}
use Rattle.c_initialisers.specs.declared.opening.Opened.{Opened}
use Rattle.c_initialisers.specs.declared.stored.Filling.{Filling}
use Rattle.c_initialisers.specs.declared.walk.Listing.{Listing}
use Rattle.c_initialisers.specs.Listed.{item_in, items_in, onto}
use Rattle.c_initialisers.specs.Opening.{IsOpened, next_of}
use Rattle.c_initialisers.specs.Storing.{IsFillingIn, filling_in, node_of}
use Rattle.c_initialisers.specs.Waiting.{AreEntriesIn, waiting_in}
use Rattle.c_initialisers.proofs.WaitsStay.{waiting_stays}
use Rattle.c_initialisers.proofs.PlacedValues.{standing_node, stored_same}

-- ---- what is stored behind what was stored before

onto_fine : (before : Stored) (o : Outcome Stored) (s : State) (x : Stored) → onto before o ≡ Fine s x → (more : Stored) × ((o ≡ Fine s more) × (joined before more ≡ x))
onto_fine before (Fine t more) s x e = (more, (cc, cc))
onto_fine before (Bad f) s x e = absurd (cc)

onto_tells : (before : Stored) (o : Outcome Stored) (e : CheckFault) → Tells e (onto before o) → Tells e o
onto_tells before (Fine s x) (Constraint n l) h = absurd (cc)
onto_tells before (Fine s x) (Limit w l) h = absurd (cc)
onto_tells before (Fine s x) Memory h = tt
onto_tells before (Bad f) (Constraint n l) h = cc
onto_tells before (Bad f) (Limit w l) h = cc
onto_tells before (Bad f) Memory h = tt

-- ---- what is typed of the whole

module _ (l : Listing) (line : ℕ) (is : InitialiserTrees) (comma : Bool) (before : Stored) (s : State) (f : Option Found) where
  abbrev inside : Outcome Stored
  inside = typed_items s l.is_static (is_scalar_at f) (begun_in s.tags is f) is

  abbrev closed : State → Stored → Outcome Stored
  closed t inner = at_init t line (list_node l.is_static (is_within l.is_scalar f) inner) (by_list f before.left inner)

  abbrev pub braced : Outcome Stored
  braced = onto before (then_do inside closed)

  pub braced_tells : (e : CheckFault) → Tells e inside → Tells e braced
  braced_tells e h = tells_first e (then_do inside closed) (λ u more. Fine u (joined before more)) (tells_first e inside closed h)

  pub braced_breaks : (t : State) (inner : Stored) (number : ℕ) → inside ≡ Fine t inner → first_of init_constraints t (list_node l.is_static (is_within l.is_scalar f) inner) ≡ Some number → braced ≡ Bad (Breaks number line)
  unfolding init_fault
  braced_breaks t inner number e h = rw (e, h) refl

  pub braced_fine : (t : State) (inner : Stored) → inside ≡ Fine t inner → first_of init_constraints t (list_node l.is_static (is_within l.is_scalar f) inner) ≡ None → braced ≡ Fine t (joined before (by_list f before.left inner))
  unfolding init_fault
  braced_fine t inner e h = rw (e, h) refl

-- ---- walks

module _ (l m : Listing) (line : ℕ) (is : InitialiserTrees) (comma : Bool) (before : Filling) (s : Scoping) (a : Table) (o : Opened) (is_text : Bool) (opened : IsOpened a (filling_in a before) is_text o) (text : begins_with_text is ≡ is_text) (static : m.is_static ≡ l.is_static) (scalar : m.is_scalar ≡ is_scalar_at (next_of a (filling_in a before))) where
  abbrev B : Stored
  B = filling_in a before

  abbrev N : Option Found
  N = next_of a B

  abbrev S0 : Stored
  S0 = stored B.places (begun_in (tags a) is N) false

  abbrev T : Outcome Stored
  T = inside l line is comma B (state_of s a) N

  inner_is : items_in s a m (filling_in a o.inner) is ≡ onto S0 T
  unfolding items_in
  inner_is = ap (λ (x : Stored). onto x (typed_items (state_of s a) m.is_static m.is_scalar x.left is)) (opened.inner is text) ∙ rw (static, scalar) refl

  item_is : item_in s a l B (Braced line is comma) ≡ braced l line is comma B (state_of s a) N
  unfolding item_in
  item_is = refl

  pub list_stops : (u : Scoping) (b : Table) (e : CheckFault) (r : Result Filling CheckFault) → IsErrAnd r (λ d. d ≡ e) → Walks filling_in IsFillingIn (items_in s a m (filling_in a o.inner) is) s a u b (Err e) → Walks filling_in IsFillingIn (item_in s a l B (Braced line is comma)) s a u b r
  list_stops u b e r h w =
      passed r h (record {
        ok = tt;
        err = subst (λ x. Tells e x) (sym item_is) (braced_tells l line is comma B (state_of s a) N e (onto_tells S0 T e (subst (λ x. Tells e x) inner_is w.err)));
        within = tt;
        keeps = w.keeps;
      })

  module _ (u : Scoping) (b : Table) (v : Filling) (w : Walks filling_in IsFillingIn (items_in s a m (filling_in a o.inner) is) s a u b (Ok v)) where
    inner_fine : (more : Stored) × ((T ≡ Fine (state_of u b) more) × (joined S0 more ≡ filling_in b v))
    inner_fine = onto_fine S0 T (state_of u b) (filling_in b v) (sym inner_is ∙ w.ok)

    abbrev X : Stored
    X = inner_fine.0

    excess_is : X.excess ≡ v.excess
    excess_is = ap (λ (x : Stored). x.excess) inner_fine.1.1

    node_is : (number : Option ℕ) (within : Bool) (z : Standing) → z.is_static ≡ l.is_static → z.is_barred ≡ false → z.is_unfit ≡ false → within ≡ is_within l.is_scalar N
        → ((t : State) → (completed : List CType) → first_of init_constraints t (node_of z (Items v.excess within) completed) ≡ number) → first_of init_constraints (state_of u b) (list_node l.is_static (is_within l.is_scalar N) X) ≡ number
    node_is number within z i j k e h =
        ap (first_of init_constraints (state_of u b))
        (sym (standing_node z l.is_static (Items v.excess within) i j k ∙ ap (λ x. inner_node l.is_static (Items x within)) (sym excess_is) ∙ ap (λ x. inner_node l.is_static (Items X.excess x)) e))
        ∙ h (state_of u b) []

    pub list_breaks : (number : ℕ) (within : Bool) (z : Standing) → z.is_static ≡ l.is_static → z.is_barred ≡ false → z.is_unfit ≡ false → within ≡ is_within l.is_scalar N
        → ((t : State) → (completed : List CType) → first_of init_constraints t (node_of z (Items v.excess within) completed) ≡ Some number) → Walks filling_in IsFillingIn (item_in s a l B (Braced line is comma)) s a u b (Err (Constraint number line))
    list_breaks number within z i j k e h =
        record {
          ok = tt;
          err = item_is ∙ braced_breaks l line is comma B (state_of s a) N (state_of u b) X number inner_fine.1.0 (node_is (Some number) within z i j k e h);
          within = tt;
          keeps = w.keeps;
        }

    pub list_goes : (within : Bool) (z : Standing) → z.is_static ≡ l.is_static → z.is_barred ≡ false → z.is_unfit ≡ false → within ≡ is_within l.is_scalar N
        → ((t : State) → (completed : List CType) → first_of init_constraints t (node_of z (Items v.excess within) completed) ≡ None) → AreEntriesIn a o.waits.items → AreComplete (tags b)
        → Walks filling_in IsFillingIn (item_in s a l B (Braced line is comma)) s a u b (Ok (record { places = v.places; waits = o.waits; excess = o.excess }))
    list_goes within z i j k e h entries complete =
        record {
          ok =
              item_is ∙ braced_fine l line is comma B (state_of s a) N (state_of u b) X inner_fine.1.0 (node_is None within z i j k e h)
              ∙ ap (Fine (state_of u b))
              (stored_same (B.places ++ X.places) (filling_in b v).places (left_behind N B.left) (waiting_in b o.waits.items) (B.excess || is_excess N B.left) o.excess (ap (λ (x : Stored). x.places) inner_fine.1.1) (sym (waiting_stays a b w.keeps.extends complete o.waits.items entries ∙ opened.left)) (sym opened.excess));
          err = tt;
          within = record { places = w.within.places };
          keeps = w.keeps;
        }
