-- The node of an object's one initialiser, and what is stored behind it.
use Rattle.std.proofs.Common.{◌≡◌, ℕ, ◌<◌, true, false, Option, Some, None, List, [], ◌∷◌, length, refl, sym, ap, ◌∙◌, subst}
use Rattle.c_types.specs.CType.{CType}
use Rattle.c_types.specs.Layout.{Tag, extent}
use Rattle.c_types.specs.Members.{MemberAt}
use Rattle.c_types.specs.Table.{Grows, Table, is_above, tags, type_at}
use Rattle.c_meaning.specs.CoreTrees.{CoreOf, IsIn, seen}
use Rattle.c_meaning.specs.Filling.{filled_by, place_of, sized}
use Rattle.c_meaning.specs.Initialising.{Filled as FilledTrees, Items, Stored as StoredTrees, Value, at_init, completed_types, filled, init_constraints, list_of, stored_elements, text_elements}
use Rattle.c_meaning.specs.NodeConstraints.{first_of, passed_by}
use Rattle.c_meaning.specs.State.{State}
use Rattle.c_meaning.specs.StmtTrees.{FilledOf}
use Rattle.c_meaning.specs.Typing.{Fine, Bad}
use Rattle.c_meaning.specs.Constraints.{Breaks}
use Rattle.c_meaning.specs.Values.{CoreTree, value_type}
use Rattle.c_values.specs.Stays.{seen_stays}
use Rattle.c_values.specs.declared.check_fault.CheckFault.{CheckFault}
use Rattle.c_check_expr.specs.AtNode.{Tells}
use Rattle.c_check_expr.specs.Completed.{IsPassed}
use Rattle.c_initialisers.specs.declared.nodes.Standing.{Standing}
use Rattle.c_initialisers.specs.declared.place.Place.{Place}
use Rattle.c_initialisers.specs.Storing.{node_of}
use Rattle.c_initialisers.specs.Waiting.{place_in}
use Rattle.c_initialisers.specs.Wholes.{object_of, whole_list, whole_value}
use Rattle.c_initialisers.proofs.NodeFaults.{node_breaks, node_fine, node_told, passes_first, passes_none, passes_rest}

pub filled_same : (s u : CType) (ps qs : List (FilledOf CType)) → s ≡ u → ps ≡ qs → filled s ps ≡ filled u qs
filled_same s u ps qs h k = rw (h, k) refl

-- ---- by an expression

module _ (a : Table) (of : ℕ) (z : Standing) (line : ℕ) (c : CoreTree) (t : State) (e : t.tags ≡ tags a) where
  abbrev whole : CType
  whole = type_at a of

  abbrev size : CType
  size = sized whole (text_elements whole c)

  abbrev pub completed : List CType
  completed = completed_types whole size

  abbrev result : FilledTrees
  result = filled size (filled_by (place_of whole 0) c ∷ [])

  fit_is : z.is_unfit ≡ false → whole_value t line (object_of a of z) z.is_unfit c ≡ at_init t line (node_of z (Value (Some (place_of whole 0)) c) completed) result
  fit_is h = rw h refl

  unfit_is : z.is_unfit ≡ true → whole_value t line (object_of a of z) z.is_unfit c ≡ at_init t line (node_of z (Value None c) completed) (filled size [])
  unfit_is h = rw h refl

  at_same : (tags_now : List Tag) → tags_now ≡ tags a → (f : CheckFault) (ts : List CType) → IsPassed f line (passed_by (tags a) ts) → IsPassed f line (passed_by tags_now ts)
  at_same tags_now h f ts p = subst (λ (gs : List Tag). IsPassed f line (passed_by gs ts)) (sym h) p

  pub unplaced_breaks : (number : ℕ) → z.is_unfit ≡ true → first_of init_constraints t (node_of z (Value None c) completed) ≡ Some number → whole_value t line (object_of a of z) z.is_unfit c ≡ Bad (Breaks number line)
  unplaced_breaks number h k = unfit_is h ∙ node_breaks t line (node_of z (Value None c) completed) (filled size []) number k

  module _ (fit : z.is_unfit ≡ false) (at : MemberAt) (place : at ≡ place_of whole 0) where
    first_at : (r : Option ℕ) → first_of init_constraints t (node_of z (Value (Some at) c) completed) ≡ r → first_of init_constraints t (node_of z (Value (Some (place_of whole 0)) c) completed) ≡ r
    first_at r k = subst (λ (p : MemberAt). first_of init_constraints t (node_of z (Value (Some p) c) completed) ≡ r) place k

    pub placed_breaks : (number : ℕ) → first_of init_constraints t (node_of z (Value (Some at) c) completed) ≡ Some number → whole_value t line (object_of a of z) z.is_unfit c ≡ Bad (Breaks number line)
    placed_breaks number k = fit_is fit ∙ node_breaks t line (node_of z (Value (Some (place_of whole 0)) c) completed) result number (first_at (Some number) k)

    module _ (first : first_of init_constraints t (node_of z (Value (Some at) c) completed) ≡ None) where
      told : (f : CheckFault) → IsPassed f line (passed_by (tags a) (value_type c ∷ completed)) → Tells f (whole_value t line (object_of a of z) z.is_unfit c)
      told f p = subst (λ o. Tells f o) (sym (fit_is fit)) (node_told t line (node_of z (Value (Some (place_of whole 0)) c) completed) result f (first_at None first) (at_same t.tags e f (value_type c ∷ completed) p))

      pub size_told : (f : CheckFault) → is_above (extent (tags a) (value_type c)).size ≡ false → IsPassed f line (passed_by (tags a) completed) → Tells f (whole_value t line (object_of a of z) z.is_unfit c)
      size_told f small p = told f (passes_rest (tags a) (value_type c) completed f line small p)

      pub value_told : (f : CheckFault) → passed_by (tags a) completed ≡ None → IsPassed f line (passed_by (tags a) (value_type c ∷ [])) → Tells f (whole_value t line (object_of a of z) z.is_unfit c)
      value_told f none p = told f (passes_first (tags a) (value_type c) completed f line p none)

      pub placed_fine : passed_by (tags a) completed ≡ None → passed_by (tags a) (value_type c ∷ []) ≡ None → whole_value t line (object_of a of z) z.is_unfit c ≡ Fine t result
      placed_fine none p =
          fit_is fit
          ∙ node_fine t line (node_of z (Value (Some (place_of whole 0)) c) completed) result (first_at None first) (subst (λ (gs : List Tag). passed_by gs (value_type c ∷ completed) ≡ None) (sym e) (passes_none (tags a) (value_type c) completed p none))

-- what is stored over a table that grew
pub stored_whole : (a b : Table) (at : Place) (of : ℕ) (c : CoreOf ℕ) → Grows a b → of < length a.forms → IsIn (length a.forms) c → ((t : Table) → place_in t at ≡ place_of (type_at t of) 0) → filled_by (place_in b at) (seen (type_at b) c) ≡ filled_by (place_of (type_at a of) 0) (seen (type_at a) c)
stored_whole a b at of c g l i place =
    ap (λ (m : MemberAt). filled_by m (seen (type_at b) c)) (place b ∙ ap (λ (t : CType). place_of t 0) (g.extends.types_stay of l))
    ∙ ap (filled_by (place_of (type_at a of) 0)) (seen_stays a b g.extends c i)

pub value_later : (a b : Table) (c : CoreOf ℕ) → Grows a b → IsIn (length a.forms) c → (P : List Tag → CType → Type 0) → P (tags b) (value_type (seen (type_at b) c)) → P (tags a) (value_type (seen (type_at a) c))
value_later a b c g i P p = subst (λ (v : CoreTree). P (tags a) (value_type v)) (seen_stays a b g.extends c i) (subst (λ (gs : List Tag). P gs (value_type (seen (type_at b) c))) g.tags_same p)

-- ---- by a list

module _ (a : Table) (of : ℕ) (z : Standing) (line : ℕ) (inner : StoredTrees) (t : State) (e : t.tags ≡ tags a) where
  abbrev array : CType
  array = type_at a of

  abbrev pub node_types : List CType
  node_types = completed_types array (sized array (stored_elements inner.left inner.places))

  pub list_breaks : (number : ℕ) → first_of init_constraints t (node_of z (Items inner.excess false) node_types) ≡ Some number → whole_list t line (object_of a of z) z.is_unfit inner ≡ Bad (Breaks number line)
  list_breaks number k = node_breaks t line (node_of z (Items inner.excess false) node_types) (list_of (object_of a of z) inner) number k

  module _ (first : first_of init_constraints t (node_of z (Items inner.excess false) node_types) ≡ None) where
    pub list_told : (f : CheckFault) → IsPassed f line (passed_by (tags a) node_types) → Tells f (whole_list t line (object_of a of z) z.is_unfit inner)
    list_told f p = node_told t line (node_of z (Items inner.excess false) node_types) (list_of (object_of a of z) inner) f first (subst (λ (gs : List Tag). IsPassed f line (passed_by gs node_types)) (sym e) p)

    pub list_fine : passed_by (tags a) node_types ≡ None → whole_list t line (object_of a of z) z.is_unfit inner ≡ Fine t (list_of (object_of a of z) inner)
    list_fine p = node_fine t line (node_of z (Items inner.excess false) node_types) (list_of (object_of a of z) inner) first (subst (λ (gs : List Tag). passed_by gs node_types ≡ None) (sym e) p)
