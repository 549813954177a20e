-- The one initialiser of an object: walked, and closed.
use Rattle.std.proofs.Common.{◌≡◌, ℕ, ◌<◌, Bool, true, false, Some, List, [], length, refl, sym, ap, ◌∙◌, subst}
use Rattle.std.specs.Prelude.{Result, Ok, Err, IfOk, IfErr, IsErrAnd, not}
use Rattle.lcc_base.specs.declared.which.Which.{Which}
use Rattle.c_ast.specs.declared.statement.Initialiser.{Initialiser as InitialiserValue, out-Initialiser}
use Rattle.c_ast.specs.declared.statement.InitialiserForm.{InitialiserForm}
use Rattle.c_ast.specs.Trees.{Braced, ByExpr, ExprTree, InitialiserTree, InitialiserTrees}
use Rattle.c_ast.specs.UnitViews.{initialiser_of}
use Rattle.c_ast.specs.SeenUnits.{initialiser_form_seen, initialiser_seen}
use Rattle.c_ast.proofs.lemmas.SeenNodes.{initialiser_parts}
use Rattle.c_symbols.specs.Scoping.{Scoping}
use Rattle.c_types.specs.CType.{CType}
use Rattle.c_types.specs.Table.{Table, Extends, Grows, tags, type_at}
use Rattle.c_meaning.specs.Constraints.{Breaks, Passes}
use Rattle.c_meaning.specs.CoreTrees.{CoreOf, IsIn, seen}
use Rattle.c_meaning.specs.DeclaringNodes.{first_any, initialiser_nodes}
use Rattle.c_meaning.specs.DeclaringRelation.{TypesInitialiser}
use Rattle.c_meaning.specs.Filling.{Waiting, begun_in}
use Rattle.c_meaning.specs.Initialising.{Initialised as InitialisedTrees, Stored, can_be_initialised, stored, typed_initialiser, typed_items, whole}
use Rattle.c_meaning.specs.Laws.{IsFirstOf, IsTyping}
use Rattle.c_meaning.specs.State.{State}
use Rattle.c_meaning.specs.Types.{is_scalar}
use Rattle.c_meaning.specs.Typing.{Outcome, Fine, Bad, then_do, typed}
use Rattle.c_values.specs.declared.check_fault.CheckFault.{CheckFault}
use Rattle.c_values.specs.declared.check_fault.CheckFault.TheVariants.{Constraint, Limit}
use Rattle.c_check_expr.specs.AtNode.{Tells}
use Rattle.c_check_expr.specs.Known.{state_of}
use Rattle.c_check_expr.proofs.lemmas.Walking.{first_stops, walk_as, walk_grown, walk_then}
use Rattle.c_check_expr.specs.Told.{breaks, passes, relates}
use Rattle.c_check_expr.specs.Walks.{Walks, core}
use Rattle.c_initialisers.specs.declared.filled.Filled.{Filled}
use Rattle.c_initialisers.specs.declared.nodes.Standing.{Standing}
use Rattle.c_initialisers.specs.declared.stored.Filling.{Filling}
use Rattle.c_initialisers.specs.declared.walk.Listing.{Listing}
use Rattle.c_initialisers.specs.Listed.{items_in, onto}
use Rattle.c_initialisers.specs.Objects.{IsFilledIn, filled_in}
use Rattle.c_initialisers.specs.Storing.{IsFillingIn, filling_in}
use Rattle.c_initialisers.specs.Wholes.{object_of, whole_in, whole_list, whole_value}

-- ---- what is typed of it

node_same : (s : State) (o : InitialisedTrees) (l : ℕ) (e : ExprTree) → typed_initialiser s o (ByExpr l e) ≡ then_do (typed s e) (λ t c. whole_value t l o (not (can_be_initialised s.tags o.of)) c)
node_same s o l e = by (can_be_initialised s.tags o.of) refl
  where
    by : (b : Bool) → can_be_initialised s.tags o.of ≡ b → typed_initialiser s o (ByExpr l e) ≡ then_do (typed s e) (λ t c. whole_value t l o (not (can_be_initialised s.tags o.of)) c)
    by true h = rw h refl
    by false h = rw h refl

-- nothing was stored before
onto_none : (ws : List Waiting) (o : Outcome Stored) → onto (stored [] ws false) o ≡ o
onto_none ws (Fine s x) = refl
onto_none ws (Bad f) = refl

-- ---- by an expression

module _ (s : Scoping) (a : Table) (o : InitialisedTrees) (unfit : Bool) (can : unfit ≡ not (can_be_initialised (tags a) o.of)) (line : ℕ) (e : ExprTree) where
  value_is : whole_in s a o (ByExpr line e) ≡ then_do (typed (state_of s a) e) (λ t c. whole_value t line o unfit c)
  unfolding whole_in
  value_is = rw can (node_same (state_of s a) o line e)

  pub whole_value_stops : (u : Scoping) (b : Table) (f : CheckFault) (r : Result Filled CheckFault) → IsErrAnd r (λ d. d ≡ f) → Walks core IsIn (typed (state_of s a) e) s a u b (Err f) → Walks filled_in IsFilledIn (whole_in s a o (ByExpr line e)) s a u b r
  whole_value_stops u b f r h x = walk_as (then_do (typed (state_of s a) e) (λ t c. whole_value t line o unfit c)) (whole_in s a o (ByExpr line e)) value_is (first_stops filled_in IsFilledIn (typed (state_of s a) e) (λ t c. whole_value t line o unfit c) r h x)

  pub whole_value_goes : (u : Scoping) (b d : Table) (c : CoreOf ℕ) (r : Result Filled CheckFault) → Walks core IsIn (typed (state_of s a) e) s a u b (Ok c) → Grows b d
      → IfOk r (λ f. (t : State) → t.tags ≡ tags b → whole_value t line o unfit (seen (type_at b) c) ≡ Fine t (filled_in d f)) → IfErr r (λ e. (t : State) → t.tags ≡ tags b → Tells e (whole_value t line o unfit (seen (type_at b) c))) → IfOk r (IsFilledIn (length d.forms))
      → Walks filled_in IsFilledIn (whole_in s a o (ByExpr line e)) s a u d r
  whole_value_goes u b d c r x g ok err within =
      walk_as (then_do (typed (state_of s a) e) (λ t c. whole_value t line o unfit c)) (whole_in s a o (ByExpr line e)) value_is
      (walk_then filled_in IsFilledIn (typed (state_of s a) e) (λ t c. whole_value t line o unfit c) s u u a b d c r x (walk_grown filled_in IsFilledIn (λ t. whole_value t line o unfit (core b c)) u b d r x.keeps.symbols g ok err within))

-- ---- by a list

module _ (s : Scoping) (a : Table) (o : InitialisedTrees) (unfit : Bool) (can : unfit ≡ not (can_be_initialised (tags a) o.of)) (line : ℕ) (is : InitialiserTrees) (comma : Bool) (l : Listing) (start : Filling)
    (static : l.is_static ≡ o.static) (scalar : l.is_scalar ≡ is_scalar o.of) (begun : filling_in a start ≡ stored [] (begun_in (tags a) is (whole (tags a) o.of)) false) where
  items_are : items_in s a l (filling_in a start) is ≡ typed_items (state_of s a) o.static (is_scalar o.of) (begun_in (tags a) is (whole (tags a) o.of)) is
  unfolding items_in
  items_are =
      ap (λ (x : Stored). onto x (typed_items (state_of s a) l.is_static l.is_scalar x.left is)) begun
      ∙ rw (static, scalar) (onto_none (begun_in (tags a) is (whole (tags a) o.of)) (typed_items (state_of s a) o.static (is_scalar o.of) (begun_in (tags a) is (whole (tags a) o.of)) is))

  list_is : whole_in s a o (Braced line is comma) ≡ then_do (items_in s a l (filling_in a start) is) (λ t inner. whole_list t line o unfit inner)
  unfolding whole_in
  list_is = rw (items_are, can) refl

  pub whole_list_stops : (u : Scoping) (b : Table) (f : CheckFault) (r : Result Filled CheckFault) → IsErrAnd r (λ d. d ≡ f) → Walks filling_in IsFillingIn (items_in s a l (filling_in a start) is) s a u b (Err f) → Walks filled_in IsFilledIn (whole_in s a o (Braced line is comma)) s a u b r
  whole_list_stops u b f r h x = walk_as (then_do (items_in s a l (filling_in a start) is) (λ t inner. whole_list t line o unfit inner)) (whole_in s a o (Braced line is comma)) list_is (first_stops filled_in IsFilledIn (items_in s a l (filling_in a start) is) (λ t inner. whole_list t line o unfit inner) r h x)

  pub whole_list_goes : (u : Scoping) (b d : Table) (v : Filling) (r : Result Filled CheckFault) → Walks filling_in IsFillingIn (items_in s a l (filling_in a start) is) s a u b (Ok v) → Grows b d
      → IfOk r (λ f. (t : State) → t.tags ≡ tags b → whole_list t line o unfit (filling_in b v) ≡ Fine t (filled_in d f)) → IfErr r (λ e. (t : State) → t.tags ≡ tags b → Tells e (whole_list t line o unfit (filling_in b v))) → IfOk r (IsFilledIn (length d.forms))
      → Walks filled_in IsFilledIn (whole_in s a o (Braced line is comma)) s a u d r
  whole_list_goes u b d v r x g ok err within =
      walk_as (then_do (items_in s a l (filling_in a start) is) (λ t inner. whole_list t line o unfit inner)) (whole_in s a o (Braced line is comma)) list_is
      (walk_then filled_in IsFilledIn (items_in s a l (filling_in a start) is) (λ t inner. whole_list t line o unfit inner) s u u a b d v r x (walk_grown filled_in IsFilledIn (λ t. whole_list t line o unfit (filling_in b v)) u b d r x.keeps.symbols g ok err within))

-- ---- the syntax of it, and its object

pub whole_as : (o : InitialisedTrees) (s u : Scoping) (a b : Table) (r : Result Filled CheckFault) (i : InitialiserValue) (f : InitialiserForm) (x : InitialiserTree) → (out-Initialiser i).form ≡ f → initialiser_form_seen f (out-Initialiser i).line ≡ x → Walks filled_in IsFilledIn (whole_in s a o x) s a u b r
    → Walks filled_in IsFilledIn (whole_in s a o (initialiser_seen i)) s a u b r
whole_as o s u a b r i f x h k w = subst (λ y. Walks filled_in IsFilledIn (whole_in s a o y) s a u b r) (sym (initialiser_parts i ∙ ap (λ g. initialiser_form_seen g (out-Initialiser i).line) h ∙ k)) w

pub object_stays : (a b : Table) (of : ℕ) (z : Standing) → Extends a b → of < length a.forms → object_of b of z ≡ object_of a of z
object_stays a b of z h l = ap (λ (t : CType). record { of = t; static = z.is_static; barred = z.is_barred }) (h.types_stay of l)

-- ---- what the public call says of it

module _ (s : Scoping) (a : Table) (o : InitialisedTrees) (i : InitialiserValue) where
  pub whole_typed : (u : Scoping) (b : Table) (r : Result Filled CheckFault) → IsTyping (typed_initialiser (state_of s a) o (initialiser_of i)) (TypesInitialiser (state_of s a) o (initialiser_of i)) → IfOk r (λ v. whole_in s a o (initialiser_seen i) ≡ Fine (state_of u b) (filled_in b v))
      → IfOk r (λ v. TypesInitialiser (state_of s a) o (initialiser_of i) (state_of u b) (filled_in b v))
  unfolding whole_in initialiser_seen
  whole_typed u b r h k = relates filled_in (typed_initialiser (state_of s a) o (initialiser_of i)) (TypesInitialiser (state_of s a) o (initialiser_of i)) u b r h k

  pub whole_breaks : (r : Result Filled CheckFault) (n l : ℕ) → IsFirstOf (typed_initialiser (state_of s a) o (initialiser_of i)) (initialiser_nodes (state_of s a) o (initialiser_of i)) → IfErr r (λ e. Tells e (whole_in s a o (initialiser_seen i))) → r ≡ Err (Constraint n l)
      → first_any (initialiser_nodes (state_of s a) o (initialiser_of i)) ≡ Some (Breaks n l)
  unfolding whole_in initialiser_seen
  whole_breaks r n l h k e = breaks (typed_initialiser (state_of s a) o (initialiser_of i)) (first_any (initialiser_nodes (state_of s a) o (initialiser_of i))) r n l h k e

  pub whole_passes : (r : Result Filled CheckFault) (w : Which) (l : ℕ) → IsFirstOf (typed_initialiser (state_of s a) o (initialiser_of i)) (initialiser_nodes (state_of s a) o (initialiser_of i)) → IfErr r (λ e. Tells e (whole_in s a o (initialiser_seen i))) → r ≡ Err (Limit w l)
      → first_any (initialiser_nodes (state_of s a) o (initialiser_of i)) ≡ Some (Passes w l)
  unfolding whole_in initialiser_seen
  whole_passes r w l h k e = passes (typed_initialiser (state_of s a) o (initialiser_of i)) (first_any (initialiser_nodes (state_of s a) o (initialiser_of i))) r w l h k e
