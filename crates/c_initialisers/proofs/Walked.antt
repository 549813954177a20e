-- Walks over items: what is typed of each behind what was stored before it.
use Rattle.std.proofs.Common.{◌≡◌, ℕ, ◌+◌, ◌<◌, ◌≤◌, Bool, true, false, Some, List, [], ◌∷◌, length, get_or, drop, map, refl, sym, ap, ◌∙◌, subst, append_assoc}
use Rattle.std.specs.Prelude.{Result, Ok, Err, IfOk, IfErr, IsErrAnd, ◌||◌}
use Rattle.std.proofs.lemmas.List.{append-nil}
use Rattle.lcc_base.specs.declared.which.Which.{Which}
use Rattle.c_ast.specs.declared.statement.Initialiser.{Initialiser, out-Initialiser}
use Rattle.c_ast.specs.declared.statement.InitialiserForm.{InitialiserForm}
use Rattle.c_ast.specs.Trees.{ByExpr, ExprTree, InitialiserTree}
use Rattle.c_ast.specs.UnitViews.{initialisers_of}
use Rattle.c_ast.specs.SeenUnits.{initialiser_form_seen, initialiser_seen}
use Rattle.c_ast.proofs.lemmas.SeenNodes.{initialiser_parts}
use Rattle.c_symbols.specs.Scoping.{Scoping}
use Rattle.c_types.specs.Definitions.{AreComplete}
use Rattle.c_types.specs.Table.{Table, Grows, tags, type_at}
use Rattle.c_meaning.specs.Constraints.{Breaks, Passes}
use Rattle.c_meaning.specs.CoreTrees.{CoreOf, IsIn, seen}
use Rattle.c_meaning.specs.Initialising.{Stored, joined, stored, typed_item, typed_items}
use Rattle.c_meaning.specs.Laws.{IsFirst, IsTyping}
use Rattle.c_meaning.specs.Postorder.{Place, first_fault}
use Rattle.c_meaning.specs.State.{State}
use Rattle.c_meaning.specs.Typing.{Outcome, Fine, Bad, then_do, typed}
use Rattle.c_values.specs.declared.check_fault.CheckFault.{CheckFault}
use Rattle.c_values.specs.declared.check_fault.CheckFault.TheVariants.{Constraint, Limit, Memory}
use Rattle.c_check_expr.specs.AtNode.{Tells}
use Rattle.c_check_expr.specs.Known.{AreSymbolsIn, state_of}
use Rattle.c_check_expr.proofs.lemmas.WalkLists.{Going, folded, going_ends, going_on, going_starts, going_stops, then_same, then_then}
use Rattle.c_check_expr.proofs.lemmas.Walking.{first_stops, passed, walk_as, walk_grown, walk_then}
use Rattle.c_check_expr.specs.Walks.{Walks, core}
use Rattle.c_initialisers.specs.declared.stored.Filling.{Filling}
use Rattle.c_initialisers.specs.declared.walk.Listing.{Listing}
use Rattle.c_initialisers.specs.Listed.{item_in, items_in, onto, value_onto}
use Rattle.c_initialisers.specs.Storing.{IsFillingIn, filling_in}
use Rattle.c_initialisers.specs.Waiting.{AreEntriesIn}
use Rattle.c_initialisers.proofs.FillingStays.{filling_stays}

-- ---- expressions, by the public contract of their checker

pub typed_from : {V T : Type 0} (view : Table → V → T) (o : Outcome T) (types : State → T → Type 0) (u : Scoping) (b : Table) (r : Result V CheckFault) → IsTyping o types → IfOk r (λ v. types (state_of u b) (view b v)) → IfOk r (λ v. o ≡ Fine (state_of u b) (view b v))
typed_from view o types u b (Ok v) h k = (h (state_of u b) (view b v)).0 k
typed_from view o types u b (Err e) h k = tt

-- the outcome whose fault this is
bad_of : {T : Type 0} (o : Outcome T) (places : List Place) (f : _) → IsFirst o places → first_fault places ≡ Some f → o ≡ Bad f
bad_of (Fine s t) places f h e = absurd (cc)
bad_of (Bad g) places f h e = cc

pub told_from : {V T : Type 0} (o : Outcome T) (places : List Place) (r : Result V CheckFault) → IsFirst o places → ((n l : ℕ) → r ≡ Err (Constraint n l) → first_fault places ≡ Some (Breaks n l)) → ((w : Which) → (l : ℕ) → r ≡ Err (Limit w l) → first_fault places ≡ Some (Passes w l)) → IfErr r (λ e. Tells e o)
told_from o places (Ok v) h k m = tt
told_from o places (Err (Constraint n l)) h k m = bad_of o places (Breaks n l) h (k n l refl)
told_from o places (Err (Limit w l)) h k m = bad_of o places (Passes w l) h (m w l refl)
told_from o places (Err Memory) h k m = tt

-- ---- what is stored behind what was stored before

or_assoc : (a b c : Bool) → ((a || b) || c) ≡ (a || (b || c))
or_assoc true b c = refl
or_assoc false b c = refl

or_false : (a : Bool) → (a || false) ≡ a
or_false true = refl
or_false false = refl

joined_assoc : (a b c : Stored) → joined (joined a b) c ≡ joined a (joined b c)
joined_assoc a b c = rw (append_assoc a.places b.places c.places, or_assoc a.excess b.excess c.excess) refl

joined_none : (a : Stored) → joined a (stored [] a.left false) ≡ a
joined_none a = rw (append-nil a.places, or_false a.excess) refl

abbrev pub step : Listing → State → Stored → Initialiser → Outcome Stored
step l s before i = onto before (typed_item s l.is_static l.is_scalar before.left (initialiser_seen i))

-- items one behind the other
pub items_folded : (l : Listing) (s : State) (before : Stored) (xs : List Initialiser) → onto before (typed_items s l.is_static l.is_scalar before.left (initialisers_of (map initialiser_seen xs))) ≡ folded (step l) s before xs
items_folded l s before [] = ap (Fine s) (joined_none before)
items_folded l s before (x ∷ xs) =
    let i = typed_item s l.is_static l.is_scalar before.left (initialiser_seen x) in
    let rest : State → Stored → Outcome Stored = λ u one. typed_items u l.is_static l.is_scalar one.left (initialisers_of (map initialiser_seen xs)) in
    then_then i (λ u one. then_do (rest u one) (λ m more. Fine m (joined one more))) (λ u more. Fine u (joined before more))
    ∙ then_same i (λ u one. then_do (then_do (rest u one) (λ m more. Fine m (joined one more))) (λ m more. Fine m (joined before more))) (λ u one. folded (step l) u (joined before one) xs)
    (λ u one. then_then (rest u one) (λ m more. Fine m (joined one more)) (λ m more. Fine m (joined before more))
    ∙ then_same (rest u one) (λ m more. Fine m (joined before (joined one more))) (λ m more. Fine m (joined (joined before one) more)) (λ m more. ap (Fine m) (sym (joined_assoc before one more)))
    ∙ items_folded l u (joined before one) xs)
    ∙ sym (then_then i (λ u one. Fine u (joined before one)) (λ u one. folded (step l) u one xs))

-- ---- the loop over items

unfoldable pub ItemsGoing : Listing → Filling → Scoping → Table → List Initialiser → Scoping → Table → Filling → List Initialiser → Type 0
ItemsGoing l start r a list s t done left = Going filling_in IsFillingIn (step l) (items_in r a l (filling_in a start) (initialisers_of (map initialiser_seen list))) r a s t done left

pub items_start : (l : Listing) (start : Filling) (r : Scoping) (a : Table) (list : List Initialiser) → AreSymbolsIn (length a.forms) r.symbols → IsFillingIn (length a.forms) start → ItemsGoing l start r a list r a start list
unfolding ItemsGoing items_in
items_start l start r a list i w = going_starts filling_in IsFillingIn (step l) (items_in r a l (filling_in a start) (initialisers_of (map initialiser_seen list))) r a start list i w (items_folded l (state_of r a) (filling_in a start) list)

pub items_on : (l : Listing) (start : Filling) (r s u : Scoping) (a t b : Table) (list : List Initialiser) (done v : Filling) (i : ℕ) (x : Initialiser) → i < length list → x ≡ get_or list i x → ItemsGoing l start r a list s t done (drop i list) → Walks filling_in IsFillingIn (item_in s t l (filling_in t done) (initialiser_seen x)) s t u b (Ok v) → ItemsGoing l start r a list u b v (drop (i + 1) list)
unfolding ItemsGoing item_in
items_on l start r s u a t b list done v i x k e g w = going_on filling_in IsFillingIn (step l) (items_in r a l (filling_in a start) (initialisers_of (map initialiser_seen list))) r a s u t b done v list i x k e g w

pub items_stop : (l : Listing) (start : Filling) (r s u : Scoping) (a t b : Table) (list : List Initialiser) (done : Filling) (i : ℕ) (x : Initialiser) (f : CheckFault) (y : Result Filling CheckFault) → i < length list → x ≡ get_or list i x → ItemsGoing l start r a list s t done (drop i list) → Walks filling_in IsFillingIn (item_in s t l (filling_in t done) (initialiser_seen x)) s t u b (Err f) → IsErrAnd y (λ d. d ≡ f)
    → Walks filling_in IsFillingIn (items_in r a l (filling_in a start) (initialisers_of (map initialiser_seen list))) r a u b y
unfolding ItemsGoing item_in
items_stop l start r s u a t b list done i x f y k e g w h = passed y h (going_stops filling_in IsFillingIn (step l) (items_in r a l (filling_in a start) (initialisers_of (map initialiser_seen list))) r a s u t b done list i x f k e g w)

pub items_end : (l : Listing) (start : Filling) (r s : Scoping) (a t : Table) (list : List Initialiser) (done : Filling) (i : ℕ) → length list ≤ i → ItemsGoing l start r a list s t done (drop i list) → Walks filling_in IsFillingIn (items_in r a l (filling_in a start) (initialisers_of (map initialiser_seen list))) r a s t (Ok done)
unfolding ItemsGoing
items_end l start r s a t list done i k g = going_ends filling_in IsFillingIn (step l) (items_in r a l (filling_in a start) (initialisers_of (map initialiser_seen list))) r a s t done list i k g

-- ---- an expression among the items

pub value_walk : (l : Listing) (line : ℕ) (e : ExprTree) (before : Filling) (s u : Scoping) (a b d : Table) (c : CoreOf ℕ) (r : Result Filling CheckFault) → IsFillingIn (length a.forms) before → AreEntriesIn a before.waits.items → AreComplete (tags b)
    → Walks core IsIn (typed (state_of s a) e) s a u b (Ok c) → Grows b d
    → IfOk r (λ f. (s : State) → s.tags ≡ tags b → value_onto s l.is_static line (filling_in b before) (seen (type_at b) c) ≡ Fine s (filling_in d f))
    → IfErr r (λ e. (s : State) → s.tags ≡ tags b → Tells e (value_onto s l.is_static line (filling_in b before) (seen (type_at b) c)))
    → IfOk r (IsFillingIn (length d.forms))
    → Walks filling_in IsFillingIn (item_in s a l (filling_in a before) (ByExpr line e)) s a u d r
unfolding item_in
value_walk l line e before s u a b d c r w i k x g ok err within =
    let B = filling_in a before in
    let stay : filling_in b before ≡ B = filling_stays a b x.keeps.extends k before w i in
    let next : State → _ → Outcome Stored = λ m k. value_onto m l.is_static line B k in
    let node : Walks filling_in IsFillingIn (value_onto (state_of u b) l.is_static line (filling_in b before) (core b c)) u b u d r = walk_grown filling_in IsFillingIn (λ m. value_onto m l.is_static line (filling_in b before) (core b c)) u b d r x.keeps.symbols g ok err within in
    walk_as (then_do (typed (state_of s a) e) next) (item_in s a l B (ByExpr line e)) (then_then (typed (state_of s a) e) _ _)
    (walk_then filling_in IsFillingIn (typed (state_of s a) e) next s u u a b d c r x (subst (λ z. Walks filling_in IsFillingIn (value_onto (state_of u b) l.is_static line z (core b c)) u b u d r) stay node))

pub value_stops : (l : Listing) (line : ℕ) (e : ExprTree) (before : Filling) (s u : Scoping) (a b : Table) (f : CheckFault) (r : Result Filling CheckFault) → IsErrAnd r (λ d. d ≡ f) → Walks core IsIn (typed (state_of s a) e) s a u b (Err f)
    → Walks filling_in IsFillingIn (item_in s a l (filling_in a before) (ByExpr line e)) s a u b r
unfolding item_in
value_stops l line e before s u a b f r h x =
    let B = filling_in a before in
    walk_as (then_do (typed (state_of s a) e) (λ m k. value_onto m l.is_static line B k)) (item_in s a l B (ByExpr line e)) (then_then (typed (state_of s a) e) _ _) (first_stops filling_in IsFillingIn (typed (state_of s a) e) (λ m k. value_onto m l.is_static line B k) r h x)

-- ---- the syntax of an item

pub item_as : (l : Listing) (before : Stored) (s u : Scoping) (a b : Table) (r : Result Filling CheckFault) (i : Initialiser) (f : InitialiserForm) (x : InitialiserTree) → (out-Initialiser i).form ≡ f → initialiser_form_seen f (out-Initialiser i).line ≡ x → Walks filling_in IsFillingIn (item_in s a l before x) s a u b r
    → Walks filling_in IsFillingIn (item_in s a l before (initialiser_seen i)) s a u b r
item_as l before s u a b r i f x h k w = subst (λ y. Walks filling_in IsFillingIn (item_in s a l before y) s a u b r) (sym (initialiser_parts i ∙ ap (λ g. initialiser_form_seen g (out-Initialiser i).line) h ∙ k)) w
