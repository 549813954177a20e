-- Initialisers: their nodes, the constraints on these, and what is typed of them, part by part.
-- Source: C89 3.5.7, in the profile of this compiler.
use Rattle.std.specs.Prelude.{ℕ, ◌+◌, ◌&&◌, ◌||◌, not, nat_lt, Bool, true, false, Option, Some, None, List, [], ◌∷◌, ◌++◌, length, if◌then◌else◌}
use Rattle.c_ast.specs.Trees.{InitialiserTree, ByExpr, Braced, InitialiserTrees, NoInitialisers, Initialisers}
use Rattle.c_types.specs.CType.{CType, Array}
use Rattle.c_types.specs.Layout.{Tag, size_or_zero}
use Rattle.c_types.specs.Members.{MemberAt}
use Rattle.c_meaning.specs.CoreTrees.{what_of}
use Rattle.c_meaning.specs.StmtTrees.{FilledOf}
use Rattle.c_meaning.specs.State.{State}
use Rattle.c_meaning.specs.Types.{is_scalar, has_size}
use Rattle.c_meaning.specs.Values.{CoreTree, value, value_type}
use Rattle.c_meaning.specs.ExprConstraints.{is_assignable}
use Rattle.c_meaning.specs.Constraints.{Fault, broken_or}
use Rattle.c_meaning.specs.Typing.{Outcome, Fine, then_do, typed, unless}
use Rattle.c_meaning.specs.NodeConstraints.{ConstraintOn, on, first_of, passed_by}
use Rattle.c_meaning.specs.AddressConstants.{is_static_value}
use Rattle.c_meaning.specs.Filling.{Waiting, Found, found, place_of, fills, is_text_over, taken, next, begun_in, left_behind, is_excess, text_of, count_of, sized, filled_in, elements_begun}

-- ---- nodes

-- an expression with the place that it fills, or a list in braces
pub data InitForm : Type 0 where
  -- no place is left for it where there is none
  Value : (at : Option MemberAt) (c : CoreTree) → InitForm
  -- whether an item found no place, and whether the list is the initialiser of a scalar that stands in braces already
  Items : (excess within : Bool) → InitForm

-- an initialiser whose parts are typed
pub record InitNode : Type 0 where
  pub form : InitForm
  -- the object has static storage
  pub static : Bool
  -- it is the whole of what no initialiser may stand behind
  pub barred : Bool
  -- it is the whole of an object whose type can't be initialised
  pub unfit : Bool
  -- the types that it completes
  pub completed : List CType

-- ---- constraints

-- 22: an initialiser on a typedef, a parameter or a block's `extern`
abbrev pub is_barred : State → InitNode → Bool
is_barred s n = n.barred

abbrev pub has_excess : InitForm → Bool
has_excess (Items excess within) = excess
has_excess (Value at c) = false

-- 23: an initialiser has more items than places
abbrev pub has_too_many : State → InitNode → Bool
has_too_many s n = has_excess n.form

abbrev pub is_variable : List Tag → InitForm → Bool
is_variable tags (Value (Some at) c) = not (is_text_over at.of c) && not (is_static_value tags (value c))
is_variable tags form = false

-- 24: a static object's initialiser isn't a constant or address constant
abbrev pub is_not_constant : State → InitNode → Bool
is_not_constant s n = n.static && is_variable s.tags n.form

-- it may be assigned to a scalar, or fills the whole
abbrev pub suits : CType → CoreTree → Bool
suits of c = if is_scalar of then is_assignable of (value c) else fills of c

abbrev pub is_unsuited : InitForm → Bool
is_unsuited (Value (Some at) c) = not (suits at.of c)
is_unsuited (Value None c) = false
is_unsuited (Items excess within) = within

-- 25: a scalar's initialiser isn't one assignable expression, or a structure's neither a list nor compatible
abbrev pub is_not_assignable : State → InitNode → Bool
is_not_assignable s n = is_unsuited n.form

abbrev pub is_longer : List ℕ → Option ℕ → Bool
is_longer bytes (Some n) = nat_lt n (length bytes)
is_longer bytes None = false

abbrev pub is_long_text : InitForm → Bool
is_long_text (Value (Some at) c) = is_text_over at.of c && is_longer (text_of (what_of c)) (count_of at.of)
is_long_text form = false

-- 26: a string has more bytes, without its null, than the array
abbrev pub has_long_text : State → InitNode → Bool
has_long_text s n = is_long_text n.form

-- 27: a function, or an incomplete type other than an array of unknown size, is initialised
abbrev pub is_unfit : State → InitNode → Bool
is_unfit s n = n.unfit

-- all of them, smaller numbers first
abbrev pub init_constraints : List (ConstraintOn InitNode)
init_constraints =
    on 22 is_barred ∷
    on 23 has_too_many ∷
    on 24 is_not_constant ∷
    on 25 is_not_assignable ∷
    on 26 has_long_text ∷
    on 27 is_unfit ∷ []

abbrev pub form_types : InitForm → List CType
form_types (Value (Some at) c) = value_type c ∷ []
form_types form = []

-- the types that are formed at the node: that of the value, and the array that it completes
abbrev pub init_types : InitNode → List CType
init_types n = form_types n.form ++ n.completed

-- constraints before limits, smaller numbers first
unfoldable pub init_fault : State → ℕ → InitNode → Option Fault
init_fault s line n = broken_or line (first_of init_constraints s n) (passed_by s.tags (init_types n))

-- ---- whole objects

-- an object that is initialised: its type, whether its storage is static, and whether no initialiser may stand there
pub record Initialised : Type 0 where
  pub of : CType
  pub static : Bool
  pub barred : Bool

abbrev pub has_unknown_size : CType → Bool
has_unknown_size (Array of None) = true
has_unknown_size t = false

abbrev pub can_be_initialised : List Tag → CType → Bool
can_be_initialised tags of = has_size tags of || has_unknown_size of

-- the object itself waits
abbrev pub whole : List Tag → CType → Option Found
whole tags of = if can_be_initialised tags of then Some (found (place_of of 0) []) else None

abbrev pub place_in : Option Found → Option MemberAt
place_in None = None
place_in (Some f) = Some f.at

-- an array of unknown size gets as many elements as its list began, or as a string has bytes with its null
abbrev pub text_elements : CType → CoreTree → ℕ
text_elements of c = if is_text_over of c then length (text_of (what_of c)) + 1 else 0

-- the array of a list that begins with a string has its size from that
abbrev pub elements_stored : List (FilledOf CType) → ℕ
elements_stored [] = 0
elements_stored (p ∷ ps) = size_or_zero (count_of p.of)

abbrev pub stored_elements : List Waiting → List (FilledOf CType) → ℕ
stored_elements [] ps = elements_stored ps
stored_elements ws ps = elements_begun ws

abbrev pub completed_types : CType → CType → List CType
completed_types (Array of None) t = t ∷ []
completed_types of t = []

-- ---- the walk

-- what items have stored, what still waits behind them, and whether one of them found no place
pub record Stored : Type 0 where
  pub places : List (FilledOf CType)
  pub left : List Waiting
  pub excess : Bool

-- what an initialiser stores in an object, and the object's type, completed
pub record Filled : Type 0 where
  pub of : CType
  pub places : List (FilledOf CType)

abbrev pub stored : List (FilledOf CType) → List Waiting → Bool → Stored
stored places left excess = record { places = places; left = left; excess = excess }

abbrev pub filled : CType → List (FilledOf CType) → Filled
filled of places = record { of = of; places = places }

abbrev pub inner_node : Bool → InitForm → InitNode
inner_node static form = record { form = form; static = static; barred = false; unfit = false; completed = [] }

abbrev pub whole_node : State → Initialised → InitForm → CType → InitNode
whole_node s i form of =
    record {
      form = form;
      static = i.static;
      barred = i.barred;
      unfit = not (can_be_initialised s.tags i.of);
      completed = completed_types i.of of;
    }

abbrev pub is_scalar_at : Option Found → Bool
is_scalar_at None = false
is_scalar_at (Some f) = is_scalar f.at.of

-- ---- the walk

abbrev pub joined : Stored → Stored → Stored
joined one more = stored (one.places ++ more.places) more.left (one.excess || more.excess)

-- the node of an initialiser whose parts are typed: its fault, or what it makes of them
abbrev pub at_init : {T : Type 0} → State → ℕ → InitNode → T → Outcome T
at_init s line n typed = unless (init_fault s line n) s typed

abbrev pub value_node : Bool → Option Found → CoreTree → InitNode
value_node static f c = inner_node static (Value (place_in f) c)

abbrev pub list_node : Bool → Bool → Stored → InitNode
list_node static within inner = inner_node static (Items inner.excess within)

-- a list in the braces of a scalar is the scalar's where it has the scalar's place
abbrev pub is_within : Bool → Option Found → Bool
is_within scalar None = false
is_within scalar (Some f) = scalar

-- an expression, and a list, among the items of a list
abbrev pub by_value : Option Found → List Waiting → CoreTree → Stored
by_value f ws c = stored (filled_in f c) (left_behind f ws) (is_excess f ws)

abbrev pub by_list : Option Found → List Waiting → Stored → Stored
by_list f ws inner = stored inner.places (left_behind f ws) (is_excess f ws)

-- a whole initialiser
abbrev pub value_of : State → Initialised → CoreTree → Filled
value_of s i c = filled (sized i.of (text_elements i.of c)) (filled_in (whole s.tags i.of) c)

abbrev pub list_of : Initialised → Stored → Filled
list_of i inner = filled (sized i.of (stored_elements inner.left inner.places)) inner.places

abbrev mutual
  -- the items of a list in braces, over what waits for them; and whether it is the list of a scalar
  pub typed_items : State → Bool → Bool → List Waiting → InitialiserTrees → Outcome Stored
  typed_items s static scalar ws NoInitialisers = Fine s (stored [] ws false)
  typed_items s static scalar ws (Initialisers i is) = then_do (typed_item s static scalar ws i) (λ s one. then_do (typed_items s static scalar one.left is) (λ s more. Fine s (joined one more)))

  pub typed_item : State → Bool → Bool → List Waiting → InitialiserTree → Outcome Stored
  typed_item s static scalar ws (ByExpr l e) = then_do (typed s e) (λ s c. at_init s l (value_node static (taken s.tags c ws) c) (by_value (taken s.tags c ws) ws c))
  typed_item s static scalar ws (Braced l items comma) = then_do (typed_items s static (is_scalar_at (next s.tags ws)) (begun_in s.tags items (next s.tags ws)) items) (λ t inner. at_init t l (list_node static (is_within scalar (next s.tags ws)) inner) (by_list (next s.tags ws) ws inner))

-- An initialiser of an object. Whether the object's type can be initialised is asked before the initialiser, which may complete it.
abbrev pub typed_initialiser : State → Initialised → InitialiserTree → Outcome Filled
typed_initialiser s i (ByExpr l e) = then_do (typed s e) (λ t c. at_init t l (whole_node s i (Value (place_in (whole s.tags i.of)) c) (value_of s i c).of) (value_of s i c))
typed_initialiser s i (Braced l items comma) = then_do (typed_items s i.static (is_scalar i.of) (begun_in s.tags items (whole s.tags i.of)) items) (λ t inner. at_init t l (whole_node s i (Items inner.excess false) (list_of i inner).of) (list_of i inner))
