-- What typing makes of the items of a list behind others, as contracts of the walk speak of it.
use Rattle.std.specs.Prelude.{ℕ, Bool, Some, [], ◌∷◌, ◌++◌}
use Rattle.c_ast.specs.Trees.{InitialiserTree, InitialiserTrees}
use Rattle.c_symbols.specs.Scoping.{Scoping}
use Rattle.c_types.specs.Members.{MemberAt}
use Rattle.c_types.specs.Table.{Table}
use Rattle.c_meaning.specs.Filling.{filled_by, taken}
use Rattle.c_meaning.specs.Initialising.{Stored, Value, at_init, by_value, inner_node, joined, stored, typed_item, typed_items, value_node}
use Rattle.c_meaning.specs.State.{State}
use Rattle.c_meaning.specs.Typing.{Outcome, Fine, then_do}
use Rattle.c_meaning.specs.Values.{CoreTree}
use Rattle.c_check_expr.specs.Known.{state_of}
use Rattle.c_initialisers.specs.declared.walk.Listing.{Listing}

-- behind what was stored before
abbrev pub onto : Stored → Outcome Stored → Outcome Stored
onto before o = then_do o (λ u more. Fine u (joined before more))

unfoldable pub items_in : Scoping → Table → Listing → Stored → InitialiserTrees → Outcome Stored
items_in s t l before is = onto before (typed_items (state_of s t) l.is_static l.is_scalar before.left is)

unfoldable pub item_in : Scoping → Table → Listing → Stored → InitialiserTree → Outcome Stored
item_in s t l before i = onto before (typed_item (state_of s t) l.is_static l.is_scalar before.left i)

-- an expression whose value is checked
abbrev pub value_onto : State → Bool → ℕ → Stored → CoreTree → Outcome Stored
value_onto s static line before c = onto before (at_init s line (value_node static (taken s.tags c before.left) c) (by_value (taken s.tags c before.left) before.left c))

-- an expression over its place, behind others that are stored
abbrev pub value_in : State → Bool → ℕ → MemberAt → CoreTree → Stored → Outcome Stored
value_in s static line at c others = at_init s line (inner_node static (Value (Some at) c)) (stored (others.places ++ filled_by at c ∷ []) others.left others.excess)
