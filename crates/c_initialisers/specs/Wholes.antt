-- What typing makes of the one initialiser of an object, as contracts of its checker speak of it.
use Rattle.std.specs.Prelude.{ℕ, Bool, false, Some, None, [], ◌∷◌, if◌then◌else◌}
use Rattle.c_ast.specs.Trees.{InitialiserTree}
use Rattle.c_symbols.specs.Scoping.{Scoping}
use Rattle.c_types.specs.Table.{Table, type_at}
use Rattle.c_meaning.specs.Filling.{filled_by, place_of, sized}
use Rattle.c_meaning.specs.Initialising.{Filled, InitForm, InitNode, Initialised, Items, Stored, Value, at_init, completed_types, filled, list_of, text_elements, typed_initialiser}
use Rattle.c_meaning.specs.State.{State}
use Rattle.c_meaning.specs.Typing.{Outcome}
use Rattle.c_meaning.specs.Values.{CoreTree}
use Rattle.c_check_expr.specs.Known.{state_of}
use Rattle.c_initialisers.specs.declared.nodes.Standing.{Standing}

unfoldable pub whole_in : Scoping → Table → Initialised → InitialiserTree → Outcome Filled
whole_in s t o i = typed_initialiser (state_of s t) o i

abbrev pub object_of : Table → ℕ → Standing → Initialised
object_of t of z = record { of = type_at t of; static = z.is_static; barred = z.is_barred }

abbrev pub whole_node_of : Initialised → Bool → InitForm → Filled → InitNode
whole_node_of o unfit form f = record { form = form; static = o.static; barred = o.barred; unfit = unfit; completed = completed_types o.of f.of }

-- by an expression that is typed
abbrev pub value_filled : Initialised → Bool → CoreTree → Filled
value_filled o unfit c = filled (sized o.of (text_elements o.of c)) (if unfit then [] else filled_by (place_of o.of 0) c ∷ [])

abbrev pub whole_value : State → ℕ → Initialised → Bool → CoreTree → Outcome Filled
whole_value t line o unfit c = at_init t line (whole_node_of o unfit (Value (if unfit then None else Some (place_of o.of 0)) c) (value_filled o unfit c)) (value_filled o unfit c)

-- by a list whose items are typed
abbrev pub whole_list : State → ℕ → Initialised → Bool → Stored → Outcome Filled
whole_list t line o unfit inner = at_init t line (whole_node_of o unfit (Items inner.excess false) (list_of o inner)) (list_of o inner)
