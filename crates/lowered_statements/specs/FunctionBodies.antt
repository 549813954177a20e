-- The lowering of a function's body: narrow parameters are stored in their slots, then come the statements, and the end, at which main gives
-- 0.
-- Source: ISO/IEC 9899:1990, 5.1.2.2.3, 6.7.1; Fraser and Hanson, A Retargetable C Compiler, chapter 11.
use Rattle.std.specs.Prelude.{ℕ, suc, ◌*◌, ◌==◌, pos, Bool, true, false, List, [], ◌∷◌, length, take, slice_get}
use Rattle.lcc_base.specs.declared.order.Order.{Order}
use Rattle.op_forest.specs.declared.op.Op.TheVariants as op
use Rattle.op_forest.specs.declared.suffix.Suffix.TheVariants.{I}
use Rattle.c_types.specs.CType.{CType}
use Rattle.c_meaning.specs.Rows.{result_type}
use Rattle.c_meaning.specs.Scalars.{scalar_of}
use Rattle.c_meaning.specs.Units.{FunctionTree, UnitTree, labels}
use Rattle.c_rows_agree.specs.Places.{stored_as}
use Rattle.c_rows_agree.specs.Typed.{Typed, over}
use Rattle.lowered_forms.specs.Lows.{Low, acted, ended}
use Rattle.lowered_forms.specs.Places.{local_by, parameter}
use Rattle.lowered_statements.specs.Bodies.{Body, on_low}
use Rattle.lowered_statements.specs.Functions.{Function, Exits}
use Rattle.lowered_statements.specs.Layouts.{Layout, is_narrow, first_word, layout}
use Rattle.lowered_statements.specs.Returns.{end_by}
use Rattle.lowered_statements.specs.Statements.{low_s}

-- ---- what a function is lowered in: its number, and the name of its first table

abbrev pub function_in : UnitTree → Order → ℕ → ℕ → FunctionTree → Function
function_in u order number tables f =
    record {
      context = record { unit = u; order = order; parameters = f.parameters; places = (layout u.tags f).places };
      locals = f.locals;
      result = result_type f.of;
      gives_zero = number == u.main;
      labels = labels f.body;
      tables = tables;
    }

-- ---- parameters

abbrev pub word_passed : ℕ → Typed
word_passed word = record { tree = over op.Indir I (parameter (pos (4 * word))).tree; suffix = I }

-- a word is stored in the slot of its parameter
abbrev pub parameter_stored : Bool → Function → ℕ → ℕ → CType → Low → Low
parameter_stored true f n word t l = acted (stored_as (scalar_of t).width (local_by false (slice_get f.context.places n)) (word_passed word)) l
parameter_stored false f n word t l = l

-- from this local and this word on
abbrev pub parameters_stored : Function → ℕ → ℕ → List CType → Low → Low
parameters_stored f n word [] l = l
parameters_stored f n word (t ∷ ts) l = parameters_stored f (suc n) (suc word) ts (parameter_stored (is_narrow f.context.unit.tags t) f n word t l)

-- ---- the body

-- the labels of the program are there, and the locals' slots
abbrev pub begun : Function → Layout → Body
begun f a = record { low = record { pieces = []; entries = []; slots = a.slots; labels = length f.labels }; tables = [] }

-- no `break` or `continue` leaves the body
abbrev pub no_exits : Exits
no_exits = record { breaks = 0; continues = 0 }

abbrev pub lowered_in : Function → FunctionTree → Body → Body
lowered_in g f b =
    on_low (λ l. ended (end_by g.gives_zero l))
    (low_s g no_exits f.body (on_low (λ l. parameters_stored g 0 (first_word f) (take f.parameters f.locals) l) b))

abbrev pub low_f : UnitTree → Order → ℕ → ℕ → FunctionTree → Body
low_f u order number tables f = lowered_in (function_in u order number tables f) f (begun (function_in u order number tables f) (layout u.tags f))
