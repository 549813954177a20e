-- Locals that a list and a structure initialise: `int a[8] = { 1 }`, and `struct s t = u` where u is another local.
use Rattle.std.specs.Prelude.{◌≡◌, ℕ, ℤ, negsuc, false, None, List, [], ◌∷◌}
use Rattle.std.proofs.Common.{refl}
use Rattle.lcc_base.specs.declared.order.Order.TheVariants.{Big}
use Rattle.op_forest.specs.Callees.{Missing}
use Rattle.op_forest.specs.Lowered.{LoweredUnit}
use Rattle.forests.specs.Functions.{Program}
use Rattle.forests.specs.Meaning.{call_of}
use Rattle.c_types.specs.CType.{CType}
use Rattle.c_meaning.specs.Each.{EachIs}
use Rattle.c_meaning.specs.StmtTrees.{FilledOf}
use Rattle.c_meaning.specs.Types.{is_array}
use Rattle.c_meaning.specs.Units.{UnitTree}
use Rattle.c_runs.specs.Samples as sample
use Rattle.piece_runs.specs.Reaches.{BodyRun}
use Rattle.lowered_statements.specs.Functions.{Function}
use Rattle.c_stmt_agreement.specs.Comings.{Activation}
use Rattle.c_stores_agree.specs.Initialisers.{IsLocal}

abbrev source : UnitTree
source = record { functions = []; objects = []; texts = []; tags = sample.pair_tag ∷ []; main = 0 }

abbrev lowered : LoweredUnit
lowered = record { functions = []; objects = []; names = []; order = Big }

abbrev program : Program
program = record { callee = λ name. Missing; global = λ name. None; order = Big }

abbrev body : BodyRun
body = record { program = program; setting = record { call = call_of program; environment = record { global = program.global; order = Big; home = record { function = 0; place = 0; made = 0; slots = []; words = 0 } } }; pieces = [] }

abbrev locals : List CType
locals = sample.array sample.int 8 ∷ sample.pair ∷ sample.pair ∷ []

abbrev places : List ℤ
places = negsuc 31 ∷ negsuc 39 ∷ negsuc 47 ∷ []

abbrev activation : Activation
activation = record {
  scene = record { unit = source; own = 0; lowered = lowered; body = body; frame = record { types = locals; addresses = []; others = [] } };
  layout = record { types = locals; parameters = 0; places = places };
  locals = 3;
  result = None;
}

abbrev function : Function
function = record { context = record { unit = source; order = Big; parameters = 0; places = places }; locals = locals; result = sample.int; gives_zero = false; labels = []; tables = 0 }

array_is_local : IsLocal activation function 0 (sample.array sample.int 8)
array_is_local = record { context = refl; listed = refl; typed = refl }

structure_is_local : IsLocal activation function 1 sample.pair
structure_is_local = record { context = refl; listed = refl; typed = refl }

-- an element and a structure are filled by no string, an array of characters is
abbrev IsPlain : FilledOf CType → Type 0
IsPlain x = is_array x.of ≡ false

plain : EachIs IsPlain (sample.filling sample.int 0 (sample.number 1 1) ∷ sample.filling sample.pair 0 (sample.read 1 (sample.local 1 sample.pair 2)) ∷ [])
plain = (refl, (refl, tt))

not_plain : IsPlain (sample.filling (sample.array sample.char 4) 0 (sample.number 1 1)) → ⊥
not_plain h = let never : ⊥ = cc in never

-- ---- what is refused

no_number : IsLocal activation function 0 sample.int → ⊥
no_number h = let e = h.typed in let never : ⊥ = cc in never

no_fourth : (of : CType) → IsLocal activation function 3 of → ⊥
no_fourth of h = let e = h.listed in let never : ⊥ = cc in never
