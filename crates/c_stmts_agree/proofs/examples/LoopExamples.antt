-- `for (;;) 7: ;`: a loop without a test, in whose body a label stands.
use Rattle.std.specs.Prelude.{◌≡◌, ◌<◌, ℕ, suc, ◌==◌, Bool, true, false, None, List, [], ◌∷◌, if◌then◌else◌}
use Rattle.std.proofs.Common.{refl, arith}
use Rattle.lcc_base.specs.declared.order.Order.TheVariants.{Big}
use Rattle.op_forest.specs.declared.op.Op.TheVariants as op
use Rattle.op_forest.specs.declared.suffix.Suffix.TheVariants.{P, V}
use Rattle.op_forest.specs.declared.sym.Sym.TheVariants as sym
use Rattle.op_forest.specs.Callees.{Missing}
use Rattle.op_forest.specs.Lowered.{LoweredUnit}
use Rattle.forests.specs.Bodies.{Setting}
use Rattle.forests.specs.Functions.{Program}
use Rattle.forests.specs.Meaning.{call_of}
use Rattle.dag_forest.specs.declared.entry.Entry.TheVariants.{Value, Root}
use Rattle.dag_forest.specs.declared.kids.Kids.TheVariants.{Zero, One}
use Rattle.dag_forest.specs.Entries.{parts_of}
use Rattle.dag_seam.specs.SplitLaws.{TurnsMean}
use Rattle.c_meaning.specs.StmtTrees as stmt
use Rattle.c_meaning.specs.Units.{UnitTree}
use Rattle.c_runs.specs.Run.{context}
use Rattle.c_runs.specs.Samples as sample
use Rattle.c_runs.specs.Soundness.{EvalStaysSound}
use Rattle.c_runs.specs.Statements.{Start, exec}
use Rattle.piece_runs.specs.Laws.{AreSplit}
use Rattle.piece_runs.specs.Pieces.{Piece, OfBlock, Mark}
use Rattle.piece_runs.specs.Reaches.{BodyRun}
use Rattle.lowered_forms.specs.Lows.{ended}
use Rattle.lowered_forms.proofs.lemmas.Fronts.{front_itself}
use Rattle.lowered_statements.specs.Bodies.{Body}
use Rattle.lowered_statements.specs.FunctionBodies.{no_exits}
use Rattle.lowered_statements.specs.Functions.{Function, label_at}
use Rattle.lowered_statements.specs.Returns.{end_by}
use Rattle.lowered_statements.specs.Statements.{StmtTree, low_s}
use Rattle.lowered_labels.specs.Used.{IsOwn, GoesWithin}
use Rattle.c_straight_agree.specs.Narrow.{CharsAreNarrow, ShortsAreNarrow}
use Rattle.c_straight_agree.specs.Standing.{IsBody}
use Rattle.c_tests_agree.specs.Tested.{AreMarkedOnce, Label}
use Rattle.c_stmt_agreement.specs.Comings.{Activation, HasFrame, Origin, Ending}
use Rattle.c_stmt_agreement.specs.LoweredStmt.{StandsAt}
use Rattle.c_stmts_agree.specs.FunctionBodies.{CameBack}
use Rattle.c_stmts_agree.specs.Parts.{PartsAgree}
use Rattle.c_stmts_agree.specs.Tables.{HasTables}
use Rattle.c_stmts_agree.specs.Ways.{IsEnding}
use Rattle.c_stmts_agree.proofs.lemmas.Ends.{body_agrees}

abbrev loop : StmtTree
loop = stmt.For None None None (stmt.Label 9 stmt.Nothing)

-- ---- the function, with no locals, and its lowered body: the program's label has the number 0

abbrev source : UnitTree
source = sample.unit [] [] []

abbrev function : Function
function = record { context = record { unit = source; order = Big; parameters = 0; places = [] }; locals = []; result = sample.int; gives_zero = false; labels = 9 ∷ []; tables = 0 }

abbrev begin : Body
begin = record { low = record { pieces = []; entries = []; slots = []; labels = 1 }; tables = [] }

abbrev pieces : List Piece
pieces = (ended (end_by false (low_s function no_exits loop begin).low)).pieces

abbrev program : Program
program = record { callee = λ name. Missing; global = λ name. None; order = Big }

abbrev setting : Setting
setting = record { call = call_of program; environment = record { global = program.global; order = Big; home = record { function = 0; place = 0; made = 0; slots = []; words = 0 } } }

abbrev body : BodyRun
body = record { program = program; setting = setting; pieces = pieces }

abbrev target : LoweredUnit
target = record { functions = []; objects = []; names = []; order = Big }

abbrev activation : Activation
activation = record { scene = record { unit = source; own = 0; lowered = target; body = body; frame = record { types = []; addresses = []; others = [] } }; layout = record { types = []; parameters = 0; places = [] }; locals = 0; result = None }

body_is : AreSplit body → IsBody activation.scene 0
body_is split = record {
  split = split;
  tame = record { functions = tt; objects = tt; texts = tt };
  order = refl;
  words = λ name v e. absurd (let never : ⊥ = cc in never);
  above = omega arith;
  hidden = λ i le lt. absurd (let never : ⊥ = omega (arith, lt) in never);
}

has_frame : AreSplit body → HasFrame activation
has_frame split = record {
  body = body_is split;
  laid = record {
    frame = record {
      four = λ i s e. absurd (let never : ⊥ = cc in never);
      ends = λ i s e. absurd (let never : ⊥ = cc in never);
      apart = λ i j s t e f. absurd (let never : ⊥ = cc in never);
    };
    types = refl;
    places = λ n of e. absurd (let never : ⊥ = cc in never);
    addresses = λ n of z w e p q r. absurd (let never : ⊥ = cc in never);
    wholes = λ n of z e p q. absurd (let never : ⊥ = cc in never);
    functions = λ n lt. absurd (let never : ⊥ = omega (arith, lt) in never);
    objects = λ n lt. absurd (let never : ⊥ = omega (arith, lt) in never);
    texts = λ n lt. absurd (let never : ⊥ = omega (arith, lt) in never);
  };
  result = λ v e. absurd (let never : ⊥ = cc in never);
}

abbrev jump_to : ℕ → Piece
jump_to n = OfBlock [] (Value (parts_of (record { op = op.Addrg; suffix = P }) Zero (sym.Label n) None) ∷ Root (parts_of (record { op = op.Jump; suffix = V }) (One 0) sym.Nothing None) ∷ [])

-- the body's blocks and labels, in order
pieces_are : pieces
    ≡ jump_to 4 ∷ OfBlock [] [] ∷ Mark 1 ∷ OfBlock [] [] ∷ Mark 0 ∷ OfBlock [] [] ∷ Mark 2 ∷ OfBlock [] [] ∷ Mark 4
    ∷ jump_to 1 ∷ OfBlock [] [] ∷ Mark 3 ∷ OfBlock [] [] ∷ []
pieces_are = refl

-- ---- its parts, of which there are none, and its label

parts : (e : Ending) → PartsAgree activation function e loop
parts e = (tt, (tt, (tt, tt)))

no_tables : HasTables activation function (low_s function no_exits loop begin)
no_tables n labels none = absurd (let never : ⊥ = cc in never)

within : GoesWithin function false false loop
within = (omega arith, tt)

abbrev label : Label activation.scene 0
label = record {
  before = jump_to 4 ∷ OfBlock [] [] ∷ Mark 1 ∷ OfBlock [] [] ∷ [];
  slots = [];
  labels = 0;
  front = record { more = []; before = []; rest = Mark 2 ∷ OfBlock [] [] ∷ Mark 4 ∷ jump_to 1 ∷ OfBlock [] [] ∷ Mark 3 ∷ OfBlock [] [] ∷ []; is = refl };
  split = front_itself [];
}

there : (n : ℕ) → IsOwn function n → Label activation.scene (label_at function n)
there n own = by (n == 9) own
  where
    by : (b : Bool) → (if b then 0 else suc 0) < 1 → Label activation.scene (if b then 0 else suc 0)
    by true lt = label
    by false lt = absurd (let never : ⊥ = omega (arith, lt) in never)

-- ---- the run comes to what the loop comes to: it goes on as long as C's does

abbrev ending : Ending
ending = record { of = sample.int; copy = None; gives_zero = false }

agrees : CharsAreNarrow → ShortsAreNarrow → TurnsMean → EvalStaysSound → AreSplit body → AreMarkedOnce body → (o : Origin) (k : ℕ) → StandsAt activation o begin.low k
    → CameBack activation ending o (exec (context activation.scene.unit activation.scene.lowered.order) loop Start k o.old)
agrees chars shorts means evals split once o k at =
    body_agrees activation function there chars shorts means evals (has_frame split) once ending (record { zero = refl; copy = λ e. refl }) loop (parts ending) within begin (omega arith) no_tables refl o k at

-- ---- what is refused

-- a goto to a label that isn't the function's, and a `break` that is in no loop
not_within : GoesWithin function false false (stmt.Goto 8) → ⊥
not_within h = let lt = h in let never : ⊥ = omega (arith, lt) in never

no_break : GoesWithin function false false stmt.Break → ⊥
no_break e = let never : ⊥ = cc in never

-- a call that gives 0 for a function that doesn't
no_ending : IsEnding function (record { of = sample.int; copy = None; gives_zero = true }) → ⊥
no_ending h = let e = h.zero in let never : ⊥ = cc in never
