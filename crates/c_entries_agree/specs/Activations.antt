-- A call of a lowered function: the scene of its body, and where its locals stand; and the state in which its body's statements begin.
-- Source: ISO/IEC 9899:1990, 6.3.2.2, 6.7.1; Fraser and Hanson, A Retargetable C Compiler, chapters 11 and 13.
use Rattle.std.specs.Prelude.{◌≡◌, ◌<◌, ℕ, ◌==◌, List, [], length, slice_get}
use Rattle.op_forest.specs.declared.lowered.LoweredFunction.{LoweredFunction}
use Rattle.op_forest.specs.Lowered.{LoweredUnit}
use Rattle.op_forest.specs.Units.{body_of}
use Rattle.forests.specs.Addresses.{Home}
use Rattle.forests.specs.Functions.{entered, home_in, setting_of}
use Rattle.forests.specs.Meaning.{call_of}
use Rattle.forests.specs.Units.{program_of}
use Rattle.forests.specs.Worlds.{World, Outcome}
use Rattle.c_meaning.specs.Rows.{result_type}
use Rattle.c_meaning.specs.Units.{FunctionTree, UnitTree}
use Rattle.c_runs.specs.Calls.{Call, own_parameters}
use Rattle.c_runs.specs.Soundness.{outlines}
use Rattle.c_runs.specs.Worlds as c
use Rattle.c_match.specs.Left.{IsPrivate}
use Rattle.c_match.specs.Ranges.{Map, Grown}
use Rattle.c_agreement.specs.Pairs.{own_count}
use Rattle.piece_runs.specs.Pieces.{Piece}
use Rattle.piece_runs.specs.Reaches.{BodyRun, run_from}
use Rattle.c_expr_agreement.specs.Scenes.{Scene}
use Rattle.lowered_forms.specs.Lows.{Low}
use Rattle.lowered_statements.specs.Bodies.{Body}
use Rattle.lowered_statements.specs.FunctionBodies.{function_in, begun, low_f, parameters_stored}
use Rattle.lowered_statements.specs.Functions.{Function}
use Rattle.lowered_statements.specs.Layouts.{first_word, layout}
use Rattle.c_straight_agree.specs.Layouts.{FrameLayout}
use Rattle.c_stmt_agreement.specs.Comings.{Activation, Origin, Ending}
use Rattle.c_stmt_agreement.specs.LoweredStmt.{StandsAt}
use Rattle.c_entries_agree.specs.Standpoints.{frame_of}
use Rattle.c_entries_agree.specs.Lowered.{IsFunctionLowering}

-- ---- a call of the function of a number, from a world of forests

module _ (u : UnitTree) (l : LoweredUnit) (number : ℕ) (f : FunctionTree) (x : IsFunctionLowering u l number f) where
  abbrev pub lowering : Function
  lowering = function_in u l.order number x.tables f

  abbrev pub body_run : World → BodyRun
  body_run w = record { program = program_of l; setting = setting_of (program_of l) (call_of (program_of l)) number (body_of x.function) w; pieces = (low_f u l.order number x.tables f).low.pieces }

  abbrev pub scene_of : World → Scene
  scene_of w = record { unit = u; own = own_count u; lowered = l; body = body_run w; frame = frame_of u.tags f (home_in number (body_of x.function) w) w.arguments }

  abbrev pub frame_layout : FrameLayout
  frame_layout = record { types = f.locals; parameters = f.parameters; places = (layout u.tags f).places }

  -- C copies a structure result to the call's place
  abbrev pub activation : Call → World → Activation
  activation a w = record { scene = scene_of w; layout = frame_layout; locals = length (layout u.tags f).slots; result = a.result }

  abbrev pub ending : Call → Ending
  ending a = record { of = result_type f.of; copy = a.result; gives_zero = number == u.main }

  -- where its objects are made
  abbrev pub opened_world : World → World
  opened_world w = entered l.order number (body_of x.function) w

  -- the body behind the stores of narrow parameters
  abbrev pub first_body : Body
  first_body = record {
    low = parameters_stored lowering 0 (first_word f) (own_parameters f) (begun lowering (layout u.tags f)).low;
    tables = [];
  }

  abbrev pub start_of : World → ℕ → Outcome
  start_of w left = run_from (body_run w) (body_run w).pieces left (opened_world w)

  -- Where the call was made in matching worlds with so many turns, and C's objects are made, the run stands before the body's first statement. Objects that had ranges have the same,
  -- and live on; and what held nothing of C holds nothing still, and is as it was.
  pub record Enters (a : Call) (map : Map) (w : World) (k : ℕ) (old : c.World) : Type 0 where
    pub later : Map
    pub world : World
    pub stands : StandsAt (activation a w) (record { start = start_of w; turns = k; map = later; old = old; world = world }) first_body.low k
    pub grown : Grown map later
    pub left : (place : ℕ) → place < length w.objects → IsPrivate map (c.objects a.world) place → (slice_get world.objects place ≡ slice_get w.objects place) × IsPrivate later (c.objects old) place
    pub lives : (place : ℕ) → place < length (c.objects a.world) → slice_get (outlines (c.objects old)) place ≡ slice_get (outlines (c.objects a.world)) place
