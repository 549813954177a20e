-- Calls by the turns that are left, the world in which a program starts, and runs.
-- Source: ISO/IEC 9899:1990, 5.1.2.2 (main, termination), 6.1.4 (string literals), 6.5.7 (initialization).
use Rattle.std.specs.Prelude.{◌≡◌, ℕ, ◌+◌, ◌==◌, Bool, true, false, Option, Some, None, List, [], ◌∷◌, ◌++◌, replicate, slice_get}
use Rattle.lcc_base.specs.declared.cause.Cause.TheVariants.{CallMismatch, Outside, PointerNumber}
use Rattle.lcc_base.specs.declared.order.Order.{Order}
use Rattle.objects.specs.declared.value.Value.{Value}
use Rattle.objects.specs.declared.value.Value.TheVariants.{Number, Pointer, Function}
use Rattle.objects.specs.Bytes.{known_bytes}
use Rattle.c_types.specs.CType.{CType, Char, basic}
use Rattle.c_types.specs.Layout.{Tag}
use Rattle.c_meaning.specs.Types.{pointer_to}
use Rattle.c_meaning.specs.Units.{FunctionTree, ObjectTree, UnitTree, CoreUnit, unit_seen}
use Rattle.lcc_base.specs.Traces.{output_of}
use Rattle.c_runs.specs.Worlds.{World, made, next_place}
use Rattle.c_runs.specs.Outcomes.{How, Undefined, OutOfTurns, Exit, Result, Ends, Out, Next, Break, Continue, Return, Goto, Over, stray, stray_out, then_next, either}
use Rattle.c_runs.specs.Below.{below}
use Rattle.c_types.specs.Constness.{is_const}
use Rattle.c_runs.specs.Places.{size_of, static_place}
use Rattle.c_runs.specs.Calls.{Argument, Call, Setting, int, fits, opened, returned}
use Rattle.c_runs.specs.Statements.{Start, exec, fill}

-- ---- calls

abbrev pub setting : UnitTree → Order → (ℕ → Call → Result) → Setting
setting u order calls = record { unit = u; order = order; calls = calls }

-- a function's body, with its objects made
abbrev pub body_run : Setting → FunctionTree → ℕ → List Argument → ℕ → World → Out
body_run s f number xs k w = opened s.unit s.order f number xs k w (λ k1 w1. exec s f.body Start k1 w1)

abbrev pub function_run : Setting → Option FunctionTree → Call → ℕ → Result
function_run s None a k = stray a.line a.world
function_run s (Some f) a k = returned s.unit.tags a (body_run s f a.function a.arguments k a.world)

-- a call whose turn was spent, given what calls in it do
abbrev pub called : UnitTree → Order → (ℕ → Call → Result) → ℕ → Call → Result
called u order again k a = function_run (setting u order again) (slice_get u.functions a.function) a k

abbrev pub no_calls : Call → Result
no_calls a = Ends OutOfTurns a.world

-- what calls do at fewer than n turns
unfoldable pub calls_below : UnitTree → Order → ℕ → ℕ → Call → Result
calls_below u order n k a = below no_calls (λ again k1 b. called u order again k1 b) n k a

-- a call with k turns left
unfoldable pub call : UnitTree → Order → ℕ → Call → Result
call u order k a = called u order (λ k1 b. calls_below u order k k1 b) k a

unfoldable pub context : UnitTree → Order → Setting
context u order = setting u order (λ k a. call u order k a)

-- ---- the start

abbrev pub empty_world : List ℕ → World
empty_world input = record { storage = record { objects = []; made = 0 }; locals = []; input = input; trace = [] }

-- the unit's objects, of zero bytes; its texts, which may not be written
abbrev pub with_objects_of : List Tag → List ObjectTree → World → World
with_objects_of tags [] w = w
with_objects_of tags (o ∷ os) w = with_objects_of tags os (made (is_const o.of) (known_bytes (replicate (size_of tags o.of) 0)) w)

abbrev pub with_texts : List (List ℕ) → World → World
with_texts [] w = w
with_texts (t ∷ ts) w = with_texts ts (made true (known_bytes (t ++ 0 ∷ [])) w)

-- each object's places are filled, constants and addresses as they are
abbrev pub filled_from : Setting → ℕ → List ObjectTree → ℕ → World → Out
filled_from s n [] k w = Next k w
filled_from s n (o ∷ os) k w = then_next (fill s (static_place n (size_of s.unit.tags o.of)) o.places k w) (λ k1 w1. filled_from s (n + 1) os k1 w1)

-- the world in which a program starts
abbrev pub started : Setting → List ℕ → ℕ → Out
started s input k = filled_from s 0 s.unit.objects k (with_texts s.unit.texts (with_objects_of s.unit.tags s.unit.objects (empty_world input)))

-- ---- main

-- a pointer to a pointer to char
abbrev pub argv : CType
argv = pointer_to (pointer_to (basic Char))

-- 0, and a pointer to a null pointer, which is an object of its own
abbrev pub main_arguments : Value → List Argument
main_arguments place = record { value = Number 0; of = int; line = 1 } ∷ record { value = place; of = argv; line = 1 } ∷ []

-- the first call of main, as a call
abbrev pub main_call : UnitTree → List Argument → World → Call
main_call u xs w = record { function = u.main; arguments = xs; of = int; result = None; line = 1; world = w }

abbrev pub with_null : World → World
with_null w = made false (known_bytes (0 ∷ 0 ∷ 0 ∷ 0 ∷ [])) w

-- The first call of main spends no turn. It has the two arguments where main has parameters; CallMismatch at line 1 where
-- they don't match these.
abbrev pub main_with : Setting → FunctionTree → Call → ℕ → World → Out
main_with s f a k w =
    either (fits f a)
    (λ k1 w1. body_run s f a.function a.arguments k1 w1)
    (λ k1 w1. Over (Undefined CallMismatch 1) w1)
    k w

abbrev pub main_run : Setting → Option FunctionTree → ℕ → World → Out
main_run s None k w = stray_out w
main_run s (Some f) k w =
    either (f.parameters == 0)
    (λ k1 w1. body_run s f s.unit.main [] k1 w1)
    (λ k1 w1. main_with s f (main_call s.unit (main_arguments (next_place w1 4)) (with_null w1)) k1 (with_null w1))
    k w

-- ---- runs

-- how a run has ended, and its world
pub record Ending : Type 0 where
  pub how : How
  pub world : World

abbrev pub ending : How → World → Ending
ending how w = record { how = how; world = w }

-- The status is main's result, or 0 where it ends without one; PointerNumber at the returned expression's line.
abbrev pub status : Value → ℕ → World → Ending
status (Number n) line w = ending (Exit n) w
status (Pointer object offset) line w = ending (Undefined PointerNumber line) w
status (Function f) line w = ending (Undefined PointerNumber line) w

abbrev pub ended_by : Out → Ending
ended_by (Next k w) = ending (Exit 0) w
ended_by (Return None line k w) = ending (Exit 0) w
ended_by (Return (Some v) line k w) = status v line w
ended_by (Break k w) = ending (Undefined Outside 0) w
ended_by (Continue k w) = ending (Undefined Outside 0) w
ended_by (Goto l k w) = ending (Undefined Outside 0) w
ended_by (Over how w) = ending how w

abbrev pub run_tree : UnitTree → Order → List ℕ → ℕ → Ending
run_tree u order input k = ended_by (then_next (started (context u order) input k) (λ k1 w1. main_run (context u order) (slice_get u.functions u.main) k1 w1))

-- the run of a unit with k turns
abbrev pub run : CoreUnit → Order → List ℕ → ℕ → Ending
run u order input k = run_tree (unit_seen u) order input k

abbrev pub output : Ending → List ℕ
output e = output_of e.world.trace

abbrev pub is_undefined : How → Bool
is_undefined (Undefined cause line) = true
is_undefined OutOfTurns = false
is_undefined (Exit status) = false

-- no number of turns makes it undefined
abbrev pub IsDefined : CoreUnit → Order → List ℕ → Type 0
IsDefined u order input = (k : ℕ) → is_undefined (run u order input k).how ≡ false
