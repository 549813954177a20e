-- What statements do, entered at their start or at a label in them. A repetition of a loop, and a goto, spend a turn each:
-- loops and gotos are recursions on the turns that are left.
-- Source: ISO/IEC 9899:1990, 6.6, 6.5.7.
use Rattle.std.specs.Prelude.{ℕ, ◌==◌, pos, Bool, true, false, Option, Some, None, List, [], ◌∷◌, slice_get, get_or, Result as Checked, Ok, if◌then◌else◌}
use Rattle.lcc_base.specs.declared.cause.Cause.{Cause}
use Rattle.lcc_base.specs.declared.cause.Cause.TheVariants.{PointerNumber}
use Rattle.objects.specs.declared.purpose.Purpose.TheVariants.{Initialisation}
use Rattle.objects.specs.declared.value.Value.{Value}
use Rattle.objects.specs.declared.value.Value.TheVariants.{Number, Pointer, Function}
use Rattle.objects.specs.Objects.{Object}
use Rattle.objects.specs.Accesses.{zeroed}
use Rattle.objects.specs.Pointers.{place_after}
use Rattle.c_types.specs.CType.{CType, Array}
use Rattle.c_meaning.specs.declared.core_stmt.CoreCase.{CoreCase}
use Rattle.c_meaning.specs.declared.core_expr.CoreKind.{CoreKind}
use Rattle.c_meaning.specs.declared.core_expr.CoreKind.TheVariants as kind
use Rattle.c_meaning.specs.CoreTrees.{what_of, line_of}
use Rattle.c_meaning.specs.StmtTrees.{FilledOf, StmtOf, StmtsOf}
use Rattle.c_meaning.specs.StmtTrees as stmt
use Rattle.c_meaning.specs.Filling.{characters}
use Rattle.c_meaning.specs.Types.{is_array, is_record}
use Rattle.c_meaning.specs.Units.{UnitTree, labels, all_labels, is_among}
use Rattle.c_meaning.specs.Values.{CoreTree}
use Rattle.c_runs.specs.Worlds.{World, objects, with_objects}
use Rattle.c_runs.specs.Outcomes.{Result, Gives, Out, Next, Break, Continue, Return, Goto, Over, OutOfTurns, Undefined, stray_out, truth, then_drop, then_do, then_go, then_next, looped, switched, spent, catch, either, branch, if_done}
use Rattle.c_runs.specs.Below.{below}
use Rattle.c_runs.specs.Places.{spot_filled, stored, assigned, spelled}
use Rattle.c_runs.specs.Calls.{Setting}
use Rattle.c_runs.specs.Expressions.{eval, test}

-- where a statement is entered
pub data Entry : Type 0 where
  Start : Entry
  At : (label : ℕ) → Entry

-- ---- loops

abbrev pub no_turns : World → Out
no_turns w = Over OutOfTurns w

-- One repetition: a turn, the body, and then what stands between two repetitions, which says by 1 or 0 whether there is
-- another.
abbrev pub round : (ℕ → World → Out) → (ℕ → World → Result) → (ℕ → World → Out) → ℕ → World → Out
round body between again k w =
    spent k w (λ k1. looped (body k1 w) (λ k2 w2. then_do (between k2 w2) (λ v k3 w3. branch v (λ k4 w4. again k4 w4) (λ k4 w4. Next k4 w4) k3 w3)))

-- repetitions at fewer than n turns
unfoldable pub rounds : (ℕ → World → Out) → (ℕ → World → Result) → ℕ → ℕ → World → Out
rounds body between n k w = below no_turns (λ again k1 w1. round body between again k1 w1) n k w

-- a loop from the start of its body on, with k turns left
unfoldable pub loop : (ℕ → World → Out) → (ℕ → World → Result) → ℕ → World → Out
loop body between k w = round body between (λ k1 w1. rounds body between k k1 w1) k w

-- from what stands between two repetitions on
abbrev pub loop_between : (ℕ → World → Out) → (ℕ → World → Result) → ℕ → World → Out
loop_between body between k w = then_do (between k w) (λ v k1 w1. branch v (λ k2 w2. loop body between k2 w2) (λ k2 w2. Next k2 w2) k1 w1)

-- a loop whose body was entered in its middle
abbrev pub loop_behind : Out → (ℕ → World → Out) → (ℕ → World → Result) → Out
loop_behind entered body between = looped entered (λ k w. loop_between body between k w)

-- ---- gotos

abbrev pub no_jumps : ℕ × World → Out
no_jumps a = Over OutOfTurns a.1

unfoldable pub jumps : (ℕ → Bool) → (ℕ → ℕ → World → Out) → ℕ → ℕ → ℕ → World → Out
jumps within body n l k w = below no_jumps (λ again k1 (a : ℕ × World). catch within (body a.0 k1 a.1) (λ m k2 w2. again k2 (m, w2))) n k (l, w)

-- A block from its label l on, with k turns left. A goto to one of its labels goes on there.
unfoldable pub jump : (ℕ → Bool) → (ℕ → ℕ → World → Out) → ℕ → ℕ → World → Out
jump within body l k w = catch within (body l k w) (λ m k2 w2. jumps within body k m k2 w2)

-- ---- the parts of statements

abbrev pub maybe_dropped : Setting → Option CoreTree → ℕ → World → (ℕ → World → Out) → Out
maybe_dropped s None k w go = go k w
maybe_dropped s (Some e) k w go = then_go (eval s e k w) go

-- a test that may be left away
abbrev pub maybe_test : Setting → Option CoreTree → ℕ → World → Result
maybe_test s None k w = Gives (truth true) k w
maybe_test s (Some e) k w = test s e k w

-- what stands between two repetitions of a `for`: its last part, and its test
abbrev pub last_and_test : Setting → Option CoreTree → Option CoreTree → ℕ → World → Result
last_and_test s None b k w = maybe_test s b k w
last_and_test s (Some c) b k w = then_drop (eval s c k w) (λ k1 w1. maybe_test s b k1 w1)

-- the label of a number's case, else the default's
abbrev pub chosen : List CoreCase → Option ℕ → ℕ → Option ℕ
chosen [] default n = default
chosen (c ∷ cs) default n = if c.number == n then Some c.label else chosen cs default n

-- a switch by its value; PointerNumber at the value's line
abbrev pub to_case : Option ℕ → (ℕ → ℕ → World → Out) → ℕ → World → Out
to_case None body k w = Next k w
to_case (Some l) body k w = switched (body l k w)

abbrev pub switch_on : Value → List CoreCase → Option ℕ → (ℕ → ℕ → World → Out) → ℕ → ℕ → World → Out
switch_on (Number n) cases default body line k w = to_case (chosen cases default n) body k w
switch_on (Pointer object offset) cases default body line k w = Over (Undefined PointerNumber line) w
switch_on (Function f) cases default body line k w = Over (Undefined PointerNumber line) w

-- ---- initialisers

-- the bytes of an array that a string literal of the unit fills
abbrev pub string_of : UnitTree → CType → CoreKind → List ℕ
string_of u (Array of (Some count)) (kind.Text n) = characters count (get_or u.texts n [])
string_of u of what = []

-- A value stored in a place of an object, const or not: an array of characters by a string, a structure as a whole, a
-- scalar, a bit-field. Causes have the value's line.
abbrev pub filled : Setting → FilledOf CType → Value → Value → List Object → Checked (List Object) Cause
filled s p to v objects =
    if is_array p.of then spelled objects to (string_of s.unit p.of (what_of p.value))
    else (if is_record p.of then assigned Initialisation s.unit.tags p.of objects v to else stored Initialisation s.order (spot_filled p) v objects to)

-- each place of an object in turn
abbrev pub fill : Setting → Value → List (FilledOf CType) → ℕ → World → Out
fill s base [] k w = Next k w
fill s base (p ∷ ps) k w =
    then_do (eval s p.value k w)
    (λ v k1 w1. if_done (filled s p (place_after base (pos p.offset)) v (objects w1)) (line_of p.value) w1
    (λ os. fill s base ps k1 (with_objects w1 os)))

-- the whole becomes zero bytes before, where it is said
abbrev pub zeroed_at : Value → List Object → Checked (List Object) Cause
zeroed_at (Pointer object offset) os = zeroed os object
zeroed_at (Number n) os = Ok os
zeroed_at (Function f) os = Ok os

abbrev pub initialised : Setting → Option Value → Bool → List (FilledOf CType) → ℕ → World → Out
initialised s None zero ps k w = stray_out w
initialised s (Some base) false ps k w = fill s base ps k w
initialised s (Some base) true ps k w = if_done (zeroed_at base (objects w)) 0 w (λ os. fill s base ps k (with_objects w os))

-- ---- statements

abbrev pub has : StmtOf CType → ℕ → Bool
has s l = is_among l (labels s)

abbrev pub any_has : StmtsOf CType → ℕ → Bool
any_has ss l = is_among l (all_labels ss)

abbrev mutual
  pub exec : Setting → StmtOf CType → Entry → ℕ → World → Out
  exec s stmt.Nothing e k w = Next k w
  -- the value isn't used
  exec s (stmt.Expression x) e k w = then_go (eval s x k w) (λ k1 w1. Next k1 w1)
  -- a local object gets its first value
  exec s (stmt.Initialise local zero ps) e k w = initialised s (slice_get w.locals local) zero ps k w
  -- a goto is caught at the innermost block that has its label
  exec s (stmt.Block first locals ts) e k w =
      catch (any_has ts) (exec_all s ts e k w) (λ l k1 w1. jump (any_has ts) (λ m k2 w2. exec_all s ts (At m) k2 w2) l k1 w1)
  -- one of two; entered at a label in the one that has it, for no test
  exec s (stmt.If x t u) Start k w = then_do (test s x k w) (λ v k1 w1. branch v (λ k2 w2. exec s t Start k2 w2) (λ k2 w2. exec s u Start k2 w2) k1 w1)
  exec s (stmt.If x t u) (At l) k w = either (has t l) (λ k1 w1. exec s t (At l) k1 w1) (λ k1 w1. exec s u (At l) k1 w1) k w
  -- tested before each repetition
  exec s (stmt.While x t) Start k w = loop_between (λ k1 w1. exec s t Start k1 w1) (λ k1 w1. test s x k1 w1) k w
  exec s (stmt.While x t) (At l) k w = loop_behind (exec s t (At l) k w) (λ k1 w1. exec s t Start k1 w1) (λ k1 w1. test s x k1 w1)
  -- tested behind each repetition
  exec s (stmt.Do t x) Start k w = loop (λ k1 w1. exec s t Start k1 w1) (λ k1 w1. test s x k1 w1) k w
  exec s (stmt.Do t x) (At l) k w = loop_behind (exec s t (At l) k w) (λ k1 w1. exec s t Start k1 w1) (λ k1 w1. test s x k1 w1)
  -- the first part, and then as a while whose body is followed by the last part
  exec s (stmt.For a b c t) Start k w =
      maybe_dropped s a k w (λ k1 w1. then_do (maybe_test s b k1 w1) (λ v k2 w2. branch v
      (λ k3 w3. loop (λ k4 w4. exec s t Start k4 w4) (λ k4 w4. last_and_test s c b k4 w4) k3 w3)
      (λ k3 w3. Next k3 w3) k2 w2))
  exec s (stmt.For a b c t) (At l) k w = loop_behind (exec s t (At l) k w) (λ k1 w1. exec s t Start k1 w1) (λ k1 w1. last_and_test s c b k1 w1)
  -- the body is entered at a case for no turn
  exec s (stmt.Switch x cases default t) Start k w =
      then_do (eval s x k w) (λ v k1 w1. switch_on v cases default (λ l k2 w2. exec s t (At l) k2 w2) (line_of x) k1 w1)
  exec s (stmt.Switch x cases default t) (At l) k w = switched (exec s t (At l) k w)
  -- from its own label it starts
  exec s (stmt.Label m t) Start k w = exec s t Start k w
  exec s (stmt.Label m t) (At l) k w = either (l == m) (λ k1 w1. exec s t Start k1 w1) (λ k1 w1. exec s t (At l) k1 w1) k w
  -- its turn is spent where it is caught
  exec s (stmt.Goto m) e k w = Goto m k w
  exec s stmt.Break e k w = Break k w
  exec s stmt.Continue e k w = Continue k w
  -- with a value, which is used, or without one
  exec s (stmt.Return None) e k w = Return None 0 k w
  exec s (stmt.Return (Some x)) e k w = then_do (eval s x k w) (λ v k1 w1. Return (Some v) (line_of x) k1 w1)

  pub exec_all : Setting → StmtsOf CType → Entry → ℕ → World → Out
  exec_all s stmt.NoStmt e k w = Next k w
  exec_all s (stmt.Stmts t ts) Start k w = then_next (exec s t Start k w) (λ k1 w1. exec_all s ts Start k1 w1)
  exec_all s (stmt.Stmts t ts) (At l) k w =
      either (has t l)
      (λ k1 w1. then_next (exec s t (At l) k1 w1) (λ k2 w2. exec_all s ts Start k2 w2))
      (λ k1 w1. exec_all s ts (At l) k1 w1)
      k w
