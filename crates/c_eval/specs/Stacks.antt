-- What is left to do, as a function of what comes: a stack of frames, each one construct around what is under way.
use Rattle.std.specs.Prelude.{ℕ, pos, false, Option, Some, None, List, [], ◌∷◌, ◌++◌, drop, take, replicate}
use Rattle.objects.specs.declared.value.Value.{Value}
use Rattle.objects.specs.Pointers.{place_after}
use Rattle.c_types.specs.CType.{CType}
use Rattle.c_meaning.specs.declared.core_stmt.CoreStmt.{CoreStmt as StmtValue}
use Rattle.c_acts.specs.declared.shape.Shape.{Shape}
use Rattle.c_acts.specs.declared.shape.Shape.TheVariants.{Dropped, Unary, Binary, Logical, Conditional, Call as Calls}
use Rattle.c_acts.specs.Shapes.{shape_of}
use Rattle.c_meaning.specs.CoreTrees.{CoreOf, Core, NoCore, Cores, line_of, type_of, what_of}
use Rattle.c_meaning.specs.StmtTrees.{FilledOf, StmtOf, StmtsOf, stmt_of, stmts_of}
use Rattle.c_meaning.specs.StmtTrees as stmt
use Rattle.c_meaning.specs.Values.{CoreTree, CoreTrees}
use Rattle.c_filling.specs.Filled.{seen_places}
use Rattle.c_runs.specs.Calls.{Argument, Call, Setting, returned}
use Rattle.c_runs.specs.Expressions.{Part, argument, arguments, call_by, comma_from, parts_of, result_place, row}
use Rattle.c_runs.specs.Outcomes.{Result, Gives, GivesNone, Out, Next, Return, stray, then_give, then_drop, then_do, then_go, then_next, switched, catch, branch, if_done}
use Rattle.c_runs.specs.Statements.{Start, At, exec, exec_all, any_has, jump, fill, filled, switch_on}
use Rattle.c_runs.specs.Worlds.{World, objects, with_objects}
use Rattle.c_worlds.specs.declared.program.Program.{Program}
use Rattle.c_worlds.specs.Programs.{known, tree, trees, stmt_tree, stmt_trees}
use Rattle.c_worlds.specs.Shown.{giving}
use Rattle.c_eval.specs.declared.frame.Frame.{Frame}
use Rattle.c_eval.specs.declared.frame.Frame.TheVariants as on
use Rattle.c_eval.specs.Ends.{Came, OfExpression, OfStatement}
use Rattle.c_eval.specs.Loops.{asked_of, repeated_by, repeated_behind, repeated_after, tested_of}

-- ---- trees of what frames hold

abbrev pub statement : Program → StmtValue → StmtOf CType
statement p s = stmt_tree p (stmt_of s)

abbrev values_of : List StmtValue → List (StmtOf ℕ)
values_of [] = []
values_of (s ∷ ss) = stmt_of s ∷ values_of ss

abbrev pub statements : Program → List StmtValue → StmtsOf CType
statements p ss = stmt_trees p (stmts_of (values_of ss))

-- ---- what comes

-- a frame that awaits the one passes on the other
abbrev pub on_result : Came → (Result → Came) → Came
on_result (OfExpression r) go = go r
on_result (OfStatement o) go = OfStatement o

abbrev pub on_out : Came → (Out → Came) → Came
on_out (OfExpression r) go = OfExpression r
on_out (OfStatement o) go = go o

-- no expression stands where a call's body does
abbrev pub on_body : Came → (Out → Came) → Came
on_body (OfExpression r) go = OfExpression (then_drop r (λ k w. stray 0 w))
on_body (OfStatement o) go = go o

-- ---- expressions

-- an expression whose first part gave a value, with its other parts
abbrev pub given_first : Setting → CoreTree → Value → ℕ → World → Result
given_first s (Core what of line NoCore) v k w = stray line w
given_first s (Core what of line (Cores a cs)) v k w = row s what of line (giving a v ∷ parts_of s cs) k w

-- one of whose first part this comes
abbrev pub first_by : Setting → Shape → CoreTree → Result → Result
first_by s Dropped (Core what of line (Cores a NoCore)) r = then_drop r (λ k w. GivesNone 0 k w)
first_by s Unary (Core what of line (Cores a NoCore)) r = then_give r (λ v k w. given_first s (Core what of line (Cores a NoCore)) v k w)
first_by s Binary (Core what of line (Cores a (Cores b NoCore))) r = then_give r (λ v k w. given_first s (Core what of line (Cores a (Cores b NoCore))) v k w)
first_by s Logical (Core what of line (Cores a (Cores b NoCore))) r = then_give r (λ v k w. given_first s (Core what of line (Cores a (Cores b NoCore))) v k w)
first_by s Conditional (Core what of line (Cores a (Cores b (Cores c NoCore)))) r =
    then_give r (λ v k w. given_first s (Core what of line (Cores a (Cores b (Cores c NoCore)))) v k w)
first_by s Calls (Core what of line (Cores f cs)) r = then_give r (λ v k w. given_first s (Core what of line (Cores f cs)) v k w)
first_by s shape c r = r

abbrev pub first_from : Setting → CoreTree → Result → Result
first_from s c r = first_by s (shape_of (what_of c)) c r

-- one whose first part gave a value, and of whose second this comes
abbrev pub second_by : Setting → Shape → CoreTree → Value → Result → Result
second_by s Binary (Core what of line (Cores a (Cores b NoCore))) v r = then_give r (λ u k w. row s what of line (giving a v ∷ giving b u ∷ []) k w)
second_by s shape c v r = then_give r (λ u k w. Gives u k w)

abbrev pub second_from : Setting → CoreTree → Value → Result → Result
second_from s c v r = second_by s (shape_of (what_of c)) c v r

-- a `&&` or `||` that its right part decides
abbrev pub right_from : CoreTree → Result → Result
right_from (Core what of line (Cores a (Cores b NoCore))) r = asked_of b line r
right_from c r = then_give r (λ v k w. Gives v k w)

-- the parts of a comma that are left
abbrev pub comma_of : List Part → ℕ → World → Result
comma_of [] k w = stray 0 w
comma_of (a ∷ ps) k w = comma_from a ps k w

-- ---- calls

-- the arguments on top, and the call below them
abbrev pub passed : Program → List Frame → List Argument
passed p [] = []
passed p (on.Passed c v ∷ fs) = passed p fs ++ argument (giving (tree p c.now) v) v ∷ []
passed p (f ∷ fs) = []

abbrev pub called : List Frame → Option (CoreOf ℕ × Value)
called [] = None
called (on.Passed c v ∷ fs) = called fs
called (on.Called c v ∷ fs) = Some (c.now, v)
called (f ∷ fs) = None

abbrev pub calling_on : Program → Setting → Option (CoreOf ℕ × Value) → ℕ → List Argument → ℕ → World → Result
calling_on p s None n xs k w = stray 0 w
calling_on p s (Some x) n xs k w = call_by s (known p (type_of x.0)) (line_of x.0) x.1 n xs k w

-- arguments of which the first comes
abbrev pub arguments_from : Program → Setting → List Frame → CoreTrees → ℕ → Result → Result
arguments_from p s fs NoCore n r = then_give r (λ v k w. Gives v k w)
arguments_from p s fs (Cores a cs) n r =
    then_give r (λ v k w. arguments s n (giving a v ∷ parts_of s cs) (passed p fs) k w (λ m xs k1 w1. calling_on p s (called fs) m xs k1 w1))

-- A call that waits, as far as its end asks: its type and line, the local of its result, how many objects lived before it, and the
-- caller's locals.
abbrev pub waiting_call : CType → ℕ → ℕ → ℕ → List Value → Call
waiting_call of line n objects locals =
    record {
      function = 0;
      arguments = [];
      of = of;
      result = result_place of locals n;
      line = line;
      world = record { storage = record { objects = replicate objects (record { made = 0; constant = false; bytes = [] }); made = 0 }; locals = locals; input = []; trace = [] };
    }

-- ---- statements

abbrev pub switched_from : Setting → StmtOf CType → Result → Out
switched_from s (stmt.Switch x cases default t) r = then_do r (λ v k w. switch_on v cases default (λ l k1 w1. exec s t (At l) k1 w1) (line_of x) k w)
switched_from s other r = then_do r (λ v k w. Next k w)

-- an object of whose first place this comes
abbrev pub filled_from : Setting → Value → List (FilledOf CType) → Result → Out
filled_from s base [] r = then_do r (λ v k w. Next k w)
filled_from s base (p ∷ ps) r =
    then_do r
    (λ v k w. if_done (filled s p (place_after base (pos p.offset)) v (objects w)) (line_of p.value) w
    (λ os. fill s base ps k (with_objects w os)))

-- ---- frames

-- What a frame makes of what comes, above these frames and with these locals of the calls that wait.
abbrev pub applied : Program → Setting → List Value → List Frame → Frame → Came → Came
applied p s below fs (on.First e) came = on_result came (λ r. OfExpression (first_from s (tree p e.now) r))
applied p s below fs (on.Second e v) came = on_result came (λ r. OfExpression (second_from s (tree p e.now) v r))
applied p s below fs (on.Right e) came = on_result came (λ r. OfExpression (right_from (tree p e.now) r))
applied p s below fs (on.Comma es) came = on_result came (λ r. OfExpression (then_drop r (λ k w. comma_of (parts_of s (trees p es.now)) k w)))
applied p s below fs (on.Argument es n) came = on_result came (λ r. OfExpression (arguments_from p s fs (trees p es.now) n r))
applied p s below fs (on.Passed c v) came = came
applied p s below fs (on.Called c v) came = came
applied p s below fs (on.Activation c n objects base) came =
    on_body came (λ o. OfExpression (returned s.unit.tags (waiting_call (known p (type_of c.now)) (line_of c.now) n objects (drop base below)) o))
applied p s below fs on.Drop came = on_result came (λ r. OfStatement (then_go r (λ k w. Next k w)))
applied p s below fs (on.Then ss) came = on_out came (λ o. OfStatement (then_next o (λ k w. exec_all s (statements p ss.now) Start k w)))
applied p s below fs (on.Catch ss) came =
    on_out came (λ o. OfStatement (catch (any_has (statements p ss.now)) o (λ l k w. jump (any_has (statements p ss.now)) (λ m k1 w1. exec_all s (statements p ss.now) (At m) k1 w1) l k w)))
applied p s below fs (on.Branch x t u) came =
    on_result came (λ r. OfStatement (then_do (asked_of (tree p x.now) (line_of x.now) r)
    (λ v k w. branch v (λ k1 w1. exec s (statement p t.now) Start k1 w1) (λ k1 w1. exec s (statement p u.now) Start k1 w1) k w)))
applied p s below fs (on.Initial l) came = on_result came (λ r. OfStatement (repeated_after s (statement p l.now) r))
applied p s below fs (on.Body l) came = on_out came (λ o. OfStatement (repeated_behind s (statement p l.now) o))
applied p s below fs (on.Last l) came = on_result came (λ r. OfStatement (repeated_after s (statement p l.now) r))
applied p s below fs (on.Test l) came = on_result came (λ r. OfStatement (repeated_by s (statement p l.now) (tested_of (statement p l.now) r)))
applied p s below fs (on.Switch l) came = on_result came (λ r. OfStatement (switched_from s (statement p l.now) r))
applied p s below fs on.Switched came = on_out came (λ o. OfStatement (switched o))
applied p s below fs (on.Return x) came = on_result came (λ r. OfStatement (then_do r (λ v k w. Return (Some v) (line_of x.now) k w)))
applied p s below fs (on.Fill ps base) came = on_result came (λ r. OfStatement (filled_from s base (seen_places p ps.now) r))

-- the locals of the calls that wait where the frames below this one are reached
abbrev pub below_from : Frame → List Value → List Value
below_from (on.Activation c n objects base) below = take base below
below_from f below = below

-- what comes at last of what comes to the topmost frame
abbrev pub plug : Program → Setting → List Value → List Frame → Came → Came
plug p s below [] came = came
plug p s below (f ∷ fs) came = plug p s (below_from f below) fs (applied p s below fs f came)
