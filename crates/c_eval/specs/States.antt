-- What comes of a run from what is under way.
use Rattle.std.specs.Prelude.{ℕ, List}
use Rattle.lcc_base.specs.Traces.{output_of}
use Rattle.objects.specs.declared.value.Value.{Value}
use Rattle.c_filling.specs.Filled.{seen_places}
use Rattle.c_runs.specs.Calls.{Setting}
use Rattle.c_runs.specs.Expressions.{eval}
use Rattle.c_runs.specs.Outcomes.{Gives, GivesNone, Next, Break, Continue, Return, Goto, spent}
use Rattle.c_runs.specs.Run.{context}
use Rattle.c_runs.specs.Statements.{Start, At, exec, exec_all, any_has, jump, fill}
use Rattle.c_runs.specs.Worlds.{World}
use Rattle.c_worlds.specs.declared.program.Program.{Program}
use Rattle.c_worlds.specs.Programs.{tree, unit_of}
use Rattle.c_eval.specs.declared.focus.Focus.{Focus}
use Rattle.c_eval.specs.declared.focus.Focus.TheVariants as at
use Rattle.c_eval.specs.declared.frame.Frame.{Frame}
use Rattle.c_eval.specs.Ends.{Came, OfExpression, OfStatement, Final, final, how_of, ended}
use Rattle.c_eval.specs.Loops.{repeated}
use Rattle.c_eval.specs.Stacks.{calling_on, called, passed, plug, statement, statements}

-- the program's own setting, in which calls run
abbrev pub own : Program → Setting
own p = context (unit_of p) p.order

-- how the run ends if this comes to the topmost frame
abbrev pub ends : Program → List Value → List Frame → Came → Final
ends p below fs came = ended (plug p (own p) below fs came)

abbrev pub state : Program → List Value → List Frame → Focus → ℕ → World → Final
state p below fs (at.Eval e) k w = ends p below fs (OfExpression (eval (own p) (tree p e.now) k w))
state p below fs (at.Value v) k w = ends p below fs (OfExpression (Gives v k w))
state p below fs (at.NoValue line) k w = ends p below fs (OfExpression (GivesNone line k w))
state p below fs (at.Start s) k w = ends p below fs (OfStatement (exec (own p) (statement p s.now) Start k w))
state p below fs (at.At s l) k w = ends p below fs (OfStatement (exec (own p) (statement p s.now) (At l) k w))
state p below fs (at.List ss) k w = ends p below fs (OfStatement (exec_all (own p) (statements p ss.now) Start k w))
state p below fs (at.ListAt ss l) k w = ends p below fs (OfStatement (exec_all (own p) (statements p ss.now) (At l) k w))
state p below fs (at.Fill ps base) k w = ends p below fs (OfStatement (fill (own p) base (seen_places p ps.now) k w))
state p below fs at.Next k w = ends p below fs (OfStatement (Next k w))
state p below fs at.Break k w = ends p below fs (OfStatement (Break k w))
state p below fs at.Continue k w = ends p below fs (OfStatement (Continue k w))
state p below fs (at.Return v line) k w = ends p below fs (OfStatement (Return v line k w))
state p below fs (at.Goto l) k w = ends p below fs (OfStatement (Goto l k w))
state p below fs (at.Repeat s) k w = ends p below fs (OfStatement (repeated (own p) (statement p s.now) k w))
state p below fs (at.Jump ss l) k w =
    ends p below fs (OfStatement (spent k w (λ k1. jump (any_has (statements p ss.now)) (λ m k2 w2. exec_all (own p) (statements p ss.now) (At m) k2 w2) l k1 w)))
state p below fs (at.Invoke n) k w = ends p below fs (OfExpression (calling_on p (own p) (called fs) n (passed p fs) k w))
state p below fs (at.Over how) k w = final (how_of how) (output_of w.trace)
