-- Steps of `switch`.
use Rattle.std.proofs.Common.{◌≡◌, ℕ, List, refl, sym, ap, ◌∙◌}
use Rattle.std.specs.Prelude.{Option, Some, Result as Checked, Ok, Err, IfOk}
use Rattle.lcc_base.specs.declared.cause.Cause.TheVariants.{NoResult, PointerNumber}
use Rattle.lcc_base.specs.declared.memory.Memory.{Memory as NoMemory}
use Rattle.lcc_base.specs.Traces.{Event, output_of}
use Rattle.objects.specs.declared.value.Value.{Value}
use Rattle.objects.specs.declared.value.Value.TheVariants.{Number, Pointer, Function}
use Rattle.std.specs.Global.{Box}
use Rattle.c_types.specs.CType.{CType}
use Rattle.c_meaning.specs.CoreTrees.{CoreOf, Core, line_of}
use Rattle.c_meaning.specs.declared.core_stmt.CoreCase.{CoreCase}
use Rattle.c_meaning.specs.declared.core_stmt.CoreStmt.{CoreStmt}
use Rattle.c_meaning.specs.declared.core_stmt.CoreStmt.TheVariants as form
use Rattle.c_meaning.specs.StmtTrees.{StmtOf, stmt_of}
use Rattle.c_meaning.specs.StmtTrees as stmt
use Rattle.c_runs.specs.Calls.{Setting}
use Rattle.c_runs.specs.Expressions.{eval}
use Rattle.c_runs.specs.Outcomes.{How, Undefined as Undefines, Gives, GivesNone, Ends, Out, Over}
use Rattle.c_runs.specs.Statements.{At, exec, switch_on}
use Rattle.c_runs.specs.Worlds.{World as RunWorld}
use Rattle.c_worlds.specs.declared.program.Program.{Program}
use Rattle.c_worlds.specs.Programs.{stmt_tree, tree}
use Rattle.c_worlds.specs.Shown.{Comes, shown}
use Rattle.c_eval.specs.declared.focus.Focus.{Focus}
use Rattle.c_eval.specs.declared.machine.Machine.{Machine}
use Rattle.c_eval.specs.Ends.{OfStatement, final}
use Rattle.c_eval.specs.Frames.{frames}
use Rattle.c_eval.specs.Stacks.{statement, switched_from}
use Rattle.c_eval.specs.States.{own}
use Rattle.c_eval.specs.Steps.{Meets, ends_of}
use Rattle.c_eval.proofs.Acts.{meets_behind}
use Rattle.c_eval.proofs.Forms.{is_switch}
use Rattle.c_eval.proofs.Passes.{over_of}

pub switched_none : (s : Setting) (l : StmtOf CType) (k : ℕ) (w : RunWorld) → switched_from s l (GivesNone 0 k w) ≡ Over (Undefines NoResult 0) w
switched_none s stmt.Nothing k w = refl
switched_none s (stmt.Expression e) k w = refl
switched_none s (stmt.Initialise local zero ps) k w = refl
switched_none s (stmt.Block first locals ss) k w = refl
switched_none s (stmt.If x t u) k w = refl
switched_none s (stmt.While x t) k w = refl
switched_none s (stmt.Do t x) k w = refl
switched_none s (stmt.For a b c t) k w = refl
switched_none s (stmt.Switch x cases default t) k w = refl
switched_none s (stmt.Label m t) k w = refl
switched_none s (stmt.Goto m) k w = refl
switched_none s stmt.Break k w = refl
switched_none s stmt.Continue k w = refl
switched_none s (stmt.Return x) k w = refl

pub switched_ends : (s : Setting) (l : StmtOf CType) (how : How) (w : RunWorld) → switched_from s l (Ends how w) ≡ Over how w
switched_ends s stmt.Nothing how w = refl
switched_ends s (stmt.Expression e) how w = refl
switched_ends s (stmt.Initialise local zero ps) how w = refl
switched_ends s (stmt.Block first locals ss) how w = refl
switched_ends s (stmt.If x t u) how w = refl
switched_ends s (stmt.While x t) how w = refl
switched_ends s (stmt.Do t x) how w = refl
switched_ends s (stmt.For a b c t) how w = refl
switched_ends s (stmt.Switch x cases default t) how w = refl
switched_ends s (stmt.Label m t) how w = refl
switched_ends s (stmt.Goto m) how w = refl
switched_ends s stmt.Break how w = refl
switched_ends s stmt.Continue how w = refl
switched_ends s (stmt.Return x) how w = refl

-- its value came
pub switch_goes : (p : Program) (old mid new : Machine) (x : StmtOf ℕ) (c : CoreOf ℕ) (v : Value) (r : Checked Focus NoMemory)
    → mid.world.locals ≡ old.world.locals → frames mid.stack ≡ frames old.stack → mid.turns ≡ old.turns
    → Comes (λ k w. eval (own p) (tree p c) k w) old.world mid.world (Ok (Some v))
    → IfOk r (λ focus. Meets p mid (λ k w. OfStatement (switched_from (own p) (stmt_tree p x) (Gives v k w))) new focus)
    → IfOk r (λ focus. Meets p old (λ k w. OfStatement (switched_from (own p) (stmt_tree p x) (eval (own p) (tree p c) k w))) new focus)
switch_goes p old mid new x c v r l f n g m =
    meets_behind p old mid new (λ k w. OfStatement (switched_from (own p) (stmt_tree p x) (eval (own p) (tree p c) k w))) (λ k w. OfStatement (switched_from (own p) (stmt_tree p x) (Gives v k w))) r l f n
    (λ k t. ap (λ r. OfStatement (switched_from (own p) (stmt_tree p x) r)) (g k t)) m

-- what holds for each program holds for this one
pub for_program : (p : Program) (P : Program → Focus → Type 0) (r : Checked Focus NoMemory) → IfOk r (λ focus. (q : Program) → P q focus) → IfOk r (λ focus. P p focus)
for_program p P (Ok focus) h = h p
for_program p P (Err e) h = tt

-- ---- a value that is no number

pointer_over : (v : Value) (cases : List CoreCase) (default : Option ℕ) (body : ℕ → ℕ → RunWorld → Out) (line k : ℕ) (w : RunWorld) → ((n : ℕ) → v ≡ Number n → ⊥) → switch_on v cases default body line k w ≡ Over (Undefines PointerNumber line) w
pointer_over (Number n) cases default body line k w h = absurd (h n refl)
pointer_over (Pointer object offset) cases default body line k w h = refl
pointer_over (Function f) cases default body line k w h = refl

line_seen : (p : Program) (c : CoreOf ℕ) → line_of (tree p c) ≡ line_of c
line_seen p (Core what of line kids) = refl

pub pointer_meets : (p : Program) (old : Machine) (s : CoreStmt) (y : Box (CoreOf ℕ)) (cases : List CoreCase) (default : Option ℕ) (b : Box CoreStmt) (v : Value) (line : ℕ) (t : List Event)
    → s ≡ form.Switch y cases default b → line ≡ line_of y.value → ((n : ℕ) → v ≡ Number n → ⊥)
    → final (Undefines PointerNumber line) (output_of t) ≡ ends_of p old (OfStatement (switched_from (own p) (statement p s) (Gives v old.turns (shown old.world t))))
pointer_meets p old s y cases default b v line t h l e =
    ap (λ m. final (Undefines PointerNumber m) (output_of t)) (l ∙ sym (line_seen p y.value))
    ∙ sym (over_of p old.world.locals.below (frames old.stack) (Undefines PointerNumber (line_of (tree p y.value))) (shown old.world t))
    ∙ ap (λ (o : Out). ends_of p old (OfStatement o)) (sym (pointer_over v cases default (λ l k w. exec (own p) (stmt_tree p (stmt_of b.value)) (At l) k w) (line_of (tree p y.value)) old.turns (shown old.world t) e))
    ∙ ap (λ (z : StmtOf ℕ). ends_of p old (OfStatement (switched_from (own p) (stmt_tree p z) (Gives v old.turns (shown old.world t))))) (sym (is_switch y cases default b))
    ∙ ap (λ (z : CoreStmt). ends_of p old (OfStatement (switched_from (own p) (statement p z) (Gives v old.turns (shown old.world t))))) (sym h)
