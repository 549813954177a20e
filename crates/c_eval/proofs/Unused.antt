-- No value comes to a frame that wants one.
use Rattle.std.specs.Prelude.{◌≡◌, ◌<◌, ◌≤◌, ◌+◌, ℕ, Some, None, List, [], ◌∷◌, refl, take}
use Rattle.std.proofs.Common.{sym, ap, ◌∙◌, arith}
use Rattle.lcc_base.specs.declared.cause.Cause.TheVariants.{NoResult, Outside}
use Rattle.objects.specs.declared.value.Value.{Value}
use Rattle.c_acts.specs.declared.shape.Shape.{Shape}
use Rattle.c_acts.specs.declared.shape.Shape.TheVariants.{Leaf, Dropped, Unary, Binary, Logical, Conditional, Comma, Call}
use Rattle.c_acts.specs.Shapes.{shape_of}
use Rattle.c_filling.specs.Filled.{seen_places}
use Rattle.c_types.specs.CType.{CType}
use Rattle.c_meaning.specs.CoreTrees.{Core, NoCore, Cores, what_of}
use Rattle.c_meaning.specs.StmtTrees.{FilledOf, StmtOf}
use Rattle.c_meaning.specs.StmtTrees as stmt
use Rattle.c_meaning.specs.Values.{CoreTree, CoreTrees}
use Rattle.c_runs.specs.Calls.{Setting}
use Rattle.c_runs.specs.Outcomes.{Gives, GivesNone, Ends, Over, Undefined as Undefines}
use Rattle.c_runs.specs.Worlds.{World}
use Rattle.c_worlds.specs.declared.program.Program.{Program}
use Rattle.c_worlds.specs.Programs.{tree, trees}
use Rattle.c_eval.specs.declared.focus.Focus.{Focus}
use Rattle.c_eval.specs.declared.focus.Focus.TheVariants as at
use Rattle.c_eval.specs.declared.frame.Frame.{Frame}
use Rattle.c_eval.specs.declared.frame.Frame.TheVariants as on
use Rattle.c_eval.specs.declared.how.How.TheVariants.{Undefined}
use Rattle.c_eval.specs.Came.{IsUnused}
use Rattle.c_eval.specs.Ends.{OfExpression}
use Rattle.c_eval.specs.Loops.{repeated_by, tested_of}
use Rattle.c_eval.specs.Stacks.{arguments_from, filled_from, first_from, right_from, second_by, second_from, statement, switched_from}
use Rattle.c_eval.specs.States.{ends, own, state}
use Rattle.c_eval.specs.Weights.{weight, weights}
use Rattle.c_eval.proofs.Meeting.{over_meets, over_statement, unused_meets}
use Rattle.c_eval.proofs.Passes.{end_of}

second_none : (s : Setting) (shape : Shape) (c : CoreTree) (v : Value) (line k : ℕ) (w : World) → Ends (Undefines NoResult line) w ≡ second_by s shape c v (GivesNone line k w)
second_none s Leaf c v line k w = refl
second_none s Dropped c v line k w = refl
second_none s Unary c v line k w = refl
second_none s Binary (Core what of l NoCore) v line k w = refl
second_none s Binary (Core what of l (Cores a NoCore)) v line k w = refl
second_none s Binary (Core what of l (Cores a (Cores b NoCore))) v line k w = refl
second_none s Binary (Core what of l (Cores a (Cores b (Cores c cs)))) v line k w = refl
second_none s Logical c v line k w = refl
second_none s Conditional c v line k w = refl
second_none s Comma c v line k w = refl
second_none s Call c v line k w = refl

right_none : (c : CoreTree) (line k : ℕ) (w : World) → Ends (Undefines NoResult line) w ≡ right_from c (GivesNone line k w)
right_none (Core what of l NoCore) line k w = refl
right_none (Core what of l (Cores a NoCore)) line k w = refl
right_none (Core what of l (Cores a (Cores b NoCore))) line k w = refl
right_none (Core what of l (Cores a (Cores b (Cores c cs)))) line k w = refl

arguments_none : (p : Program) (s : Setting) (fs : List Frame) (cs : CoreTrees) (n line k : ℕ) (w : World) → Ends (Undefines NoResult line) w ≡ arguments_from p s fs cs n (GivesNone line k w)
arguments_none p s fs NoCore n line k w = refl
arguments_none p s fs (Cores a cs) n line k w = refl

filled_none : (s : Setting) (base : Value) (ps : List (FilledOf CType)) (line k : ℕ) (w : World) → Over (Undefines NoResult line) w ≡ filled_from s base ps (GivesNone line k w)
filled_none s base [] line k w = refl
filled_none s base (p ∷ ps) line k w = refl

tested_none : (s : Setting) (l : StmtOf CType) (line k : ℕ) (w : World) → Over (Undefines NoResult line) w ≡ repeated_by s l (tested_of l (GivesNone line k w))
tested_none s stmt.Nothing line k w = refl
tested_none s (stmt.Expression e) line k w = refl
tested_none s (stmt.Initialise local zero ps) line k w = refl
tested_none s (stmt.Block first locals ss) line k w = refl
tested_none s (stmt.If x t u) line k w = refl
tested_none s (stmt.While x t) line k w = refl
tested_none s (stmt.Do t x) line k w = refl
tested_none s (stmt.For a None c t) line k w = refl
tested_none s (stmt.For a (Some b) c t) line k w = refl
tested_none s (stmt.Switch x cases default t) line k w = refl
tested_none s (stmt.Label m t) line k w = refl
tested_none s (stmt.Goto m) line k w = refl
tested_none s stmt.Break line k w = refl
tested_none s stmt.Continue line k w = refl
tested_none s (stmt.Return x) line k w = refl

switched_none : (s : Setting) (l : StmtOf CType) (line k : ℕ) (w : World) → Over (Undefines NoResult line) w ≡ switched_from s l (GivesNone line k w)
switched_none s stmt.Nothing line k w = refl
switched_none s (stmt.Expression e) line k w = refl
switched_none s (stmt.Initialise local zero ps) line k w = refl
switched_none s (stmt.Block first locals ss) line k w = refl
switched_none s (stmt.If x t u) line k w = refl
switched_none s (stmt.While x t) line k w = refl
switched_none s (stmt.Do t x) line k w = refl
switched_none s (stmt.For a b c t) line k w = refl
switched_none s (stmt.Switch x cases default t) line k w = refl
switched_none s (stmt.Label m t) line k w = refl
switched_none s (stmt.Goto m) line k w = refl
switched_none s stmt.Break line k w = refl
switched_none s stmt.Continue line k w = refl
switched_none s (stmt.Return x) line k w = refl

-- ---- frames

pub second_unused : (p : Program) (below : List Value) (fs gs : List Frame) (e : _) (v : Value) (line : ℕ) (focus : Focus) (k : ℕ) (w : World) → gs ≡ on.Second e v ∷ fs → focus ≡ at.Over (Undefined NoResult line) → state p below fs focus k w ≡ ends p below gs (OfExpression (GivesNone line k w))
second_unused p below fs gs e v line focus k w h q = rw h (over_meets p below fs focus (Undefined NoResult line) k w (second_from (own p) (tree p e.now) v (GivesNone line k w)) q (second_none (own p) (shape_of (what_of (tree p e.now))) (tree p e.now) v line k w))

pub right_unused : (p : Program) (below : List Value) (fs gs : List Frame) (e : _) (line : ℕ) (focus : Focus) (k : ℕ) (w : World) → gs ≡ on.Right e ∷ fs → focus ≡ at.Over (Undefined NoResult line) → state p below fs focus k w ≡ ends p below gs (OfExpression (GivesNone line k w))
right_unused p below fs gs e line focus k w h q = rw h (over_meets p below fs focus (Undefined NoResult line) k w (right_from (tree p e.now) (GivesNone line k w)) q (right_none (tree p e.now) line k w))

pub argument_unused : (p : Program) (below : List Value) (fs gs : List Frame) (es : _) (n : ℕ) (line : ℕ) (focus : Focus) (k : ℕ) (w : World) → gs ≡ on.Argument es n ∷ fs → focus ≡ at.Over (Undefined NoResult line) → state p below fs focus k w ≡ ends p below gs (OfExpression (GivesNone line k w))
argument_unused p below fs gs es n line focus k w h q = rw h (over_meets p below fs focus (Undefined NoResult line) k w (arguments_from p (own p) fs (trees p es.now) n (GivesNone line k w)) q (arguments_none p (own p) fs (trees p es.now) n line k w))

pub test_unused : (p : Program) (below : List Value) (fs gs : List Frame) (l : _) (line : ℕ) (focus : Focus) (k : ℕ) (w : World) → gs ≡ on.Test l ∷ fs → focus ≡ at.Over (Undefined NoResult line) → state p below fs focus k w ≡ ends p below gs (OfExpression (GivesNone line k w))
test_unused p below fs gs l line focus k w h q = rw h (over_statement p below fs focus (Undefined NoResult line) k w (repeated_by (own p) (statement p l.now) (tested_of (statement p l.now) (GivesNone line k w))) q (tested_none (own p) (statement p l.now) line k w))

pub switch_unused : (p : Program) (below : List Value) (fs gs : List Frame) (l : _) (line : ℕ) (focus : Focus) (k : ℕ) (w : World) → gs ≡ on.Switch l ∷ fs → focus ≡ at.Over (Undefined NoResult line) → state p below fs focus k w ≡ ends p below gs (OfExpression (GivesNone line k w))
switch_unused p below fs gs l line focus k w h q = rw h (over_statement p below fs focus (Undefined NoResult line) k w (switched_from (own p) (statement p l.now) (GivesNone line k w)) q (switched_none (own p) (statement p l.now) line k w))

pub fill_unused : (p : Program) (below : List Value) (fs gs : List Frame) (ps : _) (base : Value) (line : ℕ) (focus : Focus) (k : ℕ) (w : World) → gs ≡ on.Fill ps base ∷ fs → focus ≡ at.Over (Undefined NoResult line) → state p below fs focus k w ≡ ends p below gs (OfExpression (GivesNone line k w))
fill_unused p below fs gs ps base line focus k w h q = rw h (over_statement p below fs focus (Undefined NoResult line) k w (filled_from (own p) base (seen_places p ps.now) (GivesNone line k w)) q (filled_none (own p) base (seen_places p ps.now) line k w))

pub branch_unused : (p : Program) (below : List Value) (fs gs : List Frame) (x : _) (t u : _) (line : ℕ) (focus : Focus) (k : ℕ) (w : World) → gs ≡ on.Branch x t u ∷ fs → focus ≡ at.Over (Undefined NoResult line) → state p below fs focus k w ≡ ends p below gs (OfExpression (GivesNone line k w))
branch_unused p below fs gs x t u line focus k w h q = rw h (over_statement p below fs focus (Undefined NoResult line) k w (Over (Undefines NoResult line) w) q (refl))

pub return_unused : (p : Program) (below : List Value) (fs gs : List Frame) (x : _) (line : ℕ) (focus : Focus) (k : ℕ) (w : World) → gs ≡ on.Return x ∷ fs → focus ≡ at.Over (Undefined NoResult line) → state p below fs focus k w ≡ ends p below gs (OfExpression (GivesNone line k w))
return_unused p below fs gs x line focus k w h q = rw h (over_statement p below fs focus (Undefined NoResult line) k w (Over (Undefines NoResult line) w) q (refl))

pub first_unused : (p : Program) (below : List Value) (fs gs : List Frame) (e : _) (line : ℕ) (focus : Focus) (k : ℕ) (w : World) → gs ≡ on.First e ∷ fs → IsUnused (first_from (own p) (tree p e.now) (GivesNone line k w)) k w focus → state p below fs focus k w ≡ ends p below gs (OfExpression (GivesNone line k w))
first_unused p below fs gs e line focus k w h q = rw h (unused_meets p below fs focus (first_from (own p) (tree p e.now) (GivesNone line k w)) k w q)

pub first_light : (fs gs : List Frame) (e : _) (focus : Focus) → gs ≡ on.First e ∷ fs → weight focus ≤ 1 → weight focus + weights fs < 1 + weights gs
first_light fs gs e focus h l = rw h (omega (arith, l))

-- ---- what comes of an expression where a call's body stands

pub body_given : (p : Program) (below : List Value) (fs gs : List Frame) (c : _) (n objects base : ℕ) (v : Value) (focus : Focus) (k : ℕ) (w : World) → gs ≡ on.Activation c n objects base ∷ fs → focus ≡ at.Over (Undefined Outside 0) → state p below fs focus k w ≡ ends p below gs (OfExpression (Gives v k w))
body_given p below fs gs c n objects base v focus k w h q = rw h (ap (λ f. state p below fs f k w) q ∙ sym (end_of p (take base below) fs (Undefines Outside 0) w))

pub body_unused : (p : Program) (below : List Value) (fs gs : List Frame) (c : _) (n objects base line : ℕ) (focus : Focus) (k : ℕ) (w : World) → gs ≡ on.Activation c n objects base ∷ fs → focus ≡ at.Over (Undefined Outside 0) → state p below fs focus k w ≡ ends p below gs (OfExpression (GivesNone line k w))
body_unused p below fs gs c n objects base line focus k w h q = rw h (ap (λ f. state p below fs f k w) q ∙ sym (end_of p (take base below) fs (Undefines Outside 0) w))
