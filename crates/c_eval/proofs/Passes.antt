-- The end of a run passes through all that is left to do.
use Rattle.std.specs.Prelude.{◌≡◌, ℕ, Some, None, List, [], ◌∷◌, refl}
use Rattle.std.proofs.Common.{ap, ◌∙◌}
use Rattle.lcc_base.specs.Traces.{output_of}
use Rattle.objects.specs.declared.value.Value.{Value}
use Rattle.c_acts.specs.declared.shape.Shape.{Shape}
use Rattle.c_acts.specs.declared.shape.Shape.TheVariants.{Leaf, Dropped, Unary, Binary, Logical, Conditional, Comma, Call as Calls}
use Rattle.c_acts.specs.Shapes.{shape_of}
use Rattle.c_filling.specs.Filled.{seen_places}
use Rattle.c_types.specs.CType.{CType}
use Rattle.c_meaning.specs.CoreTrees.{Core, NoCore, Cores, what_of}
use Rattle.c_meaning.specs.StmtTrees.{FilledOf, StmtOf}
use Rattle.c_meaning.specs.StmtTrees as stmt
use Rattle.c_meaning.specs.Values.{CoreTree, CoreTrees}
use Rattle.c_runs.specs.Calls.{Setting}
use Rattle.c_runs.specs.Outcomes.{How, Ends, Over}
use Rattle.c_runs.specs.Worlds.{World}
use Rattle.c_worlds.specs.declared.program.Program.{Program}
use Rattle.c_worlds.specs.Programs.{tree, trees}
use Rattle.c_eval.specs.declared.frame.Frame.{Frame}
use Rattle.c_eval.specs.declared.frame.Frame.TheVariants as on
use Rattle.c_eval.specs.Ends.{OfExpression, OfStatement, final}
use Rattle.c_eval.specs.Loops.{tested_of, repeated_by}
use Rattle.c_eval.specs.Stacks.{first_by, second_by, right_from, arguments_from, switched_from, filled_from, statement}
use Rattle.c_eval.specs.States.{ends, own}

first_ends : (s : Setting) (shape : Shape) (c : CoreTree) (how : How) (w : World) → first_by s shape c (Ends how w) ≡ Ends how w
first_ends s Leaf (Core what of line kids) how w = refl
first_ends s Dropped (Core what of line NoCore) how w = refl
first_ends s Dropped (Core what of line (Cores a NoCore)) how w = refl
first_ends s Dropped (Core what of line (Cores a (Cores b cs))) how w = refl
first_ends s Unary (Core what of line NoCore) how w = refl
first_ends s Unary (Core what of line (Cores a NoCore)) how w = refl
first_ends s Unary (Core what of line (Cores a (Cores b cs))) how w = refl
first_ends s Binary (Core what of line NoCore) how w = refl
first_ends s Binary (Core what of line (Cores a NoCore)) how w = refl
first_ends s Binary (Core what of line (Cores a (Cores b NoCore))) how w = refl
first_ends s Binary (Core what of line (Cores a (Cores b (Cores c cs)))) how w = refl
first_ends s Logical (Core what of line NoCore) how w = refl
first_ends s Logical (Core what of line (Cores a NoCore)) how w = refl
first_ends s Logical (Core what of line (Cores a (Cores b NoCore))) how w = refl
first_ends s Logical (Core what of line (Cores a (Cores b (Cores c cs)))) how w = refl
first_ends s Conditional (Core what of line NoCore) how w = refl
first_ends s Conditional (Core what of line (Cores a NoCore)) how w = refl
first_ends s Conditional (Core what of line (Cores a (Cores b NoCore))) how w = refl
first_ends s Conditional (Core what of line (Cores a (Cores b (Cores c NoCore)))) how w = refl
first_ends s Conditional (Core what of line (Cores a (Cores b (Cores c (Cores d ds))))) how w = refl
first_ends s Comma (Core what of line kids) how w = refl
first_ends s Calls (Core what of line NoCore) how w = refl
first_ends s Calls (Core what of line (Cores a cs)) how w = refl

second_ends : (s : Setting) (shape : Shape) (c : CoreTree) (v : Value) (how : How) (w : World) → second_by s shape c v (Ends how w) ≡ Ends how w
second_ends s Leaf c v how w = refl
second_ends s Dropped c v how w = refl
second_ends s Unary c v how w = refl
second_ends s Binary (Core what of line NoCore) v how w = refl
second_ends s Binary (Core what of line (Cores a NoCore)) v how w = refl
second_ends s Binary (Core what of line (Cores a (Cores b NoCore))) v how w = refl
second_ends s Binary (Core what of line (Cores a (Cores b (Cores c cs)))) v how w = refl
second_ends s Logical c v how w = refl
second_ends s Conditional c v how w = refl
second_ends s Comma c v how w = refl
second_ends s Calls c v how w = refl

right_ends : (c : CoreTree) (how : How) (w : World) → right_from c (Ends how w) ≡ Ends how w
right_ends (Core what of line NoCore) how w = refl
right_ends (Core what of line (Cores a NoCore)) how w = refl
right_ends (Core what of line (Cores a (Cores b NoCore))) how w = refl
right_ends (Core what of line (Cores a (Cores b (Cores c cs)))) how w = refl

arguments_end : (p : Program) (s : Setting) (fs : List Frame) (cs : CoreTrees) (n : ℕ) (how : How) (w : World) → arguments_from p s fs cs n (Ends how w) ≡ Ends how w
arguments_end p s fs NoCore n how w = refl
arguments_end p s fs (Cores a cs) n how w = refl

tested_ends : (l : StmtOf CType) (how : How) (w : World) → tested_of l (Ends how w) ≡ Ends how w
tested_ends stmt.Nothing how w = refl
tested_ends (stmt.Expression e) how w = refl
tested_ends (stmt.Initialise local zero ps) how w = refl
tested_ends (stmt.Block first locals ss) how w = refl
tested_ends (stmt.If x t u) how w = refl
tested_ends (stmt.While x t) how w = refl
tested_ends (stmt.Do t x) how w = refl
tested_ends (stmt.For a None c t) how w = refl
tested_ends (stmt.For a (Some b) c t) how w = refl
tested_ends (stmt.Switch x cases default t) how w = refl
tested_ends (stmt.Label m t) how w = refl
tested_ends (stmt.Goto m) how w = refl
tested_ends stmt.Break how w = refl
tested_ends stmt.Continue how w = refl
tested_ends (stmt.Return x) how w = refl

switch_ends : (s : Setting) (l : StmtOf CType) (how : How) (w : World) → switched_from s l (Ends how w) ≡ Over how w
switch_ends s stmt.Nothing how w = refl
switch_ends s (stmt.Expression e) how w = refl
switch_ends s (stmt.Initialise local zero ps) how w = refl
switch_ends s (stmt.Block first locals ss) how w = refl
switch_ends s (stmt.If x t u) how w = refl
switch_ends s (stmt.While x t) how w = refl
switch_ends s (stmt.Do t x) how w = refl
switch_ends s (stmt.For a b c t) how w = refl
switch_ends s (stmt.Switch x cases default t) how w = refl
switch_ends s (stmt.Label m t) how w = refl
switch_ends s (stmt.Goto m) how w = refl
switch_ends s stmt.Break how w = refl
switch_ends s stmt.Continue how w = refl
switch_ends s (stmt.Return x) how w = refl

filled_ends : (s : Setting) (base : Value) (ps : List (FilledOf CType)) (how : How) (w : World) → filled_from s base ps (Ends how w) ≡ Over how w
filled_ends s base [] how w = refl
filled_ends s base (p ∷ ps) how w = refl

mutual
  pub end_of : (p : Program) (below : List Value) (fs : List Frame) (how : How) (w : World) → ends p below fs (OfExpression (Ends how w)) ≡ final how (output_of w.trace)
  end_of p below [] how w = refl
  end_of p below (on.First e ∷ fs) how w =
      ap (λ r. ends p below fs (OfExpression r)) (first_ends (own p) (shape_of (what_of (tree p e.now))) (tree p e.now) how w) ∙ end_of p below fs how w
  end_of p below (on.Second e v ∷ fs) how w =
      ap (λ r. ends p below fs (OfExpression r)) (second_ends (own p) (shape_of (what_of (tree p e.now))) (tree p e.now) v how w) ∙ end_of p below fs how w
  end_of p below (on.Right e ∷ fs) how w = ap (λ r. ends p below fs (OfExpression r)) (right_ends (tree p e.now) how w) ∙ end_of p below fs how w
  end_of p below (on.Comma es ∷ fs) how w = end_of p below fs how w
  end_of p below (on.Argument es n ∷ fs) how w =
      ap (λ r. ends p below fs (OfExpression r)) (arguments_end p (own p) fs (trees p es.now) n how w) ∙ end_of p below fs how w
  end_of p below (on.Passed c v ∷ fs) how w = end_of p below fs how w
  end_of p below (on.Called c v ∷ fs) how w = end_of p below fs how w
  end_of p below (on.Activation c n objects base ∷ fs) how w = end_of p _ fs how w
  end_of p below (on.Drop ∷ fs) how w = over_of p below fs how w
  end_of p below (on.Then ss ∷ fs) how w = end_of p below fs how w
  end_of p below (on.Catch ss ∷ fs) how w = end_of p below fs how w
  end_of p below (on.Branch x t u ∷ fs) how w = over_of p below fs how w
  end_of p below (on.Initial l ∷ fs) how w = over_of p below fs how w
  end_of p below (on.Body l ∷ fs) how w = end_of p below fs how w
  end_of p below (on.Last l ∷ fs) how w = over_of p below fs how w
  end_of p below (on.Test l ∷ fs) how w =
      ap (λ r. ends p below fs (OfStatement (repeated_by (own p) (statement p l.now) r))) (tested_ends (statement p l.now) how w) ∙ over_of p below fs how w
  end_of p below (on.Switch l ∷ fs) how w = ap (λ o. ends p below fs (OfStatement o)) (switch_ends (own p) (statement p l.now) how w) ∙ over_of p below fs how w
  end_of p below (on.Switched ∷ fs) how w = end_of p below fs how w
  end_of p below (on.Return x ∷ fs) how w = over_of p below fs how w
  end_of p below (on.Fill ps base ∷ fs) how w = ap (λ o. ends p below fs (OfStatement o)) (filled_ends (own p) base (seen_places p ps.now) how w) ∙ over_of p below fs how w

  pub over_of : (p : Program) (below : List Value) (fs : List Frame) (how : How) (w : World) → ends p below fs (OfStatement (Over how w)) ≡ final how (output_of w.trace)
  over_of p below [] how w = refl
  over_of p below (on.First e ∷ fs) how w = over_of p below fs how w
  over_of p below (on.Second e v ∷ fs) how w = over_of p below fs how w
  over_of p below (on.Right e ∷ fs) how w = over_of p below fs how w
  over_of p below (on.Comma es ∷ fs) how w = over_of p below fs how w
  over_of p below (on.Argument es n ∷ fs) how w = over_of p below fs how w
  over_of p below (on.Passed c v ∷ fs) how w = over_of p below fs how w
  over_of p below (on.Called c v ∷ fs) how w = over_of p below fs how w
  over_of p below (on.Activation c n objects base ∷ fs) how w = end_of p _ fs how w
  over_of p below (on.Drop ∷ fs) how w = over_of p below fs how w
  over_of p below (on.Then ss ∷ fs) how w = over_of p below fs how w
  over_of p below (on.Catch ss ∷ fs) how w = over_of p below fs how w
  over_of p below (on.Branch x t u ∷ fs) how w = over_of p below fs how w
  over_of p below (on.Initial l ∷ fs) how w = over_of p below fs how w
  over_of p below (on.Body l ∷ fs) how w = over_of p below fs how w
  over_of p below (on.Last l ∷ fs) how w = over_of p below fs how w
  over_of p below (on.Test l ∷ fs) how w = over_of p below fs how w
  over_of p below (on.Switch l ∷ fs) how w = over_of p below fs how w
  over_of p below (on.Switched ∷ fs) how w = over_of p below fs how w
  over_of p below (on.Return x ∷ fs) how w = over_of p below fs how w
  over_of p below (on.Fill ps base ∷ fs) how w = over_of p below fs how w
