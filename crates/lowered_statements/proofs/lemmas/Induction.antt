-- What each step keeps, the lowering of statements and of functions keeps.
use Rattle.std.specs.Prelude.{ℕ, suc, Bool, true, false, List, [], ◌∷◌, take, slice_get}
use Rattle.lcc_base.specs.declared.order.Order.{Order}
use Rattle.op_forest.specs.declared.op.Op.TheVariants as op
use Rattle.op_forest.specs.declared.suffix.Suffix.TheVariants.{I}
use Rattle.c_types.specs.CType.{CType}
use Rattle.c_meaning.specs.Scalars.{scalar_of}
use Rattle.c_meaning.specs.StmtTrees as stmt
use Rattle.c_meaning.specs.Units.{FunctionTree, UnitTree}
use Rattle.c_rows_agree.specs.Places.{stored_as}
use Rattle.c_rows_agree.specs.Typed.{head, constant_i}
use Rattle.lowered_forms.specs.Lows.{marked}
use Rattle.lowered_forms.specs.Places.{local_by}
use Rattle.lowered_statements.specs.Bodies.{Body, with_low}
use Rattle.lowered_statements.specs.FunctionBodies.{function_in, word_passed, parameter_stored, parameters_stored, begun, no_exits, lowered_in, low_f}
use Rattle.lowered_statements.specs.Functions.{Function, Exits, label_at}
use Rattle.lowered_statements.specs.Layouts.{is_narrow, first_word, layout}
use Rattle.lowered_statements.specs.Returns.{end_by}
use Rattle.lowered_statements.specs.Statements.{StmtTree, StmtTrees, is_nothing, low_s, low_all}
use Rattle.lowered_statements.specs.Steps.{BodyRelation, BodySteps}
use Rattle.lowered_statements.proofs.lemmas.Stepping.{lows, low_steps, low_jumps, value_step, initialised_step}
use Rattle.lowered_statements.proofs.lemmas.RowSteps.{jumped_step, return_step, choice_step, while_step, do_step, for_step, switch_step}

module _ (R : BodyRelation) (k : BodySteps R) where
  mutual
    pub statement_steps : (f : Function) (y : Exits) (t : StmtTree) (b : Body) → R b (low_s f y t b)
    statement_steps f y stmt.Nothing b = k.same b
    statement_steps f y (stmt.Expression e) b = value_step R k f.context e b
    statement_steps f y (stmt.Initialise local clears ps) b = initialised_step (lows R b.tables) (low_steps R k b.tables) (low_jumps R k b.tables) f local clears ps b.low
    statement_steps f y (stmt.Block first locals ts) b = statements_steps f y ts b
    statement_steps f y (stmt.If e t u) b =
        choice_step R k (is_nothing u) f e (λ b1. low_s f y t b1) (λ b1. low_s f y u b1) (λ b1. statement_steps f y t b1) (λ b1. statement_steps f y u b1) b
    statement_steps f y (stmt.While e t) b = while_step R k f e (λ x b1. low_s f x t b1) (λ x b1. statement_steps f x t b1) b
    statement_steps f y (stmt.Do t e) b = do_step R k f e (λ x b1. low_s f x t b1) (λ x b1. statement_steps f x t b1) b
    statement_steps f y (stmt.For first test last t) b = for_step R k f first test last (λ x b1. low_s f x t b1) (λ x b1. statement_steps f x t b1) b
    statement_steps f y (stmt.Switch e cases default t) b = switch_step R k f e cases default (λ x b1. low_s f x t b1) (λ x b1. statement_steps f x t b1) y b
    statement_steps f y (stmt.Label n t) b =
        let b1 = with_low (marked (label_at f n) b.low) b in
        k.joins b b1 _ (k.marks (label_at f n) b) (statement_steps f y t b1)
    statement_steps f y (stmt.Goto n) b = jumped_step R k (label_at f n) b
    statement_steps f y stmt.Break b = jumped_step R k y.breaks b
    statement_steps f y stmt.Continue b = jumped_step R k y.continues b
    statement_steps f y (stmt.Return e) b = return_step R k f e b

    pub statements_steps : (f : Function) (y : Exits) (ts : StmtTrees) (b : Body) → R b (low_all f y ts b)
    statements_steps f y stmt.NoStmt b = k.same b
    statements_steps f y (stmt.Stmts t ts) b = k.joins b (low_s f y t b) _ (statement_steps f y t b) (statements_steps f y ts (low_s f y t b))

  -- ---- functions

  parameter_step : (narrow : Bool) (f : Function) (n word : ℕ) (t : CType) (b : Body) → R b (with_low (parameter_stored narrow f n word t b.low) b)
  parameter_step true f n word t b = k.acts (stored_as (scalar_of t).width (local_by false (slice_get f.context.places n)) (word_passed word)) b
  parameter_step false f n word t b = k.same b

  parameters_step : (f : Function) (n word : ℕ) (ts : List CType) (b : Body) → R b (with_low (parameters_stored f n word ts b.low) b)
  parameters_step f n word [] b = k.same b
  parameters_step f n word (t ∷ ts) b =
      let b1 = with_low (parameter_stored (is_narrow f.context.unit.tags t) f n word t b.low) b in
      k.joins b b1 _ (parameter_step (is_narrow f.context.unit.tags t) f n word t b) (parameters_step f (suc n) (suc word) ts b1)

  end_step : (gives : Bool) (b : Body) → R b (with_low (end_by gives b.low) b)
  end_step true b = k.acts_one (head op.Ret I) (constant_i 0) b
  end_step false b = k.same b

  lowered_steps : (g : Function) (f : FunctionTree) (b : Body) → R b (lowered_in g f b)
  lowered_steps g f b =
      let b1 = with_low (parameters_stored g 0 (first_word f) (take f.parameters f.locals) b.low) b in
      let b2 = low_s g no_exits f.body b1 in
      let b3 = with_low (end_by g.gives_zero b2.low) b2 in
      k.joins b b1 _ (parameters_step g 0 (first_word f) (take f.parameters f.locals) b)
      (k.joins b1 b2 _ (statement_steps g no_exits f.body b1) (k.joins b2 b3 _ (end_step g.gives_zero b2) (k.ends b3)))

  pub function_steps : (u : UnitTree) (order : Order) (n m : ℕ) (f : FunctionTree) → R (begun (function_in u order n m f) (layout u.tags f)) (low_f u order n m f)
  function_steps u order n m f = lowered_steps (function_in u order n m f) f (begun (function_in u order n m f) (layout u.tags f))
