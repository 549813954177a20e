-- Slots and labels of lowered statements and functions are few.
use Rattle.std.specs.Prelude.{◌≤◌, ℕ, suc, ◌+◌, ◌*◌, Bool, true, false, List, [], ◌∷◌, take, slice_get, length}
use Rattle.std.proofs.Common.{arith}
use Rattle.lcc_base.specs.declared.order.Order.{Order}
use Rattle.c_types.specs.CType.{CType}
use Rattle.c_meaning.specs.Scalars.{scalar_of}
use Rattle.c_meaning.specs.StmtTrees as stmt
use Rattle.c_meaning.specs.Units.{FunctionTree, UnitTree, labels}
use Rattle.c_rows_agree.specs.Places.{stored_as}
use Rattle.lowering_limits.specs.Nodes.{stmt_nodes, stmts_nodes}
use Rattle.lowered_forms.specs.Lows.{Low, marked}
use Rattle.lowered_forms.specs.Places.{local_by}
use Rattle.lowered_forms.specs.Sizes.{other_slots}
use Rattle.lowered_statements.specs.Bodies.{Body, with_low}
use Rattle.lowered_statements.specs.FunctionBodies.{function_in, word_passed, parameter_stored, parameters_stored, begun, no_exits, lowered_in, low_f}
use Rattle.lowered_statements.specs.Functions.{Function, Exits, label_at}
use Rattle.lowered_statements.specs.Layouts.{is_narrow, first_word, layout}
use Rattle.lowered_statements.specs.Returns.{end_by}
use Rattle.lowered_statements.specs.Statements.{StmtTree, StmtTrees, is_nothing, low_s, low_all}
use Rattle.lowered_sizes.proofs.lemmas.CountedExpressions.{slots_are}
use Rattle.lowered_sizes.proofs.lemmas.Taking.{Takes, takes_counts, joined, at_most}
use Rattle.statement_sizes.specs.Cases.{case_count, case_counts}
use Rattle.statement_sizes.proofs.lemmas.Filling.{value_takes, allowed, initialised_takes}
use Rattle.statement_sizes.proofs.lemmas.Looping.{jump_takes, nothing_takes, return_takes, choice_takes, while_takes, do_takes, for_takes, switch_takes}

-- the labels of a statement, and of more of them
abbrev labels_for : StmtTree → ℕ
labels_for t = 4 * stmt_nodes t + 2 * case_count t

abbrev all_labels_for : StmtTrees → ℕ
all_labels_for ts = 4 * stmts_nodes ts + 2 * case_counts ts

mutual
  statement_takes : (f : Function) (y : Exits) (t : StmtTree) (b : Body) → Takes (2 * stmt_nodes t) (labels_for t) b.low (low_s f y t b).low
  statement_takes f y stmt.Nothing b = allowed _ _ b.low b.low (takes_counts.same b.low)
  statement_takes f y (stmt.Expression e) b = let d = slots_are e in at_most _ _ (value_takes f.context e b.low) (omega (arith, d)) (omega arith)
  statement_takes f y (stmt.Initialise local clears ps) b = at_most _ _ (initialised_takes f local clears ps b.low) (omega arith) (omega arith)
  statement_takes f y (stmt.Block first locals ts) b = at_most _ _ (statements_take f y ts b) (omega arith) (omega arith)
  statement_takes f y (stmt.If e t u) b =
      at_most _ _
      (choice_takes (2 * stmt_nodes t) (labels_for t) (2 * stmt_nodes u) (labels_for u) (is_nothing u) f e (λ b1. low_s f y t b1) (λ b1. low_s f y u b1)
      (λ b1. statement_takes f y t b1) (λ b1. statement_takes f y u b1) b)
      (omega arith) (omega arith)
  statement_takes f y (stmt.While e t) b =
      at_most _ _ (while_takes (2 * stmt_nodes t) (labels_for t) f e (λ x b1. low_s f x t b1) (λ x b1. statement_takes f x t b1) b) (omega arith) (omega arith)
  statement_takes f y (stmt.Do t e) b =
      at_most _ _ (do_takes (2 * stmt_nodes t) (labels_for t) f e (λ x b1. low_s f x t b1) (λ x b1. statement_takes f x t b1) b) (omega arith) (omega arith)
  statement_takes f y (stmt.For first test last t) b =
      at_most _ _ (for_takes (2 * stmt_nodes t) (labels_for t) f first test last (λ x b1. low_s f x t b1) (λ x b1. statement_takes f x t b1) b) (omega arith) (omega arith)
  statement_takes f y (stmt.Switch e cases default t) b =
      at_most _ _ (switch_takes (2 * stmt_nodes t) (labels_for t) f e cases default (λ x b1. low_s f x t b1) (λ x b1. statement_takes f x t b1) y b) (omega arith) (omega arith)
  statement_takes f y (stmt.Label n t) b =
      at_most _ _ (joined (takes_counts.marks (label_at f n) b.low) (statement_takes f y t (with_low (marked (label_at f n) b.low) b))) (omega arith) (omega arith)
  statement_takes f y (stmt.Goto n) b = allowed _ _ b.low _ (jump_takes (label_at f n) b.low)
  statement_takes f y stmt.Break b = allowed _ _ b.low _ (jump_takes y.breaks b.low)
  statement_takes f y stmt.Continue b = allowed _ _ b.low _ (jump_takes y.continues b.low)
  statement_takes f y (stmt.Return e) b = at_most _ _ (return_takes f e b.low) (omega arith) (omega arith)

  statements_take : (f : Function) (y : Exits) (ts : StmtTrees) (b : Body) → Takes (2 * stmts_nodes ts) (all_labels_for ts) b.low (low_all f y ts b).low
  statements_take f y stmt.NoStmt b = takes_counts.same b.low
  statements_take f y (stmt.Stmts t ts) b = at_most _ _ (joined (statement_takes f y t b) (statements_take f y ts (low_s f y t b))) (omega arith) (omega arith)

pub labels_are_few : (f : Function) (y : Exits) (t : StmtTree) (b : Body) → (low_s f y t b).low.labels ≤ b.low.labels + (4 * stmt_nodes t + 2 * case_count t)
labels_are_few f y t b = (statement_takes f y t b).labels

pub slots_are_few : (f : Function) (y : Exits) (t : StmtTree) (b : Body) → other_slots (low_s f y t b).low ≤ other_slots b.low + 2 * stmt_nodes t
slots_are_few f y t b = (statement_takes f y t b).slots

-- ---- functions

parameter_takes : (narrow : Bool) (f : Function) (n word : ℕ) (t : CType) (l : Low) → Takes 0 0 l (parameter_stored narrow f n word t l)
parameter_takes true f n word t l = takes_counts.acts (stored_as (scalar_of t).width (local_by false (slice_get f.context.places n)) (word_passed word)) l
parameter_takes false f n word t l = takes_counts.same l

parameters_take : (f : Function) (n word : ℕ) (ts : List CType) (l : Low) → Takes 0 0 l (parameters_stored f n word ts l)
parameters_take f n word [] l = takes_counts.same l
parameters_take f n word (t ∷ ts) l =
    let l1 = parameter_stored (is_narrow f.context.unit.tags t) f n word t l in
    joined (parameter_takes (is_narrow f.context.unit.tags t) f n word t l) (parameters_take f (suc n) (suc word) ts l1)

end_takes : (gives : Bool) (l : Low) → Takes 0 0 l (end_by gives l)
end_takes true l = nothing_takes true l
end_takes false l = takes_counts.same l

lowered_takes : (g : Function) (f : FunctionTree) (b : Body) → Takes (2 * stmt_nodes f.body) (labels_for f.body) b.low (lowered_in g f b).low
lowered_takes g f b =
    let l1 = parameters_stored g 0 (first_word f) (take f.parameters f.locals) b.low in
    let b2 = low_s g no_exits f.body (with_low l1 b) in
    let l3 = end_by g.gives_zero b2.low in
    at_most _ _
    (joined (parameters_take g 0 (first_word f) (take f.parameters f.locals) b.low)
    (joined (statement_takes g no_exits f.body (with_low l1 b)) (joined (end_takes g.gives_zero b2.low) (takes_counts.ends l3))))
    (omega arith) (omega arith)

pub function_labels_are_few : (u : UnitTree) (order : Order) (number tables : ℕ) (f : FunctionTree)
    → (low_f u order number tables f).low.labels ≤ length (labels f.body) + (4 * stmt_nodes f.body + 2 * case_count f.body)
function_labels_are_few u order number tables f = (lowered_takes (function_in u order number tables f) f (begun (function_in u order number tables f) (layout u.tags f))).labels

pub function_slots_are_few : (u : UnitTree) (order : Order) (number tables : ℕ) (f : FunctionTree)
    → other_slots (low_f u order number tables f).low ≤ length (layout u.tags f).slots + 2 * stmt_nodes f.body
function_slots_are_few u order number tables f =
    let h = (lowered_takes (function_in u order number tables f) f (begun (function_in u order number tables f) (layout u.tags f))).slots in
    omega (arith, h)
