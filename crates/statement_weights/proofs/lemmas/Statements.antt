-- Lowered statements and functions add few nodes and temporaries.
use Rattle.std.specs.Prelude.{refl, ◌≤◌, ℕ, suc, ◌+◌, ◌*◌, Bool, true, false, List, [], ◌∷◌, take, slice_get, length}
use Rattle.std.proofs.Common.{arith}
use Rattle.std.proofs.lemmas.List.{length-take}
use Rattle.lcc_base.specs.declared.order.Order.{Order}
use Rattle.c_types.specs.CType.{CType}
use Rattle.c_meaning.specs.Scalars.{scalar_of}
use Rattle.c_meaning.specs.StmtTrees as stmt
use Rattle.c_meaning.specs.Units.{FunctionTree, UnitTree}
use Rattle.piece_runs.specs.Pieces.{Piece, OfBlock, Mark}
use Rattle.lowering_limits.specs.Nodes.{stmts_nodes}
use Rattle.lowered_forms.specs.Lows.{Low, marked}
use Rattle.lowered_forms.specs.Places.{local_by}
use Rattle.lowered_forms.specs.Sizes.{weight_by}
use Rattle.lowered_statements.specs.Bodies.{Body, with_low}
use Rattle.lowered_statements.specs.FunctionBodies.{function_in, word_passed, parameter_stored, parameters_stored, begun, no_exits, lowered_in, low_f}
use Rattle.lowered_statements.specs.Functions.{Function, Exits, label_at}
use Rattle.lowered_statements.specs.Layouts.{Layout, is_narrow, first_word, layout}
use Rattle.lowered_statements.specs.Returns.{end_by}
use Rattle.lowered_statements.specs.Statements.{StmtTree, StmtTrees, is_nothing, low_s, low_all}
use Rattle.lowered_blocks.specs.Known.{AreKnown, IsKnown}
use Rattle.lowered_labels.specs.Used.{GoesWithin}
use Rattle.lowered_labels.proofs.lemmas.KnownStatements.{functions_are_known}
use Rattle.statement_sizes.specs.Cases.{case_counts}
use Rattle.expression_weights.specs.Rises.{Risen, Rises}
use Rattle.expression_weights.specs.Weighs.{Weighs, AreFormedPieces, IsFormed}
use Rattle.expression_weights.proofs.lemmas.Growing.{Grows, grows_rises}
use Rattle.expression_weights.proofs.lemmas.Operands.{jumped_rises}
use Rattle.expression_weights.proofs.lemmas.Operations.{PricedAt, local_priced}
use Rattle.expression_weights.proofs.lemmas.Steps.{Raises, raises_rises, bounds_hold, empty_weighs}
use Rattle.statement_weights.specs.Statements.{Adds, added_by, function_weight}
use Rattle.statement_weights.proofs.lemmas.Filling.{none, value_adds, initialised_adds}
use Rattle.statement_weights.proofs.lemmas.Looping.{nothing_adds, return_adds, choice_adds, while_adds, do_adds, for_adds, switch_adds}
use Rattle.statement_weights.proofs.lemmas.Stores.{joined, at_most, stores}

abbrev all_added_by : StmtTrees → ℕ
all_added_by ts = 203 * (stmts_nodes ts + case_counts ts)

-- ---- statements

module _ (R : Risen) (k : Rises R) where
  mutual
    pub statement_adds : (f : Function) (y : Exits) (t : StmtTree) (b : Body) → R (added_by t) b.low (low_s f y t b).low
    statement_adds f y stmt.Nothing b = none R k _ b.low
    statement_adds f y (stmt.Expression e) b = at_most R k _ (value_adds R k f.context e b.low) (omega arith)
    statement_adds f y (stmt.Initialise local clears ps) b = at_most R k _ (initialised_adds R k f local clears ps b.low) (omega arith)
    statement_adds f y (stmt.Block first locals ts) b = at_most R k _ (statements_add f y ts b) (omega arith)
    statement_adds f y (stmt.If e t u) b =
        at_most R k _
        (choice_adds R k (added_by t) (added_by u) (is_nothing u) f e (λ b1. low_s f y t b1) (λ b1. low_s f y u b1)
        (λ b1. statement_adds f y t b1) (λ b1. statement_adds f y u b1) b)
        (omega arith)
    statement_adds f y (stmt.While e t) b =
        at_most R k _ (while_adds R k (added_by t) f e (λ x b1. low_s f x t b1) (λ x b1. statement_adds f x t b1) b) (omega arith)
    statement_adds f y (stmt.Do t e) b =
        at_most R k _ (do_adds R k (added_by t) f e (λ x b1. low_s f x t b1) (λ x b1. statement_adds f x t b1) b) (omega arith)
    statement_adds f y (stmt.For first test last t) b =
        at_most R k _ (for_adds R k (added_by t) f first test last (λ x b1. low_s f x t b1) (λ x b1. statement_adds f x t b1) b) (omega arith)
    statement_adds f y (stmt.Switch e cases default t) b =
        at_most R k _ (switch_adds R k (added_by t) f e cases default (λ x b1. low_s f x t b1) (λ x b1. statement_adds f x t b1) y b) (omega arith)
    statement_adds f y (stmt.Label n t) b =
        at_most R k _ (joined R k (k.marks (label_at f n) b.low) (statement_adds f y t (with_low (marked (label_at f n) b.low) b))) (omega arith)
    statement_adds f y (stmt.Goto n) b = at_most R k _ (jumped_rises R k (label_at f n) b.low) (omega arith)
    statement_adds f y stmt.Break b = at_most R k _ (jumped_rises R k y.breaks b.low) (omega arith)
    statement_adds f y stmt.Continue b = at_most R k _ (jumped_rises R k y.continues b.low) (omega arith)
    statement_adds f y (stmt.Return e) b = at_most R k _ (return_adds R k f e b.low) (omega arith)

    statements_add : (f : Function) (y : Exits) (ts : StmtTrees) (b : Body) → R (all_added_by ts) b.low (low_all f y ts b).low
    statements_add f y stmt.NoStmt b = k.same b.low
    statements_add f y (stmt.Stmts t ts) b = at_most R k _ (joined R k (statement_adds f y t b) (statements_add f y ts (low_s f y t b))) (omega arith)

  -- ---- functions

  word_priced : (word : ℕ) → PricedAt 10 (word_passed word)
  word_priced word = (refl, omega arith, 1, (refl, omega arith), omega arith)

  parameter_adds : (narrow : Bool) (f : Function) (n word : ℕ) (t : CType) (l : Low) → R 25 l (parameter_stored narrow f n word t l)
  parameter_adds true f n word t l =
      stores R k 10 10 (scalar_of t).width (local_by false (slice_get f.context.places n)) (word_passed word) l (omega arith) (omega arith)
      (local_priced false (slice_get f.context.places n)) (word_priced word)
  parameter_adds false f n word t l = none R k 25 l

  parameters_add : (f : Function) (n word : ℕ) (ts : List CType) (l : Low) → R (25 * length ts) l (parameters_stored f n word ts l)
  parameters_add f n word [] l = k.same l
  parameters_add f n word (t ∷ ts) l =
      let narrow = is_narrow f.context.unit.tags t in
      at_most R k (25 * length (t ∷ ts))
      (joined R k (parameter_adds narrow f n word t l) (parameters_add f (suc n) (suc word) ts (parameter_stored narrow f n word t l))) (omega arith)

  end_adds : (gives : Bool) (l : Low) → R 2 l (end_by gives l)
  end_adds true l = nothing_adds R k true l
  end_adds false l = none R k 2 l

  pub lowered_adds : (g : Function) (f : FunctionTree) (b : Body) → R (25 * f.parameters + (added_by f.body + 2)) b.low (lowered_in g f b).low
  lowered_adds g f b =
      let ts = take f.parameters f.locals in
      let l1 = parameters_stored g 0 (first_word f) ts b.low in
      let b2 = low_s g no_exits f.body (with_low l1 b) in
      let l3 = end_by g.gives_zero b2.low in
      let e = length-take f.parameters f.locals in
      at_most R k (25 * f.parameters + (added_by f.body + 2))
      (joined R k (parameters_add g 0 (first_word f) ts b.low)
      (joined R k (statement_adds g no_exits f.body (with_low l1 b)) (joined R k (end_adds g.gives_zero b2.low) (k.ends l3))))
      (omega (arith, e))

-- ---- laws

pub statements_add_few : (f : Function) (y : Exits) (t : StmtTree) (b : Body) → IsFormed (low_s f y t b).low → Adds (added_by t) b.low (low_s f y t b).low
statements_add_few f y t b h = record {
  nodes = (statement_adds Grows grows_rises f y t b).nodes;
  weights = λ w g. (statement_adds Raises raises_rises f y t b).weighs h w g;
}

pieces_are_formed : (n : ℕ) (ps : List Piece) → AreKnown n ps → AreFormedPieces ps
pieces_are_formed n [] h = tt
pieces_are_formed n (OfBlock before es ∷ ps) h = (h.0.0.formed, pieces_are_formed n ps h.1)
pieces_are_formed n (Mark m ∷ ps) h = pieces_are_formed n ps h.1

known_is_formed : (l : Low) → IsKnown l → IsFormed l
known_is_formed l h = record { open_ = h.block.formed; pieces = pieces_are_formed l.labels l.pieces h.pieces }

begun_weighs : (g : Function) (a : Layout) → Weighs (length a.slots) (begun g a).low
begun_weighs g a = let e = empty_weighs 0 in record { cost = e.cost; block = e.block; all = (let h = e.all in omega (arith, h)) }

pub functions_weigh_little : (u : UnitTree) (order : Order) (number tables : ℕ) (f : FunctionTree) → GoesWithin (function_in u order number tables f) false false f.body
    → Weighs (function_weight u f) (low_f u order number tables f).low
functions_weigh_little u order number tables f h =
    let g = function_in u order number tables f in
    let a = layout u.tags f in
    (lowered_adds Raises raises_rises g f (begun g a)).weighs (known_is_formed (low_f u order number tables f).low (functions_are_known u order number tables f h)) (length a.slots)
    (begun_weighs g a)

pub functions_are_small : (u : UnitTree) (order : Order) (number tables : ℕ) (f : FunctionTree) → GoesWithin (function_in u order number tables f) false false f.body
    → weight_by (low_f u order number tables f).low.entries (low_f u order number tables f).low ≤ function_weight u f
functions_are_small u order number tables f h = bounds_hold (function_weight u f) (low_f u order number tables f).low (functions_weigh_little u order number tables f h)
