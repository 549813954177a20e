-- Rows of statements by what they are over types as mathematics has them.
use Rattle.std.specs.Prelude.{◌≡◌, ℕ, true, false, List, Result, Ok, Err, OnOk}
use Rattle.std.proofs.Common.{sym, ap, ◌∙◌, subst}
use Rattle.c_types.specs.CType.{CType}
use Rattle.c_meaning.specs.declared.core_stmt.CoreForHead.{CoreForHead}
use Rattle.c_meaning.specs.declared.core_stmt.CoreStmt.{CoreStmt, CoreStmt-F, fold-roll-CoreStmt, out-CoreStmt, roll-CoreStmt, roll-out-CoreStmt}
use Rattle.c_meaning.specs.declared.core_stmt.CoreStmt.TheVariants as stmt
use Rattle.c_meaning.specs.StmtTrees as tree
use Rattle.c_meaning.specs.StmtTrees.{StmtOf, maybe_seen, stmt_layer, stmt_of, stmt_seen}
use Rattle.lowered_forms.specs.Lows.{Low}
use Rattle.lowered_forms.specs.Tests.{then_branched}
use Rattle.lowered_forms.specs.Values.{Lowered}
use Rattle.lowered_statements.specs.Functions.{Function, Exits}
use Rattle.lowered_statements.specs.Statements.{StmtTree, is_nothing, low_s}
use Rattle.c_rows_agree.specs.Typed.{Typed}
use Rattle.dag_forest.specs.declared.entry.Entry.{Entry}
use Rattle.lowering_steps.specs.declared.operand.Operand.{Operand}
use Rattle.lowering_steps.specs.declared.state.State.{State}
use Rattle.lowering_steps.specs.Asking.{Acts}
use Rattle.lowering_steps.specs.Operands.{typed_of}
use Rattle.lowering_steps.specs.States.{Comes, Shows}
use Rattle.lowering_steps.proofs.lemmas.Stating.{with_block, acts_shows}
use Rattle.statement_steps.specs.declared.progress.Progress.{Progress}
use Rattle.statement_steps.specs.Numbering.{tree_of}
use Rattle.statement_steps.specs.Progresses.{Goes, Does}
use Rattle.statement_steps.proofs.lemmas.Going.{shows_as}
use Rattle.statement_steps.proofs.lemmas.Trees.{tree_is, is_nothing as nothing_tree}

-- a step whose result may be an error, at each state that the code shows
pub goes_if : {E : Type 0} (r : Result (Unit {0}) E) (s t : State) (next : Low → Low) → ((l : Low) → Shows s l → OnOk r (Shows t (next l))) → OnOk r (Goes next s t)
goes_if (Ok u) s t next f = record { is = f }
goes_if (Err e) s t next f = tt

pub row_as : (f : Function) (y : Exits) (known : ℕ → CType) (s x : CoreStmt) (t : StmtTree) (p q : Progress)
    → s ≡ x → tree_of known x ≡ t → Does (λ b. low_s f y t b) p q → Does (λ b. low_s f y (tree_of known s) b) p q
row_as f y known s x t p q e i d = subst (λ u. Does (λ b. low_s f y u b) p q) (sym (ap (tree_of known) e ∙ i)) d

-- a `for` with this head and this body
abbrev pub for_seen : (ℕ → CType) → CoreForHead → CoreStmt → StmtTree
for_seen known h s = tree.For (maybe_seen known h.first) (maybe_seen known h.test) (maybe_seen known h.last) (tree_of known s)

-- ---- whether a statement is the empty one

pub nothing_is : (known : ℕ → CType) (s : CoreStmt) → s ≡ stmt.Nothing → true ≡ is_nothing (tree_of known s)
nothing_is known s e = sym (ap (λ x. is_nothing (tree_of known x)) e ∙ ap is_nothing (nothing_tree known))

other_by : (known : ℕ → CType) (x : CoreStmt-F CoreStmt) → (roll-CoreStmt x ≡ stmt.Nothing → ⊥) → is_nothing (stmt_seen known (stmt_of (roll-CoreStmt x))) ≡ false
other_by known CoreStmt-F.Nothing not = absurd (not stmt.rolls-Nothing)
other_by known (CoreStmt-F.Expression e) not = ap (λ t. is_nothing (stmt_seen known t)) (fold-roll-CoreStmt (StmtOf ℕ) stmt_layer (CoreStmt-F.Expression e))
other_by known (CoreStmt-F.Initialise local clears places) not = ap (λ t. is_nothing (stmt_seen known t)) (fold-roll-CoreStmt (StmtOf ℕ) stmt_layer (CoreStmt-F.Initialise local clears places))
other_by known (CoreStmt-F.Block first locals statements) not = ap (λ t. is_nothing (stmt_seen known t)) (fold-roll-CoreStmt (StmtOf ℕ) stmt_layer (CoreStmt-F.Block first locals statements))
other_by known (CoreStmt-F.If test then otherwise) not = ap (λ t. is_nothing (stmt_seen known t)) (fold-roll-CoreStmt (StmtOf ℕ) stmt_layer (CoreStmt-F.If test then otherwise))
other_by known (CoreStmt-F.While test body) not = ap (λ t. is_nothing (stmt_seen known t)) (fold-roll-CoreStmt (StmtOf ℕ) stmt_layer (CoreStmt-F.While test body))
other_by known (CoreStmt-F.Do body test) not = ap (λ t. is_nothing (stmt_seen known t)) (fold-roll-CoreStmt (StmtOf ℕ) stmt_layer (CoreStmt-F.Do body test))
other_by known (CoreStmt-F.For h body) not = ap (λ t. is_nothing (stmt_seen known t)) (fold-roll-CoreStmt (StmtOf ℕ) stmt_layer (CoreStmt-F.For h body))
other_by known (CoreStmt-F.Switch value cases default body) not = ap (λ t. is_nothing (stmt_seen known t)) (fold-roll-CoreStmt (StmtOf ℕ) stmt_layer (CoreStmt-F.Switch value cases default body))
other_by known (CoreStmt-F.Label label s) not = ap (λ t. is_nothing (stmt_seen known t)) (fold-roll-CoreStmt (StmtOf ℕ) stmt_layer (CoreStmt-F.Label label s))
other_by known (CoreStmt-F.Goto label) not = ap (λ t. is_nothing (stmt_seen known t)) (fold-roll-CoreStmt (StmtOf ℕ) stmt_layer (CoreStmt-F.Goto label))
other_by known CoreStmt-F.Break not = ap (λ t. is_nothing (stmt_seen known t)) (fold-roll-CoreStmt (StmtOf ℕ) stmt_layer CoreStmt-F.Break)
other_by known CoreStmt-F.Continue not = ap (λ t. is_nothing (stmt_seen known t)) (fold-roll-CoreStmt (StmtOf ℕ) stmt_layer CoreStmt-F.Continue)
other_by known (CoreStmt-F.Return value) not = ap (λ t. is_nothing (stmt_seen known t)) (fold-roll-CoreStmt (StmtOf ℕ) stmt_layer (CoreStmt-F.Return value))

pub other_is : (known : ℕ → CType) (s : CoreStmt) → (s ≡ stmt.Nothing → ⊥) → false ≡ is_nothing (tree_of known s)
other_is known s not =
    let e = roll-out-CoreStmt s in
    sym (ap is_nothing (tree_is known s) ∙ ap (λ x. is_nothing (stmt_seen known (stmt_of x))) (sym e) ∙ other_by known (out-CoreStmt s) (λ q. not (sym e ∙ q)))

-- ---- an expression, and what is done with its value

-- it has come to an operand
abbrev pub ComesTo : (Low → Lowered) → State → Operand → State → Type 0
ComesTo step s v t = (l : Low) → Shows s l → Comes t v (step l)

pub drops : (step : Low → Lowered) (s t : State) (v : Operand) → ComesTo step s v t → Goes (λ l. (step l).low) s t
drops step s t v c = record { is = λ l h. let k = c l h in shows_as t k.low (step l).low (ap (λ (r : Lowered). r.low) (sym k.is)) k.shows }

pub comes_goes : (step : Low → Lowered) (next : Typed → Low → Low) (s t u : State) (v : Operand) → ComesTo step s v t → Goes (λ l. next (typed_of v) l) t u → Goes (λ l. then_branched (step l) next) s u
comes_goes step next s t u v c g = record {
  is = λ l h. let k = c l h in shows_as u (next (typed_of v) k.low) (then_branched (step l) next) (ap (λ r. then_branched r next) (sym k.is)) (g.is k.low k.shows);
}

pub comes_acts : (step : Low → Lowered) (next : Typed → Low → Low) (s t : State) (v : Operand) (es : List Entry)
    → ComesTo step s v t → Acts t.block (λ l. next (typed_of v) l) es → Goes (λ l. then_branched (step l) next) s (with_block t es)
comes_acts step next s t v es c a = comes_goes step next s t (with_block t es) v c (record { is = λ l h. acts_shows t l (λ m. next (typed_of v) m) es h a })
