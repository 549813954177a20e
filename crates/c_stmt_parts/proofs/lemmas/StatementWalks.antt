-- Walks over statements: what is typed before a statement in them, that statement, and what comes behind it.
use Rattle.std.proofs.Common.{◌≡◌, ℕ, ◌<◌, None, length, refl, sym, ap, ◌∙◌}
use Rattle.std.specs.Prelude.{Result, Ok, Err, IsErrAnd}
use Rattle.c_ast.specs.Trees.{StatementTree}
use Rattle.c_symbols.specs.Scoping.{Scoping}
use Rattle.c_types.specs.CType.{CType}
use Rattle.c_types.specs.Table.{Table, Grows}
use Rattle.c_meaning.specs.State.{State}
use Rattle.c_meaning.specs.StmtTrees.{StmtOf}
use Rattle.c_meaning.specs.Typing.{Outcome, Fine, then_do, unless}
use Rattle.c_meaning.specs.declared.core_stmt.CoreStmt.{CoreStmt}
use Rattle.c_values.specs.declared.check_fault.CheckFault.{CheckFault}
use Rattle.c_values.specs.declared.check_fault.CheckFault.TheVariants.{Constraint, Limit, Memory}
use Rattle.c_check_expr.specs.AtNode.{Tells}
use Rattle.c_check_expr.specs.Keeps.{Keeps}
use Rattle.c_check_expr.specs.Kept.{keeps_grown, keeps_on}
use Rattle.c_check_expr.specs.Known.{AreSymbolsIn, state_of}
use Rattle.c_check_expr.specs.StepFaults.{IsFault}
use Rattle.c_check_expr.specs.SymbolsStay.{state_stays}
use Rattle.c_check_expr.proofs.lemmas.Walking.{both_go, first_stops, passed, second_stops, walk_as, walk_none, walk_then}
use Rattle.c_check_expr.specs.Walks.{Walks}
use Rattle.c_units.specs.Bodies.{Body as BodyTrees, Typed, Within as WithinTrees, at_stmt, typed_stmt}
use Rattle.c_units.specs.Statements.{Around as AroundTrees, StmtNode, stmt_fault}
use Rattle.c_stmt_parts.specs.declared.around.Within.{Within}
use Rattle.c_stmt_parts.specs.declared.body.Body.{Body}
use Rattle.c_stmt_parts.specs.Asked.{IsSound, IsToldAt}
use Rattle.c_stmt_parts.specs.BodiesSeen.{body_in, within_in}
use Rattle.c_stmt_parts.proofs.lemmas.BodiesStay.{within_stays}
use Rattle.c_stmt_parts.specs.StatementsIn.{IsCodeIn, WalksStmt, code_in, statement_in, with_body}

-- ---- answers beside what the function has

pub with_err : {V : Type 0} (e : CheckFault) (b : Body) (r : Result V CheckFault) → IsErrAnd r (λ d. d ≡ e) → IsErrAnd (with_body b r) (λ d. d ≡ e)
with_err e b (Ok v) h = h
with_err e b (Err d) h = h

-- ---- nodes

at_fine : {T : Type 0} (s : State) (line : ℕ) (n : StmtNode) (t : T) → stmt_fault s line n ≡ None → at_stmt s line n t ≡ Fine s t
at_fine s line n t h = ap (λ f. unless f s t) h

at_told : {T : Type 0} (s : State) (line : ℕ) (n : StmtNode) (t : T) (e : CheckFault) → IsFault e (stmt_fault s line n) → Tells e (at_stmt s line n t)
at_told s line n t (Constraint k l) h = ap (λ f. unless f s t) h
at_told s line n t (Limit w l) h = ap (λ f. unless f s t) h
at_told s line n t Memory h = tt

-- a node that breaks nothing
pub node_fine : {u : Scoping} {b d : Table} (line : ℕ) (n : StmtNode) (typed : Typed (StmtOf CType)) (x : Body) (code : CoreStmt) → AreSymbolsIn (length b.forms) u.symbols → Grows b d → IsSound b line n → typed ≡ code_in d (x, code) → IsCodeIn (length d.forms) (x, code)
    → WalksStmt (at_stmt (state_of u b) line n typed) u b u d x (Ok code)
node_fine {u = u} {b = b} {d = d} line n typed x code i g h e w =
    record {
      ok = at_fine (state_of u b) line n typed (h (state_of u b) refl) ∙ ap (Fine (state_of u b)) e ∙ ap (λ s. Fine s (code_in d (x, code))) (sym (state_stays u b d g i));
      err = tt;
      within = w;
      keeps = keeps_grown u b d i g;
    }

-- a node of which this is told
pub node_told : {u : Scoping} {b d : Table} (e : CheckFault) (line : ℕ) (n : StmtNode) (typed : Typed (StmtOf CType)) (x : Body) (r : Result CoreStmt CheckFault) → IsErrAnd r (λ y. y ≡ e) → AreSymbolsIn (length b.forms) u.symbols → Grows b d → IsToldAt b line n e
    → WalksStmt (at_stmt (state_of u b) line n typed) u b u d x r
node_told {u = u} {b = b} {d = d} e line n typed x r m i g h =
    passed (with_body x r) (with_err e x r m)
    (record {
      ok = tt;
      err = at_told (state_of u b) line n typed e (h (state_of u b) refl);
      within = tt;
      keeps = keeps_grown u b d i g;
    })

-- ---- a part before a statement

-- no part at all: a number that says nothing
pub walk_nothing : (s : Scoping) (a : Table) → AreSymbolsIn (length a.forms) s.symbols → Walks (λ (t : Table) (v : ℕ). v) (λ (n v : ℕ). Unit {0}) (Fine (state_of s a) 0) s a s a (Ok 0)
walk_nothing s a i = walk_none (λ t v. v) (λ n v. Unit {0}) s a 0 i tt

abbrev part_of : {T : Type 0} → Within → AroundTrees → (T → BodyTrees) → StatementTree → Table → State → T → Outcome (Typed (StmtOf CType))
part_of w inner before st a m x = typed_stmt (within_in a w) inner m (before x) st

-- what comes of the part, of the statement, and behind both
module _ {V T : Type 0} {view : Table → V → T} {IsPart : ℕ → V → Type 0} (o : Outcome T) (w : Within) (inner : AroundTrees) (before : T → BodyTrees) (st : StatementTree) (ending : State → T → Typed (StmtOf CType) → Outcome (Typed (StmtOf CType)))
    {s : Scoping} {a : Table} {whole : Outcome (Typed (StmtOf CType))} (is : whole ≡ then_do o (λ m x. then_do (typed_stmt (within_in a w) inner m (before x) st) (λ u t. ending u x t))) where
  pub part_stops : {u : Scoping} {c : Table} {d : CheckFault} (x : Body) (r : Result CoreStmt CheckFault) → IsErrAnd r (λ y. y ≡ d) → Walks view IsPart o s a u c (Err d) → WalksStmt whole s a u c x r
  part_stops x r h p = walk_as _ _ is (first_stops code_in IsCodeIn o (λ m x. then_do (part_of w inner before st a m x) (λ u t. ending u x t)) (with_body x r) (with_err _ x r h) p)

  module _ {m : Scoping} {t : Table} {v : V} (x : Body) (below : w.result < length a.forms) (first : Walks view IsPart o s a m t (Ok v)) (started : body_in t x ≡ before (view t v)) where
    inner_is : statement_in (within_in t w) inner m t (body_in t x) st ≡ part_of w inner before st a (state_of m t) (view t v)
    unfolding statement_in
    inner_is = ap (λ (f : WithinTrees). typed_stmt f inner (state_of m t) (body_in t x) st) (within_stays a t first.keeps.extends w below) ∙ ap (λ (b : BodyTrees). typed_stmt (within_in a w) inner (state_of m t) b st) started

    pub inner_stops : {u : Scoping} {c : Table} {d : CheckFault} (y : Body) (r : Result CoreStmt CheckFault) → IsErrAnd r (λ y. y ≡ d) → WalksStmt (statement_in (within_in t w) inner m t (body_in t x) st) m t u c y (Err d) → WalksStmt whole s a u c y r
    inner_stops y r h p = walk_as _ _ is (second_stops code_in IsCodeIn o (part_of w inner before st a) (λ u x t. ending u x t) (with_body y r) (with_err _ y r h) first (walk_as _ _ (sym inner_is) p))

    pub inner_goes : {u z : Scoping} {c q : Table} (y e : Body) (code : CoreStmt) (r : Result CoreStmt CheckFault) → WalksStmt (statement_in (within_in t w) inner m t (body_in t x) st) m t u c y (Ok code) → view c v ≡ view t v
        → WalksStmt (ending (state_of u c) (view c v) (code_in c (y, code))) u c z q e r → WalksStmt whole s a z q e r
    inner_goes y e code r p same next = walk_as _ _ is (both_go code_in IsCodeIn o (part_of w inner before st a) (λ u x t. ending u x t) first (walk_as _ _ (sym inner_is) p) same next)

-- what a statement keeps behind another
pub kept_on : {V W T U : Type 0} {view : Table → V → T} {IsPart : ℕ → V → Type 0} {other : Table → W → U} {IsOther : ℕ → W → Type 0} {o : Outcome T} {p : Outcome U} {r : Result V CheckFault} {q : Result W CheckFault} {s m u : Scoping} {a b c : Table} → Walks view IsPart o s a m b r → Walks other IsOther p m b u c q → Keeps s a u c
kept_on {s = s} {m = m} {u = u} {a = a} {b = b} {c = c} w x = keeps_on s m u a b c w.keeps x.keeps

-- ---- a part, a statement, and their node

-- what stands before the statement, around it and in the function there, and the node with what becomes of it
pub record Parts (T : Type 0) (w : Within) (a : Table) (whole : Outcome (Typed (StmtOf CType))) : Type 0 where
  pub o : Outcome T
  pub inner : AroundTrees
  pub before : T → BodyTrees
  pub st : StatementTree
  pub line : ℕ
  pub node : T → StmtNode
  pub make : T → Typed (StmtOf CType) → Typed (StmtOf CType)
  pub is : whole ≡ then_do o (λ m x. then_do (typed_stmt (within_in a w) inner m (before x) st) (λ u t. at_stmt u line (node x) (make x t)))

module _ {V T : Type 0} {view : Table → V → T} {IsPart : ℕ → V → Type 0} {w : Within} {s : Scoping} {a : Table} {whole : Outcome (Typed (StmtOf CType))} (k : Parts T w a whole) where
  pub parts_stop : {u : Scoping} {c : Table} {d : CheckFault} (x : Body) (r : Result CoreStmt CheckFault) → IsErrAnd r (λ y. y ≡ d) → Walks view IsPart k.o s a u c (Err d) → WalksStmt whole s a u c x r
  parts_stop x r h p = part_stops k.o w k.inner k.before k.st (λ u x t. at_stmt u k.line (k.node x) (k.make x t)) k.is x r h p

  module _ {m : Scoping} {t : Table} {v : V} (x : Body) (below : w.result < length a.forms) (first : Walks view IsPart k.o s a m t (Ok v)) (started : body_in t x ≡ k.before (view t v)) where
    pub parts_stop_inside : {u : Scoping} {c : Table} {d : CheckFault} (y : Body) (r : Result CoreStmt CheckFault) → IsErrAnd r (λ y. y ≡ d) → WalksStmt (statement_in (within_in t w) k.inner m t (body_in t x) k.st) m t u c y (Err d) → WalksStmt whole s a u c y r
    parts_stop_inside y r h p = inner_stops k.o w k.inner k.before k.st (λ u x t. at_stmt u k.line (k.node x) (k.make x t)) k.is x below first started y r h p

    module _ {u : Scoping} {c : Table} (y : Body) (code : CoreStmt) (second : WalksStmt (statement_in (within_in t w) k.inner m t (body_in t x) k.st) m t u c y (Ok code)) (same : view c v ≡ view t v) where
      pub parts_told : {q : Table} (d : CheckFault) (z : Body) (r : Result CoreStmt CheckFault) → IsErrAnd r (λ z. z ≡ d) → Grows c q → IsToldAt c k.line (k.node (view c v)) d → WalksStmt whole s a u q z r
      parts_told d z r h g told = inner_goes k.o w k.inner k.before k.st (λ u x t. at_stmt u k.line (k.node x) (k.make x t)) k.is x below first started y z code r second same (node_told d k.line (k.node (view c v)) (k.make (view c v) (code_in c (y, code))) z r h second.keeps.symbols g told)

      pub parts_go : {q : Table} (z : Body) (full : CoreStmt) → Grows c q → IsSound c k.line (k.node (view c v)) → k.make (view c v) (code_in c (y, code)) ≡ code_in q (z, full) → IsCodeIn (length q.forms) (z, full) → WalksStmt whole s a u q z (Ok full)
      parts_go z full g sound e i = inner_goes k.o w k.inner k.before k.st (λ u x t. at_stmt u k.line (k.node x) (k.make x t)) k.is x below first started y z code (Ok full) second same (node_fine k.line (k.node (view c v)) (k.make (view c v) (code_in c (y, code))) z full second.keeps.symbols g sound e i)

-- ---- a part and its node, without a statement

module _ {V T : Type 0} {view : Table → V → T} {IsPart : ℕ → V → Type 0} (o : Outcome T) (line : ℕ) (n : T → StmtNode) (make : T → Typed (StmtOf CType)) {s : Scoping} {a : Table} {whole : Outcome (Typed (StmtOf CType))}
    (is : whole ≡ then_do o (λ m x. at_stmt m line (n x) (make x))) where
  pub single_stops : {u : Scoping} {c : Table} {d : CheckFault} (x : Body) (r : Result CoreStmt CheckFault) → IsErrAnd r (λ y. y ≡ d) → Walks view IsPart o s a u c (Err d) → WalksStmt whole s a u c x r
  single_stops x r h p = walk_as _ _ is (first_stops code_in IsCodeIn o (λ m x. at_stmt m line (n x) (make x)) (with_body x r) (with_err _ x r h) p)

  module _ {m : Scoping} {t : Table} {v : V} (first : Walks view IsPart o s a m t (Ok v)) where
    pub single_told : {q : Table} (d : CheckFault) (x : Body) (r : Result CoreStmt CheckFault) → IsErrAnd r (λ y. y ≡ d) → Grows t q → IsToldAt t line (n (view t v)) d → WalksStmt whole s a m q x r
    single_told {q = q} d x r h g told = walk_as _ _ is (walk_then code_in IsCodeIn o (λ m x. at_stmt m line (n x) (make x)) s m m a t q v (with_body x r) first (node_told d line (n (view t v)) (make (view t v)) x r h first.keeps.symbols g told))

    pub single_goes : {q : Table} (x : Body) (full : CoreStmt) → Grows t q → IsSound t line (n (view t v)) → make (view t v) ≡ code_in q (x, full) → IsCodeIn (length q.forms) (x, full) → WalksStmt whole s a m q x (Ok full)
    single_goes {q = q} x full g sound e i = walk_as _ _ is (walk_then code_in IsCodeIn o (λ m x. at_stmt m line (n x) (make x)) s m m a t q v (Ok (x, full)) first (node_fine line (n (view t v)) (make (view t v)) x full first.keeps.symbols g sound e i))
