-- In the lowered body of a checked function each label stands once, and no other root is a label.
use Rattle.std.specs.Prelude.{◌≡◌, ◌≤◌, ℕ, suc, ◌+◌, nat_lt, Bool, true, false, Option, Some, None, List, [], ◌∷◌, ◌++◌, if◌then◌else◌}
use Rattle.std.proofs.Common.{refl, sym, ap, subst, ◌∙◌, arith}
use Rattle.std.proofs.lemmas.Bool.{eq-eqb}
use Rattle.lcc_base.specs.declared.order.Order.{Order}
use Rattle.op_forest.specs.declared.frame.Slot.{Slot}
use Rattle.op_forest.specs.declared.op.Op.{Op}
use Rattle.op_forest.specs.declared.op.Op.TheVariants as op
use Rattle.op_forest.specs.declared.sym.Sym.{Sym}
use Rattle.op_forest.specs.Labels.{label_by, label_of}
use Rattle.op_forest.specs.Nodes.{Head, Node}
use Rattle.forests.specs.Addresses.{Home}
use Rattle.dag_forest.specs.declared.act.Act.{Act}
use Rattle.dag_forest.specs.declared.act.Act.TheVariants.{Made, Acts}
use Rattle.dag_forest.specs.declared.entry.Entry.{Entry}
use Rattle.dag_forest.specs.declared.entry.Entry.TheVariants.{Value, Root}
use Rattle.dag_forest.specs.declared.kids.Kids.{Kids}
use Rattle.dag_forest.specs.declared.kids.Kids.TheVariants.{Zero, One, Two}
use Rattle.dag_forest.specs.declared.kind.Kind.{Kind}
use Rattle.dag_forest.specs.declared.kind.Kind.TheVariants.{Char, Short, Signed, Unsigned, Address}
use Rattle.dag_forest.specs.Choice.{Room}
use Rattle.dag_forest.specs.Emission.{tree_by, tree_at, emitted, emit, no_tree}
use Rattle.dag_forest.specs.Meaning.{Keeps, Temporary}
use Rattle.dag_forest.specs.Schedules.{at, head_of, acts_of}
use Rattle.dag_forest.specs.Slots.{slot_store}
use Rattle.dag_forest.specs.Split.{room_of, keeps_of, kept_by, temporary_of}
use Rattle.dag_seam.specs.Rooms.{AreActs, AreEntries}
use Rattle.dag_seam.specs.SplitLaws.{Lacks}
use Rattle.dag_seam.proofs.lemmas.Acts.{acts_are}
use Rattle.c_meaning.specs.Units.{FunctionTree, UnitTree, are_apart, labels}
use Rattle.piece_runs.specs.Pieces.{Piece, OfBlock, Mark, roots_of}
use Rattle.piece_runs.specs.Reaches.{BodyRun}
use Rattle.piece_runs.proofs.lemmas.Tails.{roots_append}
use Rattle.lowered_blocks.specs.Known.{IsNoLabel, AreNamed, AreKnown}
use Rattle.lowered_statements.specs.FunctionBodies.{function_in, low_f}
use Rattle.lowered_labels.specs.Marks.{marks_of, same, times, below, FunctionsMark}
use Rattle.lowered_labels.specs.Used.{GoesWithin, FunctionsAreKnown}
use Rattle.lowered_labels.proofs.lemmas.Counting.{times_append, marks_append}
use Rattle.c_tests_agree.specs.Tested.{AreMarkedOnce}

-- ---- the roots of a block

no_label : (o : Op) (x : Sym) → IsNoLabel o → label_by o x ≡ None
no_label op.Label x h = absurd h
no_label o x h = refl

named_roots : (k : ℕ) (es : List Entry) (n : ℕ) → AreNamed k es → AreEntries (λ m x. Unit {0}) (λ x. label_by x.operator.op x.sym ≡ None) es n
named_roots k [] n h = tt
named_roots k (Value x ∷ es) n h = (tt, named_roots k es (suc n) h.1)
named_roots k (Root x ∷ es) n h = (no_label x.operator.op x.sym h.0.0, named_roots k es n h.1)

not_that : (l : ℕ) (o : Option ℕ) → o ≡ None → o ≡ Some l → ⊥
not_that l o e f = let never : ⊥ = cc in never

tree_label : (ts : ℕ → Node) (h : Head) (k : Kids) → label_of (tree_by ts h k) ≡ label_by h.operator.op h.sym
tree_label ts h Zero = refl
tree_label ts h (One a) = refl
tree_label ts h (Two a c) = refl

store_label : (k : Kind) (offset : _) (t : Node) → label_of (slot_store k offset t) ≡ None
store_label Char offset t = refl
store_label Short offset t = refl
store_label Signed offset t = refl
store_label Unsigned offset t = refl
store_label Address offset t = refl

-- no temporary's store is a label
abbrev StoreNoLabels : Keeps → Type 0
StoreNoLabels keeps = (n : ℕ) (t : Temporary) → keeps n ≡ Some t → (u : Node) → label_of (t.store u) ≡ None

module _ (l : ℕ) (keeps : Keeps) (stores : StoreNoLabels keeps) where
  emitted_lacks : (n : ℕ) (u : Node) (go : Node → List Node) → ((t : Node) → Lacks l (go t)) → (o : Option Temporary) → keeps n ≡ o → Lacks l (emitted o u go)
  emitted_lacks n u go h None e = h u
  emitted_lacks n u go h (Some t) e = (not_that l (label_of (t.store u)) (stores n t e u), h t.read)

  emit_lacks : (as' : List Act) → AreActs (λ m x. Unit {0}) (λ x. label_by x.operator.op x.sym ≡ None) as' → (ts : ℕ → Node) → Lacks l (emit keeps as' ts [])
  emit_lacks [] h ts = tt
  emit_lacks (Made n x ∷ as') h ts = emitted_lacks n (tree_at ts x) (λ t. emit keeps as' (at ts n t) []) (λ t. emit_lacks as' h.1 (at ts n t)) (keeps n) refl
  emit_lacks (Acts x ∷ as') h ts = (not_that l (label_of (tree_at ts x)) (tree_label ts (head_of x) x.kids ∙ h.0), emit_lacks as' h.1 ts)

same_temporary : {s t : Temporary} → Some s ≡ Some t → s ≡ t
same_temporary e = cc

block_stores : (order : Order) (home : Home) (before : List Slot) (es : List Entry) → StoreNoLabels (keeps_of order home before es)
block_stores order home before es n t e u = by (room_of es n) e
  where
    by : (r : Option Room) → kept_by (temporary_of order home before) r ≡ Some t → label_of (t.store u) ≡ None
    by None f = absurd (let never : ⊥ = cc in never)
    by (Some r) f = subst (λ (z : Temporary). label_of (z.store u) ≡ None) (same_temporary f) (store_label r.kind _ u)

lacks_both : (l : ℕ) (ts us : List Node) → Lacks l ts → Lacks l us → Lacks l (ts ++ us)
lacks_both l [] us h g = g
lacks_both l (t ∷ ts) us h g = (h.0, lacks_both l ts us h.1 g)

block_lacks : (order : Order) (home : Home) (l k : ℕ) (before : List Slot) (es : List Entry) → AreNamed k es → Lacks l (roots_of order home (OfBlock before es ∷ []))
block_lacks order home l k before es h = emit_lacks l (keeps_of order home before es) (block_stores order home before es) (acts_of es) (acts_are (λ m x. Unit {0}) (λ x. label_by x.operator.op x.sym ≡ None) es (named_roots k es 0 h)) (λ m. no_tree)

-- ---- pieces

other_label : (l m : ℕ) → same l m ≡ 0 → Some m ≡ Some l → ⊥
other_label l m e f = let is : m ≡ l = cc in let one : same l l ≡ 1 = ap (λ (b : Bool). if b then 1 else 0) (eq-eqb l l refl) in let here : same l l ≡ 0 = subst (λ (z : ℕ). same l z ≡ 0) is e in omega (arith, one, here)

pieces_lack : (order : Order) (home : Home) (l k : ℕ) (ps qs : List Piece) → AreKnown k (ps ++ qs) → times l (marks_of ps) ≡ 0 → Lacks l (roots_of order home ps)
pieces_lack order home l k [] qs h e = tt
pieces_lack order home l k (OfBlock before es ∷ ps) qs h e =
    subst (Lacks l) (sym (roots_append order home (OfBlock before es ∷ []) ps))
    (lacks_both l (roots_of order home (OfBlock before es ∷ [])) (roots_of order home ps) (block_lacks order home l k before es h.0.1) (pieces_lack order home l k ps qs h.1 e))
pieces_lack order home l k (Mark m ∷ ps) qs h e = (other_label l m (let f = e in omega (arith, f)), pieces_lack order home l k ps qs h.1 (let f = e in omega (arith, f)))

below_one : (k n : ℕ) → below k n ≤ 1
below_one k n = by (nat_lt n k)
  where
    by : (b : Bool) → (if b then 1 else 0) ≤ 1
    by true = omega arith
    by false = omega arith

-- before a mark there is none where it stands once
before_none : (n : ℕ) (ps qs : List Piece) → times n (marks_of (ps ++ Mark n ∷ qs)) ≤ 1 → times n (marks_of ps) ≡ 0
before_none n ps qs le =
    let e = ap (times n) (marks_append ps (Mark n ∷ qs)) ∙ times_append n (marks_of ps) (marks_of (Mark n ∷ qs)) in
    let one : same n n ≡ 1 = ap (λ (b : Bool). if b then 1 else 0) (eq-eqb n n refl) in
    let all : times n (marks_of (ps ++ Mark n ∷ qs)) ≡ times n (marks_of ps) + (same n n + times n (marks_of qs)) = e in
    omega (arith, le, all, one)

pub marked_once : FunctionsMark → FunctionsAreKnown → (g : BodyRun) (u : UnitTree) (order : Order) (number tables : ℕ) (f : FunctionTree) → g.pieces ≡ (low_f u order number tables f).low.pieces → are_apart (labels f.body) ≡ true
    → GoesWithin (function_in u order number tables f) false false f.body → AreMarkedOnce g
marked_once mark known g u order number tables f is apart within done rest n e =
    let low = (low_f u order number tables f).low in
    let here : done ++ Mark n ∷ rest ≡ low.pieces = sym e ∙ is in
    let few : times n (marks_of low.pieces) ≤ 1 = (let a = mark u order number tables f apart n in let b = below_one low.labels n in omega (arith, a, b)) in
    pieces_lack g.setting.environment.order g.setting.environment.home n low.labels done (Mark n ∷ rest)
    (subst (AreKnown low.labels) (sym here) (known u order number tables f within).pieces)
    (before_none n done rest (subst (λ (ps : List Piece). times n (marks_of ps) ≤ 1) (sym here) few))
