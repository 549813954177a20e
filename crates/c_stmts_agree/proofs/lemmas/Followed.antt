-- Behind each label of a lowered function a block begins, and each of the function's labels stands in its body.
use Rattle.std.specs.Prelude.{◌≡◌, ◌≤◌, ◌<◌, ℕ, ◌+◌, nat_lt, Bool, true, false, List, [], ◌∷◌, ◌++◌, length, if◌then◌else◌}
use Rattle.std.proofs.Common.{⊎_elim, refl, sym, ap, subst, ◌∙◌, arith, append_assoc}
use Rattle.std.proofs.lemmas.Bool.Decides.{eqb_tells}
use Rattle.std.proofs.lemmas.Bool.{ltb-false}
use Rattle.lcc_base.specs.declared.order.Order.{Order}
use Rattle.op_forest.specs.declared.frame.Slot.{Slot}
use Rattle.dag_forest.specs.declared.entry.Entry.{Entry}
use Rattle.c_meaning.specs.Units.{FunctionTree, UnitTree, are_apart, labels}
use Rattle.piece_runs.specs.Pieces.{Piece, OfBlock, Mark}
use Rattle.c_expr_agreement.specs.Scenes.{Scene}
use Rattle.lowered_forms.proofs.lemmas.Fronts.{front_itself}
use Rattle.lowered_statements.specs.FunctionBodies.{low_f}
use Rattle.lowered_statements.specs.Steps.{BodyRelation, BodySteps}
use Rattle.lowered_statements.proofs.lemmas.Adding.{functions_add}
use Rattle.lowered_statements.proofs.lemmas.Induction.{function_steps}
use Rattle.lowered_labels.specs.Marks.{marks_of, same, times, below, FunctionsMark}
use Rattle.c_tests_agree.specs.Tested.{Label}

-- ---- behind a label

abbrev BeginsBlock : List Piece → Type 0
BeginsBlock [] = Unit {0}
BeginsBlock (OfBlock before es ∷ ps) = Unit {0}
BeginsBlock (Mark n ∷ ps) = ⊥

-- no label stands right behind another one
abbrev AreFollowed : List Piece → Type 0
AreFollowed [] = Unit {0}
AreFollowed (OfBlock before es ∷ ps) = AreFollowed ps
AreFollowed (Mark n ∷ ps) = BeginsBlock ps × AreFollowed ps

begins_more : (ps qs : List Piece) → BeginsBlock ps → BeginsBlock qs → BeginsBlock (ps ++ qs)
begins_more [] qs h g = g
begins_more (OfBlock before es ∷ ps) qs h g = tt
begins_more (Mark n ∷ ps) qs h g = h

followed_more : (ps qs : List Piece) → AreFollowed ps → BeginsBlock qs → AreFollowed qs → AreFollowed (ps ++ qs)
followed_more [] qs h g f = f
followed_more (OfBlock before es ∷ ps) qs h g f = followed_more ps qs h g f
followed_more (Mark n ∷ ps) qs h g f = (begins_more ps qs h.0 g, followed_more ps qs h.1 g f)

abbrev stay_followed : BodyRelation
stay_followed a b = AreFollowed a.low.pieces → AreFollowed b.low.pieces

followed_steps : BodySteps stay_followed
followed_steps = record {
  same = λ b h. h;
  joins = λ a b c x y h. y (x h);
  asks = λ t b h. h;
  acts = λ r b h. h;
  acts_one = λ g t b h. h;
  returns = λ b h. h;
  slot = λ b h. h;
  ends = λ b h. followed_more b.low.pieces (OfBlock b.low.slots b.low.entries ∷ []) h tt tt;
  marks = λ n b h. subst AreFollowed (sym (append_assoc b.low.pieces (OfBlock b.low.slots b.low.entries ∷ []) (Mark n ∷ []))) (followed_more b.low.pieces (OfBlock b.low.slots b.low.entries ∷ Mark n ∷ []) h tt (tt, tt));
  label = λ b h. h;
  table = λ labels b h. h;
}

function_followed : (u : UnitTree) (order : Order) (number tables : ℕ) (f : FunctionTree) → AreFollowed (low_f u order number tables f).low.pieces
function_followed u order number tables f = function_steps stay_followed followed_steps u order number tables f tt

-- the last piece is a block
pub record EndsWithBlock (ps : List Piece) : Type 0 where
  pub done : List Piece
  pub before : List Slot
  pub entries : List Entry
  pub is : ps ≡ done ++ OfBlock before entries ∷ []

not_last : (ps done : List Piece) (n : ℕ) (before : List Slot) (es : List Entry) → ps ++ Mark n ∷ [] ≡ done ++ OfBlock before es ∷ [] → ⊥
not_last [] [] n before es e = let never : ⊥ = cc in never
not_last [] (q ∷ done) n before es e = no_more done (rest_of e)
  where
    rest_of : {a b : Piece} {xs ys : List Piece} → (a ∷ xs) ≡ (b ∷ ys) → xs ≡ ys
    rest_of f = cc

    no_more : (qs : List Piece) → [] ≡ qs ++ OfBlock before es ∷ [] → ⊥
    no_more [] f = let never : ⊥ = cc in never
    no_more (z ∷ qs) f = let never : ⊥ = cc in never
not_last (a ∷ ps) [] n before es e = no_more ps (rest_of e)
  where
    rest_of : {a b : Piece} {xs ys : List Piece} → (a ∷ xs) ≡ (b ∷ ys) → xs ≡ ys
    rest_of f = cc

    no_more : (qs : List Piece) → qs ++ Mark n ∷ [] ≡ [] → ⊥
    no_more [] f = let never : ⊥ = cc in never
    no_more (z ∷ qs) f = let never : ⊥ = cc in never
not_last (a ∷ ps) (q ∷ done) n before es e = not_last ps done n before es (rest_of e)
  where
    rest_of : {a b : Piece} {xs ys : List Piece} → (a ∷ xs) ≡ (b ∷ ys) → xs ≡ ys
    rest_of f = cc

-- ---- a label that is marked

pub record MarkAt (n : ℕ) (ps : List Piece) : Type 0 where
  pub before : List Piece
  pub rest : List Piece
  pub is : ps ≡ before ++ Mark n ∷ rest

none_there : (n m k : ℕ) → same n m ≡ 0 → 1 ≤ same n m + k → 1 ≤ k
none_there n m k e le = omega (arith, e, le)

mark_at : (n : ℕ) (ps : List Piece) → 1 ≤ times n (marks_of ps) → MarkAt n ps
mark_at n [] le = absurd (let never : ⊥ = omega (arith, le) in never)
mark_at n (OfBlock before es ∷ ps) le = let m = mark_at n ps le in record { before = OfBlock before es ∷ m.before; rest = m.rest; is = ap (λ (qs : List Piece). OfBlock before es ∷ qs) m.is }
mark_at n (Mark k ∷ ps) le = ⊎_elim
    (λ x. record { before = []; rest = ps; is = ap (λ (z : ℕ). Mark z ∷ ps) (sym x.1) })
    (λ x.
    let m = mark_at n ps (none_there n k (times n (marks_of ps)) (ap (λ (b : Bool). if b then 1 else 0) x.0) le) in
    record { before = Mark k ∷ m.before; rest = m.rest; is = ap (λ (qs : List Piece). Mark k ∷ qs) m.is })
    (eqb_tells n k)

followed_at : (n : ℕ) (before rest : List Piece) → AreFollowed (before ++ Mark n ∷ rest) → BeginsBlock rest
followed_at n [] rest h = h.0
followed_at n (OfBlock before es ∷ ps) rest h = followed_at n ps rest h
followed_at n (Mark m ∷ ps) rest h = followed_at n ps rest h.1

module _ (s : Scene) (n : ℕ) where
  label_by : (before rest : List Piece) → s.body.pieces ≡ before ++ Mark n ∷ rest → BeginsBlock rest → EndsWithBlock s.body.pieces → Label s n
  label_by before [] is begins ends = absurd (not_last before ends.done n ends.before ends.entries (sym is ∙ ends.is))
  label_by before (OfBlock slots es ∷ rest) is begins ends = record {
    before = before;
    slots = slots;
    labels = 0;
    front = record { more = es; before = slots; rest = rest; is = is ∙ sym (append_assoc before (Mark n ∷ []) (OfBlock slots es ∷ rest)) };
    split = front_itself slots;
  }
  label_by before (Mark m ∷ rest) is begins ends = absurd begins

abbrev bit : Bool → ℕ
bit b = if b then 1 else 0

one_below : (k n : ℕ) → n < k → below k n ≡ 1
one_below k n lt = by (nat_lt n k) refl
  where
    by : (b : Bool) → nat_lt n k ≡ b → bit b ≡ 1
    by true e = refl
    by false e = absurd (let le = ltb-false n k e in let never : ⊥ = omega (arith, lt, le) in never)

pub labels_stand : FunctionsMark → (s : Scene) (u : UnitTree) (order : Order) (number tables : ℕ) (f : FunctionTree) → s.body.pieces ≡ (low_f u order number tables f).low.pieces → are_apart (labels f.body) ≡ true → (n : ℕ) → n < length (labels f.body) → Label s n
labels_stand mark s u order number tables f is apart n lt =
    let low = (low_f u order number tables f).low in
    let more = (functions_add u order number tables f).low.labels in
    let once = mark u order number tables f apart n in
    let one = one_below low.labels n (let m = more in omega (arith, lt, m)) in
    let there : 1 ≤ times n (marks_of low.pieces) = omega (arith, once, one) in
    let m = mark_at n low.pieces there in
    label_by s n m.before m.rest (is ∙ m.is) (followed_at n m.before m.rest (subst AreFollowed m.is (function_followed u order number tables f)))
    (subst EndsWithBlock (sym is) (record { done = _; before = _; entries = _; is = refl }))
