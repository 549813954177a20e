-- In the body of a checked function each label is marked once.
use Rattle.std.specs.Prelude.{◌≡◌, ◌<◌, ◌≤◌, ℕ, zero, suc, ◌+◌, ◌==◌, nat_lt, not, ◌&&◌, ◌||◌, Bool, true, false, List, [], ◌∷◌, length, map, take, if◌then◌else◌}
use Rattle.std.proofs.Common.{⊎_elim, refl, ap, sym, ◌∙◌, arith}
use Rattle.std.proofs.lemmas.Bool.{lt-ltb, le-ltb, ltb-true, ltb-false}
use Rattle.std.proofs.lemmas.Bool.Decides.{eqb_tells}
use Rattle.lcc_base.specs.declared.order.Order.{Order}
use Rattle.c_types.specs.CType.{CType}
use Rattle.c_meaning.specs.Units.{FunctionTree, UnitTree, are_apart, is_among, labels}
use Rattle.lowered_forms.specs.Lows.{Low, ended}
use Rattle.lowered_statements.specs.Bodies.{with_low}
use Rattle.lowered_statements.specs.FunctionBodies.{function_in, parameter_stored, parameters_stored, begun, no_exits, low_f}
use Rattle.lowered_statements.specs.Functions.{Function, place_in}
use Rattle.lowered_statements.specs.Layouts.{is_narrow, first_word, layout}
use Rattle.lowered_statements.specs.Returns.{end_by}
use Rattle.lowered_statements.specs.Statements.{low_s}
use Rattle.lowered_labels.specs.Marks.{same, times, below, Marks, marked_times, used_times, own_marks}
use Rattle.lowered_labels.proofs.lemmas.Counting.{marks_same, marks_on, marks_behind, marks_before, marks_ended}
use Rattle.lowered_labels.proofs.lemmas.StatementMarks.{statement_marks}

-- ---- numbers that are the same, or below others

same_yes : (n m : ℕ) → n ≡ m → same n m ≡ 1
same_yes n m e = ⊎_elim (λ x. ap (λ (b : Bool). if b then 1 else 0) x.0) (λ x. absurd (x.1 e)) (eqb_tells n m)

same_no : (n m : ℕ) → (n ≡ m → ⊥) → same n m ≡ 0
same_no n m e = ⊎_elim (λ x. absurd (e x.1)) (λ x. ap (λ (b : Bool). if b then 1 else 0) x.0) (eqb_tells n m)

same_suc : (n m : ℕ) → same (suc n) (suc m) ≡ same n m
same_suc n m =
    ⊎_elim
    (λ x. same_yes (suc n) (suc m) (ap suc x.1) ∙ sym (same_yes n m x.1))
    (λ x. same_no (suc n) (suc m) (λ e. x.1 (omega (arith, e))) ∙ sym (same_no n m x.1))
    (eqb_tells n m)

below_yes : (k n : ℕ) → n < k → below k n ≡ 1
below_yes k n h = ap (λ (b : Bool). if b then 1 else 0) (lt-ltb n k h)

below_no : (k n : ℕ) → k ≤ n → below k n ≡ 0
below_no k n h = ap (λ (b : Bool). if b then 1 else 0) (le-ltb n k h)

below_suc : (k n : ℕ) → below (suc k) (suc n) ≡ below k n
below_suc k n = by (nat_lt n k) refl
  where
    by : (b : Bool) → nat_lt n k ≡ b → below (suc k) (suc n) ≡ below k n
    by true e = let lt = ltb-true n k e in below_yes (suc k) (suc n) (omega (arith, lt)) ∙ sym (below_yes k n lt)
    by false e = let le = ltb-false n k e in below_no (suc k) (suc n) (omega (arith, le)) ∙ sym (below_no k n le)

-- ---- the places of the labels of a list

times_suc : (n : ℕ) (ms : List ℕ) → times (suc n) (map suc ms) ≡ times n ms
times_suc n [] = refl
times_suc n (m ∷ ms) = let e = same_suc n m in let f = times_suc n ms in omega (arith, e, f)

times_zero : (ms : List ℕ) → times 0 (map suc ms) ≡ 0
times_zero [] = refl
times_zero (m ∷ ms) = let e = same_no 0 (suc m) (λ x. let never : ⊥ = omega (arith, x) in never) in let f = times_zero ms in omega (arith, e, f)

neither : (a b : Bool) → (a || b) ≡ false → (a ≡ false) × (b ≡ false)
neither true b e = absurd (let never : ⊥ = cc in never)
neither false b e = (refl, e)

both : (a b : Bool) → (not a && b) ≡ true → (a ≡ false) × (b ≡ true)
both true b e = absurd (let never : ⊥ = cc in never)
both false b e = (refl, e)

other_way : (m n : ℕ) → (m == n) ≡ false → (n == m) ≡ false
other_way m n e =
    ⊎_elim
    (λ x. absurd (⊎_elim (λ y. let f = sym y.0 ∙ e in let never : ⊥ = cc in never) (λ y. y.1 (sym x.1)) (eqb_tells m n)))
    (λ x. x.0)
    (eqb_tells n m)

-- behind a label that isn't among them
places_behind : (y : ℕ) (ys zs : List ℕ) → is_among y zs ≡ false → map (λ x. place_in x (y ∷ ys)) zs ≡ map suc (map (λ x. place_in x ys) zs)
places_behind y ys [] h = refl
places_behind y ys (z ∷ zs) h =
    let x = neither (y == z) (is_among y zs) h in
    let first : place_in z (y ∷ ys) ≡ suc (place_in z ys) = ap (λ (b : Bool). if b then 0 else suc (place_in z ys)) (other_way y z x.0) in
    ap (λ (n : ℕ). n ∷ map (λ u. place_in u (y ∷ ys)) zs) first ∙ ap (λ (ns : List ℕ). suc (place_in z ys) ∷ ns) (places_behind y ys zs x.1)

own_place : (y : ℕ) (ys : List ℕ) → place_in y (y ∷ ys) ≡ 0
own_place y ys = ⊎_elim (λ x. ap (λ (b : Bool). if b then 0 else suc (place_in y ys)) x.0) (λ x. absurd (x.1 refl)) (eqb_tells y y)

-- with one more before them
with_first : (ys : List ℕ) → ((n : ℕ) → times n (map (λ m. place_in m ys) ys) ≡ below (length ys) n) → (n : ℕ) → same n 0 + times n (map suc (map (λ m. place_in m ys) ys)) ≡ below (suc (length ys)) n
with_first ys h zero =
    let e = same_yes 0 0 refl in
    let f = times_zero (map (λ m. place_in m ys) ys) in
    let g = below_yes (suc (length ys)) 0 (omega arith) in
    omega (arith, e, f, g)
with_first ys h (suc k) =
    let e = same_no (suc k) 0 (λ x. let never : ⊥ = omega (arith, x) in never) in
    let f = times_suc k (map (λ m. place_in m ys) ys) in
    let g = h k in
    let i = below_suc (length ys) k in
    omega (arith, e, f, g, i)

each_once : (ls : List ℕ) → are_apart ls ≡ true → (n : ℕ) → times n (map (λ m. place_in m ls) ls) ≡ below (length ls) n
each_once [] h n = sym (below_no 0 n (omega arith))
each_once (y ∷ ys) h n =
    let apart = both (is_among y ys) (are_apart ys) h in
    ap (λ (m : ℕ). same n m + times n (map (λ u. place_in u (y ∷ ys)) ys)) (own_place y ys)
    ∙ ap (λ (ms : List ℕ). same n 0 + times n ms) (places_behind y ys ys apart.0)
    ∙ with_first ys (each_once ys apart.1) n

-- ---- the body

parameter_marks : (narrow : Bool) (f : Function) (n word : ℕ) (t : CType) (l : Low) → Marks [] l (parameter_stored narrow f n word t l)
parameter_marks true f n word t l = record { counts = λ m. omega arith }
parameter_marks false f n word t l = marks_same l

parameters_mark : (f : Function) (n word : ℕ) (ts : List CType) (l : Low) → Marks [] l (parameters_stored f n word ts l)
parameters_mark f n word [] l = marks_same l
parameters_mark f n word (t ∷ ts) l =
    let narrow = is_narrow f.context.unit.tags t in
    marks_on l (parameter_stored narrow f n word t l) _ (parameter_marks narrow f n word t l) (parameters_mark f (suc n) (suc word) ts (parameter_stored narrow f n word t l))

end_marks : (gives : Bool) (l : Low) → Marks [] l (end_by gives l)
end_marks true l = record { counts = λ m. omega arith }
end_marks false l = marks_same l

body_marks : (u : UnitTree) (order : Order) (number tables : ℕ) (f : FunctionTree)
    → Marks (own_marks (function_in u order number tables f) f.body) (begun (function_in u order number tables f) (layout u.tags f)).low (low_f u order number tables f).low
body_marks u order number tables f =
    let g = function_in u order number tables f in
    let b = begun g (layout u.tags f) in
    let l1 = parameters_stored g 0 (first_word f) (take f.parameters f.locals) b.low in
    let b2 = low_s g no_exits f.body (with_low l1 b) in
    let l3 = end_by g.gives_zero b2.low in
    marks_behind (own_marks g f.body) b.low l1 (ended l3) (parameters_mark g 0 (first_word f) (take f.parameters f.locals) b.low)
    (marks_before (own_marks g f.body) l1 b2.low (ended l3) (statement_marks g no_exits f.body (with_low l1 b)) (marks_on b2.low l3 (ended l3) (end_marks g.gives_zero b2.low) (marks_ended l3)))

pub functions_mark : (u : UnitTree) (order : Order) (number tables : ℕ) (f : FunctionTree) → are_apart (labels f.body) ≡ true
    → (n : ℕ) → marked_times n (low_f u order number tables f).low ≡ used_times n (low_f u order number tables f).low
functions_mark u order number tables f apart n =
    let e = (body_marks u order number tables f).counts n in
    let g = each_once (labels f.body) apart n in
    let goal : marked_times n (low_f u order number tables f).low + below (length (labels f.body)) n ≡ 0 + used_times n (low_f u order number tables f).low + times n (map (λ m. place_in m (labels f.body)) (labels f.body)) = e in
    omega (arith, goal, g)
