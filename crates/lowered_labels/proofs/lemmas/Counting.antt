-- How often labels stand in pieces, step by step.
use Rattle.std.specs.Prelude.{◌≡◌, ℕ, suc, ◌+◌, ◌==◌, nat_lt, Bool, true, false, None, List, [], ◌∷◌, ◌++◌, if◌then◌else◌}
use Rattle.std.proofs.Common.{⊎_elim, refl, ap, sym as back, ◌∙◌, arith}
use Rattle.std.proofs.lemmas.Bool.{ltb-true, ltb-false}
use Rattle.std.proofs.lemmas.Bool.Decides.{eqb_tells}
use Rattle.op_forest.specs.declared.op.Op.TheVariants as op
use Rattle.op_forest.specs.declared.suffix.Suffix.TheVariants.{P, V}
use Rattle.op_forest.specs.declared.sym.Sym.TheVariants as sym
use Rattle.c_rows_agree.specs.Templates.{Leaf}
use Rattle.c_rows_agree.specs.Typed.{head, head_with}
use Rattle.piece_runs.specs.Pieces.{Piece, OfBlock, Mark}
use Rattle.lowered_forms.specs.Lows.{Low, acted_one, ended, jumped, marked, with_label}
use Rattle.lowered_labels.specs.Marks.{marks_of, same, times, below, marked_times, used_times, Marks}

-- ---- lists

pub times_append : (n : ℕ) (xs ys : List ℕ) → times n (xs ++ ys) ≡ times n xs + times n ys
times_append n [] ys = omega arith
times_append n (x ∷ xs) ys = let e = times_append n xs ys in omega (arith, e)

pub marks_append : (ps qs : List Piece) → marks_of (ps ++ qs) ≡ marks_of ps ++ marks_of qs
marks_append [] qs = refl
marks_append (OfBlock before es ∷ ps) qs = marks_append ps qs
marks_append (Mark n ∷ ps) qs = ap (λ (ms : List ℕ). n ∷ ms) (marks_append ps qs)

-- ---- one label

one_more : (b c d : Bool) (k n : ℕ) → nat_lt n (suc k) ≡ b → nat_lt n k ≡ c → (n == k) ≡ d → (if b then 1 else 0) ≡ (if c then 1 else 0) + (if d then 1 else 0)
one_more true true false k n e f g = refl
one_more true false true k n e f g = refl
one_more false false false k n e f g = refl
one_more true true true k n e f g = let lt = ltb-true n k f in let is = equal k n g in absurd (let never : ⊥ = omega (arith, lt, is) in never)
  where
    equal : (k n : ℕ) → (n == k) ≡ true → n ≡ k
    equal k n e = ⊎_elim (λ x. x.1) (λ x. absurd (let f = back x.0 ∙ e in let never : ⊥ = cc in never)) (eqb_tells n k)
one_more true false false k n e f g = let lt = ltb-true n (suc k) e in let le = ltb-false n k f in let ne = unequal k n g in absurd (ne (omega (arith, lt, le)))
  where
    unequal : (k n : ℕ) → (n == k) ≡ false → n ≡ k → ⊥
    unequal k n e is = ⊎_elim (λ x. let f = back x.0 ∙ e in let never : ⊥ = cc in never) (λ x. x.1 is) (eqb_tells n k)
one_more false true d k n e f g = let le = ltb-false n (suc k) e in let lt = ltb-true n k f in absurd (let never : ⊥ = omega (arith, le, lt) in never)
one_more false false true k n e f g = let le = ltb-false n (suc k) e in let is = equal k n g in absurd (let never : ⊥ = omega (arith, le, is) in never)
  where
    equal : (k n : ℕ) → (n == k) ≡ true → n ≡ k
    equal k n e = ⊎_elim (λ x. x.1) (λ x. absurd (let f = back x.0 ∙ e in let never : ⊥ = cc in never)) (eqb_tells n k)

pub below_more : (k n : ℕ) → below (suc k) n ≡ below k n + same n k
below_more k n = one_more (nat_lt n (suc k)) (nat_lt n k) (n == k) k n refl refl refl

-- ---- steps

pub label_counts : (n : ℕ) (l : Low) → used_times n (with_label l) ≡ used_times n l + same n l.labels
label_counts n l = below_more l.labels n

pub end_counts : (n : ℕ) (l : Low) → marked_times n (ended l) ≡ marked_times n l
end_counts n l =
    let block = OfBlock l.slots l.entries ∷ [] in
    let e = ap (times n) (marks_append l.pieces block) ∙ times_append n (marks_of l.pieces) (marks_of block) in
    omega (arith, e)

pub mark_counts : (m n : ℕ) (l : Low) → marked_times n (marked m l) ≡ marked_times n l + same n m
mark_counts m n l =
    let mark = Mark m ∷ [] in
    let e = ap (times n) (marks_append (ended l).pieces mark) ∙ times_append n (marks_of (ended l).pieces) (marks_of mark) in
    let f = end_counts n l in
    omega (arith, e, f)

-- ---- states

pub marks_same : (l : Low) → Marks [] l l
marks_same l = record { counts = λ n. omega arith }

pub marks_on : (a b d : Low) → Marks [] a b → Marks [] b d → Marks [] a d
marks_on a b d x y = record { counts = λ n. let e = x.counts n in let f = y.counts n in omega (arith, e, f) }

pub marks_join : (xs ys : List ℕ) (a b d : Low) → Marks xs a b → Marks ys b d → Marks (xs ++ ys) a d
marks_join xs ys a b d x y = record { counts = λ n. let e = x.counts n in let f = y.counts n in let g = times_append n xs ys in omega (arith, e, f, g) }

-- one before, or behind, that marks no other labels
pub marks_behind : (own : List ℕ) (a b d : Low) → Marks [] a b → Marks own b d → Marks own a d
marks_behind own a b d x y = record { counts = λ n. let e = x.counts n in let f = y.counts n in omega (arith, e, f) }

pub marks_before : (own : List ℕ) (a b d : Low) → Marks own a b → Marks [] b d → Marks own a d
marks_before own a b d x y = record { counts = λ n. let e = x.counts n in let f = y.counts n in omega (arith, e, f) }

pub marks_ended : (l : Low) → Marks [] l (ended l)
marks_ended l = record { counts = λ n. let e = end_counts n l in omega (arith, e) }

pub marks_jumped : (n : ℕ) (l : Low) → Marks [] l (jumped n l)
marks_jumped n l = record { counts = (marks_ended (acted_one (head op.Jump V) (Leaf (head_with op.Addrg P (sym.Label n) None)) l)).counts }

-- a label is new, and is marked behind what keeps it
pub marks_past : (own : List ℕ) (l m : Low) → Marks own (with_label l) m → Marks own l (marked l.labels m)
marks_past own l m h = record { counts = λ n. let e = h.counts n in let f = label_counts n l in let g = mark_counts l.labels n m in omega (arith, e, f, g) }
