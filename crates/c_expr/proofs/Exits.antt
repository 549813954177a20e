-- What readers give at a limit, and why nothing is read where a part of it isn't.
use Rattle.std.proofs.Common.{◌≡◌, ◌≤◌, ◌-◌, ◌==◌, if◌then◌else◌, ℕ, zero, suc, nat_le, Bool, true, false, Option, None, Some, Result, Ok, Err, IfErr, IsErrAnd, refl, sym, subst, ap, inl, inr, arith}
use native.Mathlib.Numerals.{unary_clauses}
use Rattle.std.proofs.lemmas.Bool.Decides.{nat_tests}
use Rattle.c_ast.specs.Trees.{ExprTree}
use Rattle.c_ast.specs.Heights.{height}
use Rattle.c_ast.specs.Marks.{IsSign, IsSpecifier}
use Rattle.c_ast.specs.declared.operator.PrefixOperator.{PrefixOperator}
use Rattle.c_readings.specs.Reading.{State, Read, answer, beyond, bind, one_sign}
use Rattle.c_readings.specs.Readers.{readers, cast, enclosed, prefixed_by, signed_by, type_name, piece_above, whole_above, declarator_above, member_above}
use Rattle.c_readings.specs.Words.{prefix_of}
use Rattle.c_expr.specs.declared.stop.Stop.{Stop}
use Rattle.c_expr.specs.Answers.{Fails}

-- a reading fails where one on which it rests fails
pub err : {A B : Type 0} {e : Stop} {o : Read A} {p : Read B} → Fails e o → (o ≡ None → p ≡ None) → Fails e p
err (inl m) f = inl m
err (inr z) f = inr (f z)

-- whatever was answered, nothing can be read
pub if_err : {A V : Type 0} {o : Read A} (r : Result V Stop) → o ≡ None → IfErr r (λ e. Fails e o)
if_err (Ok v) h = tt
if_err (Err e) h = inr h

-- what a call answers is passed on
pub passed : {A V : Type 0} {o : Read A} {e : Stop} (r : Result V Stop) → IsErrAnd r (λ d. d ≡ e) → Fails e o → IfErr r (λ d. Fails d o)
passed (Ok v) h f = tt
passed {A} {V} {o} (Err d) h f = subst (λ x. Fails x o) (sym h) f

-- ---- at the limit 0 nothing is read that counts in a height

pub no_piece : (n level : ℕ) (s : State) → n ≡ 0 → (readers n).piece level s ≡ None
unfolding readers
no_piece zero level s h = refl
no_piece (suc n) level s h = absurd cc

pub no_declarator : (n : ℕ) (free outer : Bool) (s : State) → n ≡ 0 → (readers n).declarator free outer s ≡ None
unfolding readers
no_declarator zero free outer s h = refl
no_declarator (suc n) free outer s h = absurd cc

pub no_member : (n : ℕ) (s : State) → n ≡ 0 → (readers n).member s ≡ None
unfolding readers
no_member zero s h = refl
no_member (suc n) s h = absurd cc

either_none : {A : Type 0} (b : Bool) (o p : Read A) → o ≡ None → p ≡ None → (if b then o else p) ≡ None
either_none true o p e f = e
either_none false o p e f = f

no_enclosed : (line : ℕ) (s : State) → enclosed (readers 0) line s ≡ None
unfolding readers enclosed
no_enclosed line s = refl

none_behind : {A B : Type 0} (o : Read A) (f : State → Read B) → ((t : State) → f t ≡ None) → bind o (λ x t. one_sign 3 t f) ≡ None
none_behind None f h = refl
none_behind (Some p) f h = either_none (answer (IsSign 3) p.1) (f (beyond p.1)) None (h (beyond p.1)) refl

no_cast : (line : ℕ) (s : State) → cast (readers 0) line s ≡ None
unfolding readers cast
no_cast line s = none_behind (type_name (readers 0) s) (λ u. None) (λ u. refl)

no_prefixed : (line : ℕ) (op : Option PrefixOperator) (s : State) → prefixed_by (readers 0) line op s ≡ None
unfolding readers
no_prefixed line None s = refl
no_prefixed line (Some op) s = refl

-- a sign before an operand that can't be read
pub no_signed : (n level line k : ℕ) (s : State) → n ≡ 0 → signed_by (readers n) level line k s ≡ None
no_signed zero level line k s h =
    either_none (k == 2) _ _
    (either_none (answer (IsSpecifier false) s) _ _ (either_none (nat_le level 13) _ _ (no_cast line s) refl) (no_enclosed line s))
    (either_none (nat_le level 14) _ _ (no_prefixed line (prefix_of k) s) refl)
no_signed (suc n) level line k s h = absurd cc

-- ---- at another, what readers one lower give

pub piece_is : (n level : ℕ) (s : State) → 1 ≤ n → (readers n).piece level s ≡ piece_above (readers (n - 1)) level s
unfolding readers
piece_is zero level s h = absurd (omega (arith, h))
piece_is (suc n) level s h = simp unary_clauses refl

pub whole_is : (n : ℕ) (s : State) → 1 ≤ n → (readers n).whole s ≡ whole_above (readers (n - 1)) s
unfolding readers
whole_is zero s h = absurd (omega (arith, h))
whole_is (suc n) s h = simp unary_clauses refl

pub declarator_is : (n : ℕ) (free outer : Bool) (s : State) → 1 ≤ n → (readers n).declarator free outer s ≡ declarator_above (readers (n - 1)) free outer s
unfolding readers
declarator_is zero free outer s h = absurd (omega (arith, h))
declarator_is (suc n) free outer s h = simp unary_clauses refl

pub member_is : (n : ℕ) (s : State) → 1 ≤ n → (readers n).member s ≡ member_above (readers (n - 1)) s
unfolding readers
member_is zero s h = absurd (omega (arith, h))
member_is (suc n) s h = simp unary_clauses refl

-- a whole expression begins with one of level 1
pub no_whole : (n : ℕ) (s : State) → (readers n).piece 1 s ≡ None → (readers n).whole s ≡ None
unfolding readers whole_above
no_whole zero s h = refl
no_whole (suc n) s h = rw h refl

pub whole_alone : (n : ℕ) (s : State) (a : ExprTree) (t : State) → (readers n).piece 1 s ≡ Some (a, t) → answer (IsSign 45) t ≡ false → (readers n).whole s ≡ Some (a, t)
unfolding readers whole_above
whole_alone zero s a t e c = absurd cc
whole_alone (suc n) s a t e c = rw (e, c) refl

-- the limit of the readers up to a limit
pub limit_is : (n : ℕ) → (readers n).limit ≡ n
unfolding readers
limit_is zero = refl
limit_is (suc n) = ap suc (limit_is n)

pub whole_high : (n : ℕ) (s : State) (a : ExprTree) (t : State) → (readers n).piece 1 s ≡ Some (a, t) → answer (IsSign 45) t ≡ true → n ≤ height a → (readers n).whole s ≡ None
unfolding readers whole_above
whole_high zero s a t e c h = absurd cc
whole_high (suc n) s a t e c h =
    let l : nat_le (height a) (readers n).limit ≡ false = grind (arith, nat_tests, limit_is n, h) in
    rw (e, c, l) refl
