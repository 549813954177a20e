-- How the parts of a production follow from one another, as lemmas for all readers that are made of such parts.
use Rattle.std.proofs.Common.{◌≡◌, ℕ, true, false, None, Some, Result, Ok, Err, IfErr, IsErrAnd, refl, sym, subst, ap, ◌∙◌, inl, inr, arith}
use Rattle.c_ast.specs.Marks.{IsSign}
use Rattle.c_readings.specs.Reading.{State, Read, answer, beyond, gives, one_sign}
use Rattle.c_expr.specs.State.{MParser}
use Rattle.c_expr.specs.declared.syntax_fault.SyntaxFault.{SyntaxFault}
use Rattle.c_decl.specs.Going.{Goes, Fails}

-- a reading fails where one on which it rests fails
pub err : {A B : Type 0} {e : SyntaxFault} {o : Read A} {p : Read B} → Fails e o → (o ≡ None → p ≡ None) → Fails e p
err (inl m) f = inl m
err (inr z) f = inr (f z)

-- whatever was answered, nothing can be read
pub if_err : {A V : Type 0} {o : Read A} (r : Result V SyntaxFault) → o ≡ None → IfErr r (λ e. Fails e o)
if_err (Ok v) h = tt
if_err (Err e) h = inr h

-- what a call answers is passed on
pub passed : {A V : Type 0} {o : Read A} {e : SyntaxFault} (r : Result V SyntaxFault) → IsErrAnd r (λ d. d ≡ e) → Fails e o → IfErr r (λ d. Fails d o)
passed (Ok v) h f = tt
passed {A} {V} {o} (Err d) h f = subst (λ x. Fails x o) (sym h) f

-- one step behind another
pub goes_then : (n m : ℕ) (p q r : MParser) → Goes n p q → Goes m q r → Goes n p r
goes_then n m p q r g h = (h.0, h.1 ∙ g.1, h.2 ∙ g.2, omega (arith, g.3, h.3), omega (arith, g.4, h.4))

-- ---- a sign at the end

pub no_sign : {A : Type 0} (k : ℕ) (s t : State) (x : A) → t ≡ s → answer (IsSign k) t ≡ false → one_sign k s (λ v. gives x v) ≡ None
no_sign k s t x e h = let a : answer (IsSign k) s ≡ false = ap (answer (IsSign k)) (sym e) ∙ h in rw a refl

pub some_sign : {A : Type 0} (k : ℕ) (s t u : State) (x : A) → t ≡ s → answer (IsSign k) t ≡ true → u ≡ beyond t → one_sign k s (λ v. gives x v) ≡ Some (x, u)
some_sign k s t u x e h f =
    let a : answer (IsSign k) s ≡ true = ap (answer (IsSign k)) (sym e) ∙ h in
    let b : u ≡ beyond s = f ∙ ap beyond e in
    rw (a, b) refl
