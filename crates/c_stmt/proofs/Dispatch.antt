-- Which statement is next, as the first tokens tell.
use Rattle.std.proofs.Common.{◌≡◌, ◌≤◌, ◌-◌, ℕ, zero, suc, true, false, None, Some, Result, Ok, Err, IfOk, IfErr, refl, ◌∙◌, arith}
use native.Mathlib.Numerals.{unary_clauses}
use Rattle.c_ast.specs.Marks.{IsLabel, IsSign}
use Rattle.c_ast.specs.Trees.{Compound}
use Rattle.c_expr.specs.declared.syntax_fault.SyntaxFault.{SyntaxFault}
use Rattle.c_decl.specs.Going.{Fails}
use Rattle.c_decl.proofs.lemmas.GoingLaws.{err}
use Rattle.c_readings.specs.Reading.{State, Read, answer, beyond, bind, gives, here, open_state}
use Rattle.c_readings.specs.Readers.{Readers}
use Rattle.c_readings.specs.StatementReaders.{StatementWord, word_at, statement, statement_above, labelled, by_word, compound, block_inside, evaluate}

module _ (R : ℕ → Readers) where
  pub label_next : (n : ℕ) (s : State) → 1 ≤ n → answer IsLabel s ≡ true → statement R n s ≡ labelled (statement R (n - 1)) s
  unfolding statement statement_above
  label_next zero s w h = absurd (omega (arith, w))
  label_next (suc n) s w h = simp unary_clauses (rw h refl)

  pub word_next : (n : ℕ) (s : State) (x : StatementWord) → 1 ≤ n → answer IsLabel s ≡ false → word_at s.rest ≡ Some x → statement R n s ≡ by_word R (n - 1) (statement R (n - 1)) (here s) x (beyond s)
  unfolding statement statement_above
  word_next zero s x w h k = absurd (omega (arith, w))
  word_next (suc n) s x w h k = simp unary_clauses (rw (h, k) refl)

  pub brace_next : (n : ℕ) (s : State) → 1 ≤ n → answer IsLabel s ≡ false → word_at s.rest ≡ None → answer (IsSign 4) s ≡ true → statement R n s ≡ bind (block_inside R (n - 1) (statement R (n - 1)) (here s) (open_state (beyond s))) (λ b t. gives (Compound (here s) b) t)
  unfolding statement statement_above compound
  brace_next zero s w h k i = absurd (omega (arith, w))
  brace_next (suc n) s w h k i = simp unary_clauses (rw (h, k, i) refl)

  pub expression_next : (n : ℕ) (s : State) → 1 ≤ n → answer IsLabel s ≡ false → word_at s.rest ≡ None → answer (IsSign 4) s ≡ false → statement R n s ≡ evaluate R (n - 1) s
  unfolding statement statement_above
  expression_next zero s w h k i = absurd (omega (arith, w))
  expression_next (suc n) s w h k i = simp unary_clauses (rw (h, k, i) refl)

-- what is read by one reader is read by another that gives the same

pub ok_by : {A V : Type 0} {o p : Read A} (f : V → A × State) → o ≡ p → (r : Result V SyntaxFault) → IfOk r (λ v. p ≡ Some (f v)) → IfOk r (λ v. o ≡ Some (f v))
ok_by f e (Ok v) h = e ∙ h
ok_by f e (Err d) h = tt

pub none_by : {A V : Type 0} {o p : Read A} → o ≡ p → (r : Result V SyntaxFault) → IfErr r (λ d. Fails d p) → IfErr r (λ d. Fails d o)
none_by e (Ok v) h = tt
none_by e (Err d) h = err h (λ z. e ∙ z)
