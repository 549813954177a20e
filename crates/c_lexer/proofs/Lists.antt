-- The tokens so far, and those behind them.
use Rattle.std.proofs.Common.{◌≡◌, ◌+◌, ℕ, Option, Some, None, Ok, Err, List, [], ◌∷◌, ◌++◌, length, refl, sym, subst, append_assoc, arith, length-append}
use Rattle.c_lexer.specs.declared.lex_fault.LexFault.{LexFault}
use Rattle.c_lexer.specs.declared.place.Place.{Place}
use Rattle.c_lexer.specs.declared.token.Token.{Token}
use Rattle.c_lexer.specs.Tokens.{Cuts, AreTokens}

-- so many tokens lead from p to q
pub record LeadsTo (source : List ℕ) (p : Place) (count : ℕ) (q : Place) : Type 0 where
  pub tokens : List Token
  pub number : length tokens ≡ count
  pub goes_on : (ts : List Token) (e : Option LexFault) → AreTokens source q ts e → AreTokens source p (tokens ++ ts) e

pub leads_nowhere : (source : List ℕ) (p : Place) → LeadsTo source p 0 p
leads_nowhere source p = record { tokens = []; number = refl; goes_on = λ ts e a. a }

one_more : (source : List ℕ) (p : Place) (count : ℕ) (q : Place) (t : Token) (r : Place) → LeadsTo source p count q → Cuts source q (Ok (Some t)) r → LeadsTo source p (count + 1) r
one_more source p count q t r l c = record {
  tokens = l.tokens ++ t ∷ [];
  number = (let n = l.number in simp length-append (omega arith));
  goes_on = λ ts e a. subst (λ (x : List Token). AreTokens source p x e) (sym (append_assoc l.tokens (t ∷ []) ts)) (l.goes_on (t ∷ ts) e (r, c, a));
}

-- one token more
pub leads_on : (source src : List ℕ) (p : Place) (count : ℕ) (q : Place) (o : Option Token) (t : Token) (r : Place) → src ≡ source → o ≡ Some t → LeadsTo source p count q → Cuts src q (Ok o) r → LeadsTo source p (count + 1) r
leads_on source src p count q o t r e f l c =
    one_more source p count q t r l (subst (λ (s : List ℕ). Cuts s q (Ok (Some t)) r) e (subst (λ (x : Option Token). Cuts src q (Ok x) r) f c))

-- none more
pub ends_well : (source src : List ℕ) (p : Place) (count : ℕ) (q r : Place) (o : Option Token) → src ≡ source → o ≡ None → LeadsTo source p count q → Cuts src q (Ok o) r → (ts : List Token) × AreTokens source p ts None × (length ts ≡ count)
ends_well source src p count q r o e f l c = (
  l.tokens ++ [],
  l.goes_on [] None (r, subst (λ (s : List ℕ). Cuts s q (Ok None) r) e (subst (λ (x : Option Token). Cuts src q (Ok x) r) f c)),
  (let n = l.number in simp length-append (omega arith)),
)

-- a fault
pub ends_badly : (source src : List ℕ) (p : Place) (count : ℕ) (q r : Place) (fault : LexFault) → src ≡ source → LeadsTo source p count q → Cuts src q (Err fault) r → (ts : List Token) × AreTokens source p ts (Some fault) × (length ts ≡ count)
ends_badly source src p count q r fault e l c =
    (l.tokens ++ [], l.goes_on [] (Some fault) (r, subst (λ (s : List ℕ). Cuts s q (Err fault) r) e c), (let n = l.number in simp length-append (omega arith)))
