-- The tokens that were read, and those behind them.
use Rattle.std.proofs.Common.{◌≡◌, ◌++◌, ℕ, Option, Some, None, Ok, Err, List, [], ◌∷◌, refl, sym, ap, ◌∙◌, subst, append_assoc}
use Rattle.c_lexer.specs.declared.lex_fault.LexFault.{LexFault}
use Rattle.c_lexer.specs.declared.place.Place.{Place}
use Rattle.c_lexer.specs.declared.token.Token.{Token}
use Rattle.c_lexer.specs.Tokens.{first_place, Cuts, AreTokens}

-- these tokens lead to the place, and others from there on stand behind them
abbrev pub Leads : List ℕ → List Token → Place → Type 0
Leads source read p = (ts : List Token) (e : Option LexFault) → AreTokens source p ts e → AreTokens source first_place (read ++ ts) e

pub leads_on : (source src : List ℕ) (read more : List Token) (p q : Place) (o : Option Token) (t : Token) → src ≡ source → o ≡ Some t → Leads source read p → Cuts src p (Ok o) q → more ≡ read ++ t ∷ [] → Leads source more q
leads_on source src read more p q o t e f l c m = λ ts end' a.
    let cut : Cuts source p (Ok (Some t)) q = subst (λ (s : List ℕ). Cuts s p (Ok (Some t)) q) e (subst (λ (x : Option Token). Cuts src p (Ok x) q) f c) in
    let same : read ++ (t ∷ ts) ≡ more ++ ts = sym (ap (λ z. z ++ ts) m ∙ append_assoc read (t ∷ []) ts) in
    subst (λ (z : List Token). AreTokens source first_place z end') same (l (t ∷ ts) end' (q, cut, a))

append_nothing : (xs : List Token) → xs ++ [] ≡ xs
append_nothing [] = refl
append_nothing (x ∷ xs) = ap (λ z. x ∷ z) (append_nothing xs)

-- none is behind them
pub all_read : (source src : List ℕ) (read : List Token) (p q : Place) (o : Option Token) → src ≡ source → o ≡ None → Leads source read p → Cuts src p (Ok o) q → AreTokens source first_place read None
all_read source src read p q o e f l c =
    let cut : Cuts source p (Ok None) q = subst (λ (s : List ℕ). Cuts s p (Ok None) q) e (subst (λ (x : Option Token). Cuts src p (Ok x) q) f c) in
    subst (λ (z : List Token). AreTokens source first_place z None) (append_nothing read) (l [] None (q, cut))

-- a fault is
pub fault_behind : (source src : List ℕ) (read : List Token) (p q : Place) (fault : LexFault) → src ≡ source → Leads source read p → Cuts src p (Err fault) q → (ts : List Token) × AreTokens source first_place ts (Some fault)
fault_behind source src read p q fault e l c = (read ++ [], l [] (Some fault) (q, subst (λ (s : List ℕ). Cuts s p (Err fault) q) e c))
