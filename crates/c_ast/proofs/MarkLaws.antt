-- Marks run where their tokens are there, names are classed as they say, and lines are those of tokens; and only there.
use Rattle.std.proofs.Common.{◌≡◌, ℕ, List, [], ◌∷◌, refl, sym, ap, ◌∙◌, subst}
use Rattle.c_ast.specs.Lexemes.{Lexeme, Name, Placed}
use Rattle.c_ast.specs.InForce.{InForce, put, opened, closed, closed_kept, reopened, forgotten}
use Rattle.c_ast.specs.Marks.{Mark, Tok, Plain, Typed, Here, Ask, Put, Open, Close, Keep, Reopen, Forget, holds, Runs, tokens_of, lexemes}
use Rattle.c_ast.specs.Spell.{Classed, Lined, behind_first}

first_same : {A : Type 0} {a b : A} {xs ys : List A} → a ∷ xs ≡ b ∷ ys → a ≡ b
first_same e = cc

rest_same : {A : Type 0} {a b : A} {xs ys : List A} → a ∷ xs ≡ b ∷ ys → xs ≡ ys
rest_same e = cc

-- a token is taken where it is the first
placed : (l : Lexeme) (ls : List Lexeme) (ts : List Placed) → lexemes ts ≡ l ∷ ls → (line : ℕ) × (rest : List Placed) × (ts ≡ record { lexeme = l; line = line } ∷ rest) × (rest ≡ behind_first ts) × (lexemes rest ≡ ls)
placed l ls [] h = absurd cc
placed l ls (t ∷ ts) h = (t.line, ts, ap (λ k. record { lexeme = k; line = t.line } ∷ ts) (first_same h), refl, rest_same h)

pub to_runs : (ms : List Mark) (names : InForce) (ts : List Placed) → lexemes ts ≡ tokens_of ms → Classed ms names → Lined ms ts → Runs ms names ts
to_runs [] names [] e c l = refl
to_runs [] names (t ∷ ts) e c l = absurd cc
to_runs (Tok x ∷ ms) names ts e c l =
    let p = placed x (tokens_of ms) ts e in
    (p.0, p.1, p.2, to_runs ms names p.1 p.4 c (subst (λ r. Lined ms r) (sym p.3) l))
to_runs (Plain n ∷ ms) names ts e c l =
    let p = placed (Name n) (tokens_of ms) ts e in
    (c.0, p.0, p.1, p.2, to_runs ms names p.1 p.4 c.1 (subst (λ r. Lined ms r) (sym p.3) l))
to_runs (Typed n ∷ ms) names ts e c l =
    let p = placed (Name n) (tokens_of ms) ts e in
    (c.0, p.0, p.1, p.2, to_runs ms names p.1 p.4 c.1 (subst (λ r. Lined ms r) (sym p.3) l))
to_runs (Here x ∷ ms) names ts e c l = (l.0, to_runs ms names ts e c l.1)
to_runs (Ask q b ∷ ms) names ts e c l = (ap (λ ls. holds q names ls) e ∙ c.0, to_runs ms names ts e c.1 l)
to_runs (Put n k ∷ ms) names ts e c l = to_runs ms (put names n k) ts e c l
to_runs (Open ∷ ms) names ts e c l = to_runs ms (opened names) ts e c l
to_runs (Close ∷ ms) names ts e c l = to_runs ms (closed names) ts e c l
to_runs (Keep ∷ ms) names ts e c l = to_runs ms (closed_kept names) ts e c l
to_runs (Reopen ∷ ms) names ts e c l = to_runs ms (reopened names) ts e c l
to_runs (Forget ∷ ms) names ts e c l = to_runs ms (forgotten names) ts e c l

pub run_tokens : (ms : List Mark) (names : InForce) (ts : List Placed) → Runs ms names ts → lexemes ts ≡ tokens_of ms
run_tokens [] names ts h = ap lexemes h
run_tokens (Tok x ∷ ms) names ts h = ap lexemes h.2 ∙ ap (λ ls. x ∷ ls) (run_tokens ms names h.1 h.3)
run_tokens (Plain n ∷ ms) names ts h = ap lexemes h.3 ∙ ap (λ ls. Name n ∷ ls) (run_tokens ms names h.2 h.4)
run_tokens (Typed n ∷ ms) names ts h = ap lexemes h.3 ∙ ap (λ ls. Name n ∷ ls) (run_tokens ms names h.2 h.4)
run_tokens (Here x ∷ ms) names ts h = run_tokens ms names ts h.1
run_tokens (Ask q b ∷ ms) names ts h = run_tokens ms names ts h.1
run_tokens (Put n k ∷ ms) names ts h = run_tokens ms (put names n k) ts h
run_tokens (Open ∷ ms) names ts h = run_tokens ms (opened names) ts h
run_tokens (Close ∷ ms) names ts h = run_tokens ms (closed names) ts h
run_tokens (Keep ∷ ms) names ts h = run_tokens ms (closed_kept names) ts h
run_tokens (Reopen ∷ ms) names ts h = run_tokens ms (reopened names) ts h
run_tokens (Forget ∷ ms) names ts h = run_tokens ms (forgotten names) ts h

pub run_classed : (ms : List Mark) (names : InForce) (ts : List Placed) → Runs ms names ts → Classed ms names
run_classed [] names ts h = tt
run_classed (Tok x ∷ ms) names ts h = run_classed ms names h.1 h.3
run_classed (Plain n ∷ ms) names ts h = (h.0, run_classed ms names h.2 h.4)
run_classed (Typed n ∷ ms) names ts h = (h.0, run_classed ms names h.2 h.4)
run_classed (Here x ∷ ms) names ts h = run_classed ms names ts h.1
run_classed (Ask q b ∷ ms) names ts h = (ap (λ ls. holds q names ls) (sym (run_tokens ms names ts h.1)) ∙ h.0, run_classed ms names ts h.1)
run_classed (Put n k ∷ ms) names ts h = run_classed ms (put names n k) ts h
run_classed (Open ∷ ms) names ts h = run_classed ms (opened names) ts h
run_classed (Close ∷ ms) names ts h = run_classed ms (closed names) ts h
run_classed (Keep ∷ ms) names ts h = run_classed ms (closed_kept names) ts h
run_classed (Reopen ∷ ms) names ts h = run_classed ms (reopened names) ts h
run_classed (Forget ∷ ms) names ts h = run_classed ms (forgotten names) ts h

pub run_lined : (ms : List Mark) (names : InForce) (ts : List Placed) → Runs ms names ts → Lined ms ts
run_lined [] names ts h = tt
run_lined (Tok x ∷ ms) names ts h = subst (λ r. Lined ms (behind_first r)) (sym h.2) (run_lined ms names h.1 h.3)
run_lined (Plain n ∷ ms) names ts h = subst (λ r. Lined ms (behind_first r)) (sym h.3) (run_lined ms names h.2 h.4)
run_lined (Typed n ∷ ms) names ts h = subst (λ r. Lined ms (behind_first r)) (sym h.3) (run_lined ms names h.2 h.4)
run_lined (Here x ∷ ms) names ts h = (h.0, run_lined ms names ts h.1)
run_lined (Ask q b ∷ ms) names ts h = run_lined ms names ts h.1
run_lined (Put n k ∷ ms) names ts h = run_lined ms (put names n k) ts h
run_lined (Open ∷ ms) names ts h = run_lined ms (opened names) ts h
run_lined (Close ∷ ms) names ts h = run_lined ms (closed names) ts h
run_lined (Keep ∷ ms) names ts h = run_lined ms (closed_kept names) ts h
run_lined (Reopen ∷ ms) names ts h = run_lined ms (reopened names) ts h
run_lined (Forget ∷ ms) names ts h = run_lined ms (forgotten names) ts h
