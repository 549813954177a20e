-- A source's tokens are one list of lexemes.
use Rattle.std.proofs.Common.{◌≡◌, ◌+◌, ℕ, List, [], ◌∷◌, drop, refl, sym, ap, ◌∙◌}
use Rattle.c_ast.specs.declared.class.Class.{Class}
use Rattle.c_ast.specs.declared.class.Class.TheVariants as class
use Rattle.c_ast.specs.Lexemes.{Lexeme, Text, Placed}
use Rattle.c_lexer.specs.declared.token.Token.{Token}
use Rattle.c_lexer.specs.SourceUnits.{IsLexeme, AreLexemes}
use Rattle.c_lexer.proofs.Values.{one_values}

one_lexeme : (c : Class) (source : List ℕ) (t : Token) (l m : Lexeme) → IsLexeme c source t l → IsLexeme c source t m → l ≡ m
one_lexeme class.Name source t l m h k = h ∙ sym k
one_lexeme (class.Keyword n) source t l m h k = h ∙ sym k
one_lexeme (class.Integer v i) source t l m h k = h ∙ sym k
one_lexeme (class.Character v) source t l m h k = h ∙ sym k
one_lexeme class.Text source t l m h k = h.2 ∙ (ap Text (one_values 34 (drop (t.start + 1) source) h.0 k.0 h.1 k.1) ∙ sym k.2)
one_lexeme (class.Sign n) source t l m h k = h ∙ sym k

same_placed : (p q : Placed) → p.lexeme ≡ q.lexeme → p.line ≡ q.line → p ≡ q
same_placed p q h k =
    let first : Placed = record { lexeme = q.lexeme; line = p.line } in
    let e : p ≡ first = ap (λ (l : Lexeme). record { lexeme = l; line = p.line }) h in
    let f : first ≡ q = ap (λ (n : ℕ). record { lexeme = q.lexeme; line = n }) k in
    e ∙ f

pub one_lexemes : (source : List ℕ) (ts : List Token) (ps qs : List Placed) → AreLexemes source ts ps → AreLexemes source ts qs → ps ≡ qs
one_lexemes source [] [] [] h k = refl
one_lexemes source [] [] (q ∷ qs) h k = absurd k
one_lexemes source [] (p ∷ ps) qs h k = absurd h
one_lexemes source (t ∷ ts) [] qs h k = absurd h
one_lexemes source (t ∷ ts) (p ∷ ps) [] h k = absurd k
one_lexemes source (t ∷ ts) (p ∷ ps) (q ∷ qs) h k =
    let e : p ≡ q = same_placed p q (one_lexeme t.class source t p.lexeme q.lexeme h.0 k.0) (h.1 ∙ sym k.1) in
    let f : ps ≡ qs = one_lexemes source ts ps qs h.2 k.2 in
    cc
