-- How a list in braces ends, and that a typedef name is next.
use Rattle.std.proofs.Common.{◌≡◌, ◌↔◌, Bool, true, false, None, Some, List, ◌∷◌, IsTrue, refl, sym, subst, ap, ◌∙◌}
use Rattle.c_ast.specs.InForce.{is_typedef}
use Rattle.c_ast.specs.Lexemes.{Placed}
use Rattle.c_ast.specs.Marks.{IsSign, IsSpecifier, first_is, is_specifier, lexemes}
use Rattle.c_ast.specs.declared.class.Class.{Class}
use Rattle.c_ast.specs.declared.class.Class.TheVariants as class
use Rattle.c_lexer.specs.declared.token.Token.{Token}
use Rattle.c_lexer.specs.PlacedTokens.{placed_of, lexeme_as}
use Rattle.c_lexer.specs.SourceUnits.{bytes_of}
use Rattle.c_readings.specs.Reading.{State, answer, beyond}
use Rattle.c_expr.specs.Answers.{comma_end}
use Rattle.c_expr.specs.State.{MParser, ahead}
use Rattle.c_decl.proofs.lemmas.GoingLaws.{no_sign, some_sign}

-- `}`, with a comma before it where b says so
pub no_brace : {A : Type 0} (x : A) (s t : State) (b : Bool) → b ≡ answer (IsSign 45) s → (b ≡ true → t ≡ beyond s) → (b ≡ false → t ≡ s) → answer (IsSign 5) t ≡ false → comma_end x s ≡ None
no_brace x s t true e f g h = rw (sym e) (no_sign 5 (beyond s) t (x, true) (f refl) h)
no_brace x s t false e f g h = rw (sym e) (no_sign 5 s t (x, false) (g refl) h)

pub some_brace : {A : Type 0} (x : A) (s t u : State) (b : Bool) → b ≡ answer (IsSign 45) s → (b ≡ true → t ≡ beyond s) → (b ≡ false → t ≡ s) → answer (IsSign 5) t ≡ true → u ≡ beyond t → comma_end x s ≡ Some ((x, b), u)
some_brace x s t u true e f g h k = rw (sym e) (some_sign 5 (beyond s) t u (x, true) (f refl) h k)
some_brace x s t u false e f g h k = rw (sym e) (some_sign 5 s t u (x, false) (g refl) h k)

-- ---- a typedef name is next

both_true : (b c : Bool) → (IsTrue b → c ≡ true) → (c ≡ true → IsTrue b) → b ≡ c
both_true true c f g = sym (f refl)
both_true false true f g = let h : false ≡ true = g refl in absurd cc
both_true false false f g = refl

names_a_type : (p : MParser) (cl : Class) (t : Token) (us : List Placed) (b : Bool) → cl ≡ class.Name → (IsTrue b → is_typedef p.names (bytes_of p.source t) ≡ true) → (is_typedef p.names (bytes_of p.source t) ≡ true → IsTrue b) → b ≡ is_specifier p.names false (lexeme_as cl p.source t)
names_a_type p cl t us b e f g = subst (λ (k : Class). b ≡ is_specifier p.names false (lexeme_as k p.source t)) (sym e) (both_true b (is_typedef p.names (bytes_of p.source t)) f g)

pub typedef_next : (p : MParser) (t : Token) (us : List Placed) (b : Bool) → t.class ≡ class.Name → (ahead p).rest ≡ placed_of p.source t ∷ us → (IsTrue b ↔ ((t.class ≡ class.Name) × (is_typedef p.names (bytes_of p.source t) ≡ true))) → b ≡ answer (IsSpecifier false) (ahead p)
unfolding ahead
typedef_next p t us b e r i =
    names_a_type p t.class t us b e (λ h. (i.0 h).1) (λ h. i.1 (e, h))
    ∙ ap (λ ts. first_is (is_specifier p.names false) (lexemes ts)) (sym r)
