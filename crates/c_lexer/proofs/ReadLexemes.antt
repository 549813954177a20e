-- What is shown of each lexeme, and what follows for a list of them with one blank between.
use Rattle.std.proofs.Common.{◌≡◌, ◌+◌, ◌-◌, ℕ, false, Some, None, Ok, List, [], ◌∷◌, ◌++◌, flat_map, length, drop, take, refl, sym, ap, ◌∙◌, subst, arith}
use Rattle.std.proofs.Math.Seq.{drop-append_seam}
use Rattle.c_ast.specs.declared.class.Class.{Class}
use Rattle.c_ast.specs.declared.class.Class.TheVariants as class
use Rattle.c_ast.specs.Lexemes.{Lexeme, Name, Keyword, Integer, Character, Text, Sign, Placed}
use Rattle.c_ast.specs.Marks.{lexemes}
use Rattle.c_ast.specs.Printed.{lexeme_text, token_text, spaced}
use Rattle.c_lexer.specs.declared.place.Place.{Place}
use Rattle.c_lexer.specs.declared.token.Token.{Token}
use Rattle.c_lexer.specs.Chains.{Chain}
use Rattle.c_lexer.specs.Characters.{Values}
use Rattle.c_lexer.specs.Gaps.{behind_gap, gap}
use Rattle.c_lexer.specs.Readings.{Reads}
use Rattle.c_lexer.specs.Tokens.{first_place, Cuts, AreTokens}
use Rattle.c_lexer.specs.SourceUnits.{IsLexeme, AreLexemes}
use Rattle.c_lexer.proofs.Values.{dropped}

-- the end, or a blank
abbrev pub IsEnd : List ℕ → Type 0
IsEnd [] = Unit {0}
IsEnd (b ∷ bs) = b ≡ 32

-- what a token of the class is at the front of bytes
abbrev pub IsLexemeAt : Class → List ℕ → ℕ → Lexeme → Type 0
IsLexemeAt class.Name bytes len l = l ≡ Name (take len bytes)
IsLexemeAt (class.Keyword k) bytes len l = l ≡ Keyword k
IsLexemeAt (class.Integer v kind) bytes len l = l ≡ Integer v kind
IsLexemeAt (class.Character v) bytes len l = l ≡ Character v
IsLexemeAt class.Text bytes len l = (vs : List ℕ) × Values 34 (drop 1 bytes) vs × (l ≡ Text vs)
IsLexemeAt (class.Sign k) bytes len l = l ≡ Sign k

-- before what is behind it, the text begins with no gap, and is read as one token, which is the lexeme
pub record IsRead (l : Lexeme) (text behind : List ℕ) : Type 0 where
  pub class : Class
  pub no_gap : (p : Place) → behind_gap (text ++ behind) p ≡ None
  pub reads : Reads (text ++ behind) (Ok (Some (class, length text)))
  pub lexeme : IsLexemeAt class (text ++ behind) (length text) l

-- each is read so, before a blank and at the end
abbrev pub AreRead : List Lexeme → Type 0
AreRead [] = Unit {0}
AreRead (l ∷ ls) = ((behind : List ℕ) → IsEnd behind → IsRead l (lexeme_text l) behind) × AreRead ls

-- what is left of the source at the place is cut into the lexemes
pub record AreCut (source : List ℕ) (p : Place) (ls : List Lexeme) : Type 0 where
  pub tokens : List Token
  pub placed : List Placed
  pub cut : AreTokens source p tokens None
  pub are : AreLexemes source tokens placed
  pub spelled : lexemes placed ≡ ls

abbrev token_at : Class → Place → ℕ → Token
token_at c p len = record { class = c; start = p.offset; end = p.offset + len; line = p.line }

abbrev behind_token : Place → ℕ → Place
behind_token p len = record { offset = p.offset + len; line = p.line; opens = false }

behind_start : (a n : ℕ) → a + n - a ≡ n
behind_start a n = omega arith

is_lexeme : (c : Class) (source bytes : List ℕ) (p : Place) (len : ℕ) (l : Lexeme) → drop p.offset source ≡ bytes → IsLexemeAt c bytes len l → IsLexeme c source (token_at c p len) l
is_lexeme class.Name source bytes p len l e h = h ∙ ap (λ z. Name (take len z)) (sym e) ∙ ap (λ n. Name (take n (drop p.offset source))) (sym (behind_start p.offset len))
is_lexeme (class.Keyword k) source bytes p len l e h = h
is_lexeme (class.Integer v kind) source bytes p len l e h = h
is_lexeme (class.Character v) source bytes p len l e h = h
is_lexeme class.Text source bytes p len l e (vs, h, f) = (vs, subst (λ (z : List ℕ). Values 34 z vs) (ap (λ z. drop 1 z) (sym e) ∙ sym (dropped source p.offset 1 (p.offset + 1) refl)) h, f)
is_lexeme (class.Sign k) source bytes p len l e h = h

-- one token, behind gaps
cut_one : (source : List ℕ) (count : ℕ) (before p : Place) (l : Lexeme) (text behind : List ℕ) → Chain (gap source) count before p → drop p.offset source ≡ text ++ behind → (r : IsRead l text behind) → Cuts source before (Ok (Some (token_at r.class p (length text)))) (behind_token p (length text))
cut_one source count before p l text behind c e r = record {
  count = count;
  here = p;
  reading = Ok (Some (r.class, length text));
  gaps = c;
  no_more = ap (λ z. behind_gap z p) e ∙ r.no_gap p;
  reads = subst (λ (z : List ℕ). Reads z (Ok (Some (r.class, length text)))) (sym e) r.reads;
  answers = refl;
  leads = refl;
}

-- one token, and those behind it
cut_more : (source : List ℕ) (count : ℕ) (before p : Place) (l : Lexeme) (ls : List Lexeme) (text behind : List ℕ) → Chain (gap source) count before p → drop p.offset source ≡ text ++ behind → IsRead l text behind → AreCut source (behind_token p (length text)) ls → AreCut source before (l ∷ ls)
cut_more source count before p l ls text behind c e r more = record {
  tokens = token_at r.class p (length text) ∷ more.tokens;
  placed = record { lexeme = l; line = p.line } ∷ more.placed;
  cut = (behind_token p (length text), cut_one source count before p l text behind c e r, more.cut);
  are = (is_lexeme r.class source (text ++ behind) p (length text) l e r.lexeme, refl, more.are);
  spelled = ap (λ z. l ∷ z) more.spelled;
}

behind_text : (source : List ℕ) (p : Place) (text behind : List ℕ) → drop p.offset source ≡ text ++ behind → drop (p.offset + length text) source ≡ behind
behind_text source p text behind e = dropped source p.offset (length text) (p.offset + length text) refl ∙ ap (λ z. drop (length text) z) e ∙ drop-append_seam text behind

-- nothing is left
cut_end : (source : List ℕ) (p : Place) → drop p.offset source ≡ [] → AreCut source p []
cut_end source p e = record {
  tokens = [];
  placed = [];
  cut = (p, record { count = 0; here = p; reading = Ok None; gaps = refl; no_more = ap (λ z. behind_gap z p) e; reads = subst (λ (z : List ℕ). Reads z (Ok None)) (sym e) refl; answers = refl; leads = refl });
  are = tt;
  spelled = refl;
}

ends : (ls : List Lexeme) → IsEnd (flat_map token_text ls)
unfolding token_text
ends [] = tt
ends (l ∷ ls) = refl

-- a blank before each
cut_rest : (source : List ℕ) (p : Place) (ls : List Lexeme) → AreRead ls → drop p.offset source ≡ flat_map token_text ls → AreCut source p ls
unfolding token_text
cut_rest source p [] h e = cut_end source p e
cut_rest source p (l ∷ ls) h e =
    let text = lexeme_text l in
    let rest = flat_map token_text ls in
    let q : Place = record { offset = p.offset + 1; line = p.line; opens = p.opens } in
    let f : drop q.offset source ≡ text ++ rest = dropped source p.offset 1 (p.offset + 1) refl ∙ ap (λ z. drop 1 z) e in
    cut_more source 1 p q l ls text rest (q, ap (λ z. behind_gap z p) e, refl) f (h.0 rest (ends ls)) (cut_rest source (behind_token q (length text)) ls h.1 (behind_text source q text rest f))

-- what is printed is cut into the lexemes
pub cut_spaced : (ls : List Lexeme) → AreRead ls → AreCut (spaced ls) first_place ls
cut_spaced [] h = cut_end [] first_place refl
cut_spaced (l ∷ ls) h =
    let text = lexeme_text l in
    let rest = flat_map token_text ls in
    cut_more (spaced (l ∷ ls)) 0 first_place first_place l ls text rest refl refl (h.0 rest (ends ls)) (cut_rest (spaced (l ∷ ls)) (behind_token first_place (length text)) ls h.1 (behind_text (spaced (l ∷ ls)) first_place text rest refl))
