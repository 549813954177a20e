-- Loops over what is no tree: texts, qualifiers and pointers.
use Rattle.std.proofs.Common.{◌≡◌, ◌≤◌, ◌<◌, ◌++◌, ℕ, zero, suc, length, true, false, List, [], ◌∷◌, refl, sym, ap, ◌∙◌, arith}
use Rattle.std.proofs.lemmas.List.{append_assoc, append-nil}
use Rattle.c_ast.specs.declared.specifier.Qualifier.{Qualifier}
use Rattle.c_ast.specs.Lexemes.{Placed}
use Rattle.c_ast.specs.Lexemes.{Lexeme, Name, Keyword, Integer, Character, Text, Sign}
use Rattle.c_ast.specs.Marks.{first_is, is_sign, is_text, lexemes}
use Rattle.c_readings.specs.Reading.{tail}
use Rattle.c_readings.specs.Readers.{qualifiers_on, pointers_in, text_or, texts_on}

no_text_or : (l : Lexeme) (more : List (List ℕ) × List Placed) (ts : List Placed) → is_text l ≡ false → text_or l more ts ≡ ([], ts)
no_text_or (Text b) more ts h = absurd cc
no_text_or (Name n) more ts h = refl
no_text_or (Keyword k) more ts h = refl
no_text_or (Integer v k) more ts h = refl
no_text_or (Character v) more ts h = refl
no_text_or (Sign k) more ts h = refl

-- no text is next
pub no_texts : (ts : List Placed) → first_is is_text (lexemes ts) ≡ false → texts_on ts ≡ ([], ts)
unfolding texts_on
no_texts [] h = refl
no_texts (t ∷ ts) h = no_text_or t.lexeme (texts_on ts) (t ∷ ts) h

-- o is the pointers xs and those that ts begin with, and what is behind them
abbrev pub PointersLeft : List (List Qualifier) × List Placed → List (List Qualifier) → List Placed → Type 0
PointersLeft o xs ts = (m : ℕ) × (length ts ≤ m) × (o ≡ (xs ++ (pointers_in m ts).0, (pointers_in m ts).1))

pub pointers_start : (ts : List Placed) → PointersLeft (pointers_in (length ts) ts) [] ts
pointers_start ts = (length ts, omega arith, refl)

pointer_read : (m : ℕ) (ts : List Placed) (qs : List Qualifier) (us : List Placed) → first_is (is_sign 11) (lexemes ts) ≡ true → qualifiers_on (tail ts) ≡ (qs, us) → pointers_in (suc m) ts ≡ (qs ∷ (pointers_in m us).0, (pointers_in m us).1)
unfolding pointers_in
pointer_read m ts qs us h e = rw (h, e) refl

no_pointer : (m : ℕ) (ts : List Placed) → first_is (is_sign 11) (lexemes ts) ≡ false → pointers_in m ts ≡ ([], ts)
unfolding pointers_in
no_pointer zero ts h = refl
no_pointer (suc m) ts h = rw h refl

pointers_with : (o : List (List Qualifier) × List Placed) (xs : List (List Qualifier)) (ts : List Placed) (qs : List Qualifier) (us : List Placed) (m : ℕ) → length ts ≤ m → o ≡ (xs ++ (pointers_in m ts).0, (pointers_in m ts).1) → first_is (is_sign 11) (lexemes ts) ≡ true → qualifiers_on (tail ts) ≡ (qs, us) → length us < length ts → PointersLeft o (xs ++ (qs ∷ [])) us
pointers_with o xs ts qs us zero w h g e l = absurd (omega (arith, w, l))
pointers_with o xs ts qs us (suc m) w h g e l = (
  m,
  omega (arith, w, l),
  h
      ∙ ap (λ (p : List (List Qualifier) × List Placed). (xs ++ p.0, p.1)) (pointer_read m ts qs us g e)
      ∙ ap (λ ys. (ys, (pointers_in m us).1)) (sym (append_assoc xs (qs ∷ []) (pointers_in m us).0)),
)

pub pointers_go : (o : List (List Qualifier) × List Placed) (xs : List (List Qualifier)) (ts : List Placed) (qs : List Qualifier) (us : List Placed) → PointersLeft o xs ts → first_is (is_sign 11) (lexemes ts) ≡ true → qualifiers_on (tail ts) ≡ (qs, us) → length us < length ts → PointersLeft o (xs ++ (qs ∷ [])) us
pointers_go o xs ts qs us h g e l = pointers_with o xs ts qs us h.0 h.1 h.2 g e l

pub pointers_end : (o : List (List Qualifier) × List Placed) (xs : List (List Qualifier)) (ts : List Placed) → PointersLeft o xs ts → first_is (is_sign 11) (lexemes ts) ≡ false → o ≡ (xs, ts)
pointers_end o xs ts h g =
    h.2
    ∙ ap (λ (p : List (List Qualifier) × List Placed). (xs ++ p.0, p.1)) (no_pointer h.0 ts g)
    ∙ ap (λ ys. (ys, ts)) (append-nil xs)
