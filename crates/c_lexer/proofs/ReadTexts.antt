-- String literals, before a blank and at the end, are read as themselves.
use Rattle.std.proofs.Common.{◌≡◌, ◌+◌, ℕ, Some, Ok, List, [], ◌∷◌, ◌++◌, flat_map, length, drop, refl, sym, ap, ◌∙◌, arith, append_assoc, length-append}
use Rattle.std.proofs.Math.Seq.{drop-append_seam}
use Rattle.c_ast.specs.declared.class.Class.TheVariants as class
use Rattle.c_ast.specs.Lexemes
use Rattle.c_ast.specs.Printed.{character_text}
use Rattle.c_lexer.specs.declared.quoted.Quoted.TheVariants.{Close}
use Rattle.c_lexer.specs.Chains.{Chain}
use Rattle.c_lexer.specs.Characters.{Values}
use Rattle.c_lexer.specs.Quoted.{quoted, behind_quoted, next_character}
use Rattle.c_lexer.specs.PrintedTokens.{AreBytes}
use Rattle.c_lexer.proofs.Values.{dropped}
use Rattle.c_lexer.proofs.ReadLexemes.{IsRead}
use Rattle.c_lexer.proofs.ReadCharacters.{two_quoted, no_zero, between}

abbrev inner : List ℕ → List ℕ
inner bs = flat_map character_text bs

-- the characters, and the quote behind them
first_then : (b : ℕ) (bs behind : List ℕ) → inner (b ∷ bs) ++ (34 ∷ behind) ≡ character_text b ++ (inner bs ++ (34 ∷ behind))
first_then b bs behind = append_assoc (character_text b) (inner bs) (34 ∷ behind)

values : (bs behind bytes : List ℕ) → AreBytes bs → bytes ≡ inner bs ++ (34 ∷ behind) → Values 34 bytes bs
values [] behind bytes h e = ap (λ z. quoted 34 z) e
values (b ∷ bs) behind bytes h e =
    let t = character_text b in
    let rest = inner bs ++ (34 ∷ behind) in
    let f : bytes ≡ t ++ rest = e ∙ first_then b bs behind in
    (length t, ap (λ z. quoted 34 z) f ∙ two_quoted b rest h.0, values bs behind (drop (length t) bytes) h.1 (ap (λ z. drop (length t) z) f ∙ drop-append_seam t rest))

-- each character leads to the next, and to the quote in the end
pub record LeadsToQuote (bytes bs : List ℕ) (n : ℕ) : Type 0 where
  pub last : ℕ
  pub chain : Chain (next_character 34 bytes) (length bs) n last
  pub closes : quoted 34 (drop last bytes) ≡ Close
  pub sum : last ≡ n + length (inner bs)

leads : (bs behind bytes : List ℕ) (n : ℕ) → AreBytes bs → drop n bytes ≡ inner bs ++ (34 ∷ behind) → LeadsToQuote bytes bs n
leads [] behind bytes n h e = record { last = n; chain = refl; closes = ap (λ z. quoted 34 z) e; sum = omega arith }
leads (b ∷ bs) behind bytes n h e =
    let t = character_text b in
    let rest = inner bs ++ (34 ∷ behind) in
    let mid = n + length t in
    let f : drop n bytes ≡ t ++ rest = e ∙ first_then b bs behind in
    let g : drop mid bytes ≡ rest = dropped bytes n (length t) mid refl ∙ ap (λ z. drop (length t) z) f ∙ drop-append_seam t rest in
    let r = leads bs behind bytes mid h.1 g in
    let s = r.sum in
    let l = length-append t (inner bs) in
    record {
      last = r.last;
      chain = (mid, ap (λ z. behind_quoted (quoted 34 z) n) f ∙ ap (λ k. behind_quoted k n) (two_quoted b rest h.0), r.chain);
      closes = r.closes;
      sum = omega arith;
    }

abbrev literal_text : List ℕ → List ℕ
literal_text bs = 34 ∷ (inner bs ++ 34 ∷ [])

text_length : (bs : List ℕ) (last : ℕ) → last ≡ 0 + length (inner bs) → length (literal_text bs) ≡ last + 2
text_length bs last e = between (inner bs) 34 ∙ ap (λ n. n + 2) (sym (no_zero (length (inner bs))) ∙ sym e)

pub read_text : (bs behind : List ℕ) → AreBytes bs → IsRead (Lexemes.Text bs) (literal_text bs) behind
read_text bs behind h =
    let bytes = (inner bs ++ 34 ∷ []) ++ behind in
    let e : bytes ≡ inner bs ++ (34 ∷ behind) = append_assoc (inner bs) (34 ∷ []) behind in
    let r = leads bs behind bytes 0 h e in
    record {
      class = class.Text;
      no_gap = λ p. refl;
      reads = (Ok (length bs, r.last), (r.chain, r.closes), ap (λ n. Ok (Some (class.Text, n))) (text_length bs r.last r.sum));
      lexeme = (bs, values bs behind bytes h e, refl);
    }
