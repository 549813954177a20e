-- A source is cut in one way.
use Rattle.std.proofs.Common.{◌≡◌, ℕ, Option, Some, None, Result, Ok, Err, List, [], ◌∷◌, drop, refl, sym, ap, ◌∙◌, subst}
use Rattle.c_lexer.specs.declared.lex_fault.LexFault.{LexFault}
use Rattle.c_lexer.specs.declared.lex_fault.LexFaultKind.{LexFaultKind}
use Rattle.c_lexer.specs.declared.place.Place.{Place}
use Rattle.c_lexer.specs.declared.quoted.Quoted.TheVariants.{Close, Fault}
use Rattle.c_lexer.specs.declared.start.Start.{Start}
use Rattle.c_lexer.specs.declared.start.Start.TheVariants as start
use Rattle.c_lexer.specs.declared.token.Token.{Token}
use Rattle.c_lexer.specs.Quoted.{quoted, behind_quoted, next_character}
use Rattle.c_lexer.specs.Characters.{Characters}
use Rattle.c_lexer.specs.Gaps.{gap}
use Rattle.c_lexer.specs.Starts.{start_of}
use Rattle.c_lexer.specs.Readings.{Reading, ReadsFrom, Reads, character_of, text_of}
use Rattle.c_lexer.specs.Tokens.{Answer, answer_at, place_behind, Cuts, AreTokens}
use Rattle.c_lexer.proofs.Chains.{chain_same}

close_stops : (quote : ℕ) (bytes : List ℕ) (n : ℕ) → quoted quote (drop n bytes) ≡ Close → next_character quote bytes n ≡ None
close_stops quote bytes n e = ap (λ x. behind_quoted x n) e

fault_stops : (quote : ℕ) (bytes : List ℕ) (n : ℕ) (kind : LexFaultKind) → quoted quote (drop n bytes) ≡ Fault kind → next_character quote bytes n ≡ None
fault_stops quote bytes n kind e = ap (λ x. behind_quoted x n) e

pairs : (a b c d : ℕ) → (a ≡ b) × (c ≡ d) → ◌≡◌ {A = Result (ℕ × ℕ) LexFaultKind} (Ok (a, c)) (Ok (b, d))
pairs a b c d (e, f) = cc

faults : (k l : LexFaultKind) → Fault k ≡ Fault l → ◌≡◌ {A = Result (ℕ × ℕ) LexFaultKind} (Err k) (Err l)
faults k l e = cc

-- the characters up to a quote, or the fault
characters_same : (quote : ℕ) (bytes : List ℕ) (x y : Result (ℕ × ℕ) LexFaultKind) → Characters quote bytes x → Characters quote bytes y → x ≡ y
characters_same quote bytes (Ok (a, b)) (Ok (c, d)) (m, e) (n, f) =
    pairs a c b d (chain_same (next_character quote bytes) a c 0 b d m (close_stops quote bytes b e) n (close_stops quote bytes d f))
characters_same quote bytes (Ok (a, b)) (Err k) (m, e) (c, d, n, f) =
    let h = chain_same (next_character quote bytes) a c 0 b d m (close_stops quote bytes b e) n (fault_stops quote bytes d k f) in
    absurd (let g = sym e ∙ ap (λ x. quoted quote (drop x bytes)) h.1 ∙ f in cc)
characters_same quote bytes (Err k) (Ok (c, d)) (a, b, m, e) (n, f) =
    let h = chain_same (next_character quote bytes) a c 0 b d m (fault_stops quote bytes b k e) n (close_stops quote bytes d f) in
    absurd (let g = sym e ∙ ap (λ x. quoted quote (drop x bytes)) h.1 ∙ f in cc)
characters_same quote bytes (Err k) (Err l) (a, b, m, e) (c, d, n, f) =
    let h = chain_same (next_character quote bytes) a c 0 b d m (fault_stops quote bytes b k e) n (fault_stops quote bytes d l f) in
    faults k l (sym e ∙ ap (λ x. quoted quote (drop x bytes)) h.1 ∙ f)

from_same : (kind : Start) (bytes : List ℕ) (r s : Reading) → ReadsFrom kind bytes r → ReadsFrom kind bytes s → r ≡ s
from_same start.End bytes r s p q = p ∙ sym q
from_same start.Constant bytes r s p q = p ∙ sym q
from_same start.Wide bytes r s p q = p ∙ sym q
from_same start.Word bytes r s p q = p ∙ sym q
from_same start.Character bytes r s (x, c, p) (y, d, q) = p ∙ ap (character_of (drop 1 bytes)) (characters_same 39 (drop 1 bytes) x y c d) ∙ sym q
from_same start.Text bytes r s (x, c, p) (y, d, q) = p ∙ ap text_of (characters_same 34 (drop 1 bytes) x y c d) ∙ sym q
from_same start.Comment bytes r s p q = p ∙ sym q
from_same start.Sign bytes r s p q = p ∙ sym q

reads_same : (bytes : List ℕ) (r s : Reading) → Reads bytes r → Reads bytes s → r ≡ s
reads_same bytes r s p q = from_same (start_of bytes) bytes r s p q

-- one answer, and one place behind it
pub cut_same : (source : List ℕ) (p : Place) (r s : Answer) (q t : Place) → Cuts source p r q → Cuts source p s t → (r ≡ s) × (q ≡ t)
cut_same source p r s q t c d =
    let h : c.here ≡ d.here = (chain_same (gap source) c.count d.count p c.here d.here c.gaps c.no_more d.gaps d.no_more).1 in
    let f : c.reading ≡ d.reading = reads_same (drop d.here.offset source) c.reading d.reading (subst (λ (x : Place). Reads (drop x.offset source) c.reading) h c.reads) d.reads in (
      c.answers ∙ ap (λ (x : Place). answer_at x c.reading) h ∙ ap (λ (y : Reading). answer_at d.here y) f ∙ sym d.answers,
      c.leads ∙ ap (λ (x : Place). place_behind p x c.reading) h ∙ ap (λ (y : Reading). place_behind p d.here y) f ∙ sym d.leads,
    )

same_fault : (f g : LexFault) → ◌≡◌ {A = Answer} (Err f) (Err g) → Some f ≡ Some g
same_fault f g e = cc

same_token : (t u : Token) → ◌≡◌ {A = Answer} (Ok (Some t)) (Ok (Some u)) → t ≡ u
same_token t u e = cc

joined : (t u : Token) (ts us : List Token) → t ≡ u → ts ≡ us → t ∷ ts ≡ u ∷ us
joined t u ts us e f = cc

-- one list of tokens, or one first fault
pub one_list : (source : List ℕ) (p : Place) (ts us : List Token) (e f : Option LexFault) → AreTokens source p ts e → AreTokens source p us f → (ts ≡ us) × (e ≡ f)
one_list source p [] [] None None (q, c) (t, d) = (refl, refl)
one_list source p [] [] None (Some g) (q, c) (t, d) = absurd (let h = (cut_same source p _ _ q t c d).0 in cc)
one_list source p [] [] (Some g) None (q, c) (t, d) = absurd (let h = (cut_same source p _ _ q t c d).0 in cc)
one_list source p [] [] (Some g) (Some k) (q, c) (t, d) = (refl, same_fault g k (cut_same source p _ _ q t c d).0)
one_list source p [] (u ∷ us) None f (q, c) (t, d, more) = absurd (let h = (cut_same source p _ _ q t c d).0 in cc)
one_list source p [] (u ∷ us) (Some g) f (q, c) (t, d, more) = absurd (let h = (cut_same source p _ _ q t c d).0 in cc)
one_list source p (v ∷ ts) [] e None (q, c, more) (t, d) = absurd (let h = (cut_same source p _ _ q t c d).0 in cc)
one_list source p (v ∷ ts) [] e (Some g) (q, c, more) (t, d) = absurd (let h = (cut_same source p _ _ q t c d).0 in cc)
one_list source p (v ∷ ts) (u ∷ us) e f (q, c, more) (t, d, others) =
    let h = cut_same source p _ _ q t c d in
    let r = one_list source t ts us e f (subst (λ (x : Place). AreTokens source x ts e) h.1 more) others in
    (joined v u ts us (same_token v u h.0) r.0, r.1)
