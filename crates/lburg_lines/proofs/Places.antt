-- Where a line stops being one of a language: at its start, behind a text of it, and where a line of a part of it does.
use Rattle.std.proofs.Common.{◌≡◌, Bool, ◌==◌, false, List, [], ◌∷◌, ◌++◌, length, None, refl, sym, ap, subst, ◌∙◌}
use Rattle.std.specs.Prelude.{◌≢◌, Result, IsErrAnd, IfErr}
use Rattle.std.proofs.lemmas.Result.{err_from_is_err_and}
use Rattle.std.proofs.lemmas.List.{append-nil}
use Rattle.lcc_text.specs.Stops.{next, StopsAt}
use Rattle.lburg_lines.specs.declared.read_error.ReadError.{ReadError}
use Rattle.lburg_lines.specs.declared.read_error.ReadError.TheVariants.{Memory, Stuck}
use Rattle.lburg_lines.specs.Tokens.{Tok, views}
use Rattle.lburg_lines.specs.declared.token.Token.{Token}
use Rattle.lburg_lines.specs.Readings.{Fault}

-- what isn't empty has something next
pub goes_on : (tokens : List Token) (b : Bool) → b ≡ false → b ≡ (length tokens == 0) → next (views tokens) ≢ None
goes_on [] b h e f = absurd cc
goes_on (t ∷ ts) b h e f = cc

-- a reader that answers an error answers it where this holds of it
pub on_stuck : {T : Type 0} (r : Result T ReadError) (e : ReadError) (P : ReadError → Type 0) → IsErrAnd r (λ y. y ≡ e) → P e → IfErr r P
on_stuck r e P h k = let p = err_from_is_err_and r h in rw (p.1, p.2) k

pub start_stops : (Is : List Tok → Type 0) (line some : List Tok) → Is some → ((ts : List Tok) → Is ts → next ts ≢ next line) → StopsAt Is line line
start_stops Is line some is h = record { front = []; parts = refl; begun = (some, is); stuck = h }

pub end_stops : (Is : List Tok → Type 0) (front rest : List Tok) → Is front → ((more : List Tok) → Is (front ++ more) → more ≡ []) → next rest ≢ None → StopsAt Is (front ++ rest) rest
end_stops Is front rest is h n = record {
  front = front;
  parts = refl;
  begun = ([], subst Is (sym (append-nil front)) is);
  stuck = λ more i e. n (sym e ∙ ap next (h more i));
}

-- a text that goes on behind the line's front as the line does begins as the line does
begins : (front more rest line : List Tok) → line ≡ front ++ rest → next more ≡ next rest → next (front ++ more) ≡ next line
begins [] more rest line e f = f ∙ ap next (sym e)
begins (x ∷ front) more rest line e f = ap next (sym e)

-- a line stops in a language where it does in a part of it to which each text belongs that begins as the line does
widen : (Part Is : List Tok → Type 0) (line rest : List Tok) → ((ts : List Tok) → Part ts → Is ts) → ((ts : List Tok) → Is ts → next ts ≡ next line → Part ts) → StopsAt Part line rest → StopsAt Is line rest
widen Part Is line rest f g s = record {
  front = s.front;
  parts = s.parts;
  begun = (s.begun.0, f (s.front ++ s.begun.0) s.begun.1);
  stuck = λ more is e. s.stuck more (g (s.front ++ more) is (begins s.front more rest line s.parts e)) e;
}

pub widen_fault : (Part Is : List Tok → Type 0) (line : List Tok) (e : ReadError) → ((ts : List Tok) → Part ts → Is ts) → ((ts : List Tok) → Is ts → next ts ≡ next line → Part ts) → Fault (StopsAt Part) e line → Fault (StopsAt Is) e line
widen_fault Part Is line Memory f g h = tt
widen_fault Part Is line (Stuck k) f g h = (h.0, h.1, widen Part Is line h.0 f g h.2)

pub stuck_at : (Is : List Tok → Type 0) (line rest : List Tok) (e : ReadError) → e ≡ Stuck (length rest) → StopsAt Is line rest → Fault (StopsAt Is) e line
stuck_at Is line rest e f s = rw f (rest, refl, s)
