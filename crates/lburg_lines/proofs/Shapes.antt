-- Texts of a fixed shape, token by token, and where a line stops being one.
use Rattle.std.proofs.Common.{◌≡◌, List, [], ◌∷◌, ◌++◌, length, Some, None, refl, sym, ap, subst, ◌∙◌, arith}
use Rattle.std.specs.Prelude.{◌≢◌}
use Rattle.lcc_text.specs.Stops.{next, StopsAt}
use Rattle.lburg_lines.specs.declared.read_error.ReadError.{ReadError}
use Rattle.lburg_lines.specs.declared.read_error.ReadError.TheVariants.{Memory, Stuck}
use Rattle.lburg_lines.specs.Tokens.{Tok}
use Rattle.lburg_lines.specs.Numbers.{MNumber, Plain, IsNumber, number_token}
use Rattle.lburg_lines.specs.Readings.{Fault}
use Rattle.lburg_lines.proofs.Places.{stuck_at, start_stops, widen_fault}

-- what may stand at a place: this token, or any number
pub data Wanted : Type 0 where
  Exactly : (token : Tok) → Wanted
  SomeNumber : Wanted

abbrev pub Fits : Wanted → Tok → Type 0
Fits (Exactly u) t = t ≡ u
Fits SomeNumber t = (n : MNumber) × IsNumber n × (t ≡ number_token n)

abbrev pub IsShaped : List Wanted → List Tok → Type 0
IsShaped [] ts = ts ≡ []
IsShaped (w ∷ ws) ts = (t : Tok) × (rest : List Tok) × Fits w t × (ts ≡ t ∷ rest) × IsShaped ws rest

abbrev example : Wanted → Tok
example (Exactly u) = u
example SomeNumber = number_token (Plain [])

example_fits : (w : Wanted) → Fits w (example w)
example_fits (Exactly u) = refl
example_fits SomeNumber = (Plain [], omega arith, refl)

abbrev examples : List Wanted → List Tok
examples [] = []
examples (w ∷ ws) = example w ∷ examples ws

examples_shaped : (ws : List Wanted) → IsShaped ws (examples ws)
examples_shaped [] = refl
examples_shaped (w ∷ ws) = (example w, examples ws, example_fits w, refl, examples_shaped ws)

-- the line stops being of the shape there
pub record ShapeFault (ws : List Wanted) (e : ReadError) (line : List Tok) : Type 0 where
  pub fault : Fault (StopsAt (IsShaped ws)) e line

shape_start : (w : Wanted) (ws : List Wanted) (line : List Tok) (e : ReadError) → ((t : Tok) → Fits w t → next line ≢ Some t) → e ≡ Stuck (length line) → ShapeFault (w ∷ ws) e line
shape_start w ws line e h f = record { fault = stuck_at (IsShaped (w ∷ ws)) line line e f (start_stops (IsShaped (w ∷ ws)) line (examples (w ∷ ws)) (examples_shaped (w ∷ ws)) (λ ts is g. h is.0 is.2 (sym g ∙ ap next is.3))) }

-- another token is next
pub shape_other : {u : Tok} {ws : List Wanted} {line : List Tok} {e : ReadError} → next line ≢ Some u → e ≡ Stuck (length line) → ShapeFault (Exactly u ∷ ws) e line
shape_other {u} {ws} {line} {e} h f = shape_start (Exactly u) ws line e (λ t is g. h (g ∙ ap Some is)) f

-- no number is next
pub shape_numberless : {ws : List Wanted} {line : List Tok} {e : ReadError} → ((n : MNumber) → IsNumber n → next line ≢ Some (number_token n)) → e ≡ Stuck (length line) → ShapeFault (SomeNumber ∷ ws) e line
shape_numberless {ws} {line} {e} h f = shape_start SomeNumber ws line e (λ t is g. h is.0 is.1 (g ∙ ap Some is.2)) f

-- the line doesn't end here
pub shape_longer : {line : List Tok} {e : ReadError} → next line ≢ None → e ≡ Stuck (length line) → ShapeFault [] e line
shape_longer {line} {e} h f = record { fault = stuck_at (IsShaped []) line line e f (start_stops (IsShaped []) line [] refl (λ ts is g. h (sym g ∙ ap next is))) }

behind : (w : Wanted) (ws : List Wanted) (t : Tok) (ts : List Tok) → IsShaped (w ∷ ws) (t ∷ ts) → IsShaped ws ts
behind w ws t ts is = let e : is.1 ≡ ts = cc in subst (IsShaped ws) e is.4

step_stops : (w : Wanted) (ws : List Wanted) (t : Tok) (line rest : List Tok) → Fits w t → StopsAt (IsShaped ws) line rest → StopsAt (IsShaped (w ∷ ws)) (t ∷ line) rest
step_stops w ws t line rest f s = record {
  front = t ∷ s.front;
  parts = ap (λ (l : List Tok). t ∷ l) s.parts;
  begun = (s.begun.0, (t, s.front ++ s.begun.0, f, refl, s.begun.1));
  stuck = λ more is e. s.stuck more (behind w ws t (s.front ++ more) is) e;
}

step_fault : (w : Wanted) (ws : List Wanted) (t : Tok) (line : List Tok) (e : ReadError) → Fits w t → Fault (StopsAt (IsShaped ws)) e line → Fault (StopsAt (IsShaped (w ∷ ws))) e (t ∷ line)
step_fault w ws t line Memory f h = tt
step_fault w ws t line (Stuck k) f h = (h.0, h.1, step_stops w ws t line h.0 f h.2)

-- a line stops behind a token that fits where its rest does
pub shape_step : {w : Wanted} {ws : List Wanted} {t : Tok} {line mid : List Tok} {e : ReadError} → Fits w t → line ≡ t ∷ mid → ShapeFault ws e mid → ShapeFault (w ∷ ws) e line
shape_step {w} {ws} {t} {line} {mid} {e} f p h = record { fault = rw p (step_fault w ws t mid e f h.fault) }

-- a language of the shape stops where the shape does
pub shape_fault : (ws : List Wanted) (Is : List Tok → Type 0) (line : List Tok) (e : ReadError) → ((ts : List Tok) → IsShaped ws ts → Is ts) → ((ts : List Tok) → Is ts → IsShaped ws ts) → ShapeFault ws e line → Fault (StopsAt Is) e line
shape_fault ws Is line e f g h = widen_fault (IsShaped ws) Is line e f (λ ts is q. g ts is) h.fault
