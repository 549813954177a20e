-- A text of a language stops nowhere, and no text stops at two places.
use Rattle.std.proofs.Common.{◌≡◌, ◌≤◌, ◌⊎◌, List, [], ◌∷◌, ◌++◌, length, Some, refl, sym, ap, ◌∙◌, subst, inl, inr, append_assoc, arith}
use Rattle.lcc_text.specs.Stops.{next, StopsAt}

pub stops_not : {T : Type 0} (Is : List T → Type 0) (line rest : List T) → StopsAt Is line rest → Is line → ⊥
stops_not Is line rest s is = s.stuck rest (subst Is s.parts is) refl

-- what is next where one front goes on behind another
abbrev GoesOn : {T : Type 0} → List T → List T → List T → Type 0
GoesOn {T} f g y = (c : T) × (h : List T) × (f ≡ g ++ c ∷ h) × (next y ≡ Some c)

-- of two fronts of a line the one isn't longer, or goes on behind the other
compared : {T : Type 0} (f g x y : List T) → f ++ x ≡ g ++ y → (length f ≤ length g) ⊎ GoesOn f g y
compared [] g x y e = inl (omega arith)
compared (c ∷ f) [] x y e = inr (c, f, refl, ap next (sym e))
compared (c ∷ f) (d ∷ g) x y e =
    let k : f ++ x ≡ g ++ y = cc in
    elim (compared f g x y k) [
      | inl l ↦ inl (omega arith)
      | inr r ↦ (let u : c ≡ d = cc in let v : f ≡ g ++ r.0 ∷ r.1 = r.2 in inr (r.0, r.1, cc, r.3))
    ]

-- a line stops behind each front with which some text of the language begins
pub stop_behind : {T : Type 0} (Is : List T → Type 0) (line front rest more stop : List T) → line ≡ front ++ rest → Is (front ++ more) → (s : StopsAt Is line stop) → length front ≤ length s.front
stop_behind {T} Is line front rest more stop e is s =
    elim (compared front s.front rest stop (sym e ∙ s.parts)) [
      | inl l ↦ l
      | inr r ↦ absurd (s.stuck (r.0 ∷ (r.1 ++ more)) (subst Is (ap (λ (l : List T). l ++ more) r.2 ∙ append_assoc s.front (r.0 ∷ r.1) more) is) (sym r.3))
    ]

-- a line stops at one place only
pub one_stop : {T : Type 0} (Is : List T → Type 0) (line rest other : List T) (s : StopsAt Is line rest) (t : StopsAt Is line other) → length s.front ≡ length t.front
one_stop Is line rest other s t =
    let a = stop_behind Is line s.front rest s.begun.0 other s.parts s.begun.1 t in
    let b = stop_behind Is line t.front other t.begun.0 rest t.parts t.begun.1 s in
    omega arith
