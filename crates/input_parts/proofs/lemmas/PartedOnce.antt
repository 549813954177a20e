-- An input is parted in one way, and its text isn't longer than it.
use Rattle.std.proofs.Common.{◌≡◌, ◌≤◌, ◌⊎◌, ℕ, List, [], ◌∷◌, ◌++◌, length, refl, sym, ap, subst, ◌∙◌, inl, inr, ⊎_elim, arith, append_assoc, length-append}
use Rattle.std.specs.Prelude.{All, codes}
use Rattle.std.proofs.Math.Seq.{drop-append_seam}
use Rattle.std.proofs.lemmas.List.{append_cancel_left}
use Rattle.std.proofs.lemmas.List.Elements.{All-drop, All-head}
use Rattle.lcc_text.specs.Lines.{lines_of}
use Rattle.input_parts.specs.InputMark.{HasNoMark, IsWhole, EndsBefore, IsMarked, IsParted}
use Rattle.input_parts.proofs.LineEnds.{lines_behind}

-- the line `%%` and what stands behind it
begins_marked : (tail rest : List ℕ) → EndsBefore tail rest → lines_of (codes "%%" ++ tail) ≡ codes "%%" ∷ lines_of rest
begins_marked tail rest (inl h) = rw (h.0, h.1) refl
begins_marked tail rest (inr h) = rw h refl

-- behind whole lines no line is `%%` where none of all is
no_mark_behind : (text rest : List ℕ) → IsWhole text → HasNoMark (text ++ rest) → HasNoMark rest
no_mark_behind text rest whole h =
    let P : List ℕ → Type 0 = λ l. l ≡ codes "%%" → ⊥ in
    let k = subst (All P) (lines_behind text rest whole) h in
    subst (All P) (drop-append_seam (lines_of text) (lines_of rest)) (All-drop P (length (lines_of text)) (lines_of text ++ lines_of rest) k)

begins_unmarked : (tail rest : List ℕ) → EndsBefore tail rest → HasNoMark (codes "%%" ++ tail) → ⊥
begins_unmarked tail rest ends h =
    let P : List ℕ → Type 0 = λ l. l ≡ codes "%%" → ⊥ in
    All-head P (codes "%%") (lines_of rest) (subst (All P) (begins_marked tail rest ends) h) refl

-- an input with a line `%%` has one
marked_or_not : (input text rest : List ℕ) → IsMarked input text rest → HasNoMark input → ⊥
marked_or_not input text rest m none =
    begins_unmarked m.tail rest m.ends (no_mark_behind text (codes "%%" ++ m.tail) m.whole (subst HasNoMark (m.parts ∙ append_assoc text (codes "%%") m.tail) none))

-- the one list is the other with more behind it
abbrev GoesOn : List ℕ → List ℕ → Type 0
GoesOn f g = (c : ℕ) × (h : List ℕ) × (f ≡ g ++ c ∷ h)

goes_on_more : (c : ℕ) (f g : List ℕ) → GoesOn f g → GoesOn (c ∷ f) (c ∷ g)
goes_on_more c f g r = (r.0, r.1, ap (λ l. c ∷ l) r.2)

-- two fronts of a list are one, or one goes on behind the other
fronts : (f g x y : List ℕ) → f ++ x ≡ g ++ y → (f ≡ g) ⊎ (GoesOn f g ⊎ GoesOn g f)
fronts [] [] x y e = inl refl
fronts [] (d ∷ g) x y e = inr (inr (d, g, refl))
fronts (c ∷ f) [] x y e = inr (inl (c, f, refl))
fronts (c ∷ f) (d ∷ g) x y e =
    let k : f ++ x ≡ g ++ y = cc in
    let u : c ≡ d = cc in
    elim (fronts f g x y k) [
      | inl r ↦ inl cc
      | inr r ↦ inr (subst (λ (a : ℕ). GoesOn (c ∷ f) (a ∷ g) ⊎ GoesOn (a ∷ g) (c ∷ f)) u (⊎_elim (λ q. inl (goes_on_more c f g q)) (λ q. inr (goes_on_more c g f q)) r))
    ]

-- a line `%%` doesn't begin lines of which none is `%%`
mark_within : (c : ℕ) (h tail behind rest : List ℕ) → (c ∷ h) ++ (codes "%%" ++ tail) ≡ codes "%%" ++ behind → EndsBefore behind rest → HasNoMark (c ∷ h) → ⊥
mark_within c [] tail behind rest e (inl n) none = cc
mark_within c [] tail behind rest e (inr n) none = cc
mark_within c (d ∷ []) tail behind rest e (inl n) none = cc
mark_within c (d ∷ []) tail behind rest e (inr n) none = cc
mark_within c (d ∷ b ∷ h) tail behind rest e (inl n) none = cc
mark_within c (d ∷ b ∷ h) tail behind rest e (inr n) none =
    let k : c ∷ d ∷ b ∷ h ≡ codes "%%" ++ 10 ∷ h = cc in
    begins_unmarked (10 ∷ h) h (inr refl) (subst HasNoMark k none)

goes_on_not : (input text rest other last : List ℕ) → IsMarked input text rest → IsMarked input other last → GoesOn text other → ⊥
goes_on_not input text rest other last m n (c, h, e) =
    let none = no_mark_behind other (c ∷ h) n.whole (subst HasNoMark e m.first) in
    let one : input ≡ other ++ ((c ∷ h) ++ (codes "%%" ++ m.tail)) = m.parts ∙ append_assoc text (codes "%%") m.tail ∙ ap (λ l. l ++ (codes "%%" ++ m.tail)) e ∙ append_assoc other (c ∷ h) (codes "%%" ++ m.tail) in
    let two : input ≡ other ++ (codes "%%" ++ n.tail) = n.parts ∙ append_assoc other (codes "%%") n.tail in
    mark_within c h m.tail n.tail last (append_cancel_left other _ _ (sym one ∙ two)) n.ends none

text_once : (input text rest other last : List ℕ) → IsMarked input text rest → IsMarked input other last → text ≡ other
text_once input text rest other last m n =
    let e : text ++ (codes "%%" ++ m.tail) ≡ other ++ (codes "%%" ++ n.tail) = sym (m.parts ∙ append_assoc text (codes "%%") m.tail) ∙ n.parts ∙ append_assoc other (codes "%%") n.tail in
    elim (fronts text other (codes "%%" ++ m.tail) (codes "%%" ++ n.tail) e) [
      | inl k ↦ k
      | inr (inl k) ↦ absurd (goes_on_not input text rest other last m n k)
      | inr (inr k) ↦ absurd (goes_on_not input other last text rest n m k)
    ]

rest_once : (tail rest last : List ℕ) → EndsBefore tail rest → EndsBefore tail last → rest ≡ last
rest_once tail rest last (inl a) (inl b) = cc
rest_once tail rest last (inl a) (inr b) = absurd cc
rest_once tail rest last (inr a) (inl b) = absurd cc
rest_once tail rest last (inr a) (inr b) = cc

marked_once : (input text rest other last : List ℕ) → IsMarked input text rest → IsMarked input other last → (text ≡ other) × (rest ≡ last)
marked_once input text rest other last m n =
    let e = text_once input text rest other last m n in
    let k : other ++ codes "%%" ++ m.tail ≡ other ++ codes "%%" ++ n.tail = ap (λ l. l ++ codes "%%" ++ m.tail) (sym e) ∙ sym m.parts ∙ n.parts in
    let tails : m.tail ≡ n.tail = append_cancel_left (other ++ codes "%%") m.tail n.tail k in
    (e, rest_once n.tail rest last (subst (λ (l : List ℕ). EndsBefore l rest) tails m.ends) n.ends)

-- an input is parted in one way
pub parted_once : (input text rest other last : List ℕ) → IsParted input text rest → IsParted input other last → (text ≡ other) × (rest ≡ last)
parted_once input text rest other last (inl m) (inl n) = marked_once input text rest other last m n
parted_once input text rest other last (inl m) (inr n) = absurd (marked_or_not input text rest m n.0)
parted_once input text rest other last (inr m) (inl n) = absurd (marked_or_not input other last n m.0)
parted_once input text rest other last (inr m) (inr n) = (m.1 ∙ sym n.1, m.2 ∙ sym n.2)

-- the text isn't longer than the input
pub parted_length : (input text rest : List ℕ) → IsParted input text rest → length text ≤ length input
parted_length input text rest (inl m) = let e = simp length-append at (ap length m.parts) in omega arith
parted_length input text rest (inr m) = let e = ap length m.1 in omega arith
