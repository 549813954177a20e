-- How the first line of a text ends, and the lines of a text behind whole lines.
use Rattle.std.proofs.Common.{◌≡◌, ◌⊎◌, ℕ, true, false, eqb, List, [], ◌∷◌, ◌++◌, refl, sym, ap, subst, ◌∙◌, inl, inr, append_assoc}
use Rattle.std.proofs.lemmas.Bool.Decides.{eqb_tells}
use Rattle.lcc_text.specs.Lines.{lines_of, with_byte}
use Rattle.input_parts.specs.InputMark.{IsWhole}

at_feed : (b : ℕ) (bs : List ℕ) → eqb b 10 ≡ true → lines_of (b ∷ bs) ≡ [] ∷ lines_of bs
at_feed b bs e = rw e refl

at_other : (b : ℕ) (bs : List ℕ) → eqb b 10 ≡ false → lines_of (b ∷ bs) ≡ with_byte b (lines_of bs)
at_other b bs e = rw e refl

with_byte_some : (b : ℕ) (lines : List (List ℕ)) → with_byte b lines ≡ [] → ⊥
with_byte_some b [] e = cc
with_byte_some b (line ∷ lines) e = cc

-- a text with no line is empty
pub no_line : (text : List ℕ) → lines_of text ≡ [] → text ≡ []
no_line [] e = refl
no_line (b ∷ bs) e =
    elim (eqb_tells b 10) [
      | inl t ↦ (let k = sym (at_feed b bs t.0) ∙ e in cc)
      | inr t ↦ absurd (with_byte_some b (lines_of bs) (sym (at_other b bs t.0) ∙ e))
    ]

-- The text is its first line alone, or a line feed ends that line.
abbrev pub Ends : List ℕ → List ℕ → Type 0
Ends text line =
    ((text ≡ line) × (lines_of line ≡ line ∷ []))
    ⊎ ((rest : List ℕ) × (text ≡ line ++ 10 ∷ rest) × (lines_of (line ++ 10 ∷ []) ≡ line ∷ []))

longer : (b : ℕ) (bs line : List ℕ) → eqb b 10 ≡ false → Ends bs line → Ends (b ∷ bs) (b ∷ line)
longer b bs line e (inl h) = inl (ap (λ l. b ∷ l) h.0, at_other b line e ∙ ap (with_byte b) h.1)
longer b bs line e (inr h) = inr (h.0, ap (λ l. b ∷ l) h.1, at_other b (line ++ 10 ∷ []) e ∙ ap (with_byte b) h.2)

alone : (b : ℕ) (bs : List ℕ) → eqb b 10 ≡ false → lines_of bs ≡ [] → Ends (b ∷ bs) (b ∷ [])
alone b bs e h = inl (ap (λ l. b ∷ l) (no_line bs h), at_other b [] e)

line_fed : (b : ℕ) (bs line : List ℕ) (lines : List (List ℕ)) → b ≡ 10 → [] ∷ lines_of bs ≡ line ∷ lines → Ends (b ∷ bs) line
line_fed b bs line lines t e = let k : [] ≡ line = cc in subst (Ends (b ∷ bs)) k (inr (bs, cc, refl))

line_longer : (b : ℕ) (bs line : List ℕ) (lines : List (List ℕ)) → ((l : List ℕ) (ls : List (List ℕ)) → lines_of bs ≡ l ∷ ls → Ends bs l) → eqb b 10 ≡ false → with_byte b (lines_of bs) ≡ line ∷ lines → Ends (b ∷ bs) line
line_longer b bs line lines more t h = settled (lines_of bs) refl where
  settled : (ls : List (List ℕ)) → lines_of bs ≡ ls → Ends (b ∷ bs) line
  settled [] e =
      let k : (b ∷ []) ∷ [] ≡ line ∷ lines = sym (ap (with_byte b) e) ∙ h in
      let n : b ∷ [] ≡ line = cc in
      subst (Ends (b ∷ bs)) n (alone b bs t e)
  settled (l ∷ ls) e =
      let k : (b ∷ l) ∷ ls ≡ line ∷ lines = sym (ap (with_byte b) e) ∙ h in
      let n : b ∷ l ≡ line = cc in
      subst (Ends (b ∷ bs)) n (longer b bs l t (more l ls e))

-- how the first line ends
pub line_ends : (text line : List ℕ) (lines : List (List ℕ)) → lines_of text ≡ line ∷ lines → Ends text line
line_ends [] line lines h = absurd cc
line_ends (b ∷ bs) line lines h =
    elim (eqb_tells b 10) [
      | inl t ↦ line_fed b bs line lines t.1 (sym (at_feed b bs t.0) ∙ h)
      | inr t ↦ line_longer b bs line lines (λ l ls e. line_ends bs l ls e) t.0 (sym (at_other b bs t.0) ∙ h)
    ]

with_byte_more : (b : ℕ) (text : List ℕ) (lines : List (List ℕ)) → (text ≡ [] → ⊥) → with_byte b (lines_of text ++ lines) ≡ with_byte b (lines_of text) ++ lines
with_byte_more b text lines h = settled (lines_of text) refl where
  settled : (first : List (List ℕ)) → lines_of text ≡ first → with_byte b (first ++ lines) ≡ with_byte b first ++ lines
  settled [] e = absurd (h (no_line text e))
  settled (l ∷ ls) e = refl

lines_fed : (front rest : List ℕ) → lines_of (front ++ 10 ∷ rest) ≡ lines_of (front ++ 10 ∷ []) ++ lines_of rest
lines_fed [] rest = refl
lines_fed (b ∷ bs) rest =
    elim (eqb_tells b 10) [
      | inl t ↦ rw (at_feed b (bs ++ 10 ∷ rest) t.0, at_feed b (bs ++ 10 ∷ []) t.0) (ap (λ l. [] ∷ l) (lines_fed bs rest))
      | inr t ↦ rw (at_other b (bs ++ 10 ∷ rest) t.0, at_other b (bs ++ 10 ∷ []) t.0, lines_fed bs rest) (with_byte_more b (bs ++ 10 ∷ []) (lines_of rest) (not_empty bs))
    ] where
      not_empty : (front : List ℕ) → front ++ 10 ∷ [] ≡ [] → ⊥
      not_empty [] e = cc
      not_empty (c ∷ cs) e = cc

-- the lines of whole lines and then those of what stands behind them
pub lines_behind : (text rest : List ℕ) → IsWhole text → lines_of (text ++ rest) ≡ lines_of text ++ lines_of rest
lines_behind text rest (inl e) = rw e refl
lines_behind text rest (inr h) = rw (h.1, append_assoc h.0 (10 ∷ []) rest) (lines_fed h.0 rest)
