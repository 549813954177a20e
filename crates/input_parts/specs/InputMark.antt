-- The line `%%` that parts an input: before it stands a text, and behind its end what the text's program reads.
use Rattle.std.specs.Prelude.{◌≡◌, ◌≢◌, ◌⊎◌, ℕ, List, [], ◌∷◌, ◌++◌, All, codes}
use Rattle.lcc_text.specs.Lines.{lines_of}

-- no line of the text is `%%`
abbrev pub HasNoMark : List ℕ → Type 0
HasNoMark text = All (λ line. line ≢ codes "%%") (lines_of text)

-- the text has whole lines: it is empty or ends with a line feed
abbrev pub IsWhole : List ℕ → Type 0
IsWhole text = (text ≡ []) ⊎ ((front : List ℕ) × (text ≡ front ++ 10 ∷ []))

-- the line ends with the text, or with a line feed and these bytes stand behind it
abbrev pub EndsBefore : List ℕ → List ℕ → Type 0
EndsBefore tail rest = ((tail ≡ []) × (rest ≡ [])) ⊎ (tail ≡ 10 ∷ rest)

-- the first line that is `%%` stands behind the text, and before the rest
pub record IsMarked (input text rest : List ℕ) : Type 0 where
  pub tail : List ℕ
  pub parts : input ≡ text ++ codes "%%" ++ tail
  pub whole : IsWhole text
  pub first : HasNoMark text
  pub ends : EndsBefore tail rest

-- the input is parted by a line `%%`, or has none, and is a text alone
abbrev pub IsParted : List ℕ → List ℕ → List ℕ → Type 0
IsParted input text rest = IsMarked input text rest ⊎ (HasNoMark input × (text ≡ input) × (rest ≡ []))
