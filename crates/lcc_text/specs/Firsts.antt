-- Where something stands in a text, and which of several such places is the first.
use Rattle.std.specs.Prelude.{◌≡◌, ◌≤◌, ◌<◌, ◌⊎◌, ℕ}

-- A line, from 1; a token of it, from 0, or the line's end, which is the number of its tokens; and a row of a
-- table, by its number, which says what stands there.
pub record Place : Type 0 where
  pub line : ℕ
  pub token : ℕ
  pub row : ℕ

-- The one place isn't behind the other: an earlier line goes first, within a line what is further left, at one
-- token the earlier row of the table.
abbrev pub NotBehind : Place → Place → Type 0
NotBehind p q = (p.line < q.line) ⊎ ((p.line ≡ q.line) × ((p.token < q.token) ⊎ ((p.token ≡ q.token) × (p.row ≤ q.row))))

-- something stands at the place, and nothing stands before it
pub record IsFirst (Stands : Place → Type 0) (p : Place) : Type 0 where
  pub stands : Stands p
  pub least : (q : Place) → Stands q → NotBehind p q
