-- What stands before tokens in their line: how many parentheses are open there, and how many names came.
use Rattle.std.specs.Prelude.{ℕ}

pub record Before : Type 0 where
  pub opened : ℕ
  pub names : ℕ

-- so many parentheses are open, and so many names came
abbrev pub placed : ℕ → ℕ → Before
placed o n = record { opened = o; names = n }

-- nothing stands before a line
abbrev pub nothing : Before
nothing = record { opened = 0; names = 0 }
