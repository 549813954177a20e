-- The lines of a description as they are written, and what they declare.
use Rattle.std.specs.Prelude.{List, [], ◌∷◌, ◌++◌, ℕ}
use Rattle.lburg_lines.specs.Grammar.{MLine, Declared, Ruled, MRule, Starts, Declares, MNumbered, IsLine}
use Rattle.lburg_lines.specs.Sections.{TokenLine}

-- line for line
abbrev pub AreWritten : List TokenLine → List MLine → Type 0
AreWritten [] [] = Unit {0}
AreWritten (l ∷ ls) (w ∷ ws) = IsLine l.section l.tokens w × AreWritten ls ws
AreWritten ls ws = ⊥

-- the rules, in order
abbrev pub rules_in : List MLine → List MRule
rules_in [] = []
rules_in (Ruled r ∷ ws) = r ∷ rules_in ws
rules_in (w ∷ ws) = rules_in ws

-- the terminals, in order
abbrev pub terminals_in : List MLine → List MNumbered
terminals_in [] = []
terminals_in (Declared (Declares ts) ∷ ws) = ts ++ terminals_in ws
terminals_in (w ∷ ws) = terminals_in ws

-- the names of lines %start
abbrev pub starts_in : List MLine → List (List ℕ)
starts_in [] = []
starts_in (Declared (Starts name) ∷ ws) = name ∷ starts_in ws
starts_in (w ∷ ws) = starts_in ws
