-- A visitor's run.
use Rattle.std.specs.Prelude.{◌≡◌, ℕ, List, [], ◌∷◌}
use Rattle.lburg_model.specs.Tree.{MTree}

-- the visitor goes from one state to another over these rules, each with a node that is its tree
abbrev pub Runs : {N V : Type 0} → (N → MTree) → (V → ℕ → N → V → Type 0) → List (ℕ × MTree) → V → V → Type 0
Runs tree step [] s s' = s ≡ s'
Runs {N} {V} tree step (x ∷ xs) s s' = (node : N) × (m : V) × (tree node ≡ x.1) × step s x.0 node m × Runs tree step xs m s'
