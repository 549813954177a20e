-- UnknownOp: a name isn't a terminal's.
use Rattle.std.specs.Prelude.{◌≡◌, ℕ, Some, List, slice_get}
use Rattle.lburg_lines.specs.Tokens.{Tok, Word}
use Rattle.lburg_model.specs.declared.terminal.Terminal.{Terminal}
use Rattle.lburg_model.specs.Description.{MDescription, terminal_at}

-- the operator has this name
abbrev pub IsNamed : MDescription → ℕ → Terminal → List ℕ → Type 0
IsNamed d op terminal name = (terminal_at d op ≡ Some terminal) × (terminal.name ≡ name)

abbrev pub IsUnknownOp : MDescription → List Tok → ℕ → Type 0
IsUnknownOp d tokens place =
    (name : List ℕ) × (slice_get tokens place ≡ Some (Word name)) × ((op : ℕ) (terminal : Terminal) → IsNamed d op terminal name → ⊥)
