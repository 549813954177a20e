-- Symbols with what they stand for.
use Rattle.std.specs.Prelude.{ℕ, ◌==◌, Option, Some, None, List, [], ◌∷◌, if◌then◌else◌}
use Rattle.c_meaning.specs.declared.core_expr.CoreKind.{CoreKind}
use Rattle.c_meaning.specs.declared.core_expr.CoreKind.TheVariants as kind
use Rattle.c_standings.specs.declared.Standing.{Standing}
use Rattle.c_standings.specs.declared.Standing.TheVariants as standing

-- what the list has first for a symbol
abbrev pub of_symbol : {A : Type 0} → List (ℕ × A) → ℕ → Option A
of_symbol [] id = None
of_symbol (x ∷ xs) id = if x.0 == id then Some x.1 else of_symbol xs id

-- as an expression names it; a symbol that stands for nothing stays
abbrev pub kind_of : Option Standing → ℕ → CoreKind
kind_of (Some (standing.Function n)) id = kind.Function n
kind_of (Some (standing.Object n)) id = kind.Object n
kind_of (Some (standing.BuiltIn b)) id = kind.BuiltIn b
kind_of None id = kind.Symbol id

abbrev pub meant : List (ℕ × Standing) → ℕ → CoreKind
meant xs id = kind_of (of_symbol xs id) id
