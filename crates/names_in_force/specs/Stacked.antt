-- The bindings in force in one list.
use Rattle.std.specs.Prelude.{ℕ, List}
use Rattle.c_ast.specs.InForce.{Binding}

-- the names that have numbers, in the order of these, the bindings in force, and those that are kept, both the oldest first
pub record Stacked : Type 0 where
  pub names : List (List ℕ)
  pub bound : List Binding
  pub kept : List Binding
