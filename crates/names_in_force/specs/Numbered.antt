-- Bindings by the numbers of their names, and what each hides.
use Rattle.std.specs.Prelude.{ℕ, ◌≡◌, ◌<◌, ◌==◌, Bool, false, if◌then◌else◌, List, [], ◌∷◌, length, map, reverse, get_or, Vec}
use Rattle.std.specs.List.{AllByRecursion}
use Rattle.std.specs.declared.alloc.Global.{Global}
use Rattle.c_ast.specs.InForce.{Binding}
use Rattle.names_in_force.specs.Stacked.{Stacked}
use Rattle.names_in_force.specs.declared.bound.Bound.{Bound}

-- the names that have numbers, each with whether it is a typedef name
abbrev pub Known : Type 0
Known = List (Vec ℕ Global × Bool)

abbrev pub names_in : Known → List (List ℕ)
names_in known = map (λ e. e.0.items) known

abbrev pub typedefs_in : Known → List Bool
typedefs_in known = map (λ e. e.1) known

abbrev pub named : List (List ℕ) → Bound → Binding
named names b = record { name = get_or names b.number []; typedef = b.typedef }

abbrev pub stacked : Known → List Bound → List Bound → Stacked
stacked known bound kept = record { names = names_in known; bound = map (named (names_in known)) bound; kept = map (named (names_in known)) kept }

-- whether the first binding of the number makes it a typedef name: of the newest, where the newest is first
abbrev pub made : List Bound → ℕ → Bool
made [] n = false
made (b ∷ bs) n = if b.number == n then b.typedef else made bs n

-- each binding has what it hides, where the newest is first
abbrev pub Hide : List Bound → Type 0
Hide [] = Unit {0}
Hide (b ∷ bs) = (b.before ≡ made bs b.number) × Hide bs

abbrev pub HaveNames : Known → List Bound → Type 0
HaveNames known bs = AllByRecursion (λ b. b.number < length known) bs

-- each number has a name, each binding has what it hides, and each name what its newest binding makes it
pub record AreNumbered (known : Known) (bound kept : List Bound) : Type 0 where
  pub of_bound : HaveNames known bound
  pub of_kept : HaveNames known kept
  pub hidden : Hide (reverse bound)
  pub newest : (n : ℕ) → n < length known → get_or (typedefs_in known) n false ≡ made (reverse bound) n
