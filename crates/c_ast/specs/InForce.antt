-- The names in force, by scope, and which of them are typedef names.
-- Source: C89 3.1.2.1 and 3.5.6.
use Rattle.std.specs.Prelude.{ℕ, Bool, false, if◌then◌else◌, List, [], ◌∷◌}
use Rattle.std.specs.Str.{bytes_eq}

-- a name in force, and whether it is a typedef name
pub record Binding : Type 0 where
  pub name : List ℕ
  pub typedef : Bool

-- the open scopes, the innermost first, in each the newest name first; and the names of the last declarator's own parameter
-- list, which are in force again in a function's body
pub record InForce : Type 0 where
  pub scopes : List (List Binding)
  pub kept : List Binding

-- file scope
abbrev pub nothing_in_force : InForce
nothing_in_force = record { scopes = [] ∷ []; kept = [] }

abbrev pub look_in : List Binding → List ℕ → Bool → Bool
look_in [] name other = other
look_in (b ∷ bs) name other = if bytes_eq b.name name then b.typedef else look_in bs name other

abbrev pub look : List (List Binding) → List ℕ → Bool
look [] name = false
look (s ∷ ss) name = look_in s name (look ss name)

-- the innermost declaration in force makes it a typedef name
abbrev pub is_typedef : InForce → List ℕ → Bool
is_typedef names name = look names.scopes name

abbrev pub put_in : List (List Binding) → Binding → List (List Binding)
put_in [] b = (b ∷ []) ∷ []
put_in (s ∷ ss) b = (b ∷ s) ∷ ss

abbrev pub outer : List (List Binding) → List (List Binding)
outer [] = []
outer (s ∷ ss) = ss

abbrev pub inner : List (List Binding) → List Binding
inner [] = []
inner (s ∷ ss) = s

-- the name comes into force in the innermost scope
abbrev pub put : InForce → List ℕ → Bool → InForce
put names name typedef = record { scopes = put_in names.scopes record { name = name; typedef = typedef }; kept = names.kept }

-- a scope begins; it ends; it ends, and its names are kept; one begins with the names that were kept; none are kept
abbrev pub opened : InForce → InForce
opened names = record { scopes = [] ∷ names.scopes; kept = names.kept }

abbrev pub closed : InForce → InForce
closed names = record { scopes = outer names.scopes; kept = names.kept }

abbrev pub closed_kept : InForce → InForce
closed_kept names = record { scopes = outer names.scopes; kept = inner names.scopes }

abbrev pub reopened : InForce → InForce
reopened names = record { scopes = names.kept ∷ names.scopes; kept = [] }

abbrev pub forgotten : InForce → InForce
forgotten names = record { scopes = names.scopes; kept = [] }
