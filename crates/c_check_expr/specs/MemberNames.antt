-- The names of members, of which one without a name has the empty one.
use Rattle.std.specs.Prelude.{◌≡◌, ℕ, Bool, false, ◌||◌, Option, Some, None, List, [], ◌∷◌, Vec}
use Rattle.std.specs.declared.alloc.Global.{Global}
use Rattle.std.specs.List.{list_any}
use Rattle.std.specs.Str.{bytes_eq}
use Rattle.c_types.specs.declared.type_form.Member.{Member}

abbrev pub has_member : List Member → List ℕ → Bool
has_member [] name = false
has_member (m ∷ ms) name = bytes_eq name m.name || has_member ms name

-- a member of this name would repeat one of these
abbrev pub is_repeated : List Member → Option (List ℕ) → Bool
is_repeated ms (Some name) = has_member ms name
is_repeated ms None = false

-- the keys are the members' names
pub record AreNamed (keys : List (Vec ℕ Global)) (ms : List Member) : Type 0 where
  pub same : (name : List ℕ) → list_any (λ k. bytes_eq name k.items) keys ≡ has_member ms name
