-- A tag in the innermost scope that stands for no enumeration, or for one whose list has stood.
use Rattle.std.specs.Prelude.{ℕ, Bool, ◌||◌, Some}
use Rattle.c_meaning.specs.State.{State}
use Rattle.c_meaning.specs.TypeConstraints.{has_stood, is_other_enumeration}

abbrev pub is_listed : State → ℕ → Bool
is_listed s id = is_other_enumeration s (Some id) || has_stood s (Some id)
