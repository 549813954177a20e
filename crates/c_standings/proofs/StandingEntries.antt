-- Symbols with what they stand for, as a map's entries.
use Rattle.std.proofs.Common.{◌≡◌, ℕ, Bool, cond, List, [], ◌∷◌, refl, ap, ◌∙◌, arith}
use Rattle.std.proofs.lemmas.Bool.Decides.{nat_tests}
use Rattle.std.specs.Prelude.{Option, Some, nat_eq}
use Rattle.std.specs.Map.{lookup}
use Rattle.c_standings.specs.StandingLists.{of_symbol}

alike : (x y : ℕ) → nat_eq x y ≡ nat_eq y x
alike x y = grind (arith, nat_tests)

pub found_entry : {A : Type 0} (es : List (ℕ × A)) (id : ℕ) → lookup (nat_eq id) es ≡ of_symbol es id
found_entry [] id = refl
found_entry {A} (e ∷ es) id = ap (λ (b : Bool). cond b (Some e.1) (lookup (nat_eq id) es)) (alike id e.0) ∙ ap (λ (o : Option A). cond (nat_eq e.0 id) (Some e.1) o) (found_entry es id)
