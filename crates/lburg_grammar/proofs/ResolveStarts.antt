-- The start symbol's place.
use Rattle.std.proofs.Common.{◌≡◌, ℕ, List, Option, Some, sym, subst}
use Rattle.std.specs.Prelude.{option_map, option_to_list}
use Rattle.std.specs.Borrow.{Bor}
use Rattle.lcc_text.specs.Names.{place_of}
use Rattle.lcc_text.proofs.lemmas.Places.{place_some}
use Rattle.lburg_grammar.specs.Places.{StartFor}

module _ (ns : List (List ℕ)) (start : Option (Bor (List ℕ))) (name : Bor (List ℕ)) (is : start ≡ Some name) where
  pub start_known : (place : ℕ) → place_of ns name.now ≡ Some place → StartFor ns (option_to_list (option_map (λ n. n.now) start)) place
  start_known place e = subst (λ (s : Option (Bor (List ℕ))). StartFor ns (option_to_list (option_map (λ n. n.now) s)) place) (sym is) (place_some ns name.now place e)
