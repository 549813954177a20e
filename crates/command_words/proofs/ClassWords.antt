-- Words whose bytes are all of one class.
use Rattle.std.proofs.Common.{◌≡◌, ◌≤◌, ℕ, suc, zero, Bool, true, false, List, [], ◌∷◌, length, drop, sym, ◌∙◌, arith}
use Rattle.lcc_text.specs.Classes.{AllIn, StopsIn}

-- the class stops no earlier than the word
pub stops_at_end : (class : ℕ → Bool) (word : List ℕ) (n : ℕ) → AllIn class word → StopsIn class (drop n word) → length word ≤ n
stops_at_end class [] n all stops = omega arith
stops_at_end class (b ∷ bs) zero all stops = let no : true ≡ false = sym all.0 ∙ stops in absurd cc
stops_at_end class (b ∷ bs) (suc n) all stops = let more = stops_at_end class bs n all.1 stops in omega arith
