-- The texts of a unit that keeps the limits of the lowering have no more bytes than an object.
use Rattle.std.proofs.Common.{◌≤◌, ◌+◌, ℕ, List, [], ◌∷◌, length, map, arith}
use Rattle.c_meaning.specs.Each.{EachIs}
use Rattle.c_runs.specs.Counts.{eights, sum}
use Rattle.c_checked_units.specs.Laws.{TextsAreShort}
use Rattle.c_checked_units.specs.Moves.{IsObjectSize}

rounded_more : (n : ℕ) → n ≤ eights n
rounded_more n = omega arith

texts_within : (ts : List (List ℕ)) → sum (map (λ (t : List ℕ). eights (length t + 1)) ts) ≤ 16777216 → EachIs (λ (t : List ℕ). IsObjectSize (length t + 1)) ts
texts_within [] h = tt
texts_within (t ∷ ts) h = ((let l = rounded_more (length t + 1) in omega (arith, h, l)), texts_within ts (omega (arith, h)))

pub texts_short : TextsAreShort
texts_short u h = let l = h.bytes in texts_within u.texts (omega (arith, l))
