-- The test of marks is what it tests.
use Rattle.std.proofs.Common.{◌≡◌, Bool, true, false, not, ◌&&◌, List, [], ◌∷◌, refl}
use Rattle.c_ast.specs.InForce.{InForce, is_typedef, put, opened, closed, closed_kept, reopened, forgotten}
use Rattle.c_ast.specs.Marks.{Mark, Tok, Plain, Typed, Here, Ask, Put, Open, Close, Keep, Reopen, Forget, holds, tokens_of}
use Rattle.c_ast.specs.Spell.{Classed}
use Rattle.c_ast.specs.Examples.{agrees, are_classed}

both_first : (a b : Bool) → (a && b) ≡ true → a ≡ true
both_first true b h = refl
both_first false b h = h

both_second : (a b : Bool) → (a && b) ≡ true → b ≡ true
both_second true b h = h
both_second false b h = absurd cc

not_it : (a : Bool) → not a ≡ true → a ≡ false
not_it true h = absurd cc
not_it false h = refl

agreed : (a b : Bool) → agrees a b ≡ true → a ≡ b
agreed true true h = refl
agreed true false h = absurd cc
agreed false true h = absurd cc
agreed false false h = refl

pub classed : (ms : List Mark) (names : InForce) → are_classed ms names ≡ true → Classed ms names
classed [] names h = tt
classed (Tok l ∷ ms) names h = classed ms names h
classed (Plain n ∷ ms) names h = (not_it (is_typedef names n) (both_first (not (is_typedef names n)) (are_classed ms names) h), classed ms names (both_second (not (is_typedef names n)) (are_classed ms names) h))
classed (Typed n ∷ ms) names h = (both_first (is_typedef names n) (are_classed ms names) h, classed ms names (both_second (is_typedef names n) (are_classed ms names) h))
classed (Here line ∷ ms) names h = classed ms names h
classed (Ask q b ∷ ms) names h = (agreed (holds q names (tokens_of ms)) b (both_first (agrees (holds q names (tokens_of ms)) b) (are_classed ms names) h), classed ms names (both_second (agrees (holds q names (tokens_of ms)) b) (are_classed ms names) h))
classed (Put n k ∷ ms) names h = classed ms (put names n k) h
classed (Open ∷ ms) names h = classed ms (opened names) h
classed (Close ∷ ms) names h = classed ms (closed names) h
classed (Keep ∷ ms) names h = classed ms (closed_kept names) h
classed (Reopen ∷ ms) names h = classed ms (reopened names) h
classed (Forget ∷ ms) names h = classed ms (forgotten names) h
