use Rattle.std.proofs.Common.{◌≡◌, ℕ, false, drop, get_or, length}
use Rattle.c_standings.specs.StandingLists.{of_symbol}
use Rattle.c_unit_ends.specs.Standing.{first_of, named_among}
use Rattle.c_unit_ends.proofs.Firsts.{unless}
use Rattle.c_unit_ends.proofs.standing.add_built_ins.Given as goal

abbrev pub invariant-loop-place : goal.invariant-loop-place
invariant-loop-place l =
    record {
      many : length l.named.items ≡ l.fn.symbols;
      named : (k : ℕ) → first_of (of_symbol l.all k) (unless (get_or l.named.items k false) (named_among (drop l.place l.links) k)) ≡ first_of (of_symbol l.fn.all k) (named_among l.links k);
    }
