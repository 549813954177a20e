use Rattle.std.proofs.Common.{◌≡◌, ℕ, false, drop, get_or, length}
use Rattle.std.specs.Prelude.{◌||◌}
use Rattle.c_units.specs.Ends.{is_link}
use Rattle.c_unit_ends.proofs.links.linked_symbols.Given as goal

abbrev pub invariant-loop-place : goal.invariant-loop-place
invariant-loop-place l =
    record {
      many : length l.linked.items ≡ l.fn.symbols;
      marks : (k : ℕ) → (get_or l.linked.items k false || is_link (drop l.place l.links) k) ≡ is_link l.links k;
    }
