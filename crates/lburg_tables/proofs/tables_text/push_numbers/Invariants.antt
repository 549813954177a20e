use Rattle.std.proofs.Common.{◌≡◌, ◌++◌, ◌+◌, map, take}
use Rattle.lburg_model.specs.CoverText.{spaced}
use Rattle.lburg_tables.proofs.tables_text.push_numbers.Given as goal

abbrev pub invariant-loop-place : goal.invariant-loop-place
invariant-loop-place l = l.out ≡ l.initial.out ++ spaced (map (λ place. place + 1) (take l.place-index l.places))
