-- The order of keys.
use Rattle.std.specs.Prelude.{◌≡◌, ◌≤◌}
use Rattle.place_queue.specs.declared.key.Key.{Key}

-- k is no greater: by cost, at equal cost by count
abbrev pub Leq : Key → Key → Type 0
Leq k k' = (k.cost ≤ k'.cost) × (k.cost ≡ k'.cost → k.count ≤ k'.count)
