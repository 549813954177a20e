-- Where a tree's run may go on: behind it; with a return at its root to the caller; with a comparison or a jump at its
-- root at a label.
use Rattle.std.proofs.Common.{◌≡◌}
use Rattle.forests.specs.Worlds.{Move, Next, To, End, Effect, Went, Exits, Unfinished, Stuck}

-- the effect, where it goes on, goes on so
abbrev pub Goes : (Move → Type 0) → Effect → Type 0
Goes M (Went ws p mv) = M mv
Goes M (Exits status w) = Unit {0}
Goes M (Unfinished w) = Unit {0}
Goes M Stuck = Unit {0}

abbrev pub IsNext : Move → Type 0
IsNext mv = mv ≡ Next

abbrev pub IsNoJump : Move → Type 0
IsNoJump Next = Unit {0}
IsNoJump (To l) = ⊥
IsNoJump (End v) = Unit {0}
