-- A state goes on from an earlier one in the same block.
use Rattle.std.specs.Prelude.{◌≡◌}
use Rattle.lowered_forms.specs.Later.{IsFront}
use Rattle.lowered_forms.specs.Lows.{Low}

pub record Extends (l m : Low) : Type 0 where
  pub pieces : m.pieces ≡ l.pieces
  pub entries : IsFront l.entries m.entries
  pub slots : IsFront l.slots m.slots
