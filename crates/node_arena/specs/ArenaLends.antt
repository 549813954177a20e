-- What an arena ends as, once a `&mut` to one of its values has ended.
use Rattle.std.specs.Prelude.{ℕ, slice_set}
use Rattle.std.specs.Borrow.{Fml, RattleType, MutBor, Lends}
use Rattle.node_arena.specs.Values.{Values, arena_of}
use Rattle.node_arena.specs.contracts.arena.Arena.{the_row}

module _ (T : RattleType) (arena : MutBor (Values T.Denot)) where
  -- the value with the id is the last one written through r
  abbrev pub LendsValue : ℕ → MutBor T.Denot → Fml
  LendsValue id r =
      Lends (the_row T) T arena r (λ w. arena_of (slice_set arena.now.values id w) arena.now.spare)
