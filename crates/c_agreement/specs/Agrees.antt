-- A function of forests agrees with one of C: each call of it that begins alike comes to the same, in both directions.
-- Source: ISO/IEC 9899:1990, 5.1.2.3 (program execution); Leroy, A formally verified compiler back-end (forward and backward simulations).
use Rattle.std.specs.Prelude.{◌≡◌, ◌<◌, ℕ, length}
use Rattle.op_forest.specs.Lowered.{LoweredUnit}
use Rattle.forests.specs.Worlds.{World}
use Rattle.c_meaning.specs.Units.{UnitTree}
use Rattle.c_runs.specs.Calls.{Call}
use Rattle.c_match.specs.Ranges.{Map}
use Rattle.c_agreement.specs.Pairs.{CallPair, pair_of, source_run, target_run}
use Rattle.c_agreement.specs.Called.{IsCalled}
use Rattle.c_agreement.specs.CameTo.{CameTo}
use Rattle.c_agreement.specs.Behind.{IsBehind}

-- each call of the function of this number that begins alike
abbrev pub EachCall : UnitTree → LoweredUnit → ℕ → (CallPair → Type 0) → Type 0
EachCall u l function P = (a : Call) (map : Map) (w : World) → a.function ≡ function → IsCalled (pair_of u l a map w) → P (pair_of u l a map w)

-- whatever C's call comes to with so many turns, that of forests comes to
abbrev pub ComesWith : UnitTree → LoweredUnit → ℕ → ℕ → Type 0
ComesWith u l function k = EachCall u l function (λ s. CameTo s k (source_run s k))

abbrev pub Comes : UnitTree → LoweredUnit → ℕ → Type 0
Comes u l function = (k : ℕ) → ComesWith u l function k

-- and however far that of forests is, C's comes as far with as many turns
abbrev pub StaysBehind : UnitTree → LoweredUnit → ℕ → Type 0
StaysBehind u l function = (m : ℕ) → EachCall u l function (λ s. IsBehind s (target_run s m) (source_run s m))

pub record Agrees (u : UnitTree) (l : LoweredUnit) (function : ℕ) : Type 0 where
  pub came : Comes u l function
  pub behind : StaysBehind u l function

-- each function of the unit
abbrev pub UnitAgrees : UnitTree → LoweredUnit → Type 0
UnitAgrees u l = (function : ℕ) → function < length u.functions → Agrees u l function
