-- When the call of forests, at some number of root steps, is no further than the call of C, and on the same way.
-- Source: X. Leroy, Formal verification of a realistic compiler, Communications of the ACM 52(7), 2009, section 2 (semantic preservation, observable behaviours).
use Rattle.std.specs.Prelude.{◌≡◌, ℕ, Option, Some, None, [], ◌∷◌}
use Rattle.lcc_base.specs.Prefixes.{Starts}
use Rattle.objects.specs.declared.value.Value.{Value}
use Rattle.forests.specs.Worlds.{Next, Effect, Went, Exits, Unfinished}
use Rattle.c_runs.specs.Outcomes.{Undefined, OutOfTurns, Exit, Result, Gives, GivesNone, Ends}
use Rattle.c_runs.specs.Worlds as c
use Rattle.c_agreement.specs.Pairs.{CallPair}
use Rattle.c_agreement.specs.Results.{Later, Returned}

-- C's call has returned: that of forests has, too, and alike, or what was seen of it C's trace goes on from
abbrev pub IsBehindReturn : CallPair → Option Value → c.World → Effect → Type 0
IsBehindReturn s v old (Went (word ∷ []) p Next) = Returned s v old word p.world
IsBehindReturn s v old (Unfinished new) = Starts new.trace old.trace
IsBehindReturn s v old e = ⊥

-- the same where it has exited
abbrev pub IsBehindExit : CallPair → ℕ → c.World → Effect → Type 0
IsBehindExit s status old (Exits other new) = (other ≡ status) × Later s old new
IsBehindExit s status old (Unfinished new) = Starts new.trace old.trace
IsBehindExit s status old e = ⊥

-- the same where its turns are spent: that of forests isn't over
abbrev pub IsBehindTurns : c.World → Effect → Type 0
IsBehindTurns old (Unfinished new) = Starts new.trace old.trace
IsBehindTurns old e = ⊥

-- it is never stuck, unless C's call is undefined
abbrev pub IsBehind : CallPair → Effect → Result → Type 0
IsBehind s e (Gives v turns old) = IsBehindReturn s (Some v) old e
IsBehind s e (GivesNone line turns old) = IsBehindReturn s None old e
IsBehind s e (Ends (Undefined cause line) old) = Unit {0}
IsBehind s e (Ends OutOfTurns old) = IsBehindTurns old e
IsBehind s e (Ends (Exit status) old) = IsBehindExit s status old e
