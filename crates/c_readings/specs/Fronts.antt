-- That a piece is a front of the tokens that are left.
-- Source: C89 3.3 to 3.5.
use Rattle.std.specs.Prelude.{◌≡◌, ◌↔◌, ◌-◌, List, length, drop}
use Rattle.c_ast.specs.Marks.{Mark}
use Rattle.c_readings.specs.Reading.{State}
use Rattle.c_readings.specs.Exact.{RunsOn}

-- where a tree stands from one state on, and another is behind it, what is left there is the end of what was left before it
abbrev pub AreFronts : {A : Type 0} → (A → List Mark → List Mark) → Type 0
AreFronts {A = A} spelled = (s t : State) (x : A) → ((r : List Mark) → RunsOn (spelled x r) s ↔ RunsOn r t) → t.rest ≡ drop (length s.rest - length t.rest) s.rest
