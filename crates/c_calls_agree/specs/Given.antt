-- What a call in forests comes to, where C's call comes to this: it begins in a world that stands for C's, with its argument words.
-- Source: ISO/IEC 9899:1990, 6.3.2.2 (function calls), 7.9.7 and 7.10.4; Fraser and Hanson, A Retargetable C Compiler, chapter 5 (CALL).
use Rattle.std.specs.Prelude.{◌≡◌, ◌≤◌, ◌⊎◌, ℕ, suc, ◌+◌, Option, Some, None, [], ◌∷◌}
use Rattle.objects.specs.declared.value.Value.{Value}
use Rattle.forests.specs.Budgets.{with_left}
use Rattle.forests.specs.Meaning.{call_of}
use Rattle.forests.specs.Words.{Word, IsWord}
use Rattle.forests.specs.Worlds.{World, Next, Went, Exits, Unfinished}
use Rattle.c_runs.specs.Outcomes.{Undefined, OutOfTurns, Exit, Result, Gives, GivesNone, Ends}
use Rattle.c_runs.specs.Worlds as c
use Rattle.c_match.specs.Left.{IsPrivate, IsLeft}
use Rattle.c_match.specs.Ranges.{Map, Grown}
use Rattle.c_match_worlds.specs.Matches.{Matches}
use Rattle.c_agreement.specs.Results.{IsGiven}
use Rattle.c_expr_agreement.specs.Scenes.{Scene}

-- the word of what is given, if something is; of a structure, for which there is a place, it may be any
abbrev pub IsCallGiven : Option Value → Map → Option Value → Word → Type 0
IsCallGiven place map None u = Unit {0}
IsCallGiven place map (Some v) u = IsGiven place map v u

-- It returns, and each turn that was spent is paid by a step, or by the root in which the call is. Objects that had ranges have the same; those that
-- held nothing of C hold nothing still, and are as they were; and no argument word waits.
pub record CallReturned (s : Scene) (map : Map) (before : c.World) (first : World) (k function : ℕ) (place v : Option Value) (j : ℕ) (old : c.World) : Type 0 where
  pub steps : ℕ
  pub word : Word
  pub world : World
  pub runs : call_of s.body.program function (with_left steps first) ≡ Went (word ∷ []) (with_left 0 world) Next
  pub paid : k ≤ suc steps + j
  pub fewer : j ≤ k
  pub later : Map
  pub grown : Grown map later
  pub matches : Matches s.lowered s.own later old world
  pub locals : old.locals ≡ before.locals
  pub given : IsCallGiven place later v word
  pub is_word : IsWord word
  pub left : IsLeft map (c.objects before) first.objects world.objects
  pub private : (p : ℕ) → IsPrivate map (c.objects before) p → IsPrivate later (c.objects old) p
  pub arguments : world.arguments ≡ []

-- it exits
pub record CallExited (s : Scene) (map : Map) (first : World) (function status : ℕ) (old : c.World) : Type 0 where
  pub steps : ℕ
  pub world : World
  pub runs : call_of s.body.program function (with_left steps first) ≡ Exits status world
  pub later : Map
  pub grown : Grown map later
  pub matches : Matches s.lowered s.own later old world

-- turns are spent: it isn't over with as many steps as are left, or one less, which its root takes
pub record CallStopped (s : Scene) (first : World) (k function : ℕ) (old : c.World) : Type 0 where
  pub steps : ℕ
  pub world : World
  pub runs : call_of s.body.program function (with_left steps first) ≡ Unfinished world
  pub paid : k ≤ suc steps
  pub seen : world.trace ≡ old.trace

-- or none was left for the call
abbrev pub NoneLeft : World → ℕ → c.World → Type 0
NoneLeft first k old = (k ≡ 0) × (first.trace ≡ old.trace)

-- by what C's call comes to; nothing is asked where it is undefined
abbrev pub CallCame : Scene → Map → c.World → World → ℕ → ℕ → Option Value → Result → Type 0
CallCame s map before first k function place (Gives v j old) = CallReturned s map before first k function place (Some v) j old
CallCame s map before first k function place (GivesNone line j old) = CallReturned s map before first k function place None j old
CallCame s map before first k function place (Ends (Undefined cause line) old) = Unit {0}
CallCame s map before first k function place (Ends OutOfTurns old) = CallStopped s first k function old ⊎ NoneLeft first k old
CallCame s map before first k function place (Ends (Exit status) old) = CallExited s map first function status old
