-- What waits for a turn, as what is under way.
use Rattle.c_eval.specs.declared.focus.Focus.{Focus}
use Rattle.c_eval.specs.declared.focus.Focus.TheVariants as at
use Rattle.c_eval.specs.declared.turns.Waiting.{Waiting}
use Rattle.c_eval.specs.declared.turns.Waiting.TheVariants as on

abbrev pub waits : Waiting → Focus
waits (on.Repeat s) = at.Repeat s
waits (on.Jump ss l) = at.Jump ss l
waits (on.Invoke n) = at.Invoke n
waits (on.Over how) = at.Over how
