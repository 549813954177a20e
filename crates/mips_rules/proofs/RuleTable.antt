-- The rules of the program's table are those of the definition.
use Rattle.std.specs.Prelude.{◌≡◌, ℕ, zero, suc, ◌≤◌, ◌-◌, Some, List, [], ◌∷◌, map, slice_get}
use Rattle.std.proofs.Common.{ap, ◌∙◌, arith}
use Rattle.frame_rules.specs.declared.action.Action.{Action}
use Rattle.frame_rules.specs.Rows.{Line}
use Rattle.mips_rules.specs.MipsRows.{lines}
use Rattle.frame_rules.specs.FrameRules.{action_in}
use Rattle.mips_rules.specs.MipsRules.{action_at}

found : (ls : List Line) (place : ℕ) (r : Action) → slice_get (map (λ l. l.action) ls) place ≡ Some r → r ≡ action_in (slice_get ls place)
found [] place r e = absurd cc
found (l ∷ ls) zero r e = cc
found (l ∷ ls) (suc place) r e = found ls place r e

pub action_is : (rule : ℕ) (r : Action) → 1 ≤ rule → slice_get (map (λ l. l.action) lines) (rule - 1) ≡ Some r → r ≡ action_at rule
action_is rule r some e = found lines (rule - 1) r e ∙ ap action_at (next rule some)
  where
    next : (n : ℕ) → 1 ≤ n → suc (n - 1) ≡ n
    next n h = omega (arith, h)
