-- A table of lines whose rules apply as their actions say, with no operator below the root of a pattern, keeps the laws of a
-- rule set on the machine of frame code.
use Rattle.std.specs.Prelude.{◌≡◌, ℕ, true, List, refl}
use Rattle.std.specs.List.{AllByRecursion}
use Rattle.vcode.specs.Patterns.{is_ordered}
use Rattle.vcode.specs.RuleSets.{Obeys}
use Rattle.frame_code.specs.FrameMachine.{Losses, frame_machine}
use Rattle.frame_rules.specs.Rows.{Line}
use Rattle.frame_rules.specs.FrameRules.{frame_rules}
use Rattle.frame_rules.specs.AppliedRules.{Inverts, applied}
use Rattle.frame_rules.specs.RuleLaws.{ordered, local, hands_by, part_registers_by, names_by, flows_by, settles_by, slots_by, marks_by, no_mark_by, no_label_by, moves_by, moves_only_by, silent_by, busy_by}
use Rattle.frame_rules.specs.RuleMeanings.{acts_by}

abbrev pub frame_obeys : (lost : Losses) (pointer : ℕ) (lines : List Line) → AllByRecursion (Inverts lines) lines → AllByRecursion (λ l. is_ordered l.row.pattern ≡ true) lines → Obeys (frame_machine lost pointer) (frame_rules lines)
frame_obeys lost pointer lines all shallow = record {
  ordered = ordered lines shallow;
  local = local;
  hands = λ number row t ps to a. hands_by to (applied lines all number row t ps to a);
  part_registers = λ number row t ps to r a. part_registers_by lost pointer lines to r (applied lines all number row t ps to a);
  names = λ number row t ps to a. names_by lost pointer lines to (applied lines all number row t ps to a);
  flows = λ number row t ps to a. flows_by lost pointer lines to (applied lines all number row t ps to a);
  settles = λ number row t ps to a. settles_by lost pointer lines to (applied lines all number row t ps to a);
  slots = λ number row t ps to a. slots_by lost pointer lines to (applied lines all number row t ps to a);
  marks = λ number row t ps to a. marks_by lost pointer lines to (applied lines all number row t ps to a);
  marks_only = λ number row t ps to a unmarked. no_mark_by lost pointer lines to (applied lines all number row t ps to a);
  labels = λ number row t ps to l a plain at is. absurd (no_label_by lost pointer lines (applied lines all number row t ps to a) plain at);
  moves = λ number row t ps to a. moves_by lost pointer lines to (applied lines all number row t ps to a);
  moves_only = λ number row t ps to a. moves_only_by lost pointer lines to (applied lines all number row t ps to a);
  silent = λ number row t ps to a. silent_by lost pointer lines to (applied lines all number row t ps to a);
  busy_start = refl;
  busy = λ number row t ps to a. busy_by lost pointer lines to (applied lines all number row t ps to a);
  acts = λ s whole rest st number row t ps to vs a. acts_by lost pointer lines s whole rest st to vs (applied lines all number row t ps to a);
}
