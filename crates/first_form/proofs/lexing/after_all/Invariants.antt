use Rattle.std.proofs.Common.{◌≤◌, drop, length, map}
use Rattle.first_form.proofs.Cut.{Continues}
use Rattle.first_form.proofs.lexing.after_all.Given as goal

abbrev pub invariant-loop-token : goal.invariant-loop-token
invariant-loop-token l = record {
  continues : Continues l.bytes (map (λ t. t.now) l.tokens) l.rest (map (λ t. t.now) (drop l.token-index l.tokens));
  shorter : length l.rest ≤ length l.bytes;
}
