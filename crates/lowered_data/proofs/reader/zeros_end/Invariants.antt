use Rattle.std.proofs.Common.{◌≡◌, ◌≤◌, ◌<◌, ℕ, Some}
use Rattle.std.specs.Prelude.{slice_get}
use Rattle.objects.specs.declared.byte.Byte.TheVariants.{Bits}
use Rattle.lowered_data.specs.Data.{bytes_of}
use Rattle.lowered_data.proofs.reader.zeros_end.Given as goal

abbrev pub invariant-loop-place : goal.invariant-loop-place
invariant-loop-place l = (k : ℕ) → l.from ≤ k → k < l.place → slice_get (bytes_of l.reader.storage.now.objects l.reader.object) k ≡ Some (Bits 255 0)
