use Rattle.std.proofs.Common.{◌≡◌, ◌+◌, length}
use Rattle.objects.specs.Bytes.{known_bytes}
use Rattle.lowered_data.specs.Data.{bytes_of}
use Rattle.lowered_data.specs.Stand.{Stand}
use Rattle.lowered_data.proofs.reader.bytes_between.Given as goal

abbrev pub invariant-loop-place : goal.invariant-loop-place
invariant-loop-place l = Stand (bytes_of l.reader.storage.now.objects l.reader.object) l.from (known_bytes l.bytes) × (l.from + length l.bytes ≡ l.place)
