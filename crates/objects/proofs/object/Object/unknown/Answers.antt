use Rattle.std.proofs.Common.{ℕ, ◌*◌, arith}
use Rattle.objects.specs.Contents.{bytes_of, parts_of}
use Rattle.objects.proofs.Halves.{unknown_in}
use Rattle.objects.proofs.object.Object.unknown.Goals as goal

pub returns : goal.returns
returns c =
    let count : ℕ = 2 * c.args.size in
    unknown_in c.args.made c.args.constant (parts_of c.in_ok-content.content) c.args.size count (bytes_of c.in_ok-content.content) (omega arith) c.in_ok-content.ensures.bytes c.in_ok-content.ensures.parts
