use Rattle.std.proofs.Common.{length, refl}
use Rattle.objects.specs.Contents.{bytes_of, parts_of}
use Rattle.objects.proofs.Halves.{known_in}
use Rattle.objects.proofs.object.Object.known.Goals as goal

pub returns : goal.returns
returns c = known_in c.args.made c.args.constant (parts_of c.in_ok-content.content) (length c.args.bytes.now) (bytes_of c.in_ok-content.content) c.args.bytes.now c.in_ok-content.ensures.bytes refl
