use Rattle.objects.specs.Contents.{bytes_of, parts_of}
use Rattle.objects.proofs.Halves.{zeroed_in}
use Rattle.objects.proofs.object.Object.zeroed.Goals as goal

pub returns : goal.returns
returns c = zeroed_in c.args.made c.args.constant (parts_of c.in_ok-content.content) c.args.size (bytes_of c.in_ok-content.content) c.in_ok-content.ensures.bytes
