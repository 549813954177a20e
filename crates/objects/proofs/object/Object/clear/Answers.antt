use Rattle.objects.specs.Contents.{bytes_of, parts_of}
use Rattle.objects.proofs.Halves.{in_front, cleared_in}
use Rattle.objects.proofs.object.Object.clear.Goals as goal

pub clear-requires : goal.clear-requires
clear-requires c = in_front c.self.inside.size (bytes_of c.self.inside.content) c.self.invariant.complete

pub returns : goal.returns
returns c = cleared_in c.self.inside.made c.self.inside.constant (parts_of c.self.inside.content) (parts_of c.clear.new.self) c.self.inside.size (bytes_of c.self.inside.content) (bytes_of c.clear.new.self) c.args.self.now c.self.view_is (in_front c.self.inside.size (bytes_of c.self.inside.content) c.self.invariant.complete) c.clear.ensures
