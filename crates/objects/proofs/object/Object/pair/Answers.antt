use Rattle.objects.proofs.Holding.{front_two}
use Rattle.objects.proofs.object.Object.pair.Goals as goal

pub returns : goal.returns
returns c = front_two c.args.place c.args.self.now.bytes c.byte_at.result c.byte_at-2.result c.byte_at.ensures c.byte_at-2.ensures
