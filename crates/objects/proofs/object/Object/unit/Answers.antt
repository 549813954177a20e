use Rattle.objects.proofs.Holding.{front_four}
use Rattle.objects.proofs.object.Object.unit.Goals as goal

pub returns : goal.returns
returns c = front_four c.args.place c.args.self.now.bytes c.byte_at.result c.byte_at-2.result c.byte_at-3.result c.byte_at-4.result c.byte_at.ensures c.byte_at-2.ensures c.byte_at-3.ensures c.byte_at-4.ensures
