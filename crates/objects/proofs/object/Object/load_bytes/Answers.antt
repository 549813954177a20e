use Rattle.std.proofs.Common.{take, drop, ap, sym, ◌∙◌}
use Rattle.objects.specs.declared.width.Width.{Width}
use Rattle.objects.specs.Scalars.{scalar_of}
use Rattle.objects.specs.Values.{bytes_in}
use Rattle.objects.proofs.Holding.{front_one}
use Rattle.objects.proofs.object.Object.load_bytes.Goals as goal

pub returns-in-One : goal.returns-in-One
returns-in-One c =
    c.scalar.ensures
    ∙ ap (λ bs. scalar_of c.args.order c.args.scalar bs) (front_one c.args.place c.args.self.now.bytes c.byte.result c.byte.ensures)
    ∙ ap (λ (w : Width). scalar_of c.args.order c.args.scalar (take (bytes_in w) (drop c.args.place c.args.self.now.bytes))) (sym c.in-One.is)
