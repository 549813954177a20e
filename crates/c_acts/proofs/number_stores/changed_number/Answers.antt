use Rattle.c_acts.proofs.NumberStores.{number_changes}
use Rattle.c_acts.proofs.number_stores.changed_number.Goals as goal

pub returns : goal.returns
returns c = (
  c.in_ok-old.old,
  rw c.in-Arithmetic.is
      (record {
        reads = c.in_ok-old.ensures;
        changes = λ x t h. number_changes c.args.scalar c.in-Arithmetic.signed c.in-Arithmetic.operator x t c.args.storage.now.objects c.in_ok-old.old c.args.n c.in_ok-new.new c.to_scalar.result h c.in_ok-new.ensures c.to_scalar.ensures;
      }),
)
