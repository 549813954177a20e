use Rattle.std.proofs.Common.{List, subst}
use Rattle.std.specs.Prelude.{Result as Checked}
use Rattle.lcc_base.specs.declared.cause.Cause.{Cause}
use Rattle.objects.specs.declared.purpose.Purpose.TheVariants.{Initialisation}
use Rattle.objects.specs.Accesses.{bytes_through}
use Rattle.objects.specs.Copies.{copied}
use Rattle.objects.specs.Objects.{Object}
use Rattle.c_worlds.proofs.lemmas.Stores.{store_comes}
use Rattle.c_worlds.specs.Stops.{stop_of}
use Rattle.c_entries.specs.Copied.{Becomes}
use Rattle.c_entries.proofs.Copied.{by_sizes, stored_becomes, world_with}
use Rattle.c_entries.proofs.copying.copy_structure.Goals as goal

pub returns-clause-becomes : goal.returns-clause-becomes
returns-clause-becomes c =
    let w = c.args.world.now in
    let s = c.copy.new.self in
    let size = c.size-size.result in
    let align = c.alignment-alignment.result in
    let wanted = copied Initialisation w.storage.objects c.args.from c.args.to size align in
    rw c.store_at_line.ensures
    (subst (λ (x : Checked (List Object) Cause). Becomes x c.args.line w (world_with w s) (stop_of c.args.line c.copy.result))
    (by_sizes c.args.program.now c.args.of size align c.types-types.result.now c.types-types.ensures c.size-size.ensures c.alignment-alignment.ensures.is w.storage.objects c.args.from c.args.to)
    (stored_becomes wanted c.args.line w s (stop_of c.args.line c.copy.result)
    (store_comes wanted c.args.to (bytes_through w.storage.objects c.args.from size) c.args.line w.storage s c.copy.result c.copy.ensures.ok c.copy.ensures.err c.copy.ensures.made)))
