use Rattle.objects.specs.declared.purpose.Purpose.TheVariants.{Assignment}
use Rattle.objects.specs.declared.value.Value.TheVariants.{Pointer}
use Rattle.objects.specs.Accesses.{bytes_written}
use Rattle.std.proofs.Common.{[]}
use Rattle.lowered_data.proofs.lemmas.Nothing.{nothing_left, nothing_written}
use Rattle.lowered_data.proofs.homes.is_constant.Goals as goal

pub returns-in-Ok-clause-same : goal.returns-in-Ok-clause-same
returns-in-Ok-clause-same c = nothing_written c.args.storage.now c.write_bytes.new.self c.args.object c.in-Ok.ensures.ok c.write_bytes.ensures.made

pub returns-in-Err-2-clause-same : goal.returns-in-Err-2-clause-same
returns-in-Err-2-clause-same c =
    nothing_left c.args.storage.now c.write_bytes.new.self c.args.object (bytes_written Assignment [] c.args.storage.now.objects (Pointer c.args.object 0)) c.in-Err.field-0 c.in-Err.ensures.err c.write_bytes.ensures.made
