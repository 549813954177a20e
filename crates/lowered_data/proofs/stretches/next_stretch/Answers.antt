use Rattle.std.proofs.Common.{◌-◌, refl, arith, replicate}
use Rattle.std.proofs.lemmas.List.{length-replicate}
use Rattle.objects.specs.declared.byte.Byte.{Byte}
use Rattle.objects.specs.declared.byte.Byte.TheVariants.{Bits}
use Rattle.objects.specs.declared.value.Value.{Value}
use Rattle.lowered_data.specs.Data.{bytes_of}
use Rattle.lowered_data.proofs.lemmas.Stands.{stand_same}
use Rattle.lowered_data.proofs.stretches.next_stretch.Goals as goal

pub returns-then-from-zeros : goal.returns-then-from-zeros
returns-then-from-zeros c =
    let r = c.args.reader.now in
    let zero : Byte Value = Bits 255 0 in
    let n = c.zeros_end-zeros.result - c.args.from in
    let more = c.if-from-zeros.true in
    let inside = c.zeros_end-zeros.ensures.within in
    let l = length-replicate n zero in
    record {
      held = replicate n zero;
      datum = refl;
      stand = stand_same (bytes_of r.storage.now.objects r.object) c.args.from n zero (λ k a b. c.zeros_end-zeros.ensures.zeros k a (omega (arith, b, more)));
      count = omega (arith, l, more);
      some = more;
      within = omega (arith, inside, c.requires.size);
    }
