use Rattle.std.proofs.Common.{◌≡◌, false, Some, ap, sym, ◌∙◌}
use Rattle.objects.specs.declared.value.Value.{Value}
use Rattle.objects.specs.declared.value.Value.TheVariants.{Pointer}
use Rattle.objects.specs.declared.width.Width.TheVariants.{One}
use Rattle.objects.specs.Accesses.{number_given, read}
use Rattle.lowered_data.proofs.lemmas.Readings.{read_byte}
use Rattle.lowered_data.proofs.reader.known_byte.Goals as goal

pub returns-in-Some : goal.returns-in-Some
returns-in-Some c =
    let r = c.args.reader.now in
    let e : number_given (read r.order (record { width = One; signed = false }) r.storage.now.objects (Pointer r.object c.args.place)) ≡ Some c.in-Some.n =
    ap (λ (p : Value). number_given (read r.order (record { width = One; signed = false }) r.storage.now.objects p)) (sym c.pointer_to-p.ensures) ∙ sym c.number.ensures ∙ c.in-Some.is in
    read_byte r.storage.now.made r.order r.storage.now.objects r.object c.args.place c.in-Some.n c.requires e
