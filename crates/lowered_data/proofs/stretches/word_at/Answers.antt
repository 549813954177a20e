use Rattle.std.proofs.Common.{◌≡◌, false, Ok, ap, sym, ◌∙◌}
use Rattle.objects.specs.declared.value.Value.{Value}
use Rattle.objects.specs.declared.value.Value.TheVariants.{Pointer, Function}
use Rattle.objects.specs.declared.width.Width.TheVariants.{Four}
use Rattle.objects.specs.Accesses.{read}
use Rattle.c_worlds.specs.Programs.{unit_of}
use Rattle.lowered_data.specs.Data.{image}
use Rattle.lowered_data.proofs.lemmas.Readings.{words_there}
use Rattle.lowered_data.proofs.stretches.word_at.Goals as goal

pub returns-in-Ok-Pointer : goal.returns-in-Ok-Pointer
returns-in-Ok-Pointer c =
    let r = c.args.reader.now in
    let v : Value = Pointer c.in-Ok-Pointer.object c.in-Ok-Pointer.offset in
    let e : read r.order (record { width = Four; signed = false }) r.storage.now.objects (Pointer r.object c.args.from) ≡ Ok v =
    ap (λ (p : Value). read r.order (record { width = Four; signed = false }) r.storage.now.objects p) (sym c.pointer_to-p.ensures) ∙ sym c.read.ensures ∙ c.in-Ok-Pointer.is ∙ ap (λ (x : Value). Ok x) c.in-Ok-Pointer.field-0-is in
    words_there (image (unit_of c.args.program.now) c.args.program.now.order r.storage.now.objects) r.order r.object c.args.from v c.object_address.result c.requires.order (λ n x. cc) e c.object_address.ensures

pub returns-in-Ok-Function : goal.returns-in-Ok-Function
returns-in-Ok-Function c =
    let r = c.args.reader.now in
    let v : Value = Function c.in-Ok-Function.number in
    let e : read r.order (record { width = Four; signed = false }) r.storage.now.objects (Pointer r.object c.args.from) ≡ Ok v =
    ap (λ (p : Value). read r.order (record { width = Four; signed = false }) r.storage.now.objects p) (sym c.pointer_to-p.ensures) ∙ sym c.read.ensures ∙ c.in-Ok-Function.is ∙ ap (λ (x : Value). Ok x) c.in-Ok-Function.field-0-is in
    words_there (image (unit_of c.args.program.now) c.args.program.now.order r.storage.now.objects) r.order r.object c.args.from v c.function_address.result c.requires.order (λ n x. cc) e c.function_address.ensures
