use Rattle.std.proofs.Common.{◌≡◌, true, false, refl, sym, ap, ◌∙◌, subst}
use Rattle.objects.specs.declared.purpose.Purpose.TheVariants.{Initialisation}
use Rattle.objects.specs.Accesses.{bytes_through, bytes_written}
use Rattle.objects.specs.Bytes.{known_bytes}
use Rattle.objects.specs.Copies.{copied}
use Rattle.c_types.specs.CType.{Array, CType}
use Rattle.c_types.specs.Table.{Table, tags}
use Rattle.c_meaning.specs.declared.core_expr.CoreKind.{CoreKind}
use Rattle.c_meaning.specs.CoreTrees.{what_of}
use Rattle.c_meaning.specs.Types.{is_array, is_record}
use Rattle.c_runs.specs.Places.{align_of, size_of}
use Rattle.c_runs.specs.Statements.{string_of}
use Rattle.c_worlds.specs.Programs.{known, setting_of, unit_of}
use Rattle.c_worlds.proofs.lemmas.Stores.{store_comes}
use Rattle.c_worlds.specs.Stops.{Stores}
use Rattle.c_filling.specs.Filled.{seen_place}
use Rattle.c_filling.proofs.FilledPlaces.{array_filled, kind_seen, known_in, record_filled}
use Rattle.c_filling.proofs.places.store_value.Goals as goal

pub returns-in_ok-bytes : goal.returns-in_ok-bytes
returns-in_ok-bytes c = λ calls.
    let p = c.args.program.now in
    let x = seen_place p c.args.place.now in
    let os = c.args.storage.now.objects in
    let e : x.of ≡ Array c.in-Some.ensures.some.0 c.in-Some.count =
    sym (known_in (λ (t : Table) (y : CType). y) p.core.now.types c.types-types.result.now c.args.place.now.at.of c.args.place.now.at.of (Array c.in-Some.ensures.some.0 c.in-Some.count) c.types-types.ensures refl (sym c.in-Some.ensures.some.1)) in
    let b : c.deref.result.now ≡ string_of (unit_of p) (Array c.in-Some.ensures.some.0 c.in-Some.count) (what_of x.value) =
    c.deref.ensures.value
    ∙ c.in_ok-bytes.ensures.is c.in-Some.ensures.some.0
    ∙ ap (λ (w : CoreKind). string_of (unit_of p) (Array c.in-Some.ensures.some.0 c.in-Some.count) w) (kind_seen (known p) c.args.place.now.value) in
    subst (λ w. Stores w c.args.line c.args.storage.now c.write_bytes.new.self c.store_at_line.result)
    (array_filled (setting_of p calls) x c.args.to c.args.value os c.in-Some.ensures.some.0 c.in-Some.count c.deref.result.now e b)
    (rw c.store_at_line.ensures
    (store_comes (bytes_written Initialisation c.deref.result.now os c.args.to) c.args.to (known_bytes c.deref.result.now) c.args.line c.args.storage.now c.write_bytes.new.self c.write_bytes.result c.write_bytes.ensures.ok c.write_bytes.ensures.err c.write_bytes.ensures.made))

pub returns-then-is_record : goal.returns-then-is_record
returns-then-is_record c = λ calls.
    let p = c.args.program.now in
    let x = seen_place p c.args.place.now in
    let os = c.args.storage.now.objects in
    let a : is_array x.of ≡ false =
    sym (known_in (λ (t : Table) (y : CType). is_array y) p.core.now.types c.types-types.result.now c.args.place.now.at.of c.args.place.now.at.of false c.types-types.ensures refl (sym c.in_default.ensures.none)) in
    let r : is_record x.of ≡ true =
    sym (known_in (λ (t : Table) (y : CType). is_record y) p.core.now.types c.types-types.result.now c.args.place.now.at.of c.args.place.now.at.of true c.types-types.ensures refl (sym c.if-is_record.true ∙ c.is_record.ensures)) in
    let n : c.size-size.result ≡ size_of (unit_of p).tags x.of =
    known_in (λ (t : Table) (y : CType). size_of (tags t) y) p.core.now.types c.types-types.result.now c.args.place.now.at.of c.args.place.now.at.of c.size-size.result c.types-types.ensures refl c.size-size.ensures in
    let m : c.alignment-alignment.result ≡ align_of (unit_of p).tags x.of =
    known_in (λ (t : Table) (y : CType). align_of (tags t) y) p.core.now.types c.types-types.result.now c.args.place.now.at.of c.args.place.now.at.of c.alignment-alignment.result c.types-types.ensures refl c.alignment-alignment.ensures.is in
    subst (λ w. Stores w c.args.line c.args.storage.now c.copy.new.self c.store_at_line-then-is_record.result)
    (record_filled (setting_of p calls) x c.args.to c.args.value os c.size-size.result c.alignment-alignment.result a r n m)
    (rw c.store_at_line-then-is_record.ensures
    (store_comes (copied Initialisation os c.args.value c.args.to c.size-size.result c.alignment-alignment.result) c.args.to (bytes_through os c.args.value c.size-size.result) c.args.line c.args.storage.now c.copy.new.self c.copy.result c.copy.ensures.ok c.copy.ensures.err c.copy.ensures.made))
