-- The items of initial data have the size that is said, and name what is there.
use Rattle.std.specs.Prelude.{◌≡◌, ℕ, ◌+◌, ℤ, All, List, [], ◌∷◌, length, sum_by}
use Rattle.std.proofs.Common.{ap, sym, subst, ◌∙◌, arith, inl, inr}
use Rattle.std.proofs.lemmas.List.{length-append, length-map, length-replicate}
use Rattle.std.proofs.lemmas.List.Elements.{All-cons}
use Rattle.std.proofs.lemmas.List.Sums.{sum_by-cons}
use Rattle.std.proofs.lemmas.Option.{slice_get_within}
use Rattle.lcc_base.specs.declared.order.Order.{Order}
use Rattle.objects.specs.declared.byte.Byte.{Byte}
use Rattle.objects.specs.declared.byte.Byte.TheVariants.{Bits}
use Rattle.objects.specs.declared.value.Value.{Value}
use Rattle.objects.specs.declared.value.Value.TheVariants.{Number, Pointer, Function}
use Rattle.op_forest.specs.declared.lowered.Datum.{Datum}
use Rattle.op_forest.specs.declared.lowered.Datum.TheVariants as datum
use Rattle.op_forest.specs.declared.lowered.LoweredObject.{LoweredObject}
use Rattle.op_forest.specs.Lowered.{size_of}
use Rattle.c_meaning.specs.Units.{UnitTree}
use Rattle.c_runs.specs.Worlds.{objects}
use Rattle.lowered_data.specs.Data.{Image, image, IsAddress, IsDatumOf, AreDataOf, IsFunctionNumber, HaveHomes}
use Rattle.lowered_data.specs.Fitting.{IsNamedIn, FitsIn}
use Rattle.lowered_data.specs.Initial.{IsInitialData}
use Rattle.lowered_data.proofs.lemmas.Readings.{lives, part_length}

datum_size : (m : Image) (d : Datum) (cs : List (Byte Value)) → IsDatumOf m d cs → size_of d ≡ length cs
datum_size m (datum.Bytes ns) cs h = sym (ap length h ∙ length-map ns (λ (n : ℕ). let b : Byte Value = Bits 255 n in b))
datum_size m (datum.Name name offset) cs h = sym (ap length h.2 ∙ part_length m.order h.0)
datum_size m (datum.Label function label) cs h = absurd h
datum_size m (datum.Zero n) cs h = let zero : Byte Value = Bits 255 0 in sym (ap length h ∙ length-replicate n zero)

data_size : (m : Image) (ds : List Datum) (cs : List (Byte Value)) → AreDataOf m ds cs → sum_by size_of ds ≡ length cs
data_size m [] cs h = sym (ap length h)
data_size m (d ∷ ds) cs h =
    let a = datum_size m d h.0 h.3 in
    let b = data_size m ds h.1 h.4 in
    let c = ap length h.2 ∙ length-append h.0 h.1 in
    omega (arith, sum_by-cons size_of d ds, a, b, c)

address_named : (m : Image) (name : ℕ) (offset : ℤ) (v : Value) → IsAddress m name offset v → IsNamedIn m.unit (length m.objects) (datum.Name name offset)
address_named m name offset (Number n) h = absurd h
address_named m name offset (Function f) h = inl (subst (λ (n : ℕ). IsFunctionNumber m.unit n) (sym h.1.0) h.0)
address_named m name offset (Pointer object x) h = let l = lives m.objects object h.0 in inr (object.place, slice_get_within m.objects object.place l.it l.there, h.1.0)

datum_named : (m : Image) (d : Datum) (cs : List (Byte Value)) → IsDatumOf m d cs → IsNamedIn m.unit (length m.objects) d
datum_named m (datum.Bytes ns) cs h = tt
datum_named m (datum.Name name offset) cs h = address_named m name offset h.0 h.1
datum_named m (datum.Label function label) cs h = h
datum_named m (datum.Zero n) cs h = tt

none_all : {A : Type 0} (is : A → Type 0) → All is []
none_all is = λ k d h. absurd (let never : ⊥ = omega (arith, h) in never)

items_named : (m : Image) (ds : List Datum) (cs : List (Byte Value)) → AreDataOf m ds cs → All (IsNamedIn m.unit (length m.objects)) ds
items_named m [] cs h = none_all (IsNamedIn m.unit (length m.objects))
items_named m (d ∷ ds) cs h = All-cons (IsNamedIn m.unit (length m.objects)) d ds (datum_named m d h.0 h.3) (items_named m ds h.1 h.4)

homes_fit : (m : Image) (place : ℕ) (os : List LoweredObject) → HaveHomes m place os → All (FitsIn m.unit (length m.objects)) os
homes_fit m place [] h = none_all (FitsIn m.unit (length m.objects))
homes_fit m place (o ∷ os) h =
    let x = h.0 in
    All-cons (FitsIn m.unit (length m.objects)) o os
    (record {
      name = (place, slice_get_within m.objects place x.object x.there, x.is.name);
      size = data_size m o.items x.object.bytes x.is.items ∙ sym x.is.size;
      names = items_named m o.items x.object.bytes x.is.items;
    })
    (homes_fit m (place + 1) os h.1)

pub data_fit : (u : UnitTree) (order : Order) (data_of : List LoweredObject) (d : IsInitialData u order data_of) → All (FitsIn u (length (objects d.world))) data_of
data_fit u order data_of d = homes_fit (image u order (objects d.world)) 0 data_of d.homes
