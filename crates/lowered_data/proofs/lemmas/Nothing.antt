-- A store of no bytes changes nothing.
use Rattle.std.specs.Prelude.{◌≡◌, ℕ, zero, suc, List, [], ◌∷◌, take, Result, Ok}
use Rattle.std.proofs.Common.{refl, ap, sym, ◌∙◌}
use Rattle.lcc_base.specs.declared.cause.Cause.{Cause}
use Rattle.objects.specs.declared.byte.Byte.{Byte}
use Rattle.objects.specs.declared.purpose.Purpose.TheVariants.{Assignment}
use Rattle.objects.specs.declared.store_fault.StoreFault.{StoreFault}
use Rattle.objects.specs.declared.store_fault.StoreFault.TheVariants.{Undefined, Memory}
use Rattle.objects.specs.declared.value.ObjectName.{ObjectName}
use Rattle.objects.specs.declared.value.Value.{Value}
use Rattle.objects.specs.declared.value.Value.TheVariants.{Pointer}
use Rattle.objects.specs.Accesses.{bytes_written, write_cause}
use Rattle.objects.proofs.lemmas.AccessLaws.{unless_same}
use Rattle.objects.specs.Objects.{Object, Storage, stored}
use Rattle.objects.specs.Places.{IsLeft}
use Rattle.c_worlds.proofs.lemmas.Stores.{same_storage}

nothing_stored : (os : List Object) (o : ℕ) → stored os o 0 [] ≡ os
nothing_stored [] o = refl
nothing_stored (x ∷ xs) zero = refl
nothing_stored (x ∷ xs) (suc o) = ap (λ ys. x ∷ ys) (nothing_stored xs o)

none_taken : (n : ℕ) → ◌≡◌ {A = List (Byte Value)} (take n []) []
none_taken zero = refl
none_taken (suc n) = refl

pub nothing_written : (old new : Storage) (name : ObjectName) → bytes_written Assignment [] old.objects (Pointer name 0) ≡ Ok new.objects → new.made ≡ old.made → new ≡ old
nothing_written old new name e made =
    same_storage new old
    (sym (unless_same (write_cause Assignment old.objects (Pointer name 0) 0 1) (stored old.objects name.place 0 []) new.objects e) ∙ nothing_stored old.objects name.place) made

left_same : (old new : List Object) (name : ObjectName) (wanted : Result (List Object) Cause) (f : StoreFault) → IsLeft old (Pointer name 0) [] wanted new f → new ≡ old
left_same old new name wanted (Undefined c) h = h.1
left_same old new name wanted Memory h = h.1 ∙ ap (λ bs. stored old name.place 0 bs) (none_taken h.0) ∙ nothing_stored old name.place

pub nothing_left : (old new : Storage) (name : ObjectName) (wanted : Result (List Object) Cause) (f : StoreFault) → IsLeft old.objects (Pointer name 0) [] wanted new.objects f → new.made ≡ old.made → new ≡ old
nothing_left old new name wanted f h made = same_storage new old (left_same old.objects new.objects name wanted f h) made
