-- What stores come to.
use Rattle.std.proofs.Common.{◌≡◌, ◌∙◌, ℕ, List, refl, ap}
use Rattle.std.specs.Prelude.{Result as Checked, Ok, Err, OnOk, IfErr}
use Rattle.lcc_base.specs.declared.cause.Cause.{Cause}
use Rattle.objects.specs.declared.byte.Byte.{Byte}
use Rattle.objects.specs.declared.store_fault.StoreFault.{StoreFault}
use Rattle.objects.specs.declared.store_fault.StoreFault.TheVariants as fault
use Rattle.objects.specs.declared.value.Value.{Value}
use Rattle.objects.specs.Objects.{Object, Storage}
use Rattle.objects.specs.Places.{IsLeft}
use Rattle.c_worlds.specs.Stops.{Stores, stop_of}

-- storages of the same objects, of which as many were made
pub same_storage : (a b : Storage) → a.objects ≡ b.objects → a.made ≡ b.made → a ≡ b
same_storage a b objects made =
    ap (λ (os : List Object). let s : Storage = record { objects = os; made = a.made } in s) objects
    ∙ ap (λ (n : ℕ). let s : Storage = record { objects = b.objects; made = n } in s) made

pub store_comes : (wanted : Checked (List Object) Cause) (p : Value) (bytes : List (Byte Value)) (line : ℕ) (old new : Storage) (r : Checked (Unit {0}) StoreFault)
    → OnOk r (wanted ≡ Ok new.objects) → IfErr r (IsLeft old.objects p bytes wanted new.objects) → new.made ≡ old.made → Stores wanted line old new (stop_of line r)
store_comes wanted p bytes line old new (Ok u) ok err made = (ok, made)
store_comes wanted p bytes line old new (Err (fault.Undefined cause)) ok err made = (err.0, (refl, same_storage new old err.1 made))
store_comes wanted p bytes line old new (Err fault.Memory) ok err made = tt
