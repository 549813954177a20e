-- What stores come to.
use Rattle.std.proofs.Common.{◌≡◌, ℕ, List, refl, sym, ap}
use Rattle.std.specs.Prelude.{Result as Checked, Ok, Err}
use Rattle.std.proofs.lemmas.Bool.{ne_eqb}
use Rattle.lcc_base.specs.declared.cause.Cause.{Cause}
use Rattle.lcc_base.specs.declared.order.Order.{Order}
use Rattle.lcc_base.specs.Traces.{Event}
use Rattle.objects.specs.declared.purpose.Purpose.{Purpose}
use Rattle.objects.specs.declared.value.Value.{Value}
use Rattle.objects.specs.Accesses.{field_written}
use Rattle.objects.specs.Objects.{Object, Storage}
use Rattle.c_runs.specs.Outcomes.{Gives, Ends, Undefined as Undefines, stores}
use Rattle.c_runs.specs.Worlds.{World as RunWorld}
use Rattle.c_worlds.specs.declared.stop.Stop.{Stop}
use Rattle.c_worlds.specs.declared.stop.Stop.TheVariants.{Undefined, Memory}
use Rattle.c_worlds.specs.declared.world.World.{World}
use Rattle.c_worlds.specs.Shown.{Gets, shown}
use Rattle.c_worlds.specs.Stops.{Stores}
use Rattle.c_acts.specs.declared.spot.Spot.{Spot}
use Rattle.c_acts.specs.Spots.{bits_of, stored_at}

-- a bit-field is written
pub bits_stored : (purpose : Purpose) (order : Order) (x : Spot) (v : Value) (os : List Object) (p : Value)
    → (x.width ≡ 0 → ⊥) → stored_at purpose order x v os p ≡ field_written purpose order (bits_of x) v os p
bits_stored purpose order x v os p some = rw (ne_eqb x.width 0 some) refl

-- a world with another storage
abbrev pub with_storage : World → Storage → World
with_storage w s = record { storage = s; locals = w.locals; input = w.input; output = w.output }

abbrev pub world_of : World → List Object → ℕ → List Event → RunWorld
world_of w os n t = record { storage = record { objects = os; made = n }; locals = w.locals.here; input = w.input.now; trace = t }

-- a store that is done gives its value
pub stores_give : (wanted : Checked (List Object) Cause) (line : ℕ) (old : World) (s : Storage) (v : Value) (k : ℕ) (t : List Event) (u : Unit {0})
    → Stores wanted line old.storage s (Ok u) → stores wanted v line k (shown old t) ≡ Gives v k (shown (with_storage old s) t)
stores_give wanted line old s v k t u h = rw h.0 (ap (λ (n : ℕ). Gives v k (world_of old s.objects n t)) (sym h.1))

-- and one that isn't, ends the run
pub stores_end : (wanted : Checked (List Object) Cause) (line : ℕ) (old : World) (s : Storage) (v : Value) (stop : Stop)
    → Stores wanted line old.storage s (Err stop) → Gets (λ k w. stores wanted v line k w) old (with_storage old s) (Err stop)
stores_end wanted line old s v (Undefined cause at) h =
    λ k t. rw (h.0, h.1.0) (ap (λ (x : Storage). Ends (Undefines cause line) (shown (with_storage old x) t)) (sym h.1.1))
stores_end wanted line old s v Memory h = tt
