-- What the calls that make initial data come to, put together.
use Rattle.std.specs.Prelude.{◌≡◌, ℕ, ◌+◌, true, List, [], length, Ok}
use Rattle.std.proofs.Common.{ap, sym, subst, ◌∙◌}
use Rattle.lcc_base.specs.declared.order.Order.{Order}
use Rattle.objects.specs.Objects.{Storage}
use Rattle.op_forest.specs.declared.lowered.LoweredObject.{LoweredObject}
use Rattle.c_filling.specs.Starts.{Starts}
use Rattle.c_types.specs.Table.{types}
use Rattle.c_meaning.specs.Units.{CoreUnit, IsWhole, unit_seen}
use Rattle.c_runs.specs.Calls.{Call}
use Rattle.c_runs.specs.Outcomes.{Next, Result}
use Rattle.c_runs.specs.Run.{setting, started}
use Rattle.c_worlds.specs.declared.program.Program.{Program}
use Rattle.c_worlds.specs.declared.world.World.{World}
use Rattle.c_worlds.specs.Programs.{unit_of}
use Rattle.c_worlds.specs.Shown.{shown}
use Rattle.lowered_data.specs.Data.{HaveHomes, IsSoundStorage, image}
use Rattle.lowered_data.specs.Initial.{IsInitialData}
use Rattle.lowered_data.specs.Laws.{StartIsSound, StartStandsAlone}
use Rattle.lowered_data.specs.Still.{are_still_objects}
use Rattle.lowered_data.proofs.lemmas.Filling.{objects_still}
use Rattle.lowered_data.proofs.lemmas.Leaving.{texts_are_left}

start_of : (p : Program) (core : CoreUnit) (order : Order) (w : World) → p.core.now ≡ core → p.order ≡ order → Starts p [] (Ok w) → (calls : ℕ → Call → Result) (k : ℕ) → started (setting (unit_seen core) order calls) [] k ≡ Next k (shown w [])
start_of p core order w c o s = λ calls k.
    ap (λ (x : CoreUnit). started (setting (unit_seen x) order calls) [] k) (sym c)
    ∙ ap (λ (x : Order). started (setting (unit_of p) x calls) [] k) (sym o)
    ∙ s calls k

pub sound_start : StartIsSound → (p : Program) (core : CoreUnit) (order : Order) (w : World) → p.core.now ≡ core → p.order ≡ order → IsWhole core → are_still_objects core.objects ≡ true → Starts p [] (Ok w) → IsSoundStorage w.storage
sound_start S p core order w c o whole still s = (S core order (shown w []) whole still (start_of p core order w c o s)).objects

pub initial_is : StartStandsAlone → StartIsSound → (p : Program) (core : CoreUnit) (order : Order) (w : World) (after : Storage) (os : List LoweredObject) → p.core.now ≡ core → p.order ≡ order → IsWhole core → are_still_objects core.objects ≡ true → Starts p [] (Ok w)
    → after ≡ w.storage → length os ≡ length after.objects → HaveHomes (image (unit_of p) p.order w.storage.objects) 0 os → length os ≡ length (unit_of p).objects + length (unit_of p).texts → IsInitialData (unit_seen core) order os
initial_is A S p core order w after os c o whole still s same count homes many =
    let e = start_of p core order w c o s in
    let a = A core order (shown w []) still e in
    let counted : length os ≡ length w.storage.objects = count ∙ ap (λ (x : Storage). length x.objects) same in
    let every : length os ≡ length (unit_seen core).objects + length (unit_seen core).texts = many ∙ ap (λ (x : CoreUnit). length (unit_seen x).objects + length (unit_seen x).texts) c in
    record {
      world = shown w [];
      starts = a.0;
      sound = S core order (shown w []) whole still e;
      made = a.1;
      texts = texts_are_left (unit_seen core) order (shown w []) (objects_still (types core.types) core.objects ∙ still) e;
      live = sym counted ∙ every;
      many = counted;
      homes = subst (λ (x : Order). HaveHomes (image (unit_seen core) x w.storage.objects) 0 os) o (subst (λ (x : CoreUnit). HaveHomes (image (unit_seen x) p.order w.storage.objects) 0 os) c homes);
    }
