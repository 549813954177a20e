-- What callers get of structures.
use Rattle.std.proofs.Common.{◌≡◌, ℕ, true, drop, refl, sym, ap, ◌∙◌}
use Rattle.std.specs.Prelude.{Option, Some, Ok, Err, slice_get}
use Rattle.lcc_base.specs.declared.cause.Cause.{Cause}
use Rattle.lcc_base.specs.Traces.{Closed}
use Rattle.objects.specs.declared.value.Value.{Value}
use Rattle.c_meaning.specs.Types.{is_record}
use Rattle.c_runs.specs.Calls.{handed}
use Rattle.c_runs.specs.Expressions.{result_place}
use Rattle.c_runs.specs.Outcomes.{Ends, Gives, Undefined as Undefines, if_fine}
use Rattle.c_runs.specs.Worlds.{World as RunWorld, left_behind, with_objects}
use Rattle.c_entries.specs.declared.leaving.Waiting.{Waiting}
use Rattle.c_entries.specs.Copied.{Becomes, with_copy}
use Rattle.c_entries.specs.Left.{Hands}
use Rattle.c_worlds.specs.declared.program.Program.{Program}
use Rattle.c_worlds.specs.declared.stop.Stop.{Stop}
use Rattle.c_worlds.specs.declared.stop.Stop.TheVariants.{Memory, Undefined}
use Rattle.c_worlds.specs.declared.world.World.{World}
use Rattle.c_worlds.specs.Programs.{known, unit_of}
use Rattle.c_worlds.specs.Shown.{shown}

-- a structure's place
pub placed : (p : Program) (of : ℕ) (x : Waiting) (w : World) → is_record (known p of) ≡ true → result_place (known p of) (drop x.base w.locals.below) x.result ≡ slice_get (drop x.base w.locals.below) x.result
placed p of x w e = rw e refl

-- it is copied to its local, or the cause has the value's line
pub as_copy : (p : Program) (of : ℕ) (x : Waiting) (v copy : Value) (line : ℕ) (old new : World) → result_place (known p of) (drop x.base old.locals.below) x.result ≡ Some copy
    → Becomes (with_copy p of old.storage.objects v copy) line old new (Ok tt) → Hands p of x v line old new (Ok copy)
as_copy p of x v copy line old new e b before k t =
    ap (λ (r : Option Value). handed (unit_of p).tags (known p of) r v line k before (shown old t)) e
    ∙ ap (λ r. if_fine r line (shown old t) (λ os. Gives copy k (left_behind Closed before (with_objects (shown old t) os)))) b.1.0
    ∙ ap (λ (w : RunWorld). Gives copy k (left_behind Closed before w)) (sym (b.1.1 t))

not_copied : (p : Program) (of : ℕ) (x : Waiting) (v copy : Value) (cause : Cause) (line l : ℕ) (old new : World) → result_place (known p of) (drop x.base old.locals.below) x.result ≡ Some copy
    → Becomes (with_copy p of old.storage.objects v copy) line old new (Err (Undefined cause l)) → Hands p of x v line old new (Err (Undefined cause l))
not_copied p of x v copy cause line l old new e b before k t =
    ap (λ (r : Option Value). handed (unit_of p).tags (known p of) r v line k before (shown old t)) e
    ∙ ap (λ r. if_fine r line (shown old t) (λ os. Gives copy k (left_behind Closed before (with_objects (shown old t) os)))) b.0
    ∙ ap (λ (w : RunWorld). Ends (Undefines cause line) w) (sym (b.1.1 t))
    ∙ ap (λ (n : ℕ). Ends (Undefines cause n) (shown new t)) (sym b.1.0)

pub stopped : (p : Program) (of : ℕ) (x : Waiting) (v copy : Value) (line : ℕ) (old new : World) (stop : Stop) → result_place (known p of) (drop x.base old.locals.below) x.result ≡ Some copy
    → Becomes (with_copy p of old.storage.objects v copy) line old new (Err stop) → Hands p of x v line old new (Err stop)
stopped p of x v copy line old new (Undefined cause l) e b = not_copied p of x v copy cause line l old new e b
stopped p of x v copy line old new Memory e b = tt
