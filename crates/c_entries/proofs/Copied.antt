-- A structure is copied: its source's causes come first.
use Rattle.std.proofs.Common.{◌≡◌, ℕ, List, refl, sym, ap, ◌∙◌}
use Rattle.std.specs.Prelude.{Option, Some, None, Result as Checked, Ok, Err, slice_get}
use Rattle.lcc_base.specs.declared.cause.Cause.{Cause}
use Rattle.lcc_base.specs.Traces.{Event}
use Rattle.objects.specs.declared.purpose.Purpose.{Purpose}
use Rattle.objects.specs.declared.purpose.Purpose.TheVariants.{Initialisation}
use Rattle.objects.specs.declared.value.Value.{Value}
use Rattle.objects.specs.Accesses.{read_cause}
use Rattle.objects.specs.Copies.{copied}
use Rattle.objects.specs.Objects.{Object, Storage}
use Rattle.c_types.specs.CType.{CType}
use Rattle.c_types.specs.Layout.{Tag}
use Rattle.c_types.specs.Table.{Table, tags as tags_of, type_at}
use Rattle.c_meaning.specs.CoreTrees.{CoreOf, Core, line_of, type_of}
use Rattle.c_runs.specs.Expressions.{argument, copied_to}
use Rattle.c_runs.specs.Outcomes.{Result, Ends, Undefined as Undefines, if_fine, undefined}
use Rattle.c_runs.specs.Places.{align_of, assigned, size_of, source}
use Rattle.c_runs.specs.Worlds.{World as RunWorld, with_objects}
use Rattle.c_entries.specs.Copied.{Becomes, with_copy}
use Rattle.c_entries.specs.Entered.{Copies}
use Rattle.c_worlds.specs.declared.program.Program.{Program}
use Rattle.c_worlds.specs.declared.stop.Stop.{Stop}
use Rattle.c_worlds.specs.declared.stop.Stop.TheVariants.{Memory, Undefined}
use Rattle.c_worlds.specs.declared.world.World.{World}
use Rattle.c_worlds.specs.Programs.{known, setting_of, tree, unit_of}
use Rattle.c_worlds.specs.Shown.{giving, shown}
use Rattle.c_worlds.specs.Stops.{Stores}

-- where it is copied, its source can be read
pub source_fine : (purpose : Purpose) (tags : List Tag) (of : CType) (os new : List Object) (from to : Value) → assigned purpose tags of os from to ≡ Ok new → source tags of os from ≡ Ok from
source_fine purpose tags of os new from to e = by_cause (read_cause os from (size_of tags of) (align_of tags of)) refl
  where
    by_cause : (c : Option Cause) → read_cause os from (size_of tags of) (align_of tags of) ≡ c → source tags of os from ≡ Ok from
    by_cause None h = rw h refl
    by_cause (Some c) h = absurd (let k = rw h at e in cc)

-- where it isn't, the source can't be read, or it isn't copied though it can
pub source_first : (purpose : Purpose) (tags : List Tag) (of : CType) (os : List Object) (from to : Value) (cause : Cause) (line : ℕ) (w : RunWorld) (go : List Object → Result) → assigned purpose tags of os from to ≡ Err cause
    → if_fine (source tags of os from) line w (λ v. if_fine (assigned purpose tags of os v to) line w go) ≡ undefined cause line w
source_first purpose tags of os from to cause line w go e = by_cause (read_cause os from (size_of tags of) (align_of tags of)) refl
  where
    by_cause : (c : Option Cause) → read_cause os from (size_of tags of) (align_of tags of) ≡ c → if_fine (source tags of os from) line w (λ v. if_fine (assigned purpose tags of os v to) line w go) ≡ undefined cause line w
    by_cause None h = rw (h, e) refl
    by_cause (Some c) h = let k = rw h at e in let s : c ≡ cause = cc in rw (h, s) refl

-- ---- the storage's copy

pub by_sizes : (p : Program) (of size align : ℕ) (ts : Table) → ts ≡ p.core.now.types → size ≡ size_of (tags_of ts) (type_at ts of) → align ≡ align_of (tags_of ts) (type_at ts of)
    → (os : List Object) (from to : Value) → copied Initialisation os from to size align ≡ with_copy p of os from to
by_sizes p of size align ts e f g os from to = rw (f, g, e) refl

abbrev pub world_with : World → Storage → World
world_with w s = record { storage = s; locals = w.locals; input = w.input; output = w.output }

with_storage : (w : World) (s : Storage) → s.made ≡ w.storage.made → (t : List Event) → shown (world_with w s) t ≡ with_objects (shown w t) s.objects
with_storage w s e t = rw (← e) refl

-- what a store into the world's storage comes to
pub stored_becomes : (wanted : Checked (List Object) Cause) (line : ℕ) (w : World) (s : Storage) (r : Checked (Unit {0}) Stop) → Stores wanted line w.storage s r → Becomes wanted line w (world_with w s) r
stored_becomes wanted line w s (Ok u) h = (s.objects, (h.0, with_storage w s h.1))
stored_becomes wanted line w s (Err (Undefined cause at)) h = (h.0, (h.1.0, λ t. ap (λ (x : Storage). shown (world_with w x) t) h.1.1))
stored_becomes wanted line w s (Err Memory) h = tt

-- ---- arguments

pub copies : (p : Program) (part : CoreOf ℕ) (n : ℕ) (v copy : Value) (old new : World) → slice_get old.locals.here n ≡ Some copy
    → Becomes (with_copy p (type_of part) old.storage.objects v copy) (line_of part) old new (Ok tt) → Copies p part n v old new (Ok copy)
copies p (Core what of line kids) n v copy old new e b calls go k t =
    let a = giving (tree p (Core what of line kids)) v in
    let w = shown old t in
    ap (λ (c : Option Value). copied_to (setting_of p calls) c a v k w go) e
    ∙ ap (λ (r : Checked Value Cause). if_fine r line w (λ from. if_fine (with_copy p of old.storage.objects from copy) line w (λ os. go (argument a copy) k (with_objects w os))))
    (source_fine Initialisation (unit_of p).tags (known p of) old.storage.objects b.0 v copy b.1.0)
    ∙ ap (λ (r : Checked (List Object) Cause). if_fine r line w (λ os. go (argument a copy) k (with_objects w os))) b.1.0
    ∙ ap (λ (u : RunWorld). go (argument a copy) k u) (sym (b.1.1 t))

pub not_copied : (p : Program) (part : CoreOf ℕ) (n : ℕ) (v copy : Value) (old new : World) (stop : Stop) → slice_get old.locals.here n ≡ Some copy
    → Becomes (with_copy p (type_of part) old.storage.objects v copy) (line_of part) old new (Err stop) → Copies p part n v old new (Err stop)
not_copied p part n v copy old new Memory e b = tt
not_copied p (Core what of line kids) n v copy old new (Undefined cause l) e b = λ calls go k t.
    let a = giving (tree p (Core what of line kids)) v in
    let w = shown old t in
    ap (λ (c : Option Value). copied_to (setting_of p calls) c a v k w go) e
    ∙ source_first Initialisation (unit_of p).tags (known p of) old.storage.objects v copy cause line w (λ os. go (argument a copy) k (with_objects w os)) b.0
    ∙ ap (λ (u : RunWorld). Ends (Undefines cause line) u) (sym (b.1.1 t))
    ∙ ap (λ (m : ℕ). Ends (Undefines cause m) (shown new t)) (sym b.1.0)
