-- What putchar comes to, by the number that it is called with.
use Rattle.std.proofs.Common.{◌≡◌, ℕ, ◌%◌, ◌++◌, List, [], ◌∷◌, refl, sym, ap, ◌∙◌}
use Rattle.std.specs.Prelude.{Ok}
use Rattle.lcc_base.specs.Traces.{Event, Wrote}
use Rattle.lcc_base.specs.Prefixes.{output_append}
use Rattle.objects.specs.declared.value.Value.{Value}
use Rattle.objects.specs.declared.value.Value.TheVariants.{Number}
use Rattle.c_meaning.specs.declared.built_in.BuiltIn.TheVariants.{Putchar}
use Rattle.c_runs.specs.Calls.{put_character}
use Rattle.c_runs.specs.Outcomes.{Gives}
use Rattle.c_entries.specs.declared.argument.Argument.{Argument as PassedArgument}
use Rattle.c_entries.specs.declared.built_ins.Provided.TheVariants.{Gave}
use Rattle.c_entries.specs.Provides.{IsNumber, Provides}
use Rattle.c_worlds.specs.declared.world.World.{World}
use Rattle.c_worlds.specs.Shown.{shown}

-- nothing but the output has changed
abbrev pub WritesOnly : World → World → Type 0
WritesOnly old new = (new.storage ≡ old.storage) × ((new.locals ≡ old.locals) × (new.input.now ≡ old.input.now))

written : (n : ℕ) (v : Value) (k : ℕ) (old new : World) (t : List Event) → v ≡ Number (n % 256) → WritesOnly old new → put_character n k (shown old t) ≡ Gives v k (shown new (t ++ Wrote (n % 256) ∷ []))
written n v k old new t e s = rw (e, s.0, s.1.0, s.1.1) refl

pub putchar_writes : (ps : List PassedArgument) (line n : ℕ) (v : Value) (old new : World) → IsNumber ps line (Ok n) → v ≡ Number (n % 256) → new.output ≡ old.output ++ n % 256 ∷ [] → WritesOnly old new → Provides Putchar ps line old new (Ok (Gave v))
putchar_writes ps line n v old new h e o s a t i q = (
  t ++ Wrote (n % 256) ∷ [],
  (output_append t (Wrote (n % 256) ∷ []) ∙ ap (λ (bytes : List ℕ). bytes ++ n % 256 ∷ []) q ∙ sym o),
  λ k. rw (i.line, i.world) (h a.arguments i.arguments (shown old t) (λ m. put_character m k (shown old t)) ∙ written n v k old new t e s),
)
