-- What is found at once, by what is found of its parts.
use Rattle.std.proofs.Common.{◌≡◌, ℕ, Option, Some, None, [], ◌∷◌, refl, ap}
use Rattle.std.specs.Prelude.{IfSome, Result as Checked, Ok}
use Rattle.objects.specs.declared.value.Value.{Value}
use Rattle.objects.specs.declared.value.Value.TheVariants.{Number}
use Rattle.objects.specs.Objects.{Storage}
use Rattle.c_types.specs.CType.{CType}
use Rattle.c_meaning.specs.CoreTrees.{CoreOf, kids_of, line_of, one, two, type_of, what_of, seen}
use Rattle.c_runs.specs.Calls.{Setting}
use Rattle.c_runs.specs.Expressions.{row}
use Rattle.c_worlds.specs.Programs.{known, setting_of, tree}
use Rattle.c_worlds.specs.declared.program.Program.{Program}
use Rattle.c_worlds.specs.declared.stop.Stop.{Stop}
use Rattle.c_worlds.specs.declared.world.World.{World}
use Rattle.c_worlds.specs.Shown.{Comes, giving}
use Rattle.c_acts.specs.NumberStores.{IsWritten}
use Rattle.c_acts.specs.Shapes.{shape_of}
use Rattle.c_acts.specs.declared.shape.Shape.TheVariants.{Unary, Binary}
use Rattle.c_plain.specs.AtOnce.{DoneAtOnce, GivesAtOnce}
use Rattle.c_plain.specs.Plain.{used}
use Rattle.c_plain.proofs.Steps.{Gave, binary_goes, does_of, unary_goes, uses_of}

-- what holds of what is there
pub if_some : {A : Type 0} (P Q : A → Type 0) (r : Option A) → IfSome r P → ((x : A) → P x → Q x) → IfSome r Q
if_some P Q (Some x) h f = f x h
if_some P Q None h f = tt

-- a value that is found is one that is used
pub used_at_once : (s : Setting) (known : ℕ → CType) (a : CoreOf ℕ) (w : World) (v : Value) → Comes (does_of s known a) w w (Ok (Some v)) → Gave (uses_of s known a) w w v
used_at_once s known a w v c = λ k t. ap used (c k t)

pub unary_at_once : (s : Setting) (known : ℕ → CType) (e a : CoreOf ℕ) (w new : World) (v : Value) (r : Checked (Option Value) Stop)
    → kids_of e ≡ one a → shape_of (what_of e) ≡ Unary → Comes (does_of s known a) w w (Ok (Some v))
    → Comes (λ k x. row s (what_of e) (known (type_of e)) (line_of e) (giving (seen known a) v ∷ []) k x) w new r → Comes (does_of s known e) w new r
unary_at_once s known e a w new v r q h g c = unary_goes s known e a w w new v r q h (used_at_once s known a w v g) c

pub binary_at_once : (s : Setting) (known : ℕ → CType) (e a b : CoreOf ℕ) (w new : World) (v u : Value) (r : Checked (Option Value) Stop)
    → kids_of e ≡ two a b → shape_of (what_of e) ≡ Binary → Comes (does_of s known a) w w (Ok (Some v)) → Comes (does_of s known b) w w (Ok (Some u))
    → Comes (λ k x. row s (what_of e) (known (type_of e)) (line_of e) (giving (seen known a) v ∷ giving (seen known b) u ∷ []) k x) w new r → Comes (does_of s known e) w new r
binary_at_once s known e a b w new v u r q h g i c = binary_goes s known e a b w w w new v u r q h (used_at_once s known a w v g) (used_at_once s known b w u i) c

-- ---- what is written

abbrev pub with_storage : World → Storage → World
with_storage w s = record { storage = s; locals = w.locals; input = w.input; output = w.output }

pub writes_at_once : (p : Program) (e a b : CoreOf ℕ) (w : World) (s : Storage) (v : Value) (n : ℕ)
    → kids_of e ≡ two a b → shape_of (what_of e) ≡ Binary → GivesAtOnce p w a v → GivesAtOnce p w b (Number n) → IsWritten p e (tree p a) v n w.storage s
    → DoneAtOnce p w (with_storage w s) e (Ok tt)
writes_at_once p e a b w s v n q h g i c = (
  Ok (Some c.0),
  (
    refl,
    λ calls. binary_at_once (setting_of p calls) (known p) e a b w (with_storage w s) v (Number n) (Ok (Some c.0)) q h (g calls) (i calls)
        (λ k t. c.1 calls (tree p b) k w.locals.here w.input.now t),
  ),
)
