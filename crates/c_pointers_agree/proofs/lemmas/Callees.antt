-- What is called.
use Rattle.std.proofs.Common.{◌≡◌, ℕ, pos, Bool, true, false, Option, Some, [], ◌∷◌, refl, ap, inl, inr, ◌∙◌}
use Rattle.std.specs.Prelude.{◌⊎◌}
use Rattle.lcc_base.specs.declared.cause.Cause.TheVariants.{CallMismatch}
use Rattle.objects.specs.declared.value.Value.{Value}
use Rattle.objects.specs.declared.value.Value.TheVariants.{Number, Pointer, Function}
use Rattle.forests.specs.Actions.{Called, gave}
use Rattle.forests.specs.Addresses.{moved_from}
use Rattle.forests.specs.Rows.{acts, called}
use Rattle.forests.specs.Words.{Word, Plain}
use Rattle.c_runs.specs.Calls.{Setting, Call, call_value}
use Rattle.c_runs.specs.Outcomes.{undefined}
use Rattle.c_runs.specs.Worlds.{World}
use Rattle.c_rows_agree.specs.Templates.{Scene}
use Rattle.c_rows_agree.specs.Typed.{Typed, Holds}
use Rattle.c_pointers_agree.specs.Pointers.{name, call_head}

calls : (k : Scene) (w : Word) (f : ℕ) (valued : Bool) → acts k.environment (call_head valued) (w ∷ []) k.objects ≡ called valued w
calls k w f true = refl
calls k w f false = refl

pub callees_agree : (k : Scene) (s : Setting) (a : Typed) (v : Value) (call : ℕ → Call) (line turns : ℕ) (w : World) → (h : Holds k a v) → ((f : ℕ) × (v ≡ Function f) × ((valued : Bool) → acts k.environment (call_head valued) (h.word ∷ []) k.objects ≡ Called valued f)) ⊎ (call_value s v call line turns w ≡ undefined CallMismatch line w)
callees_agree k s a (Number n) call line turns w h = inr refl
callees_agree k s a (Pointer name offset) call line turns w h = inr refl
callees_agree k s a (Function f) call line turns w h = inl (f, refl, λ valued. calls k h.word f valued ∙ ap (λ (x : Word). called valued x) h.is)

pub function_stands : (k : Scene) (n f : ℕ) → k.environment.global n ≡ Some (Function f) → Holds k (name n (pos 0)) (Function f)
function_stands k n f e = record { word = Plain (Function f); gives = ap (λ (v : Option Value). gave (moved_from k.objects v (pos 0))) e; is = refl }
