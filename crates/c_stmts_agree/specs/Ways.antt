-- Where the statements of a lowered function may go, and what its calls give.
-- Source: ISO/IEC 9899:1990, 6.6.6; Fraser and Hanson, A Retargetable C Compiler, chapter 10 (labels of statements).
use Rattle.std.specs.Prelude.{◌≡◌, ℕ, Bool, true, false, None, []}
use Rattle.c_meaning.specs.Types.{is_record}
use Rattle.c_expr_agreement.specs.Scenes.{Scene}
use Rattle.lowered_forms.specs.Lows.{Low}
use Rattle.lowered_statements.specs.Functions.{Function, Exits, label_at}
use Rattle.lowered_labels.specs.Used.{IsOwn}
use Rattle.c_tests_agree.specs.Tested.{Label, low_at}
use Rattle.c_stmt_agreement.specs.Comings.{Activation, Ways, Ending}

-- a place is behind this label of the final body
abbrev pub IsBehind : Scene → ℕ → Low → Type 0
IsBehind s n a = (t : Label s n) × (a ≡ low_at s n t)

-- `break` and `continue` go behind these labels, where they may stand, and gotos behind the numbers of the function's own labels, where blocks begin
pub record AreWays (p : Activation) (f : Function) (x : Exits) (y : Ways) (breaks continues : Bool) : Type 0 where
  pub breaking : breaks ≡ true → IsBehind p.scene x.breaks y.breaks
  pub continuing : continues ≡ true → IsBehind p.scene x.continues y.continues
  pub labelled : (n : ℕ) → IsOwn f n → IsBehind p.scene (label_at f n) (y.labels n)
  pub begins : (n : ℕ) → (y.labels n).entries ≡ []

-- a call gives 0 without a value where the function does, and copies a value only if that is a structure
pub record IsEnding (f : Function) (e : Ending) : Type 0 where
  pub zero : e.gives_zero ≡ f.gives_zero
  pub copy : is_record f.result ≡ false → e.copy ≡ None
