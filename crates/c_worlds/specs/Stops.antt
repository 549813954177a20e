-- Why a run can't go on, by what was checked or stored.
use Rattle.std.specs.Prelude.{◌≡◌, ℕ, List, Result as Checked, Ok, Err}
use Rattle.lcc_base.specs.declared.cause.Cause.{Cause}
use Rattle.objects.specs.declared.store_fault.StoreFault.{StoreFault}
use Rattle.objects.specs.declared.store_fault.StoreFault.TheVariants as fault
use Rattle.objects.specs.Objects.{Object, Storage}
use Rattle.c_worlds.specs.declared.stop.Stop.{Stop}
use Rattle.c_worlds.specs.declared.stop.Stop.TheVariants.{Undefined, Memory}

abbrev pub told : {A : Type 0} → ℕ → Checked A Cause → Checked A Stop
told line (Ok a) = Ok a
told line (Err cause) = Err (Undefined cause line)

-- what was checked is told, with this line for its cause; nothing is said where memory is wanting
abbrev pub Tells : {A : Type 0} → Checked A Cause → ℕ → Checked A Stop → Type 0
Tells checked line (Ok a) = checked ≡ Ok a
Tells checked line (Err (Undefined cause at)) = (checked ≡ Err cause) × (at ≡ line)
Tells checked line (Err Memory) = Unit {0}

-- ---- stores

-- a fault of a store with its line
abbrev pub stop_of : ℕ → Checked (Unit {0}) StoreFault → Checked (Unit {0}) Stop
stop_of line (Ok u) = Ok u
stop_of line (Err (fault.Undefined cause)) = Err (Undefined cause line)
stop_of line (Err fault.Memory) = Err Memory

-- What comes of a store: the objects that were wanted are there, or nothing has changed and the cause is told at the line. Nothing
-- is said where memory is wanting.
abbrev pub Stores : Checked (List Object) Cause → ℕ → Storage → Storage → Checked (Unit {0}) Stop → Type 0
Stores wanted line old new (Ok _) = (wanted ≡ Ok new.objects) × (new.made ≡ old.made)
Stores wanted line old new (Err (Undefined cause at)) = (wanted ≡ Err cause) × ((at ≡ line) × (new ≡ old))
Stores wanted line old new (Err Memory) = Unit {0}
