use Rattle.std.proofs.Common.{◌≡◌, ◌≢◌, ◌-◌, Bool, true, false, List, length, refl, sym, ap, ◌∙◌}
use Rattle.std.specs.Prelude.{Some, slice_get}
use Rattle.c_types.specs.Table.{Table}
use Rattle.c_meaning.specs.Filling.{is_nowhere as nowhere}
use Rattle.c_initialisers.specs.declared.waits.Waits.{Waits}
use Rattle.c_initialisers.specs.declared.waits.Waits.TheVariants as waits
use Rattle.c_initialisers.specs.Waiting.{AreEntriesIn, waiting_in}
use Rattle.c_initialisers.proofs.Stacks.{is_nowhere_there, nowhere_last}
use Rattle.c_initialisers.proofs.placing.is_nowhere.Goals as goal

other : (w : Waits) → w ≢ waits.Nowhere → is_nowhere_there (Some w) ≡ false
other waits.Nowhere h = absurd (h refl)
other (waits.Whole p) h = refl
other (waits.Elements of begin index count) h = refl
other (waits.Members of begin index) h = refl

by_last : (t : Table) (ws : List Waits) (w : Waits) (b : Bool) → AreEntriesIn t ws → Some w ≡ slice_get ws (length ws - 1) → is_nowhere_there (Some w) ≡ b → b ≡ nowhere (waiting_in t ws)
by_last t ws w b i e h = sym (nowhere_last t ws i ∙ ap is_nowhere_there (sym e) ∙ h)

pub returns-in-Nowhere : goal.returns-in-Nowhere
returns-in-Nowhere c = by_last c.args.types.now c.args.waits.now c.in-Some.entry.now true c.requires (c.in-Some.ensures.value) (ap (λ w. is_nowhere_there (Some w)) c.in-Nowhere.is)

pub returns-in_default : goal.returns-in_default
returns-in_default c = by_last c.args.types.now c.args.waits.now c.in-Some.entry.now false c.requires (c.in-Some.ensures.value) (other c.in-Some.entry.now c.in_default.not-Nowhere)
