-- Effects one behind the other.
use Rattle.std.proofs.Common.{◌≡◌, List, refl, ap}
use Rattle.forests.specs.Words.{Word}
use Rattle.forests.specs.Worlds.{Point, Next, To, End, Effect, Went, Exits, Unfinished, Stuck, then_do}

pub then_do_assoc : (e : Effect) (f g : List Word → Point → Effect) → then_do (then_do e f) g ≡ then_do e (λ ws p. then_do (f ws p) g)
then_do_assoc (Went ws p Next) f g = refl
then_do_assoc (Went ws p (To l)) f g = refl
then_do_assoc (Went ws p (End v)) f g = refl
then_do_assoc (Exits status w) f g = refl
then_do_assoc (Unfinished w) f g = refl
then_do_assoc Stuck f g = refl

-- the same goes on where the first has a meaning
pub then_do_unless : (e : Effect) (f g : List Word → Point → Effect) → (then_do e f ≡ Stuck → ⊥) → ((ws : List Word) (p : Point) → (f ws p ≡ Stuck → ⊥) → f ws p ≡ g ws p) → then_do e f ≡ then_do e g
then_do_unless (Went ws p Next) f g ns h = h ws p ns
then_do_unless (Went ws p (To l)) f g ns h = refl
then_do_unless (Went ws p (End v)) f g ns h = refl
then_do_unless (Exits status w) f g ns h = refl
then_do_unless (Unfinished w) f g ns h = refl
then_do_unless Stuck f g ns h = refl

pub then_do_same : (e : Effect) (f g : List Word → Point → Effect) → ((ws : List Word) (p : Point) → f ws p ≡ g ws p) → then_do e f ≡ then_do e g
then_do_same (Went ws p Next) f g h = h ws p
then_do_same (Went ws p (To l)) f g h = refl
then_do_same (Went ws p (End v)) f g h = refl
then_do_same (Exits status w) f g h = refl
then_do_same (Unfinished w) f g h = refl
then_do_same Stuck f g h = refl

pub stuck_then : (e : Effect) (go : List Word → Point → Effect) → (then_do e go ≡ Stuck → ⊥) → e ≡ Stuck → ⊥
stuck_then e go h stuck = h (ap (λ x. then_do x go) stuck)
