-- A template has one value at most.
use Rattle.std.specs.Prelude.{◌≡◌, [], ◌∷◌}
use Rattle.std.proofs.Common.{sym, ap, ◌∙◌}
use Rattle.forests.specs.Actions.{Action, Gave}
use Rattle.forests.specs.Rows.{acts}
use Rattle.forests.specs.Words.{Word}
use Rattle.c_rows_agree.specs.Templates.{Template, Given, Leaf, One, Two, Scene, Gives}

same_word : (x : Action) (w v : Word) → x ≡ Gave w → x ≡ Gave v → w ≡ v
same_word x w v e f = let g : Gave w ≡ Gave v = sym e ∙ f in cc

pub gives_once : (k : Scene) (t : Template) (w v : Word) → Gives k t w → Gives k t v → w ≡ v
gives_once k (Given n) w v h g = sym h ∙ g
gives_once k (Leaf x) w v h g = same_word (acts k.environment x [] k.objects) w v h g
gives_once k (One x a) w v h g =
    let e : h.0 ≡ g.0 = gives_once k a h.0 g.0 h.1 g.1 in
    same_word (acts k.environment x (g.0 ∷ []) k.objects) w v (ap (λ (z : Word). acts k.environment x (z ∷ []) k.objects) (sym e) ∙ h.2) g.2
gives_once k (Two x a b) w v h g =
    let e : h.0 ≡ g.0 = gives_once k a h.0 g.0 h.2 g.2 in
    let f : h.1 ≡ g.1 = gives_once k b h.1 g.1 h.3 g.3 in
    same_word (acts k.environment x (g.0 ∷ g.1 ∷ []) k.objects) w v
    (ap (λ (z : Word). acts k.environment x (z ∷ g.1 ∷ []) k.objects) (sym e) ∙ ap (λ (z : Word). acts k.environment x (h.0 ∷ z ∷ []) k.objects) (sym f) ∙ h.4) g.4
