-- What is kept of ways of conditionals.
use Rattle.std.specs.Prelude.{◌≡◌, Some, None}
use Rattle.std.proofs.Common.{refl}
use Rattle.objects.specs.declared.value.Value.TheVariants.{Number}
use Rattle.forests.specs.Words.{Plain}
use Rattle.forests.specs.Worlds.{World}
use Rattle.c_match.specs.Ranges.{Map}
use Rattle.c_expr_agreement.specs.Scenes.{Scene}
use Rattle.lowered_forms.specs.Conditionals.{Nothing}
use Rattle.c_choices_agree.proofs.lemmas.Finishing.{StandsFor}
use Rattle.c_choices_agree.proofs.lemmas.Keeping.{IsKept}

-- nothing is kept where there is no value, and a value isn't kept so
none_kept : (s : Scene) (map : Map) (w : World) → IsKept s 0 Nothing map w None
none_kept s map w = refl

value_not : (s : Scene) (map : Map) (w : World) → IsKept s 0 Nothing map w (Some (Number 1)) → ⊥
value_not s map w h = let never : ⊥ = cc in never

-- a word stands for the number that it is, and for no other one
stands : (map : Map) → StandsFor map (Some (Number 1)) (Plain (Number 1))
stands map = refl

stands_not : (map : Map) → StandsFor map (Some (Number 1)) (Plain (Number 2)) → ⊥
stands_not map h = let never : ⊥ = cc in never
