-- Expressions whose values aren't used.
use Rattle.std.specs.Prelude.{◌≡◌, ℕ, Bool, true, false, Option, Some, None, Result as Checked, Ok, Err}
use Rattle.std.proofs.Common.{refl}
use Rattle.lcc_base.specs.declared.cause.Cause.{Cause}
use Rattle.objects.specs.declared.value.Value.{Value}
use Rattle.forests.specs.Words.{Word}
use Rattle.forests.specs.Worlds.{World, Outcome}
use Rattle.c_meaning.specs.Values.{CoreTree}
use Rattle.c_runs.specs.Expressions.{eval}
use Rattle.c_runs.specs.Outcomes.{Result, Gives, GivesNone, Ends, then_give, then_drop, if_fine, either}
use Rattle.c_runs.specs.Run.{context}
use Rattle.c_runs.specs.Worlds as c
use Rattle.c_match.specs.Ranges.{Map}
use Rattle.c_rows_agree.specs.Typed.{Typed}
use Rattle.piece_runs.specs.Pieces.{Front}
use Rattle.c_expr_agreement.specs.Scenes.{Scene}
use Rattle.lowered_forms.specs.Lows.{Low}
use Rattle.lowered_forms.specs.Values.{Lowered}
use Rattle.c_straight_agree.specs.Agreement.{Came, CameTo, IsLowered, without_value, IsPerformed}
use Rattle.c_straight_agree.specs.Layouts.{FrameLayout}
use Rattle.c_straight_agree.specs.Parts.{IsLoweredPart, IsPerformedPart}
use Rattle.c_straight_agree.proofs.lemmas.Coming.{result_word}

-- ---- the value is let go

module _ (s : Scene) (start : ℕ → Outcome) (turns : ℕ) (l m : Low) (h : Front s.body.pieces m.pieces m.entries) (a : Typed) (map : Map) (before : c.World) (values : ℕ → Word) (first : World) where
  pub came_none : (v : Option Value) (old : c.World) (k : ℕ) → Came s start turns l m h a map before values first v old k → Came s start turns l m h a map before values first None old k
  came_none v old k x = record {
    later = x.later;
    grown = x.grown;
    others = x.others;
    world = x.world;
    stands = x.stands;
    alike = x.alike;
    left = x.left;
    private = x.private;
    kept = x.kept;
    has = result_word s a x.later x.others x.world v x.has;
  }

  pub forgotten : (r : Result) → CameTo s start turns l m h a map before values first r → CameTo s start turns l m h a map before values first (without_value r)
  forgotten (Gives v k old) x = came_none (Some v) old k x
  forgotten (GivesNone line k old) x = x
  forgotten (Ends how old) x = x

-- what is lowered is performed
pub lowered_performed : (s : Scene) (y : FrameLayout) (e : CoreTree) (l : Low) (r : Lowered) → IsLowered s y e l r → IsPerformed s y e l r
lowered_performed s y e l r lowered start turns f h map before values first k slots st sound wholes =
    forgotten s start turns l r.low h r.value map before values first (eval (context s.unit s.lowered.order) e k before) (lowered start turns f h map before values first k slots st sound wholes)

pub performed_part : (s : Scene) (locals : ℕ) (y : FrameLayout) (e : CoreTree) → IsLoweredPart s locals y e → IsPerformedPart s locals y e
performed_part s locals y e p = record { tame = p.tame; performed = λ l le. lowered_performed s y e l _ (p.lowered l le) }

-- ---- behind something

pub give_without : (r : Result) (f g : Value → ℕ → c.World → Result) → ((v : Value) (k : ℕ) (w : c.World) → without_value (f v k w) ≡ g v k w) → without_value (then_give r f) ≡ then_give r g
give_without (Gives v k w) f g h = h v k w
give_without (GivesNone line k w) f g h = refl
give_without (Ends how w) f g h = refl

pub drop_without : (r : Result) (go : ℕ → c.World → Result) → without_value (then_drop r go) ≡ then_drop r (λ k w. without_value (go k w))
drop_without (Gives v k w) go = refl
drop_without (GivesNone line k w) go = refl
drop_without (Ends how w) go = refl

pub fine_without : {A : Type 0} (checked : Checked A Cause) (line : ℕ) (w : c.World) (f g : A → Result) → ((a : A) → without_value (f a) ≡ g a) → without_value (if_fine checked line w f) ≡ if_fine checked line w g
fine_without (Ok a) line w f g h = h a
fine_without (Err cause) line w f g h = refl

pub either_without : (b : Bool) (f1 f2 g1 g2 : ℕ → c.World → Result) (k : ℕ) (w : c.World) → without_value (f1 k w) ≡ g1 k w → without_value (f2 k w) ≡ g2 k w → without_value (either b f1 f2 k w) ≡ either b g1 g2 k w
either_without true f1 f2 g1 g2 k w h g = h
either_without false f1 f2 g1 g2 k w h g = g

-- and it is none
pub none_without : (r : Result) (v : Value) (k : ℕ) (w : c.World) → without_value r ≡ Gives v k w → ⊥
none_without (Gives u j x) v k w e = let never : ⊥ = cc in never
none_without (GivesNone line j x) v k w e = let never : ⊥ = cc in never
none_without (Ends how x) v k w e = let never : ⊥ = cc in never
