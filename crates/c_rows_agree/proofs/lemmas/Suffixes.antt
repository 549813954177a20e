-- Templates in the suffix that a consumer asks for give the same word; and constants.
use Rattle.std.specs.Prelude.{◌≡◌, ◌<◌, ℕ, negsuc, ◌-◌, ◌^◌, Bool, true, false}
use Rattle.std.proofs.Common.{refl, ap, ◌∙◌, arith, inl, inr}
use Rattle.std.proofs.Math.Nat.{mod-eq_of_lt}
use Rattle.std.proofs.lemmas.Bool.{cases_lt}
use Rattle.std.proofs.lemmas.Int.{ints}
use Rattle.objects.specs.declared.value.Value.{Value}
use Rattle.objects.specs.declared.value.Value.TheVariants.{Number}
use Rattle.objects.specs.Arithmetic.{signed_of}
use Rattle.op_forest.specs.declared.suffix.Suffix.{Suffix}
use Rattle.op_forest.specs.declared.suffix.Suffix.TheVariants.{C, S, I, U, P, B, V}
use Rattle.forests.specs.Actions.{Gave}
use Rattle.forests.proofs.lemmas.BitLaws.{signed_low, signed_high}
use Rattle.forests.specs.Words.{Word, Plain, number_of}
use Rattle.c_rows_agree.specs.Templates.{Template, Scene, Gives}
use Rattle.c_rows_agree.specs.Typed.{Typed, Holds, constant_i, constant_u, as_i_from, as_u_from, as_p_from, as_by}
use Rattle.c_rows_agree.specs.Integers.{number, as_pointer}

-- ---- the same word

pub i_gives : (k : Scene) (s : Suffix) (t : Template) (w : Word) → Gives k t w → Gives k (as_i_from s t) w
i_gives k U t w h = (w, h, refl)
i_gives k P t w h = (w, (w, h, refl), refl)
i_gives k C t w h = h
i_gives k S t w h = h
i_gives k I t w h = h
i_gives k B t w h = h
i_gives k V t w h = h

pub u_gives : (k : Scene) (s : Suffix) (t : Template) (w : Word) → Gives k t w → Gives k (as_u_from s t) w
u_gives k I t w h = (w, h, refl)
u_gives k P t w h = (w, h, refl)
u_gives k C t w h = h
u_gives k S t w h = h
u_gives k U t w h = h
u_gives k B t w h = h
u_gives k V t w h = h

pub p_gives : (k : Scene) (s : Suffix) (t : Template) (w : Word) → Gives k t w → Gives k (as_p_from s t) w
p_gives k I t w h = (w, (w, h, refl), refl)
p_gives k U t w h = (w, h, refl)
p_gives k C t w h = h
p_gives k S t w h = h
p_gives k P t w h = h
p_gives k B t w h = h
p_gives k V t w h = h

pub by_gives : (k : Scene) (signed : Bool) (a : Typed) (w : Word) → Gives k a.tree w → Gives k (as_by signed a) w
by_gives k true a w h = i_gives k a.suffix a.tree w h
by_gives k false a w h = u_gives k a.suffix a.tree w h

pub pointer_holds : (k : Scene) (a : Typed) (v : Value) → Holds k a v → Holds k (as_pointer a) v
pointer_holds k a v h = record { word = h.word; gives = p_gives k a.suffix a.tree h.word h.gives; is = h.is }

-- ---- constants

pub number_back : (n : ℕ) → n < 2 ^ 32 → number_of (signed_of n) ≡ n
number_back n h = elim (cases_lt n (2 ^ 31)) [
  | inl l ↦ ap number_of (signed_low n l) ∙ mod-eq_of_lt h
  | inr l ↦ ap number_of (signed_high n l h) ∙ (let e : number_of (negsuc (2 ^ 32 - 1 - n)) ≡ n = omega (arith, ints) in e)
]

pub i_constant : (k : Scene) (n : ℕ) → n < 2 ^ 32 → Gives k (constant_i n) (Plain (Number n))
i_constant k n h = ap (λ (m : ℕ). Gave (Plain (Number m))) (number_back n h)

pub u_constant : (k : Scene) (n : ℕ) → n < 2 ^ 32 → Gives k (constant_u n) (Plain (Number n))
u_constant k n h = ap (λ (m : ℕ). Gave (Plain (Number m))) (mod-eq_of_lt h)

pub number_holds : (k : Scene) (signed : Bool) (n : ℕ) → n < 2 ^ 32 → Holds k (number signed n) (Number n)
number_holds k true n h = record { word = Plain (Number n); gives = i_constant k n h; is = refl }
number_holds k false n h = record { word = Plain (Number n); gives = u_constant k n h; is = refl }
