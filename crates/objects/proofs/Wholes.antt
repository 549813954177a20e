-- Fewer or more than four bytes are no pointer or function.
use Rattle.std.proofs.Common.{◌≡◌, ◌≢◌, ◌&&◌, ℕ, suc, ◌+◌, Bool, true, false, cond, List, [], ◌∷◌, length, reverse, Some, None, refl, sym, ◌∙◌, arith}
use Rattle.std.proofs.lemmas.List.{length-reverse}
use Rattle.lcc_base.specs.declared.order.Order.{Order}
use Rattle.lcc_base.specs.declared.order.Order.TheVariants.{Big, Little}
use Rattle.objects.specs.declared.byte.Byte.{Byte}
use Rattle.objects.specs.declared.byte.Byte.TheVariants.{Bits, Part}
use Rattle.objects.specs.declared.value.Value.{Value}
use Rattle.objects.specs.Bytes.{are_rest_of, is_part_of, whole_of, by_weight}

and_right : (a b : Bool) → (a && b) ≡ true → b ≡ true
and_right true b e = e
and_right false b e = cc

pub rest_length : (same : Value → Value → Bool) (v : Value) (k : ℕ) (bs : List (Byte Value)) → are_rest_of same v k bs ≡ true → k + length bs ≡ 4
rest_length same v k [] e = grind (arith, e)
rest_length same v k (b ∷ bs) e = let rest = rest_length same v (suc k) bs (and_right (is_part_of same v k b) (are_rest_of same v (suc k) bs) e) in omega (arith, rest)

none_where : (b : Bool) (v : Value) → (b ≡ true → ⊥) → cond b (Some v) None ≡ None
none_where true v h = absurd (h refl)
none_where false v h = refl

pub no_whole : (same : Value → Value → Bool) (bs : List (Byte Value)) → length bs ≢ 4 → whole_of same bs ≡ None
no_whole same [] h = refl
no_whole same (Bits known value ∷ bs) h = refl
no_whole same (Part v k ∷ bs) h = none_where (are_rest_of same v 0 (Part v k ∷ bs)) v (λ e. let whole = rest_length same v 0 (Part v k ∷ bs) e in h (omega (arith, whole)))

pub no_whole_in : (same : Value → Value → Bool) (order : Order) (bs : List (Byte Value)) → length bs ≢ 4 → None ≡ whole_of same (by_weight order bs)
no_whole_in same Big bs h = sym (no_whole same bs h)
no_whole_in same Little bs h = sym (no_whole same (reverse bs) (λ e. h (sym (length-reverse bs) ∙ e)))
