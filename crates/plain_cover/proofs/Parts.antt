-- Parts that stand one after the other.
use Rattle.std.proofs.Common.{◌≡◌, ℕ, ◌≤◌, List, [], ◌∷◌, ◌++◌, refl, sym, ap, ◌∙◌, arith, append_assoc, append-nil}
use Rattle.std.specs.Prelude.{max}
use Rattle.lburg_model.specs.declared.rule.Rule.{Rule}
use Rattle.lburg_model.specs.Pattern.{Goal}
use Rattle.lburg_model.specs.Derivation.{MDerivation, MParts, NoPart, Part, DeriveEach, numbers, numbers_in}
use Rattle.plain_cover.specs.declared.plain.Found.{Found}
use Rattle.plain_cover.specs.Height.{tallest}
use Rattle.plain_cover.specs.Told.{told, told_of_parts, told_of_both}
use Rattle.plain_cover.proofs.Order.{same_found}

-- parts for goals in front and for goals behind
pub record Splits (rules : List Rule) (gs fs : List Goal) (xs : MParts) : Type 0 where
  pub front : MParts
  pub back : MParts
  pub each_front : DeriveEach rules gs front
  pub each_back : DeriveEach rules fs back
  pub low_front : tallest front ≤ tallest xs
  pub low_back : tallest back ≤ tallest xs
  pub tells : told_of_parts rules xs ≡ told_of_both (told_of_parts rules front) (told_of_parts rules back)

pub record Joined (rules : List Rule) (gs fs : List Goal) (ys zs : MParts) : Type 0 where
  pub whole : MParts
  pub each : DeriveEach rules (gs ++ fs) whole
  pub low : tallest whole ≤ max (tallest ys) (tallest zs)
  pub tells : told_of_parts rules whole ≡ told_of_both (told_of_parts rules ys) (told_of_parts rules zs)

more_told : (rules : List Rule) (x : MDerivation) (xs ys zs : MParts) → told_of_parts rules xs ≡ told_of_both (told_of_parts rules ys) (told_of_parts rules zs) → told_of_parts rules (Part x xs) ≡ told_of_both (told_of_parts rules (Part x ys)) (told_of_parts rules zs)
more_told rules x xs ys zs e =
    let a = ap (λ (z : Found). z.cost) e in
    let b = ap (λ (z : Found). z.count) e in
    let c = ap (λ (z : Found). z.numbers) e in
    same_found (told_of_parts rules (Part x xs)) (told_of_both (told_of_parts rules (Part x ys)) (told_of_parts rules zs)) (omega arith) (omega arith)
    (ap (λ (l : List ℕ). numbers x ++ l) c ∙ sym (append_assoc (numbers x) (numbers_in ys) (numbers_in zs)))

pub splits : (rules : List Rule) (gs fs : List Goal) (xs : MParts) → DeriveEach rules (gs ++ fs) xs → Splits rules gs fs xs
splits rules [] fs xs d = record { front = NoPart; back = xs; each_front = tt; each_back = d; low_front = omega arith; low_back = omega arith; tells = same_found (told_of_parts rules xs) (told_of_both (told_of_parts rules NoPart) (told_of_parts rules xs)) (omega arith) (omega arith) refl }
splits rules (g ∷ gs) fs NoPart d = absurd d
splits rules (g ∷ gs) fs (Part x xs) d =
    let s = splits rules gs fs xs d.1 in
    record { front = Part x s.front; back = s.back; each_front = (d.0, s.each_front); each_back = s.each_back; low_front = omega (arith, s.low_front); low_back = omega (arith, s.low_back); tells = more_told rules x xs s.front s.back s.tells }

pub parts_joined : (rules : List Rule) (gs fs : List Goal) (ys zs : MParts) → DeriveEach rules gs ys → DeriveEach rules fs zs → Joined rules gs fs ys zs
parts_joined rules [] fs NoPart zs a b = record { whole = zs; each = b; low = omega arith; tells = same_found (told_of_parts rules zs) (told_of_both (told_of_parts rules NoPart) (told_of_parts rules zs)) (omega arith) (omega arith) refl }
parts_joined rules [] fs (Part y ys) zs a b = absurd a
parts_joined rules (g ∷ gs) fs NoPart zs a b = absurd a
parts_joined rules (g ∷ gs) fs (Part y ys) zs a b =
    let j = parts_joined rules gs fs ys zs a.1 b in
    record { whole = Part y j.whole; each = (a.0, j.each); low = omega (arith, j.low); tells = more_told rules y j.whole ys zs j.tells }

-- one part alone
pub alone_told : (rules : List Rule) (x : MDerivation) → told_of_parts rules (Part x NoPart) ≡ told rules x
alone_told rules x = same_found (told_of_parts rules (Part x NoPart)) (told rules x) (omega arith) (omega arith) (append-nil (numbers x))
