-- The order of what is told of derivations.
use Rattle.std.proofs.Common.{◌≡◌, ℕ, List, [], ◌∷◌, ◌++◌, refl, sym, ap, ◌∙◌, arith, subst, inl, inr}
use Rattle.lburg_model.specs.Best.{Earlier}
use Rattle.plain_cover.specs.declared.plain.Found.{Found}
use Rattle.plain_cover.specs.Told.{told_of_both, told_of_rule}
use Rattle.plain_cover.specs.Less.{Less, ByCost, ByCount, ByNumbers, Upto}

pub same_found : (f g : Found) → f.cost ≡ g.cost → f.count ≡ g.count → f.numbers ≡ g.numbers → f ≡ g
same_found f g a b c =
    let e : f ≡ record { cost = g.cost; count = f.count; numbers = f.numbers } = ap (λ (z : ℕ). let r : Found = record { cost = z; count = f.count; numbers = f.numbers } in r) a in
    e ∙ ap (λ (z : ℕ). let r : Found = record { cost = g.cost; count = z; numbers = f.numbers } in r) b ∙ ap (λ (z : List ℕ). let r : Found = record { cost = g.cost; count = g.count; numbers = z } in r) c

earlier_trans : (xs ys zs : List ℕ) → Earlier xs ys → Earlier ys zs → Earlier xs zs
earlier_trans [] ys zs a b = a
earlier_trans (x ∷ xs) [] zs a b = absurd a
earlier_trans (x ∷ xs) (y ∷ ys) [] a b = b
earlier_trans (x ∷ xs) (y ∷ ys) (z ∷ zs) (inl a) (inl b) = inl (omega arith)
earlier_trans (x ∷ xs) (y ∷ ys) (z ∷ zs) (inl a) (inr b) = let e = b.0 in inl (omega arith)
earlier_trans (x ∷ xs) (y ∷ ys) (z ∷ zs) (inr a) (inl b) = let e = a.0 in inl (omega arith)
earlier_trans (x ∷ xs) (y ∷ ys) (z ∷ zs) (inr a) (inr b) = inr (a.0 ∙ b.0, earlier_trans xs ys zs a.1 b.1)

pub less_trans : (f g h : Found) → Less f g → Less g h → Less f h
less_trans f g h (ByCost a) (ByCost b) = ByCost (omega arith)
less_trans f g h (ByCost a) (ByCount b c) = ByCost (omega arith)
less_trans f g h (ByCost a) (ByNumbers b c d) = ByCost (omega arith)
less_trans f g h (ByCount a e) (ByCost b) = ByCost (omega arith)
less_trans f g h (ByCount a e) (ByCount b c) = ByCount (omega arith) (omega arith)
less_trans f g h (ByCount a e) (ByNumbers b c d) = ByCount (omega arith) (omega arith)
less_trans f g h (ByNumbers a e k) (ByCost b) = ByCost (omega arith)
less_trans f g h (ByNumbers a e k) (ByCount b c) = ByCount (omega arith) (omega arith)
less_trans f g h (ByNumbers a e k) (ByNumbers b c d) = ByNumbers (omega arith) (omega arith) (earlier_trans f.numbers g.numbers h.numbers k d)

pub less_upto : (f g h : Found) → Less f g → Upto g h → Less f h
less_upto f g h a (inl e) = subst (Less f) e a
less_upto f g h a (inr b) = less_trans f g h a b

pub upto_trans : (f g h : Found) → Upto f g → Upto g h → Upto f h
upto_trans f g h (inl e) b = subst (λ (z : Found). Upto z h) (sym e) b
upto_trans f g h (inr a) b = inr (less_upto f g h a b)

earlier_front : (xs ys zs : List ℕ) → Earlier ys zs → Earlier (xs ++ ys) (xs ++ zs)
earlier_front [] ys zs e = e
earlier_front (x ∷ xs) ys zs e = inr (refl, earlier_front xs ys zs e)

earlier_more : (xs ys us vs : List ℕ) → Earlier xs ys → Earlier (xs ++ us) (ys ++ vs)
earlier_more [] ys us vs e = absurd e
earlier_more (x ∷ xs) [] us vs e = absurd e
earlier_more (x ∷ xs) (y ∷ ys) us vs (inl h) = inl h
earlier_more (x ∷ xs) (y ∷ ys) us vs (inr h) = inr (h.0, earlier_more xs ys us vs h.1)

front_upto : (f g h : Found) → Upto g h → Upto (told_of_both f g) (told_of_both f h)
front_upto f g h (inl e) = inl (ap (told_of_both f) e)
front_upto f g h (inr (ByCost a)) = inr (ByCost (omega arith))
front_upto f g h (inr (ByCount a b)) = inr (ByCount (omega arith) (omega arith))
front_upto f g h (inr (ByNumbers a b c)) = inr (ByNumbers (omega arith) (omega arith) (earlier_front f.numbers g.numbers h.numbers c))

back_less : (f f' g g' : Found) → Less f f' → Upto g g' → Less (told_of_both f g) (told_of_both f' g')
back_less f f' g g' (ByCost a) (inl e) = let c = ap (λ (z : Found). z.cost) e in ByCost (omega arith)
back_less f f' g g' (ByCost a) (inr (ByCost b)) = ByCost (omega arith)
back_less f f' g g' (ByCost a) (inr (ByCount b c)) = ByCost (omega arith)
back_less f f' g g' (ByCost a) (inr (ByNumbers b c d)) = ByCost (omega arith)
back_less f f' g g' (ByCount a k) (inl e) = let c = ap (λ (z : Found). z.cost) e in let m = ap (λ (z : Found). z.count) e in ByCount (omega arith) (omega arith)
back_less f f' g g' (ByCount a k) (inr (ByCost b)) = ByCost (omega arith)
back_less f f' g g' (ByCount a k) (inr (ByCount b c)) = ByCount (omega arith) (omega arith)
back_less f f' g g' (ByCount a k) (inr (ByNumbers b c d)) = ByCount (omega arith) (omega arith)
back_less f f' g g' (ByNumbers a k l) (inl e) = let c = ap (λ (z : Found). z.cost) e in let m = ap (λ (z : Found). z.count) e in ByNumbers (omega arith) (omega arith) (earlier_more f.numbers f'.numbers g.numbers g'.numbers l)
back_less f f' g g' (ByNumbers a k l) (inr (ByCost b)) = ByCost (omega arith)
back_less f f' g g' (ByNumbers a k l) (inr (ByCount b c)) = ByCount (omega arith) (omega arith)
back_less f f' g g' (ByNumbers a k l) (inr (ByNumbers b c d)) = ByNumbers (omega arith) (omega arith) (earlier_more f.numbers f'.numbers g.numbers g'.numbers l)

pub both_upto : (f f' g g' : Found) → Upto f f' → Upto g g' → Upto (told_of_both f g) (told_of_both f' g')
both_upto f f' g g' (inl e) b = subst (λ (z : Found). Upto (told_of_both f g) (told_of_both z g')) e (front_upto f g g' b)
both_upto f f' g g' (inr a) b = inr (back_less f f' g g' a b)

pub rule_upto : (number cost : ℕ) (f g : Found) → Upto f g → Upto (told_of_rule number cost f) (told_of_rule number cost g)
rule_upto number cost f g (inl e) = inl (ap (told_of_rule number cost) e)
rule_upto number cost f g (inr (ByCost a)) = inr (ByCost (omega arith))
rule_upto number cost f g (inr (ByCount a b)) = inr (ByCount (omega arith) (omega arith))
rule_upto number cost f g (inr (ByNumbers a b c)) = inr (ByNumbers (omega arith) (omega arith) (inr (refl, c)))
