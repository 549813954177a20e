-- What a test of two parts, or a negated one, tells of them.
use Rattle.std.proofs.Common.{◌≡◌, ◌⊎◌, Bool, true, false, not, ◌&&◌, ◌||◌, refl, sym, inl, inr, true≢false}

pub never : {A : Type 0} → true ≡ false → A
never e = absurd (true≢false e)

pub not_false : (a : Bool) → not a ≡ false → a ≡ true
not_false true h = refl
not_false false h = never h

pub not_true : (a : Bool) → not a ≡ true → a ≡ false
not_true true h = never (sym h)
not_true false h = refl

pub and_left : (a b : Bool) → (a && b) ≡ true → a ≡ true
and_left true b h = refl
and_left false b h = h

pub and_right : (a b : Bool) → (a && b) ≡ true → b ≡ true
and_right true b h = h
and_right false b h = never (sym h)

pub and_true : (a b : Bool) → a ≡ true → b ≡ true → (a && b) ≡ true
and_true true b h k = k
and_true false b h k = h

pub or_cases : (a b : Bool) → (a || b) ≡ true → (a ≡ true) ⊎ (b ≡ true)
or_cases true b h = inl refl
or_cases false b h = inr h

pub or_left : (a b : Bool) → (a || b) ≡ false → a ≡ false
or_left true b h = h
or_left false b h = refl

pub or_right : (a b : Bool) → (a || b) ≡ false → b ≡ false
or_right true b h = never h
or_right false b h = h

pub or_true : (a b : Bool) → (a ≡ true) ⊎ (b ≡ true) → (a || b) ≡ true
or_true true b h = refl
or_true false b (inl h) = never (sym h)
or_true false b (inr h) = h

pub or_false : (a b : Bool) → a ≡ false → b ≡ false → (a || b) ≡ false
or_false true b h k = h
or_false false b h k = k

-- where one stands and both don't, the other doesn't
pub and_beside : (a b : Bool) → a ≡ true → (a && b) ≡ false → b ≡ false
and_beside true b h k = k
and_beside false b h k = never (sym h)

pub negated : (a : Bool) → a ≡ false → not a ≡ true
negated true h = never h
negated false h = refl
