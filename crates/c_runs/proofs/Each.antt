-- What holds of each element of a list holds of each of others that are made of it.
use Rattle.std.specs.Prelude.{ℕ, zero, suc, IfSome, List, [], ◌∷◌, ◌++◌, map, take, drop, reverse, replicate, slice_get}
use Rattle.std.proofs.Common.{sym, subst}
use Rattle.std.proofs.lemmas.Grind.{reverse_onto}
use Rattle.objects.specs.Objects.{overwritten}
use Rattle.c_meaning.specs.Each.{EachIs}

pub each_get : {A : Type 0} (P : A → Type 0) (xs : List A) (n : ℕ) → EachIs P xs → IfSome (slice_get xs n) P
each_get P [] n h = tt
each_get P (x ∷ xs) zero h = h.0
each_get P (x ∷ xs) (suc n) h = each_get P xs n h.1

pub each_append : {A : Type 0} (P : A → Type 0) (xs ys : List A) → EachIs P xs → EachIs P ys → EachIs P (xs ++ ys)
each_append P [] ys h g = g
each_append P (x ∷ xs) ys h g = (h.0, each_append P xs ys h.1 g)

pub each_of : {A : Type 0} (P Q : A → Type 0) (xs : List A) → ((x : A) → P x → Q x) → EachIs P xs → EachIs Q xs
each_of P Q [] f h = tt
each_of P Q (x ∷ xs) f h = (f x h.0, each_of P Q xs f h.1)

pub each_take : {A : Type 0} (P : A → Type 0) (n : ℕ) (xs : List A) → EachIs P xs → EachIs P (take n xs)
each_take P zero xs h = tt
each_take P (suc n) [] h = tt
each_take P (suc n) (x ∷ xs) h = (h.0, each_take P n xs h.1)

pub each_drop : {A : Type 0} (P : A → Type 0) (n : ℕ) (xs : List A) → EachIs P xs → EachIs P (drop n xs)
each_drop P zero xs h = h
each_drop P (suc n) [] h = tt
each_drop P (suc n) (x ∷ xs) h = each_drop P n xs h.1

pub each_replicate : {A : Type 0} (P : A → Type 0) (n : ℕ) (x : A) → P x → EachIs P (replicate n x)
each_replicate P zero x h = tt
each_replicate P (suc n) x h = (h, each_replicate P n x h)

pub each_map : {A B : Type 0} (P : A → Type 0) (Q : B → Type 0) (f : A → B) (xs : List A) → ((x : A) → P x → Q (f x)) → EachIs P xs → EachIs Q (map f xs)
each_map P Q f [] g h = tt
each_map P Q f (x ∷ xs) g h = (g x h.0, each_map P Q f xs g h.1)

pub each_reverse : {A : Type 0} (P : A → Type 0) (xs : List A) → EachIs P xs → EachIs P (reverse xs)
each_reverse P [] h = tt
each_reverse P (x ∷ xs) h = subst (λ ys. EachIs P ys) (sym (reverse_onto xs x [])) (each_append P (reverse xs) (x ∷ []) (each_reverse P xs h.1) (h.0, tt))

pub each_overwritten : {A : Type 0} (P : A → Type 0) (k : ℕ) (new old : List A) → EachIs P new → EachIs P old → EachIs P (overwritten k new old)
each_overwritten P zero [] old h g = g
each_overwritten P zero (x ∷ xs) [] h g = tt
each_overwritten P zero (x ∷ xs) (y ∷ ys) h g = (h.0, each_overwritten P zero xs ys h.1 g.1)
each_overwritten P (suc k) new [] h g = tt
each_overwritten P (suc k) new (y ∷ ys) h g = (g.0, each_overwritten P k new ys h g.1)
