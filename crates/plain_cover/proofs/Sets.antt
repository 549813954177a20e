-- The least of sets.
use Rattle.std.proofs.Common.{Option, Some, None, sym, subst, inl, inr, ◌⊎◌, ⊎_elim}
use Rattle.plain_cover.specs.declared.plain.Found.{Found}
use Rattle.plain_cover.specs.Less.{Less, Upto, IsLesser}
use Rattle.plain_cover.specs.IsLeastOf.{IsLeastOf}
use Rattle.plain_cover.proofs.Order.{less_upto, upto_trans}

pub same_set : {X : Type 0} (tell : X → Found) (P Q : X → Type 0) → ((x : X) → P x → Q x) → ((x : X) → Q x → P x) → (o : Option Found) → IsLeastOf tell P o → IsLeastOf tell Q o
same_set {X} tell P Q to from None a = λ x q. a x (from x q)
same_set {X} tell P Q to from (Some f) (x, p, e, others) = (x, to x p, e, λ y q. others y (from y q))

second_of_none : {X : Type 0} (tell : X → Found) (P Q : X → Type 0) → ((x : X) → P x → ⊥) → (o : Option Found) → IsLeastOf tell Q o → IsLeastOf tell (λ x. P x ⊎ Q x) o
second_of_none {X} tell P Q none None b = λ x h. ⊎_elim (λ p. none x p) (λ q. b x q) h
second_of_none {X} tell P Q none (Some g) (x, q, e, others) = (x, inr q, e, λ y h. ⊎_elim (λ p. absurd (none y p)) (λ r. others y r) h)

-- the lesser of two least ones is the least of both sets
pub lesser_least : {X : Type 0} (tell : X → Found) (P Q : X → Type 0) → ((x y : X) → P x → Q y → (Less (tell y) (tell x) → ⊥) → Upto (tell x) (tell y)) → (a b r : Option Found) → IsLeastOf tell P a → IsLeastOf tell Q b → IsLesser a b r → IsLeastOf tell (λ x. P x ⊎ Q x) r
lesser_least {X} tell P Q total None b r u v e = second_of_none tell P Q u r (subst (IsLeastOf tell Q) (sym e) v)
lesser_least {X} tell P Q total (Some f) None r (x, p, e, others) v g =
    let A : Option Found → Type 0 = IsLeastOf tell (λ x. P x ⊎ Q x) in
    subst A (sym g) (x, inl p, e, λ y h. ⊎_elim (λ s. others y s) (λ q. absurd (v y q)) h)
lesser_least {X} tell P Q total (Some f) (Some g) r (x, p, e, others) (y, q, k, rest) (inl (less, is)) =
    let A : Option Found → Type 0 = IsLeastOf tell (λ x. P x ⊎ Q x) in
    subst A (sym is) (y, inr q, k, λ z h. ⊎_elim (λ s. inr (less_upto g f (tell z) less (others z s))) (λ s. rest z s) h)
lesser_least {X} tell P Q total (Some f) (Some g) r (x, p, e, others) (y, q, k, rest) (inr (not_less, is)) =
    let A : Option Found → Type 0 = IsLeastOf tell (λ x. P x ⊎ Q x) in
    let B : Found → Found → Type 0 = λ a b. Less b a → ⊥ in
    let away : Less (tell y) (tell x) → ⊥ = subst (λ (z : Found). B (tell x) z) k (subst (λ (z : Found). B z g) e not_less) in
    let front : Upto f g = subst (λ (z : Found). Upto f z) (sym k) (subst (λ (z : Found). Upto z (tell y)) (sym e) (total x y p q away)) in
    subst A (sym is) (x, inl p, e, λ z h. ⊎_elim (λ s. others z s) (λ s. upto_trans f g (tell z) front (rest z s)) h)
