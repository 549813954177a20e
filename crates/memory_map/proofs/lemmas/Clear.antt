-- Addresses that are clear of objects stay so, and what stands there stays.
use Rattle.std.proofs.Common.{◌≡◌, inl, inr, ⊎_elim, ℕ, ◌+◌, ◌-◌, ◌<◌, ◌≤◌, List, length, Option, Some, sym, ap, ◌∙◌, subst, arith}
use Rattle.std.specs.Prelude.{true}
use Rattle.std.proofs.lemmas.Bool.{cases_lt}
use Rattle.forests.specs.Objects.{Object}
use Rattle.memory_map.specs.Maps.{Map, Grown, start_of, start_at}
use Rattle.memory_map.specs.Lies.{IsLaid, IsClear, Fades}
use Rattle.memory_map.specs.Memory.{Changed, HasSome}
use Rattle.memory_map.specs.Privacy.{PrivateStays, ClearLess, ClearFades}
use Rattle.memory_map.proofs.lemmas.Overwritten.{some_is}
use Rattle.memory_map.proofs.lemmas.Lying.{has_object}
use Rattle.memory_map.proofs.lemmas.Ended.{faded_byte, faded_start}

-- a write into an object leaves private bytes as they were
pub private_same : (map : Map) (objects : List Object) (P : ℕ → Type 0) (old new : ℕ → Option ℕ) (o offset a : ℕ) (vs : List ℕ) (x : ℕ) → IsClear map objects P → start_at map objects o ≡ Some a → HasSome objects o offset (length vs) → Changed old new (a + offset) vs → P x → new x ≡ old x
private_same map objects P old new o offset a vs x clear at there c p = ⊎_elim
    (λ low. c.outside x (inl low))
    (λ low. ⊎_elim (λ high. absurd (never low high)) (λ high. c.outside x (inr high)) (cases_lt x (a + offset + length vs)))
    (cases_lt x (a + offset))
  where
    split : a + offset ≤ x → x ≡ a + (offset + (x - (a + offset)))
    split low = omega (arith, low)

    never : a + offset ≤ x → x < a + offset + length vs → ⊥
    never low high =
        let k = x - (a + offset) in
        let h : k < length vs = omega (arith, low, high) in
        let t = there k h in
        clear o (offset + k) a t.0 t.1 at (subst P (split low) p)

pub clear_less : (map : Map) (objects : List Object) (P Q : ℕ → Type 0) → ((x : ℕ) → Q x → P x) → IsClear map objects P → IsClear map objects Q
clear_less map objects P Q less clear o i a b has e q = clear o i a b has e (less (a + i) q)

-- addresses that were clear of the objects stay so, where no byte of an object is new
pub clear_fades : (a b : Map) (floor made : ℕ) (old new : List Object) (P : ℕ → Type 0) → IsLaid a floor made old → Grown a b → Fades old new → IsClear a old P → IsClear b new P
clear_fades a b floor made old new P laid gr f clear o i s x has e p =
    let c = faded_byte old new f o i x has in
    let y = has_object old o i c.0 c.1 in
    let k = laid.known o y.0 y.1 in
    let there : start_at a old o ≡ Some k.0 = ap (start_of a) y.1 ∙ k.1 in
    let later : start_at b old o ≡ Some k.0 = ap (start_of b) y.1 ∙ gr.objects y.0.made k.0 k.1 in
    let q : k.0 ≡ s = some_is k.0 s (sym later ∙ sym (faded_start b old new f o i x has) ∙ e) in
    clear o i k.0 c.0 c.1 there (subst P (ap (λ (n : ℕ). n + i) (sym q)) p)

-- the same of sets
pub set_same : PrivateStays
set_same map objects set old new o offset a vs x clear at there c p = private_same map objects (λ y. set y ≡ true) old new o offset a vs x clear at there c p

pub set_less : ClearLess
set_less map objects set fewer less clear = clear_less map objects (λ x. set x ≡ true) (λ x. fewer x ≡ true) less clear

pub set_fades : ClearFades
set_fades a b floor made old new set laid gr f clear = clear_fades a b floor made old new (λ x. set x ≡ true) laid gr f clear
