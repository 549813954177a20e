-- The names of terminals, one after the other.
use Rattle.std.proofs.Common.{◌≡◌, ℕ, zero, suc, ◌+◌, ◌<◌, List, [], ◌∷◌, ◌++◌, length, map, take, get_or, Option, Some, refl, sym, ap, ◌∙◌, add-one, arith}
use Rattle.std.specs.Prelude.{slice_get, option_map}
use Rattle.std.proofs.lemmas.Option.{slice_get-map, slice_get_read, same_Some, none-some}
use Rattle.lcc_text.specs.Names.{with_name}
use Rattle.lcc_text.proofs.lemmas.Places.{with_new}
use Rattle.lburg_model.specs.declared.terminal.Terminal.{Terminal}
use Rattle.lburg_model.specs.Description.{AreDistinct}

map_taken : (ts : List Terminal) (i : ℕ) → take i (map (λ (t : Terminal). t.name) ts) ≡ map (λ (t : Terminal). t.name) (take i ts)
map_taken [] zero = refl
map_taken [] (suc i) = refl
map_taken (t ∷ ts) zero = refl
map_taken (t ∷ ts) (suc i) = ap (λ (l : List (List ℕ)). t.name ∷ l) (map_taken ts i)

taken_at : (all : List (List ℕ)) (i k : ℕ) (x : List ℕ) → slice_get (take i all) k ≡ Some x → (k < i) × (slice_get all k ≡ Some x)
taken_at [] zero k x e = absurd (none-some x e)
taken_at [] (suc i) k x e = absurd (none-some x e)
taken_at (y ∷ all) zero k x e = absurd (none-some x e)
taken_at (y ∷ all) (suc i) zero x e = (omega arith, e)
taken_at (y ∷ all) (suc i) (suc k) x e = let r = taken_at all i k x e in let l = r.0 in (omega arith, r.1)

take_zero : (all : List (List ℕ)) → take 0 all ≡ []
take_zero [] = refl
take_zero (y ∷ all) = refl

take_push : (all : List (List ℕ)) (i : ℕ) (x : List ℕ) → slice_get all i ≡ Some x → take (suc i) all ≡ take i all ++ x ∷ []
take_push [] i x e = absurd (none-some x e)
take_push (y ∷ all) zero x e = ap (λ (z : List ℕ). z ∷ take 0 all) (same_Some y x e) ∙ ap (λ (l : List (List ℕ)). x ∷ l) (take_zero all)
take_push (y ∷ all) (suc i) x e = ap (λ (l : List (List ℕ)). y ∷ l) (take_push all i x e)

name_push : (all : List (List ℕ)) (i : ℕ) (x : List ℕ) (names new : List (List ℕ)) → AreDistinct all → slice_get all i ≡ Some x → names ≡ take i all → new ≡ with_name names x → new ≡ take (i + 1) all
name_push all i x names new once here e f =
    let fresh : (k : ℕ) → slice_get (take i all) k ≡ Some x → ⊥ = λ k h. (let r = taken_at all i k x h in let q = once k i x r.1 here in let l = r.0 in omega arith) in
    f ∙ ap (λ (ns : List (List ℕ)). with_name ns x) e ∙ with_new (take i all) x fresh ∙ sym (take_push all i x here) ∙ ap (λ (k : ℕ). take k all) (sym (add-one i))

-- one more terminal's name
pub name_more : (ts : List Terminal) (i : ℕ) (x : Terminal) (names new : List (List ℕ)) → AreDistinct (map (λ (t : Terminal). t.name) ts) → i < length ts → x ≡ get_or ts i x → names ≡ map (λ (t : Terminal). t.name) (take i ts) → new ≡ with_name names x.name → new ≡ map (λ (t : Terminal). t.name) (take (i + 1) ts)
name_more ts i x names new once l read e f =
    let here = slice_get-map (λ (t : Terminal). t.name) ts i ∙ ap (λ (o : Option Terminal). option_map (λ (t : Terminal). t.name) o) (slice_get_read ts (length ts) i x refl l read) in
    name_push (map (λ (t : Terminal). t.name) ts) i x.name names new once here (e ∙ sym (map_taken ts i)) f ∙ map_taken ts (i + 1)
