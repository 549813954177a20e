-- Places that are finished one by one, the last one first.
use Rattle.std.proofs.Common.{◌≡◌, ℕ, List, [], ◌∷◌, ◌++◌, map, reverse, refl, ap, ◌∙◌}
use Rattle.std.proofs.lemmas.List.{reverse-append}
use Rattle.c_initialisers.specs.declared.stored.Stored.{Stored}
use Rattle.c_initialisers.specs.Storing.{AreStoredIn, IsStoredIn}

pub reverse_one_more : {A : Type 0} (done : List A) (a : A) → reverse (done ++ a ∷ []) ≡ a ∷ reverse done
reverse_one_more done a = reverse-append done (a ∷ [])

last_apart : {B C : Type 0} (g : B → C) (rest : List B) (b : B) (behind : List C) → map g rest ++ g b ∷ behind ≡ map g (rest ++ b ∷ []) ++ behind
last_apart g [] b behind = refl
last_apart g (r ∷ rest) b behind = ap (λ zs. g r ∷ zs) (last_apart g rest b behind)

-- one more is finished, which stood last in what was left
pub one_more : {A B C : Type 0} (f : A → C) (g : B → C) (done : List A) (a : A) (rest : List B) (b : B) → f a ≡ g b → map g rest ++ map f (reverse (done ++ a ∷ [])) ≡ map g (rest ++ b ∷ []) ++ map f (reverse done)
one_more f g done a rest b e =
    ap (λ l. map g rest ++ map f l) (reverse_one_more done a)
    ∙ ap (λ z. map g rest ++ z ∷ map f (reverse done)) e
    ∙ last_apart g rest b (map f (reverse done))

pub stored_but_last : (n : ℕ) (rest : List Stored) (p : Stored) → AreStoredIn n (rest ++ p ∷ []) → AreStoredIn n rest × IsStoredIn n p
stored_but_last n [] p h = (tt, h.0)
stored_but_last n (q ∷ rest) p h =
    let left = stored_but_last n rest p h.1 in
    ((h.0, left.0), left.1)
