-- One list of bindings cut where scopes start.
use Rattle.std.proofs.Common.{◌≡◌, ℕ, ◌≤◌, Bool, false, cond, List, [], ◌∷◌, ◌++◌, length, take, drop, reverse, refl, sym, ap, subst, ◌∙◌, arith}
use Rattle.std.specs.Prelude.{Result, Ok, Err, OnOk, OnErr}
use Rattle.std.specs.Str.{bytes_eq}
use Rattle.std.proofs.lemmas.List.{reverse-append, take-append-drop, length-take-le, take-append-le, drop-append-le, nil_from_length, length_push, length-reverse}
use Rattle.c_ast.specs.InForce.{Binding, InForce, look_in, look, put_in, put}
use Rattle.names_in_force.specs.Cut.{cut, AreStarts, names_of}
use Rattle.names_in_force.specs.Stacked.{Stacked}

-- a look goes through the parts of a list one behind the other
pub look_append : (xs ys : List Binding) (name : List ℕ) (o : Bool) → look_in (xs ++ ys) name o ≡ look_in xs name (look_in ys name o)
look_append [] ys name o = refl
look_append (x ∷ xs) ys name o = ap (cond (bytes_eq x.name name) x.typedef) (look_append xs ys name o)

-- by scopes it finds what it finds in one list
pub look_cut : (ss : List ℕ) (bs : List Binding) (name : List ℕ) → AreStarts ss (length bs) → look (cut ss bs) name ≡ look_in (reverse bs) name false
look_cut [] bs name h = ap (λ (x : List Binding). look_in (reverse x) name false) (sym (nil_from_length bs h))
look_cut (s ∷ ss) bs name h =
    let inner = look_cut ss (take s bs) name (subst (AreStarts ss) (sym (length-take-le s bs h.0)) h.1) in
    ap (look_in (reverse (drop s bs)) name) inner
    ∙ sym (look_append (reverse (drop s bs)) (reverse (take s bs)) name false)
    ∙ ap (λ (x : List Binding). look_in x name false) (sym (reverse-append (take s bs) (drop s bs)) ∙ ap reverse (take-append-drop s bs))

-- one more binding is the innermost scope's
cut_put : (ss : List ℕ) (bs : List Binding) (b : Binding) → (ss ≡ [] → ⊥) → AreStarts ss (length bs) → cut ss (bs ++ b ∷ []) ≡ put_in (cut ss bs) b
cut_put [] bs b d h = absurd (d refl)
cut_put (s ∷ ss) bs b d h =
    ap (λ (x : List Binding). reverse x ∷ cut ss (take s (bs ++ b ∷ []))) (drop-append-le s bs (b ∷ []) h.0)
    ∙ ap (λ (x : List Binding). x ∷ cut ss (take s (bs ++ b ∷ []))) (reverse-append (drop s bs) (b ∷ []))
    ∙ ap (λ (x : List Binding). (b ∷ reverse (drop s bs)) ∷ cut ss x) (take-append-le s bs (b ∷ []) h.0)

in_force : List (List Binding) → List Binding → InForce
in_force scopes kept = record { scopes = scopes; kept = kept }

pub names_put : (old new : Stacked) (starts : List ℕ) (name : List ℕ) (typedef : Bool) → (reverse starts ≡ [] → ⊥) → AreStarts (reverse starts) (length old.bound)
    → new.kept ≡ old.kept → new.bound ≡ old.bound ++ record { name = name; typedef = typedef } ∷ [] → names_of new starts ≡ put (names_of old starts) name typedef
names_put old new starts name typedef d h k e = cc (cut_put (reverse starts) old.bound record { name = name; typedef = typedef } d h)

-- the starts stay, with more bindings
pub starts_more : (ss : List ℕ) (n m : ℕ) → (ss ≡ [] → ⊥) → n ≤ m → AreStarts ss n → AreStarts ss m
starts_more [] n m d l h = absurd (d refl)
starts_more (s ∷ ss) n m d l h = (omega (arith, h.0), h.1)

pub put_longer : {A E : Type 0} (r : Result A E) (new old : List Binding) (b : Binding) → OnOk r (new ≡ old ++ b ∷ []) → OnErr r (new ≡ old) → length old ≤ length new
put_longer (Ok a) new old b h e = omega (arith, ap length h, length_push old b)
put_longer (Err x) new old b h e = omega (arith, ap length e)

-- there is a start where there is a scope
pub some_start : (ss : List ℕ) (bs : List Binding) (s : List Binding) (rest : List (List Binding)) → cut ss bs ≡ s ∷ rest → ss ≡ [] → ⊥
some_start [] bs s rest h e = cc
some_start (x ∷ ss) bs s rest h e = cc

pub some_reversed : (starts : List ℕ) → (length starts ≡ 0 → ⊥) → reverse starts ≡ [] → ⊥
some_reversed starts d e = d (sym (length-reverse starts) ∙ ap length e)
