-- What stands behind some tokens, by its length.
use Rattle.std.proofs.Common.{◌≡◌, ◌≤◌, ◌-◌, ℕ, List, [], ◌∷◌, ◌++◌, length, drop, take, refl, sym, ap, subst, ◌∙◌, arith}
use Rattle.std.proofs.lemmas.List.{length-map, length-append, take-append-drop, drop-map}
use Rattle.asm_lines.specs.declared.token.Token.{Token}
use Rattle.asm_lines.specs.Tokens.{Spaced, view, views}

-- the second list stands behind some of the first
abbrev pub IsBehind : {A : Type 0} → List A → List A → Type 0
IsBehind {A} ts rest = (front : List A) × (ts ≡ front ++ rest)

pub behind_all : {A : Type 0} (ts rest : List A) → ts ≡ rest → IsBehind ts rest
behind_all {A} ts rest e = ([], e)

pub behind_one : {A : Type 0} (t : A) (ts rest : List A) → IsBehind ts rest → IsBehind (t ∷ ts) rest
behind_one {A} t ts rest h = (t ∷ h.0, ap (λ (l : List A). t ∷ l) h.1)

front_more : {A : Type 0} (f g rest : List A) → f ++ (g ++ rest) ≡ (f ++ g) ++ rest
front_more {A} [] g rest = refl
front_more {A} (t ∷ f) g rest = ap (λ (l : List A). t ∷ l) (front_more f g rest)

pub behind_behind : {A : Type 0} (ts mid rest : List A) → IsBehind ts mid → IsBehind mid rest → IsBehind ts rest
behind_behind {A} ts mid rest h k = (h.0 ++ k.0, h.1 ∙ ap (λ (l : List A). h.0 ++ l) k.1 ∙ front_more h.0 k.0 rest)

pub behind_short : {A : Type 0} (ts rest : List A) → IsBehind ts rest → length rest ≤ length ts
behind_short {A} ts rest h = let e = ap (λ (l : List A). length l) h.1 in omega (arith, length-append h.0 rest)

drop_front : {A : Type 0} (f rest : List A) (n : ℕ) → n ≡ length f → drop n (f ++ rest) ≡ rest
drop_front {A} [] rest n e = rw e refl
drop_front {A} (t ∷ f) rest n e = rw e (drop_front f rest (length f) refl)

-- tokens that end as others do
pub behind_at : (tokens left rest : List Token) (at : ℕ) → left ≡ drop at tokens → IsBehind (views left) (views rest) → views (drop (length tokens - length rest) tokens) ≡ views rest
behind_at tokens left rest at d h =
    let a : IsBehind (views tokens) (views left) = (take at (views tokens), sym (take-append-drop at (views tokens)) ∙ ap (λ (k : List Spaced). take at (views tokens) ++ k) (drop-map view at tokens ∙ ap views (sym d))) in
    let b = behind_behind (views tokens) (views left) (views rest) a h in
    let e = ap (λ (k : List Spaced). length k) b.1 in
    let n : length tokens - length rest ≡ length b.0 = omega (arith, length-append b.0 (views rest), length-map tokens view, length-map rest view) in
    sym (drop-map view (length tokens - length rest) tokens) ∙ ap (λ (k : List Spaced). drop (length tokens - length rest) k) b.1 ∙ drop_front b.0 (views rest) (length tokens - length rest) n

pub behind_next : {A : Type 0} (t : A) (ts us rest : List A) → ts ≡ t ∷ us → IsBehind us rest → IsBehind ts rest
behind_next {A} t ts us rest e h = let P : List A → Type 0 = λ l. IsBehind l rest in subst P (sym e) (behind_one t us rest h)
