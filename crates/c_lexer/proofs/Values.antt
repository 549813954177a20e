-- The values that the characters of a literal have.
use Rattle.std.proofs.Common.{◌≡◌, ◌+◌, ℕ, zero, suc, Some, Ok, List, [], ◌∷◌, length, drop, refl, sym, ap, ◌∙◌, subst, arith}
use Rattle.std.proofs.lemmas.Grind.{common_steps}
use Rattle.c_lexer.specs.declared.quoted.Quoted.{Quoted}
use Rattle.c_lexer.specs.declared.quoted.Quoted.TheVariants.{Close, Character, Fault}
use Rattle.c_lexer.specs.Chains.{Chain}
use Rattle.c_lexer.specs.Quoted.{quoted, behind_quoted, next_character}
use Rattle.c_lexer.specs.Characters.{Characters, Values}

pub is_character : (k : Quoted) (n mid : ℕ) → behind_quoted k n ≡ Some mid → (v len : ℕ) × (k ≡ Character v len) × (mid ≡ n + len)
is_character (Character v len) n mid e = (v, len, refl, (let f : n + len ≡ mid = cc in sym f))
is_character Close n mid e = absurd cc
is_character (Fault kind) n mid e = absurd cc

pub dropped : (bytes : List ℕ) (n len mid : ℕ) → mid ≡ n + len → drop mid bytes ≡ drop len (drop n bytes)
dropped bytes n len mid e = grind (arith, common_steps)

values_from : (quote : ℕ) (bytes : List ℕ) (count n m : ℕ) → Chain (next_character quote bytes) count n m → quoted quote (drop m bytes) ≡ Close → (vs : List ℕ) × Values quote (drop n bytes) vs × (length vs ≡ count)
values_from quote bytes zero n m c e = ([], ap (λ x. quoted quote (drop x bytes)) c ∙ e, refl)
values_from quote bytes (suc count) n m (mid, f, c) e =
    let k = is_character (quoted quote (drop n bytes)) n mid f in
    let r = values_from quote bytes count mid m c e in
    (k.0 ∷ r.0, (k.1, k.2, subst (λ (l : List ℕ). Values quote l r.0) (dropped bytes n k.1 mid k.3) r.1), ap (λ (x : ℕ). suc x) r.2)

-- each character up to the quote has a value
pub have_values : (quote : ℕ) (bytes : List ℕ) (x : ℕ × ℕ) → Characters quote bytes (Ok x) → (vs : List ℕ) × Values quote bytes vs × (length vs ≡ x.0)
have_values quote bytes x c = values_from quote bytes x.0 0 x.1 c.0 c.1

same_character : (v w l k : ℕ) → Character v l ≡ Character w k → (v ≡ w) × (l ≡ k)
same_character v w l k e = (cc, cc)

-- and one list of them
pub one_values : (quote : ℕ) (bytes : List ℕ) (vs ws : List ℕ) → Values quote bytes vs → Values quote bytes ws → vs ≡ ws
one_values quote bytes [] [] c d = refl
one_values quote bytes [] (w ∷ ws) c (k, d, more) = absurd (let f = sym c ∙ d in cc)
one_values quote bytes (v ∷ vs) [] (l, c, more) d = absurd (let f = sym c ∙ d in cc)
one_values quote bytes (v ∷ vs) (w ∷ ws) (l, c, more) (k, d, others) =
    let h = same_character v w l k (sym c ∙ d) in
    let r = one_values quote (drop k bytes) vs ws (subst (λ (x : ℕ). Values quote (drop x bytes) vs) h.1 more) others in
    let e = h.0 in cc
