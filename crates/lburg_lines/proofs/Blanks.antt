-- Blanks between tokens, and tokens one after another.
use Rattle.std.proofs.Common.{Bool, ◌==◌, ◌≡◌, ◌≤◌, ℕ, true, false, List, [], ◌∷◌, ◌++◌, length, take, drop, refl, sym, ap, subst, ◌∙◌, append_assoc, arith, inl, inr}
use Rattle.std.proofs.lemmas.Bool.Decides.{nat_tests}
use Rattle.std.proofs.lemmas.List.{take-append-drop, append-nil}
use Rattle.lcc_text.specs.declared.class.Class.TheVariants.{Blank}
use Rattle.lcc_text.specs.Classes.{in_class, AllIn, StopsIn}
use Rattle.lburg_lines.specs.Tokens.{Tok, Wrong}
use Rattle.lburg_lines.specs.Spelling.{IsNext, NoToken, Starts, Spells, SkipsBlanks}

pub skips : (bytes : List ℕ) (n : ℕ) → AllIn (in_class Blank) (take n bytes) → SkipsBlanks bytes (drop n bytes)
skips bytes n h = (take n bytes, h, sym (take-append-drop n bytes))

starts : (behind : List ℕ) → StopsIn (in_class Blank) behind → 1 ≤ length behind → Starts behind
starts [] h k = absurd (omega arith)
starts (b ∷ bs) h k = h

pub steps : (rest behind after : List ℕ) (t : Tok) (ts : List Tok) → SkipsBlanks rest behind → StopsIn (in_class Blank) behind → 1 ≤ length behind → IsNext behind t after → Spells ts after → Spells (t ∷ ts) rest
steps rest behind after t ts h k l n s = (h.0, behind, h.1, starts behind k l, h.2, inl (after, n, s))

pub stops : (rest behind : List ℕ) → SkipsBlanks rest behind → StopsIn (in_class Blank) behind → 1 ≤ length behind → NoToken behind → Spells (Wrong ∷ []) rest
stops rest behind h k l n = (h.0, behind, h.1, starts behind k l, h.2, inr (refl, refl, n))

nothing_left : (behind : List ℕ) → length behind ≡ 0 → behind ≡ []
nothing_left [] e = refl
nothing_left (b ∷ bs) e = absurd (omega arith)

pub ends : (rest behind : List ℕ) → SkipsBlanks rest behind → length behind ≡ 0 → Spells [] rest
ends rest behind h e =
    let f = nothing_left behind e in
    let g : rest ≡ h.0 = h.2 ∙ ap (λ (l : List ℕ). h.0 ++ l) f ∙ append-nil h.0 in
    rw g h.1

pub nonempty : (behind : List ℕ) (b : Bool) → b ≡ false → b ≡ (length behind == 0) → 1 ≤ length behind
nonempty behind b h e = grind (arith, nat_tests)

pub emptied : (behind : List ℕ) (b : Bool) → b ≡ true → b ≡ (length behind == 0) → length behind ≡ 0
emptied behind b h e = grind (arith, nat_tests)

-- the tokens that were added so far, with those that are spelled from here on, are what the bytes spell
abbrev pub Adds : List Tok → List Tok → List ℕ → List ℕ → Type 0
Adds old new bytes rest = (done : List Tok) × (new ≡ old ++ done) × ((ts : List Tok) → Spells ts rest → Spells (done ++ ts) bytes)

abbrev pub Added : List Tok → List Tok → List ℕ → Type 0
Added old new bytes = (done : List Tok) × (new ≡ old ++ done) × Spells done bytes

pub adds_none : (old : List Tok) (bytes : List ℕ) → Adds old old bytes bytes
adds_none old bytes = ([], sym (append-nil old), λ ts s. s)

pub adds_one : (old new now : List Tok) (t : Tok) (bytes rest after : List ℕ) → Adds old new bytes rest → now ≡ new ++ t ∷ [] → ((ts : List Tok) → Spells ts after → Spells (t ∷ ts) rest) → Adds old now bytes after
adds_one old new now t bytes rest after h e f = (
  h.0 ++ t ∷ [],
  e ∙ ap (λ (l : List Tok). l ++ t ∷ []) h.1 ∙ append_assoc old h.0 (t ∷ []),
  λ ts s. (let P : List Tok → Type 0 = λ l. Spells l bytes in subst P (sym (append_assoc h.0 (t ∷ []) ts)) (h.2 (t ∷ ts) (f ts s))),
)

pub adds_all : (old new : List Tok) (bytes rest : List ℕ) → Adds old new bytes rest → Spells [] rest → Added old new bytes
adds_all old new bytes rest h s = let P : List Tok → Type 0 = λ l. Spells l bytes in (h.0, h.1, subst P (append-nil h.0) (h.2 [] s))

pub adds_last : (old new now : List Tok) (t : Tok) (bytes rest : List ℕ) → Adds old new bytes rest → now ≡ new ++ t ∷ [] → Spells (t ∷ []) rest → Added old now bytes
adds_last old new now t bytes rest h e s = (h.0 ++ t ∷ [], e ∙ ap (λ (l : List Tok). l ++ t ∷ []) h.1 ∙ append_assoc old h.0 (t ∷ []), h.2 (t ∷ []) s)
