-- Blanks between tokens, and tokens one after another.
use Rattle.std.proofs.Common.{◌≡◌, ◌≤◌, ℕ, zero, suc, Bool, List, [], ◌∷◌, ◌++◌, length, take, drop, refl, sym, subst, append_assoc, arith, inl, inr}
use Rattle.std.specs.Prelude.{nat_lt}
use Rattle.std.proofs.lemmas.List.{take-append-drop, append-nil}
use Rattle.std.proofs.lemmas.Bool.Decides.{nat_tests}
use Rattle.asm_lines.specs.declared.class.AsmClass.TheVariants.{Space}
use Rattle.lcc_text.specs.Classes.{AllIn}
use Rattle.asm_lines.specs.Classes.{in_asm}
use Rattle.asm_lines.specs.Tokens.{Tok, Wrong, Spaced}
use Rattle.asm_lines.specs.Spelling.{IsNext, NoToken, IsRemark, Starts, Spells, SkipsSpaces, some_gap}

gap_seen : (bytes : List ℕ) (n : ℕ) → n ≤ length bytes → nat_lt 0 n ≡ some_gap (take n bytes)
gap_seen bytes zero h = refl
gap_seen [] (suc n) h = absurd (omega arith)
gap_seen (b ∷ bytes) (suc n) h = grind (arith, nat_tests)

pub skips : (bytes : List ℕ) (n : ℕ) → n ≤ length bytes → AllIn (in_asm Space) (take n bytes) → SkipsSpaces bytes (nat_lt 0 n) (drop n bytes)
skips bytes n l h = (take n bytes, h, sym (take-append-drop n bytes), gap_seen bytes n l)

-- the token that stands here, and those behind it
pub steps : (rest behind after : List ℕ) (t : Tok) (s : Bool) (ts : List Spaced) → SkipsSpaces rest s behind → Starts behind → IsNext behind t after → Spells ts after → Spells (record { tok = t; is_spaced = s } ∷ ts) rest
steps rest behind after t s ts h k n p = (h.0, behind, h.1, k, h.2, h.3, inl (after, n, p))

-- no token stands here
pub stops : (rest behind : List ℕ) (s : Bool) → SkipsSpaces rest s behind → Starts behind → NoToken behind → Spells (record { tok = Wrong; is_spaced = s } ∷ []) rest
stops rest behind s h k n = (h.0, behind, h.1, k, h.2, h.3, inr (refl, refl, n))

-- nothing stands here
pub ends : (rest behind : List ℕ) (s : Bool) → SkipsSpaces rest s behind → IsRemark behind → Spells [] rest
ends rest behind s h r = (h.0, behind, h.1, r, h.2)

-- ---- the tokens so far

-- these tokens and those that are spelled from here on are what the bytes spell
abbrev pub Leads : List Spaced → List ℕ → List ℕ → Type 0
Leads done bytes rest = (ts : List Spaced) → Spells ts rest → Spells (done ++ ts) bytes

pub leads_none : (done : List Spaced) (bytes : List ℕ) → done ≡ [] → Leads done bytes bytes
leads_none done bytes e = λ ts s. rw e s

pub leads_more : (done now : List Spaced) (t : Spaced) (bytes rest after : List ℕ) → Leads done bytes rest → now ≡ done ++ t ∷ [] → ((ts : List Spaced) → Spells ts after → Spells (t ∷ ts) rest) → Leads now bytes after
leads_more done now t bytes rest after h e f = λ ts s. (let P : List Spaced → Type 0 = λ l. Spells l bytes in rw e (subst P (sym (append_assoc done (t ∷ []) ts)) (h (t ∷ ts) (f ts s))))

pub leads_all : (done : List Spaced) (bytes rest : List ℕ) → Leads done bytes rest → Spells [] rest → Spells done bytes
leads_all done bytes rest h s = let P : List Spaced → Type 0 = λ l. Spells l bytes in subst P (append-nil done) (h [] s)

pub leads_last : (done now : List Spaced) (t : Spaced) (bytes rest : List ℕ) → Leads done bytes rest → now ≡ done ++ t ∷ [] → Spells (t ∷ []) rest → Spells now bytes
leads_last done now t bytes rest h e s = rw e (h (t ∷ []) s)
