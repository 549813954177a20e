-- Bytes are cut into tokens in one way.
use Rattle.std.proofs.Common.{◌≡◌, ℕ, true, false, List, [], ◌∷◌, ◌++◌, length, take, drop, refl, sym, ap, ◌∙◌, subst, arith, inl, inr, map, get_or, ◌+◌, ◌<◌, add-one}
use Rattle.std.proofs.lemmas.Bool.Decides.{nat_tests}
use Rattle.std.proofs.lemmas.List.{take-append-drop}
use Rattle.std.proofs.Math.Seq.{drop-cons}
use Rattle.std.specs.Borrow.{Bor}
use Rattle.lcc_text.specs.declared.class.Class.TheVariants.{Name}
use Rattle.first_form.specs.declared.class.FirstClass.TheVariants.{Blank, Constant}
use Rattle.lcc_text.specs.Classes.{in_class, AllIn, StopsIn}
use Rattle.first_form.specs.Classes.{in_first}
use Rattle.first_form.specs.Tokens.{Token, IsToken, IsNext, Begins, AreTokens}
use Rattle.first_form.specs.Readings.{SkipsBlanks, NoToken, BeginWith}
use Rattle.first_form.proofs.SignTables.{sign_no_blank}
use Rattle.first_form.proofs.Truths.{both_ways}
use Rattle.first_form.proofs.Lists.{append_nil}

-- the first byte is there, and is no blank
abbrev Solid : List ℕ → Type 0
Solid [] = ⊥
Solid (b ∷ bs) = in_first Blank b ≡ false

solid_name : (b : ℕ) → in_class Name b ≡ true → in_first Blank b ≡ false
solid_name b h = grind (arith, nat_tests)

solid_constant : (b : ℕ) → in_first Constant b ≡ true → in_first Blank b ≡ false
solid_constant b h = grind (arith, nat_tests)

token_solid : (t z : List ℕ) → IsToken t → Solid (t ++ z)
token_solid [] z (inl (inl p)) = absurd (let f = p.some in omega arith)
token_solid [] z (inl (inr p)) = absurd (let f = p.first in cc)
token_solid [] z (inr p) = absurd cc
token_solid (b ∷ t) z (inl (inl p)) = solid_name b p.made.0
token_solid (b ∷ t) z (inl (inr p)) = solid_constant b p.made.0
token_solid (b ∷ t) z (inr p) = sign_no_blank b t p

next_solid : (bytes t rest : List ℕ) → IsNext bytes t rest → Solid bytes
next_solid bytes t rest n = subst Solid (sym n.parts) (token_solid t rest n.token)

-- behind blanks one text stands
same_behind : (g h b d : List ℕ) → AllIn (in_first Blank) g → AllIn (in_first Blank) h → Solid b → StopsIn (in_first Blank) d → g ++ b ≡ h ++ d → b ≡ d
same_behind [] [] b d p q s t e = e
same_behind [] (x ∷ h) [] d p q s t e = absurd s
same_behind [] (x ∷ h) (y ∷ b) d p q s t e = let f : y ≡ x = cc in both_ways (in_first Blank x) _ q.0 (ap (in_first Blank) (sym f) ∙ s)
same_behind (x ∷ g) [] b [] p q s t e = absurd cc
same_behind (x ∷ g) [] b (y ∷ d) p q s t e = let f : x ≡ y = cc in both_ways (in_first Blank x) _ p.0 (ap (in_first Blank) f ∙ t)
same_behind (x ∷ g) (y ∷ h) b d p q s t e = same_behind g h b d p.1 q.1 s t cc

solid_stops : (b : List ℕ) → Solid b → StopsIn (in_first Blank) b
solid_stops [] s = tt
solid_stops (x ∷ b) s = s

same_text : (a b x y : List ℕ) → length a ≡ length b → a ++ x ≡ b ++ y → (a ≡ b) × (x ≡ y)
same_text [] [] x y l e = (refl, e)
same_text [] (d ∷ b) x y l e = absurd (omega arith)
same_text (c ∷ a) [] x y l e = absurd (omega arith)
same_text (c ∷ a) (d ∷ b) x y l e = let r = same_text a b x y (omega arith) cc in let f = r.0 in (cc, r.1)

same_next : (bytes t u x y : List ℕ) → IsNext bytes t x → IsNext bytes u y → (t ≡ u) × (x ≡ y)
same_next bytes t u x y n k =
    let a = n.longest u y k.token k.parts in
    let b = k.longest t x n.token n.parts in
    same_text t u x y (omega arith) (sym n.parts ∙ k.parts)

-- one token is the first
pub same_begins : (bytes t u x y : List ℕ) → Begins bytes t x → Begins bytes u y → (t ≡ u) × (x ≡ y)
same_begins bytes t u x y n k =
    let e = same_behind n.gap k.gap n.behind k.behind n.blank k.blank (next_solid n.behind t x n.next) (solid_stops k.behind (next_solid k.behind u y k.next)) (sym n.parts ∙ k.parts) in
    let P : List ℕ → Type 0 = λ l. IsNext l t x in
    same_next k.behind t u x y (subst P e n.next) k.next

-- the tokens of bytes whose first is known
pub tokens_behind : (bytes t u rest : List ℕ) (ts : List Token) → Begins bytes u rest → AreTokens (t ∷ ts) bytes → (t ≡ u) × AreTokens ts rest
tokens_behind bytes t u rest ts b h =
    let s = same_begins bytes t u h.0 rest h.1 b in
    let P : List ℕ → Type 0 = λ l. AreTokens ts l in
    (s.0, subst P s.1 h.2)

-- blank bytes have no first token
pub none_begins : (bytes t rest : List ℕ) → AllIn (in_first Blank) bytes → Begins bytes t rest → ⊥
none_begins bytes t rest h b =
    let e = same_behind b.gap bytes b.behind [] b.blank h (next_solid b.behind t rest b.next) tt (sym b.parts ∙ sym (append_nil bytes)) in
    subst Solid e (next_solid b.behind t rest b.next)

-- ---- readers of tokens

pub skips : (bytes : List ℕ) (n : ℕ) → AllIn (in_first Blank) (take n bytes) → SkipsBlanks bytes (drop n bytes)
skips bytes n h = (take n bytes, h, sym (take-append-drop n bytes))

pub begins : (bytes behind t rest : List ℕ) → SkipsBlanks bytes behind → IsNext behind t rest → Begins bytes t rest
begins bytes behind t rest s n = record { gap = s.0; behind = behind; blank = s.1; parts = s.2; next = n }

pub begins_not : (bytes behind : List ℕ) → SkipsBlanks bytes behind → StopsIn (in_first Blank) behind → NoToken behind → (t rest : List ℕ) → Begins bytes t rest → ⊥
begins_not bytes behind s p n t rest b =
    let e = same_behind b.gap s.0 b.behind behind b.blank s.1 (next_solid b.behind t rest b.next) p (sym b.parts ∙ s.2) in
    n t rest b.next.token (sym e ∙ b.next.parts)

all_behind : (g b : List ℕ) → AllIn (in_first Blank) (g ++ b) → AllIn (in_first Blank) b
all_behind [] b h = h
all_behind (x ∷ g) b h = all_behind g b h.1

none_left : (b : List ℕ) → AllIn (in_first Blank) b → StopsIn (in_first Blank) b → length b ≡ 0
none_left [] h s = refl
none_left (x ∷ b) h s = both_ways (in_first Blank x) _ h.0 s

nothing : (b : List ℕ) → length b ≡ 0 → b ≡ []
nothing [] e = refl
nothing (x ∷ b) e = absurd (omega arith)

pub blank_all : (bytes behind : List ℕ) → SkipsBlanks bytes behind → length behind ≡ 0 → AllIn (in_first Blank) bytes
blank_all bytes behind s e =
    let f : bytes ≡ s.0 = s.2 ∙ ap (λ (l : List ℕ). s.0 ++ l) (nothing behind e) ∙ append_nil s.0 in
    rw f s.1

pub blank_behind : (bytes behind : List ℕ) → SkipsBlanks bytes behind → StopsIn (in_first Blank) behind → AllIn (in_first Blank) bytes → length behind ≡ 0
blank_behind bytes behind s p h = let P : List ℕ → Type 0 = λ l. AllIn (in_first Blank) l in none_left behind (all_behind s.0 behind (subst P s.2 h)) p

-- ---- several tokens

-- the reader of the first tokens goes on at mid with those that are left
abbrev pub Continues : List ℕ → List Token → List ℕ → List Token → Type 0
Continues bytes all mid left = (rest : List ℕ) → (BeginWith mid left rest → BeginWith bytes all rest) × (BeginWith bytes all rest → BeginWith mid left rest)

pub starts_there : (bytes : List ℕ) (all : List Token) → Continues bytes all bytes all
starts_there bytes all = λ rest. (λ h. h, λ h. h)

abbrev Borrowed : Type 0
Borrowed = Bor (List ℕ)

abbrev now : List Borrowed → List Token
now ts = map (λ t. t.now) ts

next_item : (ts : List Borrowed) (i : ℕ) (d : Borrowed) → i < length ts → now (drop i ts) ≡ (get_or ts i d).now ∷ now (drop (i + 1) ts)
next_item ts i d h = ap now (drop-cons ts i d h) ∙ ap (λ (n : ℕ). (get_or ts i d).now ∷ now (drop n ts)) (sym (add-one i))

at_item : (bytes mid : List ℕ) (ts : List Borrowed) (i : ℕ) (d : Borrowed) → i < length ts → Continues bytes (now ts) mid (now (drop i ts)) → Continues bytes (now ts) mid ((get_or ts i d).now ∷ now (drop (i + 1) ts))
at_item bytes mid ts i d h k = let P : List Token → Type 0 = λ l. Continues bytes (now ts) mid l in subst P (next_item ts i d h) k

one_on : (bytes mid behind : List ℕ) (all left : List Token) (t : Token) → Continues bytes all mid (t ∷ left) → Begins mid t behind → Continues bytes all behind left
one_on bytes mid behind all left t k b = λ rest. (λ h. (k rest).0 (behind, b, h), λ h. at_mid rest ((k rest).1 h)) where
  at_mid : (rest : List ℕ) → BeginWith mid (t ∷ left) rest → BeginWith behind left rest
  at_mid rest h = let P : List ℕ → Type 0 = λ l. BeginWith l left rest in subst P (same_begins mid t t h.0 behind h.1 b).1 h.2

pub one_more : (bytes mid behind : List ℕ) (ts : List Borrowed) (i : ℕ) (d : Borrowed) → i < length ts → Continues bytes (now ts) mid (now (drop i ts)) → Begins mid (get_or ts i d).now behind → Continues bytes (now ts) behind (now (drop (i + 1) ts))
one_more bytes mid behind ts i d h k b = one_on bytes mid behind (now ts) (now (drop (i + 1) ts)) (get_or ts i d).now (at_item bytes mid ts i d h k) b

pub not_there : (bytes mid : List ℕ) (ts : List Borrowed) (i : ℕ) (d : Borrowed) → i < length ts → Continues bytes (now ts) mid (now (drop i ts)) → ((behind : List ℕ) → Begins mid (get_or ts i d).now behind → ⊥) → (rest : List ℕ) → BeginWith bytes (now ts) rest → ⊥
not_there bytes mid ts i d h k n rest b = let r = (at_item bytes mid ts i d h k rest).1 b in n r.0 r.1
