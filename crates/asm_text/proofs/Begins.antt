-- Texts that begin with lines that make a part of a program: of two such beginnings the one goes on behind the other, or
-- they are the same.
use Rattle.std.proofs.Common.{◌≡◌, ◌⊎◌, ℕ, ◌+◌, List, [], ◌∷◌, ◌++◌, refl, sym, ap, ◌∙◌, subst, inl, inr}
use Rattle.lcc_text.specs.Lines.{lines_of}
use Rattle.asm_text.specs.Lines.{MLine, IsLine, AreLines}
use Rattle.asm_text.specs.Made.{Made, made_behind, nothing, with_line}
use Rattle.asm_text.specs.Makes.{IsAllowed, AreAllowed, IsWithinLimits, program_of}
use Rattle.asm_text.specs.FirstFault.{BeginsWith}
use Rattle.asm_text.proofs.LineLaws.{LineLaws, line_once}

-- behind lines that make this, texts of lines begin with these lines, of which the first has this number
pub record BeginsFrom (m : Made) (number : ℕ) (texts : List (List ℕ)) (front : List MLine) (behind : List (List ℕ)) : Type 0 where
  pub before : List (List ℕ)
  pub parts : texts ≡ before ++ behind
  pub spelled : AreLines before number front
  pub allowed : AreAllowed m front
  pub limits : IsWithinLimits (program_of (made_behind m front))

pub begins_from : (text : List ℕ) (front : List MLine) (behind : List (List ℕ)) → BeginsWith text front behind → BeginsFrom nothing 1 (lines_of text) front behind
begins_from text front behind b = record { before = b.before; parts = b.parts; spelled = b.spelled; allowed = b.allowed; limits = b.limits }

-- a line stands first
pub record Opens (m : Made) (number : ℕ) (texts : List (List ℕ)) (l : MLine) (ls : List MLine) (behind : List (List ℕ)) : Type 0 where
  pub bytes : List ℕ
  pub rest : List (List ℕ)
  pub texts_are : texts ≡ bytes ∷ rest
  pub line : IsLine bytes number l
  pub allowed : IsAllowed m l
  pub more : BeginsFrom (with_line m l) (number + 1) rest ls behind

module _ (m : Made) (number : ℕ) (texts : List (List ℕ)) where
  opens_by : (l : MLine) (ls : List MLine) (before behind : List (List ℕ)) → texts ≡ before ++ behind → AreLines before number (l ∷ ls) → AreAllowed m (l ∷ ls) → IsWithinLimits (program_of (made_behind m (l ∷ ls))) → Opens m number texts l ls behind
  opens_by l ls [] behind p s a w = absurd s
  opens_by l ls (bytes ∷ before) behind p s a w = record {
    bytes = bytes;
    rest = before ++ behind;
    texts_are = p;
    line = s.0;
    allowed = a.0;
    more = record { before = before; parts = refl; spelled = s.1; allowed = a.1; limits = w };
  }

  opens : (l : MLine) (ls : List MLine) (behind : List (List ℕ)) → BeginsFrom m number texts (l ∷ ls) behind → Opens m number texts l ls behind
  opens l ls behind b = opens_by l ls b.before behind b.parts b.spelled b.allowed b.limits

  closes_by : (before behind : List (List ℕ)) → texts ≡ before ++ behind → AreLines before number [] → texts ≡ behind
  closes_by [] behind p s = p
  closes_by (bytes ∷ before) behind p s = absurd s

  closes : (behind : List (List ℕ)) → BeginsFrom m number texts [] behind → texts ≡ behind
  closes behind b = closes_by b.before behind b.parts b.spelled

-- behind lines that make this, the text goes on with a line, and then perhaps with more
pub record GoesOn (m : Made) (texts : List (List ℕ)) : Type 0 where
  pub bytes : List ℕ
  pub rest : List (List ℕ)
  pub texts_are : texts ≡ bytes ∷ rest
  pub number : ℕ
  pub next : MLine
  pub line : IsLine bytes number next
  pub allowed : IsAllowed m next
  pub more : List MLine
  pub limits : IsWithinLimits (program_of (made_behind (with_line m next) more))

goes_on : (m : Made) (number : ℕ) (texts behind : List (List ℕ)) (l : MLine) (ls : List MLine) → Opens m number texts l ls behind → GoesOn m texts
goes_on m number texts behind l ls o = record {
  bytes = o.bytes;
  rest = o.rest;
  texts_are = o.texts_are;
  number = number;
  next = l;
  line = o.line;
  allowed = o.allowed;
  more = ls;
  limits = o.more.limits;
}

-- two beginnings
abbrev pub Compared : Made → List MLine → List MLine → List (List ℕ) → List (List ℕ) → Type 0
Compared m f g x y = ((f ≡ g) × (x ≡ y)) ⊎ (GoesOn (made_behind m f) x ⊎ GoesOn (made_behind m g) y)

-- with the same line before both
with_same : (m : Made) (k : MLine) (ks ls : List MLine) (x y : List (List ℕ)) → Compared (with_line m k) ks ls x y → Compared m (k ∷ ks) (k ∷ ls) x y
with_same m k ks ls x y c = elim c [
  | inl e ↦ inl (ap (λ (l : List MLine). k ∷ l) e.0, e.1)
  | inr g ↦ inr g
]

module _ (laws : LineLaws) where
  pub compared : (m : Made) (number : ℕ) (texts : List (List ℕ)) (f g : List MLine) (x y : List (List ℕ)) → BeginsFrom m number texts f x → BeginsFrom m number texts g y → Compared m f g x y
  compared m number texts [] [] x y a b = inl (refl, sym (closes m number texts x a) ∙ closes m number texts y b)
  compared m number texts [] (l ∷ ls) x y a b =
      let P : List (List ℕ) → Type 0 = λ ts. GoesOn m ts in
      inr (inl (subst P (closes m number texts x a) (goes_on m number texts y l ls (opens m number texts l ls y b))))
  compared m number texts (k ∷ ks) [] x y a b =
      let P : List (List ℕ) → Type 0 = λ ts. GoesOn m ts in
      inr (inr (subst P (closes m number texts y b) (goes_on m number texts x k ks (opens m number texts k ks x a))))
  compared m number texts (k ∷ ks) (l ∷ ls) x y a b =
      let o = opens m number texts k ks x a in
      let p = opens m number texts l ls y b in
      let parts : p.bytes ∷ p.rest ≡ o.bytes ∷ o.rest = sym p.texts_are ∙ o.texts_are in
      let head : p.bytes ≡ o.bytes = cc in
      let tail : p.rest ≡ o.rest = cc in
      let L : List ℕ → Type 0 = λ bytes. IsLine bytes number l in
      let e : l ≡ k = line_once laws o.bytes number l k (subst L head p.line) o.line in
      let B : List (List ℕ) → Type 0 = λ rest. BeginsFrom (with_line m l) (number + 1) rest ls y in
      let C : MLine → Type 0 = λ z. BeginsFrom (with_line m z) (number + 1) o.rest ls y in
      let D : MLine → Type 0 = λ z. Compared m (k ∷ ks) (z ∷ ls) x y in
      subst D (sym e) (with_same m k ks ls x y (compared (with_line m k) (number + 1) o.rest ks ls x y o.more (subst C e (subst B tail p.more))))
