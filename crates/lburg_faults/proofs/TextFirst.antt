-- Which fault of a text's lines is the first.
use Rattle.std.proofs.Common.{◌≡◌, ℕ, ◌+◌, ◌<◌, ◌≤◌, ◌⊎◌, zero, suc, List, [], ◌∷◌, ◌++◌, length, take, drop, Some, refl, sym, ap, subst, ◌∙◌, inl, inr, arith}
use Rattle.std.specs.Prelude.{slice_get}
use Rattle.std.proofs.lemmas.Option.{none-some, same_Some, slice_get_within}
use Rattle.std.proofs.lemmas.List.{length-take-le}
use Rattle.std.proofs.lemmas.Bool.{cases_lt}
use Rattle.lcc_text.specs.Firsts.{Place, NotBehind}
use Rattle.lburg_lines.specs.Sections.{TokenLine}
use Rattle.lburg_faults.specs.declared.line_fault.LineFault.{LineFault}
use Rattle.lburg_faults.specs.declared.desc_fault.DescFault.{DescFault}
use Rattle.lburg_faults.specs.LineFaults.{Stands, row_of}
use Rattle.lburg_faults.specs.Knowing.{NotRight, IsLineFault, IsFine}
use Rattle.lburg_faults.specs.FirstFault.{setting_of, StandsIn, NoneStands, InLine, told}

-- ---- parts of a list

pub parts_at : {T : Type 0} (xs : List T) (i : ℕ) (x : T) → slice_get xs i ≡ Some x → xs ≡ take i xs ++ x ∷ drop (suc i) xs
parts_at [] i x e = absurd (none-some x e)
parts_at (y ∷ ys) zero x e = ap (λ z. z ∷ ys) (same_Some y x e)
parts_at (y ∷ ys) (suc i) x e = ap (λ zs. y ∷ zs) (parts_at ys i x e)

take_suc : {T : Type 0} (xs : List T) (i : ℕ) (x : T) → slice_get xs i ≡ Some x → take (suc i) xs ≡ take i xs ++ x ∷ []
take_suc [] i x e = absurd (none-some x e)
take_suc (y ∷ ys) zero x e = ap (λ z. z ∷ []) (same_Some y x e)
take_suc (y ∷ ys) (suc i) x e = ap (λ zs. y ∷ zs) (take_suc ys i x e)

pub take_next : {T : Type 0} (xs : List T) (i : ℕ) (x : T) → slice_get xs i ≡ Some x → take (i + 1) xs ≡ take i xs ++ x ∷ []
take_next xs i x e = let f : i + 1 ≡ suc i = omega arith in ap (λ n. take n xs) f ∙ take_suc xs i x e

pub at_parts : {T : Type 0} (a : List T) (x : T) (b : List T) → slice_get (a ++ x ∷ b) (length a) ≡ Some x
at_parts [] x b = refl
at_parts (y ∷ a) x b = at_parts a x b

pub front_of : {T : Type 0} (a : List T) (x : T) (b : List T) → take (length a) (a ++ x ∷ b) ≡ a
front_of [] x b = refl
front_of (y ∷ a) x b = ap (λ zs. y ∷ zs) (front_of a x b)

-- ---- no fault so far

-- the lines before this one have no fault
abbrev pub FineUpTo : List TokenLine → ℕ → Type 0
FineUpTo all n = (j : ℕ) (l : TokenLine) → j < n → slice_get all j ≡ Some l → IsFine (setting_of all (take j all)) l

pub fine_more : (all : List TokenLine) (i : ℕ) (l : TokenLine) → FineUpTo all i → slice_get all i ≡ Some l → IsFine (setting_of all (take i all)) l → FineUpTo all (i + 1)
fine_more all i l h e f = λ j k b g. elim (cases_lt j i) [
  | inl lt ↦ h j k lt g
  | inr ge ↦
      let s : j ≡ i = omega arith in
      let P : ℕ → Type 0 = λ n. slice_get all n ≡ Some k in
      let t : l ≡ k = same_Some l k (sym e ∙ subst P s g) in
      let Q : ℕ → Type 0 = λ n. IsFine (setting_of all (take n all)) k in
      let R : TokenLine → Type 0 = λ m. IsFine (setting_of all (take i all)) m in
      subst Q (sym s) (subst R t f)
]

-- where a fault that stands is
record Spot (all : List TokenLine) (q : Place) : Type 0 where
  pub index : ℕ
  pub line : TokenLine
  pub there : slice_get all index ≡ Some line
  pub number : q.line ≡ index + 1
  pub fault : LineFault
  pub row_is : q.row ≡ row_of fault
  pub stands : Stands fault (setting_of all (take index all)) line q.token

spot : (all : List TokenLine) (q : Place) → StandsIn all q → Spot all q
spot all q s =
    let P : List TokenLine → Type 0 = λ x. slice_get x (length s.before) ≡ Some s.here in
    let e : take (length s.before) all ≡ s.before = ap (λ x. take (length s.before) x) s.parts ∙ front_of s.before s.here s.behind in
    let Q : List TokenLine → Type 0 = λ x. Stands s.fault (setting_of all x) s.here q.token in
    record {
      index = length s.before;
      line = s.here;
      there = subst P (sym s.parts) (at_parts s.before s.here s.behind);
      number = s.line_is;
      fault = s.fault;
      row_is = s.row_is;
      stands = subst Q (sym e) s.stands;
    }

pub none_stands : (all : List TokenLine) → FineUpTo all (length all) → NoneStands all
none_stands all h = λ q s. let k = spot all q s in h k.index k.line (slice_get_within all k.index k.line k.there) k.there k.fault q.token k.stands

-- a fault of a line stands in the text
pub stands_at : (all : List TokenLine) (i : ℕ) (l : TokenLine) (p : ℕ) (kind : LineFault) → slice_get all i ≡ Some l → Stands kind (setting_of all (take i all)) l p → StandsIn all (record { line = i + 1; token = p; row = row_of kind })
stands_at all i l p kind e f =
    let w : i < length all = slice_get_within all i l e in
    let n : length (take i all) ≡ i = length-take-le i all (omega arith) in
    record {
      before = take i all;
      here = l;
      behind = drop (suc i) all;
      parts = parts_at all i l e;
      line_is = omega arith;
      fault = kind;
      row_is = refl;
      stands = f;
    }

-- ---- the first fault

same_line : (all : List TokenLine) (i : ℕ) (l : TokenLine) (p : ℕ) (kind : LineFault) (q : Place) (k : Spot all q) → slice_get all i ≡ Some l → IsLineFault (setting_of all (take i all)) l p kind → k.index ≡ i → NotRight p (row_of kind) q.token (row_of k.fault)
same_line all i l p kind q k e f s =
    let P : ℕ → Type 0 = λ n. slice_get all n ≡ Some k.line in
    let t : k.line ≡ l = same_Some k.line l (sym (subst P s k.there) ∙ e) in
    let Q : ℕ → Type 0 = λ n. Stands k.fault (setting_of all (take n all)) k.line q.token in
    let R : TokenLine → Type 0 = λ m. Stands k.fault (setting_of all (take i all)) m q.token in
    f.least k.fault q.token (subst R t (subst Q s k.stands))

not_behind : (all : List TokenLine) (i : ℕ) (l : TokenLine) (p : ℕ) (kind : LineFault) (q : Place) (k : Spot all q) → FineUpTo all i → slice_get all i ≡ Some l → IsLineFault (setting_of all (take i all)) l p kind → NotBehind (record { line = i + 1; token = p; row = row_of kind }) q
not_behind all i l p kind q k h e f = elim (cases_lt k.index i) [
  | inl lt ↦ absurd (h k.index k.line lt k.there k.fault q.token k.stands)
  | inr ge ↦ elim (cases_lt i k.index) [
    | inl gt ↦ (let n = k.number in inl (omega arith))
    | inr le ↦
        let s : k.index ≡ i = omega arith in
        let P : ℕ → Type 0 = λ n. (p < q.token) ⊎ ((p ≡ q.token) × (row_of kind ≤ n)) in
        let n = k.number in
        inr (omega arith, subst P (sym k.row_is) (same_line all i l p kind q k e f s))
  ]
]

-- the fault of a line behind lines that are fine is the first
pub first_in_line : (all : List TokenLine) (i : ℕ) (l : TokenLine) (p : ℕ) (kind : LineFault) (d : DescFault) → FineUpTo all i → slice_get all i ≡ Some l → IsLineFault (setting_of all (take i all)) l p kind → d ≡ told kind (i + 1) → InLine all d
first_in_line all i l p kind d h e f g =
    (record { line = i + 1; token = p; row = row_of kind }, kind, record { stands = stands_at all i l p kind e f.stands; least = λ q s. not_behind all i l p kind q (spot all q s) h e f }, refl, g)
