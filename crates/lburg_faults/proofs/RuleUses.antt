-- The uses of terminals, and which is the first of a name.
use Rattle.std.proofs.Common.{◌≡◌, ◌<◌, ◌≤◌, ◌⊎◌, ℕ, ◌+◌, zero, suc, List, [], ◌∷◌, ◌++◌, length, drop, Some, refl, sym, ap, ◌∙◌, subst, inl, inr, arith}
use Rattle.std.specs.Prelude.{slice_get}
use Rattle.std.proofs.lemmas.Option.{same_Some, slice_get_within}
use Rattle.lburg_lines.specs.Tokens.{Tok, Word}
use Rattle.lburg_lines.specs.NamedTree.{MNamed, tree_then}
use Rattle.lburg_lines.specs.Readings.{Ends}
use Rattle.lburg_lines.specs.Sections.{TokenLine}
use Rattle.lburg_faults.specs.Uses.{root_of, operands_of, IsUse, IsFirstUse}
use Rattle.lburg_faults.specs.Setting.{Setting}
use Rattle.lburg_faults.specs.Using.{UsedFirst}
use Rattle.lburg_faults.proofs.RuleLists.{compare, at_end, at_front, in_front, front_of}
use Rattle.lburg_faults.proofs.RuleTrees.{root_first, then_longer}

-- at a place at most one tree stands
abbrev pub OneTree : Type 0
OneTree = (a b : MNamed) (x y : List Tok) → Ends a x → Ends b y → tree_then a x ≡ tree_then b y → (a ≡ b) × (x ≡ y)

-- ---- one use at a place

-- a use stands at its name
pub use_word : (l : TokenLine) (p q n : ℕ) (name : List ℕ) → IsUse l p q name n → slice_get l.tokens p ≡ Some (Word name)
use_word l p q n name u =
    let e : slice_get (drop p l.tokens) 0 ≡ Some (Word name) = ap (λ (x : List Tok). slice_get x 0) u.tokens ∙ root_first u.tree u.rest ∙ ap (λ (x : List ℕ). Some (Word x)) u.name_is in
    at l.tokens p (Word name) e where
      at : (ts : List Tok) (p : ℕ) (t : Tok) → slice_get (drop p ts) 0 ≡ Some t → slice_get ts p ≡ Some t
      at [] zero t e = e
      at [] (suc p) t e = e
      at (x ∷ ts) zero t e = e
      at (x ∷ ts) (suc p) t e = at ts p t e

-- its last token isn't before it
pub use_last : (l : TokenLine) (p q n : ℕ) (name : List ℕ) → IsUse l p q name n → p ≤ q
use_last l p q n name u =
    let a = then_longer u.tree u.rest in
    let b = ap length u.tokens in
    let c = dropped l.tokens p (slice_get_within l.tokens p (Word name) (use_word l p q n name u)) in
    let d = u.last_is in
    omega arith where
      dropped : (ts : List Tok) (p : ℕ) → p < length ts → length (drop p ts) + p ≡ length ts
      dropped [] p h = absurd (omega arith)
      dropped (t ∷ ts) zero h = omega arith
      dropped (t ∷ ts) (suc p) h = let k = dropped ts p (omega arith) in omega arith

pub use_once : OneTree → (l : TokenLine) (p q r n m : ℕ) (name other : List ℕ) → IsUse l p q name n → IsUse l p r other m → (name ≡ other) × (n ≡ m) × (q ≡ r)
use_once one l p q r n m name other u v =
    let e = one u.tree v.tree u.rest v.rest u.ends v.ends (sym u.tokens ∙ v.tokens) in (
      sym u.name_is ∙ ap root_of e.0 ∙ v.name_is,
      sym u.operands_are ∙ ap operands_of e.0 ∙ v.operands_are,
      (let a = u.last_is in let b = v.last_is in let c = ap length e.1 in omega arith),
    )

-- ---- first uses

-- at the line of a first use, its place is the first there
same_line : OneTree → (name : List ℕ) (n m : ℕ) (k : TokenLine) (p q r t : ℕ) → IsUse k p q name n → IsUse k r t name m → ((a b c : ℕ) → a < p → IsUse k a b name c → ⊥) → ((a b c : ℕ) → a < r → IsUse k a b name c → ⊥) → n ≡ m
same_line one name n m k p q r t u v x y = elim (compare p r) [
  | inl c ↦ absurd (y p q n c u)
  | inr c ↦ elim c [
    | inl d ↦ (let P : ℕ → Type 0 = λ z. IsUse k z q name n in (use_once one k r q t n m name name (subst P d u) v).1)
    | inr d ↦ absurd (x r t m d v)
  ]
]

pub first_once : OneTree → (lines : List TokenLine) (name : List ℕ) (n m : ℕ) → IsFirstUse lines name n → IsFirstUse lines name m → n ≡ m
first_once one lines name n m a b = elim (compare a.index b.index) [
  | inl c ↦ absurd (b.earlier a.index a.line a.place a.last n c a.there a.is_use)
  | inr c ↦ elim c [
    | inl d ↦
        (let e : a.line ≡ b.line = same_Some _ _ (sym a.there ∙ ap (λ (i : ℕ). slice_get lines i) d ∙ b.there) in
        let P : TokenLine → Type 0 = λ k. IsUse k a.place a.last name n in
        let Q : TokenLine → Type 0 = λ k. (p q c : ℕ) → p < a.place → IsUse k p q name c → ⊥ in
        same_line one name n m b.line a.place a.last b.place b.last (subst P e a.is_use) b.is_use (subst Q e a.left) b.left)
    | inr d ↦ absurd (a.earlier b.index b.line b.place b.last m d b.there b.is_use)
  ]
]

-- a line with no first use in a place has no use at all: by the place
none_left : (k : TokenLine) (name : List ℕ) (top : ℕ) → ((p q n : ℕ) → p < top → ((a b c : ℕ) → a < p → IsUse k a b name c → ⊥) → IsUse k p q name n → ⊥) → (p q n : ℕ) → p < top → IsUse k p q name n → ⊥
none_left k name top h p q n l u = below p p q n l (omega arith) u where
  below : (m p q n : ℕ) → p < top → p ≤ m → IsUse k p q name n → ⊥
  below zero p q n l e u = h p q n l (λ a b c less v. omega arith) u
  below (suc m) p q n l e u = h p q n l (λ a b c less v. below m a b c (omega arith) (omega arith) v) u

-- lines without a first use of the name have no use of it
pub no_use : (lines : List TokenLine) (name : List ℕ) → ((n : ℕ) → IsFirstUse lines name n → ⊥) → (i : ℕ) (k : TokenLine) (p q n : ℕ) → slice_get lines i ≡ Some k → IsUse k p q name n → ⊥
no_use lines name h i k p q n e u = below i i k p q n (omega arith) e u where
  here : (i : ℕ) (k : TokenLine) → slice_get lines i ≡ Some k → ((j : ℕ) (l : TokenLine) (p q n : ℕ) → j < i → slice_get lines j ≡ Some l → IsUse l p q name n → ⊥) → (p q n : ℕ) → IsUse k p q name n → ⊥
  here i k e f p q n u = none_left k name (p + 1) (λ a b c less left v. h c (record {
    index = i;
    line = k;
    place = a;
    last = b;
    there = e;
    is_use = v;
    earlier = f;
    left = left;
  })) p q n (omega arith) u

  below : (m i : ℕ) (k : TokenLine) (p q n : ℕ) → i ≤ m → slice_get lines i ≡ Some k → IsUse k p q name n → ⊥
  below zero i k p q n l e u = here i k e (λ j x a b c less f v. omega arith) p q n u
  below (suc m) i k p q n l e u = here i k e (λ j x a b c less f v. below m j x a b c (omega arith) f v) p q n u

-- ---- of some lines and one more

pub first_in : (before : List TokenLine) (l : TokenLine) (name : List ℕ) (n : ℕ) → IsFirstUse before name n → (u : IsFirstUse (before ++ l ∷ []) name n) × (u.index < length before)
first_in before l name n u =
    let w = slice_get_within before u.index u.line u.there in (
      record {
        index = u.index;
        line = u.line;
        place = u.place;
        last = u.last;
        there = at_front before (l ∷ []) u.index u.line u.there;
        is_use = u.is_use;
        earlier = λ i k p q m less e v. u.earlier i k p q m less (front_of before (l ∷ []) i k (omega arith) e) v;
        left = u.left;
      },
      w,
    )

pub first_back : (before : List TokenLine) (l : TokenLine) (name : List ℕ) (n : ℕ) (u : IsFirstUse (before ++ l ∷ []) name n) → u.index < length before → IsFirstUse before name n
first_back before l name n u w = record {
  index = u.index;
  line = u.line;
  place = u.place;
  last = u.last;
  there = front_of before (l ∷ []) u.index u.line w u.there;
  is_use = u.is_use;
  earlier = λ i k p q m less e v. u.earlier i k p q m less (at_front before (l ∷ []) i k e) v;
  left = u.left;
}

-- the first use in the last line
pub first_here : (before : List TokenLine) (l : TokenLine) (name : List ℕ) (p q n : ℕ) → IsUse l p q name n → ((i : ℕ) (k : TokenLine) (a b c : ℕ) → slice_get before i ≡ Some k → IsUse k a b name c → ⊥) → ((a b c : ℕ) → a < p → IsUse l a b name c → ⊥) → (u : IsFirstUse (before ++ l ∷ []) name n) × (u.place ≡ p)
first_here before l name p q n v e f = (
  record {
    index = length before;
    line = l;
    place = p;
    last = q;
    there = at_end before l;
    is_use = v;
    earlier = λ i k a b c less h w. e i k a b c (front_of before (l ∷ []) i k less h) w;
    left = f;
  },
  refl,
)

-- the name isn't used before the place
pub record IsUnused (s : Setting) (l : TokenLine) (p : ℕ) (name : List ℕ) : Type 0 where
  pub before : (i : ℕ) (k : TokenLine) (a b c : ℕ) → slice_get s.before i ≡ Some k → IsUse k a b name c → ⊥
  pub left : (a b c : ℕ) → a < p → IsUse l a b name c → ⊥

pub unused : (s : Setting) (l : TokenLine) (p : ℕ) (name : List ℕ) → ((n : ℕ) → UsedFirst s l p name n → ⊥) → IsUnused s l p name
unused s l p name h =
    let e : (i : ℕ) (k : TokenLine) (a b c : ℕ) → slice_get s.before i ≡ Some k → IsUse k a b name c → ⊥ = no_use s.before name (λ n u. (let f = first_in s.before l name n u in h n (record { first = f.0; before = inl f.1 }))) in
    record {
      before = e;
      left = none_left l name p (λ a b c less left v. (let f = first_here s.before l name a b c v e left in h c (record { first = f.0; before = inr (let g = f.1 in omega arith) })));
    }

-- a first use before one place more
pub used_more : (s : Setting) (l : TokenLine) (p : ℕ) (name : List ℕ) (n : ℕ) → UsedFirst s l p name n → UsedFirst s l (p + 1) name n
used_more s l p name n u = record {
  first = u.first;
  before = elim u.before [
    | inl x ↦ inl x
    | inr x ↦ inr (omega arith)
  ];
}

-- it stands before the place, or there
pub used_split : (s : Setting) (l : TokenLine) (p : ℕ) (name : List ℕ) (n : ℕ) → UsedFirst s l (p + 1) name n → UsedFirst s l p name n ⊎ ((q : ℕ) × IsUse l p q name n)
used_split s l p name n u = elim (in_front s.before l u.first.index u.first.line u.first.there) [
  | inl x ↦ inl (record { first = u.first; before = inl (slice_get_within s.before u.first.index u.first.line x) })
  | inr x ↦ elim (compare u.first.place p) [
    | inl y ↦ inl (record { first = u.first; before = inr y })
    | inr y ↦ elim y [
      | inl z ↦
          (let P : TokenLine → Type 0 = λ k. IsUse k u.first.place u.first.last name n in
          let Q : ℕ → Type 0 = λ r. IsUse l r u.first.last name n in
          inr (u.first.last, subst Q z (subst P (sym x.1) u.first.is_use)))
      | inr z ↦ absurd (elim u.before as (λ _. ⊥) [
        | inl w ↦ (let e = x.0 in omega arith)
        | inr w ↦ omega arith
      ])
    ]
  ]
]
