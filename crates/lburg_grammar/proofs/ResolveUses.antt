-- The uses of names in a text without a fault: in patterns, and among the lines.
use Rattle.std.proofs.Common.{◌≡◌, ◌≤◌, ◌<◌, ℕ, ◌+◌, ◌-◌, zero, suc, false, List, [], ◌∷◌, ◌++◌, length, take, drop, Option, Some, None, refl, sym, ap, ◌∙◌, subst, inl, inr, arith}
use Rattle.std.specs.Prelude.{slice_get}
use Rattle.std.proofs.lemmas.Option.{none-some, same_Some}
use Rattle.std.proofs.lemmas.List.{length-drop}
use Rattle.std.proofs.lemmas.Bool.{cases_lt}
use Rattle.lcc_text.specs.Names.{place_of}
use Rattle.lburg_lines.specs.Tokens.{Tok, Word, Template, Mark}
use Rattle.lburg_lines.specs.declared.token.Sign.TheVariants.{Close, Comma}
use Rattle.lburg_lines.specs.NamedTree.{MNamed, Alone, Over, Both, tree_then, names_in}
use Rattle.lburg_lines.specs.Grammar.{MRule, cost_tokens}
use Rattle.lburg_lines.specs.Readings.{Ends}
use Rattle.lburg_lines.specs.Sections.{TokenLine}
use Rattle.lburg_faults.specs.declared.line_fault.LineFault.TheVariants.{ArityDiffers}
use Rattle.lburg_faults.specs.Lines.{InPattern, has_template}
use Rattle.lburg_faults.specs.Terminals.{Among, declared_in, names_of}
use Rattle.lburg_faults.specs.Uses.{root_of, operands_of, IsUse, IsFirstUse}
use Rattle.lburg_faults.specs.FirstFault.{NoneStands}
use Rattle.lburg_model.specs.Pattern.{MPattern, PHole, PLeaf}
use Rattle.lburg_grammar.specs.Places.{operator_of, alone_for, pattern_for}
use Rattle.lburg_grammar.specs.Uses.{UsesWith}
use Rattle.lburg_grammar.proofs.ResolveNames.{compare, take_get}
use Rattle.lburg_grammar.proofs.ResolveWritten.{RuleLineAt, none_at}
use Rattle.lburg_grammar.proofs.ResolveTrees.{IsPart, part_at, templates}
use Rattle.lburg_grammar.proofs.ResolvePatternPlaces.{alone_is, over_is, both_is}

-- ---- parts of a rule's tree

-- the part stands at a place of the line's pattern
pub record PartInLine (l : TokenLine) (sub : MNamed) : Type 0 where
  pub place : ℕ
  pub behind : List Tok
  pub in_pattern : InPattern l place
  pub there : drop place l.tokens ≡ tree_then sub behind
  pub ends : Ends sub behind

pub part_in_line : (lines : List TokenLine) (m : ℕ) (r : MRule) (a : RuleLineAt lines m r) (sub : MNamed) → IsPart sub r.tree → PartInLine a.line sub
part_in_line lines m r a sub h =
    let rest = Template r.template ∷ cost_tokens r.cost in
    let p = part_at r.tree rest sub (templates r.tree r.template (cost_tokens r.cost)) h in
    let P : List Tok → Type 0 = λ ts. drop (suc (suc p.place)) ts ≡ tree_then sub p.behind in
    let Q : List Tok → Type 0 = λ ts. has_template (take (suc (suc p.place)) ts) ≡ false in
    record {
      place = suc (suc p.place);
      behind = p.behind;
      in_pattern = (a.rules, omega arith, subst Q (sym a.tokens) p.plain);
      there = subst P (sym a.tokens) p.there;
      ends = p.ends;
    }

pub root_first : (t : MNamed) (x : List Tok) → slice_get (tree_then t x) 0 ≡ Some (Word (root_of t))
root_first (Alone n) x = refl
root_first (Over n a) x = refl
root_first (Both n a b) x = refl

pub first_at : (ts : List Tok) (p : ℕ) (t : Tok) → slice_get (drop p ts) 0 ≡ Some t → slice_get ts p ≡ Some t
first_at [] zero t e = e
first_at [] (suc p) t e = e
first_at (x ∷ ts) zero t e = e
first_at (x ∷ ts) (suc p) t e = first_at ts p t e

pub part_word : (l : TokenLine) (sub : MNamed) (p : PartInLine l sub) → slice_get l.tokens p.place ≡ Some (Word (root_of sub))
part_word l sub p = first_at l.tokens p.place (Word (root_of sub)) (ap (λ (ts : List Tok). slice_get ts 0) p.there ∙ root_first sub p.behind)

then_longer : (t : MNamed) (x : List Tok) → length x < length (tree_then t x)
then_longer (Alone n) x = omega arith
then_longer (Over n a) x = let h = then_longer a (Mark Close ∷ x) in omega arith
then_longer (Both n a b) x =
    let h = then_longer a (Mark Comma ∷ tree_then b (Mark Close ∷ x)) in
    let k = then_longer b (Mark Close ∷ x) in
    omega arith

pub part_use : (l : TokenLine) (sub : MNamed) (p : PartInLine l sub) → names_in sub ≤ 16 → (last : ℕ) × IsUse l p.place last (root_of sub) (operands_of sub)
part_use l sub p few =
    let a = ap length p.there in
    let b : length (drop p.place l.tokens) ≡ length l.tokens - p.place = length-drop p.place l.tokens in
    let c = then_longer sub p.behind in
    let last = length l.tokens - length p.behind - 1 in (
      last,
      record {
        in_pattern = p.in_pattern;
        tree = sub;
        rest = p.behind;
        tokens = p.there;
        ends = p.ends;
        small = few;
        name_is = refl;
        operands_are = refl;
        last_is = (let d : last + 1 + length p.behind ≡ length l.tokens = omega arith in d);
      },
    )

-- ---- first uses

-- a line with no first use in a place has no use at all: by the place
none_left : (k : TokenLine) (name : List ℕ) (top : ℕ) → ((p q n : ℕ) → p < top → ((a b c : ℕ) → a < p → IsUse k a b name c → ⊥) → IsUse k p q name n → ⊥) → (p q n : ℕ) → p < top → IsUse k p q name n → ⊥
none_left k name top h p q n l u = below p p q n l (omega arith) u where
  below : (m p q n : ℕ) → p < top → p ≤ m → IsUse k p q name n → ⊥
  below zero p q n l e u = h p q n l (λ a b c less v. omega arith) u
  below (suc m) p q n l e u = h p q n l (λ a b c less v. below m a b c (omega arith) (omega arith) v) u

-- lines without a first use of the name have no use of it
pub no_use : (lines : List TokenLine) (name : List ℕ) → ((n : ℕ) → IsFirstUse lines name n → ⊥) → (i : ℕ) (k : TokenLine) (p q n : ℕ) → slice_get lines i ≡ Some k → IsUse k p q name n → ⊥
no_use lines name h i k p q n e u = below i i k p q n (omega arith) e u where
  here : (i : ℕ) (k : TokenLine) → slice_get lines i ≡ Some k → ((j : ℕ) (l : TokenLine) (p q n : ℕ) → j < i → slice_get lines j ≡ Some l → IsUse l p q name n → ⊥) → (p q n : ℕ) → IsUse k p q name n → ⊥
  here i k e f p q n u = none_left k name (p + 1) (λ a b c less left v. h c (record {
    index = i;
    line = k;
    place = a;
    last = b;
    there = e;
    is_use = v;
    earlier = f;
    left = left;
  })) p q n (omega arith) u

  below : (m i : ℕ) (k : TokenLine) (p q n : ℕ) → i ≤ m → slice_get lines i ≡ Some k → IsUse k p q name n → ⊥
  below zero i k p q n l e u = here i k e (λ j x a b c less f v. omega arith) p q n u
  below (suc m) i k p q n l e u = here i k e (λ j x a b c less f v. below m j x a b c (omega arith) f v) p q n u

first_front : (lines : List TokenLine) (k : ℕ) (name : List ℕ) (n : ℕ) (u : IsFirstUse lines name n) → u.index < k → IsFirstUse (take k lines) name n
first_front lines k name n u l = record {
  index = u.index;
  line = u.line;
  place = u.place;
  last = u.last;
  there = take_get lines u.index k l ∙ u.there;
  is_use = u.is_use;
  earlier = λ i x p q m less e v. u.earlier i x p q m less (sym (take_get lines i k (omega arith)) ∙ e) v;
  left = u.left;
}

take_suc : {T : Type 0} (xs : List T) (i : ℕ) (x : T) → slice_get xs i ≡ Some x → take (suc i) xs ≡ take i xs ++ x ∷ []
take_suc [] i x e = absurd (none-some x e)
take_suc (y ∷ ys) zero x e = ap (λ z. z ∷ []) (same_Some y x e)
take_suc (y ∷ ys) (suc i) x e = ap (λ zs. y ∷ zs) (take_suc ys i x e)

differ : (a b : ℕ) → ((a ≡ b → ⊥) → ⊥) → a ≡ b
differ a b h = elim (compare a b) [
  | inl l ↦ absurd (h (λ e. omega arith))
  | inr l ↦ elim l [
    | inl e ↦ e
    | inr g ↦ absurd (h (λ e. omega arith))
  ]
]

-- a terminal has as many operands as at its first use
pub as_first : (lines : List TokenLine) → NoneStands lines → (i : ℕ) (l : TokenLine) (p q n m : ℕ) (name : List ℕ) → slice_get lines i ≡ Some l → IsUse l p q name n → Among name (names_of (declared_in lines)) → IsFirstUse lines name m → n ≡ m
as_first lines none i l p q n m name e u a f = differ n m (λ no. (
    let w : f.index < suc i = elim (cases_lt i f.index) [
      | inl s ↦ absurd (f.earlier i l p q n s e u)
      | inr s ↦ omega arith
    ] in
    let P : List TokenLine → Type 0 = λ ls. IsFirstUse ls name m in
    none_at lines none i l q ArityDiffers e (name, p, n, m, a, u, subst P (take_suc lines i l e) (first_front lines (suc i) name m f w), no)))

-- ---- operators of patterns and parts of trees

-- the operator is the part's name, with its operands
abbrev pub IsOperatorOf : List (List ℕ) → MNamed → ℕ → ℕ → MNamed → Type 0
IsOperatorOf ts tree op n sub = IsPart sub tree × (operands_of sub ≡ n) × (operator_of ts (root_of sub) ≡ Some op)

pub part_used : (ts ns : List (List ℕ)) (t : MNamed) (p : MPattern) (op n : ℕ) → pattern_for ts ns t ≡ Some p → UsesWith p op n → (sub : MNamed) × IsOperatorOf ts t op n sub
part_used ts ns (Alone name) p op n h u = let P : MPattern → Type 0 = λ x. UsesWith x op n in elim (alone_is (operator_of ts name) (place_of ns name) p h) [
  | inl e ↦ (let v = subst P (sym e.2) u in (Alone name, (refl, sym v.1, e.1 ∙ ap (λ (k : ℕ). Some k) v.0)))
  | inr e ↦ absurd (subst P (sym e.2) u)
]
part_used ts ns (Over name a) p op n h u =
    let P : MPattern → Type 0 = λ x. UsesWith x op n in
    let e = over_is (operator_of ts name) (pattern_for ts ns a) p h in
    elim (subst P (sym e.4) u) [
      | inl v ↦ (Over name a, (inl refl, sym v.1, e.2 ∙ ap (λ (k : ℕ). Some k) v.0))
      | inr v ↦ (let s = part_used ts ns a e.1 op n e.3 v in (s.0, (inr s.1.0, s.1.1, s.1.2)))
    ]
part_used ts ns (Both name a b) p op n h u =
    let P : MPattern → Type 0 = λ x. UsesWith x op n in
    let e = both_is (operator_of ts name) (pattern_for ts ns a) (pattern_for ts ns b) p h in
    elim (subst P (sym e.6) u) [
      | inl v ↦ (Both name a b, (inl refl, sym v.1, e.3 ∙ ap (λ (k : ℕ). Some k) v.0))
      | inr v ↦ elim v [
        | inl v ↦ (let s = part_used ts ns a e.1 op n e.4 v in (s.0, (inr (inl s.1.0), s.1.1, s.1.2)))
        | inr v ↦ (let s = part_used ts ns b e.2 op n e.5 v in (s.0, (inr (inr s.1.0), s.1.1, s.1.2)))
      ]
    ]

pub used_part : (ts ns : List (List ℕ)) (t : MNamed) (p : MPattern) (op : ℕ) (sub : MNamed) → pattern_for ts ns t ≡ Some p → IsPart sub t → operator_of ts (root_of sub) ≡ Some op → UsesWith p op (operands_of sub)
used_part ts ns (Alone name) p op sub h q o =
    let P : MPattern → Type 0 = λ x. UsesWith x op (operands_of sub) in
    let w : operator_of ts name ≡ Some op = ap (λ (x : MNamed). operator_of ts (root_of x)) (sym q) ∙ o in
    elim (alone_is (operator_of ts name) (place_of ns name) p h) [
      | inl e ↦ subst P e.2 (same_Some e.0 op (sym e.1 ∙ w), ap operands_of q)
      | inr e ↦ absurd (other_of (operator_of ts name) (place_of ns name) p e.0 op h w e.2)
    ]
  where
    other_of : (o n : Option ℕ) (p : MPattern) (k op : ℕ) → alone_for o n ≡ Some p → o ≡ Some op → PHole k ≡ p → ⊥
    other_of None n p k op h e f = absurd (none-some op e)
    other_of (Some x) n p k op h e f = (let g : PLeaf x ≡ PHole k = same_Some _ _ h ∙ sym f in cc)
used_part ts ns (Over name a) p op sub h q o =
    let P : MPattern → Type 0 = λ x. UsesWith x op (operands_of sub) in
    let e = over_is (operator_of ts name) (pattern_for ts ns a) p h in
    elim q [
      | inl g ↦ (let w : operator_of ts name ≡ Some op = ap (λ (x : MNamed). operator_of ts (root_of x)) (sym g) ∙ o in subst P e.4 (inl (same_Some e.0 op (sym e.2 ∙ w), ap operands_of g)))
      | inr g ↦ subst P e.4 (inr (used_part ts ns a e.1 op sub e.3 g o))
    ]
used_part ts ns (Both name a b) p op sub h q o =
    let P : MPattern → Type 0 = λ x. UsesWith x op (operands_of sub) in
    let e = both_is (operator_of ts name) (pattern_for ts ns a) (pattern_for ts ns b) p h in
    elim q [
      | inl g ↦ (let w : operator_of ts name ≡ Some op = ap (λ (x : MNamed). operator_of ts (root_of x)) (sym g) ∙ o in subst P e.6 (inl (same_Some e.0 op (sym e.3 ∙ w), ap operands_of g)))
      | inr g ↦ elim g [
        | inl g ↦ subst P e.6 (inr (inl (used_part ts ns a e.1 op sub e.4 g o)))
        | inr g ↦ subst P e.6 (inr (inr (used_part ts ns b e.2 op sub e.5 g o)))
      ]
    ]
