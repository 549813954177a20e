-- Parts of a tree, and the places at which they stand among its tokens.
use Rattle.std.proofs.Common.{◌≡◌, ◌≤◌, ◌<◌, ◌⊎◌, ℕ, ◌+◌, ◌-◌, zero, suc, false, List, ◌∷◌, take, drop, Some, refl, sym, ap, ◌∙◌, subst, inl, inr, arith}
use Rattle.std.specs.Prelude.{slice_get}
use Rattle.std.proofs.lemmas.Bool.{cases_lt}
use Rattle.lburg_lines.specs.declared.token.Sign.{Sign}
use Rattle.lburg_lines.specs.declared.token.Sign.TheVariants.{Open, Close, Comma}
use Rattle.lburg_lines.specs.Tokens.{Tok, Word, Template, Mark}
use Rattle.lburg_lines.specs.NamedTree.{MNamed, Alone, Over, Both, tree_then, names_in}
use Rattle.lburg_lines.specs.Readings.{Ends}
use Rattle.lburg_faults.specs.Lines.{has_template, words_in}

-- at a place at most one tree stands
abbrev pub OneTree : Type 0
OneTree = (a b : MNamed) (x y : List Tok) → Ends a x → Ends b y → tree_then a x ≡ tree_then b y → (a ≡ b) × (x ≡ y)

-- the tree, or a part of it
abbrev pub IsPart : MNamed → MNamed → Type 0
IsPart sub (Alone n) = sub ≡ Alone n
IsPart sub (Over n a) = (sub ≡ Over n a) ⊎ IsPart sub a
IsPart sub (Both n a b) = (sub ≡ Both n a b) ⊎ (IsPart sub a ⊎ IsPart sub b)

pub closes : (tree : MNamed) (rest : List Tok) → Ends tree (Mark Close ∷ rest)
closes (Alone n) rest = λ e. cc
closes (Over n a) rest = tt
closes (Both n a b) rest = tt

pub commas : (tree : MNamed) (rest : List Tok) → Ends tree (Mark Comma ∷ rest)
commas (Alone n) rest = λ e. cc
commas (Over n a) rest = tt
commas (Both n a b) rest = tt

pub templates : (tree : MNamed) (t : List ℕ) (rest : List Tok) → Ends tree (Template t ∷ rest)
templates (Alone n) t rest = λ e. cc
templates (Over n a) t rest = tt
templates (Both n a b) t rest = tt

-- where a place behind a tree is
pub record Moved (tree : MNamed) (rest : List Tok) (k : ℕ) : Type 0 where
  pub place : ℕ
  pub same : drop place (tree_then tree rest) ≡ drop k rest
  pub at : slice_get (tree_then tree rest) place ≡ slice_get rest k
  pub plain : has_template (take place (tree_then tree rest)) ≡ has_template (take k rest)
  pub words : words_in (take place (tree_then tree rest)) ≡ names_in tree + words_in (take k rest)

pub moved : (tree : MNamed) (rest : List Tok) (k : ℕ) → Moved tree rest k
moved (Alone n) rest k = record { place = suc k; same = refl; at = refl; plain = refl; words = omega arith }
moved (Over n a) rest k =
    let m = moved a (Mark Close ∷ rest) (suc k) in
    record { place = suc (suc m.place); same = m.same; at = m.at; plain = m.plain; words = (let w = m.words in omega arith) }
moved (Both n a b) rest k =
    let m = moved b (Mark Close ∷ rest) (suc k) in
    let o = moved a (Mark Comma ∷ tree_then b (Mark Close ∷ rest)) (suc m.place) in
    record { place = suc (suc o.place); same = o.same ∙ m.same; at = o.at ∙ m.at; plain = o.plain ∙ m.plain; words = (let w = m.words in let v = o.words in omega arith) }

-- ---- from parts to places

-- at a place of the tree's tokens stands the part
pub record PartAt (tree : MNamed) (rest : List Tok) (sub : MNamed) : Type 0 where
  pub place : ℕ
  pub behind : List Tok
  pub there : drop place (tree_then tree rest) ≡ tree_then sub behind
  pub ends : Ends sub behind
  pub plain : has_template (take place (tree_then tree rest)) ≡ false
  pub small : names_in sub ≤ names_in tree

none_taken : (tree : MNamed) (rest : List Tok) → has_template (take 0 (tree_then tree rest)) ≡ false
none_taken (Alone n) rest = refl
none_taken (Over n a) rest = refl
none_taken (Both n a b) rest = refl

here : (tree : MNamed) (rest : List Tok) (sub : MNamed) → Ends tree rest → sub ≡ tree → PartAt tree rest sub
here tree rest sub h e = let P : MNamed → Type 0 = λ x. Ends x rest in record {
  place = zero;
  behind = rest;
  there = none_dropped tree rest ∙ ap (λ (x : MNamed). tree_then x rest) (sym e);
  ends = subst P (sym e) h;
  plain = none_taken tree rest;
  small = (let f = ap names_in e in omega arith);
} where
  none_dropped : (tree : MNamed) (rest : List Tok) → drop 0 (tree_then tree rest) ≡ tree_then tree rest
  none_dropped (Alone n) rest = refl
  none_dropped (Over n a) rest = refl
  none_dropped (Both n a b) rest = refl

pub part_at : (tree : MNamed) (rest : List Tok) (sub : MNamed) → Ends tree rest → IsPart sub tree → PartAt tree rest sub
part_at (Alone n) rest sub h p = here (Alone n) rest sub h p
part_at (Over n a) rest sub h p = elim p [
  | inl e ↦ here (Over n a) rest sub h e
  | inr q ↦
      let m = part_at a (Mark Close ∷ rest) sub (closes a rest) q in
      record { place = suc (suc m.place); behind = m.behind; there = m.there; ends = m.ends; plain = m.plain; small = (let s = m.small in omega arith) }
]
part_at (Both n a b) rest sub h p = elim p [
  | inl e ↦ here (Both n a b) rest sub h e
  | inr q ↦ elim q [
    | inl q ↦
        let m = part_at a (Mark Comma ∷ tree_then b (Mark Close ∷ rest)) sub (commas a (tree_then b (Mark Close ∷ rest))) q in
        record { place = suc (suc m.place); behind = m.behind; there = m.there; ends = m.ends; plain = m.plain; small = (let s = m.small in omega arith) }
    | inr q ↦
        let m = part_at b (Mark Close ∷ rest) sub (closes b rest) q in
        let o = moved a (Mark Comma ∷ tree_then b (Mark Close ∷ rest)) (suc m.place) in
        record { place = suc (suc o.place); behind = m.behind; there = o.same ∙ m.there; ends = m.ends; plain = o.plain ∙ m.plain; small = (let s = m.small in omega arith) }
  ]
]

-- ---- from places to parts

not_sign : (s : Sign) (ts : List Tok) (sub : MNamed) (behind : List Tok) → Mark s ∷ ts ≡ tree_then sub behind → ⊥
not_sign s ts (Alone n) behind e = cc
not_sign s ts (Over n a) behind e = cc
not_sign s ts (Both n a b) behind e = cc

not_template : (t : List ℕ) (ts : List Tok) (sub : MNamed) (behind : List Tok) → Template t ∷ ts ≡ tree_then sub behind → ⊥
not_template t ts (Alone n) behind e = cc
not_template t ts (Over n a) behind e = cc
not_template t ts (Both n a b) behind e = cc

-- the tree stands behind, before any template there
abbrev pub IsBehind : List Tok → MNamed → List Tok → Type 0
IsBehind rest sub behind = (k : ℕ) × (drop k rest ≡ tree_then sub behind) × (has_template (take k rest) ≡ false)

signed : (s : Sign) (rest : List Tok) (sub : MNamed) (behind : List Tok) → IsBehind (Mark s ∷ rest) sub behind → IsBehind rest sub behind
signed s rest sub behind p = settled p.0 p.1 p.2 where
  settled : (k : ℕ) → drop k (Mark s ∷ rest) ≡ tree_then sub behind → has_template (take k (Mark s ∷ rest)) ≡ false → IsBehind rest sub behind
  settled zero e h = absurd (not_sign s rest sub behind e)
  settled (suc k) e h = (k, e, h)

pub part_of : OneTree → (tree : MNamed) (rest : List Tok) (sub : MNamed) (behind : List Tok) (q : ℕ) → Ends tree rest → Ends sub behind → drop q (tree_then tree rest) ≡ tree_then sub behind → has_template (take q (tree_then tree rest)) ≡ false → IsPart sub tree ⊎ IsBehind rest sub behind
part_of one (Alone n) rest sub behind zero h k e f = inl (sym (one (Alone n) sub rest behind h k e).0)
part_of one (Alone n) rest sub behind (suc q) h k e f = inr (q, e, f)
part_of one (Over n a) rest sub behind zero h k e f = inl (inl (sym (one (Over n a) sub rest behind h k e).0))
part_of one (Over n a) rest sub behind (suc zero) h k e f = absurd (not_sign Open (tree_then a (Mark Close ∷ rest)) sub behind e)
part_of one (Over n a) rest sub behind (suc (suc q)) h k e f = elim (part_of one a (Mark Close ∷ rest) sub behind q (closes a rest) k e f) [
  | inl p ↦ inl (inr p)
  | inr p ↦ inr (signed Close rest sub behind p)
]
part_of one (Both n a b) rest sub behind zero h k e f = inl (inl (sym (one (Both n a b) sub rest behind h k e).0))
part_of one (Both n a b) rest sub behind (suc zero) h k e f = absurd (not_sign Open (tree_then a (Mark Comma ∷ tree_then b (Mark Close ∷ rest))) sub behind e)
part_of one (Both n a b) rest sub behind (suc (suc q)) h k e f = elim (part_of one a (Mark Comma ∷ tree_then b (Mark Close ∷ rest)) sub behind q (commas a (tree_then b (Mark Close ∷ rest))) k e f) [
  | inl p ↦ inl (inr (inl p))
  | inr p ↦
      let s = signed Comma (tree_then b (Mark Close ∷ rest)) sub behind p in
      elim (part_of one b (Mark Close ∷ rest) sub behind s.0 (closes b rest) k s.1 s.2) [
        | inl p ↦ inl (inr (inr p))
        | inr p ↦ inr (signed Close rest sub behind p)
      ]
]

-- a tree before the template of a rule is a part of the rule's
pub part_of_rule : OneTree → (tree : MNamed) (t : List ℕ) (cost : List Tok) (sub : MNamed) (behind : List Tok) (q : ℕ) → Ends sub behind → drop q (tree_then tree (Template t ∷ cost)) ≡ tree_then sub behind → has_template (take q (tree_then tree (Template t ∷ cost))) ≡ false → IsPart sub tree
part_of_rule one tree t cost sub behind q k e f = elim (part_of one tree (Template t ∷ cost) sub behind q (templates tree t cost) k e f) [
  | inl p ↦ p
  | inr p ↦ absurd (settled p.0 p.1 p.2)
] where
  settled : (k : ℕ) → drop k (Template t ∷ cost) ≡ tree_then sub behind → has_template (take k (Template t ∷ cost)) ≡ false → ⊥
  settled zero e h = not_template t cost sub behind e
  settled (suc k) e h = cc

-- ---- the names of a tree, counted

pub record NameAt (tree : MNamed) (rest : List Tok) (k : ℕ) : Type 0 where
  pub place : ℕ
  pub name : List ℕ
  pub there : slice_get (tree_then tree rest) place ≡ Some (Word name)
  pub words : words_in (take place (tree_then tree rest)) ≡ k
  pub plain : has_template (take place (tree_then tree rest)) ≡ false

pub name_at : (tree : MNamed) (rest : List Tok) (k : ℕ) → k < names_in tree → NameAt tree rest k
name_at (Alone n) rest zero l = record { place = zero; name = n; there = refl; words = refl; plain = refl }
name_at (Alone n) rest (suc k) l = absurd (omega arith)
name_at (Over n a) rest zero l = record { place = zero; name = n; there = refl; words = refl; plain = refl }
name_at (Over n a) rest (suc k) l =
    let m = name_at a (Mark Close ∷ rest) k (omega arith) in
    record { place = suc (suc m.place); name = m.name; there = m.there; words = (let w = m.words in omega arith); plain = m.plain }
name_at (Both n a b) rest zero l = record { place = zero; name = n; there = refl; words = refl; plain = refl }
name_at (Both n a b) rest (suc k) l = elim (cases_lt k (names_in a)) [
  | inl s ↦
      let m = name_at a (Mark Comma ∷ tree_then b (Mark Close ∷ rest)) k s in
      record { place = suc (suc m.place); name = m.name; there = m.there; words = (let w = m.words in omega arith); plain = m.plain }
  | inr s ↦
      let m = name_at b (Mark Close ∷ rest) (k - names_in a) (omega arith) in
      let o = moved a (Mark Comma ∷ tree_then b (Mark Close ∷ rest)) (suc m.place) in
      record { place = suc (suc o.place); name = m.name; there = o.at ∙ m.there; words = (let w = m.words in let v = o.words in omega arith); plain = o.plain ∙ m.plain }
]
