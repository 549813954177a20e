-- What the first places of labels say of the labels that stand.
use Rattle.std.proofs.Common.{◌≡◌, ◌↔◌, ℕ, zero, suc, ◌+◌, ◌<◌, ◌⊎◌, ◌==◌, Bool, true, false, Option, Some, None, IsSome, List, [], ◌∷◌, take, slice_get, refl, sym, ap, ◌∙◌, arith, inl, inr, if◌then◌else◌}
use Rattle.std.proofs.lemmas.Bool.{eqb-true, eq-eqb, true≢false, cases_lt}
use Rattle.std.proofs.lemmas.Option.{slice_get_within, slice_get-get_or, get_or_from_slice_get}
use Rattle.op_forest.specs.Nodes.{Node}
use Rattle.op_forest.specs.Labels.{label_of}
use Rattle.op_forest.specs.Lowered.{HasLabel}
use Rattle.forests.specs.FirstPlaces.{first_by, first_place, AreFirst, HasPlaces}
use Rattle.forests.specs.WellFormed.{HasLabels}

-- ---- which labels stand

-- a root that is the label, by its place
pub record Stands (ts : List Node) (l k : ℕ) : Type 0 where
  pub root : Node
  pub there : slice_get ts k ≡ Some root
  pub is : label_of root ≡ Some l

has_label : (ts : List Node) (l k : ℕ) → Stands ts l k → HasLabel ts l
has_label ts l k s = (k, s.root, slice_get_within ts k s.root s.there, get_or_from_slice_get ts k s.root s.root s.there, s.is)

stands : (ts : List Node) (l : ℕ) → HasLabel ts l → (k : ℕ) × Stands ts l k
stands ts l h = (h.0, record { root = h.1; there = slice_get-get_or ts h.0 h.1 h.2 ∙ ap (λ (t : Node). Some t) h.3; is = h.4 })

same_label : (l : ℕ) → (l == l) ≡ true
same_label l = eq-eqb l l refl

-- the first of some roots is the label, or the first place is among those behind it
pub data FirstIs (from : ℕ) (t : Node) (ts : List Node) (l : ℕ) : Type 0 where
  Here : label_of t ≡ Some l → first_place from (t ∷ ts) l ≡ Some from → FirstIs from t ts l
  Later : (label_of t ≡ Some l → ⊥) → first_place from (t ∷ ts) l ≡ first_place (suc from) ts l → FirstIs from t ts l

split_if : (b : Bool) (k l from : ℕ) (later : Option ℕ) → (k == l) ≡ b → ((k ≡ l) × (first_by (Some k) l from later ≡ Some from)) ⊎ ((k ≡ l → ⊥) × (first_by (Some k) l from later ≡ later))
split_if true k l from later e = inl (eqb-true k l e, ap (λ (b : Bool). if b then Some from else later) e)
split_if false k l from later e = inr ((λ same. true≢false (sym (eq-eqb k l same) ∙ e)), ap (λ (b : Bool). if b then Some from else later) e)

split_by : (from : ℕ) (t : Node) (ts : List Node) (l : ℕ) (k : Option ℕ) → label_of t ≡ k → FirstIs from t ts l
split_by from t ts l None e =
    Later (λ some. absurd (let never : ⊥ = cc in never)) (ap (λ (x : Option ℕ). first_by x l from (first_place (suc from) ts l)) e)
split_by from t ts l (Some k) e = elim (split_if (k == l) k l from (first_place (suc from) ts l) refl) [
  | inl h ↦ Here (e ∙ ap (λ (x : ℕ). Some x) h.0) (ap (λ (x : Option ℕ). first_by x l from (first_place (suc from) ts l)) e ∙ h.1)
  | inr h ↦ Later (λ some. h.0 (let same : k ≡ l = cc in same)) (ap (λ (x : Option ℕ). first_by x l from (first_place (suc from) ts l)) e ∙ h.1)
]

split : (from : ℕ) (t : Node) (ts : List Node) (l : ℕ) → FirstIs from t ts l
split from t ts l = split_by from t ts l (label_of t) refl

-- where there is no first place no root is the label
none_stands : (from : ℕ) (ts : List Node) (l k : ℕ) → first_place from ts l ≡ None → Stands ts l k → ⊥
none_stands from [] l k e s = absurd (let there = s.there in let never : ⊥ = cc in never)
none_stands from (t ∷ ts) l zero e s = elim (split from t ts l) [
  | Here is first ↦ absurd (let never : ⊥ = cc in never)
  | Later apart first ↦ apart (let there = s.there in let is = s.is in let same : t ≡ s.root = cc in ap label_of same ∙ is)
]
none_stands from (t ∷ ts) l (suc k) e s = elim (split from t ts l) [
  | Here is first ↦ absurd (let never : ⊥ = cc in never)
  | Later apart first ↦ none_stands (suc from) ts l k (sym first ∙ e) (record { root = s.root; there = s.there; is = s.is })
]

-- the first place is that of a root that is the label, and none before it is
pub record IsFirstOf (from : ℕ) (ts : List Node) (l place : ℕ) : Type 0 where
  pub before : ℕ
  pub place_is : place ≡ from + before
  pub here : Stands ts l before
  pub none : (k : ℕ) → k < before → Stands ts l k → ⊥

none_later : (t : Node) (ts : List Node) (l before k : ℕ) → (label_of t ≡ Some l → ⊥) → ((j : ℕ) → j < before → Stands ts l j → ⊥) → k < suc before → Stands (t ∷ ts) l k → ⊥
none_later t ts l before zero apart none lt s = apart (let there = s.there in let is = s.is in let same : t ≡ s.root = cc in ap label_of same ∙ is)
none_later t ts l before (suc k) apart none lt s = none k (omega (arith, lt)) (record { root = s.root; there = s.there; is = s.is })

later_stands : (from : ℕ) (t : Node) (ts : List Node) (l place : ℕ) → (label_of t ≡ Some l → ⊥) → IsFirstOf (suc from) ts l place → IsFirstOf from (t ∷ ts) l place
later_stands from t ts l place apart x = record {
  before = suc x.before;
  place_is = (let is = x.place_is in omega (arith, is));
  here = record { root = x.here.root; there = x.here.there; is = x.here.is };
  none = λ k lt s. none_later t ts l x.before k apart x.none lt s;
}

first_stands : (from : ℕ) (ts : List Node) (l place : ℕ) → first_place from ts l ≡ Some place → IsFirstOf from ts l place
first_stands from [] l place e = absurd (let never : ⊥ = cc in never)
first_stands from (t ∷ ts) l place e = elim (split from t ts l) [
  | Here is first ↦ record {
    before = 0;
    place_is = (let same : from ≡ place = cc in omega (arith, same));
    here = record { root = t; there = refl; is = is };
    none = λ k lt s. absurd (let never : ⊥ = omega (arith, lt) in never);
  }
  | Later apart first ↦ later_stands from t ts l place apart (first_stands (suc from) ts l place (sym first ∙ e))
]

-- ---- the roots before a place

stands_before : (ts : List Node) (l place k : ℕ) → Stands (take place ts) l k → Stands ts l k
stands_before [] l zero k s = s
stands_before [] l (suc place) k s = s
stands_before (t ∷ ts) l zero k s = absurd (let there = s.there in let never : ⊥ = cc in never)
stands_before (t ∷ ts) l (suc place) zero s = record { root = s.root; there = s.there; is = s.is }
stands_before (t ∷ ts) l (suc place) (suc k) s =
    let x = stands_before ts l place k (record { root = s.root; there = s.there; is = s.is }) in
    record { root = x.root; there = x.there; is = x.is }

is_before : (ts : List Node) (l place k : ℕ) → Stands (take place ts) l k → k < place
is_before [] l zero k s = absurd (let there = s.there in let never : ⊥ = cc in never)
is_before [] l (suc place) k s = absurd (let there = s.there in let never : ⊥ = cc in never)
is_before (t ∷ ts) l zero k s = absurd (let there = s.there in let never : ⊥ = cc in never)
is_before (t ∷ ts) l (suc place) zero s = omega arith
is_before (t ∷ ts) l (suc place) (suc k) s = let h = is_before ts l place k (record { root = s.root; there = s.there; is = s.is }) in omega (arith, h)

among_before : (ts : List Node) (l place k : ℕ) → k < place → Stands ts l k → Stands (take place ts) l k
among_before [] l place k lt s = absurd (let there = s.there in let never : ⊥ = cc in never)
among_before (t ∷ ts) l zero k lt s = absurd (let never : ⊥ = omega (arith, lt) in never)
among_before (t ∷ ts) l (suc place) zero lt s = record { root = s.root; there = s.there; is = s.is }
among_before (t ∷ ts) l (suc place) (suc k) lt s =
    let x = among_before ts l place k (omega (arith, lt)) (record { root = s.root; there = s.there; is = s.is }) in
    record { root = x.root; there = x.there; is = x.is }

-- ---- a root's labels by places

some_is : (o : Option ℕ) → IsSome o → (x : ℕ) × (o ≡ Some x)
some_is None h = absurd (let never : ⊥ = cc in never)
some_is (Some x) h = (x, refl)

has_target : (roots : List Node) (l : ℕ) (o : Option ℕ) → o ≡ first_place 0 roots l → IsSome o → HasLabel roots l
has_target roots l o e h =
    let x = some_is o h in
    let f = first_stands 0 roots l x.0 (sym e ∙ x.1) in
    has_label roots l f.before f.here

is_target : (roots : List Node) (l : ℕ) (o : Option ℕ) → o ≡ first_place 0 roots l → HasLabel roots l → IsSome o
is_target roots l (Some x) e h = refl
is_target roots l None e h = absurd (let s = stands roots l h in none_stands 0 roots l s.0 (sym e) s.1)

is_alone : (roots : List Node) (l place : ℕ) → first_place 0 roots l ≡ Some place → HasLabel (take place roots) l → ⊥
is_alone roots l place e h =
    let s = stands (take place roots) l h in
    let f = first_stands 0 roots l place e in
    let lt = is_before roots l place s.0 s.1 in
    let is = f.place_is in
    f.none s.0 (omega (arith, lt, is)) (stands_before roots l place s.0 s.1)

found_alone : (roots : List Node) (l place : ℕ) (t : Node) (o : Option ℕ) → o ≡ first_place 0 roots l → slice_get roots place ≡ Some t → label_of t ≡ Some l → (HasLabel (take place roots) l → ⊥) → o ≡ Some place
found_alone roots l place t None e there is alone = absurd (none_stands 0 roots l place (sym e) (record { root = t; there = there; is = is }))
found_alone roots l place t (Some x) e there is alone =
    let f = first_stands 0 roots l x (sym e) in
    let at = f.place_is in
    elim (cases_lt f.before place) [
      | inl lt ↦ absurd (alone (has_label (take place roots) l f.before (among_before roots l place f.before lt f.here)))
      | inr le ↦ elim (cases_lt place f.before) [
        | inl lt ↦ absurd (f.none place lt (record { root = t; there = there; is = is }))
        | inr ge ↦ ap (λ (k : ℕ). Some k) (let same : x ≡ place = omega (arith, at, le, ge) in same)
      ]
    ]

pub labels_by_places : (roots : List Node) (places : ℕ → Option ℕ) (place : ℕ) (t : Node) → AreFirst 0 roots places → slice_get roots place ≡ Some t → HasPlaces places place t ↔ HasLabels roots (take place roots) t
labels_by_places roots places place t first there = (
  (λ h. record { target = λ l e. has_target roots l (places l) (first l) (h.target l e); once = λ l e x. is_alone roots l place (sym (first l) ∙ h.once l e) x }),
  (λ h. record { target = λ l e. is_target roots l (places l) (first l) (h.target l e); once = λ l e. found_alone roots l place t (places l) (first l) there e (h.once l e) }),
)
