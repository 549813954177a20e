-- Names in the order of their first uses: one more use, and that uses have one such order.
use Rattle.std.proofs.Common.{◌≡◌, ℕ, zero, suc, ◌+◌, ◌<◌, ◌≤◌, List, [], ◌∷◌, ◌++◌, length, map, take, get_or, Option, Some, refl, sym, ap, ◌∙◌, subst, inl, inr, arith}
use Rattle.std.specs.Prelude.{slice_get, option_map}
use Rattle.std.proofs.lemmas.Bool.{cases_lt}
use Rattle.std.proofs.lemmas.Option.{slice_get-get_or, get_or_from_slice_get, slice_get_within, slice_get_read, slice_get-map, none-some}
use Rattle.std.proofs.lemmas.List.{take_more, map_push, same_lists}
use Rattle.lcc_text.specs.Names.{with_name}
use Rattle.lcc_text.proofs.lemmas.Places.{with_known, with_new, known_or_new}
use Rattle.lburg_lines.specs.declared.rule_line.RuleLine.{RuleLine}
use Rattle.lburg_lines.specs.Grammar.{MRule, rule_of}
use Rattle.lburg_faults.specs.Ruling.{lefts_of}
use Rattle.lburg_grammar.specs.FirstUses.{AreFirsts}
use Rattle.lburg_grammar.proofs.ResolveLists.{get_left, get_last, get_push, once_more}

-- one more use of a name that is known
known_use : (uses names : List (List ℕ)) (name : List ℕ) (k : ℕ) → AreFirsts uses names → slice_get names k ≡ Some name → AreFirsts (uses ++ name ∷ []) names
known_use uses names name k h at = record {
  once = h.once;
  noted = λ j a e. elim (get_push uses name a j e) [ inl f ↦ h.noted j a f | inr f ↦ (k, at ∙ ap (λ (x : List ℕ). Some x) f.1) ];
  used = λ n a e. let r = h.used n a e in (r.0, get_left uses (name ∷ []) r.0 a r.1);
  in_order = λ j m n a b e f g l. elim (get_push uses name a j e) [
    | inl d ↦ let r = h.in_order j m n a b d f g l in (r.0, r.1, get_left uses (name ∷ []) r.0 b r.2)
    | inr d ↦
        let r = h.used n b g in
        let w = slice_get_within uses r.0 b r.1 in
        let q = d.0 in
        (r.0, omega arith, get_left uses (name ∷ []) r.0 b r.1)
  ];
}

-- one more use, of a new name
new_use : (uses names : List (List ℕ)) (name : List ℕ) → AreFirsts uses names → ((i : ℕ) → slice_get names i ≡ Some name → ⊥) → AreFirsts (uses ++ name ∷ []) (names ++ name ∷ [])
new_use uses names name h new = record {
  once = once_more names name h.once new;
  noted = λ j a e. elim (get_push uses name a j e) [
    | inl f ↦ let r = h.noted j a f in (r.0, get_left names (name ∷ []) r.0 a r.1)
    | inr f ↦ (length names, get_last names [] name ∙ ap (λ (x : List ℕ). Some x) f.1)
  ];
  used = λ n a e. elim (get_push names name a n e) [
    | inl f ↦ let r = h.used n a f in (r.0, get_left uses (name ∷ []) r.0 a r.1)
    | inr f ↦ (length uses, get_last uses [] name ∙ ap (λ (x : List ℕ). Some x) f.1)
  ];
  in_order = λ j m n a b e f g l. elim (get_push names name b n g) [
    | inl q ↦ (elim (get_push uses name a j e) [
      | inl d ↦ (elim (get_push names name a m f) [
        | inl p ↦ let r = h.in_order j m n a b d p q l in (r.0, r.1, get_left uses (name ∷ []) r.0 b r.2)
        | inr p ↦ let r = h.noted j a d in absurd (new r.0 (r.1 ∙ ap (λ (x : List ℕ). Some x) (sym p.1)))
      ])
      | inr d ↦
          let r = h.used n b q in
          let w = slice_get_within uses r.0 b r.1 in
          let k = d.0 in
          (r.0, omega arith, get_left uses (name ∷ []) r.0 b r.1)
    ])
    | inr q ↦ absurd (elim (get_push names name a m f) [
      | inl p ↦ (let w = slice_get_within names m a p in let k = q.0 in omega arith)
      | inr p ↦ (let k = p.0 in let o = q.0 in omega arith)
    ])
  ];
}

pub one_more_use : (uses names new : List (List ℕ)) (name : List ℕ) → AreFirsts uses names → new ≡ with_name names name → AreFirsts (uses ++ name ∷ []) new
one_more_use uses names new name h e = elim (known_or_new names name) [
  | inl k ↦ subst (λ (ns : List (List ℕ)). AreFirsts (uses ++ name ∷ []) ns) (sym (e ∙ with_known names name k.0 k.1)) (known_use uses names name k.0 h k.1)
  | inr n ↦ subst (λ (ns : List (List ℕ)). AreFirsts (uses ++ name ∷ []) ns) (sym (e ∙ with_new names name n)) (new_use uses names name h n)
]

-- Two orders of the same uses agree on the names of the first j uses, which are the first m.
record Agree (uses xs ys : List (List ℕ)) (j : ℕ) : Type 0 where
  m : ℕ
  in_xs : m ≤ length xs
  in_ys : m ≤ length ys
  same : (n : ℕ) (a : List ℕ) → n < m → slice_get xs n ≡ Some a → slice_get ys n ≡ Some a
  seen : (i : ℕ) (a : List ℕ) → i < j → slice_get uses i ≡ Some a → (n : ℕ) × (n < m) × (slice_get xs n ≡ Some a)

at : (xs : List (List ℕ)) (n : ℕ) → n < length xs → (a : List ℕ) × (slice_get xs n ≡ Some a)
at xs n l = (get_or xs n [], slice_get-get_or xs n [] l)

module _ (uses xs ys : List (List ℕ)) (x : AreFirsts uses xs) (y : AreFirsts uses ys) where
  -- a name that stands behind the first m names of xs isn't seen yet
  late : (j n : ℕ) (a : List ℕ) (h : Agree uses xs ys j) → slice_get uses j ≡ Some a → slice_get xs n ≡ Some a → h.m ≤ n → n ≡ h.m
  late j n a h u e l = elim (cases_lt h.m n) [
    | inl s ↦
        let w = slice_get_within xs n a e in
        let b = at xs h.m (omega arith) in
        let o = x.in_order j n h.m a b.0 u e b.1 s in
        let r = h.seen o.0 b.0 o.1 o.2 in
        let k = x.once r.0 h.m b.0 r.2 b.1 in
        let q = r.1 in
        absurd (omega arith)
    | inr s ↦ omega arith
  ]

  early : (j n : ℕ) (a : List ℕ) (h : Agree uses xs ys j) → slice_get ys n ≡ Some a → n < h.m → slice_get xs n ≡ Some a
  early j n a h e l =
      let b = at xs n (let q = h.in_xs in omega arith) in
      let f = h.same n b.0 l b.1 in
      b.1 ∙ sym f ∙ e

  late' : (j n k : ℕ) (a : List ℕ) (h : Agree uses xs ys j) → slice_get uses j ≡ Some a → slice_get ys n ≡ Some a → slice_get xs k ≡ Some a → h.m ≤ k → n ≡ h.m
  late' j n k a h u e f l = elim (cases_lt n h.m) [
    | inl s ↦ (let q = x.once n k a (early j n a h e s) f in absurd (omega arith))
    | inr s ↦ (elim (cases_lt h.m n) [
      | inl t ↦
          let w = slice_get_within ys n a e in
          let b = at ys h.m (omega arith) in
          let o = y.in_order j n h.m a b.0 u e b.1 t in
          let r = h.seen o.0 b.0 o.1 o.2 in
          let k = y.once r.0 h.m b.0 (h.same r.0 b.0 r.1 r.2) b.1 in
          let q = r.1 in
          absurd (omega arith)
      | inr t ↦ omega arith
    ])
  ]

  agree_past : (j : ℕ) → Agree uses xs ys j → length uses ≤ j → Agree uses xs ys (j + 1)
  agree_past j h l = record {
    m = h.m;
    in_xs = h.in_xs;
    in_ys = h.in_ys;
    same = h.same;
    seen = λ i a k e. let w = slice_get_within uses i a e in h.seen i a (omega arith) e;
  }

  agree_known : (j n : ℕ) (a : List ℕ) (h : Agree uses xs ys j) → slice_get uses j ≡ Some a → slice_get xs n ≡ Some a → n < h.m → Agree uses xs ys (j + 1)
  agree_known j n a h u e l = record {
    m = h.m;
    in_xs = h.in_xs;
    in_ys = h.in_ys;
    same = h.same;
    seen = λ i b k f. elim (cases_lt i j) [
      | inl s ↦ h.seen i b s f
      | inr s ↦
          let q : i ≡ j = omega arith in
          let g : slice_get uses j ≡ Some b = subst (λ (z : ℕ). slice_get uses z ≡ Some b) q f in
          (n, l, e ∙ sym u ∙ g)
    ];
  }

  agree_new : (j : ℕ) (a : List ℕ) (h : Agree uses xs ys j) → slice_get uses j ≡ Some a → slice_get xs h.m ≡ Some a → slice_get ys h.m ≡ Some a → Agree uses xs ys (j + 1)
  agree_new j a h u e f = record {
    m = h.m + 1;
    in_xs = (let w = slice_get_within xs h.m a e in omega arith);
    in_ys = (let w = slice_get_within ys h.m a f in omega arith);
    same = λ n b k g. elim (cases_lt n h.m) [
      | inl s ↦ h.same n b s g
      | inr s ↦
          let q : n ≡ h.m = omega arith in
          let g' : slice_get xs h.m ≡ Some b = subst (λ (z : ℕ). slice_get xs z ≡ Some b) q g in
          subst (λ (z : ℕ). slice_get ys z ≡ Some b) (sym q) (f ∙ sym e ∙ g')
    ];
    seen = λ i b k g. elim (cases_lt i j) [
      | inl s ↦ let r = h.seen i b s g in (r.0, (let q = r.1 in omega arith), r.2)
      | inr s ↦
          let q : i ≡ j = omega arith in
          let g' : slice_get uses j ≡ Some b = subst (λ (z : ℕ). slice_get uses z ≡ Some b) q g in
          (h.m, omega arith, e ∙ sym u ∙ g')
    ];
  }

  agree_step : (j : ℕ) → Agree uses xs ys j → Agree uses xs ys (j + 1)
  agree_step j h = elim (cases_lt j (length uses)) [
    | inl l ↦
        let a = at uses j l in
        let p = x.noted j a.0 a.1 in
        let q = y.noted j a.0 a.1 in
        elim (cases_lt p.0 h.m) [
          | inl s ↦ agree_known j p.0 a.0 h a.1 p.1 s
          | inr s ↦ agree_new j a.0 h a.1
              (subst (λ (z : ℕ). slice_get xs z ≡ Some a.0) (late j p.0 a.0 h a.1 p.1 s) p.1)
              (subst (λ (z : ℕ). slice_get ys z ≡ Some a.0) (late' j q.0 p.0 a.0 h a.1 q.1 p.1 s) q.1)
        ]
    | inr l ↦ agree_past j h l
  ]

  agree : (j : ℕ) → Agree uses xs ys j
  agree zero = record { m = 0; in_xs = omega arith; in_ys = omega arith; same = λ n a l. absurd (omega arith); seen = λ i a l. absurd (omega arith) }
  agree (suc j) = subst (λ (z : ℕ). Agree uses xs ys z) (omega arith) (agree_step j (agree j))

  pub one_order : xs ≡ ys
  one_order =
      let h = agree (length uses) in
      let p : length xs ≤ h.m = elim (cases_lt h.m (length xs)) [
        | inl s ↦
            let b = at xs h.m s in
            let u = x.used h.m b.0 b.1 in
            let r = h.seen u.0 b.0 (slice_get_within uses u.0 b.0 u.1) u.1 in
            let k = x.once r.0 h.m b.0 r.2 b.1 in
            let q = r.1 in
            absurd (omega arith)
        | inr s ↦ s
      ] in
      let q : length ys ≤ h.m = elim (cases_lt h.m (length ys)) [
        | inl s ↦
            let b = at ys h.m s in
            let u = y.used h.m b.0 b.1 in
            let r = h.seen u.0 b.0 (slice_get_within uses u.0 b.0 u.1) u.1 in
            let k = y.once r.0 h.m b.0 (h.same r.0 b.0 r.1 r.2) b.1 in
            let q = r.1 in
            absurd (omega arith)
        | inr s ↦ s
      ] in
      let e = h.in_xs in
      let f = h.in_ys in
      same_lists xs ys (omega arith) (λ k d l. (
      let g = slice_get-get_or xs k d l in
      sym (get_or_from_slice_get ys k (get_or xs k d) d (h.same k (get_or xs k d) (omega arith) g))))

pub no_use : (names : List (List ℕ)) → names ≡ [] → AreFirsts [] names
no_use names e = subst (λ (ns : List (List ℕ)). AreFirsts [] ns) (sym e) (record {
  once = λ i j x h. absurd (none-some x h);
  noted = λ j a h. absurd (none-some a h);
  used = λ n a h. absurd (none-some a h);
  in_order = λ j m n a b h. absurd (none-some a h);
})

-- The left sides of rules.
module _ (rules : List RuleLine) (i : ℕ) (x : RuleLine) (l : i < length rules) (read : x ≡ get_or rules i x) where
  lefts_more : lefts_of (map rule_of (take (i + 1) rules)) ≡ lefts_of (map rule_of (take i rules)) ++ x.left.now ∷ []
  lefts_more =
      ap (λ (rs : List RuleLine). lefts_of (map rule_of rs)) (take_more rules i x l ∙ ap (λ (r : RuleLine). take i rules ++ r ∷ []) (sym read))
      ∙ ap lefts_of (map_push rule_of (take i rules) x) ∙ map_push (λ (s : MRule). s.left) (map rule_of (take i rules)) (rule_of x)

  pub left_at : slice_get (lefts_of (map rule_of rules)) i ≡ Some x.left.now
  left_at =
      slice_get-map (λ (s : MRule). s.left) (map rule_of rules) i
      ∙ ap (λ (o : Option MRule). option_map (λ (s : MRule). s.left) o) (slice_get-map rule_of rules i ∙ ap (λ (o : Option RuleLine). option_map rule_of o) (slice_get_read rules (length rules) i x refl l read))

  pub firsts_more : (names new : List (List ℕ)) → AreFirsts (lefts_of (map rule_of (take i rules))) names → new ≡ with_name names x.left.now → AreFirsts (lefts_of (map rule_of (take (i + 1) rules))) new
  firsts_more names new h e = subst (λ (us : List (List ℕ)). AreFirsts us new) (sym lefts_more) (one_more_use _ names new x.left.now h e)
