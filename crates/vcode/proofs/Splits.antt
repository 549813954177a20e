-- Where a rule's pattern fits, the node does what its nonterminals' nodes do from left to right, and then the pattern
-- with their values.
use Rattle.std.proofs.Common.{◌≡◌, ℕ, zero, suc, ◌+◌, ⊎_elim, Bool, true, false, not, ◌&&◌, ◌||◌, ◌==◌, if◌then◌else◌, Option, Some, None, List, [], ◌∷◌, ◌++◌, map, length, refl, sym, ap, ◌∙◌, subst, arith, append_assoc, append-nil, length-append, eqb-true}
use Rattle.std.proofs.lemmas.Bool.{true≢false, and_parts, or_cases, or_parts, not-true}
use Rattle.std.proofs.lemmas.Option.{none-some, same_Some}
use Rattle.lburg_model.specs.Pattern.{MPattern, PHole, PLeaf, POne, PTwo}
use Rattle.op_forest.specs.Nodes.{Head, Node, Leaf, One, Two, number_of}
use Rattle.forests.specs.Words.{Word}
use Rattle.forests.specs.Worlds.{Point, Next, Effect, Went, Stuck, then_do}
use Rattle.forests.specs.Bodies.{Setting, does}
use Rattle.forests.specs.Bodies.{evaluate}
use Rattle.forests.proofs.lemmas.Effects.{then_do_assoc, then_do_same, then_do_unless}
use Rattle.vcode.specs.Patterns.{Meeting, both, leaves_at, inner, pattern_effect, each_of, is_chain, has_hole, is_steady, all_steady, is_ordered}
use Rattle.vcode.proofs.Steady.{settled, does_steady}

-- the nodes that nonterminals meet
abbrev pub met : List Meeting → List Node
met xs = map (λ x. x.1) xs

pub met_both : (xs ys : List Meeting) → met (xs ++ ys) ≡ met xs ++ met ys
met_both [] ys = refl
met_both (x ∷ xs) ys = ap (λ ts. x.1 ∷ ts) (met_both xs ys)

met_length : (xs : List Meeting) → length (met xs) ≡ length xs
met_length [] = refl
met_length (x ∷ xs) = ap (λ n. suc n) (met_length xs)

under_if : (b : Bool) (x : Option (List Meeting)) (xs : List Meeting) → (if b then x else None) ≡ Some xs → (b ≡ true) × (x ≡ Some xs)
under_if true x xs e = (refl, e)
under_if false x xs e = absurd (none-some xs e)

both_some : (x y : Option (List Meeting)) (xs : List Meeting) → both x y ≡ Some xs → (m1 : List Meeting) × (m2 : List Meeting) × (x ≡ Some m1) × (y ≡ Some m2) × (m1 ++ m2 ≡ xs)
both_some None y xs e = absurd (none-some xs e)
both_some (Some m1) None xs e = absurd (none-some xs e)
both_some (Some m1) (Some m2) xs e = (m1, m2, refl, refl, same_Some (m1 ++ m2) xs e)

-- a list of the first values and a list of the others
cut : {A : Type 0} (n k : ℕ) (xs : List A) → length xs ≡ n + k → (ys : List A) × (zs : List A) × (xs ≡ ys ++ zs) × (length ys ≡ n) × (length zs ≡ k)
cut zero k xs e = ([], xs, refl, refl, omega (arith, e))
cut (suc n) k [] e = absurd (omega (arith, e))
cut (suc n) k (x ∷ xs) e =
    let r = cut n k xs (omega (arith, e)) in
    (x ∷ r.0, r.1, ap (λ l. x ∷ l) r.2, ap (λ j. suc j) r.3, r.4)

module _ (s : Setting) where
  each_same : (ts : List Node) (p : Point) (f g : List (List Word) → Point → Effect) → ((vs : List (List Word)) (p1 : Point) → f vs p1 ≡ g vs p1) → each_of s ts p f ≡ each_of s ts p g
  each_same [] p f g h = h [] p
  each_same (t ∷ ts) p f g h = then_do_same (evaluate s t p) _ _ (λ ws p1. each_same ts p1 (λ vs p2. f (ws ∷ vs) p2) (λ vs p2. g (ws ∷ vs) p2) (λ vs p2. h (ws ∷ vs) p2))

  each_unless : (ts : List Node) (p : Point) (f g : List (List Word) → Point → Effect) → (each_of s ts p f ≡ Stuck → ⊥) → ((vs : List (List Word)) (p1 : Point) → length vs ≡ length ts → (f vs p1 ≡ Stuck → ⊥) → f vs p1 ≡ g vs p1) → each_of s ts p f ≡ each_of s ts p g
  each_unless [] p f g ns h = h [] p refl ns
  each_unless (t ∷ ts) p f g ns h = then_do_unless (evaluate s t p) _ _ ns (λ ws p1 ns1. each_unless ts p1 (λ vs p2. f (ws ∷ vs) p2) (λ vs p2. g (ws ∷ vs) p2) ns1 (λ vs p2 same. h (ws ∷ vs) p2 (ap (λ n. suc n) same)))

  pub each_both : (ts us : List Node) (p : Point) (go : List (List Word) → Point → Effect) → each_of s (ts ++ us) p go ≡ each_of s ts p (λ vs p1. each_of s us p1 (λ ws p2. go (vs ++ ws) p2))
  each_both [] us p go = refl
  each_both (t ∷ ts) us p go = then_do_same (evaluate s t p) _ _ (λ ws p1. each_both ts us p1 (λ vs p2. go (ws ∷ vs) p2))

  -- without nonterminals the pattern does what the node does
  abbrev Whole : MPattern → Node → Type 0
  Whole q t = (vs : List (List Word)) (p : Point) (go : List Word → List (List Word) → Point → Effect) → then_do (evaluate s t p) (λ ws p1. go ws vs p1) ≡ inner s q t vs p go

  closed_none : (q : MPattern) (t : Node) (ms : List Meeting) → has_hole q ≡ false → leaves_at q t ≡ Some ms → ms ≡ []
  closed_none (PHole n) t ms closed fits = absurd (true≢false closed)
  closed_none (PLeaf op) (Leaf h) ms closed fits = sym (same_Some [] ms (under_if (op == number_of h) (Some []) ms fits).1)
  closed_none (PLeaf op) (One h a) ms closed fits = absurd (none-some ms fits)
  closed_none (PLeaf op) (Two h a b) ms closed fits = absurd (none-some ms fits)
  closed_none (POne op q) (Leaf h) ms closed fits = absurd (none-some ms fits)
  closed_none (POne op q) (One h a) ms closed fits = closed_none q a ms closed (under_if (op == number_of h) (leaves_at q a) ms fits).1
  closed_none (POne op q) (Two h a b) ms closed fits = absurd (none-some ms fits)
  closed_none (PTwo op q r) (Leaf h) ms closed fits = absurd (none-some ms fits)
  closed_none (PTwo op q r) (One h a) ms closed fits = absurd (none-some ms fits)
  closed_none (PTwo op q r) (Two h a b) ms closed fits =
      let e = both_some (leaves_at q a) (leaves_at r b) ms (under_if (op == number_of h) (both (leaves_at q a) (leaves_at r b)) ms fits).1 in
      let c = or_parts (has_hole q) (has_hole r) closed in
      sym e.4 ∙ ap (λ l. l ++ e.1) (closed_none q a e.0 c.0 e.2) ∙ closed_none r b e.1 c.1 e.3

  closed_whole : (q : MPattern) (t : Node) (ms : List Meeting) → has_hole q ≡ false → leaves_at q t ≡ Some ms → Whole q t
  closed_whole (PHole n) t ms closed fits = absurd (true≢false closed)
  closed_whole (PLeaf op) (Leaf h) ms closed fits = λ vs p go. refl
  closed_whole (PLeaf op) (One h a) ms closed fits = absurd (none-some ms fits)
  closed_whole (PLeaf op) (Two h a b) ms closed fits = absurd (none-some ms fits)
  closed_whole (POne op q) (Leaf h) ms closed fits = absurd (none-some ms fits)
  closed_whole (POne op q) (One h a) ms closed fits =
      let below = closed_whole q a ms closed (under_if (op == number_of h) (leaves_at q a) ms fits).1 in
      λ vs p go.
      then_do_assoc (evaluate s a p) (λ xs p1. does s h xs p1) (λ ws p1. go ws vs p1)
      ∙ below vs p (λ xs us p1. then_do (does s h xs p1) (λ ws p2. go ws us p2))
  closed_whole (POne op q) (Two h a b) ms closed fits = absurd (none-some ms fits)
  closed_whole (PTwo op q r) (Leaf h) ms closed fits = absurd (none-some ms fits)
  closed_whole (PTwo op q r) (One h a) ms closed fits = absurd (none-some ms fits)
  closed_whole (PTwo op q r) (Two h a b) ms closed fits =
      let e = both_some (leaves_at q a) (leaves_at r b) ms (under_if (op == number_of h) (both (leaves_at q a) (leaves_at r b)) ms fits).1 in
      let c = or_parts (has_hole q) (has_hole r) closed in
      let left = closed_whole q a e.0 c.0 e.2 in
      let right = closed_whole r b e.1 c.1 e.3 in
      λ vs p go.
      then_do_assoc (evaluate s a p) (λ xs p1. then_do (evaluate s b p1) (λ ys p2. does s h (xs ++ ys) p2)) (λ ws p3. go ws vs p3)
      ∙ then_do_same (evaluate s a p) _ _
      (λ xs p1.
      then_do_assoc (evaluate s b p1) (λ ys p2. does s h (xs ++ ys) p2) (λ ws p3. go ws vs p3)
      ∙ right vs p1 (λ ys us p2. then_do (does s h (xs ++ ys) p2) (λ ws p3. go ws us p3)))
      ∙ left vs p (λ xs us p1. inner s r b us p1 (λ ys rest p2. then_do (does s h (xs ++ ys) p2) (λ ws p3. go ws rest p3)))

  -- a pattern of steady operators has no meaning with these values, or gives the same values wherever it stands
  abbrev AlwaysGives : MPattern → Node → List (List Word) → Option (List Word) → Type 0
  AlwaysGives q t vs e = (rest : List (List Word)) (p : Point) (go : List Word → List (List Word) → Point → Effect) → inner s q t (vs ++ rest) p go ≡ settled e (λ ws. go ws rest p)

  abbrev IsSteadyAt : MPattern → Node → List (List Word) → Type 0
  IsSteadyAt q t vs = (e : Option (List Word)) × AlwaysGives q t vs e

  settles_one : (e : Option (List Word)) (f : Point → Effect) → ((p : Point) → f p ≡ settled e (λ ws. Went ws p Next)) → (rest : List (List Word)) (p : Point) (go : List Word → List (List Word) → Point → Effect) → then_do (f p) (λ ws p1. go ws rest p1) ≡ settled e (λ ws. go ws rest p)
  settles_one None f is rest p go = ap (λ x. then_do x (λ ws p1. go ws rest p1)) (is p)
  settles_one (Some ws) f is rest p go = ap (λ x. then_do x (λ us p1. go us rest p1)) (is p)

  settles_under : (op : ℕ) (q : MPattern) (h : Head) (a : Node) (vs : List (List Word)) → is_steady (number_of h) ≡ true → IsSteadyAt q a vs → IsSteadyAt (POne op q) (One h a) vs
  settles_under op q h a vs steady below = at below.0 below.1
    where
      at : (e : Option (List Word)) → AlwaysGives q a vs e → IsSteadyAt (POne op q) (One h a) vs
      at None is = (None, λ rest p go. is rest p (λ xs us p1. then_do (does s h xs p1) (λ ws p2. go ws us p2)))
      at (Some xs) is =
          let own = does_steady s h xs steady in
          (own.0, λ rest p go. is rest p (λ ys us p1. then_do (does s h ys p1) (λ ws p2. go ws us p2)) ∙ settles_one own.0 (does s h xs) own.1 rest p go)

  settles_between : (op : ℕ) (q r : MPattern) (h : Head) (a b : Node) (us vs : List (List Word)) → is_steady (number_of h) ≡ true → IsSteadyAt q a us → IsSteadyAt r b vs → IsSteadyAt (PTwo op q r) (Two h a b) (us ++ vs)
  settles_between op q r h a b us vs steady left right = at left.0 left.1 right.0 right.1
    where
      at : (e : Option (List Word)) → AlwaysGives q a us e → (e1 : Option (List Word)) → AlwaysGives r b vs e1 → IsSteadyAt (PTwo op q r) (Two h a b) (us ++ vs)
      at None is e1 is1 = (
        None,
        λ rest p go.
            let more : List Word → List (List Word) → Point → Effect = λ xs us1 p1. inner s r b us1 p1 (λ ys rest1 p2. then_do (does s h (xs ++ ys) p2) (λ ws p3. go ws rest1 p3)) in
            ap (λ l. inner s q a l p more) (append_assoc us vs rest) ∙ is (vs ++ rest) p more,
      )
      at (Some xs) is None is1 = (
        None,
        λ rest p go.
            let more : List Word → List (List Word) → Point → Effect = λ zs us1 p1. inner s r b us1 p1 (λ ys rest1 p2. then_do (does s h (zs ++ ys) p2) (λ ws p3. go ws rest1 p3)) in
            ap (λ l. inner s q a l p more) (append_assoc us vs rest) ∙ is (vs ++ rest) p more
            ∙ is1 rest p (λ ys rest1 p2. then_do (does s h (xs ++ ys) p2) (λ ws p3. go ws rest1 p3)),
      )
      at (Some xs) is (Some ys) is1 =
          let own = does_steady s h (xs ++ ys) steady in (
            own.0,
            λ rest p go.
                let more : List Word → List (List Word) → Point → Effect = λ zs us1 p1. inner s r b us1 p1 (λ ws rest1 p2. then_do (does s h (zs ++ ws) p2) (λ us2 p3. go us2 rest1 p3)) in
                ap (λ l. inner s q a l p more) (append_assoc us vs rest) ∙ is (vs ++ rest) p more
                ∙ is1 rest p (λ zs rest1 p2. then_do (does s h (xs ++ zs) p2) (λ ws p3. go ws rest1 p3))
                ∙ settles_one own.0 (does s h (xs ++ ys)) own.1 rest p go,
          )

  of_head : (op : ℕ) (h : Head) → (op == number_of h) ≡ true → is_steady op ≡ true → is_steady (number_of h) ≡ true
  of_head op h same steady = subst (λ n. is_steady n ≡ true) (eqb-true op (number_of h) same) steady

  hole_settles : (n : ℕ) (t : Node) (vs : List (List Word)) → length vs ≡ 1 → IsSteadyAt (PHole n) t vs
  hole_settles n t [] len = absurd (omega (arith, len))
  hole_settles n t (ws ∷ []) len = (Some ws, λ rest p go. refl)
  hole_settles n t (ws ∷ us ∷ vs) len = absurd (omega (arith, len))

  leaf_settles : (op : ℕ) (h : Head) (vs : List (List Word)) → length vs ≡ 0 → is_steady (number_of h) ≡ true → IsSteadyAt (PLeaf op) (Leaf h) vs
  leaf_settles op h [] len steady = let own = does_steady s h [] steady in (own.0, λ rest p go. settles_one own.0 (does s h []) own.1 rest p go)
  leaf_settles op h (ws ∷ vs) len steady = absurd (omega (arith, len))

  steady_settles : (q : MPattern) (t : Node) (ms : List Meeting) (vs : List (List Word)) → all_steady q ≡ true → leaves_at q t ≡ Some ms → length vs ≡ length ms → IsSteadyAt q t vs
  steady_settles (PHole n) t ms vs steady fits len = hole_settles n t vs (len ∙ sym (ap (λ l. length l) (same_Some ((n, t) ∷ []) ms fits)))
  steady_settles (PLeaf op) (Leaf h) ms vs steady fits len =
      let e = under_if (op == number_of h) (Some []) ms fits in
      leaf_settles op h vs (len ∙ sym (ap (λ l. length l) (same_Some [] ms e.1))) (of_head op h e.0 steady)
  steady_settles (PLeaf op) (One h a) ms vs steady fits len = absurd (none-some ms fits)
  steady_settles (PLeaf op) (Two h a b) ms vs steady fits len = absurd (none-some ms fits)
  steady_settles (POne op q) (Leaf h) ms vs steady fits len = absurd (none-some ms fits)
  steady_settles (POne op q) (One h a) ms vs steady fits len =
      let e = under_if (op == number_of h) (leaves_at q a) ms fits in
      let c = and_parts (is_steady op) (all_steady q) steady in
      settles_under op q h a vs (of_head op h e.0 c.0) (steady_settles q a ms vs c.1 e.1 len)
  steady_settles (POne op q) (Two h a b) ms vs steady fits len = absurd (none-some ms fits)
  steady_settles (PTwo op q r) (Leaf h) ms vs steady fits len = absurd (none-some ms fits)
  steady_settles (PTwo op q r) (One h a) ms vs steady fits len = absurd (none-some ms fits)
  steady_settles (PTwo op q r) (Two h a b) ms vs steady fits len =
      let f = under_if (op == number_of h) (both (leaves_at q a) (leaves_at r b)) ms fits in
      let e = both_some (leaves_at q a) (leaves_at r b) ms f.1 in
      let c = and_parts (is_steady op) (all_steady q && all_steady r) steady in
      let d = and_parts (all_steady q) (all_steady r) c.1 in
      let parts = cut (length e.0) (length e.1) vs (len ∙ ap (λ l. length l) (sym e.4) ∙ length-append e.0 e.1) in
      subst (λ l. IsSteadyAt (PTwo op q r) (Two h a b) l) (sym parts.2)
      (settles_between op q r h a b parts.0 parts.1 (of_head op h f.0 c.0) (steady_settles q a e.0 parts.0 d.0 e.2 parts.3) (steady_settles r b e.1 parts.1 d.1 e.3 parts.4))

  -- the node's values are what its nonterminals' nodes and then the pattern give, also with further values behind
  abbrev Splits : MPattern → Node → List Meeting → Type 0
  Splits q t ms = (p : Point) (us : List (List Word)) (go : List Word → List (List Word) → Point → Effect) → (then_do (evaluate s t p) (λ ws p1. go ws us p1) ≡ Stuck → ⊥) → then_do (evaluate s t p) (λ ws p1. go ws us p1) ≡ each_of s (met ms) p (λ vs p1. inner s q t (vs ++ us) p1 go)

  module _ (q r : MPattern) (a b : Node) (m1 m2 : List Meeting) (p : Point) (us : List (List Word)) (go : List Word → List Word → List (List Word) → Point → Effect) where
    abbrev nodes_first : Effect
    nodes_first = then_do (evaluate s a p) (λ xs p1. then_do (evaluate s b p1) (λ ys p2. go xs ys us p2))

    -- what the right side's pattern does, given the left side's values
    abbrev right : List Word → List (List Word) → Point → Effect
    right xs vs p1 = inner s r b vs p1 (λ ys rest p2. go xs ys rest p2)

    abbrev pattern_last : List (List Word) → Point → Effect
    pattern_last vs p1 = inner s q a (vs ++ us) p1 right

    split_closed : has_hole r ≡ false → leaves_at r b ≡ Some m2 → Splits q a m1 → (nodes_first ≡ Stuck → ⊥) → nodes_first ≡ each_of s (met (m1 ++ m2)) p pattern_last
    split_closed closed fits left ns =
        let turn : nodes_first ≡ then_do (evaluate s a p) (λ xs p1. right xs us p1) = then_do_same (evaluate s a p) _ _ (λ xs p1. closed_whole r b m2 closed fits us p1 (λ ys rest p2. go xs ys rest p2)) in
        let none : met m1 ≡ met (m1 ++ m2) = ap (λ l. met l) (sym (append-nil m1) ∙ ap (λ l. m1 ++ l) (sym (closed_none r b m2 closed fits))) in
        turn ∙ left p us right (λ h. ns (turn ∙ h)) ∙ ap (λ ts. each_of s ts p pattern_last) none

    split_at : (vs : List (List Word)) (p1 : Point) (e : Option (List Word)) → AlwaysGives q a vs e → Splits r b m2 → (inner s q a (vs ++ us) p1 (λ xs zs p2. then_do (evaluate s b p2) (λ ys p3. go xs ys zs p3)) ≡ Stuck → ⊥) → inner s q a (vs ++ us) p1 (λ xs zs p2. then_do (evaluate s b p2) (λ ys p3. go xs ys zs p3)) ≡ each_of s (met m2) p1 (λ ws p2. pattern_last (vs ++ ws) p2)
    split_at vs p1 None is below ns = absurd (ns (is us p1 (λ xs zs p2. then_do (evaluate s b p2) (λ ys p3. go xs ys zs p3))))
    split_at vs p1 (Some xs) is below ns =
        let first = is us p1 (λ xs1 zs p2. then_do (evaluate s b p2) (λ ys p3. go xs1 ys zs p3)) in
        first
        ∙ below p1 us (λ ys rest p2. go xs ys rest p2) (λ h. ns (first ∙ h))
        ∙ each_same (met m2) p1 (λ ws p2. right xs (ws ++ us) p2) (λ ws p2. pattern_last (vs ++ ws) p2)
        (λ ws p2. sym (ap (λ l. inner s q a l p2 right) (append_assoc vs ws us) ∙ is (ws ++ us) p2 right))

    split_steady : all_steady q ≡ true → leaves_at q a ≡ Some m1 → Splits q a m1 → Splits r b m2 → (nodes_first ≡ Stuck → ⊥) → nodes_first ≡ each_of s (met (m1 ++ m2)) p pattern_last
    split_steady steady fits left below ns =
        let more : List Word → List (List Word) → Point → Effect = λ xs zs p1. then_do (evaluate s b p1) (λ ys p2. go xs ys zs p2) in
        let first : nodes_first ≡ each_of s (met m1) p (λ vs p1. inner s q a (vs ++ us) p1 more) = left p us more ns in
        first
        ∙ each_unless (met m1) p (λ vs p1. inner s q a (vs ++ us) p1 more) (λ vs p1. each_of s (met m2) p1 (λ ws p2. pattern_last (vs ++ ws) p2)) (λ h. ns (first ∙ h))
        (λ vs p1 len ns1. let e = steady_settles q a m1 vs steady fits (len ∙ met_length m1) in split_at vs p1 e.0 e.1 below ns1)
        ∙ sym (each_both (met m1) (met m2) p pattern_last)
        ∙ ap (λ ts. each_of s ts p pattern_last) (sym (met_both m1 m2))

    split_two : (all_steady q || not (has_hole r)) ≡ true → leaves_at q a ≡ Some m1 → leaves_at r b ≡ Some m2 → Splits q a m1 → Splits r b m2 → (nodes_first ≡ Stuck → ⊥) → nodes_first ≡ each_of s (met (m1 ++ m2)) p pattern_last
    split_two ordered fits fits2 left below ns =
        ⊎_elim (λ steady. split_steady steady fits left below ns) (λ closed. split_closed (not-true (has_hole r) closed) fits2 left ns) (or_cases (all_steady q) (not (has_hole r)) ordered)

  split_inner : (q : MPattern) (t : Node) (ms : List Meeting) → is_ordered q ≡ true → leaves_at q t ≡ Some ms → Splits q t ms
  split_inner (PHole n) t ms ordered fits = subst (λ l. Splits (PHole n) t l) (same_Some ((n, t) ∷ []) ms fits) (λ p us go ns. refl)
  split_inner (PLeaf op) (Leaf h) ms ordered fits = subst (λ l. Splits (PLeaf op) (Leaf h) l) (same_Some [] ms (under_if (op == number_of h) (Some []) ms fits).1) (λ p us go ns. refl)
  split_inner (PLeaf op) (One h a) ms ordered fits = absurd (none-some ms fits)
  split_inner (PLeaf op) (Two h a b) ms ordered fits = absurd (none-some ms fits)
  split_inner (POne op q) (Leaf h) ms ordered fits = absurd (none-some ms fits)
  split_inner (POne op q) (One h a) ms ordered fits =
      let below = split_inner q a ms ordered (under_if (op == number_of h) (leaves_at q a) ms fits).1 in
      λ p us go ns.
      let turn = then_do_assoc (evaluate s a p) (λ xs p1. does s h xs p1) (λ ws p1. go ws us p1) in
      turn ∙ below p us (λ xs zs p1. then_do (does s h xs p1) (λ ws p2. go ws zs p2)) (λ e. ns (turn ∙ e))
  split_inner (POne op q) (Two h a b) ms ordered fits = absurd (none-some ms fits)
  split_inner (PTwo op q r) (Leaf h) ms ordered fits = absurd (none-some ms fits)
  split_inner (PTwo op q r) (One h a) ms ordered fits = absurd (none-some ms fits)
  split_inner (PTwo op q r) (Two h a b) ms ordered fits =
      let e = both_some (leaves_at q a) (leaves_at r b) ms (under_if (op == number_of h) (both (leaves_at q a) (leaves_at r b)) ms fits).1 in
      let c = and_parts (is_ordered q) (is_ordered r && (all_steady q || not (has_hole r))) ordered in
      let d = and_parts (is_ordered r) (all_steady q || not (has_hole r)) c.1 in
      let left = split_inner q a e.0 c.0 e.2 in
      let below = split_inner r b e.1 d.0 e.3 in
      subst (λ l. Splits (PTwo op q r) (Two h a b) l) e.4
      (λ p us go ns.
      let turn =
      then_do_assoc (evaluate s a p) (λ xs p1. then_do (evaluate s b p1) (λ ys p2. does s h (xs ++ ys) p2)) (λ ws p3. go ws us p3)
      ∙ then_do_same (evaluate s a p) (λ xs p1. then_do (then_do (evaluate s b p1) (λ ys p2. does s h (xs ++ ys) p2)) (λ ws p3. go ws us p3)) (λ xs p1. then_do (evaluate s b p1) (λ ys p2. then_do (does s h (xs ++ ys) p2) (λ ws p3. go ws us p3)))
      (λ xs p1. then_do_assoc (evaluate s b p1) (λ ys p2. does s h (xs ++ ys) p2) (λ ws p3. go ws us p3)) in
      turn ∙ split_two q r a b e.0 e.1 p us (λ xs ys zs p1. then_do (does s h (xs ++ ys) p1) (λ ws p2. go ws zs p2)) d.1 e.2 e.3 left below (λ h1. ns (turn ∙ h1)))

  pub splits : (q : MPattern) (t : Node) (ms : List Meeting) (p : Point) → is_ordered q ≡ true → is_chain q ≡ false → leaves_at q t ≡ Some ms → (evaluate s t p ≡ Stuck → ⊥) → evaluate s t p ≡ each_of s (met ms) p (λ vs p1. pattern_effect s q t vs p1)
  splits (PHole n) t ms p ordered plain fits ns = absurd (true≢false plain)
  splits (PLeaf op) (Leaf h) ms p ordered plain fits ns = ap (λ l. each_of s (met l) p (λ vs p1. pattern_effect s (PLeaf op) (Leaf h) vs p1)) (same_Some [] ms (under_if (op == number_of h) (Some []) ms fits).1)
  splits (PLeaf op) (One h a) ms p ordered plain fits ns = absurd (none-some ms fits)
  splits (PLeaf op) (Two h a b) ms p ordered plain fits ns = absurd (none-some ms fits)
  splits (POne op q) (Leaf h) ms p ordered plain fits ns = absurd (none-some ms fits)
  splits (POne op q) (One h a) ms p ordered plain fits ns =
      let own : List Word → List (List Word) → Point → Effect = λ xs us p1. does s h xs p1 in
      split_inner q a ms ordered (under_if (op == number_of h) (leaves_at q a) ms fits).1 p [] own ns
      ∙ each_same (met ms) p (λ vs p1. inner s q a (vs ++ []) p1 own) (λ vs p1. inner s q a vs p1 own) (λ vs p1. ap (λ l. inner s q a l p1 own) (append-nil vs))
  splits (POne op q) (Two h a b) ms p ordered plain fits ns = absurd (none-some ms fits)
  splits (PTwo op q r) (Leaf h) ms p ordered plain fits ns = absurd (none-some ms fits)
  splits (PTwo op q r) (One h a) ms p ordered plain fits ns = absurd (none-some ms fits)
  splits (PTwo op q r) (Two h a b) ms p ordered plain fits ns =
      let e = both_some (leaves_at q a) (leaves_at r b) ms (under_if (op == number_of h) (both (leaves_at q a) (leaves_at r b)) ms fits).1 in
      let c = and_parts (is_ordered q) (is_ordered r && (all_steady q || not (has_hole r))) ordered in
      let d = and_parts (is_ordered r) (all_steady q || not (has_hole r)) c.1 in
      let own : List Word → List (List Word) → Point → Effect = λ xs us p1. inner s r b us p1 (λ ys rest p2. does s h (xs ++ ys) p2) in
      split_two q r a b e.0 e.1 p [] (λ xs ys rest p1. does s h (xs ++ ys) p1) d.1 e.2 e.3 (split_inner q a e.0 c.0 e.2) (split_inner r b e.1 d.0 e.3) ns
      ∙ each_same (met (e.0 ++ e.1)) p (λ vs p1. inner s q a (vs ++ []) p1 own) (λ vs p1. inner s q a vs p1 own) (λ vs p1. ap (λ l. inner s q a l p1 own) (append-nil vs))
      ∙ ap (λ l. each_of s (met l) p (λ vs p1. inner s q a vs p1 own)) e.4
