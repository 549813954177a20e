-- Indexed derivations and derivations by rule numbers are the same.
use Rattle.std.proofs.Common.{◌≡◌, ℕ, ◌+◌, ◌-◌, Option, Some, None, List, [], ◌∷◌, ◌++◌, refl, sym, ap, ◌∙◌, arith, subst, append_assoc}
use Rattle.std.specs.Prelude.{slice_get, ◌==◌, if◌then◌else◌, Bool, true, false}
use Rattle.std.proofs.lemmas.Bool.{eqb-true, eq-eqb}
use Rattle.lburg_model.specs.declared.rule.Rule.{Rule}
use Rattle.lburg_model.specs.Tree.{MTree, TLeaf, TOne, TTwo}
use Rattle.lburg_model.specs.Pattern.{MPattern, PHole, PLeaf, POne, PTwo, pattern_of, Goal, joined, goals_at}
use Rattle.lburg_model.specs.Derivation.{MDerivation, MParts, Apply, NoPart, Part, Derives, DeriveEach, cost_of, cost, costs, count, counts, numbers, numbers_in, goals_of_rule, goals_in, applied, applied_in}
use Rattle.tree_labeller.specs.Indexed.{Derivation, Parts, Uses, AtHole, AtLeaf, AtOne, AtTwo, join, erase, erase_in}
use Rattle.tree_labeller.specs.Indexed.{cost as cost_i, costs as costs_i, count as count_i, counts as counts_i, numbers as numbers_i, numbers_in as numbers_in_i}
use Rattle.tree_labeller.specs.Indexed.{visits, visits_in}

-- the nonterminals that an indexed derivation's parts derive
abbrev goals_for : {d : List Rule} {p : MPattern} {t : MTree} → Parts d p t → List Goal
goals_for {t = t} (AtHole {n = n} e) = (n, t) ∷ []
goals_for AtLeaf = []
goals_for (AtOne x) = goals_for x
goals_for (AtTwo x y) = goals_for x ++ goals_for y

fits : {A : Type 0} (op : ℕ) (x y : A) → (if op == op then x else y) ≡ x
fits op x y = rw (eq-eqb op op refl) refl

goals_fit : {d : List Rule} {p : MPattern} {t : MTree} (x : Parts d p t) → goals_at p t ≡ Some (goals_for x)
goals_fit (AtHole e) = refl
goals_fit (AtLeaf {op = op}) = fits op (Some []) None
goals_fit (AtOne {op = op} x) = fits op _ None ∙ goals_fit x
goals_fit (AtTwo {op = op} x y) = fits op _ None ∙ rw (goals_fit x, goals_fit y) refl

each_join : (d : List Rule) (gs hs : List Goal) (xs ys : MParts) → DeriveEach d gs xs → DeriveEach d hs ys → DeriveEach d (gs ++ hs) (join xs ys)
each_join d [] hs NoPart ys a b = b
each_join d [] hs (Part x xs) ys a b = absurd a
each_join d (g ∷ gs) hs NoPart ys a b = absurd a
each_join d (g ∷ gs) hs (Part x xs) ys a b = (a.0, each_join d gs hs xs ys a.1 b)

mutual
  pub derives : {d : List Rule} {n : ℕ} {t : MTree} (e : Derivation d n t) → Derives d n t (erase e)
  derives (Uses i r is left parts) = (i, r, goals_for parts, refl, is.0, left, is.1, goals_fit parts, derive_each parts)

  derive_each : {d : List Rule} {p : MPattern} {t : MTree} (x : Parts d p t) → DeriveEach d (goals_for x) (erase_in x)
  derive_each (AtHole e) = (derives e, tt)
  derive_each AtLeaf = tt
  derive_each (AtOne x) = derive_each x
  derive_each {d} (AtTwo x y) = each_join d (goals_for x) (goals_for y) (erase_in x) (erase_in y) (derive_each x) (derive_each y)

costs_join : (d : List Rule) (xs ys : MParts) → costs d (join xs ys) ≡ costs d xs + costs d ys
costs_join d NoPart ys = omega arith
costs_join d (Part x xs) ys = omega (arith, costs_join d xs ys)

counts_join : (xs ys : MParts) → counts (join xs ys) ≡ counts xs + counts ys
counts_join NoPart ys = omega arith
counts_join (Part x xs) ys = omega (arith, counts_join xs ys)

numbers_join : (xs ys : MParts) → numbers_in (join xs ys) ≡ numbers_in xs ++ numbers_in ys
numbers_join NoPart ys = refl
numbers_join (Part x xs) ys = ap (λ z. numbers x ++ z) (numbers_join xs ys) ∙ sym (append_assoc (numbers x) (numbers_in xs) (numbers_in ys))

place : (i : ℕ) → i + 1 - 1 ≡ i
place i = omega arith

rule_cost : (d : List Rule) (i : ℕ) (r : Rule) → slice_get d i ≡ Some r → cost_of (slice_get d (i + 1 - 1)) ≡ r.cost
rule_cost d i r is = ap (λ j. cost_of (slice_get d j)) (place i) ∙ ap cost_of is

mutual
  pub cost_kept : {d : List Rule} {n : ℕ} {t : MTree} (e : Derivation d n t) → cost d (erase e) ≡ cost_i e
  cost_kept {d} (Uses i r is left parts) = let a = costs_kept parts in let b = rule_cost d i r is.0 in omega arith

  costs_kept : {d : List Rule} {p : MPattern} {t : MTree} (x : Parts d p t) → costs d (erase_in x) ≡ costs_i x
  costs_kept (AtHole e) = let a = cost_kept e in omega arith
  costs_kept AtLeaf = refl
  costs_kept (AtOne x) = costs_kept x
  costs_kept {d} (AtTwo x y) = let a = costs_kept x in let b = costs_kept y in let c = costs_join d (erase_in x) (erase_in y) in omega arith

mutual
  pub count_kept : {d : List Rule} {n : ℕ} {t : MTree} (e : Derivation d n t) → count (erase e) ≡ count_i e
  count_kept (Uses i r is left parts) = let a = counts_kept parts in omega arith

  counts_kept : {d : List Rule} {p : MPattern} {t : MTree} (x : Parts d p t) → counts (erase_in x) ≡ counts_i x
  counts_kept (AtHole e) = let a = count_kept e in omega arith
  counts_kept AtLeaf = refl
  counts_kept (AtOne x) = counts_kept x
  counts_kept (AtTwo x y) = let a = counts_kept x in let b = counts_kept y in let c = counts_join (erase_in x) (erase_in y) in omega arith

append_none : (xs : List ℕ) → xs ++ [] ≡ xs
append_none [] = refl
append_none (x ∷ xs) = ap (λ z. x ∷ z) (append_none xs)

mutual
  pub numbers_kept : {d : List Rule} {n : ℕ} {t : MTree} (e : Derivation d n t) → numbers (erase e) ≡ numbers_i e
  numbers_kept (Uses i r is left parts) = ap (λ z. (i + 1) ∷ z) (numbers_in_kept parts)

  numbers_in_kept : {d : List Rule} {p : MPattern} {t : MTree} (x : Parts d p t) → numbers_in (erase_in x) ≡ numbers_in_i x
  numbers_in_kept (AtHole e) = append_none (numbers (erase e)) ∙ numbers_kept e
  numbers_in_kept AtLeaf = refl
  numbers_in_kept (AtOne x) = numbers_in_kept x
  numbers_in_kept (AtTwo x y) = numbers_join (erase_in x) (erase_in y) ∙ ap (λ z. z ++ numbers_in (erase_in y)) (numbers_in_kept x) ∙ ap (λ z. numbers_in_i x ++ z) (numbers_in_kept y)

applied_join : (d : List Rule) (gs hs : List Goal) (xs ys : MParts) → DeriveEach d gs xs → applied_in d (gs ++ hs) (join xs ys) ≡ applied_in d gs xs ++ applied_in d hs ys
applied_join d [] hs NoPart ys a = refl
applied_join d [] hs (Part x xs) ys a = absurd a
applied_join d (g ∷ gs) hs NoPart ys a = absurd a
applied_join d (g ∷ gs) hs (Part x xs) ys a = ap (λ z. applied d g.1 x ++ z) (applied_join d gs hs xs ys a.1) ∙ sym (append_assoc (applied d g.1 x) (applied_in d gs xs) (applied_in d hs ys))

append_nothing : {A : Type 0} (xs : List A) → xs ++ [] ≡ xs
append_nothing [] = refl
append_nothing (x ∷ xs) = ap (λ z. x ∷ z) (append_nothing xs)

goals_there : (d : List Rule) (i : ℕ) (r : Rule) (t : MTree) (goals : List Goal) → slice_get d i ≡ Some r → goals_at (pattern_of r.pattern) t ≡ Some goals → goals_in (goals_of_rule (slice_get d (i + 1 - 1)) t) ≡ goals
goals_there d i r t goals is fit = ap (λ j. goals_in (goals_of_rule (slice_get d j) t)) (place i) ∙ ap (λ o. goals_in (goals_of_rule o t)) is ∙ ap goals_in fit

mutual
  pub applied_kept : {d : List Rule} {n : ℕ} {t : MTree} (e : Derivation d n t) → applied d t (erase e) ≡ visits e
  applied_kept {d} {n} {t} (Uses i r is left parts) =
      ap (λ gs. (i + 1, t) ∷ applied_in d gs (erase_in parts)) (goals_there d i r t (goals_for parts) is.0 (goals_fit parts))
      ∙ ap (λ z. (i + 1, t) ∷ z) (applied_in_kept parts)

  applied_in_kept : {d : List Rule} {p : MPattern} {t : MTree} (x : Parts d p t) → applied_in d (goals_for x) (erase_in x) ≡ visits_in x
  applied_in_kept {d} {p} {t} (AtHole e) = append_nothing (applied d t (erase e)) ∙ applied_kept e
  applied_in_kept AtLeaf = refl
  applied_in_kept (AtOne x) = applied_in_kept x
  applied_in_kept {d} (AtTwo x y) =
      applied_join d (goals_for x) (goals_for y) (erase_in x) (erase_in y) (derive_each x)
      ∙ ap (λ z. z ++ applied_in d (goals_for y) (erase_in y)) (applied_in_kept x)
      ∙ ap (λ z. visits_in x ++ z) (applied_in_kept y)

-- an indexed derivation for each nonterminal
abbrev Indexed : List Rule → List Goal → MParts → Type 0
Indexed d [] NoPart = Unit {0}
Indexed d [] (Part x xs) = ⊥
Indexed d (g ∷ gs) NoPart = ⊥
Indexed d (g ∷ gs) (Part x xs) = ((e : Derivation d g.0 g.1) × (erase e ≡ x)) × Indexed d gs xs

split : (d : List Rule) (gs hs : List Goal) (zs : MParts) → Indexed d (gs ++ hs) zs → (xs : MParts) × (ys : MParts) × (zs ≡ join xs ys) × Indexed d gs xs × Indexed d hs ys
split d [] hs zs a = (NoPart, zs, refl, tt, a)
split d (g ∷ gs) hs NoPart a = absurd a
split d (g ∷ gs) hs (Part z zs) a =
    let (xs, ys, e, b, c) = split d gs hs zs a.1 in
    (Part z xs, ys, ap (λ w. Part z w) e, (a.0, b), c)

fitted_by : {A : Type 0} (b : Bool) (x : Option A) (k : A) → (if b then x else None) ≡ Some k → (b ≡ true) × (x ≡ Some k)
fitted_by true x k e = (refl, e)
fitted_by false x k e = cc

both : (x y : Option (List Goal)) (gs : List Goal) → joined x y ≡ Some gs → (a : List Goal) × (b : List Goal) × (x ≡ Some a) × (y ≡ Some b) × (a ++ b ≡ gs)
both None y gs e = cc
both (Some a) None gs e = cc
both (Some a) (Some b) gs e = (a, b, refl, refl, (let f : a ++ b ≡ gs = cc in f))

abbrev Fitted : (d : List Rule) (p : MPattern) (t : MTree) (parts : MParts) → Type 0
Fitted d p t parts = (x : Parts d p t) × (erase_in x ≡ parts)

fitted : (d : List Rule) (p : MPattern) (t : MTree) (gs : List Goal) (parts : MParts) → goals_at p t ≡ Some gs → Indexed d gs parts → Fitted d p t parts
fitted d (PHole n) t gs parts e a = at_hole parts (let f : (n, t) ∷ [] ≡ gs = cc in (let F : List Goal → Type 0 = λ z. Indexed d z parts in subst F (sym f) a))
  where
    at_hole : (parts : MParts) → Indexed d ((n, t) ∷ []) parts → Fitted d (PHole n) t parts
    at_hole NoPart a = absurd a
    at_hole (Part x NoPart) ((e, same), rest) = (AtHole e, ap (λ z. Part z NoPart) same)
    at_hole (Part x (Part y ys)) a = absurd a.1
fitted d (PLeaf op) (TLeaf op' v) gs parts e a =
    let f = fitted_by (op == op') (Some []) gs e in
    let g : [] ≡ gs = (let h = f.1 in cc) in
    let F : List Goal → Type 0 = λ z. Indexed d z parts in
    let P : ℕ → Type 0 = λ o. Fitted d (PLeaf op) (TLeaf o v) parts in
    subst P (eqb-true op op' f.0) (at_leaf parts (subst F (sym g) a))
  where
    at_leaf : (parts : MParts) → Indexed d [] parts → Fitted d (PLeaf op) (TLeaf op v) parts
    at_leaf NoPart a = (AtLeaf, refl)
    at_leaf (Part x xs) a = absurd a
fitted d (PLeaf op) (TOne op' v t) gs parts e a = cc
fitted d (PLeaf op) (TTwo op' v t u) gs parts e a = cc
fitted d (POne op p) (TLeaf op' v) gs parts e a = cc
fitted d (POne op p) (TOne op' v t) gs parts e a =
    let f = fitted_by (op == op') (goals_at p t) gs e in
    let x = fitted d p t gs parts f.1 a in
    let P : ℕ → Type 0 = λ o. Fitted d (POne op p) (TOne o v t) parts in
    subst P (eqb-true op op' f.0) (AtOne x.0, x.1)
fitted d (POne op p) (TTwo op' v t u) gs parts e a = cc
fitted d (PTwo op p q) (TLeaf op' v) gs parts e a = cc
fitted d (PTwo op p q) (TOne op' v t) gs parts e a = cc
fitted d (PTwo op p q) (TTwo op' v t u) gs parts e a =
    let f = fitted_by (op == op') (joined (goals_at p t) (goals_at q u)) gs e in
    let (fs, hs, ea, eb, same) = both (goals_at p t) (goals_at q u) gs f.1 in
    let F : List Goal → Type 0 = λ z. Indexed d z parts in
    let (xs, ys, cut, ia, ib) = split d fs hs parts (subst F (sym same) a) in
    let x = fitted d p t fs xs ea ia in
    let y = fitted d q u hs ys eb ib in
    let P : ℕ → Type 0 = λ o. Fitted d (PTwo op p q) (TTwo o v t u) parts in
    let whole : join (erase_in x.0) (erase_in y.0) ≡ parts = ap (λ z. join z (erase_in y.0)) x.1 ∙ ap (λ z. join xs z) y.1 ∙ sym cut in
    subst P (eqb-true op op' f.0) (AtTwo x.0 y.0, whole)

-- each derivation is one of an indexed one
mutual
  pub indexed : (d : List Rule) (x : MDerivation) (n : ℕ) (t : MTree) → Derives d n t x → (e : Derivation d n t) × (erase e ≡ x)
  indexed d (Apply number parts) n t (i, r, goals, num, is, left, met, fit, each) =
      let a = indexed_each d parts goals each in
      let (y, same) = fitted d (pattern_of r.pattern) t goals parts fit a in
      (Uses i r (is, met) left y, ap (λ z. Apply (i + 1) z) same ∙ ap (λ z. Apply z parts) (sym num))

  indexed_each : (d : List Rule) (parts : MParts) (goals : List Goal) → DeriveEach d goals parts → Indexed d goals parts
  indexed_each d NoPart [] a = tt
  indexed_each d NoPart (g ∷ gs) a = absurd a
  indexed_each d (Part x xs) [] a = absurd a
  indexed_each d (Part x xs) (g ∷ gs) a = (indexed d x g.0 g.1 a.0, indexed_each d xs gs a.1)
