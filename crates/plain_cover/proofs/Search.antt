-- What each step of the search finds.
use Rattle.std.proofs.Common.{◌≡◌, ℕ, ◌+◌, ◌-◌, ◌<◌, ◌≤◌, Option, Some, None, List, [], ◌∷◌, ◌++◌, length, refl, sym, ap, ◌∙◌, arith, subst, inl, inr, ◌⊎◌, ⊎_elim}
use Rattle.std.specs.Prelude.{eqb, slice_get, if◌then◌else◌, Result, Ok, Err, IfOk}
use Rattle.std.proofs.lemmas.Bool.{eq-eqb, cases_lt}
use Rattle.std.proofs.lemmas.Option.{slice_get_within}
use Rattle.lburg_model.specs.declared.rule.Rule.{Rule}
use Rattle.lburg_model.specs.Tree.{MTree, TLeaf, TOne, TTwo, op_of, kids_of, value_of}
use Rattle.lburg_model.specs.Range.{IsMet}
use Rattle.lburg_model.specs.Pattern.{MPattern, PHole, PLeaf, POne, PTwo, Goal, joined, goals_at, pattern_of}
use Rattle.lburg_model.specs.Derivation.{MDerivation, MParts, Apply, NoPart, Part, Derives, DeriveEach, cost_of, costs, counts, numbers_in}
use Rattle.plain_cover.specs.declared.plain.Found.{Found}
use Rattle.plain_cover.specs.Height.{height, tallest}
use Rattle.plain_cover.specs.Told.{told, told_of_parts, told_of_none, told_of_both, told_of_rule}
use Rattle.plain_cover.specs.Less.{Upto, IsLesser}
use Rattle.plain_cover.specs.IsLeastOf.{IsLeastOf}
use Rattle.plain_cover.specs.Within.{Within, WithinFirst, WithinBy, number_of, PartsWithin}
use Rattle.plain_cover.proofs.Room.{joins}
use Rattle.plain_cover.proofs.Order.{both_upto, rule_upto}
use Rattle.plain_cover.proofs.InOrder.{told_in_order}
use Rattle.plain_cover.proofs.Parts.{splits, parts_joined, alone_told}
use Rattle.plain_cover.proofs.Sets.{same_set, lesser_least}

-- the node is this operator with so many operands
abbrev pub IsNode : MTree → ℕ → ℕ → Type 0
IsNode t op n = (op_of t ≡ op) × (length (kids_of t) ≡ n)

same_op : (op op' : ℕ) (x : Option (List Goal)) → op' ≡ op → (if eqb op op' then x else None) ≡ x
same_op op op' x h = rw (eq-eqb op op' (sym h)) refl

leaf_goals : (op : ℕ) (t : MTree) → IsNode t op 0 → goals_at (PLeaf op) t ≡ Some []
leaf_goals op (TLeaf op' v) h = same_op op op' (Some []) h.0
leaf_goals op (TOne op' v a) h = absurd (let e = h.1 in omega arith)
leaf_goals op (TTwo op' v a b) h = absurd (let e = h.1 in omega arith)

one_goals : (op : ℕ) (p : MPattern) (t a : MTree) → IsNode t op 1 → slice_get (kids_of t) 0 ≡ Some a → goals_at (POne op p) t ≡ goals_at p a
one_goals op p (TLeaf op' v) a h e = absurd (let l = h.1 in omega arith)
one_goals op p (TOne op' v b) a h e = let f : b ≡ a = cc in same_op op op' (goals_at p b) h.0 ∙ ap (goals_at p) f
one_goals op p (TTwo op' v b c) a h e = absurd (let l = h.1 in omega arith)

two_goals : (op : ℕ) (p r : MPattern) (t a b : MTree) → IsNode t op 2 → slice_get (kids_of t) 0 ≡ Some a → slice_get (kids_of t) 1 ≡ Some b → goals_at (PTwo op p r) t ≡ joined (goals_at p a) (goals_at r b)
two_goals op p r (TLeaf op' v) a b h e f = absurd (let l = h.1 in omega arith)
two_goals op p r (TOne op' v c) a b h e f = absurd (let l = h.1 in omega arith)
two_goals op p r (TTwo op' v c d) a b h e f =
    let g : c ≡ a = cc in
    let k : d ≡ b = cc in
    same_op op op' (joined (goals_at p c) (goals_at r d)) h.0 ∙ ap (λ (z : MTree). joined (goals_at p z) (goals_at r d)) g ∙ ap (λ (z : MTree). joined (goals_at p a) (goals_at r z)) k

module _ (rules : List Rule) where
  abbrev LeastParts : MPattern → MTree → ℕ → Option Found → Type 0
  LeastParts p t h o = IsLeastOf (told_of_parts rules) (PartsWithin rules p t h) o

  none_needed : (xs : MParts) → DeriveEach rules [] xs → xs ≡ NoPart
  none_needed NoPart d = refl
  none_needed (Part x xs) d = absurd d

  pub leaf : (op : ℕ) (t : MTree) (h : ℕ) → IsNode t op 0 → LeastParts (PLeaf op) t h (Some told_of_none)
  leaf op t h n =
      let e = leaf_goals op t n in (
        NoPart,
        record { goals = []; fits = e; each = tt; low = omega arith },
        refl,
        λ ys w.
            let f : w.goals ≡ [] = (let g : Some w.goals ≡ Some [] = sym w.fits ∙ e in cc) in
            let k = none_needed ys (subst (λ (z : List Goal). DeriveEach rules z ys) f w.each) in
            inl (ap (told_of_parts rules) (sym k)),
      )

  part_alone : (g : Goal) (xs : MParts) → DeriveEach rules (g ∷ []) xs → (x : MDerivation) × (xs ≡ Part x NoPart) × Derives rules g.0 g.1 x
  part_alone g NoPart d = absurd d
  part_alone g (Part x NoPart) d = (x, refl, d.0)
  part_alone g (Part x (Part y ys)) d = absurd d.1

  hole_part : (n : ℕ) (t : MTree) (h : ℕ) (xs : MParts) → PartsWithin rules (PHole n) t h xs → (x : MDerivation) × (xs ≡ Part x NoPart) × Within rules n t h x
  hole_part n t h xs w =
      let f : w.goals ≡ ((n, t) ∷ []) = (let g : Some w.goals ≡ Some ((n, t) ∷ []) = sym w.fits in cc) in
      let a = part_alone (n, t) xs (subst (λ (z : List Goal). DeriveEach rules z xs) f w.each) in
      let l = w.low in
      let k = ap tallest a.1 in
      (a.0, a.1, (a.2, omega arith))

  pub hole : (n : ℕ) (t : MTree) (h : ℕ) (o : Option Found) → IsLeastOf (told rules) (Within rules n t h) o → LeastParts (PHole n) t h o
  hole n t h None a = λ xs w. let p = hole_part n t h xs w in a p.0 p.2
  hole n t h (Some f) (x, w, e, others) =
      let l = w.1 in (
        Part x NoPart,
        record { goals = (n, t) ∷ []; fits = refl; each = (w.0, tt); low = omega arith },
        e ∙ sym (alone_told rules x),
        λ ys v.
            let p = hole_part n t h ys v in
            subst (Upto f) (sym (ap (told_of_parts rules) p.1 ∙ alone_told rules p.0)) (others p.0 p.2),
      )

  same_parts : (p p' : MPattern) (t t' : MTree) (h : ℕ) → goals_at p t ≡ goals_at p' t' → (xs : MParts) → PartsWithin rules p t h xs → PartsWithin rules p' t' h xs
  same_parts p p' t t' h e xs w = record { goals = w.goals; fits = sym e ∙ w.fits; each = w.each; low = w.low }

  pub one : (op : ℕ) (p : MPattern) (t a : MTree) (h : ℕ) (o : Option Found) → IsNode t op 1 → slice_get (kids_of t) 0 ≡ Some a → LeastParts p a h o → LeastParts (POne op p) t h o
  one op p t a h o n e f =
      let g = one_goals op p t a n e in
      same_set (told_of_parts rules) (PartsWithin rules p a h) (PartsWithin rules (POne op p) t h) (same_parts p (POne op p) a t h (sym g)) (same_parts (POne op p) p t a h g) o f

  -- the parts of a pattern with two operands
  record Halves (p r : MPattern) (a b : MTree) (h : ℕ) (xs : MParts) : Type 0 where
    front : MParts
    back : MParts
    in_front : PartsWithin rules p a h front
    in_back : PartsWithin rules r b h back
    tells : told_of_parts rules xs ≡ told_of_both (told_of_parts rules front) (told_of_parts rules back)

  halves : (op : ℕ) (p r : MPattern) (t a b : MTree) (h : ℕ) (xs : MParts) → goals_at (PTwo op p r) t ≡ joined (goals_at p a) (goals_at r b) → PartsWithin rules (PTwo op p r) t h xs → Halves p r a b h xs
  halves op p r t a b h xs g w =
      let j = joins (goals_at p a) (goals_at r b) w.goals (sym g ∙ w.fits) in
      let s = splits rules j.front j.back xs (subst (λ (z : List Goal). DeriveEach rules z xs) (sym j.whole) w.each) in
      let l = w.low in
      record {
        front = s.front;
        back = s.back;
        in_front = record { goals = j.front; fits = j.is_front; each = s.each_front; low = omega (arith, s.low_front) };
        in_back = record { goals = j.back; fits = j.is_back; each = s.each_back; low = omega (arith, s.low_back) };
        tells = s.tells;
      }

  pub two_no_first : (op : ℕ) (p r : MPattern) (t a : MTree) (h : ℕ) → IsNode t op 2 → slice_get (kids_of t) 0 ≡ Some a → LeastParts p a h None → LeastParts (PTwo op p r) t h None
  two_no_first op p r (TLeaf op' v) a h n e x = λ xs w. let f = w.fits in cc
  two_no_first op p r (TOne op' v b) a h n e x = λ xs w. let f = w.fits in cc
  two_no_first op p r (TTwo op' v b d) a h n e x = λ xs w. let y = halves op p r (TTwo op' v b d) a d h xs (two_goals op p r (TTwo op' v b d) a d n e refl) w in x y.front y.in_front

  pub two_no_second : (op : ℕ) (p r : MPattern) (t a b : MTree) (h : ℕ) → IsNode t op 2 → slice_get (kids_of t) 0 ≡ Some a → slice_get (kids_of t) 1 ≡ Some b → LeastParts r b h None → LeastParts (PTwo op p r) t h None
  two_no_second op p r t a b h n e f x = λ xs w. let y = halves op p r t a b h xs (two_goals op p r t a b n e f) w in x y.back y.in_back

  pub two_both : (op : ℕ) (p r : MPattern) (t a b : MTree) (h : ℕ) (f g : Found) → IsNode t op 2 → slice_get (kids_of t) 0 ≡ Some a → slice_get (kids_of t) 1 ≡ Some b → LeastParts p a h (Some f) → LeastParts r b h (Some g) → LeastParts (PTwo op p r) t h (Some (told_of_both f g))
  two_both op p r t a b h f g n e k (ys, u, c, others) (zs, v, d, rest) =
      let goals = two_goals op p r t a b n e k in
      let j = parts_joined rules u.goals v.goals ys zs u.each v.each in
      let fits : joined (goals_at p a) (goals_at r b) ≡ Some (u.goals ++ v.goals) = rw (u.fits, v.fits) refl in
      let l = u.low in
      let m = v.low in (
        j.whole,
        record { goals = u.goals ++ v.goals; fits = goals ∙ fits; each = j.each; low = omega (arith, j.low) },
        ap (λ (z : Found). told_of_both z g) c ∙ ap (told_of_both (told_of_parts rules ys)) d ∙ sym j.tells,
        λ xs w.
            let y = halves op p r t a b h xs goals w in
            subst (Upto (told_of_both f g)) (sym y.tells) (both_upto f (told_of_parts rules y.front) g (told_of_parts rules y.back) (others y.front y.in_front) (rest y.back y.in_back)),
      )

  -- the parts of a derivation by the rule of a place
  record Applies (i : ℕ) (r : Rule) (n : ℕ) (t : MTree) (h : ℕ) (x : MDerivation) : Type 0 where
    parts : MParts
    is : x ≡ Apply (i + 1) parts
    left : r.left ≡ n
    met : IsMet r.range (value_of t)
    within : PartsWithin rules (pattern_of r.pattern) t h parts

  applies : (i : ℕ) (r : Rule) (n : ℕ) (t : MTree) (h : ℕ) (x : MDerivation) → slice_get rules i ≡ Some r → WithinBy rules n t (h + 1) (i + 1) x → Applies i r n t h x
  applies i r n t h (Apply a xs) at ((d, l), e) =
      let (j, s, goals, number, is, left, met, fits, each) = d in
      let ij : j ≡ i = omega arith in
      let f : Some s ≡ Some r = sym is ∙ ap (slice_get rules) ij ∙ at in
      let rs : s ≡ r = cc in
      record {
        parts = xs;
        is = ap (λ (z : ℕ). Apply z xs) e;
        left = ap (λ (z : Rule). z.left) (sym rs) ∙ left;
        met = subst (λ (z : Rule). IsMet z.range (value_of t)) rs met;
        within = record { goals = goals; fits = ap (λ (z : Rule). goals_at (pattern_of z.pattern) t) (sym rs) ∙ fits; each = each; low = omega arith };
      }

  rule_told : (i : ℕ) (r : Rule) (xs : MParts) → slice_get rules i ≡ Some r → told rules (Apply (i + 1) xs) ≡ told_of_rule (i + 1) r.cost (told_of_parts rules xs)
  rule_told i r xs at =
      let e : i + 1 - 1 ≡ i = omega arith in
      let f : cost_of (slice_get rules (i + 1 - 1)) ≡ r.cost = ap (λ (k : ℕ). cost_of (slice_get rules k)) e ∙ ap cost_of at in
      ap (λ (k : ℕ). let z : Found = record { cost = k + costs rules xs; count = 1 + counts xs; numbers = (i + 1) ∷ numbers_in xs } in z) f

  pub by_other : (i : ℕ) (r : Rule) (n : ℕ) (t : MTree) (h : ℕ) → slice_get rules i ≡ Some r → ((r.left ≡ n) × IsMet r.range (value_of t) → ⊥) → IsLeastOf (told rules) (WithinBy rules n t (h + 1) (i + 1)) None
  by_other i r n t h at other = λ x w. let a = applies i r n t h x at w in other (a.left, a.met)

  pub by_none : (i : ℕ) (r : Rule) (n : ℕ) (t : MTree) (h : ℕ) → slice_get rules i ≡ Some r → LeastParts (pattern_of r.pattern) t h None → IsLeastOf (told rules) (WithinBy rules n t (h + 1) (i + 1)) None
  by_none i r n t h at none = λ x w. let a = applies i r n t h x at w in none a.parts a.within

  pub by_some : (i : ℕ) (r : Rule) (n : ℕ) (t : MTree) (h : ℕ) (f : Found) → slice_get rules i ≡ Some r → r.left ≡ n → IsMet r.range (value_of t) → LeastParts (pattern_of r.pattern) t h (Some f) → IsLeastOf (told rules) (WithinBy rules n t (h + 1) (i + 1)) (Some (told_of_rule (i + 1) r.cost f))
  by_some i r n t h f at left met (xs, w, e, others) =
      let l = w.low in (
        Apply (i + 1) xs,
        (((i, r, w.goals, refl, at, left, met, w.fits, w.each), omega arith), refl),
        ap (told_of_rule (i + 1) r.cost) e ∙ sym (rule_told i r xs at),
        λ y v.
            let a = applies i r n t h y at v in
            let k = ap (told rules) a.is ∙ rule_told i r a.parts at in
            subst (Upto (told_of_rule (i + 1) r.cost f)) (sym k) (rule_upto (i + 1) r.cost f (told_of_parts rules a.parts) (others a.parts a.within)),
      )

  high : (x : MDerivation) → 1 ≤ height x
  high (Apply a xs) = omega arith

  pub within_none : (n : ℕ) (t : MTree) → IsLeastOf (told rules) (Within rules n t 0) None
  within_none n t = λ x w. let h = high x in let l = w.1 in absurd (omega arith)

  number_low : (n : ℕ) (t : MTree) (x : MDerivation) → Derives rules n t x → (1 ≤ number_of x) × (number_of x ≤ length rules)
  number_low n t (Apply a xs) (i, r, goals, number, is, left, met, fits, each) = let h = slice_get_within rules i r is in (omega arith, omega arith)

  pub first_none : (n : ℕ) (t : MTree) (h : ℕ) → IsLeastOf (told rules) (WithinFirst rules n t h 0) None
  first_none n t h = λ x w. let l = w.1 in let m = number_low n t x w.0.0 in absurd (omega arith)

  pub first_more : (n : ℕ) (t : MTree) (h i : ℕ) (a b o : Option Found) → IsLeastOf (told rules) (WithinFirst rules n t h i) a → IsLeastOf (told rules) (WithinBy rules n t h (i + 1)) b → IsLesser a b o → IsLeastOf (told rules) (WithinFirst rules n t h (i + 1)) o
  first_more n t h i a b o u v w =
      let P : MDerivation → Type 0 = WithinFirst rules n t h i in
      let Q : MDerivation → Type 0 = WithinBy rules n t h (i + 1) in
      same_set (told rules) (λ x. P x ⊎ Q x) (WithinFirst rules n t h (i + 1))
      (λ x d. ⊎_elim (λ (p : P x). (p.0, (let l = p.1 in omega arith))) (λ (q : Q x). (q.0, (let l = q.1 in omega arith))) d)
      (λ x d. ⊎_elim (λ (lt : number_of x < i + 1). inl (d.0, omega arith)) (λ (ge : i + 1 ≤ number_of x). inr (d.0, (let l = d.1 in omega arith))) (cases_lt (number_of x) (i + 1)))
      o
      (lesser_least (told rules) P Q (λ x y p q. told_in_order rules n t x y p.0.0 q.0.0) a b o u v w)

  pub first_all : (n : ℕ) (t : MTree) (h : ℕ) (o : Option Found) → IsLeastOf (told rules) (WithinFirst rules n t h (length rules)) o → IsLeastOf (told rules) (Within rules n t h) o
  first_all n t h o a = same_set (told rules) (WithinFirst rules n t h (length rules)) (Within rules n t h) (λ x w. w.0) (λ x w. (w, (number_low n t x w.0).1)) o a

  -- the same pattern, told otherwise
  pub by_shape : (p q : MPattern) (t : MTree) (h : ℕ) (o : Option Found) → q ≡ p → LeastParts p t h o → LeastParts q t h o
  by_shape p q t h o e f = subst (λ (z : MPattern). LeastParts z t h o) (sym e) f

-- what holds of an answer, taken further
pub answered : {T E : Type 0} (P Q : T → Type 0) → ((x : T) → P x → Q x) → (r : Result T E) → IfOk r P → IfOk r Q
answered {T} {E} P Q f (Ok x) h = f x h
answered {T} {E} P Q f (Err e) h = tt
