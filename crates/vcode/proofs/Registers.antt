-- The registers of derivations: each is taken once, in order, at a node that gives a value.
use Rattle.std.proofs.Common.{◌≡◌, ℕ, ◌+◌, ◌≤◌, ◌<◌, ◌==◌, List, [], ◌∷◌, ◌++◌, Bool, true, false, refl, subst, arith, inl, inr, ◌⊎◌, ⊎_elim}
use Rattle.std.proofs.lemmas.List.{append-nil}
use Rattle.std.proofs.lemmas.Bool.{or_cases, or_left, or_right, eq-eqb, eqb-true, false≢true}
use Rattle.lburg_model.specs.Derivation.{MDerivation}
use Rattle.op_forest.specs.Nodes.{Node, head_of, gives, one_where, value_nodes}
use Rattle.vcode.specs.Machines.{Machine}
use Rattle.vcode.specs.VirtualCode.{among}
use Rattle.vcode.specs.Patterns.{Meeting}
use Rattle.forests.specs.Words.{Word}
use Rattle.vcode.specs.RuleSets.{Row, Rules, SameAt, Applies, Obeys, InRange, one_register, all_registers}
use Rattle.vcode.specs.Emission.{Emitted, EmittedAll, with_chain, with_rule, and_one, Emits, EmitsAll, ByChain, ByRule, Nothing, OneMore}
use Rattle.vcode.specs.Leaves.{met_by}
use Rattle.vcode.proofs.lemmas.Leaves.{met_by_append, fewer_values}

pub among_append : (r : ℕ) (xs ys : List ℕ) → among r (xs ++ ys) ≡ true → (among r xs ≡ true) ⊎ (among r ys ≡ true)
among_append r [] ys h = inr h
among_append r (x ∷ xs) ys h =
    ⊎_elim (λ e. inl (or_left (r == x) (among r xs) e))
    (λ e. ⊎_elim (λ i. inl (or_right (r == x) (among r xs) i)) (λ i. inr i) (among_append r xs ys e))
    (or_cases (r == x) (among r (xs ++ ys)) h)

pub among_left : (r : ℕ) (xs ys : List ℕ) → among r xs ≡ true → among r (xs ++ ys) ≡ true
among_left r [] ys h = absurd (false≢true h)
among_left r (x ∷ xs) ys h =
    ⊎_elim (λ e. or_left (r == x) (among r (xs ++ ys)) e) (λ e. or_right (r == x) (among r (xs ++ ys)) (among_left r xs ys e)) (or_cases (r == x) (among r xs) h)

pub among_right : (r : ℕ) (xs ys : List ℕ) → among r ys ≡ true → among r (xs ++ ys) ≡ true
among_right r [] ys h = h
among_right r (x ∷ xs) ys h = or_right (r == x) (among r (xs ++ ys)) (among_right r xs ys h)

-- registers that agree wherever the list names them
pub same_at : (qs : List ℕ) (f g : ℕ → Word) → ((r : ℕ) → among r qs ≡ true → f r ≡ g r) → SameAt qs f g
same_at [] f g h = tt
same_at (q ∷ qs) f g h = (h q (or_left (q == q) (among q qs) (eq-eqb q q refl)), same_at qs f g (λ r e. h r (or_right (r == q) (among r qs) e)))

-- the registers that are among these are in a range
abbrev pub Between : ℕ → ℕ → List ℕ → Type 0
Between low high qs = (r : ℕ) → among r qs ≡ true → (low ≤ r) × (r < high)

pub in_range : (low high : ℕ) (qs : List ℕ) → 64 ≤ low → Between low high qs → InRange high qs
in_range low high [] le h = tt
in_range low high (q ∷ qs) le h =
    let b = h q (or_left (q == q) (among q qs) (eq-eqb q q refl)) in
    let u : 64 ≤ q = omega (arith, le, b) in
    (u, b.1, in_range low high qs le (λ r m. h r (or_right (r == q) (among r qs) m)))

-- a node's own register, which it takes
pub own_is : (takes : Bool) (r to : ℕ) → among r (one_register takes to) ≡ true → (one_where takes ≡ 1) × (r ≡ to)
own_is true r to h = (refl, ⊎_elim (λ e. eqb-true r to e) (λ e. absurd (false≢true e)) (or_cases (r == to) false h))
own_is false r to h = absurd (false≢true h)

module _ {I P : Type 0} (m : Machine I) (rules : Rules I P) (obeys : Obeys m rules) where
  pub registers_one : (r : ℕ) (p : P) → among r (all_registers rules (p ∷ [])) ≡ true → among r (rules.registers p) ≡ true
  registers_one r p h = subst (λ l. among r l ≡ true) (append-nil (rules.registers p)) h

  pub registers_more : (r : ℕ) (ps : List P) (p : P) → among r (all_registers rules (ps ++ p ∷ [])) ≡ true → (among r (all_registers rules ps) ≡ true) ⊎ (among r (rules.registers p) ≡ true)
  registers_more r [] p h = inr (registers_one r p h)
  registers_more r (q ∷ ps) p h =
      ⊎_elim (λ e. inl (among_left r (rules.registers q) (all_registers rules ps) e))
      (λ e. ⊎_elim (λ i. inl (among_right r (rules.registers q) (all_registers rules ps) i)) (λ i. inr i) (registers_more r ps p e))
      (among_append r (rules.registers q) (all_registers rules (ps ++ p ∷ [])) h)

  -- where registers are free from n on, these are taken
  pub record Takes (n : ℕ) (t : Node) (e : Emitted I P) : Type 0 where
    pub low : n ≤ e.to
    pub next : e.next ≡ e.to + one_where (gives (head_of t))
    pub few : e.next ≤ n + value_nodes t
    pub registers : Between n e.next (rules.registers e.part)

  pub record TakesAll (n : ℕ) (ms : List Meeting) (es : EmittedAll I P) : Type 0 where
    pub low : n ≤ es.next
    pub few : es.next ≤ n + met_by value_nodes ms
    pub registers : Between n es.next (all_registers rules es.parts)

  new_between : (number : ℕ) (row : Row) (t : Node) (ps : List P) (to low high : ℕ) → Applies rules number row t ps to → low ≤ to → to + one_where (gives (head_of t)) ≤ high → Between low high (all_registers rules ps) → Between low high (rules.registers (rules.part number t ps to))
  new_between number row t ps to low high a l h b r among_new =
      ⊎_elim (b r)
      (λ w.
      let own = own_is (gives (head_of t)) r to w.0 in
      let one = own.0 in
      let is = own.1 in
      let u : low ≤ r = omega (arith, l, is) in
      let v : r < high = omega (arith, h, one, is) in
      (u, v))
      (obeys.part_registers number row t ps to r a among_new)

  chain_takes : (n : ℕ) (t : Node) (e : Emitted I P) (number : ℕ) (row : Row) → Takes n t e → Applies rules number row t (e.part ∷ []) e.to → Takes n t (with_chain rules number t e)
  chain_takes n t e number row k a =
      let h : e.to + one_where (gives (head_of t)) ≤ e.next = omega (arith, k.next) in
      record { low = k.low; next = k.next; few = k.few; registers = new_between number row t (e.part ∷ []) e.to n e.next a k.low h (λ r i. k.registers r (registers_one r e.part i)) }

  rule_takes : (n : ℕ) (t : Node) (ms : List Meeting) (es : EmittedAll I P) (number : ℕ) (row : Row) → TakesAll n ms es → met_by value_nodes ms + one_where (gives (head_of t)) ≤ value_nodes t → Applies rules number row t es.parts es.next → Takes n t (with_rule rules number t es)
  rule_takes n t ms es number row k f a =
      let high = es.next + one_where (gives (head_of t)) in
      let h : es.next + one_where (gives (head_of t)) ≤ high = omega arith in
      let le = k.few in
      record {
        low = k.low;
        next = refl;
        few = omega (arith, le, f);
        registers = new_between number row t es.parts es.next n high a k.low h (λ r i. let b = k.registers r i in let u : r < high = omega (arith, b) in (b.0, u));
      }

  more_takes : (n : ℕ) (ms : List Meeting) (meeting : Meeting) (es : EmittedAll I P) (e : Emitted I P) → TakesAll n ms es → Takes es.next meeting.1 e → TakesAll n (ms ++ meeting ∷ []) (and_one es e)
  more_takes n ms meeting es e k l =
      let a = k.low in
      let b = k.few in
      let c = l.low in
      let d = l.few in
      let f = l.next in
      let s : met_by value_nodes (ms ++ meeting ∷ []) ≡ met_by value_nodes ms + (value_nodes meeting.1 + 0) = met_by_append value_nodes ms (meeting ∷ []) in
      record {
        low = omega (arith, a, c, f);
        few = omega (arith, b, d, s);
        registers = λ r i. ⊎_elim
            (λ w. let x = k.registers r w in let u : r < e.next = omega (arith, x, c, f) in (x.0, u))
            (λ w. let x = l.registers r w in let u : n ≤ r = omega (arith, x, a) in (u, x.1))
            (registers_more r es.parts e.part i);
      }

  mutual
    pub takes : {x : MDerivation} {t : Node} {n : ℕ} {e : Emitted I P} → Emits rules x t n e → Takes n t e
    takes (ByChain {number} {row} {x} {t} {n} {e} one chain a) = chain_takes n t e number row (takes one) a
    takes (ByRule {number} {row} {xs} {meetings} {t} {n} {es} all fits chain a) =
        rule_takes n t meetings es number row (take_all all) (fewer_values row.pattern t meetings chain fits) a

    pub take_all : {xs : List MDerivation} {ms : List Meeting} {n : ℕ} {es : EmittedAll I P} → EmitsAll rules xs ms n es → TakesAll n ms es
    take_all (Nothing {n}) = record { low = omega arith; few = omega arith; registers = λ r i. absurd (false≢true i) }
    take_all (OneMore {xs} {meetings} {x} meeting {n} {es} {e} all one) = more_takes n meetings meeting es e (take_all all) (takes one)
