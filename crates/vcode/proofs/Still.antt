-- Where labels and moves of control stand in the code of derivations.
use Rattle.std.proofs.Common.{◌≡◌, ℕ, ◌==◌, List, [], ◌∷◌, ◌++◌, true, false, Some, refl, sym, ap, ◌∙◌, subst, ⊎_elim}
use Rattle.std.specs.Prelude.{◌||◌, not}
use Rattle.std.proofs.lemmas.List.{append-nil}
use Rattle.std.proofs.lemmas.Bool.{or_parts, or_right, not_from_false, cases_Bool, both_ways}
use Rattle.std.proofs.lemmas.Option.{same_Some, none-some}
use Rattle.lburg_model.specs.Pattern.{MPattern, PHole, PLeaf, POne, PTwo}
use Rattle.lburg_model.specs.Derivation.{MDerivation}
use Rattle.op_forest.specs.declared.op.Op.{Op}
use Rattle.op_forest.specs.declared.op.Op.TheVariants as op
use Rattle.op_forest.specs.declared.sym.Sym.TheVariants as symbol
use Rattle.op_forest.specs.Nodes.{Node, Leaf, One, Two, head_of, number_of}
use Rattle.vcode.specs.Machines.{Machine}
use Rattle.vcode.specs.VirtualCode.{HasNoMark, MovesNot, MovesLast, MarkedFirst, BeginsWithMark}
use Rattle.vcode.specs.Patterns.{Meeting, leaves_at, both, is_chain}
use Rattle.vcode.specs.RuleSets.{Row, Rules, Applies, Obeys, is_label, is_move, op_at}
use Rattle.vcode.specs.Emission.{Emitted, EmittedAll, Emits, EmitsAll, ByChain, ByRule, Nothing, OneMore}
use Rattle.vcode.specs.Roots.{AllStill, IsQuiet}
use Rattle.vcode.proofs.lemmas.Leaves.{some_if, some_both}
use Rattle.vcode.proofs.Joining.{unmarked_joined, unmoved_joined, marked_first, moves_joined, moves_last}

abbrev pub MetStill : List Meeting → Type 0
MetStill [] = Unit {0}
MetStill (m ∷ ms) = AllStill m.1 × MetStill ms

still_joined : (us vs : List Meeting) → MetStill us → MetStill vs → MetStill (us ++ vs)
still_joined [] vs h k = k
still_joined (m ∷ us) vs h k = (h.0, still_joined us vs h.1 k)

still_front : (ms : List Meeting) (m : Meeting) → MetStill (ms ++ m ∷ []) → MetStill ms
still_front [] m h = tt
still_front (l ∷ ms) m h = (h.0, still_front ms m h.1)

still_last : (ms : List Meeting) (m : Meeting) → MetStill (ms ++ m ∷ []) → AllStill m.1
still_last [] m h = h.0
still_last (l ∷ ms) m h = still_last ms m h.1

met_still : (p : MPattern) (t : Node) (ms : List Meeting) → leaves_at p t ≡ Some ms → AllStill t → MetStill ms
met_still (PHole n) t ms e h = subst MetStill (same_Some ((n, t) ∷ []) ms e) (h, tt)
met_still (PLeaf op) (Leaf g) ms e h = subst MetStill (same_Some [] ms (some_if (op == number_of g) (Some []) ms e)) tt
met_still (PLeaf op) (One g a) ms e h = absurd (none-some ms e)
met_still (PLeaf op) (Two g a b) ms e h = absurd (none-some ms e)
met_still (POne op p) (Leaf g) ms e h = absurd (none-some ms e)
met_still (POne op p) (One g a) ms e h = met_still p a ms (some_if (op == number_of g) (leaves_at p a) ms e) h.1
met_still (POne op p) (Two g a b) ms e h = absurd (none-some ms e)
met_still (PTwo op p q) (Leaf g) ms e h = absurd (none-some ms e)
met_still (PTwo op p q) (One g a) ms e h = absurd (none-some ms e)
met_still (PTwo op p q) (Two g a b) ms e h =
    let s = some_both (leaves_at p a) (leaves_at q b) ms (some_if (op == number_of g) (both (leaves_at p a) (leaves_at q b)) ms e) in
    subst MetStill (sym s.4) (still_joined s.0 s.1 (met_still p a s.0 s.2 h.1) (met_still q b s.1 s.3 h.2))

-- below a quiet root nothing but its operands is met
below_still : (p : MPattern) (t : Node) (ms : List Meeting) → is_chain p ≡ false → leaves_at p t ≡ Some ms → IsQuiet t → MetStill ms
below_still (PHole n) t ms c e h = absurd (cc)
below_still (PLeaf op) (Leaf g) ms c e h = subst MetStill (same_Some [] ms (some_if (op == number_of g) (Some []) ms e)) tt
below_still (PLeaf op) (One g a) ms c e h = absurd (none-some ms e)
below_still (PLeaf op) (Two g a b) ms c e h = absurd (none-some ms e)
below_still (POne op p) (Leaf g) ms c e h = absurd (none-some ms e)
below_still (POne op p) (One g a) ms c e h = met_still p a ms (some_if (op == number_of g) (leaves_at p a) ms e) h.1
below_still (POne op p) (Two g a b) ms c e h = absurd (none-some ms e)
below_still (PTwo op p q) (Leaf g) ms c e h = absurd (none-some ms e)
below_still (PTwo op p q) (One g a) ms c e h = absurd (none-some ms e)
below_still (PTwo op p q) (Two g a b) ms c e h =
    let s = some_both (leaves_at p a) (leaves_at q b) ms (some_if (op == number_of g) (both (leaves_at p a) (leaves_at q b)) ms e) in
    subst MetStill (sym s.4) (still_joined s.0 s.1 (met_still p a s.0 s.2 h.1) (met_still q b s.1 s.3 h.2))

-- a label has no operands
label_bare : (p : MPattern) (t : Node) (ms : List Meeting) → is_chain p ≡ false → leaves_at p t ≡ Some ms → IsQuiet t → is_label (op_at t) ≡ true → ms ≡ []
label_bare (PHole n) t ms c e h l = absurd (cc)
label_bare (PLeaf op) (Leaf g) ms c e h l = sym (same_Some [] ms (some_if (op == number_of g) (Some []) ms e))
label_bare (PLeaf op) (One g a) ms c e h l = absurd (none-some ms e)
label_bare (PLeaf op) (Two g a b) ms c e h l = absurd (none-some ms e)
label_bare (POne op p) (Leaf g) ms c e h l = absurd (none-some ms e)
label_bare (POne op p) (One g a) ms c e h l = absurd (both_ways (is_label g.operator.op) h.0 l)
label_bare (POne op p) (Two g a b) ms c e h l = absurd (none-some ms e)
label_bare (PTwo op p q) (Leaf g) ms c e h l = absurd (none-some ms e)
label_bare (PTwo op p q) (One g a) ms c e h l = absurd (none-some ms e)
label_bare (PTwo op p q) (Two g a b) ms c e h l = absurd (both_ways (is_label g.operator.op) h.0 l)

still_at : (t : Node) → AllStill t → (is_label (op_at t) || is_move (op_at t)) ≡ false
still_at (Leaf g) h = h
still_at (One g a) h = h.0
still_at (Two g a b) h = h.0

pub not_nothing : {A : Type 0} (xs : List A) (x : A) → xs ++ x ∷ [] ≡ [] → ⊥
not_nothing [] x e = cc
not_nothing (y ∷ xs) x e = cc

pub is_the_label : (o : Op) → is_label o ≡ true → o ≡ op.Label
is_the_label op.Label h = refl
is_the_label o h = absurd (both_ways false refl h)

module _ {I P : Type 0} (m : Machine I) (rules : Rules I P) (obeys : Obeys m rules) where
  pub record Plain (code : List I) : Type 0 where
    pub marks : HasNoMark m code
    pub moves : MovesNot m code

  plain_joined : (a b : List I) → Plain a → Plain b → Plain (a ++ b)
  plain_joined a b h k = record { marks = unmarked_joined m a b h.marks k.marks; moves = unmoved_joined m a b h.moves k.moves }

  plain_rule : (number : ℕ) (row : Row) (t : Node) (ps : List P) (to : ℕ) → Applies rules number row t ps to → (is_label (op_at t) || is_move (op_at t)) ≡ false → Plain (rules.code number t ps to)
  plain_rule number row t ps to a s =
      let b = or_parts (is_label (op_at t)) (is_move (op_at t)) s in
      record {
        marks = obeys.marks_only number row t ps to a (or_right (is_chain row.pattern) (not (is_label (op_at t))) (not_from_false (is_label (op_at t)) b.0));
        moves = obeys.moves_only number row t ps to a (or_right (is_chain row.pattern) (not (is_move (op_at t))) (not_from_false (is_move (op_at t)) b.1));
      }

  mutual
    pub plain : {x : MDerivation} {t : Node} {n : ℕ} {e : Emitted I P} → Emits rules x t n e → AllStill t → Plain e.code
    plain (ByChain {number} {row} {x} {t} {n} {e} one chain a) h =
        plain_joined e.code (rules.code number t (e.part ∷ []) e.to) (plain one h) (plain_rule number row t (e.part ∷ []) e.to a (still_at t h))
    plain (ByRule {number} {row} {xs} {meetings} {t} {n} {es} all fits chain a) h =
        plain_joined es.code (rules.code number t es.parts es.next) (plain_all all (met_still row.pattern t meetings fits h)) (plain_rule number row t es.parts es.next a (still_at t h))

    pub plain_all : {xs : List MDerivation} {ms : List Meeting} {n : ℕ} {es : EmittedAll I P} → EmitsAll rules xs ms n es → MetStill ms → Plain es.code
    plain_all (Nothing {n}) h = record { marks = tt; moves = tt }
    plain_all (OneMore {xs} {meetings} {x} meeting {n} {es} {e} all one) h =
        plain_joined es.code e.code (plain_all all (still_front meetings meeting h)) (plain one (still_last meetings meeting h))

  nothing_met : {xs : List MDerivation} {ms : List Meeting} {n : ℕ} {es : EmittedAll I P} → EmitsAll rules xs ms n es → ms ≡ [] → es.code ≡ []
  nothing_met (Nothing {n}) e = refl
  nothing_met (OneMore {xs} {meetings} {x} meeting {n} {es} {e} all one) s = absurd (not_nothing meetings meeting s)

  -- what a root's code keeps
  pub record Rooted (t : Node) (code : List I) : Type 0 where
    pub marks : is_label (op_at t) ≡ false → HasNoMark m code
    pub moves : is_move (op_at t) ≡ false → MovesNot m code
    pub first : MarkedFirst m code
    pub last : MovesLast m code
    pub begins : (l : ℕ) → is_label (op_at t) ≡ true → (head_of t).sym ≡ symbol.Label l → BeginsWithMark m l code

  -- the code of a chain rule behind that of its nonterminal
  rooted_chain : (t : Node) (code : List I) (number : ℕ) (row : Row) (ps : List P) (to : ℕ) → Rooted t code → Applies rules number row t ps to → is_chain row.pattern ≡ true → Rooted t (code ++ rules.code number t ps to)
  rooted_chain t code number row ps to r a chain =
      ⊎_elim
      (λ s. subst (Rooted t) (sym (ap (λ l. code ++ l) (obeys.silent number row t ps to a chain s) ∙ append-nil code)) r)
      (λ s.
      let b = or_parts (is_label (op_at t)) (is_move (op_at t)) s in
      let whole = plain_joined code (rules.code number t ps to) (record { marks = r.marks b.0; moves = r.moves b.1 }) (plain_rule number row t ps to a s) in
      record {
        marks = λ e. whole.marks;
        moves = λ e. whole.moves;
        first = marked_first m (code ++ rules.code number t ps to) whole.marks;
        last = moves_last m (code ++ rules.code number t ps to) whole.moves;
        begins = λ l is called. absurd (both_ways (is_label (op_at t)) b.0 is);
      })
      (cases_Bool (is_label (op_at t) || is_move (op_at t)))

  -- the code of a rule behind that of its nonterminals
  rooted_rule : (t : Node) (code : List I) (number : ℕ) (row : Row) (ps : List P) (to : ℕ) → Plain code → (is_label (op_at t) ≡ true → code ≡ []) → Applies rules number row t ps to → is_chain row.pattern ≡ false → Rooted t (code ++ rules.code number t ps to)
  rooted_rule t code number row ps to p bare a plain =
      let c = rules.code number t ps to in
      let unmarked : is_label (op_at t) ≡ false → HasNoMark m (code ++ c) =
      λ e. unmarked_joined m code c p.marks (obeys.marks_only number row t ps to a (or_right (is_chain row.pattern) (not (is_label (op_at t))) (not_from_false (is_label (op_at t)) e)))
      in
      record {
        marks = unmarked;
        moves = λ e. unmoved_joined m code c p.moves (obeys.moves_only number row t ps to a (or_right (is_chain row.pattern) (not (is_move (op_at t))) (not_from_false (is_move (op_at t)) e)));
        first = ⊎_elim
            (λ e. subst (λ l. MarkedFirst m (l ++ c)) (sym (bare e)) (obeys.marks number row t ps to a))
            (λ e. marked_first m (code ++ c) (unmarked e))
            (cases_Bool (is_label (op_at t)));
        last = moves_joined m code c p.moves (obeys.moves number row t ps to a);
        begins = λ l is called. subst (λ d. BeginsWithMark m l (d ++ c)) (sym (bare is)) (obeys.labels number row t ps to l a plain (is_the_label (op_at t) is) called);
      }

  pub rooted : {x : MDerivation} {t : Node} {n : ℕ} {e : Emitted I P} → Emits rules x t n e → IsQuiet t → Rooted t e.code
  rooted (ByChain {number} {row} {x} {t} {n} {e} one chain a) h = rooted_chain t e.code number row (e.part ∷ []) e.to (rooted one h) a chain
  rooted (ByRule {number} {row} {xs} {meetings} {t} {n} {es} all fits chain a) h =
      rooted_rule t es.code number row es.parts es.next (plain_all all (below_still row.pattern t meetings chain fits h))
      (λ l. nothing_met all (label_bare row.pattern t meetings chain fits h l)) a chain
