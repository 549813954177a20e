-- Comparisons and tests of pointers, as jumps.
use Rattle.std.proofs.Common.{◌≡◌, ◌<◌, ℕ, ◌==◌, not, nat_lt, Bool, true, false, cond, Option, Some, Result, Ok, Err, List, refl, ap, sym, subst, ◌∙◌, arith}
use Rattle.std.specs.Prelude.{if◌then◌else◌}
use Rattle.std.specs.Ordering.{nat_cmp}
use Rattle.std.specs.declared.cmp.Ordering.{Ordering}
use Rattle.std.specs.declared.cmp.Ordering.TheVariants as ordering
use Rattle.std.proofs.lemmas.Bool.{eqb-true, eqb-false, eq-eqb, ne_eqb, ltb-true, ltb-false, lt-ltb}
use Rattle.lcc_base.specs.declared.cause.Cause.{Cause}
use Rattle.objects.specs.declared.operators.Comparison.{Comparison}
use Rattle.objects.specs.declared.operators.Comparison.TheVariants as comparison
use Rattle.objects.specs.declared.value.Value.{Value}
use Rattle.objects.specs.declared.value.Value.TheVariants.{Number}
use Rattle.objects.specs.Arithmetic.{comparison_value}
use Rattle.objects.specs.Arithmetic as number
use Rattle.objects.specs.Objects.{Object as Old}
use Rattle.objects.specs.Pointers.{ordered}
use Rattle.objects.specs.Pointers as pointer
use Rattle.op_forest.specs.declared.sym.Sym.TheVariants as sym_of
use Rattle.forests.specs.Accesses.{defined}
use Rattle.forests.specs.Actions.{Action, Moved}
use Rattle.forests.specs.Numbers.{equal, negated, holds_of, ordered_so, unsigned_are}
use Rattle.forests.specs.Objects.{Object, shapes}
use Rattle.forests.specs.Rows.{branched}
use Rattle.forests.specs.Words.{Word, Plain}
use Rattle.c_types.specs.CType.{CType}
use Rattle.c_meaning.specs.Types.{is_pointer}
use Rattle.c_runs.specs.Expressions.{is_so, pointers_compared, holds}
use Rattle.c_runs.specs.Expressions as c
use Rattle.c_runs.specs.Outcomes.{truth, mapped}
use Rattle.c_match.specs.Values.{StaysInside}
use Rattle.c_match_objects.proofs.lemmas.Compared.{pointers_ordered, pointer_tested}
use Rattle.c_match_objects.proofs.lemmas.Compared as match
use Rattle.c_match_objects.proofs.lemmas.Reached.{not_before}
use Rattle.c_rows_agree.specs.Templates.{Scene, Gives, Acts}
use Rattle.c_rows_agree.specs.Typed.{Typed, Holds}
use Rattle.c_rows_agree.specs.Integers.{comparison_where, compared_by, compared, tested, move_where}
use Rattle.c_pointers_agree.specs.Held.{HoldsShort}
use Rattle.c_rows_agree.proofs.lemmas.Suffixes.{i_gives, u_gives, i_constant}

abbrev IsOrder : Comparison → Type 0
IsOrder comparison.Equal = ⊥
IsOrder comparison.NotEqual = ⊥
IsOrder o = Unit {0}

twice_not : (b : Bool) → not (not b) ≡ b
twice_not true = refl
twice_not false = refl

-- ---- words in order

-- two numbers in this order compare so
lesser : (o : Comparison) (x y : ℕ) → x < y → number.holds false o x y ≡ holds_of o ordering.Less
lesser comparison.Equal x y h = ne_eqb x y (λ (e : x ≡ y). let never : ⊥ = omega (arith, h, e) in never)
lesser comparison.NotEqual x y h = ap (λ (b : Bool). not b) (ne_eqb x y (λ (e : x ≡ y). let never : ⊥ = omega (arith, h, e) in never))
lesser comparison.Less x y h = lt-ltb x y h
lesser comparison.LessEqual x y h = ap (λ (b : Bool). not b) (not_before y x (omega (arith, h)))
lesser comparison.Greater x y h = not_before y x (omega (arith, h))
lesser comparison.GreaterEqual x y h = ap (λ (b : Bool). not b) (lt-ltb x y h)

alike : (o : Comparison) (x y : ℕ) → x ≡ y → number.holds false o x y ≡ holds_of o ordering.Equal
alike comparison.Equal x y h = eq-eqb x y h
alike comparison.NotEqual x y h = ap (λ (b : Bool). not b) (eq-eqb x y h)
alike comparison.Less x y h = not_before x y (omega (arith, h))
alike comparison.LessEqual x y h = ap (λ (b : Bool). not b) (not_before y x (omega (arith, h)))
alike comparison.Greater x y h = not_before y x (omega (arith, h))
alike comparison.GreaterEqual x y h = ap (λ (b : Bool). not b) (not_before x y (omega (arith, h)))

greater : (o : Comparison) (x y : ℕ) → y < x → number.holds false o x y ≡ holds_of o ordering.Greater
greater comparison.Equal x y h = ne_eqb x y (λ (e : x ≡ y). let never : ⊥ = omega (arith, h, e) in never)
greater comparison.NotEqual x y h = ap (λ (b : Bool). not b) (ne_eqb x y (λ (e : x ≡ y). let never : ⊥ = omega (arith, h, e) in never))
greater comparison.Less x y h = not_before x y (omega (arith, h))
greater comparison.LessEqual x y h = ap (λ (b : Bool). not b) (lt-ltb y x h)
greater comparison.Greater x y h = lt-ltb y x h
greater comparison.GreaterEqual x y h = ap (λ (b : Bool). not b) (not_before x y (omega (arith, h)))

numbers_hold : (o : Comparison) (x y : ℕ) → number.holds false o x y ≡ holds_of o (nat_cmp x y)
numbers_hold o x y =
    elim (nat_lt x y) as (λ b. nat_lt x y ≡ b → number.holds false o x y ≡ holds_of o (cond b ordering.Less (cond (x == y) ordering.Equal ordering.Greater))) [
      | true ↦ (λ e. lesser o x y (ltb-true x y e))
      | false ↦ (λ e.
          let le = ltb-false x y e in
          elim (x == y) as (λ b. (x == y) ≡ b → number.holds false o x y ≡ holds_of o (cond b ordering.Equal ordering.Greater)) [
            | true ↦ (λ f. alike o x y (eqb-true x y f))
            | false ↦ (λ f. let ne = eqb-false x y f in greater o x y (omega (arith, le, ne)))
          ] refl)
    ] refl

unsigned_by_order : (objects : List Object) (o : Comparison) (a b : Value) (r : Ordering) → ordered (shapes objects) a b ≡ Ok r → unsigned_are objects o (Plain a) (Plain b) ≡ Some (holds_of o r)
unsigned_by_order objects o (Number x) (Number y) r e =
    let same : nat_cmp x y ≡ r = cc in
    ap (λ (b : Bool). Some b) (numbers_hold o x y ∙ ap (λ (z : Ordering). holds_of o z) same)
unsigned_by_order objects o a b r e = ap (λ (z : Result Ordering Cause). ordered_so o (defined z)) e

-- ---- branches

-- to the label or on, by a truth and whether it is asked for
branch_by : (when is : Bool) (l : ℕ) → branched (sym_of.Label l) (Some (if when then is else not is)) ≡ Moved (move_where when is l)
branch_by true true l = refl
branch_by true false l = refl
branch_by false true l = refl
branch_by false false l = refl

-- what the asked comparison is, by the order; equality isn't asked so
asked_of_order : (when : Bool) (o : Comparison) (r : Ordering) → holds_of (comparison_where when o) r ≡ (if when then is_so o r else not (is_so o r))
asked_of_order true comparison.Equal ordering.Less = refl
asked_of_order true comparison.Equal ordering.Equal = refl
asked_of_order true comparison.Equal ordering.Greater = refl
asked_of_order true comparison.NotEqual ordering.Less = refl
asked_of_order true comparison.NotEqual ordering.Equal = refl
asked_of_order true comparison.NotEqual ordering.Greater = refl
asked_of_order true comparison.Less ordering.Less = refl
asked_of_order true comparison.Less ordering.Equal = refl
asked_of_order true comparison.Less ordering.Greater = refl
asked_of_order true comparison.LessEqual ordering.Less = refl
asked_of_order true comparison.LessEqual ordering.Equal = refl
asked_of_order true comparison.LessEqual ordering.Greater = refl
asked_of_order true comparison.Greater ordering.Less = refl
asked_of_order true comparison.Greater ordering.Equal = refl
asked_of_order true comparison.Greater ordering.Greater = refl
asked_of_order true comparison.GreaterEqual ordering.Less = refl
asked_of_order true comparison.GreaterEqual ordering.Equal = refl
asked_of_order true comparison.GreaterEqual ordering.Greater = refl
asked_of_order false comparison.Equal ordering.Less = refl
asked_of_order false comparison.Equal ordering.Equal = refl
asked_of_order false comparison.Equal ordering.Greater = refl
asked_of_order false comparison.NotEqual ordering.Less = refl
asked_of_order false comparison.NotEqual ordering.Equal = refl
asked_of_order false comparison.NotEqual ordering.Greater = refl
asked_of_order false comparison.Less ordering.Less = refl
asked_of_order false comparison.Less ordering.Equal = refl
asked_of_order false comparison.Less ordering.Greater = refl
asked_of_order false comparison.LessEqual ordering.Less = refl
asked_of_order false comparison.LessEqual ordering.Equal = refl
asked_of_order false comparison.LessEqual ordering.Greater = refl
asked_of_order false comparison.Greater ordering.Less = refl
asked_of_order false comparison.Greater ordering.Equal = refl
asked_of_order false comparison.Greater ordering.Greater = refl
asked_of_order false comparison.GreaterEqual ordering.Less = refl
asked_of_order false comparison.GreaterEqual ordering.Equal = refl
asked_of_order false comparison.GreaterEqual ordering.Greater = refl

-- ---- the order of two pointers

-- a jump where a comparison of unsigned numbers holds
acts_unsigned : (k : Scene) (a b : Typed) (o : Comparison) (l : ℕ) (v w : Word) (is : Bool) → IsOrder o → Gives k a.tree v → Gives k b.tree w → unsigned_are k.objects o v w ≡ Some is → Acts k (compared_by o false l a b) (branched (sym_of.Label l) (Some is))
acts_unsigned k a b comparison.Equal l v w is ok g h e = absurd ok
acts_unsigned k a b comparison.NotEqual l v w is ok g h e = absurd ok
acts_unsigned k a b comparison.Less l v w is ok g h e = record { first = v; second = w; left = u_gives k a.suffix a.tree v g; right = u_gives k b.suffix b.tree w h; does = ap (branched (sym_of.Label l)) e }
acts_unsigned k a b comparison.LessEqual l v w is ok g h e = record { first = v; second = w; left = u_gives k a.suffix a.tree v g; right = u_gives k b.suffix b.tree w h; does = ap (branched (sym_of.Label l)) e }
acts_unsigned k a b comparison.Greater l v w is ok g h e = record { first = v; second = w; left = u_gives k a.suffix a.tree v g; right = u_gives k b.suffix b.tree w h; does = ap (branched (sym_of.Label l)) e }
acts_unsigned k a b comparison.GreaterEqual l v w is ok g h e = record { first = v; second = w; left = u_gives k a.suffix a.tree v g; right = u_gives k b.suffix b.tree w h; does = ap (branched (sym_of.Label l)) e }

order_where : (when : Bool) (o : Comparison) → IsOrder o → IsOrder (comparison_where when o)
order_where true o ok = ok
order_where false comparison.Equal ok = ok
order_where false comparison.NotEqual ok = ok
order_where false comparison.Less ok = tt
order_where false comparison.LessEqual ok = tt
order_where false comparison.Greater ok = tt
order_where false comparison.GreaterEqual ok = tt

ordered_acts : (k : Scene) (old : List Old) (o : Comparison) (a b : Typed) (p q : Value) (r : Ordering) (when : Bool) (l : ℕ) → HoldsShort k old → IsOrder o → Holds k a p → Holds k b q → ordered old p q ≡ Ok r → Acts k (compared o false when l a b) (Moved (move_where when (is_so o r) l))
ordered_acts k old o a b p q r when l h ok ha hb e =
    let s = pointers_ordered k.map old k.objects p q ha.word hb.word r h.held ha.is hb.is e in
    let words : unsigned_are k.objects (comparison_where when o) ha.word hb.word ≡ Some (holds_of (comparison_where when o) r) =
    ap (λ (v : Word). unsigned_are k.objects (comparison_where when o) v hb.word) s.2
    ∙ ap (λ (w : Word). unsigned_are k.objects (comparison_where when o) (Plain s.0) w) s.3
    ∙ unsigned_by_order k.objects (comparison_where when o) s.0 s.1 r s.4 in
    let is : branched (sym_of.Label l) (Some (holds_of (comparison_where when o) r)) ≡ Moved (move_where when (is_so o r) l) = ap (λ (b : Bool). branched (sym_of.Label l) (Some b)) (asked_of_order when o r) ∙ branch_by when (is_so o r) l in
    subst (λ (x : Action). Acts k (compared o false when l a b) x) is
    (acts_unsigned k a b (comparison_where when o) l ha.word hb.word (holds_of (comparison_where when o) r) (order_where when o ok) ha.gives hb.gives words)

-- ---- equality

-- the operators for equality and its opposite
equal_acts : (k : Scene) (a b : Typed) (v w : Word) (is when : Bool) (l : ℕ) → Gives k a.tree v → Gives k b.tree w → equal k.objects v w ≡ Some is → Acts k (compared comparison.Equal false when l a b) (Moved (move_where when is l))
equal_acts k a b v w is true l g h e = record { first = v; second = w; left = i_gives k a.suffix a.tree v g; right = i_gives k b.suffix b.tree w h; does = ap (λ (x : Option Bool). branched (sym_of.Label l) x) e ∙ branch_by true is l }
equal_acts k a b v w is false l g h e = record { first = v; second = w; left = i_gives k a.suffix a.tree v g; right = i_gives k b.suffix b.tree w h; does = ap (λ (x : Option Bool). branched (sym_of.Label l) (negated x)) e ∙ branch_by false is l }

differ_acts : (k : Scene) (a b : Typed) (v w : Word) (is when : Bool) (l : ℕ) → Gives k a.tree v → Gives k b.tree w → equal k.objects v w ≡ Some is → Acts k (compared comparison.NotEqual false when l a b) (Moved (move_where when (not is) l))
differ_acts k a b v w is true l g h e = record { first = v; second = w; left = i_gives k a.suffix a.tree v g; right = i_gives k b.suffix b.tree w h; does = ap (λ (x : Option Bool). branched (sym_of.Label l) (negated x)) e ∙ branch_by true (not is) l }
differ_acts k a b v w is false l g h e = record { first = v; second = w; left = i_gives k a.suffix a.tree v g; right = i_gives k b.suffix b.tree w h; does = ap (λ (x : Option Bool). branched (sym_of.Label l) x) (e ∙ ap (λ (b : Bool). Some b) (sym (twice_not is))) ∙ branch_by false (not is) l }

-- ---- any comparison of two pointers

ok_of : {A B : Type 0} (f : A → B) (r : Result A Cause) (b : B) → mapped f r ≡ Ok b → (a : A) × (r ≡ Ok a) × (f a ≡ b)
ok_of f (Ok a) b e = (a, refl, cc)
ok_of f (Err c) b e = absurd (let never : ⊥ = cc in never)

module _ (k : Scene) (old : List Old) (a b : Typed) (p q : Value) (h : HoldsShort k old) (ip : StaysInside p) (iq : StaysInside q) (ha : Holds k a p) (hb : Holds k b q) where
  by_order : (o : Comparison) (is when : Bool) (l : ℕ) → IsOrder o → mapped (is_so o) (ordered old p q) ≡ Ok is → Acts k (compared o false when l a b) (Moved (move_where when is l))
  by_order o is when l ok e =
      let r = ok_of (is_so o) (ordered old p q) is e in
      subst (λ (x : Bool). Acts k (compared o false when l a b) (Moved (move_where when x l))) r.2 (ordered_acts k old o a b p q r.0 when l h ok ha hb r.1)

  pointers_compare : (o : Comparison) (is when : Bool) (l : ℕ) → pointers_compared o old p q ≡ Ok is → Acts k (compared o false when l a b) (Moved (move_where when is l))
  pointers_compare comparison.Equal is when l e =
      equal_acts k a b ha.word hb.word is when l ha.gives hb.gives (match.pointers_compared k.map old k.objects p q ha.word hb.word is h.held ha.is hb.is ip iq e)
  pointers_compare comparison.NotEqual is when l e =
      let r = ok_of not (pointer.compared old p q) is e in
      subst (λ (x : Bool). Acts k (compared comparison.NotEqual false when l a b) (Moved (move_where when x l))) r.2
      (differ_acts k a b ha.word hb.word r.0 when l ha.gives hb.gives (match.pointers_compared k.map old k.objects p q ha.word hb.word r.0 h.held ha.is hb.is ip iq r.1))
  pointers_compare comparison.Less is when l e = by_order comparison.Less is when l tt e
  pointers_compare comparison.LessEqual is when l e = by_order comparison.LessEqual is when l tt e
  pointers_compare comparison.Greater is when l e = by_order comparison.Greater is when l tt e
  pointers_compare comparison.GreaterEqual is when l e = by_order comparison.GreaterEqual is when l tt e

pub comparisons_agree : (k : Scene) (old : List Old) (t : CType) (signed : Bool) (o : Comparison) (a b : Typed) (p q v : Value) → HoldsShort k old → StaysInside p → StaysInside q → Holds k a p → Holds k b q → is_pointer t ≡ true → c.compared_by t signed o old p q ≡ Ok v → (is : Bool) × (v ≡ truth is) × ((when : Bool) (l : ℕ) → Acts k (compared o false when l a b) (Moved (move_where when is l)))
comparisons_agree k old t signed o a b p q v h ip iq ha hb so e =
    let f : mapped truth (pointers_compared o old p q) ≡ Ok v = sym (ap (λ (x : Bool). mapped truth (if x then pointers_compared o old p q else comparison_value signed o p q)) so) ∙ e in
    let r = ok_of truth (pointers_compared o old p q) v f in
    (r.0, sym r.2, λ when l. pointers_compare k old a b p q h ip iq ha hb o r.0 when l r.1)

-- ---- tests

tests_by : (k : Scene) (a : Typed) (w : Word) (is when : Bool) (l : ℕ) → Gives k a.tree w → equal k.objects w (Plain (Number 0)) ≡ Some (not is) → Acts k (tested when l a) (Moved (move_where when is l))
tests_by k a w is true l g e = record { first = w; second = Plain (Number 0); left = i_gives k a.suffix a.tree w g; right = i_constant k 0 (omega arith); does = ap (λ (x : Option Bool). branched (sym_of.Label l) (negated x)) e ∙ ap (λ (b : Bool). branched (sym_of.Label l) (Some b)) (twice_not is) ∙ branch_by true is l }
tests_by k a w is false l g e = record { first = w; second = Plain (Number 0); left = i_gives k a.suffix a.tree w g; right = i_constant k 0 (omega arith); does = ap (λ (x : Option Bool). branched (sym_of.Label l) x) e ∙ branch_by false is l }

pub tests_agree : (k : Scene) (old : List Old) (t : CType) (a : Typed) (p : Value) (is when : Bool) (l : ℕ) → HoldsShort k old → Holds k a p → is_pointer t ≡ true → holds t old p ≡ Ok is → Acts k (tested when l a) (Moved (move_where when is l))
tests_agree k old t a p is when l h ha so e =
    let f : pointer.tested old p ≡ Ok is = sym (ap (λ (x : Bool). if x then pointer.tested old p else number.integer_tested p) so) ∙ e in
    tests_by k a ha.word is when l ha.gives (pointer_tested k.map old k.objects p ha.word is h.held ha.is f)
