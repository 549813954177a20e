-- Tests: by their parts, where they are tests by themselves, else by their values; and truth as a number.
use Rattle.std.specs.Prelude.{◌≡◌, ℕ, ℤ, Bool, true, false, not, List, [], ◌∷◌, ◌++◌}
use Rattle.std.proofs.Common.{refl, sym, ap, ◌∙◌, subst}
use Rattle.std.proofs.lemmas.List.{append-nil}
use Rattle.objects.specs.declared.operators.Comparison.{Comparison}
use Rattle.op_forest.specs.declared.suffix.Suffix.TheVariants.{I}
use Rattle.dag_forest.specs.declared.entry.Entry.{Entry}
use Rattle.c_types.specs.CType.{CType}
use Rattle.c_meaning.specs.declared.core_expr.CoreKind.{CoreKind}
use Rattle.c_meaning.specs.declared.core_expr.CoreKind.TheVariants as kind
use Rattle.c_meaning.specs.CoreTrees.{CoreOf, CoresOf, one, two, type_of, seen, all_seen}
use Rattle.c_meaning.specs.Values.{CoreTree}
use Rattle.c_rows_agree.specs.Integers.{number, compared, tested}
use Rattle.lowered_forms.specs.Contexts.{Context}
use Rattle.lowered_forms.specs.Expressions.{low_test, parts_of, plain_row, tested_row, is_test}
use Rattle.lowered_forms.specs.Lows.{Low, acted, ended, marked, with_label, slot_offset, with_slot}
use Rattle.lowered_forms.specs.Tests.{value_test, compares_signed, truth_of, past}
use Rattle.lowered_forms.specs.Values.{Lowered, Part, placed, slot_read, stored_in}
use Rattle.lowering_steps.specs.declared.operand.Operand.{Operand}
use Rattle.lowering_steps.specs.declared.state.State.{State}
use Rattle.lowering_steps.specs.Asking.{Acts, Places}
use Rattle.lowering_steps.specs.Operands.{typed_of}
use Rattle.lowering_steps.specs.States.{Shows}
use Rattle.lowering_steps.proofs.lemmas.Stating.{with_block, acts_shows, places_comes}
use Rattle.c_lower_expr.specs.Connected.{connecting, settles}
use Rattle.c_lower_expr.specs.Lowering.{LowersTo, Lowers}
use Rattle.c_lower_expr.specs.Marks.{marks, all_marks}
use Rattle.c_lower_expr.specs.Pairs.{LowersBoth, pair}
use Rattle.c_lower_expr.specs.Passing.{part_of}
use Rattle.c_lower_expr.proofs.lemmas.Pairing.{pair_acts}
use Rattle.c_lower_expr.proofs.lemmas.Rows.{PlainGoes, TestedGoes, tested_as, used_two, seen_type}
use Rattle.c_lower_expr.proofs.lemmas.Stepping.{shows_as, comes_as, does_as, does_used, does_both, then_act, then_all}

-- ---- by its value

valued_is : (s : Context) (what : CoreKind) (of : CType) (ps : List Part) (n : ℕ) (when : Bool) (l : Low) → is_test what ≡ false
    → value_test (λ l1. plain_row s what of ps l1) n when l ≡ tested_row s what of ps n when l
valued_is s kind.Not of ps n when l e = absurd cc
valued_is s kind.And of ps n when l e = absurd cc
valued_is s kind.Or of ps n when l e = absurd cc
valued_is s (kind.Compare o signed) of ps n when l e = absurd cc
valued_is s what of ps n when l e = refl

pub value_tests : (s : Context) (k : ℕ → CType) (what : CoreKind) (of : CType) (kids : CoresOf ℕ) (n : ℕ) (when : Bool) (u m t : State) (ms ns : List Bool) (v : Operand) (es : List Entry)
    → is_test what ≡ false → PlainGoes s k what of kids u ms v m ns
    → Acts m.block (λ l. acted (tested when n (typed_of v)) l) es
    → ((l : Low) → Shows (with_block m es) l → Shows t (ended l)) → TestedGoes s k what of n when kids u ms t ns
value_tests s k what of kids n when u m t ms ns v es e f act end =
    let ps = parts_of s (all_seen k kids) in
    let used = all_marks (all_seen k kids) in
    does_as (λ l. value_test (λ l1. plain_row s what of ps l1) n when l) (λ l. tested_row s what of ps n when l) used u ms t ns (λ l. valued_is s what of ps n when l e)
    (then_all (λ l. acted (tested when n (plain_row s what of ps l).value) (plain_row s what of ps l).low) ended used u (with_block m es) t ms ns
    (then_act (λ l. plain_row s what of ps l) (λ x l. acted (tested when n x) l) used u m ms ns v es f act) end)

-- ---- by its parts

pub not_tests : (s : Context) (k : ℕ → CType) (what : CoreKind) (of : CType) (kids : CoresOf ℕ) (a : CoreOf ℕ) (n : ℕ) (when : Bool) (u : State) (ms : List Bool) (t : State) (ns : List Bool)
    → what ≡ kind.Not → kids ≡ one a → Lowers (λ l. low_test s (seen k a) n (not when) l) (marks (seen k a)) u ms t ns → TestedGoes s k what of n when kids u ms t ns
not_tests s k what of kids a n when u ms t ns w e f =
    tested_as s k what of n when kids (one a) u ms t ns e
    (subst (λ x. TestedGoes s k x of n when (one a) u ms t ns) (sym w)
    (does_used (λ l. low_test s (seen k a) n (not when) l) (marks (seen k a)) (marks (seen k a) ++ []) u ms t ns (sym (append-nil (marks (seen k a)))) f))

pub comparison_tests : (s : Context) (k : ℕ → CType) (what : CoreKind) (of : CType) (kids : CoresOf ℕ) (o : Comparison) (signed is_signed : Bool) (a b : CoreOf ℕ) (n : ℕ) (when : Bool) (u m t : State) (ms ns : List Bool) (v w : Operand) (es : List Entry)
    → what ≡ kind.Compare o signed → kids ≡ two a b → is_signed ≡ compares_signed (k (type_of a)) signed
    → LowersBoth s (seen k a) (seen k b) u ms v w m ns
    → Acts m.block (λ l. acted (compared o is_signed when n (typed_of v) (typed_of w)) l) es
    → ((l : Low) → Shows (with_block m es) l → Shows t (ended l)) → TestedGoes s k what of n when kids u ms t ns
comparison_tests s k what of kids o signed is_signed a b n when u m t ms ns v w es q e sign f act end =
    let x = seen k a in let y = seen k b in
    let step : Bool → Low → Low = λ g l. acted (compared o g when n (pair s x y l).first (pair s x y l).second) (pair s x y l).low in
    tested_as s k what of n when kids (two a b) u ms t ns e
    (subst (λ z. TestedGoes s k z of n when (two a b) u ms t ns) (sym q)
    (does_used (λ l. tested_row s (kind.Compare o signed) of (part_of s x ∷ part_of s y ∷ []) n when l) (marks x ++ marks y) (marks x ++ (marks y ++ [])) u ms t ns (used_two (marks x) (marks y))
    (does_as (λ l. ended (step is_signed l)) (λ l. tested_row s (kind.Compare o signed) of (part_of s x ∷ part_of s y ∷ []) n when l) (marks x ++ marks y) u ms t ns
    (λ l. ap (λ g. ended (step g l)) (sign ∙ ap (λ z. compares_signed z signed) (seen_type k a)))
    (then_all (step is_signed) ended (marks x ++ marks y) u (with_block m es) t ms ns
    (pair_acts s x y (λ p r l. acted (compared o is_signed when n p r) l) u m ms ns v w es f act) end))))

-- ---- `&&` and `||`

settled_is : (s : Context) (of : CType) (settling when : Bool) (a b : Part) (n : ℕ) (l : Low) → settles settling when ≡ true
    → b.test n when (a.test n when l) ≡ tested_row s (connecting settling) of (a ∷ b ∷ []) n when l
settled_is s of true true a b n l e = refl
settled_is s of true false a b n l e = absurd cc
settled_is s of false true a b n l e = absurd cc
settled_is s of false false a b n l e = refl

open_is : (s : Context) (of : CType) (settling when : Bool) (a b : Part) (n : ℕ) (l : Low) → settles settling when ≡ false
    → past (λ m l1. b.test n when (a.test m settling l1)) l ≡ tested_row s (connecting settling) of (a ∷ b ∷ []) n when l
open_is s of true true a b n l e = absurd cc
open_is s of true false a b n l e = refl
open_is s of false true a b n l e = refl
open_is s of false false a b n l e = absurd cc

connected_as : (s : Context) (k : ℕ → CType) (what : CoreKind) (of : CType) (kids : CoresOf ℕ) (settling : Bool) (a b : CoreOf ℕ) (n : ℕ) (when : Bool) (u : State) (ms : List Bool) (t : State) (ns : List Bool) (step : Low → Low)
    → what ≡ connecting settling → kids ≡ two a b
    → ((l : Low) → step l ≡ tested_row s (connecting settling) of (part_of s (seen k a) ∷ part_of s (seen k b) ∷ []) n when l)
    → Lowers step (marks (seen k a) ++ marks (seen k b)) u ms t ns → TestedGoes s k what of n when kids u ms t ns
connected_as s k what of kids settling a b n when u ms t ns step w e is f =
    tested_as s k what of n when kids (two a b) u ms t ns e
    (subst (λ x. TestedGoes s k x of n when (two a b) u ms t ns) (sym w)
    (does_used (λ l. tested_row s (connecting settling) of (part_of s (seen k a) ∷ part_of s (seen k b) ∷ []) n when l) (marks (seen k a) ++ marks (seen k b)) (marks (seen k a) ++ (marks (seen k b) ++ [])) u ms t ns (used_two (marks (seen k a)) (marks (seen k b)))
    (does_as step (λ l. tested_row s (connecting settling) of (part_of s (seen k a) ∷ part_of s (seen k b) ∷ []) n when l) (marks (seen k a) ++ marks (seen k b)) u ms t ns is f)))

pub settled_tests : (s : Context) (k : ℕ → CType) (what : CoreKind) (of : CType) (kids : CoresOf ℕ) (settling : Bool) (a b : CoreOf ℕ) (n : ℕ) (when : Bool) (u : State) (ms : List Bool) (t : State) (ns : List Bool)
    → what ≡ connecting settling → kids ≡ two a b → settles settling when ≡ true
    → Lowers (λ l. low_test s (seen k b) n when (low_test s (seen k a) n when l)) (marks (seen k a) ++ marks (seen k b)) u ms t ns → TestedGoes s k what of n when kids u ms t ns
settled_tests s k what of kids settling a b n when u ms t ns w e is f =
    connected_as s k what of kids settling a b n when u ms t ns (λ l. low_test s (seen k b) n when (low_test s (seen k a) n when l)) w e
    (λ l. settled_is s of settling when (part_of s (seen k a)) (part_of s (seen k b)) n l is) f

pub open_tests : (s : Context) (k : ℕ → CType) (what : CoreKind) (of : CType) (kids : CoresOf ℕ) (settling : Bool) (a b : CoreOf ℕ) (n : ℕ) (when : Bool) (u : State) (ms : List Bool) (t : State) (ns : List Bool)
    → what ≡ connecting settling → kids ≡ two a b → settles settling when ≡ false
    → Lowers (λ l. past (λ m l1. low_test s (seen k b) n when (low_test s (seen k a) m settling l1)) l) (marks (seen k a) ++ marks (seen k b)) u ms t ns → TestedGoes s k what of n when kids u ms t ns
open_tests s k what of kids settling a b n when u ms t ns w e is f =
    connected_as s k what of kids settling a b n when u ms t ns (λ l. past (λ m l1. low_test s (seen k b) n when (low_test s (seen k a) m settling l1)) l) w e
    (λ l. open_is s of settling when (part_of s (seen k a)) (part_of s (seen k b)) n l is) f

-- past the second part
pub past_goes : (s : Context) (x y : CoreTree) (settling when : Bool) (n label : ℕ) (u v m o t : State) (ms ns os : List Bool)
    → ((l : Low) → Shows u l → (label ≡ l.labels) × Shows v (with_label l))
    → Lowers (λ l. low_test s x label settling l) (marks x) v ms m ns → Lowers (λ l. low_test s y n when l) (marks y) m ns o os
    → ((l : Low) → Shows o l → Shows t (marked label l))
    → Lowers (λ l. past (λ i l1. low_test s y n when (low_test s x i settling l1)) l) (marks x ++ marks y) u ms t os
past_goes s x y settling when n label u v m o t ms ns os new f g mark = record {
  is = λ l rest h q.
      let start = new l h in
      let both = does_both (λ l1. low_test s x label settling l1) (λ l1. low_test s y n when l1) (marks x) (marks y) v m o ms ns os f g in
      let z = both.is (with_label l) rest start.1 q in
      let step : ℕ → Low = λ i. marked i (low_test s y n when (low_test s x i settling (with_label l))) in
      (shows_as t (step label) (step l.labels) (ap step start.0) (mark (low_test s y n when (low_test s x label settling (with_label l))) z.0), z.1);
}

-- ---- truth as a number

pub truth_goes : (test : ℕ → Bool → Low → Low) (used : List Bool) (z : ℤ) (n : ℕ) (s slot label m t : State) (ms ns : List Bool) (zero one read : List Entry) (v : Operand)
    → ((l : Low) → Shows s l → (z ≡ slot_offset l) × Shows slot (with_slot l))
    → ((l : Low) → Shows slot l → (n ≡ l.labels) × Shows label (with_label l))
    → Acts label.block (λ l. stored_in z (number true 0) l) zero
    → Lowers (λ l. test n false l) used (with_block label zero) ms m ns
    → Acts m.block (λ l. stored_in z (number true 1) l) one
    → ((l : Low) → Shows (with_block m one) l → Shows t (marked n l))
    → Places t.block (slot_read I z) v read
    → LowersTo (λ l. truth_of test l) used s ms v (with_block t read) ns
truth_goes test used z n s slot label m t ms ns zero one read v takes names first goes second mark reads = record {
  is = λ l rest h e.
      let at = takes l h in
      let past_is = names (with_slot l) at.1 in
      let l1 : Low = with_label (with_slot l) in
      let start = acts_shows label l1 (λ x. stored_in z (number true 0) x) zero past_is.1 first in
      let x = goes.is (stored_in z (number true 0) l1) rest start e in
      let l2 : Low = test n false (stored_in z (number true 0) l1) in
      let y = acts_shows m l2 (λ w. stored_in z (number true 1) w) one x.0 second in
      let l3 : Low = stored_in z (number true 1) l2 in
      let last = places_comes t (marked n l3) (slot_read I z) v read (mark l3 y) reads in
      let step : ℤ → ℕ → Lowered = λ o i. placed (slot_read I o) (marked i (stored_in o (number true 1) (test i false (stored_in o (number true 0) l1)))) in
      (comes_as (with_block t read) v (step z n) (truth_of test l) (ap (λ o. step o n) at.0 ∙ ap (λ i. step (slot_offset l) i) past_is.0) last, x.1);
}
