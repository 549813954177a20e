-- An expression is lowered by its row, and the rows of those with no part, one part and two parts are what the parts come to, and then one act.
use Rattle.std.specs.Prelude.{◌≡◌, ℕ, Bool, List, [], ◌∷◌, ◌++◌}
use Rattle.std.proofs.Common.{refl, sym, ap, ◌∙◌, subst}
use Rattle.std.proofs.lemmas.List.{append-nil}
use Rattle.dag_forest.specs.declared.entry.Entry.{Entry}
use Rattle.c_types.specs.CType.{CType}
use Rattle.c_meaning.specs.declared.core_expr.Conversion.TheVariants as to
use Rattle.c_meaning.specs.declared.core_expr.CoreKind.{CoreKind}
use Rattle.c_meaning.specs.declared.core_expr.CoreKind.TheVariants as kind
use Rattle.c_meaning.specs.CoreTrees.{CoreOf, Core, CoresOf, NoCore, kids_of, one, two, type_of, what_of, seen, all_seen}
use Rattle.lowered_forms.specs.Contexts.{Context}
use Rattle.lowered_forms.specs.Expressions.{low_e, low_test, parts_of, plain_row, row, row_by, tested_row, is_test}
use Rattle.lowered_forms.specs.Lows.{Low}
use Rattle.lowered_forms.specs.Values.{Lowered, Part, of_two, then_low}
use Rattle.lowering_steps.specs.declared.operand.Operand.{Operand}
use Rattle.lowering_steps.specs.declared.state.State.{State}
use Rattle.lowering_steps.specs.Operands.{typed_of}
use Rattle.lowering_acts.specs.declared.forms.Form.{Form}
use Rattle.lowering_acts.specs.declared.forms.Form.TheVariants as form
use Rattle.lowering_acts.specs.Forms.{form_of}
use Rattle.lowering_acts.specs.Gives.{Gives}
use Rattle.lowering_acts.specs.Rows.{one_row, two_row}
use Rattle.lowering_steps.proofs.lemmas.Stating.{with_block}
use Rattle.c_lower_expr.specs.Lowering.{LowersTo, Lowers}
use Rattle.c_lower_expr.specs.Marks.{marks, all_marks}
use Rattle.c_lower_expr.specs.Pairs.{LowersBoth}
use Rattle.c_lower_expr.specs.Passing.{part_of}
use Rattle.c_lower_expr.proofs.lemmas.Marking.{tail_is}
use Rattle.c_lower_expr.proofs.lemmas.Pairing.{pair_gives}
use Rattle.c_lower_expr.proofs.lemmas.Stepping.{comes_as, shows_as, to_as, used_as, gives_to, then_give}

-- ---- an expression, behind its own mark

row_is : (s : Context) (k : ℕ → CType) (e : CoreOf ℕ) (l : Low) → row s (what_of e) (k (type_of e)) (parts_of s (all_seen k (kids_of e))) l ≡ low_e s (seen k e) l
row_is s k (Core what of line kids) l = refl

tested_is : (s : Context) (k : ℕ → CType) (e : CoreOf ℕ) (n : ℕ) (when : Bool) (l : Low) → tested_row s (what_of e) (k (type_of e)) (parts_of s (all_seen k (kids_of e))) n when l ≡ low_test s (seen k e) n when l
tested_is s k (Core what of line kids) n when l = refl

pub row_goes : (s : Context) (k : ℕ → CType) (e : CoreOf ℕ) (b m : Bool) (u : State) (ms ns : List Bool) (v : Operand) (t : State) (os : List Bool)
    → is_test (what_of e) ≡ b → ms ≡ m ∷ ns
    → LowersTo (λ l. row_by b s (what_of e) (k (type_of e)) (parts_of s (all_seen k (kids_of e))) l) (all_marks (all_seen k (kids_of e))) u ns v t os
    → LowersTo (λ l. low_e s (seen k e) l) (marks (seen k e)) u ms v t os
row_goes s k e b m u ms ns v t os is mark a = record {
  is = λ l rest h q.
      let x = a.is l rest h (tail_is k e m ns rest (sym mark ∙ q)) in
      (comes_as t v _ (low_e s (seen k e) l) (ap (λ y. row_by y s (what_of e) (k (type_of e)) (parts_of s (all_seen k (kids_of e))) l) (sym is) ∙ row_is s k e l) x.0, x.1);
}

pub test_goes : (s : Context) (k : ℕ → CType) (e : CoreOf ℕ) (n : ℕ) (when m : Bool) (u : State) (ms ns : List Bool) (t : State) (os : List Bool)
    → ms ≡ m ∷ ns
    → Lowers (λ l. tested_row s (what_of e) (k (type_of e)) (parts_of s (all_seen k (kids_of e))) n when l) (all_marks (all_seen k (kids_of e))) u ns t os
    → Lowers (λ l. low_test s (seen k e) n when l) (marks (seen k e)) u ms t os
test_goes s k e n when m u ms ns t os mark a = record {
  is = λ l rest h q.
      let x = a.is l rest h (tail_is k e m ns rest (sym mark ∙ q)) in
      (shows_as t _ (low_test s (seen k e) n when l) (tested_is s k e n when l) x.0, x.1);
}

pub seen_type : (k : ℕ → CType) (a : CoreOf ℕ) → k (type_of a) ≡ type_of (seen k a)
seen_type k (Core what of line kids) = refl

-- ---- the parts that an expression has

abbrev pub PlainGoes : Context → (ℕ → CType) → CoreKind → CType → CoresOf ℕ → State → List Bool → Operand → State → List Bool → Type 0
PlainGoes s k what of kids u ms v t ns = LowersTo (λ l. plain_row s what of (parts_of s (all_seen k kids)) l) (all_marks (all_seen k kids)) u ms v t ns

pub plain_as : (s : Context) (k : ℕ → CType) (what : CoreKind) (of : CType) (kids others : CoresOf ℕ) (u : State) (ms : List Bool) (v : Operand) (t : State) (ns : List Bool)
    → kids ≡ others → PlainGoes s k what of others u ms v t ns → PlainGoes s k what of kids u ms v t ns
plain_as s k what of kids others u ms v t ns e h = subst (λ (xs : CoresOf ℕ). PlainGoes s k what of xs u ms v t ns) (sym e) h

abbrev pub TestedGoes : Context → (ℕ → CType) → CoreKind → CType → ℕ → Bool → CoresOf ℕ → State → List Bool → State → List Bool → Type 0
TestedGoes s k what of n when kids u ms t ns = Lowers (λ l. tested_row s what of (parts_of s (all_seen k kids)) n when l) (all_marks (all_seen k kids)) u ms t ns

pub tested_as : (s : Context) (k : ℕ → CType) (what : CoreKind) (of : CType) (n : ℕ) (when : Bool) (kids others : CoresOf ℕ) (u : State) (ms : List Bool) (t : State) (ns : List Bool)
    → kids ≡ others → TestedGoes s k what of n when others u ms t ns → TestedGoes s k what of n when kids u ms t ns
tested_as s k what of n when kids others u ms t ns e h = subst (λ (xs : CoresOf ℕ). TestedGoes s k what of n when xs u ms t ns) (sym e) h

pub leaf_goes : (s : Context) (k : ℕ → CType) (what : CoreKind) (of : CType) (kids : CoresOf ℕ) (u : State) (ms : List Bool) (v : Operand) (es : List Entry)
    → kids ≡ NoCore → Gives u.block (λ l. plain_row s what of [] l) v es → PlainGoes s k what of kids u ms v (with_block u es) ms
leaf_goes s k what of kids u ms v es e g = plain_as s k what of kids NoCore u ms v (with_block u es) ms e (gives_to (λ l. plain_row s what of [] l) u ms v es g)

-- ---- one part, and then one act

pub one_is : (s : Context) (what : CoreKind) (of : CType) (a : Part) (l : Low) → form_of what ≡ form.One
    → then_low (a.value l) (λ v l1. one_row s what of a.tree v l1) ≡ plain_row s what of (a ∷ []) l
one_is s kind.Pointed of a l e = refl
one_is s (kind.Member offset first width) of a l e = refl
one_is s kind.Read of a l e = refl
one_is s kind.Address of a l e = refl
one_is s kind.First of a l e = refl
one_is s (kind.Convert to.Void) of a l e = refl
one_is s (kind.Convert to.Pointer) of a l e = refl
one_is s (kind.Convert (to.Integer x)) of a l e = refl
one_is s (kind.Unary o) of a l e = refl
one_is s what of a l e = absurd cc

pub one_goes : (s : Context) (k : ℕ → CType) (what : CoreKind) (of : CType) (kids : CoresOf ℕ) (a : CoreOf ℕ) (u m : State) (ms ns : List Bool) (v w : Operand) (es : List Entry)
    → form_of what ≡ form.One → kids ≡ one a
    → LowersTo (λ l. low_e s (seen k a) l) (marks (seen k a)) u ms v m ns → Gives m.block (λ l. one_row s what of (seen k a) (typed_of v) l) w es
    → PlainGoes s k what of kids u ms w (with_block m es) ns
one_goes s k what of kids a u m ms ns v w es f e x g =
    plain_as s k what of kids (one a) u ms w (with_block m es) ns e
    (used_as (λ l. plain_row s what of (part_of s (seen k a) ∷ []) l) (marks (seen k a)) (marks (seen k a) ++ []) u ms w (with_block m es) ns (sym (append-nil (marks (seen k a))))
    (to_as (λ l. then_low (low_e s (seen k a) l) (λ y l1. one_row s what of (seen k a) y l1)) (λ l. plain_row s what of (part_of s (seen k a) ∷ []) l) (marks (seen k a)) u ms w (with_block m es) ns
    (λ l. one_is s what of (part_of s (seen k a)) l f)
    (then_give (λ l. low_e s (seen k a) l) (λ y l1. one_row s what of (seen k a) y l1) (marks (seen k a)) u m ms ns v w es x g)))

-- ---- two parts, and then one act

pub two_is : (s : Context) (what : CoreKind) (of : CType) (a b : Part) (l : Low) → form_of what ≡ form.Two
    → of_two a b l (λ v w l1. two_row s what of a.tree v w l1) ≡ plain_row s what of (a ∷ b ∷ []) l
two_is s (kind.Binary o signed) of a b l e = refl
two_is s (kind.Move size back) of a b l e = refl
two_is s (kind.Difference size) of a b l e = refl
two_is s kind.Assign of a b l e = refl
two_is s (kind.Change by) of a b l e = refl
two_is s (kind.Postfix by) of a b l e = refl
two_is s what of a b l e = absurd cc

-- two parts' marks
pub used_two : (xs ys : List Bool) → xs ++ ys ≡ xs ++ (ys ++ [])
used_two xs ys = ap (λ zs. xs ++ zs) (sym (append-nil ys))

pub two_goes : (s : Context) (k : ℕ → CType) (what : CoreKind) (of : CType) (kids : CoresOf ℕ) (a b : CoreOf ℕ) (u m : State) (ms ns : List Bool) (v w r : Operand) (es : List Entry)
    → form_of what ≡ form.Two → kids ≡ two a b
    → LowersBoth s (seen k a) (seen k b) u ms v w m ns → Gives m.block (λ l. two_row s what of (seen k a) (typed_of v) (typed_of w) l) r es
    → PlainGoes s k what of kids u ms r (with_block m es) ns
two_goes s k what of kids a b u m ms ns v w r es f e x g =
    let step : Low → Lowered = λ l. plain_row s what of (part_of s (seen k a) ∷ part_of s (seen k b) ∷ []) l in
    plain_as s k what of kids (two a b) u ms r (with_block m es) ns e
    (used_as step (marks (seen k a) ++ marks (seen k b)) (marks (seen k a) ++ (marks (seen k b) ++ [])) u ms r (with_block m es) ns (used_two (marks (seen k a)) (marks (seen k b)))
    (to_as (λ l. of_two (part_of s (seen k a)) (part_of s (seen k b)) l (λ y z l1. two_row s what of (seen k a) y z l1)) step (marks (seen k a) ++ marks (seen k b)) u ms r (with_block m es) ns
    (λ l. two_is s what of (part_of s (seen k a)) (part_of s (seen k b)) l f)
    (pair_gives s (seen k a) (seen k b) (λ y z l1. two_row s what of (seen k a) y z l1) u m ms ns v w r es x g)))

-- ---- the kinds of expressions with other forms

abbrev kind_by : Form → CoreKind → CoreKind
kind_by form.Conditional what = kind.Conditional
kind_by form.Comma what = kind.Comma
kind_by (form.Call n) what = kind.Call n
kind_by f what = what

kind_is : (what : CoreKind) → what ≡ kind_by (form_of what) what
kind_is kind.Comma = refl
kind_is what = refl

pub comma_kind : (what : CoreKind) → form_of what ≡ form.Comma → what ≡ kind.Comma
comma_kind what e = kind_is what ∙ ap (λ f. kind_by f what) e

pub conditional_kind : (what : CoreKind) → form_of what ≡ form.Conditional → what ≡ kind.Conditional
conditional_kind what e = kind_is what ∙ ap (λ f. kind_by f what) e

pub call_kind : (what : CoreKind) (n : ℕ) → form_of what ≡ form.Call n → what ≡ kind.Call n
call_kind what n e = kind_is what ∙ ap (λ f. kind_by f what) e
