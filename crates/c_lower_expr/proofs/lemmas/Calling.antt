-- Calls: arguments behind one another, and the call.
use Rattle.std.specs.Prelude.{◌≡◌, ℕ, Bool, true, false, List, [], ◌∷◌, ◌++◌}
use Rattle.std.proofs.Common.{refl, sym, ap, ◌∙◌, subst, drop, get_or, length, ◌<◌, ◌+◌}
use Rattle.std.proofs.lemmas.List.{append_assoc}
use Rattle.c_types.specs.CType.{CType}
use Rattle.c_meaning.specs.declared.core_expr.CoreKind.{CoreKind}
use Rattle.c_meaning.specs.declared.core_expr.CoreKind.TheVariants as kind
use Rattle.c_meaning.specs.CoreTrees.{CoreOf, CoresOf, NoCore, Cores, cores_of, type_of, seen, all_seen}
use Rattle.c_meaning.specs.Types.{is_record}
use Rattle.c_meaning.specs.Values.{CoreTrees}
use Rattle.lowered_forms.specs.Calls.{Passed, all_held, passed_by, with_argument, held_for, with_arguments, first_passed, made, made_with}
use Rattle.lowered_forms.specs.Contexts.{Context}
use Rattle.lowered_forms.specs.Expressions.{low_e, parts_of}
use Rattle.lowered_forms.specs.Lows.{Low}
use Rattle.lowered_forms.specs.Straight.{straight}
use Rattle.lowered_forms.specs.Values.{Lowered, Part, with_value, nothing}
use Rattle.lowering_steps.specs.declared.operand.Operand.{Operand}
use Rattle.lowering_steps.specs.declared.state.State.{State}
use Rattle.lowering_steps.specs.Operands.{typed_of}
use Rattle.lowering_steps.specs.States.{Comes, Shows}
use Rattle.lowering_acts.specs.declared.forms.Form.TheVariants as form
use Rattle.lowering_acts.specs.Forms.{form_of}
use Rattle.c_lower_expr.specs.Lowering.{LowersTo}
use Rattle.c_lower_expr.specs.Marks.{marks, all_marks}
use Rattle.c_lower_expr.specs.Passing.{all_typed, part_of, ShowsPassed, Passes}
use Rattle.c_lower_expr.proofs.lemmas.Marking.{head_is, left_is}
use Rattle.c_lower_expr.proofs.lemmas.Rows.{PlainGoes, plain_as, call_kind, seen_type}
use Rattle.c_lower_expr.proofs.lemmas.Stepping.{comes_as}

-- ---- one argument

passed_alike : (b : Bool) (c : Context) (of : CType) (p : Passed) (l : Low) (r : Lowered) → passed_by b c of (record { values = p.values; next = p.next; low = l }) r ≡ passed_by b c of p r
passed_alike true c of p l r = refl
passed_alike false c of p l r = refl

pub argument_goes : (c : Context) (k : ℕ → CType) (a : CoreOf ℕ) (of : CType) (x : Bool) (s m n t : State) (ms more ns : List Bool) (vs ws us : List Operand) (next last : ℕ) (v : Operand)
    → ms ≡ x ∷ more → of ≡ k (type_of a)
    → ((i : ℕ) (l : Low) → Shows s l → ShowsPassed m ws i (all_held x i (all_typed vs) l))
    → LowersTo (λ l. low_e c (seen k a) l) (marks (seen k a)) m ms v n ns
    → ((p : Passed) → ShowsPassed n ws next p → ShowsPassed t us last (passed_by (is_record of) c of p (with_value (typed_of v) p.low)))
    → Passes (λ p. with_argument c (part_of c (seen k a)) (held_for (part_of c (seen k a)) p)) (marks (seen k a)) s ms vs next t ns us last
argument_goes c k a of x s m n t ms more ns vs ws us next last v head type hold goes pass = record {
  is = λ p rest h e.
      let e' = seen k a in
      let straight_is : x ≡ straight e' = head_is e' x more rest (sym head ∙ e) in
      let q : Passed = all_held (straight e') p.next p.values p.low in
      let kept : ShowsPassed m ws p.next q =
      subst (λ b. ShowsPassed m ws p.next (all_held b p.next p.values p.low)) straight_is
      (subst (λ ys. ShowsPassed m ws p.next (all_held x p.next ys p.low)) h.values (hold p.next p.low h.shows)) in
      let came = goes.is q.low rest kept.shows e in
      let p' : Passed = record { values = q.values; next = q.next; low = came.0.low } in
      let done = pass p' (record { values = kept.values; next_is = h.next_is ∙ kept.next_is; shows = came.0.shows }) in (
        subst (λ r. ShowsPassed t us last r)
            (ap (λ (y : CType). passed_by (is_record y) c y p' (with_value (typed_of v) came.0.low)) (type ∙ seen_type k a)
            ∙ passed_alike (is_record (type_of e')) c (type_of e') q came.0.low (with_value (typed_of v) came.0.low)
            ∙ ap (λ r. passed_by (is_record (type_of e')) c (type_of e') q r) (sym came.0.is))
            done,
        came.1,
      );
}

-- ---- arguments behind one another

pub record PassedSo (c : Context) (t : State) (ws : List Operand) (m : ℕ) (ps : List Part) (all : Passed) : Type 0 where
  pub passed : Passed
  pub shows : ShowsPassed t ws m passed
  pub is : with_arguments c ps passed ≡ all

pub record CallLeft (c : Context) (k : ℕ → CType) (all : Low → Passed) (used : List Bool) (s : State) (ms : List Bool) (left : List (CoreOf ℕ)) (t : State) (ns : List Bool) (ws : List Operand) (m : ℕ) : Type 0 where
  pub is : (l : Low) (rest : List Bool) → Shows s l → ms ≡ used ++ rest
      → PassedSo c t ws m (parts_of c (all_seen k (cores_of left))) (all l) × (ns ≡ all_marks (all_seen k (cores_of left)) ++ rest)

-- what a call with these parts passes
abbrev pub passed_all : Context → ℕ → CoreTrees → Low → Passed
passed_all c n NoCore l = first_passed n (nothing l)
passed_all c n (Cores f cs) l = with_arguments c (parts_of c cs) (first_passed n (low_e c f l))

abbrev pub CallGoing : Context → (ℕ → CType) → ℕ → CoresOf ℕ → State → List Bool → List (CoreOf ℕ) → State → List Bool → List Operand → ℕ → Type 0
CallGoing c k n kids s ms left t ns ws m = CallLeft c k (λ l. passed_all c n (all_seen k kids) l) (all_marks (all_seen k kids)) s ms left t ns ws m

pub call_begins : (c : Context) (k : ℕ → CType) (n : ℕ) (kids : CoresOf ℕ) (f : CoreOf ℕ) (list : List (CoreOf ℕ)) (s t : State) (ms ns : List Bool) (v : Operand) (vs : List Operand)
    → kids ≡ Cores f (cores_of list) → vs ≡ v ∷ [] → LowersTo (λ l. low_e c (seen k f) l) (marks (seen k f)) s ms v t ns
    → CallGoing c k n kids s ms list t ns vs n
call_begins c k n kids f list s t ms ns v vs e one g =
    let goes : CallGoing c k n (Cores f (cores_of list)) s ms list t ns vs n = record {
      is = λ l rest h m.
          let x = g.is l (all_marks (all_seen k (cores_of list)) ++ rest) h (m ∙ append_assoc (marks (seen k f)) (all_marks (all_seen k (cores_of list))) rest) in
          let ps = parts_of c (all_seen k (cores_of list)) in (
            record {
              passed = first_passed n (with_value (typed_of v) x.0.low);
              shows = record { values = ap all_typed one; next_is = refl; shows = x.0.shows };
              is = sym (ap (λ r. with_arguments c ps (first_passed n r)) x.0.is);
            },
            x.1,
          );
    } in
    subst (λ (cs : CoresOf ℕ). CallGoing c k n cs s ms list t ns vs n) (sym e) goes

pub call_goes_on : (c : Context) (k : ℕ → CType) (all : Low → Passed) (used : List Bool) (list : List (CoreOf ℕ)) (i : ℕ) (a : CoreOf ℕ) (s m t : State) (ms ns os : List Bool) (vs ws : List Operand) (n o : ℕ)
    → i < length list → a ≡ get_or list i a → CallLeft c k all used s ms (drop i list) m ns vs n
    → Passes (λ p. with_argument c (part_of c (seen k a)) (held_for (part_of c (seen k a)) p)) (marks (seen k a)) m ns vs n t os ws o
    → CallLeft c k all used s ms (drop (i + 1) list) t os ws o
call_goes_on c k all used list i a s m t ms ns os vs ws n o lt is f g =
    let others = drop (i + 1) list in
    let more = all_marks (all_seen k (cores_of others)) in
    let left : CallLeft c k all used s ms (a ∷ others) m ns vs n = subst (λ xs. CallLeft c k all used s ms xs m ns vs n) (left_is list i a lt is) f in
    record {
      is = λ l rest h e.
          let x = left.is l rest h e in
          let y = g.is x.0.passed (more ++ rest) x.0.shows (x.1 ∙ append_assoc (marks (seen k a)) more rest) in (
            record {
              passed = with_argument c (part_of c (seen k a)) (held_for (part_of c (seen k a)) x.0.passed);
              shows = y.0;
              is = x.0.is;
            },
            y.1,
          );
    }

-- ---- the call

pub call_goes : (c : Context) (k : ℕ → CType) (what : CoreKind) (of type : CType) (kids : CoresOf ℕ) (n : ℕ) (f : CoreOf ℕ) (list left : List (CoreOf ℕ)) (s m t : State) (ms ns : List Bool) (vs : List Operand) (o : ℕ) (v : Operand)
    → form_of what ≡ form.Call n → kids ≡ Cores f (cores_of list) → left ≡ [] → type ≡ of
    → CallGoing c k n kids s ms left m ns vs o
    → ((l : Low) → Shows m l → Comes t v (made c type o (all_typed vs) l))
    → PlainGoes c k what of kids s ms v t ns
call_goes c k what of type kids n f list left s m t ms ns vs o v form_is kids_are none type_is g make =
    let all : CoresOf ℕ = Cores f (cores_of list) in
    let done : CallGoing c k n all s ms [] m ns vs o =
    subst (λ (cs : CoresOf ℕ). CallGoing c k n cs s ms [] m ns vs o) kids_are (subst (λ xs. CallGoing c k n kids s ms xs m ns vs o) none g) in
    let goes : PlainGoes c k (kind.Call n) of all s ms v t ns = record {
      is = λ l rest h e.
          let x = done.is l rest h e in
          let p = x.0.passed in (
            comes_as t v (made c type o (all_typed vs) p.low) (made_with c of (passed_all c n (all_seen k all) l))
                ((λ i. made c (type_is i) (x.0.shows.next_is i) (x.0.shows.values i) p.low) ∙ ap (λ q. made_with c of q) x.0.is)
                (make p.low x.0.shows.shows),
            x.1,
          );
    } in
    plain_as c k what of kids all s ms v t ns kids_are
    (subst (λ w. PlainGoes c k w of all s ms v t ns) (sym (call_kind what n form_is)) goes)
