-- `a ? b : c`: a test, and two ways that keep their values in one slot.
use Rattle.std.specs.Prelude.{◌≡◌, ℕ, ℤ, Bool, false, List, [], ◌++◌}
use Rattle.std.proofs.Common.{sym, ap, ◌∙◌, subst}
use Rattle.std.proofs.lemmas.List.{append_assoc, append-nil}
use Rattle.dag_forest.specs.declared.entry.Entry.{Entry}
use Rattle.c_types.specs.CType.{CType}
use Rattle.c_meaning.specs.declared.core_expr.CoreKind.{CoreKind}
use Rattle.c_meaning.specs.declared.core_expr.CoreKind.TheVariants as kind
use Rattle.c_meaning.specs.CoreTrees.{CoreOf, CoresOf, three, seen}
use Rattle.lowered_forms.specs.Conditionals.{Sort, sort_of, kept_in, sort_read}
use Rattle.lowered_forms.specs.Contexts.{Context}
use Rattle.lowered_forms.specs.Expressions.{low_e, low_test}
use Rattle.lowered_forms.specs.Lows.{Low, jumped, marked, with_label, slot_offset, with_slot}
use Rattle.lowered_forms.specs.Values.{Lowered, with_value, placed}
use Rattle.lowering_steps.specs.declared.operand.Operand.{Operand}
use Rattle.lowering_steps.specs.declared.state.State.{State}
use Rattle.lowering_steps.specs.Asking.{Acts, Places}
use Rattle.lowering_steps.specs.Operands.{typed_of}
use Rattle.lowering_steps.specs.States.{Shows}
use Rattle.lowering_steps.proofs.lemmas.Stating.{with_block, places_comes}
use Rattle.lowering_acts.specs.declared.forms.Form.TheVariants as form
use Rattle.lowering_acts.specs.Forms.{form_of}
use Rattle.c_lower_expr.specs.Lowering.{LowersTo, Lowers}
use Rattle.c_lower_expr.specs.Marks.{marks}
use Rattle.c_lower_expr.proofs.lemmas.Rows.{PlainGoes, plain_as, conditional_kind}
use Rattle.c_lower_expr.proofs.lemmas.Stepping.{comes_as, then_act}

pub way_goes : (c : Context) (k : ℕ → CType) (e : CoreOf ℕ) (sort : Sort) (z : ℤ) (s m : State) (ms ns : List Bool) (v : Operand) (es : List Entry)
    → LowersTo (λ l. low_e c (seen k e) l) (marks (seen k e)) s ms v m ns → Acts m.block (λ l. kept_in sort z (with_value (typed_of v) l)) es
    → Lowers (λ l. kept_in sort z (low_e c (seen k e) l)) (marks (seen k e)) s ms (with_block m es) ns
way_goes c k e sort z s m ms ns v es f act = then_act (λ l. low_e c (seen k e) l) (λ x l. kept_in sort z (with_value x l)) (marks (seen k e)) s m ms ns v es f act

-- the test and the first way, the second way from its label on, and what the slot holds then
pub record Choice (c : Context) (k : ℕ → CType) (sort : Sort) (z : ℤ) (n end : ℕ) (x y w : CoreOf ℕ) (ms : List Bool) (s0 s1 s2 s3 s4 s5 s6 s7 s8 t : State) (ns os ps : List Bool) : Type 0 where
  pub slot : (l : Low) → Shows s0 l → (z ≡ slot_offset l) × Shows s1 (with_slot l)
  pub label : (l : Low) → Shows s1 l → (n ≡ l.labels) × Shows s2 (with_label l)
  pub other : (l : Low) → Shows s2 l → (end ≡ l.labels) × Shows s3 (with_label l)
  pub test : Lowers (λ l. low_test c (seen k x) n false l) (marks (seen k x)) s3 ms s4 ns
  pub first : Lowers (λ l. kept_in sort z (low_e c (seen k y) l)) (marks (seen k y)) s4 ns s5 os
  pub jump : (l : Low) → Shows s5 l → Shows s6 (jumped end l)
  pub mark : (l : Low) → Shows s6 l → Shows s7 (marked n l)
  pub second : Lowers (λ l. kept_in sort z (low_e c (seen k w) l)) (marks (seen k w)) s7 os s8 ps
  pub last : (l : Low) → Shows s8 l → Shows t (marked end l)

used_three : (xs ys zs ms rest : List Bool) → ms ≡ (xs ++ (ys ++ (zs ++ []))) ++ rest → ms ≡ xs ++ (ys ++ (zs ++ rest))
used_three xs ys zs ms rest e =
    e ∙ ap (λ us. (xs ++ (ys ++ us)) ++ rest) (append-nil zs) ∙ append_assoc xs (ys ++ zs) rest ∙ ap (λ us. xs ++ us) (append_assoc ys zs rest)

pub choice_goes : (c : Context) (k : ℕ → CType) (what : CoreKind) (of : CType) (kids : CoresOf ℕ) (sort : Sort) (z : ℤ) (n end : ℕ) (x y w : CoreOf ℕ) (ms : List Bool)
    (s0 s1 s2 s3 s4 s5 s6 s7 s8 t : State) (ns os ps : List Bool) (v : Operand) (es : List Entry)
    → form_of what ≡ form.Conditional → kids ≡ three x y w → sort ≡ sort_of of
    → Choice c k sort z n end x y w ms s0 s1 s2 s3 s4 s5 s6 s7 s8 t ns os ps → Places t.block (sort_read sort z) v es
    → PlainGoes c k what of kids s0 ms v (with_block t es) ps
choice_goes c k what of kids sort z n end x y w ms s0 s1 s2 s3 s4 s5 s6 s7 s8 t ns os ps v es f e so d reads =
    let goes : PlainGoes c k kind.Conditional of (three x y w) s0 ms v (with_block t es) ps = record {
      is = λ l rest h m.
          let at = d.slot l h in
          let one_is = d.label (with_slot l) at.1 in
          let two_is = d.other (with_label (with_slot l)) one_is.1 in
          let l1 : Low = with_label (with_label (with_slot l)) in
          let a = d.test.is l1 (marks (seen k y) ++ (marks (seen k w) ++ rest)) two_is.1 (used_three (marks (seen k x)) (marks (seen k y)) (marks (seen k w)) ms rest m) in
          let l2 : Low = low_test c (seen k x) n false l1 in
          let b = d.first.is l2 (marks (seen k w) ++ rest) a.0 a.1 in
          let l3 : Low = kept_in sort z (low_e c (seen k y) l2) in
          let l4 : Low = marked n (jumped end l3) in
          let g = d.second.is l4 rest (d.mark (jumped end l3) (d.jump l3 b.0)) b.1 in
          let l5 : Low = kept_in sort z (low_e c (seen k w) l4) in
          let done = places_comes t (marked end l5) (sort_read sort z) v es (d.last l5 g.0) reads in
          let step : Sort → ℤ → ℕ → ℕ → Lowered = λ q o i j.
          placed (sort_read q o) (marked j (kept_in q o (low_e c (seen k w) (marked i (jumped j (kept_in q o (low_e c (seen k y) (low_test c (seen k x) i false l1)))))))) in (
            comes_as (with_block t es) v (step sort z n end) (step (sort_of of) (slot_offset l) l.labels (with_label l).labels)
                (ap (λ q. step q z n end) so ∙ ap (λ o. step (sort_of of) o n end) at.0 ∙ ap (λ i. step (sort_of of) (slot_offset l) i end) one_is.0 ∙ ap (λ j. step (sort_of of) (slot_offset l) l.labels j) two_is.0)
                done,
            g.1,
          );
    } in
    plain_as c k what of kids (three x y w) s0 ms v (with_block t es) ps e
    (subst (λ q. PlainGoes c k q of (three x y w) s0 ms v (with_block t es) ps) (sym (conditional_kind what f)) goes)
