-- The parts of a comma expression one behind the other: the value so far, and the parts that are left.
use Rattle.std.specs.Prelude.{◌≡◌, ℕ, Bool, List, [], ◌∷◌, ◌++◌}
use Rattle.std.proofs.Common.{refl, sym, ap, ◌∙◌, subst, drop, get_or, length, ◌<◌, ◌+◌}
use Rattle.std.proofs.lemmas.List.{append_assoc}
use Rattle.c_types.specs.CType.{CType}
use Rattle.c_meaning.specs.declared.core_expr.CoreKind.{CoreKind}
use Rattle.c_meaning.specs.declared.core_expr.CoreKind.TheVariants as kind
use Rattle.c_meaning.specs.CoreTrees.{CoreOf, CoresOf, Cores, cores_of, seen, all_seen}
use Rattle.lowered_forms.specs.Contexts.{Context}
use Rattle.lowered_forms.specs.Expressions.{low_e, parts_of, comma_from, plain_row}
use Rattle.lowered_forms.specs.Lows.{Low}
use Rattle.lowered_forms.specs.Values.{Lowered, Part, with_value}
use Rattle.lowering_steps.specs.declared.operand.Operand.{Operand}
use Rattle.lowering_steps.specs.declared.state.State.{State}
use Rattle.lowering_steps.specs.Operands.{typed_of}
use Rattle.lowering_steps.specs.States.{Shows}
use Rattle.lowering_acts.specs.declared.forms.Form.TheVariants as form
use Rattle.lowering_acts.specs.Forms.{form_of}
use Rattle.c_lower_expr.specs.Lowering.{LowersTo}
use Rattle.c_lower_expr.specs.Marks.{marks, all_marks}
use Rattle.c_lower_expr.specs.Passing.{part_of}
use Rattle.c_lower_expr.proofs.lemmas.Marking.{left_is}
use Rattle.c_lower_expr.proofs.lemmas.Rows.{PlainGoes, comma_kind}

-- what the parts come to behind a value
abbrev pub comma_behind : List Part → Lowered → Lowered
comma_behind [] r = r
comma_behind (a ∷ ps) r = comma_behind ps (a.value r.low)

comma_is : (a : Part) (ps : List Part) (l : Low) → comma_behind ps (a.value l) ≡ comma_from a ps l
comma_is a [] l = refl
comma_is a (b ∷ ps) l = comma_is b ps (a.value l).low

-- a value came of the first parts, and these are left
pub record ComesOf (t : State) (v : Operand) (ps : List Part) (r : Lowered) : Type 0 where
  pub low : Low
  pub is : comma_behind ps (with_value (typed_of v) low) ≡ r
  pub shows : Shows t low

pub record CommaLeft (c : Context) (k : ℕ → CType) (step : Low → Lowered) (used : List Bool) (s : State) (ms : List Bool) (left : List (CoreOf ℕ)) (v : Operand) (t : State) (ns : List Bool) : Type 0 where
  pub is : (l : Low) (rest : List Bool) → Shows s l → ms ≡ used ++ rest
      → ComesOf t v (parts_of c (all_seen k (cores_of left))) (step l) × (ns ≡ all_marks (all_seen k (cores_of left)) ++ rest)

-- those of an expression of this kind with these parts
abbrev pub CommaGoing : Context → (ℕ → CType) → CoreKind → CType → CoresOf ℕ → State → List Bool → List (CoreOf ℕ) → Operand → State → List Bool → Type 0
CommaGoing c k what of kids s ms left v t ns = CommaLeft c k (λ l. plain_row c what of (parts_of c (all_seen k kids)) l) (all_marks (all_seen k kids)) s ms left v t ns

pub comma_begins : (c : Context) (k : ℕ → CType) (what : CoreKind) (of : CType) (kids : CoresOf ℕ) (a : CoreOf ℕ) (others : List (CoreOf ℕ)) (s : State) (ms : List Bool) (v : Operand) (t : State) (ns : List Bool)
    → form_of what ≡ form.Comma → kids ≡ Cores a (cores_of others)
    → LowersTo (λ l. low_e c (seen k a) l) (marks (seen k a)) s ms v t ns → CommaGoing c k what of kids s ms others v t ns
comma_begins c k what of kids a others s ms v t ns f e g =
    let goes : CommaGoing c k kind.Comma of (Cores a (cores_of others)) s ms others v t ns = record {
      is = λ l rest h m.
          let x = g.is l (all_marks (all_seen k (cores_of others)) ++ rest) h (m ∙ append_assoc (marks (seen k a)) (all_marks (all_seen k (cores_of others))) rest) in
          let ps = parts_of c (all_seen k (cores_of others)) in
          (record { low = x.0.low; is = sym (ap (λ r. comma_behind ps r) x.0.is) ∙ comma_is (part_of c (seen k a)) ps l; shows = x.0.shows }, x.1);
    } in
    subst (λ (cs : CoresOf ℕ). CommaGoing c k what of cs s ms others v t ns) (sym e)
    (subst (λ w. CommaGoing c k w of (Cores a (cores_of others)) s ms others v t ns) (sym (comma_kind what f)) goes)

pub comma_goes_on : (c : Context) (k : ℕ → CType) (step : Low → Lowered) (used : List Bool) (list : List (CoreOf ℕ)) (i : ℕ) (a : CoreOf ℕ) (s m t : State) (ms ns os : List Bool) (v w : Operand)
    → i < length list → a ≡ get_or list i a → CommaLeft c k step used s ms (drop i list) v m ns
    → LowersTo (λ l. low_e c (seen k a) l) (marks (seen k a)) m ns w t os → CommaLeft c k step used s ms (drop (i + 1) list) w t os
comma_goes_on c k step used list i a s m t ms ns os v w lt is f g =
    let others = drop (i + 1) list in
    let more = all_marks (all_seen k (cores_of others)) in
    let ps = parts_of c (all_seen k (cores_of others)) in
    let left : CommaLeft c k step used s ms (a ∷ others) v m ns = subst (λ xs. CommaLeft c k step used s ms xs v m ns) (left_is list i a lt is) f in
    record {
      is = λ l rest h e.
          let x = left.is l rest h e in
          let y = g.is x.0.low (more ++ rest) x.0.shows (x.1 ∙ append_assoc (marks (seen k a)) more rest) in
          (record { low = y.0.low; is = sym (ap (λ r. comma_behind ps r) y.0.is) ∙ x.0.is; shows = y.0.shows }, y.1);
    }

pub comma_goes : (c : Context) (k : ℕ → CType) (what : CoreKind) (of : CType) (kids : CoresOf ℕ) (left : List (CoreOf ℕ)) (s : State) (ms : List Bool) (v : Operand) (t : State) (ns : List Bool)
    → left ≡ [] → CommaGoing c k what of kids s ms left v t ns → PlainGoes c k what of kids s ms v t ns
comma_goes c k what of kids left s ms v t ns none g =
    let done : CommaGoing c k what of kids s ms [] v t ns = subst (λ xs. CommaGoing c k what of kids s ms xs v t ns) none g in
    record {
      is = λ l rest h m.
          let x = done.is l rest h m in
          (record { low = x.0.low; is = sym x.0.is; shows = x.0.shows }, x.1);
    }
