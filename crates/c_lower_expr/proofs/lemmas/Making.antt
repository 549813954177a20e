-- An operand that is passed behind others, and what a call gives.
use Rattle.std.specs.Prelude.{◌≡◌, ℕ, suc, ℤ, Bool, true, false, List, [], ◌∷◌, ◌++◌}
use Rattle.std.proofs.Common.{sym, ap, ◌∙◌, subst}
use Rattle.std.proofs.lemmas.List.{map-append}
use Rattle.op_forest.specs.declared.suffix.Suffix.{Suffix}
use Rattle.dag_forest.specs.declared.entry.Entry.{Entry}
use Rattle.c_types.specs.CType.{CType}
use Rattle.c_meaning.specs.Types.{is_void, is_pointer, is_record}
use Rattle.c_rows_agree.specs.Typed.{Typed}
use Rattle.lowered_forms.specs.Accesses.{copied}
use Rattle.lowered_forms.specs.Calls.{Passed, passed_by, all_passed, called_in, result_suffix, whole_given, nothing_given, given_by, made}
use Rattle.lowered_forms.specs.Contexts.{Context}
use Rattle.lowered_forms.specs.Lows.{Low, slot_offset, with_slot}
use Rattle.lowered_forms.specs.Places.{local_place}
use Rattle.lowered_forms.specs.Values.{Lowered, with_value}
use Rattle.lowering_steps.specs.declared.operand.Operand.{Operand}
use Rattle.lowering_steps.specs.declared.state.State.{State}
use Rattle.lowering_steps.specs.Asking.{Acts}
use Rattle.lowering_steps.specs.Operands.{typed_of}
use Rattle.lowering_steps.specs.States.{Comes, Shows}
use Rattle.lowering_steps.proofs.lemmas.Stating.{with_block, acts_shows}
use Rattle.lowering_acts.specs.Gives.{Gives}
use Rattle.c_lower_expr.specs.Passing.{all_typed, ShowsPassed}
use Rattle.c_lower_expr.proofs.lemmas.Stepping.{comes_as, shows_as, gives_comes}

-- ---- an operand behind others

pub word_behind : (b : Bool) (c : Context) (of : CType) (s : State) (vs us : List Operand) (n : ℕ) (v : Operand) → b ≡ false → us ≡ vs ++ v ∷ []
    → (p : Passed) → ShowsPassed s vs n p → ShowsPassed s us n (passed_by b c of p (with_value (typed_of v) p.low))
word_behind b c of s vs us n v is_not are p h =
    subst (λ x. ShowsPassed s us n (passed_by x c of p (with_value (typed_of v) p.low))) (sym is_not)
    (record { values = ap all_typed are ∙ map-append typed_of vs (v ∷ []) ∙ ap (λ ys. ys ++ typed_of v ∷ []) h.values; next_is = h.next_is; shows = h.shows })

pub whole_behind : (b : Bool) (c : Context) (of : CType) (s : State) (vs us : List Operand) (n m : ℕ) (v place : Operand) (es : List Entry)
    → b ≡ true → us ≡ vs ++ place ∷ [] → m ≡ suc n → typed_of place ≡ local_place c n of
    → Acts s.block (λ l. copied c.unit.tags of (typed_of place) (typed_of v) l) es
    → (p : Passed) → ShowsPassed s vs n p → ShowsPassed (with_block s es) us m (passed_by b c of p (with_value (typed_of v) p.low))
whole_behind b c of s vs us n m v place es is_so are next at act p h =
    let there : typed_of place ≡ local_place c p.next of = at ∙ ap (λ i. local_place c i of) h.next_is in
    let step : Typed → Low = λ q. copied c.unit.tags of q (typed_of v) p.low in
    subst (λ x. ShowsPassed (with_block s es) us m (passed_by x c of p (with_value (typed_of v) p.low))) (sym is_so)
    (record {
      values = ap all_typed are ∙ map-append typed_of vs (place ∷ []) ∙ (λ i. h.values i ++ there i ∷ []);
      next_is = next ∙ ap suc h.next_is;
      shows = shows_as (with_block s es) (step (typed_of place)) (step (local_place c p.next of)) (ap step there) (acts_shows s p.low (λ l. copied c.unit.tags of (typed_of place) (typed_of v) l) es h.shows act);
    })

-- ---- what a call gives

made_as : (c : Context) (of : CType) (n : ℕ) (b w : Bool) (values words : List Operand) (f : Operand) (l : Low) → values ≡ f ∷ words → b ≡ is_record of → w ≡ is_void of
    → given_by b w c of n (typed_of f) (all_typed words) l ≡ made c of n (all_typed values) l
made_as c of n b w values words f l are whole void =
    (λ i. given_by (whole i) (void i) c of n (typed_of f) (all_typed words) l) ∙ sym (ap (λ vs. made c of n (all_typed vs) l) are)

pub whole_made : (c : Context) (of : CType) (n : ℕ) (values words : List Operand) (f place v : Operand) (s : State) (es : List Entry)
    → values ≡ f ∷ words → true ≡ is_record of → typed_of place ≡ local_place c n of
    → Gives s.block (λ l. whole_given (typed_of place) (typed_of f) (all_typed words) l) v es
    → (l : Low) → Shows s l → Comes (with_block s es) v (made c of n (all_typed values) l)
whole_made c of n values words f place v s es are is_so at g l h =
    let step : Typed → Lowered = λ p. whole_given p (typed_of f) (all_typed words) l in
    comes_as (with_block s es) v (step (typed_of place)) (made c of n (all_typed values) l)
    (ap step at ∙ made_as c of n true (is_void of) values words f l are is_so (λ i. is_void of))
    (gives_comes s l (λ l1. whole_given (typed_of place) (typed_of f) (all_typed words) l1) v es h g)

pub nothing_made : (c : Context) (of : CType) (n : ℕ) (values words : List Operand) (f v : Operand) (s : State) (es : List Entry)
    → values ≡ f ∷ words → false ≡ is_record of → true ≡ is_void of
    → Gives s.block (λ l. nothing_given (typed_of f) (all_typed words) l) v es
    → (l : Low) → Shows s l → Comes (with_block s es) v (made c of n (all_typed values) l)
nothing_made c of n values words f v s es are is_not is_so g l h =
    comes_as (with_block s es) v (nothing_given (typed_of f) (all_typed words) l) (made c of n (all_typed values) l)
    (made_as c of n false true values words f l are is_not is_so)
    (gives_comes s l (λ l1. nothing_given (typed_of f) (all_typed words) l1) v es h g)

pub scalar_made : (c : Context) (of : CType) (n : ℕ) (values words : List Operand) (f v : Operand) (x : Suffix) (z : ℤ) (s m : State) (es : List Entry)
    → values ≡ f ∷ words → false ≡ is_record of → false ≡ is_void of → x ≡ result_suffix (is_pointer of)
    → ((l : Low) → Shows s l → (z ≡ slot_offset l) × Shows m (with_slot l))
    → Gives m.block (λ l. called_in z x (typed_of f) (all_passed (all_typed words) l)) v es
    → (l : Low) → Shows s l → Comes (with_block m es) v (made c of n (all_typed values) l)
scalar_made c of n values words f v x z s m es are is_not not_void suffix slot g l h =
    let at = slot l h in
    let step : ℤ → Suffix → Lowered = λ o y. called_in o y (typed_of f) (all_passed (all_typed words) (with_slot l)) in
    comes_as (with_block m es) v (step z x) (made c of n (all_typed values) l)
    ((λ i. step (at.0 i) (suffix i)) ∙ made_as c of n false false values words f l are is_not not_void)
    (gives_comes m (with_slot l) (λ l1. called_in z x (typed_of f) (all_passed (all_typed words) l1)) v es at.1 g)
