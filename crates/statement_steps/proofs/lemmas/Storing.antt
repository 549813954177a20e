-- Narrow parameters that are stored one behind the other.
use Rattle.std.specs.Prelude.{◌≡◌, ℕ, suc, ◌+◌, ◌*◌, ◌<◌, ℤ, pos, negsuc, true, false, Bool, Option, Some, slice_get, Result, OnOk, List, [], ◌∷◌, length, map, drop, get_or}
use Rattle.std.proofs.Common.{refl, ap, sym, ◌∙◌, subst, arith}
use Rattle.std.specs.Int.Signed.{lt_z}
use Rattle.std.proofs.lemmas.Bool.{ltb-true}
use Rattle.std.proofs.lemmas.Result.{on_ok_weaker}
use Rattle.objects.specs.declared.width.Width.{Width}
use Rattle.objects.specs.declared.width.Width.TheVariants.{Four}
use Rattle.op_forest.specs.declared.suffix.Suffix.{Suffix}
use Rattle.op_forest.specs.declared.suffix.Suffix.TheVariants.{P}
use Rattle.c_meaning.specs.Scalars.{scalar_of}
use Rattle.c_rows_agree.specs.Places.{loaded, stored_as}
use Rattle.c_rows_agree.specs.Templates.{Given}
use Rattle.c_rows_agree.specs.Typed.{Typed}
use Rattle.c_pointers_agree.specs.Pointers.{local}
use Rattle.lowered_forms.specs.Places.{address_at, local_by, parameter}
use Rattle.lowering_steps.specs.declared.operand.Operand.{Operand}
use Rattle.lowering_steps.specs.Operands.{template_of, typed_of}
use Rattle.statement_steps.proofs.lemmas.Rooting.{stores_behind}
use Rattle.c_types.specs.CType.{CType}
use Rattle.dag_forest.specs.declared.entry.Entry.{Entry}
use Rattle.lowered_forms.specs.Lows.{Low, acted, with_entries}
use Rattle.lowered_statements.specs.FunctionBodies.{parameter_stored, parameters_stored, word_passed}
use Rattle.lowered_statements.specs.Functions.{Function}
use Rattle.lowered_statements.specs.Layouts.{is_narrow}
use Rattle.lowering_steps.specs.Asking.{Acts, Asks, Places}
use Rattle.statement_steps.proofs.lemmas.Lists.{left_is}

-- these are left, from this local and this word on
abbrev pub StoresLeft : Function → ℕ → List CType → List Entry → ℕ → ℕ → List CType → List Entry → Type 0
StoresLeft f first all old n word left new = (l : Low) → l.entries ≡ old → parameters_stored f 0 first all l ≡ parameters_stored f n word left (with_entries new l)

pub stores_begin : (f : Function) (first : ℕ) (all : List CType) (es : List Entry) → StoresLeft f first all es 0 first all es
stores_begin f first all es = λ l e. ap (λ (x : List Entry). parameters_stored f 0 first all (with_entries x l)) e

stores_more : (f : Function) (first : ℕ) (all : List CType) (old : List Entry) (n word : ℕ) (t : CType) (left : List CType) (es fs : List Entry)
    → StoresLeft f first all old n word (t ∷ left) es → Acts es (λ l. parameter_stored (is_narrow f.context.unit.tags t) f n word t l) fs → StoresLeft f first all old (suc n) (suc word) left fs
stores_more f first all old n word t left es fs h act = λ l e. h l e ∙ ap (λ m. parameters_stored f (suc n) (suc word) left m) (act.is (with_entries es l) refl)

none_stored : (f : Function) (n word : ℕ) (t : CType) (es : List Entry) → Acts es (λ l. parameter_stored false f n word t l) es
none_stored f n word t es = record { is = λ l e. ap (λ (x : List Entry). with_entries x l) e }

module _ (type : ℕ → CType) (f : Function) (first : ℕ) (ids : List ℕ) (old : List Entry) (n word m w i : ℕ) (id : ℕ) (es fs : List Entry)
    (lt : i < length ids) (is : id ≡ get_or ids i id) (next : m ≡ suc n) (behind : w ≡ suc word)
    (h : StoresLeft f first (map type ids) old n word (map type (drop i ids)) es) where
  at_next : StoresLeft f first (map type ids) old (suc n) (suc word) (map type (drop (i + 1) ids)) fs → StoresLeft f first (map type ids) old m w (map type (drop (i + 1) ids)) fs
  at_next k = λ l e. k l e ∙ (λ j. parameters_stored f (sym next j) (sym behind j) (map type (drop (i + 1) ids)) (with_entries fs l))

  here : StoresLeft f first (map type ids) old n word (type id ∷ map type (drop (i + 1) ids)) es
  here = λ l e. h l e ∙ ap (λ xs. parameters_stored f n word (map type xs) (with_entries es l)) (left_is ids i id lt is)

  pub stores_narrow : is_narrow f.context.unit.tags (type id) ≡ true → Acts es (λ l. parameter_stored true f n word (type id) l) fs → StoresLeft f first (map type ids) old m w (map type (drop (i + 1) ids)) fs
  stores_narrow e act = at_next (stores_more f first (map type ids) old n word (type id) (map type (drop (i + 1) ids)) es fs here (subst (λ (b : Bool). Acts es (λ l. parameter_stored b f n word (type id) l) fs) (sym e) act))

  pub stores_none : is_narrow f.context.unit.tags (type id) ≡ false → fs ≡ es → StoresLeft f first (map type ids) old m w (map type (drop (i + 1) ids)) fs
  stores_none e same =
      at_next (stores_more f first (map type ids) old n word (type id) (map type (drop (i + 1) ids)) es fs here
      (subst (λ (b : Bool). Acts es (λ l. parameter_stored b f n word (type id) l) fs) (sym e) (subst (λ (x : List Entry). Acts es (λ l. parameter_stored false f n word (type id) l) x) (sym same) (none_stored f n word (type id) es))))

pub stores_end : (f : Function) (first n word : ℕ) (all left : List CType) (old es : List Entry) → left ≡ [] → StoresLeft f first all old n word left es → Acts old (λ l. parameters_stored f 0 first all l) es
stores_end f first n word all left old es none h = record { is = λ l e. h l e ∙ ap (λ xs. parameters_stored f n word xs (with_entries es l)) none }

-- ---- one of them

-- an offset below 0 is one of a slot
below_top : (z : ℤ) → lt_z z (pos 0) ≡ true → address_at z ≡ local z
below_top (pos n) h = absurd (omega (arith, ltb-true n 0 h))
below_top (negsuc n) h = refl

pub slot_is : (places : List ℤ) (n : ℕ) (z : ℤ) → slice_get places n ≡ Some z → lt_z z (pos 0) ≡ true → local z ≡ local_by false (slice_get places n)
slot_is places n z e h = sym (ap (λ (o : Option ℤ). local_by false o) e ∙ below_top z h)

pub record StoresWord (f : Function) (n word : ℕ) (t : CType) (slot : Operand) (place : ℕ) (p : Typed) (value : Operand) (es fs gs : List Entry) : Type 0 where
  pub slot_of : typed_of slot ≡ local_by false (slice_get f.context.places n)
  pub pointer : slot.suffix ≡ P
  pub asks : Asks es (template_of slot) place fs
  pub is_word : p ≡ parameter (pos (4 * word))
  pub loads : Places fs (loaded (record { width = Four; signed = true }) p) value gs

pub stores_word : {T E : Type 0} (r : Result T E) (f : Function) (n word : ℕ) (t : CType) (slot : Operand) (place : ℕ) (p : Typed) (value : Operand) (es fs gs hs : List Entry) (w : Width) (at : Typed)
    → StoresWord f n word t slot place p value es fs gs → w ≡ (scalar_of t).width → at ≡ record { tree = Given place; suffix = P }
    → OnOk r (Acts gs (λ l. acted (stored_as w at (typed_of value)) l) hs) → OnOk r (Acts es (λ l. parameter_stored true f n word t l) hs)
stores_word r f n word t slot place p value es fs gs hs w at k e d h =
    on_ok_weaker r (λ act.
    let width = (scalar_of t).width in
    let here = subst (λ (x : Typed). Acts gs (λ l. acted (stored_as width x (typed_of value)) l) hs) d (subst (λ (x : Width). Acts gs (λ l. acted (stored_as x at (typed_of value)) l) hs) e act) in
    let loads = subst (λ (x : Typed). Places fs (loaded (record { width = Four; signed = true }) x) value gs) k.is_word k.loads in
    let all = stores_behind width es fs gs hs (template_of slot) (word_passed word).tree place value k.asks loads here in
    let is : record { tree = template_of slot; suffix = P } ≡ local_by false (slice_get f.context.places n) = ap (λ (s : Suffix). record { tree = template_of slot; suffix = s }) (sym k.pointer) ∙ k.slot_of in
    subst (λ (x : Typed). Acts es (λ l. acted (stored_as width x (word_passed word)) l) hs) is all) h
