-- Places that are filled: strings in arrays, and what is no array.
use Rattle.std.specs.Prelude.{◌≡◌, ℕ, pos, min, length, get_or, [], ◌+◌, ◌-◌, ◌<◌, ◌==◌, if◌then◌else◌, nat_lt, Bool, true, false, Option, Some, None, Result, OnOk, List}
use Rattle.std.proofs.Common.{ap, sym, ◌∙◌, subst, refl, arith}
use Rattle.std.proofs.lemmas.Bool.Decides.{nat_tests}
use Rattle.std.proofs.lemmas.Result.{on_ok_weaker}
use Rattle.lcc_base.specs.declared.order.Order.{Order}
use Rattle.objects.specs.declared.field.Field.{Field}
use Rattle.objects.specs.declared.width.Width.TheVariants.{One}
use Rattle.dag_forest.specs.declared.entry.Entry.{Entry}
use Rattle.c_types.specs.CType.{CType, Array}
use Rattle.c_meaning.specs.Scalars.{scalar_of}
use Rattle.c_meaning.specs.StmtTrees.{FilledOf}
use Rattle.c_meaning.specs.Types.{is_array, is_record}
use Rattle.c_meaning.specs.CoreTrees.{Core, CoreOf, seen, what_of}
use Rattle.c_meaning.specs.declared.core_expr.CoreKind.{CoreKind}
use Rattle.c_meaning.specs.declared.core_expr.CoreKind.TheVariants as kind
use Rattle.c_runs.specs.Places.{Spot, align_of, field_of, is_field, size_of, spot_filled}
use Rattle.c_rows_agree.specs.Places.{field_stored, stored_as}
use Rattle.c_rows_agree.specs.Typed.{Typed}
use Rattle.lowered_forms.specs.Accesses.{copied, copy_root, written, written_by}
use Rattle.c_pointers_agree.specs.Pointers.{name}
use Rattle.lowered_forms.specs.Contexts.{Context, text_name}
use Rattle.lowered_forms.specs.Lows.{Low, acted}
use Rattle.lowered_forms.specs.Places.{further}
use Rattle.lowered_statements.specs.Functions.{Function}
use Rattle.lowered_statements.specs.Initialisers.{filled_by, part_at, text_copied, text_filled}
use Rattle.lowered_statements.specs.Zeroing.{zeroed}
use Rattle.lowering_steps.specs.declared.operand.Operand.{Operand}
use Rattle.lowering_steps.specs.declared.state.State.{State}
use Rattle.lowering_steps.specs.Asking.{Acts, Places}
use Rattle.lowering_steps.specs.Operands.{typed_of}
use Rattle.lowering_steps.proofs.lemmas.Stating.{with_block}
use Rattle.statement_steps.specs.Places.{filled_as, text_of}
use Rattle.statement_steps.specs.Progresses.{Goes}
use Rattle.statement_steps.proofs.lemmas.Going.{acts_goes, goes_as, goes_same, goes_then}
use Rattle.statement_steps.proofs.lemmas.Rooting.{copies_at}

-- ---- a part's place

pub no_part : (size offset : ℕ) (base : Typed) → size ≡ 0 → further false offset base ≡ part_at size offset base
no_part size offset base e = sym (ap (λ n. part_at n offset base) e)

pub some_part : (size offset : ℕ) (base : Typed) → 0 < size → further true offset base ≡ part_at size offset base
some_part size offset base h = let e : nat_lt 0 size ≡ true = grind (arith, nat_tests) in sym (ap (λ b. further b offset base) e)

-- ---- a structure as a whole

pub fills_whole : {T E : Type 0} (r : Result T E) (s : Context) (x : Spot) (offset size align : ℕ) (base value : Typed) (to : Operand) (es fs gs : List Entry)
    → is_record x.of ≡ true → size ≡ size_of s.unit.tags x.of → Places es (part_at size offset base) to fs
    → OnOk r (Acts fs (λ l. copied s.unit.tags x.of (typed_of to) value l) gs) → OnOk r (Acts es (λ l. filled_as (is_record x.of) s x offset base value l) gs)
fills_whole r s x offset size align base value to es fs gs e d place h =
    let tags = s.unit.tags in
    on_ok_weaker r (λ k.
    subst (λ (b : Bool). Acts es (λ l. filled_as b s x offset base value l) gs) (sym e)
    (copies_at (size_of tags x.of) (align_of tags x.of) es fs gs (part_at (size_of tags x.of) offset base) value to (subst (λ (n : ℕ). Places es (part_at n offset base) to fs) d place) k)) h

pub fills_scalar : {T E : Type 0} (r : Result T E) (s : Context) (x : Spot) (offset : ℕ) (base value to : Typed) (es gs : List Entry)
    → is_record x.of ≡ false → to ≡ further true offset base
    → OnOk r (Acts es (λ l. written false s.order x to value l) gs) → OnOk r (Acts es (λ l. filled_as (is_record x.of) s x offset base value l) gs)
fills_scalar r s x offset base value to es gs e d h =
    on_ok_weaker r (λ k.
    subst (λ (b : Bool). Acts es (λ l. filled_as b s x offset base value l) gs) (sym e)
    (subst (λ (t : Typed). Acts es (λ l. written false s.order x t value l) gs) d k)) h

-- ---- a scalar or a bit-field

no_field : (x : Spot) → x.width ≡ 0 → is_field x ≡ false
no_field x e = ap (λ n. is_field (record { of = x.of; first = x.first; width = n })) e

some_field_by : (of : CType) (first width : ℕ) → 0 < width → is_field (record { of = of; first = first; width = width }) ≡ true
some_field_by of first width h =
    let e : (width == 0) ≡ false = grind (arith, nat_tests) in
    ap (λ b. if b then false else true) e

pub scalar_written : (order : Order) (x : Spot) (p v : Typed) → x.width ≡ 0 → stored_as (scalar_of x.of).width p v ≡ written_by (is_field x) false order x p v
scalar_written order x p v e = sym (ap (λ b. written_by b false order x p v) (no_field x e))

pub field_written : (order : Order) (x : Spot) (f : Field) (p v : Typed) → 0 < x.width → f ≡ field_of x → field_stored false order f p v ≡ written_by (is_field x) false order x p v
field_written order x f p v h e = ap (λ (g : Field). field_stored false order g p v) e ∙ sym (ap (λ b. written_by b false order x p v) (some_field_by x.of x.first x.width h))

-- ---- a string

pub record CopiesText (base text : Typed) (offset bytes behind room : ℕ) (to : Operand) (from : Typed) (s : State) (es fs : List Entry) : Type 0 where
  pub place : Places s.block (part_at room offset base) to es
  pub text_is : from ≡ text
  pub copy : Acts es (λ l. acted (copy_root bytes 1 (typed_of to) from) l) fs
  pub behind_is : behind ≡ offset + bytes

pub copies_text : {T E : Type 0} (r : Result T E) (base text : Typed) (offset bytes behind room : ℕ) (to : Operand) (from : Typed) (s : State) (es fs : List Entry) (t : State) (all : ℕ)
    → CopiesText base text offset bytes behind room to from s es fs → bytes ≡ all
    → OnOk r (Goes (λ l. zeroed base One behind (room - bytes) l) (with_block s fs) t) → OnOk r (Goes (λ l. text_copied base text offset all room l) s t)
copies_text r base text offset bytes behind room to from s es fs t all k e h =
    let copy = copies_at bytes 1 s.block es fs (part_at room offset base) text to k.place (subst (λ (x : Typed). Acts es (λ l. acted (copy_root bytes 1 (typed_of to) x) l) fs) k.text_is k.copy) in
    on_ok_weaker r (λ rest.
    subst (λ (n : ℕ). Goes (λ l. text_copied base text offset n room l) s t) e
    (goes_then (λ l. acted (copy_root bytes 1 (part_at room offset base) text) l) (λ l. zeroed base One (offset + bytes) (room - bytes) l) s (with_block s fs) t
    (acts_goes (λ l. acted (copy_root bytes 1 (part_at room offset base) text) l) s fs copy)
    (subst (λ (n : ℕ). Goes (λ l. zeroed base One n (room - bytes) l) (with_block s fs) t) k.behind_is rest))) h

-- ---- an array

pub fills_no_room : (f : Function) (base : Typed) (offset : ℕ) (t of : CType) (what : CoreKind) (s : State) → t ≡ Array of None → Goes (λ l. text_filled f base offset t what l) s s
fills_no_room f base offset t of what s e = subst (λ (x : CType). Goes (λ l. text_filled f base offset x what l) s s) (sym e) (record { is = λ l h. h })

pub no_text : (f : Function) (base : Typed) (offset room : ℕ) (of : CType) (what : CoreKind) (l : Low) → text_of what ≡ None → text_filled f base offset (Array of (Some room)) what l ≡ l
no_text f base offset room of (kind.Local x y) l e = refl
no_text f base offset room of (kind.Object x) l e = refl
no_text f base offset room of (kind.Text x) l e = absurd (cc)
no_text f base offset room of (kind.Literal x) l e = refl
no_text f base offset room of (kind.Symbol x) l e = refl
no_text f base offset room of (kind.Function x) l e = refl
no_text f base offset room of (kind.BuiltIn x) l e = refl
no_text f base offset room of kind.Pointed l e = refl
no_text f base offset room of (kind.Member x y z) l e = refl
no_text f base offset room of (kind.Number x) l e = refl
no_text f base offset room of kind.Read l e = refl
no_text f base offset room of kind.Address l e = refl
no_text f base offset room of kind.First l e = refl
no_text f base offset room of (kind.Convert x) l e = refl
no_text f base offset room of (kind.Unary x) l e = refl
no_text f base offset room of kind.Not l e = refl
no_text f base offset room of (kind.Binary x y) l e = refl
no_text f base offset room of (kind.Compare x y) l e = refl
no_text f base offset room of (kind.Move x y) l e = refl
no_text f base offset room of (kind.Difference x) l e = refl
no_text f base offset room of kind.And l e = refl
no_text f base offset room of kind.Or l e = refl
no_text f base offset room of kind.Conditional l e = refl
no_text f base offset room of kind.Comma l e = refl
no_text f base offset room of kind.Assign l e = refl
no_text f base offset room of (kind.Change x) l e = refl
no_text f base offset room of (kind.Postfix x) l e = refl
no_text f base offset room of (kind.Call x) l e = refl

pub text_seen : (known : ℕ → CType) (e : CoreOf ℕ) → text_of (what_of (seen known e)) ≡ text_of (what_of e)
text_seen known (Core what of line kids) = refl

pub some_text : (what : CoreKind) (n : ℕ) → text_of what ≡ Some n → what ≡ kind.Text n
some_text (kind.Local x y) n e = absurd (cc)
some_text (kind.Object x) n e = absurd (cc)
some_text (kind.Text x) n e = cc
some_text (kind.Literal x) n e = absurd (cc)
some_text (kind.Symbol x) n e = absurd (cc)
some_text (kind.Function x) n e = absurd (cc)
some_text (kind.BuiltIn x) n e = absurd (cc)
some_text kind.Pointed n e = absurd (cc)
some_text (kind.Member x y z) n e = absurd (cc)
some_text (kind.Number x) n e = absurd (cc)
some_text kind.Read n e = absurd (cc)
some_text kind.Address n e = absurd (cc)
some_text kind.First n e = absurd (cc)
some_text (kind.Convert x) n e = absurd (cc)
some_text (kind.Unary x) n e = absurd (cc)
some_text kind.Not n e = absurd (cc)
some_text (kind.Binary x y) n e = absurd (cc)
some_text (kind.Compare x y) n e = absurd (cc)
some_text (kind.Move x y) n e = absurd (cc)
some_text (kind.Difference x) n e = absurd (cc)
some_text kind.And n e = absurd (cc)
some_text kind.Or n e = absurd (cc)
some_text kind.Conditional n e = absurd (cc)
some_text kind.Comma n e = absurd (cc)
some_text kind.Assign n e = absurd (cc)
some_text (kind.Change x) n e = absurd (cc)
some_text (kind.Postfix x) n e = absurd (cc)
some_text (kind.Call x) n e = absurd (cc)

pub fills_no_text : (f : Function) (base : Typed) (offset room : ℕ) (t of : CType) (what : CoreKind) (s : State) → t ≡ Array of (Some room) → text_of what ≡ None → Goes (λ l. text_filled f base offset t what l) s s
fills_no_text f base offset room t of what s e d =
    subst (λ (x : CType). Goes (λ l. text_filled f base offset x what l) s s) (sym e)
    (goes_as (λ l. l) (λ l. text_filled f base offset (Array of (Some room)) what l) s s (λ l. sym (no_text f base offset room of what l d)) (goes_same s))

pub fills_text : (f : Function) (base : Typed) (offset room n : ℕ) (t of : CType) (what : CoreKind) (s u : State) → t ≡ Array of (Some room) → text_of what ≡ Some n
    → Goes (λ l. text_copied base (name (text_name f.context.unit n) (pos 0)) offset (min room (length (get_or f.context.unit.texts n []) + 1)) room l) s u → Goes (λ l. text_filled f base offset t what l) s u
fills_text f base offset room n t of what s u e d h =
    subst (λ (x : CType). Goes (λ l. text_filled f base offset x what l) s u) (sym e)
    (subst (λ (k : CoreKind). Goes (λ l. text_filled f base offset (Array of (Some room)) k l) s u) (sym (some_text what n d)) h)

-- ---- a place

pub fills_array : {T E : Type 0} (r : Result T E) (f : Function) (base v : Typed) (p : FilledOf CType) (count : Option ℕ) (s t : State) → ((of : CType) × (p.of ≡ Array of count))
    → OnOk r ((of : CType) → p.of ≡ Array of count → Goes (λ l. text_filled f base p.offset p.of (what_of p.value) l) s t)
    → OnOk r (Goes (λ l. filled_by (is_array p.of) (is_record p.of) f base p v l) s t)
fills_array r f base v p count s t is h =
    on_ok_weaker r (λ k. subst (λ (b : Bool). Goes (λ l. filled_by b (is_record p.of) f base p v l) s t) (sym (ap is_array is.1)) (k is.0 is.1)) h

other_as : (b : Bool) (f : Function) (base v : Typed) (p : FilledOf CType) (l : Low) → filled_as b f.context (spot_filled p) p.offset base v l ≡ filled_by false b f base p v l
other_as true f base v p l = refl
other_as false f base v p l = refl

pub fills_other : {T E : Type 0} (r : Result T E) (f : Function) (base v : Typed) (p : FilledOf CType) (s : State) (es : List Entry) → is_array p.of ≡ false
    → OnOk r (Acts s.block (λ l. filled_as (is_record p.of) f.context (spot_filled p) p.offset base v l) es)
    → OnOk r (Goes (λ l. filled_by (is_array p.of) (is_record p.of) f base p v l) s (with_block s es))
fills_other r f base v p s es e h =
    on_ok_weaker r (λ k.
    subst (λ (b : Bool). Goes (λ l. filled_by b (is_record p.of) f base p v l) s (with_block s es)) (sym e)
    (goes_as (λ l. filled_as (is_record p.of) f.context (spot_filled p) p.offset base v l) (λ l. filled_by false (is_record p.of) f base p v l) s (with_block s es) (λ l. other_as (is_record p.of) f base v p l)
    (acts_goes (λ l. filled_as (is_record p.of) f.context (spot_filled p) p.offset base v l) s es k))) h
