-- What C reads is in no temporary, and what stands at a place is read.
use Rattle.std.specs.Prelude.{◌≡◌, ◌≤◌, ◌<◌, ℕ, ◌+◌, ◌==◌, Bool, true, false, Option, Some, None, Ok, List, [], ◌∷◌, length, Result, if◌then◌else◌}
use Rattle.std.proofs.Common.{true≢false, refl, sym, ap, subst, ◌∙◌, arith}
use Rattle.lcc_base.specs.declared.cause.Cause.{Cause}
use Rattle.lcc_base.specs.declared.cause.Cause.TheVariants.{Outside, Misaligned, Dead, ReadOnly}
use Rattle.lcc_base.specs.declared.order.Order.{Order}
use Rattle.objects.specs.declared.purpose.Purpose.{Purpose}
use Rattle.objects.specs.declared.value.ObjectName.{ObjectName}
use Rattle.objects.specs.declared.value.Value.{Value}
use Rattle.objects.specs.declared.width.Width.TheVariants as width
use Rattle.objects.specs.Accesses.{read_cause, write_cause, read, field_read, if_none}
use Rattle.objects.proofs.lemmas.AccessLaws.{first_not, first_rest}
use Rattle.objects.specs.Causes.{first_cause, is_outside, is_misaligned, is_dead, is_refused}
use Rattle.objects.specs.Objects.{Object as Old}
use Rattle.objects.specs.Values.{bytes_in}
use Rattle.forests.specs.Words.{Word}
use Rattle.forests.specs.Worlds.{World, Outcome}
use Rattle.dag_forest.specs.Meaning.{Keeps, Temporary}
use Rattle.c_types.specs.CType.{CType, Kind}
use Rattle.c_types.specs.CType as ctype
use Rattle.c_meaning.specs.declared.core_expr.CoreKind.TheVariants as kind
use Rattle.c_meaning.specs.CoreTrees.{Core, NoCore, Cores}
use Rattle.c_meaning.specs.Scalars.{kind_scalar, scalar_of}
use Rattle.c_meaning.specs.Types.{is_pointer_kind, is_pointer}
use Rattle.c_meaning.specs.Values.{CoreTree}
use Rattle.c_runs.specs.Expressions.{eval}
use Rattle.c_runs.specs.Run.{context}
use Rattle.c_runs.specs.Outcomes.{gives, Gives}
use Rattle.c_runs.specs.Places.{Spot, is_field, field_of, held}
use Rattle.c_runs.specs.Soundness.{IsSound, IsSoundValue, IsSoundResult, EvalStaysSound}
use Rattle.c_runs.specs.Worlds as c
use Rattle.c_match.specs.Left.{IsPrivate}
use Rattle.c_match.specs.Ranges.{Map}
use Rattle.c_match.specs.Values.{IsValue}
use Rattle.c_match_worlds.specs.Matches.{Matches}
use Rattle.c_match_objects.proofs.lemmas.Reached.{access}
use Rattle.c_rows_agree.specs.Places.{HoldsObjects}
use Rattle.c_rows_agree.specs.Templates.{Scene as Seen}
use Rattle.c_rows_agree.specs.Typed.{Typed, Holds, as_p}
use Rattle.c_rows_agree.proofs.lemmas.Fields.{field_read_holds}
use Rattle.c_rows_agree.proofs.lemmas.Once.{gives_once}
use Rattle.c_rows_agree.proofs.lemmas.Scalars.{scalar_read, pointer_read}
use Rattle.c_rows_agree.proofs.lemmas.Suffixes.{p_gives}
use Rattle.piece_runs.specs.Pieces.{Front}
use Rattle.piece_runs.specs.Reaches.{keeps_at}
use Rattle.c_expr_agreement.specs.Scenes.{Scene, InFrame}
use Rattle.lowered_forms.specs.Later.{IsFront}
use Rattle.lowered_forms.specs.Accesses.{read_by}
use Rattle.lowered_forms.specs.Accesses as low
use Rattle.lowered_forms.specs.Lows.{Low}
use Rattle.c_straight_agree.specs.Settled.{seen, IsApart, IsSettled}
use Rattle.c_straight_agree.specs.Standing.{IsBody, Standing}
use Rattle.c_straight_agree.proofs.lemmas.Kept.{any_slot}
use Rattle.c_straight_agree.proofs.lemmas.Lasting.{same_name}
use Rattle.c_straight_agree.proofs.lemmas.Parts.{ComputesOne}
use Rattle.c_straight_agree.proofs.lemmas.Putting.{slot_is_private}
use Rattle.c_straight_agree.proofs.lemmas.SettledTemplates.{ReadsApart, read_set}

-- ---- causes

pub if_none_is : {A : Type 0} → (c : Option Cause) (r : Result A Cause) (b : A) → if_none c r ≡ Ok b → (c ≡ None) × (r ≡ Ok b)
if_none_is None r b e = (refl, e)
if_none_is (Some c) r b e = absurd (let never : ⊥ = cc in never)

-- what may be written may be read
pub written_is_read : (purpose : Purpose) (os : List Old) (p : Value) (size alignment : ℕ) → write_cause purpose os p size alignment ≡ None → read_cause os p size alignment ≡ None
written_is_read purpose os p size alignment e =
    let last = (is_refused purpose os p, ReadOnly) ∷ [] in
    let third = (is_dead os p, Dead) ∷ last in
    let second = (is_misaligned alignment p, Misaligned) ∷ third in
    let a = first_not (is_outside size p) Outside second e in
    let e1 = first_rest (is_outside size p) Outside second e in
    let b = first_not (is_misaligned alignment p) Misaligned third e1 in
    let e2 = first_rest (is_misaligned alignment p) Misaligned third e1 in
    let d = first_not (is_dead os p) Dead last e2 in
    none_of (is_outside size p) (is_misaligned alignment p) (is_dead os p) a b d
  where
    none_of : (x y z : Bool) → x ≡ false → y ≡ false → z ≡ false → first_cause ((x, Outside) ∷ (y, Misaligned) ∷ (z, Dead) ∷ []) ≡ None
    none_of true y z p q r = absurd (let never : ⊥ = cc in never)
    none_of false true z p q r = absurd (let never : ⊥ = cc in never)
    none_of false false true p q r = absurd (let never : ⊥ = cc in never)
    none_of false false false p q r = refl

-- ---- places that C reads

module _ (s : Scene) (locals : ℕ) (body : IsBody s locals) (m : Low) (le : locals ≤ length m.slots) (f : Front s.body.pieces m.pieces m.entries) (behind : IsFront m.slots f.before) (map : Map) (old : c.World) (values : ℕ → Word) (w : World) (matches : Matches s.lowered s.own map old w) (frame : InFrame s.frame map old w) where
  abbrev keeps : Keeps
  keeps = keeps_at s.body m.pieces m.entries f

  -- a temporary's object holds nothing of C, and is there
  pub kept_is_private : (n : ℕ) (t : Temporary) → keeps n ≡ Some t → (t.object < length w.objects) × IsPrivate map (c.objects old) t.object
  kept_is_private n t kept =
      let slot = (any_slot s locals body m.slots m.pieces m.entries f behind n t kept).1 in
      subst (λ (place : ℕ). (place < length w.objects) × IsPrivate map (c.objects old) place) (sym (ap (λ (z : Temporary). z.object) slot.is)) (slot_is_private s locals body m.slots le map old slot.number slot.slot w frame slot.behind slot.there)

  read_apart : (p : Value) (x : Word) (size alignment : ℕ) → IsValue map p x → read_cause (c.objects old) p size alignment ≡ None → IsApart keeps x
  read_apart p x size alignment is none name offset points n t kept same =
      let a = (access map (c.objects old) w.objects p x size alignment matches.held is none).reached in
      let named : name ≡ a.range.object = same_name name a.range.object offset (a.range.start + a.offset) (sym points ∙ a.word) in
      (kept_is_private n t kept).1 a.name.place a.it a.range a.lives a.is (ap (λ (z : ObjectName). z.place) (sym named) ∙ sym same)

  -- whatever the suffix of its pointer
  pub reads_apart : (a : Typed) (p : Value) (size alignment : ℕ) → Holds (seen s.body map values w) a p → read_cause (c.objects old) p size alignment ≡ None → ReadsApart keeps (seen s.body map values w) a
  reads_apart a p size alignment h none x gives =
      let k1 = seen s.body map values w in
      subst (IsApart keeps) (gives_once k1 (as_p a) h.word x (p_gives k1 a.suffix a.tree h.word h.gives) gives) (read_apart p h.word size alignment h.is none)

-- ---- what a place holds

-- a bit-field lies in its unit
abbrev pub IsInUnit : Spot → Type 0
IsInUnit x = x.first + x.width ≤ 32

pub width_some : (n : ℕ) → (if n == 0 then false else true) ≡ true → 1 ≤ n
width_some n e = grind (arith, e)

pointer_kind_is_word : (x : Kind) → is_pointer_kind x ≡ true → (kind_scalar x).width ≡ width.Four
pointer_kind_is_word (ctype.Pointer to) e = refl
pointer_kind_is_word x e = absurd (true≢false (sym e))

pointer_is_word : (t : CType) → is_pointer t ≡ true → (scalar_of t).width ≡ width.Four
pointer_is_word (ctype.Plain q x) e = pointer_kind_is_word x e
pointer_is_word (ctype.Array of n) e = refl

module _ (s : Scene) (locals : ℕ) (body : IsBody s locals) where
  module _ (x : Spot) (unit : IsInUnit x) (m : Low) (le : locals ≤ length m.slots) (a : Typed) (p u : Value) (start : ℕ → Outcome) (turns : ℕ) (f : Front s.body.pieces m.pieces m.entries) (map : Map) (old : c.World) (values : ℕ → Word) (w : World) (k : ℕ) (st : Standing s start turns m f map old values w k) (h : Holds (seen s.body map values w) a p) (set : IsSettled (keeps_at s.body m.pieces m.entries f) (seen s.body map values w) a.tree) where
    abbrev here : Seen
    here = seen s.body map values w

    abbrev here_held : HoldsObjects here (c.objects old)
    here_held = record { held = st.stands.matches.held; sound = st.stands.matches.sound.objects }

    abbrev order : Order
    order = s.body.setting.environment.order

    apart_so : (size : ℕ) → read_cause (c.objects old) p size size ≡ None → ReadsApart (keeps_at s.body m.pieces m.entries f) here a
    apart_so size none = reads_apart s locals body m le f st.slots map old values w st.stands.matches st.stands.frame a p size size h none

    scalar_by : (b : Bool) → is_pointer x.of ≡ b → read order (scalar_of x.of) (c.objects old) p ≡ Ok u → Holds here (low.scalar_read b (scalar_of x.of) a) u
    scalar_by true is e = pointer_read here (c.objects old) (scalar_of x.of) a p u here_held h (pointer_is_word x.of is) e
    scalar_by false is e = scalar_read here (c.objects old) (scalar_of x.of) a p u here_held h e

    held_by : (b : Bool) → is_field x ≡ b → (if b then field_read order (field_of x) (c.objects old) p else read order (scalar_of x.of) (c.objects old) p) ≡ Ok u
        → Holds here (read_by b order x a) u × ReadsApart (keeps_at s.body m.pieces m.entries f) here a
    held_by true is e = (field_read_holds here (c.objects old) (field_of x) a p u here_held (width_some x.width is) unit h e, apart_so 4 (if_none_is (read_cause (c.objects old) p 4 4) _ u e).0)
    held_by false is e =
        let size = bytes_in (scalar_of x.of).width in
        (scalar_by (is_pointer x.of) refl e, apart_so size (if_none_is (read_cause (c.objects old) p size size) _ u e).0)

    held_here : held order x (c.objects old) p ≡ Ok u → Holds here (low.read order x a) u × IsSettled (keeps_at s.body m.pieces m.entries f) here (low.read order x a).tree
    held_here e =
        let y = held_by (is_field x) refl e in
        (y.0, read_set (keeps_at s.body m.pieces m.entries f) here order x a set y.1)

  -- what C reads at a place, the operators read
  pub reads_compute : (x : Spot) → IsInUnit x → ComputesOne s locals body (λ a. low.read s.lowered.order x a) (λ os p. held s.lowered.order x os p)
  reads_compute x unit m le a p u start turns f map old values w k st sound sv h set =
      subst (λ (z : Order). held z x (c.objects old) p ≡ Ok u → Holds (seen s.body map values w) (low.read z x a) u × IsSettled (keeps_at s.body m.pieces m.entries f) (seen s.body map values w) (low.read z x a).tree) body.order
      (held_here x unit m le a p u start turns f map old values w k st h set)

  -- ---- and it is sound

  -- a pointer that is a local, read
  abbrev read_tree : CType → CoreTree
  read_tree of = Core kind.Read of 0 (Cores (Core (kind.Local 0 false) of 0 NoCore) NoCore)

  pub read_is_sound : EvalStaysSound → (of : CType) (old : c.World) (p v : Value) → IsSound s.unit old → IsSoundValue old.storage.made p → read s.lowered.order (scalar_of of) (c.objects old) p ≡ Ok v → IsSoundValue old.storage.made v
  unfolding context
  read_is_sound evals of old p v sound sp e =
      let other : c.World = record { storage = old.storage; locals = p ∷ []; input = old.input; trace = old.trace } in
      let other_sound : IsSound s.unit other = record { own = sound.own; others = sound.others; live = sound.live; objects = sound.objects; locals = (sp, tt); input = sound.input; trace = sound.trace } in
      let r = evals s.unit s.lowered.order (read_tree of) 0 other body.tame (tt, ((tt, tt), tt)) other_sound in
      let is : eval (context s.unit s.lowered.order) (read_tree of) 0 other ≡ Gives v 0 other = ap (λ (z : Result Value Cause). gives z 0 0 other) e in
      (subst (IsSoundResult s.unit other) is r).0
