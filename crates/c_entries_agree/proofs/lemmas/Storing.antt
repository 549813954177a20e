-- A narrow parameter is stored in its slot, where C's object is filled.
use Rattle.std.specs.Prelude.{◌≡◌, ◌≤◌, ◌<◌, ℕ, zero, suc, ◌+◌, ◌*◌, ℤ, pos, negsuc, Bool, true, false, Option, Some, None, Ok, List, [], ◌∷◌, length, slice_get}
use Rattle.std.proofs.Common.{refl, sym, ap, subst, ◌∙◌, arith}
use Rattle.std.proofs.lemmas.Option.{slice_get_within}
use Rattle.lcc_base.specs.declared.cause.Cause.{Cause}
use Rattle.lcc_base.specs.declared.cause.Cause.TheVariants.{PointerNumber}
use Rattle.lcc_base.specs.declared.order.Order.{Order}
use Rattle.objects.specs.declared.purpose.Purpose.TheVariants.{Initialisation}
use Rattle.objects.specs.declared.value.ObjectName.{ObjectName}
use Rattle.objects.specs.declared.value.Value.{Value}
use Rattle.objects.specs.declared.value.Value.TheVariants.{Pointer}
use Rattle.objects.specs.declared.width.Width.{Width}
use Rattle.objects.specs.declared.width.Width.TheVariants as width
use Rattle.objects.specs.Accesses.{write_cause, written, if_none}
use Rattle.objects.specs.Causes.{first_cause, is_narrowed, unless}
use Rattle.objects.specs.Objects.{Object as Old, stored}
use Rattle.objects.specs.Scalars.{scalar_bytes}
use Rattle.objects.specs.Values.{bytes_in}
use Rattle.op_forest.specs.declared.op.Op.TheVariants as op
use Rattle.forests.specs.Accesses.{word_read}
use Rattle.forests.specs.Actions.{gave}
use Rattle.forests.specs.Addresses.{Home}
use Rattle.forests.specs.Alike.{AreAlike}
use Rattle.forests.specs.Objects.{Object, shapes, shape_of}
use Rattle.forests.specs.Words.{Word, Plain, IsWord}
use Rattle.forests.specs.Worlds.{World, Outcome}
use Rattle.dag_forest.specs.Meaning.{Keeps, Temporary}
use Rattle.dag_forest.specs.Tally.{node_count}
use Rattle.c_runs.specs.Soundness.{Outline, outlines}
use Rattle.c_runs.specs.Worlds as c
use Rattle.c_types.specs.CType.{CType}
use Rattle.c_match.specs.Held.{IsOpenTo}
use Rattle.c_match.specs.Ranges.{Range, Map}
use Rattle.c_match.specs.Values.{IsValue}
use Rattle.c_match_worlds.specs.Matches.{Matches}
use Rattle.c_agreement.specs.Called.{AreValues}
use Rattle.c_rows_agree.specs.Places.{HoldsObjects, IsStored, stored_as}
use Rattle.c_rows_agree.specs.Templates.{Template, Root, Gives}
use Rattle.c_rows_agree.specs.Templates as template
use Rattle.c_rows_agree.specs.Typed.{Typed, Holds, as_p}
use Rattle.c_rows_agree.proofs.lemmas.Once.{gives_once}
use Rattle.c_rows_agree.proofs.lemmas.Scalars.{scalar_stored}
use Rattle.piece_runs.specs.Pieces.{Front}
use Rattle.piece_runs.specs.Reaches.{keeps_at}
use Rattle.c_pointers_agree.specs.Pointers.{argument_name}
use Rattle.c_expr_agreement.specs.Scenes.{Scene, InFrame}
use Rattle.lowered_forms.specs.Blocks.{IsWithin}
use Rattle.lowered_forms.specs.Lows.{Low, acted}
use Rattle.lowered_forms.specs.Places.{address_at, parameter, is_passed_whole}
use Rattle.lowered_forms.proofs.lemmas.WithinTemplates.{HasIn, as_p_in}
use Rattle.lowered_statements.specs.FunctionBodies.{word_passed}
use Rattle.c_straight_agree.specs.Agreement.{HasValue, Waits, Came}
use Rattle.c_straight_agree.specs.Layouts.{FrameLayout, context_in, address_of, IsLaidOut}
use Rattle.c_straight_agree.specs.Narrow.{CharsAreNarrow, ShortsAreNarrow}
use Rattle.c_straight_agree.specs.Settled.{seen, IsApart, IsSettled, IsNear}
use Rattle.c_straight_agree.specs.Standing.{IsBody, Standing}
use Rattle.c_straight_agree.specs.Stores.{IsStoring}
use Rattle.c_straight_agree.proofs.lemmas.Kept.{any_slot}
use Rattle.c_straight_agree.proofs.lemmas.Lasting.{same_name}
use Rattle.c_straight_agree.proofs.lemmas.Leaves.{value_at}
use Rattle.c_straight_agree.proofs.lemmas.Near.{near_holds}
use Rattle.c_straight_agree.proofs.lemmas.Placing.{stored_came}
use Rattle.c_straight_agree.proofs.lemmas.SettledTemplates.{as_p_set, address_set}
use Rattle.c_straight_agree.proofs.lemmas.Storing.{store_is_kept}
use Rattle.c_entries_agree.proofs.lemmas.Addresses.{word_address}
use Rattle.c_entries_agree.proofs.lemmas.Beginnings.{filled, may_be_filled}
use Rattle.c_entries_agree.proofs.lemmas.Kinds.{some_bytes}

-- ---- objects that may be written, may be so where the same ones live

shape_there : (os : List Object) (n : ℕ) (y : Object) → slice_get os n ≡ Some y → slice_get (shapes os) n ≡ Some (shape_of y)
shape_there [] n y e = absurd (let never : ⊥ = cc in never)
shape_there (z ∷ zs) zero y e = cc
shape_there (z ∷ zs) (suc n) y e = shape_there zs n y e

under_shape : (os : List Object) (n : ℕ) (x : Old) → slice_get (shapes os) n ≡ Some x → (y : Object) × (slice_get os n ≡ Some y) × (shape_of y ≡ x)
under_shape [] n x e = absurd (let never : ⊥ = cc in never)
under_shape (z ∷ zs) zero x e = (z, refl, cc)
under_shape (z ∷ zs) (suc n) x e = under_shape zs n x e

pub still_open : (a b : List Object) → AreAlike a b → (n : ℕ) → ((y : Object) → slice_get a n ≡ Some y → y.constant ≡ false) → (y : Object) → slice_get b n ≡ Some y → y.constant ≡ false
still_open a b alike n h y e =
    let z = under_shape a n (shape_of y) (ap (λ (os : List Old). slice_get os n) alike ∙ shape_there b n y e) in
    sym (ap (λ (x : Old). x.constant) z.2) ∙ h z.0 z.1

-- ---- the word of a value, by its place

pub record WordAt (map : Map) (ws : List Word) (n : ℕ) (v : Value) : Type 0 where
  pub word : Word
  pub there : slice_get ws n ≡ Some word
  pub is : IsValue map v word

pub word_at : (map : Map) (vs : List Value) (ws : List Word) (n : ℕ) (v : Value) → AreValues map vs ws → slice_get vs n ≡ Some v → WordAt map ws n v
word_at map vs ws n v h e = let r = value_at map vs ws n v h e in record { word = r.0; there = r.1; is = r.2 }

pointer_word : (map : Map) (name : ObjectName) (offset : ℕ) (q : Word) → IsValue map (Pointer name offset) q → IsWord q
pointer_word map name offset q h = subst IsWord (sym h.2) tt

-- ---- the root

root_head : (wd : Width) (a : Typed) (word : ℕ) → (stored_as wd a (word_passed word)).head.operator.op ≡ op.Asgn
root_head width.One a word = refl
root_head width.Two a word = refl
root_head width.Four a word = refl

left_within : (n : ℕ) (wd : Width) (a : Typed) (word : ℕ) → IsWithin n (as_p a) → IsWithin n (stored_as wd a (word_passed word)).left
left_within n width.One a word h = h
left_within n width.Two a word h = h
left_within n width.Four a word h = h

right_within : (n : ℕ) (wd : Width) (a : Typed) (word : ℕ) → IsWithin n (stored_as wd a (word_passed word)).right
right_within n width.One a word = tt
right_within n width.Two a word = tt
right_within n width.Four a word = tt

left_settled : (keeps : Keeps) (k : template.Scene) (wd : Width) (a : Typed) (word : ℕ) → IsSettled keeps k (as_p a) → IsSettled keeps k (stored_as wd a (word_passed word)).left
left_settled keeps k width.One a word h = h
left_settled keeps k width.Two a word h = h
left_settled keeps k width.Four a word h = h

right_settled : (keeps : Keeps) (k : template.Scene) (wd : Width) (a : Typed) (word : ℕ) → IsSettled keeps k (word_passed word).tree → IsSettled keeps k (stored_as wd a (word_passed word)).right
right_settled keeps k width.One a word h = (h, tt)
right_settled keeps k width.Two a word h = (h, tt)
right_settled keeps k width.Four a word h = h

address_waits : (z : ℤ) → Waits (address_at z).tree
address_waits (pos n) = tt
address_waits (negsuc n) = tt

address_is : (s : Scene) (map : Map) (values : ℕ → Word) (w : World) (z : ℤ) (u : Word) → address_of s.body.setting.environment.home z ≡ Some u → Gives (seen s.body map values w) (address_at z).tree u
address_is s map values w (pos n) u e = ap gave e
address_is s map values w (negsuc n) u e = ap gave e

address_in : (n : ℕ) (z : ℤ) → HasIn n (address_at z)
address_in n (pos m) = tt
address_in n (negsuc m) = tt

-- ---- the store

module _ (chars : CharsAreNarrow) (shorts : ShortsAreNarrow) (s : Scene) (locals : ℕ) (body : IsBody s locals) (y : FrameLayout) (laid : IsLaidOut s y) where
  abbrev home : Home
  home = s.body.setting.environment.home

  abbrev order : Order
  order = s.body.setting.environment.order

  module _ (m : Low) (le : locals ≤ length m.slots) (start : ℕ → Outcome) (turns : ℕ) (f : Front s.body.pieces m.pieces m.entries) (map : Map) (old : c.World) (values : ℕ → Word) (w : World) (k : ℕ) (st : Standing s start turns m f map old values w k)
      (n word : ℕ) (t : CType) (z : ℤ) (typed : slice_get y.types n ≡ Some t) (scalar : is_passed_whole (context_in s y) n t ≡ false) (placed : slice_get y.places n ≡ Some z) (name : ObjectName) (listed : slice_get old.locals n ≡ Some (Pointer name 0))
      (alive : slice_get (outlines (c.objects old)) name.place ≡ Some (record { made = name.made; size = name.size })) (wd : Width) (fits : bytes_in wd ≤ name.size) (v : Value) (narrowed : is_narrowed wd v ≡ false) (u : Word) (value : IsValue map v u)
      (within : word < home.words) (reads : word_read order w.objects (Plain (Pointer (argument_name home word) 0)) ≡ Some u) (opens : IsOpenTo Initialisation map w.objects (Pointer name 0)) where
    abbrev keeps : Keeps
    keeps = keeps_at s.body m.pieces m.entries f

    abbrev here : template.Scene
    here = seen s.body map values w

    abbrev p : Value
    p = Pointer name 0

    abbrev pub filling : List Old
    filling = stored (c.objects old) name.place 0 (scalar_bytes order wd v)

    -- the slot
    slot_word : WordAt map s.frame.addresses n p
    slot_word = word_at map old.locals s.frame.addresses n p st.stands.frame.locals listed

    slot_holds : Holds here (address_at z) p
    slot_holds = record { word = slot_word.word; gives = address_is s map values w z slot_word.word (laid.addresses n t z slot_word.word typed scalar placed slot_word.there); is = slot_word.is }

    slot_has : HasValue s (address_at z) map values w p
    unfolding slot_holds slot_word
    slot_has = record { holds = slot_holds; word = pointer_word map name 0 slot_word.word slot_word.is; waits = address_waits z }

    -- the word
    abbrev address : Word
    address = Plain (Pointer (argument_name home word) 0)

    address_given : Gives here (parameter (pos (4 * word))).tree address
    address_given = ap gave (word_address home word within)

    word_holds : Holds here (word_passed word) v
    word_holds = record { word = u; gives = (address, address_given, ap gave reads); is = value }

    word_apart : IsApart keeps address
    word_apart called offset points i x kept same =
        let slot = (any_slot s locals body m.slots m.pieces m.entries f st.slots i x kept).1 in
        let lt = slice_get_within home.slots slot.number slot.slot slot.there in
        let object : x.object ≡ home.place + slot.number = ap (λ (q : Temporary). q.object) slot.is in
        let named : home.place + length home.slots + word ≡ called.place = ap (λ (q : ObjectName). q.place) (same_name (argument_name home word) called 0 offset points) in
        omega (arith, lt, object, named, same)

    word_settled : IsSettled keeps here (word_passed word).tree
    word_settled = (tt, λ i gives. subst (IsApart keeps) (gives_once here (parameter (pos (4 * word))).tree address i address_given gives) word_apart)

    may : write_cause Initialisation (c.objects old) p (bytes_in wd) (bytes_in wd) ≡ None
    may = may_be_filled (c.objects old) name (bytes_in wd) alive (some_bytes wd) fits

    written_is : written Initialisation order wd v (c.objects old) p ≡ Ok filling
    written_is =
        ap (λ (b : Bool). if_none (first_cause ((b, PointerNumber) ∷ [])) (unless (write_cause Initialisation (c.objects old) p (bytes_in wd) (bytes_in wd)) filling)) narrowed
        ∙ ap (λ (q : Option Cause). unless q filling) may

    abbrev pub root : Root
    root = stored_as wd (address_at z) (word_passed word)

    near_opens : (world : World) → AreAlike w.objects world.objects → IsOpenTo Initialisation map world.objects p
    near_opens world alike r at e there = still_open w.objects world.objects alike r.object.place (λ q g. opens r q e g) at there

    stores : (others : ℕ → Word) (world : World) → IsNear keeps (node_count m.entries) values others w world → Matches s.lowered s.own map old world → InFrame s.frame map old world → IsStoring s (length m.slots) keeps map old (c.with_objects old filling) others world root
    stores others world near matches frame =
        let a = near_holds keeps s.body map (node_count m.entries) values others w world near (address_at z) p (address_in (node_count m.entries) z) (address_set keeps here z) slot_holds in
        let b = near_holds keeps s.body map (node_count m.entries) values others w world near (word_passed word) v tt word_settled word_holds in
        let there = seen s.body map others world in
        let is = scalar_stored there (c.objects old) filling Initialisation wd (address_at z) (word_passed word) p v (record { held = matches.held; sound = matches.sound.objects }) (near_opens world near.alike) a.0 b.0 written_is in
        store_is_kept s locals body m le f st.slots map old others world matches frame filling root
        (left_settled keeps there wd (address_at z) word (as_p_set keeps there (address_at z).suffix (address_at z).tree a.1)) (right_settled keeps there wd (address_at z) word b.1) is

    pub parameter_came : (h : Front s.body.pieces (acted root m).pieces (acted root m).entries) → Came s start turns m (acted root m) h (address_at z) map old values w (Some p) (c.with_objects old filling) k
    parameter_came h =
        let i = node_count m.entries in
        stored_came s locals body chars shorts start turns m le f map old values w k st p root (root_head wd (address_at z) word) (c.with_objects old filling)
        (left_within i wd (address_at z) word (as_p_in i (address_at z).suffix (address_at z).tree (address_in i z))) (right_within i wd (address_at z) word)
        (left_settled keeps here wd (address_at z) word (as_p_set keeps here (address_at z).suffix (address_at z).tree (address_set keeps here z))) (right_settled keeps here wd (address_at z) word word_settled)
        stores (address_at z) (address_in i z) slot_has h
