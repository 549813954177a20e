-- Numbers, names and locals.
use Rattle.std.specs.Prelude.{◌≡◌, ◌<◌, ℕ, zero, suc, ◌+◌, ◌^◌, ℤ, pos, negsuc, Bool, true, false, Option, Some, None, List, [], ◌∷◌, length, slice_get}
use Rattle.std.proofs.Common.{refl, ap, subst, ◌∙◌, arith}
use Rattle.std.proofs.lemmas.Option.{slice_get_within}
use Rattle.objects.specs.declared.value.ObjectName.{ObjectName}
use Rattle.objects.specs.declared.value.Value.{Value}
use Rattle.objects.specs.declared.value.Value.TheVariants.{Number, Pointer, Function}
use Rattle.objects.specs.Causes.{is_dead}
use Rattle.forests.specs.Actions.{gave}
use Rattle.forests.specs.Units.{pointer_to}
use Rattle.forests.specs.Words.{Word, Plain, IsWord}
use Rattle.forests.specs.Worlds.{World, Outcome}
use Rattle.c_types.specs.CType.{CType}
use Rattle.c_meaning.specs.Units.{ObjectTree}
use Rattle.c_runs.specs.Expressions.{place}
use Rattle.c_runs.specs.Places.{static_place, place_of_object, place_of_text, size_of}
use Rattle.c_runs.specs.Worlds as c
use Rattle.c_agreement.specs.Called.{AreValues}
use Rattle.c_match.specs.Ranges.{Map, Grown}
use Rattle.c_match.specs.Values.{IsValue, StaysInside}
use Rattle.c_match.proofs.lemmas.Growing.{value_grows}
use Rattle.c_match_worlds.proofs.lemmas.Keeping.{own_stands}
use Rattle.c_rows_agree.specs.Integers.{number}
use Rattle.c_rows_agree.specs.Templates.{Scene as Seen, Gives as GivesWord}
use Rattle.c_rows_agree.specs.Places.{loaded_pointer}
use Rattle.c_rows_agree.specs.Typed.{Typed, Holds, as_p}
use Rattle.c_rows_agree.proofs.lemmas.Once.{gives_once}
use Rattle.c_rows_agree.proofs.lemmas.Suffixes.{number_holds, p_gives}
use Rattle.c_pointers_agree.specs.Held.{HoldsShort}
use Rattle.c_pointers_agree.specs.Pointers.{name}
use Rattle.c_pointers_agree.proofs.lemmas.Callees.{function_stands}
use Rattle.c_pointers_agree.proofs.lemmas.Names.{name_stands, live_stays}
use Rattle.c_pointers_agree.proofs.lemmas.OwnObjects.{own_object_lives, own_text_lives}
use Rattle.dag_forest.specs.Meaning.{Temporary}
use Rattle.piece_runs.specs.Pieces.{Front}
use Rattle.piece_runs.specs.Reaches.{keeps_at}
use Rattle.c_expr_agreement.specs.Scenes.{Scene}
use Rattle.lowered_forms.specs.Contexts.{object_name, text_name}
use Rattle.lowered_forms.specs.Lows.{Low}
use Rattle.lowered_forms.specs.Places.{address_at, local_by, local_place, is_passed_whole}
use Rattle.c_straight_agree.specs.Agreement.{Waits, HasValue, HasWord, Came, CameTo}
use Rattle.c_straight_agree.specs.Layouts.{FrameLayout, context_in, address_of, IsLaidOut, HoldsWholes}
use Rattle.c_straight_agree.specs.Settled.{seen, IsApart, IsSettled}
use Rattle.c_straight_agree.specs.Standing.{IsBody, Standing, IsSoundIn}
use Rattle.c_straight_agree.proofs.lemmas.Coming.{value_word}
use Rattle.c_straight_agree.proofs.lemmas.SettledTemplates.{number_set, as_p_set, address_set}
use Rattle.c_straight_agree.proofs.lemmas.Kept.{any_slot}
use Rattle.c_straight_agree.proofs.lemmas.Lasting.{same_name}
use Rattle.c_straight_agree.proofs.lemmas.Near.{gives_word}

-- the word of a local's address
pub value_at : (map : Map) (vs : List Value) (ws : List Word) (n : ℕ) (v : Value) → AreValues map vs ws → slice_get vs n ≡ Some v → (w : Word) × (slice_get ws n ≡ Some w) × IsValue map v w
value_at map [] [] n v h e = absurd (let never : ⊥ = cc in never)
value_at map [] (w ∷ ws) n v h e = absurd h
value_at map (u ∷ us) [] n v h e = absurd h
value_at map (u ∷ us) (w ∷ ws) zero v h e = let same : u ≡ v = cc in (w, refl, subst (λ (z : Value). IsValue map z w) same h.0)
value_at map (u ∷ us) (w ∷ ws) (suc n) v h e = value_at map us ws n v h.1 e

address_waits : (z : ℤ) → Waits (address_at z).tree
address_waits (pos n) = tt
address_waits (negsuc n) = tt

number_waits : (signed : Bool) (n : ℕ) → Waits (number signed n).tree
number_waits true n = tt
number_waits false n = tt

object_there : (s : Scene) (n : ℕ) (o : Option ObjectTree) (p : Value) → place_of_object s.unit n o ≡ Some p → (t : ObjectTree) × (o ≡ Some t) × (static_place n (size_of s.unit.tags t.of) ≡ p)
object_there s n None p e = absurd (let never : ⊥ = cc in never)
object_there s n (Some t) p e = (t, refl, cc)

text_there : (s : Scene) (n : ℕ) (o : Option (List ℕ)) (p : Value) → place_of_text s.unit n o ≡ Some p → (t : List ℕ) × (o ≡ Some t) × (static_place (length s.unit.objects + n) (length t + 1) ≡ p)
text_there s n None p e = absurd (let never : ⊥ = cc in never)
text_there s n (Some t) p e = (t, refl, cc)

address_is : (s : Scene) (map : Map) (values : ℕ → Word) (w : World) (z : ℤ) (u : Word) → address_of s.body.setting.environment.home z ≡ Some u → GivesWord (seen s.body map values w) (address_at z).tree u
address_is s map values w (pos n) u e = ap gave e
address_is s map values w (negsuc n) u e = ap gave e

-- what is at a place, if anything is
pub place_came : (o : Option Value) (s : Scene) (start : ℕ → Outcome) (turns : ℕ) (l m : Low) (h : Front s.body.pieces m.pieces m.entries) (a : Typed) (map : Map) (before : c.World) (values : ℕ → Word) (first : World) (line k : ℕ) (old : c.World)
    → ((v : Value) → o ≡ Some v → Came s start turns l m h a map before values first (Some v) old k) → CameTo s start turns l m h a map before values first (place o line k old)
place_came None s start turns l m h a map before values first line k old go = tt
place_came (Some v) s start turns l m h a map before values first line k old go = go v refl

module _ (s : Scene) (locals : ℕ) (body : IsBody s locals) (y : FrameLayout) (laid : IsLaidOut s y) (start : ℕ → Outcome) (turns : ℕ) (l : Low) (f : Front s.body.pieces l.pieces l.entries) (map : Map) (old : c.World) (values : ℕ → Word) (w : World) (k : ℕ) (st : Standing s start turns l f map old values w k) (sound : IsSoundIn s old) where
  abbrev here : Seen
  here = seen s.body map values w

  abbrev short : HoldsShort here (c.objects old)
  short = record { held = st.stands.matches.held; short = sound.short }

  word_given : (a : Typed) (u : Word) → IsSettled (λ m. None) here a.tree → GivesWord here a.tree u → IsWord u
  word_given a u settled gives = gives_word here (λ m. None) st.stands.matches.sound.objects body.words a.tree u settled gives

  has_by : (a : Typed) (v : Value) → IsSettled (λ m. None) here a.tree → Waits a.tree → Holds here a v → HasValue s a map values w v
  has_by a v settled waits h = record { holds = h; word = word_given a h.word settled h.gives; waits = waits }

  pub number_has : (signed : Bool) (n : ℕ) → n < 2 ^ 32 → HasValue s (number signed n) map values w (Number n)
  number_has signed n small = has_by (number signed n) (Number n) (number_set (λ m. None) here signed n) (number_waits signed n) (number_holds here signed n small)

  -- what has no value of C is lowered to a number
  pub nothing_has : HasWord s (number true 0) map values w
  nothing_has = value_word s (number true 0) map values w (Number 0) (number_has true 0 (omega arith))

  pub function_has : (n number : ℕ) → s.body.setting.environment.global n ≡ Some (Function number) → HasValue s (name n (pos 0)) map values w (Function number)
  function_has n number e = has_by (name n (pos 0)) (Function number) tt tt (function_stands here n number e)

  own_has : (n number size : ℕ) (p : Value) → static_place number size ≡ p → number < s.own → s.body.setting.environment.global n ≡ Some (pointer_to s.lowered number) → is_dead (c.objects old) p ≡ false → StaysInside p → HasValue s (name n (pos 0)) map values w p
  own_has n number size p is lt e live inside =
      has_by (name n (pos 0)) p tt tt
      (name_stands here (c.objects old) n (pos 0) (pointer_to s.lowered number) p p short e
      (subst (λ (z : Value). IsValue map z (Plain (pointer_to s.lowered number))) is (own_stands s.lowered s.own map old w number size st.stands.matches lt))
      (live_stays (c.objects old) p inside live))

  pub object_has : (n : ℕ) (p : Value) → place_of_object s.unit n (slice_get s.unit.objects n) ≡ Some p → HasValue s (name (object_name s.unit n) (pos 0)) map values w p
  object_has n p e =
      let t = object_there s n (slice_get s.unit.objects n) p e in
      let at = laid.objects n (slice_get_within s.unit.objects n t.0 t.1) in
      let lives = own_object_lives s.unit old n p sound.sound e in
      own_has (object_name s.unit n) n (size_of s.unit.tags t.0.of) p t.2 at.0 at.1 lives.0 lives.1

  pub text_has : (n : ℕ) (p : Value) → place_of_text s.unit n (slice_get s.unit.texts n) ≡ Some p → HasValue s (name (text_name s.unit n) (pos 0)) map values w p
  text_has n p e =
      let t = text_there s n (slice_get s.unit.texts n) p e in
      let at = laid.texts n (slice_get_within s.unit.texts n t.0 t.1) in
      let lives = own_text_lives s.unit old n p sound.sound e in
      own_has (text_name s.unit n) (length s.unit.objects + n) (length t.0 + 1) p t.2 at.0 at.1 lives.0 lives.1

  pub address_has : (n : ℕ) (of : CType) (z : ℤ) (p : Value) → slice_get y.types n ≡ Some of → is_passed_whole (context_in s y) n of ≡ false → slice_get y.places n ≡ Some z → slice_get old.locals n ≡ Some p → HasValue s (address_at z) map values w p
  address_has n of z p typed whole placed_at e =
      let u = value_at map old.locals s.frame.addresses n p st.stands.frame.locals e in
      has_by (address_at z) p (address_set (λ m. None) here z) (address_waits z)
      (record { word = u.0; gives = address_is s map values w z u.0 (laid.addresses n of z u.0 typed whole placed_at u.1); is = u.2 })

  -- whatever follows, its address has a word, and its value where further objects have ranges
  module _ (n : ℕ) (of : CType) (z : ℤ) (p : Value) (typed : slice_get y.types n ≡ Some of) (whole : is_passed_whole (context_in s y) n of ≡ false) (placed_at : slice_get y.places n ≡ Some z) (e : slice_get old.locals n ≡ Some p) where
    pub address_word : (later : Map) (others : ℕ → Word) (world : World) → HasWord s (address_at z) later others world
    address_word later others world =
        let u = value_at map old.locals s.frame.addresses n p st.stands.frame.locals e in
        let is = laid.addresses n of z u.0 typed whole placed_at u.1 in
        record { word = u.0; gives = address_is s later others world z u.0 is; is = word_given (address_at z) u.0 (address_set (λ m. None) here z) (address_is s map values w z u.0 is); waits = address_waits z }

    pub address_later : (later : Map) → Grown map later → (others : ℕ → Word) (world : World) → HasValue s (address_at z) later others world p
    address_later later grown others world =
        let u = value_at map old.locals s.frame.addresses n p st.stands.frame.locals e in
        let is = laid.addresses n of z u.0 typed whole placed_at u.1 in
        record {
          holds = record { word = u.0; gives = address_is s later others world z u.0 is; is = value_grows map later p u.0 grown u.2 };
          word = word_given (address_at z) u.0 (address_set (λ m. None) here z) (address_is s map values w z u.0 is);
          waits = address_waits z;
        }

  -- a structure that was passed: its address is read
  module _ (n : ℕ) (of : CType) (z : ℤ) (p : Value) (typed : slice_get y.types n ≡ Some of) (whole : is_passed_whole (context_in s y) n of ≡ true) (placed_at : slice_get y.places n ≡ Some z) (wholes : HoldsWholes s y w) where
    pub whole_holds : slice_get old.locals n ≡ Some p → Holds here (loaded_pointer (address_at z)) p
    whole_holds e =
        let q = laid.wholes n of z typed whole placed_at in
        let a = Plain (Pointer q.name q.offset) in
        let u = value_at map old.locals s.frame.addresses n p st.stands.frame.locals e in
        let read = wholes.words n of z a u.0 typed whole placed_at q.is u.1 in
        record { word = u.0; gives = (a, p_gives here (address_at z).suffix (address_at z).tree a (address_is s map values w z a q.is), ap gave read); is = u.2 }

    whole_apart : IsApart (keeps_at s.body l.pieces l.entries f) (let q = laid.wholes n of z typed whole placed_at in Plain (Pointer q.name q.offset))
    whole_apart name offset points m t kept same =
        let q = laid.wholes n of z typed whole placed_at in
        let slot = (any_slot s locals body l.slots l.pieces l.entries f st.slots m t kept).1 in
        let lt = slice_get_within s.body.setting.environment.home.slots slot.number slot.slot slot.there in
        let object : t.object ≡ s.body.setting.environment.home.place + slot.number = ap (λ (i : Temporary). i.object) slot.is in
        let named : q.name.place ≡ name.place = ap (λ (i : ObjectName). i.place) (same_name q.name name q.offset offset points) in
        let b = q.behind in
        omega (arith, lt, object, named, same, b)

    pub whole_settled : IsSettled (keeps_at s.body l.pieces l.entries f) here (loaded_pointer (address_at z)).tree
    whole_settled =
        let q = laid.wholes n of z typed whole placed_at in
        let a = Plain (Pointer q.name q.offset) in
        let keeps = keeps_at s.body l.pieces l.entries f in (
          as_p_set keeps here (address_at z).suffix (address_at z).tree (address_set keeps here z),
          λ i gives. subst (IsApart keeps) (gives_once here (as_p (address_at z)) a i (p_gives here (address_at z).suffix (address_at z).tree a (address_is s map values w z a q.is)) gives) whole_apart,
        )

-- a local's place, where it is no structure that was passed
pub local_is : (s : Scene) (y : FrameLayout) (n : ℕ) (of : CType) (z : ℤ) → is_passed_whole (context_in s y) n of ≡ false → slice_get y.places n ≡ Some z → local_place (context_in s y) n of ≡ address_at z
local_is s y n of z whole at = ap (λ (b : Bool). local_by b (slice_get y.places n)) whole ∙ ap (λ (o : Option ℤ). local_by false o) at

pub whole_is : (s : Scene) (y : FrameLayout) (n : ℕ) (of : CType) (z : ℤ) → is_passed_whole (context_in s y) n of ≡ true → slice_get y.places n ≡ Some z → local_place (context_in s y) n of ≡ loaded_pointer (address_at z)
whole_is s y n of z whole at = ap (λ (b : Bool). local_by b (slice_get y.places n)) whole ∙ ap (λ (o : Option ℤ). local_by true o) at
