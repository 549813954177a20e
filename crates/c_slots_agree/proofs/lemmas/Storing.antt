-- Words that are stored in slots of the frame.
use Rattle.std.specs.Prelude.{◌≡◌, ◌≤◌, ◌<◌, ℕ, zero, suc, ◌+◌, ℤ, Option, Some, None, List, [], ◌∷◌, length}
use Rattle.std.proofs.Common.{refl, sym, ap, subst, arith}
use Rattle.std.proofs.lemmas.Option.{slice_get_within}
use Rattle.lcc_base.specs.declared.cause.Cause.{Cause}
use Rattle.lcc_base.specs.declared.order.Order.{Order}
use Rattle.objects.specs.declared.purpose.Purpose.TheVariants.{Assignment}
use Rattle.objects.specs.declared.value.ObjectName.{ObjectName}
use Rattle.objects.specs.declared.value.Value.TheVariants.{Pointer}
use Rattle.objects.specs.declared.width.Width.TheVariants as width
use Rattle.objects.specs.Accesses.{write_cause}
use Rattle.objects.specs.Causes.{unless}
use Rattle.op_forest.specs.declared.frame.Slot.{Slot}
use Rattle.op_forest.specs.declared.suffix.Suffix.{Suffix}
use Rattle.op_forest.specs.declared.suffix.Suffix.TheVariants.{C, S, I, U, P, B, V}
use Rattle.op_forest.specs.Frames.{IsFrame}
use Rattle.forests.specs.Accesses.{defined, word_read, word_written}
use Rattle.forests.specs.Actions as action
use Rattle.forests.specs.Actions.{changed}
use Rattle.forests.specs.Addresses.{Environment, Home}
use Rattle.forests.specs.Objects.{Object, shapes, stored_through}
use Rattle.forests.specs.Rows.{acts}
use Rattle.forests.specs.WordBytes.{word_bytes}
use Rattle.forests.proofs.lemmas.WordLaws.{stored_elsewhere, word_is_read}
use Rattle.forests.specs.Words.{Word, Plain, IsWord}
use Rattle.forests.specs.Worlds.{World, Outcome}
use Rattle.dag_forest.specs.declared.entry.Entry.{Entry}
use Rattle.dag_forest.specs.declared.kind.Kind.TheVariants.{Signed}
use Rattle.dag_forest.specs.Meaning.{Keeps}
use Rattle.dag_forest.specs.Split.{slot_name}
use Rattle.dag_forest.specs.Tally.{node_count}
use Rattle.c_runs.specs.Worlds as c
use Rattle.c_match.specs.Ranges.{Map}
use Rattle.c_match_worlds.specs.Matches.{Matches}
use Rattle.c_rows_agree.specs.Places.{word_stored, stored_as}
use Rattle.c_rows_agree.specs.Templates as template
use Rattle.c_rows_agree.specs.Templates.{Template, Root}
use Rattle.c_rows_agree.specs.Typed.{Typed}
use Rattle.c_rows_agree.proofs.lemmas.Once.{gives_once}
use Rattle.c_rows_agree.proofs.lemmas.Suffixes.{i_gives}
use Rattle.c_pointers_agree.specs.Pointers.{local}
use Rattle.piece_runs.specs.Pieces.{Piece, Front}
use Rattle.piece_runs.specs.Reaches.{keeps_at}
use Rattle.c_expr_agreement.specs.Scenes.{Scene, InFrame}
use Rattle.lowered_forms.specs.Later.{IsFront}
use Rattle.lowered_forms.specs.Lows.{Low}
use Rattle.lowered_forms.specs.Values.{stored_in}
use Rattle.lowered_forms.proofs.lemmas.Fronts.{front_joins}
use Rattle.lowered_forms.proofs.lemmas.WithinTemplates.{slot_left, slot_right}
use Rattle.c_straight_agree.specs.Agreement.{IsLeftBut}
use Rattle.c_straight_agree.specs.Narrow.{CharsAreNarrow, ShortsAreNarrow}
use Rattle.c_straight_agree.specs.Settled.{seen}
use Rattle.c_straight_agree.specs.Standing.{IsBody, AreFree}
use Rattle.c_straight_agree.specs.Stores.{IsStoring}
use Rattle.c_straight_agree.proofs.lemmas.Acting.{root_is_stored}
use Rattle.c_straight_agree.proofs.lemmas.At.{At, at_of, standing_of, behind_same, ready_still}
use Rattle.c_straight_agree.proofs.lemmas.Lasting.{slot_apart}
use Rattle.c_straight_agree.proofs.lemmas.Near.{near_gives, gives_word}
use Rattle.c_straight_agree.proofs.lemmas.Placing.{lone_by}
use Rattle.c_straight_agree.proofs.lemmas.Putting.{still_free, put_matches}
use Rattle.c_straight_agree.proofs.lemmas.SettledTemplates.{word_left_set, word_right_set}
use Rattle.c_straight_agree.proofs.lemmas.Storing.{word_head}
use Rattle.c_slots_agree.specs.Laws.{SlotsAreStored}
use Rattle.c_slots_agree.specs.Slots.{IsSlotAt}
use Rattle.c_slots_agree.proofs.lemmas.Reads.{address_gives}

-- ---- the first slots

pub first_so_many : {A : Type 0} (n : ℕ) (xs : List A) → n ≤ length xs → (ys : List A) × IsFront ys xs × (length ys ≡ n)
first_so_many zero xs le = ([], record { more = xs; is = refl }, refl)
first_so_many (suc n) [] le = absurd (omega (arith, le))
first_so_many (suc n) (x ∷ xs) le =
    let r = first_so_many n xs (omega (arith, le)) in
    (x ∷ r.0, record { more = r.1.more; is = ap (λ ys. x ∷ ys) r.1.is }, (let e = r.2 in omega (arith, e)))

with_fewer : (s : Scene) (start : ℕ → Outcome) (turns : ℕ) (done : List Piece) (slots fewer : List Slot) (keeps : Keeps) (k : ℕ) (map : Map) (old : c.World) (es : List Entry) (f : Front s.body.pieces done es) (values : ℕ → Word) (w : World) → IsFront fewer f.before
    → At s start turns done slots keeps k map old es f values w → At s start turns done fewer keeps k map old es f values w
with_fewer s start turns done slots fewer keeps k map old es f values w behind at = record {
  block = at.block;
  none_waits = at.none_waits;
  behind = behind;
  reaches = at.reaches;
  matches = at.matches;
  frame = at.frame;
  opened = at.opened;
  free = at.free;
  keeps_is = at.keeps_is;
}

-- ---- the root

changed_so : (o : Option (List Object)) (new : List Object) → changed o ≡ action.Stored new → o ≡ Some new
changed_so None new e = absurd (let never : ⊥ = cc in never)
changed_so (Some os) new e = cc

-- it writes its second operand's word
row_writes : (x : Suffix) (a t : Template) (e : Environment) (objects new : List Object) (first second : Word) → acts e (word_stored x a t).head (first ∷ second ∷ []) objects ≡ action.Stored new → word_written e.order second objects first ≡ Some new
row_writes C a t e objects new first second is = changed_so _ new is
row_writes S a t e objects new first second is = changed_so _ new is
row_writes I a t e objects new first second is = changed_so _ new is
row_writes U a t e objects new first second is = changed_so _ new is
row_writes P a t e objects new first second is = changed_so _ new is
row_writes B a t e objects new first second is = changed_so _ new is
row_writes V a t e objects new first second is = changed_so _ new is

row_acts : (x : Suffix) (a t : Template) (e : Environment) (objects new : List Object) (first second : Word) → word_written e.order second objects first ≡ Some new → acts e (word_stored x a t).head (first ∷ second ∷ []) objects ≡ action.Stored new
row_acts C a t e objects new first second is = ap changed is
row_acts S a t e objects new first second is = ap changed is
row_acts I a t e objects new first second is = ap changed is
row_acts U a t e objects new first second is = ap changed is
row_acts P a t e objects new first second is = ap changed is
row_acts B a t e objects new first second is = ap changed is
row_acts V a t e objects new first second is = ap changed is

left_gives : (k : template.Scene) (x : Suffix) (a t : Template) (u : Word) → template.Gives k a u → template.Gives k (word_stored x a t).left u
left_gives k C a t u g = g
left_gives k S a t u g = g
left_gives k I a t u g = g
left_gives k U a t u g = g
left_gives k P a t u g = g
left_gives k B a t u g = g
left_gives k V a t u g = g

left_back : (k : template.Scene) (x : Suffix) (a t : Template) (u : Word) → template.Gives k (word_stored x a t).left u → template.Gives k a u
left_back k C a t u g = g
left_back k S a t u g = g
left_back k I a t u g = g
left_back k U a t u g = g
left_back k P a t u g = g
left_back k B a t u g = g
left_back k V a t u g = g

right_gives : (k : template.Scene) (x : Suffix) (a t : Template) (u : Word) → template.Gives k t u → template.Gives k (word_stored x a t).right u
right_gives k C a t u g = i_gives k C t u g
right_gives k S a t u g = i_gives k S t u g
right_gives k I a t u g = i_gives k I t u g
right_gives k U a t u g = i_gives k U t u g
right_gives k P a t u g = g
right_gives k B a t u g = i_gives k B t u g
right_gives k V a t u g = i_gives k V t u g

pub word_into : (e : Environment) (name : ObjectName) (u : Word) (objects : List Object) → write_cause Assignment (shapes objects) (Pointer name 0) 4 4 ≡ None → word_written e.order u objects (Plain (Pointer name 0)) ≡ Some (stored_through objects (Pointer name 0) (word_bytes e.order u))
word_into e name u objects none = ap (λ (cause : Option Cause). defined (unless cause (stored_through objects (Pointer name 0) (word_bytes e.order u)))) none

-- ---- the store

module _ (s : Scene) (locals : ℕ) (body : IsBody s locals) (frame : IsFrame s.body.setting.environment.home.slots) (number : ℕ) (offset : ℤ) (at : IsSlotAt s number offset) (behind : locals ≤ number) (m : Low) (before : number < length m.slots) (f : Front s.body.pieces m.pieces m.entries) (slots : IsFront m.slots f.before) (map : Map) (old : c.World) (a : Typed) (u : Word) (word : IsWord u) where
  abbrev home : Home
  home = s.body.setting.environment.home

  abbrev name : ObjectName
  name = slot_name home number

  abbrev order : Order
  order = s.body.setting.environment.order

  abbrev keeps : Keeps
  keeps = keeps_at s.body m.pieces m.entries f

  abbrev root : Root
  root = stored_as width.Four (local offset) a

  -- in any world that matches
  stores : (few : List Slot) → length few ≡ number → (values : ℕ → Word) (w : World) → Matches s.lowered s.own map old w → InFrame s.frame map old w → AreFree s.body w → template.Gives (seen s.body map values w) a.tree u → IsStoring s (length few) keeps map old old values w root
  stores few count values w matches inside free gives =
      let here = seen s.body map values w in
      let p = Pointer name 0 in
      let none = free number at.slot at.there at.size in
      let le : length few ≤ number = omega (arith, count) in
      let locals_before : locals ≤ length few = omega (arith, count, behind) in
      let lt = slice_get_within home.slots number at.slot at.there in
      record {
        after = stored_through w.objects p (word_bytes order u);
        acts = record {
          first = Plain p;
          second = u;
          left = left_gives here a.suffix (local offset).tree a.tree (Plain p) (address_gives s frame number offset at map values w.objects);
          right = right_gives here a.suffix (local offset).tree a.tree u gives;
          does = row_acts a.suffix (local offset).tree a.tree s.body.setting.environment w.objects (stored_through w.objects p (word_bytes order u)) (Plain p) u (word_into s.body.setting.environment name u w.objects none);
        };
        matches = put_matches s locals body few locals_before map old Signed number offset at.slot le at.there u word w inside matches;
        locals = refl;
        left = λ place there private none. stored_elsewhere w.objects (home.place + number) 0 (word_bytes order u) place (λ e. none ((let e2 = count in omega (arith, e, e2), let l = lt in omega (arith, e, l))));
        private = λ place private. private;
        kept = λ n t kept. stored_elsewhere w.objects (home.place + number) 0 (word_bytes order u) t.object (λ e. slot_apart s locals body m f slots (length m.slots) (omega arith) number before name 0 refl n t kept e);
      }

pub slots_are_stored : CharsAreNarrow → ShortsAreNarrow → SlotsAreStored
slots_are_stored chars shorts s locals body frame start turns m f map old values w k st number offset at behind before a u within settled gives h =
    let env = s.body.setting.environment in
    let name = slot_name env.home number in
    let n = node_count m.entries in
    let keeps = keeps_at s.body m.pieces m.entries f in
    let here = seen s.body map values w in
    let r = stored_as width.Four (local offset) a in
    let few = first_so_many number m.slots (omega (arith, before)) in
    let count : length few.0 ≡ number = few.2 in
    let fewer = front_joins few.0 m.slots f.before few.1 st.slots in
    let le : locals ≤ length few.0 = omega (arith, count, behind) in
    let at_few = with_fewer s start turns m.pieces m.slots few.0 keeps k map old m.entries f values w fewer (at_of s start turns m f map old values w k st) in
    let word = gives_word here keeps st.stands.matches.sound.objects body.words a.tree u settled gives in
    let left = word_left_set keeps here a.suffix (local offset).tree a.tree tt in
    let right = word_right_set keeps here a.suffix (local offset).tree a.tree settled in
    let y =
    root_is_stored chars shorts s locals body start turns m.pieces few.0 le keeps k map old old r (word_head a.suffix (local offset).tree a.tree) m.entries f values w at_few (slot_left n offset a) (slot_right n offset a within) left right
    (λ others world near matches inside.
    stores s locals body frame number offset at behind m before f st.slots map old a u word few.0 count others world matches inside (still_free s w world near.alike st.free) (near_gives keeps s.body map map n values others w world near a.tree u within settled gives))
    (λ place none. lone_by s locals body few.0 m.pieces m.entries f fewer place none) h in
    let there = seen s.body map y.others y.world in
    let acts = y.storing.acts in
    let first = gives_once there (local offset).tree acts.first (Plain (Pointer name 0)) (left_back there a.suffix (local offset).tree a.tree acts.first acts.left) (address_gives s frame number offset at map y.others y.world.objects) in
    let given = near_gives keeps s.body map map n values y.others w y.world y.near a.tree u within settled gives in
    let second = gives_once there r.right acts.second u acts.right (right_gives there a.suffix (local offset).tree a.tree u given) in
    let does = row_writes a.suffix (local offset).tree a.tree env y.world.objects y.storing.after acts.first acts.second acts.does in
    let written = subst (λ (p : Word). word_written env.order u y.world.objects p ≡ Some y.storing.after) first (subst (λ (v : Word). word_written env.order v y.world.objects acts.first ≡ Some y.storing.after) second does) in
    record {
      others = y.others;
      world = y.stored;
      stands = standing_of s start turns (stored_in offset a m) h map old y.others y.stored k keeps
          (with_fewer s start turns m.pieces few.0 m.slots keeps k map old (stored_in offset a m).entries h y.others y.stored (behind_same s.body m.slots m.pieces m.entries (stored_in offset a m).entries f h st.slots) y.stands)
          (ready_still s w y.stored k y.arguments st.ready);
      alike = y.alike;
      left = subst (λ (i : ℕ). IsLeftBut s i map (c.objects old) w.objects y.stored.objects) count y.left;
      kept = λ i lt. y.near.kept i lt;
      holds = subst (λ (os : List Object). word_read env.order os (Plain (Pointer name 0)) ≡ Some u) (sym y.writes) (word_is_read env.order u y.world.objects y.storing.after (Plain (Pointer name 0)) word written);
    }
