-- The temporaries of a block that is open are slots of the frame that hold nothing of C.
use Rattle.std.specs.Prelude.{◌≡◌, ◌≤◌, ◌<◌, ℕ, zero, suc, ◌+◌, ℤ, false, Option, Some, None, List, [], ◌∷◌, ◌++◌, length, fold, slice_get}
use Rattle.std.proofs.Common.{⊎_elim, refl, sym, ap, subst, ◌∙◌, arith, length-append}
use Rattle.std.proofs.lemmas.Bool.{cases_eq}
use Rattle.op_forest.specs.declared.frame.Slot.{Slot}
use Rattle.op_forest.specs.Frames.{lowest}
use Rattle.dag_forest.specs.declared.entry.Entry.{Entry}
use Rattle.dag_forest.specs.declared.entry.Entry.TheVariants as entry
use Rattle.dag_forest.specs.declared.key.Key.{Key}
use Rattle.dag_forest.specs.declared.kind.Kind.{Kind}
use Rattle.dag_forest.specs.declared.parts.Parts.{Parts}
use Rattle.dag_forest.specs.Choice.{Room, kind_of}
use Rattle.dag_forest.specs.Meaning.{Temporary, IsTemporary}
use Rattle.dag_forest.specs.NewSlots.{offset_below, slot_below, slots_below}
use Rattle.dag_forest.specs.Schedules.{acts_of}
use Rattle.dag_forest.specs.Slots.{slot_temporary}
use Rattle.dag_forest.specs.Split.{room_of, room_count, split_frame, slot_name, temporary_of, kept_by}
use Rattle.dag_forest.specs.Tally.{Tally, with_entry, none, tally, keys_of, key_behind, node_count}
use Rattle.dag_forest.proofs.lemmas.Chosen.{between}
use Rattle.dag_seam.proofs.lemmas.Acts.{get_left, get_last}
use Rattle.dag_seam.proofs.lemmas.Keys.{keys_value, count_keys}
use Rattle.dag_seam.proofs.lemmas.RoomCauses.{room_has_kind}
use Rattle.std.proofs.lemmas.List.Sums.{fold-append}
use Rattle.piece_runs.specs.Pieces.{Piece, Front}
use Rattle.piece_runs.specs.Reaches.{acting, keeps_at}
use Rattle.c_expr_agreement.specs.Scenes.{Scene}
use Rattle.lowered_forms.specs.Later.{IsFront}
use Rattle.c_straight_agree.specs.Standing.{IsBody}

-- ---- lists

get_behind : {X : Type 0} (xs ys : List X) (m : ℕ) → slice_get (xs ++ ys) (length xs + m) ≡ slice_get ys m
get_behind [] ys m = let e : 0 + m ≡ m = omega arith in ap (slice_get ys) e
get_behind (x ∷ xs) ys m = let e : suc (length xs) + m ≡ suc (length xs + m) = omega arith in ap (slice_get (x ∷ (xs ++ ys))) e ∙ get_behind xs ys m

length_below : (low : ℤ) (n : ℕ) → length (slots_below low n) ≡ n
length_below low zero = refl
length_below low (suc n) = let e = length-append (slots_below low n) (slot_below low n ∷ []) in let h = length_below low n in omega (arith, e, h)

get_below : (low : ℤ) (c n : ℕ) → n < c → slice_get (slots_below low c) n ≡ Some (slot_below low n)
get_below low zero n l = absurd (omega (arith, l))
get_below low (suc c) n l = ⊎_elim
    (λ e.
    let d : length (slots_below low c) + 0 ≡ n = let z = length_below low c in omega (arith, z, e) in
    ap (slice_get (slots_below low c ++ slot_below low c ∷ [])) (sym d) ∙ get_behind (slots_below low c) (slot_below low c ∷ []) 0 ∙ ap (λ k. Some (slot_below low k)) (sym e))
    (λ ne. get_left (slots_below low c) (slot_below low c ∷ []) n (slot_below low n) (get_below low c n (omega (arith, l, ne))))
    (cases_eq n c)

-- keys stay as a block grows
keys_stay : (es : List Entry) (t : Tally) (m : ℕ) (k : Key) → slice_get t.keys m ≡ Some k → slice_get (fold with_entry t es).keys m ≡ Some k
keys_stay [] t m k e = e
keys_stay (entry.Value x ∷ es) t m k e = keys_stay es (with_entry t (entry.Value x)) m k (get_left t.keys _ m k e)
keys_stay (entry.Root x ∷ es) t m k e = keys_stay es (with_entry t (entry.Root x)) m k e

key_there : (es more : List Entry) (x : Parts) → slice_get (keys_of ((es ++ entry.Value x ∷ []) ++ more)) (node_count es) ≡ Some (key_behind es x)
key_there es more x =
    let last : slice_get (keys_of (es ++ entry.Value x ∷ [])) (length (keys_of es)) ≡ Some (key_behind es x) = ap (λ (z : List Key). slice_get z (length (keys_of es))) (keys_value es x) ∙ get_last (keys_of es) (key_behind es x) in
    let here : slice_get (keys_of (es ++ entry.Value x ∷ [])) (node_count es) ≡ Some (key_behind es x) = subst (λ (n : ℕ). slice_get (keys_of (es ++ entry.Value x ∷ [])) n ≡ Some (key_behind es x)) (count_keys es) last in
    ap (λ (t : Tally). slice_get t.keys (node_count es)) (fold-append with_entry none (es ++ entry.Value x ∷ []) more)
    ∙ keys_stay more (tally (es ++ entry.Value x ∷ [])) (node_count es) (key_behind es x) here

-- ---- temporaries

-- a temporary is a slot of four bytes of the frame, behind so many others
pub record IsSlot (s : Scene) (before : List Slot) (kind : Kind) (t : Temporary) : Type 0 where
  pub number : ℕ
  pub offset : ℤ
  pub slot : Slot
  pub is : t ≡ slot_temporary s.body.setting.environment.order kind (slot_name s.body.setting.environment.home number) offset
  pub behind : length before ≤ number
  pub there : slice_get s.body.setting.environment.home.slots number ≡ Some slot
  pub size : slot.size ≡ 4
  pub law : IsTemporary (acting s.body) t

kept_is : (f : Room → Temporary) (o : Option Room) (t : Temporary) → kept_by f o ≡ Some t → (r : Room) × (o ≡ Some r) × (t ≡ f r)
kept_is f None t e = absurd (let never : ⊥ = cc in never)
kept_is f (Some r) t e = (r, refl, cc)

pub front_length : {A : Type 0} (xs ys : List A) → IsFront xs ys → length xs ≤ length ys
front_length xs ys f = let e = ap length f.is in let d = length-append xs f.more in omega (arith, e, d)

module _ (s : Scene) (locals : ℕ) (body : IsBody s locals) (slots : List Slot) (done : List Piece) where
  kept_slot : (es : List Entry) (f : Front s.body.pieces done es) → IsFront slots f.before → (m : ℕ) (t : Temporary) → keeps_at s.body done es f m ≡ Some t
      → (r : Room) × (room_of (es ++ f.more) m ≡ Some r) × IsSlot s slots r.kind t
  kept_slot es f front m t e =
      let full = es ++ f.more in
      let home = s.body.setting.environment.home in
      let k = kept_is (temporary_of s.body.setting.environment.order home f.before) (room_of full m) t e in
      let r = k.0 in
      let few = (between (acts_of full) (λ n. false) 0 m r k.1).1 in
      let split = body.split done f.rest f.before full f.is in
      let there =
      ap (λ (ss : List Slot). slice_get ss (length f.before + r.number)) split.frame
      ∙ get_left (split_frame f.before full) split.more (length f.before + r.number) (slot_below (lowest f.before) r.number)
      (get_behind f.before (slots_below (lowest f.before) (room_count full)) r.number ∙ get_below (lowest f.before) (room_count full) r.number few) in (
        r,
        k.1,
        record {
          number = length f.before + r.number;
          offset = offset_below (lowest f.before) r.number;
          slot = slot_below (lowest f.before) r.number;
          is = k.2;
          behind = (let l = front_length slots f.before front in omega (arith, l));
          there = there;
          size = refl;
          law = split.split.temporaries (acting s.body) split.more split.frame m t e;
        },
      )

  -- that of any node
  pub any_slot : (es : List Entry) (f : Front s.body.pieces done es) → IsFront slots f.before → (m : ℕ) (t : Temporary) → keeps_at s.body done es f m ≡ Some t → (kind : Kind) × IsSlot s slots kind t
  any_slot es f front m t e = let k = kept_slot es f front m t e in (k.0.kind, k.2)

  -- that of the last node, by its suffix
  pub last_slot : (es : List Entry) (x : Parts) (f : Front s.body.pieces done (es ++ entry.Value x ∷ [])) → IsFront slots f.before → (t : Temporary) → keeps_at s.body done (es ++ entry.Value x ∷ []) f (node_count es) ≡ Some t
      → IsSlot s slots (kind_of x.operator.suffix) t
  last_slot es x f front t e =
      let k = kept_slot (es ++ entry.Value x ∷ []) f front (node_count es) t e in
      subst (λ (z : Kind). IsSlot s slots z t) (room_has_kind ((es ++ entry.Value x ∷ []) ++ f.more) (node_count es) k.0 (key_behind es x) k.1 (key_there es f.more x)) k.2
