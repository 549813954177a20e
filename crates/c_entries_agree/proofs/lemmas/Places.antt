-- Each local has a place in the frame, where it stands.
use Rattle.std.specs.Prelude.{◌≡◌, ◌≤◌, ◌<◌, ℕ, zero, suc, ◌+◌, ◌*◌, ◌/◌, ℤ, pos, negsuc, ◌+ℤ◌, ◌-ℤ◌, ◌≤ℤ◌, ◌<ℤ◌, not, ◌&&◌, nat_lt, Bool, true, false, Option, Some, None, List, [], ◌∷◌, ◌++◌, length, take, drop, slice_get}
use Rattle.std.proofs.Common.{refl, sym, ap, subst, ◌∙◌, arith, append_assoc, append-nil, length-append}
use Rattle.std.proofs.lemmas.Int.{ints}
use Rattle.std.proofs.lemmas.List.{take-append-drop}
use Rattle.op_forest.specs.declared.frame.Slot.{Slot}
use Rattle.op_forest.specs.Frames.{lowest}
use Rattle.c_types.specs.CType.{CType}
use Rattle.c_types.specs.Layout.{Tag}
use Rattle.c_meaning.specs.Each.{EachIs}
use Rattle.c_meaning.specs.Types.{is_record}
use Rattle.c_meaning.specs.Units.{FunctionTree}
use Rattle.c_runs.specs.Calls.{own_parameters}
use Rattle.c_runs.specs.Places.{size_of}
use Rattle.dag_forest.proofs.lemmas.Frames.{lowest_le}
use Rattle.dag_seam.proofs.lemmas.Acts.{get_left, get_last}
use Rattle.lowered_statements.specs.Layouts.{Layout, rounded, offset_under, slot_under, in_slot, is_narrow, parameter_by, with_parameters, with_locals, first_word, words_of, layout}
use Rattle.c_entries_agree.specs.Standpoints.{Standpoint, InSlot, InWord, AsPassed, parameter_stands, slot_behind, slot_behind_all, parameters_stand, others_stand, standpoints}

-- ---- a local stands at its place

pub record IsSlotOf (slots : List Slot) (n size : ℕ) (z : ℤ) : Type 0 where
  pub slot : Slot
  pub there : slice_get slots n ≡ Some slot
  pub is : z ≡ slot.offset
  pub below : ℕ
  pub low : z ≡ negsuc below
  pub some : 1 ≤ slot.size
  pub fits : size ≤ slot.size

abbrev pub StandsIn : List Slot → ℕ → List Tag → CType → Standpoint → ℤ → Type 0
StandsIn slots words tags t (InSlot n) z = IsSlotOf slots n (size_of tags t) z
StandsIn slots words tags t (InWord n) z = (z ≡ pos (4 * n)) × (n < words)
StandsIn slots words tags t (AsPassed n) z = (z ≡ pos (4 * n)) × (n < words)

-- so do these, in order
abbrev pub AllStand : List Slot → ℕ → List Tag → List CType → List Standpoint → List ℤ → Type 0
AllStand slots words tags [] [] [] = Unit {0}
AllStand slots words tags (t ∷ ts) (h ∷ hs) (z ∷ zs) = StandsIn slots words tags t h z × AllStand slots words tags ts hs zs
AllStand slots words tags ts hs zs = ⊥

module _ (slots more : List Slot) (words : ℕ) (tags : List Tag) where
  stands_on : (t : CType) (h : Standpoint) (z : ℤ) → StandsIn slots words tags t h z → StandsIn (slots ++ more) words tags t h z
  stands_on t (InSlot n) z s = record { slot = s.slot; there = get_left slots more n s.slot s.there; is = s.is; below = s.below; low = s.low; some = s.some; fits = s.fits }
  stands_on t (InWord n) z s = s
  stands_on t (AsPassed n) z s = s

  pub all_stand_on : (ts : List CType) (hs : List Standpoint) (zs : List ℤ) → AllStand slots words tags ts hs zs → AllStand (slots ++ more) words tags ts hs zs
  all_stand_on [] [] [] s = tt
  all_stand_on [] [] (z ∷ zs) s = absurd s
  all_stand_on [] (h ∷ hs) zs s = absurd s
  all_stand_on (t ∷ ts) [] zs s = absurd s
  all_stand_on (t ∷ ts) (h ∷ hs) [] s = absurd s
  all_stand_on (t ∷ ts) (h ∷ hs) (z ∷ zs) s = (stands_on t h z s.0, all_stand_on ts hs zs s.1)

module _ (slots : List Slot) (words : ℕ) (tags : List Tag) where
  all_append : (ts us : List CType) (hs gs : List Standpoint) (zs ys : List ℤ) → AllStand slots words tags ts hs zs → AllStand slots words tags us gs ys → AllStand slots words tags (ts ++ us) (hs ++ gs) (zs ++ ys)
  all_append [] us [] gs [] ys s r = r
  all_append [] us [] gs (z ∷ zs) ys s r = absurd s
  all_append [] us (h ∷ hs) gs zs ys s r = absurd s
  all_append (t ∷ ts) us [] gs zs ys s r = absurd s
  all_append (t ∷ ts) us (h ∷ hs) gs [] ys s r = absurd s
  all_append (t ∷ ts) us (h ∷ hs) gs (z ∷ zs) ys s r = (s.0, all_append ts us hs gs zs ys s.1 r)

  -- one of them
  pub record StandsOne (n : ℕ) (t : CType) (hs : List Standpoint) (zs : List ℤ) : Type 0 where
    pub stands : Standpoint
    pub place : ℤ
    pub listed : slice_get hs n ≡ Some stands
    pub placed : slice_get zs n ≡ Some place
    pub is : StandsIn slots words tags t stands place

  pub one_stands : (ts : List CType) (hs : List Standpoint) (zs : List ℤ) (n : ℕ) (t : CType) → AllStand slots words tags ts hs zs → slice_get ts n ≡ Some t → StandsOne n t hs zs
  one_stands [] hs zs n t s e = absurd (let never : ⊥ = cc in never)
  one_stands (u ∷ ts) [] zs n t s e = absurd s
  one_stands (u ∷ ts) (h ∷ hs) [] n t s e = absurd s
  one_stands (u ∷ ts) (h ∷ hs) (z ∷ zs) zero t s e = let same : u ≡ t = cc in record { stands = h; place = z; listed = refl; placed = refl; is = subst (λ (v : CType). StandsIn slots words tags v h z) same s.0 }
  one_stands (u ∷ ts) (h ∷ hs) (z ∷ zs) (suc n) t s e = let r = one_stands ts hs zs n t s.1 e in record { stands = r.stands; place = r.place; listed = r.listed; placed = r.placed; is = r.is }

-- ---- a slot below the others

below_top : (z : ℤ) → z <ℤ pos 0 → (m : ℕ) × (z ≡ negsuc m)
below_top (pos n) lt = absurd (let never : ⊥ = omega (arith, ints, lt) in never)
below_top (negsuc m) lt = (m, refl)

round_up : (size : ℕ) → (size ≤ rounded size) × (1 ≤ rounded size)
round_up size = (omega arith, omega arith)

goes_below : (low : ℤ) (m : ℕ) → low ≤ℤ pos 0 → 1 ≤ m → (low -ℤ pos m) <ℤ pos 0
goes_below low m le some = omega (arith, ints, le, some)

new_slot : (size least : ℕ) (slots : List Slot) → least ≤ size → IsSlotOf (slots ++ slot_under size slots ∷ []) (length slots) least (offset_under size slots)
new_slot size least slots le =
    let low = (lowest_le slots (pos 0)).0 in
    let up = round_up size in
    let b = below_top (offset_under size slots) (goes_below (lowest slots) (rounded size) low up.1) in
    record {
      slot = slot_under size slots;
      there = get_last slots (slot_under size slots);
      is = refl;
      below = b.0;
      low = b.1;
      some = up.1;
      fits = (let h = up.0 in omega (arith, le, h));
    }

-- ---- layouts go on

pub record Laid (words : ℕ) (tags : List Tag) (ts : List CType) (a b : Layout) (hs : List Standpoint) : Type 0 where
  pub zs : List ℤ
  pub more : List Slot
  pub places : b.places ≡ a.places ++ zs
  pub slots : b.slots ≡ a.slots ++ more
  pub stand : AllStand b.slots words tags ts hs zs

module _ (words : ℕ) (tags : List Tag) where
  laid_none : (a : Layout) → Laid words tags [] a a []
  laid_none a = record { zs = []; more = []; places = sym (append-nil a.places); slots = sym (append-nil a.slots); stand = tt }

  laid_then : (t : CType) (ts : List CType) (a b d : Layout) (h : Standpoint) (hs : List Standpoint) (z : ℤ) (new : List Slot) → b.places ≡ a.places ++ z ∷ [] → b.slots ≡ a.slots ++ new → StandsIn b.slots words tags t h z → Laid words tags ts b d hs
      → Laid words tags (t ∷ ts) a d (h ∷ hs)
  laid_then t ts a b d h hs z new p q s r = record {
    zs = z ∷ r.zs;
    more = new ++ r.more;
    places = r.places ∙ ap (λ (zs : List ℤ). zs ++ r.zs) p ∙ append_assoc a.places (z ∷ []) r.zs;
    slots = r.slots ∙ ap (λ (ss : List Slot). ss ++ r.more) q ∙ append_assoc a.slots new r.more;
    stand = (subst (λ (ss : List Slot). StandsIn ss words tags t h z) (sym r.slots) (stands_on b.slots r.more words tags t h z s), r.stand);
  }

  narrow_is : (t : CType) (whole narrow : Bool) → is_record t ≡ whole → is_narrow tags t ≡ narrow → (whole ≡ true → narrow ≡ false) × (narrow ≡ true → size_of tags t ≤ 4)
  narrow_is t whole narrow e f = (
    λ r. sym f ∙ ap (λ (b : Bool). not b && nat_lt (size_of tags t) 4) (e ∙ r),
    λ n. small (is_record t) (size_of tags t) (f ∙ n),
  )
    where
      small : (b : Bool) (size : ℕ) → (not b && nat_lt size 4) ≡ true → size ≤ 4
      small true size g = absurd (let never : ⊥ = cc in never)
      small false size g = grind (arith, g)

  -- a parameter, by its kind
  parameter_laid : (t : CType) (ts : List CType) (slot word : ℕ) (a d : Layout) (hs : List Standpoint) → length a.slots ≡ slot → word < words → (whole narrow : Bool) → is_record t ≡ whole → is_narrow tags t ≡ narrow
      → Laid words tags ts (parameter_by narrow word a) d hs → Laid words tags (t ∷ ts) a d (parameter_stands whole narrow slot word ∷ hs)
  parameter_laid t ts slot word a d hs count lt true true e f r = absurd (let g = (narrow_is t true true e f).0 refl in let never : ⊥ = cc in never)
  parameter_laid t ts slot word a d hs count lt true false e f r = laid_then t ts a (parameter_by false word a) d (AsPassed word) hs (pos (4 * word)) [] refl refl (refl, lt) r
  parameter_laid t ts slot word a d hs count lt false true e f r =
      laid_then t ts a (parameter_by true word a) d (InSlot slot) hs (offset_under 4 a.slots) (slot_under 4 a.slots ∷ []) refl refl
      (subst (λ (n : ℕ). IsSlotOf (a.slots ++ slot_under 4 a.slots ∷ []) n (size_of tags t) (offset_under 4 a.slots)) count (new_slot 4 (size_of tags t) a.slots ((narrow_is t false true e f).1 refl))) r
  parameter_laid t ts slot word a d hs count lt false false e f r = laid_then t ts a (parameter_by false word a) d (InWord word) hs (pos (4 * word)) [] refl refl (refl, lt) r

  slots_after : (narrow : Bool) (slot word : ℕ) (a : Layout) → length a.slots ≡ slot → length (parameter_by narrow word a).slots ≡ slot_behind narrow slot
  slots_after true slot word a count = length-append a.slots (slot_under 4 a.slots ∷ []) ∙ (let e = count in omega (arith, e))
  slots_after false slot word a count = ap length (append-nil a.slots) ∙ count

  parameters_laid : (slot word : ℕ) (ts : List CType) (a : Layout) → length a.slots ≡ slot → word + length ts ≤ words
      → Laid words tags ts a (with_parameters tags word ts a) (parameters_stand tags slot word ts) × (length (with_parameters tags word ts a).slots ≡ slot_behind_all tags slot ts)
  parameters_laid slot word [] a count le = (laid_none a, count)
  parameters_laid slot word (t ∷ ts) a count le =
      let narrow = is_narrow tags t in
      let b = parameter_by narrow word a in
      let rest = parameters_laid (slot_behind narrow slot) (suc word) ts b (slots_after narrow slot word a count) (omega (arith, le)) in
      (parameter_laid t ts slot word a (with_parameters tags (suc word) ts b) (parameters_stand tags (slot_behind narrow slot) (suc word) ts) count (omega (arith, le)) (is_record t) narrow refl refl rest.0, rest.1)

  locals_laid : (slot : ℕ) (ts : List CType) (a : Layout) → length a.slots ≡ slot → Laid words tags ts a (with_locals tags ts a) (others_stand slot ts)
  locals_laid slot [] a count = laid_none a
  locals_laid slot (t ∷ ts) a count =
      let size = size_of tags t in
      let b = in_slot size a in
      let more : length b.slots ≡ suc slot = length-append a.slots (slot_under size a.slots ∷ []) ∙ (let e = count in omega (arith, e)) in
      laid_then t ts a b (with_locals tags ts b) (InSlot slot) (others_stand (suc slot) ts) (offset_under size a.slots) (slot_under size a.slots ∷ []) refl refl
      (subst (λ (n : ℕ). IsSlotOf (a.slots ++ slot_under size a.slots ∷ []) n size (offset_under size a.slots)) count (new_slot size size a.slots (omega arith)))
      (locals_laid (suc slot) ts b more)

-- ---- a function's

pub each_drop : {A : Type 0} (P : A → Type 0) (n : ℕ) (xs : List A) → EachIs P xs → EachIs P (drop n xs)
each_drop P zero xs h = h
each_drop P (suc n) [] h = tt
each_drop P (suc n) (x ∷ xs) h = each_drop P n xs h.1

pub take_short : {A : Type 0} (n : ℕ) (xs : List A) → length (take n xs) ≤ n
take_short zero xs = omega arith
take_short (suc n) [] = omega arith
take_short (suc n) (x ∷ xs) = let h = take_short n xs in omega (arith, h)

abbrev none : Layout
none = record { places = []; slots = [] }

module _ (tags : List Tag) (f : FunctionTree) where
  abbrev after_parameters : Layout
  after_parameters = with_parameters tags (first_word f) (own_parameters f) none

  parameters_part : Laid (words_of f) tags (own_parameters f) none after_parameters (parameters_stand tags 0 (first_word f) (own_parameters f)) × (length after_parameters.slots ≡ slot_behind_all tags 0 (own_parameters f))
  parameters_part = parameters_laid (words_of f) tags 0 (first_word f) (own_parameters f) none refl (let h = take_short f.parameters f.locals in omega (arith, h))

  -- each local stands at the place that its layout has
  pub locals_stand : AllStand (layout tags f).slots (words_of f) tags f.locals (standpoints tags f) (layout tags f).places
  locals_stand =
      let one = parameters_part in
      let two = locals_laid (words_of f) tags (slot_behind_all tags 0 (own_parameters f)) (drop f.parameters f.locals) after_parameters one.1 in
      let first = subst (λ (ss : List Slot). AllStand ss (words_of f) tags (own_parameters f) (parameters_stand tags 0 (first_word f) (own_parameters f)) one.0.zs) (sym two.slots)
      (all_stand_on after_parameters.slots two.more (words_of f) tags (own_parameters f) (parameters_stand tags 0 (first_word f) (own_parameters f)) one.0.zs one.0.stand) in
      let both = all_append (layout tags f).slots (words_of f) tags (own_parameters f) (drop f.parameters f.locals) (parameters_stand tags 0 (first_word f) (own_parameters f)) (others_stand (slot_behind_all tags 0 (own_parameters f)) (drop f.parameters f.locals)) one.0.zs two.zs first two.stand in
      subst (λ (zs : List ℤ). AllStand (layout tags f).slots (words_of f) tags f.locals (standpoints tags f) zs) (sym (two.places ∙ ap (λ (zs : List ℤ). zs ++ two.zs) one.0.places))
      (subst (λ (ts : List CType). AllStand (layout tags f).slots (words_of f) tags ts (standpoints tags f) (one.0.zs ++ two.zs)) (take-append-drop f.parameters f.locals) both)
