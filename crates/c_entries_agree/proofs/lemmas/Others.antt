-- The slots and words of a call that are no homes of locals.
use Rattle.std.specs.Prelude.{◌≡◌, ◌≤◌, ◌<◌, ℕ, zero, suc, ◌+◌, ◌==◌, ◌||◌, not, ℤ, cond, Bool, true, false, Option, Some, None, List, [], ◌∷◌, ◌++◌, length, take, drop, filter, slice_get}
use Rattle.std.proofs.Common.{refl, sym, ap, subst, ◌∙◌, arith}
use Rattle.std.proofs.lemmas.Bool.{eqb-true}
use Rattle.std.proofs.lemmas.Option.{slice_get_within}
use Rattle.op_forest.specs.declared.frame.Slot.{Slot}
use Rattle.forests.specs.Addresses.{Home}
use Rattle.c_types.specs.CType.{CType}
use Rattle.c_types.specs.Layout.{Tag}
use Rattle.c_meaning.specs.Each.{EachIs}
use Rattle.c_meaning.specs.Types.{is_record}
use Rattle.c_meaning.specs.Units.{FunctionTree}
use Rattle.c_runs.specs.Calls.{own_parameters}
use Rattle.lowered_statements.specs.Layouts.{is_narrow, first_word}
use Rattle.c_straight_agree.specs.Standing.{IsAmong}
use Rattle.c_entries_agree.specs.Standpoints.{Standpoint, InSlot, InWord, AsPassed, parameter_stands, slot_behind, slot_behind_all, parameters_stand, others_stand, standpoints, is_home_of, is_home, places_from, others_of}
use Rattle.c_entries_agree.proofs.lemmas.Places.{StandsIn, AllStand}

-- ---- lists

among_kept : (test : ℕ → Bool) (xs : List ℕ) (j n : ℕ) → slice_get xs j ≡ Some n → test n ≡ true → IsAmong n (filter test xs)
among_kept test [] j n e t = absurd (let never : ⊥ = cc in never)
among_kept test (x ∷ xs) zero n e t =
    let same : x ≡ n = cc in
    (0, ap (λ (b : Bool). slice_get (cond b (x ∷ filter test xs) (filter test xs)) 0) (ap test same ∙ t) ∙ ap (λ (m : ℕ). Some m) same)
among_kept test (x ∷ xs) (suc j) n e t = by_test (test x) (among_kept test xs j n e t)
  where
    by_test : (b : Bool) → IsAmong n (filter test xs) → IsAmong n (cond b (x ∷ filter test xs) (filter test xs))
    by_test true r = (suc r.0, r.1)
    by_test false r = r

places_at : (place n i : ℕ) → i < n → slice_get (places_from place n) i ≡ Some (place + i)
places_at place zero i lt = absurd (let never : ⊥ = omega (arith, lt) in never)
places_at place (suc n) zero lt = ap (λ (m : ℕ). Some m) (let e : place ≡ place + 0 = omega arith in e)
places_at place (suc n) (suc i) lt = places_at (suc place) n i (omega (arith, lt)) ∙ ap (λ (m : ℕ). Some m) (let e : suc place + i ≡ place + suc i = omega arith in e)

each_by : (P : ℕ → Type 0) (test : ℕ → Bool) (x : ℕ) (xs : List ℕ) (b : Bool) → (b ≡ true → P x) → EachIs P (filter test xs) → EachIs P (cond b (x ∷ filter test xs) (filter test xs))
each_by P test x xs true h rest = (h refl, rest)
each_by P test x xs false h rest = rest

each_kept : (P : ℕ → Type 0) (test : ℕ → Bool) (place n : ℕ) → ((i : ℕ) → i < n → test (place + i) ≡ true → P (place + i)) → EachIs P (filter test (places_from place n))
each_kept P test place zero h = tt
each_kept P test place (suc n) h =
    let here : place + 0 ≡ place = omega arith in
    each_by P test place (places_from (suc place) n) (test place) (λ t. subst P here (h 0 (omega arith) (ap test here ∙ t)))
    (each_kept P test (suc place) n (λ i lt t.
    let e : suc place + i ≡ place + suc i = omega arith in
    subst P (sym e) (h (suc i) (omega (arith, lt)) (ap test (sym e) ∙ t))))

each_append : {A : Type 0} (P : A → Type 0) (xs ys : List A) → EachIs P xs → EachIs P ys → EachIs P (xs ++ ys)
each_append P [] ys h g = g
each_append P (x ∷ xs) ys h g = (h.0, each_append P xs ys h.1 g)

-- ---- homes

pub differ : (m n : ℕ) → (m ≡ n → ⊥) → (m == n) ≡ false
differ m n ne = by_test (m == n) refl
  where
    by_test : (b : Bool) → (m == n) ≡ b → (m == n) ≡ false
    by_test true e = absurd (ne (eqb-true m n e))
    by_test false e = e

abbrev pub IsElsewhere : Home → ℕ → Standpoint → Type 0
IsElsewhere home place h = is_home_of home h place ≡ false

pub no_home : (home : Home) (hs : List Standpoint) (place : ℕ) → EachIs (IsElsewhere home place) hs → is_home home hs place ≡ false
no_home home [] place h = refl
no_home home (x ∷ hs) place h = ap (λ (b : Bool). b || is_home home hs place) h.0 ∙ no_home home hs place h.1

-- what is no home is another object
pub other_there : (home : Home) (hs : List Standpoint) (i : ℕ) → i < length home.slots + home.words → EachIs (IsElsewhere home (home.place + i)) hs → IsAmong (home.place + i) (others_of home hs)
other_there home hs i lt each = among_kept (λ (place : ℕ). not (is_home home hs place)) (places_from home.place (length home.slots + home.words)) i (home.place + i) (places_at home.place (length home.slots + home.words) i lt) (ap not (no_home home hs (home.place + i) each))

-- and what holds of each place that is no home holds of each other object
pub others_are : (P : ℕ → Type 0) (home : Home) (hs : List Standpoint) → ((i : ℕ) → i < length home.slots + home.words → is_home home hs (home.place + i) ≡ false → P (home.place + i)) → EachIs P (others_of home hs)
others_are P home hs h = each_kept P (λ (place : ℕ). not (is_home home hs place)) home.place (length home.slots + home.words) (λ i lt t. h i lt (flipped (is_home home hs (home.place + i)) t))
  where
    flipped : (b : Bool) → not b ≡ true → b ≡ false
    flipped true e = absurd (let never : ⊥ = cc in never)
    flipped false e = refl

-- ---- slots behind those of the locals

slot_elsewhere : (home : Home) (slots : List Slot) (words : ℕ) (tags : List Tag) (i : ℕ) → length slots ≤ i → i < length home.slots → (t : CType) (h : Standpoint) (z : ℤ) → StandsIn slots words tags t h z → IsElsewhere home (home.place + i) h
slot_elsewhere home slots words tags i le lt t (InSlot n) z s = differ (home.place + i) (home.place + n) (λ e. let l = slice_get_within slots n s.slot s.there in let never : ⊥ = omega (arith, le, l, e) in never)
slot_elsewhere home slots words tags i le lt t (InWord n) z s = differ (home.place + i) (home.place + length home.slots + n) (λ e. let never : ⊥ = omega (arith, lt, e) in never)
slot_elsewhere home slots words tags i le lt t (AsPassed n) z s = refl

pub slots_elsewhere : (home : Home) (slots : List Slot) (words : ℕ) (tags : List Tag) (i : ℕ) → length slots ≤ i → i < length home.slots → (ts : List CType) (hs : List Standpoint) (zs : List ℤ) → AllStand slots words tags ts hs zs → EachIs (IsElsewhere home (home.place + i)) hs
slots_elsewhere home slots words tags i le lt [] [] zs s = tt
slots_elsewhere home slots words tags i le lt [] (h ∷ hs) zs s = absurd s
slots_elsewhere home slots words tags i le lt (t ∷ ts) [] zs s = tt
slots_elsewhere home slots words tags i le lt (t ∷ ts) (h ∷ hs) [] s = absurd s
slots_elsewhere home slots words tags i le lt (t ∷ ts) (h ∷ hs) (z ∷ zs) s = (slot_elsewhere home slots words tags i le lt t h z s.0, slots_elsewhere home slots words tags i le lt ts hs zs s.1)

-- ---- words that hold no parameter

-- none stands in this word
abbrev pub IsNoWord : ℕ → Standpoint → Type 0
IsNoWord j (InSlot n) = Unit {0}
IsNoWord j (InWord n) = n ≡ j → ⊥
IsNoWord j (AsPassed n) = Unit {0}

parameter_later : (j : ℕ) (whole narrow : Bool) (slot word : ℕ) → (word ≡ j → ⊥) → IsNoWord j (parameter_stands whole narrow slot word)
parameter_later j true narrow slot word ne = tt
parameter_later j false true slot word ne = tt
parameter_later j false false slot word ne = ne

later_words : (tags : List Tag) (j slot word : ℕ) (ts : List CType) → j < word → EachIs (IsNoWord j) (parameters_stand tags slot word ts)
later_words tags j slot word [] lt = tt
later_words tags j slot word (t ∷ ts) lt = (parameter_later j (is_record t) (is_narrow tags t) slot word (λ e. let never : ⊥ = omega (arith, lt, e) in never), later_words tags j (slot_behind (is_narrow tags t) slot) (suc word) ts (omega (arith, lt)))

other_words : (j slot : ℕ) (ts : List CType) → EachIs (IsNoWord j) (others_stand slot ts)
other_words j slot [] = tt
other_words j slot (t ∷ ts) = (tt, other_words j (suc slot) ts)

parameter_passed : (j : ℕ) (whole narrow : Bool) (slot word : ℕ) → parameter_stands whole narrow slot word ≡ AsPassed j → (word ≡ j) × IsNoWord j (parameter_stands whole narrow slot word)
parameter_passed j true narrow slot word e = (let same : word ≡ j = cc in same, tt)
parameter_passed j false true slot word e = absurd (let never : ⊥ = cc in never)
parameter_passed j false false slot word e = absurd (let never : ⊥ = cc in never)

passed_words : (tags : List Tag) (j slot word : ℕ) (ts us : List CType) (next n : ℕ) → slice_get (parameters_stand tags slot word ts ++ others_stand next us) n ≡ Some (AsPassed j) → (word ≤ j) × EachIs (IsNoWord j) (parameters_stand tags slot word ts ++ others_stand next us)
passed_words tags j slot word [] us next n e = absurd (never_passed next us n e)
  where
    never_passed : (slot : ℕ) (ts : List CType) (n : ℕ) → slice_get (others_stand slot ts) n ≡ Some (AsPassed j) → ⊥
    never_passed slot [] n e = (let never : ⊥ = cc in never)
    never_passed slot (t ∷ ts) zero e = (let never : ⊥ = cc in never)
    never_passed slot (t ∷ ts) (suc n) e = never_passed (suc slot) ts n e
passed_words tags j slot word (t ∷ ts) us next zero e =
    let here = parameter_passed j (is_record t) (is_narrow tags t) slot word (let same : parameter_stands (is_record t) (is_narrow tags t) slot word ≡ AsPassed j = cc in same) in
    let same = here.0 in (
      omega (arith, same),
      (
        here.1,
        each_append (IsNoWord j) (parameters_stand tags (slot_behind (is_narrow tags t) slot) (suc word) ts) (others_stand next us)
            (later_words tags j (slot_behind (is_narrow tags t) slot) (suc word) ts (omega (arith, same))) (other_words j next us),
      ),
    )
passed_words tags j slot word (t ∷ ts) us next (suc n) e =
    let r = passed_words tags j (slot_behind (is_narrow tags t) slot) (suc word) ts us next n e in
    let le = r.0 in
    (omega (arith, le), (parameter_later j (is_record t) (is_narrow tags t) slot word (λ e. let never : ⊥ = omega (arith, le, e) in never), r.1))

-- a parameter that doesn't stand in its word
unheld : (j : ℕ) (whole narrow : Bool) (slot word : ℕ) → (whole ≡ false → narrow ≡ false → ⊥) → IsNoWord j (parameter_stands whole narrow slot word)
unheld j true narrow slot word h = tt
unheld j false true slot word h = tt
unheld j false false slot word h = absurd (h refl refl)

unheld_words : (tags : List Tag) (slot word : ℕ) (ts us : List CType) (next i : ℕ) (t : CType) → slice_get ts i ≡ Some t → (is_record t ≡ false → is_narrow tags t ≡ false → ⊥) → EachIs (IsNoWord (word + i)) (parameters_stand tags slot word ts ++ others_stand next us)
unheld_words tags slot word [] us next i t e h = absurd (let never : ⊥ = cc in never)
unheld_words tags slot word (s ∷ ts) us next zero t e h =
    let same : s ≡ t = cc in
    let rest = slot_behind (is_narrow tags s) slot in (
      unheld (word + 0) (is_record s) (is_narrow tags s) slot word (λ p q. h (ap is_record (sym same) ∙ p) (ap (is_narrow tags) (sym same) ∙ q)),
      each_append (IsNoWord (word + 0)) (parameters_stand tags rest (suc word) ts) (others_stand next us) (later_words tags (word + 0) rest (suc word) ts (omega arith)) (other_words (word + 0) next us),
    )
unheld_words tags slot word (s ∷ ts) us next (suc i) t e h =
    let rest = slot_behind (is_narrow tags s) slot in
    let same : suc word + i ≡ word + suc i = omega arith in (
      parameter_later (word + suc i) (is_record s) (is_narrow tags s) slot word (λ e. let never : ⊥ = omega (arith, e) in never),
      subst (λ (j : ℕ). EachIs (IsNoWord j) (parameters_stand tags rest (suc word) ts ++ others_stand next us)) same (unheld_words tags rest (suc word) ts us next i t e h),
    )

pub unheld_word : (tags : List Tag) (f : FunctionTree) (i : ℕ) (t : CType) → slice_get (own_parameters f) i ≡ Some t → (is_record t ≡ false → is_narrow tags t ≡ false → ⊥) → EachIs (IsNoWord (first_word f + i)) (standpoints tags f)
unheld_word tags f i t e h = unheld_words tags 0 (first_word f) (own_parameters f) (drop f.parameters f.locals) (slot_behind_all tags 0 (own_parameters f)) i t e h

module _ (home : Home) (slots : List Slot) (words : ℕ) (tags : List Tag) (longer : length slots ≤ length home.slots) (j : ℕ) where
  word_elsewhere : (t : CType) (h : Standpoint) (z : ℤ) → StandsIn slots words tags t h z → IsNoWord j h → IsElsewhere home (home.place + (length home.slots + j)) h
  word_elsewhere t (InSlot n) z s free = differ (home.place + (length home.slots + j)) (home.place + n) (λ e. let l = slice_get_within slots n s.slot s.there in let le = longer in let never : ⊥ = omega (arith, l, le, e) in never)
  word_elsewhere t (InWord n) z s free = differ (home.place + (length home.slots + j)) (home.place + length home.slots + n) (λ e. free (omega (arith, e)))
  word_elsewhere t (AsPassed n) z s free = refl

  pub words_elsewhere : (ts : List CType) (hs : List Standpoint) (zs : List ℤ) → AllStand slots words tags ts hs zs → EachIs (IsNoWord j) hs → EachIs (IsElsewhere home (home.place + (length home.slots + j))) hs
  words_elsewhere [] [] zs s free = tt
  words_elsewhere [] (h ∷ hs) zs s free = absurd s
  words_elsewhere (t ∷ ts) [] zs s free = tt
  words_elsewhere (t ∷ ts) (h ∷ hs) [] s free = absurd s
  words_elsewhere (t ∷ ts) (h ∷ hs) (z ∷ zs) s free = (word_elsewhere t h z s.0 free.0, words_elsewhere ts hs zs s.1 free.1)

-- the word of a structure that was passed, and the hidden one, hold none
pub passed_word : (tags : List Tag) (f : FunctionTree) (n j : ℕ) → slice_get (standpoints tags f) n ≡ Some (AsPassed j) → EachIs (IsNoWord j) (standpoints tags f)
passed_word tags f n j e = (passed_words tags j 0 (first_word f) (own_parameters f) (drop f.parameters f.locals) (slot_behind_all tags 0 (own_parameters f)) n e).1

pub hidden_word : (tags : List Tag) (f : FunctionTree) → 0 < first_word f → EachIs (IsNoWord 0) (standpoints tags f)
hidden_word tags f lt =
    each_append (IsNoWord 0) (parameters_stand tags 0 (first_word f) (own_parameters f)) (others_stand (slot_behind_all tags 0 (own_parameters f)) (drop f.parameters f.locals))
    (later_words tags 0 0 (first_word f) (own_parameters f) lt) (other_words 0 (slot_behind_all tags 0 (own_parameters f)) (drop f.parameters f.locals))
