-- No two locals have one home, and each home is a slot or a word of the call.
use Rattle.std.specs.Prelude.{◌≡◌, ◌≤◌, ◌<◌, ℕ, zero, suc, ◌+◌, ◌==◌, ℤ, Bool, true, false, List, [], ◌∷◌, ◌++◌, length, drop}
use Rattle.std.proofs.Common.{refl, arith}
use Rattle.std.proofs.lemmas.Option.{slice_get_within}
use Rattle.op_forest.specs.declared.frame.Slot.{Slot}
use Rattle.forests.specs.Addresses.{Home}
use Rattle.objects.specs.Objects.{Object as Old}
use Rattle.c_types.specs.CType.{CType}
use Rattle.c_types.specs.Layout.{Tag}
use Rattle.c_meaning.specs.Each.{EachIs}
use Rattle.c_meaning.specs.Types.{is_record}
use Rattle.c_meaning.specs.Units.{FunctionTree}
use Rattle.c_runs.specs.Calls.{own_parameters}
use Rattle.c_match.specs.Left.{IsPrivate}
use Rattle.c_match.specs.Ranges.{Map}
use Rattle.lowered_statements.specs.Layouts.{is_narrow, first_word}
use Rattle.c_entries_agree.specs.Standpoints.{Standpoint, InSlot, InWord, AsPassed, parameter_stands, slot_behind, slot_behind_all, parameters_stand, others_stand, standpoints, is_home_of, is_home}
use Rattle.c_entries_agree.proofs.lemmas.Holding.{IsClear, AreClear, IsFreeHome}
use Rattle.c_entries_agree.proofs.lemmas.Others.{IsElsewhere, differ, no_home}
use Rattle.c_entries_agree.proofs.lemmas.Places.{StandsIn, AllStand}

-- ---- from this slot and this word on

abbrev IsFrom : ℕ → ℕ → Standpoint → Type 0
IsFrom slot word (InSlot n) = slot ≤ n
IsFrom slot word (InWord n) = word ≤ n
IsFrom slot word (AsPassed n) = Unit {0}

from_sooner : (slot word more next : ℕ) → slot ≤ more → word ≤ next → (hs : List Standpoint) → EachIs (IsFrom more next) hs → EachIs (IsFrom slot word) hs
from_sooner slot word more next p q [] h = tt
from_sooner slot word more next p q (InSlot n ∷ hs) h = ((let e = h.0 in omega (arith, p, e)), from_sooner slot word more next p q hs h.1)
from_sooner slot word more next p q (InWord n ∷ hs) h = ((let e = h.0 in omega (arith, q, e)), from_sooner slot word more next p q hs h.1)
from_sooner slot word more next p q (AsPassed n ∷ hs) h = (tt, from_sooner slot word more next p q hs h.1)

slot_on : (narrow : Bool) (slot : ℕ) → slot ≤ slot_behind narrow slot
slot_on true slot = omega arith
slot_on false slot = omega arith

head_from : (whole narrow : Bool) (slot word : ℕ) → IsFrom slot word (parameter_stands whole narrow slot word)
head_from true narrow slot word = tt
head_from false true slot word = omega arith
head_from false false slot word = omega arith

others_from : (slot word : ℕ) (us : List CType) → EachIs (IsFrom slot word) (others_stand slot us)
others_from slot word [] = tt
others_from slot word (t ∷ us) = (omega arith, from_sooner slot word (suc slot) word (omega arith) (omega arith) (others_stand (suc slot) us) (others_from (suc slot) word us))

all_from : (tags : List Tag) (slot word : ℕ) (ts us : List CType) → EachIs (IsFrom slot word) (parameters_stand tags slot word ts ++ others_stand (slot_behind_all tags slot ts) us)
all_from tags slot word [] us = others_from slot word us
all_from tags slot word (t ∷ ts) us =
    let next = slot_behind (is_narrow tags t) slot in (
      head_from (is_record t) (is_narrow tags t) slot word,
      from_sooner slot word next (suc word) (slot_on (is_narrow tags t) slot) (omega arith) (parameters_stand tags next (suc word) ts ++ others_stand (slot_behind_all tags next ts) us) (all_from tags next (suc word) ts us),
    )

-- ---- slots are the frame's

abbrev pub IsOfFrame : Home → Standpoint → Type 0
IsOfFrame home (InSlot n) = n < length home.slots
IsOfFrame home (InWord n) = n < home.words
IsOfFrame home (AsPassed n) = Unit {0}

one_of_frame : (home : Home) (tags : List Tag) (t : CType) (h : Standpoint) (z : ℤ) → StandsIn home.slots home.words tags t h z → IsOfFrame home h
one_of_frame home tags t (InSlot n) z s = slice_get_within home.slots n s.slot s.there
one_of_frame home tags t (InWord n) z s = s.1
one_of_frame home tags t (AsPassed n) z s = tt

pub all_of_frame : (home : Home) (tags : List Tag) (ts : List CType) (hs : List Standpoint) (zs : List ℤ) → AllStand home.slots home.words tags ts hs zs → EachIs (IsOfFrame home) hs
all_of_frame home tags [] [] zs s = tt
all_of_frame home tags [] (h ∷ hs) zs s = absurd s
all_of_frame home tags (t ∷ ts) [] zs s = tt
all_of_frame home tags (t ∷ ts) (h ∷ hs) [] s = absurd s
all_of_frame home tags (t ∷ ts) (h ∷ hs) (z ∷ zs) s = (one_of_frame home tags t h z s.0, all_of_frame home tags ts hs zs s.1)

-- ---- they are apart

clear_of : (home : Home) (whole narrow : Bool) (slot word : ℕ) (g : Standpoint) → IsOfFrame home (parameter_stands whole narrow slot word) → IsFrom (slot_behind narrow slot) (suc word) g → IsOfFrame home g → IsClear home (parameter_stands whole narrow slot word) g
clear_of home true narrow slot word (InSlot n) i f j = refl
clear_of home true narrow slot word (InWord n) i f j = refl
clear_of home true narrow slot word (AsPassed n) i f j = tt
clear_of home false true slot word (InSlot n) i f j = differ (home.place + n) (home.place + slot) (λ e. let never : ⊥ = omega (arith, e, f) in never)
clear_of home false true slot word (InWord n) i f j = differ (home.place + length home.slots + n) (home.place + slot) (λ e. let never : ⊥ = omega (arith, e, i) in never)
clear_of home false true slot word (AsPassed n) i f j = tt
clear_of home false false slot word (InSlot n) i f j = differ (home.place + n) (home.place + length home.slots + word) (λ e. let never : ⊥ = omega (arith, e, j) in never)
clear_of home false false slot word (InWord n) i f j = differ (home.place + length home.slots + n) (home.place + length home.slots + word) (λ e. let never : ⊥ = omega (arith, e, f) in never)
clear_of home false false slot word (AsPassed n) i f j = tt

all_clear_of : (home : Home) (whole narrow : Bool) (slot word : ℕ) (gs : List Standpoint) → IsOfFrame home (parameter_stands whole narrow slot word) → EachIs (IsFrom (slot_behind narrow slot) (suc word)) gs → EachIs (IsOfFrame home) gs
    → EachIs (IsClear home (parameter_stands whole narrow slot word)) gs
all_clear_of home whole narrow slot word [] i f j = tt
all_clear_of home whole narrow slot word (g ∷ gs) i f j = (clear_of home whole narrow slot word g i f.0 j.0, all_clear_of home whole narrow slot word gs i f.1 j.1)

others_clear : (home : Home) (slot : ℕ) (us : List CType) → EachIs (IsOfFrame home) (others_stand slot us) → AreClear home (others_stand slot us)
others_clear home slot [] i = tt
others_clear home slot (t ∷ us) i = (all_clear_of home false true slot 0 (others_stand (suc slot) us) i.0 (later (suc slot) us) i.1, others_clear home (suc slot) us i.1)
  where
    later : (slot : ℕ) (us : List CType) → EachIs (IsFrom slot 1) (others_stand slot us)
    later slot us = others_from slot 1 us

all_clear : (home : Home) (tags : List Tag) (slot word : ℕ) (ts us : List CType) → EachIs (IsOfFrame home) (parameters_stand tags slot word ts ++ others_stand (slot_behind_all tags slot ts) us) → AreClear home (parameters_stand tags slot word ts ++ others_stand (slot_behind_all tags slot ts) us)
all_clear home tags slot word [] us i = others_clear home slot us i
all_clear home tags slot word (t ∷ ts) us i =
    let next = slot_behind (is_narrow tags t) slot in
    let gs = parameters_stand tags next (suc word) ts ++ others_stand (slot_behind_all tags next ts) us in
    (all_clear_of home (is_record t) (is_narrow tags t) slot word gs i.0 (all_from tags next (suc word) ts us) i.1, all_clear home tags next (suc word) ts us i.1)

pub standpoints_clear : (home : Home) (tags : List Tag) (f : FunctionTree) → EachIs (IsOfFrame home) (standpoints tags f) → AreClear home (standpoints tags f)
standpoints_clear home tags f i = all_clear home tags 0 (first_word f) (own_parameters f) (drop f.parameters f.locals) i

-- ---- none is before the call's objects

pub all_free : (home : Home) (map : Map) (old : List Old) → ((place : ℕ) → home.place ≤ place → IsPrivate map old place) → (hs : List Standpoint) → EachIs (IsFreeHome home map old) hs
all_free home map old h [] = tt
all_free home map old h (InSlot n ∷ hs) = (h (home.place + n) (omega arith), all_free home map old h hs)
all_free home map old h (InWord n ∷ hs) = (h (home.place + length home.slots + n) (omega arith), all_free home map old h hs)
all_free home map old h (AsPassed n ∷ hs) = (tt, all_free home map old h hs)

all_elsewhere : (home : Home) (place : ℕ) → place < home.place → (hs : List Standpoint) → EachIs (IsElsewhere home place) hs
all_elsewhere home place lt [] = tt
all_elsewhere home place lt (InSlot n ∷ hs) = (differ place (home.place + n) (λ e. let never : ⊥ = omega (arith, e, lt) in never), all_elsewhere home place lt hs)
all_elsewhere home place lt (InWord n ∷ hs) = (differ place (home.place + length home.slots + n) (λ e. let never : ⊥ = omega (arith, e, lt) in never), all_elsewhere home place lt hs)
all_elsewhere home place lt (AsPassed n ∷ hs) = (refl, all_elsewhere home place lt hs)

pub before_is_none : (home : Home) (place : ℕ) → place < home.place → (hs : List Standpoint) → is_home home hs place ≡ false
before_is_none home place lt hs = no_home home hs place (all_elsewhere home place lt hs)
