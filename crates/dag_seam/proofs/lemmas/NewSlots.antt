-- Where the new slots of a block lie in the frame.
use Rattle.std.proofs.Common.{◌≡◌, ⊎_elim, ℕ, zero, suc, ◌+◌, ◌<◌, ℤ, Some, List, [], ◌∷◌, ◌++◌, length, slice_get, refl, sym, ap, ◌∙◌, arith}
use Rattle.std.proofs.lemmas.Int.{ints}
use Rattle.std.proofs.lemmas.Bool.{cases_eq}
use Rattle.std.proofs.lemmas.Option.{slice_get_within, get_or_from_slice_get}
use Rattle.std.specs.Prelude.{Any}
use Rattle.op_forest.specs.declared.frame.Slot.{Slot}
use Rattle.op_forest.specs.Frames.{lowest}
use Rattle.forests.specs.WellFormed.{LiesIn, LiesInOne}
use Rattle.dag_forest.specs.declared.entry.Entry.{Entry}
use Rattle.dag_forest.specs.NewSlots.{offset_below, slot_below, slots_below}
use Rattle.dag_forest.specs.Split.{split_frame, room_count}

get_append : {X : Type 0} (xs ys : List X) (m : ℕ) (k : X) → slice_get xs m ≡ Some k → slice_get (xs ++ ys) m ≡ Some k
get_append [] ys m k e = let no : ⊥ = cc in absurd no
get_append (x ∷ xs) ys zero k e = e
get_append (x ∷ xs) ys (suc m) k e = get_append xs ys m k e

get_behind : {X : Type 0} (xs ys : List X) (m : ℕ) → slice_get (xs ++ ys) (length xs + m) ≡ slice_get ys m
get_behind [] ys m = let e : 0 + m ≡ m = omega arith in ap (slice_get ys) e
get_behind (x ∷ xs) ys m = let e : suc (length xs) + m ≡ suc (length xs + m) = omega arith in ap (slice_get (x ∷ (xs ++ ys))) e ∙ get_behind xs ys m

length_below : (low : ℤ) (n : ℕ) → length (slots_below low n) ≡ n
length_below low zero = refl
length_below low (suc n) = let e = length_snoc (slots_below low n) (slot_below low n) in let h = length_below low n in omega (arith, e, h)
  where
    length_snoc : (xs : List Slot) (y : Slot) → length (xs ++ y ∷ []) ≡ suc (length xs)
    length_snoc [] y = refl
    length_snoc (x ∷ xs) y = ap suc (length_snoc xs y)

get_below : (low : ℤ) (c n : ℕ) → n < c → slice_get (slots_below low c) n ≡ Some (slot_below low n)
get_below low zero n l = absurd (omega (arith, l))
get_below low (suc c) n l = ⊎_elim
    (λ e. let d : length (slots_below low c) + 0 ≡ n = let z = length_below low c in omega (arith, z, e) in
    ap (slice_get (slots_below low c ++ slot_below low c ∷ [])) (sym d) ∙ get_behind (slots_below low c) (slot_below low c ∷ []) 0 ∙ ap (λ k. Some (slot_below low k)) (sym e))
    (λ ne. get_append (slots_below low c) (slot_below low c ∷ []) n (slot_below low n) (get_below low c n (omega (arith, l, ne))))
    (cases_eq n c)

any_of : {X : Type 0} (P : X → Type 0) (xs : List X) (k : ℕ) (x : X) → slice_get xs k ≡ Some x → P x → Any P xs
any_of P xs k x e p = (k, x, slice_get_within xs k x e, get_or_from_slice_get xs k x x e, p)

lies_first : (low : ℤ) (n : ℕ) → LiesIn (offset_below low n) (slot_below low n)
lies_first low n = (omega (arith, ints), omega (arith, ints))

pub lies_in_new : (before more : List Slot) (es : List Entry) (n : ℕ) → n < room_count es → LiesInOne (split_frame before es ++ more) (offset_below (lowest before) n)
lies_in_new before more es n l =
    any_of (LiesIn (offset_below (lowest before) n)) (split_frame before es ++ more) (length before + n) (slot_below (lowest before) n)
    (get_append (split_frame before es) more (length before + n) (slot_below (lowest before) n)
    (get_behind before (slots_below (lowest before) (room_count es)) n ∙ get_below (lowest before) (room_count es) n l))
    (lies_first (lowest before) n)
