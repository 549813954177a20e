-- What holds of a block's entries holds of what it does.
use Rattle.std.proofs.Common.{◌≡◌, ℕ, zero, suc, ◌+◌, Bool, true, false, Some, List, [], ◌∷◌, ◌++◌, length, slice_get, refl, subst, arith, length-append}
use Rattle.std.specs.Prelude.{if◌then◌else◌, fold}
use Rattle.dag_forest.specs.declared.act.Act.{Act}
use Rattle.dag_forest.specs.declared.act.Act.TheVariants.{Made, Acts}
use Rattle.dag_forest.specs.declared.entry.Entry.{Entry}
use Rattle.dag_forest.specs.declared.entry.Entry.TheVariants.{Value, Root}
use Rattle.dag_forest.specs.declared.key.Key.{Key}
use Rattle.dag_forest.specs.declared.parts.Parts.{Parts}
use Rattle.dag_forest.specs.Keys.{key_at}
use Rattle.dag_forest.specs.Schedules.{waits, is_in, parted, reversed, kids_list, kids_of, number_of, with_below, with_other, in_turn, all_uses, used, acts_of}
use Rattle.dag_forest.specs.Tally.{Tally, with_entry, none, keys_of}
use Rattle.dag_seam.specs.Rooms.{AreActs, AreEntries}

module _ (P : ℕ → Parts → Type 0) (Q : Parts → Type 0) where
  pub are_append : (xs ys : List Act) → AreActs P Q xs → AreActs P Q ys → AreActs P Q (xs ++ ys)
  are_append [] ys h g = g
  are_append (Made n x ∷ xs) ys h g = (h.0, are_append xs ys h.1 g)
  are_append (Acts x ∷ xs) ys h g = (h.0, are_append xs ys h.1 g)

  are_first : (a : Act) (xs : List Act) → AreActs P Q (a ∷ xs) → AreActs P Q (a ∷ []) × AreActs P Q xs
  are_first (Made n x) xs h = ((h.0, tt), h.1)
  are_first (Acts x) xs h = ((h.0, tt), h.1)

  are_reversed : (xs : List Act) → AreActs P Q xs → AreActs P Q (reversed xs)
  are_reversed [] h = tt
  are_reversed (a ∷ xs) h = let f = are_first a xs h in are_append (reversed xs) (a ∷ []) (are_reversed xs f.1) f.0

  are_parted : (ns : List ℕ) (xs : List Act) → AreActs P Q xs → AreActs P Q (parted ns xs).below × AreActs P Q (parted ns xs).others
  are_parted ns [] h = (tt, tt)
  are_parted ns (a ∷ xs) h = let f = are_first a xs h in by (is_in (number_of a) ns) f.0 (are_parted (ns ++ kids_list (kids_of a)) xs f.1) (are_parted ns xs f.1)
    where
      by : (b : Bool) → AreActs P Q (a ∷ []) → AreActs P Q (parted (ns ++ kids_list (kids_of a)) xs).below × AreActs P Q (parted (ns ++ kids_list (kids_of a)) xs).others → AreActs P Q (parted ns xs).below × AreActs P Q (parted ns xs).others
          → AreActs P Q (if b then with_below a (parted (ns ++ kids_list (kids_of a)) xs) else with_other a (parted ns xs)).below × AreActs P Q (if b then with_below a (parted (ns ++ kids_list (kids_of a)) xs) else with_other a (parted ns xs)).others
      by true o r q = (are_append (parted (ns ++ kids_list (kids_of a)) xs).below (a ∷ []) r.0 o, r.1)
      by false o r q = (q.0, are_append (parted ns xs).others (a ∷ []) q.1 o)

  are_in_turn : (es : List Entry) (n : ℕ) (pending : List Act) → AreEntries P Q es n → AreActs P Q pending → AreActs P Q (in_turn es n pending)
  are_in_turn [] n pending h g = tt
  are_in_turn (Value x ∷ es) n pending h g = by (waits x pending) (are_in_turn es (suc n) (pending ++ Made n x ∷ []) h.1 (are_append pending (Made n x ∷ []) g (h.0, tt))) (are_in_turn es (suc n) pending h.1 g)
    where
      by : (b : Bool) → AreActs P Q (in_turn es (suc n) (pending ++ Made n x ∷ [])) → AreActs P Q (in_turn es (suc n) pending) → AreActs P Q (if b then in_turn es (suc n) (pending ++ Made n x ∷ []) else Made n x ∷ in_turn es (suc n) pending)
      by true f q = f
      by false f q = (h.0, q)
  are_in_turn (Root x ∷ es) n pending h g =
      let p = parted (kids_list x.kids) (reversed pending) in
      let r = are_parted (kids_list x.kids) (reversed pending) (are_reversed pending g) in
      are_append p.below (Acts x ∷ in_turn es n p.others) r.0 (h.0, are_in_turn es n p.others h.1 r.1)

  are_used : (xs : List Act) → AreActs P Q xs → AreActs P Q (used xs)
  are_used [] h = tt
  are_used (Made n x ∷ xs) h = by (is_in n (all_uses (used xs))) (are_used xs h.1)
    where
      by : (b : Bool) → AreActs P Q (used xs) → AreActs P Q (if b then Made n x ∷ used xs else used xs)
      by true g = (h.0, g)
      by false g = g
  are_used (Acts x ∷ xs) h = (h.0, are_used xs h.1)

  pub acts_are : (es : List Entry) → AreEntries P Q es 0 → AreActs P Q (acts_of es)
  acts_are es h = are_used (in_turn es 0 []) (are_in_turn es 0 [] h tt)

pub entries_map : (P P1 : ℕ → Parts → Type 0) (Q Q1 : Parts → Type 0) (es : List Entry) (n : ℕ) → ((m : ℕ) (x : Parts) → P m x → P1 m x) → ((x : Parts) → Q x → Q1 x) → AreEntries P Q es n → AreEntries P1 Q1 es n
entries_map P P1 Q Q1 [] n f g h = tt
entries_map P P1 Q Q1 (Value x ∷ es) n f g h = (f n x h.0, entries_map P P1 Q Q1 es (suc n) f g h.1)
entries_map P P1 Q Q1 (Root x ∷ es) n f g h = (g x h.0, entries_map P P1 Q Q1 es n f g h.1)

pub entries_zip : (P P1 P2 : ℕ → Parts → Type 0) (Q Q1 Q2 : Parts → Type 0) (es : List Entry) (n : ℕ) → ((m : ℕ) (x : Parts) → P m x → P1 m x → P2 m x) → ((x : Parts) → Q x → Q1 x → Q2 x) → AreEntries P Q es n → AreEntries P1 Q1 es n → AreEntries P2 Q2 es n
entries_zip P P1 P2 Q Q1 Q2 [] n f k h g = tt
entries_zip P P1 P2 Q Q1 Q2 (Value x ∷ es) n f k h g = (f n x h.0 g.0, entries_zip P P1 P2 Q Q1 Q2 es (suc n) f k h.1 g.1)
entries_zip P P1 P2 Q Q1 Q2 (Root x ∷ es) n f k h g = (k x h.0 g.0, entries_zip P P1 P2 Q Q1 Q2 es n f k h.1 g.1)

-- ---- nodes have the parts of their keys

abbrev pub HasParts : List Key → ℕ → Parts → Type 0
HasParts keys n x = (k : Key) × (slice_get keys n ≡ Some k) × (k.parts ≡ x)

pub get_left : {X : Type 0} (xs ys : List X) (m : ℕ) (k : X) → slice_get xs m ≡ Some k → slice_get (xs ++ ys) m ≡ Some k
get_left [] ys m k e = let no : ⊥ = cc in absurd no
get_left (x ∷ xs) ys zero k e = e
get_left (x ∷ xs) ys (suc m) k e = get_left xs ys m k e

pub get_last : {X : Type 0} (xs : List X) (y : X) → slice_get (xs ++ y ∷ []) (length xs) ≡ Some y
get_last [] y = refl
get_last (x ∷ xs) y = get_last xs y

keys_stay : (es : List Entry) (t : Tally) (m : ℕ) (k : Key) → slice_get t.keys m ≡ Some k → slice_get (fold with_entry t es).keys m ≡ Some k
keys_stay [] t m k e = e
keys_stay (Value x ∷ es) t m k e = keys_stay es (with_entry t (Value x)) m k (get_left t.keys (key_at t.stretch (length t.keys) x ∷ []) m k e)
keys_stay (Root x ∷ es) t m k e = keys_stay es (with_entry t (Root x)) m k e

abbrev pub IsAny : Parts → Type 0
IsAny x = Unit {0}

keys_from : (es : List Entry) (t : Tally) → AreEntries (HasParts (fold with_entry t es).keys) IsAny es (length t.keys)
keys_from [] t = tt
keys_from (Value x ∷ es) t =
    let k = key_at t.stretch (length t.keys) x in
    let e : length (t.keys ++ k ∷ []) ≡ length t.keys + 1 = length-append t.keys (k ∷ []) in
    let d : length (t.keys ++ k ∷ []) ≡ suc (length t.keys) = omega (arith, e) in
    ((k, keys_stay es (with_entry t (Value x)) (length t.keys) k (get_last t.keys k), refl), subst (λ z. AreEntries (HasParts (fold with_entry (with_entry t (Value x)) es).keys) IsAny es z) d (keys_from es (with_entry t (Value x))))
keys_from (Root x ∷ es) t = (tt, keys_from es (with_entry t (Root x)))

pub acts_have_parts : (es : List Entry) → AreActs (HasParts (keys_of es)) IsAny (acts_of es)
acts_have_parts es = acts_are (HasParts (keys_of es)) IsAny es (keys_from es none)

pub entries_have_parts : (es : List Entry) → AreEntries (HasParts (keys_of es)) IsAny es 0
entries_have_parts es = keys_from es none
