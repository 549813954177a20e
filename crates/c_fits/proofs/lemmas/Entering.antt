-- The first place in an object that an expression can fill lies in the object, and so does what waits behind it.
use Rattle.std.proofs.Common.{◌≡◌, ◌⊎◌, ℕ, zero, suc, ◌+◌, ◌*◌, Bool, true, false, List, [], ◌∷◌, ◌++◌, map, refl, sym, ap, subst, ◌∙◌, inl, inr, arith}
use Rattle.std.specs.Prelude.{◌==◌, Option, Some, None, if◌then◌else◌}
use Rattle.c_types.specs.BitFields.{are_fields, have_fields}
use Rattle.c_types.specs.CType.{CType, Plain, Array, Kind, Simple, Pointer, Function, Structure, Union, Enumeration}
use Rattle.c_types.specs.Layout.{Tag, extent, fields, known, structure_extent, times}
use Rattle.c_types.specs.Members.{MemberAt, tag_places}
use Rattle.c_meaning.specs.Filling.{Waiting, Whole, Elements, Found, element, elements_behind, enter, enter_by, entered_kind, entered_known, fills, first_member, first_only, found, is_none_left, members_in, members_of, moved_to, or_else, parts, with_left}
use Rattle.c_meaning.specs.Values.{CoreTree}
use Rattle.c_fits.specs.OpenPlaces.{bytes_at}
use Rattle.c_fits.proofs.lemmas.Booleans.{and_left, and_right}
use Rattle.c_fits.proofs.lemmas.Growing.{more_grows}
use Rattle.c_fits.proofs.lemmas.MemberPlaces.{tag_lies}
use Rattle.c_fits.proofs.lemmas.Waiting.{AllIn, AreWaiting, Bound, HaveMembers, IsWithin, Lies, behind_waits, element_lies, lies_stays, members_wait, moved_in, next_within, no_bits, waiting_join, waiting_stays}

-- ---- what is found

pub some_found : (f g : Found) → Some f ≡ Some g → f ≡ g
some_found f g e = cc

pub none_found : {A : Type 0} {f : Found} → None ≡ Some f → A
none_found {f = f} e = absurd (let never : ⊥ = cc in never)

-- the one, or else the other
pub either_found : (x y : Option Found) (f : Found) → or_else x y ≡ Some f → (x ≡ Some f) ⊎ (y ≡ Some f)
either_found (Some g) y f e = inl e
either_found None y f e = inr e

-- with more behind it
pub left_found : (more : List Waiting) (x : Option Found) (f : Found) → with_left more x ≡ Some f → (g : Found) × (x ≡ Some g) × (found g.at (g.left ++ more) ≡ f)
left_found more (Some g) f e = (g, refl, some_found (found g.at (g.left ++ more)) f e)
left_found more None f e = none_found e

-- a place that lies there, and what waits behind it; the expression fills the place
pub record Entered (tags : List Tag) (b : Bound) (c : CoreTree) (f : Found) : Type 0 where
  pub at : Lies tags b f.at
  pub left : AreWaiting tags b None f.left
  pub fills : fills f.at.of c ≡ true

with_more : (tags : List Tag) (b : Bound) (c : CoreTree) (g f : Found) (more : List Waiting) → Entered tags b c g → AreWaiting tags b None more → found g.at (g.left ++ more) ≡ f → Entered tags b c f
with_more tags b c g f more h k e = subst (Entered tags b c) e (record { at = h.at; left = waiting_join tags b None g.left more h.left k; fills = h.fills })

-- ---- in types

abbrev size_of : List Tag → CType → Option ℕ
size_of tags t = (extent tags t).size

-- an array that has a size is of so many elements that have one
pub record HasElements (tags : List Tag) (of : CType) (count : Option ℕ) (n : ℕ) : Type 0 where
  pub many : ℕ
  pub some : count ≡ Some many
  pub size : ℕ
  pub sized : size_of tags of ≡ Some size
  pub all : many * size ≡ n

pub has_elements : (tags : List Tag) (of : CType) (count : Option ℕ) (n : ℕ) → times count (size_of tags of) ≡ Some n → HasElements tags of count n
has_elements tags of count n h = by count (size_of tags of) refl h
  where
    by : (c s : Option ℕ) → size_of tags of ≡ s → times c s ≡ Some n → HasElements tags of c n
    by (Some m) (Some k) e g = record { many = m; some = refl; size = k; sized = e; all = cc }
    by (Some m) None e g = absurd (let never : ⊥ = cc in never)
    by None s e g = absurd (let never : ⊥ = cc in never)

-- the bytes of a place that is no bit-field
pub whole_bytes : (tags : List Tag) (at : MemberAt) (n : ℕ) → (at.width == 0) ≡ true → bytes_at tags at ≡ Some n → size_of tags at.of ≡ Some n
whole_bytes tags at n z h = subst (λ w. (if w then size_of tags at.of else Some 4) ≡ Some n) z h

-- where those of structures are entered so
abbrev KnownLies : List Tag → Bound → CoreTree → (ℕ → ℕ → Option Found) → Type 0
KnownLies tags b c enters = (n offset size : ℕ) (f : Found) → (known tags n).size ≡ Some size → IsWithin b offset size → enters n offset ≡ Some f → Entered tags b c f

record_lies : (tags : List Tag) (b : Bound) (c : CoreTree) (enters : ℕ → ℕ → Option Found) → KnownLies tags b c enters → (q n : ℕ) (k : Kind) (at : MemberAt) (f : Found) → Lies tags b at → (at.width == 0) ≡ true → at.of ≡ Plain q k → size_of tags (Plain q k) ≡ (known tags n).size
    → enters n at.offset ≡ Some f → Entered tags b c f
record_lies tags b c enters h q n k at f l z e d g =
    h n at.offset l.1.0 f (sym d ∙ subst (λ t. size_of tags t ≡ Some l.1.0) e (whole_bytes tags at l.1.0 z l.1.1)) l.1.2 g

enter_kind : (tags : List Tag) (b : Bound) (c : CoreTree) (enters : ℕ → ℕ → Option Found) → KnownLies tags b c enters → (q : ℕ) (k : Kind) (at : MemberAt) (f : Found) → Lies tags b at → at.of ≡ Plain q k → entered_kind enters k at.offset ≡ Some f → Entered tags b c f
enter_kind tags b c enters h q (Structure n) at f l e g = record_lies tags b c enters h q n (Structure n) at f l (no_bits at l.0 (rw e)) e refl g
enter_kind tags b c enters h q (Union n) at f l e g = record_lies tags b c enters h q n (Union n) at f l (no_bits at l.0 (rw e)) e refl g
enter_kind tags b c enters h q (Simple x) at f l e g = none_found g
enter_kind tags b c enters h q (Pointer x) at f l e g = none_found g
enter_kind tags b c enters h q (Function x y) at f l e g = none_found g
enter_kind tags b c enters h q (Enumeration x) at f l e g = none_found g

-- the object itself
entered_whole : (tags : List Tag) (b : Bound) (c : CoreTree) (of : CType) (at : MemberAt) (f : Found) → Lies tags b at → at.of ≡ of → fills of c ≡ true → Some (found at []) ≡ Some f → Entered tags b c f
entered_whole tags b c of at f l e t g = subst (Entered tags b c) (some_found (found at []) f g) (record { at = l; left = refl; fills = ap (λ t. fills t c) e ∙ t })

enter_lies_by : (tags : List Tag) (b : Bound) (c : CoreTree) (enters : ℕ → ℕ → Option Found) → KnownLies tags b c enters → (of : CType) (at : MemberAt) (f : Found) → Lies tags b at → at.of ≡ of → enter_by tags enters c of at ≡ Some f → Entered tags b c f
enter_lies_by tags b c enters h (Plain q k) at f l e g = by (fills (Plain q k) c) refl g
  where
    by : (t : Bool) → fills (Plain q k) c ≡ t → (if t then Some (found at []) else entered_kind enters k at.offset) ≡ Some f → Entered tags b c f
    by true t g = entered_whole tags b c (Plain q k) at f l e t g
    by false t g = enter_kind tags b c enters h q k at f l e g
enter_lies_by tags b c enters h (Array of count) at f l e g =
    by (fills (Array of count) c) refl count has.some g (λ i x. enter_lies_by tags b c enters h of (element tags of at.offset 0) x i refl)
  where
    has : HasElements tags of count l.1.0
    has = has_elements tags of count l.1.0 (subst (λ t. size_of tags t ≡ Some l.1.0) e (whole_bytes tags at l.1.0 (no_bits at l.0 (rw e)) l.1.1))

    room : (m : ℕ) → Some m ≡ Some has.many → IsWithin b at.offset ((0 + m) * has.size)
    room m d = let a = has.all in let k : m ≡ has.many = cc in subst (IsWithin b at.offset) (sym a ∙ ap (λ j. j * has.size) (sym k) ∙ ap (λ j. j * has.size) (let z : m ≡ 0 + m = omega arith in z)) l.1.2

    by : (t : Bool) → fills (Array of count) c ≡ t → (n : Option ℕ) → n ≡ Some has.many
        → (if t then Some (found at []) else if is_none_left n then None else with_left (elements_behind of at.offset 0 n) (enter_by tags enters c of (element tags of at.offset 0))) ≡ Some f
        → (Lies tags b (element tags of at.offset 0) → (x : Found) → enter_by tags enters c of (element tags of at.offset 0) ≡ Some x → Entered tags b c x) → Entered tags b c f
    by true t n d g i = entered_whole tags b c (Array of count) at f l e t g
    by false t None d g i = absurd (let never : ⊥ = cc in never)
    by false t (Some zero) d g i = none_found g
    by false t (Some (suc m)) d g i =
        let w = room (suc m) d in
        let x = left_found (elements_behind of at.offset 0 (Some (suc m))) (enter_by tags enters c of (element tags of at.offset 0)) f g in
        with_more tags b c x.0 f (elements_behind of at.offset 0 (Some (suc m)))
        (i (element_lies tags b of at.offset 0 has.size has.sized (next_within b at.offset 0 m has.size w)) x.0 x.1)
        (behind_waits tags b of at.offset 0 m has.size has.sized w) x.2

-- ---- in structures

first_member_lies : (tags : List Tag) (b : Bound) (c : CoreTree) (enters : MemberAt → Option Found) (ms : List MemberAt) (f : Found) → AllIn tags b ms → ((m : MemberAt) (g : Found) → Lies tags b m → enters m ≡ Some g → Entered tags b c g) → first_member enters ms ≡ Some f → Entered tags b c f
first_member_lies tags b c enters [] f h k e = none_found e
first_member_lies tags b c enters (m ∷ ms) f h k e = by (either_found (with_left (map Whole ms) (enters m)) (first_member enters ms) f e) (first_member_lies tags b c enters ms f h.1 k)
  where
    by : (with_left (map Whole ms) (enters m) ≡ Some f) ⊎ (first_member enters ms ≡ Some f) → (first_member enters ms ≡ Some f → Entered tags b c f) → Entered tags b c f
    by (inl g) i = let x = left_found (map Whole ms) (enters m) f g in with_more tags b c x.0 f (map Whole ms) (k m x.0 h.0 x.1) (members_wait tags b ms h.1) x.2
    by (inr g) i = i g

first_in : (tags : List Tag) (b : Bound) (union : Bool) (ms : List MemberAt) → AllIn tags b ms → AllIn tags b (first_only union ms)
first_in tags b true (m ∷ ms) h = (h.0, tt)
first_in tags b true [] h = tt
first_in tags b false ms h = h

members_lie : (older : List Tag) (tag : Tag) (b : Bound) (offset size : ℕ) → HaveMembers (tag ∷ older) → (structure_extent tag.is_union (fields (known older) tag.members)).size ≡ Some size → IsWithin b offset size → AllIn older b (members_of older tag offset)
members_lie older tag b offset size m e w =
    first_in older b tag.is_union (map (moved_to offset) (tag_places older tag))
    (moved_in older b size offset (tag_places older tag) (tag_lies older tag size m.sizes.0 (and_left (are_fields tag.members) (have_fields older) m.fields) e) w)

older_members : (older : List Tag) (tag : Tag) → HaveMembers (tag ∷ older) → HaveMembers older
older_members older tag m = record { fields = and_right (are_fields tag.members) (have_fields older) m.fields; sizes = m.sizes.1; once = m.once.1 }

entered_stays : (older : List Tag) (tag : Tag) (b : Bound) (c : CoreTree) (f : Found) → HaveMembers (tag ∷ older) → Entered older b c f → Entered (tag ∷ older) b c f
entered_stays older tag b c f m h =
    let g = more_grows older tag m.once.0 in
    record { at = lies_stays older (tag ∷ older) b f.at g h.at; left = waiting_stays older (tag ∷ older) b None f.left g h.left; fills = h.fills }

known_lies : (tags : List Tag) (b : Bound) (c : CoreTree) → HaveMembers tags → KnownLies tags b c (entered_known tags c)
known_lies [] b c m n offset size f e w g = none_found g
known_lies (tag ∷ older) b c m n offset size f e w g = by (n == tag.number) e g (known_lies older b c (older_members older tag m))
  where
    by : (t : Bool) → (if t then structure_extent tag.is_union (fields (known older) tag.members) else known older n).size ≡ Some size
        → (if t then first_member (λ m. enter_by older (entered_known older c) c m.of m) (members_of older tag offset) else entered_known older c n offset) ≡ Some f
        → KnownLies older b c (entered_known older c) → Entered (tag ∷ older) b c f
    by true e g i =
        entered_stays older tag b c f m
        (first_member_lies older b c (λ m. enter_by older (entered_known older c) c m.of m) (members_of older tag offset) f (members_lie older tag b offset size m e w)
        (λ at x l k. enter_lies_by older b c (entered_known older c) i at.of at x l refl k) g)
    by false e g i = entered_stays older tag b c f m (i n offset size f e w g)

pub enter_lies : (tags : List Tag) (b : Bound) (c : CoreTree) (at : MemberAt) (f : Found) → HaveMembers tags → Lies tags b at → enter tags c at ≡ Some f → Entered tags b c f
enter_lies tags b c at f m l e = enter_lies_by tags b c (entered_known tags c) (known_lies tags b c m) at.of at f l refl e

-- ---- the parts of an object

members_in_lie : (tags : List Tag) (b : Bound) (n offset size : ℕ) → HaveMembers tags → (known tags n).size ≡ Some size → IsWithin b offset size → AllIn tags b (members_in tags offset n)
members_in_lie [] b n offset size m e w = tt
members_in_lie (tag ∷ older) b n offset size m e w = by (n == tag.number) e (λ e. members_in_lie older b n offset size (older_members older tag m) e w)
  where
    all_stay : (ms : List MemberAt) → AllIn older b ms → AllIn (tag ∷ older) b ms
    all_stay [] h = tt
    all_stay (x ∷ ms) h = (lies_stays older (tag ∷ older) b x (more_grows older tag m.once.0) h.0, all_stay ms h.1)

    by : (t : Bool) → (if t then structure_extent tag.is_union (fields (known older) tag.members) else known older n).size ≡ Some size → ((known older n).size ≡ Some size → AllIn older b (members_in older offset n))
        → AllIn (tag ∷ older) b (if t then members_of older tag offset else members_in older offset n)
    by true e i = all_stay (members_of older tag offset) (members_lie older tag b offset size m e w)
    by false e i = all_stay (members_in older offset n) (i e)

parts_of : (tags : List Tag) (b : Bound) (of : CType) (offset n : ℕ) → HaveMembers tags → size_of tags of ≡ Some n → IsWithin b offset n → AreWaiting tags b None (parts tags of offset)
parts_of tags b (Plain q (Structure k)) offset n m e w = members_wait tags b (members_in tags offset k) (members_in_lie tags b k offset n m e w)
parts_of tags b (Plain q (Union k)) offset n m e w = members_wait tags b (members_in tags offset k) (members_in_lie tags b k offset n m e w)
parts_of tags b (Plain q (Simple x)) offset n m e w = refl
parts_of tags b (Plain q (Pointer x)) offset n m e w = refl
parts_of tags b (Plain q (Function x y)) offset n m e w = refl
parts_of tags b (Plain q (Enumeration x)) offset n m e w = refl
parts_of tags b (Array of count) offset n m e w =
    let h = has_elements tags of count n e in
    subst (λ c. AreWaiting tags b None (Elements of offset 0 c ∷ [])) (sym h.some)
    ((h.size, h.sized, subst (IsWithin b offset) (sym h.all ∙ ap (λ j. j * h.size) (let z : h.many ≡ 0 + h.many = omega arith in z)) w), refl)

-- an object that lies there has its parts there, where it is no bit-field
pub parts_lie : (tags : List Tag) (b : Bound) (at : MemberAt) → HaveMembers tags → Lies tags b at → (at.width == 0) ≡ true → AreWaiting tags b None (parts tags at.of at.offset)
parts_lie tags b at m l z = parts_of tags b at.of at.offset l.1.0 m (whole_bytes tags at l.1.0 z l.1.1) l.1.2
