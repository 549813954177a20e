-- The search in what waits, part by part: for an expression's place, and for the next place.
use Rattle.std.proofs.Common.{◌≡◌, ◌≢◌, ℕ, ◌<◌, ◌≤◌, Bool, true, false, List, [], ◌∷◌, ◌++◌, length, drop, max, refl, sym, ap, ◌∙◌, append_assoc, true≢false, arith}
use Rattle.std.specs.Prelude.{Option, Some, None, map, if◌then◌else◌}
use Rattle.c_types.specs.CType.{CType, Plain, Array, Simple, Pointer, Function, Structure, Union, Enumeration}
use Rattle.c_types.specs.Definitions.{AreComplete}
use Rattle.c_types.specs.Layout.{Tag, extent}
use Rattle.c_types.specs.Members.{MemberAt}
use Rattle.c_types.specs.Table.{Table, tags, type_at}
use Rattle.c_meaning.specs.Filling.{Found, Waiting, Nowhere, Whole, Elements, element, elements_behind, enter, enter_by, enter_elements, entered_known, fills, first_member, found, is_none_left, next, or_else, parts, taken, with_left}
use Rattle.c_meaning.specs.Types.{is_array}
use Rattle.c_meaning.specs.Values.{CoreTree}
use Rattle.c_initialisers.specs.declared.waits.Waits.{Waits}
use Rattle.c_initialisers.specs.declared.waits.Waits.TheVariants as waits
use Rattle.c_initialisers.specs.Entering.{are_whole, entered_front}
use Rattle.c_initialisers.specs.Members.{type_members}
use Rattle.c_values.specs.Valued.{qualified_in}
use Rattle.c_initialisers.specs.Waiting.{entries_in, place_in}
use Rattle.c_initialisers.proofs.Complete.{entered_type}

-- ---- where nothing ends the search

abbrev pub IsOpen : List Waiting → Type 0
IsOpen [] = Unit {0}
IsOpen (Nowhere ∷ ws) = ⊥
IsOpen (Whole at ∷ ws) = IsOpen ws
IsOpen (Elements of begin index count ∷ ws) = IsOpen ws

members_open : (ms : List MemberAt) → IsOpen (map Whole ms)
members_open [] = tt
members_open (m ∷ ms) = members_open ms

pub entries_open : (t : Table) (w : Waits) → w ≢ waits.Nowhere → IsOpen (entries_in t w)
entries_open t waits.Nowhere h = absurd (h refl)
entries_open t (waits.Whole p) h = tt
entries_open t (waits.Elements of begin index count) h = tt
entries_open t (waits.Members of begin index) h = members_open (drop index (type_members (tags t) (type_at t of) begin))

next_elements : (b : Bool) (at : MemberAt) (behind xs ws : List Waiting) (o p q : Option Found) → p ≡ or_else (with_left ws q) o → (if b then p else Some (found at (behind ++ (xs ++ ws)))) ≡ or_else (with_left ws (if b then q else Some (found at (behind ++ xs)))) o
next_elements true at behind xs ws o p q e = e
next_elements false at behind xs ws o p q e = ap (λ l. Some (found at l)) (sym (append_assoc behind xs ws))

-- what is next is in the first of two lists, or else in the second
pub next_append : (tags : List Tag) (xs ws : List Waiting) → IsOpen xs → next tags (xs ++ ws) ≡ or_else (with_left ws (next tags xs)) (next tags ws)
next_append tags [] ws h = refl
next_append tags (Nowhere ∷ xs) ws h = absurd h
next_append tags (Whole at ∷ xs) ws h = refl
next_append tags (Elements of begin index count ∷ xs) ws h = next_elements (is_none_left count) (element tags of begin index) (elements_behind of begin index count) xs ws (next tags ws) (next tags (xs ++ ws)) (next tags xs) (next_append tags xs ws h)

taken_one : (o : Option Found) (xs ws : List Waiting) (p q r : Option Found) → p ≡ or_else (with_left ws q) r → or_else (with_left (xs ++ ws) o) p ≡ or_else (with_left ws (or_else (with_left xs o) q)) r
taken_one None xs ws p q r e = e
taken_one (Some f) xs ws p q r e = ap (λ l. Some (found f.at l)) (sym (append_assoc f.left xs ws))

pub taken_append : (tags : List Tag) (c : CoreTree) (xs ws : List Waiting) → IsOpen xs → taken tags c (xs ++ ws) ≡ or_else (with_left ws (taken tags c xs)) (taken tags c ws)
taken_append tags c [] ws h = refl
taken_append tags c (Nowhere ∷ xs) ws h = absurd h
taken_append tags c (Whole at ∷ xs) ws h = taken_one (enter tags c at) xs ws (taken tags c (xs ++ ws)) (taken tags c xs) (taken tags c ws) (taken_append tags c xs ws h)
taken_append tags c (Elements of begin index count ∷ xs) ws h = taken_one (enter_elements tags c of begin index count) xs ws (taken tags c (xs ++ ws)) (taken tags c xs) (taken tags c ws) (taken_append tags c xs ws h)

-- ---- where one part waits, the search is that in the next place

pub or_none : (o : Option Found) → or_else o None ≡ o
or_none None = refl
or_none (Some f) = refl

left_twice : (o : Option Found) (ws : List Waiting) → with_left [] (with_left ws o) ≡ with_left (ws ++ []) o
left_twice None ws = refl
left_twice (Some f) ws = ap (λ l. Some (found f.at l)) (append_assoc f.left ws [])

entered_if : (tags : List Tag) (c : CoreTree) (b : Bool) (at : MemberAt) (behind : List Waiting) → with_left [] (if b then None else with_left behind (enter tags c at)) ≡ entered_front tags c (if b then None else Some (found at (behind ++ [])))
entered_if tags c true at behind = refl
entered_if tags c false at behind = left_twice (enter tags c at) behind

taken_alone : (tags : List Tag) (c : CoreTree) (w : Waiting) → taken tags c (w ∷ []) ≡ entered_front tags c (next tags (w ∷ []))
taken_alone tags c Nowhere = refl
taken_alone tags c (Whole at) = or_none (with_left [] (enter tags c at))
taken_alone tags c (Elements of begin index count) = or_none (with_left [] (enter_elements tags c of begin index count)) ∙ entered_if tags c (is_none_left count) (element tags of begin index) (elements_behind of begin index count)

pub taken_first : (t : Table) (c : CoreTree) (w : Waits) → ((of begin index : ℕ) → w ≢ waits.Members of begin index) → taken (tags t) c (entries_in t w) ≡ entered_front (tags t) c (next (tags t) (entries_in t w))
taken_first t c waits.Nowhere h = refl
taken_first t c (waits.Whole p) h = taken_alone (tags t) c (Whole (place_in t p))
taken_first t c (waits.Elements of begin index count) h = taken_alone (tags t) c (Elements (qualified_in t of) begin index count)
taken_first t c (waits.Members of begin index) h = absurd (h of begin index refl)

-- ---- the search in members, one after another

members_whole : (ms : List MemberAt) → are_whole (map Whole ms) ≡ true
members_whole [] = refl
members_whole (m ∷ ms) = members_whole ms

pub entry_whole : (t : Table) (w : Waits) (of begin index : ℕ) → w ≡ waits.Members of begin index → are_whole (entries_in t w) ≡ true
entry_whole t w of begin index e = ap (λ x. are_whole (entries_in t x)) e ∙ members_whole (drop index (type_members (tags t) (type_at t of) begin))

-- the first of what waits, where all is whole
pub whole_first : (tags : List Tag) (ws : List Waiting) (f : Found) → are_whole ws ≡ true → next tags ws ≡ Some f → ws ≡ Whole f.at ∷ f.left
whole_first tags [] f h e = absurd (cc)
whole_first tags (Whole at ∷ ws) f h e = cc
whole_first tags (Nowhere ∷ ws) f h e = absurd (cc)
whole_first tags (Elements of begin index count ∷ ws) f h e = absurd (true≢false (sym h))

pub whole_none : (tags : List Tag) (c : CoreTree) (ws : List Waiting) → are_whole ws ≡ true → next tags ws ≡ None → taken tags c ws ≡ None
whole_none tags c [] h e = refl
whole_none tags c (Whole at ∷ ws) h e = absurd (cc)
whole_none tags c (Nowhere ∷ ws) h e = refl
whole_none tags c (Elements of begin index count ∷ ws) h e = absurd (true≢false (sym h))

module _ (tags : List Tag) (c : CoreTree) (ws : List Waiting) (f : Found) (whole : are_whole ws ≡ true) (first : next tags ws ≡ Some f) where
  is : ws ≡ Whole f.at ∷ f.left
  is = whole_first tags ws f whole first

  pub rest_whole : are_whole f.left ≡ true
  rest_whole = ap are_whole (sym is) ∙ whole

  pub rest_shorter : length f.left < length ws
  rest_shorter = let e = ap length is in omega (arith, e)

  pub found_first : (all g : Option Found) (x : Found) → taken tags c ws ≡ all → g ≡ entered_front tags c (Some f) → g ≡ Some x → all ≡ Some x
  found_first all g x a e k = sym a ∙ ap (taken tags c) is ∙ ap (λ o. or_else o (taken tags c f.left)) (sym e ∙ k)

  pub missing_first : (g : Option Found) → g ≡ entered_front tags c (Some f) → g ≡ None → taken tags c f.left ≡ taken tags c ws
  missing_first g e k = sym (ap (taken tags c) is ∙ ap (λ o. or_else o (taken tags c f.left)) (sym e ∙ k))

-- ---- how deep what waits is nested

abbrev pub nesting_of : List Tag → MemberAt → ℕ
nesting_of tags at = (extent tags at.of).nesting

-- the greatest nesting of a place among what waits
abbrev pub greatest : List Tag → List Waiting → ℕ
greatest tags [] = 0
greatest tags (Nowhere ∷ ws) = greatest tags ws
greatest tags (Whole at ∷ ws) = max (extent tags at.of).nesting (greatest tags ws)
greatest tags (Elements of begin index count ∷ ws) = max (extent tags of).nesting (greatest tags ws)

elements_nested : (tags : List Tag) (b : Bool) (of : CType) (begin index : ℕ) (behind ws : List Waiting) (f : Found) → (next tags ws ≡ Some f → nesting_of tags f.at ≤ greatest tags ws)
    → (if b then next tags ws else Some (found (element tags of begin index) (behind ++ ws))) ≡ Some f → nesting_of tags f.at ≤ max (extent tags of).nesting (greatest tags ws)
elements_nested tags true of begin index behind ws f h e = let n = h e in omega (arith, n)
elements_nested tags false of begin index behind ws f h e =
    let k : f.at ≡ element tags of begin index = cc in
    let n = ap (nesting_of tags) k in omega (arith, n)

-- what is next is nested no deeper
pub next_nested : (tags : List Tag) (ws : List Waiting) (f : Found) → next tags ws ≡ Some f → nesting_of tags f.at ≤ greatest tags ws
next_nested tags [] f e = absurd (cc)
next_nested tags (Nowhere ∷ ws) f e = absurd (cc)
next_nested tags (Whole at ∷ ws) f e = let k : f.at ≡ at = cc in let n = ap (nesting_of tags) k in omega (arith, n)
next_nested tags (Elements of begin index count ∷ ws) f e = elements_nested tags (is_none_left count) of begin index (elements_behind of begin index count) ws f (λ k. next_nested tags ws f k) e

pub rest_nested : (tags : List Tag) (ws : List Waiting) (f : Found) → are_whole ws ≡ true → next tags ws ≡ Some f → greatest tags f.left ≤ greatest tags ws
rest_nested tags ws f h e = let k = ap (greatest tags) (whole_first tags ws f h e) in omega (arith, k)

-- ---- an object that the expression doesn't fill is searched in its parts

append_nil : {A : Type 0} (xs : List A) → xs ++ [] ≡ xs
append_nil [] = refl
append_nil (x ∷ xs) = ap (λ l. x ∷ l) (append_nil xs)

-- they are the parts of what is no array
pub members_parts : (tags : List Tag) (t : CType) (offset : ℕ) → is_array t ≡ false → map Whole (type_members tags t offset) ≡ parts tags t offset
members_parts tags (Plain q (Simple b)) offset h = refl
members_parts tags (Plain q (Pointer to)) offset h = refl
members_parts tags (Plain q (Function r ps)) offset h = refl
members_parts tags (Plain q (Structure n)) offset h = refl
members_parts tags (Plain q (Union n)) offset h = refl
members_parts tags (Plain q (Enumeration n)) offset h = refl
members_parts tags (Array of count) offset h = absurd (true≢false h)

alone : (o : Option Found) → or_else (with_left [] o) None ≡ o
alone None = refl
alone (Some f) = ap (λ l. Some (found f.at l)) (append_nil f.left)

taken_members : (tags : List Tag) (c : CoreTree) (ms : List MemberAt) → first_member (enter tags c) ms ≡ taken tags c (map Whole ms)
taken_members tags c [] = refl
taken_members tags c (m ∷ ms) = ap (or_else (with_left (map Whole ms) (enter tags c m))) (taken_members tags c ms)

pub entered_parts : (tags : List Tag) → AreComplete tags → (c : CoreTree) (t : CType) (at : MemberAt) → fills t c ≡ false → enter_by tags (entered_known tags c) c t at ≡ taken tags c (parts tags t at.offset)
entered_parts tags h c (Plain q k) at f =
    entered_type tags h c (Plain q k) at refl f ∙ taken_members tags c (type_members tags (Plain q k) at.offset) ∙ ap (taken tags c) (members_parts tags (Plain q k) at.offset refl)
entered_parts tags h c (Array of count) at f =
    ap (λ b. if b then Some (found at []) else if is_none_left count then None else with_left (elements_behind of at.offset 0 count) (enter tags c (element tags of at.offset 0))) f
    ∙ sym (alone (enter_elements tags c of at.offset 0 count))
