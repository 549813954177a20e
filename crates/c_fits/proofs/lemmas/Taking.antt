-- The place that an expression takes among those that wait lies in the object, and so does what still waits.
use Rattle.std.proofs.Common.{◌≡◌, ◌⊎◌, ℕ, zero, suc, ◌+◌, ◌*◌, ◌≤◌, false, List, [], ◌∷◌, ◌++◌, refl, sym, ap, subst, ◌∙◌, inl, inr, arith, le_refl}
use Rattle.std.specs.Prelude.{◌&&◌, ◌||◌, Option, Some, None}
use Rattle.c_ast.specs.Trees.{InitialiserTrees}
use Rattle.c_types.specs.BitFields.{is_field_type}
use Rattle.c_types.specs.CType.{CType, Plain, Array, Simple, Int, Unsigned}
use Rattle.c_types.specs.Layout.{Tag}
use Rattle.c_types.specs.Members.{MemberAt}
use Rattle.c_meaning.specs.Filling.{Waiting, Nowhere, Whole, Elements, Found, begins_with_text, begun, element, elements_begun, elements_behind, enter, enter_elements, found, is_of_chars, next, parts, taken, with_left}
use Rattle.c_meaning.specs.Types.{is_scalar}
use Rattle.c_meaning.specs.Values.{CoreTree}
use Rattle.c_fits.proofs.lemmas.Booleans.{never, or_left}
use Rattle.c_fits.proofs.lemmas.Entering.{Entered, either_found, enter_lies, left_found, none_found, parts_lie, some_found}
use Rattle.c_fits.proofs.lemmas.Values.{chosen_by}
use Rattle.c_fits.proofs.lemmas.Waiting.{AreWaiting, Bound, HasRoom, HaveMembers, IsWithin, Lies, MayBegin, begun_join, behind_waits, element_lies, next_within, no_bits, waiting_join}

-- a place is found; no fewer elements are begun with it
pub record Takes (tags : List Tag) (b : Bound) (o : Option CType) (ws : List Waiting) (f : Found) : Type 0 where
  pub at : Lies tags b f.at
  pub left : AreWaiting tags b o f.left
  pub begun : elements_begun ws ≤ elements_begun f.left

-- ---- the elements of an array of unknown size

-- the element at the index lies there, where it may be begun
open_element : (tags : List Tag) (b : Bound) (of : CType) (begin index : ℕ) → HasRoom tags b (Some of) → begin ≡ 0 → MayBegin b (suc index) → Lies tags b (element tags of begin index)
open_element tags b of begin index r z m =
    subst (λ k. Lies tags b (element tags of k index)) (sym z)
    (element_lies tags b of 0 index r.0 r.1 (subst (λ k. IsWithin b k r.0) (let e : index * r.0 ≡ 0 + index * r.0 = omega arith in e) (r.2 index m)))

-- what is entered in something that waits, with the others behind it
entered_takes : (tags : List Tag) (b : Bound) (o : Option CType) (c : CoreTree) (x : Option Found) (ws more : List Waiting) (f : Found) → ((g : Found) → x ≡ Some g → Entered tags b c g) → AreWaiting tags b o more → elements_begun ws ≤ elements_begun more → with_left more x ≡ Some f → Takes tags b o ws f
entered_takes tags b o c x ws more f h k l e =
    let g = left_found more x f e in
    let i = h g.0 g.1 in
    subst (Takes tags b o ws) g.2
    (record { at = i.at; left = waiting_join tags b o g.0.left more i.left k; begun = subst (λ n. elements_begun ws ≤ n) (sym (begun_join tags b g.0.left more i.left)) l })

-- how many are begun of what is found with the others behind it, where those that wait in it are of known number
entered_begun : (tags : List Tag) (c : CoreTree) (x : Option Found) (more : List Waiting) (f : Found) → ((g : Found) → x ≡ Some g → Entered tags None c g) → with_left more x ≡ Some f → elements_begun f.left ≡ elements_begun more
entered_begun tags c x more f h e =
    let g = left_found more x f e in
    ap (λ (f : Found). elements_begun f.left) (sym g.2) ∙ begun_join tags None g.0.left more (h g.0 g.1).left

skips : (tags : List Tag) (b : Bound) (o : Option CType) (w : Waiting) (ws : List Waiting) (f : Found) → elements_begun (w ∷ ws) ≡ elements_begun ws → Takes tags b o ws f → Takes tags b o (w ∷ ws) f
skips tags b o w ws f e t = record { at = t.at; left = t.left; begun = subst (λ n. n ≤ elements_begun f.left) (sym e) t.begun }

-- ---- by an expression

-- the next of the elements of an array of unknown size
open_takes : (tags : List Tag) (b : Bound) (c : CoreTree) (of : CType) (begin index : ℕ) (f : Found) → HaveMembers tags → HasRoom tags b (Some of) → begin ≡ 0 → MayBegin b (elements_begun f.left)
    → with_left [] (with_left (Elements of begin (suc index) None ∷ []) (enter tags c (element tags of begin index))) ≡ Some f → Takes tags b (Some of) (Elements of begin index None ∷ []) f
open_takes tags b c of begin index f m r z l e =
    let x = left_found [] (with_left (Elements of begin (suc index) None ∷ []) (enter tags c (element tags of begin index))) f e in
    let g = left_found (Elements of begin (suc index) None ∷ []) (enter tags c (element tags of begin index)) x.0 x.1 in
    let d = ap (λ (f : Found). elements_begun f.left) (sym x.2) ∙ ap elements_begun (append_none x.0.left) in
    let n = entered_begun tags c (enter tags c (element tags of begin index)) (Elements of begin (suc index) None ∷ []) x.0
    (λ y i. enter_lies tags None c (element tags of begin index) y m (open_element tags None of begin index (r.0, r.1, λ i l. tt) z tt) i) x.1 in
    let may : MayBegin b (suc index) = subst (MayBegin b) (d ∙ n) l in
    let t = entered_takes tags b (Some of) c (enter tags c (element tags of begin index)) (Elements of begin index None ∷ []) (Elements of begin (suc index) None ∷ []) x.0
    (λ y i. enter_lies tags b c (element tags of begin index) y m (open_element tags b of begin index r z may) i) (refl, (z, refl)) (omega arith) x.1 in
    subst (Takes tags b (Some of) (Elements of begin index None ∷ [])) x.2
    (record { at = t.at; left = subst (AreWaiting tags b (Some of)) (sym (append_none x.0.left)) t.left; begun = subst (λ ws. index ≤ elements_begun ws) (sym (append_none x.0.left)) t.begun })
  where
    append_none : (ws : List Waiting) → ws ++ [] ≡ ws
    append_none [] = refl
    append_none (w ∷ ws) = ap (λ ws. w ∷ ws) (append_none ws)

pub taken_takes : (tags : List Tag) (b : Bound) (o : Option CType) (c : CoreTree) (ws : List Waiting) (f : Found) → HaveMembers tags → HasRoom tags b o → AreWaiting tags b o ws → MayBegin b (elements_begun f.left) → taken tags c ws ≡ Some f → Takes tags b o ws f
taken_takes tags b o c [] f m r h l e = none_found e
taken_takes tags b o c (Nowhere ∷ ws) f m r h l e = none_found e
taken_takes tags b o c (Whole at ∷ ws) f m r h l e = by (either_found (with_left ws (enter tags c at)) (taken tags c ws) f e) (taken_takes tags b o c ws f m r h.1 l)
  where
    by : (with_left ws (enter tags c at) ≡ Some f) ⊎ (taken tags c ws ≡ Some f) → (taken tags c ws ≡ Some f → Takes tags b o ws f) → Takes tags b o (Whole at ∷ ws) f
    by (inl g) i = entered_takes tags b o c (enter tags c at) (Whole at ∷ ws) ws f (λ x j. enter_lies tags b c at x m h.0 j) h.1 (le_refl (elements_begun ws)) g
    by (inr g) i = skips tags b o (Whole at) ws f refl (i g)
taken_takes tags b o c (Elements of begin index (Some zero) ∷ ws) f m r h l e = skips tags b o (Elements of begin index (Some zero)) ws f refl (taken_takes tags b o c ws f m r h.1 l e)
taken_takes tags b o c (Elements of begin index (Some (suc count)) ∷ ws) f m r h l e =
    by (either_found (with_left ws (enter_elements tags c of begin index (Some (suc count)))) (taken tags c ws) f e) (taken_takes tags b o c ws f m r h.1 l)
  where
    inner : (x : Found) → with_left (elements_behind of begin index (Some (suc count))) (enter tags c (element tags of begin index)) ≡ Some x → Entered tags b c x
    inner x j =
        let g = left_found (elements_behind of begin index (Some (suc count))) (enter tags c (element tags of begin index)) x j in
        let i = enter_lies tags b c (element tags of begin index) g.0 m (element_lies tags b of begin index h.0.0 h.0.1 (next_within b begin index count h.0.0 h.0.2)) g.1 in
        subst (Entered tags b c) g.2
        (record { at = i.at; left = waiting_join tags b None g.0.left (elements_behind of begin index (Some (suc count))) i.left (behind_waits tags b of begin index count h.0.0 h.0.1 h.0.2); fills = i.fills })

    by : (with_left ws (enter_elements tags c of begin index (Some (suc count))) ≡ Some f) ⊎ (taken tags c ws ≡ Some f) → (taken tags c ws ≡ Some f → Takes tags b o ws f) → Takes tags b o (Elements of begin index (Some (suc count)) ∷ ws) f
    by (inl g) i = entered_takes tags b o c (enter_elements tags c of begin index (Some (suc count))) (Elements of begin index (Some (suc count)) ∷ ws) ws f inner h.1 (le_refl (elements_begun ws)) g
    by (inr g) i = skips tags b o (Elements of begin index (Some (suc count))) ws f refl (i g)
taken_takes tags b o c (Elements of begin index None ∷ ws) f m r h l e =
    subst (λ o. Takes tags b o (Elements of begin index None ∷ ws) f) (sym h.0)
    (subst (λ ws. Takes tags b (Some of) (Elements of begin index None ∷ ws) f) (sym h.1.1)
    (open_takes tags b c of begin index f m (subst (HasRoom tags b) h.0 r) h.1.0 l (last (subst (λ ws. taken tags c (Elements of begin index None ∷ ws) ≡ Some f) h.1.1 e))))
  where
    last : taken tags c (Elements of begin index None ∷ []) ≡ Some f → with_left [] (with_left (Elements of begin (suc index) None ∷ []) (enter tags c (element tags of begin index))) ≡ Some f
    last g = by (either_found (with_left [] (enter_elements tags c of begin index None)) None f g)
      where
        by : (with_left [] (enter_elements tags c of begin index None) ≡ Some f) ⊎ (None ≡ Some f) → with_left [] (with_left (Elements of begin (suc index) None ∷ []) (enter tags c (element tags of begin index))) ≡ Some f
        by (inl i) = i
        by (inr i) = none_found i

-- ---- by a list in braces

pub next_takes : (tags : List Tag) (b : Bound) (o : Option CType) (ws : List Waiting) (f : Found) → HasRoom tags b o → AreWaiting tags b o ws → MayBegin b (elements_begun f.left) → next tags ws ≡ Some f → Takes tags b o ws f
next_takes tags b o [] f r h l e = none_found e
next_takes tags b o (Nowhere ∷ ws) f r h l e = none_found e
next_takes tags b o (Whole at ∷ ws) f r h l e = subst (Takes tags b o (Whole at ∷ ws)) (some_found (found at ws) f e) (record { at = h.0; left = h.1; begun = le_refl (elements_begun ws) })
next_takes tags b o (Elements of begin index (Some zero) ∷ ws) f r h l e = skips tags b o (Elements of begin index (Some zero)) ws f refl (next_takes tags b o ws f r h.1 l e)
next_takes tags b o (Elements of begin index (Some (suc count)) ∷ ws) f r h l e =
    subst (Takes tags b o (Elements of begin index (Some (suc count)) ∷ ws)) (some_found (found (element tags of begin index) (elements_behind of begin index (Some (suc count)) ++ ws)) f e)
    (record {
      at = element_lies tags b of begin index h.0.0 h.0.1 (next_within b begin index count h.0.0 h.0.2);
      left = waiting_join tags b o (elements_behind of begin index (Some (suc count))) ws (behind_waits tags b of begin index count h.0.0 h.0.1 h.0.2) h.1;
      begun = le_refl (elements_begun ws);
    })
next_takes tags b o (Elements of begin index None ∷ ws) f r h l e =
    let g = some_found (found (element tags of begin index) (elements_behind of begin index None ++ ws)) f e in
    let may : MayBegin b (suc index) = subst (λ (f : Found). MayBegin b (elements_begun f.left)) (sym g) l in
    subst (Takes tags b o (Elements of begin index None ∷ ws)) g
    (record {
      at = open_element tags b of begin index (subst (HasRoom tags b) h.0 r) h.1.0 may;
      left = (h.0, h.1);
      begun = omega arith;
    })

-- ---- where a list begins

bits_scalar : (t : CType) → is_scalar t ≡ false → is_field_type t ≡ false
bits_scalar (Plain q (Simple Int)) h = never h
bits_scalar (Plain q (Simple Unsigned)) h = never h
bits_scalar (Plain q k) h = refl
bits_scalar (Array of n) h = refl

-- in an object that lies there
pub begun_waits : (tags : List Tag) (b : Bound) (is : InitialiserTrees) (at : MemberAt) → HaveMembers tags → Lies tags b at → AreWaiting tags b None (begun tags is at)
begun_waits tags b is at m l =
    chosen_by (AreWaiting tags b None) (is_scalar at.of || (is_of_chars at.of && begins_with_text is)) (Whole at ∷ []) (parts tags at.of at.offset) (λ e. (l, refl))
    (λ e. parts_lie tags b at m l (no_bits at l.0 (bits_scalar at.of (or_left (is_scalar at.of) (is_of_chars at.of && begins_with_text is) e))))
