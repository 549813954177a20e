-- What an initialiser stores in an object fits, and lies in it.
use Rattle.std.proofs.Common.{◌≡◌, ℕ, suc, ◌+◌, ◌*◌, ◌≤◌, Bool, true, false, ◌&&◌, ◌||◌, List, [], ◌∷◌, ◌++◌, length, refl, sym, ap, subst, ◌∙◌, arith, le_refl, mul-le-mul_right}
use Rattle.std.specs.Prelude.{Option, Some, None, is_some, if◌then◌else◌}
use Rattle.std.proofs.Math.Nat.{suc-mul}
use Rattle.c_ast.specs.Levels.{FitsInitialiser, FitsInitialisers}
use Rattle.c_ast.specs.Trees.{ExprTree, Text, Enclosed, InitialiserTree, ByExpr, Braced, InitialiserTrees, NoInitialisers, Initialisers}
use Rattle.c_types.specs.CType.{CType, Plain, Array}
use Rattle.c_types.specs.Layout.{Tag, extent, times}
use Rattle.c_meaning.specs.CoreTrees.{what_of}
use Rattle.c_meaning.specs.DeclaringRelation.{TypesInitialiser, TypesItem, TypesItems}
use Rattle.c_meaning.specs.Filling.{Waiting, Nowhere, Whole, Elements, Found, begins_with_text, begun, begun_in, elements_begun, filled_by, filled_in, found, is_char, is_literal, is_literal_kind, is_text_over, left_behind, next, place_of, sized, taken, text_of}
use Rattle.c_meaning.specs.Initialising.{Filled, Initialised, Stored, Value, can_be_initialised, has_unknown_size, init_fault, is_long_text, is_scalar_at, is_unsuited, place_in, stored_elements, suits, text_elements, value_of, whole, whole_node}
use Rattle.c_meaning.specs.State.{State}
use Rattle.c_meaning.specs.Types.{has_size, is_scalar}
use Rattle.c_meaning.specs.TypingRelation.{Types}
use Rattle.c_meaning.specs.Values.{CoreTree}
use Rattle.c_meaning.specs.Fits.{IsOpenLeaf}
use Rattle.c_fits.specs.Growing.{Grows}
use Rattle.c_fits.specs.Laws.{Fit}
use Rattle.c_fits.specs.OpenPlaces.{AreOpenOf}
use Rattle.c_fits.specs.Sound.{IsSound, has_elements}
use Rattle.c_fits.proofs.lemmas.Booleans.{never, and_left, and_right, and_true, not_false}
use Rattle.c_fits.proofs.lemmas.Constraints.{init_unbroken}
use Rattle.c_fits.proofs.lemmas.Declared.{item_goes, items_go}
use Rattle.c_fits.proofs.lemmas.FilledValues.{open_text, suits_fills, value_filled}
use Rattle.c_fits.proofs.lemmas.Growing.{fits_stays, size_stays}
use Rattle.c_fits.proofs.lemmas.Items.{AllFilled, filled_open, items_begin, items_store, none_begun}
use Rattle.c_fits.proofs.lemmas.Taking.{begun_waits}
use Rattle.c_fits.proofs.lemmas.Typed.{expr_part}
use Rattle.c_fits.proofs.lemmas.Values.{IsPart}
use Rattle.c_fits.proofs.lemmas.Waiting.{AreWaiting, Lies, sound_members, waiting_open}
use Rattle.c_fits.proofs.lemmas.Walk.{expr_goes}

-- ---- where nothing waits nothing is stored

abbrev IsBarren : List Waiting → Type 0
IsBarren [] = Unit {0}
IsBarren (Nowhere ∷ ws) = Unit {0}
IsBarren ws = ⊥

abbrev StoresNone : List Waiting → Stored → Type 0
StoresNone ws x = (x.places ≡ []) × (x.left ≡ ws)

taken_none : (tags : List Tag) (c : CoreTree) (ws : List Waiting) → IsBarren ws → taken tags c ws ≡ None
taken_none tags c [] h = refl
taken_none tags c (Nowhere ∷ ws) h = refl
taken_none tags c (Whole at ∷ ws) h = absurd h
taken_none tags c (Elements of begin index count ∷ ws) h = absurd h

next_none : (tags : List Tag) (ws : List Waiting) → IsBarren ws → next tags ws ≡ None
next_none tags [] h = refl
next_none tags (Nowhere ∷ ws) h = refl
next_none tags (Whole at ∷ ws) h = absurd h
next_none tags (Elements of begin index count ∷ ws) h = absurd h

begun_none : (tags : List Tag) (items : InitialiserTrees) (f : Option Found) → f ≡ None → IsBarren (begun_in tags items f)
begun_none tags items None e = tt
begun_none tags items (Some f) e = absurd (let never : ⊥ = cc in never)

mutual
  items_barren : (s : State) (static scalar : Bool) (ws : List Waiting) (is : InitialiserTrees) (u : State) (x : Stored) → TypesItems s static scalar ws is u x → IsBarren ws → StoresNone ws x
  items_barren s static scalar ws NoInitialisers u x h b = subst (StoresNone ws) h.1 (refl, refl)
  items_barren s static scalar ws (Initialisers i is) u x h b =
      let a = item_barren s static scalar ws i h.0 h.1 h.2 b in
      let m = items_barren h.0 static scalar h.1.left is h.3.0 h.3.1 h.3.2 (subst IsBarren (sym a.1) b) in
      subst (StoresNone ws) h.3.3.1 (ap (λ ps. ps ++ h.3.1.places) a.0 ∙ m.0, m.1 ∙ a.1)

  item_barren : (s : State) (static scalar : Bool) (ws : List Waiting) (i : InitialiserTree) (u : State) (x : Stored) → TypesItem s static scalar ws i u x → IsBarren ws → StoresNone ws x
  item_barren s static scalar ws (ByExpr l e) u x h b =
      let n = taken_none h.0.tags h.1 ws b in
      subst (StoresNone ws) h.3.1.1 (ap (λ f. filled_in f h.1) n, ap (λ f. left_behind f ws) n)
  item_barren s static scalar ws (Braced l items comma) u x h b =
      let n = next_none s.tags ws b in
      let m = items_barren s static (is_scalar_at (next s.tags ws)) (begun_in s.tags items (next s.tags ws)) items h.0 h.1 h.2 (begun_none s.tags items (next s.tags ws) n) in
      subst (StoresNone ws) h.3.1.1 (m.0, ap (λ f. left_behind f ws) n)

-- ---- objects of known size

whole_lies : (tags : List Tag) (of : CType) (size n : ℕ) → (extent tags of).size ≡ Some size → Lies tags (Some (size, n)) (place_of of 0)
whole_lies tags of size n e = (record { of = λ l. absurd (omega (arith, l)); within = omega arith }, (size, e, omega arith))

value_whole : (s u : State) (l : ℕ) (o : Initialised) (c : CoreTree) (size : ℕ) → IsSound u → IsPart u.tags c → init_fault u l (whole_node s o (Value (place_in (whole s.tags o.of)) c) (value_of s o c).of) ≡ None → (extent u.tags o.of).size ≡ Some size
    → AllFilled u.tags (Some (size, 0)) (filled_in (whole s.tags o.of) c)
value_whole s u l o c size k p h e =
    by (can_be_initialised s.tags o.of) (init_unbroken u l (whole_node s o (Value (place_in (whole s.tags o.of)) c) (value_of s o c).of) h 25) (init_unbroken u l (whole_node s o (Value (place_in (whole s.tags o.of)) c) (value_of s o c).of) h 26)
  where
    by : (b : Bool) → is_unsuited (Value (place_in (if b then Some (found (place_of o.of 0) []) else None)) c) ≡ false → is_long_text (Value (place_in (if b then Some (found (place_of o.of 0) []) else None)) c) ≡ false
        → AllFilled u.tags (Some (size, 0)) (filled_in (if b then Some (found (place_of o.of 0) []) else None) c)
    by false g t = tt
    by true g t = (value_filled u.tags (Some (size, 0)) (place_of o.of 0) c (whole_lies u.tags o.of size 0 e) p (not_false (suits o.of c) g) t, tt)

list_whole : (s u : State) (static : Bool) (of : CType) (items : InitialiserTrees) (x : Stored) (size : ℕ) → IsSound s → FitsInitialisers items → TypesItems s static (is_scalar of) (begun_in s.tags items (whole s.tags of)) items u x → has_unknown_size of ≡ false → (extent u.tags of).size ≡ Some size
    → AllFilled u.tags (Some (size, 0)) x.places
list_whole s u static of items x size k g h n e =
    let f = items_go s static (is_scalar of) (begun_in s.tags items (whole s.tags of)) items u x h k in
    let w = waits f.tags (can_be_initialised s.tags of) refl in
    let d = items_begin s static (is_scalar of) (begun_in s.tags items (whole s.tags of)) items u x None h k tt (waiting_open s.tags (Some (size, 0)) None (begun_in s.tags items (whole s.tags of)) w) in
    (items_store s static (is_scalar of) (begun_in s.tags items (whole s.tags of)) items u x (Some (size, 0)) None h k g tt w (let z = none_begun u.tags None x.left d.1 in omega (arith, z))).1
  where
    size_before : (o : Option ℕ) → (extent s.tags of).size ≡ o → (is_some o || has_unknown_size of) ≡ true → ((m : ℕ) → (extent s.tags of).size ≡ Some m → (extent u.tags of).size ≡ Some m) → (extent s.tags of).size ≡ Some size
    size_before (Some m) q c y = q ∙ sym (y m q) ∙ e
    size_before None q c y = never (sym c ∙ n)

    waits : Grows s.tags u.tags → (b : Bool) → can_be_initialised s.tags of ≡ b → AreWaiting s.tags (Some (size, 0)) None (begun_in s.tags items (whole s.tags of))
    waits y true c = rw c (begun_waits s.tags (Some (size, 0)) items (place_of of 0) (sound_members s k) (whole_lies s.tags of size 0 (size_before (extent s.tags of).size refl c (size_stays s.tags u.tags y of))))
    waits y false c = rw c (tt, refl)

-- ---- arrays of unknown size

-- a literal is typed as one
literal_typed : (s : State) (e : ExprTree) (u : State) (c : CoreTree) → Types s e u c → is_literal e ≡ true → is_literal_kind (what_of c) ≡ true
literal_typed s (Text l texts) u c h t = subst (λ (c : CoreTree). is_literal_kind (what_of c) ≡ true) h.1.1 refl
literal_typed s (Enclosed l e) u c h t = literal_typed s e u c h t
literal_typed s e u c h t = never (sym t)

-- an array of so many elements
abbrev SizeOf : List Tag → CType → ℕ → ℕ → Type 0
SizeOf tags of n size = (extent tags (Array of (Some n))).size ≡ Some size

some_number : (n m : ℕ) → Some n ≡ Some m → n ≡ m
some_number n m e = cc

-- each element that was begun lies in it
array_within : (tags : List Tag) (of : CType) (n size k : ℕ) → (extent tags of).size ≡ Some k → SizeOf tags of n size → (i : ℕ) → suc i ≤ n → i * k + k ≤ size
array_within tags of n size k e h i l =
    let a = suc-mul i k in
    let b = mul-le-mul_right k l in
    let c = some_number (n * k) size (subst (λ o. times (Some n) o ≡ Some size) e h) in
    omega (arith, a, b, c)

elements_store : (s u : State) (static : Bool) (of : CType) (items : InitialiserTrees) (x : Stored) (size : ℕ) → IsSound s → FitsInitialisers items → TypesItems s static false (Elements of 0 0 None ∷ []) items u x → has_size s.tags of ≡ true
    → SizeOf u.tags of (stored_elements x.left x.places) size → (n : ℕ) × AllFilled u.tags (Some (size, n)) x.places
elements_store s u static of items x size k g h z e = by (extent s.tags of).size refl z
  where
    by : (o : Option ℕ) → (extent s.tags of).size ≡ o → is_some o ≡ true → (n : ℕ) × AllFilled u.tags (Some (size, n)) x.places
    by None q y = never (sym y)
    by (Some m) q y =
        let f = items_go s static false (Elements of 0 0 None ∷ []) items u x h k in
        let d = items_begin s static false (Elements of 0 0 None ∷ []) items u x (Some of) h k (m, q, λ i l. tt) (refl, (refl, refl)) in
        let c = subst (λ n. SizeOf u.tags of n size) (counted x.left d.1) e in
        let r = array_within u.tags of (elements_begun x.left) size m (size_stays s.tags u.tags f.tags of m q) c in
        (elements_begun x.left, (items_store s static false (Elements of 0 0 None ∷ []) items u x (Some (size, elements_begun x.left)) (Some of) h k g (m, q, r) (refl, (refl, refl)) (le_refl (elements_begun x.left))).1)
      where
        counted : (ws : List Waiting) → AreWaiting u.tags None (Some of) ws → stored_elements ws x.places ≡ elements_begun ws
        counted [] w = absurd (let never : ⊥ = cc in never)
        counted (w ∷ ws) v = refl

-- a list that begins with a string, over an array of characters
text_stores : (s u : State) (static : Bool) (of : CType) (items : InitialiserTrees) (x : Stored) (size : ℕ) → IsSound s → FitsInitialisers items → TypesItems s static false (Whole (place_of (Array of None) 0) ∷ []) items u x → is_char of ≡ true → begins_with_text items ≡ true
    → SizeOf u.tags of (stored_elements x.left x.places) size → AllFilled u.tags (Some (size, 0)) x.places
text_stores s u static of NoInitialisers x size k g h z t e = never (sym t)
text_stores s u static of (Initialisers (Braced l items comma) more) x size k g h z t e = never (sym t)
text_stores s u static of (Initialisers (ByExpr l e) more) x size k g h z t n =
    let c = h.2.1 in
    let p = expr_part s e h.2.0 c h.2.2 g.0.1 k in
    let over : is_text_over (Array of None) c ≡ true = and_true (is_char of) (is_literal_kind (what_of c)) z (literal_typed s e h.2.0 c h.2.2 t) in
    let first = first_text s.tags h.2.0.tags of c over in
    let one : (h.1.places ≡ filled_by (place_of (Array of None) 0) c ∷ []) × (h.1.left ≡ []) =
    subst (λ (y : Stored). (y.places ≡ filled_by (place_of (Array of None) 0) c ∷ []) × (y.left ≡ [])) h.2.3.1.1 (ap (λ f. filled_in f c) first, ap (λ f. left_behind f (Whole (place_of (Array of None) 0) ∷ [])) first) in
    let rest = items_barren h.0 static false h.1.left more h.3.0 h.3.1 h.3.2 (subst IsBarren (sym one.1) tt) in
    let places : x.places ≡ filled_by (place_of (Array of None) 0) c ∷ [] = ap (λ (x : Stored). x.places) (sym h.3.3.1) ∙ ap (λ ps. ps ++ h.3.1.places) one.0 ∙ ap (λ ps. filled_by (place_of (Array of None) 0) c ∷ ps) rest.0 in
    let left : x.left ≡ [] = ap (λ (x : Stored). x.left) (sym h.3.3.1) ∙ rest.1 ∙ one.1 in
    let d = item_goes s static false (Whole (place_of (Array of None) 0) ∷ []) (ByExpr l e) h.0 h.1 h.2 k in
    let m = items_go h.0 static false h.1.left more h.3.0 h.3.1 h.3.2 d.sound in
    let grows : Grows h.0.tags u.tags = subst (λ (u : State). Grows h.0.tags u.tags) h.3.3.0 m.tags in
    let fit : Fit u.tags c = fits_stays IsOpenLeaf h.0.tags u.tags grows c (subst (λ (v : State). Fit v.tags c) h.2.3.1.0 p.fits) in
    let many : SizeOf u.tags of (length (text_of (what_of c)) + 1) size = subst (λ k. SizeOf u.tags of k size) (one_text of c over) (subst (λ ps. SizeOf u.tags of (stored_elements [] ps) size) places (subst (λ ws. SizeOf u.tags of (stored_elements ws x.places) size) left n)) in
    subst (AllFilled u.tags (Some (size, 0))) (sym places) (open_text u.tags of c size (Some (size, 0)) fit over many (omega arith), tt)
  where
    first_text : (old tags : List Tag) (of : CType) (c : CoreTree) → is_text_over (Array of None) c ≡ true → taken tags c (Whole (place_of (Array of None) 0) ∷ []) ≡ Some (found (place_of (Array of None) 0) [])
    first_text old tags of c h = rw h

    one_text : (of : CType) (c : CoreTree) → is_text_over (Array of None) c ≡ true → stored_elements [] (filled_by (place_of (Array of None) 0) c ∷ []) ≡ length (text_of (what_of c)) + 1
    one_text of c h = rw h

-- ---- any initialiser

-- each place lies in an object of the type that the initialiser has completed
abbrev StoresIn : List Tag → Filled → Type 0
StoresIn tags f = (size : ℕ) → (extent tags f.of).size ≡ Some size → (n : ℕ) × AllFilled tags (Some (size, n)) f.places

known_stores : (s : State) (o : Initialised) (i : InitialiserTree) (u : State) (f : Filled) → TypesInitialiser s o i u f → IsSound s → FitsInitialiser i → has_unknown_size o.of ≡ false → ((n : ℕ) → sized o.of n ≡ o.of) → StoresIn u.tags f
known_stores s o (ByExpr l e) u f h k g z a =
    let d = expr_goes s e h.0 h.1 h.2 k in
    let p = expr_part s e h.0 h.1 h.2 g.1 k in
    subst (λ (u : State). StoresIn u.tags f) h.3.1.0
    (subst (StoresIn h.0.tags) h.3.1.1 (λ size y. (0, value_whole s h.0 l o h.1 size d.sound p h.3.0 (subst (λ t. (extent h.0.tags t).size ≡ Some size) (a (text_elements o.of h.1)) y))))
known_stores s o (Braced l items comma) u f h k g z a =
    subst (λ (u : State). StoresIn u.tags f) h.3.1.0
    (subst (StoresIn h.0.tags) h.3.1.1 (λ size y. (0, list_whole s h.0 o.static o.of items h.1 size k g.1 h.2 z (subst (λ t. (extent h.0.tags t).size ≡ Some size) (a (stored_elements h.1.left h.1.places)) y))))

-- a string over an array of unknown size
open_value : (s u : State) (l : ℕ) (static barred : Bool) (of : CType) (c : CoreTree) → Fit u.tags c → init_fault u l (whole_node s (record { of = Array of None; static = static; barred = barred }) (Value (place_in (whole s.tags (Array of None))) c) (value_of s (record { of = Array of None; static = static; barred = barred }) c).of) ≡ None
    → StoresIn u.tags (value_of s (record { of = Array of None; static = static; barred = barred }) c)
open_value s u l static barred of c f h size y =
    let g = suits_fills (Array of None) c (not_false (suits (Array of None) c) (init_unbroken u l (whole_node s (record { of = Array of None; static = static; barred = barred }) (Value (place_in (whole s.tags (Array of None))) c) (value_of s (record { of = Array of None; static = static; barred = barred }) c).of) h 25)) in
    (0, (open_text u.tags of c size (Some (size, 0)) f g (subst (λ n. SizeOf u.tags of n size) (rw g) y) (omega arith), tt))

open_list : (s u : State) (static : Bool) (of : CType) (items : InitialiserTrees) (x : Stored) (size : ℕ) → IsSound s → FitsInitialisers items → TypesItems s static false (begun s.tags items (place_of (Array of None) 0)) items u x → has_size s.tags of ≡ true → SizeOf u.tags of (stored_elements x.left x.places) size
    → (n : ℕ) × AllFilled u.tags (Some (size, n)) x.places
open_list s u static of items x size k g h z e = by (is_char of && begins_with_text items) refl h
  where
    by : (b : Bool) → (is_char of && begins_with_text items) ≡ b → TypesItems s static false (if b then Whole (place_of (Array of None) 0) ∷ [] else Elements of 0 0 None ∷ []) items u x → (n : ℕ) × AllFilled u.tags (Some (size, n)) x.places
    by true q h = (0, text_stores s u static of items x size k g h (and_left (is_char of) (begins_with_text items) q) (and_right (is_char of) (begins_with_text items) q) e)
    by false q h = elements_store s u static of items x size k g h z e

open_stores : (s : State) (static barred : Bool) (of : CType) (i : InitialiserTree) (u : State) (f : Filled) → TypesInitialiser s (record { of = Array of None; static = static; barred = barred }) i u f → IsSound s → FitsInitialiser i → has_size s.tags of ≡ true → StoresIn u.tags f
open_stores s static barred of (ByExpr l e) u f h k g z =
    let p = expr_part s e h.0 h.1 h.2 g.1 k in
    subst (λ (u : State). StoresIn u.tags f) h.3.1.0 (subst (StoresIn h.0.tags) h.3.1.1 (open_value s h.0 l static barred of h.1 p.fits h.3.0))
open_stores s static barred of (Braced l items comma) u f h k g z =
    subst (λ (u : State). StoresIn u.tags f) h.3.1.0
    (subst (StoresIn h.0.tags) h.3.1.1 (λ size y. open_list s h.0 static of items h.1 size k g.1 h.2 z y))

initialiser_by : (s : State) (of : CType) (static barred : Bool) (i : InitialiserTree) (u : State) (f : Filled) → TypesInitialiser s (record { of = of; static = static; barred = barred }) i u f → IsSound s → FitsInitialiser i → has_elements s.tags of ≡ true → StoresIn u.tags f
initialiser_by s (Plain q t) static barred i u f h k g z = known_stores s (record { of = Plain q t; static = static; barred = barred }) i u f h k g refl (λ n. refl)
initialiser_by s (Array of (Some m)) static barred i u f h k g z = known_stores s (record { of = Array of (Some m); static = static; barred = barred }) i u f h k g refl (λ n. refl)
initialiser_by s (Array of None) static barred i u f h k g z = open_stores s static barred of i u f h k g z

-- what an initialiser stores fits, and lies in its object
pub initialiser_stores : (s : State) (o : Initialised) (i : InitialiserTree) (u : State) (f : Filled) → TypesInitialiser s o i u f → IsSound s → FitsInitialiser i → has_elements s.tags o.of ≡ true → has_size u.tags f.of ≡ true → AreOpenOf u.tags f.of f.places
initialiser_stores s o i u f h k g z e = by (extent u.tags f.of).size refl e
  where
    by : (t : Option ℕ) → (extent u.tags f.of).size ≡ t → is_some t ≡ true → AreOpenOf u.tags f.of f.places
    by None q y = never (sym y)
    by (Some size) q y = let p = initialiser_by s o.of o.static o.barred i u f h k g z size q in (size, q, filled_open u.tags size p.0 f.places p.1)
