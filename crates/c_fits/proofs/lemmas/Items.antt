-- What the items of a list in braces store fits, and lies in the object of the list.
use Rattle.std.proofs.Common.{◌≡◌, ℕ, ◌≤◌, Bool, false, List, [], ◌∷◌, ◌++◌, refl, sym, ap, subst, ◌∙◌, arith, le_refl, le_trans}
use Rattle.std.specs.Prelude.{Option, Some, None}
use Rattle.c_ast.specs.Levels.{FitsInitialiser, FitsInitialisers}
use Rattle.c_ast.specs.Trees.{InitialiserTree, ByExpr, Braced, InitialiserTrees, NoInitialisers, Initialisers}
use Rattle.c_types.specs.CType.{CType, Plain, Array}
use Rattle.c_types.specs.Layout.{Tag}
use Rattle.c_meaning.specs.DeclaringRelation.{TypesItem, TypesItems}
use Rattle.c_meaning.specs.Filling.{Waiting, Found, begun_in, elements_begun, filled_in, left_behind, next, taken}
use Rattle.c_meaning.specs.Fits.{IsOpenLeaf}
use Rattle.c_meaning.specs.Initialising.{Stored, Value, by_list, by_value, init_fault, is_long_text, is_scalar_at, is_unsuited, joined, place_in, suits, value_node}
use Rattle.c_meaning.specs.State.{State}
use Rattle.c_meaning.specs.StmtTrees.{FilledOf}
use Rattle.c_meaning.specs.Units.{place_at}
use Rattle.c_meaning.specs.Values.{CoreTree}
use Rattle.c_fits.specs.Growing.{Grows}
use Rattle.c_fits.specs.OpenPlaces.{AreOpenFilled, IsOpenFor}
use Rattle.c_fits.specs.Sound.{IsSound}
use Rattle.c_fits.proofs.lemmas.Booleans.{not_false}
use Rattle.c_fits.proofs.lemmas.Constraints.{init_unbroken}
use Rattle.c_fits.proofs.lemmas.Declared.{item_goes, items_go}
use Rattle.c_fits.proofs.lemmas.FilledValues.{IsFilledIn, value_filled}
use Rattle.c_fits.proofs.lemmas.Growing.{fits_stays, whole_stays}
use Rattle.c_fits.proofs.lemmas.Taking.{begun_waits, next_takes, taken_takes}
use Rattle.c_fits.proofs.lemmas.Typed.{expr_part}
use Rattle.c_fits.proofs.lemmas.Values.{IsPart}
use Rattle.c_fits.proofs.lemmas.Waiting.{AreWaiting, Bound, HasRoom, HaveMembers, MayBegin, begun_join, lies_stays, may_fewer, room_open, room_stays, sound_members, waiting_open, waiting_stays}
use Rattle.c_fits.proofs.lemmas.Walk.{expr_goes}

-- ---- places

abbrev pub AllFilled : List Tag → Bound → List (FilledOf CType) → Type 0
AllFilled tags b [] = Unit {0}
AllFilled tags b (p ∷ ps) = IsFilledIn tags b p × AllFilled tags b ps

for_stays : (old new : List Tag) (of : CType) (v : CoreTree) → Grows old new → IsOpenFor old of v → IsOpenFor new of v
for_stays old new (Plain q k) v g h = (h.0, (whole_stays old new g (Plain q k) h.1.0, h.1.1))
for_stays old new (Array of n) v g h = h

pub filled_stays : (old new : List Tag) (b : Bound) (ps : List (FilledOf CType)) → Grows old new → AllFilled old b ps → AllFilled new b ps
filled_stays old new b [] g h = tt
filled_stays old new b (p ∷ ps) g h = ((fits_stays IsOpenLeaf old new g p.value h.0.0, (for_stays old new p.of p.value g h.0.1.0, lies_stays old new b (place_at p) g h.0.1.1)), filled_stays old new b ps g h.1)

filled_join : (tags : List Tag) (b : Bound) (ps qs : List (FilledOf CType)) → AllFilled tags b ps → AllFilled tags b qs → AllFilled tags b (ps ++ qs)
filled_join tags b [] qs h k = k
filled_join tags b (p ∷ ps) qs h k = (h.0, filled_join tags b ps qs h.1 k)

pub filled_open : (tags : List Tag) (size n : ℕ) (ps : List (FilledOf CType)) → AllFilled tags (Some (size, n)) ps → AreOpenFilled tags size ps
filled_open tags size n [] h = tt
filled_open tags size n (p ∷ ps) h = (h.0, filled_open tags size n ps h.1)

-- ---- what still waits behind items

abbrev pub Begins : List Tag → Option CType → List Waiting → Stored → Type 0
Begins tags o ws x = (elements_begun ws ≤ elements_begun x.left) × AreWaiting tags None o x.left

value_begins : (tags : List Tag) (o : Option CType) (ws : List Waiting) (c : CoreTree) → HaveMembers tags → HasRoom tags None o → AreWaiting tags None o ws → Begins tags o ws (by_value (taken tags c ws) ws c)
value_begins tags o ws c h r w = by (taken tags c ws) refl
  where
    by : (f : Option Found) → taken tags c ws ≡ f → (elements_begun ws ≤ elements_begun (left_behind f ws)) × AreWaiting tags None o (left_behind f ws)
    by None g = (le_refl (elements_begun ws), w)
    by (Some f) g = let t = taken_takes tags None o c ws f h r w tt g in (t.begun, t.left)

list_begins : (tags : List Tag) (o : Option CType) (ws : List Waiting) (inner : Stored) → HasRoom tags None o → AreWaiting tags None o ws → Begins tags o ws (by_list (next tags ws) ws inner)
list_begins tags o ws inner r w = by (next tags ws) refl
  where
    by : (f : Option Found) → next tags ws ≡ f → (elements_begun ws ≤ elements_begun (left_behind f ws)) × AreWaiting tags None o (left_behind f ws)
    by None g = (le_refl (elements_begun ws), w)
    by (Some f) g = let t = next_takes tags None o ws f r w tt g in (t.begun, t.left)

item_begins : (s : State) (static scalar : Bool) (ws : List Waiting) (i : InitialiserTree) (u : State) (x : Stored) (o : Option CType) → TypesItem s static scalar ws i u x → IsSound s → HasRoom s.tags None o → AreWaiting s.tags None o ws → Begins u.tags o ws x
item_begins s static scalar ws (ByExpr l e) u x o h k r w =
    let f = expr_goes s e h.0 h.1 h.2 k in
    subst (λ (u : State). Begins u.tags o ws x) h.3.1.0
    (subst (Begins h.0.tags o ws) h.3.1.1 (value_begins h.0.tags o ws h.1 (sound_members h.0 f.sound) (room_stays s.tags h.0.tags None o f.tags r) (waiting_stays s.tags h.0.tags None o ws f.tags w)))
item_begins s static scalar ws (Braced l items comma) u x o h k r w =
    let f = items_go s static (is_scalar_at (next s.tags ws)) (begun_in s.tags items (next s.tags ws)) items h.0 h.1 h.2 k in
    let t = list_begins s.tags o ws h.1 r w in
    subst (λ (u : State). Begins u.tags o ws x) h.3.1.0 (subst (Begins h.0.tags o ws) h.3.1.1 (t.0, waiting_stays s.tags h.0.tags None o (left_behind (next s.tags ws) ws) f.tags t.1))

pub items_begin : (s : State) (static scalar : Bool) (ws : List Waiting) (is : InitialiserTrees) (u : State) (x : Stored) (o : Option CType) → TypesItems s static scalar ws is u x → IsSound s → HasRoom s.tags None o → AreWaiting s.tags None o ws → Begins u.tags o ws x
items_begin s static scalar ws NoInitialisers u x o h k r w = subst (λ (u : State). Begins u.tags o ws x) h.0 (subst (Begins s.tags o ws) h.1 (le_refl (elements_begun ws), w))
items_begin s static scalar ws (Initialisers i is) u x o h k r w =
    let f = item_goes s static scalar ws i h.0 h.1 h.2 k in
    let a = item_begins s static scalar ws i h.0 h.1 o h.2 k r w in
    let b = items_begin h.0 static scalar h.1.left is h.3.0 h.3.1 o h.3.2 f.sound (room_stays s.tags h.0.tags None o f.tags r) a.1 in
    subst (λ (u : State). Begins u.tags o ws x) h.3.3.0 (subst (Begins h.3.0.tags o ws) h.3.3.1 (le_trans a.0 b.0, b.1))

-- no elements are begun of what isn't of unknown size
pub none_begun : (tags : List Tag) (b : Bound) (ws : List Waiting) → AreWaiting tags b None ws → elements_begun ws ≡ 0
none_begun tags b ws h = ap elements_begun (sym (append_none ws)) ∙ begun_join tags b ws [] h
  where
    append_none : (ws : List Waiting) → ws ++ [] ≡ ws
    append_none [] = refl
    append_none (w ∷ ws) = ap (λ ws. w ∷ ws) (append_none ws)

may_none : (b : Bound) (n : ℕ) → n ≡ 0 → MayBegin b n
may_none None n e = tt
may_none (Some b) n e = omega (arith, e)

-- ---- what they store

abbrev pub Stores : List Tag → Bound → Option CType → Stored → Type 0
Stores tags b o x = AreWaiting tags b o x.left × AllFilled tags b x.places

stores_joined : (tags : List Tag) (b : Bound) (o : Option CType) (one more : Stored) → AllFilled tags b one.places → Stores tags b o more → Stores tags b o (joined one more)
stores_joined tags b o one more h k = (k.0, filled_join tags b one.places more.places h k.1)

-- an expression
value_stores : (s : State) (l : ℕ) (static : Bool) (b : Bound) (o : Option CType) (ws : List Waiting) (c : CoreTree) → IsSound s → IsPart s.tags c → init_fault s l (value_node static (taken s.tags c ws) c) ≡ None → HasRoom s.tags b o → AreWaiting s.tags b o ws
    → MayBegin b (elements_begun (left_behind (taken s.tags c ws) ws)) → Stores s.tags b o (by_value (taken s.tags c ws) ws c)
value_stores s l static b o ws c h p e r w m = by (taken s.tags c ws) refl (init_unbroken s l (value_node static (taken s.tags c ws) c) e 25) (init_unbroken s l (value_node static (taken s.tags c ws) c) e 26) m
  where
    by : (f : Option Found) → taken s.tags c ws ≡ f → is_unsuited (Value (place_in f) c) ≡ false → is_long_text (Value (place_in f) c) ≡ false → MayBegin b (elements_begun (left_behind f ws))
        → AreWaiting s.tags b o (left_behind f ws) × AllFilled s.tags b (filled_in f c)
    by None g u t m = (w, tt)
    by (Some f) g u t m =
        let k = taken_takes s.tags b o c ws f (sound_members s h) r w m g in
        (k.left, (value_filled s.tags b f.at c k.at p (not_false (suits f.at.of c) u) t, tt))

-- where a list in braces begins
list_waits : (s : State) (b : Bound) (o : Option CType) (ws : List Waiting) (items : InitialiserTrees) → IsSound s → HasRoom s.tags b o → AreWaiting s.tags b o ws → MayBegin b (elements_begun (left_behind (next s.tags ws) ws))
    → AreWaiting s.tags b o (left_behind (next s.tags ws) ws) × AreWaiting s.tags b None (begun_in s.tags items (next s.tags ws))
list_waits s b o ws items h r w m = by (next s.tags ws) refl m
  where
    by : (f : Option Found) → next s.tags ws ≡ f → MayBegin b (elements_begun (left_behind f ws)) → AreWaiting s.tags b o (left_behind f ws) × AreWaiting s.tags b None (begun_in s.tags items f)
    by None g m = (w, (tt, refl))
    by (Some f) g m = let t = next_takes s.tags b o ws f r w m g in (t.left, begun_waits s.tags b items f.at (sound_members s h) t.at)

mutual
  pub items_store : (s : State) (static scalar : Bool) (ws : List Waiting) (is : InitialiserTrees) (u : State) (x : Stored) (b : Bound) (o : Option CType) → TypesItems s static scalar ws is u x → IsSound s → FitsInitialisers is → HasRoom s.tags b o → AreWaiting s.tags b o ws
      → MayBegin b (elements_begun x.left) → Stores u.tags b o x
  items_store s static scalar ws NoInitialisers u x b o h k g r w m = subst (λ (u : State). Stores u.tags b o x) h.0 (subst (Stores s.tags b o) h.1 (w, tt))
  items_store s static scalar ws (Initialisers i is) u x b o h k g r w m =
      let f = item_goes s static scalar ws i h.0 h.1 h.2 k in
      let a = item_begins s static scalar ws i h.0 h.1 o h.2 k (room_open s.tags b o r) (waiting_open s.tags b o ws w) in
      let d = items_begin h.0 static scalar h.1.left is h.3.0 h.3.1 o h.3.2 f.sound (room_stays s.tags h.0.tags None o f.tags (room_open s.tags b o r)) a.1 in
      let e = items_go h.0 static scalar h.1.left is h.3.0 h.3.1 h.3.2 f.sound in
      let n : MayBegin b (elements_begun h.3.1.left) = subst (λ (x : Stored). MayBegin b (elements_begun x.left)) (sym h.3.3.1) m in
      let one = item_stores s static scalar ws i h.0 h.1 b o h.2 k g.0 r w (may_fewer b (elements_begun h.3.1.left) (elements_begun h.1.left) n d.0) in
      let more = items_store h.0 static scalar h.1.left is h.3.0 h.3.1 b o h.3.2 f.sound g.1 (room_stays s.tags h.0.tags b o f.tags r) one.0 n in
      subst (λ (u : State). Stores u.tags b o x) h.3.3.0
      (subst (Stores h.3.0.tags b o) h.3.3.1 (stores_joined h.3.0.tags b o h.1 h.3.1 (filled_stays h.0.tags h.3.0.tags b h.1.places e.tags one.1) more))

  item_stores : (s : State) (static scalar : Bool) (ws : List Waiting) (i : InitialiserTree) (u : State) (x : Stored) (b : Bound) (o : Option CType) → TypesItem s static scalar ws i u x → IsSound s → FitsInitialiser i → HasRoom s.tags b o → AreWaiting s.tags b o ws
      → MayBegin b (elements_begun x.left) → Stores u.tags b o x
  item_stores s static scalar ws (ByExpr l e) u x b o h k g r w m =
      let f = expr_goes s e h.0 h.1 h.2 k in
      let p = expr_part s e h.0 h.1 h.2 g.1 k in
      let n : MayBegin b (elements_begun (left_behind (taken h.0.tags h.1 ws) ws)) = subst (λ (x : Stored). MayBegin b (elements_begun x.left)) (sym h.3.1.1) m in
      subst (λ (u : State). Stores u.tags b o x) h.3.1.0
      (subst (Stores h.0.tags b o) h.3.1.1 (value_stores h.0 l static b o ws h.1 f.sound p h.3.0 (room_stays s.tags h.0.tags b o f.tags r) (waiting_stays s.tags h.0.tags b o ws f.tags w) n))
  item_stores s static scalar ws (Braced l items comma) u x b o h k g r w m =
      let f = items_go s static (is_scalar_at (next s.tags ws)) (begun_in s.tags items (next s.tags ws)) items h.0 h.1 h.2 k in
      let n : MayBegin b (elements_begun (left_behind (next s.tags ws) ws)) = subst (λ (x : Stored). MayBegin b (elements_begun x.left)) (sym h.3.1.1) m in
      let t = list_waits s b o ws items k r w n in
      let d = items_begin s static (is_scalar_at (next s.tags ws)) (begun_in s.tags items (next s.tags ws)) items h.0 h.1 None h.2 k tt (waiting_open s.tags b None (begun_in s.tags items (next s.tags ws)) t.1) in
      let inner = items_store s static (is_scalar_at (next s.tags ws)) (begun_in s.tags items (next s.tags ws)) items h.0 h.1 b None h.2 k g.1 tt t.1 (may_none b (elements_begun h.1.left) (none_begun h.0.tags None h.1.left d.1)) in
      subst (λ (u : State). Stores u.tags b o x) h.3.1.0
      (subst (Stores h.0.tags b o) h.3.1.1 (waiting_stays s.tags h.0.tags b o (left_behind (next s.tags ws) ws) f.tags t.0, inner.1))
