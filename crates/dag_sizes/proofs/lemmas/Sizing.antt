-- The nodes of a block's trees and its rooms together.
use Rattle.std.proofs.Common.{◌≡◌, ⊎_elim, ℕ, zero, suc, ◌+◌, ◌*◌, ◌<◌, ℤ, Bool, true, false, true≢false, Option, Some, None, List, [], ◌∷◌, refl, sym, ap, ◌∙◌, subst, arith}
use Rattle.std.specs.Prelude.{◌&&◌, ◌||◌, not, if◌then◌else◌}
use Rattle.std.specs.List.{sum_by}
use Rattle.std.proofs.lemmas.List.Sums.{sum_by-cons}
use Rattle.std.proofs.lemmas.Bool.{cases_eq}
use Rattle.lcc_base.specs.declared.order.Order.{Order}
use Rattle.op_forest.specs.declared.frame.Slot.{Slot}
use Rattle.op_forest.specs.declared.suffix.Suffix.{Suffix}
use Rattle.op_forest.specs.declared.suffix.Suffix.TheVariants.{C, S, I, U, P, B, V}
use Rattle.op_forest.specs.Frames.{lowest}
use Rattle.op_forest.specs.Nodes.{Head, nodes}
use Rattle.op_forest.specs.Nodes.{Node as Tree}
use Rattle.forests.specs.Addresses.{Home}
use Rattle.dag_forest.specs.declared.act.Act.{Act}
use Rattle.dag_forest.specs.declared.act.Act.TheVariants.{Made, Acts}
use Rattle.dag_forest.specs.declared.entry.Entry.{Entry}
use Rattle.dag_forest.specs.declared.kids.Kids.{Kids}
use Rattle.dag_forest.specs.declared.kids.Kids.TheVariants.{Zero, One, Two}
use Rattle.dag_forest.specs.declared.parts.Parts.{Parts}
use Rattle.dag_forest.specs.Choice.{Room, kind_of, counts, times_of, late, is_last, is_once, next_kids, is_handed, is_computed, is_leaf, has_kids, is_needed, is_wanted, reads_by, room_by, next_by, chosen, rooms_to}
use Rattle.dag_forest.specs.Emission.{AreOnce, tree_by, tree_at, emitted, emit, no_tree, Use, Lost, Stable, IsUsable, fade, faded, kids_use, read_use, kept_use, IsMade, Takes, HoldsMade, HoldsBehind}
use Rattle.dag_forest.specs.Entries.{is_call, is_read}
use Rattle.dag_forest.specs.Meaning.{is_end, is_handing, Temporary, Keeps}
use Rattle.dag_forest.specs.NewSlots.{offset_below}
use Rattle.dag_forest.specs.Schedules.{head_of, at, acts_of, in_turn}
use Rattle.dag_forest.specs.Slots.{slot_read, slot_store}
use Rattle.dag_forest.specs.Split.{Split, split_trees, room_of, room_count, temporary_of, kept_by}
use Rattle.dag_forest.proofs.lemmas.Maps.{at_new, at_old, unmade, unmade_other}
use Rattle.dag_forest.proofs.lemmas.Once.{acts_are_once}
use Rattle.dag_sizes.specs.Sizes.{store_size, read_size, node_size, size_of, split_size}
use Rattle.dag_sizes.proofs.lemmas.Uses.{sum_kids, sum_uses, uses_at, no_uses, AreUsed, are_used}
use Rattle.dag_sizes.proofs.lemmas.Usable.{AllKids, all_map, faded_usable, kids_usable, operands_usable}

-- ---- trees

tree_nodes : (ts : ℕ → Tree) (h : Head) (k : Kids) (f : ℕ → ℕ) → AllKids (λ m. f m ≡ nodes (ts m)) k → nodes (tree_by ts h k) ≡ 1 + sum_kids k f
tree_nodes ts h Zero f q = omega arith
tree_nodes ts h (One a) f q = omega (arith, q)
tree_nodes ts h (Two a c) f q = let x = q.0 in let y = q.1 in omega (arith, x, y)

store_nodes : (s : Suffix) (offset : ℤ) (t : Tree) → nodes (slot_store (kind_of s) offset t) + 1 ≡ store_size s + nodes t
store_nodes C offset t = omega arith
store_nodes S offset t = omega arith
store_nodes I offset t = omega arith
store_nodes U offset t = omega arith
store_nodes P offset t = omega arith
store_nodes B offset t = omega arith
store_nodes V offset t = omega arith

read_nodes : (s : Suffix) (offset : ℤ) → read_size s ≡ nodes (slot_read (kind_of s) offset)
read_nodes C offset = refl
read_nodes S offset = refl
read_nodes I offset = refl
read_nodes U offset = refl
read_nodes P offset = refl
read_nodes B offset = refl
read_nodes V offset = refl

-- ---- nodes without a room

and_split : (a b : Bool) → (a && b) ≡ true → (a ≡ true) × (b ≡ true)
and_split true b h = (refl, h)
and_split false b h = absurd (true≢false (sym h))

once_is : (c : ℕ) → is_once (times_of c) ≡ true → c ≡ 1
once_is zero h = absurd (true≢false (sym h))
once_is (suc zero) h = refl
once_is (suc (suc c)) h = absurd (true≢false (sym h))

pub handed_once : (as' : List Act) (n : ℕ) → is_handed as' n ≡ true → counts as' n ≡ 1
handed_once as' n h = once_is (counts as' n) (and_split (is_last n (next_kids as')) (is_once (times_of (counts as' n))) h).1

pub unwanted_once : (comp call handed : Bool) (c : ℕ) (stale : Bool) → 0 < c → (handed ≡ true → c ≡ 1) → (comp && (if call then not handed else is_needed (times_of c) stale)) ≡ false → comp ≡ true → c ≡ 1
unwanted_once false call handed c stale l one e is = absurd (true≢false (sym is))
unwanted_once true true true c stale l one e is = one refl
unwanted_once true true false c stale l one e is = absurd (true≢false e)
unwanted_once true false handed zero stale l one e is = absurd (omega (arith, l))
unwanted_once true false handed (suc zero) stale l one e is = refl
unwanted_once true false handed (suc (suc c)) stale l one e is = absurd (true≢false e)

-- an address or a constant has no operands
plain_kids : (k : Kids) (b : Bool) (f : ℕ → ℕ) → (has_kids k || b) ≡ false → sum_kids k f ≡ 0
plain_kids Zero b f h = refl
plain_kids (One a) b f h = absurd (true≢false h)
plain_kids (Two a c) b f h = absurd (true≢false h)

unkept_size : (x : Parts) (c s : ℕ) (f : ℕ → ℕ) → (is_computed x ≡ true → c ≡ 1) → s ≡ sum_kids x.kids f → c * (1 + s) ≡ s + node_size false x c
unkept_size x c s f one is = by (is_computed x) refl
  where
    by : (b : Bool) → is_computed x ≡ b → c * (1 + s) ≡ s + (if b then 1 else c)
    by true e = let o = one e in let h : c * (1 + s) ≡ 1 * (1 + s) = ap (λ z. z * (1 + s)) o in omega (arith, h)
    by false e = let z = plain_kids x.kids (not (is_leaf x.operator.op)) f e in let h : c * (1 + s) ≡ c * 1 = ap (λ k. c * (1 + k)) (is ∙ z) in omega (arith, h, is, z)

commute : (a b : ℕ) → a * b ≡ b * a
commute a b = search arith

-- ---- what a block does

module _ (f : Room → Temporary) (kind : (r : Room) (s : Suffix) (t : Tree) → r.kind ≡ kind_of s → nodes ((f r).store t) + 1 ≡ store_size s + nodes t) (reading : (r : Room) (s : Suffix) → r.kind ≡ kind_of s → read_size s ≡ nodes (f r).read) (kept : ℕ → Option Room) where
  abbrev keeps : Keeps
  keeps m = kept_by f (kept m)

  abbrev AreSized : (ℕ → Use) → (ℕ → Tree) → (ℕ → ℕ) → Type 0
  AreSized uses ts g = (m : ℕ) → IsUsable (uses m) → g m ≡ nodes (ts m)

  abbrev AreNone : (ℕ → Bool) → (ℕ → ℕ) → Type 0
  AreNone made g = (m : ℕ) → made m ≡ false → g m ≡ 0

  abbrev IsSize : List Act → (ℕ → Bool) → ℕ → (ℕ → Tree) → (ℕ → ℕ) → Type 0
  IsSize xs reads t ts g = sum_by nodes (emit keeps xs ts []) + rooms_to xs reads t ≡ t + (sum_uses xs g + size_of xs reads)

  abbrev AllSize : List Act → Type 0
  AllSize xs = (made : ℕ → Bool) (uses : ℕ → Use) (reads : ℕ → Bool) (t : ℕ) (ts : ℕ → Tree) (g : ℕ → ℕ) → ((m : ℕ) → made m ≡ false → kept m ≡ chosen xs reads t m) → AreOnce xs made → AreUsed xs → AreSized uses ts g → AreNone made g → HoldsBehind None keeps xs uses → IsSize xs reads t ts g

  -- behind a call that is handed
  abbrev AllTake : List Act → Type 0
  AllTake xs = (n : ℕ) (made : ℕ → Bool) (uses : ℕ → Use) (reads : ℕ → Bool) (t : ℕ) (ts : ℕ → Tree) (g : ℕ → ℕ) → ((m : ℕ) → made m ≡ false → kept m ≡ chosen xs reads t m) → AreOnce xs made → AreUsed xs → AreSized uses ts g → g n ≡ nodes (ts n) → AreNone made g → HoldsBehind (Some n) keeps xs uses → IsSize xs reads t ts g

  module _ (n : ℕ) (x : Parts) (as' : List Act) (rest : AllSize as') (take : AllTake as') (made : ℕ → Bool) (uses : ℕ → Use) (reads : ℕ → Bool) (t : ℕ) (ts : ℕ → Tree) (g : ℕ → ℕ)
      (same : (m : ℕ) → made m ≡ false → kept m ≡ chosen (Made n x ∷ as') reads t m) (fresh : made n ≡ false) (once : AreOnce as' (at made n true)) (above : 0 < counts as' n) (used_ : AreUsed as') (sized : AreSized uses ts g) (none : AreNone made g) where
    c : ℕ
    c = counts as' n

    s : ℕ
    s = sum_kids x.kids g

    abbrev r : Bool
    r = reads_by reads x

    abbrev reads_to : Bool → ℕ → Bool
    reads_to w = at reads n (not w && r)

    tree_is : IsUsable (kids_use uses x.kids) → nodes (tree_at ts x) ≡ 1 + sum_kids x.kids g
    tree_is us = tree_nodes ts (head_of x) x.kids g (all_map (λ m. IsUsable (uses m)) (λ m. g m ≡ nodes (ts m)) x.kids sized (kids_usable uses x.kids us))

    sized_more : (b : Bool) (u : Use) (k : ℕ) (tree : Tree) → k ≡ nodes tree → AreSized (at (λ m. faded b (uses m)) n u) (at ts n tree) (at g n k)
    sized_more b u k tree is m us = ⊎_elim
        (λ e. ap (at g n k) e ∙ at_new g n k ∙ is ∙ sym (ap nodes (ap (at ts n tree) e ∙ at_new ts n tree)))
        (λ ne. at_old g n k m ne ∙ sized m (faded_usable b (uses m) (subst IsUsable (at_old (λ q. faded b (uses q)) n u m ne) us)) ∙ sym (ap nodes (at_old ts n tree m ne)))
        (cases_eq m n)

    sized_taken : (k : ℕ) (tree : Tree) → k ≡ nodes tree → AreSized uses (at ts n tree) (at g n k)
    sized_taken k tree is m us = ⊎_elim
        (λ e. ap (at g n k) e ∙ at_new g n k ∙ is ∙ sym (ap nodes (ap (at ts n tree) e ∙ at_new ts n tree)))
        (λ ne. at_old g n k m ne ∙ sized m us ∙ sym (ap nodes (at_old ts n tree m ne)))
        (cases_eq m n)

    none_more : (k : ℕ) → AreNone (at made n true) (at g n k)
    none_more k m un = at_old g n k m (unmade_other made n m un) ∙ none m (unmade made n m un)

    same_behind : (w : Bool) → is_wanted as' reads n x ≡ w → (m : ℕ) → at made n true m ≡ false → kept m ≡ chosen as' (reads_to w) (next_by w t) m
    same_behind w e m un =
        same m (unmade made n m un)
        ∙ at_old (chosen as' (reads_to (is_wanted as' reads n x)) (next_by (is_wanted as' reads n x) t)) n (room_by (is_wanted as' reads n x) x t) m (unmade_other made n m un)
        ∙ ap (λ b. chosen as' (reads_to b) (next_by b t) m) e

    abbrev Held : Bool → Option Temporary → Type 0
    Held call o = HoldsMade (is_handing call o) (IsUsable (kids_use uses x.kids) × HoldsBehind (Some n) keeps as' uses) (IsMade (kids_use uses x.kids) o × HoldsBehind None keeps as' (at (λ m. faded call (uses m)) n (kept_use o (read_use (is_read x.operator.op) (kids_use uses x.kids)))))

    abbrev Goal : Bool → Option Temporary → Type 0
    Goal w o = sum_by nodes (emitted o (tree_at ts x) (λ tree. emit keeps as' (at ts n tree) [])) + rooms_to as' (reads_to w) (next_by w t) ≡ t + ((sum_kids x.kids g + sum_uses as' g) + (node_size w x (counts as' n) + size_of as' (reads_to w)))

    -- without a room
    plain_by : (call : Bool) → is_wanted as' reads n x ≡ false → Held call None → Goal false None
    plain_by call e holds =
        let us = operands_usable keeps n x as' made uses once used_ above call None holds in
        let tree = tree_is us in
        let k : ℕ = 1 + sum_kids x.kids g in
        let one = unwanted_once (is_computed x) (is_call x.operator.op) (is_handed as' n) (counts as' n) (late as' n && reads_by reads x) above (handed_once as' n) e in
        let size = unkept_size x (counts as' n) (sum_kids x.kids g) g one refl in
        let uses_more = uses_at as' g n k (none n fresh) in
        let h : sum_by nodes (emit keeps as' (at ts n (tree_at ts x)) []) + rooms_to as' (reads_to false) t ≡ t + (sum_uses as' (at g n k) + size_of as' (reads_to false)) = later call holds k (sym tree) in
        omega (arith, size, uses_more, h)
      where
        later : (call : Bool) → Held call None → (k : ℕ) → k ≡ nodes (tree_at ts x) → sum_by nodes (emit keeps as' (at ts n (tree_at ts x)) []) + rooms_to as' (reads_to false) t ≡ t + (sum_uses as' (at g n k) + size_of as' (reads_to false))
        later true holds k is = take n (at made n true) uses (reads_to false) t (at ts n (tree_at ts x)) (at g n k) (same_behind false e) once used_ (sized_taken k (tree_at ts x) is) (at_new g n k ∙ is ∙ sym (ap nodes (at_new ts n (tree_at ts x)))) (none_more k) holds.1
        later false holds k is = rest (at made n true) (at (λ m. uses m) n (read_use (is_read x.operator.op) (kids_use uses x.kids))) (reads_to false) t (at ts n (tree_at ts x)) (at g n k) (same_behind false e) once used_ (sized_more false (read_use (is_read x.operator.op) (kids_use uses x.kids)) k (tree_at ts x) is) (none_more k) holds.1

    kept_by_room : (call : Bool) → is_wanted as' reads n x ≡ true → Held call (kept_by f (room_by true x t)) → Goal true (kept_by f (room_by true x t))
    kept_by_room call e holds =
        let room : Room = record { number = t; kind = kind_of x.operator.suffix } in
        let us = operands_usable keeps n x as' made uses once used_ above call (Some (f room)) holds in
        let tree = tree_is us in
        let k : ℕ = read_size x.operator.suffix in
        let stored = kind room x.operator.suffix (tree_at ts x) refl in
        let uses_more = uses_at as' g n k (none n fresh) in
        let product = commute (counts as' n) (read_size x.operator.suffix) in
        let cons = sum_by-cons nodes ((f room).store (tree_at ts x)) (emit keeps as' (at ts n (f room).read) []) in
        let h : sum_by nodes (emit keeps as' (at ts n (f room).read) []) + rooms_to as' (reads_to true) (suc t) ≡ suc t + (sum_uses as' (at g n k) + size_of as' (reads_to true)) = later call holds in
        omega (arith, tree, stored, uses_more, product, cons, h)
      where
        later : (call : Bool) → Held call (kept_by f (room_by true x t)) → sum_by nodes (emit keeps as' (at ts n (f (record { number = t; kind = kind_of x.operator.suffix })).read) []) + rooms_to as' (reads_to true) (suc t) ≡ suc t + (sum_uses as' (at g n (read_size x.operator.suffix)) + size_of as' (reads_to true))
        later true holds = rest (at made n true) (at (λ m. fade (uses m)) n Stable) (reads_to true) (suc t) (at ts n (f (record { number = t; kind = kind_of x.operator.suffix })).read) (at g n (read_size x.operator.suffix)) (same_behind true e) once used_ (sized_more true Stable (read_size x.operator.suffix) (f (record { number = t; kind = kind_of x.operator.suffix })).read (reading (record { number = t; kind = kind_of x.operator.suffix }) x.operator.suffix refl)) (none_more (read_size x.operator.suffix)) holds.1
        later false holds = rest (at made n true) (at (λ m. uses m) n Stable) (reads_to true) (suc t) (at ts n (f (record { number = t; kind = kind_of x.operator.suffix })).read) (at g n (read_size x.operator.suffix)) (same_behind true e) once used_ (sized_more false Stable (read_size x.operator.suffix) (f (record { number = t; kind = kind_of x.operator.suffix })).read (reading (record { number = t; kind = kind_of x.operator.suffix }) x.operator.suffix refl)) (none_more (read_size x.operator.suffix)) holds.1

    by_room : (w call : Bool) → is_wanted as' reads n x ≡ w → Held call (kept_by f (room_by w x t)) → Goal w (kept_by f (room_by w x t))
    by_room false call e holds = plain_by call e holds
    by_room true call e holds = kept_by_room call e holds

    made_size : Held (is_call x.operator.op) (keeps n) → Goal (is_wanted as' reads n x) (keeps n)
    made_size = subst (λ k. Held (is_call x.operator.op) (kept_by f k) → Goal (is_wanted as' reads n x) (kept_by f k))
        (sym (same n fresh ∙ at_new (chosen as' (reads_to (is_wanted as' reads n x)) (next_by (is_wanted as' reads n x) t)) n (room_by (is_wanted as' reads n x) x t)))
        (by_room (is_wanted as' reads n x) (is_call x.operator.op) refl)

  root_size : (x : Parts) (as' : List Act) (reads : ℕ → Bool) (t : ℕ) (ts : ℕ → Tree) (g : ℕ → ℕ) → AllKids (λ m. g m ≡ nodes (ts m)) x.kids → IsSize as' reads t ts g → IsSize (Acts x ∷ as') reads t ts g
  root_size x as' reads t ts g are h =
      let tree = tree_nodes ts (head_of x) x.kids g are in
      let cons = sum_by-cons nodes (tree_at ts x) (emit keeps as' ts []) in
      omega (arith, tree, cons, h)

  acts_take : (x : Parts) (as' : List Act) → AllSize as' → AllTake (Acts x ∷ as')
  acts_take x as' rest n made uses reads t ts g same once used_ sized own none holds =
      root_size x as' reads t ts g (taken x.kids holds.0)
      (rest made (λ m. faded (is_end x) (at (λ k. fade (uses k)) n Lost m)) reads t ts g same once used_ (λ m us. sized m (back m (faded_usable (is_end x) (at (λ k. fade (uses k)) n Lost m) us))) none holds.1)
    where
      taken : (k : Kids) → Takes n uses k → AllKids (λ m. g m ≡ nodes (ts m)) k
      taken Zero h = absurd h
      taken (One a) h = subst (λ z. g z ≡ nodes (ts z)) (sym h) own
      taken (Two a c) h = (sized a h.2, subst (λ z. g z ≡ nodes (ts z)) (sym h.0) own)

      back : (m : ℕ) → IsUsable (at (λ k. fade (uses k)) n Lost m) → IsUsable (uses m)
      back m us = ⊎_elim
          (λ e. absurd (subst IsUsable (ap (at (λ k. fade (uses k)) n Lost) e ∙ at_new (λ k. fade (uses k)) n Lost) us))
          (λ ne. faded_usable true (uses m) (subst IsUsable (at_old (λ k. fade (uses k)) n Lost m ne) us))
          (cases_eq m n)

  both : (xs : List Act) → AllSize xs × AllTake xs
  both [] = (λ made uses reads t ts g same once used_ sized none holds. omega arith, λ n made uses reads t ts g same once used_ sized own none holds. absurd holds)
  both (Made n x ∷ as') = (
    (λ made uses reads t ts g same once used_ sized none holds. made_size n x as' (both as').0 (both as').1 made uses reads t ts g same once.0 once.1 used_.0 used_.1 sized none holds),
    (λ m made uses reads t ts g same once used_ sized own none holds. absurd holds),
  )
  both (Acts x ∷ as') = (
    (λ made uses reads t ts g same once used_ sized none holds. root_size x as' reads t ts g (all_map (λ m. IsUsable (uses m)) (λ m. g m ≡ nodes (ts m)) x.kids sized (kids_usable uses x.kids holds.0))
        ((both as').0 made (λ m. faded (is_end x) (uses m)) reads t ts g same once used_ (λ m us. sized m (faded_usable (is_end x) (uses m) us)) none holds.1)),
    acts_take x as' (both as').0,
  )

pub split_has_size : (order : Order) (home : Home) (before : List Slot) (es : List Entry) → Split before es → sum_by nodes (split_trees order home before es []) + room_count es ≡ split_size es
split_has_size order home before es split =
    let h : sum_by nodes (split_trees order home before es []) + room_count es ≡ 0 + (sum_uses (acts_of es) (λ m. 0) + split_size es) =
    (both (temporary_of order home before)
    (λ r s t e. subst (λ k. nodes (slot_store k (offset_below (lowest before) r.number) t) + 1 ≡ store_size s + nodes t) (sym e) (store_nodes s (offset_below (lowest before) r.number) t))
    (λ r s e. read_nodes s (offset_below (lowest before) r.number) ∙ ap (λ k. nodes (slot_read k (offset_below (lowest before) r.number))) (sym e))
    (room_of es) (acts_of es)).0 (λ m. false) (λ m. Lost) (λ m. false) 0 (λ m. no_tree) (λ m. 0) (λ m e. refl) (acts_are_once es) (are_used (in_turn es 0 [])) (λ m us. absurd us) (λ m e. refl) (split.holds order home) in
    let z = no_uses (acts_of es) in
    omega (arith, h, z)
