-- With the rooms that are chosen, each use of a node stands where its tree has the node's value.
use Rattle.std.proofs.Common.{◌≡◌, ⊎_elim, ℕ, zero, suc, ◌+◌, ◌<◌, Bool, true, false, true≢false, Option, Some, List, [], ◌∷◌, ◌++◌, inl, inr, refl, sym, ap, ◌∙◌, arith, subst}
use Rattle.std.specs.Prelude.{◌⊎◌, ◌&&◌, ◌||◌, not, ◌==◌, if◌then◌else◌}
use Rattle.std.proofs.lemmas.Bool.{cases_eq, eq-eqb, ne_eqb, eqb-true}
use Rattle.dag_forest.specs.declared.kids.Kids.{Kids}
use Rattle.dag_forest.specs.declared.kids.Kids.TheVariants.{Zero, One, Two}
use Rattle.dag_forest.specs.declared.parts.Parts.{Parts}
use Rattle.op_forest.specs.declared.op.Op.{Op}
use Rattle.op_forest.specs.declared.op.Op.TheVariants as op
use Rattle.dag_forest.specs.Entries.{is_call, is_read}
use Rattle.dag_forest.specs.Schedules.{Act, Made, Acts, kids_of, kids_list, all_uses, is_in, at, used}
use Rattle.dag_forest.specs.Meaning.{Temporary, is_end, is_handing}
use Rattle.dag_forest.specs.Emission.{Use, Lost, Now, Stable, IsUsable, fade, faded, least, kids_use, read_use, kept_use, IsMade, Takes, HoldsMade, HoldsBehind, Holds, AreOnce}
use Rattle.dag_forest.specs.Choice.{Room, hits, in_kids, counts, times_of, is_above, ends_stretch, late, is_last, is_once, is_handed, is_leaf, has_kids, is_computed, is_needed, kids_read, reads_by, room_by, next_by, is_wanted, chosen}
use Rattle.dag_forest.specs.Split.{kept_by}
use Rattle.dag_forest.proofs.lemmas.Maps.{at_new, at_old}
use Rattle.dag_forest.proofs.Ready.{AllKids, kids_map, AreReady, ready_map}

-- each node that is made is used behind
abbrev pub AreUsed : List Act → Type 0
AreUsed [] = Unit {0}
AreUsed (Made n x ∷ as') = (0 < counts as' n) × AreUsed as'
AreUsed (Acts x ∷ as') = AreUsed as'

or_above : (b c : Bool) → (b || c) ≡ true → (b ≡ true) ⊎ (c ≡ true)
or_above true c h = inl refl
or_above false c h = inr h

pub hit : (a : ℕ) → hits a a ≡ 1
hit a = rw (eq-eqb a a refl) refl

pub miss : (a c : ℕ) → (a ≡ c → ⊥) → hits a c ≡ 0
miss a c ne = rw (ne_eqb a c ne) refl

above_zero : (c : ℕ) → is_above c ≡ false → c ≡ 0
above_zero zero e = refl
above_zero (suc c) e = absurd (true≢false e)

zero_above : (c : ℕ) → c ≡ 0 → is_above c ≡ false
zero_above c e = ap is_above e

-- what is listed is counted
listed : (m : ℕ) (ns : List ℕ) (rest : List ℕ) → is_in m (ns ++ rest) ≡ (is_in m ns || is_in m rest)
listed m [] rest = refl
listed m (n ∷ ns) rest = ap (λ z. (m == n) || z) (listed m ns rest) ∙ or_more (m == n) (is_in m ns) (is_in m rest)
  where
    or_more : (a b c : Bool) → (a || (b || c)) ≡ ((a || b) || c)
    or_more true b c = refl
    or_more false b c = refl

counted_one : (b : Bool) (c : ℕ) (q : Bool) → q ≡ is_above c → (b || q) ≡ is_above ((if b then 1 else 0) + c)
counted_one true c q e = ap is_above (let z : suc c ≡ 1 + c = omega arith in z)
counted_one false c q e = e ∙ ap is_above (let z : c ≡ 0 + c = omega arith in z)

counted_kids : (m : ℕ) (k : Kids) (c : ℕ) (q : Bool) → q ≡ is_above c → (is_in m (kids_list k) || q) ≡ is_above (in_kids k m + c)
counted_kids m Zero c q e = e ∙ ap is_above (let z : c ≡ 0 + c = omega arith in z)
counted_kids m (One a) c q e = or_none (m == a) q ∙ counted_one (m == a) c q e
  where
    or_none : (a b : Bool) → ((a || false) || b) ≡ (a || b)
    or_none true b = refl
    or_none false b = refl
counted_kids m (Two a d) c q e = or_two (m == a) (m == d) q ∙ counted_one (m == a) (hits m d + c) ((m == d) || q) (counted_one (m == d) c q e) ∙ ap is_above (let z : hits m a + (hits m d + c) ≡ (hits m a + hits m d) + c = omega arith in z)
  where
    or_two : (a b c : Bool) → ((a || (b || false)) || c) ≡ (a || (b || c))
    or_two true b c = refl
    or_two false true c = refl
    or_two false false c = refl

pub is_counted : (m : ℕ) (xs : List Act) → is_in m (all_uses xs) ≡ is_above (counts xs m)
is_counted m [] = refl
is_counted m (a ∷ as') = listed m (kids_list (kids_of a)) (all_uses as') ∙ counted_kids m (kids_of a) (counts as' m) (is_in m (all_uses as')) (is_counted m as')

above : (c : ℕ) → is_above c ≡ true → 0 < c
above zero h = absurd (true≢false (sym h))
above (suc c) h = omega arith

pub are_used : (xs : List Act) → AreUsed (used xs)
are_used [] = tt
are_used (Made n x ∷ as') = by (is_in n (all_uses (used as'))) refl (are_used as')
  where
    by : (b : Bool) → is_in n (all_uses (used as')) ≡ b → AreUsed (used as') → AreUsed (if b then Made n x ∷ used as' else used as')
    by true e g = (above (counts (used as') n) (sym (is_counted n (used as')) ∙ e), g)
    by false e g = g
are_used (Acts x ∷ as') = are_used as'

-- what is used later is used
pub late_used : (xs : List Act) (m : ℕ) → counts xs m ≡ 0 → late xs m ≡ false
late_used [] m e = refl
late_used (a ∷ as') m e = let rest : counts as' m ≡ 0 = omega (arith, e) in by (ends_stretch a) (zero_above (counts as' m) rest) (late_used as' m rest)
  where
    by : (b : Bool) → is_above (counts as' m) ≡ false → late as' m ≡ false → (if b then is_above (counts as' m) else late as' m) ≡ false
    by true h g = h
    by false h g = g

-- ---- uses

usable_not : (u : Use) → (u ≡ Lost → ⊥) → IsUsable u
usable_not Lost h = absurd (h refl)
usable_not Now h = tt
usable_not Stable h = tt

usable_is : (u : Use) → IsUsable u → u ≡ Lost → ⊥
usable_is Lost h e = h
usable_is Now h e = cc
usable_is Stable h e = cc

least_usable : (u v : Use) → IsUsable u → IsUsable v → IsUsable (least u v)
least_usable Lost v h g = absurd h
least_usable Now Lost h g = absurd g
least_usable Now Now h g = tt
least_usable Now Stable h g = tt
least_usable Stable v h g = g

read_usable : (b : Bool) (u : Use) → IsUsable u → IsUsable (read_use b u)
read_usable true Lost h = absurd h
read_usable true Now h = tt
read_usable true Stable h = tt
read_usable false u h = h

kids_usable : (uses : ℕ → Use) (k : Kids) → AllKids (λ m. IsUsable (uses m)) k → IsUsable (kids_use uses k)
kids_usable uses Zero h = tt
kids_usable uses (One a) h = h
kids_usable uses (Two a c) h = least_usable (uses a) (uses c) h.0 h.1

both_stable : (u v : Use) → u ≡ Stable → v ≡ Stable → least u v ≡ Stable
both_stable u v e d = ap (λ z. least z v) e ∙ d

or_left : (a b : Bool) → (a || b) ≡ false → a ≡ false
or_left true b h = absurd (true≢false h)
or_left false b h = refl

or_right : (a b : Bool) → (a || b) ≡ false → b ≡ false
or_right true b h = absurd (true≢false h)
or_right false b h = h

-- what reads nothing stands anywhere
kids_stable : (uses : ℕ → Use) (reads : ℕ → Bool) (k : Kids) → AllKids (λ m. reads m ≡ false → uses m ≡ Stable) k → kids_read reads k ≡ false → kids_use uses k ≡ Stable
kids_stable uses reads Zero h e = refl
kids_stable uses reads (One a) h e = h e
kids_stable uses reads (Two a c) h e = both_stable (uses a) (uses c) (h.0 (or_left (reads a) (reads c) e)) (h.1 (or_right (reads a) (reads c) e))

read_stable : (b : Bool) (u : Use) → b ≡ false → u ≡ Stable → read_use b u ≡ Stable
read_stable true u e d = absurd (true≢false e)
read_stable false u e d = d

node_stable : (uses : ℕ → Use) (reads : ℕ → Bool) (x : Parts) → AllKids (λ m. reads m ≡ false → uses m ≡ Stable) x.kids → reads_by reads x ≡ false → read_use (is_read x.operator.op) (kids_use uses x.kids) ≡ Stable
node_stable uses reads x h e =
    let rest : (is_call x.operator.op || kids_read reads x.kids) ≡ false = or_right (is_read x.operator.op) (is_call x.operator.op || kids_read reads x.kids) e in
    read_stable (is_read x.operator.op) (kids_use uses x.kids) (or_left (is_read x.operator.op) (is_call x.operator.op || kids_read reads x.kids) e)
    (kids_stable uses reads x.kids h (or_right (is_call x.operator.op) (kids_read reads x.kids) rest))

leaf_reads_not : (o : Op) → is_leaf o ≡ true → is_read o ≡ false
leaf_reads_not op.Indir e = absurd (true≢false (sym e))
leaf_reads_not op.Cnst e = refl
leaf_reads_not op.Addrg e = refl
leaf_reads_not op.Addrf e = refl
leaf_reads_not op.Addrl e = refl
leaf_reads_not o e = refl

leaf_calls_not : (o : Op) → is_leaf o ≡ true → is_call o ≡ false
leaf_calls_not op.Call e = absurd (true≢false (sym e))
leaf_calls_not op.Cnst e = refl
leaf_calls_not op.Addrg e = refl
leaf_calls_not op.Addrf e = refl
leaf_calls_not op.Addrl e = refl
leaf_calls_not o e = refl

no_kids_read : (reads : ℕ → Bool) (k : Kids) → has_kids k ≡ false → kids_read reads k ≡ false
no_kids_read reads Zero e = refl
no_kids_read reads (One a) e = absurd (true≢false e)
no_kids_read reads (Two a c) e = absurd (true≢false e)

not_false : (b : Bool) → not b ≡ false → b ≡ true
not_false true e = refl
not_false false e = absurd (true≢false e)

-- an address or a constant reads nothing
plain_reads : (reads : ℕ → Bool) (x : Parts) → is_computed x ≡ false → reads_by reads x ≡ false
plain_reads reads x e =
    let leaf : is_leaf x.operator.op ≡ true = not_false (is_leaf x.operator.op) (or_right (has_kids x.kids) (not (is_leaf x.operator.op)) e) in
    ap (λ b. b || (is_call x.operator.op || kids_read reads x.kids)) (leaf_reads_not x.operator.op leaf)
    ∙ ap (λ b. b || kids_read reads x.kids) (leaf_calls_not x.operator.op leaf)
    ∙ no_kids_read reads x.kids (or_left (has_kids x.kids) (not (is_leaf x.operator.op)) e)

-- a used node that isn't kept, is no call and has a read below it isn't used late
unwanted : (comp call handed l : Bool) (c : ℕ) → 0 < c → comp ≡ true → call ≡ false → (comp && (if call then not handed else is_needed (times_of c) (l && true))) ≡ false → l ≡ false
unwanted comp call handed l zero above_ is other e = absurd (omega (arith, above_))
unwanted false call handed l (suc c) above_ is other e = absurd (true≢false (sym is))
unwanted true true handed l (suc c) above_ is other e = absurd (true≢false other)
unwanted true false handed true (suc zero) above_ is other e = absurd (true≢false e)
unwanted true false handed false (suc zero) above_ is other e = refl
unwanted true false handed l (suc (suc c)) above_ is other e = absurd (true≢false e)

-- ---- handed calls

and_split : (a b : Bool) → (a && b) ≡ true → (a ≡ true) × (b ≡ true)
and_split true b h = (refl, h)
and_split false b h = absurd (true≢false (sym h))

once_is : (c : ℕ) → is_once (times_of c) ≡ true → c ≡ 1
once_is zero e = absurd (true≢false (sym e))
once_is (suc zero) e = refl
once_is (suc (suc c)) e = absurd (true≢false (sym e))

-- what is handed is used once
pub handed_once : (as' : List Act) (n : ℕ) → is_handed as' n ≡ true → counts as' n ≡ 1
handed_once [] n h = absurd (true≢false (sym h))
handed_once (Made m x ∷ as') n h = absurd (true≢false (sym h))
handed_once (Acts x ∷ as') n h = once_is (counts (Acts x ∷ as') n) (and_split (is_last n x.kids) (is_once (times_of (counts (Acts x ∷ as') n))) h).1

-- a call that isn't kept is handed
unkept_call : (comp call handed other : Bool) → comp ≡ true → call ≡ true → (comp && (if call then not handed else other)) ≡ false → handed ≡ true
unkept_call false call handed other is so e = absurd (true≢false (sym is))
unkept_call true false handed other is so e = absurd (true≢false (sym so))
unkept_call true true handed other is so e = not_false handed e

call_computed : (o : Op) (b : Bool) → is_call o ≡ true → (b || not (is_leaf o)) ≡ true
call_computed o true e = refl
call_computed o false e = by (is_leaf o) refl
  where
    by : (l : Bool) → is_leaf o ≡ l → not l ≡ true
    by true q = absurd (true≢false (sym e ∙ leaf_calls_not o q))
    by false q = refl

call_reads : (b call q : Bool) → call ≡ true → (b || (call || q)) ≡ true
call_reads true call q e = refl
call_reads false true q e = refl
call_reads false false q e = absurd (true≢false (sym e))

fade_lost : (u : Use) → fade u ≡ Lost → (u ≡ Lost) ⊎ (u ≡ Now)
fade_lost Lost e = inl refl
fade_lost Now e = inr refl
fade_lost Stable e = let no : ⊥ = cc in absurd no

fade_now : (u : Use) → fade u ≡ Now → ⊥
fade_now Lost e = cc
fade_now Now e = cc
fade_now Stable e = cc

abbrev Fit : ℕ → Bool → Bool → Use → Type 0
Fit c l r u = (u ≡ Lost → c ≡ 0) × (u ≡ Now → l ≡ false) × (r ≡ false → u ≡ Stable)

-- behind an act
behind : (b : Bool) (k c : ℕ) (l r : Bool) (u : Use) → Fit (k + c) (if b then is_above c else l) r u → Fit c l r (faded b u)
behind true k c l r u h = (
  (λ e. ⊎_elim (λ d. let z = h.0 d in omega (arith, z)) (λ d. above_zero c (h.1 d)) (fade_lost u e)),
  (λ e. absurd (fade_now u e)),
  (λ e. ap fade (h.2 e)),
)
behind false k c l r u h = ((λ e. let z = h.0 e in omega (arith, z)), h.1, h.2)

abbrev pub Fits : List Act → (ℕ → Bool) → (ℕ → Use) → (ℕ → Bool) → Type 0
Fits xs made uses reads = (m : ℕ) → made m ≡ true → Fit (counts xs m) (late xs m) (reads m) (uses m)

-- an operand that is made is usable
operand : (xs : List Act) (made : ℕ → Bool) (uses : ℕ → Use) (reads : ℕ → Bool) → Fits xs made uses reads → (m : ℕ) → made m ≡ true → 0 < counts xs m → IsUsable (uses m)
operand xs made uses reads fits m is c = usable_not (uses m) (λ e. let z = (fits m is).0 e in omega (arith, z, c))

operands_usable : (k : Kids) (xs : List Act) (rest : ℕ → ℕ) (made : ℕ → Bool) (uses : ℕ → Use) (reads : ℕ → Bool) → Fits xs made uses reads → ((m : ℕ) → counts xs m ≡ in_kids k m + rest m) → AllKids (λ m. made m ≡ true) k → AllKids (λ m. IsUsable (uses m)) k
operands_usable Zero xs rest made uses reads fits is h = tt
operands_usable (One a) xs rest made uses reads fits is h = operand xs made uses reads fits a h (let z = is a in let y = hit a in omega (arith, z, y))
operands_usable (Two a c) xs rest made uses reads fits is h = (
  operand xs made uses reads fits a h.0 (let z = is a in let y = hit a in omega (arith, z, y)),
  operand xs made uses reads fits c h.1 (let z = is c in let y = hit c in omega (arith, z, y)),
)

kept_fit : (w : Bool) (x : Parts) (t c : ℕ) (l r : Bool) (f : Room → Temporary) (u : Use) → (w ≡ false → Fit c l r u) → Fit c l (not w && r) (kept_use (kept_by f (room_by w x t)) u)
kept_fit true x t c l r f u h = ((λ e. let no : ⊥ = cc in absurd no), (λ e. let no : ⊥ = cc in absurd no), (λ e. refl))
kept_fit false x t c l r f u h = h refl

made_so : (w : Bool) (x : Parts) (t : ℕ) (f : Room → Temporary) (u : Use) → IsUsable u → IsMade u (kept_by f (room_by w x t))
made_so true x t f u h = h
made_so false x t f u h = tt

module _ (f : Room → Temporary) where
  handing_is : (call w : Bool) (x : Parts) (t : ℕ) → is_handing call (kept_by f (room_by w x t)) ≡ true → (call ≡ true) × (w ≡ false)
  handing_is true true x t e = absurd (true≢false (sym e))
  handing_is true false x t e = (refl, refl)
  handing_is false w x t e = absurd (true≢false (sym e))

  no_call : (call w : Bool) (x : Parts) (t : ℕ) → w ≡ false → is_handing call (kept_by f (room_by w x t)) ≡ false → call ≡ false
  no_call true true x t e h = absurd (true≢false e)
  no_call true false x t e h = absurd (true≢false h)
  no_call false w x t e h = refl

  abbrev AllHold : List Act → Type 0
  AllHold xs = (made : ℕ → Bool) (uses : ℕ → Use) (reads : ℕ → Bool) (t : ℕ) (kept : ℕ → Option Room) → ((m : ℕ) → made m ≡ false → kept m ≡ chosen xs reads t m) → AreOnce xs made → AreReady xs (λ m. made m ≡ true) → AreUsed xs → Fits xs made uses reads → Holds (λ m. kept_by f (kept m)) xs uses

  -- behind a call that is handed
  abbrev AllTake : List Act → Type 0
  AllTake xs = (n : ℕ) (made : ℕ → Bool) (uses : ℕ → Use) (reads : ℕ → Bool) (t : ℕ) (kept : ℕ → Option Room) → is_handed xs n ≡ true → reads n ≡ true → ((m : ℕ) → at made n true m ≡ false → kept m ≡ chosen xs reads t m) → AreOnce xs (at made n true) → AreReady xs (λ m. at made n true m ≡ true) → AreUsed xs
      → ((m : ℕ) → (m ≡ n → ⊥) → made m ≡ true → Fit (counts xs m) (late xs m) (reads m) (fade (uses m))) → HoldsBehind (Some n) (λ m. kept_by f (kept m)) xs uses

  made_holds : (n : ℕ) (x : Parts) (as' : List Act) → AllHold as' → AllTake as' → AllHold (Made n x ∷ as')
  made_holds n x as' rest take made uses reads t kept same once ready used_ fits =
      subst (λ k. HoldsMade (is_handing (is_call x.operator.op) (kept_by f k))
      (IsUsable (kids_use uses x.kids) × HoldsBehind (Some n) (λ m. kept_by f (kept m)) as' uses)
      (IsMade (kids_use uses x.kids) (kept_by f k) × Holds (λ m. kept_by f (kept m)) as' (at (λ m. faded (is_call x.operator.op) (uses m)) n (kept_use (kept_by f k) (read_use (is_read x.operator.op) (kids_use uses x.kids))))))
      (sym (same n once.0 ∙ at_new (chosen as' reads' (next_by w t)) n (room_by w x t)))
      (by (is_handing (is_call x.operator.op) (kept_by f (room_by w x t))) refl)
    where
      w : Bool
      w = is_wanted as' reads n x

      r : Bool
      r = reads_by reads x

      u : Use
      u = read_use (is_read x.operator.op) (kids_use uses x.kids)

      made' : ℕ → Bool
      made' = at made n true

      reads' : ℕ → Bool
      reads' = at reads n (not w && r)

      uses' : ℕ → Use
      uses' = at (λ m. faded (is_call x.operator.op) (uses m)) n (kept_use (kept_by f (room_by w x t)) u)

      usable : IsUsable (kids_use uses x.kids)
      usable = kids_usable uses x.kids (operands_usable x.kids (Made n x ∷ as') (counts as') made uses reads fits (λ m. refl) ready.0)

      not_made : (m : ℕ) → made' m ≡ false → (m ≡ n → ⊥) × (made m ≡ false)
      not_made m is = let ne : m ≡ n → ⊥ = λ e. true≢false (sym (ap made' e ∙ at_new made n true) ∙ is) in (ne, sym (at_old made n true m ne) ∙ is)

      same_behind : (m : ℕ) → made' m ≡ false → kept m ≡ chosen as' reads' (next_by w t) m
      same_behind m is = let o = not_made m is in same m o.1 ∙ at_old (chosen as' reads' (next_by w t)) n (room_by w x t) m o.0

      ready_to : (xs : List Act) → AreReady xs (λ m. (made m ≡ true) ⊎ (m ≡ n)) → AreReady xs (λ m. made' m ≡ true)
      ready_to xs h = ready_map xs (λ m. (made m ≡ true) ⊎ (m ≡ n)) (λ m. made' m ≡ true) (λ m. ⊎_elim
          (λ e. ⊎_elim (λ q. ap made' q ∙ at_new made n true) (λ q. at_old made n true m q ∙ e) (cases_eq m n))
          (λ q. ap made' q ∙ at_new made n true)) h

      -- the nodes before
      old : (m : ℕ) → made m ≡ true → Fit (counts as' m) (late as' m) (reads m) (faded (is_call x.operator.op) (uses m))
      old m is = behind (is_call x.operator.op) (in_kids x.kids m) (counts as' m) (late as' m) (reads m) (uses m) (fits m is)

      own : is_handing (is_call x.operator.op) (kept_by f (room_by w x t)) ≡ false → w ≡ false → Fit (counts as' n) (late as' n) r u
      own stays e = (
        (λ d. absurd (usable_is u (read_usable (is_read x.operator.op) (kids_use uses x.kids) usable) d)),
        (λ d. not_late (is_computed x) r refl refl d),
        stable,
      )
        where
          stable : r ≡ false → u ≡ Stable
          stable d = node_stable uses reads x (kids_map (λ m. made m ≡ true) (λ m. reads m ≡ false → uses m ≡ Stable) x.kids (λ m is. (fits m is).2) ready.0) d

          now_stable : u ≡ Now → u ≡ Stable → ⊥
          now_stable a b = let no : ⊥ = cc in no

          not_late : (comp q : Bool) → is_computed x ≡ comp → r ≡ q → u ≡ Now → late as' n ≡ false
          not_late false q c d now = absurd (now_stable now (stable (plain_reads reads x c)))
          not_late true false c d now = absurd (now_stable now (stable d))
          not_late true true c d now =
              unwanted (is_computed x) (is_call x.operator.op) (is_handed as' n) (late as' n) (counts as' n) used_.0 c (no_call (is_call x.operator.op) w x t e stays)
              (sym (ap (λ z. is_computed x && (if is_call x.operator.op then not (is_handed as' n) else is_needed (times_of (counts as' n)) (late as' n && z))) d) ∙ e)

      fits' : is_handing (is_call x.operator.op) (kept_by f (room_by w x t)) ≡ false → Fits as' made' uses' reads'
      fits' stays m is = ⊎_elim
          (λ q. subst (λ z. Fit (counts as' z) (late as' z) (reads' z) (uses' z)) (sym q)
          (subst (λ z. Fit (counts as' n) (late as' n) z (uses' n)) (sym (at_new reads n (not w && r)))
          (subst (λ z. Fit (counts as' n) (late as' n) (not w && r) z) (sym (at_new (λ m. faded (is_call x.operator.op) (uses m)) n (kept_use (kept_by f (room_by w x t)) u)))
          (kept_fit w x t (counts as' n) (late as' n) r f u (own stays)))))
          (λ q. subst (λ z. Fit (counts as' m) (late as' m) z (uses' m)) (sym (at_old reads n (not w && r) m q))
          (subst (λ z. Fit (counts as' m) (late as' m) (reads m) z) (sym (at_old (λ m. faded (is_call x.operator.op) (uses m)) n (kept_use (kept_by f (room_by w x t)) u) m q))
          (old m (sym (at_old made n true m q) ∙ is))))
          (cases_eq m n)

      taken : is_call x.operator.op ≡ true → w ≡ false → HoldsBehind (Some n) (λ m. kept_by f (kept m)) as' uses
      taken call e = take n made uses reads' (next_by w t) kept
          (unkept_call (is_computed x) (is_call x.operator.op) (is_handed as' n) (is_needed (times_of (counts as' n)) (late as' n && r)) (call_computed x.operator.op (has_kids x.kids) call) call e)
          (at_new reads n (not w && r) ∙ ap (λ z. not z && r) e ∙ call_reads (is_read x.operator.op) (is_call x.operator.op) (kids_read reads x.kids) call)
          same_behind once.1 (ready_to as' ready.1) used_.1
          (λ m ne is. subst (λ z. Fit (counts as' m) (late as' m) z (fade (uses m))) (sym (at_old reads n (not w && r) m ne))
          (subst (λ z. Fit (counts as' m) (late as' m) (reads m) (faded z (uses m))) call (old m is)))

      by : (b : Bool) → is_handing (is_call x.operator.op) (kept_by f (room_by w x t)) ≡ b
          → HoldsMade b
          (IsUsable (kids_use uses x.kids) × HoldsBehind (Some n) (λ m. kept_by f (kept m)) as' uses)
          (IsMade (kids_use uses x.kids) (kept_by f (room_by w x t)) × Holds (λ m. kept_by f (kept m)) as' (at (λ m. faded (is_call x.operator.op) (uses m)) n (kept_use (kept_by f (room_by w x t)) (read_use (is_read x.operator.op) (kids_use uses x.kids)))))
      by true h = let e = handing_is (is_call x.operator.op) w x t h in (usable, taken e.0 e.1)
      by false h = (made_so w x t f (kids_use uses x.kids) usable, rest made' uses' reads' (next_by w t) kept same_behind once.1 (ready_to as' ready.1) used_.1 (fits' h))

  acts_hold : (x : Parts) (as' : List Act) → AllHold as' → AllHold (Acts x ∷ as')
  acts_hold x as' rest made uses reads t kept same once ready used_ fits = (
    kids_usable uses x.kids (operands_usable x.kids (Acts x ∷ as') (counts as') made uses reads fits (λ m. refl) ready.0),
    rest made (λ m. faded (is_end x) (uses m)) reads t kept same once ready.1 used_
        (λ m is. behind (is_end x) (in_kids x.kids m) (counts as' m) (late as' m) (reads m) (uses m) (fits m is)),
  )

  acts_take : (x : Parts) (as' : List Act) → AllHold as' → AllTake (Acts x ∷ as')
  acts_take x as' rest n made uses reads t kept handed reads_n same once ready used_ fits =
      let h = and_split (is_last n x.kids) (is_once (times_of (counts (Acts x ∷ as') n))) handed in
      let one : in_kids x.kids n + counts as' n ≡ 1 = once_is (counts (Acts x ∷ as') n) h.1 in (
        takes x.kids (counts as') h.0 one ready.0 usable,
        rest (at made n true) (λ m. faded (is_end x) (at (λ k. fade (uses k)) n Lost m)) reads t kept same once ready.1 used_ (fits' (none_left x.kids (counts as' n) h.0 one)),
      )
    where
      usable : (m : ℕ) → (m ≡ n → ⊥) → made m ≡ true → 0 < in_kids x.kids m + counts as' m → IsUsable (uses m)
      usable m ne is l = usable_not (uses m) (λ e. let z = (fits m ne is).0 (ap fade e) in omega (arith, z, l))

      takes : (k : Kids) (c : ℕ → ℕ) → is_last n k ≡ true → in_kids k n + c n ≡ 1 → AllKids (λ m. at made n true m ≡ true) k → ((m : ℕ) → (m ≡ n → ⊥) → made m ≡ true → 0 < in_kids k m + c m → IsUsable (uses m)) → Takes n uses k
      takes Zero c l one are us = absurd (true≢false (sym l))
      takes (One a) c l one are us = sym (eqb-true n a l)
      takes (Two a b) c l one are us =
          let last : n ≡ b = eqb-true n b l in
          let two : hits n b ≡ 1 = ap (λ z. hits z b) last ∙ hit b in
          let ne : a ≡ n → ⊥ = λ e. let first : hits n a ≡ 1 = ap (λ z. hits z a) (sym e) ∙ hit a in omega (arith, one, first, two) in
          (sym last, ne, us a ne (sym (at_old made n true a ne) ∙ are.0) (let y = hit a in omega (arith, y)))

      none_left : (k : Kids) (c : ℕ) → is_last n k ≡ true → in_kids k n + c ≡ 1 → c ≡ 0
      none_left Zero c l one = absurd (true≢false (sym l))
      none_left (One a) c l one = let y : hits n a ≡ 1 = ap (λ z. hits z a) (eqb-true n a l) ∙ hit a in omega (arith, one, y)
      none_left (Two a b) c l one = let y : hits n b ≡ 1 = ap (λ z. hits z b) (eqb-true n b l) ∙ hit b in omega (arith, one, y)

      lost : (b : Bool) → faded b Lost ≡ Lost
      lost true = refl
      lost false = refl

      fits' : counts as' n ≡ 0 → Fits as' (at made n true) (λ m. faded (is_end x) (at (λ k. fade (uses k)) n Lost m)) reads
      fits' none m is = ⊎_elim
          (λ q. subst (λ z. Fit (counts as' z) (late as' z) (reads z) (faded (is_end x) (at (λ k. fade (uses k)) n Lost z))) (sym q)
          (subst (λ z. Fit (counts as' n) (late as' n) (reads n) z) (sym (ap (faded (is_end x)) (at_new (λ k. fade (uses k)) n Lost) ∙ lost (is_end x)))
          ((λ e. none), (λ e. let no : ⊥ = cc in absurd no), (λ e. absurd (true≢false (sym reads_n ∙ e))))))
          (λ q. subst (λ z. Fit (counts as' m) (late as' m) (reads m) (faded (is_end x) z)) (sym (at_old (λ k. fade (uses k)) n Lost m q))
          (behind (is_end x) (in_kids x.kids m) (counts as' m) (late as' m) (reads m) (fade (uses m)) (fits m q (sym (at_old made n true m q) ∙ is))))
          (cases_eq m n)

  both : (xs : List Act) → AllHold xs × AllTake xs
  both [] = (λ made uses reads t kept same once ready used_ fits. tt, λ n made uses reads t kept handed reads_n same once ready used_ fits. absurd (true≢false (sym handed)))
  both (Made n x ∷ as') = (made_holds n x as' (both as').0 (both as').1, λ m made uses reads t kept handed reads_n same once ready used_ fits. absurd (true≢false (sym handed)))
  both (Acts x ∷ as') = (acts_hold x as' (both as').0, acts_take x as' (both as').0)

  pub holds_from : (xs : List Act) → AllHold xs
  holds_from xs = (both xs).0
