-- The keys of a block's nodes, as it grows.
use Rattle.std.proofs.Common.{◌≡◌, ⊎_elim, ℕ, zero, suc, ◌+◌, ◌<◌, ◌≤◌, Bool, true, false, true≢false, Some, None, List, [], ◌∷◌, ◌++◌, length, slice_get, inl, inr, refl, sym, ap, ◌∙◌, subst, arith, length-append}
use Rattle.std.proofs.lemmas.Option.{none-some}
use Rattle.std.specs.Prelude.{◌⊎◌, ◌==◌, fold, get_or, if◌then◌else◌}
use Rattle.std.proofs.Math.Seq.{get_or-append_seam}
use Rattle.std.proofs.lemmas.Bool.{eqb-true}
use Rattle.dag_seam.proofs.lemmas.Within.{or_true, or_left, or_right}
use Rattle.std.proofs.lemmas.List.Sums.{fold-append}
use Rattle.op_forest.specs.declared.op.Op.{Op}
use Rattle.op_forest.specs.declared.op.Op.TheVariants as op
use Rattle.dag_forest.specs.declared.entry.Entry.{Entry}
use Rattle.dag_forest.specs.declared.entry.Entry.TheVariants.{Value, Root}
use Rattle.dag_forest.specs.declared.key.Key.{Key}
use Rattle.dag_forest.specs.declared.kids.Kids.{Kids}
use Rattle.dag_forest.specs.declared.kids.Kids.TheVariants.{Zero, One, Two}
use Rattle.dag_forest.specs.declared.parts.Parts.{Parts}
use Rattle.dag_forest.specs.Entries.{AreBelow, is_call, is_read, is_write}
use Rattle.dag_forest.specs.Keys.{key_at, mark_of}
use Rattle.dag_forest.specs.Schedules.{is_in, kids_list}
use Rattle.dag_forest.specs.Tally.{holds_call, kids_call, Tally, with_entry, none, tally, keys_of, key_behind, AreFormed, node_count, ends}

pub tally_value : (es : List Entry) (x : Parts) → tally (es ++ Value x ∷ []) ≡ with_entry (tally es) (Value x)
tally_value es x = fold-append with_entry none es (Value x ∷ [])

pub tally_root : (es : List Entry) (x : Parts) → tally (es ++ Root x ∷ []) ≡ with_entry (tally es) (Root x)
tally_root es x = fold-append with_entry none es (Root x ∷ [])

pub keys_value : (es : List Entry) (x : Parts) → keys_of (es ++ Value x ∷ []) ≡ keys_of es ++ key_behind es x ∷ []
keys_value es x = ap (λ (t : Tally). t.keys) (tally_value es x)

pub keys_root : (es : List Entry) (x : Parts) → keys_of (es ++ Root x ∷ []) ≡ keys_of es
keys_root es x = ap (λ (t : Tally). t.keys) (tally_root es x)

pub stretch_value : (es : List Entry) (x : Parts) → (tally (es ++ Value x ∷ [])).stretch ≡ (tally es).stretch
stretch_value es x = ap (λ (t : Tally). t.stretch) (tally_value es x)

pub stretch_root : (es : List Entry) (x : Parts) → (tally (es ++ Root x ∷ [])).stretch ≡ (tally es).stretch + (if ends (tally es).calling x then 1 else 0)
stretch_root es x = ap (λ (t : Tally). t.stretch) (tally_root es x)

-- one of a list with one more at its end
pub last_get : {X : Type 0} (xs : List X) (y : X) (m : ℕ) (k : X) → slice_get (xs ++ y ∷ []) m ≡ Some k → (slice_get xs m ≡ Some k) ⊎ ((m ≡ length xs) × (y ≡ k))
last_get [] y zero k e = let q : y ≡ k = cc in inr (refl, q)
last_get [] y (suc m) k e = inl e
last_get (x ∷ xs) y zero k e = inl e
last_get (x ∷ xs) y (suc m) k e = ⊎_elim (λ q. inl q) (λ q. inr (ap suc q.0, q.1)) (last_get xs y m k e)

-- ---- what all keys keep

-- no read has a mark behind the open stretch, and the operands of each node are earlier ones
pub record AreMarked (t : Tally) : Type 0 where
  pub marks : (m : ℕ) (k : Key) → slice_get t.keys m ≡ Some k → is_read k.parts.operator.op ≡ true → k.mark ≤ t.stretch

pub read_mark : (o : Op) (stretch count : ℕ) → is_read o ≡ true → mark_of o stretch count ≡ stretch
read_mark op.Indir stretch count h = refl
read_mark o stretch count h = absurd (true≢false (sym h))

marked_value : (t : Tally) (x : Parts) → AreMarked t → AreMarked (with_entry t (Value x))
marked_value t x h = record {
  marks = λ m k is r. ⊎_elim
      (λ q. h.marks m k q r)
      (λ q. let e : mark_of x.operator.op t.stretch (length t.keys) ≡ t.stretch = read_mark x.operator.op t.stretch (length t.keys) (ap (λ (z : Key). is_read z.parts.operator.op) q.1 ∙ r) in
      let d : mark_of x.operator.op t.stretch (length t.keys) ≡ k.mark = ap (λ (z : Key). z.mark) q.1 in omega (arith, d, e))
      (last_get t.keys (key_at t.stretch (length t.keys) x) m k is);
}

marked_root : (t : Tally) (x : Parts) → AreMarked t → AreMarked (with_entry t (Root x))
marked_root t x h = record { marks = λ m k is r. let l = h.marks m k is r in omega (arith, l) }

all_marked : (es : List Entry) (t : Tally) → AreMarked t → AreMarked (fold with_entry t es)
all_marked [] t h = h
all_marked (Value x ∷ es) t h = all_marked es (with_entry t (Value x)) (marked_value t x h)
all_marked (Root x ∷ es) t h = all_marked es (with_entry t (Root x)) (marked_root t x h)

pub are_marked : (es : List Entry) → AreMarked (tally es)
are_marked es = all_marked es none (record { marks = λ m k is r. absurd (none-some k is) })

count_from : (es : List Entry) (t : Tally) → length (fold with_entry t es).keys ≡ length t.keys + node_count es
count_from [] t = omega arith
count_from (Value x ∷ es) t = let h = count_from es (with_entry t (Value x)) in let e = length-append t.keys (key_at t.stretch (length t.keys) x ∷ []) in omega (arith, h, e)
count_from (Root x ∷ es) t = count_from es (with_entry t (Root x))

pub count_keys : (es : List Entry) → length (keys_of es) ≡ node_count es
count_keys es = let h : length (keys_of es) ≡ 0 + node_count es = count_from es none in omega (arith, h)

abbrev AreEarlier : List Key → Type 0
AreEarlier keys = (m : ℕ) (k : Key) → slice_get keys m ≡ Some k → AreBelow m k.parts.kids

earlier_from : (es : List Entry) (t : Tally) → AreFormed es (length t.keys) → AreEarlier t.keys → AreEarlier (fold with_entry t es).keys
earlier_from [] t formed h = h
earlier_from (Value x ∷ es) t formed h = earlier_from es (with_entry t (Value x))
    (let e : length (t.keys ++ key_at t.stretch (length t.keys) x ∷ []) ≡ length t.keys + 1 = length-append t.keys (key_at t.stretch (length t.keys) x ∷ []) in
    let d : suc (length t.keys) ≡ length (t.keys ++ key_at t.stretch (length t.keys) x ∷ []) = omega (arith, e) in subst (λ z. AreFormed es z) d formed.1)
    (λ m k is. ⊎_elim (λ q. h m k q) (λ q. subst (λ z. AreBelow z k.parts.kids) (sym q.0) (subst (λ (z : Key). AreBelow (length t.keys) z.parts.kids) q.1 formed.0)) (last_get t.keys (key_at t.stretch (length t.keys) x) m k is))
earlier_from (Root x ∷ es) t formed h = earlier_from es (with_entry t (Root x)) formed.1 h

pub are_earlier : (es : List Entry) → AreFormed es 0 → (m : ℕ) (k : Key) → slice_get (keys_of es) m ≡ Some k → AreBelow m k.parts.kids
are_earlier es formed = earlier_from es none formed (λ m k is. absurd (none-some k is))

pub within : {X : Type 0} (xs : List X) (m : ℕ) (k : X) → slice_get xs m ≡ Some k → m < length xs
within [] m k e = absurd (none-some k e)
within (x ∷ xs) zero k e = omega arith
within (x ∷ xs) (suc m) k e = let h = within xs m k e in omega (arith, h)

-- ---- calls at and below nodes

calling_from : (es : List Entry) (t : Tally) → length (fold with_entry t es).calling ≡ length t.calling + node_count es
calling_from [] t = omega arith
calling_from (Value x ∷ es) t = let h = calling_from es (with_entry t (Value x)) in let e = length-append t.calling (holds_call t.calling x ∷ []) in omega (arith, h, e)
calling_from (Root x ∷ es) t = calling_from es (with_entry t (Root x))

called_in : (calling : List Bool) (n : ℕ) (k : Kids) → get_or calling n false ≡ true → is_in n (kids_list k) ≡ true → kids_call calling k ≡ true
called_in calling n Zero h i = absurd (true≢false (sym i))
called_in calling n (One a) h i = ⊎_elim (λ e. ap (λ m. get_or calling m false) (sym (eqb-true n a e)) ∙ h) (λ e. absurd (true≢false (sym e))) (or_true (n == a) false i)
called_in calling n (Two a c) h i = ⊎_elim
    (λ e. or_left (get_or calling a false) (get_or calling c false) (ap (λ m. get_or calling m false) (sym (eqb-true n a e)) ∙ h))
    (λ e. ⊎_elim (λ q. or_right (get_or calling a false) (get_or calling c false) (ap (λ m. get_or calling m false) (sym (eqb-true n c q)) ∙ h)) (λ q. absurd (true≢false (sym q))) (or_true (n == c) false e))
    (or_true (n == a) (is_in n (c ∷ [])) i)

-- a root that uses a call ends the stretch
pub call_ends : (es : List Entry) (c a : Parts) → is_call c.operator.op ≡ true → is_in (node_count es) (kids_list a.kids) ≡ true → ends (tally (es ++ Value c ∷ [])).calling a ≡ true
call_ends es c a calls within =
    let calling = (tally (es ++ Value c ∷ [])).calling in
    let count : length (tally es).calling ≡ 0 + node_count es = calling_from es none in
    let here : length (tally es).calling ≡ node_count es = omega (arith, count) in
    let got : get_or calling (node_count es) false ≡ true =
    ap (λ (t : Tally). get_or t.calling (node_count es) false) (tally_value es c)
    ∙ ap (λ m. get_or ((tally es).calling ++ holds_call (tally es).calling c ∷ []) m false) (sym here)
    ∙ get_or-append_seam (tally es).calling (holds_call (tally es).calling c) [] false
    ∙ or_left (is_call c.operator.op) (kids_call (tally es).calling c.kids) calls in
    or_right (is_write a.operator.op) (holds_call calling a) (or_right (is_call a.operator.op) (kids_call calling a.kids) (called_in calling (node_count es) a.kids got within))
