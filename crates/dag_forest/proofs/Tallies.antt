-- What a block keeps beside its entries, with one entry more.
use Rattle.std.proofs.Common.{◌≡◌, ℕ, suc, ◌+◌, ◌≤◌, Bool, true, false, Some, List, [], ◌∷◌, ◌++◌, length, inl, inr, refl, sym, ap, ◌∙◌, arith, length-append, if◌then◌else◌, subst, fold}
use mir.Val.{bool_byte}
use Rattle.std.proofs.lemmas.List.Sums.{fold-append}
use Rattle.dag_forest.specs.declared.entry.Entry.{Entry}
use Rattle.dag_forest.specs.declared.entry.Entry.TheVariants.{Value, Root}
use Rattle.dag_forest.specs.declared.key.Key.{Key}
use Rattle.dag_forest.specs.declared.parts.Parts.{Parts}
use Rattle.dag_forest.specs.declared.kids.Kids.{Kids}
use Rattle.dag_forest.specs.Entries.{AreBelow}
use Rattle.dag_forest.specs.Keys.{key_at}
use Rattle.dag_forest.specs.Tally.{Tally, none, with_entry, tally, AreFormed, node_count, keys_of, key_behind, ends, holds_call, AreDistinct, IsFresh, IsTallied}
use Rattle.dag_forest.proofs.lemmas.Listed.{snoc_cases}

pub tally_snoc : (es : List Entry) (e : Entry) → tally (es ++ e ∷ []) ≡ with_entry (tally es) e
tally_snoc es e = fold-append with_entry none es (e ∷ [])

distinct_snoc : (ks : List Key) (k : Key) → AreDistinct ks → IsFresh ks k → AreDistinct (ks ++ k ∷ [])
distinct_snoc ks k d f i j q a b =
    elim (snoc_cases ks k q i a) [
      | inl x ↦ elim (snoc_cases ks k q j b) [ inl y ↦ d i j q x y | inr y ↦ absurd (f i (x ∙ ap Some (sym y.1))) ]
      | inr x ↦ elim (snoc_cases ks k q j b) [ inl y ↦ absurd (f j (y ∙ ap Some (sym x.1))) | inr y ↦ x.0 ∙ sym y.0 ]
    ]

-- ---- operands are earlier nodes

counted : (es : List Entry) (t : Tally) → length (fold with_entry t es).keys ≡ length t.keys + node_count es
counted [] t = omega arith
counted (Value x ∷ es) t = let h = counted es (with_entry t (Value x)) in let e = length-append t.keys (key_at t.stretch (length t.keys) x ∷ []) in omega (arith, h, e)
counted (Root x ∷ es) t = counted es (with_entry t (Root x))

count_value : (es : List Entry) (x : Parts) → node_count (es ++ Value x ∷ []) ≡ node_count es + 1
count_value [] x = refl
count_value (Value y ∷ es) x = let h = count_value es x in omega (arith, h)
count_value (Root y ∷ es) x = count_value es x

count_root : (es : List Entry) (x : Parts) → node_count (es ++ Root x ∷ []) ≡ node_count es
count_root [] x = refl
count_root (Value y ∷ es) x = let h = count_root es x in omega (arith, h)
count_root (Root y ∷ es) x = count_root es x

below_at : (n p : ℕ) (k : Kids) → n ≡ p → AreBelow n k → AreBelow p k
below_at n p k e h = subst (λ z. AreBelow z k) e h

formed_value : (es : List Entry) (n : ℕ) (x : Parts) → AreFormed es n → AreBelow (n + node_count es) x.kids → AreFormed (es ++ Value x ∷ []) n
formed_value [] n x f h = (below_at (n + 0) n x.kids (omega arith) h, tt)
formed_value (Value y ∷ es) n x f h = (f.0, formed_value es (suc n) x f.1 (below_at (n + suc (node_count es)) (suc n + node_count es) x.kids (omega arith) h))
formed_value (Root y ∷ es) n x f h = (f.0, formed_value es n x f.1 h)

formed_root : (es : List Entry) (n : ℕ) (x : Parts) → AreFormed es n → AreBelow (n + node_count es) x.kids → AreFormed (es ++ Root x ∷ []) n
formed_root [] n x f h = (below_at (n + 0) n x.kids (omega arith) h, tt)
formed_root (Value y ∷ es) n x f h = (f.0, formed_root es (suc n) x f.1 (below_at (n + suc (node_count es)) (suc n + node_count es) x.kids (omega arith) h))
formed_root (Root y ∷ es) n x f h = (f.0, formed_root es n x f.1 h)

at_most_one : (b : Bool) → (if b then 1 else 0) ≤ 1
at_most_one true = omega arith
at_most_one false = omega arith

module _ (es : List Entry) (ks : List Key) (calling : List Bool) (s : ℕ) (t : IsTallied es ks calling s) where
  pub tallied_value : (x : Parts) → AreBelow (length ks) x.kids → IsFresh ks (key_at s (length ks) x) → IsTallied (es ++ Value x ∷ []) (ks ++ key_at s (length ks) x ∷ []) (calling ++ holds_call calling x ∷ []) s
  tallied_value x below fresh =
      let e = tally_snoc es (Value x) in
      let nodes : length calling ≡ length ks = t.nodes in
      let few : length ks + s ≤ length es = t.few in
      record {
        keyed = (λ i. t.keyed i ++ key_at (t.counted i) (length (t.keyed i)) x ∷ []) ∙ ap (λ (u : Tally). u.keys) (sym e);
        marked = (λ i. t.marked i ++ holds_call (t.marked i) x ∷ []) ∙ ap (λ (u : Tally). u.calling) (sym e);
        counted = t.counted ∙ ap (λ (u : Tally). u.stretch) (sym e);
        nodes = omega (arith, length-append calling (holds_call calling x ∷ []), length-append ks (key_at s (length ks) x ∷ []));
        few = omega (arith, length-append ks (key_at s (length ks) x ∷ []), length-append es (Value x ∷ []));
        distinct = distinct_snoc ks (key_at s (length ks) x) t.distinct fresh;
        formed = formed_value es 0 x t.formed (below_at (length ks) (0 + node_count es) x.kids (let n = t.named in omega (arith, n)) below);
        named = let n = t.named in omega (arith, n, count_value es x, length-append ks (key_at s (length ks) x ∷ []));
      }

  pub tallied_root : (x : Parts) → AreBelow (length ks) x.kids → IsTallied (es ++ Root x ∷ []) ks calling (s + (if ends calling x then 1 else 0))
  tallied_root x below =
      let e = tally_snoc es (Root x) in
      let few : length ks + s ≤ length es = t.few in
      record {
        keyed = t.keyed ∙ ap (λ (u : Tally). u.keys) (sym e);
        marked = t.marked ∙ ap (λ (u : Tally). u.calling) (sym e);
        counted = (λ i. t.counted i + (if ends (t.marked i) x then 1 else 0)) ∙ ap (λ (u : Tally). u.stretch) (sym e);
        nodes = t.nodes;
        few = omega (arith, at_most_one (ends calling x), length-append es (Root x ∷ []));
        distinct = t.distinct;
        formed = formed_root es 0 x t.formed (below_at (length ks) (0 + node_count es) x.kids (let n = t.named in omega (arith, n)) below);
        named = t.named ∙ sym (count_root es x);
      }

  -- the key of a node behind the entries
  pub key_here : (x : Parts) → key_at s (length ks) x ≡ key_behind es x
  key_here x = λ i. key_at (t.counted i) (length (t.keyed i)) x

  pub keys_here : AreDistinct (keys_of es)
  keys_here = subst AreDistinct t.keyed t.distinct

-- a node is added
pub grown_value : (es : List Entry) (ks : List Key) (calling : List Bool) (s : ℕ) (x : Parts) (new : List Entry) (keys : List Key) (calls : List Bool) → IsTallied es ks calling s → AreBelow (length ks) x.kids
    → IsFresh ks (key_at s (length ks) x) → new ≡ es ++ Value x ∷ [] → keys ≡ ks ++ key_at s (length ks) x ∷ [] → calls ≡ calling ++ holds_call calling x ∷ [] → IsTallied new keys calls s
grown_value es ks calling s x new keys calls t below fresh a b d =
    subst (λ u. IsTallied u keys calls s) (sym a) (subst (λ u. IsTallied (es ++ Value x ∷ []) u calls s) (sym b)
    (subst (λ u. IsTallied (es ++ Value x ∷ []) (ks ++ key_at s (length ks) x ∷ []) u s) (sym d) (tallied_value es ks calling s t x below fresh)))

-- a root is added
pub grown_root : (es : List Entry) (ks : List Key) (calling : List Bool) (s : ℕ) (x : Parts) (new : List Entry) (stretch : ℕ) → IsTallied es ks calling s → AreBelow (length ks) x.kids
    → new ≡ es ++ Root x ∷ [] → stretch ≡ s + (if ends calling x then 1 else 0) → IsTallied new ks calling stretch
grown_root es ks calling s x new stretch t below a b =
    subst (λ u. IsTallied u ks calling stretch) (sym a) (subst (λ u. IsTallied (es ++ Root x ∷ []) ks calling u) (sym b) (tallied_root es ks calling s t x below))

pub byte_is : (b : Bool) → bool_byte b ≡ (if b then 1 else 0)
byte_is true = refl
byte_is false = refl
