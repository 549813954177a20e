-- Blocks that are formed and fit, as they grow.
use Rattle.std.proofs.Common.{◌≡◌, ℕ, suc, ◌+◌, ◌<◌, ℤ, Option, Some, None, List, [], ◌∷◌, ◌++◌, length, slice_get, ap, ◌∙◌, subst, arith, length-append}
use Rattle.std.specs.Prelude.{IsSomeAnd}
use Rattle.std.proofs.lemmas.List.{get_or_append_left}
use Rattle.op_forest.specs.declared.frame.Slot.{Slot}
use Rattle.op_forest.specs.declared.suffix.Suffix.{Suffix}
use Rattle.op_forest.specs.Signature.{takes}
use Rattle.forests.specs.WellFormed.{LiesInOne}
use Rattle.dag_forest.specs.declared.entry.Entry.{Entry}
use Rattle.dag_forest.specs.declared.entry.Entry.TheVariants.{Value, Root}
use Rattle.dag_forest.specs.declared.key.Key.{Key}
use Rattle.dag_forest.specs.declared.kids.Kids.{Kids}
use Rattle.dag_forest.specs.declared.kids.Kids.TheVariants.{Zero, One, Two}
use Rattle.dag_forest.specs.declared.parts.Parts.{Parts}
use Rattle.dag_forest.specs.Entries.{AreBelow}
use Rattle.dag_forest.specs.Tally.{AreDistinct, AreFormed, keys_of, key_behind, node_count}
use Rattle.dag_seam.specs.Fitting.{Gives, AreGiven, Fits, FitsNode, FitsBlock}
use Rattle.dag_seam.specs.Rooms.{AreEntries}
use Rattle.dag_seam.proofs.lemmas.Acts.{entries_map, get_left, get_last}
use Rattle.dag_seam.proofs.lemmas.Keys.{keys_value, keys_root, count_keys}

formed_append : (es fs : List Entry) (n : ℕ) → AreFormed es n → AreFormed fs (n + node_count es) → AreFormed (es ++ fs) n
formed_append [] fs n h g = let e : n + 0 ≡ n = omega arith in subst (λ k. AreFormed fs k) e g
formed_append (Value x ∷ es) fs n h g = (h.0, formed_append es fs (suc n) h.1 (let e : n + suc (node_count es) ≡ suc n + node_count es = omega arith in subst (λ k. AreFormed fs k) e g))
formed_append (Root x ∷ es) fs n h g = (h.0, formed_append es fs n h.1 g)

pub formed_goes_on : (es : List Entry) → AreFormed es 0 → (x : Parts) → AreBelow (node_count es) x.kids → AreFormed (es ++ Value x ∷ []) 0 × AreFormed (es ++ Root x ∷ []) 0
formed_goes_on es formed x below =
    let e : node_count es ≡ 0 + node_count es = omega arith in
    let b = subst (λ k. AreBelow k x.kids) e below in
    (formed_append es (Value x ∷ []) 0 formed (b, tt), formed_append es (Root x ∷ []) 0 formed (b, tt))

pub new_is_last : (es : List Entry) (x : Parts) (n : ℕ) → AreDistinct (keys_of (es ++ Value x ∷ [])) → slice_get (keys_of (es ++ Value x ∷ [])) n ≡ Some (key_behind es x) → n ≡ node_count es
new_is_last es x n distinct is =
    let last : slice_get (keys_of (es ++ Value x ∷ [])) (length (keys_of es)) ≡ Some (key_behind es x) = ap (λ z. slice_get z (length (keys_of es))) (keys_value es x) ∙ get_last (keys_of es) (key_behind es x) in
    distinct n (length (keys_of es)) (key_behind es x) is last ∙ count_keys es

-- ---- what fits

entries_append : (P : ℕ → Parts → Type 0) (Q : Parts → Type 0) (es fs : List Entry) (n : ℕ) → AreEntries P Q es n → AreEntries P Q fs (n + node_count es) → AreEntries P Q (es ++ fs) n
entries_append P Q [] fs n h g = let e : n + 0 ≡ n = omega arith in subst (λ k. AreEntries P Q fs k) e g
entries_append P Q (Value x ∷ es) fs n h g = (h.0, entries_append P Q es fs (suc n) h.1 (let e : n + suc (node_count es) ≡ suc n + node_count es = omega arith in subst (λ k. AreEntries P Q fs k) e g))
entries_append P Q (Root x ∷ es) fs n h g = (h.0, entries_append P Q es fs n h.1 g)

some_and : (o : Option ℤ) (P Q : ℤ → Type 0) → ((z : ℤ) → P z → Q z) → IsSomeAnd o P → IsSomeAnd o Q
some_and None P Q f h = h
some_and (Some z) P Q f h = f z h

lies_more : (slots more : List Slot) (z : ℤ) → LiesInOne slots z → LiesInOne (slots ++ more) z
lies_more slots more z h =
    let l = h.2 in
    let e = length-append slots more in
    (h.0, h.1, (let q : h.0 < length (slots ++ more) = omega (arith, l, e) in q), get_or_append_left slots more h.1 h.0 l ∙ h.3, h.4)

module _ (keys keys1 : List Key) (slots slots1 : List Slot) (grown : (m : ℕ) (k : Key) → slice_get keys m ≡ Some k → slice_get keys1 m ≡ Some k) (wider : (z : ℤ) → LiesInOne slots z → LiesInOne slots1 z) where
  gives_more : (s : Suffix) (m : ℕ) → Gives keys s m → Gives keys1 s m
  gives_more s m g = record { key = g.key; is = grown m g.key g.is; value = g.value; suffix = g.suffix }

  given_more : (ss : List Suffix) (k : Kids) → AreGiven keys ss k → AreGiven keys1 ss k
  given_more [] Zero h = tt
  given_more (s ∷ []) (One a) h = gives_more s a h
  given_more (s ∷ t ∷ []) (Two a c) h = (gives_more s a h.0, gives_more t c h.1)
  given_more ss k h = absurd h

  fits_more : (x : Parts) → Fits keys slots x → Fits keys1 slots1 x
  fits_more x h = record {
    operator = h.operator;
    part = h.part;
    operands = given_more (takes x.operator.op x.operator.suffix) x.kids h.operands;
    local = λ e. some_and x.constant (LiesInOne slots) (LiesInOne slots1) wider (h.local e);
  }

  node_fits_more : (x : Parts) → FitsNode keys slots x → FitsNode keys1 slots1 x
  node_fits_more x h = record { fits = fits_more x h.fits; value = h.value }

  entries_fit_more : (es : List Entry) (n : ℕ) → AreEntries (λ m x. FitsNode keys slots x) (λ x. Fits keys slots x) es n → AreEntries (λ m x. FitsNode keys1 slots1 x) (λ x. Fits keys1 slots1 x) es n
  entries_fit_more es n h = entries_map (λ m x. FitsNode keys slots x) (λ m x. FitsNode keys1 slots1 x) (λ x. Fits keys slots x) (λ x. Fits keys1 slots1 x) es n (λ m x k. node_fits_more x k) (λ x k. fits_more x k) h

module _ (slots : List Slot) (es : List Entry) (x : Parts) (fits : FitsBlock slots es) where
  key_stays : (m : ℕ) (k : Key) → slice_get (keys_of es) m ≡ Some k → slice_get (keys_of (es ++ Value x ∷ [])) m ≡ Some k
  key_stays m k e = ap (λ z. slice_get z m) (keys_value es x) ∙ get_left (keys_of es) (key_behind es x ∷ []) m k e

  key_same : (m : ℕ) (k : Key) → slice_get (keys_of es) m ≡ Some k → slice_get (keys_of (es ++ Root x ∷ [])) m ≡ Some k
  key_same m k e = ap (λ z. slice_get z m) (keys_root es x) ∙ e

  pub node_fits : FitsNode (keys_of es) slots x → FitsBlock slots (es ++ Value x ∷ [])
  node_fits h = entries_append (λ m y. FitsNode (keys_of (es ++ Value x ∷ [])) slots y) (λ y. Fits (keys_of (es ++ Value x ∷ [])) slots y) es (Value x ∷ []) 0
      (entries_fit_more (keys_of es) (keys_of (es ++ Value x ∷ [])) slots slots key_stays (λ z l. l) es 0 fits)
      (node_fits_more (keys_of es) (keys_of (es ++ Value x ∷ [])) slots slots key_stays (λ z l. l) x h, tt)

  pub root_fits : Fits (keys_of es) slots x → FitsBlock slots (es ++ Root x ∷ [])
  root_fits h = entries_append (λ m y. FitsNode (keys_of (es ++ Root x ∷ [])) slots y) (λ y. Fits (keys_of (es ++ Root x ∷ [])) slots y) es (Root x ∷ []) 0
      (entries_fit_more (keys_of es) (keys_of (es ++ Root x ∷ [])) slots slots key_same (λ z l. l) es 0 fits)
      (fits_more (keys_of es) (keys_of (es ++ Root x ∷ [])) slots slots key_same (λ z l. l) x h, tt)

pub frame_fits : (slots more : List Slot) (es : List Entry) → FitsBlock slots es → FitsBlock (slots ++ more) es
frame_fits slots more es fits = entries_fit_more (keys_of es) (keys_of es) slots (slots ++ more) (λ m k e. e) (lies_more slots more) es 0 fits
