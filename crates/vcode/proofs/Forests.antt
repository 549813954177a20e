-- One root after another.
use Rattle.std.proofs.Common.{◌≡◌, ℕ, zero, suc, ◌+◌, ◌≤◌, ◌<◌, ◌^◌, List, [], ◌∷◌, ◌++◌, map, length, take, get_or, All, Some, refl, sym, ap, ◌∙◌, subst, arith, append_assoc, length-append}
use Rattle.std.specs.Prelude.{slice_get}
use Rattle.std.specs.List.{sum_by}
use Rattle.std.proofs.lemmas.List.{append-nil, take_all, length-map}
use Rattle.std.proofs.lemmas.List.Elements.{All-nil, All-push, All-weaker}
use Rattle.std.proofs.lemmas.List.Sums.{sum_by_push, sum_by_more_le}
use Rattle.std.proofs.lemmas.Option.{slice_get_read, slice_get-map, same_Some, none-some}
use Rattle.std.specs.Option.{option_map}
use Rattle.lburg_model.specs.declared.derivation.Derivation.{Derivation}
use Rattle.lburg_model.specs.declared.rule.Rule.{Rule}
use Rattle.lburg_model.specs.Description.{MDescription}
use Rattle.lburg_model.specs.Derivation.{MDerivation, Derives}
use Rattle.lburg_model.specs.DerivationOf.{derivation_of}
use Rattle.op_forest.specs.Nodes.{Node, value_nodes, tree_of}
use Rattle.vcode.specs.Machines.{Machine}
use Rattle.vcode.specs.VirtualCode.{MCode, NamesBelow, joined, ends_from, IsStretch, IsVirtualCode}
use Rattle.vcode.specs.RuleSets.{row_of, Rules, Obeys}
use Rattle.vcode.specs.Emission.{EmitsRoots, NoRoot, OneRoot, IsLinearised}
use Rattle.vcode.specs.Adding.{Added}
use Rattle.vcode.specs.Roots.{AreDerived, IsQuiet}
use Rattle.vcode.proofs.Agreement.{agrees}
use Rattle.vcode.proofs.Emitting.{take_at}
use Rattle.vcode.proofs.Registers.{takes}
use Rattle.vcode.proofs.Joining.{names_joined, names_wider}
use Rattle.vcode.proofs.Stretches.{stretch, names_taken}

joined_more : {I : Type 0} (ss : List (List I)) (s : List I) → joined (ss ++ s ∷ []) ≡ joined ss ++ s
joined_more [] s = append-nil s
joined_more (c ∷ ss) s = ap (λ l. c ++ l) (joined_more ss s) ∙ sym (append_assoc c (joined ss) s)

ends_more : {I : Type 0} (place : ℕ) (ss : List (List I)) (s : List I) → ends_from place (ss ++ s ∷ []) ≡ ends_from place ss ++ (place + length (joined ss ++ s)) ∷ []
ends_more place [] s = refl
ends_more place (c ∷ ss) s =
    let p = place + length c in
    let l : length (c ++ (joined ss ++ s)) ≡ length c + length (joined ss ++ s) = length-append c (joined ss ++ s) in
    let e : p + length (joined ss ++ s) ≡ place + length (c ++ (joined ss ++ s)) = omega (arith, l) in
    let f : p + length (joined ss ++ s) ≡ place + length ((c ++ joined ss) ++ s) = e ∙ ap (λ z. place + length z) (sym (append_assoc c (joined ss) s)) in
    ap (λ z. p ∷ z) (ends_more p ss s ∙ ap (λ z. ends_from p ss ++ z ∷ []) f)

zipped_at : (d : MDescription) (ts : List Node) (xs : List MDerivation) (k : ℕ) (t : Node) (x : MDerivation) → AreDerived d ts xs → slice_get ts k ≡ Some t → slice_get xs k ≡ Some x → Derives d.rules d.start (tree_of t) x
zipped_at d [] xs k t x h a b = absurd (none-some t a)
zipped_at d (u ∷ ts) [] k t x h a b = absurd h
zipped_at d (u ∷ ts) (y ∷ xs) zero t x h a b =
    subst (λ z. Derives d.rules d.start (tree_of t) z) (same_Some y x b) (subst (λ z. Derives d.rules d.start (tree_of z) y) (same_Some u t a) h.0)
zipped_at d (u ∷ ts) (y ∷ xs) (suc k) t x h a b = zipped_at d ts xs k t x h.1 a b

zipped_length : (d : MDescription) (ts : List Node) (xs : List MDerivation) → AreDerived d ts xs → length xs ≡ length ts
zipped_length d [] [] h = refl
zipped_length d [] (x ∷ xs) h = absurd h
zipped_length d (t ∷ ts) [] h = absurd h
zipped_length d (t ∷ ts) (x ∷ xs) h = ap suc (zipped_length d ts xs h.1)

pub cover_length : (d : MDescription) (ts : List Node) (ds : List Derivation) → AreDerived d ts (map derivation_of ds) → length ds ≡ length ts
cover_length d ts ds h = sym (length-map ds derivation_of) ∙ zipped_length d ts (map derivation_of ds) h

derivation_at : (ds : List Derivation) (k : ℕ) (x : Derivation) → k < length ds → x ≡ get_or ds k x → slice_get (map derivation_of ds) k ≡ Some (derivation_of x)
derivation_at ds k x h is = slice_get-map derivation_of ds k ∙ ap (λ o. option_map derivation_of o) (slice_get_read ds (length ds) k x refl h is)

-- a root and its derivation
pub record Root (rows : List Rule) (start : ℕ) (ts : List Node) (xs : List MDerivation) (k : ℕ) (t : Node) (x : MDerivation) : Type 0 where
  pub node : slice_get ts k ≡ Some t
  pub derivation : slice_get xs k ≡ Some x
  pub derives : Derives rows start (tree_of t) x

pub root_at : (d : MDescription) (rows : List Rule) (start : ℕ) (ts : List Node) (ds : List Derivation) (k : ℕ) (t : Node) (x : Derivation) → rows ≡ d.rules → d.start ≡ start → AreDerived d ts (map derivation_of ds) → k < length ts → t ≡ get_or ts k t → x ≡ get_or ds k x → Root rows start ts (map derivation_of ds) k t (derivation_of x)
root_at d rows start ts ds k t x er es h in' is_t is_x =
    let n : length ds ≡ length ts = cover_length d ts ds h in
    let in_ds : k < length ds = omega (arith, n, in') in
    let a : slice_get ts k ≡ Some t = slice_get_read ts (length ts) k t refl in' is_t in
    let b : slice_get (map derivation_of ds) k ≡ Some (derivation_of x) = derivation_at ds k x in_ds is_x in
    let y : Derives d.rules d.start (tree_of t) (derivation_of x) = zipped_at d ts (map derivation_of ds) k t (derivation_of x) h a b in
    record {
      node = a;
      derivation = b;
      derives = subst (λ n. Derives rows n (tree_of t) (derivation_of x)) es (subst (λ l. Derives l d.start (tree_of t) (derivation_of x)) (sym er) y);
    }

zero_more : (a b : ℕ) → a ≡ b → a ≡ 0 + b
zero_more a b e = omega (arith, e)

module _ {I P : Type 0} (m : Machine I) (rules : Rules I P) (obeys : Obeys m rules) where
  -- the code and the cuts of these roots
  pub record Gathered (xs : List MDerivation) (ts : List Node) (free : ℕ) (code : List I) (cuts : List ℕ) : Type 0 where
    pub stretches : List (List I)
    pub emits : EmitsRoots rules xs ts 64 stretches free
    pub code_is : code ≡ joined stretches
    pub cuts_are : cuts ≡ ends_from 0 stretches
    pub each : All (IsStretch m) stretches
    pub named : NamesBelow m free (joined stretches)

  pub none_gathered : (code : List I) (cuts : List ℕ) → code ≡ [] → cuts ≡ [] → Gathered [] [] 64 code cuts
  none_gathered code cuts e f = record { stretches = []; emits = NoRoot; code_is = e; cuts_are = f; each = All-nil (IsStretch m); named = tt }

  roots_low : {xs : List MDerivation} {ts : List Node} {n n' : ℕ} {ss : List (List I)} → EmitsRoots rules xs ts n ss n' → n ≤ n'
  roots_low (NoRoot {n}) = omega arith
  roots_low (OneRoot {xs} {ts} {x} {t} {n} {n'} {stretches} {e} all one) =
      let a : n ≤ n' = roots_low all in
      let w = takes m rules obeys one in
      let b = w.low in
      let c = w.next in
      omega (arith, a, b, c)

  roots_few : {xs : List MDerivation} {ts : List Node} {n n' : ℕ} {ss : List (List I)} → EmitsRoots rules xs ts n ss n' → n' ≤ n + sum_by value_nodes ts
  roots_few (NoRoot {n}) = omega arith
  roots_few (OneRoot {xs} {ts} {x} {t} {n} {n'} {stretches} {e} all one) =
      let a : n' ≤ n + sum_by value_nodes ts = roots_few all in
      let w = takes m rules obeys one in
      let b = w.few in
      let c : sum_by value_nodes (ts ++ t ∷ []) ≡ sum_by value_nodes ts + value_nodes t = sum_by_push value_nodes ts t in
      omega (arith, a, b, c)

  pub gathered_low : {xs : List MDerivation} {ts : List Node} {free : ℕ} {code : List I} {cuts : List ℕ} → Gathered xs ts free code cuts → 64 ≤ free
  gathered_low g = roots_low g.emits

  pub gathered_room : {xs : List MDerivation} {free k : ℕ} {code : List I} {cuts : List ℕ} (ts : List Node) (t : Node) (limit : ℕ) → Gathered xs (take k ts) free code cuts → k < length ts → t ≡ get_or ts k t → 64 + sum_by value_nodes ts ≤ limit → free + value_nodes t ≤ limit
  gathered_room {xs} {free} {k} {code} {cuts} ts t limit g h is room =
      let a : free ≤ 64 + sum_by value_nodes (take k ts) = roots_few g.emits in
      let b : sum_by value_nodes (take k ts) + value_nodes (get_or ts k t) ≤ sum_by value_nodes ts = sum_by_more_le value_nodes ts k t h in
      let c : value_nodes t ≡ value_nodes (get_or ts k t) = ap value_nodes is in
      omega (arith, a, b, c, room)

  pub more_gathered : (rows : List Rule) (xs : List MDerivation) (ts : List Node) (k : ℕ) {free free' : ℕ} {x : MDerivation} {t : Node} {code code' : List I} {cuts cuts' : List ℕ} {p : P} {to : ℕ} → map row_of rows ≡ rules.rows → slice_get xs k ≡ Some x → slice_get ts k ≡ Some t → Gathered (take k xs) (take k ts) free code cuts → Added rules x t free free' code code' p to → cuts' ≡ cuts ++ length code' ∷ [] → Derives rows rules.start (tree_of t) x → IsQuiet t → free + value_nodes t ≤ 2 ^ 31 → Gathered (take (k + 1) xs) (take (k + 1) ts) free' code' cuts'
  more_gathered rows xs ts k {free} {free'} {x} {t} {code} {code'} {cuts} {cuts'} {p} {to} are at_x at_t g a e d q room =
      let taken = takes m rules obeys a.emits in
      let w = taken.few in
      let up = taken.low in
      let next = taken.next in
      let low : 64 ≤ free = roots_low g.emits in
      let le : free' ≤ 2 ^ 31 = omega (arith, w, room) in
      let rises : free ≤ free' = omega (arith, up, next) in
      let code_is : code' ≡ joined (g.stretches ++ a.code ∷ []) = a.appended ∙ ap (λ l. l ++ a.code) g.code_is ∙ sym (joined_more g.stretches a.code) in
      let whole : code' ≡ joined g.stretches ++ a.code = a.appended ∙ ap (λ l. l ++ a.code) g.code_is in
      let place : length code' ≡ 0 + length (joined g.stretches ++ a.code) = zero_more (length code') (length (joined g.stretches ++ a.code)) (ap length whole) in
      let more : EmitsRoots rules (take k xs ++ x ∷ []) (take k ts ++ t ∷ []) 64 (g.stretches ++ a.code ∷ []) free' = OneRoot g.emits a.emits in
      record {
        stretches = g.stretches ++ a.code ∷ [];
        emits =
            subst (λ l. EmitsRoots rules l (take (k + 1) ts) 64 (g.stretches ++ a.code ∷ []) free') (sym (take_at xs k x at_x))
            (subst (λ l. EmitsRoots rules (take k xs ++ x ∷ []) l 64 (g.stretches ++ a.code ∷ []) free') (sym (take_at ts k t at_t)) more);
        code_is = code_is;
        cuts_are = e ∙ ap (λ l. l ++ length code' ∷ []) g.cuts_are ∙ ap (λ l. ends_from 0 g.stretches ++ l ∷ []) place ∙ sym (ends_more 0 g.stretches a.code);
        each = All-push (IsStretch m) g.stretches a.code g.each (stretch m rules obeys rows are a.emits d q le);
        named = subst (NamesBelow m free') (sym (joined_more g.stretches a.code)) (names_joined m free' (joined g.stretches) a.code (names_wider m free free' (joined g.stretches) rises g.named) (names_taken m rules obeys a.emits low));
      }

  pub all_gathered : {xs : List MDerivation} {ts : List Node} {k free : ℕ} {code : List I} {cuts : List ℕ} → length xs ≡ length ts → length ts ≤ k → Gathered (take k xs) (take k ts) free code cuts → Gathered xs ts free code cuts
  all_gathered {xs} {ts} {k} {free} {code} {cuts} l h g =
      let le : length xs ≤ k = omega (arith, l, h) in
      subst (λ z. Gathered xs z free code cuts) (take_all k ts h) (subst (λ z. Gathered z (take k ts) free code cuts) (take_all k xs le) g)

  pub virtual_code : {xs : List MDerivation} {ts : List Node} {free : ℕ} {code : List I} {cuts : List ℕ} → Gathered xs ts free code cuts → IsVirtualCode m (record { code = code; cuts = cuts })
  virtual_code g = record { stretches = g.stretches; code = g.code_is; cuts = g.cuts_are; each = g.each }

  pub linearised : {xs : List MDerivation} {ts : List Node} {free : ℕ} {code : List I} {cuts : List ℕ} (c : MCode I) → c ≡ record { code = code; cuts = cuts } → All IsQuiet ts → Gathered xs ts free code cuts → IsLinearised m rules ts xs c
  linearised {xs} {ts} {free} {code} {cuts} c e quiet g =
      let made : c ≡ record { code = joined g.stretches; cuts = ends_from 0 g.stretches } = e ∙ ap (λ l. record { code = l; cuts = cuts }) g.code_is ∙ ap (λ l. record { code = joined g.stretches; cuts = l }) g.cuts_are in
      let some : All (λ (s : List I). 1 ≤ length s) g.stretches = All-weaker (IsStretch m) (λ s. 1 ≤ length s) (λ s h. h.some) g.stretches g.each in
      subst (IsLinearised m rules ts xs) (sym made)
      (record {
        stretches = g.stretches;
        next = free;
        emits = g.emits;
        code = refl;
        cuts = refl;
        few = roots_few g.emits;
        names = g.named;
        agrees = agrees m rules obeys xs ts g.stretches free g.emits quiet some;
      })
