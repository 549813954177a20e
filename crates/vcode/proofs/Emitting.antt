-- A derivation at the node of a chain rule, or one derivation after another, and then their rule.
use Rattle.std.proofs.Common.{◌≡◌, ℕ, zero, suc, ◌+◌, ◌-◌, ◌≤◌, ◌<◌, List, [], ◌∷◌, ◌++◌, Bool, true, false, Option, Some, None, Bor, map, length, take, get_or, refl, sym, ap, ◌∙◌, subst, arith, append_assoc}
use Rattle.std.specs.Prelude.{slice_get, IsSome, not}
use Rattle.std.specs.Option.{option_map}
use Rattle.std.proofs.lemmas.List.{length-map, append-nil, take_more, take_all}
use Rattle.std.proofs.lemmas.Bool.{or_left, or_right, not_from_false, false_from_ne_true}
use Rattle.std.proofs.lemmas.Option.{same_Some, none-some, slice_get_within, slice_get_read, slice_get-map, get_or_from_slice_get}
use Rattle.lburg_model.specs.declared.rule.Rule.{Rule}
use Rattle.lburg_model.specs.declared.derivation.Derivation.{Derivation, out-Derivation}
use Rattle.lburg_model.specs.Pattern.{MPattern, Goal, pattern_of}
use Rattle.lburg_model.specs.Derivation.{MDerivation, Apply, Derives, DeriveEach, count, counts}
use Rattle.lburg_model.specs.DerivationOf.{parts_of, derivation_of}
use Rattle.lburg_model.proofs.lemmas.DerivationOf.{derivation_out}
use Rattle.op_forest.specs.Nodes.{Node, head_of, gives, one_where, value_nodes, tree_of}
use Rattle.vcode.specs.Machines.{Machine}
use Rattle.vcode.specs.Patterns.{Meeting, leaves_at, is_chain}
use Rattle.vcode.specs.RuleSets.{row_of, Rules, Applies, Obeys, all_registers}
use Rattle.vcode.specs.VirtualCode.{among}
use Rattle.vcode.specs.Emission.{Emitted, EmittedAll, Emits, EmitsAll, ByChain, ByRule, Nothing, OneMore}
use Rattle.vcode.specs.Adding.{Added, meetings_in, meetings_at}
use Rattle.vcode.specs.Leaves.{turned, met_by}
use Rattle.vcode.proofs.lemmas.Leaves.{meetings_of, few_values, fewer_values, chain_meets}
use Rattle.vcode.proofs.Registers.{in_range, registers_one, takes, take_all as take_each}
use Rattle.vcode.proofs.lemmas.Deriving.{row_is}
use Rattle.vcode.proofs.Parts.{hands, hand_all}

-- the second list is the first with the code of the derivations, which hand up these parts
pub record AddedAll {I P : Type 0} (rules : Rules I P) (xs : List MDerivation) (ms : List Meeting) (free free' : ℕ) (old new : List I) (ps : List P) : Type 0 where
  pub code : List I
  pub appended : new ≡ old ++ code
  pub emits : EmitsAll rules xs ms free (record { code = code; parts = ps; next = free' })

-- the rule of this number derives the tree, and the derivations its parts
pub record Here (rows : List Rule) (r : Rule) (number : ℕ) (t : Node) (xs : List MDerivation) : Type 0 where
  pub number_is : number ≡ (number - 1) + 1
  pub row : slice_get rows (number - 1) ≡ Some r
  pub fits : leaves_at (pattern_of r.pattern) t ≡ Some (meetings_at (pattern_of r.pattern) t)
  pub each : DeriveEach rows (map turned (meetings_at (pattern_of r.pattern) t)) (parts_of xs)

abbrev xs_of : Derivation → List MDerivation
xs_of d = map derivation_of (out-Derivation d).parts

opened : (rows : List Rule) (n : ℕ) (t : Node) (d : Derivation) → Derives rows n (tree_of t) (derivation_of d) → Derives rows n (tree_of t) (Apply (out-Derivation d).rule (parts_of (xs_of d)))
opened rows n t d h = subst (λ x. Derives rows n (tree_of t) x) (derivation_out d) h

pub within_rows : (rows : List Rule) (n : ℕ) (t : Node) (d : Derivation) → Derives rows n (tree_of t) (derivation_of d) → (out-Derivation d).rule - 1 < length rows
within_rows rows n t d h =
    let o = opened rows n t d h in
    let e : (out-Derivation d).rule ≡ o.0 + 1 = o.3 in
    let l : o.0 < length rows = slice_get_within rows o.0 o.1 o.4 in
    omega (arith, e, l)

meetings_are : (o : Option (List Meeting)) (ms : List Meeting) → o ≡ Some ms → meetings_in o ≡ ms
meetings_are o ms e = ap meetings_in e

pub here : (rows : List Rule) (r : Rule) (n : ℕ) (t : Node) (d : Derivation) → r ≡ get_or rows ((out-Derivation d).rule - 1) r → Derives rows n (tree_of t) (derivation_of d) → Here rows r (out-Derivation d).rule t (xs_of d)
here rows r n t d is h =
    let o = opened rows n t d h in
    let number = (out-Derivation d).rule in
    let e : number ≡ o.0 + 1 = o.3 in
    let p : number - 1 ≡ o.0 = omega (arith, e) in
    let at : slice_get rows (number - 1) ≡ Some o.1 = ap (λ i. slice_get rows i) p ∙ o.4 in
    let same : o.1 ≡ r = sym (get_or_from_slice_get rows (number - 1) o.1 r at) ∙ sym is in
    let m = meetings_of (pattern_of o.1.pattern) t o.2 o.7 in
    let fits : leaves_at (pattern_of r.pattern) t ≡ Some m.0 = ap (λ (w : Rule). leaves_at (pattern_of w.pattern) t) (sym same) ∙ m.1 in
    let are : meetings_at (pattern_of r.pattern) t ≡ m.0 = meetings_are (leaves_at (pattern_of r.pattern) t) m.0 fits in
    record {
      number_is = omega (arith, e);
      row = at ∙ ap Some same;
      fits = fits ∙ ap Some (sym are);
      each = subst (λ ms. DeriveEach rows (map turned ms) (parts_of (xs_of d))) (sym are) (subst (λ gs. DeriveEach rows gs (parts_of (xs_of d))) m.2 o.8);
    }

some_of : {A : Type 0} (o : Option A) (x : A) → o ≡ Some x → IsSome o
some_of o x e = subst IsSome (sym e) (refl)

pub fits_here : {rows : List Rule} {r : Rule} {number : ℕ} {t : Node} {xs : List MDerivation} → Here rows r number t xs → IsSome (leaves_at (pattern_of r.pattern) t)
fits_here {rows} {r} {number} {t} {xs} h = some_of (leaves_at (pattern_of r.pattern) t) (meetings_at (pattern_of r.pattern) t) h.fits

-- the places of both lists
pub each_length : (rows : List Rule) (ms : List Meeting) (xs : List MDerivation) → DeriveEach rows (map turned ms) (parts_of xs) → length ms ≡ length xs
each_length rows [] [] d = refl
each_length rows [] (x ∷ xs) d = absurd d
each_length rows (m ∷ ms) [] d = absurd d
each_length rows (m ∷ ms) (x ∷ xs) d = ap suc (each_length rows ms xs d.1)

each_at : (rows : List Rule) (ms : List Meeting) (xs : List MDerivation) (k : ℕ) (m : Meeting) (x : MDerivation) → DeriveEach rows (map turned ms) (parts_of xs) → slice_get ms k ≡ Some m → slice_get xs k ≡ Some x → Derives rows m.0 (tree_of m.1) x
each_at rows [] xs k m x d a b = absurd (none-some m a)
each_at rows (l ∷ ms) [] k m x d a b = absurd (none-some x b)
each_at rows (l ∷ ms) (y ∷ xs) zero m x d a b =
    subst (λ (z : MDerivation). Derives rows m.0 (tree_of m.1) z) (same_Some y x b) (subst (λ (z : Meeting). Derives rows z.0 (tree_of z.1) y) (same_Some l m a) d.0)
each_at rows (l ∷ ms) (y ∷ xs) (suc k) m x d a b = each_at rows ms xs k m x d.1 a b

pub take_at : {A : Type 0} (xs : List A) (k : ℕ) (x : A) → slice_get xs k ≡ Some x → take (k + 1) xs ≡ take k xs ++ x ∷ []
take_at xs k x e = take_more xs k x (slice_get_within xs k x e) ∙ ap (λ y. take k xs ++ y ∷ []) (get_or_from_slice_get xs k x x e)

met_at : (f : Node → ℕ) (ms : List Meeting) (k : ℕ) (m : Meeting) → slice_get ms k ≡ Some m → met_by f (take k ms) + f m.1 ≤ met_by f ms
met_at f [] k m e = absurd (none-some m e)
met_at f (l ∷ ms) zero m e = let s : f l.1 ≡ f m.1 = ap (λ (z : Meeting). f z.1) (same_Some l m e) in omega (arith, s)
met_at f (l ∷ ms) (suc k) m e = let i : met_by f (take k ms) + f m.1 ≤ met_by f ms = met_at f ms k m e in omega (arith, i)

-- the tree behind the reference at a place
node_at : (bs : List (Bor Node)) (ms : List Meeting) (k : ℕ) (b : Bor Node) → map (λ x. x.now) bs ≡ map (λ m. m.1) ms → k < length ms → b ≡ get_or bs k b → (m : Meeting) × (slice_get ms k ≡ Some m) × (m.1 ≡ b.now)
node_at bs [] k b e h is = absurd (omega arith)
node_at [] (m ∷ ms) k b e h is = absurd (cc)
node_at (a ∷ bs) (m ∷ ms) zero b e h is =
    let s : a.now ≡ m.1 = cc in (m, refl, sym s ∙ sym (ap (λ (z : Bor Node). z.now) is))
node_at (a ∷ bs) (m ∷ ms) (suc k) b e h is =
    let s : map (λ x. x.now) bs ≡ map (λ z. z.1) ms = cc in node_at bs ms k b s (omega (arith, h)) is

-- a part applies fewer rules than the whole
counted_at : (xs : List MDerivation) (k : ℕ) (x : MDerivation) → slice_get xs k ≡ Some x → count x ≤ counts (parts_of xs)
counted_at [] k x e = absurd (none-some x e)
counted_at (y ∷ xs) zero x e = let s : count y ≡ count x = ap count (same_Some y x e) in omega (arith, s)
counted_at (y ∷ xs) (suc k) x e = let i : count x ≤ counts (parts_of xs) = counted_at xs k x e in omega (arith, i)

pub fewer_rules : (d : Derivation) (ds : List Derivation) (k : ℕ) (x : Derivation) → ds ≡ (out-Derivation d).parts → k < length ds → x ≡ get_or ds k x → count (derivation_of x) < count (derivation_of d)
fewer_rules d ds k x e h is =
    let at : slice_get ds k ≡ Some x = slice_get_read ds (length ds) k x refl h is in
    let same : slice_get (map derivation_of ds) k ≡ Some (derivation_of x) = slice_get-map derivation_of ds k ∙ ap (λ o. option_map derivation_of o) at in
    let i : count (derivation_of x) ≤ counts (parts_of (map derivation_of ds)) = counted_at (map derivation_of ds) k (derivation_of x) same in
    let j : counts (parts_of (map derivation_of ds)) ≡ counts (parts_of (xs_of d)) = ap (λ l. counts (parts_of (map derivation_of l))) e in
    let w : count (derivation_of d) ≡ 1 + counts (parts_of (xs_of d)) = ap count (derivation_out d) in
    omega (arith, i, j, w)

-- what the pattern's nonterminals meet, where there is such a rule
abbrev pub rule_meetings : Option Rule → Node → List Meeting
rule_meetings None t = []
rule_meetings (Some r) t = meetings_at (pattern_of r.pattern) t

pub met_here : {rows : List Rule} {r : Rule} {number : ℕ} {t : Node} {xs : List MDerivation} → Here rows r number t xs → rule_meetings (slice_get rows (number - 1)) t ≡ meetings_at (pattern_of r.pattern) t
met_here {rows} {r} {number} {t} {xs} h = ap (λ o. rule_meetings o t) h.row

-- the derivation of one place
pub record Step (rows : List Rule) (ms : List Meeting) (xs : List MDerivation) (k : ℕ) (t : Node) (x : MDerivation) : Type 0 where
  pub meeting : Meeting
  pub at : slice_get ms k ≡ Some meeting
  pub node : meeting.1 ≡ t
  pub same : slice_get xs k ≡ Some x
  pub derives : Derives rows meeting.0 (tree_of t) x

pub leaf_count : (bs : List (Bor Node)) (ms : List Meeting) → map (λ x. x.now) bs ≡ map (λ m. m.1) ms → length bs ≡ length ms
leaf_count [] [] e = refl
leaf_count [] (m ∷ ms) e = absurd (cc)
leaf_count (b ∷ bs) [] e = absurd (cc)
leaf_count (b ∷ bs) (m ∷ ms) e = let s : map (λ x. x.now) bs ≡ map (λ z. z.1) ms = cc in ap suc (leaf_count bs ms s)

pub step_at : (rows : List Rule) (ms : List Meeting) (ds : List Derivation) (bs : List (Bor Node)) (k : ℕ) (b : Bor Node) (d : Derivation) → DeriveEach rows (map turned ms) (parts_of (map derivation_of ds)) → map (λ x. x.now) bs ≡ map (λ m. m.1) ms → k < length ds → b ≡ get_or bs k b → d ≡ get_or ds k d → Step rows ms (map derivation_of ds) k b.now (derivation_of d)
step_at rows ms ds bs k b d each are h is_b is_d =
    let l : length ms ≡ length (map derivation_of ds) = each_length rows ms (map derivation_of ds) each in
    let w : length (map derivation_of ds) ≡ length ds = length-map ds derivation_of in
    let in' : k < length ms = omega (arith, l, w, h) in
    let m = node_at bs ms k b are in' is_b in
    let at : slice_get ds k ≡ Some d = slice_get_read ds (length ds) k d refl h is_d in
    let same : slice_get (map derivation_of ds) k ≡ Some (derivation_of d) = slice_get-map derivation_of ds k ∙ ap (λ o. option_map derivation_of o) at in
    record {
      meeting = m.0;
      at = m.1;
      node = m.2;
      same = same;
      derives = subst (λ t. Derives rows m.0.0 (tree_of t) (derivation_of d)) m.2 (each_at rows ms (map derivation_of ds) k m.0 (derivation_of d) each m.1 same);
    }

-- what the loop over the parts knows at the start
pub record Loop (rows : List Rule) (r : Rule) (t : Node) (d : Derivation) (ds : List Derivation) (bs : List (Bor Node)) : Type 0 where
  pub here : Here rows r (out-Derivation d).rule t (map derivation_of (out-Derivation d).parts)
  pub parts : ds ≡ (out-Derivation d).parts
  pub leaves : map (λ x. x.now) bs ≡ map (λ m. m.1) (meetings_at (pattern_of r.pattern) t)
  pub count : length (meetings_at (pattern_of r.pattern) t) ≡ length ds

pub loop_of : (rows : List Rule) (r : Rule) (n : ℕ) (t : Node) (d : Derivation) (ds : List Derivation) (old bs : List (Bor Node)) → r ≡ get_or rows ((out-Derivation d).rule - 1) r → Derives rows n (tree_of t) (derivation_of d) → ds ≡ (out-Derivation d).parts → old ≡ [] → map (λ x. x.now) bs ≡ map (λ x. x.now) old ++ map (λ m. m.1) (meetings_at (pattern_of (get_or rows ((out-Derivation d).rule - 1) r).pattern) t) → Loop rows r t d ds bs
loop_of rows r n t d ds old bs is h eds eold ebs =
    let w = here rows r n t d is h in
    let same : map (λ m. m.1) (meetings_at (pattern_of (get_or rows ((out-Derivation d).rule - 1) r).pattern) t) ≡ map (λ m. m.1) (meetings_at (pattern_of r.pattern) t) = ap (λ (q : Rule). map (λ m. m.1) (meetings_at (pattern_of q.pattern) t)) (sym is) in
    record {
      here = w;
      parts = eds;
      leaves = ebs ∙ ap (λ l. map (λ x. x.now) old ++ l) same ∙ ap (λ l. map (λ x. x.now) l ++ map (λ m. m.1) (meetings_at (pattern_of r.pattern) t)) eold;
      count = each_length rows (meetings_at (pattern_of r.pattern) t) (xs_of d) w.each ∙ length-map (out-Derivation d).parts derivation_of ∙ ap length (sym eds);
    }

pub loop_step : {rows : List Rule} {r : Rule} {t : Node} {d : Derivation} {ds : List Derivation} {bs : List (Bor Node)} (k : ℕ) (b : Bor Node) (x : Derivation) → Loop rows r t d ds bs → k < length ds → b ≡ get_or bs k b → x ≡ get_or ds k x → Step rows (meetings_at (pattern_of r.pattern) t) (map derivation_of ds) k b.now (derivation_of x)
loop_step {rows} {r} {t} {d} {ds} {bs} k b x w h is_b is_x =
    step_at rows (meetings_at (pattern_of r.pattern) t) ds bs k b x
    (subst (λ l. DeriveEach rows (map turned (meetings_at (pattern_of r.pattern) t)) (parts_of (map derivation_of l))) (sym w.parts) w.here.each)
    w.leaves h is_b is_x

-- whether the rule is a chain rule, by a test of the rule that stands at its place
pub chain_is : {r q : Rule} {b c : Bool} → r ≡ q → b ≡ is_chain (pattern_of q.pattern) → b ≡ c → is_chain (pattern_of r.pattern) ≡ c
chain_is same test is = ap (λ (w : Rule). is_chain (pattern_of w.pattern)) same ∙ sym test ∙ is

pub fits_at : {r q : Rule} (t : Node) → r ≡ q → IsSome (leaves_at (pattern_of r.pattern) t) → IsSome (leaves_at (pattern_of q.pattern) t)
fits_at {r} {q} t same h = subst (λ (w : Rule). IsSome (leaves_at (pattern_of w.pattern) t)) same h

-- one part, put into an empty list
pub one_pushed : {A : Type 0} {xs ys : List A} {x : A} → ys ≡ xs ++ x ∷ [] → xs ≡ [] → ys ≡ x ∷ []
one_pushed {A} {xs} {ys} {x} pushed none = pushed ∙ ap (λ l. l ++ x ∷ []) none

-- the part of a chain rule, which is derived at the same node
pub record Chained (rows : List Rule) (r : Rule) (t : Node) (d : Derivation) (x : Derivation) : Type 0 where
  pub nonterminal : ℕ
  pub here : Here rows r (out-Derivation d).rule t (xs_of d)
  pub meetings : meetings_at (pattern_of r.pattern) t ≡ (nonterminal, t) ∷ []
  pub parts : xs_of d ≡ derivation_of x ∷ []
  pub derives : Derives rows nonterminal (tree_of t) (derivation_of x)
  pub fewer : count (derivation_of x) < count (derivation_of d)

one_derived : (rows : List Rule) (g : Goal) (xs : List MDerivation) → DeriveEach rows (g ∷ []) (parts_of xs) → (x : MDerivation) × (xs ≡ x ∷ []) × Derives rows g.0 g.1 x
one_derived rows g [] h = absurd h
one_derived rows g (x ∷ []) h = (x, refl, h.0)
one_derived rows g (x ∷ y ∷ xs) h = absurd h.1

-- what a chain rule's nonterminal meets, and its part
chain_here : (rows : List Rule) (r : Rule) (number : ℕ) (t : Node) (xs : List MDerivation) → is_chain (pattern_of r.pattern) ≡ true → Here rows r number t xs → (k : ℕ) × (meetings_at (pattern_of r.pattern) t ≡ (k, t) ∷ []) × ((x : MDerivation) × (xs ≡ x ∷ []) × Derives rows k (tree_of t) x)
chain_here rows r number t xs chain h =
    let q = chain_meets (pattern_of r.pattern) t (meetings_at (pattern_of r.pattern) t) chain h.fits in
    (q.0, q.1, one_derived rows (q.0, tree_of t) xs (subst (λ ms. DeriveEach rows (map turned ms) (parts_of xs)) q.1 h.each))

pub chain_part : (rows : List Rule) (r : Rule) (n : ℕ) (t : Node) (d : Derivation) → r ≡ get_or rows ((out-Derivation d).rule - 1) r → Derives rows n (tree_of t) (derivation_of d) → is_chain (pattern_of r.pattern) ≡ true → 0 < length (out-Derivation d).parts
chain_part rows r n t d is h chain =
    let c = chain_here rows r (out-Derivation d).rule t (xs_of d) chain (here rows r n t d is h) in
    let l : length (xs_of d) ≡ 1 = ap length c.2.1 in
    let w = length-map (out-Derivation d).parts derivation_of in
    omega (arith, l, w)

pub chained : (rows : List Rule) (r : Rule) (n : ℕ) (t : Node) (d x : Derivation) → r ≡ get_or rows ((out-Derivation d).rule - 1) r → Derives rows n (tree_of t) (derivation_of d) → is_chain (pattern_of r.pattern) ≡ true → slice_get (out-Derivation d).parts 0 ≡ Some x → Chained rows r t d x
chained rows r n t d x is h chain at =
    let w = here rows r n t d is h in
    let c = chain_here rows r (out-Derivation d).rule t (xs_of d) chain w in
    let first : slice_get (xs_of d) 0 ≡ Some (derivation_of x) = slice_get-map derivation_of (out-Derivation d).parts 0 ∙ ap (λ o. option_map derivation_of o) at in
    let same : c.2.0 ≡ derivation_of x = same_Some c.2.0 (derivation_of x) (ap (λ l. slice_get l 0) (sym c.2.1) ∙ first) in
    record {
      nonterminal = c.0;
      here = w;
      meetings = c.1;
      parts = c.2.1 ∙ ap (λ y. y ∷ []) same;
      derives = subst (λ y. Derives rows c.0 (tree_of t) y) same c.2.2;
      fewer = fewer_rules d (out-Derivation d).parts 0 x refl (chain_part rows r n t d is h chain) (sym (get_or_from_slice_get (out-Derivation d).parts 0 x x at));
    }

module _ {I P : Type 0} (m : Machine I) (rules : Rules I P) (obeys : Obeys m rules) where
  pub added_none : (n : ℕ) (old : List I) (ps : List P) → ps ≡ [] → AddedAll rules [] [] n n old old ps
  added_none n old ps e =
      subst (λ l. AddedAll rules [] [] n n old old l) (sym e) (record { code = []; appended = sym (append-nil old); emits = Nothing })

  -- the meetings of the rule at its place, and those of the rule itself
  pub loop_here : {rows : List Rule} {r : Rule} {t : Node} {d : Derivation} {ds : List Derivation} {bs : List (Bor Node)} {xs : List MDerivation} (k : ℕ) {n n' : ℕ} {old new : List I} {ps : List P} → Loop rows r t d ds bs → AddedAll rules xs (take k (rule_meetings (slice_get rows ((out-Derivation d).rule - 1)) t)) n n' old new ps → AddedAll rules xs (take k (meetings_at (pattern_of r.pattern) t)) n n' old new ps
  loop_here {rows} {r} {t} {d} {ds} {bs} {xs} k {n} {n'} {old} {new} {ps} w a = subst (λ ms. AddedAll rules xs (take k ms) n n' old new ps) (met_here w.here) a

  pub loop_there : {rows : List Rule} {r : Rule} {t : Node} {d : Derivation} {ds : List Derivation} {bs : List (Bor Node)} {xs : List MDerivation} (k : ℕ) {n n' : ℕ} {old new : List I} {ps : List P} → Loop rows r t d ds bs → AddedAll rules xs (take k (meetings_at (pattern_of r.pattern) t)) n n' old new ps → AddedAll rules xs (take k (rule_meetings (slice_get rows ((out-Derivation d).rule - 1)) t)) n n' old new ps
  loop_there {rows} {r} {t} {d} {ds} {bs} {xs} k {n} {n'} {old} {new} {ps} w a = subst (λ ms. AddedAll rules xs (take k ms) n n' old new ps) (sym (met_here w.here)) a

  pub added_low : {xs : List MDerivation} {ms : List Meeting} {n n' : ℕ} {old new : List I} {ps : List P} → AddedAll rules xs ms n n' old new ps → n ≤ n'
  added_low a = (take_each m rules obeys a.emits).low

  pub added_room : {rows : List Rule} {ms : List Meeting} {xs ys : List MDerivation} {k : ℕ} {t : Node} {x : MDerivation} {n n' : ℕ} {old new : List I} {ps : List P} (limit : ℕ) (p : MPattern) (whole : Node) → Step rows ms xs k t x → AddedAll rules ys (take k ms) n n' old new ps → leaves_at p whole ≡ Some ms → n + value_nodes whole ≤ limit → n' + value_nodes t ≤ limit
  added_room {rows} {ms} {xs} {ys} {k} {t} {x} {n} {n'} {old} {new} {ps} limit p whole s a fits room =
      let b : n' ≤ n + met_by value_nodes (take k ms) = (take_each m rules obeys a.emits).few in
      let c : met_by value_nodes (take k ms) + value_nodes s.meeting.1 ≤ met_by value_nodes ms = met_at value_nodes ms k s.meeting s.at in
      let d : met_by value_nodes ms ≤ value_nodes whole = few_values p whole ms fits in
      let e : value_nodes s.meeting.1 ≡ value_nodes t = ap value_nodes s.node in
      omega (arith, b, c, d, e, room)

  pub added_more : {rows : List Rule} {ms : List Meeting} {xs : List MDerivation} {k : ℕ} {t : Node} {x : MDerivation} {n n' n'' : ℕ} {old mid new : List I} {ps ps' : List P} {p : P} {to : ℕ} → Step rows ms xs k t x → AddedAll rules (take k xs) (take k ms) n n' old mid ps → Added rules x t n' n'' mid new p to → ps' ≡ ps ++ p ∷ [] → AddedAll rules (take (k + 1) xs) (take (k + 1) ms) n n'' old new ps'
  added_more {rows} {ms} {xs} {k} {t} {x} {n} {n'} {n''} {old} {mid} {new} {ps} {ps'} {p} {to} s a b e =
      let one : Emits rules x s.meeting.1 n' (record { code = b.code; part = p; to = to; next = n'' }) = subst (λ z. Emits rules x z n' (record { code = b.code; part = p; to = to; next = n'' })) (sym s.node) b.emits in
      let all : EmitsAll rules (take k xs ++ x ∷ []) (take k ms ++ s.meeting ∷ []) n (record { code = a.code ++ b.code; parts = ps ++ p ∷ []; next = n'' }) = OneMore s.meeting a.emits one in
      record {
        code = a.code ++ b.code;
        appended = b.appended ∙ ap (λ l. l ++ b.code) a.appended ∙ append_assoc old a.code b.code;
        emits =
            subst (λ l. EmitsAll rules (take (k + 1) xs) (take (k + 1) ms) n (record { code = a.code ++ b.code; parts = l; next = n'' })) (sym e)
            (subst (λ l. EmitsAll rules l (take (k + 1) ms) n (record { code = a.code ++ b.code; parts = ps ++ p ∷ []; next = n'' })) (sym (take_at xs k x s.same))
            (subst (λ l. EmitsAll rules (take k xs ++ x ∷ []) l n (record { code = a.code ++ b.code; parts = ps ++ p ∷ []; next = n'' })) (sym (take_at ms k s.meeting s.at)) all));
      }

  pub added_all : {xs : List MDerivation} {ms : List Meeting} {k n n' : ℕ} {old new : List I} {ps : List P} → length ms ≡ length xs → length xs ≤ k → AddedAll rules (take k xs) (take k ms) n n' old new ps → AddedAll rules xs ms n n' old new ps
  added_all {xs} {ms} {k} {n} {n'} {old} {new} {ps} l h a =
      let g : length ms ≤ k = omega (arith, l, h) in
      subst (λ z. AddedAll rules xs z n n' old new ps) (take_all k ms g) (subst (λ z. AddedAll rules z (take k ms) n n' old new ps) (take_all k xs h) a)

  -- once the loop is over
  pub loop_over : {rows : List Rule} {r : Rule} {t : Node} {d : Derivation} {ds : List Derivation} {bs : List (Bor Node)} {k n n' : ℕ} {old new : List I} {ps : List P} → Loop rows r t d ds bs → length ds ≤ k → AddedAll rules (take k (map derivation_of ds)) (take k (meetings_at (pattern_of r.pattern) t)) n n' old new ps → AddedAll rules (xs_of d) (meetings_at (pattern_of r.pattern) t) n n' old new ps
  loop_over {rows} {r} {t} {d} {ds} {bs} {k} {n} {n'} {old} {new} {ps} w h a =
      let l : length (map derivation_of ds) ≡ length ds = length-map ds derivation_of in
      let le : length (map derivation_of ds) ≤ k = omega (arith, l, h) in
      let all = added_all (w.count ∙ sym l) le a in
      subst (λ l. AddedAll rules (map derivation_of l) (meetings_at (pattern_of r.pattern) t) n n' old new ps) w.parts all

  pub over_room : {xs : List MDerivation} {n n' : ℕ} {old new : List I} {ps : List P} (limit : ℕ) (p : MPattern) (t : Node) → AddedAll rules xs (meetings_at p t) n n' old new ps → leaves_at p t ≡ Some (meetings_at p t) → n + value_nodes t ≤ limit → is_chain p ≡ false → n' + one_where (gives (head_of t)) ≤ limit
  over_room limit p t a fits room chain =
      let b = (take_each m rules obeys a.emits).few in
      let c = fewer_values p t (meetings_at p t) chain fits in
      omega (arith, b, c, room)

  module _ (rows : List Rule) (are : map row_of rows ≡ rules.rows) where
    -- the rule may be applied with the next register
    pub applies : {r : Rule} {number : ℕ} {t : Node} {xs : List MDerivation} {n to : ℕ} {es : EmittedAll I P} → Here rows r number t xs → EmitsAll rules xs (meetings_at (pattern_of r.pattern) t) n es → 64 ≤ n → to ≡ es.next → Applies rules number (row_of r) t es.parts to
    applies {r} {number} {t} {xs} {n} {to} {es} h all low is =
        let w = take_each m rules obeys all in
        let b = w.low in
        let qs = all_registers rules es.parts in
        record {
          place = number - 1;
          number_is = h.number_is;
          row_is = row_is rows rules.rows (number - 1) r are h.row;
          meetings = meetings_at (pattern_of r.pattern) t;
          fits = h.fits;
          hand = hand_all rules rows are m obeys all h.each;
          to_virtual = omega (arith, low, b, is);
          limit = es.next;
          parts_virtual = in_range n es.next qs low w.registers;
          new = or_right (is_chain (pattern_of r.pattern)) (not (among to qs)) (not_from_false (among to qs) (false_from_ne_true (among to qs) (λ i. let u = (w.registers to i).1 in absurd (omega (arith, u, is)))));
        }

    -- a chain rule may be applied with its part's register
    chain_applies : {r : Rule} {t : Node} {d x : Derivation} {n to n' : ℕ} {code : List I} {p : P} → Chained rows r t d x → is_chain (pattern_of r.pattern) ≡ true → Emits rules (derivation_of x) t n (record { code = code; part = p; to = to; next = n' }) → 64 ≤ n → Applies rules (out-Derivation d).rule (row_of r) t (p ∷ []) to
    chain_applies {r} {t} {d} {x} {n} {to} {n'} {code} {p} c chain one low =
        let w = takes m rules obeys one in
        let b = w.low in
        let qs = all_registers rules (p ∷ []) in
        record {
          place = (out-Derivation d).rule - 1;
          number_is = c.here.number_is;
          row_is = row_is rows rules.rows ((out-Derivation d).rule - 1) r are c.here.row;
          meetings = (c.nonterminal, t) ∷ [];
          fits = c.here.fits ∙ ap Some c.meetings;
          hand = (hands rules rows are m obeys one c.nonterminal c.derives, tt);
          to_virtual = omega (arith, low, b);
          limit = n';
          parts_virtual = in_range n n' qs low (λ q i. w.registers q (registers_one m rules obeys q p i));
          new = or_left (is_chain (pattern_of r.pattern)) (not (among to qs)) chain;
        }

    pub applies_chain : {r : Rule} {t : Node} {d x : Derivation} {n to n' : ℕ} {code : List I} {p : P} {ps : List P} → Chained rows r t d x → is_chain (pattern_of r.pattern) ≡ true → Emits rules (derivation_of x) t n (record { code = code; part = p; to = to; next = n' }) → 64 ≤ n → ps ≡ p ∷ [] → Applies rules (out-Derivation d).rule (row_of r) t ps to
    applies_chain {r} {t} {d} {x} {n} {to} {n'} {code} {p} {ps} c chain one low are =
        subst (λ l. Applies rules (out-Derivation d).rule (row_of r) t l to) (sym are) (chain_applies c chain one low)

    whole_emits : (d : Derivation) (xs : List MDerivation) (t : Node) (n : ℕ) (e : Emitted I P) → xs_of d ≡ xs → Emits rules (Apply (out-Derivation d).rule (parts_of xs)) t n e → Emits rules (derivation_of d) t n e
    whole_emits d xs t n e are one =
        subst (λ x. Emits rules x t n e) (sym (derivation_out d)) (subst (λ l. Emits rules (Apply (out-Derivation d).rule (parts_of l)) t n e) (sym are) one)

    -- a chain rule's code behind its part's
    pub added_chain : {r : Rule} {t : Node} {d x : Derivation} {n n' to : ℕ} {old mid new : List I} {p q : P} {ps : List P} → Chained rows r t d x → is_chain (pattern_of r.pattern) ≡ true → 64 ≤ n → Added rules (derivation_of x) t n n' old mid p to → ps ≡ p ∷ [] → new ≡ mid ++ rules.code (out-Derivation d).rule t ps to → q ≡ rules.part (out-Derivation d).rule t ps to → Added rules (derivation_of d) t n n' old new q to
    added_chain {r} {t} {d} {x} {n} {n'} {to} {old} {mid} {new} {p} {q} {ps} w chain low a are e f =
        let number = (out-Derivation d).rule in
        let c = rules.code number t (p ∷ []) to in
        let done : Emits rules (Apply number (parts_of (derivation_of x ∷ []))) t n (record { code = a.code ++ c; part = rules.part number t (p ∷ []) to; to = to; next = n' }) = ByChain a.emits chain (chain_applies w chain a.emits low) in
        let same : q ≡ rules.part number t (p ∷ []) to = f ∙ ap (λ l. rules.part number t l to) are in
        record {
          code = a.code ++ c;
          appended = e ∙ ap (λ l. mid ++ rules.code number t l to) are ∙ ap (λ l. l ++ c) a.appended ∙ append_assoc old a.code c;
          emits = whole_emits d (derivation_of x ∷ []) t n _ w.parts (subst (λ y. Emits rules (Apply number (parts_of (derivation_of x ∷ []))) t n (record { code = a.code ++ c; part = y; to = to; next = n' })) (sym same) done);
        }

    -- another rule's code behind its parts'
    pub added_rule : {r : Rule} {t : Node} {n n' to free : ℕ} {old mid new : List I} {ps : List P} {q : P} (d : Derivation) → Here rows r (out-Derivation d).rule t (xs_of d) → is_chain (pattern_of r.pattern) ≡ false → AddedAll rules (xs_of d) (meetings_at (pattern_of r.pattern) t) n n' old mid ps → 64 ≤ n → to ≡ n' → free ≡ n' + one_where (gives (head_of t)) → new ≡ mid ++ rules.code (out-Derivation d).rule t ps to → q ≡ rules.part (out-Derivation d).rule t ps to → Added rules (derivation_of d) t n free old new q to
    added_rule {r} {t} {n} {n'} {to} {free} {old} {mid} {new} {ps} {q} d h chain a low is next e f =
        let number = (out-Derivation d).rule in
        let es : EmittedAll I P = record { code = a.code; parts = ps; next = n' } in
        let c = rules.code number t ps n' in
        let done : Emits rules (Apply number (parts_of (xs_of d))) t n (record { code = a.code ++ c; part = rules.part number t ps n'; to = n'; next = n' + one_where (gives (head_of t)) }) = ByRule a.emits h.fits chain (applies h a.emits low refl) in
        let same : q ≡ rules.part number t ps n' = f ∙ ap (λ r. rules.part number t ps r) is in
        let with_part = subst (λ y. Emits rules (Apply number (parts_of (xs_of d))) t n (record { code = a.code ++ c; part = y; to = n'; next = n' + one_where (gives (head_of t)) })) (sym same) done in
        let with_next = subst (λ y. Emits rules (Apply number (parts_of (xs_of d))) t n (record { code = a.code ++ c; part = q; to = n'; next = y })) (sym next) with_part in
        record {
          code = a.code ++ c;
          appended = e ∙ ap (λ r. mid ++ rules.code number t ps r) is ∙ ap (λ l. l ++ c) a.appended ∙ append_assoc old a.code c;
          emits = whole_emits d (xs_of d) t n _ refl (subst (λ y. Emits rules (Apply number (parts_of (xs_of d))) t n (record { code = a.code ++ c; part = q; to = y; next = free })) (sym is) with_next);
        }
