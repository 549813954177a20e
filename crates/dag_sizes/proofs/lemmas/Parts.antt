-- What a block does is a part of what it would do with all its nodes.
use Rattle.std.proofs.Common.{◌≡◌, ⊎_elim, ℕ, suc, ◌+◌, ◌≤◌, Bool, true, false, true≢false, List, [], ◌∷◌, ◌++◌, inl, inr, refl, sym, ap, ◌∙◌, subst, arith}
use Rattle.std.specs.Prelude.{◌⊎◌, if◌then◌else◌}
use Rattle.dag_forest.specs.declared.act.Act.{Act}
use Rattle.dag_forest.specs.declared.act.Act.TheVariants.{Made, Acts}
use Rattle.dag_forest.specs.declared.entry.Entry.{Entry}
use Rattle.dag_forest.specs.declared.entry.Entry.TheVariants.{Value, Root}
use Rattle.dag_forest.specs.Choice.{counts, in_kids, late, is_above, ends_stretch}
use Rattle.dag_forest.specs.Entries.{is_call}
use Rattle.dag_forest.specs.Schedules.{waits, is_in, parted, reversed, kids_list, with_below, with_other, in_turn, all_uses, used, acts_of}
use Rattle.dag_seam.specs.Turns.{waiting_behind, waiting}
use Rattle.dag_seam.proofs.lemmas.UsedCalls.{CallsUsed, calls_used}
use Rattle.dag_sizes.specs.Weights.{all_acts}
use Rattle.dag_sizes.proofs.lemmas.Uses.{not_used}

-- the second acts are the first ones, but for nodes that they don't use; a call is left out behind all of them alone
abbrev pub IsPart : List Act → List Act → Type 0
IsPart [] xs = xs ≡ []
IsPart (Made n x ∷ full) xs = ((rest : List Act) × (xs ≡ Made n x ∷ rest) × IsPart full rest) ⊎ ((counts xs n ≡ 0) × ((is_call x.operator.op ≡ false) ⊎ (xs ≡ [])) × IsPart full xs)
IsPart (Acts x ∷ full) xs = (rest : List Act) × (xs ≡ Acts x ∷ rest) × IsPart full rest

pub counts_less : (full xs : List Act) (m : ℕ) → IsPart full xs → counts xs m ≤ counts full m
counts_less [] xs m h = let e : counts xs m ≡ 0 = ap (λ z. counts z m) h in omega (arith, e)
counts_less (Made n x ∷ full) xs m h = ⊎_elim
    (λ k. let e : counts xs m ≡ in_kids x.kids m + counts k.0 m = ap (λ z. counts z m) k.1 in let l = counts_less full k.0 m k.2 in omega (arith, e, l))
    (λ d. let l = counts_less full xs m d.2 in omega (arith, l))
    h
counts_less (Acts x ∷ full) xs m h = let e : counts xs m ≡ in_kids x.kids m + counts h.0 m = ap (λ z. counts z m) h.1 in let l = counts_less full h.0 m h.2 in omega (arith, e, l)

pub not_ended : (b : Bool) (a l : Bool) → b ≡ false → (if b then a else l) ≡ l
not_ended true a l h = absurd (true≢false h)
not_ended false a l h = refl

none_late : (b : Bool) (a l : Bool) → a ≡ false → l ≡ false → (if b then a else l) ≡ false
none_late true a l h e = h
none_late false a l h e = e

-- where the same acts use a node, it is used behind its stretch in both or in none
pub late_same : (full xs : List Act) (m : ℕ) → IsPart full xs → counts xs m ≡ counts full m → late full m ≡ late xs m
late_same [] xs m h e = sym (ap (λ z. late z m) h)
late_same (Made n x ∷ full) xs m h e = ⊎_elim
    (λ k.
    let q : counts xs m ≡ in_kids x.kids m + counts k.0 m = ap (λ z. counts z m) k.1 in
    let d : counts k.0 m ≡ counts full m = omega (arith, q, e) in
    (λ i. if ends_stretch (Made n x) then is_above (sym d i) else late_same full k.0 m k.2 d i) ∙ sym (ap (λ z. late z m) k.1))
    (λ d.
    let l = counts_less full xs m d.2 in
    let q : counts xs m ≡ counts full m = omega (arith, e, l) in
    ⊎_elim
    (λ plain. not_ended (is_call x.operator.op) (is_above (counts full m)) (late full m) plain ∙ late_same full xs m d.2 q)
    (λ empty.
    let none : counts full m ≡ 0 = sym q ∙ ap (λ z. counts z m) empty in
    let l : late xs m ≡ false = ap (λ z. late z m) empty in
    none_late (is_call x.operator.op) (is_above (counts full m)) (late full m) (ap is_above none) (late_same full xs m d.2 q ∙ l) ∙ sym l)
    d.1)
    h
late_same (Acts x ∷ full) xs m h e =
    let q : counts xs m ≡ in_kids x.kids m + counts h.0 m = ap (λ z. counts z m) h.1 in
    let d : counts h.0 m ≡ counts full m = omega (arith, q, e) in
    (λ i. if ends_stretch (Acts x) then is_above (sym d i) else late_same full h.0 m h.2 d i) ∙ sym (ap (λ z. late z m) h.1)

-- ---- what a block does is such a part

part_used : (xs : List Act) → CallsUsed xs → IsPart xs (used xs)
part_used [] h = refl
part_used (Made n x ∷ xs) h = by (is_in n (all_uses (used xs))) (is_call x.operator.op) refl refl (part_used xs h.1)
  where
    by : (b c : Bool) → is_in n (all_uses (used xs)) ≡ b → is_call x.operator.op ≡ c → IsPart xs (used xs) → IsPart (Made n x ∷ xs) (if b then Made n x ∷ used xs else used xs)
    by true c e k p = inl (used xs, refl, p)
    by false true e k p = absurd (true≢false (sym (h.0 k) ∙ e))
    by false false e k p = inr (not_used (used xs) n e, inl k, p)
part_used (Acts x ∷ xs) h = (used xs, refl, part_used xs h)

-- nodes alone
abbrev AreNodes : List Act → Type 0
AreNodes [] = Unit {0}
AreNodes (Made n x ∷ as') = AreNodes as'
AreNodes (Acts x ∷ as') = ⊥

part_nodes : (xs : List Act) → AreNodes xs → IsPart xs []
part_nodes [] h = refl
part_nodes (Made n x ∷ xs) h = inr (refl, inr refl, part_nodes xs h)
part_nodes (Acts x ∷ xs) h = absurd h

part_append : (full tail xs : List Act) → IsPart full xs → IsPart tail [] → IsPart (full ++ tail) xs
part_append [] tail xs h t = subst (λ z. IsPart tail z) (sym h) t
part_append (Made n x ∷ full) tail xs h t = ⊎_elim
    (λ k. inl (k.0, k.1, part_append full tail k.0 k.2 t))
    (λ d. inr (d.0, d.1, part_append full tail xs d.2 t))
    h
part_append (Acts x ∷ full) tail xs h t = (h.0, h.1, part_append full tail h.0 h.2 t)

nodes_append : (xs ys : List Act) → AreNodes xs → AreNodes ys → AreNodes (xs ++ ys)
nodes_append [] ys h g = g
nodes_append (Made n x ∷ xs) ys h g = nodes_append xs ys h g
nodes_append (Acts x ∷ xs) ys h g = absurd h

nodes_reversed : (xs : List Act) → AreNodes xs → AreNodes (reversed xs)
nodes_reversed [] h = tt
nodes_reversed (Made n x ∷ xs) h = nodes_append (reversed xs) (Made n x ∷ []) (nodes_reversed xs h) tt
nodes_reversed (Acts x ∷ xs) h = absurd h

nodes_others : (ns : List ℕ) (xs : List Act) → AreNodes xs → AreNodes (parted ns xs).others
nodes_others ns [] h = tt
nodes_others ns (Made n x ∷ xs) h = by (is_in n ns) (nodes_others (ns ++ kids_list x.kids) xs h) (nodes_others ns xs h)
  where
    by : (b : Bool) → AreNodes (parted (ns ++ kids_list x.kids) xs).others → AreNodes (parted ns xs).others → AreNodes (if b then with_below (Made n x) (parted (ns ++ kids_list x.kids) xs) else with_other (Made n x) (parted ns xs)).others
    by true f g = f
    by false f g = nodes_append (parted ns xs).others (Made n x ∷ []) g tt
nodes_others ns (Acts x ∷ xs) h = absurd h

nodes_wait : (es : List Entry) (n : ℕ) (pending : List Act) → AreNodes pending → AreNodes (waiting_behind es n pending)
nodes_wait [] n pending h = h
nodes_wait (Value x ∷ es) n pending h = by (waits x pending) (nodes_wait es (suc n) (pending ++ Made n x ∷ []) (nodes_append pending (Made n x ∷ []) h tt)) (nodes_wait es (suc n) pending h)
  where
    by : (b : Bool) → AreNodes (waiting_behind es (suc n) (pending ++ Made n x ∷ [])) → AreNodes (waiting_behind es (suc n) pending) → AreNodes (if b then waiting_behind es (suc n) (pending ++ Made n x ∷ []) else waiting_behind es (suc n) pending)
    by true f g = f
    by false f g = g
nodes_wait (Root x ∷ es) n pending h = nodes_wait es n (parted (kids_list x.kids) (reversed pending)).others (nodes_others (kids_list x.kids) (reversed pending) (nodes_reversed pending h))

pub acts_part : (es : List Entry) → IsPart (all_acts es) (acts_of es)
acts_part es = part_append (in_turn es 0 []) (waiting es) (acts_of es) (part_used (in_turn es 0 []) (calls_used es 0 [])) (part_nodes (waiting es) (nodes_wait es 0 [] tt))
