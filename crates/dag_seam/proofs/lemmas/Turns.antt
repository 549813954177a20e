-- What a block does, one front of its entries behind the other.
use Rattle.std.proofs.Common.{◌≡◌, ℕ, suc, ◌+◌, Bool, true, false, List, [], ◌∷◌, ◌++◌, refl, sym, ap, ◌∙◌, arith, append_assoc}
use Rattle.std.specs.Prelude.{if◌then◌else◌, ◌||◌}
use Rattle.dag_forest.specs.declared.entry.Entry.{Entry}
use Rattle.dag_forest.specs.declared.entry.Entry.TheVariants.{Value, Root}
use Rattle.dag_forest.specs.declared.kids.Kids.{Kids}
use Rattle.dag_forest.specs.declared.kids.Kids.TheVariants.{Zero, One, Two}
use Rattle.dag_forest.specs.declared.parts.Parts.{Parts}
use Rattle.dag_forest.specs.Entries.{is_call}
use Rattle.dag_forest.specs.declared.act.Act.{Act}
use Rattle.dag_forest.specs.declared.act.Act.TheVariants.{Made, Acts}
use Rattle.dag_forest.specs.Schedules.{at, waits, has_kid_in, is_in, parted, reversed, kids_list, with_below, with_other, in_turn}
use Rattle.dag_forest.specs.Tally.{node_count}
use Rattle.dag_seam.specs.Turns.{waiting_behind, waiting, made_behind, made_of}
use Rattle.dag_seam.specs.Laws.{GoesOn}

one_more : (n k : ℕ) → n + suc k ≡ suc n + k
one_more n k = omega arith

pub turns_append : (es fs : List Entry) (n : ℕ) (pending : List Act) → in_turn (es ++ fs) n pending ≡ in_turn es n pending ++ in_turn fs (n + node_count es) (waiting_behind es n pending)
turns_append [] fs n pending = let e : n ≡ n + 0 = omega arith in ap (λ k. in_turn fs k pending) e
turns_append (Value x ∷ es) fs n pending = by (waits x pending) (turns_append es fs (suc n) (pending ++ Made n x ∷ [])) (turns_append es fs (suc n) pending)
  where
    by : (b : Bool)
        → in_turn (es ++ fs) (suc n) (pending ++ Made n x ∷ []) ≡ in_turn es (suc n) (pending ++ Made n x ∷ []) ++ in_turn fs (suc n + node_count es) (waiting_behind es (suc n) (pending ++ Made n x ∷ []))
        → in_turn (es ++ fs) (suc n) pending ≡ in_turn es (suc n) pending ++ in_turn fs (suc n + node_count es) (waiting_behind es (suc n) pending)
        → (if b then in_turn (es ++ fs) (suc n) (pending ++ Made n x ∷ []) else Made n x ∷ in_turn (es ++ fs) (suc n) pending)
        ≡ (if b then in_turn es (suc n) (pending ++ Made n x ∷ []) else Made n x ∷ in_turn es (suc n) pending) ++ in_turn fs (n + suc (node_count es)) (if b then waiting_behind es (suc n) (pending ++ Made n x ∷ []) else waiting_behind es (suc n) pending)
    by true h g = h ∙ ap (λ k. in_turn es (suc n) (pending ++ Made n x ∷ []) ++ in_turn fs k (waiting_behind es (suc n) (pending ++ Made n x ∷ []))) (sym (one_more n (node_count es)))
    by false h g = ap (λ z. Made n x ∷ z) (g ∙ ap (λ k. in_turn es (suc n) pending ++ in_turn fs k (waiting_behind es (suc n) pending)) (sym (one_more n (node_count es))))
turns_append (Root x ∷ es) fs n pending =
    let p = parted (kids_list x.kids) (reversed pending) in
    ap (λ z. p.below ++ Acts x ∷ z) (turns_append es fs n p.others) ∙ sym (append_assoc p.below (Acts x ∷ in_turn es n p.others) (in_turn fs (n + node_count es) (waiting_behind es n p.others)))

pub waiting_append : (es fs : List Entry) (n : ℕ) (pending : List Act) → waiting_behind (es ++ fs) n pending ≡ waiting_behind fs (n + node_count es) (waiting_behind es n pending)
waiting_append [] fs n pending = let e : n ≡ n + 0 = omega arith in ap (λ k. waiting_behind fs k pending) e
waiting_append (Value x ∷ es) fs n pending = by (waits x pending) (waiting_append es fs (suc n) (pending ++ Made n x ∷ [])) (waiting_append es fs (suc n) pending)
  where
    by : (b : Bool)
        → waiting_behind (es ++ fs) (suc n) (pending ++ Made n x ∷ []) ≡ waiting_behind fs (suc n + node_count es) (waiting_behind es (suc n) (pending ++ Made n x ∷ []))
        → waiting_behind (es ++ fs) (suc n) pending ≡ waiting_behind fs (suc n + node_count es) (waiting_behind es (suc n) pending)
        → (if b then waiting_behind (es ++ fs) (suc n) (pending ++ Made n x ∷ []) else waiting_behind (es ++ fs) (suc n) pending)
        ≡ waiting_behind fs (n + suc (node_count es)) (if b then waiting_behind es (suc n) (pending ++ Made n x ∷ []) else waiting_behind es (suc n) pending)
    by true h g = h ∙ ap (λ k. waiting_behind fs k (waiting_behind es (suc n) (pending ++ Made n x ∷ []))) (sym (one_more n (node_count es)))
    by false h g = g ∙ ap (λ k. waiting_behind fs k (waiting_behind es (suc n) pending)) (sym (one_more n (node_count es)))
waiting_append (Root x ∷ es) fs n pending = waiting_append es fs n (parted (kids_list x.kids) (reversed pending)).others

pub made_append : (xs ys : List Act) (made : ℕ → Bool) → made_behind (xs ++ ys) made ≡ made_behind ys (made_behind xs made)
made_append [] ys made = refl
made_append (Made n x ∷ xs) ys made = made_append xs ys (at made n true)
made_append (Acts x ∷ xs) ys made = made_append xs ys made

-- ---- where nothing waits

module _ (es : List Entry) (free : waiting es ≡ []) where
  pub goes_on : (fs : List Entry) → in_turn (es ++ fs) 0 [] ≡ in_turn es 0 [] ++ in_turn fs (node_count es) []
  goes_on fs = turns_append es fs 0 [] ∙ (λ i. in_turn es 0 [] ++ in_turn fs (zero_less i) (free i))
    where
      zero_less : 0 + node_count es ≡ node_count es
      zero_less = omega arith

  pub waits_on : (fs : List Entry) → waiting (es ++ fs) ≡ waiting_behind fs (node_count es) []
  waits_on fs = waiting_append es fs 0 [] ∙ (λ i. waiting_behind fs (zero_less i) (free i))
    where
      zero_less : 0 + node_count es ≡ node_count es
      zero_less = omega arith

-- no operand is among none
pub none_in : (k : Kids) → has_kid_in k [] ≡ false
none_in Zero = refl
none_in (One a) = refl
none_in (Two a b) = refl

-- a node that is no call
pub node_turn : (x : Parts) (n : ℕ) → is_call x.operator.op ≡ false → in_turn (Value x ∷ []) n [] ≡ Made n x ∷ []
node_turn x n e = ap (λ b. if b then [] else Made n x ∷ []) ((λ i. e i || none_in x.kids i))

pub node_leaves : (x : Parts) (n : ℕ) → is_call x.operator.op ≡ false → waiting_behind (Value x ∷ []) n [] ≡ []
node_leaves x n e = ap (λ b. if b then Made n x ∷ [] else []) ((λ i. e i || none_in x.kids i))

-- a call and its anchor
pub call_turn : (c a : Parts) (n : ℕ) → is_call c.operator.op ≡ true → is_in n (kids_list a.kids) ≡ true → in_turn (Value c ∷ Root a ∷ []) n [] ≡ Made n c ∷ Acts a ∷ []
call_turn c a n e within =
    ap (λ b. if b || has_kid_in c.kids [] then in_turn (Root a ∷ []) (suc n) (Made n c ∷ []) else Made n c ∷ Acts a ∷ []) e
    ∙ ap (λ b. (if b then with_below (Made n c) (parted (kids_list a.kids ++ kids_list c.kids) []) else with_other (Made n c) (parted (kids_list a.kids) [])).below ++ Acts a ∷ []) within

pub call_leaves : (c a : Parts) (n : ℕ) → is_call c.operator.op ≡ true → is_in n (kids_list a.kids) ≡ true → waiting_behind (Value c ∷ Root a ∷ []) n [] ≡ []
call_leaves c a n e within =
    ap (λ b. if b || has_kid_in c.kids [] then waiting_behind (Root a ∷ []) (suc n) (Made n c ∷ []) else []) e
    ∙ ap (λ b. (if b then with_below (Made n c) (parted (kids_list a.kids ++ kids_list c.kids) []) else with_other (Made n c) (parted (kids_list a.kids) [])).others) within

module _ (es : List Entry) (free : waiting es ≡ []) where
  pub node_goes_on : (x : Parts) → is_call x.operator.op ≡ false → GoesOn es (Value x ∷ []) (Made (node_count es) x ∷ [])
  node_goes_on x plain = (
    goes_on es free (Value x ∷ []) ∙ ap (λ z. in_turn es 0 [] ++ z) (node_turn x (node_count es) plain),
    waits_on es free (Value x ∷ []) ∙ node_leaves x (node_count es) plain,
  )

  pub root_goes_on : (x : Parts) → GoesOn es (Root x ∷ []) (Acts x ∷ [])
  root_goes_on x = (goes_on es free (Root x ∷ []), waits_on es free (Root x ∷ []))

  pub call_goes_on : (c a : Parts) → is_call c.operator.op ≡ true → is_in (node_count es) (kids_list a.kids) ≡ true → GoesOn es (Value c ∷ Root a ∷ []) (Made (node_count es) c ∷ Acts a ∷ [])
  call_goes_on c a calls within = (
    goes_on es free (Value c ∷ Root a ∷ []) ∙ ap (λ z. in_turn es 0 [] ++ z) (call_turn c a (node_count es) calls within),
    waits_on es free (Value c ∷ Root a ∷ []) ∙ call_leaves c a (node_count es) calls within,
  )

pub made_goes_on : (es fs : List Entry) (acts : List Act) → GoesOn es fs acts → made_of (es ++ fs) ≡ made_behind acts (made_of es)
made_goes_on es fs acts on = ap (λ z. made_behind z (λ m. false)) on.0 ∙ made_append (in_turn es 0 []) acts (λ m. false)
