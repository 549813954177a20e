-- Which nodes a block makes, as it grows.
use Rattle.std.proofs.Common.{◌≡◌, ⊎_elim, ℕ, suc, ◌+◌, ◌<◌, Bool, true, false, true≢false, List, [], ◌∷◌, ◌++◌, inl, inr, refl, sym, ap, ◌∙◌, arith}
use Rattle.std.specs.Prelude.{◌⊎◌, if◌then◌else◌}
use Rattle.std.proofs.lemmas.Bool.{cases_eq}
use Rattle.dag_forest.specs.declared.act.Act.{Act}
use Rattle.dag_forest.specs.declared.act.Act.TheVariants.{Made, Acts}
use Rattle.dag_forest.specs.declared.entry.Entry.{Entry}
use Rattle.dag_forest.specs.declared.entry.Entry.TheVariants.{Value, Root}
use Rattle.dag_forest.specs.Schedules.{at, waits, is_in, parted, reversed, kids_list, kids_of, number_of, with_below, with_other, in_turn}
use Rattle.dag_forest.specs.Tally.{node_count}
use Rattle.dag_seam.specs.Turns.{waiting_behind, made_behind, made_of, Makes}
use Rattle.dag_forest.proofs.lemmas.Maps.{at_old, still_made}
use Rattle.dag_seam.proofs.lemmas.Turns.{turns_append, made_append}

pub still_behind : (xs : List Act) (made : ℕ → Bool) (m : ℕ) → made m ≡ true → made_behind xs made m ≡ true
still_behind [] made m h = h
still_behind (Made n x ∷ xs) made m h = still_behind xs (at made n true) m (still_made made n m h)
still_behind (Acts x ∷ xs) made m h = still_behind xs made m h

pub made_or : (xs : List Act) (made : ℕ → Bool) (m : ℕ) → made_behind xs made m ≡ true → (made m ≡ true) ⊎ Makes m xs
made_or [] made m h = inl h
made_or (Made n x ∷ xs) made m h = ⊎_elim
    (λ e. ⊎_elim (λ q. inr (inl q)) (λ q. inl (sym (at_old made n true m q) ∙ e)) (cases_eq m n))
    (λ e. inr (inr e))
    (made_or xs (at made n true) m h)
made_or (Acts x ∷ xs) made m h = made_or xs made m h

pub makes_cases : (m : ℕ) (xs ys : List Act) → Makes m (xs ++ ys) → Makes m xs ⊎ Makes m ys
makes_cases m [] ys h = inr h
makes_cases m (Made n x ∷ xs) ys h = ⊎_elim (λ e. inl (inl e)) (λ e. ⊎_elim (λ q. inl (inr q)) (λ q. inr q) (makes_cases m xs ys e)) h
makes_cases m (Acts x ∷ xs) ys h = makes_cases m xs ys h

makes_reversed : (m : ℕ) (xs : List Act) → Makes m (reversed xs) → Makes m xs
makes_reversed m [] h = h
makes_reversed m (Made n x ∷ xs) h = ⊎_elim (λ e. inr (makes_reversed m xs e)) (λ e. ⊎_elim (λ q. inl q) (λ q. absurd q) e) (makes_cases m (reversed xs) (Made n x ∷ []) h)
makes_reversed m (Acts x ∷ xs) h = ⊎_elim (λ e. makes_reversed m xs e) (λ e. absurd e) (makes_cases m (reversed xs) (Acts x ∷ []) h)

makes_first : (m : ℕ) (a : Act) (xs : List Act) → Makes m xs → Makes m (a ∷ xs)
makes_first m (Made n x) xs h = inr h
makes_first m (Acts x) xs h = h

makes_one : (m : ℕ) (a : Act) (xs : List Act) → Makes m (a ∷ []) → Makes m (a ∷ xs)
makes_one m (Made n x) xs h = ⊎_elim (λ e. inl e) (λ e. absurd e) h
makes_one m (Acts x) xs h = absurd h

makes_parted : (m : ℕ) (xs : List Act) (ns : List ℕ) → (Makes m (parted ns xs).below → Makes m xs) × (Makes m (parted ns xs).others → Makes m xs)
makes_parted m [] ns = (λ h. h, λ h. h)
makes_parted m (a ∷ xs) ns = by (is_in (number_of a) ns) (makes_parted m xs (ns ++ kids_list (kids_of a))) (makes_parted m xs ns)
  where
    by : (b : Bool) → (Makes m (parted (ns ++ kids_list (kids_of a)) xs).below → Makes m xs) × (Makes m (parted (ns ++ kids_list (kids_of a)) xs).others → Makes m xs) → (Makes m (parted ns xs).below → Makes m xs) × (Makes m (parted ns xs).others → Makes m xs)
        → (Makes m (if b then with_below a (parted (ns ++ kids_list (kids_of a)) xs) else with_other a (parted ns xs)).below → Makes m (a ∷ xs)) × (Makes m (if b then with_below a (parted (ns ++ kids_list (kids_of a)) xs) else with_other a (parted ns xs)).others → Makes m (a ∷ xs))
    by true f g = (λ h. ⊎_elim (λ e. makes_first m a xs (f.0 e)) (λ e. makes_one m a xs e) (makes_cases m (parted (ns ++ kids_list (kids_of a)) xs).below (a ∷ []) h), λ h. makes_first m a xs (f.1 h))
    by false f g = (λ h. makes_first m a xs (g.0 h), λ h. ⊎_elim (λ e. makes_first m a xs (g.1 e)) (λ e. makes_one m a xs e) (makes_cases m (parted ns xs).others (a ∷ []) h))

makes_turn : (m : ℕ) (es : List Entry) (n : ℕ) (pending : List Act) → Makes m (in_turn es n pending) → Makes m pending ⊎ (m < n + node_count es)
makes_turn m [] n pending h = absurd h
makes_turn m (Value x ∷ es) n pending h = by (waits x pending) (makes_turn m es (suc n) (pending ++ Made n x ∷ [])) (makes_turn m es (suc n) pending) h
  where
    far : m < suc n + node_count es → m < n + suc (node_count es)
    far l = omega (arith, l)

    here : m ≡ n → m < n + suc (node_count es)
    here e = omega (arith, e)

    by : (b : Bool) → (Makes m (in_turn es (suc n) (pending ++ Made n x ∷ [])) → Makes m (pending ++ Made n x ∷ []) ⊎ (m < suc n + node_count es)) → (Makes m (in_turn es (suc n) pending) → Makes m pending ⊎ (m < suc n + node_count es))
        → Makes m (if b then in_turn es (suc n) (pending ++ Made n x ∷ []) else Made n x ∷ in_turn es (suc n) pending) → Makes m pending ⊎ (m < n + suc (node_count es))
    by true f g h = ⊎_elim (λ e. ⊎_elim (λ q. inl q) (λ q. inr (⊎_elim (λ z. here z) (λ z. absurd z) q)) (makes_cases m pending (Made n x ∷ []) e)) (λ e. inr (far e)) (f h)
    by false f g h = ⊎_elim (λ e. inr (here e)) (λ e. ⊎_elim (λ q. inl q) (λ q. inr (far q)) (g e)) h
makes_turn m (Root x ∷ es) n pending h =
    let p = parted (kids_list x.kids) (reversed pending) in
    ⊎_elim
    (λ e. inl (makes_reversed m pending ((makes_parted m (reversed pending) (kids_list x.kids)).0 e)))
    (λ e. ⊎_elim (λ q. inl (makes_reversed m pending ((makes_parted m (reversed pending) (kids_list x.kids)).1 q))) (λ q. inr q) (makes_turn m es n p.others e))
    (makes_cases m p.below (Acts x ∷ in_turn es n p.others) h)

-- a node of the block has a number below that of its nodes
pub makes_below : (es : List Entry) (m : ℕ) → Makes m (in_turn es 0 []) → m < node_count es
makes_below es m h = ⊎_elim (λ e. absurd e) (λ e. (let l : m < 0 + node_count es = e in omega (arith, l))) (makes_turn m es 0 [] h)

pub made_below : (es : List Entry) (m : ℕ) → made_of es m ≡ true → m < node_count es
made_below es m h = ⊎_elim (λ e. absurd (true≢false (sym e))) (λ e. makes_below es m e) (made_or (in_turn es 0 []) (λ k. false) m h)

not_made_by : (b : Bool) → (b ≡ true → ⊥) → b ≡ false
not_made_by true h = absurd (h refl)
not_made_by false h = refl

pub next_unmade : (es : List Entry) → made_of es (node_count es) ≡ false
next_unmade es = not_made_by (made_of es (node_count es)) (λ e. let l = made_below es (node_count es) e in omega (arith, l))

pub made_further : (es fs : List Entry) → made_of (es ++ fs) ≡ made_behind (in_turn fs (0 + node_count es) (waiting_behind es 0 [])) (made_of es)
made_further es fs = ap (λ z. made_behind z (λ m. false)) (turns_append es fs 0 []) ∙ made_append (in_turn es 0 []) (in_turn fs (0 + node_count es) (waiting_behind es 0 [])) (λ m. false)

-- what was made is made behind further entries
pub made_more : (es fs : List Entry) (m : ℕ) → made_of (es ++ fs) m ≡ false → made_of es m ≡ false
made_more es fs m h = not_made_by (made_of es m) (λ e. true≢false (sym (ap (λ f. f m) (made_further es fs) ∙ still_behind (in_turn fs (0 + node_count es) (waiting_behind es 0 [])) (made_of es) m e) ∙ h))
