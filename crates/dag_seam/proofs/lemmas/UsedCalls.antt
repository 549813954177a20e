-- Each call that a block makes is used by what acts behind it.
use Rattle.std.proofs.Common.{◌≡◌, ⊎_elim, ℕ, suc, Bool, true, false, true≢false, List, [], ◌∷◌, ◌++◌, refl, sym, ap, ◌∙◌, subst, append_assoc}
use Rattle.std.specs.Prelude.{if◌then◌else◌}
use Rattle.dag_forest.specs.declared.act.Act.{Act}
use Rattle.dag_forest.specs.declared.act.Act.TheVariants.{Made, Acts}
use Rattle.dag_forest.specs.declared.entry.Entry.{Entry}
use Rattle.dag_forest.specs.declared.entry.Entry.TheVariants.{Value, Root}
use Rattle.dag_forest.specs.Entries.{is_call}
use Rattle.dag_forest.specs.Schedules.{waits, has_kid_in, is_in, numbers, parted, reversed, kids_list, kids_of, number_of, with_below, with_other, in_turn, uses_of, all_uses, used}
use Rattle.dag_seam.proofs.lemmas.Within.{or_false, in_left, in_right, in_cases}

used_act : (a : Act) (later : List Act) → is_in (number_of a) (all_uses (used later)) ≡ true → used (a ∷ later) ≡ a ∷ used later
used_act (Made n x) later h = ap (λ b. if b then Made n x ∷ used later else used later) h
used_act (Acts x) later h = refl

-- each of the first acts is used by those behind it
abbrev AllUsed : List Act → List Act → Type 0
AllUsed [] later = Unit {0}
AllUsed (a ∷ as') later = (is_in (number_of a) (all_uses (used (as' ++ later))) ≡ true) × AllUsed as' later

used_snoc : (xs : List Act) (a : Act) (later : List Act) → AllUsed xs (a ∷ later) → is_in (number_of a) (all_uses (used later)) ≡ true → AllUsed (xs ++ a ∷ []) later
used_snoc [] a later h u = (u, tt)
used_snoc (b ∷ xs) a later h u = (subst (λ z. is_in (number_of b) (all_uses (used z)) ≡ true) (sym (append_assoc xs (a ∷ []) later)) h.0, used_snoc xs a later h.1 u)

below_used : (ns : List ℕ) (xs later : List Act) → ((m : ℕ) → is_in m ns ≡ true → is_in m (all_uses (used later)) ≡ true) → AllUsed (parted ns xs).below later
below_used ns [] later h = tt
below_used ns (a ∷ xs) later h = by (is_in (number_of a) ns) refl (below_used (ns ++ kids_list (kids_of a)) xs (a ∷ later)) (below_used ns xs later h)
  where
    by : (b : Bool) → is_in (number_of a) ns ≡ b → (((m : ℕ) → is_in m (ns ++ kids_list (kids_of a)) ≡ true → is_in m (all_uses (used (a ∷ later))) ≡ true) → AllUsed (parted (ns ++ kids_list (kids_of a)) xs).below (a ∷ later)) → AllUsed (parted ns xs).below later
        → AllUsed (if b then with_below a (parted (ns ++ kids_list (kids_of a)) xs) else with_other a (parted ns xs)).below later
    by true e f g = used_snoc (parted (ns ++ kids_list (kids_of a)) xs).below a later
        (f
        (λ m i. subst (λ z. is_in m (all_uses z) ≡ true) (sym (used_act a later (h (number_of a) e)))
        (⊎_elim (λ q. in_right m (uses_of a) (all_uses (used later)) (h m q)) (λ q. in_left m (uses_of a) (all_uses (used later)) q) (in_cases m ns (kids_list (kids_of a)) i))))
        (h (number_of a) e)
    by false e f g = g

-- each call is used by what is made or acts behind it
abbrev pub CallsUsed : List Act → Type 0
CallsUsed [] = Unit {0}
CallsUsed (Made n x ∷ as') = (is_call x.operator.op ≡ true → is_in n (all_uses (used as')) ≡ true) × CallsUsed as'
CallsUsed (Acts x ∷ as') = CallsUsed as'

calls_append : (xs ys : List Act) → AllUsed xs ys → CallsUsed ys → CallsUsed (xs ++ ys)
calls_append [] ys h g = g
calls_append (Made n x ∷ xs) ys h g = (λ e. h.0, calls_append xs ys h.1 g)
calls_append (Acts x ∷ xs) ys h g = calls_append xs ys h.1 g

pub calls_used : (es : List Entry) (n : ℕ) (pending : List Act) → CallsUsed (in_turn es n pending)
calls_used [] n pending = tt
calls_used (Value x ∷ es) n pending = by (waits x pending) refl (calls_used es (suc n) (pending ++ Made n x ∷ [])) (calls_used es (suc n) pending)
  where
    by : (b : Bool) → waits x pending ≡ b → CallsUsed (in_turn es (suc n) (pending ++ Made n x ∷ [])) → CallsUsed (in_turn es (suc n) pending) → CallsUsed (if b then in_turn es (suc n) (pending ++ Made n x ∷ []) else Made n x ∷ in_turn es (suc n) pending)
    by true e f g = f
    by false e f g = (λ c. absurd (true≢false (sym c ∙ (or_false (is_call x.operator.op) (has_kid_in x.kids (numbers pending)) e).0)), g)
calls_used (Root x ∷ es) n pending =
    let p = parted (kids_list x.kids) (reversed pending) in
    calls_append p.below (Acts x ∷ in_turn es n p.others)
    (below_used (kids_list x.kids) (reversed pending) (Acts x ∷ in_turn es n p.others) (λ m i. in_left m (kids_list x.kids) (all_uses (used (in_turn es n p.others))) i))
    (calls_used es n p.others)
