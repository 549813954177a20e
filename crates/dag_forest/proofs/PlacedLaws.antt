-- How the nodes stand is as they were chosen.
use Rattle.std.proofs.Common.{◌≡◌, ⊎_elim, ℕ, zero, suc, ◌<◌, ℤ, Bool, true, false, true≢false, Option, Some, None, List, [], ◌∷◌, length, get_or, set, replicate, refl, sym, ap, ◌∙◌, arith, subst}
use Rattle.std.specs.Prelude.{not, ◌&&◌}
use Rattle.std.proofs.lemmas.Bool.{cases_eq}
use Rattle.std.proofs.lemmas.List.{get_or-set_same, get_or-set_other, length-set}
use Rattle.dag_forest.specs.declared.parts.Parts.{Parts}
use Rattle.dag_forest.specs.declared.standing.Standing.{Standing}
use Rattle.dag_forest.specs.declared.standing.Standing.TheVariants.{Whole, Kept}
use Rattle.dag_forest.specs.Entries.{AreBelow}
use Rattle.dag_forest.specs.Schedules.{Act, Made, Acts, at}
use Rattle.dag_forest.specs.Emission.{AreOnce}
use Rattle.dag_forest.specs.NewSlots.{offset_below}
use Rattle.dag_forest.specs.Choice.{Room, reads_by, room_by, next_by, is_wanted, chosen, rooms_to}
use Rattle.dag_forest.specs.Walks.{steps_of}
use Rattle.dag_forest.specs.Standings.{AreStood, nothing, Placed, standing_for, reads_in, placed_node, placed}
use Rattle.dag_forest.proofs.lemmas.Maps.{at_new, at_old}
use Rattle.dag_forest.proofs.Ready.{AllLow}

abbrev pub standing_of : ℤ → Option Room → Parts → Standing
standing_of low None x = Whole x
standing_of low (Some r) x = Kept r.kind (offset_below low r.number)

for_is : (low : ℤ) (w : Bool) (x : Parts) (t : ℕ) → standing_for low w x t ≡ standing_of low (room_by w x t) x
for_is low true x t = refl
for_is low false x t = refl

-- each node that is made stands as it was chosen
abbrev pub AreAsChosen : ℤ → List Standing → (ℕ → Option Room) → List Act → Type 0
AreAsChosen low final kept [] = Unit {0}
AreAsChosen low final kept (Made n x ∷ as') = (get_or final n nothing ≡ standing_of low (kept n) x) × AreAsChosen low final kept as'
AreAsChosen low final kept (Acts x ∷ as') = AreAsChosen low final kept as'

reads_set : (reads : List Bool) (n : ℕ) (b : Bool) → n < length reads → reads_in (set reads n b) ≡ at (reads_in reads) n b
reads_set reads n b l = λ i m. each m i
  where
    each : (m : ℕ) → reads_in (set reads n b) m ≡ at (reads_in reads) n b m
    each m = ⊎_elim
        (λ q. ap (reads_in (set reads n b)) q ∙ get_or-set_same reads n b false l ∙ sym (ap (at (reads_in reads) n b) q ∙ at_new (reads_in reads) n b))
        (λ q. get_or-set_other reads n m b false q ∙ sym (at_old (reads_in reads) n b m q))
        (cases_eq m n)

still_made : (made : ℕ → Bool) (n m : ℕ) → made m ≡ true → at made n true m ≡ true
still_made made n m h = ⊎_elim (λ e. ap (at made n true) e ∙ at_new made n true) (λ ne. at_old made n true m ne ∙ h) (cases_eq m n)

not_whole : (w : Bool) (x y : Parts) (low : ℤ) (t : ℕ) → standing_for low w x t ≡ Whole y → x ≡ y
not_whole true x y low t e = let no : ⊥ = cc in absurd no
not_whole false x y low t e = cc

module _ (low : ℤ) where
  -- a node that is made stays as it stands
  untouched : (xs : List Act) (p : Placed) (made : ℕ → Bool) → AreOnce xs made → (m : ℕ) → made m ≡ true → get_or (placed low p (steps_of xs)).standing m nothing ≡ get_or p.standing m nothing
  untouched [] p made once m is = refl
  untouched (Made n x ∷ as') p made once m is =
      let w = is_wanted as' (reads_in p.reads) n x in
      untouched as' (placed_node low p n x w) (at made n true) once.1 m (still_made made n m is)
      ∙ get_or-set_other p.standing n m (standing_for low w x p.slots) nothing (λ q. true≢false (sym is ∙ ap made q ∙ once.0))
  untouched (Acts x ∷ as') p made once m is = untouched as' p made once m is

  pub as_chosen : (xs : List Act) (p : Placed) (made : ℕ → Bool) (kept : ℕ → Option Room) → AreOnce xs made → AllLow (length p.standing) xs → length p.reads ≡ length p.standing → ((m : ℕ) → made m ≡ false → kept m ≡ chosen xs (reads_in p.reads) p.slots m) → AreAsChosen low (placed low p (steps_of xs)).standing kept xs
  as_chosen [] p made kept once lows len same = tt
  as_chosen (Made n x ∷ as') p made kept once lows len same =
      let w = is_wanted as' (reads_in p.reads) n x in
      let b = not w && reads_by (reads_in p.reads) x in
      let q = placed_node low p n x w in
      let within : n < length p.standing = lows.0.0 in
      let room : kept n ≡ room_by w x p.slots = same n once.0 ∙ at_new (chosen as' (at (reads_in p.reads) n b) (next_by w p.slots)) n (room_by w x p.slots) in (
        untouched as' q (at made n true) once.1 n (at_new made n true) ∙ get_or-set_same p.standing n (standing_for low w x p.slots) nothing within ∙ for_is low w x p.slots ∙ ap (λ k. standing_of low k x) (sym room),
        as_chosen as' q (at made n true) kept once.1 (subst (λ k. AllLow k as') (sym (length-set p.standing n (standing_for low w x p.slots))) lows.1)
            (length-set p.reads n b ∙ len ∙ sym (length-set p.standing n (standing_for low w x p.slots)))
            (λ m is.
            let ne : m ≡ n → ⊥ = λ e. true≢false (sym (ap (at made n true) e ∙ at_new made n true) ∙ is) in
            same m (sym (at_old made n true m ne) ∙ is) ∙ at_old (chosen as' (at (reads_in p.reads) n b) (next_by w p.slots)) n (room_by w x p.slots) m ne
            ∙ ap (λ r. chosen as' r (next_by w p.slots) m) (sym (reads_set p.reads n b (let e = len in omega (arith, e, within))))),
      )
  as_chosen (Acts x ∷ as') p made kept once lows len same = as_chosen as' p made kept once lows.1 len same

  pub slots_are : (xs : List Act) (p : Placed) → AllLow (length p.standing) xs → length p.reads ≡ length p.standing → (placed low p (steps_of xs)).slots ≡ rooms_to xs (reads_in p.reads) p.slots
  slots_are [] p lows len = refl
  slots_are (Made n x ∷ as') p lows len =
      let w = is_wanted as' (reads_in p.reads) n x in
      let b = not w && reads_by (reads_in p.reads) x in
      let within : n < length p.standing = lows.0.0 in
      slots_are as' (placed_node low p n x w) (subst (λ k. AllLow k as') (sym (length-set p.standing n (standing_for low w x p.slots))) lows.1)
      (length-set p.reads n b ∙ len ∙ sym (length-set p.standing n (standing_for low w x p.slots)))
      ∙ ap (λ r. rooms_to as' r (next_by w p.slots)) (reads_set p.reads n b (let e = len in omega (arith, e, within)))
  slots_are (Acts x ∷ as') p lows len = slots_are as' p lows.1 len

  pub are_stood : (xs : List Act) (p : Placed) → AllLow (length p.standing) xs → AreStood p.standing → AreStood (placed low p (steps_of xs)).standing
  are_stood [] p lows are = are
  are_stood (Made n x ∷ as') p lows are =
      let w = is_wanted as' (reads_in p.reads) n x in
      are_stood as' (placed_node low p n x w) (subst (λ k. AllLow k as') (sym (length-set p.standing n (standing_for low w x p.slots))) lows.1)
      (λ i y e. ⊎_elim
      (λ q. subst (λ z. AreBelow z y.kids) (sym q) (subst (λ z. AreBelow n z.kids) (not_whole w x y low p.slots (sym (get_or-set_same p.standing n (standing_for low w x p.slots) nothing lows.0.0) ∙ ap (λ z. get_or (set p.standing n (standing_for low w x p.slots)) z nothing) (sym q) ∙ e)) lows.0.1))
      (λ q. are i y (sym (get_or-set_other p.standing n i (standing_for low w x p.slots) nothing q) ∙ e))
      (cases_eq i n))
  are_stood (Acts x ∷ as') p lows are = are_stood as' p lows.1 are

  pub length_is : (xs : List Act) (p : Placed) → length (placed low p (steps_of xs)).standing ≡ length p.standing
  length_is [] p = refl
  length_is (Made n x ∷ as') p = let w = is_wanted as' (reads_in p.reads) n x in length_is as' (placed_node low p n x w) ∙ length-set p.standing n (standing_for low w x p.slots)
  length_is (Acts x ∷ as') p = length_is as' p

same_all : {A : Type 0} (n i : ℕ) (a : A) → get_or (replicate n a) i a ≡ a
same_all zero i a = refl
same_all (suc n) zero a = refl
same_all (suc n) (suc i) a = same_all n i a

pub reads_none : (nodes : ℕ) → reads_in (replicate nodes false) ≡ (λ m. false)
reads_none nodes = λ i m. same_all nodes m false i

nothing_below : (i : ℕ) (x : Parts) → nothing ≡ Whole x → AreBelow i x.kids
nothing_below i x e = subst (λ (s : Standing). BelowIn s) e tt
  where
    BelowIn : Standing → Type 0
    BelowIn (Whole y) = AreBelow i y.kids
    BelowIn (Kept k o) = Unit {0}

pub none_stood : (nodes : ℕ) → AreStood (replicate nodes nothing)
none_stood nodes i x e = nothing_below i x (sym (same_all nodes i nothing) ∙ e)
