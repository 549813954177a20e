-- Each operand of what a split block does has its tree where it is used.
use Rattle.std.proofs.Common.{◌≡◌, ⊎_elim, ℕ, ◌+◌, ◌<◌, Bool, true, false, Option, Some, None, List, [], ◌∷◌, inl, inr, sym, subst, arith}
use Rattle.std.specs.Prelude.{◌⊎◌}
use Rattle.std.proofs.lemmas.Bool.{cases_eq}
use Rattle.dag_forest.specs.declared.act.Act.{Act}
use Rattle.dag_forest.specs.declared.act.Act.TheVariants.{Made, Acts}
use Rattle.dag_forest.specs.declared.kids.Kids.{Kids}
use Rattle.dag_forest.specs.declared.kids.Kids.TheVariants.{Zero, One, Two}
use Rattle.dag_forest.specs.declared.parts.Parts.{Parts}
use Rattle.dag_forest.specs.Choice.{in_kids, counts}
use Rattle.dag_forest.specs.Emission.{AreOnce, Use, Lost, Now, Stable, IsUsable, fade, faded, least, kids_use, read_use, kept_use, IsMade, Takes, HoldsMade, HoldsBehind}
use Rattle.dag_forest.specs.Entries.{is_call, is_read}
use Rattle.dag_forest.specs.Meaning.{is_end, is_handing, Temporary, Keeps}
use Rattle.dag_forest.specs.Schedules.{at}
use Rattle.dag_seam.specs.Turns.{Makes}
use Rattle.dag_forest.proofs.lemmas.Maps.{at_new, at_old}
use Rattle.dag_seam.proofs.lemmas.Once.{not_again}
use Rattle.dag_sizes.proofs.lemmas.Uses.{miss, AreUsed}

abbrev pub AllKids : (ℕ → Type 0) → Kids → Type 0
AllKids P Zero = Unit {0}
AllKids P (One a) = P a
AllKids P (Two a c) = P a × P c

pub all_map : (P Q : ℕ → Type 0) (k : Kids) → ((m : ℕ) → P m → Q m) → AllKids P k → AllKids Q k
all_map P Q Zero f h = tt
all_map P Q (One a) f h = f a h
all_map P Q (Two a c) f h = (f a h.0, f c h.1)

least_usable : (u v : Use) → IsUsable (least u v) → IsUsable u × IsUsable v
least_usable Lost v h = absurd h
least_usable Now Lost h = absurd h
least_usable Now Now h = (tt, tt)
least_usable Now Stable h = (tt, tt)
least_usable Stable v h = (tt, h)

read_usable : (b : Bool) (u : Use) → IsUsable (read_use b u) → IsUsable u
read_usable true Lost h = h
read_usable true Now h = tt
read_usable true Stable h = tt
read_usable false u h = h

pub faded_usable : (b : Bool) (u : Use) → IsUsable (faded b u) → IsUsable u
faded_usable true Lost h = h
faded_usable true Now h = absurd h
faded_usable true Stable h = tt
faded_usable false u h = h

pub kids_usable : (uses : ℕ → Use) (k : Kids) → IsUsable (kids_use uses k) → AllKids (λ m. IsUsable (uses m)) k
kids_usable uses Zero h = tt
kids_usable uses (One a) h = h
kids_usable uses (Two a c) h = least_usable (uses a) (uses c) h

-- one of the operands, or used behind
one_of : (k : Kids) (c m : ℕ) (P : ℕ → Type 0) → 0 < in_kids k m + c → AllKids P k → P m ⊎ (0 < c)
one_of Zero c m P l h = inr (omega (arith, l))
one_of (One a) c m P l h = ⊎_elim (λ e. inl (subst P (sym e) h)) (λ ne. inr (let z = miss m a ne in omega (arith, l, z))) (cases_eq m a)
one_of (Two a b) c m P l h = ⊎_elim (λ e. inl (subst P (sym e) h.0)) (λ ne. ⊎_elim (λ e. inl (subst P (sym e) h.1)) (λ nf. inr (let z = miss m a ne in let y = miss m b nf in omega (arith, l, z, y))) (cases_eq m b)) (cases_eq m a)

module _ (keeps : Keeps) where
  -- what is used has its tree, or is made later
  abbrev AllUsable : List Act → Type 0
  AllUsable xs = (made : ℕ → Bool) (uses : ℕ → Use) → AreOnce xs made → AreUsed xs → HoldsBehind None keeps xs uses → (m : ℕ) → 0 < counts xs m → IsUsable (uses m) ⊎ Makes m xs

  abbrev AllTaken : List Act → Type 0
  AllTaken xs = (n : ℕ) (made : ℕ → Bool) (uses : ℕ → Use) → AreOnce xs made → AreUsed xs → HoldsBehind (Some n) keeps xs uses → (m : ℕ) → (m ≡ n → ⊥) → 0 < counts xs m → IsUsable (uses m) ⊎ Makes m xs

  step_back : (uses : ℕ → Use) (n : ℕ) (b : Bool) (u : Use) (as' : List Act) (m : ℕ) → IsUsable (at (λ k. faded b (uses k)) n u m) ⊎ Makes m as' → IsUsable (uses m) ⊎ ((m ≡ n) ⊎ Makes m as')
  step_back uses n b u as' m h = ⊎_elim
      (λ us. ⊎_elim (λ e. inr (inl e)) (λ ne. inl (faded_usable b (uses m) (subst IsUsable (at_old (λ k. faded b (uses k)) n u m ne) us))) (cases_eq m n))
      (λ e. inr (inr e)) h

  -- the operands of a node that is made
  made_usable : (n : ℕ) (x : Parts) (as' : List Act) → AllUsable as' → (made : ℕ → Bool) (uses : ℕ → Use) → AreOnce as' (at made n true) → AreUsed as' → 0 < counts as' n → (call : Bool) (o : Option Temporary)
      → HoldsMade (is_handing call o) (IsUsable (kids_use uses x.kids) × HoldsBehind (Some n) keeps as' uses) (IsMade (kids_use uses x.kids) o × HoldsBehind None keeps as' (at (λ m. faded call (uses m)) n (kept_use o (read_use (is_read x.operator.op) (kids_use uses x.kids)))))
      → IsUsable (kids_use uses x.kids)
  made_usable n x as' rest made uses once used_ above true None h = h.0
  made_usable n x as' rest made uses once used_ above true (Some z) h = h.0
  made_usable n x as' rest made uses once used_ above false (Some z) h = h.0
  made_usable n x as' rest made uses once used_ above false None h =
      let u = read_use (is_read x.operator.op) (kids_use uses x.kids) in
      ⊎_elim
      (λ us. read_usable (is_read x.operator.op) (kids_use uses x.kids) (subst IsUsable (at_new (λ m. uses m) n u) us))
      (λ e. absurd (not_again as' made n once e))
      (rest (at made n true) (at (λ m. uses m) n u) once used_ h.1 n above)

  made_all : (n : ℕ) (x : Parts) (as' : List Act) → AllUsable as' → AllTaken as' → (made : ℕ → Bool) (uses : ℕ → Use) → AreOnce as' (at made n true) → AreUsed as' → (call : Bool) (o : Option Temporary)
      → HoldsMade (is_handing call o) (IsUsable (kids_use uses x.kids) × HoldsBehind (Some n) keeps as' uses) (IsMade (kids_use uses x.kids) o × HoldsBehind None keeps as' (at (λ m. faded call (uses m)) n (kept_use o (read_use (is_read x.operator.op) (kids_use uses x.kids)))))
      → (m : ℕ) → 0 < counts as' m → IsUsable (uses m) ⊎ ((m ≡ n) ⊎ Makes m as')
  made_all n x as' rest take made uses once used_ true None h m l = ⊎_elim (λ e. inr (inl e)) (λ ne. ⊎_elim (λ us. inl us) (λ e. inr (inr e)) (take n (at made n true) uses once used_ h.1 m ne l)) (cases_eq m n)
  made_all n x as' rest take made uses once used_ true (Some z) h m l = step_back uses n true (kept_use (Some z) (read_use (is_read x.operator.op) (kids_use uses x.kids))) as' m (rest (at made n true) (at (λ k. faded true (uses k)) n (kept_use (Some z) (read_use (is_read x.operator.op) (kids_use uses x.kids)))) once used_ h.1 m l)
  made_all n x as' rest take made uses once used_ false (Some z) h m l = step_back uses n false (kept_use (Some z) (read_use (is_read x.operator.op) (kids_use uses x.kids))) as' m (rest (at made n true) (at (λ k. faded false (uses k)) n (kept_use (Some z) (read_use (is_read x.operator.op) (kids_use uses x.kids)))) once used_ h.1 m l)
  made_all n x as' rest take made uses once used_ false None h m l = step_back uses n false (read_use (is_read x.operator.op) (kids_use uses x.kids)) as' m (rest (at made n true) (at (λ k. faded false (uses k)) n (read_use (is_read x.operator.op) (kids_use uses x.kids))) once used_ h.1 m l)

  acts_taken : (x : Parts) (as' : List Act) → AllUsable as' → AllTaken (Acts x ∷ as')
  acts_taken x as' rest n made uses once used_ holds m ne l = ⊎_elim
      (λ p. inl (p ne))
      (λ k. ⊎_elim (λ us. inl (back (faded_usable (is_end x) (at (λ k. fade (uses k)) n Lost m) us))) (λ e. inr e) (rest made (λ k. faded (is_end x) (at (λ k. fade (uses k)) n Lost k)) once used_ holds.1 m k))
      (one_of x.kids (counts as' m) m (λ a. (a ≡ n → ⊥) → IsUsable (uses a)) l (takes x.kids holds.0))
    where
      back : IsUsable (at (λ k. fade (uses k)) n Lost m) → IsUsable (uses m)
      back us = faded_usable true (uses m) (subst IsUsable (at_old (λ k. fade (uses k)) n Lost m ne) us)

      takes : (k : Kids) → Takes n uses k → AllKids (λ a. (a ≡ n → ⊥) → IsUsable (uses a)) k
      takes Zero h = absurd h
      takes (One a) h = λ ne. absurd (ne h)
      takes (Two a c) h = ((λ ne. h.2), (λ ne. absurd (ne h.0)))

  both : (xs : List Act) → AllUsable xs × AllTaken xs
  both [] = (λ made uses once used_ holds m l. absurd (let z : 0 < 0 = l in omega (arith, z)), λ n made uses once used_ holds m ne l. absurd holds)
  both (Made n x ∷ as') = (
    (λ made uses once used_ holds m l. ⊎_elim
        (λ p. inl p)
        (λ k. made_all n x as' (both as').0 (both as').1 made uses once.1 used_.1 (is_call x.operator.op) (keeps n) holds m k)
        (one_of x.kids (counts as' m) m (λ a. IsUsable (uses a)) l (kids_usable uses x.kids (made_usable n x as' (both as').0 made uses once.1 used_.1 used_.0 (is_call x.operator.op) (keeps n) holds)))),
    (λ k made uses once used_ holds m ne l. absurd holds),
  )
  both (Acts x ∷ as') = (
    (λ made uses once used_ holds m l. ⊎_elim
        (λ p. inl p)
        (λ k. ⊎_elim (λ us. inl (faded_usable (is_end x) (uses m) us)) (λ e. inr e) ((both as').0 made (λ k. faded (is_end x) (uses k)) once used_ holds.1 m k))
        (one_of x.kids (counts as' m) m (λ a. IsUsable (uses a)) l (kids_usable uses x.kids holds.0))),
    acts_taken x as' (both as').0,
  )

  -- each operand of a node that is made has its tree there
  pub operands_usable : (n : ℕ) (x : Parts) (as' : List Act) (made : ℕ → Bool) (uses : ℕ → Use) → AreOnce as' (at made n true) → AreUsed as' → 0 < counts as' n → (call : Bool) (o : Option Temporary)
      → HoldsMade (is_handing call o) (IsUsable (kids_use uses x.kids) × HoldsBehind (Some n) keeps as' uses) (IsMade (kids_use uses x.kids) o × HoldsBehind None keeps as' (at (λ m. faded call (uses m)) n (kept_use o (read_use (is_read x.operator.op) (kids_use uses x.kids)))))
      → IsUsable (kids_use uses x.kids)
  operands_usable n x as' made uses once used_ above call o h = made_usable n x as' (both as').0 made uses once used_ above call o h
