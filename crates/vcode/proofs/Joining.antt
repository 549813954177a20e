-- What pieces of code keep, their whole keeps.
use Rattle.std.proofs.Common.{◌≡◌, ℕ, ◌≤◌, ◌<◌, List, [], ◌∷◌, ◌++◌, true, refl, sym, ap, ◌∙◌, arith, inl, inr, ◌⊎◌, ⊎_elim, append_assoc}
use Rattle.std.specs.Prelude.{◌||◌, not}
use Rattle.std.proofs.lemmas.Bool.{or_cases, or_left, or_right, not-true, leb-false, false≢true}
use Rattle.vcode.specs.declared.operand.Operand.{Operand}
use Rattle.vcode.specs.Machines.{Machine}
use Rattle.vcode.specs.VirtualCode.{is_virtual, among, results, ReadsOnly, Flows, AreBelow, NamesBelow, UsesNoSlot, HasNoMark, MovesNot, MovesLast, MarkedFirst}
use Rattle.vcode.specs.RuleSets.{NamesOnly, CodeNames, code_results}
use Rattle.vcode.proofs.Registers.{among_append, among_left, among_right}

-- a register that is among the first is among the second
abbrev pub Within : List ℕ → List ℕ → Type 0
Within qs qs' = (r : ℕ) → among r qs ≡ true → among r qs' ≡ true

reads_within : (os : List Operand) (qs qs' : List ℕ) → Within qs qs' → ReadsOnly qs os → ReadsOnly qs' os
reads_within [] qs qs' w h = tt
reads_within (o ∷ os) qs qs' w h =
    let b = o.written || not (is_virtual o.reg) in (
      ⊎_elim (λ e. or_left b (among o.reg qs') e) (λ e. or_right b (among o.reg qs') (w o.reg e)) (or_cases b (among o.reg qs) h.0),
      reads_within os qs qs' w h.1,
    )

pub within_behind : (rs qs qs' : List ℕ) → Within qs qs' → Within (rs ++ qs) (rs ++ qs')
within_behind rs qs qs' w r h = ⊎_elim (λ e. among_left r rs qs' e) (λ e. among_right r rs qs' (w r e)) (among_append r rs qs h)

below_all : (limit : ℕ) (qs : List ℕ) (os : List Operand) → 64 ≤ limit → ((r : ℕ) → among r qs ≡ true → r < limit) → NamesOnly qs os → AreBelow limit os
below_all limit qs [] le b h = tt
below_all limit qs (o ∷ os) le b h = (
  ⊎_elim (λ e. let u : o.reg < 64 = leb-false 64 o.reg (not-true (is_virtual o.reg) e) in let v : o.reg < limit = omega (arith, u, le) in v)
      (λ e. b o.reg e)
      (or_cases (not (is_virtual o.reg)) (among o.reg qs) h.0),
  below_all limit qs os le b h.1,
)

below_wider : (low high : ℕ) (os : List Operand) → low ≤ high → AreBelow low os → AreBelow high os
below_wider low high [] le h = tt
below_wider low high (o ∷ os) le h = ((let l = h.0 in let u : o.reg < high = omega (arith, l, le) in u), below_wider low high os le h.1)

module _ {I : Type 0} (m : Machine I) where
  pub flows_within : (code : List I) (qs qs' : List ℕ) → Within qs qs' → Flows m qs code → Flows m qs' code
  flows_within [] qs qs' w h = tt
  flows_within (i ∷ is) qs qs' w h = (
    reads_within (m.operands i) qs qs' w h.0,
    flows_within is (results (m.operands i) ++ qs) (results (m.operands i) ++ qs') (within_behind (results (m.operands i)) qs qs' w) h.1,
  )

  pub flows_joined : (a b : List I) (qs qs' : List ℕ) → ((r : ℕ) → among r qs' ≡ true → (among r qs ≡ true) ⊎ (among r (code_results m a) ≡ true)) → Flows m qs a → Flows m qs' b → Flows m qs (a ++ b)
  flows_joined [] b qs qs' w h k = flows_within b qs' qs (λ r e. ⊎_elim (λ x. x) (λ x. absurd (false≢true x)) (w r e)) k
  flows_joined (i ∷ a) b qs qs' w h k =
      let rs = results (m.operands i) in (
        h.0,
        flows_joined a b (rs ++ qs) qs'
            (λ r e. ⊎_elim (λ x. inl (among_right r rs qs x))
            (λ x. ⊎_elim (λ y. inl (among_left r rs qs y)) (λ y. inr y) (among_append r rs (code_results m a) x))
            (w r e))
            h.1 k,
      )

  pub results_joined : (a b : List I) → code_results m (a ++ b) ≡ code_results m a ++ code_results m b
  results_joined [] b = refl
  results_joined (i ∷ a) b =
      ap (λ l. results (m.operands i) ++ l) (results_joined a b) ∙ sym (append_assoc (results (m.operands i)) (code_results m a) (code_results m b))

  pub names_below : (limit : ℕ) (qs : List ℕ) (code : List I) → 64 ≤ limit → ((r : ℕ) → among r qs ≡ true → r < limit) → CodeNames m qs code → NamesBelow m limit code
  names_below limit qs [] le b h = tt
  names_below limit qs (i ∷ is) le b h = (below_all limit qs (m.operands i) le b h.0, names_below limit qs is le b h.1)

  pub names_joined : (limit : ℕ) (a b : List I) → NamesBelow m limit a → NamesBelow m limit b → NamesBelow m limit (a ++ b)
  names_joined limit [] b h k = k
  names_joined limit (i ∷ a) b h k = (h.0, names_joined limit a b h.1 k)

  pub names_wider : (low high : ℕ) (code : List I) → low ≤ high → NamesBelow m low code → NamesBelow m high code
  names_wider low high [] le h = tt
  names_wider low high (i ∷ is) le h = (below_wider low high (m.operands i) le h.0, names_wider low high is le h.1)

  pub slots_joined : (a b : List I) → UsesNoSlot m a → UsesNoSlot m b → UsesNoSlot m (a ++ b)
  slots_joined [] b h k = k
  slots_joined (i ∷ a) b h k = (h.0, slots_joined a b h.1 k)

  pub unmarked_joined : (a b : List I) → HasNoMark m a → HasNoMark m b → HasNoMark m (a ++ b)
  unmarked_joined [] b h k = k
  unmarked_joined (i ∷ a) b h k = (h.0, unmarked_joined a b h.1 k)

  pub unmoved_joined : (a b : List I) → MovesNot m a → MovesNot m b → MovesNot m (a ++ b)
  unmoved_joined [] b h k = k
  unmoved_joined (i ∷ a) b h k = (h.0, unmoved_joined a b h.1 k)

  pub marked_first : (code : List I) → HasNoMark m code → MarkedFirst m code
  marked_first [] h = tt
  marked_first (i ∷ is) h = h.1

  pub moves_joined : (a b : List I) → MovesNot m a → MovesLast m b → MovesLast m (a ++ b)
  moves_joined [] b h k = k
  moves_joined (i ∷ []) [] h k = tt
  moves_joined (i ∷ []) (j ∷ b) h k = (h.0, k)
  moves_joined (i ∷ j ∷ a) b h k = (h.0, moves_joined (j ∷ a) b h.1 k)

  pub moves_last : (code : List I) → MovesNot m code → MovesLast m code
  moves_last [] h = tt
  moves_last (i ∷ []) h = tt
  moves_last (i ∷ j ∷ is) h = (h.0, moves_last (j ∷ is) h.1)
