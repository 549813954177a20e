-- The code of a root's derivation is a stretch.
use Rattle.std.proofs.Common.{◌≡◌, ℕ, ◌≤◌, ◌<◌, ◌^◌, List, [], ◌∷◌, ◌++◌, Bool, ◌+◌, true, Some, map, lit≤, sym, ap, ◌∙◌, subst, arith, inl, inr, ◌⊎◌, ⊎_elim, length, length-append}
use Rattle.std.proofs.lemmas.List.{map-append}
use Rattle.std.proofs.lemmas.Bool.{false≢true}
use Rattle.lburg_model.specs.declared.rule.Rule.{Rule}
use Rattle.std.proofs.lemmas.Option.{same_Some}
use Rattle.lburg_model.specs.Derivation.{MDerivation, Apply, MParts, Derives, DeriveEach}
use Rattle.lburg_model.specs.DerivationOf.{parts_of}
use Rattle.op_forest.specs.Nodes.{Node, head_of, gives, one_where, tree_of}
use Rattle.vcode.specs.Machines.{Machine}
use Rattle.vcode.specs.VirtualCode.{among, Flows, NamesBelow, UsesNoSlot, IsStretch}
use Rattle.vcode.specs.Patterns.{Meeting, leaves_at}
use Rattle.vcode.specs.RuleSets.{Row, row_of, Rules, Applies, Obeys, one_register, own_register, code_results, all_registers, SomeBusy}
use Rattle.vcode.specs.Emission.{Emitted, EmittedAll, Emits, EmitsAll, ByChain, ByRule, Nothing, OneMore}
use Rattle.vcode.specs.Roots.{IsQuiet}
use Rattle.vcode.specs.Leaves.{turned}
use Rattle.vcode.proofs.lemmas.Leaves.{chain_meets}
use Rattle.vcode.proofs.Registers.{among_append, among_left, among_right, own_is, Between, registers_one, registers_more, takes, take_all}
use Rattle.vcode.proofs.lemmas.Deriving.{parted, applied_at}
use Rattle.vcode.proofs.Joining.{Within, flows_joined, results_joined, names_below, names_joined, slots_joined}
use Rattle.vcode.proofs.Still.{rooted}

module _ {I P : Type 0} (m : Machine I) (rules : Rules I P) (obeys : Obeys m rules) where
  -- code that writes these registers, and reads others only then
  pub record Writes (limit : ℕ) (code : List I) (registers : List ℕ) : Type 0 where
    pub flows : Flows m [] code
    pub written : Within registers (code_results m code)
    pub names : NamesBelow m limit code
    pub slots : UsesNoSlot m code

  within_left : (a b : List I) (qs : List ℕ) → Within qs (code_results m a) → Within qs (code_results m (a ++ b))
  within_left a b qs w r h =
      subst (λ l. among r l ≡ true) (sym (results_joined m a b)) (among_left r (code_results m a) (code_results m b) (w r h))

  within_right : (a b : List I) (qs : List ℕ) → Within qs (code_results m b) → Within qs (code_results m (a ++ b))
  within_right a b qs w r h =
      subst (λ l. among r l ≡ true) (sym (results_joined m a b)) (among_right r (code_results m a) (code_results m b) (w r h))

  below_of : (n high limit to : ℕ) (takes : Bool) (qs : List ℕ) → Between n high qs → high ≤ limit → to + one_where takes ≤ limit → (r : ℕ) → among r (one_register takes to ++ qs) ≡ true → r < limit
  below_of n high limit to takes qs b le lt r h =
      ⊎_elim
      (λ e. let own = own_is takes r to e in let one = own.0 in let is = own.1 in let u : r < limit = omega (arith, lt, one, is) in u)
      (λ e. let k = b r e in let u : r < limit = omega (arith, k, le) in u)
      (among_append r (one_register takes to) qs h)

  rule_writes : (limit n high : ℕ) (code : List I) (number : ℕ) (row : Row) (t : Node) (ps : List P) (to : ℕ) → 64 ≤ limit → Writes limit code (all_registers rules ps) → Between n high (all_registers rules ps) → high ≤ limit → to + one_where (gives (head_of t)) ≤ limit → Applies rules number row t ps to → Writes limit (code ++ rules.code number t ps to) (rules.registers (rules.part number t ps to))
  rule_writes limit n high code number row t ps to low w b le lt a =
      let c = rules.code number t ps to in
      let qs = own_register t to ++ all_registers rules ps in
      record {
        flows = flows_joined m code c [] (all_registers rules ps) (λ r h. inr (w.written r h)) w.flows (obeys.flows number row t ps to a);
        written = λ r h. ⊎_elim
            (λ e. within_left code c (all_registers rules ps) w.written r e)
            (λ e. subst (λ l. among r l ≡ true) (sym (results_joined m code c)) (among_right r (code_results m code) (code_results m c) e.1))
            (obeys.part_registers number row t ps to r a h);
        names = names_joined m limit code c w.names (names_below m limit qs c low (below_of n high limit to (gives (head_of t)) (all_registers rules ps) b le lt) (obeys.names number row t ps to a));
        slots = slots_joined m code c w.slots (obeys.slots number row t ps to a);
      }

  more_writes : (limit : ℕ) (a b : List I) (ps : List P) (p : P) → Writes limit a (all_registers rules ps) → Writes limit b (rules.registers p) → Writes limit (a ++ b) (all_registers rules (ps ++ p ∷ []))
  more_writes limit a b ps p w v = record {
    flows = flows_joined m a b [] [] (λ r h. inl h) w.flows v.flows;
    written = λ r h. ⊎_elim (within_left a b (all_registers rules ps) w.written r) (within_right a b (rules.registers p) v.written r) (registers_more m rules obeys r ps p h);
    names = names_joined m limit a b w.names v.names;
    slots = slots_joined m a b w.slots v.slots;
  }

  none_written : Within [] []
  none_written r h = absurd (false≢true h)

  mutual
    pub writes : (limit : ℕ) {x : MDerivation} {t : Node} {n : ℕ} {e : Emitted I P} → Emits rules x t n e → 64 ≤ limit → e.next ≤ limit → Writes limit e.code (rules.registers e.part)
    writes limit (ByChain {number} {row} {x} {t} {n} {e} one chain a) low le =
        let k = takes m rules obeys one in
        let f = k.next in
        let lt : e.to + one_where (gives (head_of t)) ≤ limit = omega (arith, f, le) in
        let w = writes limit one low le in
        let ws : Writes limit e.code (all_registers rules (e.part ∷ [])) = record { flows = w.flows; written = λ r h. w.written r (registers_one m rules obeys r e.part h); names = w.names; slots = w.slots } in
        rule_writes limit n e.next e.code number row t (e.part ∷ []) e.to low ws (λ r h. k.registers r (registers_one m rules obeys r e.part h)) le lt a
    writes limit (ByRule {number} {row} {xs} {meetings} {t} {n} {es} all fits chain a) low le =
        let k = take_all m rules obeys all in
        let les : es.next ≤ limit = omega (arith, le) in
        rule_writes limit n es.next es.code number row t es.parts es.next low (write_all limit all low les) k.registers les le a

    pub write_all : (limit : ℕ) {xs : List MDerivation} {ms : List Meeting} {n : ℕ} {es : EmittedAll I P} → EmitsAll rules xs ms n es → 64 ≤ limit → es.next ≤ limit → Writes limit es.code (all_registers rules es.parts)
    write_all limit (Nothing {n}) low le = record { flows = tt; written = none_written; names = tt; slots = tt }
    write_all limit (OneMore {xs} {meetings} {x} meeting {n} {es} {e} all one) low le =
        let k = takes m rules obeys one in
        let f = k.next in
        let g = k.low in
        let les : es.next ≤ limit = omega (arith, le, f, g) in
        more_writes limit es.code e.code es.parts e.part (write_all limit all low les) (writes limit one low le)

  -- no virtual register is named from the next one on
  pub names_taken : {x : MDerivation} {t : Node} {n : ℕ} {e : Emitted I P} → Emits rules x t n e → 64 ≤ n → NamesBelow m e.next e.code
  names_taken {x} {t} {n} {e} one low =
      let k = takes m rules obeys one in
      let a = k.low in
      let b = k.next in
      let some : 64 ≤ e.next = omega (arith, low, a, b) in
      let same : e.next ≤ e.next = omega arith in
      (writes e.next one some same).names

  some_left : (a b : List I) → 1 ≤ length a → 1 ≤ length (a ++ b)
  some_left a b h = omega (arith, h, length-append a b)

  some_right : (a b : List I) → 1 ≤ length b → 1 ≤ length (a ++ b)
  some_right a b h = omega (arith, h, length-append a b)

  busy_more : (ms : List Meeting) (x : Meeting) → SomeBusy rules (ms ++ x ∷ []) → SomeBusy rules ms ⊎ (rules.busy x.0 ≡ true)
  busy_more [] x h = ⊎_elim (λ e. inr e) (λ e. inl e) h
  busy_more (y ∷ ms) x h = ⊎_elim (λ e. inl (inl e)) (λ e. ⊎_elim (λ s. inl (inr s)) (λ s. inr s) (busy_more ms x e)) h

  module _ (rows : List Rule) (are : map row_of rows ≡ rules.rows) where
    -- a nonterminal that adds code stands in the rule's pattern, or the rule adds code itself
    busy_rule : (number : ℕ) (row : Row) (k : ℕ) (t : Node) (ps : List P) (to : ℕ) (parts : MParts) (ms : List Meeting) → Applies rules number row t ps to → Derives rows k (tree_of t) (Apply number parts) → leaves_at row.pattern t ≡ Some ms → rules.busy k ≡ true → (1 ≤ length (rules.code number t ps to)) ⊎ (SomeBusy rules ms × DeriveEach rows (map turned ms) parts)
    busy_rule number row k t ps to parts ms a d fits b =
        let w = applied_at rules rows are number row k t ps to parts a d in
        let same : w.meetings ≡ ms = same_Some w.meetings ms (sym w.fits ∙ fits) in
        let own : a.meetings ≡ ms = same_Some a.meetings ms (sym a.fits ∙ fits) in
        ⊎_elim (λ e. inl e)
        (λ e. inr (subst (SomeBusy rules) own e, subst (λ l. DeriveEach rows (map turned l) parts) same w.each))
        (obeys.busy number row t ps to a (subst (λ q. rules.busy q ≡ true) (sym w.left) b))

    mutual
      -- where a nonterminal is said to add code, its derivation does
      pub some : {x : MDerivation} {t : Node} {n : ℕ} {e : Emitted I P} → Emits rules x t n e → (k : ℕ) → Derives rows k (tree_of t) x → rules.busy k ≡ true → 1 ≤ length e.code
      some (ByChain {number} {row} {x} {t} {n} {e} one chain a) k d b =
          let q = chain_meets row.pattern t a.meetings chain a.fits in
          let c = rules.code number t (e.part ∷ []) e.to in
          ⊎_elim (some_right e.code c)
          (λ w. some_left e.code c (some one q.0 w.1.0 (⊎_elim (λ s. s) (λ s. absurd s) w.0)))
          (busy_rule number row k t (e.part ∷ []) e.to (parts_of (x ∷ [])) ((q.0, t) ∷ []) a d (a.fits ∙ ap Some q.1) b)
      some (ByRule {number} {row} {xs} {meetings} {t} {n} {es} all fits chain a) k d b =
          let c = rules.code number t es.parts es.next in
          ⊎_elim (some_right es.code c)
          (λ w. some_left es.code c (some_of all w.1 w.0))
          (busy_rule number row k t es.parts es.next (parts_of xs) meetings a d fits b)

      pub some_of : {xs : List MDerivation} {ms : List Meeting} {n : ℕ} {es : EmittedAll I P} → EmitsAll rules xs ms n es → DeriveEach rows (map turned ms) (parts_of xs) → SomeBusy rules ms → 1 ≤ length es.code
      some_of (Nothing {n}) d b = absurd b
      some_of (OneMore {xs} {meetings} {x} meeting {n} {es} {e} all one) d b =
          let p = parted rows (map turned meetings) (turned meeting) xs x (subst (λ gs. DeriveEach rows gs (parts_of (xs ++ x ∷ []))) (map-append turned meetings (meeting ∷ [])) d) in
          ⊎_elim
          (λ s. some_left es.code e.code (some_of all p.front s))
          (λ s. some_right es.code e.code (some one meeting.0 p.last s))
          (busy_more meetings meeting b)

    pub stretch : {x : MDerivation} {t : Node} {n : ℕ} {e : Emitted I P} → Emits rules x t n e → Derives rows rules.start (tree_of t) x → IsQuiet t → e.next ≤ 2 ^ 31 → IsStretch m e.code
    stretch {x} {t} {n} {e} one d q le =
        let w = writes (2 ^ 31) one (lit≤ tt) le in
        let r = rooted m rules obeys one q in
        record {
          flows = w.flows;
          names = w.names;
          slots = w.slots;
          marks = r.first;
          moves = r.last;
          some = some one rules.start d obeys.busy_start;
        }
