-- What the nonterminals of derivations hand up.
use Rattle.std.proofs.Common.{◌≡◌, ℕ, List, [], ◌∷◌, ◌++◌, true, map, subst}
use Rattle.std.proofs.lemmas.List.{map-append}
use Rattle.lburg_model.specs.declared.rule.Rule.{Rule}
use Rattle.lburg_model.specs.Derivation.{MDerivation, Apply, MParts, Derives, DeriveEach}
use Rattle.lburg_model.specs.DerivationOf.{parts_of}
use Rattle.op_forest.specs.Nodes.{Node, tree_of}
use Rattle.vcode.specs.Machines.{Machine}
use Rattle.vcode.specs.Patterns.{Meeting}
use Rattle.vcode.specs.RuleSets.{Row, row_of, Rules, Applies, Obeys, AllHand}
use Rattle.vcode.specs.Emission.{Emitted, EmittedAll, Emits, EmitsAll, ByChain, ByRule, Nothing, OneMore}
use Rattle.vcode.specs.Leaves.{turned}
use Rattle.vcode.proofs.lemmas.Deriving.{parted, applied_at}

module _ {I P : Type 0} (rules : Rules I P) (rows : List Rule) (are : map row_of rows ≡ rules.rows) where
  pub hand_more : (ms : List Meeting) (m : Meeting) (ps : List P) (p : P) → AllHand rules ms ps → rules.hands m.0 m.1 p ≡ true → AllHand rules (ms ++ m ∷ []) (ps ++ p ∷ [])
  hand_more [] m [] p h e = (e, tt)
  hand_more [] m (q ∷ ps) p h e = absurd h
  hand_more (l ∷ ms) m [] p h e = absurd h
  hand_more (l ∷ ms) m (q ∷ ps) p h e = (h.0, hand_more ms m ps p h.1 e)

  module _ (m : Machine I) (obeys : Obeys m rules) where
    hands_left : (number : ℕ) (row : Row) (n : ℕ) (t : Node) (ps : List P) (to : ℕ) (parts : MParts) → Applies rules number row t ps to → Derives rows n (tree_of t) (Apply number parts) → rules.hands n t (rules.part number t ps to) ≡ true
    hands_left number row n t ps to parts a d =
        let w = applied_at rules rows are number row n t ps to parts a d in
        subst (λ k. rules.hands k t (rules.part number t ps to) ≡ true) w.left (obeys.hands number row t ps to a)

    -- a nonterminal may hand up what its derivation hands up
    pub hands : {x : MDerivation} {t : Node} {n : ℕ} {e : Emitted I P} → Emits rules x t n e → (k : ℕ) → Derives rows k (tree_of t) x → rules.hands k t e.part ≡ true
    hands (ByChain {number} {row} {x} {t} {n} {e} one chain a) k d = hands_left number row k t (e.part ∷ []) e.to (parts_of (x ∷ [])) a d
    hands (ByRule {number} {row} {xs} {meetings} {t} {n} {es} all fits chain a) k d = hands_left number row k t es.parts es.next (parts_of xs) a d

    pub hand_all : {xs : List MDerivation} {ms : List Meeting} {n : ℕ} {es : EmittedAll I P} → EmitsAll rules xs ms n es → DeriveEach rows (map turned ms) (parts_of xs) → AllHand rules ms es.parts
    hand_all (Nothing {n}) d = tt
    hand_all (OneMore {xs} {meetings} {x} meeting {n} {es} {e} all one) d =
        let p = parted rows (map turned meetings) (turned meeting) xs x (subst (λ gs. DeriveEach rows gs (parts_of (xs ++ x ∷ []))) (map-append turned meetings (meeting ∷ [])) d) in
        hand_more meetings meeting es.parts e.part (hand_all all p.front) (hands one meeting.0 p.last)
