-- One entry's turn.
use Rattle.std.proofs.Common.{◌≡◌, ℕ, ◌+◌, ◌<◌, ◌≤◌, Bool, Some, List, [], ◌∷◌, ◌++◌, length, drop, slice_get, replicate, sym, ap, ◌∙◌, arith, subst, append-nil}
use Rattle.std.proofs.lemmas.List.{at_drop_all, length-replicate}
use Rattle.dag_forest.specs.declared.entry.Entry.{Entry}
use Rattle.dag_forest.specs.declared.entry.Entry.TheVariants.{Value, Root}
use Rattle.dag_forest.specs.declared.parts.Parts.{Parts}
use Rattle.dag_forest.specs.Entries.{AreBelow}
use Rattle.dag_forest.specs.Tally.{AreFormed, node_count}
use Rattle.dag_forest.specs.Schedules.{Act, in_turn}
use Rattle.dag_forest.specs.Releases.{root_count, first_roots, by_lists}
use Rattle.dag_forest.proofs.Counts.{drop_get, formed_drop}
use Rattle.dag_forest.proofs.ReleaseLaws.{length_first, all_turned}

-- what was done, and what the entries that are left do
pub record AreTurned (es : List Entry) (id : ℕ) (acts : List Act) (first : List ℕ) (ws : List Bool) (lists : List (List Act)) (passed : ℕ) : Type 0 where
  pub turns : acts ++ by_lists first (drop id es) passed ws lists ≡ by_lists (first_roots es 0 0) es 0 [] (replicate (root_count es) [])
  pub told : first ≡ first_roots es 0 0
  pub nodes : length ws + node_count (drop id es) ≡ node_count es
  pub rooms : length lists ≡ root_count es
  pub roots : passed + root_count (drop id es) ≡ root_count es

pub turned_none : (es : List Entry) (acts : List Act) (first : List ℕ) (ws : List Bool) (lists : List (List Act)) (roots passed : ℕ) → acts ≡ [] → first ≡ first_roots es 0 0 → ws ≡ [] → roots ≡ root_count es → lists ≡ replicate roots [] → passed ≡ 0 → AreTurned es 0 acts first ws lists passed
turned_none es acts first ws lists roots passed a f w r l p =
    let nothing : List Act = [] in
    let full : lists ≡ replicate (root_count es) [] = l ∙ ap (λ z. replicate z []) r in
    record {
      turns = λ i. a i ++ by_lists (f i) es (p i) (w i) (full i);
      told = f;
      nodes = let q = ap length w in omega (arith, q);
      rooms = let q = ap length full in let z = length-replicate (root_count es) nothing in omega (arith, q, z);
      roots = omega (arith, p);
    }

pub turned_all : (es : List Entry) (id : ℕ) (acts : List Act) (first : List ℕ) (ws : List Bool) (lists : List (List Act)) (passed : ℕ) → AreFormed es 0 → length es ≤ id → AreTurned es id acts first ws lists passed → acts ≡ in_turn es 0 []
turned_all es id acts first ws lists passed formed l h =
    sym (at_drop_all (λ (rest : List Entry). acts ++ by_lists first rest passed ws lists) es id l ∙ append-nil acts) ∙ h.turns ∙ all_turned es formed

module _ (es : List Entry) (id : ℕ) (acts : List Act) (first : List ℕ) (ws : List Bool) (lists : List (List Act)) (passed : ℕ) (h : AreTurned es id acts first ws lists passed) where
  module _ (x : Parts) (is : slice_get es id ≡ Some (Value x)) where
    pub node_left : length ws < length first
    node_left =
        let s = ap node_count (drop_get es id (Value x) is) in let a = h.nodes in let b = ap length h.told in let c = length_first es 0 0 in
        omega (arith, s, a, b, c)

    pub node_below : AreFormed es 0 → AreBelow (length ws) x.kids
    node_below formed =
        let s = drop_get es id (Value x) is in
        let a = h.nodes in
        let f : AreFormed (Value x ∷ drop (id + 1) es) (length ws) = subst (λ z. AreFormed z (length ws)) s (formed_drop id es 0 (length ws) (omega (arith, a)) formed) in
        f.0

    pub node_turned : (acts' : List Act) (first' : List ℕ) (ws' : List Bool) (lists' : List (List Act)) (passed' : ℕ) → acts' ++ by_lists first' (drop (id + 1) es) passed' ws' lists' ≡ acts ++ by_lists first (Value x ∷ drop (id + 1) es) passed ws lists
        → first' ≡ first → length ws' ≡ length ws + 1 → length lists' ≡ length lists → passed' ≡ passed → AreTurned es (id + 1) acts' first' ws' lists' passed'
    node_turned acts' first' ws' lists' passed' step f w l p =
        let s = drop_get es id (Value x) is in
        record {
          turns = step ∙ ap (λ z. acts ++ by_lists first z passed ws lists) (sym s) ∙ h.turns;
          told = f ∙ h.told;
          nodes = let a = h.nodes in let q = ap node_count s in omega (arith, a, q, w);
          rooms = l ∙ h.rooms;
          roots = let a = h.roots in let q = ap root_count s in omega (arith, a, q, p);
        }

  module _ (x : Parts) (is : slice_get es id ≡ Some (Root x)) where
    pub root_left : passed < length lists
    root_left = let s = ap root_count (drop_get es id (Root x) is) in let a = h.roots in let b = h.rooms in omega (arith, s, a, b)

    pub root_turned : (acts' : List Act) (first' : List ℕ) (ws' : List Bool) (lists' : List (List Act)) (passed' : ℕ) → acts' ++ by_lists first' (drop (id + 1) es) passed' ws' lists' ≡ acts ++ by_lists first (Root x ∷ drop (id + 1) es) passed ws lists
        → first' ≡ first → length ws' ≡ length ws → length lists' ≡ length lists → passed' ≡ passed + 1 → AreTurned es (id + 1) acts' first' ws' lists' passed'
    root_turned acts' first' ws' lists' passed' step f w l p =
        let s = drop_get es id (Root x) is in
        record {
          turns = step ∙ ap (λ z. acts ++ by_lists first z passed ws lists) (sym s) ∙ h.turns;
          told = f ∙ h.told;
          nodes = let a = h.nodes in let q = ap node_count s in omega (arith, a, q, w);
          rooms = l ∙ h.rooms;
          roots = let a = h.roots in let q = ap root_count s in omega (arith, a, q, p);
        }
