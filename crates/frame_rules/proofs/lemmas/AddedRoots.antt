-- What rules add at the roots of a function.
use Rattle.std.proofs.Common.{◌≡◌, ℕ, ◌+◌, ◌≤◌, List, [], ◌∷◌, ◌++◌, length, length-append, append_assoc, append-nil, sym, ap, ◌∙◌, subst, arith}
use Rattle.std.specs.List.{AllByRecursion, sum_by}
use Rattle.std.proofs.lemmas.List.Sums.{sum_by-append}
use Rattle.lburg_model.specs.Derivation.{MDerivation}
use Rattle.op_forest.specs.Nodes.{Node, nodes}
use Rattle.op_forest.specs.EachNode.{AtEachNode}
use Rattle.vcode.specs.VirtualCode.{joined}
use Rattle.vcode.specs.Emission.{EmitsRoots, NoRoot, OneRoot}
use Rattle.frame_code.specs.declared.instr.Instr.{Instr}
use Rattle.frame_rules.specs.Rows.{Line}
use Rattle.frame_rules.specs.FrameRules.{frame_rules}
use Rattle.frame_rules.specs.AppliedRules.{Inverts}
use Rattle.frame_rules.proofs.lemmas.Added.{AreAdded, added_append, handed_over, handed_append, other_nodes, takes, NamesOne, added}

pub joined_more : {I : Type 0} (stretches : List (List I)) (code : List I) → joined (stretches ++ code ∷ []) ≡ joined stretches ++ code
joined_more [] code = append-nil code
joined_more (c ∷ more) code = ap (λ l. c ++ l) (joined_more more code) ∙ sym (append_assoc c (joined more) code)

-- what holds of each root holds of those before the last, and of the last
pub roots_front : (P : Node → Type 0) (ts : List Node) (t : Node) → AllByRecursion P (ts ++ t ∷ []) → AllByRecursion P ts
roots_front P [] t h = tt
roots_front P (u ∷ ts) t h = (h.0, roots_front P ts t h.1)

pub roots_last : (P : Node → Type 0) (ts : List Node) (t : Node) → AllByRecursion P (ts ++ t ∷ []) → P t
roots_last P [] t h = h.0
roots_last P (u ∷ ts) t h = roots_last P ts t h.1

-- so many instructions are added, and argument words handed over
pub record RootsTake (ts : List Node) (stretches : List (List Instr)) : Type 0 where
  pub count : length (joined stretches) ≤ sum_by nodes ts
  pub hands : handed_over (joined stretches) ≤ sum_by other_nodes ts

module _ (lines : List Line) (invert : AllByRecursion (Inverts lines) lines) where
  pub roots_take : {xs : List MDerivation} {ts : List Node} {n : ℕ} {stretches : List (List Instr)} {next : ℕ} → EmitsRoots (frame_rules lines) xs ts n stretches next → RootsTake ts stretches
  roots_take (NoRoot {n}) = record { count = omega arith; hands = omega arith }
  roots_take (OneRoot {xs} {ts} {x} {t} {n} {n'} {stretches} {e} before one) =
      let k = roots_take before in
      let l = takes lines invert one in
      let c = k.count in
      let h = l.count in
      let d = k.hands in
      let g = l.hands in
      let s : sum_by nodes (ts ++ t ∷ []) ≡ sum_by nodes ts + (0 + nodes t) = sum_by-append nodes ts (t ∷ []) in
      let o : sum_by other_nodes (ts ++ t ∷ []) ≡ sum_by other_nodes ts + (0 + other_nodes t) = sum_by-append other_nodes ts (t ∷ []) in
      let j : length (joined (stretches ++ e.code ∷ [])) ≡ length (joined stretches ++ e.code) = ap length (joined_more stretches e.code) in
      let m : handed_over (joined (stretches ++ e.code ∷ [])) ≡ handed_over (joined stretches ++ e.code) = ap handed_over (joined_more stretches e.code) in
      let i = length-append (joined stretches) e.code in
      let q = handed_append (joined stretches) e.code in
      record { count = omega (arith, c, h, s, j, i); hands = omega (arith, d, g, o, m, q) }

  -- and this is what they are
  pub roots_added : (named : ℕ → Type 0) {xs : List MDerivation} {ts : List Node} {n : ℕ} {stretches : List (List Instr)} {next : ℕ} → EmitsRoots (frame_rules lines) xs ts n stretches next → AllByRecursion (AtEachNode (NamesOne named)) ts → AreAdded named (joined stretches)
  roots_added named (NoRoot {n}) h = tt
  roots_added named (OneRoot {xs} {ts} {x} {t} {n} {n'} {stretches} {e} before one) h =
      let a = roots_added named before (roots_front (AtEachNode (NamesOne named)) ts t h) in
      let b = added lines invert named one (roots_last (AtEachNode (NamesOne named)) ts t h) in
      subst (AreAdded named) (sym (joined_more stretches e.code)) (added_append named (joined stretches) e.code a b.0)
