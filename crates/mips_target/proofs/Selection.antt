-- What the choice of derivations gives to linearising.
use Rattle.std.proofs.Common.{◌≡◌, IfOk, Result, Ok, Err, ℕ, ◌≤◌, List, [], ◌∷◌, map, All, sum_by, refl, sym, subst, arith, zero, suc}
use Rattle.std.proofs.lemmas.List.Sums.{sum_by-cons}
use Rattle.lburg_model.specs.Tree.{nodes as tree_nodes}
use Rattle.lburg_model.specs.Derivation.{MDerivation}
use Rattle.lburg_model.specs.Description.{MDescription}
use Rattle.lburg_model.specs.Best.{HasNone}
use Rattle.reducer.specs.AreBest.{AreBest}
use Rattle.op_forest.specs.declared.forest.Forest.{Forest}
use Rattle.op_forest.specs.Nodes.{Node, Leaf, One, Two, nodes, tree_of}
use Rattle.forests.specs.WellFormed.{IsWellFormed}
use Rattle.forests.specs.HasRules.{HasRules}
use Rattle.vcode.specs.Roots.{AreDerived}
use Rattle.vcode.specs.VirtualCode.{MCode, MAllocated}
use Rattle.vcode.specs.Emission.{IsLinearised}
use Rattle.slot_allocator.specs.Slots.{allotted}
use Rattle.vcode.specs.SlotsBelow.{UsesSlotsBelow}
use Rattle.slot_allocator.specs.SlotCounts.{slots_needed}
use Rattle.vcode.specs.Allocation.{IsAllocation}
use Rattle.vcode.specs.Following.{Follows}
use Rattle.frame_code.specs.declared.instr.Instr.{Instr}
use Rattle.mips_rules.specs.Mips.{mips}
use Rattle.mips_rules.specs.MipsRules.{mips_rules}
use Rattle.mips_rules.specs.Shipped.{IsShipped, CoversRoots}
use Rattle.mips_target.specs.Generated.{temporaries, IsSelected}
use Rattle.mips_target.specs.Allocated.{IsAllocated}

same_nodes : (t : Node) → tree_nodes (tree_of t) ≡ nodes t
same_nodes (Leaf h) = refl
same_nodes (One h a) = let e = same_nodes a in omega (arith, e)
same_nodes (Two h a b) = let e = same_nodes a in let f = same_nodes b in omega (arith, e, f)

-- a root has no more nodes than all together
pub each_small : (n : ℕ) (roots : List Node) → sum_by nodes roots ≤ n → All (λ t. tree_nodes (tree_of t) ≤ n) roots
each_small n [] few k d lt = absurd (omega (arith, lt))
each_small n (t ∷ ts) few zero d lt = let e = sum_by-cons nodes t ts in let f = same_nodes t in omega (arith, few, e, f)
each_small n (t ∷ ts) few (suc k) d lt = let e = sum_by-cons nodes t ts in each_small n ts (omega (arith, few, e)) k d (omega (arith, lt))

pub covered : (d d' : MDescription) (f : Forest) (rs : List Node) → CoversRoots d → IsWellFormed f → HasRules f.roots → rs ≡ f.roots → d' ≡ d → All (λ t. HasNone d' (tree_of t) → ⊥) rs
covered d d' f rs covers w r e g =
    subst (λ xs. All (λ t. HasNone d' (tree_of t) → ⊥) xs) (sym e) (subst (λ x. All (λ t. HasNone x (tree_of t) → ⊥) f.roots) (sym g) (covers f w r))

-- the best derivations derive the start symbol
derived : (d : MDescription) (roots : List Node) (xs : List MDerivation) → AreBest d (map tree_of roots) xs → AreDerived d roots xs
derived d [] [] h = tt
derived d [] (x ∷ xs) h = absurd h
derived d (t ∷ ts) [] h = absurd h
derived d (t ∷ ts) (x ∷ xs) h = (h.0.derives, derived d ts xs h.1)

pub best_of : (d d' : MDescription) (roots rs : List Node) (xs : List MDerivation) → rs ≡ roots → d' ≡ d → AreBest d' (map tree_of rs) xs → AreBest d (map tree_of roots) xs
best_of d d' roots rs xs e f best = subst (λ x. AreBest x (map tree_of roots) xs) f (subst (λ ts. AreBest d' (map tree_of ts) xs) e best)

pub derived_of : (d d' : MDescription) (roots rs : List Node) (xs : List MDerivation) → rs ≡ roots → d' ≡ d → AreBest d' (map tree_of rs) xs → AreDerived d roots xs
derived_of d d' roots rs xs e f best = derived d roots xs (best_of d d' roots rs xs e f best)

pub selected : {E : Type 0} (d : MDescription) (roots : List Node) (xs : List MDerivation) (result : Result (MCode Instr) E) → IsShipped d → AreBest d (map tree_of roots) xs → IfOk result (λ v. IsLinearised mips mips_rules roots xs v) → IfOk result (λ v. IsSelected roots v)
selected d roots xs (Ok v) shipped best linearised = record { description = d; shipped = shipped; derivations = xs; best = best; linearised = linearised }
selected d roots xs (Err e) shipped best linearised = tt

pub allocated : {E : Type 0} (roots : List Node) (v : MCode Instr) (result : Result (MAllocated Instr) E) → IsSelected roots v → IfOk result (λ c. c.code ≡ allotted mips temporaries v.code) → IfOk result (λ c. c.slots ≡ slots_needed mips v.code) → IfOk result (λ c. UsesSlotsBelow mips c.slots c.code) → IfOk result (λ c. IsAllocation mips temporaries v.code c.code) → IfOk result (λ c. Follows mips temporaries v.code c.code) → IfOk result (λ c. IsAllocated roots c)
allocated roots v (Ok c) selected code slots below form follows = record { virtual = v; selected = selected; code = code; slots = slots; below = below; form = form; follows = follows }
allocated roots v (Err e) selected code slots below form follows = tt
