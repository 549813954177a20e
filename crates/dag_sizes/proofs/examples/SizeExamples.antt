-- y = x + x: 11 nodes in two trees, and one room.
use Rattle.std.specs.Prelude.{◌≡◌, refl, ◌+◌, pos, List, [], ◌∷◌}
use Rattle.op_forest.specs.declared.op.Op.TheVariants as op
use Rattle.op_forest.specs.declared.suffix.Suffix.TheVariants.{I, U}
use Rattle.std.proofs.Common.{ℕ, arith, inl, inr, true, false, true≢false}
use Rattle.dag_forest.specs.declared.act.Act.{Act}
use Rattle.dag_forest.specs.declared.act.Act.TheVariants.{Made, Acts}
use Rattle.dag_forest.specs.declared.entry.Entry.{Entry}
use Rattle.dag_forest.specs.declared.entry.Entry.TheVariants.{Value}
use Rattle.dag_forest.specs.declared.kids.Kids.TheVariants.{Zero, One, Two}
use Rattle.dag_forest.specs.declared.parts.Parts.{Parts}
use Rattle.dag_forest.specs.BlockExamples.{over, call, read, write, address, doubled, assigned}
use Rattle.dag_sizes.specs.Sizes.{store_size, read_size, split_size}
use Rattle.dag_sizes.specs.Weights.{IsFewer, IsSwap, use_size, weight}

doubled_size : split_size (doubled (pos 0)) ≡ 12
doubled_size = refl

doubled_weight : weight (doubled (pos 0)) ≡ 12
doubled_weight = refl

-- an unsigned number takes a node more to store, and one more to read
unsigned_sizes : store_size U + read_size U ≡ store_size I + read_size I + 2
unsigned_sizes = refl

-- x = f(): the call is handed, so it is one tree of 4 nodes; by its weight it has a room
assigned_size : split_size assigned ≡ 4
assigned_size = refl

assigned_weight : weight assigned ≡ 9
assigned_weight = refl

-- a node that nothing uses counts for the weight alone
abbrev unused : List Entry
unused = Value (address 0 (pos 0)) ∷ Value (read 0) ∷ Value (address 1 (pos 0)) ∷ write 2 1 ∷ Value (over op.Neg I (One 1)) ∷ []

unused_size : split_size unused ≡ 4
unused_size = refl

unused_weight : weight unused ≡ 12
unused_weight = refl

-- one use more of a read costs at most a room, its store and two reads
use_of_read : use_size (read 0) ≡ 7
use_of_read = refl

-- a root that neither writes nor calls may be left out, and one that writes may not
abbrev negated : List Act
negated = Made 0 (address 0 (pos 0)) ∷ Acts (over op.Neg I (One 0)) ∷ []

fewer : IsFewer negated (Made 0 (address 0 (pos 0)) ∷ [])
fewer = inl ([], refl, inr (refl, refl))

abbrev stored : List Act
stored = Acts (over op.Asgn I (Two 0 0)) ∷ []

not_fewer : IsFewer stored [] → ⊥
not_fewer (inl h) = let e : [] ≡ Acts (over op.Asgn I (Two 0 0)) ∷ h.0 = h.1 in let no : ⊥ = cc in no
not_fewer (inr h) = let e : true ≡ false = h.0 in true≢false e

-- the negative of node 1 is made as node 2 and used behind a write, in place of such a use of node 1
abbrev write_end : Parts
write_end = over op.Asgn I Zero

abbrev return : ℕ → Parts
return a = over op.Ret I (One a)

swap : IsSwap (over op.Neg I (One 1)) 2 (Made 2 (over op.Neg I (One 1)) ∷ Acts write_end ∷ Acts (return 2) ∷ []) (Acts write_end ∷ Acts (return 1) ∷ []) []
swap = record {
  end = write_end;
  use_ = return 2;
  uses = Acts (return 1) ∷ [];
  later_is = refl;
  sooner_is = refl;
  ends = refl;
  bare = refl;
  used = refl;
  operands = λ m. omega arith;
  roots = tt;
  more = tt;
  fresh = refl;
  other = refl;
  plain = refl;
}

-- a call is no such node
no_call : (later sooner : List Act) → IsSwap (call 1) 2 later sooner [] → ⊥
no_call later sooner h = true≢false h.plain
