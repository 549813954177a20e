-- What the virtual code of a function's roots keeps, so that slots can be given and a frame laid out for it.
use Rattle.std.proofs.Common.{◌≡◌, ℕ, ◌+◌, ◌*◌, ◌≤◌, ◌<◌, List, [], ◌∷◌, length, All, sym, ap, subst, arith}
use Rattle.std.specs.List.{AllByRecursion, sum_by}
use Rattle.std.proofs.lemmas.List.Elements.{recursion_from_All}
use Rattle.lburg_model.specs.Derivation.{MDerivation}
use Rattle.op_forest.specs.declared.op.Op.TheVariants as op
use Rattle.op_forest.specs.declared.suffix.Suffix.TheVariants as suffix
use Rattle.op_forest.specs.declared.sym.Sym.{Sym}
use Rattle.op_forest.specs.declared.sym.Sym.TheVariants as symbol
use Rattle.op_forest.specs.Nodes.{Node, Leaf, One, Two, head_of, nodes, value_nodes}
use Rattle.op_forest.specs.EachNode.{AtEachNode}
use Rattle.forests.specs.WellFormed.{op_of, suffix_of}
use Rattle.forests.specs.HasRules.{IsGlobal}
use Rattle.op_forest.specs.Lowered.{LoweredUnit, IsKnown}
use Rattle.vcode.specs.VirtualCode.{MCode, joined}
use Rattle.vcode.specs.Emission.{IsLinearised}
use Rattle.slot_allocator.specs.Slots.{NamesKept}
use Rattle.slot_allocator.specs.SlotCounts.{slots_needed}
use Rattle.frame_code.specs.declared.instr.Instr.{Instr}
use Rattle.mips_rules.specs.Mips.{mips}
use Rattle.frame_rules.specs.FrameRules.{name_of, name_in}
use Rattle.mips_rules.specs.MipsRules.{mips_rules}
use Rattle.frame_rules.specs.OperatorNumbers.{is_addrgp}
use Rattle.mips_target.specs.FunctionCode.{most_handed, argument_words}
use Rattle.vcode.specs.NamesAmong.{NamesAmong}
use Rattle.mips_target.specs.Sizes.{Fits}
use Rattle.mips_target.specs.Generated.{temporaries}
use Rattle.mips_target.proofs.CoveredRoots.{each_both, each_root, IsCovered, AreCovered}
use Rattle.frame_rules.proofs.lemmas.Added.{AreAdded, handed_over, other_nodes, either_in, NamesOne}
use Rattle.mips_rules.specs.AppliedRules.{all_invert}
use Rattle.mips_rules.specs.MipsRows.{lines}
use Rattle.frame_rules.proofs.lemmas.AddedRoots.{roots_take, roots_added}
use Rattle.mips_target.proofs.Allotted.{put_all, allotted_code, layout_of, allotted_is, names_kept, names_among, slots_few, put_long, hands_few, fits}

-- ---- names

-- each number is a name's
abbrev pub AnyName : ℕ → Type 0
AnyName name = Unit {0}

any_name : (t : Node) → AtEachNode (NamesOne AnyName) t
any_name (Leaf h) = λ e. tt
any_name (One h a) = ((λ e. tt), any_name a)
any_name (Two h a b) = ((λ e. tt), any_name a, any_name b)

any_names : (ts : List Node) → AllByRecursion (AtEachNode (NamesOne AnyName)) ts
any_names [] = tt
any_names (t ∷ ts) = (any_name t, any_names ts)

known_name : (u : LoweredUnit) (roots : List Node) (x : Sym) → IsGlobal x → IsKnown u roots x → name_in (name_of x) < length u.names
known_name u roots symbol.Nothing g k = absurd g
known_name u roots (symbol.Global name offset) g k = k
known_name u roots (symbol.Label l) g k = absurd g
known_name u roots (symbol.Block size align) g k = absurd g

-- an address is that of a name
pub is_global : (t : Node) → IsCovered t → (op_of t ≡ op.Addrg) × (suffix_of t ≡ suffix.P) → IsGlobal (head_of t).sym
is_global t h e = h.rule.1 e.0

abbrev pub IsIn : LoweredUnit → ℕ → Type 0
IsIn u name = name < length u.names

names_known : (u : LoweredUnit) (roots : List Node) (t : Node) → IsCovered t → IsKnown u roots (head_of t).sym → NamesOne (IsIn u) t
names_known u roots t h k e = known_name u roots (head_of t).sym (is_global t h (is_addrgp (head_of t) e)) k

pub roots_known : (u : LoweredUnit) (roots ts : List Node) → AreCovered ts → All (AtEachNode (λ t. IsKnown u roots (head_of t).sym)) ts → AllByRecursion (AtEachNode (NamesOne (IsIn u))) ts
roots_known u roots ts w k =
    let Known : Node → Type 0 = λ t. IsKnown u roots (head_of t).sym in
    each_root (AtEachNode IsCovered) (AtEachNode Known) (AtEachNode (NamesOne (IsIn u))) (each_both IsCovered Known (NamesOne (IsIn u)) (names_known u roots)) ts w (recursion_from_All (AtEachNode Known) ts k)

-- ---- of linearised code

module _ (roots : List Node) (derivations : List MDerivation) (c : MCode Instr) (h : IsLinearised mips mips_rules roots derivations c) where
  -- each register is virtual
  pub code_added : AreAdded AnyName c.code
  code_added = subst (AreAdded AnyName) (sym h.code) (roots_added lines all_invert AnyName h.emits (any_names roots))

  pub code_names_kept : NamesKept mips temporaries c.code
  code_names_kept = names_kept AnyName c.code code_added

  pub allotted_put : allotted_code c ≡ put_all c.code
  allotted_put = allotted_is AnyName c.code code_added

  pub code_names_among : NamesAmong mips temporaries (allotted_code c)
  code_names_among = subst (NamesAmong mips temporaries) (sym allotted_put) (names_among AnyName c.code code_added)

  -- a slot for each node that gives a value
  pub code_slots : slots_needed mips c.code ≤ sum_by value_nodes roots
  code_slots = slots_few h.next (sum_by value_nodes roots) c.code h.few h.names

  pub code_length : length c.code ≤ sum_by nodes roots
  code_length = let a = (roots_take lines all_invert h.emits).count in let b : length c.code ≡ length (joined h.stretches) = ap length h.code in omega (arith, a, b)

  pub allotted_length : length (allotted_code c) ≤ 4 * sum_by nodes roots
  allotted_length =
      let a = code_length in
      let b = put_long AnyName c.code code_added in
      let d : length (allotted_code c) ≡ length (put_all c.code) = ap length allotted_put in
      omega (arith, a, b, d)

  -- at most one argument word is handed for each node that gives no value
  pub most_handed_few : most_handed 0 (allotted_code c) ≤ sum_by other_nodes roots
  most_handed_few =
      let a = (roots_take lines all_invert h.emits).hands in
      let e : handed_over c.code ≡ handed_over (joined h.stretches) = ap handed_over h.code in
      let b : most_handed 0 (put_all c.code) ≤ 0 + handed_over c.code = hands_few AnyName c.code code_added 0 in
      let d : most_handed 0 (allotted_code c) ≡ most_handed 0 (put_all c.code) = ap (most_handed 0) allotted_put in
      omega (arith, a, b, d, e)

  pub argument_words_few : argument_words (allotted_code c) ≤ 4 + sum_by other_nodes roots
  argument_words_few = let a = most_handed_few in omega (arith, a)

  -- a word of the frame for each node, and four
  pub words_few : argument_words (allotted_code c) + slots_needed mips c.code ≤ 4 + sum_by nodes roots
  words_few =
      let a = argument_words_few in
      let b = code_slots in
      let e = either_in roots in
      omega (arith, a, b, e)

  -- where its names are those of a unit, its code fits the frame that is laid out for it
  pub code_named : (u : LoweredUnit) → AreCovered roots → All (AtEachNode (λ t. IsKnown u roots (head_of t).sym)) roots → AreAdded (IsIn u) c.code
  code_named u w k = subst (AreAdded (IsIn u)) (sym h.code) (roots_added lines all_invert (IsIn u) h.emits (roots_known u roots roots w k))

  pub code_fits : (u : LoweredUnit) → AreCovered roots → All (AtEachNode (λ t. IsKnown u roots (head_of t).sym)) roots → Fits u.names (layout_of c) 0 (allotted_code c)
  code_fits u w k =
      let d : most_handed 0 (allotted_code c) ≡ most_handed 0 (put_all c.code) = ap (most_handed 0) allotted_put in
      let m : most_handed 0 (put_all c.code) ≤ (layout_of c).arguments = omega (arith, d) in
      subst (Fits u.names (layout_of c) 0) (sym allotted_put) (fits u.names (layout_of c) c.code (code_named u w k) (omega arith) 0 m)
