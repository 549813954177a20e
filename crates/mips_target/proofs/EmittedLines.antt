-- A function's instructions, but for those that keep its frame, are the expanded templates of its roots' derivations.
use Rattle.std.proofs.Common.{◌≡◌, ◌<◌, ℕ, List, [], ◌∷◌, decimal, length, map, All, Some, None, Option, sym, ap, ◌∙◌, subst, arith}
use Rattle.std.specs.Prelude.{ℤ, FitsSigned, IsSomeAnd}
use Rattle.std.specs.Int.{w32}
use Rattle.std.specs.List.{AllZip, AllByRecursion}
use Rattle.std.proofs.lemmas.List.Elements.{recursion_from_All}
use Rattle.lburg_model.specs.Derivation.{MDerivation}
use Rattle.lburg_model.specs.Description.{MDescription}
use Rattle.reducer.specs.AreBest.{AreBest}
use Rattle.asm_text.specs.Program.{MInstruction}
use Rattle.op_forest.specs.declared.op.Op.TheVariants as op
use Rattle.op_forest.specs.declared.suffix.Suffix.TheVariants as suffix
use Rattle.op_forest.specs.declared.sym.Sym.{Sym}
use Rattle.op_forest.specs.declared.sym.Sym.TheVariants as symbol
use Rattle.op_forest.specs.Nodes.{Node, head_of, tree_of}
use Rattle.op_forest.specs.EachNode.{AtEachNode}
use Rattle.forests.specs.WellFormed.{op_of, suffix_of, HasPart}
use Rattle.forests.specs.HasRules.{IsGlobal}
use Rattle.op_forest.specs.Lowered.{LoweredUnit, IsKnown, IsUnitName}
use Rattle.vcode.specs.VirtualCode.{MCode}
use Rattle.vcode.specs.Emission.{IsLinearised}
use Rattle.frame_code.specs.declared.instr.Instr.{Instr}
use Rattle.mips_rules.specs.Mips.{mips}
use Rattle.mips_rules.specs.MipsRules.{mips_rules}
use Rattle.frame_rules.specs.OperatorNumbers.{is_cnsti, is_addrgp}
use Rattle.mips_rules.specs.Shipped.{IsShipped}
use Rattle.mips_target.specs.Frame.{words_size, frame_size}
use Rattle.mips_target.specs.FunctionCode.{unmarked, function_code}
use Rattle.mips_target.specs.Sizes.{Fits}
use Rattle.mips_target.specs.Emits.{Says, Emits, from_templates}
use Rattle.mips_target.proofs.Allotted.{allotted_code, layout_of}
use Rattle.mips_target.proofs.PlainCode.{plain_all, templates_in, templates_unmarked, code_plain}
use Rattle.mips_target.proofs.SaidLines.{SaysInstruction}
use Rattle.mips_target.proofs.Unmarked.{function_instructions, function_unmarked}
use Rattle.mips_target.proofs.Deriving.{roots_derived}
use Rattle.mips_target.proofs.Writing.{IsConstant, IsPlainName, HasText, roots_written}
use Rattle.mips_target.proofs.CoveredRoots.{each_both, each_root, IsCovered, AreCovered}
use Rattle.mips_target.proofs.Emission.{is_global, code_named, code_fits, allotted_put}

-- texts that say instructions say them as items
items_said : (labels : ℕ → List ℕ) (texts : List (List ℕ)) (is : List MInstruction) → AllZip SaysInstruction texts is → AllZip (Says labels) texts (unmarked is)
items_said labels [] [] h = tt
items_said labels [] (i ∷ is) h = absurd h
items_said labels (x ∷ texts) [] h = absurd h
items_said labels (x ∷ texts) (i ∷ is) h = (h.0, items_said labels texts is h.1)

module _ (u : LoweredUnit) (roots : List Node) where
  abbrev IsKnownNode : Node → Type 0
  IsKnownNode t = IsKnown u roots (head_of t).sym

  constant_alone : (x : Sym) (v : Option ℤ) → x ≡ symbol.Nothing → IsSomeAnd v (λ z. FitsSigned w32 z) → IsConstant x v
  constant_alone symbol.Nothing None e h = absurd h
  constant_alone symbol.Nothing (Some z) e h = h
  constant_alone (symbol.Global name offset) v e h = absurd cc
  constant_alone (symbol.Label l) v e h = absurd cc
  constant_alone (symbol.Block size align) v e h = absurd cc

  plain_name : (x : Sym) → IsGlobal x → IsKnown u roots x → IsPlainName u.names x
  plain_name symbol.Nothing g k = absurd g
  plain_name (symbol.Global name offset) g k = (g, k)
  plain_name (symbol.Label l) g k = absurd g
  plain_name (symbol.Block size align) g k = absurd g

  is_constant : (t : Node) → IsCovered t → (op_of t ≡ op.Cnst) × (suffix_of t ≡ suffix.I) → ((head_of t).sym ≡ symbol.Nothing) × IsSomeAnd (head_of t).value (λ z. FitsSigned w32 z)
  is_constant t h e =
      subst (λ s. HasPart op.Cnst s (head_of t).sym (head_of t).value) e.1 (subst (λ o. HasPart o (suffix_of t) (head_of t).sym (head_of t).value) e.0 h.kind.part)

  has_text : (t : Node) → IsCovered t → IsKnownNode t → HasText u.names t
  has_text t h k = (
    (λ e. let c = is_constant t h (is_cnsti (head_of t) e) in constant_alone (head_of t).sym (head_of t).value c.0 c.1),
    (λ e. plain_name (head_of t).sym (is_global t h (is_addrgp (head_of t) e)) k),
  )

  roots_text : AreCovered roots → All (AtEachNode IsKnownNode) roots → AllByRecursion (AtEachNode (HasText u.names)) roots
  roots_text w k =
      each_root (AtEachNode IsCovered) (AtEachNode IsKnownNode) (AtEachNode (HasText u.names)) (each_both IsCovered IsKnownNode (HasText u.names) has_text) roots w (recursion_from_All (AtEachNode IsKnownNode) roots k)

  module _ (derivations : List MDerivation) (c : MCode Instr) (h : IsLinearised mips mips_rules roots derivations c) where
    -- the instructions of templates are those that the rules add, over the temporaries
    templates_plain : AreCovered roots → All (AtEachNode IsKnownNode) roots → templates_in (layout_of c) (function_instructions u.names (layout_of c) (allotted_code c)) ≡ plain_all u.names c.code
    templates_plain w k =
        let put = allotted_put roots derivations c h in
        ap (λ a. templates_in (layout_of c) (function_instructions u.names (layout_of c) a)) put
        ∙ code_plain u.names (layout_of c) (λ name. name < length u.names) c.code (omega arith) (code_named roots derivations c h u w k)
        (subst (Fits u.names (layout_of c) 0) put (code_fits roots derivations c h u w k))

    items_plain : AreCovered roots → All (AtEachNode IsKnownNode) roots → from_templates (words_size (layout_of c)) (function_code u.names (layout_of c) (allotted_code c)) ≡ unmarked (plain_all u.names c.code)
    items_plain w k =
        ap (from_templates (words_size (layout_of c))) (function_unmarked u.names (layout_of c) (allotted_code c))
        ∙ templates_unmarked (layout_of c) (function_instructions u.names (layout_of c) (allotted_code c))
        ∙ ap unmarked (templates_plain w k)

    pub code_emits : (labels : ℕ → List ℕ) (d : MDescription) → IsShipped d → AreBest d (map tree_of roots) derivations → AreCovered roots → All (AtEachNode (λ t. IsKnown u roots (head_of t).sym)) roots → All IsUnitName u.names → Emits u.names labels (frame_size (layout_of c)) derivations roots (function_code u.names (layout_of c) (allotted_code c))
    code_emits labels d shipped best w k names =
        let written = roots_written u.names labels (decimal (frame_size (layout_of c))) names d.rules shipped.rows d.start h.emits (roots_derived d roots derivations best) (roots_text w k) in
        let said : AllZip SaysInstruction written.lines (plain_all u.names c.code) = subst (AllZip SaysInstruction written.lines) (ap (plain_all u.names) (sym h.code)) written.say in
        record {
          words = words_size (layout_of c);
          within = omega arith;
          lines = written.lines;
          writes = written.writes;
          say = subst (AllZip (Says labels) written.lines) (sym (items_plain w k)) (items_said labels written.lines (plain_all u.names c.code) said);
        }
