-- The instructions of a function's roots, from their allocated code.
use Rattle.std.proofs.Common.{◌≡◌, ℕ, ◌+◌, ◌*◌, ◌≤◌, List, length, sum_by, All, sym, ap, ◌∙◌, subst, arith}
use Rattle.asm_text.specs.Program.{MInstruction}
use Rattle.op_forest.specs.Nodes.{Node, nodes, head_of}
use Rattle.op_forest.specs.EachNode.{AtEachNode}
use Rattle.op_forest.specs.Lowered.{LoweredUnit, IsKnown, IsUnitName}
use Rattle.vcode.specs.VirtualCode.{MAllocated}
use Rattle.frame_code.specs.declared.instr.Instr.{Instr}
use Rattle.mips_rules.specs.Mips.{mips}
use Rattle.mips_target.specs.declared.layout.Layout.{Layout}
use Rattle.unit_text.specs.Callable.{IsCallable}
use Rattle.frame_code.specs.CalledNames.{CallsAre}
use Rattle.mips_target.specs.Frame.{frame_size}
use Rattle.mips_target.specs.FunctionCode.{argument_words, function_code}
use Rattle.unit_text.specs.Items.{CodeItem, lines_in}
use Rattle.vcode.specs.NamesAmong.{NamesAmong}
use Rattle.mips_target.specs.Sizes.{Fits}
use Rattle.mips_target.specs.Emits.{Emits}
use Rattle.mips_target.specs.Allocated.{IsAllocated}
use Rattle.mips_target.specs.Generated.{temporaries, frame_bound, IsCodeOf}
use Rattle.mips_target.proofs.Allotted.{allotted_code, layout_of}
use Rattle.mips_target.proofs.CoveredRoots.{AreCovered}
use Rattle.mips_target.proofs.Calls.{calls_callable}
use Rattle.mips_target.proofs.Emission.{allotted_length, words_few as frame_words, code_fits, code_names_among}
use Rattle.mips_target.proofs.EmittedLines.{code_emits}
use Rattle.mips_target.proofs.Lengths.{code_small, frame_small}
use Rattle.mips_target.proofs.Unmarked.{function_lines}

-- the layout of allocated code
abbrev pub layout_for : MAllocated Instr → Layout
layout_for c = record { arguments = argument_words c.code; slots = c.slots }

module _ (roots : List Node) (c : MAllocated Instr) (a : IsAllocated roots c) where
  same_layout : layout_of a.virtual ≡ layout_for c
  same_layout = (λ i. record { arguments = argument_words (sym a.code i); slots = sym a.slots i })

  pub length_few : length c.code ≤ 4 * sum_by nodes roots
  length_few = let e = ap length a.code in let g = allotted_length roots a.selected.derivations a.virtual a.selected.linearised in omega (arith, e, g)

  pub words_few : argument_words c.code + c.slots ≤ 4 + sum_by nodes roots
  words_few =
      let e = ap argument_words a.code in
      let g = frame_words roots a.selected.derivations a.virtual a.selected.linearised in
      let h = a.slots in
      omega (arith, e, g, h)

  pub fits : (u : LoweredUnit) → AreCovered roots → All (AtEachNode (λ t. IsKnown u roots (head_of t).sym)) roots → Fits u.names (layout_for c) 0 c.code
  fits u w k =
      subst (Fits u.names (layout_for c) 0) (sym a.code) (subst (λ l. Fits u.names l 0 (allotted_code a.virtual)) same_layout (code_fits roots a.selected.derivations a.virtual a.selected.linearised u w k))

  -- the items are those of a function of the roots
  pub is_code : (u : LoweredUnit) (labels : ℕ → List ℕ) → AreCovered roots → All IsUnitName u.names → All (AtEachNode (λ t. IsKnown u roots (head_of t).sym)) roots → (items : List (CodeItem MInstruction)) → items ≡ function_code u.names (layout_for c) c.code → IsCodeOf u labels roots items
  is_code u labels w n k items made =
      let v = a.virtual in
      let s = a.selected in
      let is : items ≡ function_code u.names (layout_of v) (allotted_code v) = made ∙ ap (λ l. function_code u.names l c.code) (sym same_layout) ∙ ap (λ is. function_code u.names (layout_of v) is) a.code in
      let long = allotted_length roots s.derivations v s.linearised in
      let short = code_small u.names (layout_of v) (allotted_code v) (sum_by nodes roots) long in
      let e = ap (λ x. length (lines_in x)) is ∙ ap length (function_lines u.names (layout_of v) (allotted_code v)) in
      record {
        virtual = v;
        selected = s;
        allocated = c.code;
        layout = layout_for c;
        form = a.form;
        follows = a.follows;
        slots = a.below;
        registers = subst (NamesAmong mips temporaries) (sym a.code) (code_names_among roots s.derivations v s.linearised);
        fits = fits u w k;
        made = made;
        calls = λ callable. subst (CallsAre (IsCallable u)) (sym a.code) (calls_callable u roots v s w callable);
        emits = subst (λ l. Emits u.names labels (frame_size l) s.derivations roots items) same_layout (subst (Emits u.names labels (frame_size (layout_of v)) s.derivations roots) (sym is) (code_emits u roots s.derivations v s.linearised labels s.description s.shipped s.best w k n));
        frame = subst (λ l. frame_size l ≤ frame_bound (sum_by nodes roots)) same_layout (frame_small (layout_of v) (sum_by nodes roots) (frame_words roots s.derivations v s.linearised));
        short = omega (arith, short, e);
      }

-- a layout of these numbers
pub layout_is : (c : MAllocated Instr) (arguments slots : ℕ) (code : List Instr) → code ≡ c.code → arguments ≡ argument_words code → slots ≡ c.slots → record { arguments = arguments; slots = slots } ≡ layout_for c
layout_is c arguments slots code e a s = λ i. record { arguments = (a ∙ ap argument_words e) i; slots = s i }

pub fits_same : (names names' : List (List ℕ)) (l l' : Layout) (code code' : List Instr) → names' ≡ names → l' ≡ l → code' ≡ code → Fits names l 0 code → Fits names' l' 0 code'
fits_same names names' l l' code code' n e c h = subst (λ x. Fits x l' 0 code') (sym n) (subst (λ x. Fits names x 0 code') (sym e) (subst (λ x. Fits names l 0 x) (sym c) h))

pub code_same : (names names' : List (List ℕ)) (l l' : Layout) (code code' : List Instr) → names' ≡ names → l' ≡ l → code' ≡ code → function_code names' l' code' ≡ function_code names l code
code_same names names' l l' code code' n e c = λ i. function_code (n i) (e i) (c i)
