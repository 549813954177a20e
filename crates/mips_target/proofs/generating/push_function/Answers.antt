use Rattle.std.proofs.Common.{◌≡◌, [], length, get_or, ap, ◌∙◌, subst, arith}
use Rattle.std.proofs.lemmas.List.{get_or_default}
use Rattle.std.proofs.lemmas.Result.{on_ok_weaker}
use Rattle.mips_target.specs.declared.layout.Layout.{Layout}
use Rattle.mips_target.specs.Allocated.{IsAllocated}
use Rattle.mips_target.specs.FunctionCode.{function_code}
use Rattle.unit_text.specs.UnitLines.{named, label_text, code_lines, Coded}
use Rattle.mips_target.proofs.CoveredRoots.{covered_roots}
use Rattle.mips_target.proofs.CodeOfRoots.{layout_for, length_few, words_few, fits, is_code, layout_is, fits_same, code_same}
use Rattle.unit_text.proofs.lemmas.Numbering.{added}
use Rattle.mips_target.proofs.generating.push_function.Goals as goal

pub argument_words-requires : goal.argument_words-requires
argument_words-requires c =
    let e = ap (λ f. f.roots) c.in_ok-forest.ensures in
    let roots = c.args.function.now.forest.roots in
    let code = c.in_ok-code.code in
    let a : IsAllocated roots code = subst (λ rs. IsAllocated rs code) e c.in_ok-code.ensures in
    let few = length_few roots code a in
    let same = ap length c.code-2.ensures.value in
    let size = c.requires.size in
    omega (arith, few, same, size)

pub push_function_code-requires-clause-fits : goal.push_function_code-requires-clause-fits
push_function_code-requires-clause-fits c =
    let e = ap (λ f. f.roots) c.in_ok-forest.ensures in
    let roots = c.args.function.now.forest.roots in
    let code = c.in_ok-code.code in
    let a : IsAllocated roots code = subst (λ rs. IsAllocated rs code) e c.in_ok-code.ensures in
    let l = layout_is code c.argument_words.result c.slots.result c.code-2.result.now c.code-2.ensures.value c.argument_words.ensures c.slots.ensures in
    fits_same c.args.lowered.now.names c.names-2.result.now (layout_for code) (record { arguments = c.argument_words.result; slots = c.slots.result }) code.code c.code-3.result.now c.names-2.ensures.value l c.code-3.ensures.value (fits roots code a c.args.lowered.now (covered_roots c.args.function.now.forest c.requires.well_formed c.requires.ruled) c.requires.function.symbols)

pub push_function_code-requires-clause-frame : goal.push_function_code-requires-clause-frame
push_function_code-requires-clause-frame c =
    let e = ap (λ f. f.roots) c.in_ok-forest.ensures in
    let roots = c.args.function.now.forest.roots in
    let code = c.in_ok-code.code in
    let a : IsAllocated roots code = subst (λ rs. IsAllocated rs code) e c.in_ok-code.ensures in
    let l = layout_is code c.argument_words.result c.slots.result c.code-2.result.now c.code-2.ensures.value c.argument_words.ensures c.slots.ensures in
    let words = ap (λ x. x.arguments) l in
    let slots = ap (λ x. x.slots) l in
    let few = words_few roots code a in
    let size = c.requires.size in
    omega (arith, words, slots, few, size)

pub push_function_code-requires-clause-size : goal.push_function_code-requires-clause-size
push_function_code-requires-clause-size c =
    let e = ap (λ f. f.roots) c.in_ok-forest.ensures in
    let roots = c.args.function.now.forest.roots in
    let code = c.in_ok-code.code in
    let a : IsAllocated roots code = subst (λ rs. IsAllocated rs code) e c.in_ok-code.ensures in
    let few = length_few roots code a in
    let same = ap length c.code-3.ensures.value in
    let size = c.requires.size in
    omega (arith, few, same, size)

pub returns : goal.returns
returns c =
    let e = ap (λ f. f.roots) c.in_ok-forest.ensures in
    let u = c.args.lowered.now in
    let f = c.args.function.now in
    let code = c.in_ok-code.code in
    let a : IsAllocated f.forest.roots code = subst (λ rs. IsAllocated rs code) e c.in_ok-code.ensures in
    let layout : Layout = record { arguments = c.argument_words.result; slots = c.slots.result } in
    let l = layout_is code c.argument_words.result c.slots.result c.code-2.result.now c.code-2.ensures.value c.argument_words.ensures c.slots.ensures in
    let items = function_code c.names-2.result.now layout c.code-3.result.now in
    let coded : Coded = record { name = c.as_slice.result.now; labels = label_text; items = items } in
    let item = c.index-names-function.result in
    let there : coded.name ≡ get_or u.names f.name item = c.as_slice.ensures ∙ c.index-names-function.is ∙ ap (λ names. get_or names f.name item) c.names.ensures.value in
    let made = code_same u.names c.names-2.result.now (layout_for code) layout code.code c.code-3.result.now c.names-2.ensures.value l c.code-3.ensures.value in
    on_ok_weaker c.push_function_code.result (λ more. record {
      function = coded;
      is = record {
        name = there ∙ get_or_default u.names f.name item [] c.requires.function.name;
        code = is_code f.forest.roots code a u label_text (covered_roots f.forest c.requires.well_formed c.requires.ruled) c.requires.names c.requires.function.symbols items made;
      };
      adds = more ∙ added c.args.lines.now c.push_name.new.lines (named coded.name) (code_lines label_text items) c.in_ok-push_name.ensures;
    }) c.push_function_code.ensures
