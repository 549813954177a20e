use Rattle.std.proofs.Common.{◌≡◌, ℕ, ◌<◌, ◌+◌, List, length, get_or, drop, sym, ap, ◌∙◌, arith}
use Rattle.std.specs.Prelude.{bit_or}
use Rattle.std.specs.Int.Bits.{or_zero_r}
use Rattle.std.proofs.lemmas.List.{at_drop_all, at_drop_more}
use Rattle.c_types.proofs.lemmas.Qualifying.{or_assoc}
use Rattle.c_ast.specs.declared.specifier.Qualifier.{Qualifier}
use Rattle.c_meaning.specs.TypeRows.{qualifier_bit, qualifiers_among}
use Rattle.c_check_expr.proofs.walk_declarators.qualifier_set.Goals as goal

next : (l : List Qualifier) (i set bit new : ℕ) (d : Qualifier) → i < length l → bit ≡ qualifier_bit (get_or l i d) → new ≡ bit_or set bit → bit_or set (qualifiers_among (drop i l)) ≡ qualifiers_among l → bit_or new (qualifiers_among (drop (i + 1) l)) ≡ qualifiers_among l
next l i set bit new d h e n k =
    let all = qualifiers_among (drop (i + 1) l) in
    ap (λ x. bit_or x all) (n ∙ ap (bit_or set) e) ∙ or_assoc set (qualifier_bit (get_or l i d)) all ∙ ap (bit_or set) (sym (at_drop_more qualifiers_among l i d h)) ∙ k

pub loop-qualifier-preserved : goal.loop-qualifier-preserved
loop-qualifier-preserved c = next c.args.list.now c.loop-qualifier.qualifier-index c.loop-qualifier.set.0 c.flag.result.0 c.with-set.result.0 _ (omega arith) c.flag.ensures c.with-set.ensures c.loop-qualifier.invariant

pub returns : goal.returns
returns c = sym (or_zero_r c.loop-qualifier.set.0) ∙ ap (bit_or c.loop-qualifier.set.0) (sym (at_drop_all qualifiers_among c.args.list.now c.loop-qualifier.qualifier-index (omega arith))) ∙ c.loop-qualifier.invariant
