use Rattle.std.proofs.Common.{◌≡◌, max, drop}
use Rattle.c_ast.specs.ValueHeights.{capped, most, expr_high, specifier_high, member_high, field_high, enumerator_high, suffix_high, parameter_high}
use Rattle.c_ast.proofs.tree_height.+height.Given as goal

abbrev pub invariant-tallest-loop-e : goal.invariant-tallest-loop-e
invariant-tallest-loop-e l = max l.most (capped (most expr_high (drop l.e-index l.expressions))) ≡ capped (most expr_high l.expressions)

abbrev pub invariant-specifier_list_height-loop-specifier : goal.invariant-specifier_list_height-loop-specifier
invariant-specifier_list_height-loop-specifier l = max l.most (capped (most specifier_high (drop l.specifier-index l.list))) ≡ capped (most specifier_high l.list)

abbrev pub invariant-members_height-loop-member : goal.invariant-members_height-loop-member
invariant-members_height-loop-member l = max l.most (capped (most member_high (drop l.member-index l.members))) ≡ capped (most member_high l.members)

abbrev pub invariant-fields_height-loop-field : goal.invariant-fields_height-loop-field
invariant-fields_height-loop-field l = max l.most (capped (most field_high (drop l.field-index l.fields))) ≡ capped (most field_high l.fields)

abbrev pub invariant-enumerators_height-loop-enumerator : goal.invariant-enumerators_height-loop-enumerator
invariant-enumerators_height-loop-enumerator l = max l.most (capped (most enumerator_high (drop l.enumerator-index l.enumerators))) ≡ capped (most enumerator_high l.enumerators)

abbrev pub invariant-suffixes_height-loop-suffix : goal.invariant-suffixes_height-loop-suffix
invariant-suffixes_height-loop-suffix l = max l.most (capped (most suffix_high (drop l.suffix-index l.suffixes))) ≡ capped (most suffix_high l.suffixes)

abbrev pub invariant-parameters_height-loop-parameter : goal.invariant-parameters_height-loop-parameter
invariant-parameters_height-loop-parameter l = max l.most (capped (most parameter_high (drop l.parameter-index l.parameters))) ≡ capped (most parameter_high l.parameters)
