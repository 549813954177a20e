use Rattle.std.proofs.Common.{◌≡◌, ◌++◌, take, flat_map}
use Rattle.c_ast.specs.TreeTexts.{behind_comma}
use Rattle.c_ast.specs.ValueTexts.{expr_shown, specifier_shown, member_shown, field_shown, enumerator_shown, suffix_shown, parameter_shown}
use Rattle.c_ast.proofs.print_expr.+print.Given as goal

abbrev pub invariant-push_sequence-loop-part : goal.invariant-push_sequence-loop-part
invariant-push_sequence-loop-part l = l.out ≡ l.initial.out ++ flat_map (behind_comma expr_shown) (take l.part-index l.rest)

abbrev pub invariant-push_specifier_list-loop-specifier : goal.invariant-push_specifier_list-loop-specifier
invariant-push_specifier_list-loop-specifier l = l.out ≡ l.fn.out ++ flat_map specifier_shown (take l.specifier-index l.list)

abbrev pub invariant-push_members-loop-member : goal.invariant-push_members-loop-member
invariant-push_members-loop-member l = l.out ≡ l.fn.out ++ flat_map member_shown (take l.member-index l.members)

abbrev pub invariant-push_fields-loop-field : goal.invariant-push_fields-loop-field
invariant-push_fields-loop-field l = l.out ≡ l.initial.out ++ flat_map (behind_comma field_shown) (take l.field-index l.rest)

abbrev pub invariant-push_enumerators-loop-enumerator : goal.invariant-push_enumerators-loop-enumerator
invariant-push_enumerators-loop-enumerator l = l.out ≡ l.initial.out ++ flat_map (behind_comma enumerator_shown) (take l.enumerator-index l.rest)

abbrev pub invariant-push_suffixes-loop-suffix : goal.invariant-push_suffixes-loop-suffix
invariant-push_suffixes-loop-suffix l = l.out ≡ l.fn.out ++ flat_map suffix_shown (take l.suffix-index l.suffixes)

abbrev pub invariant-push_parameters-loop-parameter : goal.invariant-push_parameters-loop-parameter
invariant-push_parameters-loop-parameter l = l.out ≡ l.initial.out ++ flat_map (behind_comma parameter_shown) (take l.parameter-index l.rest)
