-- Each return of a walk: what was typed of the parts, and then of the construct.
use Rattle.std.proofs.Common.{rules, ◌≡◌, Some, None, ◌++◌, map, refl, ap, ◌∙◌, arith}
use Rattle.std.specs.Prelude.{pos, ◌+ℤ◌}
use Rattle.std.proofs.lemmas.Int.{ints, to_z-of_z}
use Rattle.c_ast.specs.Trees.{Binary, Assign, Member, Integer, Character, Text, Prefix, Postfix, SizeofExpr, Index}
use mir.Syntax.{w64}
use mir.Val.{SFits, of_z, to_z}
use Rattle.c_ast.specs.Trees as tree
use Rattle.c_ast.specs.Views.{enumerators_of, exprs_of, members_of, parameters_of, specifier_list_of, suffixes_of}
use Rattle.c_meaning.specs.Nodes as node
use Rattle.c_check_expr.specs.declared.parts.Part.TheVariants as part
use Rattle.c_check_expr.specs.declared.parts.Step.TheVariants as step
use Rattle.c_ast.specs.Seen.{declarator_seen, enumerator_seen, expr_seen, maybe_expr_seen, member_seen, parameter_seen as parameter_tree, specifier_seen, suffix_seen, type_name_seen}
use Rattle.c_check_expr.specs.PartsSeen.{AreParametersIn, ArePartsIn, AreStepsIn, declared_seen, parameters_seen, parts_seen, steps_seen}
use Rattle.c_check_expr.specs.TypedIn.{declarator_in, exprs_in, parameters_in, parts_in, suffixes_in}
use Rattle.c_check_expr.specs.Walks.{AreCoresIn, IsDeclaredIn, cores}
use Rattle.c_values.specs.Stays.{grows_itself, in_later}
use Rattle.c_ast.proofs.lemmas.SeenExprs.{form_assign, form_binary, form_call, form_cast, form_character, form_comma, form_conditional, form_enclosed, form_index, form_integer, form_name, form_postfix, form_prefix, form_selected, form_sizeof_expr, form_sizeof_type, form_text}
use Rattle.c_check_expr.proofs.WalkExprs.{call_goes, call_stops, call_stops_second, callee_plain, cast_goes, cast_stops, cast_stops_second, comma_goes, comma_stops, enclosed_goes, leaf_goes, name_goes, one_goes, one_stops, pair_goes, pair_stops, pair_stops_second, seen_as, sizeof_type_goes, sizeof_type_stops, three_go, three_stop, three_stop_behind, two_go, two_stop}
use Rattle.c_ast.proofs.lemmas.SeenTypes.{core_declared, core_omitted, core_parentheses, form_enum_tag, form_named, form_record_tag, form_array, form_basic, form_empty, form_enum, form_names, form_parameters, form_qualifier, form_record, form_storage}
use Rattle.c_check_expr.proofs.WalkDeclarators.{array_goes, array_stops, core_as, core_goes, core_inner, declarator_goes, declarator_stops, declarator_stops_second, parameter_goes, parameter_none, parameter_shape_goes, parameter_shape_stops, parameter_stops, parameter_stops_second, prototype_line, suffix_as, suffix_plain}
use Rattle.c_check_expr.proofs.WalkLoops.{enumerators_end, enumerators_on, enumerators_start, enumerators_stop, fields_end, fields_on, fields_start, fields_stop, members_end, members_on, members_start, members_stop, exprs_end, exprs_on, exprs_start, exprs_stop, parameters_end, parameters_on, parameters_start, parameters_stop, parts_end, parts_on, parts_start, parts_stop, suffixes_end, suffixes_on, suffixes_start, suffixes_stop}
use Rattle.c_check_expr.proofs.TypedFields.{members_are_fields}
use Rattle.c_check_expr.proofs.WalkParts.{enumeration_stops, line_goes, line_stops, named_plain, part_as, part_plain, record_goes, record_stops, record_stops_behind, whole_goes, whole_stops, without_comma, enumeration_goes, enumeration_stops_behind}
use Rattle.c_check_expr.specs.Kept.{below_later, keeps_itself, keeps_on}
use Rattle.c_check_expr.proofs.WalkStays.{members_later}
use Rattle.c_check_expr.proofs.WalkFields.{enumerator_goes, enumerator_stops, enumerator_stops_behind, field_goes, field_stops, field_stops_node, field_stops_second, prototype_goes, prototype_stops}
use Rattle.c_check_expr.proofs.lemmas.Walking.{memory_stops}
use Rattle.c_check_expr.proofs.WalkTypes.{maybe_goes, maybe_none, maybe_stops, name_goes as type_name_goes, name_stops, name_stops_second, shape_goes, shape_none, shape_stops, specifiers_go, specifiers_stop}
use Rattle.c_check_expr.proofs.+walk.Goals as goal

pub walk_expr::expression-returns-in-Name : goal.walk_expr::expression-returns-in-Name
walk_expr::expression-returns-in-Name t c = let e = c.args.e.now in seen_as e _ _ c.in-Name.is (cc (form_name c.in-Name.name e.line)) (name_goes c.args.scopes.now c.args.types.now e.line c.as_slice.result.now c.name.result c.requires c.name.ensures.ok c.name.ensures.err c.name.ensures.within)

pub walk_expr::expression-returns-in-Integer : goal.walk_expr::expression-returns-in-Integer
walk_expr::expression-returns-in-Integer t c = let e = c.args.e.now in let h = c.in-Integer in seen_as e _ _ h.is (cc (form_integer h.value h.kind e.line)) (leaf_goes (Integer e.line h.value h.kind) e.line (node.Integer h.value h.kind) c.args.scopes.now c.args.types.now c.args.types.now c.integer.result (λ m. refl) c.requires (record { ok = c.integer.ensures.ok; err = c.integer.ensures.err; within = c.integer.ensures.within; grows = grows_itself c.args.types.now }))

pub walk_expr::expression-returns-in-Character : goal.walk_expr::expression-returns-in-Character
walk_expr::expression-returns-in-Character t c = let e = c.args.e.now in let h = c.in-Character in seen_as e _ _ h.is (cc (form_character h.value e.line)) (leaf_goes (Character e.line h.value) e.line (node.Character h.value) c.args.scopes.now c.args.types.now c.args.types.now c.character.result (λ m. refl) c.requires (record { ok = c.character.ensures.ok; err = c.character.ensures.err; within = c.character.ensures.within; grows = grows_itself c.args.types.now }))

pub walk_expr::expression-returns-in-Text : goal.walk_expr::expression-returns-in-Text
walk_expr::expression-returns-in-Text t c = let e = c.args.e.now in let h = c.in-Text in seen_as e _ _ h.is (cc (form_text h.texts e.line)) (leaf_goes (Text e.line h.texts) e.line (node.Text h.texts) c.args.scopes.now c.args.types.now c.text.new.types c.text.result (λ m. refl) c.requires (record { ok = c.text.ensures.ok; err = c.text.ensures.err; within = c.text.ensures.within; grows = c.text.ensures.grows }))

pub walk_expr::expression-returns-in-Enclosed : goal.walk_expr::expression-returns-in-Enclosed
walk_expr::expression-returns-in-Enclosed t c = let e = c.args.e.now in seen_as e _ _ c.in-Enclosed.is (cc (form_enclosed c.in-Enclosed.a e.line)) (enclosed_goes e.line (expr_seen c.deref.result.now) c.expression.ensures)

pub walk_expr::expression-returns-in-Index : goal.walk_expr::expression-returns-in-Index
walk_expr::expression-returns-in-Index t c = let e = c.args.e.now in let h = c.in-Index in seen_as e _ _ h.is (cc (form_index h.a h.i e.line)) c.subscript.ensures

pub walk_expr::expression-returns-in-Call : goal.walk_expr::expression-returns-in-Call
walk_expr::expression-returns-in-Call t c = let e = c.args.e.now in let h = c.in-Call in seen_as e _ _ h.is (cc (form_call h.f h.arguments e.line)) c.call.ensures

pub walk_expr::expression-returns-in-Postfix : goal.walk_expr::expression-returns-in-Postfix
walk_expr::expression-returns-in-Postfix t c = let e = c.args.e.now in let h = c.in-Postfix in seen_as e _ _ h.is (cc (form_postfix h.op h.a e.line)) c.postfix.ensures

pub walk_expr::expression-returns-in-Prefix : goal.walk_expr::expression-returns-in-Prefix
walk_expr::expression-returns-in-Prefix t c = let e = c.args.e.now in let h = c.in-Prefix in seen_as e _ _ h.is (cc (form_prefix h.op h.a e.line)) c.prefix.ensures

pub walk_expr::expression-returns-in-SizeofExpr : goal.walk_expr::expression-returns-in-SizeofExpr
walk_expr::expression-returns-in-SizeofExpr t c = let e = c.args.e.now in let h = c.in-SizeofExpr in seen_as e _ _ h.is (cc (form_sizeof_expr h.a e.line)) c.sizeof_expr.ensures

pub walk_expr::expression-returns-in-SizeofType : goal.walk_expr::expression-returns-in-SizeofType
walk_expr::expression-returns-in-SizeofType t c = let e = c.args.e.now in let h = c.in-SizeofType in seen_as e _ _ h.is (cc (form_sizeof_type h.of e.line)) c.sizeof_type.ensures

pub walk_expr::expression-returns-in-Cast : goal.walk_expr::expression-returns-in-Cast
walk_expr::expression-returns-in-Cast t c = let e = c.args.e.now in let h = c.in-Cast in seen_as e _ _ h.is (cc (form_cast h.to h.a e.line)) c.cast.ensures

pub walk_expr::expression-returns-in-Comma : goal.walk_expr::expression-returns-in-Comma
walk_expr::expression-returns-in-Comma t c = let e = c.args.e.now in let h = c.in-Comma in seen_as e _ _ h.is (cc (form_comma h.parts e.line)) c.comma.ensures

pub walk_expr::expression-returns-in_err-a-in-Member : goal.walk_expr::expression-returns-in_err-a-in-Member
walk_expr::expression-returns-in_err-a-in-Member t c = let e = c.args.e.now in let x = expr_seen c.deref-in-Member.result.now in let h = c.in-Member in seen_as e _ _ h.is (cc (form_selected h.op h.a h.name e.line)) (one_stops (Member e.line h.op x h.name.value) x e.line (λ y. node.Member h.op y h.name.value) (λ m. refl) c.from_residual.result c.from_residual.ensures.1 c.in_err-a-in-Member.ensures)

pub walk_expr::expression-returns-in_ok-a-in-Member : goal.walk_expr::expression-returns-in_ok-a-in-Member
walk_expr::expression-returns-in_ok-a-in-Member t c = let e = c.args.e.now in let x = expr_seen c.deref-in-Member.result.now in let n = c.as_slice-in-Member.result.now in let h = c.in-Member in seen_as e _ _ h.is (cc (form_selected h.op h.a h.name e.line)) (one_goes (Member e.line h.op x n) x e.line (λ y. node.Member h.op y n) (λ m. refl) c.in_ok-a-in-Member.ensures (record { ok = c.select.ensures.ok; err = c.select.ensures.err; within = c.select.ensures.within; grows = c.select.ensures.grows }))

pub walk_expr::expression-returns-in_err-a-in-Binary : goal.walk_expr::expression-returns-in_err-a-in-Binary
walk_expr::expression-returns-in_err-a-in-Binary t c = let e = c.args.e.now in let h = c.in-Binary in let x = expr_seen c.deref-in-Binary.result.now in let y = expr_seen c.deref-in-Binary-2.result.now in seen_as e _ _ h.is (cc (form_binary h.op h.a h.b e.line)) (two_stop (Binary e.line h.op x y) x y e.line (λ x y. node.Binary h.op x y) (λ m. refl) c.from_residual-in_err-a-in-Binary.result c.from_residual-in_err-a-in-Binary.ensures.1 c.in_err-a-in-Binary.ensures)

pub walk_expr::expression-returns-in_ok-a-in-Binary : goal.walk_expr::expression-returns-in_ok-a-in-Binary
walk_expr::expression-returns-in_ok-a-in-Binary t c = let e = c.args.e.now in let h = c.in-Binary in let x = expr_seen c.deref-in-Binary.result.now in let y = expr_seen c.deref-in-Binary-2.result.now in seen_as e _ _ h.is (cc (form_binary h.op h.a h.b e.line)) (two_go (Binary e.line h.op x y) x y e.line (λ x y. node.Binary h.op x y) (λ m. refl) c.in_ok-a-in-Binary.ensures (record { ok = c.binary.ensures.ok; err = c.binary.ensures.err; within = c.binary.ensures.within; grows = c.binary.ensures.grows }))

pub walk_expr::expression-returns-in_err-a-in-Assign : goal.walk_expr::expression-returns-in_err-a-in-Assign
walk_expr::expression-returns-in_err-a-in-Assign t c = let e = c.args.e.now in let h = c.in-Assign in let x = expr_seen c.deref-in-Assign.result.now in let y = expr_seen c.deref-in-Assign-2.result.now in seen_as e _ _ h.is (cc (form_assign h.op h.a h.b e.line)) (two_stop (Assign e.line h.op x y) x y e.line (λ x y. node.Assign h.op x y) (λ m. refl) c.from_residual-in_err-a-in-Assign.result c.from_residual-in_err-a-in-Assign.ensures.1 c.in_err-a-in-Assign.ensures)

pub walk_expr::expression-returns-in_ok-a-in-Assign : goal.walk_expr::expression-returns-in_ok-a-in-Assign
walk_expr::expression-returns-in_ok-a-in-Assign t c = let e = c.args.e.now in let h = c.in-Assign in let x = expr_seen c.deref-in-Assign.result.now in let y = expr_seen c.deref-in-Assign-2.result.now in seen_as e _ _ h.is (cc (form_assign h.op h.a h.b e.line)) (two_go (Assign e.line h.op x y) x y e.line (λ x y. node.Assign h.op x y) (λ m. refl) c.in_ok-a-in-Assign.ensures (record { ok = c.assign.ensures.ok; err = c.assign.ensures.err; within = c.assign.ensures.within; grows = c.assign.ensures.grows }))

pub walk_expr::expression-returns-in_err-a-in-Conditional : goal.walk_expr::expression-returns-in_err-a-in-Conditional
walk_expr::expression-returns-in_err-a-in-Conditional t c = let e = c.args.e.now in let h = c.in-Conditional in let x = expr_seen c.deref-in-Conditional.result.now in seen_as e _ _ h.is (cc (form_conditional h.a h.b h.c e.line)) (three_stop e.line x (expr_seen h.b.value) (expr_seen h.c.value) c.from_residual-in_err-a-in-Conditional.result c.from_residual-in_err-a-in-Conditional.ensures.1 c.in_err-a-in-Conditional.ensures)

pub walk_expr::expression-returns-in_err-b-in-Conditional : goal.walk_expr::expression-returns-in_err-b-in-Conditional
walk_expr::expression-returns-in_err-b-in-Conditional t c = let e = c.args.e.now in let h = c.in-Conditional in let x = expr_seen c.deref-in-Conditional.result.now in let y = expr_seen c.deref-in-Conditional-2.result.now in let z = expr_seen c.deref-in-Conditional-3.result.now in seen_as e _ _ h.is (cc (form_conditional h.a h.b h.c e.line)) (three_stop_behind e.line x y z c.from_residual-in_err-b-in-Conditional.result c.from_residual-in_err-b-in-Conditional.ensures.1 c.in_ok-a-in-Conditional.ensures c.in_err-b-in-Conditional.ensures)

pub walk_expr::expression-returns-in_ok-b-in-Conditional : goal.walk_expr::expression-returns-in_ok-b-in-Conditional
walk_expr::expression-returns-in_ok-b-in-Conditional t c = let e = c.args.e.now in let h = c.in-Conditional in let x = expr_seen c.deref-in-Conditional.result.now in let y = expr_seen c.deref-in-Conditional-2.result.now in let z = expr_seen c.deref-in-Conditional-3.result.now in seen_as e _ _ h.is (cc (form_conditional h.a h.b h.c e.line)) (three_go e.line x y z c.in_ok-a-in-Conditional.ensures c.in_ok-b-in-Conditional.ensures (record { ok = c.conditional.ensures.ok; err = c.conditional.ensures.err; within = c.conditional.ensures.within; grows = c.conditional.ensures.grows }))

pub walk_expr::two-returns-in_err-first : goal.walk_expr::two-returns-in_err-first
walk_expr::two-returns-in_err-first t c = pair_stops (expr_seen c.args.a.now) (expr_seen c.args.b.now) c.from_residual.result c.from_residual.ensures.1 c.in_err-first.ensures

pub walk_expr::two-returns-in_err-second : goal.walk_expr::two-returns-in_err-second
walk_expr::two-returns-in_err-second t c = pair_stops_second (expr_seen c.args.a.now) (expr_seen c.args.b.now) c.from_residual-in_err-second.result c.from_residual-in_err-second.ensures.1 c.in_ok-first.ensures c.in_err-second.ensures

pub walk_expr::two-returns : goal.walk_expr::two-returns
walk_expr::two-returns t c = pair_goes (expr_seen c.args.a.now) (expr_seen c.args.b.now) c.in_ok-first.ensures c.in_ok-second.ensures

pub walk_expr::postfix-returns-in_err-a : goal.walk_expr::postfix-returns-in_err-a
walk_expr::postfix-returns-in_err-a t c = one_stops (Postfix c.args.line c.args.op (expr_seen c.args.a.now)) (expr_seen c.args.a.now) c.args.line (λ y. node.Postfix c.args.op y) (λ m. refl) c.from_residual.result c.from_residual.ensures.1 c.in_err-a.ensures

pub walk_expr::postfix-returns : goal.walk_expr::postfix-returns
walk_expr::postfix-returns t c = one_goes (Postfix c.args.line c.args.op (expr_seen c.args.a.now)) (expr_seen c.args.a.now) c.args.line (λ y. node.Postfix c.args.op y) (λ m. refl) c.in_ok-a.ensures (record { ok = c.postfix.ensures.ok; err = c.postfix.ensures.err; within = c.postfix.ensures.within; grows = c.postfix.ensures.grows })

pub walk_expr::prefix-returns-in_err-a : goal.walk_expr::prefix-returns-in_err-a
walk_expr::prefix-returns-in_err-a t c = one_stops (Prefix c.args.line c.args.op (expr_seen c.args.a.now)) (expr_seen c.args.a.now) c.args.line (λ y. node.Prefix c.args.op y) (λ m. refl) c.from_residual.result c.from_residual.ensures.1 c.in_err-a.ensures

pub walk_expr::prefix-returns : goal.walk_expr::prefix-returns
walk_expr::prefix-returns t c = one_goes (Prefix c.args.line c.args.op (expr_seen c.args.a.now)) (expr_seen c.args.a.now) c.args.line (λ y. node.Prefix c.args.op y) (λ m. refl) c.in_ok-a.ensures (record { ok = c.prefix.ensures.ok; err = c.prefix.ensures.err; within = c.prefix.ensures.within; grows = c.prefix.ensures.grows })

pub walk_expr::sizeof_expr-returns-in_err-a : goal.walk_expr::sizeof_expr-returns-in_err-a
walk_expr::sizeof_expr-returns-in_err-a t c = one_stops (SizeofExpr c.args.line (expr_seen c.args.a.now)) (expr_seen c.args.a.now) c.args.line (λ y. node.SizeofExpr y) (λ m. refl) c.from_residual.result c.from_residual.ensures.1 c.in_err-a.ensures

pub walk_expr::sizeof_expr-returns : goal.walk_expr::sizeof_expr-returns
walk_expr::sizeof_expr-returns t c = one_goes (SizeofExpr c.args.line (expr_seen c.args.a.now)) (expr_seen c.args.a.now) c.args.line (λ y. node.SizeofExpr y) (λ m. refl) c.in_ok-a.ensures (record { ok = c.sizeof_expr.ensures.ok; err = c.sizeof_expr.ensures.err; within = c.sizeof_expr.ensures.within; grows = c.sizeof_expr.ensures.grows })

pub walk_expr::subscript-returns-in_err-a : goal.walk_expr::subscript-returns-in_err-a
walk_expr::subscript-returns-in_err-a t c = two_stop (Index c.args.line (expr_seen c.args.a.now) (expr_seen c.args.i.now)) (expr_seen c.args.a.now) (expr_seen c.args.i.now) c.args.line (λ x y. node.Index x y) (λ m. refl) c.from_residual.result c.from_residual.ensures.1 c.in_err-a.ensures

pub walk_expr::subscript-returns : goal.walk_expr::subscript-returns
walk_expr::subscript-returns t c = two_go (Index c.args.line (expr_seen c.args.a.now) (expr_seen c.args.i.now)) (expr_seen c.args.a.now) (expr_seen c.args.i.now) c.args.line (λ x y. node.Index x y) (λ m. refl) c.in_ok-a.ensures (record { ok = c.subscript.ensures.ok; err = c.subscript.ensures.err; within = c.subscript.ensures.within; grows = c.subscript.ensures.grows })

pub walk_expr::sizeof_type-returns-in_err-of : goal.walk_expr::sizeof_type-returns-in_err-of
walk_expr::sizeof_type-returns-in_err-of t c = sizeof_type_stops c.args.line (type_name_seen c.args.of.now) c.from_residual.result c.from_residual.ensures.1 c.in_err-of.ensures

pub walk_expr::sizeof_type-returns : goal.walk_expr::sizeof_type-returns
walk_expr::sizeof_type-returns t c = sizeof_type_goes c.args.line (type_name_seen c.args.of.now) c.in_ok-of.ensures (record { ok = c.sizeof_type.ensures.ok; err = c.sizeof_type.ensures.err; within = c.sizeof_type.ensures.within; grows = c.sizeof_type.ensures.grows })

pub walk_expr::cast-returns-in_err-to : goal.walk_expr::cast-returns-in_err-to
walk_expr::cast-returns-in_err-to t c = cast_stops c.args.line (type_name_seen c.args.to.now) (expr_seen c.args.a.now) c.from_residual.result c.from_residual.ensures.1 c.in_err-to.ensures

pub walk_expr::cast-returns-in_err-a : goal.walk_expr::cast-returns-in_err-a
walk_expr::cast-returns-in_err-a t c = cast_stops_second c.args.line (type_name_seen c.args.to.now) (expr_seen c.args.a.now) c.from_residual-in_err-a.result c.from_residual-in_err-a.ensures.1 c.in_ok-to.ensures c.in_err-a.ensures

pub walk_expr::cast-returns : goal.walk_expr::cast-returns
walk_expr::cast-returns t c = cast_goes c.args.line (type_name_seen c.args.to.now) (expr_seen c.args.a.now) c.in_ok-to.ensures c.in_ok-a.ensures (record { ok = c.cast.ensures.ok; err = c.cast.ensures.err; within = c.cast.ensures.within; grows = c.cast.ensures.grows })

pub walk_expr::call-returns-in_err-f : goal.walk_expr::call-returns-in_err-f
walk_expr::call-returns-in_err-f t c = call_stops c.args.line (expr_seen c.args.f.now) (exprs_of (map expr_seen c.args.arguments.now)) c.from_residual.result c.from_residual.ensures.1 c.in_err-f.ensures

pub walk_expr::call-returns-in_err-arguments : goal.walk_expr::call-returns-in_err-arguments
walk_expr::call-returns-in_err-arguments t c = call_stops_second c.args.line (expr_seen c.args.f.now) (exprs_of (map expr_seen c.args.arguments.now)) c.from_residual-in_err-arguments.result c.from_residual-in_err-arguments.ensures.1 c.in_ok-f.ensures c.in_err-arguments.ensures

pub walk_expr::call-returns : goal.walk_expr::call-returns
walk_expr::call-returns t c = call_goes c.args.line (expr_seen c.args.f.now) (exprs_of (map expr_seen c.args.arguments.now)) c.in_ok-f.ensures c.in_ok-arguments.ensures (record { ok = c.call.ensures.ok; err = c.call.ensures.err; within = c.call.ensures.within; grows = c.call.ensures.grows })

pub walk_expr::comma-returns-in_err-parts : goal.walk_expr::comma-returns-in_err-parts
walk_expr::comma-returns-in_err-parts t c = comma_stops c.args.line (exprs_of (map expr_seen c.args.parts.now)) c.from_residual.result c.from_residual.ensures.1 c.in_err-parts.ensures

pub walk_expr::comma-returns : goal.walk_expr::comma-returns
walk_expr::comma-returns t c = comma_goes c.args.line (exprs_of (map expr_seen c.args.parts.now)) c.in_ok-parts.ensures (record { ok = c.comma.ensures.ok; err = c.comma.ensures.err; within = c.comma.ensures.within; grows = c.comma.ensures.grows })

pub walk_expr::callee-returns-in-None : goal.walk_expr::callee-returns-in-None
walk_expr::callee-returns-in-None t c = callee_plain (expr_seen c.args.f.now) c.in-None.ensures.none c.expression.ensures

pub walk_expr::call-call-requires-clause-f : goal.walk_expr::call-call-requires-clause-f
walk_expr::call-call-requires-clause-f t c = in_later c.callee.new.types c.expressions.new.types c.in_ok-arguments.ensures.keeps.extends c.in_ok-f.f c.in_ok-f.ensures.within

pub walk_expr::expression-conditional-requires-clause-a : goal.walk_expr::expression-conditional-requires-clause-a
walk_expr::expression-conditional-requires-clause-a t c = in_later c.expression-in-Conditional.new.types c.two-in-Conditional.new.types c.in_ok-b-in-Conditional.ensures.keeps.extends c.in_ok-a-in-Conditional.a c.in_ok-a-in-Conditional.ensures.within

pub walk_expr::maybe_expression-returns-in_err-c-in-Some : goal.walk_expr::maybe_expression-returns-in_err-c-in-Some
walk_expr::maybe_expression-returns-in_err-c-in-Some t c = rw c.in-Some.is (maybe_stops (expr_seen c.in-Some.e) c.from_residual.result c.from_residual.ensures.1 c.in_err-c-in-Some.ensures)

pub walk_expr::maybe_expression-returns-in_ok-c-in-Some : goal.walk_expr::maybe_expression-returns-in_ok-c-in-Some
walk_expr::maybe_expression-returns-in_ok-c-in-Some t c = rw c.in-Some.is (maybe_goes (expr_seen c.in-Some.e) c.in_ok-c-in-Some.ensures)

pub walk_expr::maybe_expression-returns-in-None : goal.walk_expr::maybe_expression-returns-in-None
walk_expr::maybe_expression-returns-in-None t c = rw c.in-None.is (maybe_none c.args.scopes.now c.args.types.now c.requires)

pub walk_expr::expressions-loop-e-init : goal.walk_expr::expressions-loop-e-init
walk_expr::expressions-loop-e-init t c = (rw c.in_ok-all.ensures (exprs_start c.args.scopes.now c.args.types.now c.args.list.now c.requires), keeps_itself c.args.scopes.now c.args.types.now c.requires)

pub walk_expr::expressions-loop-e-preserved : goal.walk_expr::expressions-loop-e-preserved
walk_expr::expressions-loop-e-preserved t c = (rw c.in_ok-push.ensures.ok (exprs_on c.args.scopes.now c.loop-e.scopes c.expression.new.scopes c.args.types.now c.loop-e.types c.expression.new.types c.args.list.now c.loop-e.all c.in_ok-c.c c.loop-e.e-index c.e-item.result (omega arith) c.e-item.is c.loop-e.invariant.0 c.in_ok-c.ensures), keeps_on c.args.scopes.now c.loop-e.scopes c.expression.new.scopes c.args.types.now c.loop-e.types c.expression.new.types c.loop-e.invariant.1 c.in_ok-c.ensures.keeps)

pub walk_expr::expressions-returns-in_err-c : goal.walk_expr::expressions-returns-in_err-c
walk_expr::expressions-returns-in_err-c t c = exprs_stop c.args.scopes.now c.loop-e.scopes c.expression.new.scopes c.args.types.now c.loop-e.types c.expression.new.types c.args.list.now c.loop-e.all c.loop-e.e-index c.e-item.result _ c.from_residual-in_err-c.result (omega arith) c.e-item.is c.loop-e.invariant.0 c.in_err-c.ensures c.from_residual-in_err-c.ensures.1

pub walk_expr::expressions-returns : goal.walk_expr::expressions-returns
walk_expr::expressions-returns t c = exprs_end c.args.scopes.now c.loop-e.scopes c.args.types.now c.loop-e.types c.args.list.now c.loop-e.all c.loop-e.e-index (omega arith) c.loop-e.invariant.0

pub walk_types::parts-loop-specifier-init : goal.walk_types::parts-loop-specifier-init
walk_types::parts-loop-specifier-init t c = (rw c.in_ok-all.ensures (parts_start c.args.scopes.now c.args.types.now c.args.list.now c.requires), keeps_itself c.args.scopes.now c.args.types.now c.requires)

pub walk_types::parts-loop-specifier-preserved : goal.walk_types::parts-loop-specifier-preserved
walk_types::parts-loop-specifier-preserved t c = (rw c.in_ok-push.ensures.ok (parts_on c.args.scopes.now c.loop-specifier.scopes c.part.new.scopes c.args.types.now c.loop-specifier.types c.part.new.types c.args.list.now c.loop-specifier.all c.in_ok-found.found c.loop-specifier.specifier-index c.specifier-item.result (omega arith) c.specifier-item.is c.loop-specifier.invariant.0 c.in_ok-found.ensures), keeps_on c.args.scopes.now c.loop-specifier.scopes c.part.new.scopes c.args.types.now c.loop-specifier.types c.part.new.types c.loop-specifier.invariant.1 c.in_ok-found.ensures.keeps)

pub walk_types::parts-returns-in_err-found : goal.walk_types::parts-returns-in_err-found
walk_types::parts-returns-in_err-found t c = parts_stop c.args.scopes.now c.loop-specifier.scopes c.part.new.scopes c.args.types.now c.loop-specifier.types c.part.new.types c.args.list.now c.loop-specifier.all c.loop-specifier.specifier-index c.specifier-item.result _ c.from_residual-in_err-found.result (omega arith) c.specifier-item.is c.loop-specifier.invariant.0 c.in_err-found.ensures c.from_residual-in_err-found.ensures.1

pub walk_types::parts-returns : goal.walk_types::parts-returns
walk_types::parts-returns t c = parts_end c.args.scopes.now c.loop-specifier.scopes c.args.types.now c.loop-specifier.types c.args.list.now c.loop-specifier.all c.loop-specifier.specifier-index (omega arith) c.loop-specifier.invariant.0

pub walk_declarators::suffixes-loop-s-init : goal.walk_declarators::suffixes-loop-s-init
walk_declarators::suffixes-loop-s-init t c = (rw c.in_ok-all.ensures (suffixes_start c.args.scopes.now c.args.types.now c.args.list.now c.requires), keeps_itself c.args.scopes.now c.args.types.now c.requires)

pub walk_declarators::suffixes-loop-s-preserved : goal.walk_declarators::suffixes-loop-s-preserved
walk_declarators::suffixes-loop-s-preserved t c = (rw c.in_ok-push.ensures.ok (suffixes_on c.args.scopes.now c.loop-s.scopes c.suffix.new.scopes c.args.types.now c.loop-s.types c.suffix.new.types c.args.list.now c.loop-s.all c.in_ok-step.step c.loop-s.s-index c.s-item.result (omega arith) c.s-item.is c.loop-s.invariant.0 c.in_ok-step.ensures), keeps_on c.args.scopes.now c.loop-s.scopes c.suffix.new.scopes c.args.types.now c.loop-s.types c.suffix.new.types c.loop-s.invariant.1 c.in_ok-step.ensures.keeps)

pub walk_declarators::suffixes-returns-in_err-step : goal.walk_declarators::suffixes-returns-in_err-step
walk_declarators::suffixes-returns-in_err-step t c = suffixes_stop c.args.scopes.now c.loop-s.scopes c.suffix.new.scopes c.args.types.now c.loop-s.types c.suffix.new.types c.args.list.now c.loop-s.all c.loop-s.s-index c.s-item.result _ c.from_residual-in_err-step.result (omega arith) c.s-item.is c.loop-s.invariant.0 c.in_err-step.ensures c.from_residual-in_err-step.ensures.1

pub walk_declarators::suffixes-returns : goal.walk_declarators::suffixes-returns
walk_declarators::suffixes-returns t c = suffixes_end c.args.scopes.now c.loop-s.scopes c.args.types.now c.loop-s.types c.args.list.now c.loop-s.all c.loop-s.s-index (omega arith) c.loop-s.invariant.0

pub walk_declarators::parameter_list-loop-p-init : goal.walk_declarators::parameter_list-loop-p-init
walk_declarators::parameter_list-loop-p-init t c = (rw c.in_ok-all.ensures (parameters_start c.args.alone c.args.scopes.now c.args.types.now c.args.list.now c.requires), keeps_itself c.args.scopes.now c.args.types.now c.requires)

pub walk_declarators::parameter_list-loop-p-preserved : goal.walk_declarators::parameter_list-loop-p-preserved
walk_declarators::parameter_list-loop-p-preserved t c = (rw c.in_ok-push.ensures.ok (parameters_on c.args.alone c.args.scopes.now c.loop-p.scopes c.parameter.new.scopes c.args.types.now c.loop-p.types c.parameter.new.types c.args.list.now c.loop-p.all c.in_ok-named.named c.loop-p.p-index c.p-item.result (omega arith) c.p-item.is c.loop-p.invariant.0 (rw c.len.ensures at c.in_ok-named.ensures)), keeps_on c.args.scopes.now c.loop-p.scopes c.parameter.new.scopes c.args.types.now c.loop-p.types c.parameter.new.types c.loop-p.invariant.1 c.in_ok-named.ensures.keeps)

pub walk_declarators::parameter_list-returns-in_err-named : goal.walk_declarators::parameter_list-returns-in_err-named
walk_declarators::parameter_list-returns-in_err-named t c = parameters_stop c.args.alone c.args.scopes.now c.loop-p.scopes c.parameter.new.scopes c.args.types.now c.loop-p.types c.parameter.new.types c.args.list.now c.loop-p.all c.loop-p.p-index c.p-item.result c.in_err-named.field-0.0 c.from_residual-in_err-named.result (omega arith) c.p-item.is c.loop-p.invariant.0 (rw c.len.ensures at c.in_err-named.ensures) c.from_residual-in_err-named.ensures.1

pub walk_declarators::parameter_list-returns : goal.walk_declarators::parameter_list-returns
walk_declarators::parameter_list-returns t c = parameters_end c.args.alone c.args.scopes.now c.loop-p.scopes c.args.types.now c.loop-p.types c.args.list.now c.loop-p.all c.loop-p.p-index (omega arith) c.loop-p.invariant.0

pub walk_types::type_name-returns-in_err-base : goal.walk_types::type_name-returns-in_err-base
walk_types::type_name-returns-in_err-base t c = name_stops c.args.name.now c.from_residual.result c.from_residual.ensures.1 c.in_err-base.ensures

pub walk_types::type_name-returns-in_err-shape : goal.walk_types::type_name-returns-in_err-shape
walk_types::type_name-returns-in_err-shape t c = name_stops_second c.args.name.now c.from_residual-in_err-shape.result c.from_residual-in_err-shape.ensures.1 c.in_ok-base.ensures c.in_err-shape.ensures

pub walk_types::type_name-returns : goal.walk_types::type_name-returns
walk_types::type_name-returns t c = type_name_goes c.args.name.now c.in_ok-base.ensures c.in_ok-shape.ensures

pub walk_types::shape-returns-in_err-steps-in-Some : goal.walk_types::shape-returns-in_err-steps-in-Some
walk_types::shape-returns-in_err-steps-in-Some t c = rw c.in-Some.is (shape_stops c.args.base (declarator_seen c.in-Some.d) c.from_residual.result c.from_residual.ensures.1 c.in_err-steps-in-Some.ensures)

pub walk_types::shape-returns-in_ok-steps-in-Some : goal.walk_types::shape-returns-in_ok-steps-in-Some
walk_types::shape-returns-in_ok-steps-in-Some t c = let k = c.shape.ensures in rw c.in-Some.is (shape_goes c.args.base (declarator_seen c.in-Some.d) c.shape.result c.requires.base c.in_ok-steps-in-Some.ensures k.ok k.err k.within k.grows)

pub walk_types::shape-returns-in-None : goal.walk_types::shape-returns-in-None
walk_types::shape-returns-in-None t c = rw c.in-None.is (shape_none c.args.scopes.now c.args.types.now c.args.base c.requires.symbols c.requires.base)

pub walk_types::specifiers-returns-in_err-parts : goal.walk_types::specifiers-returns-in_err-parts
walk_types::specifiers-returns-in_err-parts t c = specifiers_stop c.args.specifiers.now c.from_residual.result c.from_residual.ensures.1 (rw c.as_slice.ensures at c.in_err-parts.ensures)

pub walk_types::specifiers-returns : goal.walk_types::specifiers-returns
walk_types::specifiers-returns t c = let k = c.specified.ensures in specifiers_go c.args.specifiers.now c.specified.result (rw c.as_slice.ensures at c.in_ok-parts.ensures) (rw c.as_slice-2.ensures at k.ok) (rw c.as_slice-2.ensures at k.err) k.within k.grows

pub walk_types::part-returns-in-Storage : goal.walk_types::part-returns-in-Storage
walk_types::part-returns-in-Storage t c = let e = c.args.specifier.now in part_as e _ _ c.in-Storage.is (form_storage c.in-Storage.class e.line) (part_plain c.args.scopes.now c.args.types.now (tree.Stored e.line c.in-Storage.class) (part.Stored c.in-Storage.class) refl c.requires tt)

pub walk_types::part-returns-in-Qualifier : goal.walk_types::part-returns-in-Qualifier
walk_types::part-returns-in-Qualifier t c = let e = c.args.specifier.now in part_as e _ _ c.in-Qualifier.is (form_qualifier c.in-Qualifier.qualifier e.line) (part_plain c.args.scopes.now c.args.types.now (tree.Qualified e.line c.in-Qualifier.qualifier) (part.Qualified c.in-Qualifier.qualifier) refl c.requires tt)

pub walk_types::part-returns-in-Basic : goal.walk_types::part-returns-in-Basic
walk_types::part-returns-in-Basic t c = let e = c.args.specifier.now in part_as e _ _ c.in-Basic.is (form_basic c.in-Basic.word e.line) (part_plain c.args.scopes.now c.args.types.now (tree.Basic e.line c.in-Basic.word) (part.Word c.in-Basic.word) refl c.requires tt)

pub walk_types::part-returns-in-Named : goal.walk_types::part-returns-in-Named
walk_types::part-returns-in-Named t c = let e = c.args.specifier.now in let h = c.in-Named in part_as e _ _ h.is (form_named h.name e.line) (part_plain c.args.scopes.now c.args.types.now (tree.NamedType e.line h.name) (part.Whole c.typedef_type.result) (named_plain c.args.scopes.now c.args.types.now e.line h.name c.typedef_type.result (rw c.as_slice-in-Named.ensures at c.typedef_type.ensures.means)) c.requires c.typedef_type.ensures.within)

pub walk_types::part-returns-in-Record : goal.walk_types::part-returns-in-Record
walk_types::part-returns-in-Record t c = let e = c.args.specifier.now in let h = c.in-Record in part_as e _ _ h.is (cc (form_record h.kind h.tag h.members e.line)) c.record.ensures

pub walk_types::part-returns-in-Enum : goal.walk_types::part-returns-in-Enum
walk_types::part-returns-in-Enum t c = let e = c.args.specifier.now in let h = c.in-Enum in part_as e _ _ h.is (form_enum h.tag h.enumerators h.comma e.line) (without_comma e.line h.tag (enumerators_of (map enumerator_seen h.enumerators)) h.comma (rw c.as_slice-in-Enum.ensures at c.enumeration.ensures))

pub walk_types::part-returns-in_err-of-in-RecordTag : goal.walk_types::part-returns-in_err-of-in-RecordTag
walk_types::part-returns-in_err-of-in-RecordTag t c = let e = c.args.specifier.now in let h = c.in-RecordTag in let k = c.in_err-of-in-RecordTag.ensures in part_as e _ _ h.is (form_record_tag h.kind h.tag e.line) (whole_stops (tree.RecordTag e.line h.kind h.tag) c.in_err-of-in-RecordTag.field-0.0 c.from_residual.result c.from_residual.ensures.1 (rw c.as_slice-in-RecordTag.ensures at k.err) k.keeps)

pub walk_types::part-returns-in_err-of-in-EnumTag : goal.walk_types::part-returns-in_err-of-in-EnumTag
walk_types::part-returns-in_err-of-in-EnumTag t c = let e = c.args.specifier.now in let h = c.in-EnumTag in let k = c.in_err-of-in-EnumTag.ensures in part_as e _ _ h.is (form_enum_tag h.tag e.line) (whole_stops (tree.EnumTag e.line h.tag) c.in_err-of-in-EnumTag.field-0.0 c.from_residual-in_err-of-in-EnumTag.result c.from_residual-in_err-of-in-EnumTag.ensures.1 (rw c.as_slice-in-EnumTag.ensures at k.err) k.keeps)

pub walk_types::part-returns-in_ok-of-in-RecordTag : goal.walk_types::part-returns-in_ok-of-in-RecordTag
walk_types::part-returns-in_ok-of-in-RecordTag t c = let e = c.args.specifier.now in let h = c.in-RecordTag in let k = c.in_ok-of-in-RecordTag.ensures in part_as e _ _ h.is (form_record_tag h.kind h.tag e.line) (whole_goes (tree.RecordTag e.line h.kind h.tag) c.in_ok-of-in-RecordTag.of (rw c.as_slice-in-RecordTag.ensures at k.ok) k.within k.keeps)

pub walk_types::part-returns-in_ok-of-in-EnumTag : goal.walk_types::part-returns-in_ok-of-in-EnumTag
walk_types::part-returns-in_ok-of-in-EnumTag t c = let e = c.args.specifier.now in let h = c.in-EnumTag in let k = c.in_ok-of-in-EnumTag.ensures in part_as e _ _ h.is (form_enum_tag h.tag e.line) (whole_goes (tree.EnumTag e.line h.tag) c.in_ok-of-in-EnumTag.of (rw c.as_slice-in-EnumTag.ensures at k.ok) k.within k.keeps)

pub walk_types::record-complete_record-requires-clause-fields : goal.walk_types::record-complete_record-requires-clause-fields
walk_types::record-complete_record-requires-clause-fields t c = rw c.into_members.ensures (members_are_fields (members_of (map member_seen c.args.list.now)) c.in_ok-members.ensures)

pub walk_types::record-returns-in_err-members : goal.walk_types::record-returns-in_err-members
walk_types::record-returns-in_err-members t c = record_stops c.args.start.0 c.args.start.1 c.args.tag.now (members_of (map member_seen c.args.list.now)) c.args.scopes.now c.open_record.new.scopes c.args.types.now c.open_record.new.types c.in_ok-id.id c.in_ok-id.ensures.state c.in_ok-id.ensures.means c.in_ok-id.ensures.within c.in_ok-id.ensures.keeps c.from_residual-in_err-members.result c.from_residual-in_err-members.ensures.1 c.in_err-members.ensures

pub walk_types::record-returns-in_err-of : goal.walk_types::record-returns-in_err-of
walk_types::record-returns-in_err-of t c = let k = c.in_err-of.ensures in record_stops_behind c.args.start.0 c.args.start.1 c.args.tag.now (members_of (map member_seen c.args.list.now)) c.args.scopes.now c.open_record.new.scopes c.args.types.now c.open_record.new.types c.in_ok-id.id c.in_ok-id.ensures.state c.in_ok-id.ensures.means c.in_ok-id.ensures.within c.in_ok-id.ensures.keeps c.in_err-of.field-0.0 c.from_residual-in_err-of.result c.from_residual-in_err-of.ensures.1 c.in_ok-members.ensures (rw c.into_members.ensures at k.err) k.keeps

pub walk_types::record-returns : goal.walk_types::record-returns
walk_types::record-returns t c = let k = c.in_ok-of.ensures in record_goes c.args.start.0 c.args.start.1 c.args.tag.now (members_of (map member_seen c.args.list.now)) c.args.scopes.now c.open_record.new.scopes c.args.types.now c.open_record.new.types c.in_ok-id.id c.in_ok-id.ensures.state c.in_ok-id.ensures.means c.in_ok-id.ensures.within c.in_ok-id.ensures.keeps c.in_ok-of.of c.in_ok-members.ensures (rw c.into_members.ensures at k.ok) k.within k.keeps

pub walk_types::enumeration-returns-in_err-of : goal.walk_types::enumeration-returns-in_err-of
walk_types::enumeration-returns-in_err-of t c = let k = c.in_err-of.ensures in enumeration_stops_behind c.args.line c.args.tag.now (enumerators_of (map enumerator_seen c.args.list.now)) c.args.scopes.now c.open_enumeration.new.scopes c.args.types.now c.open_enumeration.new.types c.in_ok-open_enumeration.ensures.state c.in_ok-open_enumeration.ensures.keeps c.in_err-of.field-0.0 c.from_residual-in_err-of.result c.from_residual-in_err-of.ensures.1 c.in_ok-all.ensures k.err k.keeps

pub walk_types::enumeration-returns : goal.walk_types::enumeration-returns
walk_types::enumeration-returns t c = let k = c.in_ok-of.ensures in enumeration_goes c.args.line c.args.tag.now (enumerators_of (map enumerator_seen c.args.list.now)) c.args.scopes.now c.open_enumeration.new.scopes c.args.types.now c.open_enumeration.new.types c.in_ok-open_enumeration.ensures.state c.in_ok-open_enumeration.ensures.keeps c.in_ok-of.of c.in_ok-all.ensures k.ok k.within k.keeps

pub walk_types::enumerator-returns-in_err-value : goal.walk_types::enumerator-returns-in_err-value
walk_types::enumerator-returns-in_err-value t c = enumerator_stops c.args.before.next c.args.e.now c.from_residual.result c.from_residual.ensures.1 c.in_err-value.ensures

pub walk_types::enumerator-returns-in_err-z : goal.walk_types::enumerator-returns-in_err-z
walk_types::enumerator-returns-in_err-z t c = let fits : SFits w64 c.args.before.next = search rules in let k = c.in_err-z.ensures in enumerator_stops_behind c.args.before.next c.args.e.now c.in_err-z.field-0.0 c.from_residual-in_err-z.result c.from_residual-in_err-z.ensures.1 c.in_ok-value.ensures (rw (c.as_slice.ensures, to_z-of_z w64 c.args.before.next fits) at k.err) k.keeps

pub walk_types::enumerator-returns : goal.walk_types::enumerator-returns
walk_types::enumerator-returns t c = let fits : SFits w64 c.args.before.next = search rules in let k = c.in_ok-z.ensures in let up : to_z w64 (of_z w64 (to_z w64 (of_z w64 c.from.result) +ℤ pos 1)) ≡ c.in_ok-z.z +ℤ pos 1 = omega (arith, ints, c.from.ensures) in enumerator_goes c.args.before.next c.args.e.now c.in_ok-z.z _ c.in_ok-value.ensures (rw (c.as_slice.ensures, to_z-of_z w64 c.args.before.next fits) at k.ok) up k.keeps

pub walk_types::field-returns-in_err-shape : goal.walk_types::field-returns-in_err-shape
walk_types::field-returns-in_err-shape t c = field_stops c.args.before c.args.base c.args.f.now c.from_residual.result c.from_residual.ensures.1 c.in_err-shape.ensures

pub walk_types::field-returns-in_err-width : goal.walk_types::field-returns-in_err-width
walk_types::field-returns-in_err-width t c = field_stops_second c.args.before c.args.base c.args.f.now c.from_residual-in_err-width.result c.from_residual-in_err-width.ensures.1 c.in_ok-shape.ensures c.in_err-width.ensures

pub walk_types::field-field-requires-clause-members : goal.walk_types::field-field-requires-clause-members
walk_types::field-field-requires-clause-members t c = members_later c.shape.new.types c.maybe_expression.new.types c.in_ok-width.ensures.keeps.extends c.args.before (members_later c.args.types.now c.shape.new.types c.in_ok-shape.ensures.keeps.extends c.args.before c.requires.before)

pub walk_types::field-returns-in_err-field : goal.walk_types::field-returns-in_err-field
walk_types::field-returns-in_err-field t c = field_stops_node c.args.before c.args.base c.args.f.now c.in_err-field.field-0.0 c.from_residual-in_err-field.result c.requires.before c.from_residual-in_err-field.ensures.1 c.in_ok-shape.ensures c.in_ok-width.ensures c.in_err-field.ensures.err

pub walk_types::field-returns : goal.walk_types::field-returns
walk_types::field-returns t c = let k = c.in_ok-field.ensures in field_goes c.args.before c.args.base c.args.f.now c.field.new.members c.requires.before c.in_ok-shape.ensures c.in_ok-width.ensures k.ok k.added k.within

pub walk_types::member_line-returns-in_err-base : goal.walk_types::member_line-returns-in_err-base
walk_types::member_line-returns-in_err-base t c = line_stops c.args.before c.args.m.now c.from_residual.result c.from_residual.ensures.1 c.in_err-base.ensures.walk

pub walk_types::member_line-returns : goal.walk_types::member_line-returns
walk_types::member_line-returns t c = line_goes c.args.before c.args.m.now c.requires.before c.in_ok-base.ensures.walk (rw c.as_slice.ensures at c.fields.ensures)

pub walk_types::enumeration-returns-in_err-all : goal.walk_types::enumeration-returns-in_err-all
walk_types::enumeration-returns-in_err-all t c = enumeration_stops c.args.line c.args.tag.now (enumerators_of (map enumerator_seen c.args.list.now)) c.args.scopes.now c.open_enumeration.new.scopes c.args.types.now c.open_enumeration.new.types c.in_ok-open_enumeration.ensures.state c.in_ok-open_enumeration.ensures.keeps c.from_residual-in_err-all.result c.from_residual-in_err-all.ensures.1 c.in_err-all.ensures

pub walk_declarators::declarator-returns-in_err-inner : goal.walk_declarators::declarator-returns-in_err-inner
walk_declarators::declarator-returns-in_err-inner t c = declarator_stops c.args.d.now c.from_residual.result c.from_residual.ensures.1 c.in_err-inner.ensures

pub walk_declarators::declarator-returns-in_err-outer : goal.walk_declarators::declarator-returns-in_err-outer
walk_declarators::declarator-returns-in_err-outer t c = declarator_stops_second c.args.d.now c.from_residual-in_err-outer.result c.from_residual-in_err-outer.ensures.1 c.in_ok-inner.ensures (rw c.as_slice.ensures at c.in_err-outer.ensures)

pub walk_declarators::declarator-returns-in_err-steps : goal.walk_declarators::declarator-returns-in_err-steps
walk_declarators::declarator-returns-in_err-steps t c = memory_stops declared_seen IsDeclaredIn (declarator_in c.args.scopes.now c.args.types.now (declarator_seen c.args.d.now)) c.args.scopes.now c.suffixes.new.scopes c.args.types.now c.suffixes.new.types c.from_residual-in_err-steps.result c.from_residual-in_err-steps.ensures.1 (keeps_on c.args.scopes.now c.core.new.scopes c.suffixes.new.scopes c.args.types.now c.core.new.types c.suffixes.new.types c.in_ok-inner.ensures.keeps c.in_ok-outer.ensures.keeps)

pub walk_declarators::declarator-returns-in_err-push_reversed : goal.walk_declarators::declarator-returns-in_err-push_reversed
walk_declarators::declarator-returns-in_err-push_reversed t c = memory_stops declared_seen IsDeclaredIn (declarator_in c.args.scopes.now c.args.types.now (declarator_seen c.args.d.now)) c.args.scopes.now c.suffixes.new.scopes c.args.types.now c.suffixes.new.types c.from_residual-in_err-push_reversed.result c.from_residual-in_err-push_reversed.ensures.1 (keeps_on c.args.scopes.now c.core.new.scopes c.suffixes.new.scopes c.args.types.now c.core.new.types c.suffixes.new.types c.in_ok-inner.ensures.keeps c.in_ok-outer.ensures.keeps)

pub walk_declarators::declarator-returns-in_err-push_all : goal.walk_declarators::declarator-returns-in_err-push_all
walk_declarators::declarator-returns-in_err-push_all t c = memory_stops declared_seen IsDeclaredIn (declarator_in c.args.scopes.now c.args.types.now (declarator_seen c.args.d.now)) c.args.scopes.now c.suffixes.new.scopes c.args.types.now c.suffixes.new.types c.from_residual-in_err-push_all.result c.from_residual-in_err-push_all.ensures.1 (keeps_on c.args.scopes.now c.core.new.scopes c.suffixes.new.scopes c.args.types.now c.core.new.types c.suffixes.new.types c.in_ok-inner.ensures.keeps c.in_ok-outer.ensures.keeps)

pub walk_declarators::declarator-returns : goal.walk_declarators::declarator-returns
walk_declarators::declarator-returns t c = declarator_goes c.args.d.now c.in_ok-steps.steps c.push_all.new.steps c.in_ok-inner.ensures (rw c.as_slice.ensures at c.in_ok-outer.ensures) c.in_ok-steps.ensures.seen c.in_ok-steps.ensures.within (c.in_ok-push_all.ensures ∙ ap (λ qs. qs ++ c.in_ok-inner.inner.steps) c.in_ok-push_reversed.ensures)

pub walk_declarators::prototype-returns-in_err-walked : goal.walk_declarators::prototype-returns-in_err-walked
walk_declarators::prototype-returns-in_err-walked t c = prototype_stops c.args.scopes.now c.enter.new.self c.parameter_list-walked.new.scopes c.close-scope.new.self c.args.types.now c.parameter_list-walked.new.types c.stands_alone-alone.result c.args.more (parameters_of (map parameter_tree c.args.list.now)) c.stands_alone-alone.ensures c.in_ok-enter.ensures.outer c.in_ok-enter.ensures.inner c.in_ok-enter.ensures.links c.in_ok-enter.ensures.symbols c.close-scope.ensures.scopes c.close-scope.ensures.links c.close-scope.ensures.symbols c.from_residual-in_err-walked.result c.from_residual-in_err-walked.ensures.1 c.in_err-walked.ensures

pub walk_declarators::prototype-returns : goal.walk_declarators::prototype-returns
walk_declarators::prototype-returns t c = let k = c.none_if_void-parameters.ensures in prototype_goes c.args.scopes.now c.enter.new.self c.parameter_list-walked.new.scopes c.close-scope.new.self c.args.types.now c.parameter_list-walked.new.types c.stands_alone-alone.result c.args.more (parameters_of (map parameter_tree c.args.list.now)) c.stands_alone-alone.ensures c.in_ok-enter.ensures.outer c.in_ok-enter.ensures.inner c.in_ok-enter.ensures.links c.in_ok-enter.ensures.symbols c.close-scope.ensures.scopes c.close-scope.ensures.links c.close-scope.ensures.symbols c.none_if_void-parameters.result c.close-scope.result c.in_ok-walked.ensures c.close-scope.ensures.names k.is k.within

pub walk_declarators::core-returns-in_ok-copied-in-Declared : goal.walk_declarators::core-returns-in_ok-copied-in-Declared
walk_declarators::core-returns-in_ok-copied-in-Declared t c = let n = c.in-Declared.name in core_as c.args.c.now _ _ c.in-Declared.is (core_declared n) (rw (c.new.ensures, c.in_ok-copied-in-Declared.ensures, c.as_slice.ensures) (core_goes c.args.scopes.now c.args.types.now (tree.Named n) (Some n) refl c.requires))

pub walk_declarators::core-returns-in-Parentheses : goal.walk_declarators::core-returns-in-Parentheses
walk_declarators::core-returns-in-Parentheses t c = core_as c.args.c.now _ _ c.in-Parentheses.is (cc (core_parentheses c.in-Parentheses.inner)) (core_inner (declarator_seen c.deref.result.now) c.declarator.ensures)

pub walk_declarators::core-returns-in-Omitted : goal.walk_declarators::core-returns-in-Omitted
walk_declarators::core-returns-in-Omitted t c = core_as c.args.c.now _ _ c.in-Omitted.is core_omitted (rw c.new-in-Omitted.ensures (core_goes c.args.scopes.now c.args.types.now tree.Omitted None refl c.requires))

pub walk_declarators::parameter-returns-in_err-base : goal.walk_declarators::parameter-returns-in_err-base
walk_declarators::parameter-returns-in_err-base t c = parameter_stops c.args.spot.alone c.args.spot.index c.args.p.now c.from_residual.result c.from_residual.ensures.1 c.in_err-base.ensures

pub walk_declarators::parameter-returns-in_err-shape : goal.walk_declarators::parameter-returns-in_err-shape
walk_declarators::parameter-returns-in_err-shape t c = parameter_stops_second c.args.spot.alone c.args.spot.index c.args.p.now c.from_residual-in_err-shape.result c.from_residual-in_err-shape.ensures.1 c.in_ok-base.ensures c.in_err-shape.ensures

pub walk_declarators::parameter-returns : goal.walk_declarators::parameter-returns
walk_declarators::parameter-returns t c = let k = c.parameter.ensures in parameter_goes c.args.spot c.args.p.now c.parameter.result c.requires.line c.in_ok-base.ensures c.in_ok-shape.ensures (rw c.as_slice.ensures at k.ok) (rw c.as_slice.ensures at k.err) k.within k.keeps

pub walk_declarators::parameter_shape-returns-in_err-steps-in-Some : goal.walk_declarators::parameter_shape-returns-in_err-steps-in-Some
walk_declarators::parameter_shape-returns-in_err-steps-in-Some t c = rw c.in-Some.is (parameter_shape_stops c.args.base (declarator_seen c.in-Some.d) c.from_residual.result c.from_residual.ensures.1 c.in_err-steps-in-Some.ensures)

pub walk_declarators::parameter_shape-returns-in_ok-steps-in-Some : goal.walk_declarators::parameter_shape-returns-in_ok-steps-in-Some
walk_declarators::parameter_shape-returns-in_ok-steps-in-Some t c = let k = c.parameter_shape.ensures in rw c.in-Some.is (parameter_shape_goes c.args.base (declarator_seen c.in-Some.d) c.parameter_shape.result c.requires.base c.in_ok-steps-in-Some.ensures k.ok k.err k.within k.grows)

pub walk_declarators::parameter_shape-returns-in-None : goal.walk_declarators::parameter_shape-returns-in-None
walk_declarators::parameter_shape-returns-in-None t c = rw c.in-None.is (parameter_none c.args.scopes.now c.args.types.now c.args.base c.requires.symbols c.requires.base)

pub walk_declarators::suffix-returns-in_err-size-in-Array : goal.walk_declarators::suffix-returns-in_err-size-in-Array
walk_declarators::suffix-returns-in_err-size-in-Array t c = let e = c.args.s.now in suffix_as e _ _ c.in-Array.is (form_array c.in-Array.size e.line) (array_stops e.line (maybe_expr_seen c.in-Array.size) c.from_residual.result c.from_residual.ensures.1 c.in_err-size-in-Array.ensures)

pub walk_declarators::suffix-returns-in_ok-size-in-Array : goal.walk_declarators::suffix-returns-in_ok-size-in-Array
walk_declarators::suffix-returns-in_ok-size-in-Array t c = let e = c.args.s.now in suffix_as e _ _ c.in-Array.is (form_array c.in-Array.size e.line) (array_goes e.line (maybe_expr_seen c.in-Array.size) c.in_ok-size-in-Array.ensures)

pub walk_declarators::suffix-returns-in-Parameters : goal.walk_declarators::suffix-returns-in-Parameters
walk_declarators::suffix-returns-in-Parameters t c = let e = c.args.s.now in let h = c.in-Parameters in suffix_as e _ _ h.is (form_parameters h.parameters h.more e.line) (prototype_line e.line (parameters_of (map parameter_tree h.parameters)) h.more (rw c.as_slice.ensures at c.prototype.ensures))

pub walk_declarators::suffix-returns-in_ok-copied_names-in-Names : goal.walk_declarators::suffix-returns-in_ok-copied_names-in-Names
walk_declarators::suffix-returns-in_ok-copied_names-in-Names t c = let e = c.args.s.now in let h = c.in-Names in suffix_as e _ _ h.is (form_names h.names e.line) (rw c.in_ok-copied_names-in-Names.ensures (suffix_plain c.args.scopes.now c.args.types.now (tree.NameList e.line h.names) (step.Named h.names) refl c.requires tt))

pub walk_declarators::suffix-returns-in-Empty : goal.walk_declarators::suffix-returns-in-Empty
walk_declarators::suffix-returns-in-Empty t c = let e = c.args.s.now in suffix_as e _ _ c.in-Empty.is (form_empty e.line) (suffix_plain c.args.scopes.now c.args.types.now (tree.NoParameters e.line) step.Open refl c.requires tt)

pub walk_expr::expressions-returns-in_err-push : goal.walk_expr::expressions-returns-in_err-push
walk_expr::expressions-returns-in_err-push t c = memory_stops cores AreCoresIn (exprs_in c.args.scopes.now c.args.types.now (exprs_of (map expr_seen c.args.list.now))) c.args.scopes.now c.expression.new.scopes c.args.types.now c.expression.new.types c.from_residual-in_err-push.result c.from_residual-in_err-push.ensures.1 (keeps_on c.args.scopes.now c.loop-e.scopes c.expression.new.scopes c.args.types.now c.loop-e.types c.expression.new.types c.loop-e.invariant.1 c.in_ok-c.ensures.keeps)

pub walk_types::parts-returns-in_err-push : goal.walk_types::parts-returns-in_err-push
walk_types::parts-returns-in_err-push t c = memory_stops parts_seen ArePartsIn (parts_in c.args.scopes.now c.args.types.now (specifier_list_of (map specifier_seen c.args.list.now))) c.args.scopes.now c.part.new.scopes c.args.types.now c.part.new.types c.from_residual-in_err-push.result c.from_residual-in_err-push.ensures.1 (keeps_on c.args.scopes.now c.loop-specifier.scopes c.part.new.scopes c.args.types.now c.loop-specifier.types c.part.new.types c.loop-specifier.invariant.1 c.in_ok-found.ensures.keeps)

pub walk_declarators::suffixes-returns-in_err-push : goal.walk_declarators::suffixes-returns-in_err-push
walk_declarators::suffixes-returns-in_err-push t c = memory_stops steps_seen AreStepsIn (suffixes_in c.args.scopes.now c.args.types.now (suffixes_of (map suffix_seen c.args.list.now))) c.args.scopes.now c.suffix.new.scopes c.args.types.now c.suffix.new.types c.from_residual-in_err-push.result c.from_residual-in_err-push.ensures.1 (keeps_on c.args.scopes.now c.loop-s.scopes c.suffix.new.scopes c.args.types.now c.loop-s.types c.suffix.new.types c.loop-s.invariant.1 c.in_ok-step.ensures.keeps)

pub walk_declarators::parameter_list-returns-in_err-push : goal.walk_declarators::parameter_list-returns-in_err-push
walk_declarators::parameter_list-returns-in_err-push t c = memory_stops parameters_seen AreParametersIn (parameters_in c.args.scopes.now c.args.types.now c.args.alone (parameters_of (map parameter_tree c.args.list.now))) c.args.scopes.now c.parameter.new.scopes c.args.types.now c.parameter.new.types c.from_residual-in_err-push.result c.from_residual-in_err-push.ensures.1 (keeps_on c.args.scopes.now c.loop-p.scopes c.parameter.new.scopes c.args.types.now c.loop-p.types c.parameter.new.types c.loop-p.invariant.1 c.in_ok-named.ensures.keeps)

pub walk_types::member_lines-loop-m-init : goal.walk_types::member_lines-loop-m-init
walk_types::member_lines-loop-m-init t c = rw c.new-all.ensures (members_start c.args.scopes.now c.args.types.now c.args.list.now c.requires, keeps_itself c.args.scopes.now c.args.types.now c.requires, tt)

pub walk_types::member_lines-loop-m-preserved : goal.walk_types::member_lines-loop-m-preserved
walk_types::member_lines-loop-m-preserved t c = (members_on c.args.scopes.now c.loop-m.scopes c.member_line.new.scopes c.args.types.now c.loop-m.types c.member_line.new.types c.args.list.now c.loop-m.all _ c.loop-m.m-index c.m-item.result (omega arith) c.m-item.is c.loop-m.invariant.0 c.in_ok-all.ensures, keeps_on c.args.scopes.now c.loop-m.scopes c.member_line.new.scopes c.args.types.now c.loop-m.types c.member_line.new.types c.loop-m.invariant.1 c.in_ok-all.ensures.keeps, c.in_ok-all.ensures.within)

pub walk_types::member_lines-returns-in_err-all : goal.walk_types::member_lines-returns-in_err-all
walk_types::member_lines-returns-in_err-all t c = members_stop c.args.scopes.now c.loop-m.scopes c.member_line.new.scopes c.args.types.now c.loop-m.types c.member_line.new.types c.args.list.now c.loop-m.all c.loop-m.m-index c.m-item.result c.in_err-all.field-0.0 c.from_residual.result (omega arith) c.m-item.is c.loop-m.invariant.0 c.in_err-all.ensures c.from_residual.ensures.1

pub walk_types::member_lines-returns : goal.walk_types::member_lines-returns
walk_types::member_lines-returns t c = members_end c.args.scopes.now c.loop-m.scopes c.args.types.now c.loop-m.types c.args.list.now c.loop-m.all c.loop-m.m-index (omega arith) c.loop-m.invariant.0

pub walk_types::fields-loop-f-init : goal.walk_types::fields-loop-f-init
walk_types::fields-loop-f-init t c = (fields_start c.args.before c.args.base c.args.scopes.now c.args.types.now c.args.list.now c.requires.symbols c.requires.before, keeps_itself c.args.scopes.now c.args.types.now c.requires.symbols, c.requires.before, c.requires.base)

pub walk_types::fields-loop-f-preserved : goal.walk_types::fields-loop-f-preserved
walk_types::fields-loop-f-preserved t c = (fields_on c.args.before c.args.base c.args.scopes.now c.loop-f.scopes c.field.new.scopes c.args.types.now c.loop-f.types c.field.new.types c.args.list.now c.loop-f.all _ c.loop-f.f-index c.f-item.result (omega arith) c.f-item.is c.loop-f.invariant.0 (c.loop-f.invariant.1.extends.types_stay c.args.base c.requires.base) c.in_ok-all.ensures, keeps_on c.args.scopes.now c.loop-f.scopes c.field.new.scopes c.args.types.now c.loop-f.types c.field.new.types c.loop-f.invariant.1 c.in_ok-all.ensures.keeps, c.in_ok-all.ensures.within, below_later c.loop-f.types c.field.new.types c.in_ok-all.ensures.keeps.extends c.args.base c.loop-f.invariant.3)

pub walk_types::fields-returns-in_err-all : goal.walk_types::fields-returns-in_err-all
walk_types::fields-returns-in_err-all t c = fields_stop c.args.before c.args.base c.args.scopes.now c.loop-f.scopes c.field.new.scopes c.args.types.now c.loop-f.types c.field.new.types c.args.list.now c.loop-f.all c.loop-f.f-index c.f-item.result c.in_err-all.field-0.0 c.from_residual.result (omega arith) c.f-item.is c.loop-f.invariant.0 (c.loop-f.invariant.1.extends.types_stay c.args.base c.requires.base) c.in_err-all.ensures c.from_residual.ensures.1

pub walk_types::fields-returns : goal.walk_types::fields-returns
walk_types::fields-returns t c = fields_end c.args.before c.args.base c.args.scopes.now c.loop-f.scopes c.args.types.now c.loop-f.types c.args.list.now c.loop-f.all c.loop-f.f-index (omega arith) c.loop-f.invariant.0

pub walk_types::enumerators-loop-e-init : goal.walk_types::enumerators-loop-e-init
walk_types::enumerators-loop-e-init t c = (enumerators_start _ c.args.scopes.now c.args.types.now c.args.list.now c.requires refl, keeps_itself c.args.scopes.now c.args.types.now c.requires)

pub walk_types::enumerators-loop-e-preserved : goal.walk_types::enumerators-loop-e-preserved
walk_types::enumerators-loop-e-preserved t c = (enumerators_on c.args.scopes.now c.loop-e.scopes c.enumerator.new.scopes c.args.types.now c.loop-e.types c.enumerator.new.types c.args.list.now c.loop-e.all _ c.loop-e.e-index c.e-item.result (omega arith) c.e-item.is c.loop-e.invariant.0 c.in_ok-all.ensures, keeps_on c.args.scopes.now c.loop-e.scopes c.enumerator.new.scopes c.args.types.now c.loop-e.types c.enumerator.new.types c.loop-e.invariant.1 c.in_ok-all.ensures.keeps)

pub walk_types::enumerators-returns-in_err-all : goal.walk_types::enumerators-returns-in_err-all
walk_types::enumerators-returns-in_err-all t c = enumerators_stop c.args.scopes.now c.loop-e.scopes c.enumerator.new.scopes c.args.types.now c.loop-e.types c.enumerator.new.types c.args.list.now c.loop-e.all c.loop-e.e-index c.e-item.result c.in_err-all.field-0.0 c.from_residual-in_err-all.result (omega arith) c.e-item.is c.loop-e.invariant.0 c.in_err-all.ensures c.from_residual-in_err-all.ensures.1

pub walk_types::enumerators-returns : goal.walk_types::enumerators-returns
walk_types::enumerators-returns t c = enumerators_end c.args.scopes.now c.loop-e.scopes c.args.types.now c.loop-e.types c.args.list.now c.loop-e.all c.loop-e.e-index (omega arith) c.loop-e.invariant.0

pub walk_types::specifiers_behind-returns-clause-before : goal.walk_types::specifiers_behind-returns-clause-before
walk_types::specifiers_behind-returns-clause-before t c = members_later c.args.types.now c.specifiers.new.types c.specifiers.ensures.keeps.extends c.args.before.now c.requires.before
