-- What falls in the cycle of readers: the tokens that are left, and with as many the rank of the reader; and what its loops keep.
use Rattle.std.proofs.Common.{◌≡◌, ◌<◌, ◌≤◌, ◌+◌, ◌-◌, ◌*◌, ◌||◌, not, length, map, Bool, true, false, ◌∷◌}
use Rattle.c_ast.specs.Marks.{IsSign, IsSpecifier, IsSuffix}
use Rattle.c_ast.specs.ExprMarks.{says_type}
use Rattle.c_ast.specs.Heights.{height, specifier_height, member_height, field_height, enumerator_height, suffix_height, parameter_height}
use Rattle.c_ast.specs.ValueHeights.{most}
use Rattle.c_ast.specs.Views.{members_of, fields_of, enumerators_of, suffixes_of, parameters_of}
use Rattle.c_readings.specs.Reading.{bind, gives, answer, beyond, here, one_sign, commas}
use Rattle.c_readings.specs.Readers.{readers, specifiers, specifier, some_specifiers, members, fields, field, enumerators, enumerator, goes_on_without, suffixes, suffix, parameters, parameter}
use Rattle.c_expr.specs.Answers.{at, comma_end, dots_end}
use Rattle.c_ast.specs.Seen.{expr_seen, specifier_seen, member_seen, field_seen, enumerator_seen, suffix_seen, parameter_seen}
use Rattle.c_expr.proofs.Chained.{ChainLeft}
use Rattle.c_readings.proofs.lemmas.Loops.{Left, CommasLeft}
use Rattle.c_expr.proofs.+syntax.Given as goal

abbrev pub decreases-heads::head_at : goal.decreases-heads::head_at
decreases-heads::head_at l = 7 * length l.tokens.now + 0

abbrev pub decreases-heads::signed_at : goal.decreases-heads::signed_at
decreases-heads::signed_at l = 7 * length l.tokens.now + 5

abbrev pub decreases-heads::prefixed_at : goal.decreases-heads::prefixed_at
decreases-heads::prefixed_at l = 7 * length l.tokens.now + 3

abbrev pub decreases-heads::enclosed_at : goal.decreases-heads::enclosed_at
decreases-heads::enclosed_at l = 7 * length l.tokens.now + 3

abbrev pub decreases-heads::cast_at : goal.decreases-heads::cast_at
decreases-heads::cast_at l = 7 * length l.tokens.now + 3

abbrev pub decreases-heads::sized_at : goal.decreases-heads::sized_at
decreases-heads::sized_at l = 7 * length l.tokens.now + 4

abbrev pub decreases-heads::sized_type_at : goal.decreases-heads::sized_type_at
decreases-heads::sized_type_at l = 7 * length l.tokens.now + 0

abbrev pub decreases-expressions::piece_at : goal.decreases-expressions::piece_at
decreases-expressions::piece_at l = 7 * length l.tokens.now + 1

abbrev pub decreases-expressions::whole_at : goal.decreases-expressions::whole_at
decreases-expressions::whole_at l = 7 * length l.tokens.now + 2

abbrev pub decreases-expressions::sequence_at : goal.decreases-expressions::sequence_at
decreases-expressions::sequence_at l = 7 * length l.begun.rest.now + 0

abbrev pub decreases-links::link_at : goal.decreases-links::link_at
decreases-links::link_at l = 7 * length l.tokens.now + 4

abbrev pub decreases-links::choices_at : goal.decreases-links::choices_at
decreases-links::choices_at l = 7 * length l.tokens.now + 3

abbrev pub decreases-links::arguments_at : goal.decreases-links::arguments_at
decreases-links::arguments_at l = 7 * length l.tokens.now + 3

abbrev pub decreases-specifiers::specifiers_at : goal.decreases-specifiers::specifiers_at
decreases-specifiers::specifiers_at l = 7 * length l.tokens.now + 1

abbrev pub decreases-specifiers::specifier_at : goal.decreases-specifiers::specifier_at
decreases-specifiers::specifier_at l = 7 * length l.tokens.now + 0

abbrev pub decreases-specifiers::worded_at : goal.decreases-specifiers::worded_at
decreases-specifiers::worded_at l = 7 * length l.tokens.now + 1

abbrev pub decreases-records::record_at : goal.decreases-records::record_at
decreases-records::record_at l = 7 * length l.tokens.now + 0

abbrev pub decreases-records::members_at : goal.decreases-records::members_at
decreases-records::members_at l = 7 * length l.tokens.now + 3

abbrev pub decreases-records::member_at : goal.decreases-records::member_at
decreases-records::member_at l = 7 * length l.tokens.now + 2

abbrev pub decreases-records::fields_at : goal.decreases-records::fields_at
decreases-records::fields_at l = 7 * length l.tokens.now + 5

abbrev pub decreases-records::field_at : goal.decreases-records::field_at
decreases-records::field_at l = 7 * length l.tokens.now + 4

abbrev pub decreases-records::constant_behind : goal.decreases-records::constant_behind
decreases-records::constant_behind l = 7 * length l.tokens.now + 0

abbrev pub decreases-enumerations::enumeration_at : goal.decreases-enumerations::enumeration_at
decreases-enumerations::enumeration_at l = 7 * length l.tokens.now + 0

abbrev pub decreases-enumerations::enumerators_at : goal.decreases-enumerations::enumerators_at
decreases-enumerations::enumerators_at l = 7 * length l.tokens.now + 1

abbrev pub decreases-enumerations::enumerator_at : goal.decreases-enumerations::enumerator_at
decreases-enumerations::enumerator_at l = 7 * length l.tokens.now + 0

abbrev pub decreases-type_names::maybe_declarator_at : goal.decreases-type_names::maybe_declarator_at
decreases-type_names::maybe_declarator_at l = 7 * length l.tokens.now + 3

abbrev pub decreases-type_names::type_name_at : goal.decreases-type_names::type_name_at
decreases-type_names::type_name_at l = 7 * length l.tokens.now + 2

abbrev pub decreases-declarators::declarator_at : goal.decreases-declarators::declarator_at
decreases-declarators::declarator_at l = 7 * length l.tokens.now + 2

abbrev pub decreases-declarators::core_at : goal.decreases-declarators::core_at
decreases-declarators::core_at l = 7 * length l.tokens.now + 0

abbrev pub decreases-suffixes::suffixes_at : goal.decreases-suffixes::suffixes_at
decreases-suffixes::suffixes_at l = 7 * length l.tokens.now + 1

abbrev pub decreases-suffixes::suffix_at : goal.decreases-suffixes::suffix_at
decreases-suffixes::suffix_at l = 7 * length l.tokens.now + 0

abbrev pub decreases-suffixes::size_at : goal.decreases-suffixes::size_at
decreases-suffixes::size_at l = 7 * length l.tokens.now + 2

abbrev pub decreases-suffixes::list_at : goal.decreases-suffixes::list_at
decreases-suffixes::list_at l = 7 * length l.tokens.now + 4

abbrev pub decreases-parameters::parameters_at : goal.decreases-parameters::parameters_at
decreases-parameters::parameters_at l = 7 * length l.tokens.now + 3

abbrev pub decreases-parameters::parameter_at : goal.decreases-parameters::parameter_at
decreases-parameters::parameter_at l = 7 * length l.tokens.now + 2

-- ---- loops

abbrev pub invariant-expressions::piece_at-loop-kind : goal.invariant-expressions::piece_at-loop-kind
invariant-expressions::piece_at-loop-kind l =
    (length l.left.rest.now < length l.fn.tokens)
    × (l.left.height ≤ l.fn.limit)
    × (l.left.height ≡ height (expr_seen l.left.tree))
    × ChainLeft (readers (l.fn.limit - 1)) l.fn.level l.line ((readers l.fn.limit).piece l.fn.level (at l.fn.names l.fn.text l.fn.tokens)) (expr_seen l.left.tree) (at l.names l.fn.text l.left.rest.now)

abbrev pub decreases-expressions::piece_at-loop-kind : goal.decreases-expressions::piece_at-loop-kind
decreases-expressions::piece_at-loop-kind l = length l.left.rest.now

abbrev pub invariant-expressions::sequence_at-loop-behind : goal.invariant-expressions::sequence_at-loop-behind
invariant-expressions::sequence_at-loop-behind l =
    (length l.rest ≤ length l.fn.begun.rest.now)
    × (l.height ≤ l.fn.limit)
    × (l.height ≡ most (λ v. height (expr_seen v)) l.parts)
    × CommasLeft ((readers l.fn.limit).piece 1) (λ es u. gives es u) (bind (commas ((readers l.fn.limit).piece 1) (at l.fn.names l.fn.text l.fn.begun.rest.now)) (λ es u. gives (expr_seen l.fn.begun.tree ∷ es) u)) (map expr_seen l.parts) (at l.names l.fn.text l.rest)

abbrev pub decreases-expressions::sequence_at-loop-behind : goal.decreases-expressions::sequence_at-loop-behind
decreases-expressions::sequence_at-loop-behind l = length l.rest

abbrev pub invariant-specifiers::specifiers_at-loop-names : goal.invariant-specifiers::specifiers_at-loop-names
invariant-specifiers::specifiers_at-loop-names l =
    (length l.rest + length l.list ≤ length l.fn.tokens)
    × (l.height ≤ l.fn.limit)
    × (l.height ≡ most (λ v. specifier_height (specifier_seen v)) l.list)
    × Left (λ (b : Bool) t. answer (IsSpecifier b) t) (λ (b : Bool) t. specifier (readers l.fn.limit) t) (λ (b : Bool) x. b || says_type x) (λ xs t. some_specifiers (here (at l.fn.names l.fn.text l.fn.tokens)) xs t) (specifiers (readers l.fn.limit) (at l.fn.names l.fn.text l.fn.tokens)) (map specifier_seen l.list) l.typed (at l.names l.fn.text l.rest)

abbrev pub decreases-specifiers::specifiers_at-loop-names : goal.decreases-specifiers::specifiers_at-loop-names
decreases-specifiers::specifiers_at-loop-names l = length l.rest

abbrev pub invariant-records::members_at-loop-names : goal.invariant-records::members_at-loop-names
invariant-records::members_at-loop-names l =
    (length l.rest < length l.fn.tokens)
    × (l.height ≤ l.fn.limit)
    × (l.height ≡ most (λ v. member_height (member_seen v)) l.members)
    × Left (λ (b : Bool) u. not (answer (IsSign 5) u)) (λ (b : Bool) u. (readers l.fn.limit).member u) (λ (b : Bool) x. b) (λ ms u. one_sign 5 u (λ v. gives (members_of ms) v)) (members (readers l.fn.limit) (at l.fn.names l.fn.text l.fn.tokens)) (map member_seen l.members) true (at l.names l.fn.text l.rest)

abbrev pub decreases-records::members_at-loop-names : goal.decreases-records::members_at-loop-names
decreases-records::members_at-loop-names l = length l.rest

abbrev pub invariant-records::fields_at-loop-behind : goal.invariant-records::fields_at-loop-behind
invariant-records::fields_at-loop-behind l =
    (length l.rest ≤ length l.fn.tokens)
    × (l.height ≤ l.fn.limit)
    × (l.height ≡ most (λ v. field_height (field_seen v)) l.fields)
    × CommasLeft (field (readers l.fn.limit)) (λ fs t. one_sign 32 t (λ u. gives (fields_of fs) u)) (fields (readers l.fn.limit) (at l.fn.names l.fn.text l.fn.tokens)) (map field_seen l.fields) (at l.names l.fn.text l.rest)

abbrev pub decreases-records::fields_at-loop-behind : goal.decreases-records::fields_at-loop-behind
decreases-records::fields_at-loop-behind l = length l.rest

abbrev pub invariant-enumerations::enumerators_at-loop-behind : goal.invariant-enumerations::enumerators_at-loop-behind
invariant-enumerations::enumerators_at-loop-behind l =
    (length l.rest < length l.fn.tokens)
    × (l.height ≤ l.fn.limit)
    × (l.height ≡ most (λ v. enumerator_height (enumerator_seen v)) l.list)
    × Left (λ (b : Bool) u. goes_on_without 5 u) (λ (b : Bool) u. enumerator (readers l.fn.limit) (beyond u)) (λ (b : Bool) x. b) (λ es u. comma_end (enumerators_of es) u) (enumerators (readers l.fn.limit) (at l.fn.names l.fn.text l.fn.tokens)) (map enumerator_seen l.list) true (at l.names l.fn.text l.rest)

abbrev pub decreases-enumerations::enumerators_at-loop-behind : goal.decreases-enumerations::enumerators_at-loop-behind
decreases-enumerations::enumerators_at-loop-behind l = length l.rest

abbrev pub invariant-suffixes::suffixes_at-loop-names : goal.invariant-suffixes::suffixes_at-loop-names
invariant-suffixes::suffixes_at-loop-names l =
    (length l.rest ≤ length l.fn.tokens)
    × (l.height ≤ l.fn.limit)
    × (l.height ≡ most (λ v. suffix_height (suffix_seen v)) l.suffixes)
    × Left (λ (b : Bool) t. answer IsSuffix t) (λ (b : Bool) t. suffix (readers l.fn.limit) b t) (λ (b : Bool) x. false) (λ xs t. gives (suffixes_of xs) t) (suffixes (readers l.fn.limit) l.fn.own (at l.fn.names l.fn.text l.fn.tokens)) (map suffix_seen l.suffixes) l.own (at l.names l.fn.text l.rest)

abbrev pub decreases-suffixes::suffixes_at-loop-names : goal.decreases-suffixes::suffixes_at-loop-names
decreases-suffixes::suffixes_at-loop-names l = length l.rest

abbrev pub invariant-parameters::parameters_at-loop-behind : goal.invariant-parameters::parameters_at-loop-behind
invariant-parameters::parameters_at-loop-behind l =
    (length l.rest < length l.fn.tokens)
    × (l.height ≤ l.fn.limit)
    × (l.height ≡ most (λ v. parameter_height (parameter_seen v)) l.list)
    × Left (λ (b : Bool) u. goes_on_without 33 u) (λ (b : Bool) u. parameter (readers l.fn.limit) (beyond u)) (λ (b : Bool) x. b) (λ ps u. dots_end (parameters_of ps) u) (parameters (readers l.fn.limit) (at l.fn.names l.fn.text l.fn.tokens)) (map parameter_seen l.list) true (at l.names l.fn.text l.rest)

abbrev pub decreases-parameters::parameters_at-loop-behind : goal.decreases-parameters::parameters_at-loop-behind
decreases-parameters::parameters_at-loop-behind l = length l.rest
