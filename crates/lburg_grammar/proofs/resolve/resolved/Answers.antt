use Rattle.lcc_text.specs.Names.{bytes_of}
use Rattle.lburg_grammar.proofs.ResolveBuilt.{built_is, built_means}
use Rattle.lburg_grammar.proofs.ResolveChecked.{few_terminals, few_nonterminals, are_resolvable, start_there, is_built}
use Rattle.lburg_grammar.proofs.resolve.resolved.Goals as goal

pub start_place-start-requires-clause-few : goal.start_place-start-requires-clause-few
start_place-start-requires-clause-few c = few_nonterminals c.args.checked.now c.requires.0 c.requires.1 (bytes_of c.in_ok-lefts.lefts) (rw c.deref.ensures.value at c.in_ok-lefts.ensures)

pub start_place-start-requires-clause-known : goal.start_place-start-requires-clause-known
start_place-start-requires-clause-known c = start_there c.args.checked.now c.requires.0 c.requires.1 (bytes_of c.in_ok-lefts.lefts) (rw c.deref.ensures.value at c.in_ok-lefts.ensures)

pub resolved_rules-requires-clause-few_terminals : goal.resolved_rules-requires-clause-few_terminals
resolved_rules-requires-clause-few_terminals c = few_terminals c.args.checked.now c.requires.0 c.requires.1

pub resolved_rules-requires-clause-few_nonterminals : goal.resolved_rules-requires-clause-few_nonterminals
resolved_rules-requires-clause-few_nonterminals c = few_nonterminals c.args.checked.now c.requires.0 c.requires.1 (bytes_of c.in_ok-lefts.lefts) (rw c.deref.ensures.value at c.in_ok-lefts.ensures)

pub resolved_rules-requires-clause-known : goal.resolved_rules-requires-clause-known
resolved_rules-requires-clause-known c = rw c.deref-2.ensures.value (are_resolvable c.args.checked.now c.requires.0 c.requires.1 (bytes_of c.in_ok-lefts.lefts) (rw c.deref.ensures.value at c.in_ok-lefts.ensures))

pub of_parts-requires : goal.of_parts-requires
of_parts-requires c =
    let ns = bytes_of c.in_ok-lefts.lefts in
    let b = is_built c.args.checked.now c.requires.0 c.requires.1 ns (rw c.deref.ensures.value at c.in_ok-lefts.ensures) c.in_ok-rules.rules.items (rw c.deref-2.ensures.value at c.in_ok-rules.ensures)
    c.one_tree.ensures c.in_ok-terminals.terminals.items c.start_place-start.result c.in_ok-terminals.ensures.names c.in_ok-terminals.ensures.numbers c.in_ok-terminals.ensures.arities c.start_place-start.ensures in
    rw c.in_ok-nonterminals.ensures (built_is _ _ b)

pub returns : goal.returns
returns c = λ text is.
    let ns = bytes_of c.in_ok-lefts.lefts in
    let b = is_built c.args.checked.now text is ns (rw c.deref.ensures.value at c.in_ok-lefts.ensures) c.in_ok-rules.rules.items (rw c.deref-2.ensures.value at c.in_ok-rules.ensures)
    c.one_tree.ensures c.in_ok-terminals.terminals.items c.start_place-start.result c.in_ok-terminals.ensures.names c.in_ok-terminals.ensures.numbers c.in_ok-terminals.ensures.arities c.start_place-start.ensures in
    rw (c.of_parts.ensures, c.in_ok-nonterminals.ensures) (built_means _ _ b)
