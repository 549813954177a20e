use Rattle.c_stmt_agreement.proofs.lemmas.Blocks.{block_is_lowered}
use Rattle.c_stmt_agreement.proofs.lemmas.Sequences.{no_statement_is_lowered, sequence_is_lowered, label_is_lowered}
use Rattle.c_stmt_agreement.proofs.laws.sequences_are_lowered.Goals as goal

pub returns-clause-none : goal.returns-clause-none
returns-clause-none c = no_statement_is_lowered

pub returns-clause-sequences : goal.returns-clause-sequences
returns-clause-sequences c = sequence_is_lowered

pub returns-clause-blocks : goal.returns-clause-blocks
returns-clause-blocks c p y e first locals ts a b begins h = block_is_lowered p y e ts a b begins h first locals

pub returns-clause-labels : goal.returns-clause-labels
returns-clause-labels c = label_is_lowered
