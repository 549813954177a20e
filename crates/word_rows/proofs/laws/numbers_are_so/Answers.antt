use Rattle.word_rows.proofs.lemmas.Numbers.{one_is, two_are, widened_is, kept_is, constant_is, narrow_constant_is}
use Rattle.word_rows.proofs.laws.numbers_are_so.Goals as goal

pub returns-clause-one : goal.returns-clause-one
returns-clause-one c = one_is

pub returns-clause-two : goal.returns-clause-two
returns-clause-two c = two_are

pub returns-clause-widened : goal.returns-clause-widened
returns-clause-widened c = widened_is

pub returns-clause-kept : goal.returns-clause-kept
returns-clause-kept c = kept_is

pub returns-clause-constants : goal.returns-clause-constants
returns-clause-constants c = constant_is

pub returns-clause-narrow : goal.returns-clause-narrow
returns-clause-narrow c = narrow_constant_is
