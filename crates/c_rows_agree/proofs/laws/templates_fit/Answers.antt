use Rattle.c_rows_agree.proofs.lemmas.Fitting.{suffixes_fit, number_fits, conversion_fits, pointer_fits, unary_fits, binary_fits, comparison_fits, test_fits, read_fits, store_fits, field_read_fits, field_value_fits, field_store_fits}
use Rattle.c_rows_agree.proofs.laws.templates_fit.Goals as goal

pub returns-clause-suffixes : goal.returns-clause-suffixes
returns-clause-suffixes c = suffixes_fit

pub returns-clause-constants : goal.returns-clause-constants
returns-clause-constants c = number_fits

pub returns-clause-integers : goal.returns-clause-integers
returns-clause-integers c = conversion_fits

pub returns-clause-pointers : goal.returns-clause-pointers
returns-clause-pointers c = pointer_fits

pub returns-clause-unary : goal.returns-clause-unary
returns-clause-unary c = unary_fits

pub returns-clause-binary : goal.returns-clause-binary
returns-clause-binary c = binary_fits

pub returns-clause-comparisons : goal.returns-clause-comparisons
returns-clause-comparisons c = comparison_fits

pub returns-clause-tests : goal.returns-clause-tests
returns-clause-tests c = test_fits

pub returns-clause-read : goal.returns-clause-read
returns-clause-read c = read_fits

pub returns-clause-stored : goal.returns-clause-stored
returns-clause-stored c = store_fits

pub returns-clause-field_read : goal.returns-clause-field_read
returns-clause-field_read c = field_read_fits

pub returns-clause-field_values : goal.returns-clause-field_values
returns-clause-field_values c = field_value_fits

pub returns-clause-field_stored : goal.returns-clause-field_stored
returns-clause-field_stored c = field_store_fits
