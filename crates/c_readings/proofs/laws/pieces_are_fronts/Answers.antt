use Rattle.c_readings.proofs.Fronts.{expression_fronts, type_name_fronts, specifiers_fronts, declarator_fronts}
use Rattle.c_readings.proofs.laws.pieces_are_fronts.Goals as goal

pub returns-clause-expression : goal.returns-clause-expression
returns-clause-expression c = expression_fronts

pub returns-clause-type_name : goal.returns-clause-type_name
returns-clause-type_name c = type_name_fronts

pub returns-clause-specifiers : goal.returns-clause-specifiers
returns-clause-specifiers c = specifiers_fronts

pub returns-clause-declarator : goal.returns-clause-declarator
returns-clause-declarator c = declarator_fronts
