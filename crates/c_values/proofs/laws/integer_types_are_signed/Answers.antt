use Rattle.c_values.proofs.Signs.{place_sign, own_sign}
use Rattle.c_values.proofs.laws.integer_types_are_signed.Goals as goal

pub returns-clause-unqualified : goal.returns-clause-unqualified
returns-clause-unqualified c = place_sign

pub returns-clause-own : goal.returns-clause-own
returns-clause-own c = own_sign
