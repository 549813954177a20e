use Rattle.c_unit_fits.proofs.lemmas.Functions.{function_fits}
use Rattle.c_unit_fits.proofs.laws.typed_functions_fit.Goals as goal

pub returns : goal.returns
returns c = record { functions = λ s u line specs d olds body f k p h. (function_fits s line specs d olds body u f h k p).1 }
