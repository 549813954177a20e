-- Functions that fit calls.
use Rattle.std.specs.Prelude.{Bool, ◌&&◌, List}
use Rattle.c_types.specs.CType.{CType}
use Rattle.c_meaning.specs.Rows.{parameters_type, result_type}
use Rattle.c_meaning.specs.Units.{FunctionTree}
use Rattle.c_runs.specs.Calls.{Argument, arguments_fit, is_open, own_parameters, result_fits}

-- a function fits a call with a result of this type and these arguments
abbrev pub fits_with : FunctionTree → CType → List Argument → Bool
fits_with f of xs = result_fits (result_type f.of) of && arguments_fit (is_open (parameters_type f.of)) (own_parameters f) xs
