-- Addresses as the meaning of expressions has them.
use Rattle.std.specs.Prelude.{pos, Option, Some, None}
use Rattle.c_meaning.specs.AddressConstants.{Address as AddressIn}
use Rattle.c_initialisers.specs.declared.addresses.Address.{Address}

abbrev pub meant : Address → AddressIn
meant a = record { size = a.size; offset = pos a.offset }

abbrev pub meant_if : Option Address → Option AddressIn
meant_if (Some a) = Some (meant a)
meant_if None = None
