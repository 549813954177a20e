-- A word is read back from its bytes, and through the pointer that it was written through; so is a narrower number.
use Rattle.std.specs.Prelude.{◌≡◌, ℕ, List, None}
use Rattle.objects.specs.declared.byte.Byte.{Byte}
use Rattle.objects.specs.declared.value.Value.{Value}
use Rattle.objects.specs.Accesses.{read_cause}
use Rattle.forests.specs.Words.{Word}
use Rattle.forests.specs.Objects.{Object, shapes, bytes_through}

-- bytes that were written through a pointer stand there, and may be read
pub record IsWritten (objects : List Object) (p : Value) (size : ℕ) (bytes : List (Byte Word)) : Type 0 where
  pub readable : read_cause (shapes objects) p size size ≡ None
  pub stands : bytes_through objects p size ≡ bytes
