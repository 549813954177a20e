-- The laws of accesses.
use Rattle.std.specs.Prelude.{◌≡◌, ℕ, None, List}
use Rattle.objects.specs.declared.value.Value.{Value}
use Rattle.objects.specs.Accesses.{read_cause}
use Rattle.objects.specs.Accesses as c
use Rattle.objects.specs.Objects.{Object as Old}
use Rattle.forests.specs.Objects.{Object, shapes, bytes_through}
use Rattle.forests.specs.Words.{Word, Plain}
use Rattle.c_match.specs.Ranges.{Map}
use Rattle.c_match.specs.Values.{IsValue}
use Rattle.c_match.specs.Bytes.{AreBytesOf}
use Rattle.c_match.specs.Held.{AreHeld, IsAlignment}
use Rattle.c_match_objects.proofs.lemmas.Reached.{there, access, goes_there, bytes_reached}

pub access_goes : (map : Map) (old : List Old) (objects : List Object) (p : Value) (w : Word) (size alignment : ℕ) → AreHeld map old objects → IsValue map p w → IsAlignment alignment → read_cause old p size alignment ≡ None → (q : Value) × (w ≡ Plain q) × (read_cause (shapes objects) q size alignment ≡ None) × AreBytesOf map (c.bytes_through old p size) (bytes_through objects q size)
access_goes map old objects p w size alignment h is ok e =
    let a = access map old objects p w size alignment h is e in
    (there a.reached, a.reached.word, goes_there map old objects p w size alignment ok a, bytes_reached map old objects p w size a.reached)
