-- What an object's content has: the values of its bytes and, behind them, their masks, if there are any; and for some places a byte
-- of a pointer or function, which eight bytes in place have not.
use Rattle.std.specs.Prelude.{ℕ, List, Option, None}
use Rattle.std.specs.BTreeMap.{get}
use Rattle.std.specs.Ordering.{nat_cmp}
use Rattle.objects.specs.declared.byte.Byte.{Byte}
use Rattle.objects.specs.declared.content.Content.{Content}
use Rattle.objects.specs.declared.content.Content.TheVariants.{Few, Many}
use Rattle.objects.specs.declared.value.Value.{Value}

-- the values, and behind them the masks
abbrev pub bytes_of : Content → List ℕ
bytes_of (Few bytes) = bytes
bytes_of (Many many) = many.value.bytes.items

-- the byte of a pointer or function at a place
abbrev pub parts_of : Content → ℕ → Option (Byte Value)
parts_of (Few bytes) = λ place. None
parts_of (Many many) = get nat_cmp many.value.parts
