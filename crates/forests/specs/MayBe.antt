-- Which numbers a word may be: those that have its known bits; a pointer, function or label may be any. What a bit
-- operation or a shift makes of such numbers is a number that its word may be.
use Rattle.std.specs.Prelude.{◌≡◌, ℕ, bit_and}
use Rattle.objects.specs.declared.value.Value.TheVariants.{Number, Pointer, Function}
use Rattle.forests.specs.Words.{Word, Plain, Label, Partly}

abbrev pub MayBe : Word → ℕ → Type 0
MayBe (Plain (Number m)) n = n ≡ m
MayBe (Plain (Pointer object offset)) n = Unit {0}
MayBe (Plain (Function f)) n = Unit {0}
MayBe (Label f l) n = Unit {0}
MayBe (Partly mask bits) n = bit_and n mask ≡ bits
