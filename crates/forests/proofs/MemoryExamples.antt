-- Loads and stores, worked out by hand.
use Rattle.std.specs.Prelude.{◌≡◌, ℕ, None, [], ◌∷◌, refl}
use Rattle.lcc_base.specs.declared.order.Order.TheVariants.{Big, Little}
use Rattle.objects.specs.declared.byte.Byte.{Byte}
use Rattle.objects.specs.declared.byte.Byte.TheVariants.{Bits, Part}
use Rattle.op_forest.specs.declared.op.Op.TheVariants as op
use Rattle.op_forest.specs.declared.suffix.Suffix.{Suffix}
use Rattle.op_forest.specs.declared.suffix.Suffix.TheVariants.{C, S, I, P, B}
use Rattle.op_forest.specs.declared.sym.Sym.TheVariants as sym
use Rattle.forests.specs.Words.{Word, Label, Partly, unknown}
use Rattle.forests.specs.Actions.{Action, Gave, Stored, Meaningless}
use Rattle.forests.proofs.Samples.{number, table, variable, slot, argument, gone, at, function, variable_bytes, with_variable, does_with, does}

abbrev loads : Suffix → Word → Action
loads x a = does op.Indir x (a ∷ [])

abbrev loads_little : Suffix → Word → Action
loads_little x a = does_with Little op.Indir x sym.Nothing None (a ∷ [])

-- the table is 0x01020384
loads_char : loads C (at table 3) ≡ Gave (Partly 255 132)
loads_char = refl

loads_short : loads S (at table 0) ≡ Gave (Partly 65535 258)
loads_short = refl

loads_short_little : loads_little S (at table 0) ≡ Gave (Partly 65535 513)
loads_short_little = refl

loads_int : loads I (at table 0) ≡ Gave (number 16909188)
loads_int = refl

loads_int_little : loads_little I (at table 0) ≡ Gave (number 2214789633)
loads_int_little = refl

-- a char or a short of which something isn't known, or which is a byte of a pointer, is none
loads_unknown_char : loads C (at slot 6) ≡ Meaningless
loads_unknown_char = refl

loads_part : loads C (at variable 0) ≡ Meaningless
loads_part = refl

loads_unknown_short : loads S (at slot 4) ≡ Meaningless
loads_unknown_short = refl

loads_odd : loads S (at table 1) ≡ Meaningless
loads_odd = refl

loads_pointer : loads P (at variable 0) ≡ Gave (at table 4)
loads_pointer = refl

-- in the other order these four bytes are turned, and so are no pointer: no bit of them is known
loads_turned : loads_little P (at variable 0) ≡ Gave unknown
loads_turned = refl

loads_label : loads P (at slot 0) ≡ Gave (Label 5 3)
loads_label = refl

-- four bits of the third byte are known, and none of a byte of a function
loads_partly : loads I (at slot 4) ≡ Gave (Partly 61440 12288)
loads_partly = refl

loads_partly_little : loads_little I (at slot 4) ≡ Gave (Partly 15728640 3145728)
loads_partly_little = refl

loads_past_the_end : loads I (at table 4) ≡ Meaningless
loads_past_the_end = refl

loads_dead : loads I (at gone 0) ≡ Meaningless
loads_dead = refl

loads_null : loads P (number 0) ≡ Meaningless
loads_null = refl

-- a block is its address
block_is_address : loads B (at variable 4) ≡ Gave (at variable 4)
block_is_address = refl

abbrev stores : Suffix → Word → Word → Action
stores x a v = does op.Asgn x (a ∷ v ∷ [])

-- the variable with other bytes at its end
abbrev ends_with : Byte Word → Byte Word → Byte Word → Byte Word → Action
ends_with a b c d = Stored (with_variable (Part (at table 4) 0 ∷ Part (at table 4) 1 ∷ Part (at table 4) 2 ∷ Part (at table 4) 3 ∷ a ∷ b ∷ c ∷ d ∷ []))

stores_char : stores C (at variable 5) (Partly 255 7) ≡ ends_with (Bits 255 128) (Bits 255 7) (Bits 255 255) (Bits 255 254)
stores_char = refl

stores_unknown_char : stores C (at variable 5) (Partly 127 7) ≡ Meaningless
stores_unknown_char = refl

stores_pointer_as_char : stores C (at variable 5) (at table 0) ≡ Meaningless
stores_pointer_as_char = refl

stores_short : stores S (at variable 6) (Partly 65535 258) ≡ ends_with (Bits 255 128) (Bits 255 0) (Bits 255 1) (Bits 255 2)
stores_short = refl

stores_odd : stores S (at variable 5) (Partly 65535 258) ≡ Meaningless
stores_odd = refl

stores_int : stores I (at variable 4) (number 16909060) ≡ ends_with (Bits 255 1) (Bits 255 2) (Bits 255 3) (Bits 255 4)
stores_int = refl

-- what isn't known stays so
stores_partly : stores I (at variable 4) (Partly 61440 12288) ≡ ends_with (Bits 0 0) (Bits 0 0) (Bits 240 48) (Bits 0 0)
stores_partly = refl

stores_pointer : stores P (at variable 4) (at argument 2) ≡ ends_with (Part (at argument 2) 0) (Part (at argument 2) 1) (Part (at argument 2) 2) (Part (at argument 2) 3)
stores_pointer = refl

stores_label_little : does_with Little op.Asgn P sym.Nothing None (at variable 4 ∷ Label 5 3 ∷ []) ≡ ends_with (Part (Label 5 3) 3) (Part (Label 5 3) 2) (Part (Label 5 3) 1) (Part (Label 5 3) 0)
stores_label_little = refl

stores_constant : stores I (at table 0) (number 1) ≡ Meaningless
stores_constant = refl

stores_dead : stores P (at gone 0) (number 1) ≡ Meaningless
stores_dead = refl

abbrev copies : ℕ → ℕ → Word → Word → Action
copies size align to from = does_with Big op.Asgn B (sym.Block size align) None (to ∷ from ∷ [])

-- two bytes, of which one is a function's and some bits aren't known
copies_block : copies 2 2 (at variable 4) (at slot 6) ≡ ends_with (Bits 240 48) (Part (function 9) 3) (Bits 255 255) (Bits 255 254)
copies_block = refl

copies_onto_itself : copies 4 4 (at variable 4) (at variable 4) ≡ Stored (with_variable variable_bytes)
copies_onto_itself = refl

copies_overlapping : copies 4 2 (at variable 4) (at variable 2) ≡ Meaningless
copies_overlapping = refl

copies_constant : copies 4 4 (at table 0) (at variable 4) ≡ Meaningless
copies_constant = refl

copies_without_size : does op.Asgn B (at variable 4 ∷ at variable 4 ∷ []) ≡ Meaningless
copies_without_size = refl
