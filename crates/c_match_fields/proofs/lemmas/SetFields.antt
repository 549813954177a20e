-- A field of a unit that is cleared and set.
use Rattle.std.specs.Prelude.{◌≡◌, ◌≤◌, ◌<◌, ℕ, ◌+◌, ◌-◌, ◌*◌, ◌/◌, ◌%◌, ◌^◌, ◌==◌, min, max, bit_and, bit_or, bit_xor, Bool, true, false, Some, if◌then◌else◌}
use Rattle.std.specs.Int.{bit_at}
use Rattle.std.specs.Int.Bits.{and_zero_l, and_zero_r}
use Rattle.std.proofs.Common.{refl, sym, ap, subst, ◌∙◌, arith, inl, inr}
use Rattle.std.proofs.lemmas.Nat.{and_le_l, and_le_r, and_shr, and_mod, mod_below}
use Rattle.std.proofs.lemmas.Nat.Bits.{bit_at-lt, bit_at_and, bit_at_or, bit_at_xor, bit_at_ones, same_from_bits_below}
use Rattle.lcc_base.specs.declared.order.Order.{Order}
use Rattle.lcc_base.specs.declared.order.Order.TheVariants.{Big, Little}
use Rattle.objects.specs.declared.byte.Byte.TheVariants.{Bits}
use Rattle.objects.specs.declared.operators.Binary.TheVariants as binary
use Rattle.objects.specs.declared.value.Value.TheVariants.{Number, Pointer, Function}
use Rattle.objects.proofs.lemmas.BitLaws.{replaced_below}
use Rattle.objects.specs.Bytes.{number_bytes, part_bytes}
use Rattle.objects.specs.Fields.{with_bits}
use Rattle.objects.specs.Fields.{bits_of as bytes_of}
use Rattle.forests.specs.Bits.{KnownBits, bits_of, bits_and, bits_or, bitwise}
use Rattle.forests.proofs.lemmas.MayBe.{and_ones}
use Rattle.forests.proofs.lemmas.SoundBytes.{and_full_byte}
use Rattle.forests.specs.WordBytes.{word_bytes}
use Rattle.forests.specs.Words.{Word, Plain, Label, Partly, known_word}
use Rattle.c_match.specs.Ranges.{Map}
use Rattle.c_match.specs.Bytes.{IsNoLabel, IsByteOf, AreBytesOf}
use Rattle.c_match_fields.proofs.lemmas.FieldBits.{each_bit}
use Rattle.c_match_fields.proofs.lemmas.UnitWords.{Covers, bits_known}

-- ---- bits

all_outer : (o k v m x : ℕ) → o < 2 → k < 2 → v < 2 → m ≡ 1 → min o k ≡ o → min o (max (min k 1) (max ((k + v) % 2) ((1 + m) % 2))) ≡ o
all_outer o k v m x ho hk hv em e = omega (arith, em, e)

all_inner : (k v m : ℕ) → k < 2 → v < 2 → m ≡ 0 → min 1 (max (min k 1) (max ((k + v) % 2) ((1 + m) % 2))) ≡ 1
all_inner k v m hk hv em = omega (arith, em)

same_outer : (o v m b r : ℕ) → o < 2 → v < 2 → m ≡ 1 → b ≡ 0 → min v o ≡ r → min (max (min v m) b) o ≡ r
same_outer o v m b r ho hv em eb e = omega (arith, em, eb, e)

same_inner : (v m b : ℕ) → v < 2 → b < 2 → m ≡ 0 → min (max (min v m) b) 1 ≡ b
same_inner v m b hv hb em = omega (arith, em)

still_all : (o k v : ℕ) → o < 2 → k < 2 → min o k ≡ o → min o (max (min k 1) v) ≡ o
still_all o k v ho hk e = omega (arith, e)

one_all : (o : ℕ) → o < 2 → min o 1 ≡ o
one_all o h = omega arith

-- A unit in which the field was cleared, so that C's new value comes of setting the new bits.
pub record IsCleared (s w new known value : ℕ) (unit : Word) : Type 0 where
  pub mask : ℕ
  pub bits : ℕ
  pub is : bitwise binary.And bits_and unit (Plain (Number (2 ^ 32 - 1 - (2 ^ w - 1) * 2 ^ s))) ≡ Some (known_word mask bits)
  pub all : bit_and (with_bits s w (2 ^ w - 1) known) mask ≡ with_bits s w (2 ^ w - 1) known
  pub same : bit_and (bit_or bits (new % 2 ^ w * 2 ^ s)) (with_bits s w (2 ^ w - 1) known) ≡ with_bits s w new value

module _ (s w new known value : ℕ) (le : s + w ≤ 32) (small : known < 2 ^ 32) where
  abbrev outer : ℕ
  outer = 2 ^ 32 - 1 - (2 ^ w - 1) * 2 ^ s

  abbrev set : ℕ
  set = new % 2 ^ w * 2 ^ s

  abbrev now_known : ℕ
  now_known = with_bits s w (2 ^ w - 1) known

  known_small : now_known < 2 ^ 32
  known_small = replaced_below s w (2 ^ w - 1) known le small

  -- the new known bits, where a mask has them bit by bit
  all_from : (mask : ℕ) → ((i : ℕ) → i < 32 → min (bit_at now_known i) (bit_at mask i) ≡ bit_at now_known i) → bit_and now_known mask ≡ now_known
  all_from mask h =
      let few = and_le_l now_known mask in
      let lt = known_small in
      let below : bit_and now_known mask < 2 ^ 32 = omega (arith, few, lt) in
      same_from_bits_below 32 (bit_and now_known mask) now_known below lt (λ i k. bit_at_and now_known mask i ∙ h i k)

  one_bit : (v : ℕ) → bit_and v known ≡ value → (i : ℕ) → i < 32 → min (max (min (bit_at v i) (bit_at outer i)) (bit_at set i)) (bit_at now_known i) ≡ bit_at (with_bits s w new value) i
  one_bit v e i l = elim (each_bit s w new i i le l) [
    | inl o ↦
        (ap (λ (x : ℕ). min (max (min (bit_at v i) (bit_at outer i)) (bit_at set i)) x) (o.same known (2 ^ w - 1))
        ∙ same_outer (bit_at known i) (bit_at v i) (bit_at outer i) (bit_at set i) (bit_at value i) (bit_at-lt known i) (bit_at-lt v i) o.kept o.free (sym (bit_at_and v known i) ∙ ap (λ (x : ℕ). bit_at x i) e)
        ∙ sym (o.same value new))
    | inr o ↦
        (ap (λ (x : ℕ). min (max (min (bit_at v i) (bit_at outer i)) (bit_at set i)) x) (o.known known)
        ∙ same_inner (bit_at v i) (bit_at outer i) (bit_at set i) (bit_at-lt v i) (bit_at-lt set i) o.cleared
        ∙ sym (o.taken value))
  ]

  -- the new value, of what was read
  same_from : (v : ℕ) → bit_and v known ≡ value → bit_and (bit_or (bit_and v outer) set) now_known ≡ with_bits s w new value
  same_from v e =
      let few = and_le_r (bit_or (bit_and v outer) set) now_known in
      let lt = known_small in
      let below : bit_and (bit_or (bit_and v outer) set) now_known < 2 ^ 32 = omega (arith, few, lt) in
      let many = and_le_r v known in
      let low : value < 2 ^ 32 = omega (arith, many, e, small) in
      same_from_bits_below 32 (bit_and (bit_or (bit_and v outer) set) now_known) (with_bits s w new value) below (replaced_below s w new value le low)
      (λ i l.
      bit_at_and (bit_or (bit_and v outer) set) now_known i
      ∙ ap (λ (x : ℕ). min x (bit_at now_known i)) (bit_at_or (bit_and v outer) set i)
      ∙ ap (λ (x : ℕ). min (max x (bit_at set i)) (bit_at now_known i)) (bit_at_and v outer i)
      ∙ one_bit v e i l)

  -- the mask of a unit whose bits aren't all known
  mask_bit : (k v : ℕ) → bit_and known k ≡ known → (i : ℕ) → i < 32 → min (bit_at now_known i) (bit_at (bit_or (bit_and k (2 ^ 32 - 1)) (bit_or (bit_xor k v) (bit_xor (2 ^ 32 - 1) outer))) i) ≡ bit_at now_known i
  mask_bit k v e i l =
      let one = bit_at_ones 32 i l in
      ap (λ (x : ℕ). min (bit_at now_known i) x)
      (bit_at_or (bit_and k (2 ^ 32 - 1)) (bit_or (bit_xor k v) (bit_xor (2 ^ 32 - 1) outer)) i
      ∙ ap (λ (x : ℕ). max x (bit_at (bit_or (bit_xor k v) (bit_xor (2 ^ 32 - 1) outer)) i)) (bit_at_and k (2 ^ 32 - 1) i ∙ ap (λ (x : ℕ). min (bit_at k i) x) one)
      ∙ ap (λ (x : ℕ). max (min (bit_at k i) 1) x)
      (bit_at_or (bit_xor k v) (bit_xor (2 ^ 32 - 1) outer) i
      ∙ ap (λ (x : ℕ). max x (bit_at (bit_xor (2 ^ 32 - 1) outer) i)) (bit_at_xor k v i)
      ∙ ap (λ (x : ℕ). max ((bit_at k i + bit_at v i) % 2) x) (bit_at_xor (2 ^ 32 - 1) outer i ∙ ap (λ (x : ℕ). (x + bit_at outer i) % 2) one)))
      ∙ elim (each_bit s w new i i le l) [
        | inl o ↦
            (ap (λ (y : ℕ). min y (max (min (bit_at k i) 1) (max ((bit_at k i + bit_at v i) % 2) ((1 + bit_at outer i) % 2)))) (o.same known (2 ^ w - 1))
            ∙ all_outer (bit_at known i) (bit_at k i) (bit_at v i) (bit_at outer i) 0 (bit_at-lt known i) (bit_at-lt k i) (bit_at-lt v i) o.kept (sym (bit_at_and known k i) ∙ ap (λ (x : ℕ). bit_at x i) e)
            ∙ sym (o.same known (2 ^ w - 1)))
        | inr o ↦
            (ap (λ (y : ℕ). min y (max (min (bit_at k i) 1) (max ((bit_at k i + bit_at v i) % 2) ((1 + bit_at outer i) % 2)))) (o.known known)
            ∙ all_inner (bit_at k i) (bit_at v i) (bit_at outer i) (bit_at-lt k i) (bit_at-lt v i) o.cleared
            ∙ sym (o.known known))
      ]

  full_all : bit_and now_known (2 ^ 32 - 1) ≡ now_known
  full_all = and_ones 32 now_known known_small

  same_bits : (a b : KnownBits) → Some a ≡ Some b → a ≡ b
  same_bits a b e = cc

  by_masks : (unit : Word) (a : KnownBits) → bit_and known a.known ≡ known → bit_and a.value known ≡ value → bitwise binary.And bits_and unit (Plain (Number outer)) ≡ Some (known_word (bits_and a (record { known = 2 ^ 32 - 1; value = outer })).known (bit_and a.value outer)) → IsCleared s w new known value unit
  by_masks unit a all same is = record {
    mask = (bits_and a (record { known = 2 ^ 32 - 1; value = outer })).known;
    bits = bit_and a.value outer;
    is = is;
    all = all_from (bits_and a (record { known = 2 ^ 32 - 1; value = outer })).known (mask_bit a.known a.value all);
    same = same_from a.value same;
  }

  pub clears : (unit : Word) → Covers known value unit → IsCleared s w new known value unit
  clears (Plain (Number n)) c =
      let a = same_bits (record { known = 2 ^ 32 - 1; value = n }) c.bits c.are in
      record {
        mask = 2 ^ 32 - 1;
        bits = bit_and n outer;
        is = refl;
        all = full_all;
        same = same_from n (ap (λ (b : KnownBits). bit_and b.value known) a ∙ c.same);
      }
  clears (Plain (Pointer object offset)) c =
      let a = same_bits (record { known = 0; value = 0 }) c.bits c.are in
      by_masks (Plain (Pointer object offset)) (record { known = 0; value = 0 }) (ap (λ (b : KnownBits). bit_and known b.known) a ∙ c.all) (ap (λ (b : KnownBits). bit_and b.value known) a ∙ c.same) refl
  clears (Plain (Function f)) c =
      let a = same_bits (record { known = 0; value = 0 }) c.bits c.are in
      by_masks (Plain (Function f)) (record { known = 0; value = 0 }) (ap (λ (b : KnownBits). bit_and known b.known) a ∙ c.all) (ap (λ (b : KnownBits). bit_and b.value known) a ∙ c.same) refl
  clears (Label f l) c = absurd (let e = c.are in let never : ⊥ = cc in never)
  clears (Partly mask bits) c =
      let a = same_bits (record { known = mask; value = bits }) c.bits c.are in
      by_masks (Partly mask bits) (record { known = mask; value = bits }) (ap (λ (b : KnownBits). bit_and known b.known) a ∙ c.all) (ap (λ (b : KnownBits). bit_and b.value known) a ∙ c.same) refl

-- ---- the new bits are set

pub record IsSet (known value new : ℕ) (cleared : Word) : Type 0 where
  pub set : Word
  pub is : bitwise binary.Or bits_or cleared (Plain (Number new)) ≡ Some set
  pub covers : Covers known value set

or_all : (known mask rest : ℕ) → known < 2 ^ 32 → bit_and known mask ≡ known → bit_and known (bit_or (bit_and mask (2 ^ 32 - 1)) rest) ≡ known
or_all known mask rest lt e =
    let few = and_le_l known (bit_or (bit_and mask (2 ^ 32 - 1)) rest) in
    same_from_bits_below 32 (bit_and known (bit_or (bit_and mask (2 ^ 32 - 1)) rest)) known (omega (arith, few, lt)) lt
    (λ i l.
    bit_at_and known (bit_or (bit_and mask (2 ^ 32 - 1)) rest) i
    ∙ ap (λ (x : ℕ). min (bit_at known i) x) (bit_at_or (bit_and mask (2 ^ 32 - 1)) rest i ∙ ap (λ (x : ℕ). max x (bit_at rest i)) (bit_at_and mask (2 ^ 32 - 1) i ∙ ap (λ (x : ℕ). min (bit_at mask i) x) (bit_at_ones 32 i l)))
    ∙ still_all (bit_at known i) (bit_at mask i) (bit_at rest i) (bit_at-lt known i) (bit_at-lt mask i) (sym (bit_at_and known mask i) ∙ ap (λ (x : ℕ). bit_at x i) e))

set_by : (t : Bool) (known value new mask bits : ℕ) → (mask == 2 ^ 32 - 1) ≡ t → known < 2 ^ 32 → bit_and known mask ≡ known → bit_and (bit_or bits new) known ≡ value → IsSet known value new (if t then Plain (Number bits) else Partly mask bits)
set_by true known value new mask bits e lt all same = record {
  set = Plain (Number (bit_or bits new));
  is = refl;
  covers = record { bits = record { known = 2 ^ 32 - 1; value = bit_or bits new }; are = refl; all = and_ones 32 known lt; same = same };
}
set_by false known value new mask bits e lt all same = record {
  set = known_word (bit_or (bit_and mask (2 ^ 32 - 1)) (bit_or bits new)) (bit_or bits new);
  is = refl;
  covers = record {
    bits = record { known = bit_or (bit_and mask (2 ^ 32 - 1)) (bit_or bits new); value = bit_or bits new };
    are = bits_known (bit_or (bit_and mask (2 ^ 32 - 1)) (bit_or bits new)) (bit_or bits new);
    all = or_all known mask (bit_or bits new) lt all;
    same = same;
  };
}

pub sets : (known value new mask bits : ℕ) → known < 2 ^ 32 → bit_and known mask ≡ known → bit_and (bit_or bits new) known ≡ value → IsSet known value new (known_word mask bits)
sets known value new mask bits lt all same = set_by (mask == 2 ^ 32 - 1) known value new mask bits refl lt all same

-- ---- the bytes of a unit

pub record CoversNumber (known value mask bits : ℕ) : Type 0 where
  pub all : bit_and known mask ≡ known
  pub same : bit_and bits known ≡ value

high_covers : (known value mask bits : ℕ) → CoversNumber known value mask bits → CoversNumber (known / 256) (value / 256) (mask / 256) (bits / 256)
high_covers known value mask bits h = record {
  all = sym (and_shr known mask 8) ∙ ap (λ (x : ℕ). x / 256) h.all;
  same = sym (and_shr bits known 8) ∙ ap (λ (x : ℕ). x / 256) h.same;
}

low_covers : (map : Map) (known value mask bits : ℕ) → CoversNumber known value mask bits → IsByteOf map (Bits (known % 256) (value % 256)) (Bits (mask % 256) (bits % 256))
low_covers map known value mask bits h = (sym (and_mod known mask 8) ∙ ap (λ (x : ℕ). x % 256) h.all, sym (and_mod bits known 8) ∙ ap (λ (x : ℕ). x % 256) h.same)

full_low : (map : Map) (known value mask bits : ℕ) → CoversNumber known value mask bits → IsByteOf map (Bits (known % 256) (value % 256)) (Bits 255 (bits % 256))
full_low map known value mask bits h = (and_full_byte (known % 256) (mod_below known 256 (omega arith)), (low_covers map known value mask bits h).1)

nothing_bytes : (map : Map) (order : Order) (w : Word) → IsNoLabel w → AreBytesOf map (bytes_of (number_bytes order 4 0) (number_bytes order 4 0)) (part_bytes order w)
nothing_bytes map Big w h = ((refl, refl, h), ((refl, refl, h), ((refl, refl, h), ((refl, refl, h), tt))))
nothing_bytes map Little w h = ((refl, refl, h), ((refl, refl, h), ((refl, refl, h), ((refl, refl, h), tt))))

-- a pointer's or function's, of which C knows nothing
unknown_bytes : (map : Map) (order : Order) (known value : ℕ) (w : Word) → IsNoLabel w → Covers known value w → bits_of w ≡ Some (record { known = 0; value = 0 }) → AreBytesOf map (bytes_of (number_bytes order 4 known) (number_bytes order 4 value)) (part_bytes order w)
unknown_bytes map order known value w h c e =
    let a : record { known = 0; value = 0 } ≡ c.bits = (let f = c.are in cc) in
    let k : 0 ≡ known = sym (and_zero_r known) ∙ ap (λ (b : KnownBits). bit_and known b.known) a ∙ c.all in
    let v : 0 ≡ value = sym (and_zero_l known) ∙ ap (λ (b : KnownBits). bit_and b.value known) a ∙ c.same in
    subst (λ (x : ℕ). AreBytesOf map (bytes_of (number_bytes order 4 x) (number_bytes order 4 value)) (part_bytes order w)) k
    (subst (λ (x : ℕ). AreBytesOf map (bytes_of (number_bytes order 4 0) (number_bytes order 4 x)) (part_bytes order w)) v (nothing_bytes map order w h))

pub unit_bytes : (map : Map) (order : Order) (known value : ℕ) (w : Word) → Covers known value w → AreBytesOf map (bytes_of (number_bytes order 4 known) (number_bytes order 4 value)) (word_bytes order w)
unit_bytes map order known value (Label f l) c = absurd (let e = c.are in let never : ⊥ = cc in never)
unit_bytes map Big known value (Plain (Number n)) c =
    let a : record { known = 2 ^ 32 - 1; value = n } ≡ c.bits = (let e = c.are in cc) in
    let h : CoversNumber known value (2 ^ 32 - 1) n = record { all = ap (λ (b : KnownBits). bit_and known b.known) a ∙ c.all; same = ap (λ (b : KnownBits). bit_and b.value known) a ∙ c.same } in
    let h1 = high_covers known value (2 ^ 32 - 1) n h in
    let h2 = high_covers _ _ _ _ h1 in
    let h3 = high_covers _ _ _ _ h2 in
    (full_low map _ _ _ _ h3, (full_low map _ _ _ _ h2, (full_low map _ _ _ _ h1, (full_low map _ _ _ _ h, tt))))
unit_bytes map Little known value (Plain (Number n)) c =
    let a : record { known = 2 ^ 32 - 1; value = n } ≡ c.bits = (let e = c.are in cc) in
    let h : CoversNumber known value (2 ^ 32 - 1) n = record { all = ap (λ (b : KnownBits). bit_and known b.known) a ∙ c.all; same = ap (λ (b : KnownBits). bit_and b.value known) a ∙ c.same } in
    let h1 = high_covers known value (2 ^ 32 - 1) n h in
    let h2 = high_covers _ _ _ _ h1 in
    let h3 = high_covers _ _ _ _ h2 in
    (full_low map _ _ _ _ h, (full_low map _ _ _ _ h1, (full_low map _ _ _ _ h2, (full_low map _ _ _ _ h3, tt))))
unit_bytes map Big known value (Partly mask bits) c =
    let a : record { known = mask; value = bits } ≡ c.bits = (let e = c.are in cc) in
    let h : CoversNumber known value mask bits = record { all = ap (λ (b : KnownBits). bit_and known b.known) a ∙ c.all; same = ap (λ (b : KnownBits). bit_and b.value known) a ∙ c.same } in
    let h1 = high_covers known value mask bits h in
    let h2 = high_covers _ _ _ _ h1 in
    let h3 = high_covers _ _ _ _ h2 in
    (low_covers map _ _ _ _ h3, (low_covers map _ _ _ _ h2, (low_covers map _ _ _ _ h1, (low_covers map _ _ _ _ h, tt))))
unit_bytes map Little known value (Partly mask bits) c =
    let a : record { known = mask; value = bits } ≡ c.bits = (let e = c.are in cc) in
    let h : CoversNumber known value mask bits = record { all = ap (λ (b : KnownBits). bit_and known b.known) a ∙ c.all; same = ap (λ (b : KnownBits). bit_and b.value known) a ∙ c.same } in
    let h1 = high_covers known value mask bits h in
    let h2 = high_covers _ _ _ _ h1 in
    let h3 = high_covers _ _ _ _ h2 in
    (low_covers map _ _ _ _ h, (low_covers map _ _ _ _ h1, (low_covers map _ _ _ _ h2, (low_covers map _ _ _ _ h3, tt))))
unit_bytes map order known value (Plain (Pointer object offset)) c = unknown_bytes map order known value (Plain (Pointer object offset)) tt c refl
unit_bytes map order known value (Plain (Function f)) c = unknown_bytes map order known value (Plain (Function f)) tt c refl
