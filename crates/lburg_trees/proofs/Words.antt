-- Bytes as one number.
use Rattle.std.proofs.Common.{◌≡◌, ◌≤◌, ◌<◌, ◌+◌, ◌*◌, ◌-◌, ◌^◌, ◌%◌, ℕ, zero, suc, List, [], ◌∷◌, ◌++◌, length, take, drop, slice_index_or, refl, sym, ap, subst, ◌∙◌, arith, bit_and, true}
use Rattle.std.proofs.Math.Nat.{pow-le-pow_right, pow-succ', mul_assoc, add-mul-mod_self_left, mod-eq_of_lt}
use Rattle.std.proofs.lemmas.List.{take-append-drop, take-append-le, length-take-le}
use Rattle.std.proofs.lemmas.Nat.{and_mask, pow-add}
use Rattle.std.proofs.lemmas.Bool.Decides.{nat_tests}
use Rattle.lcc_text.specs.declared.class.Class.TheVariants.{Name}
use Rattle.lcc_text.specs.Classes.{in_class, AllIn}
use Rattle.lburg_trees.specs.Words.{AreBytes, word_of, IsWord}

-- so many bytes have less than this many bits
pub few_bits : (n : ℕ) → n ≤ 7 → 256 ^ n ≤ 256 ^ 7
few_bits n h = pow-le-pow_right (omega arith) h

pub word_small : (bs : List ℕ) → AreBytes bs → word_of bs < 256 ^ length bs
word_small [] h = omega arith
word_small (b ∷ bs) h =
    let k = word_small bs h.1 in
    let e : 256 ^ suc (length bs) ≡ 256 * 256 ^ length bs = pow-succ' 256 (length bs) in
    let l = h.0 in
    omega arith

pub word_append : (xs ys : List ℕ) → word_of (xs ++ ys) ≡ word_of xs + 256 ^ length xs * word_of ys
word_append [] ys = omega arith
word_append (b ∷ xs) ys =
    let k = word_append xs ys in
    let e : 256 ^ suc (length xs) * word_of ys ≡ 256 * 256 ^ length xs * word_of ys = ap (λ (z : ℕ). z * word_of ys) (pow-succ' 256 (length xs)) in
    let f : 256 * 256 ^ length xs * word_of ys ≡ 256 * (256 ^ length xs * word_of ys) = mul_assoc 256 (256 ^ length xs) (word_of ys) in
    omega arith

-- bytes of one length have numbers of their own
pub word_one : (xs ys : List ℕ) → AreBytes xs → AreBytes ys → length xs ≡ length ys → word_of xs ≡ word_of ys → xs ≡ ys
word_one [] [] h k l e = refl
word_one [] (b ∷ ys) h k l e = absurd (omega arith)
word_one (b ∷ xs) [] h k l e = absurd (omega arith)
word_one (b ∷ xs) (c ∷ ys) h k l e =
    let p = h.0 in
    let q = k.0 in
    let same : b ≡ c = omega arith in
    let tail = word_one xs ys h.1 k.1 (omega arith) (omega arith) in
    cc

bytes_front : (n : ℕ) (bs : List ℕ) → AreBytes bs → AreBytes (take n bs)
bytes_front zero [] h = tt
bytes_front zero (b ∷ bs) h = tt
bytes_front (suc n) [] h = tt
bytes_front (suc n) (b ∷ bs) h = (h.0, bytes_front n bs h.1)

-- the bytes of a name
name_byte : (b : ℕ) → in_class Name b ≡ true → b < 256
name_byte b h = grind (arith, nat_tests)

pub name_bytes : (name : List ℕ) → AllIn (in_class Name) name → AreBytes name
name_bytes [] h = tt
name_bytes (b ∷ name) h = (name_byte b h.0, name_bytes name h.1)

-- the bits of so many bytes
bits_of : (n : ℕ) → 2 ^ (8 * n) ≡ 256 ^ n
bits_of zero = refl
bits_of (suc n) =
    let k = bits_of n in
    let e : 8 * suc n ≡ 8 + 8 * n = omega arith in
    let f : 2 ^ (8 + 8 * n) ≡ 256 * 2 ^ (8 * n) = pow-add 2 8 (8 * n) in
    let g : 256 ^ suc n ≡ 256 * 256 ^ n = pow-succ' 256 n in
    ap (λ (z : ℕ). 2 ^ z) e ∙ f ∙ ap (λ (z : ℕ). 256 * z) k ∙ sym g

-- a word's first bytes
front_word : (n : ℕ) (bs : List ℕ) → AreBytes bs → n ≤ length bs → word_of bs % 256 ^ n ≡ word_of (take n bs)
front_word n bs h l =
    let front = take n bs in
    let long : length front ≡ n = length-take-le n bs l in
    let e : word_of bs ≡ word_of front + 256 ^ length front * word_of (drop n bs) = ap word_of (sym (take-append-drop n bs)) ∙ word_append front (drop n bs) in
    let small = word_small front (bytes_front n bs h) in
    ap (λ (z : ℕ). z % 256 ^ n) (e ∙ ap (λ (z : ℕ). word_of front + 256 ^ z * word_of (drop n bs)) long)
    ∙ add-mul-mod_self_left (word_of front) (256 ^ n) (word_of (drop n bs))
    ∙ mod-eq_of_lt (subst (λ (z : ℕ). word_of front < 256 ^ z) long small)

-- The name's bytes stand at the front of a word's.
pub name_front : (bytes name : List ℕ) (word mask : ℕ) → IsWord bytes word → AllIn (in_class Name) name → length name < 8 → mask ≡ 2 ^ (8 * length name) - 1 → bit_and word mask ≡ word_of name → bytes ≡ name ++ drop (length name) bytes
name_front bytes name word mask w h l m e =
    let n = length name in
    let many = w.many in
    let within : n ≤ length w.front = omega arith in
    let a : bit_and word mask ≡ word % 2 ^ (8 * n) = ap (λ (z : ℕ). bit_and word z) m ∙ and_mask word (8 * n) in
    let b : word % 2 ^ (8 * n) ≡ word_of w.front % 256 ^ n = ap (λ (z : ℕ). z % 2 ^ (8 * n)) w.word_is ∙ ap (λ (z : ℕ). word_of w.front % z) (bits_of n) in
    let same = sym (front_word n w.front w.are within) ∙ sym b ∙ sym a ∙ e in
    let long : length (take n w.front) ≡ n = length-take-le n w.front within in
    let f : take n w.front ≡ name = word_one (take n w.front) name (bytes_front n w.front w.are) (name_bytes name h) long same in
    let g : take n bytes ≡ name = ap (λ (z : List ℕ). take n z) w.parts ∙ take-append-le n w.front w.rest within ∙ f in
    sym (take-append-drop n bytes) ∙ ap (λ (z : List ℕ). z ++ drop n bytes) g

-- the first eight bytes
pub eight_bytes : (bytes : List ℕ) (word : ℕ) → 8 ≤ length bytes → ((i : ℕ) → slice_index_or bytes i 0 < 256) → word ≡ slice_index_or bytes 0 0 + slice_index_or bytes 1 0 * 256 + slice_index_or bytes 2 0 * 65536 + slice_index_or bytes 3 0 * 16777216 + slice_index_or bytes 4 0 * 4294967296 + slice_index_or bytes 5 0 * 1099511627776 + slice_index_or bytes 6 0 * 281474976710656 + slice_index_or bytes 7 0 * 72057594037927936 → IsWord bytes word
eight_bytes (a ∷ b ∷ c ∷ d ∷ e ∷ f ∷ g ∷ h ∷ rest) word l small is = record {
  front = a ∷ b ∷ c ∷ d ∷ e ∷ f ∷ g ∷ h ∷ [];
  rest = rest;
  parts = refl;
  many = refl;
  are = (small 0, (small 1, (small 2, (small 3, (small 4, (small 5, (small 6, (small 7, tt))))))));
  word_is = omega arith;
}
eight_bytes bytes word l small is = absurd (omega arith)
