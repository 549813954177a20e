use Rattle.std.proofs.Common.{arith, ℕ, ◌≤◌, ◌<◌, ◌^◌, ◌-◌, List, length, take, drop}
use Rattle.std.proofs.lemmas.List.{length-take}
use Rattle.lburg_trees.proofs.Words.{few_bits}
use Rattle.lburg_trees.proofs.known.+word_of.Goals as goal

-- what stands behind the first of eight bytes at most
rest_small : (bytes : List ℕ) (w : ℕ) → length bytes ≤ 8 → 1 ≤ length bytes → w < 256 ^ length (take (length bytes - 1) (drop 1 bytes)) → w < 256 ^ 7
rest_small bytes w h k l =
    let rest = take (length bytes - 1) (drop 1 bytes) in
    let few : 256 ^ length rest ≤ 256 ^ 7 = few_bits (length rest) (omega (arith, length-take (length bytes - 1) (drop 1 bytes))) in
    omega arith

pub overflow_mul-result : goal.overflow_mul-result
overflow_mul-result t c =
    let small = rest_small c.args.bytes.now c.word_of.result c.requires c.in-len1-up.len_at_least c.word_of.ensures.bound in
    omega arith

pub overflow_add-result : goal.overflow_add-result
overflow_add-result t c =
    let small = rest_small c.args.bytes.now c.word_of.result c.requires c.in-len1-up.len_at_least c.word_of.ensures.bound in
    let byte = c.type_inv.bytes 0 in
    let is = c.from.ensures in
    omega arith
