use Rattle.std.proofs.Common.{◌≡◌, ◌+◌, take}
use Rattle.lowering_limits.specs.Sizes.{text_bytes}
use Rattle.lowering_limits.proofs.bytes.of_texts.Given as goal

abbrev pub invariant-loop-text : goal.invariant-loop-text
invariant-loop-text l = l.count ≡ l.fn.before + text_bytes (take l.text-index l.texts)
