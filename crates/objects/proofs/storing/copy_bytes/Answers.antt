use Rattle.std.proofs.Common.{◌+◌, take, drop, slice_get, refl, sym, arith}
use Rattle.objects.specs.Objects.{contents}
use Rattle.objects.proofs.Puts.{stored_nothing, stored_step, object_stored, next_byte, as_long, as_large, taken_length}
use Rattle.objects.proofs.storing.copy_bytes.Goals as goal

pub loop-k-init : goal.loop-k-init
loop-k-init c = sym (stored_nothing c.args.objects.now.items c.args.to.object c.args.to.offset)

pub byte-byte-requires : goal.byte-byte-requires
byte-byte-requires c =
    let bytes = take c.args.size (drop c.args.from.offset (contents (slice_get c.args.objects.now.items c.args.from.object))) in
    let long = as_long c.args.objects.now.items c.loop-k.objects.items c.args.to.object c.args.to.offset (take c.loop-k.k bytes) c.loop-k.invariant in
    let large = as_large c.args.objects.now.items c.loop-k.objects.items c.args.to.object c.args.to.offset (take c.loop-k.k bytes) c.args.from.object c.index.result.now c.loop-k.invariant (omega (arith, long, c.requires.source)) c.index.ensures in
    omega (arith, large, c.requires.read)

pub set-requires : goal.set-requires
set-requires c =
    let bytes = take c.args.size (drop c.args.from.offset (contents (slice_get c.args.objects.now.items c.args.from.object))) in
    let long = as_long c.args.objects.now.items c.loop-k.objects.items c.args.to.object c.args.to.offset (take c.loop-k.k bytes) c.loop-k.invariant in
    let large = as_large c.args.objects.now.items c.loop-k.objects.items c.args.to.object c.args.to.offset (take c.loop-k.k bytes) c.args.to.object c.index_mut.result.now c.loop-k.invariant (omega (arith, long, c.requires.target)) c.index_mut.ensures.value in
    omega (arith, large, c.requires.inside)

pub loop-k-preserved : goal.loop-k-preserved
loop-k-preserved c =
    let objects = c.args.objects.now.items in
    let now = c.loop-k.objects.items in
    let bytes = take c.args.size (drop c.args.from.offset (contents (slice_get objects c.args.from.object))) in
    let long = as_long objects now c.args.to.object c.args.to.offset (take c.loop-k.k bytes) c.loop-k.invariant in
    let count = taken_length c.args.size c.args.from.offset (contents (slice_get objects c.args.from.object)) c.requires.read in
    let byte = next_byte objects now c.args.from.object c.args.from.offset c.args.to.object c.args.to.offset c.args.size c.loop-k.k (c.args.from.offset + c.loop-k.k) c.index.result.now c.byte-byte.result c.loop-k.invariant c.requires.read c.requires.apart c.loop-k-test.true refl (omega (arith, long, c.requires.source)) c.index.ensures c.byte-byte.ensures in
    let changed = object_stored now c.args.to.object (c.args.to.offset + c.loop-k.k) _ c.index_mut.result.now c.set.new.self (omega (arith, long, c.requires.target)) c.index_mut.ensures.value c.in_ok-set.ensures.ok in
    stored_step objects now _ c.args.to.object c.args.to.offset (c.args.to.offset + c.loop-k.k) c.loop-k.k (c.loop-k.k + 1) bytes c.byte-byte.result c.loop-k.invariant changed (omega (arith, count, c.requires.inside)) (omega (arith, count, c.loop-k-test.true)) refl (omega arith) byte
