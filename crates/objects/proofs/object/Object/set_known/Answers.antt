use Rattle.std.proofs.Common.{ap, ◌∙◌, arith, refl}
use Rattle.objects.specs.Contents.{bytes_of, parts_of}
use Rattle.objects.proofs.Halves.{size_is, seen_in, in_front, masked, known_changed_in, masked_changed_in, same_parts}
use Rattle.objects.proofs.object.Object.set_known.Goals as goal

pub set-requires : goal.set-requires
set-requires c =
    let len = size_is c.self.inside.made c.self.inside.constant (parts_of c.self.inside.content) c.self.inside.size (bytes_of c.self.inside.content) c.args.self.now c.self.invariant.complete c.self.view_is in
    omega (arith, len, in_front c.self.inside.size (bytes_of c.self.inside.content) c.self.invariant.complete)

pub returns-then-count-size : goal.returns-then-count-size
returns-then-count-size c =
    let p = parts_of c.self.inside.content in
    let q = parts_of c.set.new.self in
    let len = size_is c.self.inside.made c.self.inside.constant p c.self.inside.size (bytes_of c.self.inside.content) c.args.self.now c.self.invariant.complete c.self.view_is in
    let before = same_parts c.self.inside.made c.self.inside.constant p q c.self.inside.size (bytes_of c.self.inside.content) c.args.self.now c.self.view_is c.set.ensures.parts in
    ap (λ xs. seen_in c.self.inside.made c.self.inside.constant q c.self.inside.size xs) c.set.ensures.bytes
    ∙ known_changed_in c.self.inside.made c.self.inside.constant q c.self.inside.size (bytes_of c.self.inside.content) c.args.self.now c.args.at c.args.value before (omega (arith, c.if-count-size.true, c.count.ensures)) (omega (arith, len))

pub set_masked-requires-clause-there : goal.set_masked-requires-clause-there
set_masked-requires-clause-there c =
    let len = size_is c.self.inside.made c.self.inside.constant (parts_of c.self.inside.content) c.self.inside.size (bytes_of c.self.inside.content) c.args.self.now c.self.invariant.complete c.self.view_is in
    omega (arith, len)

pub set_masked-requires-clause-masked : goal.set_masked-requires-clause-masked
set_masked-requires-clause-masked c = masked c.count.result c.self.inside.size (bytes_of c.self.inside.content) c.self.invariant.complete c.count.ensures (omega (arith, c.if-count-size.false))

pub returns-else-count-size : goal.returns-else-count-size
returns-else-count-size c =
    let p = parts_of c.self.inside.content in
    let q = parts_of c.set_masked.new.self in
    let len = size_is c.self.inside.made c.self.inside.constant p c.self.inside.size (bytes_of c.self.inside.content) c.args.self.now c.self.invariant.complete c.self.view_is in
    let two = masked c.count.result c.self.inside.size (bytes_of c.self.inside.content) c.self.invariant.complete c.count.ensures (omega (arith, c.if-count-size.false)) in
    masked_changed_in c.self.inside.made c.self.inside.constant p q c.self.inside.size (bytes_of c.self.inside.content) (bytes_of c.set_masked.new.self) c.args.self.now c.args.at 255 c.args.value _ c.self.view_is two (omega (arith, len)) c.set_masked.ensures.values c.set_masked.ensures.masks (λ j ne. ap (λ r. r j) c.set_masked.ensures.parts) refl
