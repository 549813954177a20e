use Rattle.std.proofs.Common.{length, get_or, ◌+◌, ap, arith}
use Rattle.objects.specs.Contents.{bytes_of, parts_of}
use Rattle.objects.proofs.Halves.{size_is, in_front, masked, known_byte_in, masked_byte_in}
use Rattle.objects.proofs.object.Object.byte_at.Goals as goal

pub bounds-bytes-at : goal.bounds-bytes-at
bounds-bytes-at c =
    let len = size_is c.self.inside.made c.self.inside.constant (parts_of c.self.inside.content) c.self.inside.size (bytes_of c.self.inside.content) c.args.self.now c.self.invariant.complete c.self.view_is in
    let many = ap length c.bytes-bytes.ensures in
    omega (arith, len, many, in_front c.self.inside.size (bytes_of c.self.inside.content) c.self.invariant.complete)

pub bounds-bytes-size : goal.bounds-bytes-size
bounds-bytes-size c =
    let len = size_is c.self.inside.made c.self.inside.constant (parts_of c.self.inside.content) c.self.inside.size (bytes_of c.self.inside.content) c.args.self.now c.self.invariant.complete c.self.view_is in
    let many = ap length c.bytes-bytes.ensures in
    let two = masked (length c.bytes-bytes.result.now) c.self.inside.size (bytes_of c.self.inside.content) c.self.invariant.complete (ap length c.bytes-bytes.ensures) c.if-bytes-size.false in
    omega (arith, len, many, two)

pub returns-then-bytes-size : goal.returns-then-bytes-size
returns-then-bytes-size c =
    let len = size_is c.self.inside.made c.self.inside.constant (parts_of c.self.inside.content) c.self.inside.size (bytes_of c.self.inside.content) c.args.self.now c.self.invariant.complete c.self.view_is in
    let many = ap length c.bytes-bytes.ensures in
    known_byte_in c.self.inside.made c.self.inside.constant (parts_of c.self.inside.content) c.self.inside.size (bytes_of c.self.inside.content) c.args.self.now c.args.at (get_or c.bytes-bytes.result.now c.args.at 0) c.self.view_is (omega (arith, many, c.if-bytes-size.true)) (omega (arith, len)) (ap (λ xs. get_or xs c.args.at 0) c.bytes-bytes.ensures)

pub returns-else-bytes-size : goal.returns-else-bytes-size
returns-else-bytes-size c =
    let len = size_is c.self.inside.made c.self.inside.constant (parts_of c.self.inside.content) c.self.inside.size (bytes_of c.self.inside.content) c.args.self.now c.self.invariant.complete c.self.view_is in
    let two = masked (length c.bytes-bytes.result.now) c.self.inside.size (bytes_of c.self.inside.content) c.self.invariant.complete (ap length c.bytes-bytes.ensures) c.if-bytes-size.false in
    let mask_at = c.self.inside.size + c.args.at in
    masked_byte_in c.self.inside.made c.self.inside.constant (parts_of c.self.inside.content) c.self.inside.size (bytes_of c.self.inside.content) c.args.self.now c.args.at (get_or c.bytes-bytes.result.now mask_at 0) (get_or c.bytes-bytes.result.now c.args.at 0) c.shown.result c.self.view_is two (omega (arith, len)) (ap (λ xs. get_or xs mask_at 0) c.bytes-bytes.ensures) (ap (λ xs. get_or xs c.args.at 0) c.bytes-bytes.ensures) c.shown.ensures

pub overflow_cast-at : goal.overflow_cast-at
overflow_cast-at c =
    let len = size_is c.self.inside.made c.self.inside.constant (parts_of c.self.inside.content) c.self.inside.size (bytes_of c.self.inside.content) c.args.self.now c.self.invariant.complete c.self.view_is in
    omega (arith, len, c.self.invariant.small)

pub overflow_add-size : goal.overflow_add-size
overflow_add-size c =
    let len = size_is c.self.inside.made c.self.inside.constant (parts_of c.self.inside.content) c.self.inside.size (bytes_of c.self.inside.content) c.args.self.now c.self.invariant.complete c.self.view_is in
    omega (arith, len, c.self.invariant.small)
