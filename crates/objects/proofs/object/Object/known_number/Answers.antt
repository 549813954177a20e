use Rattle.std.proofs.Common.{length, ◌≤◌, ◌+◌, ℕ, take, drop, ap, sym, ◌∙◌, arith, Ok}
use Rattle.objects.specs.declared.value.Value.TheVariants.{Number}
use Rattle.objects.specs.Contents.{bytes_of, parts_of}
use Rattle.objects.specs.Conversions.{as_scalar}
use Rattle.objects.specs.Values.{bytes_in}
use Rattle.objects.proofs.Halves.{size_is, in_front, masked, known_load_in, full_load_in}
use Rattle.objects.proofs.object.Object.known_number.Goals as goal
use Rattle.objects.proofs.object.Object.known_number.Goals.{then-bytes-size-via-then-bytes-size, then-bytes-size-via-else-bytes-size+then-are_full}

pub are_full-requires : goal.are_full-requires
are_full-requires c =
    let len = size_is c.self.inside.made c.self.inside.constant (parts_of c.self.inside.content) c.self.inside.size (bytes_of c.self.inside.content) c.args.self.now c.self.invariant.complete c.self.view_is in
    let many = ap length c.bytes-bytes.ensures in
    let two = masked (length c.bytes-bytes.result.now) c.self.inside.size (bytes_of c.self.inside.content) c.self.invariant.complete (ap length c.bytes-bytes.ensures) c.if-bytes-size.false in
    omega (arith, len, many, two)

pub number_at-n-requires : goal.number_at-n-requires
number_at-n-requires c =
    let len = size_is c.self.inside.made c.self.inside.constant (parts_of c.self.inside.content) c.self.inside.size (bytes_of c.self.inside.content) c.args.self.now c.self.invariant.complete c.self.view_is in
    let many = ap length c.bytes-bytes.ensures in
    omega (arith, len, many, in_front c.self.inside.size (bytes_of c.self.inside.content) c.self.invariant.complete)

pub returns-then-bytes-size : goal.returns-then-bytes-size
returns-then-bytes-size c =
    let len = size_is c.self.inside.made c.self.inside.constant (parts_of c.self.inside.content) c.self.inside.size (bytes_of c.self.inside.content) c.args.self.now c.self.invariant.complete c.self.view_is in
    let many = ap length c.bytes-bytes.ensures in
    let width = bytes_in c.args.scalar.width in
    let part = take width (drop c.args.place c.bytes-bytes.result.now) in
    let held = ap (λ xs. take width (drop c.args.place xs)) c.bytes-bytes.ensures in
    let inside : c.args.place + width ≤ c.self.inside.size = omega (arith, len, c.requires) in
    sym
    (ap (λ (n : ℕ). Ok (Number n)) (c.to_scalar.ensures ∙ ap (λ (n : ℕ). as_scalar c.args.scalar n) c.number_at-n.ensures)
    ∙ elim c.then-bytes-size.branch [
      | then-bytes-size-via-then-bytes-size w ↦ known_load_in c.args.order c.args.scalar c.self.inside.made c.self.inside.constant (parts_of c.self.inside.content) c.self.inside.size (bytes_of c.self.inside.content) part c.args.self.now c.args.place width c.self.view_is (omega (arith, w.if-bytes-size.true, many)) inside held
      | then-bytes-size-via-else-bytes-size+then-are_full w ↦
          let two = masked (length c.bytes-bytes.result.now) c.self.inside.size (bytes_of c.self.inside.content) c.self.invariant.complete (ap length c.bytes-bytes.ensures) w.if-bytes-size.false in
          let full = ap (λ xs. take width (drop (c.self.inside.size + c.args.place) xs)) (sym c.bytes-bytes.ensures) ∙ w.are_full.ensures w.if-are_full.true in
          full_load_in c.args.order c.args.scalar c.self.inside.made c.self.inside.constant (parts_of c.self.inside.content) c.self.inside.size (bytes_of c.self.inside.content) part c.args.self.now c.args.place width c.self.view_is two inside full held
    ])
