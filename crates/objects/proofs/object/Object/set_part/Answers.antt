use Rattle.std.proofs.Common.{length, ap, ◌∙◌, arith}
use Rattle.objects.specs.Contents.{bytes_of, parts_of}
use Rattle.objects.proofs.Holding.{on_err, shown_part}
use Rattle.objects.proofs.Halves.{size_is, seen_in, masked_changed_in, completed_in, completed_long, unchanged_in}
use Rattle.objects.proofs.object.Object.set_part.Goals as goal

pub returns-in_err-complete-clause-err : goal.returns-in_err-complete-clause-err
returns-in_err-complete-clause-err c =
    on_err c.from_residual.result _ (unchanged_in c.self.inside.made c.self.inside.constant (parts_of c.self.inside.content) (parts_of c.complete.new.self) c.self.inside.size (bytes_of c.self.inside.content) (bytes_of c.complete.new.self) c.args.self.now c.self.view_is c.in_err-complete.ensures.err c.in_err-complete.ensures.parts)

pub returns-in_err-insert_part-clause-err : goal.returns-in_err-insert_part-clause-err
returns-in_err-insert_part-clause-err c =
    let whole = completed_in c.self.inside.made c.self.inside.constant (parts_of c.self.inside.content) c.self.inside.size (bytes_of c.self.inside.content) (bytes_of c.complete.new.self) c.args.self.now c.self.view_is c.in_ok-complete.ensures.ok in
    on_err c.from_residual-in_err-insert_part.result _ (unchanged_in c.self.inside.made c.self.inside.constant (parts_of c.self.inside.content) (parts_of c.insert_part.new.self) c.self.inside.size (bytes_of c.complete.new.self) (bytes_of c.insert_part.new.self) c.args.self.now whole c.in_err-insert_part.ensures.bytes (λ j. c.in_err-insert_part.ensures.err j ∙ c.in_ok-complete.ensures.parts j))

pub set_masked-requires-clause-there : goal.set_masked-requires-clause-there
set_masked-requires-clause-there c =
    let len = size_is c.self.inside.made c.self.inside.constant (parts_of c.self.inside.content) c.self.inside.size (bytes_of c.self.inside.content) c.args.self.now c.self.invariant.complete c.self.view_is in
    omega (arith, len)

pub set_masked-requires-clause-masked : goal.set_masked-requires-clause-masked
set_masked-requires-clause-masked c = ap length c.in_ok-insert_part.ensures.bytes ∙ completed_long c.self.inside.size (bytes_of c.self.inside.content) (bytes_of c.complete.new.self) c.self.invariant.complete c.in_ok-complete.ensures.ok

pub returns-clause-ok : goal.returns-clause-ok
returns-clause-ok c =
    let m = c.self.inside.made in
    let k = c.self.inside.constant in
    let p = parts_of c.self.inside.content in
    let q = parts_of c.set_masked.new.self in
    let n = c.self.inside.size in
    let more = bytes_of c.insert_part.new.self in
    let len = size_is m k p n (bytes_of c.self.inside.content) c.args.self.now c.self.invariant.complete c.self.view_is in
    let masks = c.in_ok-complete.ensures.ok in
    let all = ap length c.in_ok-insert_part.ensures.bytes ∙ completed_long n (bytes_of c.self.inside.content) (bytes_of c.complete.new.self) c.self.invariant.complete masks in
    let whole = ap (λ xs. seen_in m k p n xs) c.in_ok-insert_part.ensures.bytes ∙ completed_in m k p n (bytes_of c.self.inside.content) (bytes_of c.complete.new.self) c.args.self.now c.self.view_is masks in
    masked_changed_in m k p q n more (bytes_of c.set_masked.new.self) c.args.self.now c.args.at 0 0 _ whole all (omega (arith, len)) c.set_masked.ensures.values c.set_masked.ensures.masks (λ j ne. ap (λ r. r j) c.set_masked.ensures.parts ∙ c.in_ok-insert_part.ensures.others j ne ∙ c.in_ok-complete.ensures.parts j) (shown_part (q c.args.at) c.args.part (ap (λ r. r c.args.at) c.set_masked.ensures.parts ∙ c.in_ok-insert_part.ensures.there))

pub overflow_cast-at : goal.overflow_cast-at
overflow_cast-at c =
    let len = size_is c.self.inside.made c.self.inside.constant (parts_of c.self.inside.content) c.self.inside.size (bytes_of c.self.inside.content) c.args.self.now c.self.invariant.complete c.self.view_is in
    omega (arith, len, c.self.invariant.small)
