use Rattle.std.proofs.Common.{length, ap, ◌∙◌, arith, inl}
use Rattle.objects.proofs.lemmas.ByteLaws.{length-overwritten}
use Rattle.objects.specs.Contents.{bytes_of, parts_of}
use Rattle.objects.proofs.Halves.{size_is, in_front, masked, all_known_in, all_masked_in, whole_in, same_parts}
use Rattle.objects.proofs.object.Object.put_known.Goals as goal

pub paste-requires : goal.paste-requires
paste-requires c =
    let len = size_is c.self.inside.made c.self.inside.constant (parts_of c.self.inside.content) c.self.inside.size (bytes_of c.self.inside.content) c.args.self.now c.self.invariant.complete c.self.view_is in
    omega (arith, len, in_front c.self.inside.size (bytes_of c.self.inside.content) c.self.invariant.complete)

pub returns-then-count-size : goal.returns-then-count-size
returns-then-count-size c =
    let p = parts_of c.self.inside.content in
    let q = parts_of c.paste.new.self in
    let before = same_parts c.self.inside.made c.self.inside.constant p q c.self.inside.size (bytes_of c.self.inside.content) c.args.self.now c.self.view_is c.paste.ensures.parts in
    all_known_in c.self.inside.made c.self.inside.constant q c.self.inside.size (bytes_of c.self.inside.content) (bytes_of c.paste.new.self) c.args.self.now c.args.place c.args.bytes.now before (omega (arith, c.if-count-size.true, c.count.ensures)) c.paste.ensures.bytes

pub invariant_of-self : goal.invariant_of-self
invariant_of-self c =
    let as_many = ap length c.paste.ensures.bytes ∙ length-overwritten c.args.place c.args.bytes.now (bytes_of c.self.inside.content) in
    record { complete = inl (omega (arith, as_many, c.if-count-size.true, c.count.ensures)); small = c.self.invariant.small }

pub replace-requires : goal.replace-requires
replace-requires c =
    omega (arith, c.if-bytes-size.true, in_front c.self.inside.size (bytes_of c.self.inside.content) c.self.invariant.complete)

pub returns-then-bytes-size : goal.returns-then-bytes-size
returns-then-bytes-size c =
    let front = in_front c.self.inside.size (bytes_of c.self.inside.content) c.self.invariant.complete in
    whole_in c.self.inside.made c.self.inside.constant (parts_of c.self.inside.content) (parts_of c.replace.new.self) c.self.inside.size (bytes_of c.self.inside.content) (bytes_of c.replace.new.self) c.args.self.now c.args.place c.args.bytes.now c.self.view_is c.requires front (omega (arith, c.if-bytes-size.true)) c.replace.ensures

pub invariant_of-self-then-bytes-size : goal.invariant_of-self-then-bytes-size
invariant_of-self-then-bytes-size c =
    let as_many = ap length c.replace.ensures in
    record { complete = inl (omega (arith, as_many, c.if-bytes-size.true)); small = c.self.invariant.small }

pub paste_masked-requires-clause-inside : goal.paste_masked-requires-clause-inside
paste_masked-requires-clause-inside c =
    let len = size_is c.self.inside.made c.self.inside.constant (parts_of c.self.inside.content) c.self.inside.size (bytes_of c.self.inside.content) c.args.self.now c.self.invariant.complete c.self.view_is in
    omega (arith, len, c.requires)

pub paste_masked-requires-clause-masked : goal.paste_masked-requires-clause-masked
paste_masked-requires-clause-masked c = masked c.count.result c.self.inside.size (bytes_of c.self.inside.content) c.self.invariant.complete c.count.ensures (omega (arith, c.if-count-size.false))

pub returns-else-bytes-size : goal.returns-else-bytes-size
returns-else-bytes-size c =
    let p = parts_of c.self.inside.content in
    let q = parts_of c.paste_masked.new.self in
    let two = masked c.count.result c.self.inside.size (bytes_of c.self.inside.content) c.self.invariant.complete c.count.ensures (omega (arith, c.if-count-size.false)) in
    let before = same_parts c.self.inside.made c.self.inside.constant p q c.self.inside.size (bytes_of c.self.inside.content) c.args.self.now c.self.view_is c.paste_masked.ensures.parts in
    all_masked_in c.self.inside.made c.self.inside.constant q c.self.inside.size (bytes_of c.self.inside.content) (bytes_of c.paste_masked.new.self) c.args.self.now c.args.place c.args.bytes.now before two c.paste_masked.ensures.values c.paste_masked.ensures.masks
