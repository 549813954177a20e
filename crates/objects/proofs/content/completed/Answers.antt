use Rattle.std.proofs.Common.{ℕ, ◌*◌, ap, ◌∙◌, arith}
use Rattle.objects.specs.Contents.{bytes_of}
use Rattle.objects.specs.Objects.{overwritten}
use Rattle.objects.proofs.Halves.{masks_made}
use Rattle.objects.proofs.content.completed.Goals as goal

pub returns-clause-bytes : goal.returns-clause-bytes
returns-clause-bytes c =
    let count : ℕ = 2 * c.args.size in
    masks_made c.args.size count c.args.few.now (bytes_of c.in_ok-more.more) (bytes_of c.paste.new.self) c.requires.all (omega arith) c.in_ok-more.ensures.bytes (c.paste.ensures.bytes ∙ ap (λ xs. overwritten 0 xs (bytes_of c.in_ok-more.more)) c.as_slice.ensures)
