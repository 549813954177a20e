use Rattle.std.proofs.Common.{◌≡◌, ◌<◌, ◌+◌, ◌∷◌, List, Bool, ℕ, true, length, drop, get_or, sym, ap, subst, ◌∙◌}
use Rattle.std.specs.Prelude.{◌≢◌}
use Rattle.std.proofs.lemmas.List.{drop_more}
use Rattle.c_types.specs.declared.extent.Extent.{Extent}
use Rattle.c_types.specs.declared.layout.Laying.{Laying}
use Rattle.c_types.specs.declared.type_fault.TypeFault.TheVariants as fault
use Rattle.c_types.specs.declared.type_form.Member.{Member}
use Rattle.c_types.specs.Layout.{structure_extent}
use Rattle.c_types.specs.Table.{Table, extent_at, fields_at, is_above}
use Rattle.c_types.proofs.Below.{member_below}
use Rattle.c_types.proofs.Laid.{IsLaying, handed_on, none_laid, one_laid, too_large}
use Rattle.c_types.proofs.type_table.TypeTable.lay.Goals as goal

-- the next member is laid over the extent of its type
next : (t : Table) (l : Laying) (kind : Bool) (ms : List Member) (i : ℕ) (m : Member) (e : Extent) → i < length ms → m ≡ get_or ms i m → e ≡ extent_at t m.of →
    IsLaying l kind (fields_at t (drop i ms)) (fields_at t ms) (drop i ms) ms → IsLaying l kind (record { extent = e; width = m.width } ∷ fields_at t (drop (i + 1) ms)) (fields_at t ms) (m ∷ drop (i + 1) ms) ms
next t l kind ms i m e w g x h =
    let d : drop i ms ≡ m ∷ drop (i + 1) ms = drop_more ms i m w ∙ ap (λ (n : Member). n ∷ drop (i + 1) ms) (sym g) in
    subst (λ (z : Extent). IsLaying l kind (record { extent = z; width = m.width } ∷ fields_at t (drop (i + 1) ms)) (fields_at t ms) (m ∷ drop (i + 1) ms) ms) (sym x)
    (subst (λ (xs : List Member). IsLaying l kind (fields_at t xs) (fields_at t ms) xs ms) d h)

pub loop-member-init : goal.loop-member-init
loop-member-init c =
    let n = c.new-laying.ensures in
    none_laid c.new-laying.result c.args.is_union (fields_at c.args.self.now c.args.members.now) c.args.members.now n.union n.room n.align n.nesting n.places n.named c.requires.bounded

pub extent-requires : goal.extent-requires
extent-requires c =
    let ms = c.args.members.now in
    subst (λ (m : Member). m.of < length c.args.self.now.forms) (sym c.member-item.is) (member_below (length c.args.self.now.forms) ms c.loop-member.member-index c.member-item.result c.requires.members c.loop-member-test.true)

pub returns-in_err-lay-clause-err : goal.returns-in_err-lay-clause-err
returns-in_err-lay-clause-err c =
    let t = c.args.self.now in
    let ms = c.args.members.now in
    let l = c.loop-member.laying in
    let i = c.loop-member.member-index in
    let m = c.member-item.result in
    let h = next t l c.args.is_union ms i m c.extent.result c.loop-member-test.true c.member-item.is c.extent.ensures.is c.loop-member.invariant in
    handed_on c.from_residual.result c.in_err-lay.field-0.0 (λ e. e ≢ fault.Memory → (e ≡ fault.TooLarge) × (is_above (structure_extent c.args.is_union (fields_at t ms)).size ≡ true)) c.from_residual.ensures.1 (λ n.
    (let x = c.in_err-lay.ensures.err n in (x.0, too_large l c.args.is_union c.extent.result (fields_at t (drop (i + 1) ms)) (fields_at t ms) m (drop (i + 1) ms) ms h x.1)))

pub loop-member-preserved : goal.loop-member-preserved
loop-member-preserved c =
    let t = c.args.self.now in
    let ms = c.args.members.now in
    let l = c.loop-member.laying in
    let i = c.loop-member.member-index in
    let m = c.member-item.result in
    let h = next t l c.args.is_union ms i m c.extent.result c.loop-member-test.true c.member-item.is c.extent.ensures.is c.loop-member.invariant in
    let n = c.in_ok-lay.ensures in
    one_laid l c.lay.new.self c.args.is_union c.extent.result (fields_at t (drop (i + 1) ms)) (fields_at t ms) m (drop (i + 1) ms) ms h n.union n.room n.bytes n.align n.nesting n.places n.named
