use Rattle.std.proofs.Common.{◌≡◌, ◌-◌, suc, Some, IsTrue, slice_get, nat_eq, refl, subst, arith}
use Rattle.std.proofs.lemmas.Option.{slice_get_read}
use Rattle.indexmap.specs.IndexMap.{get}
use Rattle.forests.specs.ForestFaults.{IsRootAnswer}
use Rattle.forests.proofs.FirstFaults.{IsKept, none_kept, one_kept, front_of, all_well, one_told}
use Rattle.forests.proofs.checking.first_fault.Goals as goal

pub loop-root-init : goal.loop-root-init
loop-root-init c = none_kept c.args.forest.now c.as_slice-roots.result.now c.as_slice-roots.ensures

pub loop-root-preserved : goal.loop-root-preserved
loop-root-preserved c =
    let f = c.args.forest.now in
    let roots = c.as_slice-roots.result.now in
    let place = c.loop-root.root - 1 in
    let tree = c.index-roots-root.result in
    let one : c.loop-root.root ≡ suc place = omega arith in
    let there : slice_get f.roots place ≡ Some tree = subst (λ ts. slice_get ts place ≡ Some tree) c.as_slice-roots.ensures (slice_get_read roots _ place tree refl (omega arith) c.index-roots-root.is) in
    one_kept f (get nat_eq c.args.places.now) roots place tree c.loop-root.is_taken c.is_taken_from-is_taken.result c.root_fault.result c.loop-root.fault c.or-fault.result c.requires.places c.as_slice-roots.ensures there
    (front_of f roots place tree c.as_slice-roots.ensures (omega arith) c.index-roots-root.is)
    (subst (λ n. IsKept f n c.loop-root.is_taken c.loop-root.fault) one c.loop-root.invariant)
    (subst (λ slots. IsRootAnswer slots (get nat_eq c.args.places.now) place tree (IsTrue c.loop-root.is_taken) c.root_fault.result) c.requires.slots c.root_fault.ensures) c.is_taken_from-is_taken.ensures c.or-fault.ensures

pub returns-clause-none : goal.returns-clause-none
returns-clause-none c =
    let end : c.loop-root.root ≡ 0 = omega arith in
    let kept = subst (λ n. IsKept c.args.forest.now n c.loop-root.is_taken c.loop-root.fault) end c.loop-root.invariant in
    all_well c.args.forest.now c.loop-root.fault kept.told

pub returns-clause-some : goal.returns-clause-some
returns-clause-some c =
    let end : c.loop-root.root ≡ 0 = omega arith in
    let kept = subst (λ n. IsKept c.args.forest.now n c.loop-root.is_taken c.loop-root.fault) end c.loop-root.invariant in
    one_told c.args.forest.now c.loop-root.fault kept.told
