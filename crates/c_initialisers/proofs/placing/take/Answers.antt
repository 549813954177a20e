use Rattle.std.proofs.Common.{◌≡◌, ◌-◌, ◌≤◌, ◌++◌, List, length, take, refl, sym, ap, ◌∙◌, subst, arith}
use Rattle.std.specs.Prelude.{Some, None}
use Rattle.c_types.specs.Table.{tags, type_at}
use Rattle.c_meaning.specs.CoreTrees.{seen}
use Rattle.c_meaning.specs.Filling.{taken}
use Rattle.c_initialisers.specs.declared.waits.Waits.{Waits}
use Rattle.c_initialisers.specs.Entering.{IsEntered}
use Rattle.c_initialisers.specs.Waiting.{AreEntriesIn, IsEntryIn, entries_in}
use Rattle.c_initialisers.proofs.Stacks.{entries_take}
use Rattle.c_initialisers.proofs.Tops.{IsTop, entries_left, entered_entries, entry_at, taken_found, taken_missing, top_nowhere}
use Rattle.c_initialisers.proofs.placing.take.Goals as goal

pub returns-in-Nowhere-clause-found : goal.returns-in-Nowhere-clause-found
returns-in-Nowhere-clause-found c =
    let t = c.args.types.now in
    let ws = c.args.waits.now.items in
    let u = c.loop-under.under in
    let same = c.loop-under.invariant.same in
    let top : IsTop ws u c.index-entry.result.now = record { there = c.loop-under-test.true; within = subst (λ (l : List Waits). u ≤ length l) same c.loop-under.invariant.within; default = _; is = rw same at c.index-entry.ensures } in
    sym c.loop-under.invariant.taken ∙ ap (taken (tags t) (seen (type_at t) c.args.c.now)) (top_nowhere t ws u c.index-entry.result.now top c.in-Nowhere.is)

pub enter_entry-requires-clause-entry : goal.enter_entry-requires-clause-entry
enter_entry-requires-clause-entry c =
    let t = c.args.types.now in
    let same = c.loop-under.invariant.same in
    let l = subst (λ (l : List Waits). c.loop-under.under ≤ length l) same c.loop-under.invariant.within in
    subst (IsEntryIn t) (sym (rw same at c.index-entry.ensures)) (entry_at t c.args.waits.now.items (c.loop-under.under - 1) _ c.requires.entries (omega (arith, l, c.loop-under-test.true)))

pub returns-in_err-extend_from_slice-clause-entries : goal.returns-in_err-extend_from_slice-clause-entries
returns-in_err-extend_from_slice-clause-entries c =
    let t = c.args.types.now in
    let u = c.loop-under.under in
    subst (AreEntriesIn t) (sym (c.in_err-extend_from_slice.ensures.items ∙ c.truncate.ensures.items ∙ ap (take (u - 1)) c.loop-under.invariant.same)) (entries_take t (u - 1) c.args.waits.now.items c.requires.entries)

pub returns-in-Some : goal.returns-in-Some
returns-in-Some c =
    let t = c.args.types.now in
    let e = seen (type_at t) c.args.c.now in
    let ws = c.args.waits.now.items in
    let u = c.loop-under.under in
    let w = c.index-entry.result.now in
    let old = c.loop-under.left.items in
    let left = c.enter_entry.new.waits.items in
    let new = c.extend_from_slice.new.self.items in
    let p = c.in-Some.place in
    let same = c.loop-under.invariant.same in
    let top : IsTop ws u w = record { there = c.loop-under-test.true; within = subst (λ (l : List Waits). u ≤ length l) same c.loop-under.invariant.within; default = _; is = rw same at c.index-entry.ensures } in
    let found : IsEntered t old left (taken (tags t) e (entries_in t w)) (Some p) = rw c.in-Some.is at c.in_ok-place.ensures in
    let k : new ≡ take (u - 1) ws ++ left = c.in_ok-extend_from_slice.ensures.items ∙ ap (λ l. l ++ c.deref.result.now) (c.truncate.ensures.items ∙ ap (take (u - 1)) same) ∙ ap (λ l. take (u - 1) ws ++ l) c.deref.ensures.value in
    record {
      found = sym c.loop-under.invariant.taken ∙ taken_found t ws u w top c.in_default.not-Nowhere e old left new p c.loop-under.invariant.left found k;
      left = refl;
      place = found.4;
      entries = entries_left t (u - 1) ws left new c.requires.entries (entered_entries t old left _ p c.loop-under.invariant.left found) k;
    }

pub loop-under-preserved : goal.loop-under-preserved
loop-under-preserved c =
    let t = c.args.types.now in
    let e = seen (type_at t) c.args.c.now in
    let ws = c.args.waits.now.items in
    let u = c.loop-under.under in
    let w = c.index-entry.result.now in
    let same = c.loop-under.invariant.same in
    let top : IsTop ws u w = record { there = c.loop-under-test.true; within = subst (λ (l : List Waits). u ≤ length l) same c.loop-under.invariant.within; default = _; is = rw same at c.index-entry.ensures } in
    let missing : IsEntered t c.loop-under.left.items c.enter_entry.new.waits.items (taken (tags t) e (entries_in t w)) None = rw c.in_default-2.is at c.in_ok-place.ensures in
    record {
      within = (let l = c.loop-under.invariant.within in omega arith);
      same = same;
      left = missing.1 ∙ c.loop-under.invariant.left;
      taken = taken_missing t ws u w top c.in_default.not-Nowhere e missing.0 ∙ c.loop-under.invariant.taken;
    }
