use Rattle.std.proofs.Common.{◌≡◌, ◌-◌, ◌≤◌, ◌++◌, List, length, take, refl, sym, ap, ◌∙◌, subst, arith}
use Rattle.std.specs.Prelude.{Some, None, option_to_list}
use Rattle.c_types.specs.Table.{tags}
use Rattle.c_meaning.specs.Filling.{next}
use Rattle.c_initialisers.specs.declared.waits.Waits.{Waits}
use Rattle.c_initialisers.specs.Entering.{IsFrontIn, front_in}
use Rattle.c_initialisers.specs.Waiting.{AreEntriesIn, IsEntryIn, entries_in}
use Rattle.c_initialisers.proofs.Stacks.{entries_take}
use Rattle.c_initialisers.proofs.Tops.{IsTop, behind_entries, entries_left, entry_at, next_found, next_missing, top_nowhere}
use Rattle.c_initialisers.proofs.placing.next.Goals as goal

pub returns-in-Nowhere-clause-found : goal.returns-in-Nowhere-clause-found
returns-in-Nowhere-clause-found c =
    let t = c.args.types.now in
    let ws = c.args.waits.now.items in
    let u = c.loop-under.under in
    let same = c.loop-under.invariant.same in
    let top : IsTop ws u c.index-entry.result.now = record { there = c.loop-under-test.true; within = subst (λ (l : List Waits). u ≤ length l) same c.loop-under.invariant.within; default = _; is = rw same at c.index-entry.ensures } in
    sym c.loop-under.invariant.next ∙ ap (next (tags t)) (top_nowhere t ws u c.index-entry.result.now top c.in-Nowhere.is)

pub front-requires : goal.front-requires
front-requires c =
    let t = c.args.types.now in
    let same = c.loop-under.invariant.same in
    let l = subst (λ (l : List Waits). c.loop-under.under ≤ length l) same c.loop-under.invariant.within in
    subst (IsEntryIn t) (sym (rw same at c.index-entry.ensures)) (entry_at t c.args.waits.now.items (c.loop-under.under - 1) _ c.requires (omega (arith, l, c.loop-under-test.true)))

pub returns-in_err-push_behind-clause-entries : goal.returns-in_err-push_behind-clause-entries
returns-in_err-push_behind-clause-entries c =
    let t = c.args.types.now in
    let u = c.loop-under.under in
    subst (AreEntriesIn t) (sym (c.in_err-push_behind.ensures.err ∙ c.truncate.ensures.items ∙ ap (take (u - 1)) c.loop-under.invariant.same)) (entries_take t (u - 1) c.args.waits.now.items c.requires)

pub returns-in-Some : goal.returns-in-Some
returns-in-Some c =
    let t = c.args.types.now in
    let ws = c.args.waits.now.items in
    let u = c.loop-under.under in
    let w = c.index-entry.result.now in
    let f = c.in-Some.front in
    let same = c.loop-under.invariant.same in
    let top : IsTop ws u w = record { there = c.loop-under-test.true; within = subst (λ (l : List Waits). u ≤ length l) same c.loop-under.invariant.within; default = _; is = rw same at c.index-entry.ensures } in
    let e : front_in t (Some f) ≡ next (tags t) (entries_in t w) = ap (front_in t) (sym c.in-Some.is) ∙ c.in_ok-front.ensures.is in
    let k : c.push_behind.new.waits.items ≡ take (u - 1) ws ++ option_to_list f.behind = c.in_ok-push_behind.ensures.ok ∙ ap (λ l. l ++ option_to_list f.behind) (c.truncate.ensures.items ∙ ap (take (u - 1)) same) in
    let g : IsFrontIn t f = rw c.in-Some.is at c.in_ok-front.ensures.within in
    record {
      found = sym c.loop-under.invariant.next ∙ next_found t ws u w top c.in_default.not-Nowhere f c.push_behind.new.waits.items e k;
      left = refl;
      place = g.0;
      entries = entries_left t (u - 1) ws (option_to_list f.behind) c.push_behind.new.waits.items c.requires (behind_entries t f.behind g.1) k;
    }

pub loop-under-preserved : goal.loop-under-preserved
loop-under-preserved c =
    let t = c.args.types.now in
    let ws = c.args.waits.now.items in
    let u = c.loop-under.under in
    let w = c.index-entry.result.now in
    let same = c.loop-under.invariant.same in
    let top : IsTop ws u w = record { there = c.loop-under-test.true; within = subst (λ (l : List Waits). u ≤ length l) same c.loop-under.invariant.within; default = _; is = rw same at c.index-entry.ensures } in
    let first : front_in t None ≡ next (tags t) (entries_in t w) = ap (front_in t) (sym c.in_default-2.is) ∙ c.in_ok-front.ensures.is in
    record {
      within = (let l = c.loop-under.invariant.within in omega arith);
      same = same;
      next = next_missing t ws u w top c.in_default.not-Nowhere first ∙ c.loop-under.invariant.next;
    }
