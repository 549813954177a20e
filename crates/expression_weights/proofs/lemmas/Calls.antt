-- What a call costs at most that is handed to the root which stores its value.
use Rattle.std.proofs.Common.{◌≡◌, ⊎_elim, ℕ, zero, suc, ◌+◌, ◌<◌, ◌≤◌, ◌==◌, Bool, true, false, true≢false, List, [], ◌∷◌, ◌++◌, inl, inr, refl, sym, ap, ◌∙◌, subst, arith, append_assoc, fold, length-append}
use Rattle.std.specs.Prelude.{◌⊎◌, ◌||◌, ℤ, Option, Some, None, slice_get, length}
use Rattle.std.proofs.lemmas.Option.{none-some}
use Rattle.std.proofs.lemmas.Bool.{cases_eq, eq-eqb}
use Rattle.op_forest.specs.declared.op.Op.{Op}
use Rattle.op_forest.specs.declared.op.Op.TheVariants as op
use Rattle.dag_forest.specs.declared.act.Act.{Act}
use Rattle.dag_forest.specs.declared.act.Act.TheVariants.{Made, Acts}
use Rattle.dag_forest.specs.declared.entry.Entry.{Entry}
use Rattle.dag_forest.specs.declared.entry.Entry.TheVariants as entry
use Rattle.dag_forest.specs.declared.key.Key.{Key}
use Rattle.dag_forest.specs.declared.kids.Kids.{Kids}
use Rattle.dag_forest.specs.declared.kids.Kids.TheVariants as kids
use Rattle.dag_forest.specs.declared.parts.Parts.{Parts}
use Rattle.dag_forest.specs.Choice.{hits, in_kids, ends_stretch}
use Rattle.dag_forest.specs.Entries.{is_call}
use Rattle.dag_forest.specs.Keys.{mark_of, key_at}
use Rattle.dag_forest.specs.Schedules.{at, is_in, kids_list}
use Rattle.dag_forest.specs.Tally.{Tally, with_entry, none, tally, keys_of, key_behind, node_count, AreFormed}
use Rattle.dag_forest.proofs.lemmas.Maps.{at_new, at_old}
use Rattle.dag_forest.proofs.lemmas.Once.{turns_are_once}
use Rattle.dag_seam.specs.Rooms.{AreActs}
use Rattle.dag_seam.proofs.lemmas.Acts.{IsAny, HasParts, are_append}
use Rattle.dag_seam.proofs.lemmas.Keys.{keys_root, last_get, count_keys}
use Rattle.dag_seam.proofs.lemmas.Keys.{within as key_within}
use Rattle.dag_seam.proofs.lemmas.Turns.{call_goes_on}
use Rattle.dag_sizes.proofs.lemmas.Uses.{hit, miss}
use Rattle.c_rows_agree.specs.Templates.{Template, Leaf, One}
use Rattle.op_forest.specs.declared.suffix.Suffix.TheVariants.{P}
use Rattle.op_forest.specs.declared.sym.Sym.TheVariants as sym_
use Rattle.dag_seam.specs.Turns.{waiting}
use Rattle.c_rows_agree.specs.Typed.{Typed, head_with, as_p}
use Rattle.c_pointers_agree.specs.Pointers.{local, call_head}
use Rattle.lowered_forms.specs.Asked.{Asked, key_place, found_or_new, asked_parts, with_kids, asked, root_both, rooted}
use Rattle.lowered_forms.specs.Calls.{call_stored}
use Rattle.lowered_forms.proofs.lemmas.Fronts.{asked_adds}
use Rattle.lowered_forms.proofs.lemmas.KeyPlaces.{found_there}
use Rattle.expression_weights.specs.Prices.{price, priced, AreLight, acts_in, Costs}
use Rattle.expression_weights.specs.Templates.{Priced}
use Rattle.expression_weights.proofs.lemmas.Priced.{with_use, IsCheap, any_cheap}
use Rattle.expression_weights.proofs.lemmas.Spending.{SameFor, EndsFree, spent_price, spent_light, dropped_price, dropped_light, price_with, light_with}
use Rattle.expression_weights.proofs.lemmas.Blocks.{Isnt, Any, each, any_numbers, costs_more, next_not, count_value, known_value}
use Rattle.expression_weights.proofs.lemmas.Templates.{root_formed, last_formed, parts_within, pair_got}

-- ---- no two calls are equal

-- a call's mark is its number
abbrev AreCalls : List Key → Type 0
AreCalls keys = (m : ℕ) (k : Key) → slice_get keys m ≡ Some k → is_call k.parts.operator.op ≡ true → k.mark ≡ m

call_mark : (o : Op) (stretch count : ℕ) → is_call o ≡ true → mark_of o stretch count ≡ count
call_mark op.Call stretch count h = refl
call_mark o stretch count h = absurd (true≢false (sym h))

calls_from : (es : List Entry) (t : Tally) → AreCalls t.keys → AreCalls (fold with_entry t es).keys
calls_from [] t h = h
calls_from (entry.Value x ∷ es) t h = calls_from es (with_entry t (entry.Value x))
    (λ m k is c. ⊎_elim (λ q. h m k q c)
    (λ q.
    let e : mark_of x.operator.op t.stretch (length t.keys) ≡ length t.keys = call_mark x.operator.op t.stretch (length t.keys) (ap (λ (z : Key). is_call z.parts.operator.op) q.1 ∙ c) in
    let d : mark_of x.operator.op t.stretch (length t.keys) ≡ k.mark = ap (λ (z : Key). z.mark) q.1 in
    let f = q.0 in
    omega (arith, d, e, f))
    (last_get t.keys (key_at t.stretch (length t.keys) x) m k is))
calls_from (entry.Root x ∷ es) t h = calls_from es (with_entry t (entry.Root x)) h

calls_are : (es : List Entry) → AreCalls (keys_of es)
calls_are es = calls_from es none (λ m k is c. absurd (none-some k is))

-- ---- a call and its root

in_last : (m n : ℕ) → is_in n (m ∷ n ∷ []) ≡ true
in_last m n = by (n == m) (eq-eqb n n refl)
  where
    by : (b : Bool) → (n == n) ≡ true → (b || ((n == n) || false)) ≡ true
    by true e = refl
    by false e = λ i. e i || false

with_call : (es : List Entry) (c r : Parts) (m : ℕ) (due0 : ℕ → ℕ) (b : ℕ) → is_call c.operator.op ≡ true → price false c 1 ≤ 6 → r.kids ≡ kids.Two m (node_count es) → m < node_count es
    → ((j : ℕ) → in_kids c.kids j + hits j m ≡ due0 j) → Costs es due0 b → Costs ((es ++ entry.Value c ∷ []) ++ entry.Root r ∷ []) (λ j. 0) (b + 17)
with_call es c r m due0 b calls small rk within is h =
    let n = node_count es in
    let xs = acts_in es in
    let light0 = at h.light m false in
    let may0 = dropped_light light0 (with_use m due0) due0 xs (λ j. omega arith) (spent_light m h.light due0 xs h.may) in
    let cost1 = spent_price 10 m h.light due0 xs (λ j. false) (turns_are_once es) h.may (each (λ j x. j ≡ m → IsCheap 10 x) xs (λ j x e. any_cheap x)) in
    let cost0 = dropped_price light0 (with_use m due0) due0 xs (λ j. omega arith) in
    let a1 = Made n c in
    let light1 = at light0 n false in
    let due1 : ℕ → ℕ = (λ j. in_kids (kids.Two m n) j) in
    let same1 : SameFor (Isnt n) a1 light0 light1 due0 due1 = (λ j ne. (at_old light0 n false j ne, (let q = miss j n ne in let e = is j in omega (arith, q, e)))) in
    let own1 : AreLight light1 due1 (a1 ∷ []) = ((λ q. absurd (true≢false (sym q ∙ at_new light0 n false))), tt) in
    let ends1 : EndsFree (Isnt n) a1 light1 due1 = (λ e j ne q. ⊎_elim
    (λ f. absurd (true≢false (sym q ∙ at_old light0 n false j ne ∙ ap light0 f ∙ at_new h.light m false)))
    (λ f. let u = miss j m f in let v = miss j n ne in omega (arith, u, v))
    (cases_eq j m)) in
    let new = next_not es in
    let may1 = light_with (Isnt n) a1 light0 light1 due0 due1 xs same1 new ends1 may0 own1 in
    let p1 = price_with (Isnt n) a1 light0 light1 due0 due1 xs same1 new in
    let use_one : 0 + due1 n ≡ 1 = (let u = miss n m (λ e. omega (arith, e, within)) in let v = hit n n refl in omega (arith, u, v)) in
    let call_price : price (light1 n) c (0 + due1 n) ≡ price false c 1 = (λ i. price (at_new light0 n false i) c (use_one i)) in
    let mid = xs ++ a1 ∷ [] in
    let a2 = Acts r in
    let due2 : ℕ → ℕ = (λ j. 0) in
    let same2 : SameFor Any a2 light1 light1 due1 due2 = (λ j o. (refl, (let e = ap (λ k. in_kids k j) rk in omega (arith, e)))) in
    let may2 = light_with Any a2 light1 light1 due1 due2 mid same2 (any_numbers mid) (λ e j o q. refl) may1 tt in
    let p2 = price_with Any a2 light1 light1 due1 due2 mid same2 (any_numbers mid) in
    let on = call_goes_on es h.free c r calls (ap (λ k. is_in n (kids_list k)) rk ∙ in_last m n) in
    let all : (es ++ entry.Value c ∷ []) ++ entry.Root r ∷ [] ≡ es ++ entry.Value c ∷ entry.Root r ∷ [] = append_assoc es (entry.Value c ∷ []) (entry.Root r ∷ []) in
    let acts : mid ++ a2 ∷ [] ≡ acts_in (es ++ entry.Value c ∷ entry.Root r ∷ []) = append_assoc xs (a1 ∷ []) (a2 ∷ []) ∙ sym on.0 in
    let acts_all : mid ++ a2 ∷ [] ≡ acts_in ((es ++ entry.Value c ∷ []) ++ entry.Root r ∷ []) = acts ∙ ap acts_in (sym all) in
    record {
      light = light1;
      free = subst (λ z. waiting z ≡ []) (sym all) on.1;
      may = subst (λ z. AreLight light1 due2 z) acts_all may2;
      below = subst (λ z. priced light1 due2 z ≤ b + 17) acts_all (let f = h.below in omega (arith, f, cost1, cost0, p1, p2, call_price, small));
      none = λ j l. refl;
      known = subst (λ z. AreActs (HasParts (keys_of ((es ++ entry.Value c ∷ []) ++ entry.Root r ∷ []))) IsAny z) acts_all
          (subst (λ ks. AreActs (HasParts ks) IsAny (mid ++ a2 ∷ [])) (sym (keys_root (es ++ entry.Value c ∷ []) r))
          (are_append (HasParts (keys_of (es ++ entry.Value c ∷ []))) IsAny mid (a2 ∷ []) (known_value es c h.known) (tt, tt)));
    }

-- ---- as it is lowered

count_append : (es fs : List Entry) → node_count (es ++ fs) ≡ node_count es + node_count fs
count_append [] fs = omega arith
count_append (entry.Value x ∷ es) fs = let h = count_append es fs in omega (arith, h)
count_append (entry.Root x ∷ es) fs = count_append es fs

pub asked_grows : (t : Template) (es : List Entry) → node_count es ≤ node_count (asked t es).entries
asked_grows t es = let f = (asked_adds t es).front in let e = ap node_count f.is in let c = count_append es f.more in omega (arith, e, c)

abbrev stored_call : ℤ → Typed → List Entry → Option ℕ → List Entry
stored_call z f es o =
    let p = asked (local z).tree es in
    let q = asked (as_p f) p.entries in
    root_both (call_stored z f).head p.node (found_or_new o (with_kids (call_head true) (kids.One q.node)) q.entries)

stored_costs : (o : Option ℕ) (i : ℕ) (z : ℤ) (f : Typed) (es : List Entry) (b : ℕ)
    → key_place (key_behind (asked (as_p f) (asked (local z).tree es).entries).entries (with_kids (call_head true) (kids.One (asked (as_p f) (asked (local z).tree es).entries).node))) (keys_of (asked (as_p f) (asked (local z).tree es).entries).entries) 0 ≡ o
    → AreFormed (stored_call z f es o) 0 → Priced i (as_p f) → Costs es (λ m. 0) b → Costs (stored_call z f es o) (λ m. 0) (b + (18 + i))
stored_costs (Some n) i z f es b e formed price1 h =
    let q = asked (as_p f) (asked (local z).tree es).entries in
    let c = with_kids (call_head true) (kids.One q.node) in
    let got = found_there (key_behind q.entries c) (keys_of q.entries) n e in
    let m : length (keys_of q.entries) ≡ n = calls_are q.entries n (key_behind q.entries c) got refl in
    let w = key_within (keys_of q.entries) n (key_behind q.entries c) got in
    absurd (omega (arith, m, w))
stored_costs None i z f es b e formed price1 h =
    let p = asked (local z).tree es in
    let q = asked (as_p f) p.entries in
    let c = with_kids (call_head true) (kids.One q.node) in
    let y = with_kids (call_stored z f).head (kids.Two p.node (length (keys_of q.entries))) in
    let f1 = root_formed (q.entries ++ entry.Value c ∷ []) y formed in
    let f2 = last_formed q.entries c f1.0 in
    let w0 = parts_within (with_kids (head_with op.Addrl P sym_.Nothing (Some z)) kids.Zero) es in
    let grows1 = asked_grows (as_p f) p.entries in
    let w1 : p.node < node_count q.entries = omega (arith, w0, grows1) in
    let g = pair_got 1 i (local z).tree (as_p f) es (λ m. 0) b f2.0 w1 f2.1 (refl, omega arith) price1 h in
    let k : y.kids ≡ kids.Two p.node (node_count q.entries) = ap (λ n. kids.Two p.node n) (count_keys q.entries) in
    costs_more ((q.entries ++ entry.Value c ∷ []) ++ entry.Root y ∷ []) (λ m. 0) ((b + (1 + i)) + 17) (b + (18 + i)) (omega arith)
    (with_call q.entries c y p.node g.to_come (b + (1 + i)) refl (omega arith) k w1 (λ j. let s = g.is j in omega (arith, s)) g.costs)

pub call_costs : (i : ℕ) (z : ℤ) (f : Typed) (es : List Entry) (b : ℕ) → AreFormed (rooted (call_stored z f) es) 0 → Priced i (as_p f) → Costs es (λ m. 0) b → Costs (rooted (call_stored z f) es) (λ m. 0) (b + (18 + i))
call_costs i z f es b formed price1 h =
    let q = asked (as_p f) (asked (local z).tree es).entries in
    stored_costs (key_place (key_behind q.entries (with_kids (call_head true) (kids.One q.node))) (keys_of q.entries) 0) i z f es b refl formed price1 h
