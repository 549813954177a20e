-- Zeros one by one, or by a loop.
use Rattle.std.specs.Prelude.{◌≡◌, ℕ, suc, ◌+◌, ◌*◌, ◌/◌, ◌%◌, ◌<◌, ◌≤◌, nat_le, ℤ, Bool, true, false, Result, OnOk, List}
use Rattle.std.proofs.Common.{ap, sym, ◌∙◌, subst, arith}
use Rattle.std.proofs.lemmas.Bool.Decides.{nat_tests}
use Rattle.std.proofs.lemmas.Result.{on_ok_weaker}
use Rattle.objects.specs.declared.width.Width.TheVariants.{One, Four}
use Rattle.objects.specs.Values.{bytes_in}
use Rattle.objects.specs.declared.operators.Comparison.TheVariants as comparison
use Rattle.objects.specs.declared.width.Width.{Width}
use Rattle.op_forest.specs.declared.suffix.Suffix.TheVariants.{I}
use Rattle.dag_forest.specs.declared.entry.Entry.{Entry}
use Rattle.c_rows_agree.specs.Integers.{number, compared}
use Rattle.c_rows_agree.specs.Typed.{Typed}
use Rattle.lowered_forms.specs.Lows.{Low, with_entries, branched, marked, with_label, slot_offset, with_slot}
use Rattle.lowered_forms.specs.Values.{slot_read, stored_in}
use Rattle.lowered_statements.specs.Initialisers.{zeroed_whole}
use Rattle.lowered_statements.specs.Zeroing.{zeroed, zeroed_at, zeroed_by, zeroed_each, zeroed_next, zeroed_in_turn, zeroed_up_to}
use Rattle.lowering_steps.specs.declared.state.State.{State}
use Rattle.lowering_steps.specs.Asking.{Acts}
use Rattle.lowering_steps.specs.States.{Shows}
use Rattle.lowering_steps.proofs.lemmas.Stating.{with_block, acts_shows}
use Rattle.statement_steps.specs.Progresses.{Goes}
use Rattle.statement_steps.proofs.lemmas.Going.{acts_goes, goes_acts, shows_as}
use Rattle.statement_steps.proofs.lemmas.Rooting.{acts_then}

-- what the code does one behind the other
pub record ZeroesInTurn (base : Typed) (w : Width) (from to : ℕ) (z : ℤ) (n : ℕ) (s s1 s2 s3 t : State) (es fs : List Entry) : Type 0 where
  pub slot : (l : Low) → Shows s l → (z ≡ slot_offset l) × Shows s1 (with_slot l)
  pub first : Acts s1.block (λ l. stored_in z (number true from) l) es
  pub label : (l : Low) → Shows (with_block s1 es) l → (n ≡ l.labels) × Shows s2 (with_label l)
  pub mark : (l : Low) → Shows s2 l → Shows s3 (marked n l)
  pub next : Acts s3.block (λ l. zeroed_next base w z l) fs
  pub last : Goes (λ l. branched (compared comparison.Less true true n (slot_read I z) (number true to)) l) (with_block s3 fs) t

pub zeroes_in_turn : (base : Typed) (w : Width) (from to : ℕ) (z : ℤ) (n : ℕ) (s s1 s2 s3 t : State) (es fs : List Entry)
    → ZeroesInTurn base w from to z n s s1 s2 s3 t es fs → Goes (λ l. zeroed_in_turn base w from to l) s t
zeroes_in_turn base w from to z n s s1 s2 s3 t es fs k = record {
  is = λ l h.
      let a = k.slot l h in
      let l1 = stored_in z (number true from) (with_slot l) in
      let b = acts_shows s1 (with_slot l) (λ m. stored_in z (number true from) m) es a.1 k.first in
      let c = k.label l1 b in
      let d = k.mark (with_label l1) c.1 in
      let e = acts_shows s3 (marked n (with_label l1)) (λ m. zeroed_next base w z m) fs d k.next in
      shows_as t (zeroed_up_to base w to z n (with_label l1)) (zeroed_in_turn base w from to l)
      (λ i. zeroed_up_to base w to (a.0 i) (c.0 i) (with_label (stored_in (a.0 i) (number true from) (with_slot l))))
      (k.last.is (zeroed_next base w z (marked n (with_label l1))) e);
}

-- ---- one by one

abbrev each_by : Typed → Width → ℕ → ℕ → Low → Low
each_by base w from n l = zeroed_each base w from n l

pub zeroes_none : (base : Typed) (w : Width) (from n : ℕ) (es : List Entry) → n ≡ 0 → Acts es (λ l. zeroed_each base w from n l) es
zeroes_none base w from n es e =
    subst (λ (m : ℕ). Acts es (λ l. each_by base w from m l) es) (sym e) (record { is = λ l h. ap (λ (x : List Entry). with_entries x l) h })

pub zeroes_more : {T E : Type 0} (r : Result T E) (base : Typed) (w : Width) (from n next m : ℕ) (es fs gs : List Entry) → n ≡ suc m → next ≡ from + bytes_in w
    → Acts es (λ l. zeroed_at base w from l) fs → OnOk r (Acts fs (λ l. zeroed_each base w next m l) gs) → OnOk r (Acts es (λ l. zeroed_each base w from n l) gs)
zeroes_more r base w from n next m es fs gs e d one rest =
    on_ok_weaker r (λ k.
    subst (λ (j : ℕ). Acts es (λ l. each_by base w from j l) gs) (sym e)
    (acts_then (λ l. zeroed_at base w from l) (λ l. each_by base w (from + bytes_in w) m l) es fs gs one (subst (λ (j : ℕ). Acts fs (λ l. each_by base w j m l) gs) d k))) rest

-- ---- by how many they are

is_few : (n : ℕ) → n ≤ 4 → nat_le n 4 ≡ true
is_few n h = grind (arith, nat_tests)

is_many : (n : ℕ) → 4 < n → nat_le n 4 ≡ false
is_many n h = grind (arith, nat_tests)

pub zeroes_few : {T E : Type 0} (r : Result T E) (base : Typed) (w : Width) (from n : ℕ) (s : State) (es : List Entry) → n ≤ 4
    → OnOk r (Acts s.block (λ l. zeroed_each base w from n l) es) → OnOk r (Goes (λ l. zeroed base w from n l) s (with_block s es))
zeroes_few r base w from n s es few h =
    on_ok_weaker r (λ k.
    subst (λ (b : Bool). Goes (λ l. zeroed_by b base w from n l) s (with_block s es)) (sym (is_few n few)) (acts_goes (λ l. each_by base w from n l) s es k)) h

pub zeroes_many : {T E : Type 0} (r : Result T E) (base : Typed) (w : Width) (from n to size bytes : ℕ) (s t : State) → 4 < n → bytes ≡ bytes_in w → size ≡ n * bytes → to ≡ from + size
    → OnOk r (Goes (λ l. zeroed_in_turn base w from to l) s t) → OnOk r (Goes (λ l. zeroed base w from n l) s t)
zeroes_many r base w from n to size bytes s t many e d f h =
    on_ok_weaker r (λ k.
    subst (λ (b : Bool). Goes (λ l. zeroed_by b base w from n l) s t) (sym (is_many n many))
    (subst (λ (j : ℕ). Goes (λ l. zeroed_in_turn base w from j l) s t) (f ∙ ap (λ (j : ℕ). from + j) (d ∙ ap (λ (j : ℕ). n * j) e)) k)) h

-- ---- the whole of an object

pub zeroes_nothing : (says : Bool) (base : Typed) (size : ℕ) (s : State) → says ≡ false → Goes (λ l. zeroed_whole says base size l) s s
zeroes_nothing says base size s e = subst (λ (b : Bool). Goes (λ l. zeroed_whole b base size l) s s) (sym e) (record { is = λ l h. h })

pub zeroes_whole : {T E : Type 0} (r : Result T E) (says : Bool) (base : Typed) (size : ℕ) (s t : State) (es : List Entry) → says ≡ true
    → Goes (λ l. zeroed base Four 0 (size / 4) l) s t → OnOk r (Acts t.block (λ l. zeroed_each base One (4 * (size / 4)) (size % 4) l) es)
    → OnOk r (Goes (λ l. zeroed_whole says base size l) s (with_block t es))
zeroes_whole r says base size s t es e words rest =
    on_ok_weaker r (λ k.
    subst (λ (b : Bool). Goes (λ l. zeroed_whole b base size l) s (with_block t es)) (sym e)
    (goes_acts (λ l. zeroed base Four 0 (size / 4) l) (λ l. each_by base One (4 * (size / 4)) (size % 4) l) s t es words k)) rest
