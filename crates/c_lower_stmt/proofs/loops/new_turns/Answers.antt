use Rattle.lowered_forms.specs.Lows.{with_label}
use Rattle.c_lower_stmt.proofs.loops.new_turns.Goals as goal

pub returns : goal.returns
returns c = record {
  is = λ l h.
      let a = c.in_ok-top.ensures l h in
      let b = c.in_ok-next.ensures (with_label l) a.1 in
      let d = c.in_ok-end.ensures (with_label (with_label l)) b.1 in
      ((λ i. record { top = a.0 i; next = b.0 i; end = d.0 i }), d.1);
}
