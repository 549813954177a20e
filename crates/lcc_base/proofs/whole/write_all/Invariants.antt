use Rattle.std.proofs.Common.{◌≡◌, length}
use Rattle.lcc_base.proofs.Taken.{TookUpTo}
use Rattle.lcc_base.proofs.whole.write_all.Given as goal

abbrev pub invariant-loop-rest : goal.invariant-loop-rest
invariant-loop-rest g l = record {
  bytes : TookUpTo (g.K.Sink.taken l.initial.sink) (g.K.Sink.taken l.sink) l.initial.bytes l.rest;
  faults : g.K.Sink.faults l.sink ≡ g.K.Sink.faults l.initial.sink;
}

abbrev pub decreases-loop-rest : goal.decreases-loop-rest
decreases-loop-rest g l = length l.rest
