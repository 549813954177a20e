use Rattle.std.proofs.Common.{refl, sym, arith}
use Rattle.std.proofs.lemmas.List.{length-map}
use Rattle.lcc_text.specs.Names.{bytes_of}
use Rattle.lcc_text.proofs.lemmas.Places.{with_known}
use Rattle.lburg_faults.proofs.RuleLists.{found, lacks}
use Rattle.lburg_faults.proofs.known.Known.mention.Goals as goal

pub returns-then-is_some-clause-room : goal.returns-then-is_some-clause-room
returns-then-is_some-clause-room c = λ e h. absurd (h (found (bytes_of c.args.self.now.nonterminals) c.args.name.now _ _ c.find.ensures c.is_some.ensures c.if-is_some.true))

pub returns-then-is_some-clause-names : goal.returns-then-is_some-clause-names
returns-then-is_some-clause-names c =
    let a = found (bytes_of c.args.self.now.nonterminals) c.args.name.now _ _ c.find.ensures c.is_some.ensures c.if-is_some.true in
    λ e. sym (with_known (bytes_of c.args.self.now.nonterminals) c.args.name.now a.0 a.1)

pub returns-then-len-ge-MOST_NONTERMINALS-clause-full :
    goal.returns-then-len-ge-MOST_NONTERMINALS-clause-full
returns-then-len-ge-MOST_NONTERMINALS-clause-full c = (
  refl,
  (let l = c.len.ensures.len in simp length-map (omega arith)),
  lacks (bytes_of c.args.self.now.nonterminals) c.args.name.now _ _ c.find.ensures c.is_some.ensures c.if-is_some.false,
)
