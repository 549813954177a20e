use Rattle.std.proofs.Common.{inl, inr, arith, refl, sym, ◌∙◌}
use Rattle.std.proofs.lemmas.List.{append-nil, length-map}
use Rattle.lcc_text.specs.Names.{bytes_of}
use Rattle.lcc_text.proofs.lemmas.Places.{with_new}
use Rattle.lburg_faults.proofs.RuleLists.{found, lacks}
use Rattle.lburg_faults.proofs.known.Known.declare_name.Goals as goal

pub returns-then-is_some-clause-fails : goal.returns-then-is_some-clause-fails
returns-then-is_some-clause-fails c = inl (refl, found (bytes_of c.args.self.now.terminals) c.args.name.now c.find.result c.is_some.result c.find.ensures c.is_some.ensures c.if-is_some.true)

pub returns-then-len-ge-MOST_TERMINALS-clause-fails :
    goal.returns-then-len-ge-MOST_TERMINALS-clause-fails
returns-then-len-ge-MOST_TERMINALS-clause-fails c = inr (
  refl,
  lacks (bytes_of c.args.self.now.terminals) c.args.name.now c.find.result c.is_some.result c.find.ensures c.is_some.ensures c.if-is_some.false,
  omega (arith, c.len.ensures.len, length-map c.args.self.now.terminals.keys (λ k. k.now)),
)

pub returns-clause-fits : goal.returns-clause-fits
returns-clause-fits c = (
  lacks (bytes_of c.args.self.now.terminals) c.args.name.now c.find.result c.is_some.result c.find.ensures c.is_some.ensures c.if-is_some.false,
  omega (arith, c.len.ensures.len, length-map c.args.self.now.terminals.keys (λ k. k.now)),
)

pub returns-clause-adds : goal.returns-clause-adds
returns-clause-adds c =
    let new = lacks (bytes_of c.args.self.now.terminals) c.args.name.now c.find.result c.is_some.result c.find.ensures c.is_some.ensures c.if-is_some.false in
    record {
      names = c.in_ok-place.ensures.names ∙ with_new (bytes_of c.args.self.now.terminals) c.args.name.now (λ i h. new (i, h));
      numbers = sym (append-nil c.args.self.now.numbers.keys);
      arities = c.in_ok-push.ensures.items;
      nonterminals = refl;
      start = refl;
      rules = refl;
    }
