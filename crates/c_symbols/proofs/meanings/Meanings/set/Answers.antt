use Rattle.std.proofs.Common.{◌<◌, ℕ, length, sym, ap, subst, ◌∙◌}
use Rattle.indexmap.specs.Layout.{set_value_at}
use Rattle.c_symbols.specs.Meanings.{Meant}
use Rattle.c_symbols.proofs.Meaning.{length-meant, meant_set}
use Rattle.c_symbols.proofs.meanings.Meanings.set.Goals as goal

pub index_mut-requires : goal.index_mut-requires
index_mut-requires c = subst (λ (n : ℕ). c.args.place < n) (ap (λ (m : Meant). length m) (sym c.self.view_is) ∙ length-meant c.self.inside.names.entries) c.requires

pub returns : goal.returns
returns c =
    meant_set c.self.inside.names.entries c.args.place c.args.symbol
    ∙ ap (λ (m : Meant). set_value_at m c.args.place c.args.symbol) c.self.view_is
