use Rattle.std.proofs.Common.{inl, refl, sym, ◌∙◌, true≢false}
use Rattle.c_types.specs.Table.{tagged, types}
use Rattle.c_types.proofs.Defined.{open_tagged}
use Rattle.c_types.proofs.Composed.{grows_itself, result_grows}
use Rattle.c_types.proofs.Placed.{basic_formed, basic_untagged, extends_itself}
use Rattle.c_types.proofs.type_table.TypeTable.add.Goals as goal

pub returns-in-Some-clause-added : goal.returns-in-Some-clause-added
returns-in-Some-clause-added c =
    let h = c.in-Some.ensures.some in
    rw c.basic_type.ensures.is (inl (basic_untagged c.in-Some.place c.args.form h, c.basic_type.ensures.known ∙ h, refl))

pub returns-in-Some-clause-means : goal.returns-in-Some-clause-means
returns-in-Some-clause-means c =
    let t = c.args.self.now in
    rw c.basic_type.ensures.is (c.basic_type.ensures.means ∙ basic_formed c.in-Some.place c.args.form (types t) (tagged t.forms) c.in-Some.ensures.some)

pub returns-in-Some-clause-within : goal.returns-in-Some-clause-within
returns-in-Some-clause-within c = rw c.basic_type.ensures.is c.basic_type.ensures.within

pub returns-in-Some-clause-extends : goal.returns-in-Some-clause-extends
returns-in-Some-clause-extends c = extends_itself c.args.self.now

pub returns-in-Some-clause-open : goal.returns-in-Some-clause-open
returns-in-Some-clause-open c = λ h. absurd (true≢false (sym (open_tagged c.args.form h) ∙ basic_untagged c.in-Some.place c.args.form c.in-Some.ensures.some))

pub returns-in-Some-clause-grows : goal.returns-in-Some-clause-grows
returns-in-Some-clause-grows c = λ h. grows_itself c.args.self.now

pub returns-in_ok-key-in-None-clause-grows : goal.returns-in_ok-key-in-None-clause-grows
returns-in_ok-key-in-None-clause-grows c = result_grows c.args.self.now c.place.new.self c.args.form c.place.result c.place.ensures.added c.place.ensures.extends
