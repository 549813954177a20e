use Rattle.std.proofs.Common.{◌≡◌, ℕ, false, sym, ap, subst}
use Rattle.std.proofs.lemmas.Option.{IfSome_then}
use Rattle.objects.specs.declared.value.Value.TheVariants.{Number}
use Rattle.c_meaning.specs.CoreTrees.{CoreOf, type_of}
use Rattle.c_meaning.specs.Types.{is_record}
use Rattle.c_runs.specs.Places.{kept, spot_of}
use Rattle.c_worlds.specs.Programs.{known, setting_of}
use Rattle.c_acts.specs.declared.spot.Spot.{Spot}
use Rattle.c_acts.proofs.NumberStores.{assign_stores, change_stores, held_number, postfix_stores}
use Rattle.c_acts.proofs.number_stores.new_number.Goals as goal

pub returns-in-Assign : goal.returns-in-Assign
returns-in-Assign c =
    let p = c.args.program.now in
    IfSome_then c.assigned_number.result c.assigned_number.ensures (λ m g left h. (
      kept (spot_of left) (Number m),
      λ calls right k w o.
          rw (sym g.0, ← c.e.view_is, c.in-Assign.is)
          (assign_stores (setting_of p calls) (known p c.e.inside.of) c.e.inside.line left right c.args.p.now m k w c.args.storage.now.objects (subst (λ (x : CoreOf ℕ). is_record (known p (type_of x)) ≡ false) (sym c.e.view_is) g.1) o),
    ))

pub returns-in-Change : goal.returns-in-Change
returns-in-Change c =
    let p = c.args.program.now in
    let os = c.args.storage.now.objects in
    IfSome_then c.changed_number.result c.changed_number.ensures (λ m g left h. (
      kept (spot_of left) (Number m),
      λ calls right k w o.
          rw (← c.e.view_is, c.in-Change.is)
          (change_stores (setting_of p calls) c.in-Change.by (known p c.e.inside.of) c.e.inside.line left right c.args.p.now c.args.n g.0 m k w os
          (held_number p.order (spot_of left) c.args.spot os c.args.p.now g.0 h c.requires g.1.reads)
          (g.1.changes (spot_of left) (type_of right) (ap (λ (s : Spot). s.scalar) h)) o),
    ))

pub returns-in-Postfix : goal.returns-in-Postfix
returns-in-Postfix c =
    let p = c.args.program.now in
    let os = c.args.storage.now.objects in
    IfSome_then c.changed_number-in-Postfix.result c.changed_number-in-Postfix.ensures (λ m g left h. (
      Number g.0,
      λ calls right k w o.
          rw (← c.e.view_is, c.in-Postfix.is)
          (postfix_stores (setting_of p calls) c.in-Postfix.by (known p c.e.inside.of) c.e.inside.line left right c.args.p.now c.args.n g.0 m k w os
          (held_number p.order (spot_of left) c.args.spot os c.args.p.now g.0 h c.requires g.1.reads)
          (g.1.changes (spot_of left) (type_of right) (ap (λ (s : Spot). s.scalar) h)) o),
    ))
