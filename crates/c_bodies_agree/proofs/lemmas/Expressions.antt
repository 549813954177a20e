-- The expressions of a checked function, in a call of its lowering.
use Rattle.std.specs.Prelude.{◌≡◌, ℕ, false}
use Rattle.op_forest.specs.Lowered.{LoweredUnit}
use Rattle.forests.specs.Worlds.{World}
use Rattle.c_types.specs.CType.{CType}
use Rattle.c_meaning.specs.Copies.{LocalAt, copies_in}
use Rattle.c_meaning.specs.Each.{EachExpr}
use Rattle.c_meaning.specs.StmtTrees.{FilledOf, StmtOf}
use Rattle.c_meaning.specs.Units.{FunctionTree, UnitTree}
use Rattle.c_meaning.specs.Values.{CoreTree}
use Rattle.c_runs.specs.Calls.{Call}
use Rattle.lowered_statements.specs.Functions.{Function}
use Rattle.c_straight_agree.proofs.lemmas.Putting.{each_map}
use Rattle.c_tests_agree.specs.Tested.{AreMarkedOnce}
use Rattle.c_calls_agree.specs.Laws.{IsCopy, HasCopies}
use Rattle.c_expressions_agree.specs.Expressions.{ExpressionsAgree}
use Rattle.c_expressions_agree.specs.Known.{IsKnown}
use Rattle.c_stmt_agreement.specs.Comings.{Activation, HasFrame}
use Rattle.c_stmts_agree.specs.CheckedParts.{ExpressionIsKnown, PlaceIsKnown}
use Rattle.c_checked_units.specs.Checked.{IsOwnCopy, IsCheckedExpr, IsCheckedPlace, AreCheckedIn}
use Rattle.c_checked_units.specs.Modest.{CheckedIsModest}
use Rattle.c_checked_units.proofs.lemmas.Functions.{exprs_join}
use Rattle.c_entries_agree.specs.Activations.{lowering, activation}
use Rattle.c_entries_agree.specs.Lowered.{IsFunctionLowering}
use Rattle.c_bodies_agree.specs.BuiltIns.{ProvidesBuiltIns}
use Rattle.c_bodies_agree.proofs.lemmas.BuiltIns.{is_program, names_stand}

module _ (agree : ExpressionsAgree) (modest : CheckedIsModest) (u : UnitTree) (l : LoweredUnit) (provides : ProvidesBuiltIns u l) (number : ℕ) (f : FunctionTree) (x : IsFunctionLowering u l number f) (a : Call) (w : World)
    (frame : HasFrame (activation u l number f x a w)) (once : AreMarkedOnce (activation u l number f x a w).scene.body) where
  abbrev p : Activation
  p = activation u l number f x a w

  abbrev g : Function
  g = lowering u l number f x

  has_copies : (e : CoreTree) → IsCheckedExpr u f e → HasCopies p.layout (copies_in e)
  has_copies e h = each_map (IsOwnCopy f) (IsCopy p.layout) (copies_in e) (λ (c : LocalAt) k. (k.local, k.behind)) h.copies

  is_known : (e : CoreTree) → IsCheckedExpr u f e → IsKnown p.scene p.locals p.layout e
  is_known e h =
      agree p.scene once p.locals frame.body (is_program u l provides number f x w) p.layout frame.laid e h.fits h.tame (modest p.scene (names_stand u l provides number f x w) f e h) (has_copies e h)

  known_so : (e : CoreTree) → IsKnown p.scene p.locals p.layout e → ExpressionIsKnown p g e
  known_so e k =
      record {
        effect = record { tame = k.performed.tame; performed = k.performed.performed };
        agrees = λ used. record {
          value = record { tame = (k.value used).tame; lowered = (k.value used).lowered };
          test = record { tame = (k.test used).tame; tested = λ n when m le. (k.test used).tested m le n when };
        };
      }

  pub expression_known : (e : CoreTree) → IsCheckedExpr u f e → ExpressionIsKnown p g e
  expression_known e h = known_so e (is_known e h)

  pub expressions_known : (s : StmtOf CType) → AreCheckedIn u f s → EachExpr (ExpressionIsKnown p g) (PlaceIsKnown p g) s
  expressions_known s h =
      exprs_join (IsCheckedExpr u f) (IsCheckedExpr u f) (ExpressionIsKnown p g) (IsCheckedPlace u f) (IsCheckedPlace u f) (PlaceIsKnown p g)
      (λ e k j. expression_known e k) (λ q k j. expression_known q.value k) s h h
