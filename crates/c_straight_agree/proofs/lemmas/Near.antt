-- What templates give stays where temporaries of their block are written.
use Rattle.std.specs.Prelude.{◌≡◌, ◌≤◌, ℕ, List, [], ◌∷◌}
use Rattle.std.proofs.Common.{⊎_elim, refl, sym, subst, ◌∙◌, arith}
use Rattle.objects.specs.declared.value.Value.{Value}
use Rattle.op_forest.specs.Nodes.{Head}
use Rattle.forests.specs.Actions.{Gave}
use Rattle.forests.proofs.lemmas.Alike.{acts_alike}
use Rattle.forests.specs.Rows.{acts}
use Rattle.forests.specs.Sound.{AreSoundObjects, IsSoundEnvironment}
use Rattle.forests.specs.SoundRows.{IsSoundAction}
use Rattle.forests.proofs.lemmas.SoundRows.{acts_sound}
use Rattle.forests.specs.Words.{Word, IsWord}
use Rattle.forests.specs.Worlds.{World}
use Rattle.dag_forest.specs.Meaning.{Keeps}
use Rattle.c_match.specs.Ranges.{Map}
use Rattle.c_rows_agree.specs.Templates.{Template, Given, Leaf, One, Two, Scene, Gives}
use Rattle.c_rows_agree.specs.Typed.{Typed, Holds}
use Rattle.c_rows_agree.proofs.lemmas.Once.{gives_once}
use Rattle.lowered_forms.specs.Blocks.{IsWithin}
use Rattle.piece_runs.specs.Reaches.{BodyRun}
use Rattle.c_straight_agree.specs.Settled.{seen, IsApart, IsMild, IsSettled, IsNear}
use Rattle.c_straight_agree.proofs.lemmas.Mild.{mild_cases, mild_still, mild_map, read_gives}

pub near_itself : (keeps : Keeps) (n : ℕ) (values : ℕ → Word) (w : World) → IsNear keeps n values values w w
near_itself keeps n values w = record { kept = λ m lt. refl; alike = refl; same = λ place lone. refl; arguments = refl }

pub near_joins : (keeps : Keeps) (n m : ℕ) (a b c : ℕ → Word) (u v w : World) → n ≤ m → IsNear keeps n a b u v → IsNear keeps m b c v w → IsNear keeps n a c u w
near_joins keeps n m a b c u v w le x y = record {
  kept = λ i lt. y.kept i (omega (arith, le, lt)) ∙ x.kept i lt;
  alike = x.alike ∙ y.alike;
  same = λ place lone. y.same place lone ∙ x.same place lone;
  arguments = y.arguments ∙ x.arguments;
}

pub near_fewer : (keeps : Keeps) (n m : ℕ) (a b : ℕ → Word) (u v : World) → n ≤ m → IsNear keeps m a b u v → IsNear keeps n a b u v
near_fewer keeps n m a b u v le x = record { kept = λ i lt. x.kept i (omega (arith, le, lt)); alike = x.alike; same = x.same; arguments = x.arguments }

-- what gives a word from words
pub gives_word : (k : Scene) (keeps : Keeps) → AreSoundObjects k.objects → IsSoundEnvironment k.environment → (t : Template) (u : Word) → IsSettled keeps k t → Gives k t u → IsWord u
gives_word k keeps os env (Given n) u s g = subst IsWord g s
gives_word k keeps os env (Leaf h) u s g = subst IsSoundAction g (acts_sound k.environment h k.objects env os [] tt)
gives_word k keeps os env (One h a) u s g = subst IsSoundAction g.2 (acts_sound k.environment h k.objects env os (g.0 ∷ []) (gives_word k keeps os env a g.0 s.0 g.1, tt))
gives_word k keeps os env (Two h a b) u s g =
    subst IsSoundAction g.4
    (acts_sound k.environment h k.objects env os (g.0 ∷ g.1 ∷ []) (gives_word k keeps os env a g.0 s.0 g.2, (gives_word k keeps os env b g.1 s.1.0 g.3, tt)))

module _ (keeps : Keeps) (g : BodyRun) (map more : Map) (n : ℕ) (values others : ℕ → Word) (w v : World) (near : IsNear keeps n values others w v) where
  pub leaf_near : (h : Head) (ws : List Word) (u : Word) → IsMild h.operator.op ⊥ → acts g.setting.environment h ws w.objects ≡ Gave u → acts g.setting.environment h ws v.objects ≡ Gave u
  leaf_near h ws u mild e = sym (acts_alike g.setting.environment h ws w.objects v.objects near.alike (mild_still h.operator.op mild)) ∙ e

  pub one_near : (h : Head) (x u : Word) → IsMild h.operator.op (IsApart keeps x) → acts g.setting.environment h (x ∷ []) w.objects ≡ Gave u → acts g.setting.environment h (x ∷ []) v.objects ≡ Gave u
  one_near h x u mild e = ⊎_elim
      (λ q. read_gives g.setting.environment h x u w v q.0 near.alike (λ name offset is. sym (near.same name.place (q.1 name offset is))) e)
      (λ q. sym (acts_alike g.setting.environment h (x ∷ []) w.objects v.objects near.alike q.0) ∙ e)
      (mild_cases h.operator.op (IsApart keeps x) mild)

  pub near_gives : (t : Template) (u : Word) → IsWithin n t → IsSettled keeps (seen g map values w) t → Gives (seen g map values w) t u → Gives (seen g more others v) t u
  near_gives (Given m) u i s e = near.kept m i ∙ e
  near_gives (Leaf h) u i s e = leaf_near h [] u s e
  near_gives (One h a) u i s e =
      (e.0, near_gives a e.0 i s.0 e.1, one_near h e.0 u (mild_map h.operator.op _ (IsApart keeps e.0) (λ f. f e.0 e.1) s.1) e.2)
  near_gives (Two h a b) u i s e =
      (e.0, e.1, near_gives a e.0 i.0 s.0 e.2, near_gives b e.1 i.1 s.1.0 e.3, leaf_near h (e.0 ∷ e.1 ∷ []) u s.1.1 e.4)

  pub near_settled : (t : Template) (u : Word) → IsWithin n t → IsSettled keeps (seen g map values w) t → Gives (seen g map values w) t u → IsSettled keeps (seen g more others v) t
  near_settled (Given m) u i s e = subst IsWord (sym (near.kept m i)) s
  near_settled (Leaf h) u i s e = s
  near_settled (One h a) u i s e = (
    near_settled a e.0 i s.0 e.1,
    mild_map h.operator.op _ _ (λ f x q. subst (IsApart keeps) (gives_once (seen g more others v) a e.0 x (near_gives a e.0 i s.0 e.1) q) (f e.0 e.1)) s.1,
  )
  near_settled (Two h a b) u i s e = (near_settled a e.0 i.0 s.0 e.2, (near_settled b e.1 i.1 s.1.0 e.3, s.1.1))

-- so it holds a value of C still, and is settled
pub near_holds : (keeps : Keeps) (g : BodyRun) (map : Map) (n : ℕ) (values others : ℕ → Word) (w v : World) → IsNear keeps n values others w v → (a : Typed) (u : Value) → IsWithin n a.tree → IsSettled keeps (seen g map values w) a.tree → Holds (seen g map values w) a u
    → Holds (seen g map others v) a u × IsSettled keeps (seen g map others v) a.tree
near_holds keeps g map n values others w v near a u i s h = (
  record { word = h.word; gives = near_gives keeps g map map n values others w v near a.tree h.word i s h.gives; is = h.is },
  near_settled keeps g map map n values others w v near a.tree h.word i s h.gives,
)
