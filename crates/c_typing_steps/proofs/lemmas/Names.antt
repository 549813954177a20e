-- Of each name in a tree: what holds of each still does where it implies something else, and between states further apart.
use Rattle.std.specs.Prelude.{Option, Some, None, IfSome, List, [], ◌∷◌, ◌++◌}
use Rattle.c_types.specs.CType.{CType}
use Rattle.c_meaning.specs.declared.core_expr.CoreKind.{CoreKind}
use Rattle.c_meaning.specs.declared.core_expr.CoreKind.TheVariants as kind
use Rattle.c_meaning.specs.CoreTrees.{Core, NoCore, Cores}
use Rattle.c_meaning.specs.State.{State}
use Rattle.c_meaning.specs.StmtTrees.{FilledOf, StmtOf, Nothing, Expression, Initialise, Block, If, While, Do, For, Switch, Label, Goto, Break, Continue, Return, StmtsOf, NoStmt, Stmts}
use Rattle.c_meaning.specs.Values.{CoreTree, CoreTrees}
use Rattle.c_typing_steps.specs.Names.{EachName, EachNameIn, EachNameInAll, EachNameOf, EachNameStored, IfName, Stands, StandsFor}
use Rattle.c_typing_steps.specs.Steps.{Steps, Go}

-- of a name, what is said of it
abbrev pub Name : Type 1
Name = CoreKind → CType → Type 0

abbrev pub Implies : Name → Name → Type 0
Implies P Q = (what : CoreKind) (of : CType) → P what of → Q what of

pub if_more : (P Q : Name) → Implies P Q → (what : CoreKind) (of : CType) → IfName P what of → IfName Q what of
if_more P Q f (kind.Local place register) of h = f (kind.Local place register) of h
if_more P Q f (kind.Symbol id) of h = f (kind.Symbol id) of h
if_more P Q f (kind.Literal bytes) of h = f (kind.Literal bytes) of h
if_more P Q f what of h = tt

mutual
  pub each_more : (P Q : Name) → Implies P Q → (c : CoreTree) → EachName P c → EachName Q c
  each_more P Q f (Core what of line kids) h = (if_more P Q f what of h.0, all_more P Q f kids h.1)

  pub all_more : (P Q : Name) → Implies P Q → (cs : CoreTrees) → EachNameOf P cs → EachNameOf Q cs
  all_more P Q f NoCore h = tt
  all_more P Q f (Cores c cs) h = (each_more P Q f c h.0, all_more P Q f cs h.1)

pub stored_more : (P Q : Name) → Implies P Q → (ps : List (FilledOf CType)) → EachNameStored P ps → EachNameStored Q ps
stored_more P Q f [] h = tt
stored_more P Q f (p ∷ ps) h = (each_more P Q f p.value h.0, stored_more P Q f ps h.1)

pub stored_append : (P : Name) (ps qs : List (FilledOf CType)) → EachNameStored P ps → EachNameStored P qs → EachNameStored P (ps ++ qs)
stored_append P [] qs h k = k
stored_append P (p ∷ ps) qs h k = (h.0, stored_append P ps qs h.1 k)

pub maybe_more : (P Q : Name) → Implies P Q → (o : Option CoreTree) → IfSome o (EachName P) → IfSome o (EachName Q)
maybe_more P Q f None h = tt
maybe_more P Q f (Some c) h = each_more P Q f c h

mutual
  pub each_more_in : (P Q : Name) → Implies P Q → (s : StmtOf CType) → EachNameIn P s → EachNameIn Q s
  each_more_in P Q f Nothing h = tt
  each_more_in P Q f (Expression e) h = each_more P Q f e h
  each_more_in P Q f (Initialise local zero ps) h = stored_more P Q f ps h
  each_more_in P Q f (Block first locals ss) h = all_more_in P Q f ss h
  each_more_in P Q f (If e s t) h = (each_more P Q f e h.0, (each_more_in P Q f s h.1.0, each_more_in P Q f t h.1.1))
  each_more_in P Q f (While e s) h = (each_more P Q f e h.0, each_more_in P Q f s h.1)
  each_more_in P Q f (Do s e) h = (each_more_in P Q f s h.0, each_more P Q f e h.1)
  each_more_in P Q f (For a b c s) h = (maybe_more P Q f a h.0, (maybe_more P Q f b h.1.0, (maybe_more P Q f c h.1.1.0, each_more_in P Q f s h.1.1.1)))
  each_more_in P Q f (Switch e cases default s) h = (each_more P Q f e h.0, each_more_in P Q f s h.1)
  each_more_in P Q f (Label n s) h = each_more_in P Q f s h
  each_more_in P Q f (Goto n) h = tt
  each_more_in P Q f Break h = tt
  each_more_in P Q f Continue h = tt
  each_more_in P Q f (Return e) h = maybe_more P Q f e h

  pub all_more_in : (P Q : Name) → Implies P Q → (ss : StmtsOf CType) → EachNameInAll P ss → EachNameInAll Q ss
  all_more_in P Q f NoStmt h = tt
  all_more_in P Q f (Stmts s ss) h = (each_more_in P Q f s h.0, all_more_in P Q f ss h.1)

-- ---- states further apart

pub stands_between : (s t u v : State) → Steps s t → Steps u v → (what : CoreKind) (of : CType) → Stands t u what of → Stands s v what of
stands_between s t u v f g what of h =
    record {
      at = h.at;
      before = Go f h.before;
      behind = Go h.behind g;
      name = h.name;
      is = h.is;
      id = h.id;
      found = h.found;
      means = h.means;
      type = h.type;
    }

pub between : (s t u v : State) → Steps s t → Steps u v → Implies (StandsFor t u) (StandsFor s v)
between s t u v f g (kind.Literal bytes) of h = h
between s t u v f g what of h = stands_between s t u v f g what of h

pub each_between : (s t u v : State) (c : CoreTree) → Steps s t → Steps u v → EachName (StandsFor t u) c → EachName (StandsFor s v) c
each_between s t u v c f g h = each_more (StandsFor t u) (StandsFor s v) (between s t u v f g) c h

pub all_between : (s t u v : State) (cs : CoreTrees) → Steps s t → Steps u v → EachNameOf (StandsFor t u) cs → EachNameOf (StandsFor s v) cs
all_between s t u v cs f g h = all_more (StandsFor t u) (StandsFor s v) (between s t u v f g) cs h

pub stored_between : (s t u v : State) (ps : List (FilledOf CType)) → Steps s t → Steps u v → EachNameStored (StandsFor t u) ps → EachNameStored (StandsFor s v) ps
stored_between s t u v ps f g h = stored_more (StandsFor t u) (StandsFor s v) (between s t u v f g) ps h
