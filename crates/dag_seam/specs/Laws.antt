-- What holds of blocks as they grow: what they do, their runs, and the values of their nodes.
use Rattle.std.specs.Prelude.{◌≡◌, ℕ, ◌+◌, Bool, true, false, Some, List, [], ◌∷◌, ◌++◌, length, slice_get}
use Rattle.forests.specs.Words.{Word, unknown}
use Rattle.forests.specs.Worlds.{World, Point, Move, Went}
use Rattle.forests.specs.Bodies.{Setting, does}
use Rattle.forests.specs.Budgets.{with_left}
use Rattle.forests.specs.Alike.{AreAlike}
use Rattle.forests.specs.Kept.{CallsKeep}
use Rattle.dag_forest.specs.declared.entry.Entry.{Entry}
use Rattle.dag_forest.specs.declared.entry.Entry.TheVariants.{Value, Root}
use Rattle.dag_forest.specs.declared.parts.Parts.{Parts}
use Rattle.dag_forest.specs.Entries.{AreBelow, is_call}
use Rattle.dag_forest.specs.Meaning.{is_end, Leaves, Keeps, Temporary, IsTemporary, Ran, Through, Runs}
use Rattle.dag_forest.specs.declared.act.Act.{Act}
use Rattle.dag_forest.specs.declared.act.Act.TheVariants.{Made, Acts}
use Rattle.dag_forest.specs.Schedules.{at, head_of, operands, is_in, kids_list, in_turn, acts_of}
use Rattle.dag_forest.specs.Tally.{AreDistinct, tally, keys_of, key_behind, AreFormed, node_count, ends}
use Rattle.dag_seam.specs.Ran.{IsOver, IsOn}
use Rattle.dag_seam.specs.Turns.{waiting_behind, waiting, made_behind, made_of, Makes}
use Rattle.dag_seam.specs.Open.{IsNow, Open}

-- ---- what a block does

-- what further entries do stands behind, where what waits is known
abbrev pub TurnsAppend : Type 0
TurnsAppend = (es fs : List Entry) (n : ℕ) (pending : List Act) → in_turn (es ++ fs) n pending ≡ in_turn es n pending ++ in_turn fs (n + node_count es) (waiting_behind es n pending)

abbrev pub WaitingAppend : Type 0
WaitingAppend = (es fs : List Entry) (n : ℕ) (pending : List Act) → waiting_behind (es ++ fs) n pending ≡ waiting_behind fs (n + node_count es) (waiting_behind es n pending)

-- where nothing waits, further entries do these acts, and nothing waits behind them
abbrev pub GoesOn : List Entry → List Entry → List Act → Type 0
GoesOn es fs acts = (in_turn (es ++ fs) 0 [] ≡ in_turn es 0 [] ++ acts) × (waiting (es ++ fs) ≡ [])

abbrev pub NodeGoesOn : Type 0
NodeGoesOn = (es : List Entry) (x : Parts) → waiting es ≡ [] → is_call x.operator.op ≡ false → GoesOn es (Value x ∷ []) (Made (node_count es) x ∷ [])

abbrev pub RootGoesOn : Type 0
RootGoesOn = (es : List Entry) (x : Parts) → waiting es ≡ [] → GoesOn es (Root x ∷ []) (Acts x ∷ [])

-- a call, and a root behind it of which it is an operand
abbrev pub CallGoesOn : Type 0
CallGoesOn =
    (es : List Entry) (c a : Parts) → waiting es ≡ [] → is_call c.operator.op ≡ true → is_in (node_count es) (kids_list a.kids) ≡ true
    → GoesOn es (Value c ∷ Root a ∷ []) (Made (node_count es) c ∷ Acts a ∷ [])

-- ---- nodes by their numbers

abbrev pub KeysAreCounted : Type 0
KeysAreCounted = (es : List Entry) → length (keys_of es) ≡ node_count es

-- each operand is still an earlier node
abbrev pub FormedGoesOn : Type 0
FormedGoesOn = (es : List Entry) → AreFormed es 0 → (x : Parts) → AreBelow (node_count es) x.kids → AreFormed (es ++ Value x ∷ []) 0 × AreFormed (es ++ Root x ∷ []) 0

-- a node that is added has the next number, where no two nodes are equal
abbrev pub NewIsLast : Type 0
NewIsLast = (es : List Entry) (x : Parts) (n : ℕ) → AreDistinct (keys_of (es ++ Value x ∷ [])) → slice_get (keys_of (es ++ Value x ∷ [])) n ≡ Some (key_behind es x) → n ≡ node_count es

abbrev pub NextIsUnmade : Type 0
NextIsUnmade = (es : List Entry) → made_of es (node_count es) ≡ false

-- ---- runs

-- a run goes on with that of further acts
abbrev pub RunsAppend : Type 0
RunsAppend =
    (s : Setting) (keeps : Keeps) (xs ys : List Act) (made : ℕ → Bool) (values : ℕ → Word) (left : ℕ) (w : World) (values1 : ℕ → Word) (left1 : ℕ) (w1 : World) (r : Ran)
    → Runs s keeps xs made values left w (Through values1 (with_left left1 w1)) → Runs s keeps ys (made_behind xs made) values1 left1 w1 r → Runs s keeps (xs ++ ys) made values left w r

-- one that is over is that of further acts, too
abbrev pub RunsStop : Type 0
RunsStop =
    (s : Setting) (keeps : Keeps) (xs ys : List Act) (made : ℕ → Bool) (values : ℕ → Word) (left : ℕ) (w : World) (r : Ran)
    → IsOver r → Runs s keeps xs made values left w r → Runs s keeps (xs ++ ys) made values left w r

-- A run of an open block goes on with that of what further entries do.
abbrev pub BlockRuns : Type 0
BlockRuns =
    (s : Setting) (keeps : Keeps) (es fs : List Entry) (acts : List Act) (left : ℕ) (w : World) (values : ℕ → Word) (left1 : ℕ) (w1 : World) (r : Ran) → GoesOn es fs acts
    → Runs s keeps (in_turn es 0 []) (λ m. false) (λ m. unknown) left w (Through values (with_left left1 w1)) → Runs s keeps acts (made_of es) values left1 w1 r
    → Runs s keeps (in_turn (es ++ fs) 0 []) (λ m. false) (λ m. unknown) left w r

abbrev pub MadeGoesOn : Type 0
MadeGoesOn = (es fs : List Entry) (acts : List Act) → GoesOn es fs acts → made_of (es ++ fs) ≡ made_behind acts (made_of es)

-- Where only nodes that the block makes have temporaries, a run in which unused nodes are made is one of what the block does,
-- with the same values of the nodes that are made.
abbrev pub RunsUsed : Type 0
RunsUsed =
    (s : Setting) (keeps : Keeps) (es : List Entry) (left : ℕ) (w : World) (r : Ran) → ((m : ℕ) (t : Temporary) → keeps m ≡ Some t → Makes m (acts_of es))
    → Runs s keeps (in_turn es 0 []) (λ m. false) (λ m. unknown) left w r
    → (r1 : Ran) × IsOn (λ m. made_behind (acts_of es) (λ k. false) m ≡ true) r r1 × Runs s keeps (acts_of es) (λ m. false) (λ m. unknown) left w r1

-- ---- values of nodes

abbrev pub NoneOpen : Type 0
NoneOpen = (s : Setting) (keeps : Keeps) (values : ℕ → Word) (w : World) → Open s keeps [] values w

-- The node of these parts that is asked for behind the entries, if it is there already and is no call, has the value that its
-- operator gives now.
abbrev pub ValueHolds : Type 0
ValueHolds =
    (s : Setting) (keeps : Keeps) (es : List Entry) (values : ℕ → Word) (w : World) → Open s keeps es values w
    → (x : Parts) (n : ℕ) → slice_get (keys_of es) n ≡ Some (key_behind es x) → is_call x.operator.op ≡ false → IsNow s keeps (made_of es) x values w (values n)

-- a new node may have the value that its operator gives now, or, if it is a call, any value
abbrev pub NodeOpens : Type 0
NodeOpens =
    (s : Setting) (keeps : Keeps) (es : List Entry) → AreFormed es 0 → (values : ℕ → Word) (w : World) → Open s keeps es values w
    → (x : Parts) → AreBelow (node_count es) x.kids → (v : Word) → (is_call x.operator.op ≡ false → IsNow s keeps (made_of es) x values w v)
    → Open s keeps (es ++ Value x ∷ []) (at values (node_count es) v) w

-- the same where it is kept
abbrev pub KeptOpens : Type 0
KeptOpens =
    (s : Setting) (keeps : Keeps) (es : List Entry) → AreFormed es 0 → (values : ℕ → Word) (w : World) → Open s keeps es values w
    → (x : Parts) → AreBelow (node_count es) x.kids → (v : Word) (t : Temporary) → keeps (node_count es) ≡ Some t → IsTemporary s t → (is_call x.operator.op ≡ false → IsNow s keeps (made_of es) x values w v)
    → Open s keeps (es ++ Value x ∷ []) (at values (node_count es) v) (t.put v w)

-- behind a root, where the same objects live, and are the same unless the root ends the stretch
abbrev pub RootHolds : Type 0
RootHolds =
    (s : Setting) (keeps : Keeps) (es : List Entry) (values : ℕ → Word) (w : World) → Open s keeps es values w
    → (x : Parts) (w1 : World) → AreAlike w.objects w1.objects → (ends (tally es).calling x ≡ false → (o : ℕ) → slice_get w1.objects o ≡ slice_get w.objects o)
    → Open s keeps (es ++ Root x ∷ []) values w1

-- The same behind a root that has acted where its operands have their values.
abbrev pub RootActs : Type 0
RootActs =
    (s : Setting) → CallsKeep s.call → (keeps : Keeps) (es : List Entry) (values : ℕ → Word) (w : World) → Open s keeps es values w
    → (x : Parts) (left : ℕ) (vs : List Word) (p : Point) (move : Move) → does s (head_of x) (operands x.kids values) (with_left left w) ≡ Went vs p move → Leaves (is_end x) keeps (made_of es) w p.world
    → Open s keeps (es ++ Root x ∷ []) values p.world

-- Behind a call and a root that uses it, whatever the call's value, where the same objects live.
abbrev pub CallHolds : Type 0
CallHolds =
    (s : Setting) (keeps : Keeps) (es : List Entry) → AreFormed es 0 → (values : ℕ → Word) (w : World) → Open s keeps es values w
    → (c a : Parts) → AreBelow (node_count es) c.kids → is_call c.operator.op ≡ true → is_in (node_count es) (kids_list a.kids) ≡ true → (v : Word) (w1 : World) → AreAlike w.objects w1.objects
    → Open s keeps (es ++ Value c ∷ Root a ∷ []) (at values (node_count es) v) w1
