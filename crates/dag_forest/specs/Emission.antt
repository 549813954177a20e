-- The trees of what a block does, where some nodes are kept, and when each has the value of its node.
use Rattle.std.specs.Prelude.{◌≡◌, ℕ, Bool, true, false, Option, Some, None, List, [], ◌∷◌}
use Rattle.op_forest.specs.declared.op.Op.TheVariants as op
use Rattle.op_forest.specs.declared.suffix.Suffix.TheVariants as suffix
use Rattle.op_forest.specs.declared.sym.Sym.TheVariants as sym
use Rattle.op_forest.specs.Nodes.{Head, Leaf}
use Rattle.op_forest.specs.Nodes.{Node as Tree}
use Rattle.op_forest.specs.Nodes.{One as OneTree, Two as TwoTree}
use Rattle.dag_forest.specs.declared.kids.Kids.{Kids}
use Rattle.dag_forest.specs.declared.kids.Kids.TheVariants.{Zero, One, Two}
use Rattle.dag_forest.specs.declared.parts.Parts.{Parts}
use Rattle.dag_forest.specs.Entries.{is_call, is_read}
use Rattle.dag_forest.specs.Schedules.{Act, Made, Acts, head_of, at}
use Rattle.dag_forest.specs.Meaning.{Temporary, Keeps, is_end, is_handing}

abbrev pub tree_by : (ℕ → Tree) → Head → Kids → Tree
tree_by ts h Zero = Leaf h
tree_by ts h (One a) = OneTree h (ts a)
tree_by ts h (Two a c) = TwoTree h (ts a) (ts c)

abbrev pub tree_at : (ℕ → Tree) → Parts → Tree
tree_at ts x = tree_by ts (head_of x) x.kids

abbrev pub emitted : Option Temporary → Tree → (Tree → List Tree) → List Tree
emitted None t go = go t
emitted (Some x) t go = x.store t ∷ go x.read

-- a tree where no node is made
abbrev pub no_tree : Tree
no_tree = Leaf (record { operator = record { op = op.Cnst; suffix = suffix.I }; sym = sym.Nothing; value = None })

-- the trees of the acts, before these: a node that is kept is stored where it is made, and read from its temporary elsewhere
abbrev pub emit : Keeps → List Act → (ℕ → Tree) → List Tree → List Tree
emit keeps [] ts rest = rest
emit keeps (Made n x ∷ as') ts rest = emitted (keeps n) (tree_at ts x) (λ t. emit keeps as' (at ts n t) rest)
emit keeps (Acts x ∷ as') ts rest = tree_at ts x ∷ emit keeps as' ts rest

-- where a node's tree may stand: nowhere any more, in the open stretch, or anywhere
pub data Use : Type 0 where
  Lost : Use
  Now : Use
  Stable : Use

abbrev pub IsUsable : Use → Type 0
IsUsable Lost = ⊥
IsUsable Now = Unit {0}
IsUsable Stable = Unit {0}

abbrev pub fade : Use → Use
fade Lost = Lost
fade Now = Lost
fade Stable = Stable

abbrev pub least : Use → Use → Use
least Stable y = y
least Now Stable = Now
least Now y = y
least Lost y = Lost

abbrev pub kids_use : (ℕ → Use) → Kids → Use
kids_use uses Zero = Stable
kids_use uses (One a) = uses a
kids_use uses (Two a c) = least (uses a) (uses c)

abbrev pub read_use : Bool → Use → Use
read_use true Stable = Now
read_use r u = u

abbrev pub faded : Bool → Use → Use
faded true u = fade u
faded false u = u

abbrev pub kept_use : Option Temporary → Use → Use
kept_use None u = u
kept_use (Some t) u = Stable

-- a node that is kept finds its operands
abbrev pub IsMade : Use → Option Temporary → Type 0
IsMade u None = Unit {0}
IsMade u (Some t) = IsUsable u

-- A root takes a call as its last operand alone, and its other operand finds its tree before the call.
abbrev pub Takes : ℕ → (ℕ → Use) → Kids → Type 0
Takes n uses Zero = ⊥
Takes n uses (One a) = a ≡ n
Takes n uses (Two a c) = (c ≡ n) × (a ≡ n → ⊥) × IsUsable (uses a)

-- by whether a call is handed to the root behind it
abbrev pub HoldsMade : Bool → Type 0 → Type 0 → Type 0
HoldsMade true handed other = handed
HoldsMade false handed other = other

-- the acts hold so behind this call, which isn't kept and which a root has to take, or behind anything else
abbrev pub HoldsBehind : Option ℕ → Keeps → List Act → (ℕ → Use) → Type 0
HoldsBehind None keeps [] uses = Unit {0}
HoldsBehind (Some c) keeps [] uses = ⊥
HoldsBehind None keeps (Made n x ∷ as') uses =
    HoldsMade (is_handing (is_call x.operator.op) (keeps n))
    (IsUsable (kids_use uses x.kids) × HoldsBehind (Some n) keeps as' uses)
    (IsMade (kids_use uses x.kids) (keeps n) × HoldsBehind None keeps as' (at (λ m. faded (is_call x.operator.op) (uses m)) n (kept_use (keeps n) (read_use (is_read x.operator.op) (kids_use uses x.kids)))))
HoldsBehind (Some c) keeps (Made n x ∷ as') uses = ⊥
HoldsBehind None keeps (Acts x ∷ as') uses = IsUsable (kids_use uses x.kids) × HoldsBehind None keeps as' (λ m. faded (is_end x) (uses m))
HoldsBehind (Some c) keeps (Acts x ∷ as') uses = Takes c uses x.kids × HoldsBehind None keeps as' (λ m. faded (is_end x) (at (λ k. fade (uses k)) c Lost m))

-- Each use stands in the stretch of the reads below it that aren't kept; and a call that isn't kept is the last operand of the
-- root right behind it, and of nothing else.
abbrev pub Holds : Keeps → List Act → (ℕ → Use) → Type 0
Holds keeps as' uses = HoldsBehind None keeps as' uses

-- each node is made once
abbrev pub AreOnce : List Act → (ℕ → Bool) → Type 0
AreOnce [] made = Unit {0}
AreOnce (Made n x ∷ as') made = (made n ≡ false) × AreOnce as' (at made n true)
AreOnce (Acts x ∷ as') made = AreOnce as' made

-- no two nodes have one temporary
abbrev pub Distinct : Keeps → Type 0
Distinct keeps = (m p : ℕ) (t u : Temporary) → keeps m ≡ Some t → keeps p ≡ Some u → t.object ≡ u.object → m ≡ p
