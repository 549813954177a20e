-- A lowered unit: the functions, the objects and the names of a translation unit as forests and bytes, and what it
-- keeps of them.
-- Source: Fraser and Hanson, A Retargetable C Compiler, chapter 5 (the interface of front and back end).
use Rattle.std.specs.Prelude.{◌≡◌, ◌≢◌, ℕ, ◌<◌, ◌-◌, Some, IsSomeAnd, IsTrue, IsFalse, Bool, ◌==◌, ◌||◌, List, ◌++◌, length, map, All, Any, sum_by, slice_get, codes}
use Rattle.std.specs.Char.{is_ascii_digit, is_ascii_alphabetic}
use Rattle.lcc_base.specs.declared.order.Order.{Order}
use Rattle.lburg_model.specs.Description.{AreDistinct}
use Rattle.op_forest.specs.declared.sym.Sym.{Sym}
use Rattle.op_forest.specs.declared.sym.Sym.TheVariants as sym
use Rattle.op_forest.specs.declared.lowered.LoweredFunction.{LoweredFunction}
use Rattle.op_forest.specs.declared.lowered.LoweredObject.{LoweredObject}
use Rattle.op_forest.specs.declared.lowered.Datum.{Datum}
use Rattle.op_forest.specs.declared.lowered.Datum.TheVariants as datum
use Rattle.op_forest.specs.Nodes.{Node, head_of}
use Rattle.op_forest.specs.EachNode.{AtEachNode}
use Rattle.op_forest.specs.Labels.{label_of}

-- Functions and objects in order, each with its name's place among the names; the names; and the order of bytes in
-- memory.
pub record LoweredUnit : Type 0 where
  pub functions : List LoweredFunction
  pub objects : List LoweredObject
  pub names : List (List ℕ)
  pub order : Order

-- what a name of assembly text is made of: letters, digits, `_` (95) and `.` (46)
abbrev pub is_symbol : ℕ → Bool
is_symbol b = ((is_ascii_alphabetic b || is_ascii_digit b) || b == 95) || b == 46

-- A name of assembly text, which begins with no digit and begins and ends with no dot (46). It isn't `L.` with digits
-- behind it, as the labels of functions are.
pub record IsUnitName (name : List ℕ) : Type 0 where
  pub symbols : All (λ b. IsTrue (is_symbol b)) name
  pub begins : IsSomeAnd (slice_get name 0) (λ b. IsFalse (is_ascii_digit b) × (b ≢ 46))
  pub ends : IsSomeAnd (slice_get name (length name - 1)) (λ b. b ≢ 46)
  pub apart : (digits : List ℕ) → All (λ b. IsTrue (is_ascii_digit b)) digits → name ≢ codes "L." ++ digits

-- the label is one of the roots
abbrev pub HasLabel : List Node → ℕ → Type 0
HasLabel roots label = Any (λ t. label_of t ≡ Some label) roots

abbrev pub HasName : LoweredUnit → ℕ → Type 0
HasName u name = name < length u.names

-- what a symbol in a forest of these roots names is there
abbrev pub IsKnown : LoweredUnit → List Node → Sym → Type 0
IsKnown u roots (sym.Global name offset) = HasName u name
IsKnown u roots (sym.Label label) = HasLabel roots label
IsKnown u roots x = Unit {0}

pub record IsFunctionOf (u : LoweredUnit) (f : LoweredFunction) : Type 0 where
  pub name : HasName u f.name
  pub symbols : All (AtEachNode (λ t. IsKnown u f.forest.roots (head_of t).sym)) f.forest.roots

-- how many bytes an item takes
abbrev pub size_of : Datum → ℕ
size_of (datum.Bytes bytes) = length bytes
size_of (datum.Name name offset) = 4
size_of (datum.Label function label) = 4
size_of (datum.Zero n) = n

-- what an item names is there
abbrev pub IsDatumOf : LoweredUnit → Datum → Type 0
IsDatumOf u (datum.Name name offset) = HasName u name
IsDatumOf u (datum.Label function label) = IsSomeAnd (slice_get u.functions function) (λ f. HasLabel f.forest.roots label)
IsDatumOf u d = Unit {0}

pub record IsObjectOf (u : LoweredUnit) (o : LoweredObject) : Type 0 where
  pub name : HasName u o.name
  pub items : All (IsDatumOf u) o.items
  pub size : sum_by size_of o.items ≡ o.size

-- the names of the functions and objects
abbrev pub own_names : LoweredUnit → List ℕ
own_names u = map (λ f. f.name) u.functions ++ map (λ o. o.name) u.objects

pub record IsLowered (u : LoweredUnit) : Type 0 where
  pub distinct : AreDistinct u.names
  pub names : All IsUnitName u.names
  pub owners : AreDistinct (own_names u)
  pub functions : All (IsFunctionOf u) u.functions
  pub objects : All (IsObjectOf u) u.objects
