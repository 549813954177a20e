-- Temporaries that are slots of the frame, of 4 bytes: a word is kept by ASGNI and INDIRI, or ASGNP and INDIRP. An unsigned
-- one goes through CVUI and CVIU, since neither has an unsigned form. A number of 8 or 16 bits is kept in a slot's first
-- bytes, by ASGNC and INDIRC, or ASGNS and INDIRS.
-- Source: Fraser and Hanson, A Retargetable C Compiler, chapters 5 and 12.
use Rattle.std.specs.Prelude.{ℕ, ℤ, List, [], Option, Some, None, is_none}
use Rattle.lcc_base.specs.declared.order.Order.{Order}
use Rattle.objects.specs.declared.byte.Byte.{Byte}
use Rattle.objects.specs.declared.purpose.Purpose.TheVariants.{Assignment}
use Rattle.objects.specs.declared.value.ObjectName.{ObjectName}
use Rattle.objects.specs.declared.value.Value.TheVariants.{Pointer}
use Rattle.objects.specs.declared.width.Width.{Width}
use Rattle.objects.specs.declared.width.Width.TheVariants as width
use Rattle.objects.specs.Values.{bytes_in, bits_in}
use Rattle.objects.specs.Bytes.{known_bytes, number_bytes}
use Rattle.objects.specs.Accesses.{write_cause}
use Rattle.op_forest.specs.declared.op.Op.{Op}
use Rattle.op_forest.specs.declared.op.Op.TheVariants as op
use Rattle.op_forest.specs.declared.suffix.Suffix.{Suffix}
use Rattle.op_forest.specs.declared.suffix.Suffix.TheVariants.{C, S, I, U, P}
use Rattle.op_forest.specs.declared.sym.Sym.TheVariants as sym
use Rattle.op_forest.specs.Nodes.{Head, Leaf}
use Rattle.op_forest.specs.Nodes.{Node as Tree}
use Rattle.op_forest.specs.Nodes.{One as OneTree, Two as TwoTree}
use Rattle.forests.specs.Words.{Word, low_number}
use Rattle.forests.specs.WordBytes.{word_bytes}
use Rattle.forests.specs.Objects.{shapes, stored_through}
use Rattle.forests.specs.Worlds.{with_objects}
pub use Rattle.dag_forest.specs.declared.kind.Kind.{Kind}
pub use Rattle.dag_forest.specs.declared.kind.Kind.TheVariants.{Char, Short, Signed, Unsigned, Address}
use Rattle.dag_forest.specs.Meaning.{Content, WholeWord, LowBits, Temporary}

abbrev pub head : Op → Suffix → Option ℤ → Head
head o x value = record { operator = record { op = o; suffix = x }; sym = sym.Nothing; value = value }

abbrev pub slot_address : ℤ → Tree
slot_address offset = Leaf (head op.Addrl P (Some offset))

abbrev pub slot_read : Kind → ℤ → Tree
slot_read Char offset = OneTree (head op.Indir C None) (slot_address offset)
slot_read Short offset = OneTree (head op.Indir S None) (slot_address offset)
slot_read Signed offset = OneTree (head op.Indir I None) (slot_address offset)
slot_read Unsigned offset = OneTree (head op.Cvi U None) (OneTree (head op.Indir I None) (slot_address offset))
slot_read Address offset = OneTree (head op.Indir P None) (slot_address offset)

abbrev pub slot_store : Kind → ℤ → Tree → Tree
slot_store Char offset t = TwoTree (head op.Asgn C None) (slot_address offset) t
slot_store Short offset t = TwoTree (head op.Asgn S None) (slot_address offset) t
slot_store Signed offset t = TwoTree (head op.Asgn I None) (slot_address offset) t
slot_store Unsigned offset t = TwoTree (head op.Asgn I None) (slot_address offset) (OneTree (head op.Cvu I None) t)
slot_store Address offset t = TwoTree (head op.Asgn P None) (slot_address offset) t

-- what a slot can keep, by what it keeps a node as
abbrev pub content_of : Kind → Content
content_of Char = LowBits (bits_in width.One)
content_of Short = LowBits (bits_in width.Two)
content_of k = WholeWord

-- the bytes of so many low bits, where these are known
abbrev pub known_low : Order → Width → Option ℕ → List (Byte Word)
known_low order w None = []
known_low order w (Some n) = known_bytes (number_bytes order (bytes_in w) n)

-- a word's low bits as bytes
abbrev pub low_bytes : Order → Width → Word → List (Byte Word)
low_bytes order w v = known_low order w (low_number (bits_in w) v)

-- the bytes that a slot keeps of a value
abbrev pub kept_bytes : Order → Kind → Word → List (Byte Word)
kept_bytes order Char v = low_bytes order width.One v
kept_bytes order Short v = low_bytes order width.Two v
kept_bytes order k v = word_bytes order v

-- the slot at this offset, which is an object of this name
abbrev pub slot_temporary : Order → Kind → ObjectName → ℤ → Temporary
slot_temporary order k name offset =
    record {
      object = name.place;
      content = content_of k;
      read = slot_read k offset;
      store = slot_store k offset;
      is_there = λ w. is_none (write_cause Assignment (shapes w.objects) (Pointer name 0) 4 4);
      put = λ v w. with_objects w (stored_through w.objects (Pointer name 0) (kept_bytes order k v));
    }
