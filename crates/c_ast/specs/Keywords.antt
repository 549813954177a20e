-- The keywords of C, in alphabetical order, by which they are numbered from 0.
-- Source: C89 3.1.1.
use Rattle.std.specs.Prelude.{ℕ, List, [], ◌∷◌, Option, codes}
use Rattle.std.specs.List.{position_from}
use Rattle.std.specs.Str.{bytes_eq}

abbrev pub keywords : List (List ℕ)
keywords =
    codes "auto" ∷ codes "break" ∷ codes "case" ∷ codes "char" ∷ codes "const" ∷ codes "continue" ∷ codes "default"
    ∷ codes "do" ∷ codes "double" ∷ codes "else" ∷ codes "enum" ∷ codes "extern" ∷ codes "float" ∷ codes "for"
    ∷ codes "goto" ∷ codes "if" ∷ codes "int" ∷ codes "long" ∷ codes "register" ∷ codes "return" ∷ codes "short"
    ∷ codes "signed" ∷ codes "sizeof" ∷ codes "static" ∷ codes "struct" ∷ codes "switch" ∷ codes "typedef"
    ∷ codes "union" ∷ codes "unsigned" ∷ codes "void" ∷ codes "volatile" ∷ codes "while" ∷ []

-- the number of the keyword that is spelled so
abbrev pub keyword_of : List ℕ → Option ℕ
keyword_of word = position_from (bytes_eq word) 0 keywords

-- ---- their numbers by names

abbrev pub auto_word : ℕ
auto_word = 0

abbrev pub break_word : ℕ
break_word = 1

abbrev pub case_word : ℕ
case_word = 2

abbrev pub char_word : ℕ
char_word = 3

abbrev pub const_word : ℕ
const_word = 4

abbrev pub continue_word : ℕ
continue_word = 5

abbrev pub default_word : ℕ
default_word = 6

abbrev pub do_word : ℕ
do_word = 7

abbrev pub double_word : ℕ
double_word = 8

abbrev pub else_word : ℕ
else_word = 9

abbrev pub enum_word : ℕ
enum_word = 10

abbrev pub extern_word : ℕ
extern_word = 11

abbrev pub float_word : ℕ
float_word = 12

abbrev pub for_word : ℕ
for_word = 13

abbrev pub goto_word : ℕ
goto_word = 14

abbrev pub if_word : ℕ
if_word = 15

abbrev pub int_word : ℕ
int_word = 16

abbrev pub long_word : ℕ
long_word = 17

abbrev pub register_word : ℕ
register_word = 18

abbrev pub return_word : ℕ
return_word = 19

abbrev pub short_word : ℕ
short_word = 20

abbrev pub signed_word : ℕ
signed_word = 21

abbrev pub sizeof_word : ℕ
sizeof_word = 22

abbrev pub static_word : ℕ
static_word = 23

abbrev pub struct_word : ℕ
struct_word = 24

abbrev pub switch_word : ℕ
switch_word = 25

abbrev pub typedef_word : ℕ
typedef_word = 26

abbrev pub union_word : ℕ
union_word = 27

abbrev pub unsigned_word : ℕ
unsigned_word = 28

abbrev pub void_word : ℕ
void_word = 29

abbrev pub volatile_word : ℕ
volatile_word = 30

abbrev pub while_word : ℕ
while_word = 31
