-- The operators and punctuators of C that are no words, in the order in which they are numbered from 0.
-- Source: C89 3.1.5 and 3.1.6.
use Rattle.std.specs.Prelude.{ℕ, List, [], ◌∷◌, Option, codes}
use Rattle.std.specs.List.{position_from}
use Rattle.std.specs.Str.{bytes_eq}

abbrev pub signs : List (List ℕ)
signs =
    codes "[" ∷ codes "]" ∷ codes "(" ∷ codes ")" ∷ codes "{" ∷ codes "}" ∷ codes "." ∷ codes "->" ∷ codes "++"
    ∷ codes "--" ∷ codes "&" ∷ codes "*" ∷ codes "+" ∷ codes "-" ∷ codes "~" ∷ codes "!" ∷ codes "/" ∷ codes "%"
    ∷ codes "<<" ∷ codes ">>" ∷ codes "<" ∷ codes ">" ∷ codes "<=" ∷ codes ">=" ∷ codes "==" ∷ codes "!="
    ∷ codes "^" ∷ codes "|" ∷ codes "&&" ∷ codes "||" ∷ codes "?" ∷ codes ":" ∷ codes ";" ∷ codes "..."
    ∷ codes "=" ∷ codes "*=" ∷ codes "/=" ∷ codes "%=" ∷ codes "+=" ∷ codes "-=" ∷ codes "<<=" ∷ codes ">>="
    ∷ codes "&=" ∷ codes "^=" ∷ codes "|=" ∷ codes "," ∷ []

-- the number of the sign that is spelled so
abbrev pub sign_of : List ℕ → Option ℕ
sign_of text = position_from (bytes_eq text) 0 signs

-- ---- their numbers by names

abbrev pub open_bracket : ℕ
open_bracket = 0

abbrev pub close_bracket : ℕ
close_bracket = 1

abbrev pub open_parenthesis : ℕ
open_parenthesis = 2

abbrev pub close_parenthesis : ℕ
close_parenthesis = 3

abbrev pub open_brace : ℕ
open_brace = 4

abbrev pub close_brace : ℕ
close_brace = 5

abbrev pub dot_sign : ℕ
dot_sign = 6

abbrev pub arrow_sign : ℕ
arrow_sign = 7

abbrev pub increment_sign : ℕ
increment_sign = 8

abbrev pub decrement_sign : ℕ
decrement_sign = 9

abbrev pub ampersand : ℕ
ampersand = 10

abbrev pub star_sign : ℕ
star_sign = 11

abbrev pub plus_sign : ℕ
plus_sign = 12

abbrev pub minus_sign : ℕ
minus_sign = 13

abbrev pub tilde : ℕ
tilde = 14

abbrev pub exclamation_mark : ℕ
exclamation_mark = 15

abbrev pub slash : ℕ
slash = 16

abbrev pub percent_sign : ℕ
percent_sign = 17

abbrev pub shift_left_sign : ℕ
shift_left_sign = 18

abbrev pub shift_right_sign : ℕ
shift_right_sign = 19

abbrev pub less_sign : ℕ
less_sign = 20

abbrev pub greater_sign : ℕ
greater_sign = 21

abbrev pub less_equal_sign : ℕ
less_equal_sign = 22

abbrev pub greater_equal_sign : ℕ
greater_equal_sign = 23

abbrev pub equal_sign : ℕ
equal_sign = 24

abbrev pub not_equal_sign : ℕ
not_equal_sign = 25

abbrev pub caret : ℕ
caret = 26

abbrev pub bar : ℕ
bar = 27

abbrev pub and_sign : ℕ
and_sign = 28

abbrev pub or_sign : ℕ
or_sign = 29

abbrev pub question_mark : ℕ
question_mark = 30

abbrev pub colon_sign : ℕ
colon_sign = 31

abbrev pub semicolon : ℕ
semicolon = 32

abbrev pub ellipsis : ℕ
ellipsis = 33

abbrev pub equals_sign : ℕ
equals_sign = 34

abbrev pub star_equals : ℕ
star_equals = 35

abbrev pub slash_equals : ℕ
slash_equals = 36

abbrev pub percent_equals : ℕ
percent_equals = 37

abbrev pub plus_equals : ℕ
plus_equals = 38

abbrev pub minus_equals : ℕ
minus_equals = 39

abbrev pub shift_left_equals : ℕ
shift_left_equals = 40

abbrev pub shift_right_equals : ℕ
shift_right_equals = 41

abbrev pub ampersand_equals : ℕ
ampersand_equals = 42

abbrev pub caret_equals : ℕ
caret_equals = 43

abbrev pub bar_equals : ℕ
bar_equals = 44

abbrev pub comma_sign : ℕ
comma_sign = 45
