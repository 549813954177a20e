-- The keywords that begin statements.
use Rattle.std.proofs.Common.{◌≡◌, ℕ, true, false, Some, List, [], ◌∷◌, refl, ap, ◌∙◌}
use Rattle.c_ast.specs.Lexemes.{Lexeme, Name, Keyword, Integer, Character, Text, Sign, Placed}
use Rattle.c_ast.specs.Marks.{Mark, Tok, IsLabel, first_is, first_two, is_name, is_sign, is_keyword, lexemes}
use Rattle.c_readings.specs.Reading.{State, answer, tail}
use Rattle.c_readings.specs.StatementReaders.{StatementWord, CaseWord, DefaultWord, IfWord, SwitchWord, WhileWord, DoWord, ForWord, GotoWord, ContinueWord, BreakWord, ReturnWord, statement_word, word_as, word_at}
use Rattle.c_readings.specs.Exact.{RunsOn}
use Rattle.c_readings.proofs.Steps.{Takes, same_number}
use Rattle.c_readings.proofs.Links.{by_one}

abbrev pub number_of : StatementWord → ℕ
number_of BreakWord = 1
number_of CaseWord = 2
number_of ContinueWord = 5
number_of DefaultWord = 6
number_of DoWord = 7
number_of ForWord = 13
number_of GotoWord = 14
number_of IfWord = 15
number_of ReturnWord = 19
number_of SwitchWord = 25
number_of WhileWord = 31

word_known : (w : StatementWord) → statement_word (number_of w) ≡ Some w
word_known BreakWord = refl
word_known CaseWord = refl
word_known ContinueWord = refl
word_known DefaultWord = refl
word_known DoWord = refl
word_known ForWord = refl
word_known GotoWord = refl
word_known IfWord = refl
word_known ReturnWord = refl
word_known SwitchWord = refl
word_known WhileWord = refl

word_number : (k : ℕ) (w : StatementWord) → statement_word k ≡ Some w → k ≡ number_of w
word_number k w h =
    by_one number_of k 1 BreakWord w _ refl h (λ h1.
    by_one number_of k 2 CaseWord w _ refl h1 (λ h2.
    by_one number_of k 5 ContinueWord w _ refl h2 (λ h3.
    by_one number_of k 6 DefaultWord w _ refl h3 (λ h4.
    by_one number_of k 7 DoWord w _ refl h4 (λ h5.
    by_one number_of k 13 ForWord w _ refl h5 (λ h6.
    by_one number_of k 14 GotoWord w _ refl h6 (λ h7.
    by_one number_of k 15 IfWord w _ refl h7 (λ h8.
    by_one number_of k 19 ReturnWord w _ refl h8 (λ h9.
    by_one number_of k 25 SwitchWord w _ refl h9 (λ h10.
    by_one number_of k 31 WhileWord w _ refl h10 (λ h11.
    absurd cc)))))))))))

word_is : (l : Lexeme) (w : StatementWord) → word_as l ≡ Some w → l ≡ Keyword (number_of w)
word_is (Keyword k) w h = ap Keyword (word_number k w h)
word_is (Name n) w h = absurd cc
word_is (Integer v k) w h = absurd cc
word_is (Character v) w h = absurd cc
word_is (Text b) w h = absurd cc
word_is (Sign k) w h = absurd cc

-- a word that is next is its keyword
pub word_taken : (ts : List Placed) (w : StatementWord) → word_at ts ≡ Some w → Takes ts (Keyword (number_of w)) (tail ts)
word_taken [] w h = absurd cc
word_taken (t ∷ ts) w h = (t.line, ap (λ l. record { lexeme = l; line = t.line } ∷ ts) (word_is t.lexeme w h))

keyword_is : (k : ℕ) (l : Lexeme) → is_keyword k l ≡ true → l ≡ Keyword k
keyword_is k (Keyword j) h = ap Keyword (same_number j k h)
keyword_is k (Name n) h = absurd cc
keyword_is k (Integer v j) h = absurd cc
keyword_is k (Character v) h = absurd cc
keyword_is k (Text b) h = absurd cc
keyword_is k (Sign j) h = absurd cc

-- a keyword that is asked for is next
pub keyword_taken : (k : ℕ) (ts : List Placed) → first_is (is_keyword k) (lexemes ts) ≡ true → Takes ts (Keyword k) (tail ts)
keyword_taken k [] h = absurd cc
keyword_taken k (t ∷ ts) h = (t.line, ap (λ l. record { lexeme = l; line = t.line } ∷ ts) (keyword_is k t.lexeme h))

-- a name and `:` are not next where a keyword is
pub keyword_no_label : (k : ℕ) (m : List Mark) (s : State) → RunsOn (Tok (Keyword k) ∷ m) s → answer IsLabel s ≡ false
keyword_no_label k m s h = ap (λ ts. first_two is_name (is_sign 31) (lexemes ts)) h.2

-- the keyword of a word among the marks is the word that is next
pub word_next : (k : StatementWord) (m : List Mark) (s : State) → RunsOn (Tok (Keyword (number_of k)) ∷ m) s → word_at s.rest ≡ Some k
word_next k m s h = ap word_at h.2 ∙ word_known k
