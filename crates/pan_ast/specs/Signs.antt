-- The ASCII characters that the rules of the language name, each as its byte; those of the base
-- crate beside it.
use Rattle.std.specs.Prelude.{ℕ}

abbrev pub backspace : ℕ
backspace = 8

abbrev pub tab : ℕ
tab = 9

abbrev pub form_feed : ℕ
form_feed = 12

abbrev pub carriage_return : ℕ
carriage_return = 13

abbrev pub space : ℕ
space = 32

abbrev pub exclamation_mark : ℕ
exclamation_mark = 33

abbrev pub double_quote : ℕ
double_quote = 34

abbrev pub number_sign : ℕ
number_sign = 35

abbrev pub percent_sign : ℕ
percent_sign = 37

abbrev pub ampersand : ℕ
ampersand = 38

abbrev pub single_quote : ℕ
single_quote = 39

abbrev pub open_parenthesis : ℕ
open_parenthesis = 40

abbrev pub semicolon : ℕ
semicolon = 59

abbrev pub less_sign : ℕ
less_sign = 60

abbrev pub equals_sign : ℕ
equals_sign = 61

abbrev pub question_mark : ℕ
question_mark = 63

abbrev pub at_sign : ℕ
at_sign = 64

abbrev pub upper_E : ℕ
upper_E = 69

abbrev pub open_bracket : ℕ
open_bracket = 91

abbrev pub backslash : ℕ
backslash = 92

abbrev pub close_bracket : ℕ
close_bracket = 93

abbrev pub caret : ℕ
caret = 94

abbrev pub lower_b : ℕ
lower_b = 98

abbrev pub lower_e : ℕ
lower_e = 101

abbrev pub lower_n : ℕ
lower_n = 110

abbrev pub lower_r : ℕ
lower_r = 114

abbrev pub lower_t : ℕ
lower_t = 116

abbrev pub vertical_bar : ℕ
vertical_bar = 124

abbrev pub tilde : ℕ
tilde = 126
