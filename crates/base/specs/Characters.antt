-- The ASCII characters that rules name, each as its byte.
use Rattle.std.specs.Prelude.{ℕ}

abbrev pub line_feed : ℕ
line_feed = 10

abbrev pub plus_sign : ℕ
plus_sign = 43

abbrev pub minus_sign : ℕ
minus_sign = 45

abbrev pub dot : ℕ
dot = 46

abbrev pub slash : ℕ
slash = 47

abbrev pub digit_0 : ℕ
digit_0 = 48

abbrev pub digit_1 : ℕ
digit_1 = 49

abbrev pub digit_7 : ℕ
digit_7 = 55

abbrev pub digit_9 : ℕ
digit_9 = 57

abbrev pub colon : ℕ
colon = 58

abbrev pub upper_A : ℕ
upper_A = 65

abbrev pub upper_F : ℕ
upper_F = 70

abbrev pub upper_Z : ℕ
upper_Z = 90

abbrev pub underscore : ℕ
underscore = 95

abbrev pub lower_a : ℕ
lower_a = 97

abbrev pub lower_f : ℕ
lower_f = 102

abbrev pub lower_x : ℕ
lower_x = 120

abbrev pub lower_z : ℕ
lower_z = 122

abbrev pub open_brace : ℕ
open_brace = 123

abbrev pub close_brace : ℕ
close_brace = 125
