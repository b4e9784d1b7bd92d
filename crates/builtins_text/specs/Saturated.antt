-- A long of a number that was counted up to 2^64 - 1.
use Rattle.std.specs.Prelude.{ℕ, pos, neg_ℤ, Option, Result}
use Rattle.base.specs.Answers.{given}
use Rattle.path_tree.specs.Plain.{Plain}
use Rattle.path_tree.specs.Values.{within_64_bits}
use Rattle.path_tree.specs.declared.refused.Refused.{Refused}
use Rattle.path_tree.specs.declared.refused.Refused.TheVariants.{BadArgument}

abbrev pub below : Option ℕ → Result Plain Refused
below number = given BadArgument number (λ n. within_64_bits (neg_ℤ (pos n)))

abbrev pub above : Option ℕ → Result Plain Refused
above number = given BadArgument number (λ n. within_64_bits (pos n))
