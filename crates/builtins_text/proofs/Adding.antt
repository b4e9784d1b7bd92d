-- Texts that are added one after the other.
use Rattle.std.proofs.Common.{◌≡◌, ℕ, List, ◌++◌, append_assoc, Option, None, Some, refl, ap, ◌∙◌}
use Rattle.call_values.specs.Drafts.{Adds, drafted}
use Rattle.builtins_text.specs.Writing.{Writes}

pub adds_more : (o m n : Option (List ℕ)) (a b : List ℕ) → Adds o m a → Adds m n b
    → Adds o n (a ++ b)
adds_more o m n a b first second w e =
    second (w ++ a) (first w e) ∙ ap drafted (append_assoc w a b)

-- one text, and then two
pub adds_one_two : (o m n p : Option (List ℕ)) (a b c : List ℕ) → Adds o m a → Adds m n b
    → Adds n p c → Adds o p (a ++ (b ++ c))
adds_one_two o m n p a b c first second third =
    adds_more o m p a (b ++ c) first (adds_more m n p b c second third)

-- two texts, and then one
pub adds_two_one : (o m n p : Option (List ℕ)) (a b c : List ℕ) → Adds o m a → Adds m n b
    → Adds n p c → Adds o p ((a ++ b) ++ c)
adds_two_one o m n p a b c first second third =
    adds_more o n p (a ++ b) c (adds_more o m n a b first second) third

-- what was added where there is a text
pub added : (text old new : Option (List ℕ)) → Writes text old new
    → (t : List ℕ) × (text ≡ Some t) × Adds old new t
added None old new written = absurd written
added (Some t) old new written = (t, refl, written)
