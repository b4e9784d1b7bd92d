-- A shelf that tells nothing goes on telling nothing.
use Rattle.std.proofs.Common.{◌≡◌, Bool, true, false, List, ℕ, Option, None, if◌then◌else◌, refl}
use Rattle.outside.specs.Cells.{with_content}

pub silent_if : (b : Bool) (content : Option (List ℕ)) → None
    ≡ (if b then with_content content None else None)
silent_if true content = refl
silent_if false content = refl
