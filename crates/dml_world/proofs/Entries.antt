-- Names among values, an entry at a time.
use Rattle.std.proofs.Common.{◌≡◌, ◌∙◌, ap, sym, ℕ, ◌+◌, ◌<◌, List, ◌∷◌, map, length, drop, get_or, Some, bytes_eq, if◌then◌else◌}
use Rattle.std.proofs.lemmas.List.{drop_more}
use Rattle.pan_ast.specs.Seen.{item_seen}
use Rattle.dml_meaning.specs.Around.{found_function}
use Rattle.dml_world.specs.declared.frame.Function.{Function as RFunction}
use Rattle.dml_world.specs.Seen.{function_of}

pub function_more : (fs : List RFunction) (i : ℕ) (f : RFunction) (x : List ℕ) → i < length fs → f
    ≡ get_or fs i f → found_function (map function_of (drop i fs)) x
    ≡ (if bytes_eq f.name x then Some (item_seen f.body.value) else found_function
    (map function_of (drop (i + 1) fs)) x)
function_more fs i f x h is =
    ap (λ gs. found_function (map function_of gs) x)
    (drop_more fs i f h ∙ ap (λ y. y ∷ drop (i + 1) fs) (sym is))
