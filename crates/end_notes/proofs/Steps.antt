-- One word more of the loop over the words.
use Rattle.std.proofs.Common.{◌≡◌, ◌<◌, ◌+◌, ℕ, List, [], ◌++◌, drop, length, sym, ap, ◌∙◌}
use Rattle.std.proofs.lemmas.List.{drop_more}
use Rattle.end_notes.specs.Scan.{places_from}
use Rattle.end_notes.specs.declared.scan.Next.{Next}
use Rattle.end_notes.specs.declared.scan.Next.TheVariants.{Free, Value}

-- the value of an option is passed over
pub value_on : (words places all : List (List ℕ)) (i : ℕ) (next : Next) → i < length words → next
    ≡ Value → places ++ places_from next (drop i words) ≡ all → places
    ++ places_from Free (drop (i + 1) words) ≡ all
value_on words places all i next lt value is =
    sym (ap (λ ws. places ++ places_from Value ws) (drop_more words i [] lt))
    ∙ ap (λ n. places ++ places_from n (drop i words)) (sym value) ∙ is
