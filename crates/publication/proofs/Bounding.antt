-- A publication and its bound.
use Rattle.std.proofs.Common.{◌≡◌, ℕ, true, List, length}
use Rattle.std.specs.Prelude.{bytes_eq}
use Rattle.std.specs.List.{list_any, list_all, IsDistinct}
use Rattle.std.specs.List.Sorted.{IsSorted}
use Rattle.std.specs.Cmp.Lexicographic.{slice_cmp}
use Rattle.std.specs.Ordering.{nat_cmp}
use Rattle.publication.specs.declared.answer.Publication.{Publication}
use Rattle.publication.specs.declared.profile.Profile.{Profile}
use Rattle.publication.specs.declared.publisher.Publisher.{Publisher}
use Rattle.publication.specs.Bounds.{Bounded, IsAnswer}
use Rattle.publication.specs.Published.{Covers, may_stand_in}
use Rattle.publication.specs.Wants.{wants_of, goes}
use Rattle.publication.proofs.Logging.{goes_exactly}

-- names that go, and the answer to so many
pub bounded : (p : Publisher) (profiles : List Profile) (gone : List (List ℕ))
    (answer : Publication) → list_all (goes (wants_of profiles)) gone ≡ true
    → Covers gone (wants_of profiles) p → ((n : List ℕ) → list_any (λ m. bytes_eq m n) gone
    ≡ true → may_stand_in p n ≡ true) → IsSorted (slice_cmp nat_cmp) gone → IsDistinct bytes_eq gone
    → IsAnswer p.most (length gone) answer → Bounded p.most (wants_of profiles) (may_stand_in p)
    answer
bounded p profiles gone answer going covers known sorted once is = record {
  gone = gone;
  sorted = sorted;
  once = once;
  exact = goes_exactly p profiles gone going covers known;
  answer = is;
}
