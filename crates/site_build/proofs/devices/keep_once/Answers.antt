use Rattle.std.proofs.Common.{sym, subst, ap, ◌∙◌, bytes_eq}
use Rattle.std.specs.Cmp.Lexicographic.{slice_cmp}
use Rattle.std.specs.List.{list_any}
use Rattle.std.specs.List.Sorted.{IsStrictlySortedBy}
use Rattle.std.specs.Ordering.{nat_cmp}
use Rattle.std.proofs.lemmas.List.Filters.{dedup_is}
use Rattle.site_build.proofs.Once.{once_sorted, same_names}
use Rattle.site_build.proofs.devices.keep_once.Goals as goal

pub returns-clause-sorted : goal.returns-clause-sorted
returns-clause-sorted c =
    subst (IsStrictlySortedBy (slice_cmp nat_cmp))
    (sym (dedup_is bytes_eq _ _ c.dedup.ensures.filtered))
    (once_sorted c.args.names.now.items c.requires.sorted)

pub returns-clause-same : goal.returns-clause-same
returns-clause-same c = λ n. ap (list_any (λ m. bytes_eq m n))
    (dedup_is bytes_eq _ _ c.dedup.ensures.filtered) ∙ same_names c.args.names.now.items n
