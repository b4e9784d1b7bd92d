-- What a build has done to the shelf.
use Rattle.std.proofs.Common.{◌≡◌, ◌⊎◌, ℕ, List, [], ◌++◌, Option, Some, None, is_some, inl, inr, sym, ap, ◌∙◌}
use Rattle.std.specs.Prelude.{flat_map}
use Rattle.std.specs.List.Sorted.{IsStrictlySortedBy}
use Rattle.std.specs.Cmp.Lexicographic.{slice_cmp}
use Rattle.std.specs.Ordering.{nat_cmp}
use Rattle.outside.specs.Cells.{Cell, AreSame}
use Rattle.outside.specs.declared.shelf.Change.{Change}
use Rattle.publication.specs.declared.want.Want.{Want}
use Rattle.publication.specs.Listings.{Lists}
use Rattle.publication.specs.Changing.{removal, planned, stand, Made, Begun, MadeOver, BegunOver, AreListed, Tells}
use Rattle.publication.proofs.Planning.{puts_same, begun_none, begun_all}
use Rattle.publication.specs.Stands.{Stand}
use Rattle.site_build.specs.Ends.{IsEndOf, OfSource, OfShelf, Stopped}
use Rattle.site_build.specs.declared.ends.End.{End}
use Rattle.site_build.specs.declared.ends.End.TheVariants as E

-- nothing was done
pub over_none : (ws : Option (List Want)) (names : List (List ℕ)) (old new : List ℕ → Cell)
    (before now : Option (List Change)) → AreSame old new → now ≡ before
    → BegunOver ws names old new before now
over_none None names old new before now same kept = (kept, same)
over_none (Some ws) names old new before now same kept =
    begun_none ws (planned names ws old) old new before now same kept

pub over_all : (ws : Option (List Want)) (names : List (List ℕ)) (old new : List ℕ → Cell)
    (before now : Option (List Change)) → MadeOver ws names old new before now
    → BegunOver ws names old new before now
over_all None names old new before now made = made
over_all (Some ws) names old new before now made =
    begun_all ws (planned names ws old) old new before now made

-- under a shelf that told the same before
plan_from : (names : List (List ℕ)) (ws : List Want) (old mid : List ℕ → Cell) → AreSame old mid
    → planned names ws mid ≡ planned names ws old
plan_from names ws old mid same =
    ap (λ l. flat_map (removal ws) names ++ l) (puts_same ws mid old (λ n some. same n))

made_from : (names : List (List ℕ)) (ws : List Want) (old mid new : List ℕ → Cell)
    (before between now : Option (List Change)) → AreSame old mid → between ≡ before
    → Made ws (planned names ws mid) mid new between now
    → Made ws (planned names ws old) old new before now
made_from names ws old mid new before between now same kept m =
    rw (sym (plan_from names ws old mid same)) (record {
      told = rw kept at m.told;
      stands = λ n. m.stands n ∙ ap (stand ws (planned names ws mid) n) (same n);
    })

begun_from : (names : List (List ℕ)) (ws : List Want) (old mid new : List ℕ → Cell)
    (before between now : Option (List Change)) → AreSame old mid → between ≡ before
    → Begun ws (planned names ws mid) mid new between now
    → Begun ws (planned names ws old) old new before now
begun_from names ws old mid new before between now same kept b = record {
  made = b.made;
  left = b.left;
  whole = sym (plan_from names ws old mid same) ∙ b.whole;
  told = rw kept at b.told;
  stands = λ n other. b.stands n other ∙ ap (stand ws b.made n) (same n);
}

pub listed_from : (names : List (List ℕ)) (old mid : List ℕ → Cell) → AreSame old mid
    → AreListed names mid → AreListed names old
listed_from names old mid same l =
    record { lists = λ n. rw (same n) at (l.lists n); sorted = l.sorted }

-- what was made or begun over a shelf that told the same before
pub over_from : (ws : Option (List Want)) (names : List (List ℕ)) (old mid new : List ℕ → Cell)
    (before between now : Option (List Change)) → AreSame old mid → between ≡ before
    → MadeOver ws names mid new between now → MadeOver ws names old new before now
over_from None names old mid new before between now same kept made =
    (made.0 ∙ kept, λ n. made.1 n ∙ same n)
over_from (Some ws) names old mid new before between now same kept made =
    made_from names ws old mid new before between now same kept made

pub part_from : (ws : Option (List Want)) (names : List (List ℕ)) (old mid new : List ℕ → Cell)
    (before between now : Option (List Change)) → AreSame old mid → between ≡ before
    → BegunOver ws names mid new between now → BegunOver ws names old new before now
part_from None names old mid new before between now same kept begun =
    (begun.0 ∙ kept, λ n. begun.1 n ∙ same n)
part_from (Some ws) names old mid new before between now same kept begun =
    begun_from names ws old mid new before between now same kept begun

pub tells_from : (old mid : List ℕ → Cell) → AreSame old mid → Tells old → Tells mid
tells_from old mid same told n = ap is_some (same n) ∙ told n

-- the names on the shelf, after they were listed
pub listed_on : (names : List (List ℕ)) (old mid : List ℕ → Cell) → AreSame old mid
    → Lists names old → IsStrictlySortedBy (slice_cmp nat_cmp) names → AreListed names mid
listed_on names old mid same lists sorted =
    record { lists = λ n. rw (same n) (lists n); sorted = sorted }

-- the devices were not opened, or the shelf was not listed
pub opening_stopped : (e : End) (shelf : List ℕ → Stand) (old new : List ℕ → Cell)
    → IsEndOf OfSource e ⊎ IsEndOf OfShelf e → AreSame old new → Stopped e shelf old new
opening_stopped E.Source shelf old new kind same = same
opening_stopped E.Shelf shelf old new kind same = same
opening_stopped (E.Publishing m) shelf old new (inl kind) same = cc
opening_stopped (E.Publishing m) shelf old new (inr kind) same = cc
opening_stopped E.Out shelf old new (inl kind) same = cc
opening_stopped E.Out shelf old new (inr kind) same = cc
opening_stopped E.Memory shelf old new kind same =
    ([], record { others = λ n other. same n; own = λ n closed. inl (same n) })
