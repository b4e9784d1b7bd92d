-- What a stand says of telling.
use Rattle.std.proofs.Common.{◌≡◌, ℕ, Bool, true, false, List, Option, Some, None, is_some, refl, sym, ap, ◌∙◌}
use Rattle.std.specs.Prelude.{bytes_eq}
use Rattle.std.proofs.lemmas.Slice.Eq.{bytes_eq-Decides}
use Rattle.outside.specs.Cells.{Cell, with_content}
use Rattle.publication.specs.OwnNames.{is_own}
use Rattle.publication.specs.declared.want.Want.{Want}
use Rattle.publication.specs.declared.trouble.Trouble.{Trouble}
use Rattle.publication.specs.Stands.{Stand, Meets, AtStart, Has, Unspecified, untouched}
use Rattle.publication.specs.Troubles.{published}

given_some : (content : Option (List ℕ)) (c : Cell) → is_some (with_content content c) ≡ is_some c
given_some content None = refl
given_some content (Some x) = refl

-- telling stays
pub meets_tells : (s : Stand) (start now : Cell) → Meets s start now → is_some now ≡ is_some start
meets_tells AtStart start now m = ap is_some m
meets_tells (Has content) start now m = ap is_some m ∙ given_some content start
meets_tells Unspecified start now m = m

pub given_alike : (content : Option (List ℕ)) (a b : Cell) → is_some a ≡ is_some b
    → with_content content a ≡ with_content content b
given_alike content None None e = refl
given_alike content None (Some y) e = cc
given_alike content (Some x) None e = cc
given_alike content (Some x) (Some y) e = refl

apart_by : (name n : List ℕ) (b : Bool) → is_own name ≡ true → is_own n ≡ false → bytes_eq name n
    ≡ b → b ≡ false
apart_by name n false own other is = refl
apart_by name n true own other is = let f : true ≡ false =
    sym own ∙ ap is_own ((bytes_eq-Decides name n).0 is) ∙ other in cc

-- two names that differ in being own
pub apart : (name n : List ℕ) → is_own name ≡ true → is_own n ≡ false → bytes_eq name n ≡ false
apart name n own other = apart_by name n (bytes_eq name n) own other refl

-- a name that is not the program's own is as it was
pub foreign : (ws : List Want) (ts : List Trouble) (n : List ℕ) → is_own n ≡ false
    → published ws ts untouched n ≡ AtStart
foreign ws ts n other = rw other refl
