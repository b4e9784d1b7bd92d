-- That names are the objects of a picture is a proposition: so they may be kept with the fact.
use Rattle.std.specs.Prelude.{ℕ, List}
use Rattle.std.proofs.Props.{props}
use Rattle.load_path.specs.declared.picture.PictureFile.{PictureFile}
use Rattle.object_names.specs.Objects.{AreObjects}

pub AreObjects-prop : (files : List PictureFile) (dirs names : List (List ℕ))
    → IsProp (AreObjects files dirs names)
AreObjects-prop files dirs names = hlevel props
