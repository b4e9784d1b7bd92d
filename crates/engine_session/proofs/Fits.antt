-- What holds whether a call was refused or not, and of works that are faithful.
use Rattle.std.specs.Prelude.{Result, Ok, Err, OnOk, OnErr}
use Rattle.engine_session.specs.Standing.{IsBegun, IsFaithful}
use Rattle.engine_session.specs.declared.works.Works.{Works}
use Rattle.rebuild.specs.Engines.{Meanings}
use Rattle.runner.specs.declared.runner.Runner as runner

pub either_way : {T E A B X : Type 0} (r : Result T E) → OnOk r A → OnErr r B → (A → X) → (B → X)
    → X
either_way (Ok x) a b done refused = done a
either_way (Err e) a b done refused = refused b

-- with two facts of each
pub either_way_two : {T E A B C D X : Type 0} (r : Result T E) → OnOk r A → OnOk r B → OnErr r C
    → OnErr r D → (A → B → X) → (C → D → X) → X
either_way_two (Ok x) a b c d done refused = done a b
either_way_two (Err e) a b c d done refused = refused c d

-- faithful works may take a picture
pub begins : {R T : Type 0} {M : runner.Ghosts R T} (means : Meanings T) (works : Works R T M)
    → IsFaithful means works → IsBegun means works
begins means works f = record { sound = f.sound; numbers = f.kept.numbers }
