-- Written sessions.
use Rattle.std.proofs.Common.{◌≡◌, ℕ, Bool, true, false, List, [], ◌∷◌, ◌++◌, Option, Some, None, refl, codes}
use Rattle.std.specs.Prelude.{option_map, take}
use Rattle.std.specs.Fmt.{digits}
use Rattle.std.specs.Str.{chars, is_utf8}
use lib.Utf8.{encode}
use Rattle.outside.specs.declared.source.MemFile.{MemFile}
use Rattle.publication.specs.declared.answer.Publication.{Publication}
use Rattle.publication.specs.declared.answer.Publication.TheVariants as publication
use Rattle.publication.specs.declared.trouble.Trouble.{Trouble}
use Rattle.publication.specs.declared.trouble.Which.TheVariants.{Json}
use Rattle.publication.specs.declared.trouble.Call.TheVariants.{Put}
use Rattle.load_path.specs.declared.picture.PictureFile.{PictureFile}
use Rattle.load_path.specs.declared.picture.Content.TheVariants.{Bytes}
use Rattle.publication.specs.Stands.{Stand, AtStart, Has, Unspecified}
use Rattle.session.specs.Sessions.{State, Round, Quits, BrokeOff, Done, NotSaved, IsSaved, SaveFailed, next, reached, started}
use Rattle.session.proofs.Toy.{Toy, toy, new_toy}

abbrev file : List ℕ → List ℕ → MemFile
file name text = record { name = name; content = Some text }

-- a round whose devices meet no fault
abbrev plain : List ℕ → Round
plain line = record {
  line = line;
  scan = Done;
  publication = publication.Done [];
  saved =
      NotSaved;
}

abbrev written : Option (State Toy) → Option (List ℕ)
written s = option_map (λ (t : State Toy). t.text) s

abbrev stands_at : List ℕ → Option (State Toy) → Option Stand
stands_at name s = option_map (λ (t : State Toy). t.shelf name) s

-- three lines over an empty folder, and the end
abbrev idle : List Round
idle = plain (codes "show h") ∷ plain (codes "turn 1") ∷ plain (codes "stop") ∷ []

idle_text : written (reached toy idle (started new_toy [] []))
    ≡ Some (codes "no object\nturns 0 left 0\nbad line\n")
unfolding digits
idle_text = refl

-- a file of the site that changes between two scans
abbrev sites : List (List MemFile)
sites = site (codes "1") ∷ site (codes "2") ∷ site (codes "2") ∷ [] where
  site : List ℕ → List MemFile
  site digit = file (codes "h.pan") (codes "object template h;\ninclude 'site/h';\n") ∷ file
      (codes "site/h.pan") (codes "template site/h;\n'/v' = " ++ digit ++ codes ";\n") ∷ []

abbrev changing : List Round
changing = plain (codes "scan") ∷ plain (codes "turn 2") ∷ plain (codes "scan") ∷ plain
    (codes "show h") ∷ plain (codes "build") ∷ plain (codes "show h") ∷ []

changing_text : written (reached toy changing (started new_toy sites []))
    ≡ Some (codes "files 2 objects 1\nturns 2 left 2\nfiles 2 objects 1\npending\n"
    ++ codes "run h\nobjects 1 ok 1 faults 0 run 1\nprofile {\"v\":2}\n")
unfolding digits
changing_text = refl

-- which objects a file may change, and which files nobody reads
abbrev looking : List Round
looking = plain (codes "impact h.pan") ∷ plain (codes "unused") ∷ plain (codes "scan") ∷ plain
    (codes "impact h.pan") ∷ plain (codes "unused") ∷ plain (codes "turn 4") ∷ plain
    (codes "impact site/h.pan")
    ∷ plain (codes "impact other.pan") ∷ plain (codes "unused") ∷ plain
    (codes "impact /h.pan") ∷ plain (codes "impact ") ∷ plain (codes "unused ") ∷ []

with_old : List (List MemFile)
with_old = (file (codes "h.pan") (codes "object template h;\n'/v' = 1;\n") ∷ file (codes "old.pan")
    (codes "template old;\n") ∷ []) ∷ []

looking_text : written (reached toy looking (started new_toy with_old []))
    ≡ Some (codes "end\nend\nfiles 2 objects 1\npending\npending\nturns 4 left 0\n"
    ++ codes "touches h\nend\nend\nunused old.pan\nend\nbad line\nbad line\n"
    ++ codes "bad line\n")
unfolding digits with_old
looking_text = refl

-- a scan that breaks off, and a put that fails and is made again
abbrev pictures : List (List MemFile)
pictures = picture (codes "1") ∷ picture (codes "1") ∷ picture (codes "2") ∷ picture
    (codes "2") ∷ [] where
      picture : List ℕ → List MemFile
      picture digit = file (codes "a.txt") (codes "a") ∷ file (codes "h.pan")
          (codes "object template h;\n'/a' = " ++ digit ++ codes ";\n") ∷ file (codes "z.txt")
          (codes "z") ∷ []

abbrev json_not_put : Trouble
json_not_put = record { object = codes "h"; which = Json; call = Put }

abbrev mending : List Round
mending = plain (codes "build") ∷ record {
  line = codes "scan";
  scan = BrokeOff;
  publication =
      publication.Done [];
  saved = NotSaved;
} ∷ plain (codes "show h")
    ∷ record {
      line = codes "build";
      scan = Done;
      publication =
          publication.Done (json_not_put ∷ []);
      saved = NotSaved;
    } ∷ plain (codes "build") ∷ []

mending_text : written (reached toy mending (started new_toy pictures []))
    ≡ Some (codes "run h\nobjects 1 ok 1 faults 0 run 1\nsource fault\n"
    ++ codes "profile {\"a\":1}\nshelf fault h\nrun h\n"
    ++ codes "objects 1 ok 1 faults 0 run 1\nobjects 1 ok 1 faults 0 run 0\n")
unfolding digits
mending_text = refl

mending_shelf : stands_at (codes "h.json") (reached toy mending (started new_toy pictures []))
    ≡ Some (Has (Some (codes "{\"a\":2}\n")))
unfolding digits
mending_shelf = refl

abbrev troubled : List Round
troubled = plain (codes "build") ∷ plain (codes "scan") ∷ record {
  line = codes "build";
  scan = Done;
  publication = publication.Done (json_not_put ∷ []);
  saved =
      NotSaved;
} ∷ []

troubled_json : stands_at (codes "h.json") (reached toy troubled (started new_toy pictures []))
    ≡ Some Unspecified
unfolding digits
troubled_json = refl

troubled_dep : stands_at (codes "h.dep") (reached toy troubled (started new_toy pictures []))
    ≡ Some (Has (Some (codes "template h.pan\n")))
unfolding digits
troubled_dep = refl

gone : stands_at (codes "z.json") (reached toy troubled (started new_toy pictures []))
    ≡ Some (Has None)
unfolding digits
gone = refl

foreign : stands_at (codes "z.txt") (reached toy troubled (started new_toy pictures []))
    ≡ Some AtStart
unfolding digits
foreign = refl

quits : next toy (plain (codes "quit")) (started new_toy pictures [])
    ≡ Quits (started new_toy pictures [])
quits = refl

-- the object's template is gone, and its profile would have gone with it; the next build makes it
-- go
abbrev losing : List (List MemFile)
losing = (file (codes "h.pan") (codes "object template h;\n'/v' = 1;\n") ∷ []) ∷ [] ∷ [] ∷ []

abbrev refused : List Round
refused = plain (codes "build") ∷ record {
  line = codes "build";
  scan = Done;
  publication =
      publication.TooManyRemovals 2;
  saved = NotSaved;
} ∷ []

refused_text : written (reached toy refused (started new_toy losing []))
    ≡ Some (codes "run h\nobjects 1 ok 1 faults 0 run 1\ntoo many removals 2\n"
    ++ codes "objects 0 ok 0 faults 0 run 0\n")
unfolding digits
refused_text = refl

refused_shelf : stands_at (codes "h.json") (reached toy refused (started new_toy losing []))
    ≡ Some (Has (Some (codes "{\"v\":1}\n")))
unfolding digits
refused_shelf = refl

abbrev may_stand_at : List ℕ → Option (State Toy) → Option Bool
may_stand_at name s = option_map (λ (t : State Toy). t.may_stand name) s

refused_names : may_stand_at (codes "h.dep") (reached toy refused (started new_toy losing []))
    ≡ Some true
unfolding digits
refused_names = refl

mended : may_stand_at (codes "h.dep") (reached toy (refused ++ plain (codes "build") ∷ [])
    (started new_toy losing [])) ≡ Some false
unfolding digits
mended = refl

-- rows that are kept: the keeper fails at first, and then not
abbrev saving : List Round
saving = record {
  line = codes "build";
  scan = Done;
  publication = publication.Done [];
  saved =
      SaveFailed;
}
    ∷ record {
      line = codes "build";
      scan = Done;
      publication = publication.Done [];
      saved =
          IsSaved;
    } ∷ []

saving_text : written (reached toy saving (started new_toy pictures []))
    ≡ Some (codes "keeper fault\nrun h\nobjects 1 ok 1 faults 0 run 1\n"
    ++ codes "objects 1 ok 1 faults 0 run 0\n")
unfolding digits
saving_text = refl

abbrev kept_of : Option (State Toy) → Option (Option Toy)
kept_of s = option_map (λ (t : State Toy). t.kept) s

none_kept : kept_of (reached toy (take 1 saving) (started new_toy pictures [])) ≡ Some None
unfolding digits
none_kept = refl

all_kept : option_map (option_map (λ (e : Toy). e.ran))
    (kept_of (reached toy saving (started new_toy pictures []))) ≡ Some (Some [])
unfolding digits
all_kept = refl

-- an engine that goes on from rows knows no object before its first picture
abbrev restored : Toy
restored = record {
  picture = picture;
  parts =
      record { name = codes "h"; kept = None; build = true; check = true } ∷ [];
  opened = false;
  ran =
      [];
} where
  picture : List PictureFile
  picture = record {
    name = codes "h.pan";
    content =
        Bytes (codes "object template h;\n'/v' = 1;\n");
  } ∷ []

abbrev unasked : List Round
unasked = plain (codes "show h") ∷ plain (codes "why h") ∷ plain (codes "deps h") ∷ plain
    (codes "blame h /v") ∷ plain (codes "impact h.pan") ∷ plain (codes "unused") ∷ plain
    (codes "turn 9") ∷ plain (codes "scan") ∷ plain (codes "show h") ∷ []

unasked_text : written (reached toy unasked (started restored sites []))
    ≡ Some (codes "no object\nno object\nno object\nno object\nend\nend\n"
    ++ codes "turns 0 left 0\nfiles 2 objects 1\npending\n")
unfolding digits chars is_utf8 encode
unasked_text = refl

-- who set a value is asked
abbrev blaming : List Round
blaming = plain (codes "build") ∷ plain (codes "blame h /v") ∷ plain (codes "blame g /v") ∷ plain
    (codes "blame h v") ∷ plain (codes "blame h g:/v") ∷ plain (codes "blame h") ∷ plain
    (codes "blame h ") ∷ plain (codes "scan") ∷ plain (codes "blame h /") ∷ []

blaming_text : written (reached toy blaming (started new_toy pictures []))
    ≡ Some (codes "run h\nobjects 1 ok 1 faults 0 run 1\nh line 2\nend\nno object\n"
    ++ codes "bad line\nbad line\nbad line\nbad line\nfiles 3 objects 1\n"
    ++ codes "pending\n")
unfolding digits chars is_utf8 encode
blaming_text = refl
