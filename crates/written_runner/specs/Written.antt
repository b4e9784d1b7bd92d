-- The language of written objects.
use Rattle.std.specs.Prelude.{ℕ, List, [], ◌∷◌, ◌++◌, Option, Some, None, Bool, true, false, cond, nat_eq, nat_lt, codes, drop, bytes_eq}
use Rattle.path_tree.specs.Plain.{Plain, text, boolean}
use Rattle.load_path.specs.Candidates.{candidates}
use Rattle.path_tree.specs.Grammar.{is_name}
use Rattle.pan_ast.specs.declared.place.Place.{Place}
use Rattle.pan_ast.specs.declared.fault.Code.TheVariants.{UserError, BadPath, NoPath, NoObject, ForeignFailed, Circular as IsCircular, NoTemplate, FileTooLong}
use Rattle.questions.specs.declared.key.Key.TheVariants.{File, Under}
use Rattle.questions.specs.Contents.{Content, Missing, TooLong, Bytes, Absent, Failed, Circular, NoValue, Value}
use Rattle.questions.specs.Run.{Run, ◌>>=◌, give, fail, fail_about, become, step, ask}
use Rattle.written_runner.specs.declared.action.Action.{Action}
use Rattle.written_runner.specs.declared.running.Side.{Side}
use Rattle.written_runner.specs.declared.running.Side.TheVariants.{Build, Check}
use Rattle.written_runner.specs.declared.action.Action.TheVariants.{Nothing, Gives, Fails, LooksFor, Reads, TestsFor}

-- a letter as a text, and the file of an object
abbrev pub letter_text : ℕ → List ℕ
letter_text n = cond (nat_lt n 128) (n ∷ []) (codes "_")

abbrev pub file_text : List ℕ → List ℕ
file_text name = name ++ codes ".pan"

-- what a line does, by its operation and its letter: = ! f r t in the build, X F R T in the check
abbrev pub build_action : ℕ → ℕ → Action
build_action op n = cond (nat_eq op 61) (Gives n) (cond (nat_eq op 33) (Fails n)
    (cond (nat_eq op 102) (LooksFor n) (cond (nat_eq op 114) (Reads n)
    (cond (nat_eq op 116) (TestsFor n) Nothing))))

abbrev pub check_action : ℕ → ℕ → Action
check_action op n = cond (nat_eq op 88) (Fails n) (cond (nat_eq op 70) (LooksFor n)
    (cond (nat_eq op 82) (Reads n) (cond (nat_eq op 84) (TestsFor n) Nothing)))

abbrev pub action_of : Side → ℕ → ℕ → Action
action_of Build op n = build_action op n
action_of Check op n = check_action op n

-- the lines of a text: a byte between, an operation and a letter each
abbrev pub actions : (ℕ → ℕ → Action) → List ℕ → List Action
actions act [] = []
actions act (b ∷ []) = []
actions act (b ∷ op ∷ []) = []
actions act (b ∷ op ∷ n ∷ rest) = act op n ∷ actions act rest

-- whether a file is there
abbrev pub is_there : Content → Bool
is_there Missing = false
is_there TooLong = true
is_there (Bytes bs) = true
is_there Absent = false
is_there Failed = false
is_there Circular = false
is_there NoValue = false
is_there (Value t) = false

-- what an answer of an object gives to a line that reads it
abbrev pub read_in : Place → List ℕ → Content → Run Plain (Unit {0})
read_in p object Missing = fail NoPath p
read_in p object TooLong = fail NoPath p
read_in p object (Bytes bs) = fail NoPath p
read_in p object Absent = fail_about NoObject p object
read_in p object Failed = fail_about ForeignFailed p object
read_in p object Circular = fail_about IsCircular p object
read_in p object NoValue = fail NoPath p
read_in p object (Value t) = become t

-- and to a line that tests for it
abbrev pub tested_in : Place → List ℕ → Content → Run Plain (Unit {0})
tested_in p object Missing = become (boolean false)
tested_in p object TooLong = become (boolean false)
tested_in p object (Bytes bs) = become (boolean false)
tested_in p object Absent = become (boolean false)
tested_in p object Failed = fail_about ForeignFailed p object
tested_in p object Circular = fail_about IsCircular p object
tested_in p object NoValue = become (boolean false)
tested_in p object (Value t) = become (boolean true)

-- the object with this name, where it is a name and not the object itself
abbrev pub other_object : List ℕ → List ℕ → Option (List ℕ)
other_object own name = cond (is_name name) (cond (bytes_eq name own) None (Some name)) None

-- a question costs a step
abbrev pub object_asked : Place → (List ℕ → Content → Run Plain (Unit {0})) → Option (List ℕ)
    → Run Plain (Unit {0})
object_asked p then None = fail BadPath p
object_asked p then (Some object) = step p >>= (λ _. (ask (Under object []) >>= then object))

abbrev pub file_asked : Place → List ℕ → (Content → Run Plain (Unit {0})) → Run Plain (Unit {0})
file_asked p file then = step p >>= (λ _. (ask (File file) >>= then))

-- files are asked for in order up to the first that is there, and the run goes on with its content,
-- or
-- else with that of a file that is not there
abbrev pub first_asked : Place → List (List ℕ) → (Content → Run Plain (Unit {0}))
    → Run Plain (Unit {0})
first_asked p [] then = then Missing
first_asked p (file ∷ files) then =
    file_asked p file (λ c. cond (is_there c) (then c) (first_asked p files then))

-- a line of the object `own`
abbrev pub acted : Place → List ℕ → Action → Run Plain (Unit {0})
acted p own Nothing = give tt
acted p own (Gives n) = become (text (letter_text n))
acted p own (Fails n) = fail_about UserError p (letter_text n)
acted p own (LooksFor n) =
    file_asked p (file_text (letter_text n)) (λ c. become (boolean (is_there c)))
acted p own (Reads n) = object_asked p (read_in p) (other_object own (letter_text n))
acted p own (TestsFor n) = object_asked p (tested_in p) (other_object own (letter_text n))

abbrev pub all_acted : Place → List ℕ → List Action → Run Plain (Unit {0})
all_acted p own [] = give tt
all_acted p own (a ∷ later) = acted p own a >>= (λ _. all_acted p own later)

-- the lines behind the word `object`
abbrev pub file_run : Place → List ℕ → (ℕ → ℕ → Action) → Content → Run Plain (Unit {0})
file_run p own act Missing = fail_about NoTemplate p own
file_run p own act TooLong = fail_about FileTooLong p own
file_run p own act (Bytes bs) = all_acted p own (actions act (drop 6 bs))
file_run p own act Absent = fail_about NoTemplate p own
file_run p own act Failed = fail_about NoTemplate p own
file_run p own act Circular = fail_about NoTemplate p own
file_run p own act NoValue = fail_about NoTemplate p own
file_run p own act (Value t) = fail_about NoTemplate p own

-- all faults stand at the begin of the object's file
abbrev pub place_of : List ℕ → Place
place_of own = record { file = file_text own; line = 1; column = 1 }

-- an object's file is looked for in these directories, and its lines are done
abbrev pub object_run : List (List ℕ) → List ℕ → (ℕ → ℕ → Action) → Run Plain (Unit {0})
object_run dirs own act =
    let p = place_of own in
    first_asked p (candidates own (codes ".pan") [] dirs) (file_run p own act)
