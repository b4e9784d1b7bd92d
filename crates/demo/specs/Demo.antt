-- The session of a demo: four rounds of a build, of each of which the last line alone is written.
use Rattle.std.specs.Prelude.{◌≡◌, ℕ, zero, suc, List, [], ◌∷◌, ◌++◌, Option}
use Rattle.engine_session.specs.Compiler.{Compiled, compiler, nothing}
use Rattle.engine_session.specs.Standing.{Counts, HasSpentAtMost, SpendsAs}
use Rattle.outside.specs.Contents.{Appends, AppendsPart}
use Rattle.pan_ast.specs.declared.work.Limits.{Limits}
use Rattle.rebuild.specs.Engines.{Meanings}
use Rattle.session.specs.Machines.{Machine}
use Rattle.session.specs.Sessions.{State, Next, GoesOn, Quits, SpendsNumbers, IsTooMuch, build_round, next, state_in, started, end_of}
use Rattle.session.specs.declared.Ended.{Ended}
use Rattle.demo.specs.Pictures.{demo_pictures}
use Rattle.demo.specs.Reports.{last_line}

-- behind a text, the last line alone of what a round wrote; a round that ends the session writes
-- none
abbrev pub shortened : {E : Type 0} → List ℕ → (State E → Next E) → Next E → Next E
shortened text continue (GoesOn t) = continue (record t { text = text ++ last_line t.text })
shortened text continue (Quits t) = Quits (record t { text = text })
shortened text continue (SpendsNumbers t) = SpendsNumbers (record t { text = text })
shortened text continue (IsTooMuch t) = IsTooMuch (record t { text = text })

-- so many builds, one after the other
abbrev pub builds : {E : Type 0} → Machine E → ℕ → State E → Next E
builds machine zero s = GoesOn s
builds machine (suc k) s =
    shortened s.text (builds machine k) (next machine build_round (record s { text = [] }))

-- the directory, which is the root
abbrev pub demo_dirs : List (List ℕ)
demo_dirs = [] ∷ []

abbrev pub demo_session : {T : Type 0} → Meanings T → Limits → ℕ → ℕ → Next (Compiled T)
demo_session means limits count start = builds (compiler (means demo_dirs limits) demo_dirs) 4
    (started nothing (demo_pictures count start) [])

-- a session came to its end, and its text was written
pub record Ends {E : Type 0} (x : Next E) (how : Ended) (before now : Counts)
    (held_old held_new : Option (List ℕ)) : Type 0 where
  pub ended : how ≡ end_of x
  pub text : Appends held_old (state_in x).text held_new
  pub spent : SpendsAs how (state_in x) before now

-- it was broken off: a first part of its text was written
pub record Breaks {E : Type 0} (x : Next E) (before now : Counts)
    (held_old held_new : Option (List ℕ)) : Type 0 where
  pub text : AppendsPart held_old (state_in x).text held_new
  pub spent : HasSpentAtMost (state_in x) before now
