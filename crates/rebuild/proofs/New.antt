-- The empty engine.
use Rattle.std.proofs.Common.{◌≡◌, ◌&&◌, nat_le, List, [], true, refl, sym, inl, arith}
use Rattle.foreign_values.specs.declared.Part.{Part}
use Rattle.questions.specs.declared.key.Key.{Key}
use Rattle.questions.specs.declared.key.Key.TheVariants.{File, Under}
use Rattle.engine_laws.specs.Runner.{Laws}
use Rattle.engine_laws.specs.Engine.{IsNew}
use Rattle.engine_laws.specs.Reached.{IsReached}
use Rattle.engine_machine.specs.Machine.{Builds, Checks, runner_of, keeping, judge_of, small}
use Rattle.engine_machine.specs.Pictures.{told_in, picture_in}
use Rattle.engine_machine.proofs.RunnerLaws.{keep_laws_of}
use Rattle.engine_turns.specs.declared.rows.FileRow.{FileRow}
use Rattle.engine_turns.specs.declared.rows.Row.{Row}
use Rattle.engine_turns.specs.Places.{names, file_names}
use Rattle.engine_turns.specs.States.{file_number, picture_of, state_of, are_graded}
use Rattle.object_names.specs.Objects.{are_rising}
use Rattle.engine_turns.specs.Ready.{is_chain, are_known}
use Rattle.rebuild.specs.Engines.{EngineSituation, new_situation}

pub is_new : {T : Type 0} → (build : Builds T) (check : Checks T)
    → Laws (runner_of build) (picture_in [] []) → IsNew (runner_of build) keeping (judge_of check)
    new_situation
is_new build check laws = record {
  laws = laws;
  keep_laws = keep_laws_of build [] [];
  no_object = refl;
  three = omega arith;
  nothing = nothing;
  no_last = λ o. refl;
  no_reads = λ o. refl;
  no_held = λ o. refl;
  no_chain = refl;
  no_check = refl;
  none_run = λ o. refl;
  no_why = λ o. refl;
}
  where
    nothing : (k : Key) → (file_number [] k ≡ 0) × (small k 0 ≡ told_in [] k)
    nothing (File f) = (refl, refl)
    nothing (Under p terms) = (refl, refl)

pub new_reached : {T : Type 0} → (build : Builds T) (check : Checks T)
    → Laws (runner_of build) (picture_in [] []) → (x : EngineSituation T) → x ≡ new_situation
    → IsReached (runner_of build) keeping (judge_of check) x
new_reached build check laws x is =
    record {
      begin = new_situation;
      sound = inl (is_new build check laws);
      events = [];
      allowed =
          tt;
      leads = sym is;
    }

pub situation_is_new : {T : Type 0} → (files : List FileRow) (rows : List (Row T))
    (parts : List Part) → files ≡ [] → rows ≡ [] → parts ≡ []
    → ◌≡◌ {A = EngineSituation T}
    (record { picture = picture_of files (names rows); state = state_of 3 files rows parts })
    new_situation
situation_is_new files rows parts f r p i =
    record { picture = picture_of (f i) (names (r i)); state = state_of 3 (f i) (r i) (p i) }

pub new_is_ready : {T : Type 0} → (files : List FileRow) (rows : List (Row T)) (parts : List Part)
    → files ≡ [] → rows ≡ [] → parts ≡ [] → nat_le 3 3
    && (are_rising (names rows) && (are_rising (file_names files)
    && (true && (true && (are_graded rows && (is_chain parts && are_known (names rows) parts))))))
    ≡ true
new_is_ready files rows parts f r p i =
    nat_le 3 3 && (are_rising (names (r i)) && (are_rising (file_names (f i))
    && (true && (true && (are_graded (r i) && (is_chain (p i) && are_known (names (r i)) (p i)))))))
