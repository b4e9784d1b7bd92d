-- What no rows give is sound.
use Rattle.std.proofs.Common.{◌≡◌, List, [], ◌∷◌, ◌++◌, map, inl, inr, refl, subst, sym, ◌∙◌, ℕ}
use Rattle.engine_laws.proofs.Resting.{keeps_sound_rows}
use Rattle.engine_machine.proofs.RunnerLaws.{laws_of}
use Rattle.engine_machine.specs.Machine.{keeping, judge_of, runner_of}
use Rattle.engine_rows.proofs.Stored.{keys_named}
use Rattle.engine_rows.specs.Restoring.{IsSoundKept}
use Rattle.kept_state.specs.Stored.{Stored}
use Rattle.pan_ast.specs.declared.work.Limits.{Limits}
use Rattle.rebuild.proofs.New.{new_reached}
use Rattle.rebuild.specs.Engines.{Meanings, new_situation}
use Rattle.record_rows.specs.Rows.{Give, empty}
use Rattle.runner.specs.Meaning.{IsLawful}
use Rattle.stored_rows.specs.declared.row.StoredRow.{StoredRow}

-- no list ends in nothing
something : (xs ys : List StoredRow) (y : StoredRow) → [] ≡ xs ++ y ∷ ys → ⊥
something [] ys y e = cc
something (x ∷ xs) ys y e = cc

-- what no rows give is nothing
gives_empty : (found : Stored) → Give [] found → found ≡ empty
gives_empty found (inl none) = none.1
gives_empty found (inr g) = absurd (something _ _ _ g.2.rows_are)

module _ {T : Type 0} (m : Meanings T)
    (lawful : (dirs : List (List ℕ)) (limits : Limits) → IsLawful (m dirs limits)) where
  -- a new engine has nothing to keep
  empty_sound : IsSoundKept m empty
  empty_sound =
      let at = m empty.dirs empty.limits in
      keeps_sound_rows (runner_of at.build) keeping (judge_of at.check) new_situation
      (new_reached at.build at.check (laws_of at (lawful empty.dirs empty.limits) [] [])
      new_situation refl) (keys_named T [] []) (λ o i. absurd i)

  pub nothing_sound : (found : Stored) → Give [] found → IsSoundKept m found
  nothing_sound found gives = subst (IsSoundKept m) (sym (gives_empty found gives)) empty_sound
