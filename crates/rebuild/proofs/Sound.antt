-- A sound engine stays sound.
use Rattle.std.proofs.Common.{◌≡◌, ℕ, List, true, Result, Ok, Err, OnOk, OnErr, sym, subst}
use Rattle.std.proofs.Math.Logic.{∥∥₁_map}
use Rattle.load_path.specs.declared.picture.PictureFile.{PictureFile}
use Rattle.pan_ast.specs.declared.work.Limits.{Limits}
use Rattle.runner.specs.Meaning.{IsLawful}
use Rattle.engine_turns.specs.declared.core_data.Core.{Core}
use Rattle.engine_turns.specs.declared.turned.TurnError.{TurnError}
use Rattle.engine_turns.specs.Calm.{IsCalm}
use Rattle.engine_turns.specs.Ready.{core_state, StaysReady}
use Rattle.engine_turns.specs.Turning.{turned}
use Rattle.rebuild.specs.declared.taking.TakeError.{TakeError}
use Rattle.rebuild.specs.Engines.{Meanings, situation_of, objects_of, value_of, turns_left_of, is_ready, IsEngine}
use Rattle.rebuild.specs.Reaching.{Asking, AreIndexed}
use Rattle.rebuild.specs.Renewing.{IsPictureTaken}
use Rattle.rebuild.specs.Sound.{IsSound}
use Rattle.rebuild.proofs.Calms.{is_calm}
use Rattle.rebuild.proofs.Engines.{ready_is, turn_situation, engine_after}
use Rattle.rebuild.proofs.EngineTakes.{engine_taken}
use Rattle.rebuild.proofs.Forgetting.{IsForgotten, forgets, still_engine}
use Rattle.rebuild.proofs.Indexing.{index_turned, index_forgot}

module _ {T : Type 0} (m : Meanings T) (c n : Core T) (asks : Asking) where
  pub calm_of : is_ready c ≡ true → IsSound m c asks → IsCalm c
  calm_of ready sound = is_calm m c (ready_is c ready) sound.reached

  pub turn_sound : {A : Type 0} (r : Result A TurnError) (dirs : List (List ℕ)) → dirs ≡ c.dirs
      → (IsCalm c → OnOk r (core_state n ≡ turned (m dirs c.limits).build (m dirs c.limits).check
      c)) → OnOk r (StaysReady c n) → OnErr r (n ≡ c) → is_ready c
      ≡ true → IsSound m c asks → IsSound m n asks
  turn_sound (Ok t) dirs same state stays before ready sound =
      let is = turn_situation m c n dirs same (state (calm_of ready sound)) stays in
      record {
        reached = ∥∥₁_map sound.reached (engine_after m c n stays is);
        indexed = index_turned m c n asks sound.indexed is sound.reached;
      }
  turn_sound (Err e) dirs same state stays before ready sound =
      subst (λ z. IsSound m z asks) (sym before) sound

  pub take_sound : {A : Type 0}
      → ((dirs : List (List ℕ)) (limits : Limits) → IsLawful (m dirs limits))
      → (new : Asking) (files : List PictureFile) (r : Result A TakeError)
      → OnOk r (IsPictureTaken asks files c n) → OnErr r (n ≡ c)
      → (AreIndexed asks (situation_of c) → AreIndexed new (situation_of n)) → is_ready c ≡ true
      → IsSound m c asks → IsSound m n new
  take_sound lawful new files (Ok a) t before indexed ready sound = record {
    reached = ∥∥₁_map sound.reached (engine_taken m lawful asks files (objects_of n) c n
        (ready_is c ready) t.taken sound.indexed);
    indexed = indexed sound.indexed;
  }
  take_sound lawful new files (Err e) t before indexed ready sound = record {
    reached = subst (λ z. ∥ IsEngine m (value_of z) ∥₁) (sym before) sound.reached;
    indexed = indexed sound.indexed;
  }

  pub forget_sound : ((dirs : List (List ℕ)) (limits : Limits) → IsLawful (m dirs limits))
      → is_ready c ≡ true → IsForgotten c n → turns_left_of c ≡ 0 → IsSound m c asks
      → IsSound m n asks
  forget_sound lawful ready f none sound = record {
    reached = still_engine m lawful c n (ready_is c ready) f none sound.reached;
    indexed = index_forgot m c n asks sound.indexed (forgets m lawful c n (ready_is c ready) f);
  }
