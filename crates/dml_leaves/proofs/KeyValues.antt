-- Keys and values, two by two.
use Rattle.std.proofs.Common.{◌≡◌, ◌∙◌, ap, refl, true, List, [], ◌∷◌}
use Rattle.path_tree.specs.Plain.{Plain}
use Rattle.pan_ast.specs.declared.place.Place.{Place}
use Rattle.questions.specs.Contents.{Answers}
use Rattle.questions.specs.Run.{Meter, Done, then}
use Rattle.dml_meaning.specs.Run.{Env}
use Rattle.dml_meaning.specs.Leaves.{on_text}
use Rattle.dml_meaning.specs.Structures.{set_key, set_keys}
use Rattle.dml_meaning.proofs.Leaving.{set_keys_leave}
use Rattle.dml_world.specs.declared.stop.Exit.{Exit}
use Rattle.dml_world.specs.declared.stop.Exit.TheVariants as exit
use Rattle.dml_world.specs.Exits.{Ends}
use Rattle.dml_leaves.specs.Changes.{is_short}

-- the first pair, and those behind it
pub keys_more : (p : Place) (ts us : List Plain) (k v t : Plain) (o : Answers) (e : Env) (m : Meter)
    → ts ≡ k ∷ v ∷ us → set_keys p ts t o e m ≡ then (on_text p (set_key p v t) k o e m)
    (λ u. set_keys p us u o)
unfolding set_keys
keys_more p ts us k v t o e m is = ap (λ xs. set_keys p xs t o e m) is

-- where the first pair is not set
pub pair_stops : (end : Exit) (p : Place) (ts us : List Plain) (k v t : Plain) (o : Answers)
    (e : Env) (m : Meter) → ts ≡ k ∷ v ∷ us → Ends end e m (on_text p (set_key p v t) k o e m)
    → Ends end e m (set_keys p ts t o e m)
pair_stops exit.Memory p ts us k v t o e m is h = set_keys_leave p ts t o e m
pair_stops (exit.Fault d) p ts us k v t o e m is h =
    keys_more p ts us k v t o e m is ∙ ap (λ z. then z (λ u. set_keys p us u o)) h
pair_stops (exit.Need q) p ts us k v t o e m is h =
    keys_more p ts us k v t o e m is ∙ ap (λ z. then z (λ u. set_keys p us u o)) h
pair_stops (exit.Return r) p ts us k v t o e m is h =
    keys_more p ts us k v t o e m is ∙ ap (λ z. then z (λ u. set_keys p us u o)) h

-- no pair
pub keys_end : (p : Place) (ts : List Plain) (t : Plain) (o : Answers) (e : Env) (m : Meter)
    → is_short ts ≡ true → set_keys p ts t o e m ≡ Done t e m
unfolding set_keys
keys_end p [] t o e m h = refl
keys_end p (k ∷ []) t o e m h = refl
keys_end p (k ∷ v ∷ ts) t o e m h = absurd cc

pub ruleset pairs = (keys_more, keys_end)
