-- A table of types with one name more.
use Rattle.std.proofs.Common.{◌≡◌, ℕ, Bool, true, false, cond, List, Option, Some, option_map, bytes_eq, refl, ap, ◌∙◌}
use Rattle.std.specs.Ordering.{nat_cmp, is_eq}
use Rattle.std.specs.Cmp.Lexicographic.{slice_cmp}
use Rattle.std.specs.BTreeMap.{BTreeMap, get, Updates}
use Rattle.std.specs.declared.alloc.Global.{Global}
use Rattle.std.proofs.lemmas.Map.Text.{is_eq-slice_cmp}
use Rattle.type_defs.specs.declared.resolved.Resolved.{Resolved as RResolved}
use Rattle.type_defs.specs.ResolvedSeen.{resolved_seen}

seen_cond : {X Y : Type 0} → (f : X → Y) (b : Bool) (v : X) (o : Option X)
    → option_map f (cond b (Some v) o) ≡ cond b (Some (f v)) (option_map f o)
seen_cond f true v o = refl
seen_cond f false v o = refl

pub table_set : (old new : BTreeMap (List ℕ) RResolved) (k : List ℕ) (v : RResolved)
    → Updates (slice_cmp nat_cmp) old new k (Some v) → (n : List ℕ)
    → option_map resolved_seen (get (slice_cmp nat_cmp) new n)
    ≡ cond (bytes_eq k n) (Some (resolved_seen v))
    (option_map resolved_seen (get (slice_cmp nat_cmp) old n))
table_set old new k v h n =
    ap (option_map resolved_seen) (h.0 n)
    ∙ seen_cond resolved_seen (is_eq (slice_cmp nat_cmp k n)) v (get (slice_cmp nat_cmp) old n)
    ∙ ap (λ b. cond b (Some (resolved_seen v)) (option_map resolved_seen
    (get (slice_cmp nat_cmp) old n))) (is_eq-slice_cmp k n)
