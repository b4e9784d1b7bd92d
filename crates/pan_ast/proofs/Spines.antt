-- A left operand and the steps after it.
use Rattle.std.proofs.Common.{◌≡◌, ◌∙◌, ap, refl, List, map, ◌++◌, [], ◌∷◌}
use Rattle.std.proofs.lemmas.List.{map_push}
use Rattle.std.specs.declared.vec.Vec.{Vec}
use Rattle.std.specs.declared.boxed.Box.{Box}
use Rattle.std.specs.declared.alloc.Global.{Global}
use Rattle.pan_ast.specs.declared.place.Place.{Place}
use Rattle.pan_ast.specs.declared.syntax.Node.{Node as RNode}
use Rattle.pan_ast.specs.declared.syntax.Step.{Step as RStep}
use Rattle.pan_ast.specs.declared.syntax.Form.TheVariants as form
use Rattle.pan_ast.specs.Syntax.{Node, Step, node_place, stepped, steps_on}
use Rattle.pan_ast.specs.Seen.{node_seen, step_seen}
use Rattle.pan_ast.proofs.Forms.{seen_spine}
use Rattle.pan_ast.proofs.Places.{place_seen}

-- a step more, at the end
steps_push : (p : Place) (x : Node) (ss : List Step) (s : Step) → steps_on p x (ss ++ s ∷ [])
    ≡ stepped p (steps_on p x ss) s
steps_push p x [] s = refl
steps_push p x (t ∷ ss) s = steps_push p (stepped p x t) ss s

-- a spine with a step more at its end
pub grown : (n y : RNode) (a : Box RNode Global) (s : Box RStep Global) (old new : Vec RStep Global)
    (t : RStep) → n.form ≡ form.Spine a s old → y.form ≡ form.Spine a s new → y.place ≡ n.place
    → new.items ≡ old.items ++ t ∷ [] → node_seen y
    ≡ stepped (node_place (node_seen n)) (node_seen n) (step_seen t)
grown n y a s old new t en ey ep eq =
    let h1 : map step_seen new.items ≡ map step_seen old.items ++ step_seen t ∷ [] =
    ap (map step_seen) eq ∙ map_push step_seen old.items t in
    let h2 = seen_spine n a s old en in
    let h3 = place_seen n in
    seen_spine y a s new ey ∙ rw (ep, h1, h3, h2)
    (steps_push n.place (stepped n.place (node_seen a.value) (step_seen s.value))
    (map step_seen old.items) (step_seen t))

-- a spine of one step
pub started : (n y : RNode) (a : Box RNode Global) (s : Box RStep Global) (new : Vec RStep Global)
    → y.form ≡ form.Spine a s new → new.items ≡ [] → a.value ≡ n → y.place ≡ n.place → node_seen y
    ≡ stepped (node_place (node_seen n)) (node_seen n) (step_seen s.value)
started n y a s new ey none ea ep =
    let h3 = place_seen n in
    seen_spine y a s new ey ∙ rw (ep, none, ea, h3) refl
