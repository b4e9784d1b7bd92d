use Rattle.std.proofs.Common.{◌≡◌, ◌++◌, ◌∷◌, take, map}
use Rattle.std.specs.List.{flat_map}
use Rattle.fault_notes.specs.Excerpts.{blanks}
use Rattle.fault_notes.proofs.excerpt.push_behind_tabs.Given as goal

abbrev pub invariant-loop-part : goal.invariant-loop-part
invariant-loop-part l = l.into.items ≡ l.initial.into.items
    ++ flat_map (λ other. 9 ∷ blanks other) (map (λ p. p.now) (take l.part-index l.parts))
