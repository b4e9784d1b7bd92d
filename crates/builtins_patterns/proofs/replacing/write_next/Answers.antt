use Rattle.std.proofs.Common.{◌≡◌, ℕ, ◌-◌, ◌++◌, append_assoc, arith, slice_range, sym, ap, ap₂, ◌∙◌}
use Rattle.call_values.specs.Drafts.{drafted}
use Rattle.regex.specs.Patterns.{find_str}
use Rattle.builtins_patterns.specs.Parts.{captured_text, written}
use Rattle.builtins_patterns.proofs.Rewriting.{at_captures, whole_span}
use Rattle.builtins_patterns.proofs.replacing.write_next.Goals as goal

pub returns-clause-ok : goal.returns-clause-ok
returns-clause-ok c =
    let text = c.args.text.now in
    let parts = c.args.parts.now in
    let found = c.in-Some.ensures.found in
    let m = found.0 in
    let same = whole_span text m c.in-Some.captures c.get_match-found.result found.2
    c.get_match-found.ensures.found in
    let from : c.saturating_sub.result ≡ c.args.after - 1 =
    omega (arith, c.saturating_sub.ensures) in
    let to = c.start.ensures ∙ ap (λ (p : ℕ × ℕ). p.0) same in (
      m,
      sym c.next_start-start.ensures.value ∙ ap (λ re. find_str re text c.next_start-start.result)
          (sym c.next_start-start.ensures.same) ∙ found.1,
      sym (c.end.ensures ∙ ap (λ (p : ℕ × ℕ). p.1) same),
      λ w h.
          c.in_ok-write_parts.ensures (w ++ slice_range text c.saturating_sub.result c.start.result)
          (c.in_ok-write_between.ensures w h)
          ∙ ap drafted (append_assoc w (slice_range text c.saturating_sub.result c.start.result)
          (written (captured_text c.in-Some.captures) parts)
          ∙ ap (λ x. w ++ x) (ap₂ ◌++◌ (ap₂ (slice_range text) from to)
          (at_captures text m c.in-Some.captures parts found.2))),
    )
