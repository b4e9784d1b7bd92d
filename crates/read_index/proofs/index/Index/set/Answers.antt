use Rattle.std.proofs.Common.{◌∙◌, sym, ap, subst, ℕ, ◌+◌, ◌<◌, ◌||◌, false, arith}
use Rattle.read_index.specs.declared.nodes.Edge.{Edge}
use Rattle.read_index.specs.Subjects.{reads_key, reader_key}
use Rattle.read_index.specs.Nodes.{number_in, Adds}
use Rattle.read_index.proofs.Adding.{on_err, numbered_adds, items_added, added_both, adds_both, grown_adds, still_asks, now_asks, low_more}
use Rattle.read_index.proofs.Owning.{readers_added, readers_more, readers_marked}
use Rattle.read_index.proofs.index.Index.set.Goals as goal

next_less : (m : ℕ) → m < m + 1
next_less m = omega arith

pub invariant_of-self : goal.invariant_of-self
invariant_of-self c = record {
  same = c.args.self.now.same;
  low =
      low_more c.args.self.now.next c.args.self.now.nodes.items c.args.self.now.low;
  readers =
      c.args.self.now.readers;
}

pub invariant_of-self-in-Break-branch-2 : goal.invariant_of-self-in-Break-branch-2
invariant_of-self-in-Break-branch-2 c =
    let m = c.args.self.now.next in
    let e : Edge = record { reader = 0; mark = m } in
    let a = numbered_adds c.number_of.result c.in_ok-key.key c.args.self.now.keys.keys
    c.number_of.new.keys.keys c.args.self.now.nodes.items c.number_of.new.nodes.items e
    c.args.self.now.same c.number_of.ensures.grown c.number_of.ensures.keys
    c.number_of.ensures.nodes in
    record {
      same = a.same;
      low =
          a.low (m + 1) (next_less m) (low_more m c.args.self.now.nodes.items c.args.self.now.low);
      readers = readers_added _ _ _ _ e _ a c.args.self.now.readers;
    }

pub invariant_of-self-in-Break-branch-3 : goal.invariant_of-self-in-Break-branch-3
invariant_of-self-in-Break-branch-3 c =
    let m = c.args.self.now.next in
    let e : Edge = record { reader = c.in_ok-at.at; mark = m } in
    let g = c.in_ok-at.ensures.grown in
    let first = grown_adds c.in_ok-key.key c.in_ok-at.at c.args.self.now.keys.keys
    c.number_of.new.keys.keys c.args.self.now.nodes.items c.number_of.new.nodes.items e
    c.args.self.now.same g.longer g in
    let h = added_both c.args.self.now.keys.keys c.number_of.new.keys.keys
    c.note_items.new.keys.keys c.args.self.now.nodes.items c.number_of.new.nodes.items
    c.note_items.new.nodes.items e (λ k. false) first
    (items_added c.note_items.result c.number_of.new.keys.keys c.note_items.new.keys.keys
    c.number_of.new.nodes.items c.note_items.new.nodes.items e
    (λ k. reads_key k c.items.result.now) c.note_items.ensures.adds c.note_items.ensures.some)
    in
    record {
      same = h.1.same;
      low =
          h.1.low (m + 1) (next_less m) (low_more m c.args.self.now.nodes.items
          c.args.self.now.low);
      readers = readers_more _ _ _ _ e h c.args.self.now.readers;
    }

pub returns-in_err-note_items-clause-before : goal.returns-in_err-note_items-clause-before
returns-in_err-note_items-clause-before c =
    let m = c.args.self.now.next in
    let e : Edge = record { reader = c.in_ok-at.at; mark = m } in
    let g = c.in_ok-at.ensures.grown in
    let first = grown_adds c.in_ok-key.key c.in_ok-at.at c.args.self.now.keys.keys
    c.number_of.new.keys.keys c.args.self.now.nodes.items c.number_of.new.nodes.items e
    c.args.self.now.same g.longer g in
    let h = added_both c.args.self.now.keys.keys c.number_of.new.keys.keys
    c.note_items.new.keys.keys c.args.self.now.nodes.items c.number_of.new.nodes.items
    c.note_items.new.nodes.items e (λ k. false) first c.in_err-note_items.ensures.some in
    on_err c.from_residual-in_err-note_items.result
    (still_asks c.args.self.now.keys.keys c.note_items.new.keys.keys c.args.self.now.nodes.items
    c.note_items.new.nodes.items e h.0 c.args.self.now.low h.1)

pub invariant_of-self-in-Break-branch-4 : goal.invariant_of-self-in-Break-branch-4
invariant_of-self-in-Break-branch-4 c =
    let m = c.args.self.now.next in
    let e : Edge = record { reader = c.in_ok-at.at; mark = m } in
    let g = c.in_ok-at.ensures.grown in
    let first = grown_adds c.in_ok-key.key c.in_ok-at.at c.args.self.now.keys.keys
    c.number_of.new.keys.keys c.args.self.now.nodes.items c.number_of.new.nodes.items e
    c.args.self.now.same g.longer g in
    let second = adds_both c.args.self.now.keys.keys c.number_of.new.keys.keys
    c.note_items.new.keys.keys c.args.self.now.nodes.items c.number_of.new.nodes.items
    c.note_items.new.nodes.items e (λ k. false) (λ k. reads_key k c.items.result.now) first
    c.in_ok-note_items.ensures.adds in
    let h = added_both c.args.self.now.keys.keys c.note_items.new.keys.keys
    c.note_items-2.new.keys.keys c.args.self.now.nodes.items c.note_items.new.nodes.items
    c.note_items-2.new.nodes.items e (λ k. false || reads_key k c.items.result.now) second
    (items_added c.note_items-2.result c.note_items.new.keys.keys c.note_items-2.new.keys.keys
    c.note_items.new.nodes.items c.note_items-2.new.nodes.items e
    (λ k. reads_key k c.items-2.result.now) c.note_items-2.ensures.adds
    c.note_items-2.ensures.some) in
    record {
      same = h.1.same;
      low =
          h.1.low (m + 1) (next_less m) (low_more m c.args.self.now.nodes.items
          c.args.self.now.low);
      readers = readers_more _ _ _ _ e h c.args.self.now.readers;
    }

pub returns-in_err-note_items-2-clause-before : goal.returns-in_err-note_items-2-clause-before
returns-in_err-note_items-2-clause-before c =
    let m = c.args.self.now.next in
    let e : Edge = record { reader = c.in_ok-at.at; mark = m } in
    let g = c.in_ok-at.ensures.grown in
    let first = grown_adds c.in_ok-key.key c.in_ok-at.at c.args.self.now.keys.keys
    c.number_of.new.keys.keys c.args.self.now.nodes.items c.number_of.new.nodes.items e
    c.args.self.now.same g.longer g in
    let second = adds_both c.args.self.now.keys.keys c.number_of.new.keys.keys
    c.note_items.new.keys.keys c.args.self.now.nodes.items c.number_of.new.nodes.items
    c.note_items.new.nodes.items e (λ k. false) (λ k. reads_key k c.items.result.now) first
    c.in_ok-note_items.ensures.adds in
    let h = added_both c.args.self.now.keys.keys c.note_items.new.keys.keys
    c.note_items-2.new.keys.keys c.args.self.now.nodes.items c.note_items.new.nodes.items
    c.note_items-2.new.nodes.items e (λ k. false || reads_key k c.items.result.now) second
    c.in_err-note_items-2.ensures.some in
    on_err c.from_residual-in_err-note_items-2.result
    (still_asks c.args.self.now.keys.keys c.note_items-2.new.keys.keys
    c.args.self.now.nodes.items c.note_items-2.new.nodes.items e h.0 c.args.self.now.low h.1)

pub invariant_of-self-2 : goal.invariant_of-self-2
invariant_of-self-2 c =
    let m = c.args.self.now.next in
    let e : Edge = record { reader = c.in_ok-at.at; mark = m } in
    let g = c.in_ok-at.ensures.grown in
    let first = grown_adds c.in_ok-key.key c.in_ok-at.at c.args.self.now.keys.keys
    c.number_of.new.keys.keys c.args.self.now.nodes.items c.number_of.new.nodes.items e
    c.args.self.now.same g.longer g in
    let second = adds_both c.args.self.now.keys.keys c.number_of.new.keys.keys
    c.note_items.new.keys.keys c.args.self.now.nodes.items c.number_of.new.nodes.items
    c.note_items.new.nodes.items e (λ k. false) (λ k. reads_key k c.items.result.now) first
    c.in_ok-note_items.ensures.adds in
    let third = adds_both c.args.self.now.keys.keys c.note_items.new.keys.keys
    c.note_items-2.new.keys.keys c.args.self.now.nodes.items c.note_items.new.nodes.items
    c.note_items-2.new.nodes.items e (λ k. false || reads_key k c.items.result.now)
    (λ k. reads_key k c.items-2.result.now) second c.in_ok-note_items-2.ensures.adds in
    let place = c.in_ok-note_items-2.ensures.adds.places c.in_ok-key.key c.in_ok-at.at
    (c.in_ok-note_items.ensures.adds.places c.in_ok-key.key c.in_ok-at.at g.place) in
    let mine = ap (λ k. number_in k c.note_items-2.new.keys.keys) (sym c.in_ok-key.ensures)
    ∙ place in
    record {
      same = third.same ∙ sym c.set_mark.ensures.same;
      low = c.set_mark.ensures.low (m + 1) (next_less m)
          (third.low (m + 1) (next_less m) (low_more m c.args.self.now.nodes.items
          c.args.self.now.low));
      readers = readers_marked c.note_items-2.new.keys.keys c.note_items-2.new.nodes.items
          c.set_mark.new.nodes.items c.args.reader.now c.in_ok-at.at m mine c.set_mark.ensures
          (readers_added c.args.self.now.keys.keys c.note_items-2.new.keys.keys
          c.args.self.now.nodes.items c.note_items-2.new.nodes.items e
          (λ k. (false || reads_key k c.items.result.now) || reads_key k c.items-2.result.now) third
          c.args.self.now.readers);
    }

pub returns-clause-reads : goal.returns-clause-reads
returns-clause-reads c =
    let m = c.args.self.now.next in
    let e : Edge = record { reader = c.in_ok-at.at; mark = m } in
    let g = c.in_ok-at.ensures.grown in
    let first = grown_adds c.in_ok-key.key c.in_ok-at.at c.args.self.now.keys.keys
    c.number_of.new.keys.keys c.args.self.now.nodes.items c.number_of.new.nodes.items e
    c.args.self.now.same g.longer g in
    let b = subst (λ xs. Adds c.number_of.new.keys.keys c.number_of.new.nodes.items
    c.note_items.new.keys.keys c.note_items.new.nodes.items e (λ k. reads_key k xs))
    c.items.ensures.items c.in_ok-note_items.ensures.adds in
    let d = subst (λ xs. Adds c.note_items.new.keys.keys c.note_items.new.nodes.items
    c.note_items-2.new.keys.keys c.note_items-2.new.nodes.items e (λ k. reads_key k xs))
    c.items-2.ensures.items c.in_ok-note_items-2.ensures.adds in
    let second = adds_both c.args.self.now.keys.keys c.number_of.new.keys.keys
    c.note_items.new.keys.keys c.args.self.now.nodes.items c.number_of.new.nodes.items
    c.note_items.new.nodes.items e (λ k. false) (λ k. reads_key k c.args.build.now) first b in
    let third = adds_both c.args.self.now.keys.keys c.note_items.new.keys.keys
    c.note_items-2.new.keys.keys c.args.self.now.nodes.items c.note_items.new.nodes.items
    c.note_items-2.new.nodes.items e (λ k. false || reads_key k c.args.build.now)
    (λ k. reads_key k c.args.check.now) second d in
    let place = d.places c.in_ok-key.key c.in_ok-at.at
    (b.places c.in_ok-key.key c.in_ok-at.at g.place) in
    let mine = ap (λ k. number_in k c.note_items-2.new.keys.keys) (sym c.in_ok-key.ensures)
    ∙ place in
    now_asks c.args.self.now.keys.keys c.note_items-2.new.keys.keys c.args.self.now.nodes.items
    c.note_items-2.new.nodes.items c.set_mark.new.nodes.items e
    (λ k. (false || reads_key k c.args.build.now) || reads_key k c.args.check.now)
    (reader_key c.args.reader.now) c.args.self.now.low third mine c.set_mark.ensures
